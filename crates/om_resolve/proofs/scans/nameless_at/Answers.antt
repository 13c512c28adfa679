use Rattle.std.proofs.Common.{◌≡◌, Bool, true, refl, ap, sym, ◌∙◌}
use Rattle.std.specs.Prelude.{Option, Some, None, slice_get}
use Rattle.std.specs.Prelude.{if◌then◌else◌}
use Rattle.om_symtab.specs.declared.symbol.ExtSym.{ExtSym}
use Rattle.om_resolve.specs.declared.definition.Definition.{Definition}
use Rattle.om_resolve.specs.declared.finding.Finding.TheVariants.{Nameless}
use Rattle.om_resolve.specs.Names.{object_at, is_missing}
use Rattle.om_resolve.specs.Causes.{is_reference, nameless_by}
use Rattle.om_resolve.proofs.Meanings.{number_here, nameless_none, nameless_there, not_missing}
use Rattle.om_resolve.proofs.scans.nameless_at.Goals as goal

pub returns-in-None : goal.returns-in-None
returns-in-None c =
    let l = c.args.l.now in
    let objects = l.objects.now in
    let o : Option ExtSym = slice_get (object_at objects c.args.obj).symbols c.args.r.now.index in
    let reference : is_reference c.args.r.now ≡ true = sym c.is_reference.ensures ∙ c.if-not-is_reference.false in
    let none : nameless_by objects c.args.obj o ≡ None = nameless_none objects c.args.obj o (sym (number_here l c.requires c.args.obj c.args.r.now.index) ∙ sym c.number.ensures ∙ c.in-None.is) in
    sym (ap (λ (b : Bool). if b then nameless_by objects c.args.obj o else None) reference ∙ none)

pub returns-in-Missing : goal.returns-in-Missing
returns-in-Missing c =
    let l = c.args.l.now in
    let objects = l.objects.now in
    let o : Option ExtSym = slice_get (object_at objects c.args.obj).symbols c.args.r.now.index in
    let k = c.in-Some.number in
    let reference : is_reference c.args.r.now ≡ true = sym c.is_reference.ensures ∙ c.if-not-is_reference.false in
    let there = nameless_there l c.requires c.args.obj c.args.r.now.index k o refl (sym (number_here l c.requires c.args.obj c.args.r.now.index) ∙ sym c.number.ensures ∙ c.in-Some.is) in
    sym (ap (λ (b : Bool). if b then nameless_by objects c.args.obj o else None) reference ∙ there
    ∙ ap (λ (d : Definition). if is_missing d then Some (Nameless k c.args.obj) else None) (sym c.definition.ensures ∙ c.in-Missing.is))

pub returns-in_default : goal.returns-in_default
returns-in_default c =
    let l = c.args.l.now in
    let objects = l.objects.now in
    let o : Option ExtSym = slice_get (object_at objects c.args.obj).symbols c.args.r.now.index in
    let k = c.in-Some.number in
    let reference : is_reference c.args.r.now ≡ true = sym c.is_reference.ensures ∙ c.if-not-is_reference.false in
    let there = nameless_there l c.requires c.args.obj c.args.r.now.index k o refl (sym (number_here l c.requires c.args.obj c.args.r.now.index) ∙ sym c.number.ensures ∙ c.in-Some.is) in
    sym (ap (λ (b : Bool). if b then nameless_by objects c.args.obj o else None) reference ∙ there
    ∙ ap (λ (d : Definition). if is_missing d then Some (Nameless k c.args.obj) else None) (sym c.definition.ensures)
    ∙ ap (λ (b : Bool). if b then Some (Nameless k c.args.obj) else None) (not_missing c.definition.result c.in_default.not-Missing))
