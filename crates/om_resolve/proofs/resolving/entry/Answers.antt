use Rattle.std.proofs.Common.{◌≡◌, ap, sym, subst, ◌∙◌}
use Rattle.std.specs.Prelude.{IfOk}
use Rattle.om_resolve.specs.declared.definition.Definition.{Definition}
use Rattle.om_resolve.specs.Program.{entry_by}
use Rattle.om_resolve.proofs.Meanings.{definition_there, definition_of_start, entry_other}
use Rattle.om_resolve.proofs.resolving.entry.Goals as goal

pub returns-in-InSection : goal.returns-in-InSection
returns-in-InSection c =
    let l = c.args.l.now in
    let is = sym c.in-InSection.is ∙ c.definition.ensures ∙ definition_there l c.requires 0 ∙ definition_of_start l.objects.now in
    subst (λ (d : Definition). IfOk c.place.result (λ p. p ≡ entry_by d)) is c.place.ensures

pub returns-in_default : goal.returns-in_default
returns-in_default c =
    let l = c.args.l.now in
    let is = c.definition.ensures ∙ definition_there l c.requires 0 ∙ definition_of_start l.objects.now in
    sym (entry_other c.definition.result c.in_default.not-InSection) ∙ ap entry_by is
