use Rattle.std.proofs.Common.{◌≡◌, true, false, [], refl, ap, sym, ◌∙◌}
use Rattle.std.specs.Prelude.{Some}
use Rattle.om_resolve.specs.declared.causes.ResolveErr.TheVariants.{Unresolved}
use Rattle.om_resolve.specs.Names.{Name, start_name, names_of, defining, definition_of}
use Rattle.om_resolve.specs.Causes.{no_start, is_in_text, first_object}
use Rattle.om_resolve.proofs.Naming.{start_first}
use Rattle.om_resolve.proofs.Meanings.{definition_there, definition_of_start, first_definer}
use Rattle.std.proofs.lemmas.Option.{get_or_from_slice_get}
use Rattle.om_resolve.proofs.resolving.check_start.Goals as goal

pub returns-then-is_in_text : goal.returns-then-is_in_text
unfolding no_start
returns-then-is_in_text c =
    let l = c.args.l.now in
    let is = c.definition.ensures ∙ definition_there l c.requires 0 ∙ definition_of_start l.objects.now in
    let text : is_in_text (definition_of l.objects.now start_name) ≡ true = ap is_in_text (sym is) ∙ sym c.is_in_text.ensures ∙ c.if-is_in_text.true in
    rw text refl

pub returns : goal.returns
unfolding no_start
returns c =
    let l = c.args.l.now in
    let is = c.definition.ensures ∙ definition_there l c.requires 0 ∙ definition_of_start l.objects.now in
    let text : is_in_text (definition_of l.objects.now start_name) ≡ false = ap is_in_text (sym is) ∙ sym c.is_in_text.ensures ∙ c.if-is_in_text.false in
    let name : c.in_ok-name.name ≡ start_name = c.in_ok-name.ensures ∙ get_or_from_slice_get (names_of l.objects.now) 0 start_name [] (start_first l.objects.now) in
    let file : c.definer-file.result ≡ first_object (defining l.objects.now start_name) = c.definer-file.ensures ∙ first_definer l c.requires in
    rw text (ap (λ (n : Name). Some (Unresolved n (first_object (defining l.objects.now start_name)))) (sym name) ∙ ap (λ f. Some (Unresolved c.in_ok-name.name f)) (sym file))
