use Rattle.std.proofs.Common.{◌≡◌, ap, sym, ◌∙◌}
use Rattle.std.specs.Prelude.{Some}
use Rattle.om_value.specs.declared.value.Region.TheVariants.{Sec}
use Rattle.om_value.specs.declared.value.Target.TheVariants.{Ptr}
use Rattle.om_object.specs.Words.{section_of}
use Rattle.om_resolve.specs.Names.{object_at}
use Rattle.om_resolve.proofs.Places.{numbered, other_number}
use Rattle.om_resolve.proofs.aims.place_in.Goals as goal

pub returns-in-Some : goal.returns-in-Some
returns-in-Some c =
    let p = object_at c.args.objects.now c.args.obj in
    let there : section_of p c.args.number ≡ Some c.in-Some.s.now = sym c.in-Some.ensures in
    ap (λ n. Some (Ptr (Sec c.args.obj n) c.args.off)) (numbered p c.args.number c.in-Some.s.now there)
    ∙ sym (other_number c.args.objects.now c.args.obj c.args.number c.args.off c.in-Some.s.now c.if-number-eq1.false there)
