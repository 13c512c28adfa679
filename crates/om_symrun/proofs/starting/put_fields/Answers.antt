use Rattle.std.proofs.Common.{◌≡◌, ◌<◌, ◌+◌, ◌-◌, length, drop, List, ◌∷◌, ap, sym, subst, ◌∙◌, arith}
use Rattle.std.specs.Prelude.{slice_index_or}
use Rattle.std.proofs.lemmas.Option.{slice_get-get_or}
use Rattle.om_value.specs.declared.value.Value.TheVariants.{Num}
use Rattle.om_prog.specs.declared.item.Field.{Field}
use Rattle.om_symrun.specs.Starting.{IsPlacedIn, WritesFields}
use Rattle.om_symrun.proofs.First.{fields_more, drop_read}
use Rattle.om_symrun.proofs.starting.put_fields.Goals as goal

none : Field
none = record { off = 0; width = 0; value = Num 0 }

pub put_field-requires : goal.put_field-requires
unfolding none
put_field-requires c =
    let fs = c.args.fields.now in
    let k = c.loop-i.i - 1 in
    let below : k < length fs = omega (arith, c.loop-i-test.true, c.loop-i.auto.i) in
    subst (λ n. IsPlacedIn n (slice_index_or fs k none)) (sym c.loop-i.invariant.size) (c.requires.each k (slice_index_or fs k none) (slice_get-get_or fs k none below))

pub loop-i-preserved : goal.loop-i-preserved
unfolding none
loop-i-preserved c =
    let fs = c.args.fields.now in
    let k = c.loop-i.i - 1 in
    let below : k < length fs = omega (arith, c.loop-i-test.true, c.loop-i.auto.i) in
    let next : k + 1 ≡ c.loop-i.i = omega (arith, c.loop-i-test.true) in
    let x = slice_index_or fs k none in
    let all : drop k fs ≡ x ∷ drop c.loop-i.i fs = drop_read fs k x (slice_get-get_or fs k none below) ∙ ap (λ n. x ∷ drop n fs) next in
    subst (λ (ys : List Field). WritesFields c.args.cells.now c.put_field.new.cells ys) (sym all)
    (fields_more c.args.cells.now c.loop-i.cells c.put_field.new.cells x (drop c.loop-i.i fs) c.loop-i.invariant c.in_ok-put_field.ensures)
