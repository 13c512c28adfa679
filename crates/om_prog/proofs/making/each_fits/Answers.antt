use Rattle.std.proofs.Common.{◌≤◌, length, arith}
use Rattle.std.specs.Prelude.{slice_index_or}
use Rattle.std.proofs.lemmas.Bool.Decides.{nat_tests}
use Rattle.std.proofs.lemmas.Option.{slice_get-get_or}
use Rattle.om_value.specs.declared.value.Value.TheVariants.{Num}
use Rattle.om_prog.specs.declared.item.Field.{Field}
use Rattle.om_prog.specs.Valid.{IsField}
use Rattle.om_prog.specs.Claims.{IsPlaced}
use Rattle.om_prog.proofs.Every.{step_each, all_each, yes, no_way, denied}
use Rattle.om_prog.proofs.making.each_fits.Goals as goal

none : Field
none = record { off = 0; width = 0; value = Num 0 }

pub returns-then-not-is_field-clause-value : goal.returns-then-not-is_field-clause-value
unfolding none
returns-then-not-is_field-clause-value c v known =
    let fs = c.args.fields.now in
    let x = slice_index_or fs c.loop-i.i none in
    let found = slice_get-get_or fs c.loop-i.i none c.loop-i-test.true in
    no_way (λ all. denied c.is_field.result c.if-not-is_field.true (c.is_field.ensures.value v known) (all c.loop-i.i x found))

pub loop-i-preserved : goal.loop-i-preserved
unfolding none
loop-i-preserved c =
    let fs = c.args.fields.now in
    let x = slice_index_or fs c.loop-i.i none in
    let found = slice_get-get_or fs c.loop-i.i none c.loop-i-test.true in (
      (λ v known. step_each (λ k f. IsField v c.args.size f) fs c.loop-i.i x found (c.loop-i.invariant.0 v known) ((c.is_field.ensures.value v known).0 c.if-not-is_field.false)),
      step_each (λ k f. IsPlaced f) fs c.loop-i.i x found c.loop-i.invariant.1 (c.is_field.ensures.placed c.if-not-is_field.false),
    )

pub returns-clause-value : goal.returns-clause-value
returns-clause-value c v known =
    let fs = c.args.fields.now in
    let long : length fs ≤ c.loop-i.i = grind (arith, nat_tests, c.loop-i-test.false) in
    yes (all_each (λ k f. IsField v c.args.size f) fs c.loop-i.i long (c.loop-i.invariant.0 v known))

pub returns-clause-placed : goal.returns-clause-placed
returns-clause-placed c t =
    let fs = c.args.fields.now in
    let long : length fs ≤ c.loop-i.i = grind (arith, nat_tests, c.loop-i-test.false) in
    all_each (λ k f. IsPlaced f) fs c.loop-i.i long c.loop-i.invariant.1
