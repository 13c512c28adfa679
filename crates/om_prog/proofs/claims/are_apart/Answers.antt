use Rattle.std.proofs.Common.{◌≡◌, List, take, Bool, true, false, refl, sym, subst, ◌∙◌}
use Rattle.std.specs.Prelude.{slice_index_or, not}
use Rattle.std.proofs.lemmas.Option.{slice_get-get_or}
use Rattle.om_value.specs.declared.value.Value.TheVariants.{Num}
use Rattle.om_prog.specs.declared.item.Field.{Field}
use Rattle.om_prog.specs.Valid.{AreApart}
use Rattle.om_prog.specs.Claims.{HasClaims, is_taken}
use Rattle.om_prog.proofs.Found.{take_step, take_get}
use Rattle.om_prog.proofs.Every.{no_way}
use Rattle.om_prog.proofs.Apart.{claims_more, apart_more, free_apart, taken_shares}
use Rattle.om_prog.proofs.claims.are_apart.Goals as goal

none : Field
none = record { off = 0; width = 0; value = Num 0 }

not_true : (b : Bool) → not b ≡ true → b ≡ false
not_true false e = refl
not_true true e = cc

not_false : (b : Bool) → not b ≡ false → b ≡ true
not_false true e = refl
not_false false e = cc

pub claim_field-requires : goal.claim_field-requires
unfolding none
claim_field-requires c =
    let x = slice_index_or c.args.fields.now c.loop-i.i none in
    c.requires c.loop-i.i x (slice_get-get_or c.args.fields.now c.loop-i.i none c.loop-i-test.true)

pub returns-then-not-branch : goal.returns-then-not-branch
unfolding none
returns-then-not-branch c =
    let fs = c.args.fields.now in
    let x = slice_index_or fs c.loop-i.i none in
    let found = slice_get-get_or fs c.loop-i.i none c.loop-i-test.true in
    let taken = not_false (is_taken c.loop-i.claims x) (sym c.in_ok-claim_field.ensures.free ∙ c.if-not-branch.true) in
    no_way (λ all. taken_shares c.loop-i.claims fs c.loop-i.i x c.loop-i.invariant.0 (c.requires c.loop-i.i x found) found all taken)

pub loop-i-preserved : goal.loop-i-preserved
unfolding none
loop-i-preserved c =
    let fs = c.args.fields.now in
    let x = slice_index_or fs c.loop-i.i none in
    let found = slice_get-get_or fs c.loop-i.i none c.loop-i-test.true in
    let free = not_true (is_taken c.loop-i.claims x) (sym c.in_ok-claim_field.ensures.free ∙ c.if-not-branch.false) in
    let step = take_step c.loop-i.i fs x found in
    let done = take c.loop-i.i fs in
    let placed = c.requires c.loop-i.i x found in (
      subst (λ (ys : List Field). HasClaims c.claim_field.new.claims ys) (sym step)
          (claims_more c.loop-i.claims c.claim_field.new.claims done x c.loop-i.invariant.0 placed c.in_ok-claim_field.ensures.now),
      subst (λ (ys : List Field). AreApart ys) (sym step)
          (apart_more done x c.loop-i.invariant.1
          (free_apart c.loop-i.claims done x c.loop-i.invariant.0 placed (λ j g e. c.requires j g (take_get c.loop-i.i fs j g e).1) free)),
    )
