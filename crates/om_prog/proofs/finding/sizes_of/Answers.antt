use Rattle.std.proofs.Common.{◌<◌, take, length, refl, sym, subst, ◌∙◌, arith}
use Rattle.std.specs.Prelude.{List}
use Rattle.std.proofs.lemmas.Bool.Decides.{nat_tests}
use Rattle.std.proofs.lemmas.Option.{slice_get_read}
use Rattle.om_prog.specs.declared.region.RegionInit.{RegionInit}
use Rattle.om_prog.specs.Valid.{AreOnce}
use Rattle.om_prog.specs.Making.{HasSizes}
use Rattle.om_prog.proofs.Found.{take_step, noted_size, once_more, twice}
use Rattle.om_prog.proofs.finding.sizes_of.Goals as goal

pub returns-then-branch : goal.returns-then-branch
returns-then-branch c once =
    let all = c.args.regions.now in
    let below : c.loop-i.i < length all = grind (arith, nat_tests, c.loop-i-test.true) in
    let d = c.index-regions-i.result in
    twice c.loop-i.sizes all c.loop-i.i d c.loop-i.invariant.0 (slice_get_read all (length all) c.loop-i.i d refl below c.index-regions-i.is)
    (sym c.in_ok-add.ensures.had ∙ c.if-branch.true) once

pub loop-i-preserved : goal.loop-i-preserved
loop-i-preserved c =
    let all = c.args.regions.now in
    let below : c.loop-i.i < length all = grind (arith, nat_tests, c.loop-i-test.true) in
    let d = c.index-regions-i.result in
    let x = d in
    let xs = take c.loop-i.i all in
    let h = c.loop-i.invariant.0 in
    let step = take_step c.loop-i.i all x (slice_get_read all (length all) c.loop-i.i d refl below c.index-regions-i.is) in
    let fresh = sym c.in_ok-add.ensures.had ∙ c.if-branch.false in (
      subst (λ (ys : List RegionInit). HasSizes c.add.new.self ys) (sym step) (noted_size c.loop-i.sizes c.add.new.self xs x h fresh c.in_ok-add.ensures.now),
      subst (λ (ys : List RegionInit). AreOnce ys) (sym step) (once_more c.loop-i.sizes xs x h c.loop-i.invariant.1 fresh),
    )
