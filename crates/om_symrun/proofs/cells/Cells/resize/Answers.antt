use Rattle.std.proofs.Common.{◌≡◌, ◌≤◌, true, length, refl, subst, arith, rules}
use Rattle.std.specs.Result.{is_ok}
use Rattle.std.specs.Vec.{vec_len}
use Rattle.om_symrun.specs.RegionCells.{RegionCells}
use Rattle.om_symrun.specs.CellsIn.{Resized}
use Rattle.om_symrun.specs.declared.cells.Mark.TheVariants as mark
use Rattle.om_symrun.proofs.Resizing.{grown}
use Rattle.om_symrun.proofs.cells.Cells.resize.Goals as goal

pub returns-clause-resized : goal.returns-clause-resized
returns-clause-resized c =
    let v : RegionCells = record { bytes = c.self.inside.bytes.items; marks = c.self.inside.marks.items; eights = c.self.inside.eights.entries; fours = c.self.inside.fours.entries } in
    let w : RegionCells = record { bytes = c.resize.new.self.items; marks = c.resize-2.new.self.items; eights = c.self.inside.eights.entries; fours = c.self.inside.fours.entries } in
    let b = c.in_ok-resize.ensures in
    let m = c.resize-2.ensures in
    let ok : is_ok c.resize-2.result ≡ true = c.if-is_err.ensures.negation in
    let lb : length w.bytes ≡ c.args.size = search rules in
    let lm : length w.marks ≡ c.args.size = search rules in
    let ob : vec_len c.self.inside.bytes ≡ length v.bytes = search rules in
    let om : vec_len c.self.inside.marks ≡ length v.marks = search rules in
    let le : length v.bytes ≤ c.args.size = omega (arith, c.len-before.ensures, c.if-size-before.false, ob) in
    let same = c.self.invariant in
    subst (λ (x : RegionCells). Resized x w c.args.size) c.self.view_is
    (grown v w.bytes w.marks c.args.size le lb lm
    (λ k h i. b.by_index.0 k 0 h (omega (arith, i, ob)))
    (λ k h i. b.by_index.1 k 0 refl (omega (arith, h, ob)) i)
    (λ k h i. m.by_index.0 k mark.Byte h (omega (arith, i, om, same)))
    (λ k h i. m.by_index.1 k mark.Byte ok (omega (arith, h, same, om)) i))
