use Rattle.std.proofs.Common.{◌∙◌, refl}
use Rattle.om_symrun.specs.RegionCells.{RegionCells}
use Rattle.om_symrun.proofs.Fragments.{is_eight, is_four, no_eight, no_four}
use Rattle.om_symrun.proofs.cells.Cells.whole.Goals as goal

pub returns-then-all_are : goal.returns-then-all_are
returns-then-all_are c =
    let v : RegionCells = record { bytes = c.self.inside.bytes.items; marks = c.self.inside.marks.items; eights = c.self.inside.eights.entries; fours = c.self.inside.fours.entries } in
    is_eight v c.args.self.now c.self.view_is c.args.size c.args.at c.deref.result.now c.deref.ensures.value c.copied.result c.in-Quad.is c.requires.aligned (c.if-all_are.ensures.all refl) (c.copied.ensures ∙ c.get.ensures.value)

pub returns-else-all_are : goal.returns-else-all_are
returns-else-all_are c =
    let v : RegionCells = record { bytes = c.self.inside.bytes.items; marks = c.self.inside.marks.items; eights = c.self.inside.eights.entries; fours = c.self.inside.fours.entries } in
    no_eight v c.args.self.now c.self.view_is c.args.size c.args.at c.deref.result.now c.deref.ensures.value c.in-Quad.is (c.if-all_are.ensures.one refl)

pub returns-then-all_are-2 : goal.returns-then-all_are-2
returns-then-all_are-2 c =
    let v : RegionCells = record { bytes = c.self.inside.bytes.items; marks = c.self.inside.marks.items; eights = c.self.inside.eights.entries; fours = c.self.inside.fours.entries } in
    is_four v c.args.self.now c.self.view_is c.args.size c.args.at c.deref-in-Long.result.now c.deref-in-Long.ensures.value c.copied-then-all_are-2.result c.in-Long.is c.requires.aligned (c.if-all_are-2.ensures.all refl) (c.copied-then-all_are-2.ensures ∙ c.get-then-all_are-2.ensures.value)

pub returns-else-all_are-2 : goal.returns-else-all_are-2
returns-else-all_are-2 c =
    let v : RegionCells = record { bytes = c.self.inside.bytes.items; marks = c.self.inside.marks.items; eights = c.self.inside.eights.entries; fours = c.self.inside.fours.entries } in
    no_four v c.args.self.now c.self.view_is c.args.size c.args.at c.deref-in-Long.result.now c.deref-in-Long.ensures.value c.in-Long.is (c.if-all_are-2.ensures.one refl)
