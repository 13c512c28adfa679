use Rattle.std.proofs.Common.{List, sym, subst}
use Rattle.std.specs.BTreeMap.{get}
use Rattle.om_prog.specs.Keys.{region_cmp}
use Rattle.om_prog.specs.declared.region.RegionInit.{RegionInit}
use Rattle.om_symrun.specs.RegionCells.{Regions}
use Rattle.om_symrun.specs.Starting.{AreLaid, IsFirst, IsMadeOf, init_in}
use Rattle.om_symrun.proofs.First.{laid, first}
use Rattle.om_symrun.proofs.starting.first_memory.Goals as goal

pub given_cells-requires : goal.given_cells-requires
given_cells-requires c =
    subst (λ (rs : List RegionInit). AreLaid rs) (sym c.regions.ensures.value) (laid c.args.p.now c.regions.ensures.program)

pub returns : goal.returns
returns c =
    let m : Regions = record { stack = c.in_ok-stack.stack; heap = c.in_ok-heap.heap; given = c.in_ok-given.given.entries } in
    subst (λ (x : Regions). IsFirst c.args.p.now x) (sym c.new.ensures)
    (first c.args.p.now m c.regions.ensures.program c.in_ok-stack.ensures c.in_ok-heap.ensures
    (λ r. subst (λ (rs : List RegionInit). IsMadeOf (get region_cmp c.in_ok-given.given r) (init_in rs r)) c.regions.ensures.value (c.in_ok-given.ensures r)))
