use Rattle.std.proofs.Common.{◌≡◌, drop}
use Rattle.om_encode.specs.DataBytes.{with_pieces, region_pieces}
use Rattle.om_encode.proofs.filling.push_regions.Given as goal

abbrev pub invariant-loop-placed : goal.invariant-loop-placed
invariant-loop-placed l =
    with_pieces (region_pieces l.layout l.program (drop l.placed-index l.layout.regions)) l.out.items
    ≡ with_pieces (region_pieces l.layout l.program l.layout.regions) l.fn.out.items
