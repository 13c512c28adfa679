use Rattle.std.proofs.Common.{[], ◌∷◌, get_or, take, length, ap, arith}
use Rattle.std.proofs.lemmas.List.{take_more}
use Rattle.om_value.specs.declared.value.Place.{Place}
use Rattle.om_blocks.proofs.Holding.{nothing_united, both_united}
use Rattle.om_blocks.proofs.unions.at_roots.Goals as goal

abbrev none : Place
none = record { obj = 0; off = 0 }

pub loop-root-init : goal.loop-root-init
loop-root-init g c = nothing_united c.args.g.now (g.M.BlockMask.lacks c.args.masks.now)

pub loop-root-preserved : goal.loop-root-preserved
loop-root-preserved g c =
    rw (take_more c.args.g.now.roots c.loop-root.root-index none (omega (arith, ap length c.roots-root-items.ensures)))
    (both_united c.args.g.now (g.M.BlockMask.lacks c.args.masks.now) (take c.loop-root.root-index c.args.g.now.roots) (get_or c.args.g.now.roots c.loop-root.root-index none ∷ [])
    c.loop-root.all c.at_place-all.result c.loop-root.invariant (rw c.roots-root-items.ensures at c.at_place-all.ensures))
