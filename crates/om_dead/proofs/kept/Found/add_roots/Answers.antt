use Rattle.std.proofs.Common.{[], ◌∷◌, ◌++◌, get_or, take, length, refl, ap, arith}
use Rattle.std.proofs.lemmas.List.{take_more}
use Rattle.om_value.specs.declared.value.Place.{Place}
use Rattle.om_dead.proofs.Reading.{one_at, more_at}
use Rattle.om_dead.proofs.kept.Found.add_roots.Goals as goal

abbrev none : Place
none = record { obj = 0; off = 0 }

pub loop-root-preserved : goal.loop-root-preserved
loop-root-preserved c =
    let q = get_or c.args.g.now.roots c.loop-root.root-index none in
    rw (take_more c.args.g.now.roots c.loop-root.root-index none (omega (arith, ap length c.roots-root-items.ensures)))
    (more_at c.args.g.now (take c.loop-root.root-index c.args.g.now.roots) (q ∷ []) (take c.loop-root.root-index c.args.g.now.roots ++ q ∷ []) c.args.self.now.set.items c.args.self.now.work.items
    c.loop-root.self.set.items c.loop-root.self.work.items c.add_at.new.self.set.items c.add_at.new.self.work.items refl c.loop-root.invariant
    (one_at c.args.g.now q c.loop-root.self.set.items c.loop-root.self.work.items c.add_at.new.self.set.items c.add_at.new.self.work.items (rw c.roots-root-items.ensures at c.in_ok-add_at.ensures)))
