use Rattle.std.specs.Prelude.{◌≡◌, length, map, take}
use Rattle.om_layout.proofs.laying.counts_of.Given as goal

abbrev pub invariant-loop-obj : goal.invariant-loop-obj
invariant-loop-obj l = l.counts.items ≡ map (λ text. length text) (take l.obj l.program.texts)
