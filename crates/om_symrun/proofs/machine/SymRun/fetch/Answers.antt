use Rattle.std.proofs.Common.{◌<◌, ◌+◌, ◌^◌, subst}
use Rattle.om_symrun.specs.View.{View}
use Rattle.om_symrun.proofs.States.{small_if}
use Rattle.om_symrun.proofs.machine.SymRun.fetch.Goals as goal

pub returns-clause-range : goal.returns-clause-range
returns-clause-range c = λ there.
    subst (λ (v : View). v.place.off + 4 < 2 ^ 32) c.self.view_is
    (small_if c.self.inside.program.now c.self.inside.place c.self.invariant.program c.item.result c.item.ensures there)
