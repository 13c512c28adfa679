use Rattle.std.proofs.Common.{sym}
use Rattle.std.proofs.lemmas.Bool.{true≢false}
use Rattle.om_blocks.proofs.Holding.{failed_lacks}
use Rattle.om_blocks.proofs.block_tests.FailingBlockMask.mask.Goals as goal

pub returns-else-passes : goal.returns-else-passes
returns-else-passes g c =
    failed_lacks (g.T.BlockTest.holds c.args.self.now.test.now c.args.b) (λ p. true≢false (sym (c.if-passes.ensures.1 p)))
