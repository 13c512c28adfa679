use Rattle.std.proofs.Common.{◌+◌, sym, subst, arith}
use Rattle.om_graph.specs.View.{GraphView, IsAfter}
use Rattle.om_rows_programs.proofs.BlockLabels.{block_label, after_more}
use Rattle.om_rows_programs.proofs.graphs.blocks.Goals as goal

pub loop-n-preserved : goal.loop-n-preserved
loop-n-preserved c =
    let n = c.loop-n.n in
    let as_many = c.loop-n.invariant.as_many in
    let len = c.in_ok-push.ensures.len in
    record {
      after = subst (λ (g : GraphView). IsAfter g.labels (block_label (n + 1))) (sym c.in_ok-add_block.ensures.added) (after_more c.loop-n.graph.labels n c.loop-n.invariant.after);
      as_many = omega (arith, as_many, len);
    }
