use Rattle.std.proofs.Common.{sym, subst}
use Rattle.om_graph.specs.View.{GraphView}
use Rattle.om_blocks.specs.Found.{masks_in}
use Rattle.om_live.specs.Outs.{AreOuts}
use Rattle.om_addr.proofs.Splits.{far_done}
use Rattle.om_addr.proofs.splitting.split_all.Goals as goal

pub returns-clause-nothing : goal.returns-clause-nothing
returns-clause-nothing c = λ f.
    far_done c.args.lay.now c.args.live.now c.args.outs.now c.split_blocks-changed.new.g c.is_graph.ensures
    (subst (λ (g : GraphView). AreOuts g (masks_in g c.args.live.now) g.blocks c.args.outs.now) (sym (c.split_blocks-changed.ensures.passed.same f)) c.requires.outs) (c.split_blocks-changed.ensures.nothing f)
