use Rattle.std.proofs.Common.{◌≡◌, true, sym, subst}
use Rattle.om_graph.specs.View.{GraphView, is_live_op}
use Rattle.om_calls.proofs.PairGone.{low_live, high_live, gone_is}
use Rattle.om_calls.proofs.dropping.drop_pair.Goals as goal

pub delete-requires : goal.delete-requires
delete-requires c = low_live c.args.g.now c.is_graph.ensures c.args.f.now c.args.high c.args.low c.requires.pair

pub delete-requires-2 : goal.delete-requires-2
delete-requires-2 c =
    subst (λ (x : GraphView). is_live_op x c.args.high ≡ true) (sym c.delete.ensures) (high_live c.args.g.now c.is_graph.ensures c.args.f.now c.args.high c.args.low c.requires.pair)

pub returns-clause-step : goal.returns-clause-step
returns-clause-step c =
    (gone_is c.args.g.now c.is_graph.ensures c.args.f.now c.args.high c.args.low c.requires.pair c.requires.checked c.requires.program c.is_numbered.ensures _ _ c.delete.ensures c.delete-2.ensures
    c.is_graph-2.ensures c.is_numbered-2.ensures).0

pub returns-clause-facts : goal.returns-clause-facts
returns-clause-facts c =
    (gone_is c.args.g.now c.is_graph.ensures c.args.f.now c.args.high c.args.low c.requires.pair c.requires.checked c.requires.program c.is_numbered.ensures _ _ c.delete.ensures c.delete-2.ensures
    c.is_graph-2.ensures c.is_numbered-2.ensures).1
