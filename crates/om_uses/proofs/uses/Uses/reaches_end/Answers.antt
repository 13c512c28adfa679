use Rattle.std.proofs.Common.{sym, ap, ◌∙◌}
use Rattle.om_uses.specs.declared.tables.BlockUses.{BlockUses}
use Rattle.om_uses.specs.declared.tables.OpUses.{OpUses}
use Rattle.om_uses.specs.Parts.{block_at}
use Rattle.om_uses.proofs.Standing.{some_same, register_is, end_is, written_is}
use Rattle.om_uses.proofs.uses.Uses.reaches_end.Goals as goal

pub returns-then-is_kept_behind : goal.returns-then-is_kept_behind
returns-then-is_kept_behind c = λ g r b behind graph is h.
    let found = register_is g c.args.self.now c.args.def r b behind graph is h c.op-op.result.writes c.lowest.result (ap (λ (o : OpUses). o.writes) c.op-op.ensures) c.lowest.ensures.one in
    let same = some_same c.lowest.result c.in-Some.r r c.in-Some.is found in
    end_is g c.args.self.now c.args.def r b behind graph is h c.in-Some.r c.block.result.writes c.is_kept_behind.result c.has.result same c.is_kept_behind.ensures c.if-is_kept_behind.true
    (ap (λ (x : BlockUses). x.writes) c.block.ensures ∙ ap (λ (o : OpUses). (block_at c.args.self.now o.block).writes) c.op-op.ensures) c.has.ensures

pub returns-else-is_kept_behind : goal.returns-else-is_kept_behind
returns-else-is_kept_behind c = λ g r b behind graph is h.
    let found = register_is g c.args.self.now c.args.def r b behind graph is h c.op-op.result.writes c.lowest.result (ap (λ (o : OpUses). o.writes) c.op-op.ensures) c.lowest.ensures.one in
    let same = some_same c.lowest.result c.in-Some.r r c.in-Some.is found in
    c.if-is_kept_behind.false
    ∙ written_is g c.args.self.now c.args.def r b behind graph is h c.in-Some.r c.is_kept_behind.result same c.is_kept_behind.ensures c.if-is_kept_behind.false

pub returns-in-None : goal.returns-in-None
returns-in-None c = λ g r b behind graph is h.
    let found = register_is g c.args.self.now c.args.def r b behind graph is h c.op-op.result.writes c.lowest.result (ap (λ (o : OpUses). o.writes) c.op-op.ensures) c.lowest.ensures.one in
    let none = c.in-None.is in
    absurd (cc)
