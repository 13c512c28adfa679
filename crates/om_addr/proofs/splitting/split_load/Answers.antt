use Rattle.std.proofs.Common.{◌∙◌, sym}
use Rattle.om_addr.proofs.InARow as row
use Rattle.om_addr.proofs.FarSplit.{small_register}
use Rattle.om_addr.proofs.Splits.{dead_at, unsplit}
use Rattle.om_addr.proofs.splitting.split_load.Goals as goal

pub returns-then-not-load-clause-passed : goal.returns-then-not-load-clause-passed
returns-then-not-load-clause-passed c = row.none c.args.lay.now c.args._live.now c.args.g.now

pub returns-in-Some-clause-passed : goal.returns-in-Some-clause-passed
returns-in-Some-clause-passed c =
    c.split_address.ensures.passed c.args.lay.now c.args._live.now c.in-Some.ensures.said
    (λ e. dead_at c.args.g.now c.requires.program.may_go_on.graph.graph c.args._live.now c.args.b c.args.out c.args.load.now c.requires.block c.requires.out
    (small_register c.num.result c.args.load.now.ra c.num.ensures.value c.num.ensures.range c.if-num-eq31.false) (sym c.has_bit.ensures ∙ e))

pub returns-in-Some-clause-nothing : goal.returns-in-Some-clause-nothing
returns-in-Some-clause-nothing c = λ e slot other.
    unsplit c.args.lay.now c.args.out c.args.g.now c.split_address.new.g c.args.load.now c.has_bit.result
    (small_register c.num.result c.args.load.now.ra c.num.ensures.value c.num.ensures.range c.if-num-eq31.false) ((returns-in-Some-clause-passed c).same e) c.has_bit.ensures
    (c.split_address.ensures.nothing c.args.lay.now c.in-Some.ensures.said e)

pub returns-in-None-clause-passed : goal.returns-in-None-clause-passed
returns-in-None-clause-passed c = row.none c.args.lay.now c.args._live.now c.args.g.now
