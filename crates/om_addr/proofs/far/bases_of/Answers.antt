use Rattle.std.proofs.Common.{◌≡◌, ◌<◌, ℕ, Bool, Option, Some, None, sym, ◌∙◌, subst}
use Rattle.om_addr.specs.Loads.{load_kind}
use Rattle.om_addr.specs.FarEdit.{unless, AreBasesOf}
use Rattle.om_addr.proofs.FarWalk.{OnBases, bases_begin, bases_none, bases_written, bases_more, bases_fewer, bases_end}
use Rattle.om_addr.proofs.Walking.{ops_left}
use Rattle.om_addr.proofs.far.bases_of.Goals as goal

pub loop-next-init : goal.loop-next-init
loop-next-init c =
    bases_begin c.args.g.now c.args.load.now.id c.args.load.now.ra (record { place = c.requires.load.place; kind = load_kind c.args.load.now }) c.next_op-next.result c.requires.graph c.requires.load.is
    c.next_op-next.ensures.next c.next_op-next.ensures.live

pub returns-in_default-with_op : goal.returns-in_default-with_op
returns-in_default-with_op c =
    bases_none c.args.g.now c.requires.graph c.args.load.now.id c.args.load.now.ra c.requires.register c.in-Some.o c.op-kind.result c.loop-next.all
    (subst (λ (n : Option ℕ). OnBases c.args.g.now c.args.load.now.id c.args.load.now.ra n c.loop-next.all) c.in-Some.is c.loop-next.invariant) c.op-kind.ensures
    (sym c.in_default-with_op.is ∙ c.with_op.ensures.value)

pub returns-then-writes : goal.returns-then-writes
returns-then-writes c =
    bases_written c.args.g.now c.requires.graph c.args.load.now.id c.args.load.now.ra c.requires.register c.in-Some.o c.op-kind.result c.loop-next.all c.in-Some-with_op.more
    (subst (λ (n : Option ℕ). OnBases c.args.g.now c.args.load.now.id c.args.load.now.ra n c.loop-next.all) c.in-Some.is c.loop-next.invariant) c.op-kind.ensures
    (sym c.in-Some-with_op.is ∙ c.with_op.ensures.value) c.in-Some-with_op.ensures.short (sym c.writes.ensures ∙ c.if-writes.true)

pub loop-next-smaller : goal.loop-next-smaller
loop-next-smaller c =
    subst (λ (n : Option ℕ). ops_left c.args.g.now c.next_op-next-in-Some.result < ops_left c.args.g.now n) (sym c.in-Some.is)
    (bases_fewer c.args.g.now c.requires.graph c.args.load.now.id c.args.load.now.ra c.requires.register c.in-Some.o c.op-kind.result c.loop-next.all c.next_op-next-in-Some.result
    (subst (λ (n : Option ℕ). OnBases c.args.g.now c.args.load.now.id c.args.load.now.ra n c.loop-next.all) c.in-Some.is c.loop-next.invariant) c.op-kind.ensures c.next_op-next-in-Some.ensures.next)

pub loop-next-preserved : goal.loop-next-preserved
loop-next-preserved c =
    bases_more c.args.g.now c.requires.graph c.args.load.now.id c.args.load.now.ra c.requires.register c.in-Some.o c.op-kind.result c.loop-next.all c.in-Some-with_op.more c.next_op-next-in-Some.result
    (subst (λ (n : Option ℕ). OnBases c.args.g.now c.args.load.now.id c.args.load.now.ra n c.loop-next.all) c.in-Some.is c.loop-next.invariant) c.op-kind.ensures
    (sym c.in-Some-with_op.is ∙ c.with_op.ensures.value) c.in-Some-with_op.ensures.short (sym c.writes.ensures ∙ c.if-writes.false) c.next_op-next-in-Some.ensures.next c.next_op-next-in-Some.ensures.live

pub returns-then-end_reads : goal.returns-then-end_reads
returns-then-end_reads c =
    subst (λ (s : Bool). AreBasesOf c.args.g.now c.args.load.now.id c.args.load.now.ra (unless s c.loop-next.all)) (sym c.end_reads.ensures ∙ c.if-end_reads.true)
    (bases_end c.args.g.now c.requires.graph c.args.load.now.id c.args.load.now.ra c.requires.register c.args.b c.loop-next.all c.last.result
    (subst (λ (n : Option ℕ). OnBases c.args.g.now c.args.load.now.id c.args.load.now.ra n c.loop-next.all) c.in_default.is c.loop-next.invariant) c.requires.block c.last.ensures)

pub returns-else-end_reads : goal.returns-else-end_reads
returns-else-end_reads c =
    subst (λ (s : Bool). AreBasesOf c.args.g.now c.args.load.now.id c.args.load.now.ra (unless s c.loop-next.all)) (sym c.end_reads.ensures ∙ c.if-end_reads.false)
    (bases_end c.args.g.now c.requires.graph c.args.load.now.id c.args.load.now.ra c.requires.register c.args.b c.loop-next.all c.last.result
    (subst (λ (n : Option ℕ). OnBases c.args.g.now c.args.load.now.id c.args.load.now.ra n c.loop-next.all) c.in_default.is c.loop-next.invariant) c.requires.block c.last.ensures)
