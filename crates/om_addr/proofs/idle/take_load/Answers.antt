use Rattle.std.proofs.Common.{◌∙◌, refl, sym, ap, arith}
use Rattle.om_graph.specs.declared.op.OpKind.{OpKind}
use Rattle.om_graph.specs.View.{replaced}
use Rattle.om_addr.proofs.IdleLoads.{none, in_text, taken}
use Rattle.om_addr.proofs.idle.take_load.Goals as goal

pub returns-then-not-load-clause-passed : goal.returns-then-not-load-clause-passed
returns-then-not-load-clause-passed c = none c.args.lay.now c.args.g.now

pub returns-then-num-ne31-clause-passed : goal.returns-then-num-ne31-clause-passed
returns-then-num-ne31-clause-passed c = none c.args.lay.now c.args.g.now

pub returns-then-not-is_near-clause-passed : goal.returns-then-not-is_near-clause-passed
returns-then-not-is_near-clause-passed c = none c.args.lay.now c.args.g.now

pub is_texts_last-requires-clause-object : goal.is_texts_last-requires-clause-object
is_texts_last-requires-clause-object c = (in_text c.args.g.now c.requires.program c.args.load.now c.args.place c.requires.load).object

pub is_texts_last-requires-clause-small : goal.is_texts_last-requires-clause-small
is_texts_last-requires-clause-small c = (in_text c.args.g.now c.requires.program c.args.load.now c.args.place c.requires.load).small

pub is_texts_last-requires-clause-aligned : goal.is_texts_last-requires-clause-aligned
is_texts_last-requires-clause-aligned c = (in_text c.args.g.now c.requires.program c.args.load.now c.args.place c.requires.load).aligned

pub is_texts_last-requires-clause-inside : goal.is_texts_last-requires-clause-inside
is_texts_last-requires-clause-inside c = (in_text c.args.g.now c.requires.program c.args.load.now c.args.place c.requires.load).inside

pub returns-then-not-is_texts_last-clause-passed : goal.returns-then-not-is_texts_last-clause-passed
returns-then-not-is_texts_last-clause-passed c = none c.args.lay.now c.args.g.now

pub returns-clause-passed : goal.returns-clause-passed
returns-clause-passed c =
    taken c.args.lay.now c.args.g.now c.is_graph.ensures c.is_numbered.ensures c.args.load.now c.args.place c.requires.load c.if-not-load.false
    (sym c.num.ensures.value ∙ omega (arith, c.if-num-ne31.false)) (c.if-not-is_texts_last.ensures.0 refl) c.pointer_of-at.result (sym c.if-not-is_near.ensures) c.pointer_of-at.ensures.said c.replace.new.self
    (c.replace.ensures ∙ ap (λ (k : OpKind). replaced c.args.g.now c.args.load.now.id k) c.address_load-kind.ensures)
