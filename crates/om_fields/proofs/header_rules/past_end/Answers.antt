use Rattle.std.proofs.Common.{◌≡◌, ◌<◌, true, false, sym, arith}
use Rattle.om_fields.proofs.Picked.{picked-first, picked-none, none-further}
use Rattle.om_fields.specs.HeaderFields.{section_count, header_at, runs_past}
use Rattle.om_fields.proofs.Heads.{headers-rise}
use Rattle.om_fields.proofs.header_rules.past_end.Goals as goal

pub returns-then-section_runs_past : goal.returns-then-section_runs_past
returns-then-section_runs_past c =
    let below : c.loop-k.k < section_count c.args.bytes.now = omega (arith, c.loop-k-test.true, c.section_count-k-end.ensures.gives) in
    let holds : runs_past c.args.bytes.now c.loop-k.k ≡ true = cc in
    record { gives = sym (picked-first (runs_past c.args.bytes.now) header_at (section_count c.args.bytes.now) c.loop-k.k headers-rise below holds c.loop-k.invariant) }

pub loop-k-preserved : goal.loop-k-preserved
loop-k-preserved c =
    let fails : runs_past c.args.bytes.now c.loop-k.k ≡ false = cc in
    none-further (runs_past c.args.bytes.now) c.loop-k.k c.loop-k.invariant fails

pub returns : goal.returns
returns c =
    record { gives = sym (picked-none (runs_past c.args.bytes.now) header_at (section_count c.args.bytes.now) (λ j h. c.loop-k.invariant j (omega (arith, h, c.loop-k-test.false, c.loop-k.auto.k-end, c.section_count-k-end.ensures.gives)))) }
