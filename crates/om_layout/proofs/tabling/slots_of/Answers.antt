use Rattle.std.proofs.Common.{[], length, replicate, List, ap, ◌∙◌, arith}
use Rattle.om_value.specs.declared.value.Target.{Target}
use Rattle.om_value.specs.declared.value.Target.TheVariants.{Num}
use Rattle.om_layout.specs.declared.words.Load.{Load}
use Rattle.om_layout.specs.Order.{table_count}
use Rattle.om_layout.proofs.Noted.{has_read, below_count, as_many, many_none, load_step}
use Rattle.std.specs.Prelude.{take}
use Rattle.om_layout.proofs.tabling.slots_of.Goals as goal

abbrev none : Load
none = record { obj = 0; target = Num 0 }

pub bounds-object_tables-load : goal.bounds-object_tables-load
bounds-object_tables-load c = c.requires.each _ (has_read c.args.loads.now c.loop-load.load-index none c.loop-load-test.true)

pub note-requires : goal.note-requires
note-requires c =
    let o = c.requires.each _ (has_read c.args.loads.now c.loop-load.load-index none c.loop-load-test.true) in
    let b = below_count c.args.object_tables.now _ o in
    let n = ap (λ (ss : List (List Target)). length ss) c.loop-load.invariant ∙ as_many c.args.object_tables.now (take c.loop-load.load-index c.args.loads.now) (replicate (table_count c.args.object_tables.now) [])
    ∙ many_none (table_count c.args.object_tables.now) in
    omega (arith, b, n)

pub loop-load-preserved : goal.loop-load-preserved
loop-load-preserved c =
    load_step c.args.object_tables.now c.args.loads.now c.loop-load.load-index none (replicate (table_count c.args.object_tables.now) []) c.loop-load.tables.items c.note.new.tables.items
    c.loop-load-test.true (c.requires.each _ (has_read c.args.loads.now c.loop-load.load-index none c.loop-load-test.true)) c.loop-load.invariant c.in_ok-note.ensures
