-- Worked facts of the graph of a call: a block that calls, one behind it, and the procedure with its opening pair.
use Rattle.std.specs.Prelude.{◌≡◌, true, false, [], ◌∷◌, refl}
use Rattle.om_prog.specs.Facts as prog
use Rattle.om_flow.specs.declared.parts.Fact.TheVariants.{Any, Table, Unknown}
use Rattle.om_graph.specs.declared.op.OpKind.TheVariants.{GpHi, GpLo}
use Rattle.om_graph.specs.declared.op.Last.TheVariants.{Fall}
use Rattle.om_graph.specs.View.{Block, is_live_block, dropped}
use Rattle.om_graph.specs.Run.{block_words, graph_script}
use Rattle.om_graph.specs.Checks.{onward}
use Rattle.om_graph.specs.Rows.{at, empty, calling}
use Rattle.om_blocks.specs.declared.exits.Exit.TheVariants.{Nowhere, ByRegister}
use Rattle.om_blocks.specs.Found.{facts_in}
use Rattle.om_blocks.specs.Laws.{entry_table}
use Rattle.om_gpfacts.specs.Passing.{with_exit}

abbrev pub opening : Block
opening = record {
  id = 2;
  label = at 16;
  opening = true;
  ops =
      record { id = 3; op = record { place = at 16; kind = GpHi 29 27 (at 0) } }
      ∷ record { id = 4; op = record { place = at 20; kind = GpLo 29 29 (at 16) } } ∷ [];
  last = Fall;
}

-- the number of a block's label finds its fact; of a place inside a block, or behind the facts, nothing is known
pub row_label : facts_in calling (Table 0 ∷ Any ∷ []) (at 4) ≡ prog.Any
row_label = refl

pub row_inside : facts_in calling (Table 0 ∷ Any ∷ []) (at 8) ≡ prog.Unknown
row_inside = refl

pub row_behind : facts_in calling (Table 0 ∷ Any ∷ []) (at 16) ≡ prog.Unknown
row_behind = refl

-- a block that was dropped is no kept one, nor is one whose number is still to be given
pub row_kept : is_live_block calling 1 ≡ true
row_kept = refl

pub row_dropped : is_live_block (dropped calling 1) 1 ≡ false
row_dropped = refl

pub row_added : is_live_block calling 4 ≡ false
row_added = refl

pub row_entry : entry_table calling ≡ 0
row_entry = refl

-- the pair sets the table of its object, but where no walk comes
pub row_pair : onward (graph_script empty calling) (prog.Table 5) (block_words opening) ≡ prog.Table 0
row_pair = refl

pub row_pair_unreached : onward (graph_script empty calling) prog.Any (block_words opening) ≡ prog.Any
row_pair_unreached = refl

-- two jumps that leave two tables allow Unknown alone; an end that is no jump changes nothing
pub row_two_jumps : with_exit ByRegister (Table 1) (Table 2) ≡ Unknown
row_two_jumps = refl

pub row_first_jump : with_exit ByRegister Any (Table 2) ≡ Table 2
row_first_jump = refl

pub row_no_jump : with_exit Nowhere (Table 1) (Table 2) ≡ Table 1
row_no_jump = refl
