-- Why the law on thorough images asks that pairs are whole: a graph of a program to which no rule applies, whose pairs are all
-- closed and alone write r29, and which keeps the high half of one without its low half.
use Rattle.std.specs.Prelude.{◌≡◌, ℕ, Bool, pos, negsuc, true, false, ◌==◌, if◌then◌else◌, [], ◌∷◌}
use Rattle.om_alpha.specs.declared.op.Cond.TheVariants as cond
use Rattle.om_isa.specs.declared.instr.BrOp.TheVariants.{If}
use Rattle.om_isa.specs.declared.instr.MemOp.TheVariants.{Lda, Ldah}
use Rattle.om_isa.specs.declared.instr.Instr.TheVariants.{Mem, Branch}
use Rattle.om_value.specs.declared.value.Place.{Place}
use Rattle.om_value.specs.declared.value.Target.{Target}
use Rattle.om_prog.specs.declared.item.Item.{Item}
use Rattle.om_prog.specs.declared.item.Role.TheVariants as role
use Rattle.om_prog.specs.Facts.{Fact, Table, Unknown, has}
use Rattle.om_prog.specs.View.{ProgramView}
use Rattle.om_prog.specs.Valid.{IsProgram}
use Rattle.om_graph.specs.declared.op.OpKind.TheVariants as op
use Rattle.om_graph.specs.declared.op.Last.TheVariants as last
use Rattle.om_graph.specs.View.{Block, GraphView}
use Rattle.om_graph.specs.Run.{graph_script}
use Rattle.om_graph.specs.Kept.{KeptInBlocks}
use Rattle.om_graph.specs.LeftIn.{is_kept}
use Rattle.om_graph.specs.OfProgram.{IsGraphOf}
use Rattle.om_layout.specs.Order.{table_count}
use Rattle.om_graph.specs.Left.{NothingApplies}
use Rattle.om_graph.specs.Stands.{BasesStand}
use Rattle.om_thorough.specs.Thorough.{AllClosed, OnlyPairsWrite}
use Rattle.om_thorough.specs.Rows.{at}

-- ldah r29,..(r27); lda r29,..(r29); bne r29, to itself
abbrev pub high_item : Item
high_item = record { word = 0x27bb0000; instr = Mem Ldah 29 27 (pos 0); role = role.GpHi (at 0) }

abbrev pub low_item : Item
low_item = record { word = 0x23bd0000; instr = Mem Lda 29 29 (pos 0); role = role.GpLo (at 0) }

abbrev pub test_item : Item
test_item = record { word = 0xf7bfffff; instr = Branch (If cond.Ne) 29 (negsuc 0); role = role.To (at 8) }

abbrev pub half_program : ProgramView
half_program = record { texts = (high_item ∷ low_item ∷ test_item ∷ []) ∷ []; regions = []; entry = at 0 }

abbrev pub high_block : Block
high_block = record {
  id = 0;
  label = at 0;
  opening = true;
  ops = record { id = 0; op = record { place = at 0; kind = op.GpHi 29 27 (at 0) } } ∷ [];
  last = last.Fall;
}

abbrev pub test_block : Block
test_block = record {
  id = 1;
  label = at 8;
  opening = false;
  ops = [];
  last = last.Cond (at 8) (Branch (If cond.Ne) 29 (negsuc 0)) (at 8);
}

abbrev pub half_graph : GraphView
half_graph = record {
  counts = 3 ∷ [];
  roots = at 0 ∷ [];
  tables = 0 ∷ [];
  labels = at 0 ∷ at 8 ∷ [];
  blocks = high_block ∷ test_block ∷ [];
  touched = [];
}

abbrev pub half_facts : Place → Fact
half_facts q = if q.off == 0 then Table 0 else Unknown

abbrev pub half_masks : Place → ℕ → Bool
half_masks q r = if q.off == 0 then has (27 ∷ []) r else has (29 ∷ []) r

abbrev pub half_outs : Place → ℕ → Bool
half_outs q r = has (29 ∷ []) r

pub record ALoneHalf (gp : ℕ → ℕ) (address : Target → ℕ) : Type 0 where
  pub program : IsProgram half_program
  pub of : IsGraphOf half_program half_graph
  pub inside : KeptInBlocks half_graph
  pub bases : BasesStand half_program half_graph
  pub nothing :
      NothingApplies half_program (graph_script half_program half_graph) gp address half_facts half_masks half_outs half_graph
  pub closed : AllClosed half_program
  pub only : OnlyPairsWrite half_program
  pub one : table_count half_graph.tables ≡ 1
  pub high : is_kept half_graph (at 0) ≡ true
  pub low : is_kept half_graph (at 4) ≡ false
