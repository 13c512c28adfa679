-- Facts on r29 and masks of registers that pass a check pass it after an edit too.
use Rattle.std.specs.Prelude.{◌≡◌, ◌<◌, ℕ, Bool, true, [], ◌++◌, None, ◌==◌}
use Rattle.om_value.specs.declared.value.Place.{Place}
use Rattle.om_value.specs.declared.value.Target.{Target}
use Rattle.om_prog.specs.Facts.{Fact}
use Rattle.om_prog.specs.View.{ProgramView}
use Rattle.om_graph.specs.declared.op.Last.{Last}
use Rattle.om_graph.specs.declared.op.OpKind.{OpKind}
use Rattle.om_prog.specs.Act.{AddrHi}
use Rattle.om_graph.specs.View.{Node, Block, GraphView, Has, ops_of, replaced, deleted, last_set, dropped}
use Rattle.om_graph.specs.Held.{IsGraph}
use Rattle.om_graph.specs.Run.{block_words, last_words, graph_script, rev_onto, op_act, op_word, high_target}
use Rattle.om_graph.specs.Form.{InForm, InPlace}
use Rattle.om_graph.specs.Fits.{OpsFit}
use Rattle.om_graph.specs.Kept.{FallsOn}
use Rattle.om_graph.specs.Checks.{Next, GpChecked, MaskChecked, AreOuts}
use Rattle.om_checks.specs.Steps.{BecomesDirect, IsEntry, PairOf, OpAt, node_words, ChangesTo, Changed, OneChanged, IsDeadHere}

-- control does not fall from a kept block into this one
abbrev pub NoneFallsInto : GraphView → Block → Type 0
NoneFallsInto g gone =
    (b : Block) → Next g.blocks b gone → gone.label.obj ≡ b.label.obj → FallsOn b.last → ⊥

pub record FactsStay : Type 0 where
  -- a known call becomes a BSR
  pub direct :
      (p : ProgramView) (g : GraphView) (id : ℕ) (end : Last) (facts : Place → Fact) →
      InForm (last_set g id end) → ((b : Block) → Has g.blocks b → (b.id == id) ≡ true →
      BecomesDirect b end) → (FallsOn end → ⊥) → GpChecked (graph_script p g) facts g →
      GpChecked (graph_script p (last_set g id end)) facts (last_set g id end)
  -- a call goes past a closed opening pair that sets what r29 holds at the call
  pub entered :
      (p : ProgramView) (g : GraphView) (facts : Place → Fact) (b e : Block) (end : Last) →
      IsGraph g → InForm g → InPlace g → InForm (last_set g b.id end) →
      IsEntry p g facts b e end → GpChecked (graph_script p g) facts g →
      GpChecked (graph_script p (last_set g b.id end)) facts (last_set g b.id end)
  -- a closed pair that sets what r29 holds is dropped
  pub pair :
      (p : ProgramView) (facts : Place → Fact) (g : GraphView) (b : Block) (high low : Node) →
      IsGraph g → Has g.blocks b → PairOf (graph_script p g) facts b high low →
      InForm (deleted (deleted g high.id) low.id) → GpChecked (graph_script p g) facts g →
      GpChecked (graph_script p (deleted (deleted g high.id) low.id)) facts (deleted (deleted g high.id) low.id)
  -- a block is dropped into which none falls
  pub block :
      (p : ProgramView) (g : GraphView) (gone : Block) (facts : Place → Fact) → IsGraph g →
      Has g.blocks gone → NoneFallsInto g gone → GpChecked (graph_script p g) facts g →
      GpChecked (graph_script p (dropped g gone.id)) facts (dropped g gone.id)

pub record MasksStay : Type 0 where
  pub direct :
      (g : GraphView) (id : ℕ) (end : Last) (masks outs : Place → ℕ → Bool) →
      InForm (last_set g id end) → ((b : Block) → Has g.blocks b → (b.id == id) ≡ true →
      BecomesDirect b end) → (FallsOn end → ⊥) → AreOuts masks outs g → MaskChecked masks g →
      MaskChecked masks (last_set g id end)
  pub block :
      (g : GraphView) (gone : Block) (masks : Place → ℕ → Bool) → IsGraph g → Has g.blocks gone →
      NoneFallsInto g gone → MaskChecked masks g → MaskChecked masks (dropped g gone.id)
  -- an op that gives no high half becomes another such, which writes what it wrote and reads no
  -- more
  pub set :
      (masks outs : Place → ℕ → Bool) (g : GraphView) (b : Block) (n : Node) (kind : OpKind) →
      IsGraph g → (at : OpAt g b n) → InForm (replaced g n.id kind) → AreOuts masks outs g →
      high_target n.op.kind ≡ None → high_target kind ≡ None →
      ChangesTo (rev_onto (node_words (ops_of b) at.before) []) (op_act (ops_of b) n.op.kind)
      (op_act (ops_of b) kind) → MaskChecked masks g → MaskChecked masks (replaced g n.id kind)
  -- an op that gives no high half and whose result is dead is deleted
  pub gone :
      (masks outs : Place → ℕ → Bool) (g : GraphView) (b : Block) (n : Node) → IsGraph g →
      (at : OpAt g b n) → InForm (deleted g n.id) → AreOuts masks outs g →
      high_target n.op.kind ≡ None →
      IsDeadHere (node_words (ops_of b) at.behind ++ last_words b.last) (outs b.label)
      (op_word (ops_of b) n.op) → MaskChecked masks g → MaskChecked masks (deleted g n.id)
  -- an LDAH whose result is dead, where all address ops fit: then no use of its half is left
  pub high_gone :
      (p : ProgramView) (gp : ℕ → ℕ) (address : Target → ℕ) (masks outs : Place → ℕ →
      Bool) (g : GraphView) (b : Block)
      (n : Node) (ra rb : ℕ) (t : Target) → OpsFit p gp address g → IsGraph g → InForm g →
      InPlace g → (at : OpAt g b n) → InForm (deleted g n.id) → AreOuts masks outs g →
      op_act (ops_of b) n.op.kind ≡ AddrHi ra rb t → ra < 31 →
      IsDeadHere (node_words (ops_of b) at.behind ++ last_words b.last) (outs b.label)
      (op_word (ops_of b) n.op) → MaskChecked masks g → MaskChecked masks (deleted g n.id)
  -- words of one block become others, several at once, each of which writes what it wrote and reads
  -- no more: so a load that becomes LDAH with all of its uses
  pub words :
      (masks outs : Place → ℕ → Bool) (g new : GraphView) (b n : Block) → IsGraph g → InForm new →
      OneChanged g new b n → AreOuts masks outs g → Changed [] (block_words b) (block_words n) →
      MaskChecked masks g → MaskChecked masks new
