-- Calls that may go past an opening pair. No public clause cites this module.
use Rattle.std.specs.Prelude.{◌≡◌, ℕ, List, ◌∷◌}
use Rattle.om_isa.specs.declared.instr.BrOp.TheVariants.{Bsr}
use Rattle.om_value.specs.declared.value.Place.{Place}
use Rattle.om_prog.specs.Act.{To, Word}
use Rattle.om_prog.specs.Step.{next_place}
use Rattle.om_prog.specs.View.{ProgramView}
use Rattle.om_prog.specs.Facts.{fact_behind, IsFact}
use Rattle.om_flow.specs.declared.parts.Fact.{Fact}
use Rattle.om_graph.specs.View.{Block, GraphView, Has}
use Rattle.om_graph.specs.Run.{block_words, last_words, rev_onto, table_of, graph_script}
use Rattle.om_graph.specs.Index.{InReach}
use Rattle.om_graph.specs.Uses.{IsClosedOpening}
use Rattle.om_blocks.specs.Found.{facts_in}
use Rattle.om_calls.specs.declared.ends.PlaceCall.{PlaceCall}

-- a call that ends a block may go past a closed opening pair at its place to this one: it reaches it, writes no r29, and
-- in front of it the fact is the table of the pair's object
pub record MayEnter (g : GraphView) (facts : List Fact) (b : Block) (call : PlaceCall)
    (past : Place) : Type 0 where
  pub opening : Block
  pub among : Has g.blocks opening
  pub label : opening.label ≡ call.to
  pub behind : past ≡ next_place (next_place call.to)
  pub closed : IsClosedOpening g opening
  pub link : call.ra ≡ 29 → ⊥
  pub reach : InReach g.counts call.at past
  pub fact :
      (p : ProgramView) (bf : List Word) → rev_onto bf (last_words b.last) ≡ block_words b →
      IsFact (fact_behind (graph_script p g) (facts_in g facts b.label) bf) (table_of g call.to.obj)

-- in a block no BSR to a closed opening pair is left that could go past it
abbrev pub NoEnterIn : List Fact → GraphView → Block → Type 0
NoEnterIn facts g b =
    (p : ProgramView) (e : Block) (bf ws : List Word) (w : Word) (ra : ℕ) →
    rev_onto bf (w ∷ ws) ≡ block_words b → Has g.blocks e → w.act ≡ To Bsr ra e.label →
    (ra ≡ 29 → ⊥) → IsClosedOpening g e →
    InReach g.counts w.at (next_place (next_place e.label)) →
    IsFact (fact_behind (graph_script p g) (facts_in g facts b.label) bf)
    (table_of g e.label.obj) → ⊥
