-- Which steps of a run another graph leaves in, and what it is to keep meaning. A graph leaves in a step whose word it
-- keeps, but for the two words of an opening pair past which the call before them goes in that graph.
use Rattle.std.specs.Prelude.{◌≡◌, ℕ, ◌+◌, Bool, true, false, not, ◌&&◌, ◌||◌, ◌==◌, is_some, List, [], ◌∷◌, length, find, suc, Some, None}
use Rattle.om_isa.specs.declared.instr.BrOp.TheVariants.{Bsr}
use Rattle.om_value.specs.declared.value.Place.{Place}
use Rattle.om_value.specs.Same.{place_eq}
use Rattle.om_prog.specs.Act.{Script, Word}
use Rattle.om_prog.specs.Runs.{sym_run, trace, IsClean, Alike}
use Rattle.om_prog.specs.View.{ProgramView}
use Rattle.om_graph.specs.declared.op.Last.{Last}
use Rattle.om_graph.specs.declared.op.Last.TheVariants.{Br, Call}
use Rattle.om_graph.specs.View.{Block, GraphView, Has}
use Rattle.om_graph.specs.Form.{is_address}
use Rattle.om_graph.specs.Run.{block_words, words, next_word, graph_script}

-- whether a word at a place is kept
abbrev pub is_kept : GraphView → Place → Bool
is_kept g p = is_some (find (λ w. place_eq w.at p) (words g))

-- ---- steps past opening pairs

-- the BSR at c, with a link register or none, goes to the place 8 bytes behind q
abbrev pub ends_past : Place → Place → Last → Bool
ends_past c q (Call at Bsr ra to) = place_eq at c && (to.obj == q.obj) && (to.off == q.off + 8)
ends_past c q (Br at Bsr ra to) = place_eq at c && (to.obj == q.obj) && (to.off == q.off + 8)
ends_past c q _ = false

-- one of the two words from q on
abbrev pub in_pair : Place → Place → Bool
in_pair q p = (p.obj == q.obj) && ((p.off == q.off) || (p.off == q.off + 4))

abbrev pub goes_past : GraphView → Place → Place → Place → Bool
goes_past g c q p = in_pair q p && is_some (find (λ b. ends_past c q b.last) g.blocks)

-- a word of a block stands at a place
abbrev pub holds_word : Place → Block → Bool
holds_word p b = is_some (find (λ w. place_eq w.at p) (block_words b))

-- p is a word of an opening pair, in the kept block that begins with it, past which the word at c goes
abbrev pub passes : GraphView → Place → Place → Bool
passes g c p = is_some (find (λ b. b.opening && holds_word p b && goes_past g c b.label p) g.blocks)

-- ---- steps left in

-- of the steps left in before, the last one first, the last one goes past the pair of p
abbrev pub passes_after : GraphView → List Place → Place → Bool
passes_after g [] p = false
passes_after g (c ∷ cs) p = passes g c p

abbrev pub is_left : GraphView → List Place → Place → Bool
is_left g before p = is_kept g p && not (passes_after g before p)

abbrev pub left_onto : Bool → Place → List Place → List Place
left_onto true p ps = p ∷ ps
left_onto false p ps = ps

-- of the steps of a run, the last one first, those that the graph leaves in
abbrev pub left : GraphView → List Place → List Place
left g [] = []
left g (p ∷ ps) = left_onto (is_left g (left g ps) p) p (left g ps)

-- the steps that a graph leaves in of the first n of a run
abbrev pub left_in : GraphView → Script → List ℕ → ℕ → List Place
left_in g c input n = left g (trace c input n)

-- ---- keeping meaning

-- of a run's first n steps the new graph leaves some in; its own run after as many steps is alike, and its steps
-- are those
pub record Goes (p : ProgramView) (old new : GraphView) (input : List ℕ) (n : ℕ) : Type 0 where
  pub alike :
      Alike
      (sym_run (graph_script p old) input n)
      (sym_run (graph_script p new) input (length (left_in new (graph_script p old) input n)))
  pub places :
      trace (graph_script p new) input (length (left_in new (graph_script p old) input n))
      ≡ left_in new (graph_script p old) input n

-- the new graph keeps the meaning of the old one, of which p has the regions
abbrev pub KeepsMeaning : ProgramView → GraphView → GraphView → Type 0
KeepsMeaning p old new =
    (input : List ℕ) (n : ℕ) → IsClean (graph_script p old) input n → Goes p old new input n

-- ---- what passes in a row need

-- a word that goes past a pair still does, and is no word of a pair that is passed
pub record StillPasses (new : GraphView) (c q : Place) : Type 0 where
  pub kept : is_kept new c ≡ true
  pub free : (x : Place) → passes new x c ≡ false
  pub goes : passes new c q ≡ true

-- meaning is kept, and what the next pass needs with it
pub record Keeps (p : ProgramView) (old new : GraphView) : Type 0 where
  pub meaning : KeepsMeaning p old new
  -- no word comes back
  pub fewer : (q : Place) → is_kept new q ≡ true → is_kept old q ≡ true
  -- what a clean run goes past it still goes past, where that is still kept
  pub calls :
      (input : List ℕ) (n : ℕ) (c q : Place) → IsClean (graph_script p old) input n →
      Has (trace (graph_script p old) input n) c → passes old c q ≡ true → is_kept new q ≡ true → StillPasses new c q
  -- the steps of a clean run that are left out are of words that came from a LITERAL load or a GPDISP
  pub straight :
      (input : List ℕ) (n : ℕ) (w : Word) → IsClean (graph_script p old) input (suc n) →
      (sym_run (graph_script p old) input n).ended ≡ None →
      next_word (words old) (sym_run (graph_script p old) input n).place ≡ Some w →
      is_left new (left_in new (graph_script p old) input n) w.at ≡ false → is_address w.act ≡ true
  -- no other word becomes such a word
  pub address :
      (w u : Word) → Has (words old) w → Has (words new) u → u.at ≡ w.at → is_address u.act ≡ true →
      is_address w.act ≡ true
