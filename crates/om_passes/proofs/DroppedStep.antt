-- A block outside the kept set gone is a step.
use Rattle.std.proofs.Common.{◌≡◌, ◌⊎◌, inl, inr, ℕ, zero, suc, Bool, true, false, cond, List, [], ◌∷◌, ◌++◌, Option, Some, None, refl, sym, ap, ◌∙◌, subst}
use Rattle.std.specs.Prelude.{not}
use Rattle.om_value.specs.declared.value.Place.{Place}
use Rattle.om_prog.specs.Act.{Word}
use Rattle.om_prog.specs.Step.{SymState, SymEnd}
use Rattle.om_prog.specs.Runs.{sym_run, trace, add_step, add_word, IsClean}
use Rattle.om_prog.specs.View.{ProgramView}
use Rattle.om_prog.specs.Valid.{IsProgram}
use Rattle.om_graph.specs.declared.op.Last.{Last}
use Rattle.om_graph.specs.declared.op.Last.TheVariants.{Fall, Off, Br, Cond, Call, CallBy, JumpBy}
use Rattle.om_graph.specs.View.{Block, GraphView, Has, is_block, block_of, dropped}
use Rattle.om_graph.specs.Run.{words, all_words, block_words, last_words, next_word, graph_script}
use Rattle.om_graph.specs.Form.{Ordered}
use Rattle.om_graph.specs.LeftIn.{holds_word, Keeps}
use Rattle.om_graph.specs.Pairs.{last_place}
use Rattle.om_graph.specs.Rewritten.{each_word}
use Rattle.om_graph.specs.Kept.{IsInKeptSet}
use Rattle.om_graph.specs.Whole.{IsWhole}
use Rattle.om_graph.specs.Checks.{MaskChecked}
use Rattle.om_graph.specs.Outs.{outs_of}
use Rattle.om_graph.proofs.Labels.{append_left, append_right, in_all}
use Rattle.om_graph.proofs.Compose.{has_kept, kept_word}
use Rattle.om_graph.proofs.Fetching.{found_has}
use Rattle.om_graph.proofs.Ends.{each_append}
use Rattle.om_graph.proofs.Itself.{all_ordered, unique}
use Rattle.om_graph.proofs.Places.{placed}
use Rattle.om_graph.proofs.OfProgram.{words_in_place}
use Rattle.om_graph.proofs.Forms.{pairs_apart, whole_of}
use Rattle.om_graph.proofs.Whole.{Here, in_kept, stays_here, blocks_placed}
use Rattle.om_graph.proofs.Kept.{has_split}
use Rattle.om_graph.proofs.Blocks.{found_at}
use Rattle.om_graph.proofs.Masks.{Mask, mask_in, no_mask, enter, Flow, Le, laws}
use Rattle.om_graph.proofs.Outs.{are_outs}
use Rattle.om_passes.proofs.Parted.{is_false}
use Rattle.om_passes.specs.Step.{Onward, Step}
use Rattle.om_passes.specs.Keeping.{IsLess, IsIn}
use Rattle.om_passes.proofs.Keeping.{block_dropped}
use Rattle.om_passes.proofs.Standings.{stays, bases_stay, less_by}
use Rattle.om_passes.specs.OneEdit.{MayGoOn}
use Rattle.om_graph.proofs.Ends.{words_apart, ordered_right}
use Rattle.om_passes.proofs.AtPlaces.{each_same}
use Rattle.om_passes.proofs.OneEdit as edit
use Rattle.om_passes.proofs.OneBlock as one
use Rattle.om_passes.proofs.EditedOnce.{all_append, dropped_edited}
use Rattle.om_graph.proofs.Ends.{in_filter, one_block, ends_keep}
use Rattle.om_passes.proofs.Erasing.{IsErasable}
use Rattle.om_passes.proofs.Erasing as erase

-- a word that is not of the block
abbrev not_held : Block → Word → Option Word
not_held b w = cond (holds_word w.at b) None (Some w)

not_held_only : (b : Block) (w u : Word) → not_held b w ≡ Some u → w ≡ u
not_held_only b w u e = by_case (holds_word w.at b) e
  where
    by_case : (t : Bool) → cond t None (Some w) ≡ Some u → w ≡ u
    by_case true e = cc
    by_case false e = cc

held_by : (b : Block) (w : Word) → not_held b w ≡ None → holds_word w.at b ≡ true
held_by b w e = by_case (holds_word w.at b) refl e
  where
    by_case : (t : Bool) → holds_word w.at b ≡ t → cond t None (Some w) ≡ None → holds_word w.at b ≡ true
    by_case true h e = h
    by_case false h e = cc

all_gone : (f : Word → Option Word) (ws : List Word) → ((w : Word) → Has ws w → f w ≡ None) → each_word f ws ≡ []
all_gone f [] h = refl
all_gone f (w ∷ ws) h = let a = h w (inl refl) in let i = all_gone f ws (λ v m. h v (inr m)) in rw (a, i) refl

-- a block's last word
last_there : (l : Last) (q : Place) → last_place l ≡ Some q → (w : Word) × Has (last_words l) w × (w.at ≡ q)
last_there Fall q e = cc
last_there Off q e = cc
last_there (Br at o ra to) q e = (_, inl refl, cc)
last_there (Cond at i to) q e = (_, inl refl, cc)
last_there (Call at o ra to) q e = (_, inl refl, cc)
last_there (CallBy at i) q e = (_, inl refl, cc)
last_there (JumpBy at i) q e = (_, inl refl, cc)

-- ---- the words of a run

module _ (p : ProgramView) (g : GraphView) (whole : IsWhole p g) (ordered : Ordered (words g)) where
  abbrev all_masks : Place → ℕ → Bool
  all_masks q r = true

  -- the block of a word to which a run comes is in the kept set
  reached : (s : SymState) (w : Word) (b : Block) → Here p g whole s → next_word (words g) s.place ≡ Some w → Has g.blocks b → Has (block_words b) w → IsInKeptSet g b.label
  reached s w b i f hb hw =
      let x = found_at (Mask all_masks all_masks) (mask_in all_masks all_masks) (no_mask all_masks all_masks) (enter all_masks all_masks) (Flow all_masks all_masks) (Le all_masks all_masks) (laws all_masks all_masks) g.blocks s.place w (blocks_placed p g whole) f in
      let here = has_split x.before w x.rest (block_words x.block) x.splits in
      let same = one_block g.blocks x.block b w ordered x.among hb here hw in
      subst (λ (c : Block). IsInKeptSet g c.label) same (in_kept p g whole s i x.block.label x.label)

  -- a place of a run's trace is that of a word that it came to
  record Ran (input : List ℕ) (q : Place) : Type 0 where
    steps : ℕ
    word : Word
    found : next_word (words g) (sym_run (graph_script p g) input steps).place ≡ Some word
    place : word.at ≡ q

  ran : (input : List ℕ) (n : ℕ) (q : Place) → Has (trace (graph_script p g) input n) q → Ran input q
  unfolding trace
  ran input zero q h = absurd h
  ran input (suc n) q h = by_end (sym_run (graph_script p g) input n).ended (ran input n q) h
    where
      by_word :
          (o : Option Word) → next_word (words g) (sym_run (graph_script p g) input n).place ≡ o → (Has (trace (graph_script p g) input n) q → Ran input q) →
          Has (add_word o (trace (graph_script p g) input n)) q → Ran input q
      by_word None e i h = i h
      by_word (Some w) e i (inl x) = record { steps = n; word = w; found = e; place = x }
      by_word (Some w) e i (inr h) = i h

      by_end :
          (o : Option SymEnd) → (Has (trace (graph_script p g) input n) q → Ran input q) →
          Has (add_step o (graph_script p g) (sym_run (graph_script p g) input n) (trace (graph_script p g) input n)) q → Ran input q
      by_end None i h = by_word _ refl i h
      by_end (Some e) i h = i h

module _ (p : ProgramView) (prog : IsProgram p) (g : GraphView) (m : MayGoOn p g) (id : ℕ) (b : Block) (block : block_of g id ≡ Some b) (out : IsInKeptSet g b.label → ⊥) where
  whole : IsWhole p g
  whole = whole_of p prog g m.graph m.kept

  onward : Onward p g (dropped g id)
  onward = edit.dropped_of p prog g m.graph m.kept m.reach id b block out

  hb : Has g.blocks b
  hb = edit.here p prog g m.graph m.kept m.reach id b block

  ordered : Ordered (words g)
  ordered = all_ordered g.blocks (placed g (m.graph).graph (m.graph).form (words_in_place p prog g m.graph))

  before : List Block
  before = (one.block_parts g (m.graph).graph id b block).before

  after : List Block
  after = (one.block_parts g (m.graph).graph id b block).after

  parts : words g ≡ all_words before ++ (block_words b ++ all_words after)
  unfolding before after
  parts = ap all_words (one.block_parts g (m.graph).graph id b block).same ∙ all_append (one.block_parts g (m.graph).graph id b block).before (b ∷ (one.block_parts g (m.graph).graph id b block).after)

  left : words (dropped g id) ≡ all_words before ++ all_words after
  unfolding before after
  left = ap all_words (one.left_parts g (m.graph).graph id b block) ∙ all_append (one.block_parts g (m.graph).graph id b block).before (one.block_parts g (m.graph).graph id b block).after

  in_parts : Ordered (all_words before ++ (block_words b ++ all_words after))
  in_parts = subst (λ (l : List Word). Ordered l) parts ordered

  -- a word at whose place the block holds none
  elsewhere : (w : Word) → ((v : Word) → Has (block_words b) v → v.at ≡ w.at → ⊥) → not_held b w ≡ Some w
  elsewhere w n = let e : holds_word w.at b ≡ false = is_false (holds_word w.at b) (λ h. let v = kept_word (block_words b) w.at h in n v.word v.among v.place) in rw e refl

  held : (w : Word) → Has (block_words b) w → not_held b w ≡ None
  held w h = let e : holds_word w.at b ≡ true = has_kept (block_words b) w h in rw e refl

  erased : words (dropped g id) ≡ each_word (not_held b) (words g)
  erased =
      let x = each_same (not_held b) (all_words before) (λ w h. elsewhere w (λ v k e. words_apart (all_words before) (block_words b ++ all_words after) w v in_parts h (append_left (block_words b) (all_words after) v k) (sym e))) in
      let y = each_same (not_held b) (all_words after) (λ w h. elsewhere w (λ v k e. words_apart (block_words b) (all_words after) v w (ordered_right (all_words before) (block_words b ++ all_words after) in_parts) k h e)) in
      let z = all_gone (not_held b) (block_words b) held in
      left ∙ ap (λ (l : List Word). l ++ all_words after) (sym x) ∙ ap (λ (l : List Word). each_word (not_held b) (all_words before) ++ l) (sym y)
      ∙ ap (λ (l : List Word). each_word (not_held b) (all_words before) ++ (l ++ each_word (not_held b) (all_words after))) (sym z)
      ∙ ap (λ (l : List Word). each_word (not_held b) (all_words before) ++ l) (sym (each_append (not_held b) (block_words b) (all_words after)))
      ∙ sym (each_append (not_held b) (all_words before) (block_words b ++ all_words after)) ∙ ap (each_word (not_held b)) (sym parts)

  abbrev masks : Place → ℕ → Bool
  masks q r = true

  checked : MaskChecked masks g
  checked = record { reads = λ c r h l e. refl; enters = λ c n r h l e f. refl }

  -- no run comes to a word of the block
  never : (s : SymState) (w : Word) → Here p g whole s → next_word (words g) s.place ≡ Some w → not_held b w ≡ None → IsErasable masks (outs_of g masks) g.blocks w
  never s w i f e =
      let v = kept_word (block_words b) w.at (held_by b w e) in
      let same : v.word ≡ w = unique (words g) w v.word ordered (found_has (words g) s.place w f) (in_all g.blocks b v.word hb v.among) v.place in
      absurd (out (reached p g whole ordered s w b i f hb (subst (λ (x : Word). Has (block_words b) x) same v.among)))

  -- a run comes to no Last of it
  comes :
      (input : List ℕ) (n : ℕ) (c : Place) → IsClean (graph_script p g) input n → Has (trace (graph_script p g) input n) c → (x : Block) → Has g.blocks x → last_place x.last ≡ Some c → not (is_block id x) ≡ true
  comes input n c clean r x h l = by_case (one.still_there g (m.graph).graph id b block x h)
    where
      y : Ran p g whole ordered input c
      y = ran p g whole ordered input n c r

      in_set : IsInKeptSet g x.label
      in_set =
          let w = last_there x.last c l in
          let there : Has (block_words x) w.0 = append_right _ (last_words x.last) w.0 w.1 in
          let same : w.0 ≡ y.word = unique (words g) y.word w.0 ordered (found_has (words g) _ y.word y.found) (in_all g.blocks x w.0 h there) (w.2 ∙ sym y.place) in
          reached p g whole ordered (sym_run (graph_script p g) input y.steps) y.word x (stays_here p g whole input y.steps) y.found h (subst (λ (v : Word). Has (block_words x) v) same there)

      by_case : (b ≡ x) ⊎ Has (dropped g id).blocks x → not (is_block id x) ≡ true
      by_case (inl e) = absurd (out (subst (λ (z : Block). IsInKeptSet g z.label) (sym e) in_set))
      by_case (inr k) = (in_filter (λ c. not (is_block id c)) g.blocks x k).1

  pub dropped_keeps : Keeps p g (dropped g id)
  dropped_keeps =
      ends_keep p g (dropped g id) (record { counts = refl; roots = refl; tables = refl }) (erase.K p g (dropped g id) whole ordered (not_held b) (not_held_only b) erased masks (outs_of g masks) checked (are_outs g (m.graph).graph.blocks masks) never)
      _ _ (Here p g whole) _
      (erase.erasing p g (dropped g id) whole ordered (not_held b) (not_held_only b) erased masks (outs_of g masks) checked (are_outs g (m.graph).graph.blocks masks) never)
      (λ w. Some w) (λ c. not (is_block id c)) (λ c. c.last) (dropped_edited g id) ordered (pairs_apart p prog (dropped g id) onward.goes_on.graph) comes (λ c pair q h k i o e. e)

  less : IsLess g (dropped g id) (IsIn b)
  less =
      less_by p prog g (dropped g id) m.graph (not_held b) erased (λ w v h e. ap (λ (u : Word). u.at) (sym (not_held_only b w v e))) (IsIn b) left_in_place gone_in_block
    where
      no_word : {v : Word} → None ≡ Some v → ⊥
      no_word e = cc

      left_in_place : (w v : Word) → Has (words g) w → not_held b w ≡ Some v → IsIn b w.at → ⊥
      left_in_place w v h e i =
          let same : i.0 ≡ w = unique (words g) w i.0 ordered h (in_all g.blocks b i.0 hb i.1) i.2 in
          no_word (sym (held w (subst (λ (u : Word). Has (block_words b) u) same i.1)) ∙ e)

      gone_in_block : (w : Word) → Has (words g) w → not_held b w ≡ None → IsIn b w.at
      gone_in_block w h e = let v = kept_word (block_words b) w.at (held_by b w e) in (v.word, v.among, v.place)

  pub dropped_step : Step p g (dropped g id)
  dropped_step = record {
    rewrite = record {
      keeps = dropped_keeps;
      goes_on = onward.goes_on;
      lighter = onward.lighter;
      bases = bases_stay p prog g (dropped g id) m.graph (not_held b) erased dropped_keeps onward.goes_on.graph (λ w v h e. stays (not_held_only b w v e));
    };
    pairs = λ pairs. block_dropped p prog g (dropped g id) m.graph pairs b hb less;
  }
