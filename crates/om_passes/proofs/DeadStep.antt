-- A dead address word gone is a step.
use Rattle.std.proofs.Common.{◌≡◌, ◌⊎◌, inl, inr, ◌<◌, ℕ, ◌∷◌, Bool, true, false, List, [], Option, Some, None, refl, sym, ap, ◌∙◌, subst, arith}
use Rattle.std.specs.Prelude.{map}
use Rattle.om_value.specs.declared.value.Place.{Place}
use Rattle.om_prog.specs.Act.{Word, act_writes}
use Rattle.om_prog.specs.Flow.{Among}
use Rattle.om_prog.specs.Step.{next_place}
use Rattle.om_prog.specs.View.{ProgramView}
use Rattle.om_prog.specs.Valid.{IsProgram}
use Rattle.om_graph.specs.View.{Node, Block, GraphView, Has, delete_in, deleted}
use Rattle.om_graph.specs.Run.{words, block_words}
use Rattle.om_graph.specs.Form.{Ordered, is_address}
use Rattle.om_graph.specs.LeftIn.{Keeps}
use Rattle.om_graph.specs.Rewritten.{each_word, BlockEnd, block_end}
use Rattle.om_graph.specs.Walks.{IsDeadAfter}
use Rattle.om_graph.specs.Whole.{IsWhole}
use Rattle.om_graph.specs.Checks.{MaskChecked, AreOuts, live_in}
use Rattle.om_graph.specs.OfProgram.{IsFollowed}
use Rattle.om_graph.proofs.Labels.{in_all}
use Rattle.om_graph.proofs.Ends.{each_words}
use Rattle.om_graph.proofs.Itself.{all_ordered, unique}
use Rattle.om_graph.proofs.Places.{placed, in_labels}
use Rattle.om_graph.proofs.Behind.{inside}
use Rattle.om_graph.proofs.OfProgram.{words_in_place}
use Rattle.om_graph.proofs.Forms.{pairs_apart, whole_of}
use Rattle.om_graph.proofs.Masks.{live_at, cared_at}
use Rattle.om_graph.proofs.Whole.{Here, blocks_placed, lands, known_there}
use Rattle.om_passes.specs.AtPlaces.{gone_at}
use Rattle.om_passes.specs.Step.{Onward, Rewrite, Deletion}
use Rattle.om_passes.specs.OneEdit.{MayGoOn, IsOp, word_of, IsUnused, NamesNoHalf}
use Rattle.om_passes.proofs.AtPlaces.{gone_else, IsGone, gone, left, is_gone}
use Rattle.om_passes.proofs.WordEdits.{dead_leaves}
use Rattle.om_passes.proofs.OneEdit as edit
use Rattle.om_passes.proofs.OneBlock.{deleted_one}
use Rattle.om_passes.proofs.EditedOnce.{words_edited, edited_once}
use Rattle.om_graph.proofs.Ends.{ends_keep}
use Rattle.std.proofs.lemmas.Bool.{true≢false, lt-ltb}
use Rattle.om_prog.specs.Step.{SymState}
use Rattle.om_graph.specs.Kept.{IsInKeptSet, IsKeptLanding}
use Rattle.om_graph.proofs.Places.{jumps_last}
use Rattle.om_graph.proofs.Straight.{address_falls}
use Rattle.om_passes.proofs.Parted.{is_false}
use Rattle.om_passes.proofs.BehindMasks.{local_live, behind_live}
use Rattle.om_graph.specs.Run.{next_word, rev_onto}
use Rattle.om_graph.proofs.Fetching.{found_has}
use Rattle.std.proofs.Common.{◌++◌}
use Rattle.om_graph.specs.View.{holds_node}
use Rattle.om_graph.specs.Checks.{Enters, falls_in, jumps_in, reads_first, written_in}
use Rattle.om_graph.proofs.Labels.{has_append, append_left, append_right}
use Rattle.om_graph.proofs.Placed.{JumpsLast}
use Rattle.om_graph.proofs.Blocks.{next_has}
use Rattle.om_passes.proofs.AtPlaces.{gone_parts}
use Rattle.om_passes.proofs.Parted.{Parted, parted, once_op}
use Rattle.om_passes.proofs.OneBlock.{delete_else}
use Rattle.om_passes.proofs.KnownCalls.{turned}
use Rattle.om_passes.proofs.MasksStay.{masks_stay, outs_shrink, reads_more, written_less}
use Rattle.om_passes.proofs.Erasing.{IsErasable}
use Rattle.om_passes.proofs.Standings.{stays, bases_stay}
use Rattle.om_passes.proofs.DeadEdits.{deletes, read_below}
use Rattle.om_passes.proofs.Deleting.{pairs_deleted}
use Rattle.om_passes.proofs.Erasing as erase

pub gone_keeps : (q : Place) (w u : Word) → gone_at q w ≡ Some u → w ≡ u
gone_keeps q w u e = by_case (gone_at q w) (is_gone q w) e
  where
    by_case : (o : Option Word) → IsGone q w o → o ≡ Some u → w ≡ u
    by_case o (gone a c) f = let none : None ≡ Some u = sym c ∙ f in cc
    by_case o (left a c) f = let s : Some w ≡ Some u = sym c ∙ f in cc

module _ (p : ProgramView) (prog : IsProgram p) (g : GraphView) (m : MayGoOn p g) (id : ℕ) (b : Block) (x : Node) (o : IsOp g id b x) (address : is_address (word_of b x).act ≡ true)
    (followed : IsFollowed p (x.op).place) (unnamed : NamesNoHalf b x) (masks outs : Place → ℕ → Bool) (checked : MaskChecked masks g) (are : AreOuts masks outs g)
    (bf ws : List Word) (stands : rev_onto bf (word_of b x ∷ ws) ≡ block_words b)
    (dead : (r : ℕ) → Among (act_writes (word_of b x).act) r → (r ≡ 31) ⊎ ((r < 31) × (live_in ws (outs b.label) r ≡ false))) where
  hb : Has g.blocks b
  hb = edit.there p prog g m.graph m.kept m.reach id b x o.block o.node

  in_block : Ordered (block_words b)
  in_block = (words_in_place p prog g m.graph).ordered b hb

  unused : IsUnused b (word_of b x)
  unused y r l = by_case (dead r l.writes)
    where
      by_case : (r ≡ 31) ⊎ ((r < 31) × (live_in ws (outs b.label) r ≡ false)) → ⊥
      by_case (inl e) = l.register e
      by_case (inr e) = true≢false (sym (local_live (block_words b) bf (word_of b x) ws y r (outs b.label) in_block stands l) ∙ e.1)

  whole : IsWhole p g
  whole = whole_of p prog g m.graph m.kept

  onward : Onward p g (deleted g id)
  onward = edit.dead_of p prog g m.graph m.kept m.reach id b x o.block o.node address followed unused unnamed

  there : Has (block_words b) (word_of b x)
  there = edit.word_there p prog g m.graph m.kept m.reach id b x o.block o.node

  ordered : Ordered (words g)
  ordered = all_ordered g.blocks (placed g (m.graph).graph (m.graph).form (words_in_place p prog g m.graph))

  block : block_words (delete_in id b) ≡ each_word (gone_at (x.op).place) (block_words b)
  block = (edit.deleted_edit p prog g m.graph m.kept m.reach id b x o.block o.node address followed (dead_leaves (block_words b) (word_of b x) unused) unnamed).words

  all : words (deleted g id) ≡ each_word (gone_at (x.op).place) (words g)
  all =
      each_words (gone_at (x.op).place) g.blocks (deleted g id).blocks
      (words_edited g (deleted g id) b (delete_in id b) (deleted_one g (m.graph).graph id b o.block) (gone_at (x.op).place) (x.op).place ordered (λ w n. gone_else (x.op).place w n) (word_of b x) there refl block)

  is_word : (s : SymState) (w : Word) → next_word (words g) s.place ≡ Some w → gone_at (x.op).place w ≡ None → w ≡ word_of b x
  is_word s w f e = by_case (gone_at (x.op).place w) (is_gone (x.op).place w) e
    where
      by_case : (o : Option Word) → IsGone (x.op).place w o → o ≡ None → w ≡ word_of b x
      by_case o (gone a c) n = unique (words g) (word_of b x) w ordered (in_all g.blocks b (word_of b x) hb there) (found_has (words g) s.place w f) a
      by_case o (left a c) n = let no_word : Some w ≡ None = sym c ∙ n in cc

  -- where a run comes to the word, what it writes is not cared for behind it
  at_run : (s : SymState) → Here p g whole s → next_word (words g) s.place ≡ Some (word_of b x) → (r : ℕ) → Among (act_writes (word_of b x).act) r → (r ≡ 31) ⊎ (cared_at masks outs g.blocks (next_place (x.op).place) r ≡ false)
  at_run s i f r a = by_case (dead r a)
    where
      not_live : r < 31 → live_in ws (outs b.label) r ≡ false → live_at masks outs g.blocks (next_place (x.op).place) r ≡ true → ⊥
      not_live l e h =
          let v =
          behind_live masks outs g (λ l. IsInKeptSet g l) (blocks_placed p g whole) (jumps_last (IsKeptLanding g) g whole.form) (lands p g whole) checked are ordered s.place (word_of b x) (next_place (x.op).place) b bf ws r l
          (known_there p g whole s (word_of b x) i f).1 f (inl (address_falls (word_of b x).act address, refl)) hb in_block stands h in
          true≢false (sym v ∙ e)

      by_case : (r ≡ 31) ⊎ ((r < 31) × (live_in ws (outs b.label) r ≡ false)) → (r ≡ 31) ⊎ (cared_at masks outs g.blocks (next_place (x.op).place) r ≡ false)
      by_case (inl e) = inl e
      by_case (inr e) =
          let low = lt-ltb r 31 e.0 in
          let off = is_false (live_at masks outs g.blocks (next_place (x.op).place) r) (not_live e.0 e.1) in
          inr (rw (low, off) refl)

  erasable : (s : SymState) (w : Word) → Here p g whole s → next_word (words g) s.place ≡ Some w → gone_at (x.op).place w ≡ None → IsErasable masks outs g.blocks w
  erasable s w i f e =
      let same = is_word s w f e in
      subst (λ (v : Word). IsErasable masks outs g.blocks v) (sym same)
      (record { address = address; dead = at_run s i (f ∙ ap (λ (v : Word). Some v) same) })

  pub dead_keeps : Keeps p g (deleted g id)
  dead_keeps =
      ends_keep p g (deleted g id) (record { counts = refl; roots = refl; tables = refl }) (erase.K p g (deleted g id) whole ordered (gone_at (x.op).place) (gone_keeps (x.op).place) all masks outs checked are erasable)
      _ _ (Here p g whole) _
      (erase.erasing p g (deleted g id) whole ordered (gone_at (x.op).place) (gone_keeps (x.op).place) all masks outs checked are erasable)
      (gone_at (x.op).place) (λ c. true) (λ c. c.last)
      (edited_once g (deleted g id) b (delete_in id b) (deleted_one g (m.graph).graph id b o.block) (gone_at (x.op).place) (x.op).place ordered (λ w n. gone_else (x.op).place w n) (word_of b x) there refl block refl refl refl
      (λ w u h e. ap (λ (v : Word). v.at) (sym (gone_keeps (x.op).place w u e))) (λ w u h e a. subst (λ (v : Word). is_address v.act ≡ true) (sym (gone_keeps (x.op).place w u e)) a))
      ordered (pairs_apart p prog (deleted g id) onward.goes_on.graph) (λ input n c clean r c' h l. refl) (λ c pair q h k i o e. e)

  pub dead_rewrite : Rewrite p g (deleted g id)
  dead_rewrite = record {
    keeps = dead_keeps;
    goes_on = onward.goes_on;
    lighter = onward.lighter;
    bases = bases_stay p prog g (deleted g id) m.graph (gone_at (x.op).place) all dead_keeps onward.goes_on.graph (λ w v h e. stays (gone_keeps (x.op).place w v e));
  }

  -- no walk reads what the word writes
  dead_after : (r : ℕ) → Among (act_writes (word_of b x).act) r → IsDeadAfter g r (word_of b x)
  dead_after r a q walk read = by_case (dead r a)
    where
      by_case : (r ≡ 31) ⊎ ((r < 31) × (live_in ws (outs b.label) r ≡ false)) → ⊥
      by_case (inl e) = let l = read_below g r q read in omega (arith, e, l)
      by_case (inr e) =
          true≢false
          (sym (inside masks outs g checked are (in_labels g (m.graph).graph (m.graph).form (words_in_place p prog g m.graph)) (placed g (m.graph).graph (m.graph).form (words_in_place p prog g m.graph)) (m.graph).form
          b bf (word_of b x) ws q r hb stands walk read) ∙ e.1)

  blocks_edited : map block_words (deleted g id).blocks ≡ map (λ c. each_word (gone_at (x.op).place) (block_words c)) g.blocks
  blocks_edited =
      words_edited g (deleted g id) b (delete_in id b) (deleted_one g (m.graph).graph id b o.block) (gone_at (x.op).place) (x.op).place ordered (λ w n. gone_else (x.op).place w n) (word_of b x) there refl block

  same_ends : (cs : List Block) → map block_end (map (delete_in id) cs) ≡ map block_end cs
  same_ends [] = refl
  same_ends (c ∷ cs) = let e : block_end (delete_in id c) ≡ block_end c = refl in ap (λ (l : List BlockEnd). block_end c ∷ l) (same_ends cs)

  pub dead_step : Deletion p g (deleted g id)
  dead_step = record {
    rewrite = dead_rewrite;
    pairs = λ stand pairs.
        pairs_deleted p prog g m.graph (deleted g id) (word_of b x)
        (deletes g (deleted g id) (word_of b x)
        (record { words = blocks_edited; places = λ w u e. ap (λ (v : Word). v.at) (sym (gone_keeps (x.op).place w u e)); addresses = λ w u e a. subst (λ (v : Word). is_address v.act ≡ true) (sym (gone_keeps (x.op).place w u e)) a })
        (record { same = same_ends g.blocks }) (record { counts = refl; roots = refl; tables = refl }) (in_all g.blocks b (word_of b x) hb there) address dead_after)
        stand pairs;
  }

  -- ---- masks

  front : List Word
  front = (turned bf).front

  b_words : block_words b ≡ front ++ word_of b x ∷ ws
  unfolding front
  b_words = sym stands ∙ (turned bf).same (word_of b x ∷ ws)

  n_words : block_words (delete_in id b) ≡ front ++ ws
  n_words =
      block ∙ ap (each_word (gone_at (x.op).place)) b_words ∙ gone_parts front (word_of b x) ws (subst (λ (l : List Word). Ordered l) b_words in_block)

  -- each block is the one with the word, or as it was
  is_b : (c : Block) → Has g.blocks c → (b ≡ c) ⊎ (delete_in id c ≡ c)
  is_b c h = by_case (holds_node id c) refl
    where
      parts : Parted (holds_node id) g.blocks b
      parts = parted (holds_node id) g.blocks b (once_op id g.blocks (m.graph).graph.op_ids) o.block

      held : holds_node id c ≡ true → Has (parts.before ++ b ∷ parts.after) c → b ≡ c
      held t k = by_part (has_append parts.before (b ∷ parts.after) c k)
        where
          by_part : Has parts.before c ⊎ Has (b ∷ parts.after) c → b ≡ c
          by_part (inl i) = absurd (true≢false (sym t ∙ parts.left c i))
          by_part (inr (inl e)) = e
          by_part (inr (inr i)) = absurd (true≢false (sym t ∙ parts.right c i))

      by_case : (t : Bool) → holds_node id c ≡ t → (b ≡ c) ⊎ (delete_in id c ≡ c)
      by_case true t = inl (held t (subst (λ (l : List Block). Has l c) parts.same h))
      by_case false t = inr (delete_else id c t)

  fewer : (c : Block) (w : Word) → Has g.blocks c → Has (block_words (delete_in id c)) w → Has (block_words c) w
  fewer c w h k = by_case (is_b c h)
    where
      in_b : Has (block_words (delete_in id b)) w → Has (block_words b) w
      in_b i = by_part (has_append front ws w (subst (λ (l : List Word). Has l w) n_words i))
        where
          into : Has (front ++ word_of b x ∷ ws) w → Has (block_words b) w
          into j = subst (λ (l : List Word). Has l w) (sym b_words) j

          by_part : Has front w ⊎ Has ws w → Has (block_words b) w
          by_part (inl j) = into (append_left front (word_of b x ∷ ws) w j)
          by_part (inr j) = into (append_right front (word_of b x ∷ ws) w (inr j))

      by_case : (b ≡ c) ⊎ (delete_in id c ≡ c) → Has (block_words c) w
      by_case (inl e) = subst (λ (y : Block). Has (block_words y) w) e (in_b (subst (λ (y : Block). Has (block_words (delete_in id y)) w) (sym e) k))
      by_case (inr e) = subst (λ (y : Block). Has (block_words y) w) e k

  last_jumps : JumpsLast (IsKeptLanding g) g.blocks
  last_jumps = jumps_last (IsKeptLanding g) g whole.form

  reads : (c : Block) (r : ℕ) → Has g.blocks c → r < 31 → reads_first (block_words (delete_in id c)) r ≡ true → reads_first (block_words c) r ≡ true
  reads c r h l e = by_case (is_b c h)
    where
      in_b : reads_first (block_words (delete_in id b)) r ≡ true → reads_first (block_words b) r ≡ true
      in_b i =
          ap (λ (z : List Word). reads_first z r) b_words
          ∙ reads_more (word_of b x) ws (outs b.label) r l (dead r) front (ap (λ (z : List Word). reads_first z r) (sym n_words) ∙ i)

      by_case : (b ≡ c) ⊎ (delete_in id c ≡ c) → reads_first (block_words c) r ≡ true
      by_case (inl s) = subst (λ (y : Block). reads_first (block_words y) r ≡ true) s (in_b (subst (λ (y : Block). reads_first (block_words (delete_in id y)) r ≡ true) (sym s) e))
      by_case (inr s) = subst (λ (y : Block). reads_first (block_words y) r ≡ true) s e

  written : (c n : Block) (r : ℕ) → Enters g c n → r < 31 → masks n.label r ≡ true → written_in (block_words (delete_in id c)) r ≡ false → written_in (block_words c) r ≡ false
  written c n r t l k u = by_case (is_b c (enters_has t))
    where
      enters_has : {c n : Block} → Enters g c n → Has g.blocks c
      enters_has {c} {n} (falls_in y o f) = (next_has g.blocks c n y).0
      enters_has {c} {n} (jumps_in w hc hn s j) = hc

      in_b : outs b.label r ≡ true → written_in (block_words (delete_in id b)) r ≡ false → written_in (block_words b) r ≡ false
      in_b o i =
          ap (λ (z : List Word). written_in z r) b_words
          ∙ written_less (word_of b x) ws (outs b.label) r l (dead r) front o (ap (λ (z : List Word). written_in z r) (sym n_words) ∙ i)

      by_case : (b ≡ c) ⊎ (delete_in id c ≡ c) → written_in (block_words c) r ≡ false
      by_case (inl s) =
          subst (λ (y : Block). written_in (block_words y) r ≡ false) s
          (in_b (ap (λ (y : Block). outs y.label r) s ∙ are.covers c n r t l k) (subst (λ (y : Block). written_in (block_words (delete_in id y)) r ≡ false) (sym s) u))
      by_case (inr s) = subst (λ (y : Block). written_in (block_words y) r ≡ false) s u

  -- the masks still pass the check
  pub masks_after : MaskChecked masks (deleted g id)
  masks_after = masks_stay g (deleted g id) (delete_in id) refl refl refl (λ c. refl) (λ c. refl) fewer last_jumps masks checked reads written

  -- and no more may be read behind any block
  pub outs_after : (less : Place → ℕ → Bool) → AreOuts masks less (deleted g id) → (c : Block) (r : ℕ) → Has (deleted g id).blocks c → r < 31 → less c.label r ≡ true → outs c.label r ≡ true
  outs_after less new c r h l e = outs_shrink g (deleted g id) (delete_in id) refl refl refl (λ c. refl) (λ c. refl) fewer last_jumps masks checked reads written outs less are new c r h l e
