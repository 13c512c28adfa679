-- Blocks that are filled in, with the landing places, are the flow of their graph.
use Rattle.std.proofs.Common.{◌≡◌, ◌≢◌, ◌⊎◌, inl, inr, ◌<◌, ◌≤◌, ◌+◌, ◌^◌, ℕ, zero, true, List, [], ◌∷◌, ◌++◌, Option, Some, None, get_or, length, refl, sym, ap, ◌∙◌, subst, arith}
use Rattle.std.specs.Prelude.{flat_map}
use Rattle.std.specs.Int.{bit_at}
use Rattle.std.proofs.Math.ListN.{get_or-eq_default}
use Rattle.std.proofs.lemmas.Nat.Bits.{bit_at-zero}
use Rattle.om_value.specs.declared.value.Place.{Place}
use Rattle.om_prog.specs.Act.{Word}
use Rattle.om_flow.specs.declared.parts.Flow.{Flow}
use Rattle.om_flow.specs.declared.parts.FlowBlock.{FlowBlock}
use Rattle.om_flow.specs.declared.parts.Transfer.{Transfer}
use Rattle.om_flow.specs.declared.parts.Transfer.TheVariants.{Keep}
use Rattle.om_flow.specs.Edges.{IsAmong, Edge}
use Rattle.om_flow.specs.Hub.{GoesTo, Along, ByJump}
use Rattle.om_flow.specs.Seen.{pair_of, edges_of, transfers_of, reads_of, writes_of, IsFlowInside}
use Rattle.om_flow.specs.Facts.{transfer_at}
use Rattle.om_flow.specs.Masks.{number_at}
use Rattle.om_flow.proofs.Spreading.{same_or_not}
use Rattle.om_flow.proofs.Among.{below_or_not}
use Rattle.om_flow.proofs.Fields.{field_at, field_last, field_past, field_count}
use Rattle.om_graph.specs.declared.op.Last.{Last}
use Rattle.om_graph.specs.declared.op.Last.TheVariants as last
use Rattle.om_graph.specs.View.{Block, GraphView, Has, labelled, is_live_block}
use Rattle.om_graph.specs.Held.{IsGraph}
use Rattle.om_graph.specs.Kept.{Named}
use Rattle.om_graph.specs.Run.{block_words, words, graph_script, table_of, entry_of}
use Rattle.om_graph.specs.Checks.{Enters}
use Rattle.om_blocks.specs.IsFlow.{HasFlow, NoNumber, IsFlow, behind}
use Rattle.om_blocks.specs.declared.exits.Exit.{Exit}
use Rattle.om_blocks.specs.declared.exits.Exit.TheVariants as exit
use Rattle.om_blocks.specs.Exits.{last_exit, next_fallen}
use Rattle.om_blocks.specs.Filling.{no_block, exit_number, first_number, second_number, number_at_label, or_none, AreFilled, numbers_at, list_of, word_lands}
use Rattle.om_blocks.proofs.Walking.{found_here}
use Rattle.om_blocks.proofs.OfFlow.{same_id, numbered, Numbered}
use Rattle.om_blocks.proofs.LastWords.{listed_named, named_listed, AtLabel, at_none, at_block, at_label}
use Rattle.om_blocks.proofs.Entering.{label_is, labelled_block, exit_block, fallen_block, enters_led, enters_named, Entered, led, by_jump, entered, entering}

among_both : (xs ys : List ℕ) (x : ℕ) → IsAmong (xs ++ ys) x → IsAmong xs x ⊎ IsAmong ys x
among_both [] ys x h = inr h
among_both (y ∷ xs) ys x (inl e) = inl (inl e)
among_both (y ∷ xs) ys x (inr h) = elim (among_both xs ys x h) [ inl k ↦ inl (inr k) | inr k ↦ inr k ]

among_left : (xs ys : List ℕ) (x : ℕ) → IsAmong xs x → IsAmong (xs ++ ys) x
among_left [] ys x h = absurd h
among_left (y ∷ xs) ys x (inl e) = inl e
among_left (y ∷ xs) ys x (inr h) = inr (among_left xs ys x h)

among_right : (xs ys : List ℕ) (x : ℕ) → IsAmong ys x → IsAmong (xs ++ ys) x
among_right [] ys x h = h
among_right (y ∷ xs) ys x h = inr (among_right xs ys x h)

-- a number that is listed is that of a place
listed_place : (g : GraphView) (qs : List Place) (i : ℕ) → IsAmong (numbers_at g qs) i → (q : Place) × Has qs q × (labelled g q ≡ Some i)
listed_place g [] i h = absurd h
listed_place g (q ∷ qs) i h = by_case (among_both (list_of (labelled g q)) (numbers_at g qs) i h) (listed_place g qs i)
  where
    one : (o : Option ℕ) → IsAmong (list_of o) i → o ≡ Some i
    one None k = absurd k
    one (Some j) (inl e) = ap Some e
    one (Some j) (inr k) = absurd k

    by_case : IsAmong (list_of (labelled g q)) i ⊎ IsAmong (numbers_at g qs) i → (IsAmong (numbers_at g qs) i → (p : Place) × Has qs p × (labelled g p ≡ Some i)) → (p : Place) × Has (q ∷ qs) p × (labelled g p ≡ Some i)
    by_case (inl k) again = (q, inl refl, one (labelled g q) k)
    by_case (inr k) again = let r = again k in (r.0, inr r.1, r.2)

place_listed : (g : GraphView) (qs : List Place) (q : Place) (i : ℕ) → Has qs q → labelled g q ≡ Some i → IsAmong (numbers_at g qs) i
place_listed g [] q i h e = absurd h
place_listed g (p ∷ qs) q i (inl s) e =
    among_left (list_of (labelled g p)) (numbers_at g qs) i (subst (λ (o : Option ℕ). IsAmong (list_of o) i) (sym (ap (labelled g) s ∙ e)) (inl refl))
place_listed g (p ∷ qs) q i (inr h) e = among_right (list_of (labelled g p)) (numbers_at g qs) i (place_listed g qs q i h e)

some_id : (a b : ℕ) → Some a ≡ Some b → a ≡ b
some_id a b e = cc

module _ (g : GraphView) (graph : IsGraph g) (flow : HasFlow g) (outside : ℕ) (rows : (id : ℕ) → is_live_block g id ≡ true → id < outside) where
  low : (b : Block) → Has g.blocks b → b.id < outside
  low b h = rows b.id (found_here g graph b b.id h refl).1

  -- ---- the numbers of exits

  -- a label's number is none's, or its block's
  label_low : (q : Place) (id : ℕ) → labelled g q ≡ Some id → id < outside
  label_low q id e = let r = labelled_block g q id e in let l = low r.0 r.1 in subst (λ (i : ℕ). i < outside) r.3 l

  exit_low : (l : Last) (id : ℕ) → last_exit g l ≡ exit.Block id → id < outside
  exit_low l id e = let r = exit_block g l id e in let h = low r.0 r.1 in subst (λ (i : ℕ). i < outside) r.2 h

  fall_low : (b : ℕ) (l : Last) (id : ℕ) → next_fallen g b l ≡ Some id → id < outside
  fall_low b l id e = let r = fallen_block g b l id e in let h = low r.0 r.1 in subst (λ (i : ℕ). i < outside) r.2 h

  exit_is : (e : Exit) (id : ℕ) → id < outside → exit_number outside e ≡ id → e ≡ exit.Block id
  exit_is exit.Nowhere id h s = absurd (omega (arith, h, s))
  exit_is (exit.Block k) id h s = ap exit.Block s
  exit_is exit.ByRegister id h s = absurd (omega (arith, h, s))

  hub_exit : (e : Exit) → ((id : ℕ) → e ≡ exit.Block id → id < outside) → exit_number outside e ≡ outside + 1 → e ≡ exit.ByRegister
  hub_exit exit.Nowhere f s = absurd (omega (arith, s))
  hub_exit (exit.Block k) f s = let h = f k refl in absurd (omega (arith, h, s))
  hub_exit exit.ByRegister f s = refl

  exit_le : (e : Exit) → ((id : ℕ) → e ≡ exit.Block id → id < outside) → exit_number outside e ≤ outside + 1
  exit_le exit.Nowhere f = omega arith
  exit_le (exit.Block k) f = let h = f k refl in omega (arith, h)
  exit_le exit.ByRegister f = omega arith

  or_is : (o : Option ℕ) (id : ℕ) → id < outside → or_none outside o ≡ id → o ≡ Some id
  or_is None id h s = absurd (omega (arith, h, s))
  or_is (Some k) id h s = ap Some s

  or_le : (o : Option ℕ) → ((id : ℕ) → o ≡ Some id → id < outside) → or_none outside o ≤ outside
  or_le None f = omega arith
  or_le (Some k) f = let h = f k refl in omega (arith, h)

  number_le : (q : Place) → number_at_label g outside q ≤ outside
  number_le q = or_le (labelled g q) (label_low q)

  number_of : (q : Place) (n : Block) → Has g.blocks n → number_at_label g outside q ≡ n.id → q ≡ n.label
  number_of q n hn e =
      let r = labelled_block g q n.id (or_is (labelled g q) n.id (low n hn) e) in
      sym r.2 ∙ ap (λ (x : Block). x.label) (same_id g.blocks r.0 n graph.block_ids r.1 hn r.3)

  of_number : (q : Place) (n : Block) → Has g.blocks n → q ≡ n.label → number_at_label g outside q ≡ n.id
  of_number q n hn e = ap (number_at_label g outside) e ∙ ap (or_none outside) (label_is g graph n hn)

  second_le : (id : ℕ) (l : Last) → second_number g outside id l ≤ outside
  second_le id l = or_le (next_fallen g id l) (fall_low id l)

  first_le : (l : Last) → first_number g outside l ≤ outside + 1
  first_le l = exit_le (last_exit g l) (exit_low l)

  enters_first : (b n : Block) → Has g.blocks b → Has g.blocks n → first_number g outside b.last ≡ n.id → Enters g b n
  enters_first b n hb hn e = enters_led g graph flow b n hb hn (inl (exit_is (last_exit g b.last) n.id (low n hn) e))

  enters_second : (b n : Block) → Has g.blocks b → Has g.blocks n → second_number g outside b.id b.last ≡ n.id → Enters g b n
  enters_second b n hb hn e = enters_led g graph flow b n hb hn (inr (or_is (next_fallen g b.id b.last) n.id (low n hn) e))

  module _ (v : List FlowBlock) (filled : AreFilled g outside g.blocks v) (lands : List ℕ) (landed : lands ≡ numbers_at g (g.roots ++ flat_map word_lands (words g))) where
    abbrev next : List (List ℕ)
    next = edges_of v lands

    abbrev hub : ℕ
    hub = length v

    abbrev at : ℕ → FlowBlock
    at i = get_or v i (no_block outside)

    hub_is : hub ≡ outside + 1
    hub_is = filled.size

    pair : (i : ℕ) → i < hub → get_or next i [] ≡ (at i).first ∷ (at i).second ∷ []
    pair i h = field_at pair_of v (lands ∷ []) i (no_block outside) [] h

    at_hub : get_or next hub [] ≡ lands
    at_hub = field_last pair_of v lands []

    -- the edges of a number
    data EdgeIs (i j : ℕ) : Type 0 where
      first_is : i < hub → (at i).first ≡ j → EdgeIs i j
      second_is : i < hub → (at i).second ≡ j → EdgeIs i j
      land_is : i ≡ hub → IsAmong lands j → EdgeIs i j

    edge_is : (i j : ℕ) → Edge next i j → EdgeIs i j
    edge_is i j e = by_place (below_or_not i hub) (same_or_not i hub)
      where
        by_pair : i < hub → IsAmong ((at i).first ∷ (at i).second ∷ []) j → EdgeIs i j
        by_pair h (inl k) = first_is h k
        by_pair h (inr (inl k)) = second_is h k
        by_pair h (inr (inr k)) = absurd k

        by_place : (i < hub) ⊎ (hub ≤ i) → (i ≡ hub) ⊎ (i ≢ hub) → EdgeIs i j
        by_place (inl h) s = by_pair h (subst (λ (l : List ℕ). IsAmong l j) (pair i h) e.among)
        by_place (inr h) (inl s) = land_is s (subst (λ (l : List ℕ). IsAmong l j) at_hub (subst (λ (k : ℕ). IsAmong (get_or next k []) j) s e.among))
        by_place (inr h) (inr n) =
            absurd (subst (λ (l : List ℕ). IsAmong l j) (get_or-eq_default next [] (let c = field_count pair_of v lands in omega (arith, h, n, c))) e.among)

    first_edge : (i j : ℕ) → i < hub → (at i).first ≡ j → Edge next i j
    first_edge i j h e = record { among = subst (λ (l : List ℕ). IsAmong l j) (sym (pair i h)) (inl e) }

    second_edge : (i j : ℕ) → i < hub → (at i).second ≡ j → Edge next i j
    second_edge i j h e = record { among = subst (λ (l : List ℕ). IsAmong l j) (sym (pair i h)) (inr (inl e)) }

    land_edge : (j : ℕ) → IsAmong lands j → Edge next hub j
    land_edge j h = record { among = subst (λ (l : List ℕ). IsAmong l j) (sym at_hub) h }

    -- ---- numbers

    in_lands : (n : Block) → Has g.blocks n → IsAmong lands n.id → Named g n.label
    in_lands n hn h =
        let r = listed_place g (g.roots ++ flat_map word_lands (words g)) n.id (subst (λ (l : List ℕ). IsAmong l n.id) landed h) in
        subst (Named g) (same r.0 r.2 (at_label g r.0)) (listed_named g r.0 r.1)
      where
        same : (q : Place) → labelled g q ≡ Some n.id → AtLabel g q (labelled g q) → q ≡ n.label
        same q e (at_none f) = cc
        same q e (at_block m hm l f) = sym l ∙ ap (λ (x : Block). x.label) (same_id g.blocks m n graph.block_ids hm hn (some_id m.id n.id (sym f ∙ e)))

    to_lands : (n : Block) → Has g.blocks n → Named g n.label → IsAmong lands n.id
    to_lands n hn h =
        subst (λ (l : List ℕ). IsAmong l n.id) (sym landed)
        (place_listed g (g.roots ++ flat_map word_lands (words g)) n.label n.id (named_listed g n.label h) (label_is g graph n hn))

    lands_low : (j : ℕ) → IsAmong lands j → j < outside
    lands_low j h =
        let r = listed_place g (g.roots ++ flat_map word_lands (words g)) j (subst (λ (l : List ℕ). IsAmong l j) landed h) in
        by_label r.0 r.2 (at_label g r.0)
      where
        by_label : (q : Place) → labelled g q ≡ Some j → AtLabel g q (labelled g q) → j < outside
        by_label q e (at_none f) = cc
        by_label q e (at_block m hm l f) = subst (λ (i : ℕ). i < outside) (some_id m.id j (sym f ∙ e)) (low m hm)

    -- ---- from block to block

    -- ---- edges are edges of the graph

    enters_by : (b n : Block) → Has g.blocks b → Has g.blocks n → first_number g outside b.last ≡ hub → IsAmong lands n.id → Enters g b n
    enters_by b n hb hn e h = enters_named g graph flow b n hb hn (hub_exit (last_exit g b.last) (exit_low b.last) (e ∙ hub_is)) (in_lands n hn h)

    inside_hub : (b : Block) → Has g.blocks b → b.id < hub
    inside_hub b h = let l = low b h in omega (arith, l, hub_is)

    not_hub : (b : Block) → Has g.blocks b → b.id ≡ hub → ⊥
    not_hub b h e = let l = low b h in omega (arith, l, hub_is, e)

    pub to_enters : (b n : Block) → Has g.blocks b → Has g.blocks n → GoesTo next hub b.id n.id → Enters g b n
    to_enters b n hb hn (Along x y e) = by_edge (edge_is b.id n.id e)
      where
        by_edge : EdgeIs b.id n.id → Enters g b n
        by_edge (first_is h k) = enters_first b n hb hn (sym (filled.each b hb).first ∙ k)
        by_edge (second_is h k) = enters_second b n hb hn (sym (filled.each b hb).second ∙ k)
        by_edge (land_is k h) = absurd (x k)
    to_enters b n hb hn (ByJump d e) = by_edge (edge_is b.id hub d) (edge_is hub n.id e)
      where
        by_land : first_number g outside b.last ≡ hub → EdgeIs hub n.id → Enters g b n
        by_land s (first_is h k) = absurd (omega (arith, h))
        by_land s (second_is h k) = absurd (omega (arith, h))
        by_land s (land_is k h) = enters_by b n hb hn s h

        by_edge : EdgeIs b.id hub → EdgeIs hub n.id → Enters g b n
        by_edge (first_is h k) l = by_land (sym (filled.each b hb).first ∙ k) l
        by_edge (second_is h k) l = let s = (filled.each b hb).second in let m = second_le b.id b.last in absurd (omega (arith, s, k, m, hub_is))
        by_edge (land_is k h) l = absurd (not_hub b hb k)

    along : (b n : Block) → Has g.blocks b → Has g.blocks n → Edge next b.id n.id → GoesTo next hub b.id n.id
    along b n hb hn e = Along (not_hub b hb) (not_hub n hn) e

    pub of_enters : (b n : Block) → Enters g b n → GoesTo next hub b.id n.id
    of_enters b n e = by_case (entered g graph flow b n e)
      where
        both : Has g.blocks b × Has g.blocks n
        both = entering g b n e

        by_case : Entered g graph flow b n → GoesTo next hub b.id n.id
        by_case (led (inl s)) = along b n both.0 both.1 (first_edge b.id n.id (inside_hub b both.0) ((filled.each b both.0).first ∙ ap (exit_number outside) s))
        by_case (led (inr s)) = along b n both.0 both.1 (second_edge b.id n.id (inside_hub b both.0) ((filled.each b both.0).second ∙ ap (or_none outside) s))
        by_case (by_jump s k) = ByJump (first_edge b.id hub (inside_hub b both.0) ((filled.each b both.0).first ∙ ap (exit_number outside) s ∙ sym hub_is)) (land_edge n.id (to_lands n both.1 k))

    -- ---- other numbers

    none_at : (i : ℕ) → NoNumber g i → at i ≡ no_block outside
    none_at i n = filled.rest i n

    outside_none : (j : ℕ) → outside ≡ j → NoNumber g j
    outside_none j e b h s = let l = low b h in omega (arith, l, e, s)

    others : (i j : ℕ) → NoNumber g i → GoesTo next hub i j → NoNumber g j
    others i j n (Along x y e) = by_edge (edge_is i j e)
      where
        by_edge : EdgeIs i j → NoNumber g j
        by_edge (first_is h k) = outside_none j (sym (ap (λ (b : FlowBlock). b.first) (none_at i n)) ∙ k)
        by_edge (second_is h k) = outside_none j (sym (ap (λ (b : FlowBlock). b.second) (none_at i n)) ∙ k)
        by_edge (land_is k h) = absurd (x k)
    others i j n (ByJump d e) = by_edge (edge_is i hub d)
      where
        by_edge : EdgeIs i hub → NoNumber g j
        by_edge (first_is h k) = let s = ap (λ (b : FlowBlock). b.first) (none_at i n) in absurd (omega (arith, s, k, hub_is))
        by_edge (second_is h k) = let s = ap (λ (b : FlowBlock). b.second) (none_at i n) in absurd (omega (arith, s, k, hub_is))
        by_edge (land_is k h) = let l = lands_low hub h in absurd (omega (arith, l, hub_is))

    -- ---- the flow is inside

    targets_low : (i : ℕ) → Numbered g.blocks i ⊎ NoNumber g i → ((at i).first ≤ hub) × ((at i).second ≤ hub)
    targets_low i (inl m) =
        let b = m.0 in
        let f = (filled.each b m.1).first in
        let s = (filled.each b m.1).second in
        let x = first_le b.last in
        let y = second_le b.id b.last in
        (subst (λ (k : ℕ). (at k).first ≤ hub) m.2 (omega (arith, f, x, hub_is)), subst (λ (k : ℕ). (at k).second ≤ hub) m.2 (omega (arith, s, y, hub_is)))
    targets_low i (inr n) =
        let f = ap (λ (b : FlowBlock). b.first) (none_at i n) in
        let s = ap (λ (b : FlowBlock). b.second) (none_at i n) in
        (omega (arith, f, hub_is), omega (arith, s, hub_is))

    edges_low : (i j : ℕ) → Edge next i j → j < length next
    edges_low i j e = by_edge (edge_is i j e)
      where
        count : length next ≡ hub + 1
        count = field_count pair_of v lands

        by_edge : EdgeIs i j → j < length next
        by_edge (first_is h k) = let t = (targets_low i (numbered g.blocks i)).0 in omega (arith, t, k, count)
        by_edge (second_is h k) = let t = (targets_low i (numbered g.blocks i)).1 in omega (arith, t, k, count)
        by_edge (land_is k h) = let l = lands_low j h in omega (arith, l, hub_is, count)

    write_fits : (i : ℕ) → Numbered g.blocks i ⊎ NoNumber g i → (i < hub) ⊎ (hub ≤ i) → get_or (writes_of v) i 0 < 2 ^ 32
    write_fits i (inl m) (inl h) =
        let e : get_or (writes_of v) i 0 ≡ (at i).writes = field_at (λ x. x.writes) v (0 ∷ []) i (no_block outside) 0 h in
        let f : (at i).writes < 2 ^ 32 = subst (λ (k : ℕ). (at k).writes < 2 ^ 32) m.2 (filled.each m.0 m.1).fits in
        omega (arith, e, f)
    write_fits i (inr n) (inl h) =
        let e : get_or (writes_of v) i 0 ≡ (at i).writes = field_at (λ x. x.writes) v (0 ∷ []) i (no_block outside) 0 h in
        let f = ap (λ (b : FlowBlock). b.writes) (none_at i n) in
        omega (arith, e, f)
    write_fits i k (inr h) = let e : get_or (writes_of v) i 0 ≡ 0 = field_past (λ x. x.writes) v 0 i h in omega (arith, e)

    module _ (small : outside + 2 < 2 ^ 32) (entry : ℕ) (starts : entry ≡ number_at_label g outside (entry_of g.roots)) where
      is_inside : IsFlowInside v lands entry
      is_inside = record {
        small = omega (arith, small, hub_is);
        edges = record { inside = λ i. record { below = λ j m. edges_low i j (record { among = m }) } };
        landing = record { below = λ j m. let l = lands_low j m in omega (arith, l, hub_is) };
        fits = λ i. write_fits i (numbered g.blocks i) (below_or_not i hub);
        entered = let l = number_le (entry_of g.roots) in omega (arith, l, starts, hub_is);
      }

      transfer_is : (b : Block) → Has g.blocks b → transfer_at (transfers_of v) b.id ≡ (at b.id).transfer
      transfer_is b h = field_at (λ x. x.transfer) v (Keep ∷ []) b.id (no_block outside) Keep (inside_hub b h)

      reads_is : (b : Block) → Has g.blocks b → number_at (reads_of v) b.id ≡ (at b.id).reads
      reads_is b h = field_at (λ x. x.reads) v (0 ∷ []) b.id (no_block outside) 0 (inside_hub b h)

      writes_is : (b : Block) → Has g.blocks b → number_at (writes_of v) b.id ≡ (at b.id).writes
      writes_is b h = field_at (λ x. x.writes) v (0 ∷ []) b.id (no_block outside) 0 (inside_hub b h)

      table_here : (b : Block) → Has g.blocks b → (w : Word) → Has (block_words b) w → table_of g w.at.obj ≡ table_of g b.label.obj
      table_here b hb w hw = ap (table_of g) (flow.places.words b w hb hw).object

      no_reads : (i : ℕ) → NoNumber g i → (i < hub) ⊎ (hub ≤ i) → number_at (reads_of v) i ≡ 0
      no_reads i n (inl h) = field_at (λ x. x.reads) v (0 ∷ []) i (no_block outside) 0 h ∙ ap (λ (b : FlowBlock). b.reads) (none_at i n)
      no_reads i n (inr h) = field_past (λ x. x.reads) v 0 i h

      no_bare : (i : ℕ) → Numbered g.blocks i ⊎ NoNumber g i → bit_at (number_at (reads_of v) i) 31 ≡ 0
      no_bare i (inl m) = subst (λ (k : ℕ). bit_at (number_at (reads_of v) k) 31 ≡ 0) m.2 (ap (λ (x : ℕ). bit_at x 31) (reads_is m.0 m.1) ∙ (filled.each m.0 m.1).effect.bare)
      no_bare i (inr n) = ap (λ (m : ℕ). bit_at m 31) (no_reads i n (below_or_not i hub)) ∙ bit_at-zero 31

      pub is_flow : (f : Flow) → f.blocks.items ≡ v → f.lands.items ≡ lands → f.entry ≡ entry → IsFlow g f
      is_flow f a b c = rw_all
        where
          rw_all : IsFlow g f
          rw_all = record {
            inside = rw (a, b, c) is_inside;
            numbers = λ x h. rw a (inside_hub x h);
            goes = λ x n hx hn. rw (a, b) (λ e. to_enters x n hx hn e, λ e. of_enters x n e);
            others = λ i j n. rw (a, b) (others i j n);
            entry = λ x h. rw (c, starts) (λ e. sym (number_of (entry_of g.roots) x h e), λ e. of_number (entry_of g.roots) x h (sym e));
            transfer = λ p x y h. rw a ((filled.each x h).effect.transfer (graph_script p g) y (table_here x h) ∙ ap (λ (t : Transfer). behind t y) (sym (transfer_is x h)));
            reads = λ x r h l. rw (a, reads_is x h) ((filled.each x h).effect.reads r l);
            writes = λ x r h l. rw (a, writes_is x h) ((filled.each x h).effect.writes r l);
            bare = λ i. rw a (no_bare i (numbered g.blocks i));
            silent = λ i r n. rw a (ap (λ (m : ℕ). bit_at m r) (no_reads i n (below_or_not i hub)) ∙ bit_at-zero r);
          }
