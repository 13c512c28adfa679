-- The registers that may be read from the ends of blocks on, put together.
use Rattle.std.proofs.Common.{◌≡◌, ◌≢◌, ◌⊎◌, inl, inr, ◌<◌, ℕ, Bool, true, false, List, [], ◌∷◌, ◌++◌, Option, Some, None, replicate, length, get_or, get_or-set_same, get_or-set_other, refl, sym, ap, ◌∙◌, subst, arith}
use Rattle.std.specs.Prelude.{option_map}
use Rattle.std.specs.Int.{bit_at}
use Rattle.std.specs.Int.Bits.{bit_or}
use Rattle.std.proofs.Math.ListN.{set}
use Rattle.std.proofs.lemmas.List.{length-set, length-replicate}
use Rattle.std.proofs.lemmas.Bool.{true≢false, eqb-true, eq-eqb}
use Rattle.std.proofs.lemmas.Nat.Bits.{bit_at-zero, bit_at-lt, bit_at_or}
use Rattle.om_flow.proofs.Spreading.{same_or_not}
use Rattle.om_value.specs.declared.value.Place.{Place}
use Rattle.om_graph.specs.declared.op.Last.{Last}
use Rattle.om_graph.specs.View.{Block, GraphView, Has, is_live_block, last_of}
use Rattle.om_graph.specs.Held.{IsGraph}
use Rattle.om_graph.specs.Checks.{Enters}
use Rattle.om_graph.specs.Outs.{outs_of}
use Rattle.om_graph.proofs.Outs.{are_outs}
use Rattle.om_blocks.specs.declared.exits.Exit.{Exit}
use Rattle.om_blocks.specs.declared.exits.Exit.TheVariants as exit
use Rattle.om_blocks.specs.Exits.{last_exit, next_fallen}
use Rattle.om_blocks.specs.IsFlow.{HasFlow}
use Rattle.om_blocks.specs.Found.{masks_in, all_registers}
use Rattle.om_blocks.proofs.OfFlow.{known_mask}
use Rattle.om_blocks.proofs.Entering.{exit_block, fallen_block, enters_led, enters_named, Entered, led, by_jump, entered, entering}
use Rattle.om_blocks.proofs.LastWords.{has_both}
use Rattle.om_blocks.proofs.Walking.{found_here}
use Rattle.om_live.specs.Outs.{IsOut, AreLanded, exit_mask, fall_mask, AreOuts}

-- ---- one block

not_one : (b : ℕ) → b < 2 → (b ≡ 1 → ⊥) → b ≡ 0
not_one b l f = omega (arith, l, f)

not_zero : (b : ℕ) → b < 2 → (b ≡ 0 → ⊥) → b ≡ 1
not_zero b l f = omega (arith, l, f)

module _ (g : GraphView) (graph : IsGraph g) (flow : HasFlow g) (masks : List ℕ) (landed : ℕ) (are : AreLanded g masks landed) where
  abbrev Mask : Block → ℕ
  Mask n = get_or masks n.id all_registers

  has_bit : (n : Block) (r : ℕ) → Has g.blocks n → bit_at (Mask n) r ≡ 1 → masks_in g masks n.label r ≡ true
  has_bit n r h e = known_mask g graph masks n r h ∙ eq-eqb (bit_at (Mask n) r) 1 e

  bit_of : (n : Block) (r : ℕ) → Has g.blocks n → masks_in g masks n.label r ≡ true → bit_at (Mask n) r ≡ 1
  bit_of n r h e = eqb-true (bit_at (Mask n) r) 1 (sym (known_mask g graph masks n r h) ∙ e)

  module _ (x : Block) (hx : Has g.blocks x) where
    abbrev a : ℕ
    a = exit_mask masks landed (last_exit g x.last)

    abbrev b : ℕ
    b = fall_mask masks (next_fallen g x.id x.last)

    covers : (n : Block) (r : ℕ) → Enters g x n → r < 31 → bit_at (Mask n) r ≡ 1 → outs_of g (masks_in g masks) x.label r ≡ true
    covers n r e l m = (are_outs g graph.blocks (masks_in g masks)).covers x n r e l (has_bit n r (entering g x n e).1 m)

    -- what the last word's end gives
    exit_out : (r : ℕ) → r < 31 → (e : Exit) → last_exit g x.last ≡ e → bit_at (exit_mask masks landed e) r ≡ 1 → outs_of g (masks_in g masks) x.label r ≡ true
    exit_out r l exit.Nowhere q m = let z = bit_at-zero r in absurd (omega (arith, z, m))
    exit_out r l (exit.Block id) q m =
        let n = exit_block g x.last id q in
        covers n.0 r (enters_led g graph flow x n.0 hx n.1 (inl (q ∙ ap exit.Block (sym n.2)))) l
        (ap (λ (i : ℕ). bit_at (get_or masks i all_registers) r) n.2 ∙ m)
    exit_out r l exit.ByRegister q m = by_out (outs_of g (masks_in g masks) x.label r) refl
      where
        by_out : (t : Bool) → outs_of g (masks_in g masks) x.label r ≡ t → t ≡ true
        by_out true e = refl
        by_out false e =
            let z = (are.lacks r l).1 (λ n hn k. not_one (bit_at (Mask n) r) (bit_at-lt (Mask n) r) (λ s. true≢false (sym (covers n r (enters_named g graph flow x n hx hn q k) l s) ∙ e))) in
            absurd (omega (arith, z, m))

    fall_out : (r : ℕ) → r < 31 → (o : Option ℕ) → next_fallen g x.id x.last ≡ o → bit_at (fall_mask masks o) r ≡ 1 → outs_of g (masks_in g masks) x.label r ≡ true
    fall_out r l None q m = let z = bit_at-zero r in absurd (omega (arith, z, m))
    fall_out r l (Some id) q m =
        let n = fallen_block g x.id x.last id q in
        covers n.0 r (enters_led g graph flow x n.0 hx n.1 (inr (q ∙ ap (λ (i : ℕ). Some i) (sym n.2)))) l
        (ap (λ (i : ℕ). bit_at (get_or masks i all_registers) r) n.2 ∙ m)

    forth : (r : ℕ) → r < 31 → bit_at (bit_or a b) r ≡ 1 → outs_of g (masks_in g masks) x.label r ≡ true
    forth r l m = by_case (same_or_not (bit_at a r) 1)
      where
        by_case : (bit_at a r ≡ 1) ⊎ (bit_at a r ≢ 1) → outs_of g (masks_in g masks) x.label r ≡ true
        by_case (inl e) = exit_out r l (last_exit g x.last) refl e
        by_case (inr n) = fall_out r l (next_fallen g x.id x.last) refl (omega (arith, m, n, bit_at_or a b r, bit_at-lt a r, bit_at-lt b r))

    left_bit : (r : ℕ) → bit_at a r ≡ 1 → bit_at (bit_or a b) r ≡ 1
    left_bit r e = omega (arith, e, bit_at_or a b r, bit_at-lt b r)

    right_bit : (r : ℕ) → bit_at b r ≡ 1 → bit_at (bit_or a b) r ≡ 1
    right_bit r e = omega (arith, e, bit_at_or a b r, bit_at-lt a r)

    back : (r : ℕ) → r < 31 → outs_of g (masks_in g masks) x.label r ≡ true → bit_at (bit_or a b) r ≡ 1
    back r l e =
        let n = (are_outs g graph.blocks (masks_in g masks)).only x r hx l e in
        let hn = (entering g x n.0 n.1).1 in
        by_way n.0 (bit_of n.0 r hn n.2) hn (entered g graph flow x n.0 n.1)
      where
        by_way : (n : Block) → bit_at (Mask n) r ≡ 1 → Has g.blocks n → Entered g graph flow x n → bit_at (bit_or a b) r ≡ 1
        by_way n m hn (led (inl q)) = left_bit r (ap (λ (e : Exit). bit_at (exit_mask masks landed e) r) q ∙ m)
        by_way n m hn (led (inr q)) = right_bit r (ap (λ (o : Option ℕ). bit_at (fall_mask masks o) r) q ∙ m)
        by_way n m hn (by_jump q k) =
            left_bit r (ap (λ (e : Exit). bit_at (exit_mask masks landed e) r) q ∙ not_zero (bit_at landed r) (bit_at-lt landed r) (λ z. let s = (are.lacks r l).0 z n hn k in omega (arith, s, m)))

    pub is_out : IsOut g (masks_in g masks) x.label (bit_or a b)
    is_out r l = (forth r l, back r l)

pub last_is : (g : GraphView) → IsGraph g → (x : Block) (b : ℕ) (last : Last) → Has g.blocks x → x.id ≡ b → last_of g b ≡ Some last → x.last ≡ last
last_is g graph x b last hx same e =
    let k : Some x.last ≡ Some last = sym (ap (option_map (λ (y : Block). y.last)) (found_here g graph x b hx same).0) ∙ e in
    cc

-- ---- all blocks

module _ (g : GraphView) (graph : IsGraph g) (masks : Place → ℕ → Bool) where
  pub outs_first : (n : ℕ) → ((id : ℕ) → is_live_block g id ≡ true → id < n) → AreOuts g masks [] (replicate n 0)
  outs_first n low = record {
    among = λ b h. absurd h;
    room = λ id live. let k = low id live in let z = length-replicate {A = ℕ} n 0 in omega (arith, k, z);
    each = λ b h. absurd h;
  }

  pub outs_more :
      (done : List Block) (x : Block) (k e : ℕ) (made : List ℕ) → Has g.blocks x → x.id ≡ k → IsOut g masks x.label e →
      AreOuts g masks done made → AreOuts g masks (done ++ x ∷ []) (set made k e)
  outs_more done x k e made hx same is old = record {
    among = λ b h. among b (has_both done (x ∷ []) b h);
    room = λ id live. let l = old.room id live in omega (arith, l, length-set made k e);
    each = λ b h. each b (same_or_not b.id k) (has_both done (x ∷ []) b h);
  }
    where
      among : (b : Block) → Has done b ⊎ Has (x ∷ []) b → Has g.blocks b
      among b (inl h) = old.among b h
      among b (inr (inl s)) = subst (λ (y : Block). Has g.blocks y) s hx
      among b (inr (inr h)) = absurd h

      low : k < length made
      low = old.room k (found_here g graph x k hx same).1

      one : (b c : Block) → Has g.blocks b → Has g.blocks c → b.id ≡ k → c.id ≡ k → b ≡ c
      one b c hb hc i j =
          let q : Some b ≡ Some c = sym (found_here g graph b k hb i).0 ∙ (found_here g graph c k hc j).0 in
          cc

      here : (b : Block) → b.id ≡ k → b ≡ x → IsOut g masks b.label (get_or (set made k e) b.id 0)
      here b i s =
          let v : get_or (set made k e) b.id 0 ≡ e = ap (λ (j : ℕ). get_or (set made k e) j 0) i ∙ get_or-set_same made k e 0 low in
          subst (λ (n : ℕ). IsOut g masks b.label n) (sym v) (subst (λ (y : Block). IsOut g masks y.label e) (sym s) is)

      each : (b : Block) → (b.id ≡ k) ⊎ (b.id ≢ k) → Has done b ⊎ Has (x ∷ []) b → IsOut g masks b.label (get_or (set made k e) b.id 0)
      each b (inl i) (inl h) = here b i (one b x (old.among b h) hx i same)
      each b (inl i) (inr (inl s)) = here b i (sym s)
      each b (inl i) (inr (inr h)) = absurd h
      each b (inr n) (inl h) = subst (λ (m : ℕ). IsOut g masks b.label m) (sym (get_or-set_other made k b.id e 0 n)) (old.each b h)
      each b (inr n) (inr (inl s)) = absurd (n (ap (λ (y : Block). y.id) (sym s) ∙ same))
      each b (inr n) (inr (inr h)) = absurd h
