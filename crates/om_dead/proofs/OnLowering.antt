-- Masks that go down, and that they pass the check still.
use Rattle.std.proofs.Common.{◌≡◌, ◌≢◌, ◌⊎◌, inl, inr, ◌<◌, ◌*◌, ◌^◌, ℕ, zero, suc, Bool, true, false, not, nat_eq, List, [], ◌∷◌, ◌++◌, Option, Some, length, get_or, get_or-set_same, get_or-set_other, refl, sym, ap, ◌∙◌, subst, arith}
use Rattle.std.specs.Int.{bit_at, bit_not, w32}
use Rattle.std.specs.Int.Bits.{bit_and, bit_or}
use Rattle.std.proofs.Math.ListN.{set}
use Rattle.std.proofs.lemmas.List.{length-set}
use Rattle.std.proofs.lemmas.Bool.{true≢false, eqb-true, eq-eqb}
use Rattle.std.proofs.lemmas.Nat.Bits.{and_pow, bit_at_or, bit_at_and, bit_at-lt, bit_at-pow_same, bit_at-pow_other, bit_at_not}
use Rattle.om_flow.proofs.Spreading.{same_or_not}
use Rattle.om_graph.specs.View.{Block, GraphView, Has}
use Rattle.om_graph.specs.Held.{IsGraph}
use Rattle.om_graph.specs.Run.{block_words}
use Rattle.om_graph.specs.Checks.{Enters, reads_first, written_in}
use Rattle.om_graph.specs.Outs.{outs_of}
use Rattle.om_graph.proofs.Outs.{are_outs}
use Rattle.om_blocks.specs.declared.exits.Exit.{Exit}
use Rattle.om_blocks.specs.Exits.{last_exit, next_fallen}
use Rattle.om_blocks.specs.Found.{masks_in, all_registers}
use Rattle.om_blocks.specs.IsFlow.{HasFlow}
use Rattle.om_blocks.proofs.Entering.{Entered, led, by_jump, entered, entering}
use Rattle.om_blocks.proofs.OfFlow.{known_mask}
use Rattle.om_blocks.proofs.Walking.{found_here}
use Rattle.om_live.specs.Outs.{exit_mask, fall_mask}
use Rattle.om_dead.specs.Lowering.{Holds, HandsOnIn, IsClosed, IsLowered}

-- ---- bits

no_times : (n : ℕ) → 0 * n ≡ 0
no_times n = omega arith

bit_two : (b k : ℕ) → b < 2 → (b * 2 ^ k ≡ 0 → ⊥) → b ≡ 1
bit_two zero k l n = absurd (n (no_times (2 ^ k)))
bit_two (suc zero) k l n = refl
bit_two (suc (suc b)) k l n = omega (arith, l)

pow_some : (k : ℕ) → 2 ^ k ≡ 0 → ⊥
pow_some zero e = omega (arith, e)
pow_some (suc k) e = pow_some k (omega (arith, e))

bit_none : (b k : ℕ) → b < 2 → b * 2 ^ k ≡ 0 → b ≡ 0
bit_none zero k l e = refl
bit_none (suc b) k l e = absurd (pow_some k (omega (arith, e)))

pub set_bit : (m r p : ℕ) → p ≡ 2 ^ r → not (nat_eq (bit_and m p) 0) ≡ true → bit_at m r ≡ 1
set_bit m r p is e = bit_two (bit_at m r) r (bit_at-lt m r) (λ z. none (nat_eq (bit_and m p) 0) e (eq-eqb (bit_and m p) 0 (ap (bit_and m) is ∙ and_pow m r ∙ z)))
  where
    none : (t : Bool) → not t ≡ true → t ≡ true → ⊥
    none true e f = true≢false (sym e)
    none false e f = true≢false (sym f)

pub no_bit : (m r p : ℕ) → p ≡ 2 ^ r → not (nat_eq (bit_and m p) 0) ≡ false → bit_at m r ≡ 0
no_bit m r p is e = bit_none (bit_at m r) r (bit_at-lt m r) (sym (and_pow m r) ∙ ap (bit_and m) (sym is) ∙ eqb-true (bit_and m p) 0 (is_true (nat_eq (bit_and m p) 0) e))
  where
    is_true : (t : Bool) → not t ≡ false → t ≡ true
    is_true true e = refl
    is_true false e = sym e

-- ---- masks by label and by number

abbrev pub Bit : List ℕ → ℕ → ℕ → ℕ
Bit masks id r = bit_at (get_or masks id all_registers) r

module _ (g : GraphView) (graph : IsGraph g) (masks : List ℕ) where
  pub has_bit : (n : Block) (r : ℕ) → Has g.blocks n → Bit masks n.id r ≡ 1 → masks_in g masks n.label r ≡ true
  has_bit n r h e = known_mask g graph masks n r h ∙ eq-eqb (Bit masks n.id r) 1 e

  pub bit_of : (n : Block) (r : ℕ) → Has g.blocks n → masks_in g masks n.label r ≡ true → Bit masks n.id r ≡ 1
  bit_of n r h e = eqb-true (Bit masks n.id r) 1 (sym (known_mask g graph masks n r h) ∙ e)

-- ---- a register is taken out of the masks of a region

not_both : (b : ℕ) → b ≡ 0 → b ≡ 1 → ⊥
not_both b z o = omega (arith, z, o)

module _ (g : GraphView) (graph : IsGraph g) (flow : HasFlow g) (starts ends : List ℕ) (holds : Holds g starts ends) (r : ℕ) (low : r < 31) (region : List ℕ) (closed : IsClosed g starts ends r region) (new : List ℕ)
    (is : IsLowered r region starts new) where
  before : (n : Block) (k : ℕ) → Has g.blocks n → k < 31 → masks_in g new n.label k ≡ true → masks_in g starts n.label k ≡ true
  before n k h l e = has_bit g graph starts n k h (is.less n.id k l (bit_of g graph new n k h e))

  stays : (b : Block) (k : ℕ) → Has g.blocks b → k < 31 → masks_in g starts b.label k ≡ true → (k ≡ r → Has region b.id → ⊥) → masks_in g new b.label k ≡ true
  stays b k h l e not_here = by_case (is.kept b.id k l (bit_of g graph starts b k h e))
    where
      by_case : (Bit new b.id k ≡ 1) ⊎ ((k ≡ r) × Has region b.id) → masks_in g new b.label k ≡ true
      by_case (inl o) = has_bit g graph new b k h o
      by_case (inr o) = absurd (not_here o.0 o.1)

  reads : (b : Block) (k : ℕ) → Has g.blocks b → k < 31 → reads_first (block_words b) k ≡ true → masks_in g new b.label k ≡ true
  reads b k h l e =
      stays b k h l (holds.checked.reads b k h l e)
      (λ same i. true≢false (sym e ∙ ap (reads_first (block_words b)) same ∙ (closed b h i).unread))

  enters : (b n : Block) (k : ℕ) → Enters g b n → k < 31 → masks_in g new n.label k ≡ true → written_in (block_words b) k ≡ false → masks_in g new b.label k ≡ true
  enters b n k e l m w = stays b k h.0 l (holds.checked.enters b n k e l (before n k h.1 l m) w) (λ same i. by_way same (closed b h.0 i) (ap (written_in (block_words b)) (sym same) ∙ w) (entered g graph flow b n e))
    where
      h : Has g.blocks b × Has g.blocks n
      h = entering g b n e

      bit : k ≡ r → Bit new n.id r ≡ 1
      bit same = ap (Bit new n.id) (sym same) ∙ bit_of g graph new n k h.1 m

      by_target : k ≡ r → (Bit starts n.id r ≡ 0) ⊎ Has region n.id → ⊥
      by_target same (inl z) = not_both (Bit starts n.id r) z (is.less n.id r low (bit same))
      by_target same (inr i) = not_both (Bit new n.id r) (is.gone n.id i (holds.room n.id (found_here g graph n n.id h.1 refl).1).0) (bit same)

      by_way : k ≡ r → HandsOnIn g starts ends r region b → written_in (block_words b) r ≡ false → Entered g graph flow b n → ⊥
      by_way same x w (led q) = by_target same (x.led w n.id q)
      by_way same x w (by_jump q k) =
          not_both (bit_at (get_or ends b.id 0) r) (x.jumped w q)
          (holds.covered b r h.0 low ((are_outs g graph.blocks (masks_in g starts)).covers b n r e low (has_bit g graph starts n r h.1 (is.less n.id r low (bit same)))))

  pub lowered_holds : Holds g new ends
  lowered_holds = record {
    room = λ id live. let k = holds.room id live in (subst (λ (n : ℕ). id < n) (sym is.size) k.0, k.1);
    checked = record { reads = reads; enters = enters };
    covered = λ b k h l e.
        let n = (are_outs g graph.blocks (masks_in g new)).only b k h l e in
        holds.covered b k h l ((are_outs g graph.blocks (masks_in g starts)).covers b n.0 k n.1 l (before n.0 k (entering g b n.0 n.1).1 l n.2));
  }

-- one block more
pub lowered_first : (r : ℕ) (masks : List ℕ) → IsLowered r [] masks masks
lowered_first r masks = record {
  size = refl;
  less = λ id k l e. e;
  gone = λ id h. absurd h;
  kept = λ id k l e. inl e;
}

has_more : (done : List ℕ) (b id : ℕ) → Has (done ++ b ∷ []) id → Has done id ⊎ (b ≡ id)
has_more [] b id (inl e) = inr e
has_more [] b id (inr h) = absurd h
has_more (x ∷ done) b id (inl e) = inl (inl e)
has_more (x ∷ done) b id (inr h) = elim (has_more done b id h) [ inl k ↦ inl (inr k) | inr e ↦ inr e ]

pub has_left : (done more : List ℕ) (id : ℕ) → Has done id → Has (done ++ more) id
has_left [] more id h = absurd h
has_left (x ∷ done) more id (inl e) = inl e
has_left (x ∷ done) more id (inr h) = inr (has_left done more id h)

pub has_right : (done more : List ℕ) (id : ℕ) → Has more id → Has (done ++ more) id
has_right [] more id h = h
has_right (x ∷ done) more id h = inr (has_right done more id h)

module _ (r : ℕ) (low : r < 32) (p : ℕ) (p_is : p ≡ 2 ^ r) (small : p < 2 ^ 32) (done old now : List ℕ) (b m : ℕ) (room : b < length now) (m_is : m ≡ get_or now b all_registers) (is : IsLowered r done old now) where
  abbrev e : ℕ
  e = bit_and m (bit_not w32 p)

  less_bit : (k : ℕ) → bit_at e k ≡ 1 → bit_at m k ≡ 1
  less_bit k q = omega (arith, q, bit_at_and m (bit_not w32 p) k, bit_at-lt m k, bit_at-lt (bit_not w32 p) k)

  gone_bit : bit_at e r ≡ 0
  gone_bit =
      let o : bit_at p r ≡ 1 = ap (λ (n : ℕ). bit_at n r) p_is ∙ bit_at-pow_same r in
      omega (arith, o, bit_at_and m (bit_not w32 p) r, bit_at_not w32 p r small low)

  kept_bit : (k : ℕ) → k < 31 → k ≢ r → bit_at m k ≡ 1 → bit_at e k ≡ 1
  kept_bit k l n q =
      let z : bit_at p k ≡ 0 = ap (λ (x : ℕ). bit_at x k) p_is ∙ bit_at-pow_other r k n in
      omega (arith, l, q, z, bit_at_and m (bit_not w32 p) k, bit_at_not w32 p k small (omega (arith, l)))

  here : get_or (set now b e) b all_registers ≡ e
  here = get_or-set_same now b e all_registers room

  other : (id : ℕ) → id ≢ b → get_or (set now b e) id all_registers ≡ get_or now id all_registers
  other id n = get_or-set_other now b id e all_registers n

  here_bit : (id k : ℕ) → id ≡ b → Bit (set now b e) id k ≡ bit_at e k
  here_bit id k q = ap (λ (i : ℕ). Bit (set now b e) i k) q ∙ ap (λ (n : ℕ). bit_at n k) here

  old_bit : (id k : ℕ) → id ≡ b → Bit now id k ≡ bit_at m k
  old_bit id k q = ap (λ (i : ℕ). Bit now i k) q ∙ ap (λ (n : ℕ). bit_at n k) (sym m_is)

  other_bit : (id k : ℕ) → id ≢ b → Bit (set now b e) id k ≡ Bit now id k
  other_bit id k n = ap (λ (x : ℕ). bit_at x k) (other id n)

  pub lowered_more : IsLowered r (done ++ b ∷ []) old (set now b e)
  lowered_more = record {
    size = length-set now b e ∙ is.size;
    less = λ id k l q. less id k l q (same_or_not id b);
    gone = λ id h l. gone id l (has_more done b id h) (same_or_not id b);
    kept = λ id k l q. kept id k l (is.kept id k l q) (same_or_not id b) (same_or_not k r);
  }
    where
      less : (id k : ℕ) → k < 31 → Bit (set now b e) id k ≡ 1 → (id ≡ b) ⊎ (id ≢ b) → Bit old id k ≡ 1
      less id k l q (inl s) = is.less id k l (old_bit id k s ∙ less_bit k (sym (here_bit id k s) ∙ q))
      less id k l q (inr n) = is.less id k l (sym (other_bit id k n) ∙ q)

      gone : (id : ℕ) → id < length old → Has done id ⊎ (b ≡ id) → (id ≡ b) ⊎ (id ≢ b) → Bit (set now b e) id r ≡ 0
      gone id l h (inl s) = here_bit id r s ∙ gone_bit
      gone id l (inl h) (inr n) = other_bit id r n ∙ is.gone id h l
      gone id l (inr s) (inr n) = absurd (n (sym s))

      kept :
          (id k : ℕ) → k < 31 → (Bit now id k ≡ 1) ⊎ ((k ≡ r) × Has done id) → (id ≡ b) ⊎ (id ≢ b) → (k ≡ r) ⊎ (k ≢ r) →
          (Bit (set now b e) id k ≡ 1) ⊎ ((k ≡ r) × Has (done ++ b ∷ []) id)
      kept id k l (inr h) s t = inr (h.0, has_left done (b ∷ []) id h.1)
      kept id k l (inl q) (inl s) (inl t) = inr (t, has_right done (b ∷ []) id (inl (sym s)))
      kept id k l (inl q) (inl s) (inr n) = inl (here_bit id k s ∙ kept_bit k l n (sym (old_bit id k s) ∙ q))
      kept id k l (inl q) (inr n) t = inl (other_bit id k n ∙ q)

-- ---- what may be read from the end of a block on is found again

module _ (g : GraphView) (graph : IsGraph g) (flow : HasFlow g) (starts ends : List ℕ) (holds : Holds g starts ends) (x : Block) (hx : Has g.blocks x) where
  abbrev at_exit : ℕ
  at_exit = exit_mask starts (get_or ends x.id 0) (last_exit g x.last)

  abbrev at_fall : ℕ
  at_fall = fall_mask starts (next_fallen g x.id x.last)

  left_bit : (r : ℕ) → bit_at at_exit r ≡ 1 → bit_at (bit_or at_exit at_fall) r ≡ 1
  left_bit r e = omega (arith, e, bit_at_or at_exit at_fall r, bit_at-lt at_fall r)

  right_bit : (r : ℕ) → bit_at at_fall r ≡ 1 → bit_at (bit_or at_exit at_fall) r ≡ 1
  right_bit r e = omega (arith, e, bit_at_or at_exit at_fall r, bit_at-lt at_exit r)

  covers : (r : ℕ) → r < 31 → outs_of g (masks_in g starts) x.label r ≡ true → bit_at (bit_or at_exit at_fall) r ≡ 1
  covers r l e =
      let n = (are_outs g graph.blocks (masks_in g starts)).only x r hx l e in
      by_way n.0 (bit_of g graph starts n.0 r (entering g x n.0 n.1).1 n.2) (entered g graph flow x n.0 n.1)
    where
      by_way : (n : Block) → Bit starts n.id r ≡ 1 → Entered g graph flow x n → bit_at (bit_or at_exit at_fall) r ≡ 1
      by_way n m (led (inl q)) = left_bit r (ap (λ (y : Exit). bit_at (exit_mask starts (get_or ends x.id 0) y) r) q ∙ m)
      by_way n m (led (inr q)) = right_bit r (ap (λ (o : Option ℕ). bit_at (fall_mask starts o) r) q ∙ m)
      by_way n m (by_jump q k) =
          left_bit r (ap (λ (y : Exit). bit_at (exit_mask starts (get_or ends x.id 0) y) r) q ∙ holds.covered x r hx l e)

  pub end_found : (b e : ℕ) → x.id ≡ b → e ≡ bit_or at_exit at_fall → Holds g starts (set ends b e)
  end_found b e same is = record {
    room = λ id live. let k = holds.room id live in (k.0, subst (λ (n : ℕ). id < n) (sym (length-set ends b e)) k.1);
    checked = holds.checked;
    covered = λ c r h l o. covered c r h l o (same_or_not c.id b);
  }
    where
      one : (c : Block) → Has g.blocks c → c.id ≡ b → x ≡ c
      one c h q =
          let s : Some x ≡ Some c = sym (found_here g graph x b hx same).0 ∙ (found_here g graph c b h q).0 in
          cc

      covered : (c : Block) (r : ℕ) → Has g.blocks c → r < 31 → outs_of g (masks_in g starts) c.label r ≡ true → (c.id ≡ b) ⊎ (c.id ≢ b) → bit_at (get_or (set ends b e) c.id 0) r ≡ 1
      covered c r h l o (inl q) =
          ap (λ (i : ℕ). bit_at (get_or (set ends b e) i 0) r) q
          ∙ ap (λ (n : ℕ). bit_at n r) (get_or-set_same ends b e 0 (holds.room b (found_here g graph x b hx same).1).1 ∙ is)
          ∙ covers r l (subst (λ (y : Block). outs_of g (masks_in g starts) y.label r ≡ true) (sym (one c h q)) o)
      covered c r h l o (inr n) = ap (λ (v : ℕ). bit_at v r) (get_or-set_other ends b c.id e 0 n) ∙ holds.covered c r h l o

-- ---- lists of numbers

pub has_at : (xs : List ℕ) (i d : ℕ) → i < length xs → Has xs (get_or xs i d)
has_at [] i d l = omega (arith, l)
has_at (x ∷ xs) zero d l = inl refl
has_at (x ∷ xs) (suc i) d l = inr (has_at xs i d (omega (arith, l)))

pub index_of : (xs : List ℕ) (x d : ℕ) → Has xs x → (i : ℕ) × (i < length xs) × (get_or xs i d ≡ x)
index_of [] x d h = absurd h
index_of (y ∷ xs) x d (inl e) = (0, omega arith, e)
index_of (y ∷ xs) x d (inr h) = let k = index_of xs x d h in let l = k.1 in (suc k.0, omega (arith, l), k.2)

pub get_left : (xs ys : List ℕ) (i d : ℕ) → i < length xs → get_or (xs ++ ys) i d ≡ get_or xs i d
get_left [] ys i d l = omega (arith, l)
get_left (x ∷ xs) ys zero d l = refl
get_left (x ∷ xs) ys (suc i) d l = get_left xs ys i d (omega (arith, l))
