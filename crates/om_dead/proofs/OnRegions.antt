-- Regions that grow, block by block.
use Rattle.std.proofs.Common.{◌≡◌, ◌⊎◌, inl, inr, ◌<◌, ◌≤◌, ◌+◌, ℕ, true, false, List, [], ◌∷◌, ◌++◌, Some, length, get_or, refl, sym, ap, ◌∙◌, subst, arith}
use Rattle.std.specs.Int.{bit_at}
use Rattle.std.proofs.lemmas.List.{get_or_default}
use Rattle.om_flow.proofs.Among.{below_or_not}
use Rattle.om_graph.specs.View.{Block, GraphView, Has, is_live_block}
use Rattle.om_graph.specs.Run.{block_words}
use Rattle.om_graph.specs.Checks.{reads_first, written_in}
use Rattle.om_blocks.specs.declared.effects.Effect.{Effect}
use Rattle.om_blocks.specs.declared.exits.Exit.TheVariants as exit
use Rattle.om_blocks.specs.Effects.{DoAll}
use Rattle.om_blocks.specs.Exits.{last_exit, next_fallen}
use Rattle.om_dead.specs.Lowering.{HandsOnIn, IsClosed, AreLive, IsSpread}
use Rattle.om_dead.proofs.OnLowering.{has_left, has_right, index_of, get_left, Bit}

-- ---- blocks that are put behind others

no_more : (xs : List ℕ) → xs ≡ xs ++ []
no_more [] = refl
no_more (x ∷ xs) = ap (λ (l : List ℕ). x ∷ l) (no_more xs)

append_all : (xs ys zs : List ℕ) → (xs ++ ys) ++ zs ≡ xs ++ (ys ++ zs)
append_all [] ys zs = refl
append_all (x ∷ xs) ys zs = ap (λ (l : List ℕ). x ∷ l) (append_all xs ys zs)

has_both : (xs ys : List ℕ) (id : ℕ) → Has (xs ++ ys) id → Has xs id ⊎ Has ys id
has_both [] ys id h = inr h
has_both (x ∷ xs) ys id (inl e) = inl (inl e)
has_both (x ∷ xs) ys id (inr h) = elim (has_both xs ys id h) [ inl k ↦ inl (inr k) | inr k ↦ inr k ]

pub spread_none : (g : GraphView) (xs : List ℕ) → IsSpread g xs xs
spread_none g xs = record { more = []; is = no_more xs; live = λ id h. absurd h }

pub spread_one : (g : GraphView) (xs new : List ℕ) (b : ℕ) → is_live_block g b ≡ true → new ≡ xs ++ b ∷ [] → IsSpread g xs new
spread_one g xs new b live e = record { more = b ∷ []; is = e; live = live_one }
  where
    live_one : AreLive g (b ∷ [])
    live_one id (inl s) = subst (λ (i : ℕ). is_live_block g i ≡ true) s live
    live_one id (inr h) = absurd h

pub spread_both : (g : GraphView) (xs ys zs : List ℕ) → IsSpread g xs ys → IsSpread g ys zs → IsSpread g xs zs
spread_both g xs ys zs a b = record {
  more = a.more ++ b.more;
  is = b.is ∙ ap (λ (l : List ℕ). l ++ b.more) a.is ∙ append_all xs a.more b.more;
  live = λ id h. elim (has_both a.more b.more id h) [ inl k ↦ a.live id k | inr k ↦ b.live id k ];
}

pub spread_has : (g : GraphView) (xs ys : List ℕ) (id : ℕ) → IsSpread g xs ys → Has xs id → Has ys id
spread_has g xs ys id s h = subst (λ (l : List ℕ). Has l id) (sym s.is) (has_left xs s.more id h)

pub spread_live : (g : GraphView) (xs ys : List ℕ) → AreLive g xs → IsSpread g xs ys → AreLive g ys
spread_live g xs ys live s id h = elim (has_both xs s.more id (subst (λ (l : List ℕ). Has l id) s.is h)) [ inl k ↦ live id k | inr k ↦ s.live id k ]

pub put_has : (xs new : List ℕ) (b : ℕ) → new ≡ xs ++ b ∷ [] → Has new b
put_has xs new b e = subst (λ (l : List ℕ). Has l b) (sym e) (has_right xs (b ∷ []) b (inl refl))

-- ---- a block hands on

pub hands_more : (g : GraphView) (starts ends : List ℕ) (r : ℕ) (xs ys : List ℕ) (x : Block) → IsSpread g xs ys → HandsOnIn g starts ends r xs x → HandsOnIn g starts ends r ys x
hands_more g starts ends r xs ys x s h = record {
  unread = h.unread;
  led = λ w id l. elim (h.led w id l) [ inl z ↦ inl z | inr k ↦ inr (spread_has g xs ys id s k) ];
  jumped = h.jumped;
}

not_one : (t : ℕ) → t ≡ 0 → t ≡ 1 → ⊥
not_one t z o = omega (arith, z, o)

module _ (g : GraphView) (starts ends : List ℕ) (r : ℕ) (low : r < 31) (region : List ℕ) (x : Block) (table : ℕ) (e : Effect) (does : DoAll table (block_words x) e) where
  unread : bit_at e.reads r ≡ 0 → reads_first (block_words x) r ≡ false
  unread z = by_bit (reads_first (block_words x) r) refl
    where
      by_bit : (t : _) → reads_first (block_words x) r ≡ t → t ≡ false
      by_bit true q = absurd (not_one (bit_at e.reads r) z ((does.reads r low).1 q))
      by_bit false q = refl

  -- it writes the register
  pub hands_written : bit_at e.reads r ≡ 0 → bit_at e.writes r ≡ 1 → HandsOnIn g starts ends r region x
  hands_written z o = record {
    unread = unread z;
    led = λ w id l. absurd (none w);
    jumped = λ w j. absurd (none w);
  }
    where
      none : written_in (block_words x) r ≡ false → ⊥
      none w = not_one (bit_at e.writes r) ((does.writes r low).1 w) o

  pub hands_there :
      bit_at e.reads r ≡ 0 → ((id : ℕ) → last_exit g x.last ≡ exit.Block id → (Bit starts id r ≡ 0) ⊎ Has region id) → ((id : ℕ) → next_fallen g x.id x.last ≡ Some id → (Bit starts id r ≡ 0) ⊎ Has region id) →
      (last_exit g x.last ≡ exit.ByRegister → bit_at (get_or ends x.id 0) r ≡ 0) → HandsOnIn g starts ends r region x
  hands_there z first second jump = record {
    unread = unread z;
    led = λ w id l. elim l [ inl s ↦ first id s | inr s ↦ second id s ];
    jumped = λ w j. jump j;
  }

-- ---- the blocks so far hand on

pub record Spreading (g : GraphView) (starts ends : List ℕ) (r i : ℕ) (blocks : List ℕ) : Type 0 where
  pub live : AreLive g blocks
  pub done : (j : ℕ) → j < i → j < length blocks → (x : Block) → Has g.blocks x → x.id ≡ get_or blocks j 0 → HandsOnIn g starts ends r blocks x

pub spreading_first : (g : GraphView) (starts ends : List ℕ) (r : ℕ) (none blocks : List ℕ) (b : ℕ) → none ≡ [] → is_live_block g b ≡ true → blocks ≡ none ++ b ∷ [] → Spreading g starts ends r 0 blocks
spreading_first g starts ends r none blocks b e live is = record {
  live = live_one;
  done = λ j l. absurd (omega (arith, l));
}
  where
    all : IsSpread g [] blocks
    all = spread_one g [] blocks b live (is ∙ ap (λ (l : List ℕ). l ++ b ∷ []) e)

    live_one : AreLive g blocks
    live_one = spread_live g [] blocks (λ id h. absurd h) all

pub spreading_more :
    (g : GraphView) (starts ends : List ℕ) (r i : ℕ) (blocks new : List ℕ) (b : ℕ) → i < length blocks → b ≡ get_or blocks i b → Spreading g starts ends r i blocks → IsSpread g blocks new →
    ((x : Block) → Has g.blocks x → x.id ≡ b → HandsOnIn g starts ends r new x) → Spreading g starts ends r (i + 1) new
spreading_more g starts ends r i blocks new b room is s spread hands = record {
  live = spread_live g blocks new s.live spread;
  done = λ j l m x h e. done j l x h e (below_or_not j i);
}
  where
    same : (j : ℕ) → j < length blocks → get_or new j 0 ≡ get_or blocks j 0
    same j l = ap (λ (k : List ℕ). get_or k j 0) spread.is ∙ get_left blocks spread.more j 0 l

    done : (j : ℕ) → j < i + 1 → (x : Block) → Has g.blocks x → x.id ≡ get_or new j 0 → (j < i) ⊎ (i ≤ j) → HandsOnIn g starts ends r new x
    done j l x h e (inl k) = hands_more g starts ends r blocks new x spread (s.done j k (omega (arith, k, room)) x h (e ∙ same j (omega (arith, k, room))))
    done j l x h e (inr k) =
        let q : j ≡ i = omega (arith, l, k) in
        hands x h (e ∙ ap (λ (n : ℕ). get_or new n 0) q ∙ same i room ∙ get_or_default blocks i 0 b room ∙ sym is)

pub all_closed : (g : GraphView) (starts ends : List ℕ) (r i : ℕ) (blocks : List ℕ) → length blocks ≤ i → Spreading g starts ends r i blocks → IsClosed g starts ends r blocks
all_closed g starts ends r i blocks l s x h k =
    let n = index_of blocks x.id 0 k in
    let m = n.1 in
    s.done n.0 (omega (arith, l, m)) n.1 x h (sym n.2)
