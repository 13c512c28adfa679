-- The parts of the check, put together.
use Rattle.std.proofs.Common.{◌≡◌, ◌≢◌, ◌⊎◌, inl, inr, ◌<◌, ◌≤◌, ◌-◌, ◌^◌, ℕ, true, false, List, [], ◌∷◌, ◌++◌, Some, get_or, refl, sym, ap, ◌∙◌, subst, arith}
use Rattle.std.specs.Prelude.{option_map}
use Rattle.std.specs.Int.{bit_at, bit_not, w32}
use Rattle.std.specs.Int.Bits.{bit_and, bit_or}
use Rattle.std.proofs.lemmas.Bool.{eqb-true, eq-eqb}
use Rattle.std.proofs.lemmas.Nat.Bits.{bit_at_or, bit_at_and, bit_at-lt, bit_at-zero, bit_at_ones, bit_at_ones_above, bit_at_not, same_from_bits}
use Rattle.om_flow.proofs.Spreading.{same_or_not}
use Rattle.om_flow.proofs.Among.{below_or_not}
use Rattle.om_graph.specs.declared.op.Last.{Last}
use Rattle.om_graph.specs.View.{Block, GraphView, Has, block_of, last_of}
use Rattle.om_graph.specs.Held.{IsGraph}
use Rattle.om_graph.specs.Kept.{Named}
use Rattle.om_graph.specs.Run.{block_words, table_of}
use Rattle.om_graph.specs.Checks.{Enters, reads_first, written_in, MaskChecked}
use Rattle.om_blocks.specs.declared.effects.Effect.{Effect}
use Rattle.om_blocks.specs.declared.exits.Exit.{Exit}
use Rattle.om_blocks.specs.declared.exits.Exit.TheVariants.{Nowhere, Block as ToBlock, ByRegister}
use Rattle.om_blocks.specs.Effects.{DoAll}
use Rattle.om_blocks.specs.Exits.{last_exit, next_fallen, Leads, JumpsBy}
use Rattle.om_blocks.specs.IsFlow.{HasFlow}
use Rattle.om_blocks.specs.Found.{masks_in, all_registers}
use Rattle.om_blocks.proofs.OfFlow.{known_mask}
use Rattle.om_blocks.proofs.Entering.{exit_block, fallen_block, enters_led, enters_named, Entered, led, by_jump, entered, entering}
use Rattle.om_blocks.proofs.OnFilling.{found_id}
use Rattle.om_live.specs.Passing.{Covers, with_exit, Passes, PassesMore}
use Rattle.om_live.specs.Outs.{AreLanded}

-- ---- bits

-- what is live, not written and in no mask
abbrev pub missing : ℕ → ℕ → ℕ → ℕ
missing mask live writes = bit_and (bit_and (bit_and live (bit_not w32 writes)) (bit_not w32 mask)) (2 ^ 31 - 1)

missing_bit : (mask live writes r : ℕ) → mask < 2 ^ 32 → writes < 2 ^ 32 → r < 31 → bit_at live r ≡ 1 → bit_at writes r ≡ 0 → bit_at mask r ≡ 0 → bit_at (missing mask live writes) r ≡ 1
missing_bit mask live writes r m w l a b c =
    omega (
      arith,
      l,
      a,
      b,
      c,
      bit_at_and (bit_and (bit_and live (bit_not w32 writes)) (bit_not w32 mask)) (2 ^ 31 - 1) r,
      bit_at_and (bit_and live (bit_not w32 writes)) (bit_not w32 mask) r,
      bit_at_and live (bit_not w32 writes) r,
      bit_at_not w32 writes r w (omega (arith, l)),
      bit_at_not w32 mask r m (omega (arith, l)),
      bit_at_ones 31 r l,
    )

pub none_missing : (mask live writes : ℕ) → mask < 2 ^ 32 → writes < 2 ^ 32 → missing mask live writes ≡ 0 → Covers mask live writes
none_missing mask live writes m w e r l a b = by_case (same_or_not (bit_at mask r) 1)
  where
    by_case : (bit_at mask r ≡ 1) ⊎ (bit_at mask r ≢ 1) → bit_at mask r ≡ 1
    by_case (inl k) = k
    by_case (inr n) =
        let z : bit_at mask r ≡ 0 = omega (arith, n, bit_at-lt mask r) in
        let one = missing_bit mask live writes r m w l a b z in
        let none : bit_at (missing mask live writes) r ≡ 0 = ap (λ (x : ℕ). bit_at x r) e ∙ bit_at-zero r in
        absurd (omega (arith, one, none))

pub covers_all : (mask live writes : ℕ) → mask < 2 ^ 32 → writes < 2 ^ 32 → Covers mask live writes → missing mask live writes ≡ 0
covers_all mask live writes m w c = same_from_bits (missing mask live writes) 0 (λ i. each i (below_or_not i 31))
  where
    parts : (i : ℕ) → i < 31 → bit_at (missing mask live writes) i ≡ 1 → (bit_at live i ≡ 1) × (bit_at writes i ≡ 0) × (bit_at mask i ≡ 0)
    parts i l e = (
      omega (arith, e, bit_at_and (bit_and (bit_and live (bit_not w32 writes)) (bit_not w32 mask)) (2 ^ 31 - 1) i, bit_at_and (bit_and live (bit_not w32 writes)) (bit_not w32 mask) i, bit_at_and live (bit_not w32 writes) i, bit_at-lt live i),
      omega (arith, l, e, bit_at_and (bit_and (bit_and live (bit_not w32 writes)) (bit_not w32 mask)) (2 ^ 31 - 1) i, bit_at_and (bit_and live (bit_not w32 writes)) (bit_not w32 mask) i, bit_at_and live (bit_not w32 writes) i, bit_at_not w32 writes i w (omega (arith, l))),
      omega (arith, l, e, bit_at_and (bit_and (bit_and live (bit_not w32 writes)) (bit_not w32 mask)) (2 ^ 31 - 1) i, bit_at_and (bit_and live (bit_not w32 writes)) (bit_not w32 mask) i, bit_at_not w32 mask i m (omega (arith, l))),
    )

    each : (i : ℕ) → (i < 31) ⊎ (31 ≤ i) → bit_at (missing mask live writes) i ≡ bit_at 0 i
    each i (inr h) = omega (arith, bit_at_and (bit_and (bit_and live (bit_not w32 writes)) (bit_not w32 mask)) (2 ^ 31 - 1) i, bit_at_ones_above 31 i h, bit_at-zero i)
    each i (inl l) = by_case (same_or_not (bit_at (missing mask live writes) i) 1)
      where
        by_case : (bit_at (missing mask live writes) i ≡ 1) ⊎ (bit_at (missing mask live writes) i ≢ 1) → bit_at (missing mask live writes) i ≡ bit_at 0 i
        by_case (inr n) = omega (arith, n, bit_at-lt (missing mask live writes) i, bit_at-zero i)
        by_case (inl e) =
            let p = parts i l e in
            let one = c i l p.0 p.1 in
            let none = p.2 in
            absurd (omega (arith, one, none))

and_left : (a b r : ℕ) → bit_at (bit_and a b) r ≡ 1 → bit_at a r ≡ 1
and_left a b r e = omega (arith, e, bit_at_and a b r, bit_at-lt a r, bit_at-lt b r)

and_or : (a m w r : ℕ) → bit_at (bit_and a (bit_or m w)) r ≡ 1 → bit_at w r ≡ 0 → bit_at m r ≡ 1
and_or a m w r e z = omega (arith, e, z, bit_at_and a (bit_or m w) r, bit_at_or m w r, bit_at-lt a r, bit_at-lt m r)

and_written : (a m w r : ℕ) → bit_at a r ≡ 1 → bit_at w r ≢ 0 → bit_at (bit_and a (bit_or m w)) r ≡ 1
and_written a m w r e n = omega (arith, e, n, bit_at_and a (bit_or m w) r, bit_at_or m w r, bit_at-lt w r, bit_at-lt m r)

and_masked : (a m w r : ℕ) → bit_at a r ≡ 1 → bit_at m r ≡ 1 → bit_at (bit_and a (bit_or m w)) r ≡ 1
and_masked a m w r e n = omega (arith, e, n, bit_at_and a (bit_or m w) r, bit_at_or m w r, bit_at-lt w r)

-- ---- from block to block

one_more : (done : List Block) (x b : Block) → Has (done ++ x ∷ []) b → Has done b ⊎ (x ≡ b)
one_more [] x b (inl e) = inr e
one_more [] x b (inr h) = absurd h
one_more (c ∷ done) x b (inl e) = inl (inl e)
one_more (c ∷ done) x b (inr h) = elim (one_more done x b h) [ inl k ↦ inl (inr k) | inr e ↦ inr e ]

left_of : (done : List Block) (x b : Block) → Has done b → Has (done ++ x ∷ []) b
left_of [] x b h = absurd h
left_of (c ∷ done) x b (inl e) = inl e
left_of (c ∷ done) x b (inr h) = inr (left_of done x b h)

right_of : (done : List Block) (x : Block) → Has (done ++ x ∷ []) x
right_of [] x = inl refl
right_of (c ∷ done) x = inr (right_of done x)

pub passes_first : (g : GraphView) (masks : List ℕ) → Passes g masks [] (2 ^ 31 - 1)
passes_first g masks = record {
  own = λ b r h. absurd h;
  led = λ b n r h. absurd h;
  jumped = λ b r h. absurd h;
  most = λ r l f. bit_at_ones 31 r l;
}

module _ (g : GraphView) (graph : IsGraph g) (flow : HasFlow g) (masks : List ℕ) where
  abbrev pub Mask : Block → ℕ
  Mask x = get_or masks x.id all_registers

  abbrev Live : Block → ℕ → Type 0
  Live x r = masks_in g masks x.label r ≡ true

  abbrev Unwritten : Block → ℕ → Type 0
  Unwritten x r = written_in (block_words x) r ≡ false

  abbrev pub IsEffect : Block → Effect → Type 0
  IsEffect x e = DoAll (table_of g x.label.obj) (block_words x) e

  -- what the check reads of a block
  pub record IsRead (x : Block) (b : ℕ) (last : Last) (e : Effect) (m : ℕ) : Type 0 where
    pub id : x.id ≡ b
    pub ends : last ≡ x.last
    pub does : IsEffect x e
    pub mask : m ≡ Mask x

  pub read_is :
      (x : Block) (b : ℕ) (last : Last) (e : Effect) (m : ℕ) → block_of g b ≡ Some x → last_of g b ≡ Some last → m ≡ get_or masks b all_registers →
      ((y : Block) → block_of g b ≡ Some y → IsEffect y e) → IsRead x b last e m
  read_is x b last e m here l known all =
      let same : x.id ≡ b = found_id g.blocks b x here in
      record {
        id = same;
        ends = some_last last x.last (sym l ∙ ap (option_map (λ (y : Block). y.last)) here);
        does = all x here;
        mask = known ∙ ap (λ (i : ℕ). get_or masks i all_registers) (sym same);
      }
    where
      some_last : (a b : Last) → Some a ≡ Some b → a ≡ b
      some_last a b e = cc

  has_bit : (x : Block) (r : ℕ) → Has g.blocks x → bit_at (Mask x) r ≡ 1 → Live x r
  has_bit x r h e = known_mask g graph masks x r h ∙ eq-eqb (bit_at (Mask x) r) 1 e

  bit_of : (x : Block) (r : ℕ) → Has g.blocks x → Live x r → bit_at (Mask x) r ≡ 1
  bit_of x r h e = eqb-true (bit_at (Mask x) r) 1 (sym (known_mask g graph masks x r h) ∙ e)

  module _ (x : Block) (e : Effect) (hx : Has g.blocks x) (is : IsEffect x e) where
    -- where the check holds, it holds of the block
    pub own_covers : MaskChecked (masks_in g masks) g → Covers (Mask x) e.reads 0
    own_covers checked r l a b = bit_of x r hx (checked.reads x r hx l ((is.reads r l).0 a))

    pub led_covers : MaskChecked (masks_in g masks) g → (id : ℕ) → Leads g x id → Covers (Mask x) (get_or masks id all_registers) e.writes
    led_covers checked id s =
        let n = led_block s in
        subst (λ (i : ℕ). Covers (Mask x) (get_or masks i all_registers) e.writes) n.2
        (λ r l a b. bit_of x r hx (checked.enters x n.0 r (enters_led g graph flow x n.0 hx n.1 (subst (Leads g x) (sym n.2) s)) l (has_bit n.0 r n.1 a) ((is.writes r l).0 b)))
      where
        led_block : Leads g x id → (n : Block) × Has g.blocks n × (n.id ≡ id)
        led_block (inl s) = exit_block g x.last id s
        led_block (inr s) = fallen_block g x.id x.last id s

    module _
        (out : ℕ) (own : Covers (Mask x) e.reads 0) (first : (id : ℕ) → last_exit g x.last ≡ ToBlock id → Covers (Mask x) (get_or masks id all_registers) e.writes)
        (second : (id : ℕ) → next_fallen g x.id x.last ≡ Some id → Covers (Mask x) (get_or masks id all_registers) e.writes) where
      own_here : (r : ℕ) → r < 31 → reads_first (block_words x) r ≡ true → Live x r
      own_here r l q = has_bit x r hx (own r l ((is.reads r l).1 q) (bit_at-zero r))

      leads_here : (n : Block) (r : ℕ) → Has g.blocks n → Leads g x n.id → r < 31 → Live n r → Unwritten x r → Live x r
      leads_here n r hn (inl s) l m q = has_bit x r hx (first n.id s r l (bit_of n r hn m) ((is.writes r l).1 q))
      leads_here n r hn (inr s) l m q = has_bit x r hx (second n.id s r l (bit_of n r hn m) ((is.writes r l).1 q))

      module _ (done : List Block) (old : Passes g masks done out) where
        own_more : (b : Block) (r : ℕ) → r < 31 → reads_first (block_words b) r ≡ true → Has done b ⊎ (x ≡ b) → Live b r
        own_more b r l q (inl h) = old.own b r h l q
        own_more b r l q (inr s) = subst (λ (z : Block). Live z r) s (own_here r l (subst (λ (z : Block). reads_first (block_words z) r ≡ true) (sym s) q))

        led_more : (b n : Block) (r : ℕ) → Has g.blocks n → Leads g b n.id → r < 31 → Live n r → Unwritten b r → Has done b ⊎ (x ≡ b) → Live b r
        led_more b n r hn s l m q (inl h) = old.led b n r h hn s l m q
        led_more b n r hn s l m q (inr k) =
            subst (λ (z : Block). Live z r) k
            (leads_here n r hn (subst (λ (z : Block). Leads g z n.id) (sym k) s) l m (subst (λ (z : Block). Unwritten z r) (sym k) q))

        stays : (exit : Exit) → last_exit g x.last ≡ exit → (exit ≡ ByRegister → ⊥) → Passes g masks (done ++ x ∷ []) out
        stays exit q none = record {
          own = λ b r h l k. own_more b r l k (one_more done x b h);
          led = λ b n r h hn s l m k. led_more b n r hn s l m k (one_more done x b h);
          jumped = λ b r h j l m k. jumped b r j l m k (one_more done x b h);
          most = λ r l f. old.most r l (λ b h j k. f b (left_of done x b h) j k);
        }
          where
            jumped : (b : Block) (r : ℕ) → JumpsBy g b → r < 31 → bit_at out r ≡ 1 → Unwritten b r → Has done b ⊎ (x ≡ b) → Live b r
            jumped b r j l m k (inl h) = old.jumped b r h j l m k
            jumped b r j l m k (inr s) = absurd (none (sym q ∙ subst (λ (z : Block). last_exit g z.last ≡ ByRegister) (sym s) j))

        joins : last_exit g x.last ≡ ByRegister → Passes g masks (done ++ x ∷ []) (bit_and out (bit_or (Mask x) e.writes))
        joins q = record {
          own = λ b r h l k. own_more b r l k (one_more done x b h);
          led = λ b n r h hn s l m k. led_more b n r hn s l m k (one_more done x b h);
          jumped = λ b r h j l m k. jumped b r j l m k (one_more done x b h);
          most = λ r l f. most r l f (old.most r l (λ b h j k. f b (left_of done x b h) j k)) (same_or_not (bit_at e.writes r) 0);
        }
          where
            jumped : (b : Block) (r : ℕ) → JumpsBy g b → r < 31 → bit_at (bit_and out (bit_or (Mask x) e.writes)) r ≡ 1 → Unwritten b r → Has done b ⊎ (x ≡ b) → Live b r
            jumped b r j l m k (inl h) = old.jumped b r h j l (and_left out (bit_or (Mask x) e.writes) r m) k
            jumped b r j l m k (inr s) =
                subst (λ (z : Block). Live z r) s
                (has_bit x r hx (and_or out (Mask x) e.writes r m ((is.writes r l).1 (subst (λ (z : Block). Unwritten z r) (sym s) k))))

            most :
                (r : ℕ) → r < 31 → ((b : Block) → Has (done ++ x ∷ []) b → JumpsBy g b → Unwritten b r → Live b r) → bit_at out r ≡ 1 → (bit_at e.writes r ≡ 0) ⊎ (bit_at e.writes r ≢ 0) →
                bit_at (bit_and out (bit_or (Mask x) e.writes)) r ≡ 1
            most r l f a (inr n) = and_written out (Mask x) e.writes r a n
            most r l f a (inl z) = and_masked out (Mask x) e.writes r a (bit_of x r hx (f x (right_of done x) q ((is.writes r l).0 z)))

        by_exit : (exit : Exit) → last_exit g x.last ≡ exit → Passes g masks (done ++ x ∷ []) (with_exit exit out (Mask x) e.writes)
        by_exit ByRegister q = joins q
        by_exit Nowhere q = stays Nowhere q (λ s. cc)
        by_exit (ToBlock id) q = stays (ToBlock id) q (λ s. cc)

      pub passes_more : PassesMore g masks x out (with_exit (last_exit g x.last) out (Mask x) e.writes)
      passes_more = record { more = λ done old. by_exit done old (last_exit g x.last) refl }

  -- each jump by a register allows what may be read at landing places
  pub jump_covers :
      (out : ℕ) → MaskChecked (masks_in g masks) g → Passes g masks g.blocks out → (n : Block) → Has g.blocks n → Named g n.label → Covers out (Mask n) 0
  jump_covers out checked passes n hn named r l a b =
      passes.most r l (λ x h j k. checked.enters x n r (enters_named g graph flow x n h hn j named) l (has_bit n r hn a) k)

  pub all_checked :
      (out : ℕ) → Passes g masks g.blocks out → ((n : Block) → Has g.blocks n → Named g n.label → Covers out (Mask n) 0) → MaskChecked (masks_in g masks) g
  all_checked out passes lands = record {
    reads = λ b r h l e. passes.own b r h l e;
    enters = λ b n r e l m q. by_case b n r e l m q (entered g graph flow b n e);
  }
    where
      by_case : (b n : Block) (r : ℕ) → Enters g b n → r < 31 → Live n r → Unwritten b r → Entered g graph flow b n → Live b r
      by_case b n r e l m q (led s) = let h = entering g b n e in passes.led b n r h.0 h.1 s l m q
      by_case b n r e l m q (by_jump j k) =
          let h = entering g b n e in
          passes.jumped b r h.0 j l (lands n h.1 k r l (bit_of n r h.1 m) (bit_at-zero r)) q

  -- a mask has those of each block at a landing place where it has those of their union
  module _ (out landed : ℕ) (are : AreLanded g masks landed) where
    pub landed_covered : Covers out landed 0 → (n : Block) → Has g.blocks n → Named g n.label → Covers out (Mask n) 0
    landed_covered covers n hn named r l a b = covers r l (is_one (same_or_not (bit_at landed r) 0)) b
      where
        is_one : (bit_at landed r ≡ 0) ⊎ (bit_at landed r ≢ 0) → bit_at landed r ≡ 1
        is_one (inl z) = let none = (are.lacks r l).0 z n hn named in absurd (omega (arith, none, a))
        is_one (inr k) = omega (arith, k, bit_at-lt landed r)

    pub covers_landed : ((n : Block) → Has g.blocks n → Named g n.label → Covers out (Mask n) 0) → Covers out landed 0
    covers_landed each r l a b = by_case (same_or_not (bit_at out r) 1)
      where
        by_case : (bit_at out r ≡ 1) ⊎ (bit_at out r ≢ 1) → bit_at out r ≡ 1
        by_case (inl e) = e
        by_case (inr k) =
            let none = (are.lacks r l).1 (λ n hn named. lacks n hn named (same_or_not (bit_at (Mask n) r) 0)) in
            absurd (omega (arith, none, a))
          where
            lacks : (n : Block) → Has g.blocks n → Named g n.label → (bit_at (Mask n) r ≡ 0) ⊎ (bit_at (Mask n) r ≢ 0) → bit_at (Mask n) r ≡ 0
            lacks n hn named (inl z) = z
            lacks n hn named (inr m) = absurd (k (each n hn named r l (omega (arith, m, bit_at-lt (Mask n) r)) (bit_at-zero r)))
