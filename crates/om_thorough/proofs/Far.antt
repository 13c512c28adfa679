-- No kept load of a slot could become LDAH with all of its uses.
use Rattle.std.proofs.Common.{◌≡◌, ℕ, ◌<◌, ◌≤◌, ◌+◌, Bool, true, [], Option, Some, None, refl, ap, ◌∙◌, subst, arith}
use Rattle.std.specs.Prelude.{ℤ, pos, ◌-ℤ◌, ◌+ℤ◌, ◌*ℤ◌, ◌≤ℤ◌, All, is_some, FitsSigned}
use Rattle.std.specs.Int.{w16}
use Rattle.std.proofs.lemmas.Bool.{le-leb, leb-true}
use Rattle.std.proofs.lemmas.Int.{ints}
use Rattle.om_isa.specs.declared.instr.Instr.{Instr}
use Rattle.om_isa.specs.declared.instr.Instr.TheVariants.{Mem, Jump, Branch, Alu, Cmov, Misc, Fnop, Halt, Callsys}
use Rattle.om_isa.specs.Words.{IsInstr}
use Rattle.om_value.specs.declared.value.Place.{Place}
use Rattle.om_value.specs.declared.value.Region.{Region}
use Rattle.om_value.specs.declared.value.Region.TheVariants.{Sec, Common, Stack, Heap}
use Rattle.om_value.specs.declared.value.Target.TheVariants as target
use Rattle.om_value.specs.Same.{region_eq}
use Rattle.om_prog.specs.declared.region.RegionInit.{RegionInit}
use Rattle.om_prog.specs.Act.{Act, Word}
use Rattle.om_prog.specs.View.{ProgramView, init_of, size_of, size_or_none}
use Rattle.om_prog.specs.Valid.{IsProgram, is_given, is_target, is_up_to}
use Rattle.om_graph.specs.View.{Block, GraphView, Has}
use Rattle.om_graph.specs.Run.{block_words}
use Rattle.om_graph.specs.Uses.{IsBaseUse}
use Rattle.om_graph.specs.Fits.{IsHighPart}
use Rattle.om_graph.specs.OfProgram.{IsGraphOf}
use Rattle.om_graph.proofs.Labels.{in_all}
use Rattle.om_graph.proofs.OfProgram.{words_in_place}
use Rattle.om_graph.proofs.Reached.{last_split}
use Rattle.om_graph.proofs.Read.{reads_behind}
use Rattle.om_image.specs.declared.image.Image.{Image}
use Rattle.om_layout.specs.Layout.{LayoutView, gp_of, gp_at, table_at, address_of}
use Rattle.om_layout.specs.Order.{IsDataLayout}
use Rattle.om_layout.specs.Limits.{IsWithinLimits, StaysInLimits}
use Rattle.om_layout.proofs.Limits.{stays}
use Rattle.om_encode.specs.Text.{TextIsTrue}
use Rattle.om_encode.specs.Fields.{HasForm, FieldsAreTrue}
use Rattle.om_lockstep.proofs.Small.{same_region}
use Rattle.om_encode.proofs.Extents.{SizesMatch, sizes_match}
use Rattle.om_encode.proofs.Regions.{IsGiven, located, table_start}
use Rattle.om_encode.proofs.Start.{find_all}
use Rattle.om_encode.proofs.Whole.{all_of}
use Rattle.om_encode.proofs.Sound.{Sound, sound}
use Rattle.om_graph.specs.Left.{AreExactMasks, NoFar, IsFarLoad}
use Rattle.om_thorough.specs.Thorough.{IsUnreadAtEnd}
use Rattle.om_thorough.proofs.Images.{true_word}
use Rattle.om_passes.proofs.Betweens.{last_in}
use Rattle.om_passes.proofs.Sources.{split_at}
use Rattle.om_passes.proofs.Whole.{read_at_end, not_true}

-- the high part of a target of the data, near a base use of it, has 16 signed bits
high_small :
    (a gp : ℕ) (least hi : ℤ) → 0x120000000 ≤ a → a ≤ 0x144000000 → 0x140008000 ≤ gp → gp ≤ 0x144008000 → FitsSigned w16 least →
    (pos 65536 *ℤ hi) ≤ℤ (((pos a -ℤ pos gp) +ℤ least) +ℤ pos 32768) →
    (((pos a -ℤ pos gp) +ℤ least) +ℤ pos 32768) ≤ℤ ((pos 65536 *ℤ hi) +ℤ pos 65535) → FitsSigned w16 hi
high_small a gp least hi al ah gl gh f lo up = omega (arith, ints, al, ah, gl, gh, f, lo, up)

-- the displacement of a base use has 16 signed bits
base_disp : (r : ℕ) (z : ℤ) (i : Instr) → IsInstr i → IsBaseUse r i z → FitsSigned w16 z
base_disp r z (Mem o ra rb d) f b = subst (λ (x : ℤ). FitsSigned w16 x) b.1 f.2
base_disp r z (Jump k ra rb h) f b = absurd b
base_disp r z (Branch o ra d) f b = absurd b
base_disp r z (Alu o ra rb rc) f b = absurd b
base_disp r z (Cmov c ra rb rc) f b = absurd b
base_disp r z (Misc o ra rb) f b = absurd b
base_disp r z Fnop f b = absurd b
base_disp r z Halt f b = absurd b
base_disp r z Callsys f b = absurd b

-- a region that a program gives is no stack and no heap
given_is : (r : Region) → is_given r ≡ true → IsGiven r
given_is (Sec o n) e = tt
given_is (Common n) e = tt
given_is Stack e = cc
given_is Heap e = cc

module _ (p : ProgramView) (prog : IsProgram p) (g : GraphView) (of : IsGraphOf p g) (l : LayoutView) (limits : IsWithinLimits p) (lay : IsDataLayout p g l) where
  inside : StaysInLimits g l
  inside = stays p prog g of limits l lay

  sizes : SizesMatch p l
  sizes = sizes_match p l prog.once lay.extents

  -- where global pointers and bytes of regions are, whatever the order of words
  gp_between : (k : ℕ) → (0x140008000 ≤ gp_at l k) × (gp_at l k ≤ 0x144008000)
  gp_between k =
      let h = table_start p l sizes lay.tables lay.regions inside.data_part k in
      let a = h.0 in
      let b = h.1 in
      (omega (arith, a), omega (arith, b))

  near_between : (r : Region) (x : ℕ) → is_up_to p x (init_of p r) ≡ true → (0x120000000 ≤ address_of l (target.Ptr r x)) × (address_of l (target.Ptr r x) ≤ 0x144000000)
  near_between r x up = by_init (init_of p r) refl up
    where
      by_init : (o : Option RegionInit) → init_of p r ≡ o → is_up_to p x o ≡ true → (0x120000000 ≤ address_of l (target.Ptr r x)) × (address_of l (target.Ptr r x) ≤ 0x144000000)
      by_init None e up = cc
      by_init (Some i) e up =
          let f = find_all (λ (q : RegionInit). is_given q.region ≡ true) (λ (q : RegionInit). region_eq q.region r) p.regions i given_all e in
          let same : i.region ≡ r = same_region i.region r f.1 in
          let d = located p l sizes lay.tables lay.regions inside.data_part r (given_is r (subst (λ q. is_given q ≡ true) same f.0)) in
          let a = d.above in
          let b = d.below in
          let s = ap size_or_none e in
          let u = leb-true x i.size up in
          let m = inside.data_part in
          (omega (arith, a, b, s, u, m), omega (arith, a, b, s, u, m))
        where
          given_all : All (λ (q : RegionInit). is_given q.region ≡ true) p.regions
          given_all = all_of (λ (q : RegionInit). is_given q.region ≡ true) p.regions (λ k q h. (prog.regions.each k q h).form.given)

  -- a byte of a region of the program, or its end
  region_up : (r : Region) (x : ℕ) → is_target p (target.Ptr r x) ≡ true → x ≤ size_of p r → is_up_to p x (init_of p r) ≡ true
  region_up r x k w = by_region r k w
    where
      by_init : (r : Region) (o : Option RegionInit) → init_of p r ≡ o → is_some o ≡ true → x ≤ size_or_none o → is_up_to p x (init_of p r) ≡ true
      by_init r None e k w = cc
      by_init r (Some i) e k w = ap (is_up_to p x) e ∙ le-leb x i.size w

      no_stack : (o : Option RegionInit) → init_of p Stack ≡ o → is_some o ≡ true → ⊥
      no_stack None e k = cc
      no_stack (Some i) e k =
          let b = near_between Stack 0 (ap (is_up_to p 0) e ∙ le-leb 0 i.size (omega arith)) in
          let h = b.0 in
          omega (arith, h)

      by_region : (r : Region) → is_some (init_of p r) ≡ true → x ≤ size_of p r → is_up_to p x (init_of p r) ≡ true
      by_region (Sec o n) k w = by_init (Sec o n) (init_of p (Sec o n)) refl k w
      by_region (Common n) k w = by_init (Common n) (init_of p (Common n)) refl k w
      by_region Heap k w = by_init Heap (init_of p Heap) refl k w
      by_region Stack k w = absurd (no_stack (init_of p Stack) refl k)

  high_fits :
      (o : ℕ) (r : Region) (x : ℕ) (least hi : ℤ) → is_target p (target.Ptr r x) ≡ true → x ≤ size_of p r → FitsSigned w16 least →
      IsHighPart p (gp_of l) (address_of l) o (target.Ptr r x) least hi → FitsSigned w16 hi
  high_fits o r x least hi k w f h =
      let a = near_between r x (region_up r x k w) in
      let b = gp_between (table_at l o) in
      high_small (address_of l (target.Ptr r x)) (gp_of l o) least hi a.0 a.1 b.0 b.1 f h.above h.below

  module _ (i : Image) (text : TextIsTrue p g l i) (fields : FieldsAreTrue p g l i) (masks outs : Place → ℕ → Bool) (exact : AreExactMasks masks outs g) where
    pub no_high_left :
        NoFar p (gp_of l) (address_of l) outs g → (b : Block) (load : Word) (r rb x : ℕ) (region : Region) → Has g.blocks b → Has (block_words b) load →
        IsFarLoad p (gp_of l) (address_of l) (block_words b) load r rb x region → IsUnreadAtEnd g b r → ⊥
    no_high_left left b load r rb x region hb hl f unread = left.loads b load r rb x region hb hl f fits (λ low. not_true (outs b.label r) (never low))
      where
        is_sound : is_target p (target.Ptr region x) ≡ true
        is_sound = subst (λ (a : Act). Sound p load.at a) f.loads (sound p prog g of load (in_all g.blocks b load hb hl))

        fits : FitsSigned w16 f.hi
        fits =
            let u = f.least_use in
            let hu = last_in (block_words b) load u.2.mid u.0 u.2.stands in
            let t = true_word p prog g of l i text fields b u.0 hb hu in
            let e = subst (λ (a : Act). HasForm p g l u.0.at a t.word) u.3 t.form in
            high_fits load.at.obj region x f.least f.hi is_sound f.inside (base_disp r f.least u.1 e.fields u.4) f.high

        never : r < 31 → outs b.label r ≡ true → ⊥
        never low e =
            let s = split_at [] (block_words b) load hl in
            let t = last_split s.0 load s.1 in
            let splits = t.splits ∙ s.2 in
            let k = reads_behind g of.graph of.form (words_in_place p prog g of) b t.before t.word [] r (outs b.label) hb low splits (read_at_end p prog g of masks outs exact b r hb low) e in
            unread t.before t.word k.0 (record { among = hb; split = splits }) k.1 k.2
