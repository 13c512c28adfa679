-- What the map and the text of an image tell of a word: that the graph keeps it, its address, and where its BSR goes.
use Rattle.std.proofs.Common.{◌≡◌, ◌⊎◌, inl, inr, ℕ, ◌+◌, ◌*◌, ◌^◌, ◌<◌, true, false, ◌==◌, List, map, Option, Some, None, refl, sym, ap, ◌∙◌, subst, arith}
use Rattle.std.specs.Prelude.{ℤ, pos, ◌+ℤ◌, ◌*ℤ◌, option_and_then, slice_get, is_some}
use Rattle.std.specs.Int.{w64, cast_unsigned}
use Rattle.std.proofs.lemmas.Int.{ints}
use Rattle.std.proofs.lemmas.Bool.{true≢false, eqb-true, eq-eqb}
use Rattle.om_isa.specs.declared.instr.BrOp.{BrOp}
use Rattle.om_isa.specs.declared.instr.BrOp.TheVariants.{Br as Straight, Bsr, If}
use Rattle.om_isa.specs.declared.instr.Instr.{Instr}
use Rattle.om_isa.specs.declared.instr.Instr.TheVariants.{Mem, Jump, Branch, Alu, Cmov, Misc, Fnop, Halt, Callsys}
use Rattle.om_isa.specs.Words.{Encodes, instr_of}
use Rattle.om_isa.proofs.Reading.{complete}
use Rattle.om_value.specs.declared.value.Place.{Place}
use Rattle.om_value.specs.declared.value.Target.{Target}
use Rattle.om_value.specs.declared.value.Target.TheVariants as target
use Rattle.om_prog.specs.declared.item.Item.{Item}
use Rattle.om_prog.specs.Act.{Act, Plain, Lit, GpHi, GpLo, To, AddrLda, AddrHi, UseLo, UseGp, Wrong, Word, base_of}
use Rattle.om_prog.specs.View.{ProgramView, item_at, is_word}
use Rattle.om_graph.specs.declared.op.Op.{Op}
use Rattle.om_graph.specs.declared.op.OpKind.{OpKind}
use Rattle.om_graph.specs.declared.op.OpKind.TheVariants as kind
use Rattle.om_graph.specs.declared.op.Last.{Last}
use Rattle.om_graph.specs.declared.op.Last.TheVariants as last
use Rattle.om_graph.specs.View.{Block, GraphView, Has, ops_of}
use Rattle.om_graph.specs.Run.{block_words, last_words, op_act, op_word, use_of, target_at}
use Rattle.om_graph.specs.Form.{InForm, OpForm, LastForm, ends_block}
use Rattle.om_graph.specs.LeftIn.{is_kept}
use Rattle.om_graph.specs.Index.{index_of}
use Rattle.om_graph.proofs.Labels.{has_append}
use Rattle.om_graph.proofs.Places.{of_op}
use Rattle.om_image.specs.declared.image.Image.{Image}
use Rattle.om_layout.specs.Layout.{LayoutView, position_of, code_at}
use Rattle.om_encode.specs.Text.{map_word}
use Rattle.om_encode.specs.Fields.{HasForm, HasUse, IsTrueWord, behind_high}
use Rattle.om_encode.specs.Halves.{from_gp}
use Rattle.om_counted.proofs.Held.{IsHeld}
use Rattle.om_counted.specs.Counted.{told, is_kept_word, address, image_instr, calls_at}

-- ---- a word as it stands is no branch

not_branch : (i : Instr) (o : BrOp) (ra : ℕ) (d : ℤ) → ends_block i ≡ false → i ≡ Branch o ra d → ⊥
not_branch i o ra d f e = true≢false (sym (ap (λ (x : Instr). ends_block x) e) ∙ f)

kind_plain : (os : List Op) (k : OpKind) (i : Instr) → op_act os k ≡ Plain i → k ≡ kind.Plain i
kind_plain os (kind.Plain j) i e = cc
kind_plain os (kind.Lit ra rb t) i e = cc
kind_plain os (kind.AddrLda ra rb t) i e = cc
kind_plain os (kind.AddrHi ra rb t z) i e = cc
kind_plain os (kind.UseGp j gp t) i e = cc
kind_plain os (kind.GpHi ra rb b) i e = cc
kind_plain os (kind.GpLo ra rb h) i e = cc
kind_plain os (kind.UseLo j hi) i e = absurd (by_target (target_at os hi) e)
  where
    by_target : (o : Option Target) → use_of j hi o ≡ Plain i → ⊥
    by_target None e = cc
    by_target (Some t) e = cc

last_plain : (l : Last) (w : Word) (o : BrOp) (ra : ℕ) (d : ℤ) → LastForm l → Has (last_words l) w → w.act ≡ Plain (Branch o ra d) → ⊥
last_plain last.Fall w o ra d f h e = h
last_plain last.Off w o ra d f h e = h
last_plain (last.Br at op r to) w o ra d f (inl h) e = not_to (ap (λ (x : Word). x.act) h ∙ e)
  where
    not_to : To op r to ≡ Plain (Branch o ra d) → ⊥
    not_to x = cc
last_plain (last.Call at op r to) w o ra d f (inl h) e = not_to (ap (λ (x : Word). x.act) h ∙ e)
  where
    not_to : To op r to ≡ Plain (Branch o ra d) → ⊥
    not_to x = cc
last_plain (last.Cond at (Branch op r z) to) w o ra d f (inl h) e = not_to (ap (λ (x : Word). x.act) h ∙ e)
  where
    not_to : To op r to ≡ Plain (Branch o ra d) → ⊥
    not_to x = cc
last_plain (last.Cond at i to) w o ra d f (inl h) e = absurd f
last_plain (last.CallBy at (Jump k r rb x)) w o ra d f (inl h) e = not_to (ap (λ (x : Word). x.act) h ∙ e)
  where
    not_to : Plain (Jump k r rb x) ≡ Plain (Branch o ra d) → ⊥
    not_to x = cc
last_plain (last.CallBy at i) w o ra d f (inl h) e = absurd f
last_plain (last.JumpBy at (Jump k r rb x)) w o ra d f (inl h) e = not_to (ap (λ (x : Word). x.act) h ∙ e)
  where
    not_to : Plain (Jump k r rb x) ≡ Plain (Branch o ra d) → ⊥
    not_to x = cc
last_plain (last.JumpBy at i) w o ra d f (inl h) e = absurd f
last_plain (last.Br at op r to) w o ra d f (inr h) e = absurd h
last_plain (last.Call at op r to) w o ra d f (inr h) e = absurd h
last_plain (last.Cond at j to) w o ra d f (inr h) e = absurd h
last_plain (last.CallBy at j) w o ra d f (inr h) e = absurd h
last_plain (last.JumpBy at j) w o ra d f (inr h) e = absurd h

pub no_branch : (g : GraphView) → InForm g → (b : Block) (w : Word) (o : BrOp) (ra : ℕ) (d : ℤ) → Has g.blocks b → Has (block_words b) w → w.act ≡ Plain (Branch o ra d) → ⊥
no_branch g form b w o ra d hb hw e = by_part (has_append _ (last_words b.last) w hw)
  where
    by_part : Has (Rattle.std.specs.Prelude.map (op_word (ops_of b)) (ops_of b)) w ⊎ Has (last_words b.last) w → ⊥
    by_part (inl m) =
        let r = of_op (ops_of b) (ops_of b) w m in
        let k = kind_plain (ops_of b) r.op.kind (Branch o ra d) (ap (λ (x : Word). x.act) r.word ∙ e) in
        true≢false (subst (λ (x : OpKind). OpForm x) k (form.ops b r.op hb r.among))
    by_part (inr m) = last_plain b.last w o ra d (form.lasts b hb) m e

cast_small : (n : ℕ) → n < 2 ^ 64 → cast_unsigned w64 (pos n) ≡ n
cast_small n h = omega (arith, ints)

module _ (p : ProgramView) (lifted g : GraphView) (l : LayoutView) (i : Image) (k : IsHeld p lifted g l i) where
  counts_are : map (λ o. o.words) i.map.objects ≡ g.counts
  counts_are = k.map.data_part.counts ∙ sym k.graph.counts

  pub told_is : (q : Place) (item : Item) → item_at p q ≡ Some item → told i q ≡ Some (map_word g l q item)
  told_is q item e = ap (λ (cs : List ℕ). slice_get i.map.words (index_of cs q)) counts_are ∙ k.map.text.each q item e

  by_item : (P : Place → Type 0) (q : Place) → is_word p q ≡ true → ((item : Item) → item_at p q ≡ Some item → P q) → P q
  by_item P q h f = by_case (item_at p q) refl h
    where
      by_case : (o : Option Item) → item_at p q ≡ o → is_some o ≡ true → P q
      by_case (Some x) e t = f x e
      by_case None e t = absurd (true≢false (sym t))

  pub kept_same : (q : Place) → is_word p q ≡ true → is_kept_word i q ≡ is_kept g q
  kept_same q h = by_item (λ q. is_kept_word i q ≡ is_kept g q) q h (λ item e. ap (λ o. Rattle.om_counted.specs.Counted.kept_of i o) (told_is q item e))

  position_same : (q : Place) → is_word p q ≡ true → Rattle.om_counted.specs.Counted.position_in i (told i q) ≡ position_of l q
  position_same q h = by_item (λ q. Rattle.om_counted.specs.Counted.position_in i (told i q) ≡ position_of l q) q h (λ item e. ap (λ o. Rattle.om_counted.specs.Counted.position_in i o) (told_is q item e))

  pub address_same : (q : Place) → is_word p q ≡ true → address i q ≡ code_at l q
  address_same q h = ap (λ n. Rattle.om_layout.specs.Layout.text_base + 4 * n) (position_same q h)

  -- ---- the instruction at a kept word

  -- an image word that is no BSR goes nowhere
  abbrev Quiet : Instr → Type 0
  Quiet j = (at to : ℕ) → calls_at i at (Some j) to ≡ false

  instr_there : (u : Word) (word : ℕ) (j : Instr) → is_word p u.at ≡ true → slice_get i.text (position_of l u.at) ≡ Some word → Encodes word j → image_instr i u.at ≡ Some j
  instr_there u word j h f e =
      ap (λ n. option_and_then instr_of (slice_get i.text n)) (position_same u.at h) ∙ ap (λ o. option_and_then instr_of o) f ∙ complete word j e

  -- where a kept word's image is a BSR to an address, the word is a BSR to a place at that address
  pub record IsBsr (u : Word) (to : ℕ) : Type 0 where
    pub ra : ℕ
    pub place : Place
    pub act : u.act ≡ To Bsr ra place
    pub address : code_at l place ≡ to

  quiet : (u : Word) (to : ℕ) (j : Instr) → image_instr i u.at ≡ Some j → Quiet j → calls_at i (address i u.at) (image_instr i u.at) to ≡ true → IsBsr u to
  quiet u to j e n h = absurd (true≢false (sym h ∙ ap (λ o. calls_at i (address i u.at) o to) e ∙ n (address i u.at) to))

  module _ (small : (q : Place) → code_at l q < 2 ^ 64) where
    module _ (b : Block) (u : Word) (hb : Has g.blocks b) (hu : Has (block_words b) u) (there : is_word p u.at ≡ true) (t : IsTrueWord p g l i u) (to : ℕ) where
      instr_is : (j : Instr) → Encodes t.word j → image_instr i u.at ≡ Some j
      instr_is j e = instr_there u t.word j there t.found e

      quiet_use : (j : Instr) (base : ℕ) (start : ℤ) → HasUse p g l u.at t.word j base start → calls_at i (address i u.at) (image_instr i u.at) to ≡ true → IsBsr u to
      quiet_use (Mem op ra rb disp) base start x h = quiet u to (Mem op ra base x.0) (instr_is (Mem op ra base x.0) x.1) (λ at to. refl) h
      quiet_use (Jump kind ra rb hint) base start x h = absurd x
      quiet_use (Branch op ra d) base start x h = absurd x
      quiet_use (Alu op ra rb rc) base start x h = absurd x
      quiet_use (Cmov c ra rb rc) base start x h = absurd x
      quiet_use (Misc op ra rb) base start x h = absurd x
      quiet_use Fnop base start x h = absurd x
      quiet_use Halt base start x h = absurd x
      quiet_use Callsys base start x h = absurd x

      bsr_at : (ra : ℕ) (q : Place) (d : ℤ) → u.act ≡ To Bsr ra q → image_instr i u.at ≡ Some (Branch Bsr ra d) → (pos (code_at l u.at + 4) +ℤ (pos 4 *ℤ d) ≡ pos (code_at l q)) → calls_at i (address i u.at) (image_instr i u.at) to ≡ (code_at l q == to)
      bsr_at ra q d e f s =
          ap (λ o. calls_at i (address i u.at) o to) f
          ∙ ap (λ n. cast_unsigned w64 (pos (n + 4) +ℤ (pos 4 *ℤ d)) == to) (address_same u.at there)
          ∙ ap (λ z. cast_unsigned w64 z == to) s ∙ ap (λ n. n == to) (cast_small (code_at l q) (small q))

      quiet_plain : (j : Instr) → u.act ≡ Plain j → Encodes t.word j → calls_at i (address i u.at) (image_instr i u.at) to ≡ true → IsBsr u to
      quiet_plain (Mem op ra rb d) a e h = quiet u to _ (instr_is (Mem op ra rb d) e) (λ at to. refl) h
      quiet_plain (Jump kind ra rb hint) a e h = quiet u to _ (instr_is (Jump kind ra rb hint) e) (λ at to. refl) h
      quiet_plain (Branch op ra d) a e h = absurd (no_branch g k.graph.form b u op ra d hb hu a)
      quiet_plain (Alu op ra rb rc) a e h = quiet u to _ (instr_is (Alu op ra rb rc) e) (λ at to. refl) h
      quiet_plain (Cmov c ra rb rc) a e h = quiet u to _ (instr_is (Cmov c ra rb rc) e) (λ at to. refl) h
      quiet_plain (Misc op ra rb) a e h = quiet u to _ (instr_is (Misc op ra rb) e) (λ at to. refl) h
      quiet_plain Fnop a e h = quiet u to _ (instr_is Fnop e) (λ at to. refl) h
      quiet_plain Halt a e h = quiet u to _ (instr_is Halt e) (λ at to. refl) h
      quiet_plain Callsys a e h = quiet u to _ (instr_is Callsys e) (λ at to. refl) h

      by_act : (a : Act) → u.act ≡ a → HasForm p g l u.at a t.word → calls_at i (address i u.at) (image_instr i u.at) to ≡ true → IsBsr u to
      by_act (Plain j) a f h = quiet_plain j a f h
      by_act (Lit ra rb x) a f h = quiet u to _ (instr_is _ f.2) (λ at to. refl) h
      by_act (GpHi ra rb base) a f h = quiet u to _ (instr_is _ f.2) (λ at to. refl) h
      by_act (GpLo ra rb first) a f h = quiet u to _ (instr_is _ f.3) (λ at to. refl) h
      by_act (To Bsr ra q) a f h = record { ra = ra; place = q; act = a; address = eqb-true _ _ (sym (bsr_at ra q f.0 a (instr_is (Branch Bsr ra f.0) f.1) f.2) ∙ h) }
      by_act (To Straight ra q) a f h = quiet u to _ (instr_is (Branch Straight ra f.0) f.1) (λ at to. refl) h
      by_act (To (If c) ra q) a f h = quiet u to _ (instr_is (Branch (If c) ra f.0) f.1) (λ at to. refl) h
      by_act (AddrLda ra rb (target.Num n)) a f h = quiet u to _ (instr_is _ f.1) (λ at to. refl) h
      by_act (AddrLda ra rb (target.Ptr r x)) a f h = quiet u to _ (instr_is _ f.1) (λ at to. refl) h
      by_act (AddrLda ra rb (target.Code q)) a f h = absurd f
      by_act (AddrHi ra rb x) a f h = quiet u to _ (instr_is _ f.2) (λ at to. refl) h
      by_act (UseLo j hi x) a f h = quiet_use j (base_of j) (behind_high p g l u.at x f.0) f.2 h
      by_act (UseGp j gp x) a f h = quiet_use j gp (from_gp l u.at.obj x) f h
      by_act Wrong a f h = absurd f

      pub is_bsr : calls_at i (address i u.at) (image_instr i u.at) to ≡ true → IsBsr u to
      is_bsr h = by_act u.act refl t.form h

      pub bsr_calls : (ra : ℕ) (q : Place) → u.act ≡ To Bsr ra q → code_at l q ≡ to → calls_at i (address i u.at) (image_instr i u.at) to ≡ true
      bsr_calls ra q e same =
          let f : HasForm p g l u.at (To Bsr ra q) t.word = subst (λ (a : Act). HasForm p g l u.at a t.word) e t.form in
          bsr_at ra q f.0 e (instr_is (Branch Bsr ra f.0) f.1) f.2 ∙ eq-eqb (code_at l q) to same
