-- Deleting a dead word leaves no walk that reads more; and while dead words are deleted a high half stands alone only where
-- it is dead.
use Rattle.std.proofs.Common.{◌≡◌, ◌⊎◌, inl, inr, ◌<◌, ◌+◌, ℕ, Bool, true, false, cond, List, [], ◌∷◌, ◌++◌, Option, Some, None, refl, sym, ap, ◌∙◌, subst, arith}
use Rattle.std.proofs.lemmas.Bool.{true≢false}
use Rattle.om_isa.specs.declared.instr.Instr.{Instr}
use Rattle.om_isa.specs.declared.instr.Instr.TheVariants.{Mem, Jump as Jumps, Branch, Alu, Cmov, Misc, Fnop, Halt, Callsys}
use Rattle.om_value.specs.declared.value.Place.{Place}
use Rattle.om_value.specs.Same.{place_eq}
use Rattle.om_prog.specs.Act as act
use Rattle.om_prog.specs.Act.{Act, Word, act_reads, act_writes}
use Rattle.om_prog.specs.Step.{next_place}
use Rattle.om_prog.specs.Flow.{Among, act_falls, act_jumps, plain_jumps}
use Rattle.om_prog.specs.Facts.{has}
use Rattle.om_prog.specs.View.{ProgramView}
use Rattle.om_prog.specs.Valid.{IsProgram}
use Rattle.om_graph.specs.View.{Block, Shape, GraphView, Has}
use Rattle.om_graph.specs.Run.{words, block_words, next_word, rev_onto, from_place}
use Rattle.om_graph.specs.Form.{Ordered, is_address}
use Rattle.om_graph.specs.Kept.{IsBlock, IsEnd, IsKeptLanding}
use Rattle.om_graph.specs.LeftIn.{is_kept}
use Rattle.om_graph.specs.Lifted.{lifted_shapes}
use Rattle.om_graph.specs.OfProgram.{IsGraphOf}
use Rattle.om_graph.specs.Rewritten.{onto_words, each_word}
use Rattle.om_graph.specs.Uses.{Between, NoneReads, NoneWrites}
use Rattle.om_graph.specs.Walks.{WalksTo, MayRead, reads, goes, IsDeadAfter}
use Rattle.om_graph.proofs.Labels.{same_place, self_eq, in_all}
use Rattle.om_graph.proofs.Fetching.{KeepsPlaces, found_kept, found_gone, found_has, found_from}
use Rattle.om_graph.proofs.Itself.{unique, all_ordered}
use Rattle.om_graph.proofs.Masks.{among_true, has_among}
use Rattle.om_graph.proofs.OfProgram.{words_in_place}
use Rattle.om_graph.proofs.Places.{in_labels, placed, jumps_last}
use Rattle.om_graph.proofs.OnWalks.{may_low}
use Rattle.om_graph.proofs.Behind.{inside}
use Rattle.om_graph.specs.Checks.{MaskChecked, AreOuts, live_in}
use Rattle.om_graph.proofs.Reached.{inner_next, inner_falls}
use Rattle.om_graph.specs.Left.{StandsIn, IsDeadBy, high_word}
use Rattle.om_graph.specs.Stands.{IsClosedIn, BasesStand, PairsStand}
use Rattle.om_passes.specs.AtPlaces.{gone_at}
use Rattle.om_passes.specs.Keeping.{DeletesDead}
use Rattle.om_passes.proofs.Origins.{kept_here, here_kept}
use Rattle.om_passes.proofs.Betweens.{assoc, first_in, last_in, before_last}
use Rattle.om_passes.proofs.Locals.{block_ordered, block_object}
use Rattle.om_passes.proofs.Closed.{low_word, ClosedKept, closed_kept}

-- ---- lists gone_at a word

module _ (x : Place) where
  in_place : KeepsPlaces (gone_at x)
  in_place w u e = by_test (place_eq w.at x) e
    where
      by_test : (b : Bool) → cond b None (Some w) ≡ Some u → u.at ≡ w.at
      by_test true e = cc
      by_test false e = ap (λ (v : Word). v.at) (same e)
        where
          same : Some w ≡ Some u → u ≡ w
          same e = cc

  stays : (w : Word) → (w.at ≡ x → ⊥) → gone_at x w ≡ Some w
  stays w n = by_test (place_eq w.at x) refl
    where
      by_test : (b : Bool) → place_eq w.at x ≡ b → cond b None (Some w) ≡ Some w
      by_test true e = absurd (n (same_place w.at x e))
      by_test false e = refl

  leaves : (w : Word) → w.at ≡ x → gone_at x w ≡ None
  leaves w e = ap (λ (b : Bool). cond b None (Some w)) (ap (λ (q : Place). place_eq q x) e ∙ self_eq x)

  pub each_has : (ws : List Word) (w : Word) → Has (each_word (gone_at x) ws) w → Has ws w × (w.at ≡ x → ⊥)
  each_has [] w h = absurd h
  each_has (v ∷ ws) w h = by_test (place_eq v.at x) refl h (each_has ws w)
    where
      by_test :
          (b : Bool) → place_eq v.at x ≡ b → Has (onto_words (cond b None (Some v)) (each_word (gone_at x) ws)) w →
          (Has (each_word (gone_at x) ws) w → Has ws w × (w.at ≡ x → ⊥)) → Has (v ∷ ws) w × (w.at ≡ x → ⊥)
      by_test true e h i = let r = i h in (inr r.0, r.1)
      by_test false e (inl s) i =
          (inl s, λ k. true≢false (sym (ap (λ (y : Word). place_eq y.at x) s ∙ ap (λ (q : Place). place_eq q x) k ∙ self_eq x) ∙ e))
      by_test false e (inr h) i = let r = i h in (inr r.0, r.1)

  pub has_each : (ws : List Word) (w : Word) → Has ws w → (w.at ≡ x → ⊥) → Has (each_word (gone_at x) ws) w
  has_each [] w h n = absurd h
  has_each (v ∷ ws) w (inl e) n =
      subst (λ (o : Option Word). Has (onto_words o (each_word (gone_at x) ws)) w) (sym (stays v (λ k. n (ap (λ (y : Word). y.at) (sym e) ∙ k)))) (inl e)
  has_each (v ∷ ws) w (inr h) n = by_test (place_eq v.at x) (has_each ws w h n)
    where
      by_test : (b : Bool) → Has (each_word (gone_at x) ws) w → Has (onto_words (cond b None (Some v)) (each_word (gone_at x) ws)) w
      by_test true k = k
      by_test false k = inr k

  -- no next word then none after
  none_found : (ws : List Word) (p : Place) → next_word ws p ≡ None → next_word (each_word (gone_at x) ws) p ≡ None
  none_found [] p e = refl
  none_found (v ∷ ws) p e = by_from (from_place p v) refl e (none_found ws p)
    where
      by_test :
          (b : Bool) → from_place p v ≡ false → next_word (each_word (gone_at x) ws) p ≡ None →
          next_word (onto_words (cond b None (Some v)) (each_word (gone_at x) ws)) p ≡ None
      by_test true f e = e
      by_test false f e = ap (λ (b : Bool). cond b (Some v) (next_word (each_word (gone_at x) ws) p)) f ∙ e

      by_from :
          (b : Bool) → from_place p v ≡ b → cond b (Some v) (next_word ws p) ≡ None → (next_word ws p ≡ None → next_word (each_word (gone_at x) ws) p ≡ None) →
          next_word (each_word (gone_at x) (v ∷ ws)) p ≡ None
      by_from true f e i = cc
      by_from false f e i = by_test (place_eq v.at x) f (i e)

jumps_more : (K L : Place → Type 0) (q : Place) (a : Act) → (K q → L q) → act_jumps K a q → act_jumps L a q
jumps_more K L q (act.Plain i) f j = by_instr i j
  where
    by_instr : (i : Instr) → plain_jumps K i q → plain_jumps L i q
    by_instr (Jumps k ra rb h) j = f j
    by_instr (Mem o ra rb d) j = j
    by_instr (Branch o ra d) j = j
    by_instr (Alu o ra rb rc) j = j
    by_instr (Cmov k ra rb rc) j = j
    by_instr (Misc o ra rb) j = j
    by_instr Fnop j = j
    by_instr Halt j = j
    by_instr Callsys j = j
jumps_more K L q (act.To o ra to) f j = j
jumps_more K L q (act.Lit ra rb t) f j = j
jumps_more K L q (act.GpHi ra rb b) f j = j
jumps_more K L q (act.GpLo ra rb h) f j = j
jumps_more K L q (act.AddrLda ra rb t) f j = j
jumps_more K L q (act.AddrHi ra rb t) f j = j
jumps_more K L q (act.UseLo i h t) f j = j
jumps_more K L q (act.UseGp i gp t) f j = j
jumps_more K L q act.Wrong f j = j

address_falls : (a : Act) → is_address a ≡ true → act_falls a
address_falls (act.Lit ra rb t) e = tt
address_falls (act.GpHi ra rb b) e = tt
address_falls (act.GpLo ra rb h) e = tt
address_falls (act.AddrLda ra rb t) e = tt
address_falls (act.AddrHi ra rb t) e = tt
address_falls (act.Plain i) e = cc
address_falls (act.To o ra to) e = cc
address_falls (act.UseLo i h t) e = tt
address_falls (act.UseGp i gp t) e = tt
address_falls act.Wrong e = tt

-- what is read depends on the next word alone
same_read : (g : GraphView) (r : ℕ) (p q : Place) → next_word (words g) p ≡ next_word (words g) q → MayRead g r p → MayRead g r q
same_read g r p q e (reads _ w f l a) = reads q w (sym e ∙ f) l a
same_read g r p q e (goes _ w y f n t m) = goes q w y (sym e ∙ f) n t m

-- a list turned
turned : (acc before rest : List Word) → (bf : List Word) × (rev_onto bf rest ≡ rev_onto acc (before ++ rest))
turned acc [] rest = (acc, refl)
turned acc (x ∷ before) rest = turned (x ∷ acc) before rest

pub between_turned : (ws : List Word) (a : Word) (mid : List Word) (b : Word) → Between ws a mid b → (bf after : List Word) × (rev_onto bf (a ∷ (mid ++ b ∷ after)) ≡ ws)
between_turned ws a mid b s =
    let r = turned [] s.0 (a ∷ (mid ++ b ∷ s.1)) in
    (r.0, s.1, r.1 ∙ sym (s.2 ∙ assoc s.0 (a ∷ mid) (b ∷ s.1)))

-- dead by masks that a check passes is dead on walks
pub dead_on_walks :
    (p : ProgramView) (prog : IsProgram p) (g : GraphView) (of : IsGraphOf p g) (masks outs : Place → ℕ → Bool) → MaskChecked masks g → AreOuts masks outs g →
    (b : Block) (bf : List Word) (w : Word) (ws : List Word) (r : ℕ) → StandsIn g b bf w ws → IsDeadBy outs b ws r → IsDeadAfter g r w
dead_on_walks p prog g of masks outs checked are b bf w ws r s dead q t m = never (dead (low q m))
  where
    low : (y : Place) → MayRead g r y → r < 31
    low y m = may_low g (in_labels g of.graph of.form (words_in_place p prog g of)) (placed g of.graph of.form (words_in_place p prog g of)) of.form r y m

    never : live_in ws (outs b.label) r ≡ false → ⊥
    never e =
        true≢false
        (sym (inside masks outs g checked are (in_labels g of.graph of.form (words_in_place p prog g of)) (placed g of.graph of.form (words_in_place p prog g of)) of.form b bf w ws q r s.among s.split t m)
        ∙ e)

module _ (p : ProgramView) (prog : IsProgram p) (g : GraphView) (of : IsGraphOf p g) where
  words_ordered : Ordered (words g)
  words_ordered = all_ordered g.blocks (placed g of.graph of.form (words_in_place p prog g of))

  -- behind a word of a block comes the next one, and a word with another behind it goes nowhere else
  next_in : (b : Block) (bf : List Word) (v w : Word) (ws : List Word) → Has g.blocks b → rev_onto bf (v ∷ w ∷ ws) ≡ block_words b → next_word (words g) (next_place v.at) ≡ Some w
  next_in = inner_next g of.graph of.form (words_in_place p prog g of)

  falls_in : (b : Block) (bf : List Word) (v w : Word) (ws : List Word) → Has g.blocks b → rev_onto bf (v ∷ w ∷ ws) ≡ block_words b → act_falls v.act
  falls_in = inner_falls g of.graph of.form (words_in_place p prog g of)

  no_jump : (K : Place → Type 0) (b : Block) (bf : List Word) (v w : Word) (ws : List Word) (q : Place) → Has g.blocks b → rev_onto bf (v ∷ w ∷ ws) ≡ block_words b → act_jumps K v.act q → ⊥
  no_jump K b bf v w ws q hb s j = never (jumps_last K g of.form b bf v (w ∷ ws) q hb s j)
    where
      never : w ∷ ws ≡ [] → ⊥
      never e = cc

  -- words between that do not write a register let it through to one that reads it
  through :
      (b : Block) → Has g.blocks b → (bf : List Word) (v : Word) (mid : List Word) (w : Word) (after : List Word) (r : ℕ) → rev_onto bf (v ∷ (mid ++ w ∷ after)) ≡ block_words b →
      r < 31 → NoneWrites r mid → Among (act_reads w.act) r → MayRead g r (next_place v.at)
  through b hb bf v [] w after r s low n a = reads (next_place v.at) w (next_in b bf v w after hb s) low a
  through b hb bf v (m ∷ mid) w after r s low n a =
      let k = through b hb (v ∷ bf) m mid w after r s low (λ y h. n y (inr h)) a in
      goes (next_place v.at) m (next_place m.at) (next_in b bf v m (mid ++ w ∷ after) hb s) (λ z. n m (inl refl) z) (inl (falls mid s, refl)) k
    where
      falls : (mid : List Word) → rev_onto bf (v ∷ (m ∷ mid ++ w ∷ after)) ≡ block_words b → act_falls m.act
      falls [] s = falls_in b (v ∷ bf) m w after hb s
      falls (y ∷ mid) s = falls_in b (v ∷ bf) m y (mid ++ w ∷ after) hb s

  module _ (h : GraphView) (x : Word) (d : DeletesDead g h x) where
    walks_less : (w : Word) (q : Place) → WalksTo h w q → WalksTo g w q
    walks_less w q (inl t) = inl t
    walks_less w q (inr t) = inr (jumps_more (IsKeptLanding h) (IsKeptLanding g) q w.act (d.landings q) t.0, by_case t.1)
      where
        by_case : IsBlock h q ⊎ IsEnd h q → IsBlock g q ⊎ IsEnd g q
        by_case (inl b) = inl (d.blocks q b)
        by_case (inr e) = inr (d.ends q e)

    past : WalksTo g x (next_place x.at)
    past = inl (address_falls x.act d.address, refl)

    -- the next word is as it was, or the one behind the deleted word
    skipped : (q : Place) (w : Word) → next_word (words h) q ≡ Some w → (next_word (words g) q ≡ Some w) ⊎ ((next_word (words g) q ≡ Some x) × (next_word (words g) (next_place x.at) ≡ Some w))
    skipped q w e = by_next (next_word (words g) q) refl
      where
        here : next_word (each_word (gone_at x.at) (words g)) q ≡ Some w
        here = ap (λ (l : List Word). next_word l q) (sym d.words) ∙ e

        behind : next_word (words g) q ≡ Some x → next_word (each_word (gone_at x.at) (words g)) (next_place x.at) ≡ Some w
        behind f = sym (found_gone (gone_at x.at) (in_place x.at) (words g) q x words_ordered f (leaves x.at x refl)) ∙ here

        by_second : (o : Option Word) → next_word (words g) (next_place x.at) ≡ o → next_word (words g) q ≡ Some x → next_word (words g) (next_place x.at) ≡ Some w
        by_second None f k = let a = none_found x.at (words g) (next_place x.at) f in let c = behind k in cc
        by_second (Some z) f k =
            let l = found_from (words g) (next_place x.at) z f in
            let l1 = l.1 in
            let c = found_kept (gone_at x.at) (in_place x.at) (words g) (next_place x.at) z z f (stays x.at z (λ s. let t = ap (λ (y : Place). y.off) s in omega (arith, l1, t))) in
            let m = behind k in
            let same : z ≡ w = cc in
            f ∙ ap (λ (y : Word). Some y) same

        by_test : (y : Word) → next_word (words g) q ≡ Some y → (b : Bool) → place_eq y.at x.at ≡ b → (next_word (words g) q ≡ Some w) ⊎ ((next_word (words g) q ≡ Some x) × (next_word (words g) (next_place x.at) ≡ Some w))
        by_test y f true t =
            let same = unique (words g) x y words_ordered d.among (found_has (words g) q y f) (same_place y.at x.at t) in
            let k = f ∙ ap (λ (z : Word). Some z) same in
            inr (k, by_second (next_word (words g) (next_place x.at)) refl k)
        by_test y f false t =
            let c = found_kept (gone_at x.at) (in_place x.at) (words g) q y y f (stays x.at y (λ s. true≢false (sym (ap (λ (z : Place). place_eq z x.at) s ∙ self_eq x.at) ∙ t))) in
            let same : y ≡ w = let k = here in cc in
            inl (f ∙ ap (λ (z : Word). Some z) same)

        by_next : (o : Option Word) → next_word (words g) q ≡ o → (next_word (words g) q ≡ Some w) ⊎ ((next_word (words g) q ≡ Some x) × (next_word (words g) (next_place x.at) ≡ Some w))
        by_next None f = let a = none_found x.at (words g) q f in let c = here in cc
        by_next (Some y) f = by_test y f (place_eq y.at x.at) refl

    -- what is read behind the deleted word was read in front of it
    over : (r : ℕ) (q : Place) → next_word (words g) q ≡ Some x → MayRead g r (next_place x.at) → MayRead g r q
    over r q e m = by_test (has (act_writes x.act) r) refl
      where
        by_test : (b : Bool) → has (act_writes x.act) r ≡ b → MayRead g r q
        by_test true t = absurd (d.dead r (has_among (act_writes x.act) r t) (next_place x.at) past m)
        by_test false t = goes q x (next_place x.at) e (λ a. true≢false (sym (among_true (act_writes x.act) r a) ∙ t)) past m

    -- a walk reads no more than it did
    pub less_read : (r : ℕ) (q : Place) → MayRead h r q → MayRead g r q
    less_read r q (reads _ w e l a) = by_case (skipped q w e)
      where
        by_case : (next_word (words g) q ≡ Some w) ⊎ ((next_word (words g) q ≡ Some x) × (next_word (words g) (next_place x.at) ≡ Some w)) → MayRead g r q
        by_case (inl f) = reads q w f l a
        by_case (inr f) = over r q f.0 (reads (next_place x.at) w f.1 l a)
    less_read r q (goes _ w y e n t m) = by_case (less_read r y m) (skipped q w e)
      where
        by_case : MayRead g r y → (next_word (words g) q ≡ Some w) ⊎ ((next_word (words g) q ≡ Some x) × (next_word (words g) (next_place x.at) ≡ Some w)) → MayRead g r q
        by_case k (inl f) = goes q w y f n (walks_less w y t) k
        by_case k (inr f) = over r q f.0 (goes (next_place x.at) w y f.1 n (walks_less w y t) k)

    pub dead_stays : (r : ℕ) (w : Word) → IsDeadAfter g r w → IsDeadAfter h r w
    dead_stays r w dead q t m = dead q (walks_less w q t) (less_read r q m)

    kept_less : (q : Place) → is_kept h q ≡ true → (is_kept g q ≡ true) × (q ≡ x.at → ⊥)
    kept_less q k =
        let r = kept_here (words h) q k in
        let e = each_has x.at (words g) r.0 (subst (λ (l : List Word). Has l r.0) d.words r.1) in
        (subst (λ (y : Place). is_kept g y ≡ true) r.2 (here_kept (words g) r.0 e.0), λ s. e.1 (r.2 ∙ s))

    kept_more : (q : Place) → is_kept g q ≡ true → (q ≡ x.at → ⊥) → is_kept h q ≡ true
    kept_more q k n =
        let r = kept_here (words g) q k in
        let e = has_each x.at (words g) r.0 r.1 (λ s. n (sym r.2 ∙ s)) in
        subst (λ (y : Place). is_kept h y ≡ true) r.2 (here_kept (words h) r.0 (subst (λ (l : List Word). Has l r.0) (sym d.words) e))

    -- the low half of a closed pair is deleted: in front of it r29 is read no more, since it is not behind it
    module _ (b : Block) (hb : Has g.blocks b) (low : Word) (is_low : x ≡ low) (writes : Among (act_writes low.act) 29) where
      unread :
          (bf : List Word) (v : Word) (mid : List Word) (after : List Word) → rev_onto bf (v ∷ (mid ++ low ∷ after)) ≡ block_words b → ((w : Word) → Has mid w → w.at ≡ x.at → ⊥) →
          NoneReads 29 mid → (q : Place) → q ≡ next_place v.at → MayRead h 29 q → ⊥
      unread bf v [] after s apart n q e m =
          let f = next_in b bf v low after hb s in
          let k = f ∙ ap (λ (y : Word). Some y) (sym is_low) in
          let c = found_gone (gone_at x.at) (in_place x.at) (words g) (next_place v.at) x words_ordered k (leaves x.at x refl) in
          let c1 = ap (λ (l : List Word). next_word l (next_place v.at)) d.words ∙ c ∙ ap (λ (l : List Word). next_word l (next_place x.at)) (sym d.words) in
          let j = same_read h 29 (next_place v.at) (next_place x.at) c1 (subst (λ (y : Place). MayRead h 29 y) e m) in
          d.dead 29 (subst (λ (y : Word). Among (act_writes y.act) 29) (sym is_low) writes) (next_place x.at) past (less_read 29 (next_place x.at) j)
      unread bf v (w ∷ mid) after s apart n q e m =
          by_read (unread (v ∷ bf) w mid after s (λ u a. apart u (inr a)) (λ u a. n u (inr a))) q e m
        where
          found : next_word (words h) (next_place v.at) ≡ Some w
          found =
              ap (λ (l : List Word). next_word l (next_place v.at)) d.words
              ∙ found_kept (gone_at x.at) (in_place x.at) (words g) (next_place v.at) w w (next_in b bf v w (mid ++ low ∷ after) hb s) (stays x.at w (apart w (inl refl)))

          is_found : (y : Place) (z : Word) → y ≡ next_place v.at → next_word (words h) y ≡ Some z → z ≡ w
          is_found y z e f = let k = found in let c = ap (λ (u : Place). next_word (words h) u) e in cc

          no_way : (mid : List Word) (K : Place → Type 0) (y : Place) → rev_onto bf (v ∷ (w ∷ mid ++ low ∷ after)) ≡ block_words b → act_jumps K w.act y → ⊥
          no_way [] K y s j = no_jump K b (v ∷ bf) w low after y hb s j
          no_way (u ∷ mid) K y s j = no_jump K b (v ∷ bf) w u (mid ++ low ∷ after) y hb s j

          Rest : Type 0
          Rest = (y : Place) → y ≡ next_place w.at → MayRead h 29 y → ⊥

          by_walk : Rest → (z : Word) (y : Place) → z ≡ w → WalksTo h z y → MayRead h 29 y → ⊥
          by_walk rest z y i (inl t) k = rest y (sym t.1 ∙ ap (λ (u : Word). next_place u.at) i) k
          by_walk rest z y i (inr t) k = no_way mid (IsKeptLanding h) y s (subst (λ (u : Word). act_jumps (IsKeptLanding h) u.act y) i t.0)

          by_read : Rest → (q : Place) → q ≡ next_place v.at → MayRead h 29 q → ⊥
          by_read rest q e (reads _ z f l a) = n w (inl refl) (subst (λ (u : Word). Among (act_reads u.act) 29) (is_found q z e f) a)
          by_read rest q e (goes _ z y f o t k) = by_walk rest z y (is_found q z e f) t k

    module _ (bases : BasesStand p g) (stand : PairsStand p g) where
      -- the word of a half
      half_word : (q : Place) → is_kept g q ≡ true → (w : Word) → Has (words g) w → w.at ≡ q → q ≡ x.at → w ≡ x
      half_word q k w hw e f = unique (words g) x w words_ordered d.among hw (e ∙ f)

      low_keeps : (s : Shape) (hi lo : Place) → Has (lifted_shapes p) s → IsClosedIn p s hi lo → is_kept h lo ≡ true → is_kept h hi ≡ true
      low_keeps s hi lo hs c k = kept_more hi kh no_high
        where
          kl : is_kept g lo ≡ true
          kl = (kept_less lo k).0

          kh : is_kept g hi ≡ true
          kh = stand.low s hi lo hs c kl

          r : ClosedKept p g s hi lo
          r = closed_kept p prog g of bases s hs hi lo c kh kl

          no_high : hi ≡ x.at → ⊥
          no_high e =
              let t = r.pair in
              let high = high_word hi t.rb t.base in
              let hh = first_in (block_words r.block) high t.mid (low_word hi lo) t.stands in
              let same = half_word hi kh high (in_all g.blocks r.block high r.among hh) refl e in
              let u = between_turned (block_words r.block) high t.mid (low_word hi lo) t.stands in
              let m = through r.block r.among u.0 high t.mid (low_word hi lo) u.1 29 u.2 (omega arith) t.unwritten (inl refl) in
              d.dead 29 (subst (λ (y : Word). Among (act_writes y.act) 29) same (inl refl)) (next_place x.at) past (subst (λ (y : Place). MayRead g 29 (next_place y)) e m)

      high_keeps : (s : Shape) (hi lo : Place) (w : Word) → Has (lifted_shapes p) s → IsClosedIn p s hi lo → Has (words h) w → w.at ≡ hi → (is_kept h lo ≡ true) ⊎ IsDeadAfter h 29 w
      high_keeps s hi lo w hs c hw e = by_old (stand.high s hi lo w hs c there.0 e)
        where
          there : Has (words g) w × (w.at ≡ x.at → ⊥)
          there = each_has x.at (words g) w (subst (λ (l : List Word). Has l w) d.words hw)

          kh : is_kept g hi ≡ true
          kh = subst (λ (y : Place). is_kept g y ≡ true) e (here_kept (words g) w there.0)

          gone_low : is_kept g lo ≡ true → lo ≡ x.at → IsDeadAfter h 29 w
          gone_low kl f q t m = by_walk t
            where
              r : ClosedKept p g s hi lo
              r = closed_kept p prog g of bases s hs hi lo c kh kl

              high : Word
              high = high_word hi r.pair.rb r.pair.base

              hh : Has (block_words r.block) high
              hh = first_in (block_words r.block) high r.pair.mid (low_word hi lo) r.pair.stands

              hl : Has (block_words r.block) (low_word hi lo)
              hl = last_in (block_words r.block) high r.pair.mid (low_word hi lo) r.pair.stands

              same_high : w ≡ high
              same_high = unique (words g) high w words_ordered (in_all g.blocks r.block high r.among hh) there.0 e

              same_low : x ≡ low_word hi lo
              same_low = sym (half_word lo kl (low_word hi lo) (in_all g.blocks r.block (low_word hi lo) r.among hl) refl f)

              u : (bf after : List Word) × (rev_onto bf (high ∷ (r.pair.mid ++ low_word hi lo ∷ after)) ≡ block_words r.block)
              u = between_turned (block_words r.block) high r.pair.mid (low_word hi lo) r.pair.stands

              apart : (v : Word) → Has r.pair.mid v → v.at ≡ x.at → ⊥
              apart v hv s =
                  let b = before_last (block_words r.block) high r.pair.mid (low_word hi lo) r.pair.stands (block_ordered p prog g of r.block r.among) (block_object p prog g of r.block r.among) v hv in
                  let z = ap (λ (y : Place). y.off) s in
                  let y = ap (λ (y : Place). y.off) f in
                  omega (arith, b, z, y)

              by_walk : WalksTo h w q → ⊥
              by_walk (inl t) =
                  unread r.block r.among (low_word hi lo) same_low (inl refl) u.0 high r.pair.mid u.1 u.2 apart r.pair.unread q (sym t.1 ∙ ap (λ (y : Word). next_place y.at) same_high) m
              by_walk (inr t) = subst (λ (y : Word). act_jumps (IsKeptLanding h) y.act q) same_high t.0

          by_old : (is_kept g lo ≡ true) ⊎ IsDeadAfter g 29 w → (is_kept h lo ≡ true) ⊎ IsDeadAfter h 29 w
          by_old (inr dead) = inr (dead_stays 29 w dead)
          by_old (inl kl) = by_test (place_eq lo x.at) refl
            where
              by_test : (b : Bool) → place_eq lo x.at ≡ b → (is_kept h lo ≡ true) ⊎ IsDeadAfter h 29 w
              by_test true t = inr (gone_low kl (same_place lo x.at t))
              by_test false t = inl (kept_more lo kl (λ s. true≢false (sym (ap (λ (z : Place). place_eq z x.at) s ∙ self_eq x.at) ∙ t)))

      pub pairs_deleted : PairsStand p h
      pairs_deleted = record { low = low_keeps; high = high_keeps }
