-- The steps that an image counts are those that its graph leaves in: step by step.
use Rattle.std.proofs.Common.{◌≡◌, ◌⊎◌, inl, inr, ℕ, zero, suc, ◌+◌, ◌*◌, ◌≤◌, ◌<◌, Bool, true, false, not, ◌&&◌, ◌||◌, ◌==◌, List, [], ◌∷◌, length, Option, Some, None, refl, sym, ap, ◌∙◌, subst, arith}
use Rattle.std.proofs.lemmas.Bool.{true≢false, eqb-true, eq-eqb}
use Rattle.om_isa.specs.declared.instr.BrOp.TheVariants.{Bsr}
use Rattle.om_value.specs.declared.value.Place.{Place}
use Rattle.om_value.specs.Same.{place_eq}
use Rattle.om_prog.specs.Act.{To, Word, Script, act_writes}
use Rattle.om_prog.specs.View.{ProgramView, is_word}
use Rattle.om_prog.specs.Step.{SymState, SymEnd, SymEffect, next_place, act_effect, after}
use Rattle.om_prog.specs.Runs.{step_word, trace, add_step, has_observed}
use Rattle.om_graph.specs.View.{GraphView, Has}
use Rattle.om_graph.specs.Run.{words, block_words, last_words, next_word, graph_script}
use Rattle.om_graph.specs.Form.{is_address}
use Rattle.om_graph.specs.LeftIn.{is_kept, in_pair, passes, passes_after, is_left, left, left_onto, left_in}
use Rattle.om_graph.specs.Landing.{is_opening_pair}
use Rattle.om_graph.specs.OfProgram.{CallsTo, MayBePassed}
use Rattle.om_graph.proofs.Labels.{same_place, equal_places, self_eq, append_right, has_in}
use Rattle.om_graph.proofs.Compose.{kept_word}
use Rattle.om_graph.proofs.Itself.{PastPair, past_pair, PastCall, past_call, free_passed}
use Rattle.om_graph.proofs.Straight.{Straight, idle, sets, over, act_straight}
use Rattle.om_image.specs.declared.image.Image.{Image}
use Rattle.om_layout.specs.Layout.{LayoutView, code_at}
use Rattle.om_counted.proofs.Held.{IsHeld}
use Rattle.om_counted.specs.Counted.{is_kept_word, enters_past, is_second, is_entered, counted_of, counted}
use Rattle.om_counted.proofs.Lists.{both, either, same_tests}
use Rattle.om_counted.proofs.Runs.{S, Step, step_of, step_at, same_trace}
use Rattle.om_counted.proofs.Calls.{goes_to}
use Rattle.om_counted.proofs.Told.{kept_same}
use Rattle.om_counted.proofs.Openings.{opening_begins, label_there, opening_same, at_label, at_second, does_pass}
use Rattle.om_counted.proofs.Counting.{apart, Entered, entered_by, enters, fetched_word}

-- one of the two places of a pair, by its offset
pair_off : (q p : Place) → in_pair q p ≡ true → (p.obj ≡ q.obj) × ((p.off ≡ q.off) ⊎ (p.off ≡ q.off + 4))
pair_off q p h =
    let b = both (p.obj == q.obj) _ h in
    (eqb-true _ _ b.0, by_off (either (p.off == q.off) _ b.1))
  where
    by_off : ((p.off == q.off) ≡ true) ⊎ ((p.off == q.off + 4) ≡ true) → (p.off ≡ q.off) ⊎ (p.off ≡ q.off + 4)
    by_off (inl e) = inl (eqb-true _ _ e)
    by_off (inr e) = inr (eqb-true _ _ e)

pair_first : (q : Place) → in_pair q q ≡ true
pair_first q = rw (eq-eqb q.obj q.obj refl, eq-eqb q.off q.off refl) refl

pair_second : (q p : Place) → p ≡ next_place q → in_pair q p ≡ true
pair_second q p e = subst (λ (x : Place). in_pair q x ≡ true) (sym e) (by_first (q.off + 4 == q.off))
  where
    by_first : (b : Bool) → ((q.obj == q.obj) && (b || (q.off + 4 == q.off + 4))) ≡ true
    by_first true = rw (eq-eqb q.obj q.obj refl) refl
    by_first false = rw (eq-eqb q.obj q.obj refl, eq-eqb (q.off + 4) (q.off + 4) refl) refl

module _ (p : ProgramView) (lifted g : GraphView) (l : LayoutView) (i : Image) (k : IsHeld p lifted g l i) (input : List ℕ) where
  abbrev c : Script
  c = graph_script p lifted

  abbrev T : ℕ → List Place
  T n = trace c input n

  abbrev state : ℕ → SymState
  state n = S p k.program lifted k.origin input n

  abbrev StepOf : ℕ → Type 0
  StepOf n = Step p k.program lifted k.origin input n

  -- from an address word the run goes straight on
  address_next : (s : SymState) (w : Word) → is_address w.act ≡ true → (step_word c s (Some w)).ended ≡ None → (step_word c s (Some w)).place ≡ next_place w.at
  address_next s w a on = by_effect (act_effect c s w.at w.act) (act_straight c s w.at w.act a) on
    where
      by_effect : (e : SymEffect) → Straight (act_writes w.act) e → (after s w.at e).ended ≡ None → (after s w.at e).place ≡ next_place w.at
      by_effect e idle on = refl
      by_effect e (sets r v m) on = refl
      by_effect e over on = cc

  -- the last step left in, and how far the run has gone straight on since
  record Since (n : ℕ) (x : Place) : Type 0 where
    pub m : ℕ
    pub step : StepOf m
    pub at : step.word.at ≡ x
    pub on : (state (suc m)).ended ≡ None
    pub far : ℕ
    pub obj : (state n).place.obj ≡ (state (suc m)).place.obj
    pub off : (state n).place.off ≡ (state (suc m)).place.off + 4 * far
    pub zero_is : far ≡ 0 → T n ≡ x ∷ T m
    pub one_is : far ≡ 1 → T n ≡ (state (suc m)).place ∷ x ∷ T m

  start_trace : T 0 ≡ []
  unfolding trace
  start_trace = refl

  since : (n : ℕ) → (state n).ended ≡ None → (x : Place) (xs : List Place) → left g (T n) ≡ x ∷ xs → Since n x
  since zero on x xs e = absurd (not_nil (sym (ap (left g) start_trace) ∙ e))
    where
      not_nil : [] ≡ x ∷ xs → ⊥
      not_nil h = cc
  since (suc n) on x xs e =
      by_left (is_left g (left g (T n)) s.word.at) refl (sym (ap (left g) s.grown) ∙ e) (λ h. since n s.going x xs h)
    where
      s : StepOf n
      s = step_at p k.program lifted k.origin input n on

      none_one : (j : ℕ) → j ≡ 0 → j ≡ 1 → ⊥
      none_one j y z = omega (arith, y, z)

      by_left : (b : Bool) → is_left g (left g (T n)) s.word.at ≡ b → left_onto b s.word.at (left g (T n)) ≡ x ∷ xs → (left g (T n) ≡ x ∷ xs → Since n x) → Since (suc n) x
      by_left true h f r =
          let same : s.word.at ≡ x = cc in
          record {
            m = n;
            step = s;
            at = same;
            on = on;
            far = 0;
            obj = refl;
            off = omega arith;
            zero_is = λ z. s.grown ∙ ap (λ (y : Place). y ∷ T n) same;
            one_is = λ z. absurd (none_one 0 refl z);
          }
      by_left false h f r =
          let v = r f in
          let on' : (step_word c (state n) (Some s.word)).ended ≡ None = ap (λ (t : SymState). t.ended) (sym s.next) ∙ on in
          let a = k.keeps.straight input n s.word (ap (λ e. not (has_observed e)) on) s.going s.found h in
          let next : (state (suc n)).place ≡ next_place s.word.at = ap (λ (t : SymState). t.place) s.next ∙ address_next (state n) s.word a on' in
          let o = ap (λ (q : Place). q.obj) next ∙ ap (λ (q : Place). q.obj) s.place in
          let f4 = ap (λ (q : Place). q.off) next in
          let f0 = ap (λ (q : Place). q.off) s.place in
          let vf = v.off in
          record {
            m = v.m;
            step = v.step;
            at = v.at;
            on = v.on;
            far = suc v.far;
            obj = o ∙ v.obj;
            off = omega (arith, f4, f0, vf);
            zero_is = λ z. absurd (none_suc v.far z);
            one_is = λ z.
                let q0 : v.far ≡ 0 = omega (arith, z) in
                let here : s.word.at ≡ (state (suc v.m)).place = s.place ∙ equal_places (state n).place (state (suc v.m)).place v.obj (omega (arith, q0, vf)) in
                s.grown ∙ ap (λ (ps : List Place). s.word.at ∷ ps) (v.zero_is q0) ∙ ap (λ (y : Place). y ∷ x ∷ T v.m) here;
          }
        where
          none_suc : (j : ℕ) → suc j ≡ 0 → ⊥
          none_suc j z = omega (arith, z)

  word_of : (n : ℕ) (s : StepOf n) → is_word p s.word.at ≡ true
  word_of n s = fetched_word p s.word.at s.word s.there

  -- ---- what the graph leaves out by a call is entered by the map

  to_entered : (n : ℕ) (s : StepOf n) → passes_after g (left g (T n)) s.word.at ≡ true → is_entered i p s.word.at (T n) ≡ true
  to_entered n s h = by_list (left g (T n)) refl h
    where
      q : Place
      q = s.word.at

      by_list : (xs : List Place) → left g (T n) ≡ xs → passes_after g xs s.word.at ≡ true → is_entered i p s.word.at (T n) ≡ true
      by_list [] e h = absurd (true≢false (sym h))
      by_list (x ∷ xs) e h = by_goes goes
        where
          r : Since n x
          r = since n s.going x xs e

          v : PastPair g x s.word.at
          v = past_pair g x s.word.at h

          w : PastCall x v.pair.label v.call.last
          w = past_call x v.pair.label v.call.last v.ends

          u : Word
          u = record { at = x; act = To Bsr w.ra w.to }

          has_u : Has (block_words v.call) u
          has_u = append_right _ (last_words v.call.last) u (subst (λ (ys : List Word). Has ys u) (sym w.word) (inl refl))

          Q : Place
          Q = (state (suc r.m)).place

          goes : CallsTo p Q w.to
          goes = goes_to p k.program lifted k.origin input r.m r.step r.on g k.graph v.call u w.ra w.to v.has_call has_u (sym r.at) refl

          there : is_word p x ≡ true
          there = subst (λ (y : Place). is_word p y ≡ true) r.at (word_of r.m r.step)

          pair : (s.word.at.obj ≡ v.pair.label.obj) × ((s.word.at.off ≡ v.pair.label.off) ⊎ (s.word.at.off ≡ v.pair.label.off + 4))
          pair = pair_off v.pair.label s.word.at v.inside

          here_off : s.word.at.off ≡ Q.off + 4 * r.far
          here_off = ap (λ (y : Place). y.off) s.place ∙ r.off

          by_pair : w.to ≡ next_place (next_place Q) → MayBePassed p Q → (s.word.at.off ≡ v.pair.label.off) ⊎ (s.word.at.off ≡ v.pair.label.off + 4) → is_entered i p s.word.at (T n) ≡ true
          by_pair t may (inl f) =
              let a = w.off in
              let b = ap (λ (y : Place). y.off) t in
              let o = here_off in
              let z : r.far ≡ 0 = omega (arith, a, b, o, f) in
              let enter = enters p lifted g l i k v.call u w.ra w.to Q v.has_call has_u there refl t may.opening may.more in
              let same : s.word.at ≡ Q = equal_places s.word.at Q (ap (λ (y : Place). y.obj) s.place ∙ r.obj) (omega (arith, o, z)) in
              subst (λ (ps : List Place). is_entered i p s.word.at ps ≡ true) (sym (r.zero_is z))
              (subst (λ (y : Place). is_entered i p y (x ∷ T r.m) ≡ true) (sym same) (first enter))
            where
              first : enters_past i p x Q ≡ true → (enters_past i p x Q || is_second i p Q x (T r.m)) ≡ true
              first e = rw e refl
          by_pair t may (inr f) =
              let a = w.off in
              let b = ap (λ (y : Place). y.off) t in
              let o = here_off in
              let z : r.far ≡ 1 = omega (arith, a, b, o, f) in
              let enter = enters p lifted g l i k v.call u w.ra w.to Q v.has_call has_u there refl t may.opening may.more in
              let same : s.word.at ≡ next_place Q = equal_places s.word.at (next_place Q) (ap (λ (y : Place). y.obj) s.place ∙ r.obj) (omega (arith, o, z)) in
              let eq : place_eq (next_place Q) s.word.at ≡ true = subst (λ (y : Place). place_eq (next_place Q) y ≡ true) (sym same) (self_eq (next_place Q)) in
              subst (λ (ps : List Place). is_entered i p s.word.at ps ≡ true) (sym (r.one_is z)) (second (enters_past i p Q s.word.at) eq enter)
            where
              second : (b : Bool) → place_eq (next_place Q) s.word.at ≡ true → enters_past i p x Q ≡ true → (b || (place_eq (next_place Q) s.word.at && enters_past i p x Q)) ≡ true
              second true e f = refl
              second false e f = rw (e, f) refl

          by_goes : CallsTo p Q w.to → is_entered i p s.word.at (T n) ≡ true
          by_goes (inl t) = absurd (too_far pair.1)
            where
              too_far : (s.word.at.off ≡ v.pair.label.off) ⊎ (s.word.at.off ≡ v.pair.label.off + 4) → ⊥
              too_far (inl f) = let a = w.off in let b = ap (λ (y : Place). y.off) t in let o = here_off in omega (arith, a, b, o, f)
              too_far (inr f) = let a = w.off in let b = ap (λ (y : Place). y.off) t in let o = here_off in omega (arith, a, b, o, f)
          by_goes (inr t) = by_pair t.0 t.1 pair.1

  -- ---- and the other way round

  -- a call that goes past a pair is left in
  call_left : (ps : List Place) (x q : Place) → is_kept g x ≡ true → passes g x q ≡ true → left g (x ∷ ps) ≡ x ∷ left g ps
  call_left ps x q kept past = onto (is_left g (left g ps) x) (is_left_there (left g ps))
    where
      free : (xs : List Place) → passes_after g xs x ≡ false
      free [] = refl
      free (y ∷ xs) = free_passed g (apart p lifted g l i k) x q y past

      is_left_there : (xs : List Place) → is_left g xs x ≡ true
      is_left_there xs = rw (kept, free xs) refl

      onto : (b : Bool) → b ≡ true → left_onto b x (left g ps) ≡ x ∷ left g ps
      onto true e = refl
      onto false e = absurd (true≢false (sym e))

  kept_at : (q : Place) → is_kept g q ≡ true → (w : Word) × Has (words g) w × (w.at ≡ q)
  kept_at q h = let w = kept_word (words g) q h in (w.word, w.among, w.place)

  -- a kept first word of a pair is passed by a call to the place 8 bytes behind
  passes_first : (x q : Place) (e : Entered p lifted g l i k x q) → e.to ≡ next_place (next_place q) → is_word p q ≡ true → is_kept g q ≡ true → passes g x q ≡ true
  passes_first x q e t hq kept =
      let y = kept_at q kept in
      let b = has_in g.blocks y.0 y.1 in
      let lab = label_there p k.program g k.graph q hq (opening_begins p q e.opens) in
      let at = at_label p k.program g k.graph b.block y.0 b.among b.word (subst (λ (z : Place). Has g.labels z) (sym y.2) lab) ∙ y.2 in
      let o = opening_same p k.program g k.graph b.block b.among ∙ ap (λ (z : Place). is_opening_pair p z) at ∙ e.opens in
      let ins : in_pair b.block.label y.0.at ≡ true = subst (λ (z : Place). in_pair b.block.label z ≡ true) (at ∙ sym y.2) (pair_first b.block.label) in
      let r = does_pass p k.program g k.graph b.block e.block e.word y.0 e.ra e.to b.among b.word o ins e.among e.has e.act (t ∙ ap (λ (z : Place). next_place (next_place z)) (sym at)) in
      subst (λ (z : Place). passes g z q ≡ true) e.at (subst (λ (z : Place). passes g e.word.at z ≡ true) y.2 r)

  -- and so is a kept second one
  passes_second : (x q r : Place) (e : Entered p lifted g l i k x q) → e.to ≡ next_place (next_place q) → MayBePassed p q → is_word p q ≡ true → r ≡ next_place q → is_kept g r ≡ true → passes g x r ≡ true
  passes_second x q r e t may hq same kept =
      let y = kept_at r kept in
      let b = has_in g.blocks y.0 y.1 in
      let lab = label_there p k.program g k.graph q hq (opening_begins p q e.opens) in
      let at = at_second p k.program g k.graph b.block y.0 q b.among b.word lab (y.2 ∙ same) may.one_block in
      let o = opening_same p k.program g k.graph b.block b.among ∙ ap (λ (z : Place). is_opening_pair p z) at ∙ e.opens in
      let ins : in_pair b.block.label y.0.at ≡ true = pair_second b.block.label y.0.at (y.2 ∙ same ∙ ap next_place (sym at)) in
      let v = does_pass p k.program g k.graph b.block e.block e.word y.0 e.ra e.to b.among b.word o ins e.among e.has e.act (t ∙ ap (λ (z : Place). next_place (next_place z)) (sym at)) in
      subst (λ (z : Place). passes g z r ≡ true) e.at (subst (λ (z : Place). passes g e.word.at z ≡ true) y.2 v)

  -- where the map has a word that enters a pair and the run went on from it to the pair, the graph's call goes past it, if a
  -- word of the pair is kept
  past_there :
      (n : ℕ) (s : StepOf n) (on : (state (suc n)).ended ≡ None) (q y : Place) (e : Entered p lifted g l i k s.word.at q) → (state (suc n)).place ≡ q → is_word p q ≡ true →
      is_kept g y ≡ true → y.obj ≡ q.obj → q.off ≤ y.off → y.off < q.off + 8 → (e.to ≡ next_place (next_place q)) × MayBePassed p q
  past_there n s on q y e at hq kept o a b = by_goes (subst (λ (z : Place). CallsTo p z e.to) at (goes_to p k.program lifted k.origin input n s on g k.graph e.block e.word e.ra e.to e.among e.has e.at e.act))
    where
      by_goes : CallsTo p q e.to → (e.to ≡ next_place (next_place q)) × MayBePassed p q
      by_goes (inr t) = t
      by_goes (inl t) =
          let w = kept_at y kept in
          let wo = ap (λ (z : Place). z.obj) w.2 in
          let wf = ap (λ (z : Place). z.off) w.2 in
          absurd (k.pairs.apart q w.0 e.block e.word e.ra hq e.more e.opens e.among e.has (e.act ∙ ap (To Bsr e.ra) t) w.1 (wo ∙ o) (omega (arith, wf, a)) (omega (arith, wf, b)) (ap (code_at l) (sym t) ∙ e.there))

  not_nil : (q : Place) → is_entered i p q (T 0) ≡ true → ⊥
  unfolding trace
  not_nil q h = true≢false (sym h)

  no_second : (q b : Place) → is_second i p q b (T 0) ≡ true → ⊥
  unfolding trace
  no_second q b h = true≢false (sym h)

  to_passes : (n : ℕ) (s : StepOf n) → is_kept g s.word.at ≡ true → is_entered i p s.word.at (T n) ≡ true → passes_after g (left g (T n)) s.word.at ≡ true
  to_passes zero s kept h = absurd (not_nil s.word.at h)
  to_passes (suc m) s kept h = by_case (either (enters_past i p v.word.at s.word.at) _ (subst (λ (ps : List Place). is_entered i p s.word.at ps ≡ true) v.grown h))
    where
      v : StepOf m
      v = step_at p k.program lifted k.origin input m s.going

      q : Place
      q = s.word.at

      first : enters_past i p v.word.at s.word.at ≡ true → passes_after g (left g (T (suc m))) s.word.at ≡ true
      first e =
          let x = entered_by p lifted g l i k v.word.at s.word.at (word_of m v) e in
          let t = past_there m v s.going s.word.at s.word.at x (sym s.place) (word_of (suc m) s) kept refl (omega arith) (omega arith) in
          let past = passes_first v.word.at s.word.at x t.0 (word_of (suc m) s) kept in
          let there = call_left (T m) v.word.at s.word.at x.kept past in
          subst (λ (ps : List Place). passes_after g ps s.word.at ≡ true) (sym (ap (left g) v.grown ∙ there)) past

      second : (n : ℕ) (w : StepOf n) → T m ≡ w.word.at ∷ T n → (state (suc n)).ended ≡ None → (state (suc n)).place ≡ v.word.at →
          (place_eq (next_place v.word.at) s.word.at && enters_past i p w.word.at v.word.at) ≡ true → passes_after g (left g (T (suc m))) s.word.at ≡ true
      second n w grown on at h = by_kept (is_kept g v.word.at) refl
        where
          b : (place_eq (next_place v.word.at) s.word.at ≡ true) × (enters_past i p w.word.at v.word.at ≡ true)
          b = both (place_eq (next_place v.word.at) s.word.at) _ h

          here : s.word.at ≡ next_place v.word.at
          here = sym (same_place (next_place v.word.at) s.word.at b.0)

          x : Entered p lifted g l i k w.word.at v.word.at
          x = entered_by p lifted g l i k w.word.at v.word.at (word_of n w) b.1

          t : (x.to ≡ next_place (next_place v.word.at)) × MayBePassed p v.word.at
          t =
              let o = ap (λ (z : Place). z.obj) here in
              let f = ap (λ (z : Place). z.off) here in
              past_there n w on v.word.at s.word.at x at (word_of m v) kept o (omega (arith, f)) (omega (arith, f))

          past : passes g w.word.at s.word.at ≡ true
          past = passes_second w.word.at v.word.at s.word.at x t.0 t.1 (word_of m v) here kept

          call_there : left g (T m) ≡ w.word.at ∷ left g (T n)
          call_there = ap (left g) grown ∙ call_left (T n) w.word.at s.word.at x.kept past

          left_out : is_left g (w.word.at ∷ left g (T n)) v.word.at ≡ false → left g (T (suc m)) ≡ w.word.at ∷ left g (T n)
          left_out f =
              ap (left g) v.grown ∙ ap (λ (ps : List Place). left_onto (is_left g ps v.word.at) v.word.at ps) call_there
              ∙ ap (λ (b : Bool). left_onto b v.word.at (w.word.at ∷ left g (T n))) f

          done : is_left g (w.word.at ∷ left g (T n)) v.word.at ≡ false → passes_after g (left g (T (suc m))) s.word.at ≡ true
          done f = subst (λ (ps : List Place). passes_after g ps s.word.at ≡ true) (sym (left_out f)) past

          by_kept : (d : Bool) → is_kept g v.word.at ≡ d → passes_after g (left g (T (suc m))) s.word.at ≡ true
          by_kept false f = done (rw f refl)
          by_kept true f = let y = passes_first w.word.at v.word.at x t.0 (word_of m v) f in done (rw (f, y) refl)

      by_time : (n : ℕ) → m ≡ n → is_second i p s.word.at v.word.at (T m) ≡ true → passes_after g (left g (T (suc m))) s.word.at ≡ true
      by_time zero e h = absurd (no_second s.word.at v.word.at (subst (λ (j : ℕ). is_second i p s.word.at v.word.at (T j) ≡ true) e h))
      by_time (suc n) e h =
          let on : (state (suc n)).ended ≡ None = subst (λ (j : ℕ). (state j).ended ≡ None) e v.going in
          let w = step_at p k.program lifted k.origin input n on in
          let grown : T m ≡ w.word.at ∷ T n = ap T e ∙ w.grown in
          second n w grown on (ap (λ (j : ℕ). (state j).place) (sym e) ∙ sym v.place) (subst (λ (ps : List Place). is_second i p s.word.at v.word.at ps ≡ true) grown h)

      by_case : (enters_past i p v.word.at s.word.at ≡ true) ⊎ (is_second i p s.word.at v.word.at (T m) ≡ true) → passes_after g (left g (T (suc m))) s.word.at ≡ true
      by_case (inl e) = first e
      by_case (inr e) = by_time m refl e

  -- ---- the counts

  entered_same : (n : ℕ) (s : StepOf n) → is_kept g s.word.at ≡ true → is_entered i p s.word.at (T n) ≡ passes_after g (left g (T n)) s.word.at
  entered_same n s kept = same_tests _ _ (to_passes n s kept) (to_entered n s)

  one_more :
      (n : ℕ) (s : StepOf n) → counted_of i p (T n) ≡ length (left g (T n)) →
      counted_of i p (s.word.at ∷ T n) ≡ length (left g (s.word.at ∷ T n))
  one_more n s h = by_kept (is_kept g s.word.at) refl
    where
      told : is_kept_word i s.word.at ≡ is_kept g s.word.at
      told = kept_same p lifted g l i k s.word.at (word_of n s)

      by_passed : (b : Bool) → is_kept g s.word.at ≡ true → passes_after g (left g (T n)) s.word.at ≡ b → counted_of i p (s.word.at ∷ T n) ≡ length (left g (s.word.at ∷ T n))
      by_passed true e f =
          let a : is_entered i p s.word.at (T n) ≡ true = entered_same n s e ∙ f in
          let t : is_kept_word i s.word.at ≡ true = told ∙ e in
          rw (t, a, e, f) h
      by_passed false e f =
          let a : is_entered i p s.word.at (T n) ≡ false = entered_same n s e ∙ f in
          let t : is_kept_word i s.word.at ≡ true = told ∙ e in
          rw (t, a, e, f) (ap (λ (j : ℕ). suc j) h)

      by_kept : (b : Bool) → is_kept g s.word.at ≡ b → counted_of i p (s.word.at ∷ T n) ≡ length (left g (s.word.at ∷ T n))
      by_kept true e = by_passed (passes_after g (left g (T n)) s.word.at) e refl
      by_kept false e = let t : is_kept_word i s.word.at ≡ false = told ∙ e in rw (t, e) h

  pub counts : (n : ℕ) → counted_of i p (T n) ≡ length (left g (T n))
  unfolding trace
  counts zero = refl
  counts (suc n) = by_end (state n).ended refl (counts n)
    where
      by_word : (o : Option Word) → (state n).ended ≡ None → next_word (words lifted) (state n).place ≡ o → counted_of i p (T n) ≡ length (left g (T n)) →
          counted_of i p (Rattle.om_prog.specs.Runs.add_word o (T n)) ≡ length (left g (Rattle.om_prog.specs.Runs.add_word o (T n)))
      by_word None going f h = h
      by_word (Some w) going f h =
          let v = step_of p k.program lifted k.origin input n w going f in
          let same : v.word ≡ w = Rattle.om_graph.proofs.OfProgram.same_some (sym v.found ∙ f) in
          subst (λ (x : Word). counted_of i p (x.at ∷ T n) ≡ length (left g (x.at ∷ T n))) same (one_more n v h)

      by_end : (e : Option SymEnd) → (state n).ended ≡ e → counted_of i p (T n) ≡ length (left g (T n)) →
          counted_of i p (add_step e c (state n) (T n)) ≡ length (left g (add_step e c (state n) (T n)))
      by_end (Some e) f h = h
      by_end None f h = by_word (next_word (words lifted) (state n).place) f refl h

  pub counted_is_left : (n : ℕ) → counted i p input n ≡ length (left_in g (graph_script p lifted) input n)
  counted_is_left n = ap (counted_of i p) (same_trace p k.program lifted k.origin input n) ∙ counts n
