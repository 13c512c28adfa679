-- A call past an opening pair of r29, where r29 holds the global pointer that the pair sets, is a pass.
use Rattle.std.proofs.Common.{◌≡◌, ◌⊎◌, inl, inr, ◌<◌, ◌≤◌, ℕ, Bool, true, false, cond, ◌&&◌, ◌==◌, List, [], ◌∷◌, Option, Some, refl, sym, ap, ◌∙◌, subst, arith}
use Rattle.std.specs.Prelude.{not}
use Rattle.std.proofs.lemmas.Bool.{true≢false, eqb-true}
use Rattle.om_isa.specs.Effect.{Set, StepObserves}
use Rattle.om_isa.specs.declared.instr.BrOp.TheVariants.{Bsr}
use Rattle.om_value.specs.declared.value.Place.{Place}
use Rattle.om_value.specs.declared.value.Value.{Value}
use Rattle.om_value.specs.declared.value.Value.TheVariants.{Gp, Half}
use Rattle.om_value.specs.Same.{value_eq, place_eq}
use Rattle.om_prog.specs.Act.{GpHi, GpLo, To, Word, Script, act_reads, act_writes}
use Rattle.om_prog.specs.Step.{SymState, read_reg, next_place, act_effect, after}
use Rattle.om_prog.specs.Runs.{step_word, has_observed}
use Rattle.om_prog.specs.Flow.{Among, Agree, moved, effect_place}
use Rattle.om_prog.specs.View.{ProgramView}
use Rattle.om_prog.proofs.Agree.{act_same}
use Rattle.om_prog.proofs.Writes.{unwritten}
use Rattle.om_graph.specs.View.{GraphView, Has}
use Rattle.om_graph.specs.Run.{words, next_word, graph_script}
use Rattle.om_graph.specs.Form.{Ordered, is_address}
use Rattle.om_graph.specs.LeftIn.{is_kept, passes, passes_after, is_left}
use Rattle.om_graph.specs.Pass.{Keeping, Agreeing, Like, same, jumps, Pass}
use Rattle.om_graph.specs.Rewritten.{each_word}
use Rattle.om_graph.specs.Whole.{IsWhole}
use Rattle.om_graph.specs.Kept.{IsKeptLanding}
use Rattle.om_graph.proofs.Labels.{same_place, self_eq, equal_places}
use Rattle.om_graph.proofs.Fetching.{found_from, found_has}
use Rattle.om_graph.proofs.Itself.{unique}
use Rattle.om_graph.proofs.Whole.{Here, known_there, first_lands}
use Rattle.om_passes.specs.AtPlaces.{set_at}
use Rattle.om_passes.proofs.AtPlaces.{set_here, IsSet, here as at_place, elsewhere, is_set}
use Rattle.om_passes.proofs.KeptWords.{Past, unpassed, kept_word_is, found_there, call_past}
use Rattle.om_passes.proofs.Dropping.{next_least}

module _ (p : ProgramView) (g new : GraphView) (whole : IsWhole p g) (ordered : Ordered (words g)) (at : Place) (ra : ℕ) (q : Place) (link : ra ≡ 29 → ⊥) (rb : ℕ) (base : Place)
    (call_has : Has (words g) (record { at = at; act = To Bsr ra q })) (high_has : Has (words g) (record { at = q; act = GpHi 29 rb base }))
    (low_has : Has (words g) (record { at = next_place q; act = GpLo 29 29 q }))
    (changed : words new ≡ each_word (set_at at (To Bsr ra (next_place (next_place q)))) (words g)) (past_high : passes new at q ≡ true) (past_low : passes new at (next_place q) ≡ true)
    (I : SymState → Type 0) (keeping : Keeping (graph_script p g) (IsKeptLanding g) I) (known_here : (s : SymState) → I s → Here p g whole s)
    (told : (s : SymState) → I s → next_word (words g) s.place ≡ Some (record { at = at; act = To Bsr ra q }) → read_reg s.regs 29 ≡ Gp ((graph_script p g).table q.obj)) where
  abbrev pub c : Script
  c = graph_script p g

  abbrev pub K : Place → Type 0
  K = IsKeptLanding g

  abbrev far : Place
  far = next_place (next_place q)

  abbrev call : Word
  call = record { at = at; act = To Bsr ra q }

  abbrev high : Word
  high = record { at = q; act = GpHi 29 rb base }

  abbrev low : Word
  low = record { at = next_place q; act = GpLo 29 29 q }

  abbrev f : Word → Option Word
  f = set_at at (To Bsr ra far)

  abbrev pub fetch : Place → Option Word
  fetch = next_word (words new)

  abbrev gp : Value
  gp = Gp (c.table q.obj)

  -- the last step left in was the call
  abbrev after_call : List Place → Bool
  after_call [] = false
  after_call (k ∷ ks) = place_eq k at

  abbrev InPair : Place → Type 0
  InPair x = (x ≡ q) ⊎ (x ≡ next_place q)

  -- behind the call r29 is not cared for between the halves
  abbrev pub Live : List Place → Place → ℕ → Bool
  Live ps x r = not ((r == 29) && (after_call ps && place_eq x (next_place q)))

  -- the runs are at one place, past what the last step went past; or the old one is in the pair and the new one behind it
  abbrev pub Meets : List Place → Place → Place → Type 0
  Meets ps n s = ((n ≡ s) × Past new ps s) ⊎ ((after_call ps ≡ true) × InPair s × (n ≡ far))

  abbrev pub Knows : List Place → Place → (ℕ → Value) → Type 0
  Knows ps s rs = after_call ps ≡ true → InPair s → read_reg rs 29 ≡ gp

  -- ---- words

  has_word : (s : SymState) (w : Word) → c.fetch s.place ≡ Some w → Has (words g) w
  has_word s w e = found_has (words g) s.place w e

  in_place : (w u : Word) → f w ≡ Some u → u.at ≡ w.at
  in_place w u e = by_case (is_set at (To Bsr ra far) w u e)
    where
      by_case : IsSet at (To Bsr ra far) w u → u.at ≡ w.at
      by_case (at_place a d) = ap (λ (x : Word). x.at) d
      by_case (elsewhere a d) = ap (λ (x : Word). x.at) d

  -- a word in the new graph
  record Now (w : Word) : Type 0 where
    word : Word
    becomes : f w ≡ Some word

  now : (w : Word) → Now w
  now w = record { word = _; becomes = refl }

  new_there : (r : Place) (w u : Word) → c.fetch r ≡ Some w → f w ≡ Some u → fetch r ≡ Some u
  new_there r w u e k = found_there g new ordered f in_place changed r w u e k

  kept_now : (s : SymState) (w : Word) → c.fetch s.place ≡ Some w → is_kept new w.at ≡ true
  kept_now s w e = let u = now w in kept_word_is g new ordered f in_place changed w u.word (has_word s w e) u.becomes

  -- in the pair the next word is a half
  at_high : (s : SymState) (w : Word) → c.fetch s.place ≡ Some w → s.place ≡ q → w ≡ high
  at_high s w e i =
      let o = found_from (words g) s.place w e in
      let l = next_least (words g) s.place w high ordered e high_has (sym (ap (λ (x : Place). x.obj) i)) (same_off (ap (λ (x : Place). x.off) i)) in
      let o1 = o.1 in
      let d = ap (λ (x : Place). x.off) i in
      unique (words g) high w ordered high_has (has_word s w e) (equal_places w.at q (o.0 ∙ ap (λ (x : Place). x.obj) i) (omega (arith, l, o1, d)))
    where
      same_off : s.place.off ≡ q.off → s.place.off ≤ q.off
      same_off d = omega (arith, d)

  at_low : (s : SymState) (w : Word) → c.fetch s.place ≡ Some w → s.place ≡ next_place q → w ≡ low
  at_low s w e i =
      let o = found_from (words g) s.place w e in
      let l = next_least (words g) s.place w low ordered e low_has (sym (ap (λ (x : Place). x.obj) i)) (same_off (ap (λ (x : Place). x.off) i)) in
      let o1 = o.1 in
      let d = ap (λ (x : Place). x.off) i in
      unique (words g) low w ordered low_has (has_word s w e) (equal_places w.at (next_place q) (o.0 ∙ ap (λ (x : Place). x.obj) i) (omega (arith, l, o1, d)))
    where
      same_off : s.place.off ≡ (next_place q).off → s.place.off ≤ (next_place q).off
      same_off d = omega (arith, d)

  -- ---- what is left in

  after_is : (ps : List Place) → after_call ps ≡ true → (x : Place) → passes new at x ≡ true → passes_after new ps x ≡ true
  after_is [] h x e = absurd (true≢false (sym h))
  after_is (k ∷ ps) h x e = ap (λ (y : Place). passes new y x) (same_place k at h) ∙ e

  -- behind the call the halves are left out
  pair_out : (ps : List Place) (s : SymState) (w : Word) → c.fetch s.place ≡ Some w → after_call ps ≡ true → InPair s.place → is_left new ps w.at ≡ false
  pair_out ps s w e h i = by_place i
    where
      out : (x : Word) → w ≡ x → passes new at x.at ≡ true → is_left new ps w.at ≡ false
      out x d t =
          let k = kept_now s w e in
          let n = after_is ps h w.at (ap (λ (y : Word). passes new at y.at) d ∙ t) in
          rw (k, n) refl

      by_place : InPair s.place → is_left new ps w.at ≡ false
      by_place (inl d) = out high (at_high s w e d) past_high
      by_place (inr d) = out low (at_low s w e d) past_low

  even_left : (ps : List Place) (s : SymState) (w : Word) → c.fetch s.place ≡ Some w → Past new ps s.place → is_left new ps w.at ≡ true
  even_left ps s w e b = let k = kept_now s w e in let n = unpassed g new ps s.place w b e in rw (k, n) refl

  -- where a word is left out the old run is in the pair
  out_pair : (ps : List Place) (n : Place) (s : SymState) (w : Word) → c.fetch s.place ≡ Some w → is_left new ps w.at ≡ false → Meets ps n s.place → (after_call ps ≡ true) × InPair s.place × (n ≡ far)
  out_pair ps n s w e l (inl m) = absurd (true≢false (sym (even_left ps s w e m.1) ∙ l))
  out_pair ps n s w e l (inr m) = m

  -- where a word is left in the runs are at one place
  in_pair_not : (ps : List Place) (n : Place) (s : SymState) (w : Word) → c.fetch s.place ≡ Some w → is_left new ps w.at ≡ true → Meets ps n s.place → (n ≡ s.place) × Past new ps s.place
  in_pair_not ps n s w e l (inl m) = m
  in_pair_not ps n s w e l (inr m) = absurd (true≢false (sym l ∙ pair_out ps s w e m.0 m.1))

  -- ---- what a call goes past is before where it goes

  goes_past : (k x : Place) → passes new k x ≡ true → (w u : Word) → Has (words g) w → w.at ≡ k → f w ≡ Some u → (s : SymState) → x.off < (effect_place k (act_effect c s k u.act)).off
  goes_past k x h w u hw e d s =
      let z = call_past g new ordered f in_place changed w u x hw d (ap (λ (y : Place). passes new y x) e ∙ h) in
      subst (λ (v : Word). x.off < (effect_place k (act_effect c s k v.act)).off) (sym z.is) z.before

  -- ---- registers

  data Cared (ps : List Place) (x : Place) (r : ℕ) : Type 0 where
    cared : Live ps x r ≡ true → Cared ps x r
    not_cared : r ≡ 29 → after_call ps ≡ true → x ≡ next_place q → Cared ps x r

  is_cared : (ps : List Place) (x : Place) (r : ℕ) → Cared ps x r
  is_cared ps x r = by_all (r == 29) refl (after_call ps) refl (place_eq x (next_place q)) refl
    where
      by_all : (a : Bool) → (r == 29) ≡ a → (b : Bool) → after_call ps ≡ b → (d : Bool) → place_eq x (next_place q) ≡ d → Cared ps x r
      by_all true u true v true z = not_cared (eqb-true r 29 u) v (same_place x (next_place q) z)
      by_all true u true v false z = cared (rw (u, v, z) refl)
      by_all true u false v d z = cared (rw (u, v) refl)
      by_all false u b v d z = cared (rw u refl)

  -- in front of a word that is left in all registers are
  live_left : (ps : List Place) (s : SymState) (w : Word) (r : ℕ) → c.fetch s.place ≡ Some w → is_left new ps w.at ≡ true → Live ps s.place r ≡ true
  live_left ps s w r e l = by_cared (is_cared ps s.place r)
    where
      by_cared : Cared ps s.place r → Live ps s.place r ≡ true
      by_cared (cared h) = h
      by_cared (not_cared n h d) = absurd (true≢false (sym l ∙ pair_out ps s w e h (inr d)))

  none_live : (ps : List Place) (x : Place) → after_call ps ≡ true → x ≡ next_place q → Live ps x 29 ≡ true → ⊥
  none_live ps x h d l = let k : place_eq x (next_place q) ≡ true = ap (λ (y : Place). place_eq y (next_place q)) d ∙ self_eq (next_place q) in true≢false (sym l ∙ rw (h, k) refl)

  is_call : (w : Word) → Has (words g) w → w.at ≡ at → w ≡ call
  is_call w h e = unique (words g) call w ordered call_has h e

  past_far : (ps : List Place) → after_call ps ≡ true → SymState → Past new ps far
  past_far [] h s = tt
  past_far (k ∷ ks) h s = λ x e o.
      let a = same_place k at h in
      goes_past at x (ap (λ (y : Place). passes new y x) (sym a) ∙ e) call (record { at = at; act = To Bsr ra far }) call_has refl (set_here at (To Bsr ra far) call refl) s

  low_sets : (s : SymState) (rs : ℕ → Value) → read_reg rs 29 ≡ gp → has_observed (step_word c s (Some low)).ended ≡ false → read_reg rs 29 ≡ read_reg (step_word c s (Some low)).regs 29
  low_sets s rs k clean = by_test (value_eq (read_reg s.regs 29) (Half q)) clean
    where
      by_test :
          (b : Bool) → has_observed (after s (next_place q) (cond b (Set 29 gp) StepObserves)).ended ≡ false →
          read_reg rs 29 ≡ read_reg (after s (next_place q) (cond b (Set 29 gp) StepObserves)).regs 29
      by_test true n = k
      by_test false n = absurd (true≢false n)

  some_same : {a b : Word} → Some a ≡ Some b → a ≡ b
  some_same e = cc

  becomes : (n : Place) (s : SymState) (w u : Word) → n ≡ s.place → c.fetch s.place ≡ Some w → fetch n ≡ Some u → f w ≡ Some u
  becomes n s w u d e fu =
      let v = now w in
      v.becomes ∙ ap (λ (x : Word). Some x) (some_same (sym (new_there s.place w v.word e v.becomes) ∙ ap fetch (sym d) ∙ fu))

  -- ---- the pass

  pub entering : Pass c fetch K new Live Meets I Knows
  entering = record {
    fine = λ s w i e. (known_there p g whole s w (known_here s i) e).0;
    first = first_lands p g whole;
    starts = keeping.starts;
    steps = keeping.steps;
    keeps = λ s ps w r i e l a. live_left ps s w r e l;
    goes = λ ps s w x r i e l to h. inr (live_left ps s w r e l);
    goes_out = λ ps s n w r i e l m h. out_flow ps s n w r e l m;
    meet_first = inl (refl, tt);
    kept = λ ps s n w i e l m.
        ((now w).word, ap fetch (in_pair_not ps n s w e l m).0 ∙ new_there s.place w (now w).word e (now w).becomes, in_place w (now w).word (now w).becomes);
    like = λ ps s rs n w u fs i e l m fu k agree clean. alike ps s rs n w u e l m fu agree;
    gone = λ ps s n w i e l m. skipped ps s n w e (out_pair ps n s w e l m);
    address = λ ps s n w i e l m. is_address_half s w e (out_pair ps n s w e l m).1;
    settled = λ ps s rs n w r i e l m a h k clean. settled ps s rs n w r e (out_pair ps n s w e l m) a h k clean;
    l_first = λ input h. absurd (true≢false (sym h));
    l_kept = λ ps s rs n w u i e l m fu k agree clean h to. knows_on ps s rs n w u i e l m fu agree;
    l_gone = λ ps s t w i e l m agree k h x. let o = out_pair ps t.place s w e l m in k o.0 o.1;
  }
    where
      is_address_half : (s : SymState) (w : Word) → c.fetch s.place ≡ Some w → InPair s.place → is_address w.act ≡ true
      is_address_half s w e (inl d) = ap (λ (x : Word). is_address x.act) (at_high s w e d)
      is_address_half s w e (inr d) = ap (λ (x : Word). is_address x.act) (at_low s w e d)

      out_flow : (ps : List Place) (s : SymState) (n : Place) (w : Word) (r : ℕ) → c.fetch s.place ≡ Some w → is_left new ps w.at ≡ false → Meets ps n s.place → Among (act_writes w.act) r ⊎ (Live ps s.place r ≡ true)
      out_flow ps s n w r e l m = by_cared (is_cared ps s.place r)
        where
          by_cared : Cared ps s.place r → Among (act_writes w.act) r ⊎ (Live ps s.place r ≡ true)
          by_cared (cared h) = inr h
          by_cared (not_cared x h d) = inl (subst (λ (y : Word). Among (act_writes y.act) r) (sym (at_low s w e d)) (inl (sym x)))

      skipped : (ps : List Place) (s : SymState) (n : Place) (w : Word) → c.fetch s.place ≡ Some w → (after_call ps ≡ true) × InPair s.place × (n ≡ far) → Meets ps n (next_place w.at)
      skipped ps s n w e o = by_place o.1
        where
          by_place : InPair s.place → Meets ps n (next_place w.at)
          by_place (inl d) = inr (o.0, inr (ap (λ (x : Word). next_place x.at) (at_high s w e d)), o.2)
          by_place (inr d) =
              let to : next_place w.at ≡ far = ap (λ (x : Word). next_place x.at) (at_low s w e d) in
              inl (o.2 ∙ sym to, subst (λ (x : Place). Past new ps x) (sym to) (past_far ps o.0 s))

      alike :
          (ps : List Place) (s : SymState) (rs : ℕ → Value) (n : Place) (w u : Word) → c.fetch s.place ≡ Some w → is_left new ps w.at ≡ true → Meets ps n s.place → fetch n ≡ Some u →
          Agreeing (Live ps) s (record s { regs = rs; place = n }) → Like c fetch K new Live Meets I Knows ps w (act_effect c (record s { regs = rs; place = n }) w.at u.act) (act_effect c s w.at w.act)
      alike ps s rs n w u e l m fu agree = by_set (is_set at (To Bsr ra far) w u is_u)
        where
          is_u : f w ≡ Some u
          is_u = becomes n s w u (in_pair_not ps n s w e l m).0 e fu

          agrees : (list : List ℕ) → Agree rs s.regs list
          agrees [] = tt
          agrees (r ∷ list) = (agree r (live_left ps s w r e l), agrees list)

          by_set : IsSet at (To Bsr ra far) w u → Like c fetch K new Live Meets I Knows ps w (act_effect c (moved s rs n) w.at u.act) (act_effect c s w.at w.act)
          by_set (elsewhere a d) =
              same (ap (λ (x : Word). act_effect c (moved s rs n) w.at x.act) d ∙ act_same c s rs n w.at w.act (agrees (act_reads w.act)))
              (λ h. inl (
                refl,
                λ x y o.
                    subst (λ (v : Word). x.off < (effect_place w.at (act_effect c s w.at v.act)).off) d (goes_past w.at x y w u (has_word s w e) refl is_u s),
              ))
          by_set (at_place a d) =
              let is_w = is_call w (has_word s w e) a in
              jumps (Some ra) far q (ap (λ (x : Word). act_effect c (moved s rs n) w.at x.act) d) (ap (λ (x : Word). act_effect c s w.at x.act) is_w)
              (inr (ap (λ (x : Place). place_eq x at) a ∙ self_eq at, inl refl, refl))

      settled :
          (ps : List Place) (s : SymState) (rs : ℕ → Value) (n : Place) (w : Word) (r : ℕ) → c.fetch s.place ≡ Some w → (after_call ps ≡ true) × InPair s.place × (n ≡ far) → Among (act_writes w.act) r →
          Live ps (next_place w.at) r ≡ true → Knows ps s.place rs → has_observed (step_word c s (Some w)).ended ≡ false → read_reg rs r ≡ read_reg (step_word c s (Some w)).regs r
      settled ps s rs n w r e o a h k clean = by_place o.1
        where
          only_29 : Among (29 ∷ []) r → r ≡ 29
          only_29 (inl x) = sym x
          only_29 (inr x) = absurd x

          by_place : InPair s.place → read_reg rs r ≡ read_reg (step_word c s (Some w)).regs r
          by_place (inl d) =
              let is_w = at_high s w e d in
              let x = only_29 (subst (λ (y : Word). Among (act_writes y.act) r) is_w a) in
              absurd (none_live ps (next_place w.at) o.0 (ap (λ (y : Word). next_place y.at) is_w) (subst (λ (y : ℕ). Live ps (next_place w.at) y ≡ true) x h))
          by_place (inr d) =
              let is_w = at_low s w e d in
              let x = only_29 (subst (λ (y : Word). Among (act_writes y.act) r) is_w a) in
              subst (λ (y : ℕ). read_reg rs y ≡ read_reg (step_word c s (Some w)).regs y) (sym x)
              (subst (λ (y : Word). read_reg rs 29 ≡ read_reg (step_word c s (Some y)).regs 29) (sym is_w)
              (low_sets s rs (k o.0 (inr d)) (subst (λ (y : Word). has_observed (step_word c s (Some y)).ended ≡ false) is_w clean)))

      knows_on :
          (ps : List Place) (s : SymState) (rs : ℕ → Value) (n : Place) (w u : Word) → I s → c.fetch s.place ≡ Some w → is_left new ps w.at ≡ true → Meets ps n s.place → fetch n ≡ Some u →
          Agreeing (Live ps) s (record s { regs = rs; place = n }) →
          Knows (w.at ∷ ps) (effect_place w.at (act_effect c s w.at w.act)) (after (record s { regs = rs; place = n }) w.at (act_effect c (record s { regs = rs; place = n }) w.at u.act)).regs
      knows_on ps s rs n w u i e l m fu agree h x =
          let a = same_place w.at at h in
          let is_w = is_call w (has_word s w e) a in
          let is_u : u ≡ record { at = w.at; act = To Bsr ra far } = some_same (sym (becomes n s w u (in_pair_not ps n s w e l m).0 e fu) ∙ set_here at (To Bsr ra far) w a) in
          ap (λ (v : Word). read_reg (after (moved s rs n) w.at (act_effect c (moved s rs n) w.at v.act)).regs 29) is_u ∙ unwritten rs ra _ 29 link ∙ agree 29 (live_left ps s w 29 e l)
          ∙ told s i (e ∙ ap (λ (y : Word). Some y) is_w)
