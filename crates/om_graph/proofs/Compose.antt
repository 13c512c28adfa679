-- Passes in a row keep meaning.
use Rattle.std.proofs.Common.{◌≡◌, inl, inr, ℕ, suc, Bool, true, false, cond, List, [], ◌∷◌, length, Option, Some, None, refl, sym, ap, ◌∙◌, subst, arith}
use Rattle.std.specs.Prelude.{not, find, is_some}
use Rattle.om_value.specs.Same.{place_eq}
use Rattle.std.proofs.lemmas.Bool.{true≢false}
use Rattle.om_value.specs.declared.value.Place.{Place}
use Rattle.om_prog.specs.Act.{Word}
use Rattle.om_prog.specs.View.{ProgramView}
use Rattle.om_prog.specs.Runs.{sym_run, trace, add_step, add_word, is_clean, has_observed, Alike}
use Rattle.om_graph.specs.View.{GraphView, Has}
use Rattle.om_graph.specs.Run.{graph_script, words, next_word}
use Rattle.om_graph.specs.Form.{is_address}
use Rattle.om_graph.specs.LeftIn.{is_kept, passes, passes_after, is_left, left, left_onto, left_in, Goes, StillPasses, Keeps}
use Rattle.om_graph.proofs.Forward.{trace_adds}
use Rattle.om_graph.proofs.Labels.{same_place, self_eq}
use Rattle.om_graph.proofs.Fetching.{found_has}

module _ (mid new : GraphView) where
  -- what the calls of a run need
  abbrev pub Passing : List Place → Type 0
  Passing ps = (c q : Place) → Has ps c → passes mid c q ≡ true → is_kept new q ≡ true → StillPasses new c q

  not_left : (ps : List Place) (p : Place) → is_kept new p ≡ false → is_left new ps p ≡ false
  not_left ps p k = cc

  kept_left : (b : Bool) (ps : List Place) (p : Place) → is_left new ps p ≡ b → is_kept new p ≡ true → passes_after new ps p ≡ false → left_onto b p ps ≡ p ∷ ps
  kept_left true ps p e k n = refl
  kept_left false ps p e k n = absurd (true≢false (sym (rw (k, n) refl) ∙ e))

  -- what one leaves out, both leave out
  out_by_call : (ps : List Place) (p : Place) (k : Bool) → Passing ps → is_kept new p ≡ k → passes_after mid ps p ≡ true → is_left new (left new ps) p ≡ false
  out_by_call ps p false h e m = not_left (left new ps) p e
  out_by_call [] p true h e m = absurd (true≢false (sym m))
  out_by_call (c ∷ ps) p true h e m =
      let s = h c p (inl refl) m e in
      let k : left new (c ∷ ps) ≡ c ∷ left new ps = kept_left _ (left new ps) c refl s.kept (free_after (left new ps) s.free) in
      rw (k, e, s.goes) refl
    where
      free_after : (qs : List Place) → ((x : Place) → passes new x c ≡ false) → passes_after new qs c ≡ false
      free_after [] f = refl
      free_after (x ∷ qs) f = f x

  out : (ps : List Place) (p : Place) (k m : Bool) → Passing ps → ((q : Place) → is_kept new q ≡ true → is_kept mid q ≡ true) →
      is_kept mid p ≡ k → passes_after mid ps p ≡ m → is_left mid ps p ≡ false → is_left new (left new ps) p ≡ false
  out ps p false m h f ek em e = not_left (left new ps) p (not_kept _ refl)
    where
      not_kept : (b : Bool) → is_kept new p ≡ b → is_kept new p ≡ false
      not_kept true n = absurd (true≢false (sym (f p n) ∙ ek))
      not_kept false n = n
  out ps p true true h f ek em e = out_by_call ps p _ h refl em
  out ps p true false h f ek em e = absurd (true≢false (sym (rw (ek, em) refl) ∙ e))

  one_more :
      (ps : List Place) (p : Place) (b : Bool) → (Passing (left mid ps) → left new (left mid ps) ≡ left new ps) →
      ((q : Place) → is_kept new q ≡ true → is_kept mid q ≡ true) → is_left mid (left mid ps) p ≡ b →
      Passing (left_onto b p (left mid ps)) → left new (left_onto b p (left mid ps)) ≡ left new (p ∷ ps)
  one_more ps p true i f e h = rw (i (λ c q r. h c q (inr r))) refl
  one_more ps p false i f e h =
      let o = out (left mid ps) p _ _ h f refl refl e in
      let o' : is_left new (left new ps) p ≡ false = rw (sym (i h)) o in
      i h ∙ rw o' refl

  left_left : (ps : List Place) → Passing (left mid ps) → ((q : Place) → is_kept new q ≡ true → is_kept mid q ≡ true) → left new (left mid ps) ≡ left new ps
  left_left [] h f = refl
  left_left (p ∷ ps) h f = one_more ps p _ (λ h. left_left ps h f) f refl h

-- a place that was run, is kept and not passed is left in
pub run_left : (new : GraphView) (ps : List Place) (c : Place) → Has ps c → is_kept new c ≡ true → ((x : Place) → passes new x c ≡ false) → Has (left new ps) c
run_left new [] c r k f = r
run_left new (p ∷ ps) c (inl e) k f =
    subst (λ (x : Place). Has (left new (x ∷ ps)) c) (sym e)
    (subst (λ (l : List Place). Has l c) (sym (kept_left new new _ (left new ps) c refl k (free_after (left new ps) f))) (inl refl))
  where
    free_after : (qs : List Place) → ((x : Place) → passes new x c ≡ false) → passes_after new qs c ≡ false
    free_after [] f = refl
    free_after (x ∷ qs) f = f x
run_left new (p ∷ ps) c (inr r) k f = onto (is_left new (left new ps) p) (left new ps) (run_left new ps c r k f)
  where
    onto : (b : Bool) (l : List Place) → Has l c → Has (left_onto b p l) c
    onto true l r = inr r
    onto false l r = r

longer : (l : List Place) (q : Place) → l ≡ q ∷ l → ⊥
longer l q e = let h = ap (λ (x : List Place). length x) e in omega (arith, h)

heads : {q r : Place} {l m : List Place} → q ∷ l ≡ r ∷ m → q ≡ r
heads e = cc

-- a word that is there is kept, and a kept place is that of a word
pub has_kept : (ws : List Word) (w : Word) → Has ws w → is_some (find (λ x. place_eq x.at w.at) ws) ≡ true
has_kept [] w h = absurd h
has_kept (x ∷ ws) w (inl e) = let s : place_eq x.at w.at ≡ true = subst (λ (y : Word). place_eq x.at y.at ≡ true) e (self_eq x.at) in rw s refl
has_kept (x ∷ ws) w (inr h) = by_eq (place_eq x.at w.at) (has_kept ws w h)
  where
    by_eq : (b : Bool) → is_some (find (λ x. place_eq x.at w.at) ws) ≡ true → is_some (cond b (Some x) (find (λ x. place_eq x.at w.at) ws)) ≡ true
    by_eq true i = refl
    by_eq false i = i

pub record KeptWord (ws : List Word) (q : Place) : Type 0 where
  pub word : Word
  pub among : Has ws word
  pub place : word.at ≡ q

pub kept_word : (ws : List Word) (q : Place) → is_some (find (λ x. place_eq x.at q) ws) ≡ true → KeptWord ws q
kept_word [] q h = absurd (true≢false (sym h))
kept_word (x ∷ ws) q h = by_eq (place_eq x.at q) refl h (kept_word ws q)
  where
    by_eq :
        (b : Bool) → place_eq x.at q ≡ b → is_some (cond b (Some x) (find (λ x. place_eq x.at q) ws)) ≡ true →
        (is_some (find (λ x. place_eq x.at q) ws) ≡ true → KeptWord ws q) → KeptWord (x ∷ ws) q
    by_eq true e h i = record { word = x; among = inl refl; place = same_place x.at q e }
    by_eq false e h i = let r = i h in record { word = r.word; among = inr r.among; place = r.place }

module _ (p : ProgramView) (a b c : GraphView) (first : Keeps p a b) (second : Keeps p b c) where
  module _ (input : List ℕ) (n : ℕ) (clean : is_clean (graph_script p a) input n ≡ true) where
    abbrev m : ℕ
    m = length (left_in b (graph_script p a) input n)

    clean_there : is_clean (graph_script p b) input m ≡ true
    clean_there = ap (λ e. not (has_observed e)) (first.meaning input n clean).alike.ended ∙ clean

    ran_there : (q : Place) → Has (left_in b (graph_script p a) input n) q → Has (trace (graph_script p b) input m) q
    ran_there q r = subst (λ (l : List Place). Has l q) (sym (first.meaning input n clean).places) r

    same_left : left c (left_in b (graph_script p a) input n) ≡ left_in c (graph_script p a) input n
    same_left =
        left_left b c (trace (graph_script p a) input n)
        (λ x q r e k. second.calls input m x q clean_there (ran_there x r) e k) second.fewer

    same_steps : left_in c (graph_script p b) input m ≡ left_in c (graph_script p a) input n
    same_steps = ap (left c) (first.meaning input n clean).places ∙ same_left

    goes_both : Goes p a c input n
    goes_both =
        let one = first.meaning input n clean in
        let two = second.meaning input m clean_there in
        let P = λ (l : List Place). Alike (sym_run (graph_script p b) input m) (sym_run (graph_script p c) input (length l)) in
        let al = subst P same_steps two.alike in
        let Q = λ (l : List Place). trace (graph_script p c) input (length l) ≡ l in
        record {
          alike = record {
            input = al.input ∙ one.alike.input;
            out = al.out ∙ one.alike.out;
            err = al.err ∙ one.alike.err;
            ended = al.ended ∙ one.alike.ended;
          };
          places = subst Q same_steps two.places;
        }

    still : (x q : Place) → Has (trace (graph_script p a) input n) x → passes a x q ≡ true → is_kept c q ≡ true → StillPasses c x q
    still x q r e k =
        let s = first.calls input n x q clean r e (second.fewer q k) in
        second.calls input m x q clean_there (ran_there x (run_left b _ x r s.kept s.free)) s.goes k

  -- a step that the first pass leaves in is one of the run between
  module _ (input : List ℕ) (n : ℕ) (w : Word) (clean : is_clean (graph_script p a) input (suc n) ≡ true) (going : (sym_run (graph_script p a) input n).ended ≡ None)
      (found : next_word (words a) (sym_run (graph_script p a) input n).place ≡ Some w) where
    clean_now : is_clean (graph_script p a) input n ≡ true
    clean_now = ap (λ e. not (has_observed e)) going

    abbrev k : ℕ
    k = length (left_in b (graph_script p a) input n)

    abbrev T : List Place
    T = left_in b (graph_script p a) input n

    grown : is_left b T w.at ≡ true → left_in b (graph_script p a) input (suc n) ≡ w.at ∷ T
    unfolding trace
    grown l = ap (left b) (trace_adds (graph_script p a) (sym_run (graph_script p a) input n) w (trace (graph_script p a) input n) going found) ∙ rw l refl

    going_there : (sym_run (graph_script p b) input k).ended ≡ None
    going_there = (first.meaning input n clean_now).alike.ended ∙ going

    ran_now : trace (graph_script p b) input k ≡ T
    ran_now = (first.meaning input n clean_now).places

    ran_next : is_left b T w.at ≡ true → trace (graph_script p b) input (suc k) ≡ w.at ∷ T
    ran_next l = subst (λ (x : List Place). trace (graph_script p b) input (length x) ≡ x) (grown l) (first.meaning input (suc n) clean).places

    clean_next : is_left b T w.at ≡ true → is_clean (graph_script p b) input (suc k) ≡ true
    clean_next l =
        subst (λ (x : List Place). is_clean (graph_script p b) input (length x) ≡ true) (grown l)
        (ap (λ e. not (has_observed e)) (first.meaning input (suc n) clean).alike.ended ∙ clean)

    record There : Type 0 where
      pub word : Word
      pub finds : next_word (words b) (sym_run (graph_script p b) input k).place ≡ Some word
      pub place : word.at ≡ w.at

    there : is_left b T w.at ≡ true → There
    unfolding trace
    there l =
        by_word (next_word (words b) (sym_run (graph_script p b) input k).place) refl
        (sym (ap (λ e. add_step e (graph_script p b) (sym_run (graph_script p b) input k) (trace (graph_script p b) input k)) going_there)
        ∙ ran_next l)
      where
        by_word :
            (o : Option Word) → next_word (words b) (sym_run (graph_script p b) input k).place ≡ o →
            add_word (next_word (words b) (sym_run (graph_script p b) input k).place) (trace (graph_script p b) input k) ≡ w.at ∷ T → There
        by_word None e h = absurd (longer T w.at (sym ran_now ∙ ap (λ (o : Option Word). add_word o (trace (graph_script p b) input k)) (sym e) ∙ h))
        by_word (Some u) e h = record { word = u; finds = e; place = heads (ap (λ (o : Option Word). add_word o (trace (graph_script p b) input k)) (sym e) ∙ h) }

    straight_both : is_left c (left_in c (graph_script p a) input n) w.at ≡ false → is_address w.act ≡ true
    straight_both out = by_left _ refl
      where
        by_left : (t : Bool) → is_left b T w.at ≡ t → is_address w.act ≡ true
        by_left false l = first.straight input n w clean going found l
        by_left true l =
            let u = there l in
            let same = same_steps input n clean_now in
            let o : is_left c (left_in c (graph_script p b) input k) u.word.at ≡ false = rw (same, u.place) out in
            first.address w u.word (found_has (words a) _ w found) (found_has (words b) _ u.word u.finds) u.place
            (second.straight input k u.word (clean_next l) going_there u.finds o)

  address_both :
      (w u : Word) → Has (words a) w → Has (words c) u → u.at ≡ w.at → is_address u.act ≡ true → is_address w.act ≡ true
  address_both w u hw hu e h =
      let m = kept_word (words b) u.at (second.fewer u.at (has_kept (words c) u hu)) in
      first.address w m.word hw m.among (m.place ∙ e) (second.address m.word u m.among hu (sym m.place) h)

  pub keeps_both : Keeps p a c
  keeps_both = record {
    meaning = goes_both;
    fewer = λ q k. first.fewer q (second.fewer q k);
    calls = λ input n x q clean r e k. still input n clean x q r e k;
    straight = λ input n w clean going found out. straight_both input n w clean going found out;
    address = address_both;
  }
