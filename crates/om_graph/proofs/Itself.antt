-- A graph keeps its own meaning: its run passes no pair that it enters, since a call past a pair goes past it.
use Rattle.std.proofs.Common.{◌≡◌, ◌⊎◌, inl, inr, ◌≤◌, ◌+◌, ℕ, zero, suc, Bool, true, false, cond, ◌&&◌, ◌||◌, ◌==◌, List, [], ◌∷◌, ◌++◌, Option, Some, None, refl, sym, ap, ◌∙◌, subst, arith}
use Rattle.std.specs.Prelude.{find, is_some}
use Rattle.std.proofs.lemmas.Bool.{true≢false, eqb-true}
use Rattle.om_isa.specs.declared.instr.BrOp.TheVariants.{Br as Straight, Bsr, If}
use Rattle.om_value.specs.declared.value.Place.{Place}
use Rattle.om_prog.specs.Act as act
use Rattle.om_prog.specs.Act.{Act, Word, Script}
use Rattle.om_prog.specs.View.{ProgramView}
use Rattle.om_prog.specs.Step.{SymState, SymEnd, act_effect, after}
use Rattle.om_prog.specs.Runs.{sym_run, step_word, trace, add_step, add_word, has_observed}
use Rattle.om_graph.specs.declared.op.Last.{Last}
use Rattle.om_graph.specs.declared.op.Last.TheVariants.{Fall, Off, Br, Cond, Call, CallBy, JumpBy}
use Rattle.om_graph.specs.View.{Block, GraphView, Has}
use Rattle.om_graph.specs.Run.{block_words, all_words, words, last_words, graph_script}
use Rattle.om_graph.specs.Form.{After, Ordered, is_address}
use Rattle.om_graph.specs.LeftIn.{is_kept, ends_past, in_pair, goes_past, holds_word, passes, passes_after, is_left, Keeps}
use Rattle.om_graph.specs.Matching.{Simulates}
use Rattle.om_graph.specs.Pairs.{last_place, PairsApart}
use Rattle.om_graph.proofs.Placed.{FromLabel, BeforeLabel, BeforeBlocks, Placed}
use Rattle.om_graph.proofs.Labels.{same_place, has_append, append_right, in_all}
use Rattle.om_graph.proofs.Fetching.{found_from, found_has}
use Rattle.om_graph.proofs.Forward.{keeps_meaning, runs_go}
use Rattle.om_graph.proofs.Compose.{has_kept}

-- ---- the words of blocks in order are in order

after_each : (w : Word) (xs ys : List Word) → After w xs → ((y : Word) → Has ys y → y.at.obj ≡ w.at.obj → w.at.off + 4 ≤ y.at.off) → After w (xs ++ ys)
after_each w [] [] a f = tt
after_each w [] (y ∷ ys) a f = (f y (inl refl), after_each w [] ys tt (λ z h. f z (inr h)))
after_each w (x ∷ xs) ys a f = (a.0, after_each w xs ys a.1 f)

pub ordered_append :
    (xs ys : List Word) → Ordered xs → Ordered ys → ((x y : Word) → Has xs x → Has ys y → y.at.obj ≡ x.at.obj → x.at.off + 4 ≤ y.at.off) →
    Ordered (xs ++ ys)
ordered_append [] ys o p f = p
ordered_append (x ∷ xs) ys o p f =
    (after_each x xs ys o.0 (λ y h. f x y (inl refl) h), ordered_append xs ys o.1 p (λ z y h i. f z y (inr h) i))

pub from_has : (l : Place) (ws : List Word) (w : Word) → FromLabel l ws → Has ws w → (w.at.obj ≡ l.obj) × (l.off ≤ w.at.off)
from_has l [] w f h = absurd h
from_has l (x ∷ ws) w f (inl e) = subst (λ (y : Word). (y.at.obj ≡ l.obj) × (l.off ≤ y.at.off)) e f.0
from_has l (x ∷ ws) w f (inr h) = from_has l ws w f.1 h

pub before_has : (l : Place) (ws : List Word) (w : Word) → BeforeLabel l ws → Has ws w → w.at.obj ≡ l.obj → w.at.off + 4 ≤ l.off
before_has l [] w f h = absurd h
before_has l (x ∷ ws) w f (inl e) = subst (λ (y : Word). y.at.obj ≡ l.obj → y.at.off + 4 ≤ l.off) e f.0
before_has l (x ∷ ws) w f (inr h) = before_has l ws w f.1 h

pub before_words :
    (ws : List Word) (bs : List Block) (x y : Word) → BeforeBlocks ws bs → Placed bs → Has ws x → Has (all_words bs) y → y.at.obj ≡ x.at.obj →
    x.at.off + 4 ≤ y.at.off
before_words ws [] x y f p h i o = absurd i
before_words ws (b ∷ bs) x y f p h i o = by_case (has_append (block_words b) (all_words bs) y i) (λ j. before_words ws bs x y f.1 p.4 h j o)
  where
    by_case : Has (block_words b) y ⊎ Has (all_words bs) y → (Has (all_words bs) y → x.at.off + 4 ≤ y.at.off) → x.at.off + 4 ≤ y.at.off
    by_case (inl m) k =
        let u = from_has b.label (block_words b) y p.0 m in
        let v = before_has b.label ws x f.0 h (sym o ∙ u.0) in
        let u1 = u.1 in
        omega (arith, u1, v)
    by_case (inr m) k = k m

pub all_ordered : (bs : List Block) → Placed bs → Ordered (all_words bs)
all_ordered [] p = tt
all_ordered (b ∷ bs) p =
    ordered_append (block_words b) (all_words bs) p.1 (all_ordered bs p.4) (λ x y h i. before_words (block_words b) bs x y p.2 p.4 h i)

-- two words at one place are one
pub unique : (ws : List Word) (w u : Word) → Ordered ws → Has ws w → Has ws u → u.at ≡ w.at → u ≡ w
unique [] w u o h i e = absurd h
unique (x ∷ ws) w u o (inl h) (inl i) e = sym i ∙ h
unique (x ∷ ws) w u o (inl h) (inr i) e = absurd (apart ws x u o.0 i (e ∙ sym (ap (λ (y : Word). y.at) h)))
  where
    apart : (ws : List Word) (x u : Word) → After x ws → Has ws u → u.at ≡ x.at → ⊥
    apart [] x u a i e = i
    apart (y ∷ ws) x u a (inl j) e =
        let o = ap (λ (z : Word). z.at.obj) j ∙ ap (λ (q : Place). q.obj) e in
        let f = ap (λ (z : Word). z.at.off) j ∙ ap (λ (q : Place). q.off) e in
        let b = a.0 o in
        omega (arith, f, b)
    apart (y ∷ ws) x u a (inr j) e = apart ws x u a.1 j e
unique (x ∷ ws) w u o (inr h) (inl i) e = absurd (apart ws x w o.0 h (sym e ∙ sym (ap (λ (y : Word). y.at) i)))
  where
    apart : (ws : List Word) (x u : Word) → After x ws → Has ws u → u.at ≡ x.at → ⊥
    apart [] x u a i e = i
    apart (y ∷ ws) x u a (inl j) e =
        let o = ap (λ (z : Word). z.at.obj) j ∙ ap (λ (q : Place). q.obj) e in
        let f = ap (λ (z : Word). z.at.off) j ∙ ap (λ (q : Place). q.off) e in
        let b = a.0 o in
        omega (arith, f, b)
    apart (y ∷ ws) x u a (inr j) e = apart ws x u a.1 j e
unique (x ∷ ws) w u o (inr h) (inr i) e = unique ws w u o.1 h i e

-- ---- what passes a pair

pub record PastPair (g : GraphView) (c q : Place) : Type 0 where
  pub pair : Block
  pub has_pair : Has g.blocks pair
  pub opens : pair.opening ≡ true
  pub inside : in_pair pair.label q ≡ true
  pub holds : holds_word q pair ≡ true
  pub call : Block
  pub has_call : Has g.blocks call
  pub ends : ends_past c pair.label call.last ≡ true

find_block : (f : Block → Bool) (bs : List Block) → is_some (find f bs) ≡ true → (b : Block) × Has bs b × (f b ≡ true)
find_block f [] h = absurd (true≢false (sym h))
find_block f (b ∷ bs) h = by_case (f b) refl h (find_block f bs)
  where
    by_case :
        (t : Bool) → f b ≡ t → is_some (cond t (Some b) (find f bs)) ≡ true → (is_some (find f bs) ≡ true → (c : Block) × Has bs c × (f c ≡ true)) →
        (c : Block) × Has (b ∷ bs) c × (f c ≡ true)
    by_case true e h i = (b, inl refl, e)
    by_case false e h i = let r = i h in (r.0, inr r.1, r.2)

both : (a b : Bool) → (a && b) ≡ true → (a ≡ true) × (b ≡ true)
both true b h = (refl, h)
both false b h = absurd (true≢false (sym h))

pub past_pair : (g : GraphView) (c q : Place) → passes g c q ≡ true → PastPair g c q
past_pair g c q h =
    let b = find_block (λ b. b.opening && holds_word q b && goes_past g c b.label q) g.blocks h in
    let o = both _ _ b.2 in
    let v = both _ _ o.0 in
    let i = both _ _ o.1 in
    let n = find_block (λ n. ends_past c b.0.label n.last) g.blocks i.1 in
    record { pair = b.0; has_pair = b.1; opens = v.0; inside = i.0; holds = v.1; call = n.0; has_call = n.1; ends = n.2 }

-- the last word of the call, and where it goes
pub record PastCall (c q : Place) (last : Last) : Type 0 where
  pub ra : ℕ
  pub to : Place
  pub word : last_words last ≡ record { at = c; act = act.To Bsr ra to } ∷ []
  pub at : last_place last ≡ Some c
  pub object : to.obj ≡ q.obj
  pub off : to.off ≡ q.off + 8

pub past_call : (c q : Place) (last : Last) → ends_past c q last ≡ true → PastCall c q last
past_call c q (Call at Bsr ra to) h =
    let b = both _ _ h in
    let d = both _ _ b.0 in
    let e = same_place at c d.0 in
    record {
      ra = ra;
      to = to;
      word = ap (λ (x : Place). record { at = x; act = act.To Bsr ra to } ∷ []) e;
      at = ap (λ (x : Place). Some x) e;
      object = eqb-true _ _ d.1;
      off = eqb-true _ _ b.1;
    }
past_call c q (Br at Bsr ra to) h =
    let b = both _ _ h in
    let d = both _ _ b.0 in
    let e = same_place at c d.0 in
    record {
      ra = ra;
      to = to;
      word = ap (λ (x : Place). record { at = x; act = act.To Bsr ra to } ∷ []) e;
      at = ap (λ (x : Place). Some x) e;
      object = eqb-true _ _ d.1;
      off = eqb-true _ _ b.1;
    }
past_call c q (Call at Straight ra to) h = absurd (true≢false (sym h))
past_call c q (Call at (If k) ra to) h = absurd (true≢false (sym h))
past_call c q (Br at Straight ra to) h = absurd (true≢false (sym h))
past_call c q (Br at (If k) ra to) h = absurd (true≢false (sym h))
past_call c q Fall h = absurd (true≢false (sym h))
past_call c q Off h = absurd (true≢false (sym h))
past_call c q (Cond at i to) h = absurd (true≢false (sym h))
past_call c q (CallBy at i) h = absurd (true≢false (sym h))
past_call c q (JumpBy at i) h = absurd (true≢false (sym h))

-- what goes past a pair is no word of one that is passed
pub free_passed : (g : GraphView) → PairsApart g → (d q x : Place) → passes g d q ≡ true → passes g x d ≡ false
free_passed g apart d q x h = by_passes (passes g x d) refl
  where
    y : PastPair g d q
    y = past_pair g d q h

    k : PastCall d y.pair.label y.call.last
    k = past_call d y.pair.label y.call.last y.ends

    by_passes : (b : Bool) → passes g x d ≡ b → passes g x d ≡ false
    by_passes false i = i
    by_passes true i =
        let z = past_pair g x d i in
        absurd (true≢false (sym z.inside ∙ apart.apart z.pair y.call d z.has_pair y.has_call z.opens k.at))

-- a word from the place behind a pair is none of its words
not_inside : (q to : Place) (u : Word) → to.obj ≡ q.obj → to.off ≡ q.off + 8 → to.off ≤ u.at.off → in_pair q u.at ≡ true → ⊥
not_inside q to u o f l h = by_off _ _ refl refl (both _ _ h).1
  where
    by_off : (a b : Bool) → (u.at.off == q.off) ≡ a → (u.at.off == q.off + 4) ≡ b → (a || b) ≡ true → ⊥
    by_off true b x y h = let e = eqb-true _ _ x in omega (arith, e, f, l)
    by_off false true x y h = let e = eqb-true _ _ y in omega (arith, e, f, l)
    by_off false false x y h = true≢false (sym h)

module _ (p : ProgramView) (g : GraphView) (ordered : Ordered (words g)) (apart : PairsApart g) where
  abbrev c : Script
  c = graph_script p g

  -- the word behind a step is no word of a pair that the step goes past
  past_next :
      (s : SymState) (w u : Word) → c.fetch s.place ≡ Some w → (step_word c s (Some w)).ended ≡ None →
      c.fetch (step_word c s (Some w)).place ≡ Some u → passes g w.at u.at ≡ true → ⊥
  past_next s w u f on next h =
      let x = past_pair g w.at u.at h in
      let k = past_call w.at x.pair.label x.call.last x.ends in
      let call : Word = record { at = w.at; act = act.To Bsr k.ra k.to } in
      let there : Has (block_words x.call) call =
      append_right _ (last_words x.call.last) call (subst (λ (l : List Word). Has l call) (sym k.word) (inl refl)) in
      let same : call ≡ w = unique (words g) w call ordered (found_has (words g) s.place w f) (in_all g.blocks x.call call x.has_call there) refl in
      let here : k.to ≡ (step_word c s (Some w)).place = subst (λ (y : Word). k.to ≡ (after s w.at (act_effect c s w.at y.act)).place) same refl in
      let r = found_from (words g) (step_word c s (Some w)).place u next in
      let l = subst (λ (q : Place). q.off ≤ u.at.off) (sym here) r.1 in
      not_inside x.pair.label k.to u k.object k.off l x.inside

  -- the same state twice, where the next word is not passed
  pub record Twice (ps : List Place) (s t : SymState) : Type 0 where
    pub same : t ≡ s
    pub free : (w : Word) → s.ended ≡ None → c.fetch s.place ≡ Some w → passes_after g ps w.at ≡ false

  is_false : (b : Bool) → (b ≡ true → ⊥) → b ≡ false
  is_false true f = absurd (f refl)
  is_false false f = refl

  fetched_kept : (q : Place) (w : Word) → c.fetch q ≡ Some w → is_kept g w.at ≡ true
  fetched_kept q w f = has_kept (words g) w (found_has (words g) q w f)

  fetched_left : (ps : List Place) (s t : SymState) (w : Word) → Twice ps s t → s.ended ≡ None → c.fetch s.place ≡ Some w → is_left g ps w.at ≡ true
  fetched_left ps s t w two going f = let k = fetched_kept s.place w f in let n = two.free w going f in rw (k, n) refl

  twice : Simulates c c g Twice
  twice = record {
    starts = λ input. record { same = refl; free = λ w going f. refl };
    alike = λ ps s t two. let e = two.same in record { input = rw e refl; out = rw e refl; err = rw e refl; ended = rw e refl };
    steps = λ ps s t w two going f clean l. record {
      word = w;
      found = ap (λ (x : SymState). c.fetch x.place) two.same ∙ f;
      place = refl;
      related = record {
        same = ap (λ (x : SymState). step_word c x (Some w)) two.same;
        free = λ u on next. is_false _ (past_next s w u f on next);
      };
    };
    skips = λ ps s t w two going f clean l. absurd (true≢false (sym (fetched_left ps s t w two going f) ∙ l));
  }

  ran_kept : (input : List ℕ) (n : ℕ) (q : Place) → Has (trace c input n) q → is_kept g q ≡ true
  unfolding trace
  ran_kept input zero q h = absurd h
  ran_kept input (suc n) q h = by_end (sym_run c input n).ended (ran_kept input n q) h
    where
      by_word :
          (o : Option Word) → c.fetch (sym_run c input n).place ≡ o → (Has (trace c input n) q → is_kept g q ≡ true) →
          Has (add_word o (trace c input n)) q → is_kept g q ≡ true
      by_word None e i h = i h
      by_word (Some w) e i (inl x) = subst (λ (y : Place). is_kept g y ≡ true) x (fetched_kept _ w e)
      by_word (Some w) e i (inr h) = i h

      by_end :
          (o : Option SymEnd) → (Has (trace c input n) q → is_kept g q ≡ true) → Has (add_step o c (sym_run c input n) (trace c input n)) q →
          is_kept g q ≡ true
      by_end None i h = by_word _ refl i h
      by_end (Some e) i h = i h

  pub keeps_itself : Keeps p g g
  keeps_itself = record {
    meaning = keeps_meaning p g g Twice twice;
    fewer = λ q h. h;
    calls = λ input n d q clean r e k. record { kept = ran_kept input n d r; free = λ x. free_passed g apart d q x e; goes = e };
    straight = λ input n w clean going f out.
        let now = runs_go c c g Twice twice input n (ap has_observed going) in
        absurd (true≢false (sym (fetched_left _ _ _ w now.related going f) ∙ out));
    address = λ w u hw hu e h. subst (λ (x : Word). is_address x.act ≡ true) (unique (words g) w u ordered hw hu e) h;
  }
