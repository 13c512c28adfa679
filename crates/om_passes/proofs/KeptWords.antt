-- Words of a graph and what a pass leaves of each, at its place: which are kept, what is found from a place, and where a call
-- goes that goes past a pair.
use Rattle.std.proofs.Common.{◌≡◌, inl, ◌<◌, ◌+◌, ℕ, Bool, true, false, not, ◌&&◌, ◌||◌, ◌==◌, List, [], ◌∷◌, Option, Some, None, refl, sym, ap, ◌∙◌, subst, arith}
use Rattle.std.proofs.lemmas.Bool.{true≢false, eqb-true}
use Rattle.om_isa.specs.declared.instr.BrOp.TheVariants.{Bsr}
use Rattle.om_value.specs.declared.value.Place.{Place}
use Rattle.om_prog.specs.Act.{To, Word}
use Rattle.om_prog.specs.Step.{next_place}
use Rattle.om_graph.specs.View.{GraphView, Has}
use Rattle.om_graph.specs.Run.{words, block_words, last_words, next_word}
use Rattle.om_graph.specs.Form.{Ordered}
use Rattle.om_graph.specs.LeftIn.{is_kept, is_left, passes, passes_after, in_pair}
use Rattle.om_graph.specs.Rewritten.{each_word}
use Rattle.om_graph.proofs.Labels.{append_right, in_all}
use Rattle.om_graph.proofs.Compose.{has_kept}
use Rattle.om_graph.proofs.Ends.{each_from, each_has}
use Rattle.om_graph.proofs.Fetching.{found_from, found_has, found_kept}
use Rattle.om_graph.proofs.Itself.{past_pair, past_call, unique}

-- a run is past the pair that the last step left in goes past
abbrev pub Past : GraphView → List Place → Place → Type 0
Past g [] q = Unit {0}
Past g (k ∷ ks) q = (x : Place) → passes g k x ≡ true → x.obj ≡ q.obj → x.off < q.off

-- a place of a pair is before the place 8 bytes behind it
pub pair_before : (l x q : Place) → in_pair l x ≡ true → q.off ≡ l.off + 8 → x.off < q.off
pair_before l x q h e = by_both (x.obj == l.obj) h
  where
    by_off : (a b : Bool) → (x.off == l.off) ≡ a → (x.off == l.off + 4) ≡ b → (a || b) ≡ true → x.off < q.off
    by_off true b u v h = let i = eqb-true x.off l.off u in omega (arith, i, e)
    by_off false true u v h = let i = eqb-true x.off (l.off + 4) v in omega (arith, i, e)
    by_off false false u v h = absurd (true≢false (sym h))

    by_both : (a : Bool) → (a && ((x.off == l.off) || (x.off == l.off + 4))) ≡ true → x.off < q.off
    by_both true h = by_off _ _ refl refl h
    by_both false h = absurd (true≢false (sym h))

-- a word that is left in is kept
pub left_kept : (new : GraphView) (ps : List Place) (w : Word) → is_left new ps w.at ≡ true → is_kept new w.at ≡ true
left_kept new ps w l = by_case (is_kept new w.at) l
  where
    by_case : (b : Bool) → (b && not (passes_after new ps w.at)) ≡ true → b ≡ true
    by_case true l = refl
    by_case false l = absurd (true≢false (sym l))

-- past a pair the next word is none of it, and so it is behind the word
pub unpassed : (g new : GraphView) (ps : List Place) (q : Place) (w : Word) → Past new ps q → next_word (words g) q ≡ Some w → passes_after new ps w.at ≡ false
unpassed g new [] q w b found = refl
unpassed g new (k ∷ ps) q w b found = by_case _ refl
  where
    by_case : (y : Bool) → passes new k w.at ≡ y → passes new k w.at ≡ false
    by_case true e =
        let o = found_from (words g) q w found in
        let o1 = o.1 in
        let l = b w.at e o.0 in
        absurd (omega (arith, o1, l))
    by_case false e = e

pub past_next : (g new : GraphView) (ps : List Place) (q : Place) (w : Word) → next_word (words g) q ≡ Some w → Past new ps q → Past new ps (next_place w.at)
past_next g new [] q w found b = tt
past_next g new (k ∷ ps) q w found b = λ x h i.
    let o = found_from (words g) q w found in
    let o1 = o.1 in
    let j = b x h (i ∙ o.0) in
    omega (arith, o1, j)

-- a word that goes past a pair is a BSR to a place behind it
pub record CallPast (x : Place) (u : Word) : Type 0 where
  pub ra : ℕ
  pub to : Place
  pub is : u ≡ record { at = u.at; act = To Bsr ra to }
  pub before : x.off < to.off

module _ (g new : GraphView) (ordered : Ordered (words g)) (f : Word → Option Word) (in_place : (w u : Word) → f w ≡ Some u → u.at ≡ w.at) (changed : words new ≡ each_word f (words g)) where
  -- what becomes of a word is kept, at its place
  pub kept_word_is : (w u : Word) → Has (words g) w → f w ≡ Some u → is_kept new w.at ≡ true
  kept_word_is w u h e =
      subst (λ (x : Place). is_kept new x ≡ true) (in_place w u e)
      (has_kept (words new) u (subst (λ (l : List Word). Has l u) (sym changed) (each_has f (words g) w u h e)))

  pub goes_away : (w : Word) → Has (words g) w → is_kept new w.at ≡ false → f w ≡ None
  goes_away w h k = by_case (f w) refl
    where
      by_case : (o : Option Word) → f w ≡ o → f w ≡ None
      by_case None e = e
      by_case (Some u) e = absurd (true≢false (sym (kept_word_is w u h e) ∙ k))

  -- and is found where it was
  pub found_there : (q : Place) (w u : Word) → next_word (words g) q ≡ Some w → f w ≡ Some u → next_word (words new) q ≡ Some u
  found_there q w u e i = ap (λ (ws : List Word). next_word ws q) changed ∙ found_kept f in_place (words g) q w u e i

  -- a step past no pair whose word is left out has lost it
  pub out_gone : (ps : List Place) (q : Place) (w : Word) → Past new ps q → next_word (words g) q ≡ Some w → is_left new ps w.at ≡ false → f w ≡ None
  out_gone ps q w b h l = goes_away w (found_has (words g) q w h) (by_case (is_kept new w.at) refl)
    where
      by_case : (y : Bool) → is_kept new w.at ≡ y → is_kept new w.at ≡ false
      by_case true k = let n = unpassed g new ps q w b h in absurd (true≢false (sym (rw (k, n) refl) ∙ l))
      by_case false k = k

  pub call_past : (w u : Word) (x : Place) → Has (words g) w → f w ≡ Some u → passes new w.at x ≡ true → CallPast x u
  call_past w u x hw e h =
      let y = past_pair new w.at x h in
      let k = past_call w.at y.pair.label y.call.last y.ends in
      let call : Word = record { at = w.at; act = To Bsr k.ra k.to } in
      let in_block : Has (block_words y.call) call = append_right _ (last_words y.call.last) call (subst (λ (l : List Word). Has l call) (sym k.word) (inl refl)) in
      let z = each_from f (words g) call (subst (λ (l : List Word). Has l call) changed (in_all new.blocks y.call call y.has_call in_block)) in
      let is_w : z.0 ≡ w = unique (words g) w z.0 ordered hw z.1 (sym (in_place z.0 call z.2)) in
      let same : call ≡ u = some_same (sym z.2 ∙ ap f is_w ∙ e) in
      record { ra = k.ra; to = k.to; is = sym same ∙ ap (λ (q : Place). record { at = q; act = To Bsr k.ra k.to }) (sym (in_place w u e)); before = pair_before y.pair.label x k.to y.inside k.off }
    where
      some_same : {a b : Word} → Some a ≡ Some b → a ≡ b
      some_same e = cc
