-- A closed pair of r29 gone, where r29 holds the global pointer that it sets, is a pass.
use Rattle.std.proofs.Common.{◌≡◌, ◌⊎◌, inl, inr, ◌<◌, ◌≤◌, ◌+◌, ℕ, Bool, true, false, cond, ◌&&◌, ◌==◌, List, [], ◌∷◌, ◌++◌, Option, Some, None, refl, sym, ap, ◌∙◌, subst, arith}
use Rattle.std.specs.Prelude.{not, nat_lt, nat_le}
use Rattle.std.proofs.lemmas.Bool.{true≢false, eqb-true, eq-eqb, ltb-true, lt-ltb, leb-true, le-leb, cases_lt}
use Rattle.om_isa.specs.Effect.{Set, StepObserves}
use Rattle.om_value.specs.declared.value.Place.{Place}
use Rattle.om_value.specs.declared.value.Value.{Value}
use Rattle.om_value.specs.declared.value.Value.TheVariants.{Gp, Half}
use Rattle.om_value.specs.Same.{value_eq}
use Rattle.om_prog.specs.Act.{GpHi, GpLo, Word, Script, act_reads, act_writes}
use Rattle.om_prog.specs.Step.{SymState, read_reg, next_place, act_effect, after}
use Rattle.om_prog.specs.Runs.{step_word, has_observed}
use Rattle.om_prog.specs.Flow.{Among, Agree, moved, GoesTo, act_jumps, effect_place}
use Rattle.om_prog.specs.View.{ProgramView}
use Rattle.om_prog.proofs.Agree.{act_same}
use Rattle.om_prog.proofs.Writes.{after_other, act_only}
use Rattle.om_graph.specs.View.{GraphView, Has}
use Rattle.om_graph.specs.Run.{words, next_word, from_place, graph_script}
use Rattle.om_graph.specs.Form.{After, Ordered, is_address}
use Rattle.om_graph.specs.LeftIn.{is_kept, passes, is_left}
use Rattle.om_graph.specs.Pass.{Keeping, Agreeing, Like, same, Pass}
use Rattle.om_graph.specs.Rewritten.{each_word}
use Rattle.om_graph.specs.Whole.{IsWhole}
use Rattle.om_graph.specs.Kept.{IsKeptLanding}
use Rattle.om_graph.specs.Uses.{Between, NoneReads, NoneWrites}
use Rattle.om_graph.proofs.Labels.{has_append, append_left, append_right}
use Rattle.om_graph.proofs.Compose.{kept_word}
use Rattle.om_graph.proofs.Ends.{each_from}
use Rattle.om_graph.proofs.Fetching.{is_from, found_from, found_has, found_gone, from_true}
use Rattle.om_graph.proofs.Itself.{unique}
use Rattle.om_graph.proofs.Whole.{Here, known_there, first_lands}
use Rattle.om_passes.proofs.Edits.{first_in, second_in}
use Rattle.om_passes.proofs.Through.{between_order}
use Rattle.om_passes.proofs.KeptWords.{Past, left_kept, past_next, found_there, out_gone, call_past}
use Rattle.om_passes.proofs.KeptWords.{Past}
use Rattle.om_passes.proofs.Erasing.{keeps_read}
use Rattle.om_graph.proofs.Ends.{ordered_right}

-- ---- words in order

pub after_off : (w x : Word) (ws : List Word) → After w ws → Has ws x → x.at.obj ≡ w.at.obj → w.at.off + 4 ≤ x.at.off
after_off w x [] a h e = absurd h
after_off w x (y ∷ ws) a (inl i) e =
    let o = ap (λ (z : Word). z.at.obj) i in
    let f = ap (λ (z : Word). z.at.off) i in
    let l = a.0 (o ∙ e) in
    omega (arith, l, f)
after_off w x (y ∷ ws) a (inr h) e = after_off w x ws a.1 h e

-- the next word is not behind another that is from the place
pub next_least : (ws : List Word) (q : Place) (w x : Word) → Ordered ws → next_word ws q ≡ Some w → Has ws x → x.at.obj ≡ q.obj → q.off ≤ x.at.off → w.at.off ≤ x.at.off
next_least [] q w x o e h a b = absurd h
next_least (y ∷ ws) q w x o e h a b = by_from (from_place q y) refl e h (next_least ws q w x o.1)
  where
    by_from :
        (t : Bool) → from_place q y ≡ t → cond t (Some y) (next_word ws q) ≡ Some w → Has (y ∷ ws) x →
        (next_word ws q ≡ Some w → Has ws x → x.at.obj ≡ q.obj → q.off ≤ x.at.off → w.at.off ≤ x.at.off) → w.at.off ≤ x.at.off
    by_from true t e (inl i) r = let s : y ≡ w = cc in let f = ap (λ (z : Word). z.at.off) (sym s ∙ i) in omega (arith, f)
    by_from true t e (inr i) r =
        let s : y ≡ w = cc in
        let f = ap (λ (z : Word). z.at.off) s in
        let l = after_off y x ws o.0 i (a ∙ sym (is_from q y t).0) in
        omega (arith, f, l)
    by_from false t e (inl i) r = absurd (true≢false (sym (from_true q y (ap (λ (z : Word). z.at.obj) i ∙ a) (le_as (ap (λ (z : Word). z.at.off) i))) ∙ t))
      where
        le_as : y.at.off ≡ x.at.off → q.off ≤ y.at.off
        le_as f = omega (arith, f, b)
    by_from false t e (inr i) r = r e i a b

-- where a word stands to two others
data Part (high : Word) (mid : List Word) (low : Word) (w : Word) : Type 0 where
  in_front : (w.at.obj ≡ high.at.obj → w.at.off + 4 ≤ high.at.off) → Part high mid low w
  is_high : w ≡ high → Part high mid low w
  in_mid : Has mid w → Part high mid low w
  is_low : w ≡ low → Part high mid low w
  in_back : (w.at.obj ≡ low.at.obj → low.at.off + 4 ≤ w.at.off) → Part high mid low w

part : (xs mid ys : List Word) (high low w : Word) → Ordered (xs ++ high ∷ mid ++ low ∷ ys) → Has (xs ++ high ∷ mid ++ low ∷ ys) w → Part high mid low w
part [] mid ys high low w o (inl e) = is_high (sym e)
part [] mid ys high low w o (inr h) = by_mid (has_append mid (low ∷ ys) w h)
  where
    by_mid : Has mid w ⊎ Has (low ∷ ys) w → Part high mid low w
    by_mid (inl i) = in_mid i
    by_mid (inr (inl e)) = is_low (sym e)
    by_mid (inr (inr i)) = let r = ordered_right mid (low ∷ ys) o.1 in in_back (λ e. after_off low w ys r.0 i e)
part (x ∷ xs) mid ys high low w o (inl e) =
    in_front (λ s.
    let l = after_off x high (xs ++ high ∷ mid ++ low ∷ ys) o.0 (append_left (xs ++ high ∷ mid) (low ∷ ys) high (append_right xs (high ∷ mid) high (inl refl))) (sym s ∙ sym (ap (λ (z : Word). z.at.obj) e)) in
    let f = ap (λ (z : Word). z.at.off) e in
    omega (arith, l, f))
part (x ∷ xs) mid ys high low w o (inr h) = part xs mid ys high low w o.1 h

-- ---- between the halves

pub record Inside (hi lo q : Place) : Type 0 where
  pub object : q.obj ≡ hi.obj
  pub above : hi.off < q.off
  pub upto : q.off ≤ lo.off

abbrev pub inside : Place → Place → Place → Bool
inside hi lo q = (q.obj == hi.obj) && (nat_lt hi.off q.off && nat_le q.off lo.off)

is_inside : (hi lo q : Place) → inside hi lo q ≡ true → Inside hi lo q
is_inside hi lo q h = by_all (q.obj == hi.obj) refl (nat_lt hi.off q.off) refl (nat_le q.off lo.off) refl h
  where
    by_all : (a : Bool) → (q.obj == hi.obj) ≡ a → (b : Bool) → nat_lt hi.off q.off ≡ b → (d : Bool) → nat_le q.off lo.off ≡ d → (a && (b && d)) ≡ true → Inside hi lo q
    by_all true x true y true z h = record { object = eqb-true q.obj hi.obj x; above = ltb-true hi.off q.off y; upto = leb-true q.off lo.off z }
    by_all true x true y false z h = absurd (true≢false (sym h))
    by_all true x false y d z h = absurd (true≢false (sym h))
    by_all false x b y d z h = absurd (true≢false (sym h))

inside_is : (hi lo q : Place) → Inside hi lo q → inside hi lo q ≡ true
inside_is hi lo q i = rw (eq-eqb q.obj hi.obj i.object, lt-ltb hi.off q.off i.above, le-leb q.off lo.off i.upto) refl

module _ (p : ProgramView) (g new : GraphView) (whole : IsWhole p g) (ordered : Ordered (words g)) (hi lo : Place) (rb : ℕ) (base : Place) (mid : List Word)
    (stands : Between (words g) (record { at = hi; act = GpHi 29 rb base }) mid (record { at = lo; act = GpLo 29 29 hi })) (one_text : lo.obj ≡ hi.obj) (mid_text : (w : Word) → Has mid w → w.at.obj ≡ hi.obj) (unread : NoneReads 29 mid) (unwritten : NoneWrites 29 mid)
    (f : Word → Option Word) (only : (w u : Word) → f w ≡ Some u → w ≡ u) (goes : (w : Word) → f w ≡ None → (w.at ≡ hi) ⊎ (w.at ≡ lo)) (high_goes : f (record { at = hi; act = GpHi 29 rb base }) ≡ None)
    (low_goes : f (record { at = lo; act = GpLo 29 29 hi }) ≡ None) (erased : words new ≡ each_word f (words g))
    (I : SymState → Type 0) (keeping : Keeping (graph_script p g) (IsKeptLanding g) I) (here : (s : SymState) → I s → Here p g whole s)
    -- r29 holds the global pointer in front of the pair
    (told : (s : SymState) → I s → next_word (words g) s.place ≡ Some (record { at = hi; act = GpHi 29 rb base }) → read_reg s.regs 29 ≡ Gp ((graph_script p g).table hi.obj))
    -- control enters at no place between
    (enters : (s : SymState) (w : Word) (q : Place) → I s → next_word (words g) s.place ≡ Some w → act_jumps (IsKeptLanding g) w.act q → Inside hi lo q → ⊥)
    (entry_out : Inside hi lo (graph_script p g).entry → ⊥)
    -- and no word between leaves by a jump
    (no_jumps : (w : Word) (q : Place) → Has mid w → act_jumps (IsKeptLanding g) w.act q → ⊥) where
  abbrev pub c : Script
  c = graph_script p g

  abbrev pub K : Place → Type 0
  K = IsKeptLanding g

  abbrev pub high : Word
  high = record { at = hi; act = GpHi 29 rb base }

  abbrev pub low : Word
  low = record { at = lo; act = GpLo 29 29 hi }

  abbrev pub fetch : Place → Option Word
  fetch = next_word (words new)

  abbrev pub Live : List Place → Place → ℕ → Bool
  Live ps q r = not ((r == 29) && inside hi lo q)

  abbrev pub Meets : List Place → Place → Place → Type 0
  Meets ps q s = (fetch q ≡ fetch s) × Past new ps s

  abbrev pub gp : Value
  gp = Gp (c.table hi.obj)

  abbrev pub Knows : List Place → Place → (ℕ → Value) → Type 0
  Knows ps q rs = Inside hi lo q → read_reg rs 29 ≡ gp

  -- ---- words

  high_has : Has (words g) high
  high_has = first_in (words g) mid high low stands

  low_has : Has (words g) low
  low_has = second_in (words g) mid high low stands

  before_low : hi.off + 4 ≤ lo.off
  before_low = between_order (words g) mid high low ordered stands one_text

  has_word : (s : SymState) (w : Word) → c.fetch s.place ≡ Some w → Has (words g) w
  has_word s w e = found_has (words g) s.place w e

  where_is : (w : Word) → Has (words g) w → Part high mid low w
  where_is w h = part stands.0 mid stands.1 high low w (subst (λ (l : List Word). Ordered l) stands.2 ordered) (subst (λ (l : List Word). Has l w) stands.2 h)

  -- between the halves the next word is of those between, or the low half
  found_inside : (s : SymState) (w : Word) → c.fetch s.place ≡ Some w → Inside hi lo s.place → Has mid w ⊎ (w ≡ low)
  found_inside s w e i = by_part (where_is w (has_word s w e))
    where
      o : (w.at.obj ≡ s.place.obj) × (s.place.off ≤ w.at.off)
      o = found_from (words g) s.place w e

      in_text : w.at.obj ≡ hi.obj
      in_text = o.0 ∙ i.object

      above : hi.off < w.at.off
      above = let x = o.1 in let y = i.above in omega (arith, x, y)

      upto : w.at.off ≤ lo.off
      upto = next_least (words g) s.place w low ordered e low_has (one_text ∙ sym i.object) i.upto

      by_part : Part high mid low w → Has mid w ⊎ (w ≡ low)
      by_part (in_front l) = let x = l in_text in let y = above in absurd (omega (arith, x, y))
      by_part (is_high s) = let x = ap (λ (z : Word). z.at.off) s in let y = above in absurd (omega (arith, x, y))
      by_part (in_mid h) = inl h
      by_part (is_low s) = inr s
      by_part (in_back l) = let x = l (in_text ∙ sym one_text) in let y = upto in absurd (omega (arith, x, y))

  -- a word from which control falls between them is of those between, or the high half
  falls_inside : (w : Word) → Has (words g) w → Inside hi lo (next_place w.at) → Has mid w ⊎ (w ≡ high)
  falls_inside w h i = by_part (where_is w h)
    where
      by_part : Part high mid low w → Has mid w ⊎ (w ≡ high)
      by_part (in_front l) = let x = l i.object in let y = i.above in absurd (omega (arith, x, y))
      by_part (is_high s) = inr s
      by_part (in_mid m) = inl m
      by_part (is_low s) = let x = ap (λ (z : Word). z.at.off) s in let y = i.upto in absurd (omega (arith, x, y))
      by_part (in_back l) = let x = l (i.object ∙ sym one_text) in let y = i.upto in absurd (omega (arith, x, y))

  -- behind a word between them control is still between them
  mid_next : (w : Word) → Has mid w → Inside hi lo (next_place w.at) × Inside hi lo w.at
  mid_next w m = (record { object = object; above = above_next; upto = below }, record { object = object; above = above; upto = upto })
    where
      text : Ordered (stands.0 ++ high ∷ mid ++ low ∷ stands.1)
      text = subst (λ (l : List Word). Ordered l) stands.2 ordered

      rest : Ordered (high ∷ (mid ++ low ∷ stands.1))
      rest = behind stands.0 text
        where
          behind : (xs : List Word) → Ordered (xs ++ high ∷ mid ++ low ∷ stands.1) → Ordered (high ∷ (mid ++ low ∷ stands.1))
          behind [] o = o
          behind (x ∷ xs) o = behind xs o.1

      object : w.at.obj ≡ hi.obj
      object = mid_text w m

      above : hi.off < w.at.off
      above = let a = after_off high w (mid ++ low ∷ stands.1) rest.0 (append_left mid (low ∷ stands.1) w m) object in omega (arith, a)

      above_next : hi.off < w.at.off + 4
      above_next = let a = above in omega (arith, a)

      below : w.at.off + 4 ≤ lo.off
      below = in_list mid rest.1 m
        where
          in_list : (l : List Word) → Ordered (l ++ low ∷ stands.1) → Has l w → w.at.off + 4 ≤ lo.off
          in_list [] o h = absurd h
          in_list (x ∷ l) o (inl e) =
              let a = after_off x low (l ++ low ∷ stands.1) o.0 (append_right l (low ∷ stands.1) low (inl refl)) (one_text ∙ sym object ∙ sym (ap (λ (z : Word). z.at.obj) e)) in
              let b = ap (λ (z : Word). z.at.off) e in
              omega (arith, a, b)
          in_list (x ∷ l) o (inr h) = in_list l o.1 h

      upto : w.at.off ≤ lo.off
      upto = let a = below in omega (arith, a)

  -- ---- what is kept

  in_place : (w u : Word) → f w ≡ Some u → u.at ≡ w.at
  in_place w u e = ap (λ (x : Word). x.at) (sym (only w u e))

  stays : (w : Word) → Has (words g) w → is_kept new w.at ≡ true → f w ≡ Some w
  stays w h k =
      let u = kept_word (words new) w.at k in
      let x = each_from f (words g) u.word (subst (λ (l : List Word). Has l u.word) erased u.among) in
      let is_u = only x.0 u.word x.2 in
      let is_w : x.0 ≡ w = unique (words g) w x.0 ordered h x.1 (ap (λ (y : Word). y.at) is_u ∙ u.place) in
      ap f (sym is_w) ∙ x.2 ∙ ap (λ (y : Word). Some y) (sym is_u ∙ is_w)

  out : (ps : List Place) (s : SymState) (q : Place) (w : Word) → Meets ps q s.place → c.fetch s.place ≡ Some w → is_left new ps w.at ≡ false → f w ≡ None
  out ps s q w m h l = out_gone g new ordered f in_place erased ps s.place w m.1 h l

  is_half : (w : Word) → Has (words g) w → f w ≡ None → (w ≡ high) ⊎ (w ≡ low)
  is_half w h e = by_case (goes w e)
    where
      by_case : (w.at ≡ hi) ⊎ (w.at ≡ lo) → (w ≡ high) ⊎ (w ≡ low)
      by_case (inl a) = inl (unique (words g) high w ordered high_has h a)
      by_case (inr a) = inr (unique (words g) low w ordered low_has h a)

  not_half : (ps : List Place) (w x : Word) → Has (words g) w → is_left new ps w.at ≡ true → f x ≡ None → w ≡ x → ⊥
  not_half ps w x h l n e = let k : None ≡ Some w = sym n ∙ ap f (sym e) ∙ stays w h (left_kept new ps w l) in cc

  there : (q : Place) (s : SymState) (w : Word) → fetch q ≡ fetch s.place → c.fetch s.place ≡ Some w → is_kept new w.at ≡ true → fetch q ≡ Some w
  there q s w m h k = m ∙ found_there g new ordered f in_place erased s.place w w h (stays w (has_word s w h) k)

  past_step : (s : SymState) (w : Word) → c.fetch s.place ≡ Some w → is_kept new w.at ≡ true → (x : Place) → passes new w.at x ≡ true → x.obj ≡ (effect_place w.at (act_effect c s w.at w.act)).obj → x.off < (effect_place w.at (act_effect c s w.at w.act)).off
  past_step s w e kept x h o =
      let k = call_past g new ordered f in_place erased w w x (has_word s w e) (stays w (has_word s w e) kept) h in
      subst (λ (v : Word). x.off < (effect_place w.at (act_effect c s w.at v.act)).off) (sym k.is) k.before

  -- ---- registers

  -- a register is cared for, or it is r29 and the place is between the halves
  data Cared (q : Place) (r : ℕ) : Type 0 where
    cared : Live [] q r ≡ true → Cared q r
    not_cared : r ≡ 29 → Inside hi lo q → Cared q r

  is_cared : (q : Place) (r : ℕ) → Cared q r
  is_cared q r = by_both (r == 29) refl (inside hi lo q) refl
    where
      by_both : (a : Bool) → (r == 29) ≡ a → (b : Bool) → inside hi lo q ≡ b → Cared q r
      by_both true x true y = not_cared (eqb-true r 29 x) (is_inside hi lo q y)
      by_both true x false y = cared (rw (x, y) refl)
      by_both false x b y = cared (rw x refl)

  none_cared : (q : Place) → Inside hi lo q → Live [] q 29 ≡ true → ⊥
  none_cared q i h = let e = inside_is hi lo q i in true≢false (sym h ∙ rw e refl)

  out_cared : (q : Place) → (Inside hi lo q → ⊥) → Live [] q 29 ≡ true
  out_cared q n = by_cared (is_cared q 29)
    where
      by_cared : Cared q 29 → Live [] q 29 ≡ true
      by_cared (cared h) = h
      by_cared (not_cared e i) = absurd (n i)

  -- what a kept word reads is cared for
  reads : (ps : List Place) (s : SymState) (w : Word) (r : ℕ) → c.fetch s.place ≡ Some w → is_left new ps w.at ≡ true → Among (act_reads w.act) r → Live [] s.place r ≡ true
  reads ps s w r e l a = by_cared (is_cared s.place r)
    where
      by_word : r ≡ 29 → Has mid w ⊎ (w ≡ low) → Live [] s.place r ≡ true
      by_word n (inl m) = absurd (unread w m (subst (λ (x : ℕ). Among (act_reads w.act) x) n a))
      by_word n (inr i) = absurd (not_half ps w low (has_word s w e) l low_goes i)

      by_cared : Cared s.place r → Live [] s.place r ≡ true
      by_cared (cared h) = h
      by_cared (not_cared n i) = by_word n (found_inside s w e i)

  same_effect :
      (ps : List Place) (s : SymState) (rs : ℕ → Value) (q : Place) (w : Word) → c.fetch s.place ≡ Some w → is_left new ps w.at ≡ true → ((r : ℕ) → Live [] s.place r ≡ true → read_reg rs r ≡ read_reg s.regs r) →
      act_effect c (moved s rs q) w.at w.act ≡ act_effect c s w.at w.act
  same_effect ps s rs q w e l agree = act_same c s rs q w.at w.act (agrees (act_reads w.act) (λ r m. reads ps s w r e l m))
    where
      agrees : (list : List ℕ) → ((r : ℕ) → Among list r → Live [] s.place r ≡ true) → Agree rs s.regs list
      agrees [] h = tt
      agrees (r ∷ list) h = (agree r (h r (inl refl)), agrees list (λ x m. h x (inr m)))

  -- what is cared for behind a kept word was before, or is written
  flow : (ps : List Place) (s : SymState) (w : Word) (q : Place) (r : ℕ) → c.fetch s.place ≡ Some w → is_left new ps w.at ≡ true → GoesTo K w q → Live [] q r ≡ true → Among (act_writes w.act) r ⊎ (Live [] s.place r ≡ true)
  flow ps s w q r e l to h = by_cared (is_cared s.place r)
    where
      by_to : r ≡ 29 → Has mid w → GoesTo K w q → Among (act_writes w.act) r ⊎ (Live [] s.place r ≡ true)
      by_to n m (inl t) = absurd (none_cared q (subst (λ (x : Place). Inside hi lo x) t.1 (mid_next w m).0) (subst (λ (x : ℕ). Live [] q x ≡ true) n h))
      by_to n m (inr j) = absurd (no_jumps w q m j)

      by_word : r ≡ 29 → Has mid w ⊎ (w ≡ low) → Among (act_writes w.act) r ⊎ (Live [] s.place r ≡ true)
      by_word n (inl m) = by_to n m to
      by_word n (inr i) = absurd (not_half ps w low (has_word s w e) l low_goes i)

      by_cared : Cared s.place r → Among (act_writes w.act) r ⊎ (Live [] s.place r ≡ true)
      by_cared (cared k) = inr k
      by_cared (not_cared n i) = by_word n (found_inside s w e i)

  -- ---- the halves and the words between are apart

  high_not_mid : Has mid high → ⊥
  high_not_mid h = let x = (mid_next high h).1.above in omega (arith, x)

  low_not_mid : Has mid low → ⊥
  low_not_mid h = let x = (mid_next low h).0.upto in omega (arith, x)

  high_not_low : high ≡ low → ⊥
  high_not_low e = let x = ap (λ (w : Word). w.at.off) e in let y = before_low in omega (arith, x, y)

  mid_not_half : (w : Word) → Has mid w → (w ≡ high) ⊎ (w ≡ low) → ⊥
  mid_not_half w m (inl e) = high_not_mid (subst (λ (x : Word). Has mid x) e m)
  mid_not_half w m (inr e) = low_not_mid (subst (λ (x : Word). Has mid x) e m)

  -- in front of the high half control is not between them
  high_out : (s : SymState) → c.fetch s.place ≡ Some high → Inside hi lo s.place → ⊥
  high_out s e i = by_case (found_inside s high e i)
    where
      by_case : Has mid high ⊎ (high ≡ low) → ⊥
      by_case (inl m) = high_not_mid m
      by_case (inr x) = high_not_low x

  -- in front of a word between them it is
  mid_inside : (s : SymState) (w : Word) → c.fetch s.place ≡ Some w → Has mid w → Inside hi lo s.place
  mid_inside s w e m =
      let o = found_from (words g) s.place w e in
      let i = (mid_next w m).1 in
      let o1 = o.1 in
      let u = i.upto in
      record { object = sym o.0 ∙ i.object; above = by_above (sym o.0 ∙ i.object) (cases_lt hi.off s.place.off); upto = omega (arith, o1, u) }
    where
      by_above : s.place.obj ≡ hi.obj → (hi.off < s.place.off) ⊎ (s.place.off ≤ hi.off) → hi.off < s.place.off
      by_above t (inl l) = l
      by_above t (inr l) =
          let x = next_least (words g) s.place w high ordered e high_has (sym t) l in
          let y = (mid_next w m).1.above in
          absurd (omega (arith, x, y))

  low_sets : (s : SymState) (rs : ℕ → Value) → read_reg rs 29 ≡ gp → has_observed (step_word c s (Some low)).ended ≡ false → read_reg rs 29 ≡ read_reg (step_word c s (Some low)).regs 29
  low_sets s rs k clean = by_test (value_eq (read_reg s.regs 29) (Half hi)) clean
    where
      by_test :
          (b : Bool) → has_observed (after s lo (cond b (Set 29 (Gp (c.table lo.obj))) StepObserves)).ended ≡ false →
          read_reg rs 29 ≡ read_reg (after s lo (cond b (Set 29 (Gp (c.table lo.obj))) StepObserves)).regs 29
      by_test true n = k ∙ ap (λ (o : ℕ). Gp (c.table o)) (sym one_text)
      by_test false n = absurd (true≢false n)

  -- ---- the pass

  pub dropping : Pass c fetch K new Live Meets I Knows
  dropping = record {
    fine = λ s w i e. (known_there p g whole s w (here s i) e).0;
    first = first_lands p g whole;
    starts = keeping.starts;
    steps = keeping.steps;
    keeps = λ s ps w r i e l a. reads ps s w r e l (keeps_read w.act r a);
    goes = λ ps s w q r i e l to h. flow ps s w q r e l to h;
    goes_out = λ ps s q w r i e l m h. out_flow ps s q w r e l m;
    meet_first = (refl, tt);
    kept = λ ps s q w i e l m. (w, there q s w m.0 e (left_kept new ps w l), refl);
    like = λ ps s rs q w u fs i e l m fu k agree clean. alike ps s rs q w u e l m fu agree;
    gone = λ ps s q w i e l m. (skipped ps s q w e l m, past_next g new ps s.place w e m.1);
    address = λ ps s q w i e l m. is_address_half w (is_half w (has_word s w e) (out ps s q w m e l));
    settled = λ ps s rs q w r i e l m a h k clean. settled ps s rs q w r e l m a h k clean;
    l_first = λ input i. absurd (entry_out i);
    l_kept = λ ps s rs q w u i e l m fu k agree clean h to. knows_on ps s rs q w u i e l m fu k agree to;
    l_gone = λ ps s t w i e l m agree k. knows_gone ps s t w i e l m agree k;
  }
    where
      is_address_half : (w : Word) → (w ≡ high) ⊎ (w ≡ low) → is_address w.act ≡ true
      is_address_half w (inl e) = ap (λ (x : Word). is_address x.act) e
      is_address_half w (inr e) = ap (λ (x : Word). is_address x.act) e

      out_flow : (ps : List Place) (s : SymState) (q : Place) (w : Word) (r : ℕ) → c.fetch s.place ≡ Some w → is_left new ps w.at ≡ false → Meets ps q s.place → Among (act_writes w.act) r ⊎ (Live [] s.place r ≡ true)
      out_flow ps s q w r e l m = by_cared (is_cared s.place r)
        where
          by_word : r ≡ 29 → Has mid w ⊎ (w ≡ low) → Among (act_writes w.act) r ⊎ (Live [] s.place r ≡ true)
          by_word n (inl i) = absurd (mid_not_half w i (is_half w (has_word s w e) (out ps s q w m e l)))
          by_word n (inr i) = inl (subst (λ (x : Word). Among (act_writes x.act) r) (sym i) (inl (sym n)))

          by_cared : Cared s.place r → Among (act_writes w.act) r ⊎ (Live [] s.place r ≡ true)
          by_cared (cared h) = inr h
          by_cared (not_cared n i) = by_word n (found_inside s w e i)

      skipped : (ps : List Place) (s : SymState) (q : Place) (w : Word) → c.fetch s.place ≡ Some w → is_left new ps w.at ≡ false → Meets ps q s.place → fetch q ≡ fetch (next_place w.at)
      skipped ps s q w e l m =
          m.0 ∙ ap (λ (ws : List Word). next_word ws s.place) erased ∙ found_gone f in_place (words g) s.place w ordered e (out ps s q w m e l)
          ∙ sym (ap (λ (ws : List Word). next_word ws (next_place w.at)) erased)

      some_same : {a b : Word} → Some a ≡ Some b → a ≡ b
      some_same e = cc

      alike :
          (ps : List Place) (s : SymState) (rs : ℕ → Value) (q : Place) (w u : Word) → c.fetch s.place ≡ Some w → is_left new ps w.at ≡ true → Meets ps q s.place → fetch q ≡ Some u →
          Agreeing (Live ps) s (record s { regs = rs; place = q }) → Like c fetch K new Live Meets I Knows ps w (act_effect c (record s { regs = rs; place = q }) w.at u.act) (act_effect c s w.at w.act)
      alike ps s rs q w u e l m fu agree =
          let k = left_kept new ps w l in
          let is_w : w ≡ u = some_same (sym (there q s w m.0 e k) ∙ fu) in
          same (ap (λ (x : Word). act_effect c (moved s rs q) w.at x.act) (sym is_w) ∙ same_effect ps s rs q w e l agree)
          (λ h. (refl, λ x y o. past_step s w e k x y o))

      settled :
          (ps : List Place) (s : SymState) (rs : ℕ → Value) (q : Place) (w : Word) (r : ℕ) → c.fetch s.place ≡ Some w → is_left new ps w.at ≡ false → Meets ps q s.place → Among (act_writes w.act) r →
          Live [] (next_place w.at) r ≡ true → Knows ps s.place rs → has_observed (step_word c s (Some w)).ended ≡ false → read_reg rs r ≡ read_reg (step_word c s (Some w)).regs r
      settled ps s rs q w r e l m a h k clean = by_half (is_half w (has_word s w e) (out ps s q w m e l))
        where
          only_29 : Among (29 ∷ []) r → r ≡ 29
          only_29 (inl x) = sym x
          only_29 (inr x) = absurd x

          behind_high : Inside hi lo (next_place hi)
          behind_high = let b = before_low in record { object = refl; above = omega arith; upto = omega (arith, b) }

          by_half : (w ≡ high) ⊎ (w ≡ low) → read_reg rs r ≡ read_reg (step_word c s (Some w)).regs r
          by_half (inl x) =
              let n = only_29 (subst (λ (y : Word). Among (act_writes y.act) r) x a) in
              absurd (none_cared (next_place w.at) (subst (λ (y : Word). Inside hi lo (next_place y.at)) (sym x) behind_high) (subst (λ (y : ℕ). Live [] (next_place w.at) y ≡ true) n h))
          by_half (inr x) =
              let n = only_29 (subst (λ (y : Word). Among (act_writes y.act) r) x a) in
              subst (λ (y : ℕ). read_reg rs y ≡ read_reg (step_word c s (Some w)).regs y) (sym n)
              (subst (λ (y : Word). read_reg rs 29 ≡ read_reg (step_word c s (Some y)).regs 29) (sym x)
              (low_sets s rs (k (low_inside (e ∙ ap (λ (y : Word). Some y) x))) (subst (λ (y : Word). has_observed (step_word c s (Some y)).ended ≡ false) x clean)))
            where
              low_inside : c.fetch s.place ≡ Some low → Inside hi lo s.place
              low_inside z =
                  let o = found_from (words g) s.place low z in
                  record { object = sym o.0 ∙ one_text; above = by_above (sym o.0 ∙ one_text) (cases_lt hi.off s.place.off); upto = o.1 }
                where
                  by_above : s.place.obj ≡ hi.obj → (hi.off < s.place.off) ⊎ (s.place.off ≤ hi.off) → hi.off < s.place.off
                  by_above t (inl v) = v
                  by_above t (inr v) =
                      let y = next_least (words g) s.place low high ordered z high_has (sym t) v in
                      let b = before_low in
                      absurd (omega (arith, y, b))

      knows_on :
          (ps : List Place) (s : SymState) (rs : ℕ → Value) (q : Place) (w u : Word) → I s → c.fetch s.place ≡ Some w → is_left new ps w.at ≡ true → Meets ps q s.place → fetch q ≡ Some u → Knows ps s.place rs →
          Agreeing (Live ps) s (record s { regs = rs; place = q }) → GoesTo K w (effect_place w.at (act_effect c s w.at w.act)) → Inside hi lo (effect_place w.at (act_effect c s w.at w.act)) →
          read_reg (after (record s { regs = rs; place = q }) w.at (act_effect c (record s { regs = rs; place = q }) w.at u.act)).regs 29 ≡ gp
      knows_on ps s rs q w u i e l m fu k agree (inr j) x = absurd (enters s w (effect_place w.at (act_effect c s w.at w.act)) i e j x)
      knows_on ps s rs q w u i e l m fu k agree (inl t) x = by_word (falls_inside w (has_word s w e) (subst (λ (y : Place). Inside hi lo y) (sym t.1) x))
        where
          is_w : w ≡ u
          is_w = some_same (sym (there q s w m.0 e (left_kept new ps w l)) ∙ fu)

          by_word : Has mid w ⊎ (w ≡ high) → read_reg (after (moved s rs q) w.at (act_effect c (moved s rs q) w.at u.act)).regs 29 ≡ gp
          by_word (inl n) =
              after_other (moved s rs q) w.at 29 (act_effect c (moved s rs q) w.at u.act)
              (λ a. unwritten w n (subst (λ (y : Word). Among (act_writes y.act) 29) (sym is_w) ((act_only c (moved s rs q) w.at u.act).is 29 a)))
              ∙ k (mid_inside s w e n)
          by_word (inr n) = absurd (not_half ps w high (has_word s w e) l high_goes n)

      knows_gone : (ps : List Place) (s t : SymState) (w : Word) → I s → c.fetch s.place ≡ Some w → is_left new ps w.at ≡ false → Meets ps t.place s.place → Agreeing (Live ps) s t → Knows ps s.place t.regs → Knows ps (next_place w.at) t.regs
      knows_gone ps s t w i e l m agree k x = by_word (falls_inside w (has_word s w e) x)
        where
          by_word : Has mid w ⊎ (w ≡ high) → read_reg t.regs 29 ≡ gp
          by_word (inl n) = absurd (mid_not_half w n (is_half w (has_word s w e) (out ps s t.place w m e l)))
          by_word (inr n) =
              let z : c.fetch s.place ≡ Some high = e ∙ ap (λ (y : Word). Some y) n in
              agree 29 (out_cared s.place (high_out s z)) ∙ told s i z
