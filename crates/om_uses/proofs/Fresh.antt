-- The touched blocks, and the uses with them.
use Rattle.std.proofs.Common.{◌≡◌, ◌⊎◌, inl, inr, ℕ, zero, suc, ◌+◌, ◌<◌, ◌≤◌, Bool, true, false, cond, List, [], ◌∷◌, ◌++◌, length, get_or, Option, Some, None, refl, sym, ap, subst, ◌∙◌, arith}
use Rattle.std.specs.Prelude.{find, option_map}
use Rattle.std.proofs.lemmas.Bool.{cases_eq, true≢false}
use Rattle.std.proofs.lemmas.List.{get_or-set_other, get_or_append_left, length_push}
use Rattle.om_value.specs.declared.value.Place.{Place}
use Rattle.om_value.specs.Same.{place_eq}
use Rattle.om_graph.specs.View.{Block, GraphView, Has, InPlaceOrder, place_lt, has_label, labelled, is_live_block, block_of, next_touched_of, cleared}
use Rattle.om_graph.specs.Held.{IsGraph}
use Rattle.om_graph.specs.Numbers.{number_from, number_of, AreNumbered}
use Rattle.om_graph.proofs.Labels.{same_place, self_eq}
use Rattle.om_graph.proofs.RowLabels.{not_itself, before_not_behind, before_differs}
use Rattle.om_blocks.proofs.Walking.{assoc, no_more, has_mid, found_here}
use Rattle.om_uses.specs.declared.tables.BlockUses.{BlockUses}
use Rattle.om_uses.specs.declared.uses.Fresh.{Fresh}
use Rattle.om_uses.specs.declared.uses.Fresh.TheVariants.{Stays, Gone}
use Rattle.om_uses.specs.Parts.{Kept, IsAt, IsUsesOf, IsNearly, block_at, block_uses, no_block}
use Rattle.om_uses.specs.Tables.{IsLonger, IsPadded}
use Rattle.om_uses.specs.Installed.{with_block, installed, HasRoom, HasRoomFor, HaveRoom, IsRoomier, HasNumber, numbers, number_in, AreCovered}
use Rattle.om_uses.specs.Results.{IsFreshOf, IsAddedFor, with_one}
use Rattle.om_uses.proofs.Links.{Numbered, NoneNumbered, numbered_or_none, room_longer, with_block_at, roomier_at, installed_at}

-- ---- the number of a label

least_number : (n m : ℕ) (p : Place) (ls : List Place) → number_from n p ls ≡ Some m → n ≤ m
least_number n m p [] e = cc
least_number n m p (q ∷ ls) e = by_eq (place_eq q p) e (λ f. least_number (n + 1) m p ls f)
  where
    by_eq : (t : Bool) → cond t (Some n) (number_from (n + 1) p ls) ≡ Some m → (number_from (n + 1) p ls ≡ Some m → n + 1 ≤ m) → n ≤ m
    by_eq true f again = let s : n ≡ m = cc in omega (arith, s)
    by_eq false f again = let l = again f in omega (arith, l)

pub same_number : (n m : ℕ) (p q : Place) (ls : List Place) → number_from n p ls ≡ Some m → number_from n q ls ≡ Some m → p ≡ q
same_number n m p q [] e f = cc
same_number n m p q (x ∷ ls) e f = by_eq (place_eq x p) (place_eq x q) refl refl e f (λ a b. same_number (n + 1) m p q ls a b) (λ a. least_number (n + 1) m p ls a) (λ a. least_number (n + 1) m q ls a)
  where
    by_eq : (s t : Bool) → place_eq x p ≡ s → place_eq x q ≡ t → cond s (Some n) (number_from (n + 1) p ls) ≡ Some m → cond t (Some n) (number_from (n + 1) q ls) ≡ Some m →
        (number_from (n + 1) p ls ≡ Some m → number_from (n + 1) q ls ≡ Some m → p ≡ q) → (number_from (n + 1) p ls ≡ Some m → n + 1 ≤ m) → (number_from (n + 1) q ls ≡ Some m → n + 1 ≤ m) → p ≡ q
    by_eq true true a b c d again l k = sym (same_place x p a) ∙ same_place x q b
    by_eq true false a b c d again l k = let s : n ≡ m = cc in let h = k d in absurd (omega (arith, s, h))
    by_eq false true a b c d again l k = let s : n ≡ m = cc in let h = l c in absurd (omega (arith, s, h))
    by_eq false false a b c d again l k = again c d

-- the block of a label
pub record Labelled (g : GraphView) (q : Place) (id : ℕ) : Type 0 where
  pub block : Block
  pub among : Has g.blocks block
  pub label : block.label ≡ q
  pub is_id : block.id ≡ id

labelled_in : (q : Place) (id : ℕ) (bs : List Block) → option_map (λ b. b.id) (find (has_label q) bs) ≡ Some id → (b : Block) × Has bs b × (b.label ≡ q) × (b.id ≡ id)
labelled_in q id [] e = cc
labelled_in q id (b ∷ bs) e = by_test (place_eq b.label q) refl e (λ f. labelled_in q id bs f)
  where
    by_test : (t : Bool) → place_eq b.label q ≡ t → option_map (λ x. x.id) (cond t (Some b) (find (has_label q) bs)) ≡ Some id → (option_map (λ x. x.id) (find (has_label q) bs) ≡ Some id → (x : Block) × Has bs x × (x.label ≡ q) × (x.id ≡ id)) → (x : Block) × Has (b ∷ bs) x × (x.label ≡ q) × (x.id ≡ id)
    by_test true t f again = let s : b.id ≡ id = cc in (b, inl refl, same_place b.label q t, s)
    by_test false t f again = let k = again f in (k.0, inr k.1, k.2, k.3)

none_labelled : (q : Place) (bs : List Block) (b : Block) → option_map (λ x. x.id) (find (has_label q) bs) ≡ None → Has bs b → b.label ≡ q → ⊥
none_labelled q [] b e h s = h
none_labelled q (c ∷ bs) b e h s = by_test (place_eq c.label q) refl e h (λ f k. none_labelled q bs b f k s)
  where
    by_test : (t : Bool) → place_eq c.label q ≡ t → option_map (λ x. x.id) (cond t (Some c) (find (has_label q) bs)) ≡ None → Has (c ∷ bs) b → (option_map (λ x. x.id) (find (has_label q) bs) ≡ None → Has bs b → ⊥) → ⊥
    by_test true t f k again = cc
    by_test false t f (inl i) again =
        let l : place_eq c.label q ≡ true = subst (λ (p : Place). place_eq c.label p ≡ true) (ap (λ (x : Block). x.label) i ∙ s) (self_eq c.label) in
        true≢false (sym l ∙ t)
    by_test false t f (inr i) again = again f i

module _ (g : GraphView) (numbered : AreNumbered g) where
  pub labelled_number : (q : Place) (b : ℕ) → labelled g q ≡ Some b → number_of g q ≡ Some b
  labelled_number q b l =
      let x = labelled_in q b g.blocks l in
      ap (number_of g) (sym x.2) ∙ numbered x.0 x.1 ∙ ap (λ (i : ℕ). Some i) x.3

  pub dropped_none : (q : Place) (n : ℕ) → number_of g q ≡ Some n → labelled g q ≡ None → NoneNumbered g.blocks n
  dropped_none q n e l b h s = none_labelled q g.blocks b l h (same_number 0 n b.label q g.labels (numbered b h ∙ ap (λ (i : ℕ). Some i) s) e)

-- ---- the walk over the touched labels

abbrev pub first_place : List Place → Option Place
first_place [] = None
first_place (q ∷ qs) = Some q

abbrev pub labels_from : Option Place → List Place → List Place
labels_from None qs = []
labels_from (Some p) [] = []
labels_from (Some p) (q ∷ qs) = cond (place_eq p q) (q ∷ qs) (labels_from (Some p) qs)

abbrev pub labels_left : GraphView → Option Place → ℕ
labels_left g next = length (labels_from next g.touched)

pub record OnTouched (g : GraphView) (next : Option Place) (fs : List Fresh) : Type 0 where
  pub done : List Place
  pub left : List Place
  pub split : g.touched ≡ done ++ left
  pub at : next ≡ first_place left
  pub covered : AreCovered g done fs

find_all : (qs : List Place) → find (λ q. true) qs ≡ first_place qs
find_all [] = refl
find_all (q ∷ qs) = refl

find_next : (done : List Place) (p : Place) (rest : List Place) → InPlaceOrder (done ++ p ∷ rest) → find (place_lt p) (done ++ p ∷ rest) ≡ first_place rest
find_next [] p [] o = let e = not_lt p in rw e refl
  where
    not_lt : (q : Place) → place_lt q q ≡ false
    not_lt q = by_test (place_lt q q) refl
      where
        by_test : (t : Bool) → place_lt q q ≡ t → t ≡ false
        by_test true e = absurd (not_itself q e)
        by_test false e = refl
find_next [] p (r ∷ rest) o =
    let e = not_lt p in
    let f = o.0 r (inl refl) in
    rw (e, f) refl
  where
    not_lt : (q : Place) → place_lt q q ≡ false
    not_lt q = by_test (place_lt q q) refl
      where
        by_test : (t : Bool) → place_lt q q ≡ t → t ≡ false
        by_test true e = absurd (not_itself q e)
        by_test false e = refl
find_next (x ∷ done) p rest o =
    let e = before_not_behind x p (o.0 p (has_mid done p rest)) in
    rw e (find_next done p rest o.1)

from_here : (done : List Place) (p : Place) (rest : List Place) → InPlaceOrder (done ++ p ∷ rest) → labels_from (Some p) (done ++ p ∷ rest) ≡ p ∷ rest
from_here [] p rest o = let e = self_eq p in rw e refl
from_here (x ∷ done) p rest o =
    let e = before_differs x p (o.0 p (has_mid done p rest)) in
    rw e (from_here done p rest o.1)

none_first : (qs : List Place) → None ≡ first_place qs → qs ≡ []
none_first [] e = refl
none_first (q ∷ qs) e = cc

module _ (g : GraphView) (graph : IsGraph g) where
  pub touched_begin : (next : Option Place) → next ≡ next_touched_of g.touched None → OnTouched g next []
  touched_begin next e = record {
    done = [];
    left = g.touched;
    split = refl;
    at = e ∙ find_all g.touched;
    covered = λ q i h e. absurd h;
  }

  record NextTouched (p : Place) (fs : List Fresh) (on : OnTouched g (Some p) fs) : Type 0 where
    rest : List Place
    split : g.touched ≡ on.done ++ p ∷ rest
    after : next_touched_of g.touched (Some p) ≡ first_place rest
    before_it : labels_left g (Some p) ≡ suc (length rest)
    behind_it : labels_left g (first_place rest) ≡ length rest

  next_touched_is : (p : Place) (fs : List Fresh) (on : OnTouched g (Some p) fs) → NextTouched p fs on
  next_touched_is p fs on = by_left on.left refl on.at
    where
      behind : (rest : List Place) → g.touched ≡ on.done ++ p ∷ rest → labels_left g (first_place rest) ≡ length rest
      behind [] split = refl
      behind (r ∷ rest) split =
          let all : g.touched ≡ (on.done ++ p ∷ []) ++ r ∷ rest = split ∙ sym (assoc on.done (p ∷ []) (r ∷ rest)) in
          ap (λ (l : List Place). length (labels_from (Some r) l)) all ∙ ap (λ (l : List Place). length l) (from_here (on.done ++ p ∷ []) r rest (subst InPlaceOrder all graph.marks))

      by_left : (left : List Place) → on.left ≡ left → Some p ≡ first_place left → NextTouched p fs on
      by_left [] e f = cc
      by_left (q ∷ rest) e f =
          let same : q ≡ p = cc in
          let split : g.touched ≡ on.done ++ p ∷ rest = on.split ∙ ap (λ (l : List Place). on.done ++ l) (e ∙ ap (λ (x : Place). x ∷ rest) same) in
          let order : InPlaceOrder (on.done ++ p ∷ rest) = subst InPlaceOrder split graph.marks in
          record {
            rest = rest;
            split = split;
            after = ap (find (place_lt p)) split ∙ find_next on.done p rest order;
            before_it = ap (λ (l : List Place). length (labels_from (Some p) l)) split ∙ ap (λ (l : List Place). length l) (from_here on.done p rest order);
            behind_it = behind rest split;
          }

  pub touched_fewer : (p : Place) (next : Option Place) (fs : List Fresh) → OnTouched g (Some p) fs → next ≡ next_touched_of g.touched (Some p) → labels_left g next < labels_left g (Some p)
  touched_fewer p next fs on n =
      let it = next_touched_is p fs on in
      let a = ap (labels_left g) (n ∙ it.after) in
      let b = it.before_it in
      let c = it.behind_it in
      omega (arith, a, b, c)

  has_end : (xs : List ℕ) (x : ℕ) (ys : List ℕ) → Has xs x → Has (xs ++ ys) x
  has_end [] x ys h = absurd h
  has_end (z ∷ xs) x ys (inl e) = inl e
  has_end (z ∷ xs) x ys (inr h) = inr (has_end xs x ys h)

  numbers_added : (fs : List Fresh) (f : Fresh) → numbers (fs ++ f ∷ []) ≡ numbers fs ++ number_in f ∷ []
  numbers_added [] f = refl
  numbers_added (x ∷ fs) f = ap (λ l. number_in x ∷ l) (numbers_added fs f)

  parted : {A : Type 0} (xs : List A) (y x : A) → Has (xs ++ y ∷ []) x → Has xs x ⊎ (y ≡ x)
  parted [] y x (inl e) = inr e
  parted [] y x (inr h) = absurd h
  parted (z ∷ xs) y x (inl e) = inl (inl e)
  parted (z ∷ xs) y x (inr h) = by_part (parted xs y x h)
    where
      by_part : Has xs x ⊎ (y ≡ x) → Has (z ∷ xs) x ⊎ (y ≡ x)
      by_part (inl k) = inl (inr k)
      by_part (inr e) = inr e

  -- behind a label that has no number
  touched_none : (p : Place) (next : Option Place) (fs : List Fresh) → OnTouched g (Some p) fs → number_of g p ≡ None → next ≡ next_touched_of g.touched (Some p) → OnTouched g next fs
  touched_none p next fs on none n =
      let it = next_touched_is p fs on in
      record {
        done = on.done ++ p ∷ [];
        left = it.rest;
        split = it.split ∙ sym (assoc on.done (p ∷ []) it.rest);
        at = n ∙ it.after;
        covered = λ q i h e. by_part q i e (parted on.done p q h);
      }
    where
      by_part : (q : Place) (i : ℕ) → number_of g q ≡ Some i → Has on.done q ⊎ (p ≡ q) → HasNumber fs i
      by_part q i e (inl h) = on.covered q i h e
      by_part q i e (inr s) = let k : number_of g p ≡ Some i = ap (number_of g) s ∙ e in cc

  touched_more : (p : Place) (next : Option Place) (fs : List Fresh) (f : Fresh) → OnTouched g (Some p) fs → number_of g p ≡ Some (number_in f) → next ≡ next_touched_of g.touched (Some p) → OnTouched g next (fs ++ f ∷ [])
  touched_more p next fs f on number n =
      let it = next_touched_is p fs on in
      record {
        done = on.done ++ p ∷ [];
        left = it.rest;
        split = it.split ∙ sym (assoc on.done (p ∷ []) it.rest);
        at = n ∙ it.after;
        covered = λ q i h e. subst (λ l. Has l i) (sym (numbers_added fs f)) (by_part q i e (parted on.done p q h));
      }
    where
      last_has : (xs : List ℕ) (x : ℕ) → Has (xs ++ x ∷ []) x
      last_has [] x = inl refl
      last_has (z ∷ xs) x = inr (last_has xs x)

      same : (a b : ℕ) → Some a ≡ Some b → a ≡ b
      same a b e = cc

      by_part : (q : Place) (i : ℕ) → number_of g q ≡ Some i → Has on.done q ⊎ (p ≡ q) → Has (numbers fs ++ number_in f ∷ []) i
      by_part q i e (inl h) = has_end (numbers fs) i (number_in f ∷ []) (on.covered q i h e)
      by_part q i e (inr s) =
          subst (λ (m : ℕ). Has (numbers fs ++ number_in f ∷ []) m) (same (number_in f) i (sym number ∙ ap (number_of g) s ∙ e)) (last_has (numbers fs) (number_in f))

  pub touched_added : (u : Kept) (p : Place) (next : Option Place) (old new : List Fresh) → OnTouched g (Some p) old → IsAddedFor g u p old new → next ≡ next_touched_of g.touched (Some p) → OnTouched g next new
  touched_added u p next old new on added n = by_fresh added.fresh added.is added.added
    where
      by_fresh : (f : Option Fresh) → IsFreshOf g u p f → new ≡ with_one f old → OnTouched g next new
      by_fresh None is e = subst (λ (l : List Fresh). OnTouched g next l) (sym e) (touched_none p next old on is n)
      by_fresh (Some f) is e = subst (λ (l : List Fresh). OnTouched g next l) (sym e) (touched_more p next old f on is.0 n)

  pub touched_end : (fs : List Fresh) → OnTouched g None fs → AreCovered g g.touched fs
  touched_end fs on =
      let all : g.touched ≡ on.done = on.split ∙ ap (λ (l : List Place). on.done ++ l) (none_first on.left on.at) ∙ no_more on.done in
      subst (λ (l : List Place). AreCovered g l fs) (sym all) on.covered

-- ---- room for them

module _ (g : GraphView) where
  fresh_longer : (u v : Kept) (f : Fresh) → IsRoomier u v → HasRoomFor g u f → HasRoomFor g v f
  fresh_longer u v (Stays i start) r room = (room.0, record { of = λ b e. room_longer u v i b start r (room.1.of b e) })
  fresh_longer u v (Gone i) r room = ((let n = room.0 in let long = r.blocks.long in omega (arith, n, long)), room.1)

  have_longer : (u v : Kept) (fs : List Fresh) → IsRoomier u v → HaveRoom g u fs → HaveRoom g v fs
  have_longer u v [] r room = tt
  have_longer u v (f ∷ fs) r room = (fresh_longer u v f r room.0, have_longer u v fs r room.1)

  have_both : (u : Kept) (fs : List Fresh) (f : Fresh) → HaveRoom g u fs → HasRoomFor g u f → HaveRoom g u (fs ++ f ∷ [])
  have_both u [] f room one = (one, tt)
  have_both u (x ∷ fs) f room one = (room.0, have_both u fs f room.1 one)

  pub have_added : (u v : Kept) (p : Place) (old new : List Fresh) → IsRoomier u v → HaveRoom g u old → IsAddedFor g v p old new → HaveRoom g v new
  have_added u v p old new r room added = by_fresh added.fresh added.is added.added
    where
      by_fresh : (f : Option Fresh) → IsFreshOf g v p f → new ≡ with_one f old → HaveRoom g v new
      by_fresh None is e = subst (λ (l : List Fresh). HaveRoom g v l) (sym e) (have_longer u v old r room)
      by_fresh (Some f) is e = subst (λ (l : List Fresh). HaveRoom g v l) (sym e) (have_both v old f (have_longer u v old r room) is.1)

-- ---- refreshed uses

module _ (g : GraphView) (graph : IsGraph g) where
  touched_or_not : (j : ℕ) (qs : List Place) → ((q : Place) × Has qs q × (number_of g q ≡ Some j)) ⊎ ((q : Place) → Has qs q → number_of g q ≡ Some j → ⊥)
  touched_or_not j [] = inr (λ q h e. h)
  touched_or_not j (p ∷ qs) = by_number (number_of g p) refl (touched_or_not j qs)
    where
      later : (number_of g p ≡ Some j → ⊥) → ((q : Place) × Has qs q × (number_of g q ≡ Some j)) ⊎ ((q : Place) → Has qs q → number_of g q ≡ Some j → ⊥) → ((q : Place) × Has (p ∷ qs) q × (number_of g q ≡ Some j)) ⊎ ((q : Place) → Has (p ∷ qs) q → number_of g q ≡ Some j → ⊥)
      later other (inl k) = inl (k.0, inr k.1, k.2)
      later other (inr none) = inr (λ q h e. by_has q h e)
        where
          by_has : (q : Place) → Has (p ∷ qs) q → number_of g q ≡ Some j → ⊥
          by_has q (inl s) e = other (ap (number_of g) s ∙ e)
          by_has q (inr h) e = none q h e

      by_number : (o : Option ℕ) → number_of g p ≡ o → ((q : Place) × Has qs q × (number_of g q ≡ Some j)) ⊎ ((q : Place) → Has qs q → number_of g q ≡ Some j → ⊥) → ((q : Place) × Has (p ∷ qs) q × (number_of g q ≡ Some j)) ⊎ ((q : Place) → Has (p ∷ qs) q → number_of g q ≡ Some j → ⊥)
      by_number None e rest = later (λ f. cc) rest
      by_number (Some m) e rest = by_eq (cases_eq m j)
        where
          by_eq : (m ≡ j) ⊎ (m ≡ j → ⊥) → ((q : Place) × Has (p ∷ qs) q × (number_of g q ≡ Some j)) ⊎ ((q : Place) → Has (p ∷ qs) q → number_of g q ≡ Some j → ⊥)
          by_eq (inl s) = inl (p, inl refl, e ∙ ap (λ (k : ℕ). Some k) s)
          by_eq (inr differs) = later (λ f. differs (some_same m j (sym e ∙ f))) rest
            where
              some_same : (a b : ℕ) → Some a ≡ Some b → a ≡ b
              some_same a b q = cc

  clear_at : (u : Kept) (i : ℕ) → IsAt g u i → IsAt (cleared g) u i
  clear_at u i at = record { kept = at.kept; gone = at.gone }

  pub refreshed : (u v : Kept) (fs : List Fresh) → IsNearly g u → IsRoomier u v → AreCovered g g.touched fs → HaveRoom g v fs → IsUsesOf (cleared g) (installed g fs v)
  refreshed u v fs near roomier covered room = record {
    all = λ j. clear_at (installed g fs v) j (installed_at g graph fs v j room (by_touched j (touched_or_not j g.touched)));
  }
    where
      by_touched : (j : ℕ) → ((q : Place) × Has g.touched q × (number_of g q ≡ Some j)) ⊎ ((q : Place) → Has g.touched q → number_of g q ≡ Some j → ⊥) → HasNumber fs j ⊎ IsAt g v j
      by_touched j (inl k) = inl (covered k.0 j k.1 k.2)
      by_touched j (inr none) = inr (roomier_at g graph u v j roomier (near.others j none))

-- ---- uses from nothing

-- of these blocks all is kept, and of others nothing
pub record OfBlocks (g : GraphView) (done : List Block) (u : Kept) : Type 0 where
  pub kept : (b : Block) → Has done b → IsAt g u b.id
  pub none : (j : ℕ) → NoneNumbered done j → block_at u j ≡ no_block

module _ (g : GraphView) (graph : IsGraph g) where
  pub blocks_none : (u : Kept) → u.blocks ≡ [] → OfBlocks g [] u
  blocks_none u e = record {
    kept = λ b h. absurd h;
    none = λ j h. ap (λ (l : List BlockUses). get_or l j no_block) e;
  }

  pub blocks_added : (done : List Block) (x : Block) (start : ℕ) (u v : Kept) → Has g.blocks x → IsRoomier u v → HasRoom g v x.id start → OfBlocks g done u → OfBlocks g (done ++ x ∷ []) (with_block v x.id x start)
  blocks_added done x start u v among roomier room of = record {
    kept = λ b h. by_part b (parted_block done b h);
    none = λ j no. get_or-set_other v.blocks x.id j (block_uses x start) no_block (λ s. no x (last_block done) (sym s)) ∙ roomier.blocks.same j ∙ of.none j (λ c h. no c (has_more done c h));
  }
    where
      found : block_of g x.id ≡ Some x
      found = (found_here g graph x x.id among refl).0

      last_block : (bs : List Block) → Has (bs ++ x ∷ []) x
      last_block [] = inl refl
      last_block (b ∷ bs) = inr (last_block bs)

      has_more : (bs : List Block) (c : Block) → Has bs c → Has (bs ++ x ∷ []) c
      has_more [] c h = absurd h
      has_more (b ∷ bs) c (inl s) = inl s
      has_more (b ∷ bs) c (inr h) = inr (has_more bs c h)

      parted_block : (bs : List Block) (b : Block) → Has (bs ++ x ∷ []) b → Has bs b ⊎ (x ≡ b)
      parted_block [] b (inl s) = inr s
      parted_block [] b (inr h) = absurd h
      parted_block (c ∷ bs) b (inl s) = inl (inl s)
      parted_block (c ∷ bs) b (inr h) = by (parted_block bs b h)
        where
          by : Has bs b ⊎ (x ≡ b) → Has (c ∷ bs) b ⊎ (x ≡ b)
          by (inl k) = inl (inr k)
          by (inr s) = inr s

      by_part : (b : Block) → Has done b ⊎ (x ≡ b) → IsAt g (with_block v x.id x start) b.id
      by_part b (inl h) = with_block_at g graph v x.id x start b.id found (room.of x found) (inr (roomier_at g graph u v b.id roomier (of.kept b h)))
      by_part b (inr s) = with_block_at g graph v x.id x start b.id found (room.of x found) (inl (ap (λ (y : Block). y.id) (sym s)))

  pub blocks_noted :
      (done : List Block) (x : Block) (i start : ℕ) (u v w : Kept) → x.id ≡ i → Has g.blocks x → IsRoomier u v → HasRoom g v i start →
      ((b : Block) → block_of g i ≡ Some b → w ≡ with_block v i b start) → OfBlocks g done u → OfBlocks g (done ++ x ∷ []) w
  blocks_noted done x i start u v w e among roomier room noted of =
      subst (λ (k : Kept). OfBlocks g (done ++ x ∷ []) k) (sym (noted x (found_here g graph x i among e).0))
      (subst (λ (k : ℕ). OfBlocks g (done ++ x ∷ []) (with_block v k x start)) e
      (blocks_added done x start u v among roomier (subst (λ (k : ℕ). HasRoom g v k start) (sym e) room) of))

  pub blocks_all : (u : Kept) → OfBlocks g g.blocks u → IsUsesOf g u
  blocks_all u of = record { all = λ j. by_number j (numbered_or_none g.blocks j) }
    where
      by_number : (j : ℕ) → Numbered g.blocks j ⊎ NoneNumbered g.blocks j → IsAt g u j
      by_number j (inl k) = subst (λ (i : ℕ). IsAt g u i) k.2 (of.kept k.0 k.1)
      by_number j (inr none) = record {
        kept = λ b h e. absurd (none b h e);
        gone = λ n. of.none j none;
      }

-- ---- tables with room for more

pub longer_itself : {X : Type 0} (xs : List X) → IsLonger xs xs
longer_itself xs = record { same = λ i d h. refl; long = omega arith }

pub longer_both : {X : Type 0} (xs ys zs : List X) → IsLonger xs ys → IsLonger ys zs → IsLonger xs zs
longer_both xs ys zs a b = record {
  same = λ i d h. b.same i d (let long = a.long in omega (arith, h, long)) ∙ a.same i d h;
  long = omega (arith, a.long, b.long);
}

pub longer_more : {X : Type 0} (xs ys : List X) (y : X) → IsLonger xs ys → IsLonger xs (ys ++ y ∷ [])
longer_more {X = X} xs ys y a = record {
  same = λ i d h. get_or_append_left ys (y ∷ []) d i (let long = a.long in omega (arith, h, long)) ∙ a.same i d h;
  long = omega (arith, a.long, length_push ys y);
}

pub padded_itself : {X : Type 0} (d : X) (xs : List X) → IsPadded d xs xs
padded_itself d xs = record { same = λ i. refl; long = omega arith }

pub padded_both : {X : Type 0} (d : X) (xs ys zs : List X) → IsPadded d xs ys → IsPadded d ys zs → IsPadded d xs zs
padded_both d xs ys zs a b = record { same = λ i. b.same i ∙ a.same i; long = omega (arith, a.long, b.long) }

pub padded_more : {X : Type 0} (d : X) (xs ys : List X) (y : X) → y ≡ d → IsPadded d xs ys → IsPadded d xs (ys ++ y ∷ [])
padded_more {X = X} d xs ys y e a = record { same = λ i. added ys i ∙ a.same i; long = omega (arith, a.long, length_push ys y) }
  where
    added : (l : List X) (i : ℕ) → get_or (l ++ y ∷ []) i d ≡ get_or l i d
    added [] zero = e
    added [] (suc i) = refl
    added (z ∷ l) zero = refl
    added (z ∷ l) (suc i) = added l i

pub roomier_itself : (u : Kept) → IsRoomier u u
roomier_itself u = record { ops = longer_itself u.ops; blocks = padded_itself no_block u.blocks; loads = longer_itself u.loads }

pub roomier_both : (u v w : Kept) → IsRoomier u v → IsRoomier v w → IsRoomier u w
roomier_both u v w a b = record {
  ops = longer_both u.ops v.ops w.ops a.ops b.ops;
  blocks = padded_both no_block u.blocks v.blocks w.blocks a.blocks b.blocks;
  loads = longer_both u.loads v.loads w.loads a.loads b.loads;
}
