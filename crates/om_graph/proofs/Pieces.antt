-- The pieces of a text that is cut follow each other, and each begins where a block does.
use Rattle.std.proofs.Common.{◌≡◌, inl, inr, ◌<◌, ◌≤◌, ◌+◌, ◌*◌, ℕ, zero, suc, Bool, true, false, cond, List, [], ◌∷◌, length, Some, refl, sym, ap, ◌∙◌, subst, arith}
use Rattle.std.specs.Prelude.{slice_get}
use Rattle.std.proofs.lemmas.Bool.{true≢false}
use Rattle.om_value.specs.declared.value.Place.{Place}
use Rattle.om_prog.specs.declared.item.Item.{Item}
use Rattle.om_prog.specs.View.{ProgramView, item_at}
use Rattle.om_prog.specs.Step.{next_place}
use Rattle.om_graph.specs.View.{Has}
use Rattle.om_graph.specs.Landing.{begins}
use Rattle.om_graph.specs.Lifted.{Piece, in_front, cut}
use Rattle.om_graph.proofs.Labels.{equal_places}
use Rattle.om_graph.proofs.LiftedWords.{Stands, Known}

-- ---- one behind the other

abbrev pub piece_end : Piece → ℕ
piece_end x = x.from.off + 4 * length x.items

-- pieces of a text from an offset on, up to its end
abbrev pub Chain : ℕ → ℕ → ℕ → List Piece → Type 0
Chain obj size k [] = k ≡ size
Chain obj size k (x ∷ xs) = (x.from.obj ≡ obj) × (x.from.off ≡ k) × (x.items ≡ [] → ⊥) × Chain obj size (k + 4 * length x.items) xs

module _ (obj size : ℕ) where
  chain_bounds : (k : ℕ) (xs : List Piece) → Chain obj size k xs → k ≤ size
  chain_bounds k [] c = omega (arith, c)
  chain_bounds k (x ∷ xs) c = let i = chain_bounds (k + 4 * length x.items) xs c.3 in omega (arith, i)

  pub chain_obj : (k : ℕ) (xs : List Piece) (x : Piece) → Chain obj size k xs → Has xs x → x.from.obj ≡ obj
  chain_obj k [] x c h = absurd h
  chain_obj k (y ∷ xs) x c (inl e) = subst (λ (z : Piece). z.from.obj ≡ obj) e c.0
  chain_obj k (y ∷ xs) x c (inr h) = chain_obj (k + 4 * length y.items) xs x c.3 h

  pub chain_some : (k : ℕ) (xs : List Piece) (x : Piece) → Chain obj size k xs → Has xs x → x.items ≡ [] → ⊥
  chain_some k [] x c h = absurd h
  chain_some k (y ∷ xs) x c (inl e) = subst (λ (z : Piece). z.items ≡ [] → ⊥) e c.2
  chain_some k (y ∷ xs) x c (inr h) = chain_some (k + 4 * length y.items) xs x c.3 h

  -- a piece stands between the offset and the end
  pub chain_in : (k : ℕ) (xs : List Piece) (x : Piece) → Chain obj size k xs → Has xs x → (k ≤ x.from.off) × (piece_end x ≤ size)
  chain_in k [] x c h = absurd h
  chain_in k (y ∷ xs) x c (inl e) =
      let b = chain_bounds (k + 4 * length y.items) xs c.3 in
      let o = c.1 in
      subst (λ (z : Piece). (k ≤ z.from.off) × (piece_end z ≤ size)) e (omega (arith, o), omega (arith, o, b))
  chain_in k (y ∷ xs) x c (inr h) =
      let i = chain_in (k + 4 * length y.items) xs x c.3 h in
      let i0 = i.0 in
      (omega (arith, i0), i.1)

  pub some_length : (x : Piece) → (x.items ≡ [] → ⊥) → 0 < length x.items
  some_length x n = by_items x.items n
    where
      by_items : (l : List Item) → (l ≡ [] → ⊥) → 0 < length l
      by_items [] n = absurd (n refl)
      by_items (i ∷ l) n = omega arith

  -- a piece that begins behind another begins behind its end
  pub chain_apart : (k : ℕ) (xs : List Piece) (x y : Piece) → Chain obj size k xs → Has xs x → Has xs y → x.from.off < y.from.off → piece_end x ≤ y.from.off
  chain_apart k [] x y c h m l = absurd h
  chain_apart k (z ∷ xs) x y c (inl e) (inl f) l = let g = ap (λ (w : Piece). w.from.off) (sym e ∙ f) in absurd (omega (arith, g, l))
  chain_apart k (z ∷ xs) x y c (inl e) (inr m) l =
      let i = chain_in (k + 4 * length z.items) xs y c.3 m in
      let i0 = i.0 in
      let o = c.1 in
      let g = ap piece_end e in
      omega (arith, i0, o, g)
  chain_apart k (z ∷ xs) x y c (inr h) (inl f) l =
      let i = chain_in (k + 4 * length z.items) xs x c.3 h in
      let i0 = i.0 in
      let o = c.1 in
      let g = ap (λ (w : Piece). w.from.off) f in
      absurd (omega (arith, i0, o, g, l))
  chain_apart k (z ∷ xs) x y c (inr h) (inr m) l = chain_apart (k + 4 * length z.items) xs x y c.3 h m l

-- ---- a text that is cut

module _ (p : ProgramView) where
  -- what is known of each piece
  pub record IsPiece (x : Piece) : Type 0 where
    pub known : Known p x.from x.items
    pub begin : begins p x.from ≡ true

  abbrev pub Rest : (Piece → Type 0) → List Piece → Type 0
  Rest P [] = Unit {0}
  Rest P (x ∷ xs) = (y : Piece) → Has xs y → P y

  pub record Cut (obj size : ℕ) (at : Place) (is : List Item) (xs : List Piece) : Type 0 where
    pub chain : Chain obj size at.off xs
    pub known : (x : Piece) → Has xs x → Known p x.from x.items
    -- all but the first begin where a block does
    pub begin : Rest (λ x. begins p x.from ≡ true) xs
    pub first : (is ≡ [] → ⊥) → (x : Piece) × Has xs x × (x.from ≡ at)
    -- where a block begins a piece does
    pub each : (j : ℕ) (i : Item) (q : Place) → slice_get is j ≡ Some i → q.obj ≡ obj → q.off ≡ at.off + 4 * j → begins p q ≡ true → (x : Piece) × Has xs x × (x.from ≡ q)

  module _ (obj size : ℕ) (at : Place) (i : Item) (is : List Item) (o : at.obj ≡ obj) (here : item_at p at ≡ Some i) (stands : Stands p at i) where
    abbrev alone : Piece
    alone = record { from = at; items = i ∷ [] }

    not_nil : (l : List Item) → i ∷ l ≡ [] → ⊥
    not_nil l e = cc

    front : (xs : List Piece) → Known p (next_place at) is → Cut obj size (next_place at) is xs → Cut obj size at (i ∷ is) (in_front (begins p) at i xs)
    front [] k c = record {
      chain = (o, refl, not_nil [], omega (arith, at_end));
      known = only;
      begin = λ y h. absurd h;
      first = λ n. (alone, inl refl, refl);
      each = found;
    }
      where
        at_end : at.off + 4 ≡ size
        at_end = c.chain

        only : (x : Piece) → Has (alone ∷ []) x → Known p x.from x.items
        only x (inl e) = subst (λ (y : Piece). Known p y.from y.items) e (here, stands, tt)
        only x (inr h) = absurd h

        none : (x : Piece) × Has [] x × (x.from ≡ at) → ⊥
        none x = x.1

        found : (j : ℕ) (m : Item) (q : Place) → slice_get (i ∷ is) j ≡ Some m → q.obj ≡ obj → q.off ≡ at.off + 4 * j → begins p q ≡ true → (x : Piece) × Has (alone ∷ []) x × (x.from ≡ q)
        found zero m q s e f b = (alone, inl refl, sym (equal_places q at (e ∙ sym o) (omega (arith, f))))
        found (suc j) m q s e f b = let r = c.each j m q s e (omega (arith, f)) b in absurd r.1
    front (x ∷ xs) k c = by_cut (begins p x.from) refl
      where
        next_off : x.from.off ≡ at.off + 4
        next_off = c.chain.1

        next_is : x.from ≡ next_place at
        next_is = equal_places x.from (next_place at) (c.chain.0 ∙ sym o) next_off

        tail : Chain obj size ((at.off + 4) + 4 * length x.items) xs
        tail = c.chain.3

        known_joined : Known p at (i ∷ x.items)
        known_joined = (here, stands, subst (λ (q : Place). Known p q x.items) next_is (c.known x (inl refl)))

        by_cut : (b : Bool) → begins p x.from ≡ b → Cut obj size at (i ∷ is) (cond b (alone ∷ x ∷ xs) (record { from = at; items = i ∷ x.items } ∷ xs))
        by_cut true h = record {
          chain = (o, refl, not_nil [], (c.chain.0, omega (arith, next_off), c.chain.2, subst (λ (n : ℕ). Chain obj size n xs) (omega arith) tail));
          known = knows;
          begin = starts;
          first = λ n. (alone, inl refl, refl);
          each = found;
        }
          where
            knows : (y : Piece) → Has (alone ∷ x ∷ xs) y → Known p y.from y.items
            knows y (inl e) = subst (λ (z : Piece). Known p z.from z.items) e (here, stands, tt)
            knows y (inr m) = c.known y m

            starts : (y : Piece) → Has (x ∷ xs) y → begins p y.from ≡ true
            starts y (inl e) = subst (λ (z : Piece). begins p z.from ≡ true) e h
            starts y (inr m) = c.begin y m

            found : (j : ℕ) (m : Item) (q : Place) → slice_get (i ∷ is) j ≡ Some m → q.obj ≡ obj → q.off ≡ at.off + 4 * j → begins p q ≡ true → (y : Piece) × Has (alone ∷ x ∷ xs) y × (y.from ≡ q)
            found zero m q s e f b = (alone, inl refl, sym (equal_places q at (e ∙ sym o) (omega (arith, f))))
            found (suc j) m q s e f b = let r = c.each j m q s e (omega (arith, f)) b in (r.0, inr r.1, r.2)
        by_cut false h = record {
          chain = (o, refl, not_nil x.items, subst (λ (n : ℕ). Chain obj size n xs) (omega arith) tail);
          known = knows;
          begin = c.begin;
          first = λ n. (record { from = at; items = i ∷ x.items }, inl refl, refl);
          each = found;
        }
          where
            knows : (y : Piece) → Has (record { from = at; items = i ∷ x.items } ∷ xs) y → Known p y.from y.items
            knows y (inl e) = subst (λ (z : Piece). Known p z.from z.items) e known_joined
            knows y (inr m) = c.known y (inr m)

            kept : (q : Place) → begins p q ≡ true → (y : Piece) × Has (x ∷ xs) y × (y.from ≡ q) → (y : Piece) × Has (record { from = at; items = i ∷ x.items } ∷ xs) y × (y.from ≡ q)
            kept q b (y, inl e, f) = absurd (true≢false (sym b ∙ sym (ap (λ (z : Place). begins p z) (ap (λ (z : Piece). z.from) e ∙ f)) ∙ h))
            kept q b (y, inr m, f) = (y, inr m, f)

            found : (j : ℕ) (m : Item) (q : Place) → slice_get (i ∷ is) j ≡ Some m → q.obj ≡ obj → q.off ≡ at.off + 4 * j → begins p q ≡ true → (y : Piece) × Has (record { from = at; items = i ∷ x.items } ∷ xs) y × (y.from ≡ q)
            found zero m q s e f b = (record { from = at; items = i ∷ x.items }, inl refl, sym (equal_places q at (e ∙ sym o) (omega (arith, f))))
            found (suc j) m q s e f b = kept q b (c.each j m q s e (omega (arith, f)) b)

  pub cut_is : (obj size : ℕ) (at : Place) (is : List Item) → at.obj ≡ obj → at.off + 4 * length is ≡ size → Known p at is → Cut obj size at is (cut (begins p) at is)
  cut_is obj size at [] o e k = record {
    chain = omega (arith, e);
    known = λ x h. absurd h;
    begin = tt;
    first = λ n. absurd (n refl);
    each = λ j i q s. none q j i s;
  }
    where
      none : (q : Place) (j : ℕ) (i : Item) → slice_get [] j ≡ Some i → q.obj ≡ obj → q.off ≡ at.off + 4 * j → begins p q ≡ true → (x : Piece) × Has [] x × (x.from ≡ q)
      none q j i s a b d = cc
  cut_is obj size at (i ∷ is) o e k =
      front obj size at i is o k.0 k.1 (cut (begins p) (next_place at) is) k.2 (cut_is obj size (next_place at) is o (omega (arith, e)) k.2)
