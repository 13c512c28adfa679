-- The numbers of rows are those of their labels.
use Rattle.std.proofs.Common.{◌≡◌, ◌<◌, ◌+◌, ℕ, zero, suc, true, false, List, [], ◌∷◌, length, get_or, Option, Some, None, inl, inr, refl, sym, ap, ◌∙◌, subst, arith}
use Rattle.std.proofs.lemmas.Bool.{false_from_ne_true}
use Rattle.om_value.specs.declared.value.Place.{Place}
use Rattle.om_value.specs.Same.{place_eq}
use Rattle.om_graph.specs.declared.op.Op.{Op}
use Rattle.om_graph.specs.declared.parts.Row.{Row}
use Rattle.om_graph.specs.View.{Block, Has, InPlaceOrder, place_lt}
use Rattle.om_graph.specs.Laid.{no_row, row_at, labels_of, kept_block, shown, blocks_from}
use Rattle.om_graph.specs.Numbers.{number_from}
use Rattle.om_graph.proofs.Labels.{self_eq}
use Rattle.om_graph.proofs.RowBlocks.{IsAt, at_bound, at_get}
use Rattle.om_graph.proofs.RowLabels.{located}
use Rattle.om_graph.proofs.RowSearch.{before_here, behind_here}

-- no other row has the label
abbrev pub Only : Place → List Row → ℕ → Type 0
Only p rows c = (k : ℕ) (x : Row) → IsAt rows k x → place_eq x.label p ≡ true → k ≡ c

pub number_here : (p : Place) (n m : ℕ) (rows : List Row) (c : ℕ) (r : Row) → m ≡ n + c → IsAt rows c r → r.label ≡ p → Only p rows c → number_from n p (labels_of rows) ≡ Some m
number_here p n m [] c r is at e only = absurd at
number_here p n m (x ∷ rows) zero r is at e only =
    let same : x.label ≡ p = ap (λ (y : Row). y.label) at ∙ e in
    let t : place_eq x.label p ≡ true = subst (λ (q : Place). place_eq q p ≡ true) (sym same) (self_eq p) in
    let sum : n ≡ m = omega (arith, is) in
    rw t (ap Some sum)
number_here p n m (x ∷ rows) (suc c) r is at e only =
    let f : place_eq x.label p ≡ false = false_from_ne_true (place_eq x.label p) (λ t. let z = only 0 x refl t in absurd (omega (arith, z))) in
    rw f (number_here p (n + 1) m rows c r (omega (arith, is)) at e (λ k y a t. let z = only (suc k) y a t in omega (arith, z)))

pub number_none : (p : Place) (n : ℕ) (rows : List Row) → ((k : ℕ) (x : Row) → IsAt rows k x → place_eq x.label p ≡ false) → number_from n p (labels_of rows) ≡ None
number_none p n [] none = refl
number_none p n (x ∷ rows) none =
    let f = none 0 x refl in
    rw f (number_none p (n + 1) rows (λ k y a. none (suc k) y a))

-- the row of a kept block
pub record RowOf (n : ℕ) (rows : List Row) (b : Block) : Type 0 where
  pub place : ℕ
  pub row : Row
  pub is_at : IsAt rows place row
  pub id : b.id ≡ n + place
  pub label : row.label ≡ b.label

pub row_of : (lists : List (List (ℕ × Op))) (n : ℕ) (rows : List Row) (b : Block) → Has (blocks_from lists n rows) b → RowOf n rows b
row_of lists n [] b h = absurd h
row_of lists n (x ∷ rows) b h = by_kept x.kept h (λ k. row_of lists (suc n) rows b k)
  where
    later : RowOf (suc n) rows b → RowOf n (x ∷ rows) b
    later f = record { place = suc f.place; row = f.row; is_at = f.is_at; id = omega (arith, f.id); label = f.label }

    by_kept : (o : Option ℕ) → Has (kept_block o (shown n x (get_or lists n [])) (blocks_from lists (suc n) rows)) b → (Has (blocks_from lists (suc n) rows) b → RowOf (suc n) rows b) → RowOf n (x ∷ rows) b
    by_kept None k again = later (again k)
    by_kept (Some key) (inl e) again = record {
      place = 0;
      row = x;
      is_at = refl;
      id = let i = ap (λ (y : Block). y.id) e in omega (arith, i);
      label = ap (λ (y : Block). y.label) e;
    }
    by_kept (Some key) (inr k) again = later (again k)

pub numbered_rows : (lists : List (List (ℕ × Op))) (rows : List Row) (b : Block) → InPlaceOrder (labels_of rows) → Has (blocks_from lists 0 rows) b → number_from 0 b.label (labels_of rows) ≡ Some b.id
numbered_rows lists rows b o h =
    let f = row_of lists 0 rows b h in
    let within : f.place < length rows = at_bound rows f.place f.row f.is_at in
    let here : (row_at rows f.place).label ≡ b.label = ap (λ (y : Row). y.label) (at_get rows f.place f.row no_row f.is_at) ∙ f.label in
    number_here b.label 0 b.id rows f.place f.row f.id f.is_at f.label
    (λ k x at e. located b.label rows f.place k x o (before_here rows f.place b.label o within here) (λ l. behind_here rows f.place b.label o within here f.place (omega arith) l) at e)
