-- Rows in order, as a binary search over their labels asks.
use Rattle.std.proofs.Common.{◌≡◌, ◌⊎◌, inl, inr, ◌<◌, ◌≤◌, ℕ, true, false, List, length, get_or, refl, sym, ap, ◌∙◌, subst, arith}
use Rattle.std.specs.Prelude.{not}
use Rattle.std.specs.List.Sorted.{IsPartitionedBy}
use Rattle.std.proofs.lemmas.Bool.{both_ways, cases_order, not-true, not_from_false, false_from_ne_true}
use Rattle.om_value.specs.declared.value.Place.{Place}
use Rattle.om_graph.specs.declared.parts.Row.{Row}
use Rattle.om_graph.specs.View.{InPlaceOrder, place_lt}
use Rattle.om_graph.specs.Laid.{labels_of, no_row, row_at}
use Rattle.om_graph.proofs.Labels.{lt_cases}
use Rattle.om_graph.proofs.HeldEdits.{lt_trans}
use Rattle.om_graph.proofs.RowBlocks.{at_read}
use Rattle.om_graph.proofs.RowLabels.{order_lt}

-- the label of a row is that of a row in front, or before it
in_order :
    (rows : List Row) (i j : ℕ) (d : Row) → InPlaceOrder (labels_of rows) → i ≤ j → j < length rows →
    ((get_or rows i d).label ≡ (get_or rows j d).label) ⊎ (place_lt (get_or rows i d).label (get_or rows j d).label ≡ true)
in_order rows i j d o le l = by_order (cases_order i j)
  where
    by_order : (i ≡ j) ⊎ ((i < j) ⊎ (j < i)) → ((get_or rows i d).label ≡ (get_or rows j d).label) ⊎ (place_lt (get_or rows i d).label (get_or rows j d).label ≡ true)
    by_order (inl e) = inl (ap (λ (k : ℕ). (get_or rows k d).label) e)
    by_order (inr (inl h)) =
        inr (order_lt rows i j (get_or rows i d) (get_or rows j d) o (at_read rows i d (get_or rows i d) (omega (arith, le, l)) refl) (at_read rows j d (get_or rows j d) l refl) h)
    by_order (inr (inr h)) = absurd (omega (arith, le, h))

pub parted_before : (p : Place) (rows : List Row) → InPlaceOrder (labels_of rows) → IsPartitionedBy (λ (r : Row). place_lt r.label p) rows
parted_before p rows o i j d le l t = by_case (in_order rows i j d o le l)
  where
    by_case : ((get_or rows i d).label ≡ (get_or rows j d).label) ⊎ (place_lt (get_or rows i d).label (get_or rows j d).label ≡ true) → place_lt (get_or rows i d).label p ≡ true
    by_case (inl e) = subst (λ (q : Place). place_lt q p ≡ true) (sym e) t
    by_case (inr h) = lt_trans (get_or rows i d).label (get_or rows j d).label p h t

pub parted_up_to : (p : Place) (rows : List Row) → InPlaceOrder (labels_of rows) → IsPartitionedBy (λ (r : Row). not (place_lt p r.label)) rows
parted_up_to p rows o i j d le l t = not_from_false (place_lt p (get_or rows i d).label) (false_from_ne_true (place_lt p (get_or rows i d).label) (λ h. by_case h (in_order rows i j d o le l)))
  where
    by_case : place_lt p (get_or rows i d).label ≡ true → ((get_or rows i d).label ≡ (get_or rows j d).label) ⊎ (place_lt (get_or rows i d).label (get_or rows j d).label ≡ true) → ⊥
    by_case h (inl e) = both_ways (place_lt p (get_or rows j d).label) (not-true (place_lt p (get_or rows j d).label) t) (subst (λ (q : Place). place_lt p q ≡ true) e h)
    by_case h (inr g) = both_ways (place_lt p (get_or rows j d).label) (not-true (place_lt p (get_or rows j d).label) t) (lt_trans p (get_or rows i d).label (get_or rows j d).label h g)

-- at the row of a label the rows before it have labels before that, and those from it on have none
no_self : (p : Place) → place_lt p p ≡ true → ⊥
no_self p e = by_cases (lt_cases p p e)
  where
    by_cases : ((p.obj ≡ p.obj) × (p.off < p.off)) ⊎ (p.obj < p.obj) → ⊥
    by_cases (inl h) = let x = h.1 in omega (arith, x)
    by_cases (inr h) = omega (arith, h)

pub before_here :
    (rows : List Row) (near : ℕ) (p : Place) → InPlaceOrder (labels_of rows) → near < length rows → (row_at rows near).label ≡ p → (i : ℕ) → i < near → place_lt (row_at rows i).label p ≡ true
before_here rows near p o l e i h =
    subst (λ (q : Place). place_lt (row_at rows i).label q ≡ true) e
    (order_lt rows i near (row_at rows i) (row_at rows near) o (at_read rows i no_row (row_at rows i) (omega (arith, h, l)) refl) (at_read rows near no_row (row_at rows near) l refl) h)

pub behind_here :
    (rows : List Row) (near : ℕ) (p : Place) → InPlaceOrder (labels_of rows) → near < length rows → (row_at rows near).label ≡ p → (i : ℕ) → near ≤ i → i < length rows → place_lt (row_at rows i).label p ≡ false
behind_here rows near p o l e i h w = false_from_ne_true (place_lt (row_at rows i).label p) (λ t. by_order t (cases_order near i))
  where
    by_order : place_lt (row_at rows i).label p ≡ true → (near ≡ i) ⊎ ((near < i) ⊎ (i < near)) → ⊥
    by_order t (inl s) = no_self p (subst (λ (q : Place). place_lt q p ≡ true) (ap (λ (k : ℕ). (row_at rows k).label) (sym s) ∙ e) t)
    by_order t (inr (inl k)) =
        let a : place_lt p (row_at rows i).label ≡ true =
        subst (λ (q : Place). place_lt q (row_at rows i).label ≡ true) e
        (order_lt rows near i (row_at rows near) (row_at rows i) o (at_read rows near no_row (row_at rows near) l refl) (at_read rows i no_row (row_at rows i) w refl) k) in
        no_self p (lt_trans p (row_at rows i).label p a t)
    by_order t (inr (inr k)) = absurd (omega (arith, h, k))
