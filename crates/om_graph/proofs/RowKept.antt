-- The kept rows: their numbers under the ids of the arena that orders them.
use Rattle.std.proofs.Common.{◌≡◌, ◌+◌, eqb, ℕ, zero, suc, Bool, true, false, cond, List, [], ◌∷◌, ◌++◌, length, get_or, set, Option, Some, None, refl, sym, ap, ◌∙◌, subst, arith}
use Rattle.std.specs.Prelude.{is_some, map}
use Rattle.std.specs.Map.{lookup, keys_of}
use Rattle.std.proofs.lemmas.Bool.{true≢false, eqb-true, eq-eqb, ne_eqb}
use Rattle.om_arena.specs.Lists.{IsApart, AreApart, without, first_id, id_after, home}
use Rattle.om_graph.specs.declared.op.Op.{Op}
use Rattle.om_graph.specs.declared.parts.Row.{Row}
use Rattle.om_graph.specs.View.{first_block_id, block_id_after}
use Rattle.om_graph.specs.Laid.{shown, kept_block, blocks_from, kept_item, kept_from, cleared_row}
use Rattle.om_graph.proofs.RowBlocks.{IsAt}
use Rattle.om_graph.proofs.RowNodes.{absent_value}

pub kept_same : (n : ℕ) (rows : List Row) (j : ℕ) (r r' : Row) → IsAt rows j r → r'.kept ≡ r.kept → kept_from n (set rows j r') ≡ kept_from n rows
kept_same n [] j r r' at same = absurd at
kept_same n (x ∷ rows) zero r r' at same = ap (λ (o : Option ℕ). kept_item o n (kept_from (suc n) rows)) (same ∙ ap (λ (y : Row). y.kept) (sym at))
kept_same n (x ∷ rows) (suc j) r r' at same = ap (λ (l : List (ℕ × ℕ)). kept_item x.kept n l) (kept_same (suc n) rows j r r' at same)

pub kept_cleared : (n : ℕ) (rows : List Row) → kept_from n (map cleared_row rows) ≡ kept_from n rows
kept_cleared n [] = refl
kept_cleared n (x ∷ rows) = ap (λ (l : List (ℕ × ℕ)). kept_item x.kept n l) (kept_cleared (suc n) rows)

item_append : (o : Option ℕ) (n : ℕ) (l m : List (ℕ × ℕ)) → kept_item o n (l ++ m) ≡ kept_item o n l ++ m
item_append None n l m = refl
item_append (Some k) n l m = refl

pub kept_added : (n : ℕ) (rows : List Row) (i : ℕ) (r : Row) → i ≡ n + length rows → kept_from n (rows ++ r ∷ []) ≡ kept_from n rows ++ kept_item r.kept i []
kept_added n [] i r e = let same : n ≡ i = omega (arith, e) in ap (λ (m : ℕ). kept_item r.kept m []) same
kept_added n (x ∷ rows) i r e =
    ap (λ (l : List (ℕ × ℕ)). kept_item x.kept n l) (kept_added (suc n) rows i r (omega (arith, e)))
    ∙ item_append x.kept n (kept_from (suc n) rows) (kept_item r.kept i [])

-- ---- the number under an id

item_apart : (o : Option ℕ) (n : ℕ) (l : List (ℕ × ℕ)) → AreApart (keys_of (kept_item o n l)) → AreApart (keys_of l)
item_apart None n l a = a
item_apart (Some k) n l a = a.1

-- an id that is further on is another one
pub kept_lookup :
    (n : ℕ) (rows : List Row) (i j : ℕ) (r : Row) (k : ℕ) → i ≡ n + j → IsAt rows j r → r.kept ≡ Some k → AreApart (keys_of (kept_from n rows)) →
    lookup (eqb k) (kept_from n rows) ≡ Some i
kept_lookup n [] i j r k e at is apart = absurd at
kept_lookup n (x ∷ rows) i zero r k e at is apart =
    let same : n ≡ i = omega (arith, e) in
    let held : x.kept ≡ Some k = ap (λ (y : Row). y.kept) at ∙ is in
    let t = eq-eqb k k refl in
    rw held (rw t (ap (λ (m : ℕ). Some m) same))
kept_lookup n (x ∷ rows) i (suc j) r k e at is apart =
    by_kept x.kept apart (kept_lookup (suc n) rows i j r k (omega (arith, e)) at is (item_apart x.kept n (kept_from (suc n) rows) apart))
  where
    by_kept :
        (o : Option ℕ) → AreApart (keys_of (kept_item o n (kept_from (suc n) rows))) → lookup (eqb k) (kept_from (suc n) rows) ≡ Some i →
        lookup (eqb k) (kept_item o n (kept_from (suc n) rows)) ≡ Some i
    by_kept None a f = f
    by_kept (Some h) a f = by_id (eqb k h) refl
      where
        by_id : (v : Bool) → eqb k h ≡ v → cond v (Some n) (lookup (eqb k) (kept_from (suc n) rows)) ≡ Some i
        by_id true t =
            let absent = absent_value (kept_from (suc n) rows) k (subst (λ (y : ℕ). IsApart y (keys_of (kept_from (suc n) rows))) (sym (eqb-true k h t)) a.0) in
            absurd (true≢false (ap is_some (sym f ∙ absent)))
        by_id false t = f

-- an id of the rows behind is not that of a row in front
differs : (n : ℕ) (rows : List Row) (k h i : ℕ) → IsApart h (keys_of (kept_from n rows)) → lookup (eqb k) (kept_from n rows) ≡ Some i → eqb k h ≡ false
differs n rows k h i a found = ne_eqb k h other
  where
    other : k ≡ h → ⊥
    other e =
        let absent = absent_value (kept_from n rows) k (subst (λ (y : ℕ). IsApart y (keys_of (kept_from n rows))) (sym e) a) in
        true≢false (ap is_some (sym found ∙ absent))

-- a row that is no longer kept
pub kept_without :
    (n : ℕ) (rows : List Row) (j : ℕ) (r r' : Row) (k : ℕ) → IsAt rows j r → r.kept ≡ Some k → r'.kept ≡ None → AreApart (keys_of (kept_from n rows)) →
    kept_from n (set rows j r') ≡ without k (kept_from n rows)
kept_without n [] j r r' k at is out apart = absurd at
kept_without n (x ∷ rows) zero r r' k at is out apart =
    let held : x.kept ≡ Some k = ap (λ (y : Row). y.kept) at ∙ is in
    let t = eq-eqb k k refl in
    rw (out, held) (rw t refl)
kept_without n (x ∷ rows) (suc j) r r' k at is out apart =
    by_kept x.kept apart (kept_without (suc n) rows j r r' k at is out (item_apart x.kept n (kept_from (suc n) rows) apart))
  where
    by_kept :
        (o : Option ℕ) → AreApart (keys_of (kept_item o n (kept_from (suc n) rows))) → kept_from (suc n) (set rows j r') ≡ without k (kept_from (suc n) rows) →
        kept_item o n (kept_from (suc n) (set rows j r')) ≡ without k (kept_item o n (kept_from (suc n) rows))
    by_kept None a i = i
    by_kept (Some h) a i =
        let t = differs (suc n) rows k h (suc n + j) a.0 (kept_lookup (suc n) rows (suc n + j) j r k refl at is a.1) in
        rw (t, i) refl

-- ---- what comes next

-- an id that is none as the number is, or stands for that number
abbrev pub Names : List (ℕ × ℕ) → Option ℕ → Option ℕ → Type 0
Names items None b = b ≡ None
Names items (Some k) b = (m : ℕ) × (b ≡ Some m) × (lookup (eqb k) items ≡ Some m)

names_more : (n : ℕ) (rows : List Row) (h m : ℕ) (o b : Option ℕ) → IsApart h (keys_of (kept_from n rows)) → Names (kept_from n rows) o b → Names ((h, m) ∷ kept_from n rows) o b
names_more n rows h m None b a names = names
names_more n rows h m (Some k) b a names =
    let t = differs n rows k h names.0 a names.2 in
    (names.0, names.1, rw t names.2)

pub names_first :
    (lists : List (List (ℕ × Op))) (n : ℕ) (rows : List Row) → AreApart (keys_of (kept_from n rows)) →
    Names (kept_from n rows) (first_id (kept_from n rows)) (first_block_id (blocks_from lists n rows))
names_first lists n [] apart = refl
names_first lists n (x ∷ rows) apart =
    by_kept x.kept (names_first lists (suc n) rows (item_apart x.kept n (kept_from (suc n) rows) apart))
  where
    by_kept :
        (o : Option ℕ) → Names (kept_from (suc n) rows) (first_id (kept_from (suc n) rows)) (first_block_id (blocks_from lists (suc n) rows)) →
        Names (kept_item o n (kept_from (suc n) rows)) (first_id (kept_item o n (kept_from (suc n) rows)))
        (first_block_id (kept_block o (shown n x (get_or lists n [])) (blocks_from lists (suc n) rows)))
    by_kept None i = i
    by_kept (Some h) i = let t = eq-eqb h h refl in (n, refl, rw t refl)

pub names_next :
    (lists : List (List (ℕ × Op))) (n : ℕ) (rows : List Row) (i j : ℕ) (r : Row) (k : ℕ) → i ≡ n + j → IsAt rows j r → r.kept ≡ Some k →
    AreApart (keys_of (kept_from n rows)) → Names (kept_from n rows) (id_after k (kept_from n rows)) (block_id_after i (blocks_from lists n rows))
names_next lists n [] i j r k e at is apart = absurd at
names_next lists n (x ∷ rows) i zero r k e at is apart =
    let held : x.kept ≡ Some k = ap (λ (y : Row). y.kept) at ∙ is in
    by_kept x.kept held apart
  where
    by_kept :
        (o : Option ℕ) → o ≡ Some k → AreApart (keys_of (kept_item o n (kept_from (suc n) rows))) →
        Names (kept_item o n (kept_from (suc n) rows)) (id_after k (kept_item o n (kept_from (suc n) rows)))
        (block_id_after i (kept_block o (shown n x (get_or lists n [])) (blocks_from lists (suc n) rows)))
    by_kept None q a = cc
    by_kept (Some h) q a =
        let same : h ≡ k = cc in
        let t = eq-eqb k h (sym same) in
        let number : n ≡ i = omega (arith, e) in
        let u = eq-eqb n i number in
        rw (t, u) (names_more (suc n) rows h n (first_id (kept_from (suc n) rows)) (first_block_id (blocks_from lists (suc n) rows)) a.0 (names_first lists (suc n) rows a.1))
names_next lists n (x ∷ rows) i (suc j) r k e at is apart =
    by_kept x.kept apart (names_next lists (suc n) rows i j r k (omega (arith, e)) at is (item_apart x.kept n (kept_from (suc n) rows) apart))
  where
    by_kept :
        (o : Option ℕ) → AreApart (keys_of (kept_item o n (kept_from (suc n) rows))) →
        Names (kept_from (suc n) rows) (id_after k (kept_from (suc n) rows)) (block_id_after i (blocks_from lists (suc n) rows)) →
        Names (kept_item o n (kept_from (suc n) rows)) (id_after k (kept_item o n (kept_from (suc n) rows)))
        (block_id_after i (kept_block o (shown n x (get_or lists n [])) (blocks_from lists (suc n) rows)))
    by_kept None a m = m
    by_kept (Some h) a m =
        let t = differs (suc n) rows k h i a.0 (kept_lookup (suc n) rows i j r k (omega (arith, e)) at is a.1) in
        let other : n ≡ i → ⊥ = λ w. absurd (omega (arith, e, w)) in
        let u = ne_eqb n i other in
        rw (t, u) (names_more (suc n) rows h n (id_after k (kept_from (suc n) rows)) (block_id_after i (blocks_from lists (suc n) rows)) a.0 m)

-- ---- the arena of one list

pub one_value : (items : List (ℕ × ℕ)) (k m : ℕ) → lookup (eqb k) items ≡ Some m → lookup (eqb k) (get_or (items ∷ []) (home k (items ∷ [])) []) ≡ Some m
one_value items k m e =
    let here : is_some (lookup (eqb k) items) ≡ true = ap is_some e in
    rw here e
