-- The blocks of rows: what is found among them, and what a write to one row or one list does to them.
use Rattle.std.proofs.Common.{◌≡◌, ◌<◌, ◌+◌, ℕ, zero, suc, Bool, true, false, cond, List, [], ◌∷◌, ◌++◌, length, get_or, set, Option, Some, None, refl, sym, ap, ◌∙◌, subst, arith}
use Rattle.std.specs.Prelude.{map, filter, find, is_some}
use Rattle.std.proofs.lemmas.Bool.{true≢false}
use Rattle.om_graph.specs.declared.op.Op.{Op}
use Rattle.om_graph.specs.declared.parts.Row.{Row}
use Rattle.om_graph.specs.View.{Block}
use Rattle.om_graph.specs.Laid.{shown, kept_block, blocks_from}

-- ---- a row at a place

abbrev pub IsAt : List Row → ℕ → Row → Type 0
IsAt [] j r = ⊥
IsAt (x ∷ rows) zero r = x ≡ r
IsAt (x ∷ rows) (suc j) r = IsAt rows j r

pub at_read : (rows : List Row) (j : ℕ) (d r : Row) → j < length rows → get_or rows j d ≡ r → IsAt rows j r
at_read [] j d r h e = absurd (omega (arith, h))
at_read (x ∷ rows) zero d r h e = e
at_read (x ∷ rows) (suc j) d r h e = at_read rows j d r (omega (arith, h)) e

pub at_bound : (rows : List Row) (j : ℕ) (r : Row) → IsAt rows j r → j < length rows
at_bound [] j r at = absurd at
at_bound (x ∷ rows) zero r at = omega arith
at_bound (x ∷ rows) (suc j) r at = let h = at_bound rows j r at in omega (arith, h)

pub at_get : (rows : List Row) (j : ℕ) (r d : Row) → IsAt rows j r → get_or rows j d ≡ r
at_get [] j r d at = absurd at
at_get (x ∷ rows) zero r d at = at
at_get (x ∷ rows) (suc j) r d at = at_get rows j r d at

pub at_same : (rows : List Row) (j : ℕ) (r : Row) → IsAt rows j r → set rows j r ≡ rows
at_same [] j r at = absurd at
at_same (x ∷ rows) zero r at = ap (λ (y : Row). y ∷ rows) (sym at)
at_same (x ∷ rows) (suc j) r at = ap (λ (l : List Row). x ∷ l) (at_same rows j r at)

-- ---- what passes a test

pub record Found (p : Block → Bool) (lists : List (List (ℕ × Op))) (n : ℕ) (rows : List Row) : Type 0 where
  pub place : ℕ
  pub number : ℕ
  pub row : Row
  pub key : ℕ
  pub is_number : number ≡ n + place
  pub is_at : IsAt rows place row
  pub kept : row.kept ≡ Some key
  pub passes : p (shown number row (get_or lists number [])) ≡ true

later : (p : Block → Bool) (lists : List (List (ℕ × Op))) (n : ℕ) (x : Row) (rows : List Row) → Found p lists (suc n) rows → Found p lists n (x ∷ rows)
later p lists n x rows f = record {
  place = suc f.place;
  number = f.number;
  row = f.row;
  key = f.key;
  is_number = omega (arith, f.is_number);
  is_at = f.is_at;
  kept = f.kept;
  passes = f.passes;
}

pub found : (p : Block → Bool) (lists : List (List (ℕ × Op))) (n : ℕ) (rows : List Row) → is_some (find p (blocks_from lists n rows)) ≡ true → Found p lists n rows
found p lists n [] e = absurd (true≢false (sym e))
found p lists n (x ∷ rows) e = by_kept x.kept refl e (found p lists (suc n) rows)
  where
    by_test :
        (k : ℕ) → x.kept ≡ Some k → (v : Bool) → p (shown n x (get_or lists n [])) ≡ v →
        is_some (cond v (Some (shown n x (get_or lists n []))) (find p (blocks_from lists (suc n) rows))) ≡ true →
        (is_some (find p (blocks_from lists (suc n) rows)) ≡ true → Found p lists (suc n) rows) → Found p lists n (x ∷ rows)
    by_test k q true t e i = record {
      place = 0;
      number = n;
      row = x;
      key = k;
      is_number = omega arith;
      is_at = refl;
      kept = q;
      passes = t;
    }
    by_test k q false t e i = later p lists n x rows (i e)

    by_kept :
        (o : Option ℕ) → x.kept ≡ o →
        is_some (find p (kept_block o (shown n x (get_or lists n [])) (blocks_from lists (suc n) rows))) ≡ true →
        (is_some (find p (blocks_from lists (suc n) rows)) ≡ true → Found p lists (suc n) rows) → Found p lists n (x ∷ rows)
    by_kept None q e i = later p lists n x rows (i e)
    by_kept (Some k) q e i = by_test k q (p (shown n x (get_or lists n []))) refl e i

pub find_none :
    (p : Block → Bool) (lists : List (List (ℕ × Op))) (n : ℕ) (rows : List Row) →
    ((m j : ℕ) (x : Row) → m ≡ n + j → IsAt rows j x → p (shown m x (get_or lists m [])) ≡ false) → find p (blocks_from lists n rows) ≡ None
find_none p lists n [] fails = refl
find_none p lists n (x ∷ rows) fails = by_kept x.kept (fails n 0 x (omega arith) refl) (find_none p lists (suc n) rows (λ m j y e at. fails m (suc j) y (omega (arith, e)) at))
  where
    by_kept :
        (o : Option ℕ) → p (shown n x (get_or lists n [])) ≡ false → find p (blocks_from lists (suc n) rows) ≡ None →
        find p (kept_block o (shown n x (get_or lists n [])) (blocks_from lists (suc n) rows)) ≡ None
    by_kept None f i = i
    by_kept (Some k) f i = rw f i

abbrev pub kept_one : Option ℕ → Block → Option Block
kept_one None b = None
kept_one (Some k) b = Some b

find_first : (p : Block → Bool) (o : Option ℕ) (b : Block) (bs : List Block) → p b ≡ true → find p bs ≡ None → find p (kept_block o b bs) ≡ kept_one o b
find_first p None b bs t n = n
find_first p (Some k) b bs t n = rw t refl

find_later : (p : Block → Bool) (o : Option ℕ) (b : Block) (bs : List Block) (r : Option Block) → p b ≡ false → find p bs ≡ r → find p (kept_block o b bs) ≡ r
find_later p None b bs r f e = e
find_later p (Some k) b bs r f e = rw f e

-- where only one row's block passes
pub find_only :
    (p : Block → Bool) (lists : List (List (ℕ × Op))) (n : ℕ) (rows : List Row) (i j : ℕ) (r : Row) → i ≡ n + j → IsAt rows j r →
    ((m k : ℕ) (x : Row) → m ≡ n + k → IsAt rows k x → (m ≡ i → ⊥) → p (shown m x (get_or lists m [])) ≡ false) →
    p (shown i r (get_or lists i [])) ≡ true → find p (blocks_from lists n rows) ≡ kept_one r.kept (shown i r (get_or lists i []))
find_only p lists n [] i j r e at fails passes = absurd at
find_only p lists n (x ∷ rows) i zero r e at fails passes =
    let same : i ≡ n = omega (arith, e) in
    let rest : find p (blocks_from lists (suc n) rows) ≡ None =
    find_none p lists (suc n) rows (λ m k y f g. fails m (suc k) y (omega (arith, f)) g (λ h. absurd (omega (arith, f, h, same)))) in
    subst (λ (q : ℕ). find p (kept_block x.kept (shown q x (get_or lists q [])) (blocks_from lists (suc n) rows)) ≡ kept_one r.kept (shown i r (get_or lists i []))) same
    (subst (λ (y : Row). find p (kept_block y.kept (shown i y (get_or lists i [])) (blocks_from lists (suc n) rows)) ≡ kept_one r.kept (shown i r (get_or lists i []))) (sym at)
    (find_first p r.kept (shown i r (get_or lists i [])) (blocks_from lists (suc n) rows) passes rest))
find_only p lists n (x ∷ rows) i (suc j) r e at fails passes =
    find_later p x.kept (shown n x (get_or lists n [])) (blocks_from lists (suc n) rows) (kept_one r.kept (shown i r (get_or lists i [])))
    (fails n 0 x (omega arith) refl (λ h. absurd (omega (arith, e, h))))
    (find_only p lists (suc n) rows i j r (omega (arith, e)) at (λ m k y f g h. fails m (suc k) y (omega (arith, f)) g h) passes)

-- ---- edits

map_kept :
    (f : Block → Block) (o o' : Option ℕ) (b b' : Block) (bs bs' : List Block) → o' ≡ o → f b ≡ b' → map f bs ≡ bs' →
    map f (kept_block o b bs) ≡ kept_block o' b' bs'
map_kept f o o' b b' bs bs' e x xs = subst (λ (k : Option ℕ). map f (kept_block o b bs) ≡ kept_block k b' bs') (sym e) (by_kept o)
  where
    by_kept : (k : Option ℕ) → map f (kept_block k b bs) ≡ kept_block k b' bs'
    by_kept None = xs
    by_kept (Some k) = rw (x, xs) refl

pub map_all :
    (f : Block → Block) (lists lists' : List (List (ℕ × Op))) (n : ℕ) (rows : List Row) →
    ((m j : ℕ) (x : Row) → m ≡ n + j → IsAt rows j x → f (shown m x (get_or lists m [])) ≡ shown m x (get_or lists' m [])) →
    map f (blocks_from lists n rows) ≡ blocks_from lists' n rows
map_all f lists lists' n [] same = refl
map_all f lists lists' n (x ∷ rows) same =
    map_kept f x.kept x.kept (shown n x (get_or lists n [])) (shown n x (get_or lists' n [])) (blocks_from lists (suc n) rows) (blocks_from lists' (suc n) rows)
    refl (same n 0 x (omega arith) refl)
    (map_all f lists lists' (suc n) rows (λ m j y e at. same m (suc j) y (omega (arith, e)) at))

-- an edit of one row's block, by a write to that row and to its list
pub map_only :
    (f : Block → Block) (lists lists' : List (List (ℕ × Op))) (n : ℕ) (rows : List Row) (i j : ℕ) (r r' : Row) → i ≡ n + j → IsAt rows j r →
    r'.kept ≡ r.kept →
    ((m k : ℕ) (x : Row) → m ≡ n + k → IsAt rows k x → (m ≡ i → ⊥) → f (shown m x (get_or lists m [])) ≡ shown m x (get_or lists' m [])) →
    f (shown i r (get_or lists i [])) ≡ shown i r' (get_or lists' i []) → map f (blocks_from lists n rows) ≡ blocks_from lists' n (set rows j r')
map_only f lists lists' n [] i j r r' e at same others here = absurd at
map_only f lists lists' n (x ∷ rows) i zero r r' e at same others here =
    let number : i ≡ n = omega (arith, e) in
    let rest : map f (blocks_from lists (suc n) rows) ≡ blocks_from lists' (suc n) rows =
    map_all f lists lists' (suc n) rows (λ m k y g h. others m (suc k) y (omega (arith, g)) h (λ w. absurd (omega (arith, g, w, number)))) in
    subst (λ (q : ℕ). map f (kept_block x.kept (shown q x (get_or lists q [])) (blocks_from lists (suc n) rows)) ≡ kept_block r'.kept (shown q r' (get_or lists' q [])) (blocks_from lists' (suc n) rows)) number
    (subst (λ (y : Row). map f (kept_block y.kept (shown i y (get_or lists i [])) (blocks_from lists (suc n) rows)) ≡ kept_block r'.kept (shown i r' (get_or lists' i [])) (blocks_from lists' (suc n) rows)) (sym at)
    (map_kept f r.kept r'.kept (shown i r (get_or lists i [])) (shown i r' (get_or lists' i [])) (blocks_from lists (suc n) rows) (blocks_from lists' (suc n) rows) same here rest))
map_only f lists lists' n (x ∷ rows) i (suc j) r r' e at same others here =
    map_kept f x.kept x.kept (shown n x (get_or lists n [])) (shown n x (get_or lists' n [])) (blocks_from lists (suc n) rows) (blocks_from lists' (suc n) (set rows j r'))
    refl (others n 0 x (omega arith) refl (λ h. absurd (omega (arith, e, h))))
    (map_only f lists lists' (suc n) rows i j r r' (omega (arith, e)) at same (λ m k y g h w. others m (suc k) y (omega (arith, g)) h w) here)

filter_kept :
    (t : Block → Bool) (o : Option ℕ) (b : Block) (bs bs' : List Block) → t b ≡ true → filter t bs ≡ bs' →
    filter t (kept_block o b bs) ≡ kept_block o b bs'
filter_kept t None b bs bs' y e = e
filter_kept t (Some k) b bs bs' y e = rw (y, e) refl

pub filter_all :
    (t : Block → Bool) (lists : List (List (ℕ × Op))) (n : ℕ) (rows : List Row) →
    ((m j : ℕ) (x : Row) → m ≡ n + j → IsAt rows j x → t (shown m x (get_or lists m [])) ≡ true) → filter t (blocks_from lists n rows) ≡ blocks_from lists n rows
filter_all t lists n [] passes = refl
filter_all t lists n (x ∷ rows) passes =
    filter_kept t x.kept (shown n x (get_or lists n [])) (blocks_from lists (suc n) rows) (blocks_from lists (suc n) rows)
    (passes n 0 x (omega arith) refl) (filter_all t lists (suc n) rows (λ m j y e at. passes m (suc j) y (omega (arith, e)) at))

filter_out : (t : Block → Bool) (o : Option ℕ) (b : Block) (bs : List Block) → t b ≡ false → filter t (kept_block o b bs) ≡ filter t bs
filter_out t None b bs f = refl
filter_out t (Some k) b bs f = rw f refl

-- one row's block taken out, by a write to that row
pub filter_only :
    (t : Block → Bool) (lists : List (List (ℕ × Op))) (n : ℕ) (rows : List Row) (i j : ℕ) (r r' : Row) → i ≡ n + j → IsAt rows j r →
    r'.kept ≡ None →
    ((m k : ℕ) (x : Row) → m ≡ n + k → IsAt rows k x → (m ≡ i → ⊥) → t (shown m x (get_or lists m [])) ≡ true) →
    ((x : Row) (items : List (ℕ × Op)) → t (shown i x items) ≡ false) → filter t (blocks_from lists n rows) ≡ blocks_from lists n (set rows j r')
filter_only t lists n [] i j r r' e at out others here = absurd at
filter_only t lists n (x ∷ rows) i zero r r' e at out others here =
    let number : i ≡ n = omega (arith, e) in
    let fails : t (shown n x (get_or lists n [])) ≡ false = subst (λ (q : ℕ). t (shown q x (get_or lists n [])) ≡ false) number (here x (get_or lists n [])) in
    let rest : filter t (blocks_from lists (suc n) rows) ≡ blocks_from lists (suc n) rows =
    filter_all t lists (suc n) rows (λ m k y g h. others m (suc k) y (omega (arith, g)) h (λ w. absurd (omega (arith, g, w, number)))) in
    filter_out t x.kept (shown n x (get_or lists n [])) (blocks_from lists (suc n) rows) fails ∙ rest
    ∙ ap (λ (o : Option ℕ). kept_block o (shown n r' (get_or lists n [])) (blocks_from lists (suc n) rows)) (sym out)
filter_only t lists n (x ∷ rows) i (suc j) r r' e at out others here =
    filter_kept t x.kept (shown n x (get_or lists n [])) (blocks_from lists (suc n) rows) (blocks_from lists (suc n) (set rows j r'))
    (others n 0 x (omega arith) refl (λ h. absurd (omega (arith, e, h))))
    (filter_only t lists (suc n) rows i j r r' (omega (arith, e)) at out (λ m k y g h w. others m (suc k) y (omega (arith, g)) h w) here)

-- ---- a row behind the others

kept_append : (o : Option ℕ) (b : Block) (bs cs : List Block) → kept_block o b (bs ++ cs) ≡ kept_block o b bs ++ cs
kept_append None b bs cs = refl
kept_append (Some k) b bs cs = refl

pub blocks_added :
    (lists : List (List (ℕ × Op))) (n : ℕ) (rows : List Row) (i : ℕ) (r : Row) → i ≡ n + length rows →
    blocks_from lists n (rows ++ r ∷ []) ≡ blocks_from lists n rows ++ kept_block r.kept (shown i r (get_or lists i [])) []
blocks_added lists n [] i r e = let same : n ≡ i = omega (arith, e) in ap (λ (m : ℕ). kept_block r.kept (shown m r (get_or lists m [])) []) same
blocks_added lists n (x ∷ rows) i r e =
    ap (λ (bs : List Block). kept_block x.kept (shown n x (get_or lists n [])) bs) (blocks_added lists (suc n) rows i r (omega (arith, e)))
    ∙ kept_append x.kept (shown n x (get_or lists n [])) (blocks_from lists (suc n) rows) (kept_block r.kept (shown i r (get_or lists i [])) [])

-- the blocks are those of the lists' items
pub blocks_same :
    (lists lists' : List (List (ℕ × Op))) (n : ℕ) (rows : List Row) → ((m : ℕ) → get_or lists m [] ≡ get_or lists' m []) →
    blocks_from lists n rows ≡ blocks_from lists' n rows
blocks_same lists lists' n [] same = refl
blocks_same lists lists' n (x ∷ rows) same =
    let here = same n in
    let rest = blocks_same lists lists' (suc n) rows same in
    ap (λ (l : List (ℕ × Op)). kept_block x.kept (shown n x l) (blocks_from lists (suc n) rows)) here
    ∙ ap (λ (bs : List Block). kept_block x.kept (shown n x (get_or lists' n [])) bs) rest
