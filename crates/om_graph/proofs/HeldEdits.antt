-- What every graph keeps, the edits keep.
use Rattle.std.proofs.Common.{◌≡◌, ◌⊎◌, inl, inr, ◌<◌, ◌≤◌, ◌+◌, ◌==◌, ℕ, zero, suc, Bool, true, false, cond, List, [], ◌∷◌, ◌++◌, length, Option, Some, None, refl, sym, ap, ◌∙◌, subst, arith}
use Rattle.std.specs.Prelude.{map, filter, find, not, is_some, slice_set, nat_lt, ◌^◌}
use Rattle.std.proofs.lemmas.Bool.{true≢false, eqb-true, eq-eqb, lt-ltb, cases_lt}
use Rattle.om_value.specs.declared.value.Place.{Place}
use Rattle.om_value.specs.Same.{place_eq}
use Rattle.om_graph.specs.declared.op.OpKind.{OpKind}
use Rattle.om_graph.specs.declared.op.Last.{Last}
use Rattle.om_graph.specs.View.{Node, Block, GraphView, Has, InPlaceOrder, place_lt, touch, touch_block, is_block, is_node, holds_node, block_of, block_with, is_live_block, is_live_op, numbers_from, made, new_block, block_added, op_added_in, op_added, IsAfter, kind_set, replace_in, delete_in, last_in, replaced, deleted, last_set, dropped, table_set, cleared}
use Rattle.om_graph.specs.Held.{Apart, label_list, block_ids, node_ids, op_ids, IsGraph}
use Rattle.om_graph.proofs.Labels.{lt_cases, has_append, append_left, append_right, has_label}

-- ---- order

pub lt_in : (p q : Place) → p.obj ≡ q.obj → p.off < q.off → place_lt p q ≡ true
lt_in p q o l = rw (eq-eqb p.obj q.obj o) (lt-ltb p.off q.off l)

pub lt_out : (p q : Place) → p.obj < q.obj → place_lt p q ≡ true
lt_out p q l = by_obj (p.obj == q.obj) refl
  where
    by_obj : (b : Bool) → (p.obj == q.obj) ≡ b → cond b (nat_lt p.off q.off) (nat_lt p.obj q.obj) ≡ true
    by_obj true e = let o = eqb-true p.obj q.obj e in absurd (omega (arith, o, l))
    by_obj false e = lt-ltb p.obj q.obj l

pub lt_trans : (p q r : Place) → place_lt p q ≡ true → place_lt q r ≡ true → place_lt p r ≡ true
lt_trans p q r a b = by_cases (lt_cases p q a) (lt_cases q r b)
  where
    by_cases : ((p.obj ≡ q.obj) × (p.off < q.off)) ⊎ (p.obj < q.obj) → ((q.obj ≡ r.obj) × (q.off < r.off)) ⊎ (q.obj < r.obj) → place_lt p r ≡ true
    by_cases (inl x) (inl y) = let x1 = x.1 in let y1 = y.1 in lt_in p r (x.0 ∙ y.0) (omega (arith, x1, y1))
    by_cases (inl x) (inr y) = let x0 = x.0 in lt_out p r (omega (arith, x0, y))
    by_cases (inr x) (inl y) = let y0 = y.0 in lt_out p r (omega (arith, x, y0))
    by_cases (inr x) (inr y) = lt_out p r (omega (arith, x, y))

-- one of two different places is before the other
pub lt_other : (p q : Place) → place_eq p q ≡ false → place_lt p q ≡ false → place_lt q p ≡ true
lt_other p q e l = by_obj (cases_lt p.obj q.obj)
  where
    by_off : p.obj ≡ q.obj → (p.off < q.off) ⊎ (q.off ≤ p.off) → place_lt q p ≡ true
    by_off o (inl x) = absurd (true≢false (sym (lt_in p q o x) ∙ l))
    by_off o (inr x) = by_eq (cases_lt q.off p.off)
      where
        by_eq : (q.off < p.off) ⊎ (p.off ≤ q.off) → place_lt q p ≡ true
        by_eq (inl y) = lt_in q p (sym o) y
        by_eq (inr y) =
            let same : p.off ≡ q.off = omega (arith, x, y) in
            let s : place_eq p q ≡ true = rw (eq-eqb p.obj q.obj o, eq-eqb p.off q.off same) refl in
            absurd (true≢false (sym s ∙ e))

    by_obj : (p.obj < q.obj) ⊎ (q.obj ≤ p.obj) → place_lt q p ≡ true
    by_obj (inl x) = absurd (true≢false (sym (lt_out p q x) ∙ l))
    by_obj (inr x) = by_eq (cases_lt q.obj p.obj)
      where
        by_eq : (q.obj < p.obj) ⊎ (p.obj ≤ q.obj) → place_lt q p ≡ true
        by_eq (inl y) = lt_out q p y
        by_eq (inr y) = by_off (omega (arith, x, y)) (cases_lt p.off q.off)

touch_has : (p : Place) (ls : List Place) (q : Place) → Has (touch p ls) q → (p ≡ q) ⊎ Has ls q
touch_has p [] q (inl e) = inl e
touch_has p [] q (inr h) = absurd h
touch_has p (l ∷ ls) q h = by_eq (place_eq p l) (place_lt p l) h (touch_has p ls q)
  where
    by_eq : (a b : Bool) → Has (cond a (l ∷ ls) (cond b (p ∷ l ∷ ls) (l ∷ touch p ls))) q → (Has (touch p ls) q → (p ≡ q) ⊎ Has ls q) → (p ≡ q) ⊎ Has (l ∷ ls) q
    by_eq true b h i = inr h
    by_eq false true (inl e) i = inl e
    by_eq false true (inr h) i = inr h
    by_eq false false (inl e) i = inr (inl e)
    by_eq false false (inr h) i = by_rest (i h)
      where
        by_rest : (p ≡ q) ⊎ Has ls q → (p ≡ q) ⊎ Has (l ∷ ls) q
        by_rest (inl e) = inl e
        by_rest (inr m) = inr (inr m)

touch_order : (p : Place) (ls : List Place) → InPlaceOrder ls → InPlaceOrder (touch p ls)
touch_order p [] o = (λ q h. absurd h, tt)
touch_order p (l ∷ ls) o = by_eq (place_eq p l) refl (place_lt p l) refl (touch_order p ls o.1)
  where
    first : place_lt p l ≡ true → (q : Place) → Has (l ∷ ls) q → place_lt p q ≡ true
    first b q (inl e) = subst (λ (x : Place). place_lt p x ≡ true) e b
    first b q (inr h) = lt_trans p l q b (o.0 q h)

    later : place_eq p l ≡ false → place_lt p l ≡ false → (q : Place) → Has (touch p ls) q → place_lt l q ≡ true
    later a b q h = by_rest (touch_has p ls q h)
      where
        by_rest : (p ≡ q) ⊎ Has ls q → place_lt l q ≡ true
        by_rest (inl e) = subst (λ (x : Place). place_lt l x ≡ true) e (lt_other p l a b)
        by_rest (inr m) = o.0 q m

    by_eq :
        (a : Bool) → place_eq p l ≡ a → (b : Bool) → place_lt p l ≡ b → InPlaceOrder (touch p ls) →
        InPlaceOrder (cond a (l ∷ ls) (cond b (p ∷ l ∷ ls) (l ∷ touch p ls)))
    by_eq true x b y i = o
    by_eq false x true y i = (first y, o)
    by_eq false x false y i = (later x y, i)

order_snoc : (ls : List Place) (p : Place) → InPlaceOrder ls → IsAfter ls p → InPlaceOrder (ls ++ p ∷ [])
order_snoc [] p o a = (λ q h. absurd h, tt)
order_snoc (l ∷ ls) p o a = (first, order_snoc ls p o.1 (λ q h. a q (inr h)))
  where
    first : (q : Place) → Has (ls ++ p ∷ []) q → place_lt l q ≡ true
    first q h = by_case (has_append ls (p ∷ []) q h)
      where
        by_case : Has ls q ⊎ Has (p ∷ []) q → place_lt l q ≡ true
        by_case (inl m) = o.0 q m
        by_case (inr (inl e)) = subst (λ (x : Place). place_lt l x ≡ true) e (a l (inl refl))
        by_case (inr (inr m)) = absurd m

-- ---- parts of lists

-- each of these is one of those, in order
data Part {A : Type 0} : List A → List A → Type 0 where
  none : Part [] []
  keep : {xs ys : List A} (x : A) → Part xs ys → Part (x ∷ xs) (x ∷ ys)
  drop : {xs ys : List A} (y : A) → Part xs ys → Part xs (y ∷ ys)

part_has : {A : Type 0} (xs ys : List A) → Part xs ys → (x : A) → Has xs x → Has ys x
part_has _ _ none x h = absurd h
part_has _ _ (keep {xs} {ys} y p) x (inl e) = inl e
part_has _ _ (keep {xs} {ys} y p) x (inr h) = inr (part_has xs ys p x h)
part_has xs _ (drop {ys = ys} y p) x h = inr (part_has xs ys p x h)

part_order : (xs ys : List Place) → Part xs ys → InPlaceOrder ys → InPlaceOrder xs
part_order _ _ none o = tt
part_order _ _ (keep {xs} {ys} y p) o = (λ q h. o.0 q (part_has xs ys p q h), part_order xs ys p o.1)
part_order xs _ (drop {ys = ys} y p) o = part_order xs ys p o.1

part_apart : (xs ys : List ℕ) → Part xs ys → Apart ys → Apart xs
part_apart _ _ none a = tt
part_apart _ _ (keep {xs} {ys} y p) a = (λ h. a.0 (part_has xs ys p y h), part_apart xs ys p a.1)
part_apart xs _ (drop {ys = ys} y p) a = part_apart xs ys p a.1

part_itself : {A : Type 0} (xs : List A) → Part xs xs
part_itself [] = none
part_itself (x ∷ xs) = keep x (part_itself xs)

part_append : {A : Type 0} (xs ys us vs : List A) → Part xs ys → Part us vs → Part (xs ++ us) (ys ++ vs)
part_append _ _ us vs none q = q
part_append _ _ us vs (keep {xs} {ys} y p) q = keep y (part_append xs ys us vs p q)
part_append xs _ us vs (drop {ys = ys} y p) q = drop y (part_append xs ys us vs p q)

part_map : {A B : Type 0} (f : A → B) (xs ys : List A) → Part xs ys → Part (map f xs) (map f ys)
part_map f _ _ none = none
part_map f _ _ (keep {xs} {ys} y p) = keep (f y) (part_map f xs ys p)
part_map f xs _ (drop {ys = ys} y p) = drop (f y) (part_map f xs ys p)

part_filter : {A : Type 0} (t : A → Bool) (xs : List A) → Part (filter t xs) xs
part_filter t [] = none
part_filter t (x ∷ xs) = by_test (t x) (part_filter t xs)
  where
    by_test : (b : Bool) → Part (filter t xs) xs → Part (cond b (x ∷ filter t xs) (filter t xs)) (x ∷ xs)
    by_test true p = keep x p
    by_test false p = drop x p

part_none : {A : Type 0} (xs : List A) → Part [] xs
part_none [] = none
part_none (x ∷ xs) = drop x (part_none xs)

same_part : {A : Type 0} (xs ys : List A) → xs ≡ ys → Part xs ys
same_part {A = A} xs ys e = subst (λ (l : List A). Part xs l) e (part_itself xs)

find_has : (t : Block → Bool) (bs : List Block) (b : Block) → find t bs ≡ Some b → Has bs b
find_has t [] b e = cc
find_has t (x ∷ bs) b e = by_test (t x) e (find_has t bs b)
  where
    by_test : (v : Bool) → cond v (Some x) (find t bs) ≡ Some b → (find t bs ≡ Some b → Has bs b) → Has (x ∷ bs) b
    by_test true e i = inl (cc)
    by_test false e i = inr (i e)

-- ---- edits that bring nothing in

edited :
    (g : GraphView) (bs : List Block) (o : Option Block) → IsGraph g → Part (label_list bs) (label_list g.blocks) →
    Part (block_ids bs) (block_ids g.blocks) → Part (op_ids bs) (op_ids g.blocks) → ((b : Block) → o ≡ Some b → Has g.blocks b) →
    IsGraph (record g { blocks = bs; touched = touch_block o g.touched })
edited g bs o graph ls is os found = record {
  objects = graph.objects;
  tables = graph.tables;
  roots = graph.roots;
  labels = graph.labels;
  blocks = part_order _ _ ls graph.blocks;
  among = λ q h. graph.among q (part_has _ _ ls q h);
  marks = in_order o;
  touched = marked o found;
  block_ids = part_apart _ _ is graph.block_ids;
  op_ids = part_apart _ _ os graph.op_ids;
}
  where
    in_order : (o : Option Block) → InPlaceOrder (touch_block o g.touched)
    in_order None = graph.marks
    in_order (Some b) = touch_order b.label g.touched graph.marks

    marked : (o : Option Block) → ((b : Block) → o ≡ Some b → Has g.blocks b) → (q : Place) → Has (touch_block o g.touched) q → Has g.labels q
    marked None f q h = graph.touched q h
    marked (Some b) f q h = by_case (touch_has b.label g.touched q h)
      where
        by_case : (b.label ≡ q) ⊎ Has g.touched q → Has g.labels q
        by_case (inl e) = subst (λ (x : Place). Has g.labels x) e (graph.among b.label (has_label g.blocks b (f b refl)))
        by_case (inr m) = graph.touched q m

labels_map : (f : Block → Block) (bs : List Block) → ((b : Block) → (f b).label ≡ b.label) → label_list (map f bs) ≡ label_list bs
labels_map f [] e = refl
labels_map f (b ∷ bs) e = let x = e b in let r = labels_map f bs e in rw (x, r) refl

ids_map : (f : Block → Block) (bs : List Block) → ((b : Block) → (f b).id ≡ b.id) → block_ids (map f bs) ≡ block_ids bs
ids_map f [] e = refl
ids_map f (b ∷ bs) e = let x = e b in let r = ids_map f bs e in rw (x, r) refl

ops_map : (f : Block → Block) (bs : List Block) → ((b : Block) → Part (node_ids (f b).ops) (node_ids b.ops)) → Part (op_ids (map f bs)) (op_ids bs)
ops_map f [] e = none
ops_map f (b ∷ bs) e = part_append (node_ids (f b).ops) (node_ids b.ops) (op_ids (map f bs)) (op_ids bs) (e b) (ops_map f bs e)

ops_filter : (t : Block → Bool) (bs : List Block) → Part (op_ids (filter t bs)) (op_ids bs)
ops_filter t [] = none
ops_filter t (b ∷ bs) = by_test (t b) (ops_filter t bs)
  where
    by_test : (v : Bool) → Part (op_ids (filter t bs)) (op_ids bs) → Part (op_ids (cond v (b ∷ filter t bs) (filter t bs))) (op_ids (b ∷ bs))
    by_test true p = part_append (node_ids b.ops) (node_ids b.ops) (op_ids (filter t bs)) (op_ids bs) (part_itself (node_ids b.ops)) p
    by_test false p = part_append [] (node_ids b.ops) (op_ids (filter t bs)) (op_ids bs) (part_none (node_ids b.ops)) p

kind_ids : (id : ℕ) (kind : OpKind) (ns : List Node) → node_ids (map (kind_set id kind) ns) ≡ node_ids ns
kind_ids id kind [] = refl
kind_ids id kind (n ∷ ns) = by_id (n.id == id) (kind_ids id kind ns)
  where
    by_id :
        (b : Bool) → node_ids (map (kind_set id kind) ns) ≡ node_ids ns →
        node_ids (cond b (record n { op = record (n.op) { kind = kind } }) n ∷ map (kind_set id kind) ns) ≡ n.id ∷ node_ids ns
    by_id true i = ap (λ (l : List ℕ). n.id ∷ l) i
    by_id false i = ap (λ (l : List ℕ). n.id ∷ l) i

last_keeps : (id : ℕ) (last : Last) (b : Block) → ((last_in id last b).label ≡ b.label) × ((last_in id last b).id ≡ b.id) × (node_ids (last_in id last b).ops ≡ node_ids b.ops)
last_keeps id last b = by_id (b.id == id)
  where
    by_id : (v : Bool) → ((cond v (record b { last = last }) b).label ≡ b.label) × ((cond v (record b { last = last }) b).id ≡ b.id) × (node_ids (cond v (record b { last = last }) b).ops ≡ node_ids b.ops)
    by_id true = (refl, refl, refl)
    by_id false = (refl, refl, refl)

pub replaced_held : (g : GraphView) (id : ℕ) (kind : OpKind) → IsGraph g → IsGraph (replaced g id kind)
replaced_held g id kind graph =
    edited g (map (replace_in id kind) g.blocks) (block_with g id) graph
    (same_part _ _ (labels_map (replace_in id kind) g.blocks (λ b. refl))) (same_part _ _ (ids_map (replace_in id kind) g.blocks (λ b. refl)))
    (ops_map (replace_in id kind) g.blocks (λ b. same_part _ _ (kind_ids id kind b.ops))) (find_has (holds_node id) g.blocks)

pub deleted_held : (g : GraphView) (id : ℕ) → IsGraph g → IsGraph (deleted g id)
deleted_held g id graph =
    edited g (map (delete_in id) g.blocks) (block_with g id) graph
    (same_part _ _ (labels_map (delete_in id) g.blocks (λ b. refl))) (same_part _ _ (ids_map (delete_in id) g.blocks (λ b. refl)))
    (ops_map (delete_in id) g.blocks (λ b. part_map (λ n. n.id) _ _ (part_filter (λ n. not (is_node id n)) b.ops))) (find_has (holds_node id) g.blocks)

pub last_set_held : (g : GraphView) (id : ℕ) (last : Last) → IsGraph g → IsGraph (last_set g id last)
last_set_held g id last graph =
    edited g (map (last_in id last) g.blocks) (block_of g id) graph
    (same_part _ _ (labels_map (last_in id last) g.blocks (λ b. (last_keeps id last b).0))) (same_part _ _ (ids_map (last_in id last) g.blocks (λ b. (last_keeps id last b).1)))
    (ops_map (last_in id last) g.blocks (λ b. same_part _ _ (last_keeps id last b).2)) (find_has (is_block id) g.blocks)

pub dropped_held : (g : GraphView) (id : ℕ) → IsGraph g → IsGraph (dropped g id)
dropped_held g id graph =
    edited g (filter (λ b. not (is_block id b)) g.blocks) (block_of g id) graph
    (part_map (λ b. b.label) _ _ (part_filter (λ b. not (is_block id b)) g.blocks)) (part_map (λ b. b.id) _ _ (part_filter (λ b. not (is_block id b)) g.blocks))
    (ops_filter (λ b. not (is_block id b)) g.blocks) (find_has (is_block id) g.blocks)

set_length : (xs : List ℕ) (k x : ℕ) → length (slice_set xs k x) ≡ length xs
set_length [] k x = refl
set_length (y ∷ xs) zero x = refl
set_length (y ∷ xs) (suc k) x = ap (λ (n : ℕ). suc n) (set_length xs k x)

pub table_set_held : (g : GraphView) (obj table : ℕ) → IsGraph g → IsGraph (table_set g obj table)
table_set_held g obj table graph = record {
  objects = graph.objects;
  tables = set_length g.tables obj table ∙ graph.tables;
  roots = graph.roots;
  labels = graph.labels;
  blocks = graph.blocks;
  among = graph.among;
  marks = graph.marks;
  touched = graph.touched;
  block_ids = graph.block_ids;
  op_ids = graph.op_ids;
}

pub cleared_held : (g : GraphView) → IsGraph g → IsGraph (cleared g)
cleared_held g graph = record {
  objects = graph.objects;
  tables = graph.tables;
  roots = graph.roots;
  labels = graph.labels;
  blocks = graph.blocks;
  among = graph.among;
  marks = tt;
  touched = λ q h. absurd h;
  block_ids = graph.block_ids;
  op_ids = graph.op_ids;
}

-- ---- calls that make a graph

numbers_length : (k n : ℕ) → length (numbers_from k n) ≡ n
numbers_length k zero = refl
numbers_length k (suc n) = ap (λ (m : ℕ). suc m) (numbers_length (k + 1) n)

pub made_held : (counts : List ℕ) (roots : List Place) → length counts < 2 ^ 32 → (roots ≡ [] → ⊥) → IsGraph (made counts roots)
made_held counts roots few some = record {
  objects = few;
  tables = numbers_length 0 (length counts);
  roots = some;
  labels = tt;
  blocks = tt;
  among = λ q h. absurd h;
  marks = tt;
  touched = λ q h. absurd h;
  block_ids = tt;
  op_ids = tt;
}

map_snoc : {A B : Type 0} (f : A → B) (xs : List A) (x : A) → map f (xs ++ x ∷ []) ≡ map f xs ++ f x ∷ []
map_snoc f [] x = refl
map_snoc {B = B} f (y ∷ xs) x = ap (λ (l : List B). f y ∷ l) (map_snoc f xs x)

apart_snoc : (xs : List ℕ) (x : ℕ) → Apart xs → (Has xs x → ⊥) → Apart (xs ++ x ∷ [])
apart_snoc [] x a n = (λ h. h, tt)
apart_snoc (y ∷ xs) x a n = (other, apart_snoc xs x a.1 (λ h. n (inr h)))
  where
    other : Has (xs ++ x ∷ []) y → ⊥
    other h = by_case (has_append xs (x ∷ []) y h)
      where
        by_case : Has xs y ⊎ Has (x ∷ []) y → ⊥
        by_case (inl m) = a.0 m
        by_case (inr (inl e)) = n (inl (sym e))
        by_case (inr (inr m)) = m

no_block : (id : ℕ) (bs : List Block) → is_some (find (is_block id) bs) ≡ false → Has (block_ids bs) id → ⊥
no_block id [] e h = h
no_block id (b ∷ bs) e h = by_id (b.id == id) refl e h (no_block id bs)
  where
    by_id :
        (v : Bool) → (b.id == id) ≡ v → is_some (cond v (Some b) (find (is_block id) bs)) ≡ false → (b.id ≡ id) ⊎ Has (block_ids bs) id →
        (is_some (find (is_block id) bs) ≡ false → Has (block_ids bs) id → ⊥) → ⊥
    by_id true x e h i = true≢false e
    by_id false x e (inl y) i = true≢false (sym (eq-eqb b.id id y) ∙ x)
    by_id false x e (inr m) i = i e m

ops_snoc : (bs : List Block) (id : ℕ) (label : Place) (opening : Bool) → op_ids (bs ++ new_block id label opening ∷ []) ≡ op_ids bs
ops_snoc [] id label opening = refl
ops_snoc (b ∷ bs) id label opening = ap (λ (l : List ℕ). node_ids b.ops ++ l) (ops_snoc bs id label opening)

pub block_added_held : (g : GraphView) (id : ℕ) (label : Place) (opening : Bool) → IsGraph g → IsAfter g.labels label → is_live_block g id ≡ false → IsGraph (block_added g id label opening)
block_added_held g id label opening graph after fresh = record {
  objects = graph.objects;
  tables = graph.tables;
  roots = graph.roots;
  labels = order_snoc g.labels label graph.labels after;
  blocks = subst (λ (l : List Place). InPlaceOrder l) (sym labels_are) (order_snoc (label_list g.blocks) label graph.blocks (λ q h. after q (graph.among q h)));
  among = λ q h. with_new q (has_append (label_list g.blocks) (label ∷ []) q (subst (λ (l : List Place). Has l q) labels_are h));
  marks = graph.marks;
  touched = λ q h. append_left g.labels (label ∷ []) q (graph.touched q h);
  block_ids = subst (λ (l : List ℕ). Apart l) (sym (map_snoc (λ b. b.id) g.blocks (new_block id label opening))) (apart_snoc (block_ids g.blocks) id graph.block_ids (no_block id g.blocks fresh));
  op_ids = subst (λ (l : List ℕ). Apart l) (sym (ops_snoc g.blocks id label opening)) graph.op_ids;
}
  where
    labels_are : label_list (g.blocks ++ new_block id label opening ∷ []) ≡ label_list g.blocks ++ label ∷ []
    labels_are = map_snoc (λ b. b.label) g.blocks (new_block id label opening)

    with_new : (q : Place) → Has (label_list g.blocks) q ⊎ Has (label ∷ []) q → Has (g.labels ++ label ∷ []) q
    with_new q (inl m) = append_left g.labels (label ∷ []) q (graph.among q m)
    with_new q (inr m) = append_right g.labels (label ∷ []) q m

-- ---- an op more

apart_left : (xs ys : List ℕ) → Apart (xs ++ ys) → Apart xs
apart_left [] ys a = tt
apart_left (x ∷ xs) ys a = (λ h. a.0 (append_left xs ys x h), apart_left xs ys a.1)

apart_right : (xs ys : List ℕ) → Apart (xs ++ ys) → Apart ys
apart_right [] ys a = a
apart_right (x ∷ xs) ys a = apart_right xs ys a.1

apart_both : (xs ys : List ℕ) → Apart (xs ++ ys) → (z : ℕ) → Has xs z → Has ys z → ⊥
apart_both [] ys a z h i = h
apart_both (x ∷ xs) ys a z (inl e) i = a.0 (append_right xs ys x (subst (λ (n : ℕ). Has ys n) (sym e) i))
apart_both (x ∷ xs) ys a z (inr h) i = apart_both xs ys a.1 z h i

apart_append : (xs ys : List ℕ) → Apart xs → Apart ys → ((z : ℕ) → Has xs z → Has ys z → ⊥) → Apart (xs ++ ys)
apart_append [] ys a b d = b
apart_append (x ∷ xs) ys a b d = (other, apart_append xs ys a.1 b (λ z h. d z (inr h)))
  where
    other : Has (xs ++ ys) x → ⊥
    other h = by_case (has_append xs ys x h)
      where
        by_case : Has xs x ⊎ Has ys x → ⊥
        by_case (inl m) = a.0 m
        by_case (inr m) = d x (inl refl) m

no_more : (id : ℕ) (node : Node) (bs : List Block) → (Has (block_ids bs) id → ⊥) → op_ids (map (op_added_in id node) bs) ≡ op_ids bs
no_more id node [] n = refl
no_more id node (b ∷ bs) n = by_id (b.id == id) refl (no_more id node bs (λ h. n (inr h)))
  where
    by_id :
        (v : Bool) → (b.id == id) ≡ v → op_ids (map (op_added_in id node) bs) ≡ op_ids bs →
        node_ids (cond v (record b { ops = b.ops ++ node ∷ [] }) b).ops ++ op_ids (map (op_added_in id node) bs) ≡ node_ids b.ops ++ op_ids bs
    by_id true e i = absurd (n (inl (eqb-true b.id id e)))
    by_id false e i = ap (λ (l : List ℕ). node_ids b.ops ++ l) i

added_has : (id : ℕ) (node : Node) (bs : List Block) (z : ℕ) → Has (op_ids (map (op_added_in id node) bs)) z → (node.id ≡ z) ⊎ Has (op_ids bs) z
added_has id node [] z h = absurd h
added_has id node (b ∷ bs) z h = by_id (b.id == id) h (added_has id node bs z)
  where
    onto : (node.id ≡ z) ⊎ Has (op_ids bs) z → (node.id ≡ z) ⊎ Has (node_ids b.ops ++ op_ids bs) z
    onto (inl e) = inl e
    onto (inr m) = inr (append_right (node_ids b.ops) (op_ids bs) z m)

    in_block : Has (node_ids b.ops ++ node.id ∷ []) z → (node.id ≡ z) ⊎ Has (node_ids b.ops ++ op_ids bs) z
    in_block h = by_case (has_append (node_ids b.ops) (node.id ∷ []) z h)
      where
        by_case : Has (node_ids b.ops) z ⊎ Has (node.id ∷ []) z → (node.id ≡ z) ⊎ Has (node_ids b.ops ++ op_ids bs) z
        by_case (inl m) = inr (append_left (node_ids b.ops) (op_ids bs) z m)
        by_case (inr (inl e)) = inl e
        by_case (inr (inr m)) = absurd m

    by_id :
        (v : Bool) → Has (node_ids (cond v (record b { ops = b.ops ++ node ∷ [] }) b).ops ++ op_ids (map (op_added_in id node) bs)) z →
        (Has (op_ids (map (op_added_in id node) bs)) z → (node.id ≡ z) ⊎ Has (op_ids bs) z) → (node.id ≡ z) ⊎ Has (node_ids b.ops ++ op_ids bs) z
    by_id true h i = by_case (has_append (node_ids (b.ops ++ node ∷ [])) (op_ids (map (op_added_in id node) bs)) z h)
      where
        by_case : Has (node_ids (b.ops ++ node ∷ [])) z ⊎ Has (op_ids (map (op_added_in id node) bs)) z → (node.id ≡ z) ⊎ Has (node_ids b.ops ++ op_ids bs) z
        by_case (inl m) = in_block (subst (λ (l : List ℕ). Has l z) (map_snoc (λ n. n.id) b.ops node) m)
        by_case (inr m) = onto (i m)
    by_id false h i = by_case (has_append (node_ids b.ops) (op_ids (map (op_added_in id node) bs)) z h)
      where
        by_case : Has (node_ids b.ops) z ⊎ Has (op_ids (map (op_added_in id node) bs)) z → (node.id ≡ z) ⊎ Has (node_ids b.ops ++ op_ids bs) z
        by_case (inl m) = inr (append_left (node_ids b.ops) (op_ids bs) z m)
        by_case (inr m) = onto (i m)

added_apart :
    (id : ℕ) (node : Node) (bs : List Block) → Apart (block_ids bs) → Apart (op_ids bs) → (Has (op_ids bs) node.id → ⊥) →
    Apart (op_ids (map (op_added_in id node) bs))
added_apart id node [] a o n = tt
added_apart id node (b ∷ bs) a o n = by_id (b.id == id) refl (added_apart id node bs a.1 (apart_right (node_ids b.ops) (op_ids bs) o) (λ h. n (append_right (node_ids b.ops) (op_ids bs) node.id h)))
  where
    mine : (z : ℕ) → Has (node_ids b.ops ++ node.id ∷ []) z → Has (op_ids bs) z → ⊥
    mine z h i = by_case (has_append (node_ids b.ops) (node.id ∷ []) z h)
      where
        by_case : Has (node_ids b.ops) z ⊎ Has (node.id ∷ []) z → ⊥
        by_case (inl m) = apart_both (node_ids b.ops) (op_ids bs) o z m i
        by_case (inr (inl e)) = n (append_right (node_ids b.ops) (op_ids bs) node.id (subst (λ (k : ℕ). Has (op_ids bs) k) (sym e) i))
        by_case (inr (inr m)) = m

    theirs : (z : ℕ) → Has (node_ids b.ops) z → Has (op_ids (map (op_added_in id node) bs)) z → ⊥
    theirs z h i = by_case (added_has id node bs z i)
      where
        by_case : (node.id ≡ z) ⊎ Has (op_ids bs) z → ⊥
        by_case (inl e) = n (append_left (node_ids b.ops) (op_ids bs) node.id (subst (λ (k : ℕ). Has (node_ids b.ops) k) (sym e) h))
        by_case (inr m) = apart_both (node_ids b.ops) (op_ids bs) o z h m

    by_id :
        (v : Bool) → (b.id == id) ≡ v → Apart (op_ids (map (op_added_in id node) bs)) →
        Apart (node_ids (cond v (record b { ops = b.ops ++ node ∷ [] }) b).ops ++ op_ids (map (op_added_in id node) bs))
    by_id true e i =
        let same = no_more id node bs (λ h. a.0 (subst (λ (k : ℕ). Has (block_ids bs) k) (sym (eqb-true b.id id e)) h)) in
        subst (λ (l : List ℕ). Apart (node_ids (b.ops ++ node ∷ []) ++ l)) (sym same)
        (subst (λ (l : List ℕ). Apart (l ++ op_ids bs)) (sym (map_snoc (λ n. n.id) b.ops node))
        (apart_append (node_ids b.ops ++ node.id ∷ []) (op_ids bs)
        (apart_snoc (node_ids b.ops) node.id (apart_left (node_ids b.ops) (op_ids bs) o) (λ h. n (append_left (node_ids b.ops) (op_ids bs) node.id h)))
        (apart_right (node_ids b.ops) (op_ids bs) o) mine))
    by_id false e i = apart_append (node_ids b.ops) (op_ids (map (op_added_in id node) bs)) (apart_left (node_ids b.ops) (op_ids bs) o) i theirs

no_node : (id : ℕ) (ns : List Node) → is_some (find (is_node id) ns) ≡ false → Has (node_ids ns) id → ⊥
no_node id [] e h = h
no_node id (b ∷ bs) e h = by_id (b.id == id) refl e h (no_node id bs)
  where
    by_id :
        (v : Bool) → (b.id == id) ≡ v → is_some (cond v (Some b) (find (is_node id) bs)) ≡ false → (b.id ≡ id) ⊎ Has (node_ids bs) id →
        (is_some (find (is_node id) bs) ≡ false → Has (node_ids bs) id → ⊥) → ⊥
    by_id true x e h i = true≢false e
    by_id false x e (inl y) i = true≢false (sym (eq-eqb b.id id y) ∙ x)
    by_id false x e (inr m) i = i e m

no_op : (id : ℕ) (bs : List Block) → is_some (find (holds_node id) bs) ≡ false → Has (op_ids bs) id → ⊥
no_op id [] e h = h
no_op id (b ∷ bs) e h = by_held (holds_node id b) refl e (has_append (node_ids b.ops) (op_ids bs) id h) (no_op id bs)
  where
    by_held :
        (v : Bool) → holds_node id b ≡ v → is_some (cond v (Some b) (find (holds_node id) bs)) ≡ false → Has (node_ids b.ops) id ⊎ Has (op_ids bs) id →
        (is_some (find (holds_node id) bs) ≡ false → Has (op_ids bs) id → ⊥) → ⊥
    by_held true x e h i = true≢false e
    by_held false x e (inl m) i = no_node id b.ops x m
    by_held false x e (inr m) i = i e m

added_keeps : (id : ℕ) (node : Node) (b : Block) → ((op_added_in id node b).label ≡ b.label) × ((op_added_in id node b).id ≡ b.id)
added_keeps id node b = by_id (b.id == id)
  where
    by_id : (v : Bool) → ((cond v (record b { ops = b.ops ++ node ∷ [] }) b).label ≡ b.label) × ((cond v (record b { ops = b.ops ++ node ∷ [] }) b).id ≡ b.id)
    by_id true = (refl, refl)
    by_id false = (refl, refl)

pub op_added_held : (g : GraphView) (id : ℕ) (node : Node) → IsGraph g → is_live_op g node.id ≡ false → IsGraph (op_added g id node)
op_added_held g id node graph fresh = record {
  objects = graph.objects;
  tables = graph.tables;
  roots = graph.roots;
  labels = graph.labels;
  blocks = subst (λ (l : List Place). InPlaceOrder l) (sym labels_are) graph.blocks;
  among = λ q h. graph.among q (subst (λ (l : List Place). Has l q) labels_are h);
  marks = graph.marks;
  touched = graph.touched;
  block_ids = subst (λ (l : List ℕ). Apart l) (sym (ids_map (op_added_in id node) g.blocks (λ b. (added_keeps id node b).1))) graph.block_ids;
  op_ids = added_apart id node g.blocks graph.block_ids graph.op_ids (no_op node.id g.blocks fresh);
}
  where
    labels_are : label_list (map (op_added_in id node) g.blocks) ≡ label_list g.blocks
    labels_are = labels_map (op_added_in id node) g.blocks (λ b. (added_keeps id node b).0)
