-- The ops of a block as the items of its list.
use Rattle.std.proofs.Common.{◌≡◌, eqb, ℕ, Bool, true, false, cond, List, [], ◌∷◌, ◌++◌, Option, Some, None, refl, sym, ap, ◌∙◌, subst}
use Rattle.std.specs.Prelude.{map, filter, find, not, is_some, option_map}
use Rattle.std.specs.Map.{lookup, keys_of}
use Rattle.std.proofs.lemmas.Bool.{true≢false, eqb-true, eqb-false, eq-eqb, ne_eqb}
use Rattle.om_arena.specs.Lists.{IsApart, AreApart, with_value, without}
use Rattle.om_arena.specs.Lists as lists
use Rattle.om_graph.specs.declared.op.Op.{Op}
use Rattle.om_graph.specs.declared.op.OpKind.{OpKind}
use Rattle.om_graph.specs.View.{Node, is_node, first_id, id_after, kind_set}
use Rattle.om_graph.specs.Laid.{nodes_of}

pub eqb_turn : (a b : ℕ) (v : Bool) → eqb a b ≡ v → eqb b a ≡ v
eqb_turn a b true e = eq-eqb b a (sym (eqb-true a b e))
eqb_turn a b false e = ne_eqb b a (λ h. eqb-false a b e (sym h))

-- an id apart from those of some items
pub absent_value : {T : Type 0} (items : List (ℕ × T)) (o : ℕ) → IsApart o (keys_of items) → lookup (eqb o) items ≡ None
absent_value [] o apart = refl
absent_value (x ∷ items) o apart = let t = ne_eqb o x.0 apart.0 in let i = absent_value items o apart.1 in rw t i

absent_write : (items : List (ℕ × Op)) (o : ℕ) (op : Op) → IsApart o (keys_of items) → with_value o op items ≡ items
absent_write [] o op apart = refl
absent_write (x ∷ items) o op apart = let t = ne_eqb o x.0 apart.0 in let i = absent_write items o op apart.1 in rw (t, i) refl

abbrev pub node : ℕ → Op → Node
node o op = record { id = o; op = op }

-- ---- what stands under an id

pub node_found : (o : ℕ) (items : List (ℕ × Op)) → find (is_node o) (nodes_of items) ≡ option_map (node o) (lookup (eqb o) items)
node_found o [] = refl
node_found o (x ∷ items) = by_id (eqb o x.0) refl (node_found o items)
  where
    by_id :
        (v : Bool) → eqb o x.0 ≡ v → find (is_node o) (nodes_of items) ≡ option_map (node o) (lookup (eqb o) items) →
        find (is_node o) (nodes_of (x ∷ items)) ≡ option_map (node o) (cond v (Some x.1) (lookup (eqb o) items))
    by_id true e i =
        let t = eqb_turn o x.0 true e in
        let same : x.0 ≡ o = sym (eqb-true o x.0 e) in
        rw t (ap (λ (k : ℕ). Some (node k x.1)) same)
    by_id false e i = let t = eqb_turn o x.0 false e in rw t i

some_mapped : {A B : Type 0} (f : A → B) (o : Option A) → is_some (option_map f o) ≡ is_some o
some_mapped f None = refl
some_mapped f (Some x) = refl

pub holds_is : (o : ℕ) (items : List (ℕ × Op)) → is_some (find (is_node o) (nodes_of items)) ≡ is_some (lookup (eqb o) items)
holds_is o items = ap is_some (node_found o items) ∙ some_mapped (node o) (lookup (eqb o) items)

pub node_first : (items : List (ℕ × Op)) → first_id (nodes_of items) ≡ lists.first_id items
node_first [] = refl
node_first (x ∷ items) = refl

pub node_after : (o : ℕ) (items : List (ℕ × Op)) → id_after o (nodes_of items) ≡ lists.id_after o items
node_after o [] = refl
node_after o (x ∷ items) = by_id (eqb o x.0) refl (node_after o items)
  where
    by_id :
        (v : Bool) → eqb o x.0 ≡ v → id_after o (nodes_of items) ≡ lists.id_after o items →
        id_after o (nodes_of (x ∷ items)) ≡ cond v (lists.first_id items) (lists.id_after o items)
    by_id true e i = let t = eqb_turn o x.0 true e in rw t (node_first items)
    by_id false e i = let t = eqb_turn o x.0 false e in rw t i

-- ---- edits

-- an id that no item has
pub kind_none : (o : ℕ) (kind : OpKind) (items : List (ℕ × Op)) → lookup (eqb o) items ≡ None → map (kind_set o kind) (nodes_of items) ≡ nodes_of items
kind_none o kind [] e = refl
kind_none o kind (x ∷ items) e = by_id (eqb o x.0) refl e (kind_none o kind items)
  where
    by_id :
        (v : Bool) → eqb o x.0 ≡ v → cond v (Some x.1) (lookup (eqb o) items) ≡ None →
        (lookup (eqb o) items ≡ None → map (kind_set o kind) (nodes_of items) ≡ nodes_of items) →
        map (kind_set o kind) (nodes_of (x ∷ items)) ≡ nodes_of (x ∷ items)
    by_id true e q i = absurd (true≢false (ap is_some q))
    by_id false e q i =
        let t = eqb_turn o x.0 false e in
        let r = i q in
        rw (t, r) refl

pub delete_none : (o : ℕ) (items : List (ℕ × Op)) → lookup (eqb o) items ≡ None → filter (λ n. not (is_node o n)) (nodes_of items) ≡ nodes_of items
delete_none o [] e = refl
delete_none o (x ∷ items) e = by_id (eqb o x.0) refl e (delete_none o items)
  where
    by_id :
        (v : Bool) → eqb o x.0 ≡ v → cond v (Some x.1) (lookup (eqb o) items) ≡ None →
        (lookup (eqb o) items ≡ None → filter (λ n. not (is_node o n)) (nodes_of items) ≡ nodes_of items) →
        filter (λ n. not (is_node o n)) (nodes_of (x ∷ items)) ≡ nodes_of (x ∷ items)
    by_id true e q i = absurd (true≢false (ap is_some q))
    by_id false e q i =
        let t = eqb_turn o x.0 false e in
        let r = i q in
        rw (t, r) refl

-- the one item of an id
pub kind_one :
    (o : ℕ) (kind : OpKind) (items : List (ℕ × Op)) (op : Op) → AreApart (keys_of items) → lookup (eqb o) items ≡ Some op →
    map (kind_set o kind) (nodes_of items) ≡ nodes_of (with_value o (record op { kind = kind }) items)
kind_one o kind [] op apart e = refl
kind_one o kind (x ∷ items) op apart e = by_id (eqb o x.0) refl e (kind_one o kind items op apart.1)
  where
    value : Some x.1 ≡ Some op → x.1 ≡ op
    value e = cc

    absent : o ≡ x.0 → IsApart o (keys_of items)
    absent e = subst (λ (k : ℕ). IsApart k (keys_of items)) (sym e) apart.0

    by_id :
        (v : Bool) → eqb o x.0 ≡ v → cond v (Some x.1) (lookup (eqb o) items) ≡ Some op →
        (lookup (eqb o) items ≡ Some op → map (kind_set o kind) (nodes_of items) ≡ nodes_of (with_value o (record op { kind = kind }) items)) →
        map (kind_set o kind) (nodes_of (x ∷ items)) ≡ nodes_of (cond v (x.0, record op { kind = kind }) x ∷ with_value o (record op { kind = kind }) items)
    by_id true e q i =
        let t = eqb_turn o x.0 true e in
        let none = absent_value items o (absent (eqb-true o x.0 e)) in
        let same = value q in
        let a = kind_none o kind items none in
        let b = absent_write items o (record op { kind = kind }) (absent (eqb-true o x.0 e)) in
        rw (t, a, b) (ap (λ (w : Op). node x.0 (record w { kind = kind }) ∷ nodes_of items) same)
    by_id false e q i =
        let t = eqb_turn o x.0 false e in
        let r = i q in
        rw (t, r) refl

pub delete_one :
    (o : ℕ) (items : List (ℕ × Op)) → AreApart (keys_of items) →
    filter (λ n. not (is_node o n)) (nodes_of items) ≡ nodes_of (without o items)
delete_one o [] apart = refl
delete_one o (x ∷ items) apart = by_id (eqb o x.0) refl (delete_one o items apart.1)
  where
    away : o ≡ x.0 → lookup (eqb o) items ≡ None
    away e = absent_value items o (subst (λ (k : ℕ). IsApart k (keys_of items)) (sym e) apart.0)

    by_id :
        (v : Bool) → eqb o x.0 ≡ v → filter (λ n. not (is_node o n)) (nodes_of items) ≡ nodes_of (without o items) →
        filter (λ n. not (is_node o n)) (nodes_of (x ∷ items)) ≡ nodes_of (cond v items (x ∷ without o items))
    by_id true e i = let t = eqb_turn o x.0 true e in rw t (delete_none o items (away (eqb-true o x.0 e)))
    by_id false e i = let t = eqb_turn o x.0 false e in rw (t, i) refl

pub node_added : (items : List (ℕ × Op)) (o : ℕ) (op : Op) → nodes_of (items ++ (o, op) ∷ []) ≡ nodes_of items ++ node o op ∷ []
node_added [] o op = refl
node_added (x ∷ items) o op = ap (λ (l : List Node). node x.0 x.1 ∷ l) (node_added items o op)
