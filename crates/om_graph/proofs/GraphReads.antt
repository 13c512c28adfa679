-- What stands under the ids of a graph, over its rows and lists.
use Rattle.std.proofs.Common.{◌≡◌, ◌<◌, ◌≤◌, ◌==◌, eqb, ℕ, Bool, true, false, cond, List, [], ◌∷◌, length, get_or, set, Option, Some, None, refl, sym, ap, ◌∙◌, subst, arith}
use Rattle.std.specs.Prelude.{find, is_some, option_map, option_and_then, IfSome}
use Rattle.std.specs.Map.{lookup, keys_of}
use Rattle.std.proofs.lemmas.Bool.{true≢false, eqb-true, eq-eqb, ne_eqb, false_from_ne_true}
use Rattle.om_value.specs.declared.value.Place.{Place}
use Rattle.om_value.specs.Same.{place_eq}
use Rattle.om_arena.specs.Lists.{AreApart, home, without}
use Rattle.om_arena.specs.Lists as arena
use Rattle.om_graph.specs.declared.op.Op.{Op}
use Rattle.om_graph.specs.declared.parts.Row.{Row}
use Rattle.om_graph.specs.View.{Node, Block, GraphView, labelled, is_live_block, is_block, is_node, holds_node, has_label, node_in, first_id, id_after, first_block_id, block_id_after, InPlaceOrder, place_lt}
use Rattle.om_graph.specs.Laid.{no_row, row_at, labels_of, shown, blocks_from, kept_from}
use Rattle.om_graph.proofs.RowBlocks.{IsAt, at_read, at_bound, at_get, found, find_none, find_only, kept_one}
use Rattle.om_graph.proofs.RowNodes.{node, node_found, holds_is, node_first, node_after}
use Rattle.om_graph.proofs.RowKept.{kept_lookup, one_value, Names, names_first, names_next}
use Rattle.om_graph.proofs.RowLabels.{located}

-- ---- options

pub if_some : {A : Type 0} (o : Option A) (P : A → Type 0) → ((x : A) → o ≡ Some x → P x) → IfSome o P
if_some None P f = tt
if_some (Some x) P f = f x refl

pub none_from : {A : Type 0} (o : Option A) → is_some o ≡ false → o ≡ None
none_from None e = refl
none_from (Some x) e = absurd (true≢false e)

some_from : {A : Type 0} (o : Option A) → is_some o ≡ true → (x : A) × (o ≡ Some x)
some_from None e = absurd (true≢false (sym e))
some_from (Some x) e = (x, refl)

-- ---- what is found passes

-- what one test finds, another finds too if it passes that
pub some_passes : {A : Type 0} (p q : A → Bool) (xs : List A) (x : A) → find p xs ≡ Some x → q x ≡ true → is_some (find q xs) ≡ true
some_passes p q [] x e t = cc
some_passes p q (y ∷ xs) x e t = by_test (p y) (q y) refl e (some_passes p q xs x)
  where
    by_test :
        (a b : Bool) → q y ≡ b → cond a (Some y) (find p xs) ≡ Some x → (find p xs ≡ Some x → q x ≡ true → is_some (find q xs) ≡ true) →
        is_some (cond b (Some y) (find q xs)) ≡ true
    by_test a true h e i = refl
    by_test true false h e i = let same : y ≡ x = cc in absurd (true≢false (sym t ∙ subst (λ (z : _). q z ≡ false) same h))
    by_test false false h e i = i e t

pub first_live : (bs : List Block) (c : ℕ) → first_block_id bs ≡ Some c → is_some (find (is_block c) bs) ≡ true
first_live [] c e = cc
first_live (b ∷ bs) c e =
    let same : b.id ≡ c = cc in
    let t = eq-eqb b.id c same in
    rw t refl

more_live : (b : Block) (bs : List Block) (c : ℕ) → is_some (find (is_block c) bs) ≡ true → is_some (find (is_block c) (b ∷ bs)) ≡ true
more_live b bs c e = by_test (b.id == c)
  where
    by_test : (v : Bool) → is_some (cond v (Some b) (find (is_block c) bs)) ≡ true
    by_test true = refl
    by_test false = e

pub next_live : (b : ℕ) (bs : List Block) (c : ℕ) → block_id_after b bs ≡ Some c → is_some (find (is_block c) bs) ≡ true
next_live b [] c e = cc
next_live b (x ∷ bs) c e = by_id (x.id == b) e (next_live b bs c)
  where
    by_id : (v : Bool) → cond v (first_block_id bs) (block_id_after b bs) ≡ Some c → (block_id_after b bs ≡ Some c → is_some (find (is_block c) bs) ≡ true) → is_some (find (is_block c) (x ∷ bs)) ≡ true
    by_id true e i = more_live x bs c (first_live bs c e)
    by_id false e i = more_live x bs c (i e)

first_node : (ns : List Node) (c : ℕ) → first_id ns ≡ Some c → is_some (find (is_node c) ns) ≡ true
first_node [] c e = cc
first_node (n ∷ ns) c e =
    let same : n.id ≡ c = cc in
    let t = eq-eqb n.id c same in
    rw t refl

more_node : (n : Node) (ns : List Node) (c : ℕ) → is_some (find (is_node c) ns) ≡ true → is_some (find (is_node c) (n ∷ ns)) ≡ true
more_node n ns c e = by_test (n.id == c)
  where
    by_test : (v : Bool) → is_some (cond v (Some n) (find (is_node c) ns)) ≡ true
    by_test true = refl
    by_test false = e

next_node : (b : ℕ) (ns : List Node) (c : ℕ) → id_after b ns ≡ Some c → is_some (find (is_node c) ns) ≡ true
next_node b [] c e = cc
next_node b (x ∷ ns) c e = by_id (x.id == b) e (next_node b ns c)
  where
    by_id : (v : Bool) → cond v (first_id ns) (id_after b ns) ≡ Some c → (id_after b ns ≡ Some c → is_some (find (is_node c) ns) ≡ true) → is_some (find (is_node c) (x ∷ ns)) ≡ true
    by_id true e i = more_node x ns c (first_node ns c e)
    by_id false e i = more_node x ns c (i e)

pub first_op_live : (b : ℕ) (bs : List Block) (o : ℕ) → option_and_then (λ x. first_id x.ops) (find (is_block b) bs) ≡ Some o → is_some (find (holds_node o) bs) ≡ true
first_op_live b bs o e = by_found (find (is_block b) bs) refl e
  where
    by_found : (x : Option Block) → find (is_block b) bs ≡ x → option_and_then (λ x. first_id x.ops) x ≡ Some o → is_some (find (holds_node o) bs) ≡ true
    by_found None f e = cc
    by_found (Some x) f e = some_passes (is_block b) (holds_node o) bs x f (first_node x.ops o e)

pub next_op_live : (b : ℕ) (bs : List Block) (o : ℕ) → option_and_then (λ x. id_after b x.ops) (find (holds_node b) bs) ≡ Some o → is_some (find (holds_node o) bs) ≡ true
next_op_live b bs o e = by_found (find (holds_node b) bs) refl e
  where
    by_found : (x : Option Block) → find (holds_node b) bs ≡ x → option_and_then (λ x. id_after b x.ops) x ≡ Some o → is_some (find (holds_node o) bs) ≡ true
    by_found None f e = cc
    by_found (Some x) f e = some_passes (holds_node b) (holds_node o) bs x f (next_node b x.ops o e)

pub labelled_live : (g : GraphView) (p : Place) (c : ℕ) → labelled g p ≡ Some c → is_live_block g c ≡ true
labelled_live g p c e = by_found (find (has_label p) g.blocks) refl e
  where
    by_found : (x : Option Block) → find (has_label p) g.blocks ≡ x → option_map (λ x. x.id) x ≡ Some c → is_live_block g c ≡ true
    by_found None f e = cc
    by_found (Some x) f e = let same : x.id ≡ c = cc in some_passes (has_label p) (is_block c) g.blocks x f (eq-eqb x.id c same)

-- ---- a live block

pub record LiveBlock (rows : List Row) (b : ℕ) : Type 0 where
  pub key : ℕ
  pub within : b < length rows
  pub is_at : IsAt rows b (row_at rows b)
  pub kept : (row_at rows b).kept ≡ Some key

live_row : (rows : List Row) (b : ℕ) (r : Row) (key : ℕ) → IsAt rows b r → r.kept ≡ Some key → LiveBlock rows b
live_row rows b r key at kept =
    let within = at_bound rows b r at in
    record {
      key = key;
      within = within;
      is_at = at_read rows b no_row (row_at rows b) within refl;
      kept = ap (λ (x : Row). x.kept) (at_get rows b r no_row at) ∙ kept;
    }

pub live_block : (lists : List (List (ℕ × Op))) (rows : List Row) (b : ℕ) → is_some (find (is_block b) (blocks_from lists 0 rows)) ≡ true → LiveBlock rows b
live_block lists rows b e =
    let f = found (is_block b) lists 0 rows e in
    let n : f.number ≡ b = eqb-true f.number b f.passes in
    let here : f.place ≡ b = omega (arith, f.is_number, n) in
    live_row rows b f.row f.key (subst (λ (j : ℕ). IsAt rows j f.row) here f.is_at) f.kept

pub block_is : (lists : List (List (ℕ × Op))) (rows : List Row) (b : ℕ) → LiveBlock rows b → find (is_block b) (blocks_from lists 0 rows) ≡ Some (shown b (row_at rows b) (get_or lists b []))
block_is lists rows b l =
    find_only (is_block b) lists 0 rows b b (row_at rows b) (omega arith) l.is_at (λ m k x e at ne. ne_eqb m b ne) (eq-eqb b b refl)
    ∙ ap (λ (o : Option ℕ). kept_one o (shown b (row_at rows b) (get_or lists b []))) l.kept

-- the same at a row as it was read
pub block_read :
    (lists : List (List (ℕ × Op))) (rows : List Row) (b : ℕ) (r : Row) → is_some (find (is_block b) (blocks_from lists 0 rows)) ≡ true →
    r ≡ get_or rows b r → find (is_block b) (blocks_from lists 0 rows) ≡ Some (shown b r (get_or lists b []))
block_read lists rows b r live read =
    let l = live_block lists rows b live in
    let same : row_at rows b ≡ r = sym (at_get rows b (row_at rows b) r l.is_at) ∙ sym read in
    block_is lists rows b l ∙ ap (λ (x : Row). Some (shown b x (get_or lists b []))) same

-- ---- a live op

-- the list that has an id is its home
abbrev pub HaveHomes : List (List (ℕ × Op)) → Type 0
HaveHomes lists = (id list : ℕ) → is_some (lookup (eqb id) (get_or lists list [])) ≡ true → home id lists ≡ list

pub elsewhere : (lists : List (List (ℕ × Op))) (o : ℕ) → HaveHomes lists → (m : ℕ) → (m ≡ home o lists → ⊥) → lookup (eqb o) (get_or lists m []) ≡ None
elsewhere lists o homes m other =
    none_from (lookup (eqb o) (get_or lists m [])) (false_from_ne_true (is_some (lookup (eqb o) (get_or lists m []))) (λ h. other (sym (homes o m h))))

pub record LiveOp (lists : List (List (ℕ × Op))) (rows : List Row) (o : ℕ) : Type 0 where
  pub block : LiveBlock rows (home o lists)
  pub op : Op
  pub item : lookup (eqb o) (get_or lists (home o lists) []) ≡ Some op

pub live_op :
    (lists : List (List (ℕ × Op))) (rows : List Row) (o : ℕ) → HaveHomes lists →
    is_some (find (holds_node o) (blocks_from lists 0 rows)) ≡ true → LiveOp lists rows o
live_op lists rows o homes e =
    let f = found (holds_node o) lists 0 rows e in
    let held : is_some (lookup (eqb o) (get_or lists f.number [])) ≡ true = sym (holds_is o (get_or lists f.number [])) ∙ f.passes in
    let n : home o lists ≡ f.number = homes o f.number held in
    let here : f.place ≡ home o lists = omega (arith, f.is_number, n) in
    let some = some_from (lookup (eqb o) (get_or lists f.number [])) held in
    record {
      block = live_row rows (home o lists) f.row f.key (subst (λ (j : ℕ). IsAt rows j f.row) here f.is_at) f.kept;
      op = some.0;
      item = ap (λ (j : ℕ). lookup (eqb o) (get_or lists j [])) n ∙ some.1;
    }

pub op_block :
    (lists : List (List (ℕ × Op))) (rows : List Row) (o : ℕ) → HaveHomes lists →
    LiveOp lists rows o →
    find (holds_node o) (blocks_from lists 0 rows) ≡ Some (shown (home o lists) (row_at rows (home o lists)) (get_or lists (home o lists) []))
op_block lists rows o homes l =
    find_only (holds_node o) lists 0 rows (home o lists) (home o lists) (row_at rows (home o lists)) (omega arith) l.block.is_at
    (λ m k x e at ne. holds_is o (get_or lists m []) ∙ ap is_some (elsewhere lists o homes m ne))
    (holds_is o (get_or lists (home o lists) []) ∙ ap is_some l.item)
    ∙ ap (λ (k : Option ℕ). kept_one k (shown (home o lists) (row_at rows (home o lists)) (get_or lists (home o lists) []))) l.block.kept

pub op_value :
    (lists : List (List (ℕ × Op))) (rows : List Row) (o : ℕ) (op : Op) → HaveHomes lists →
    LiveOp lists rows o → lookup (eqb o) (get_or lists (home o lists) []) ≡ Some op →
    option_map (λ n. n.op) (option_and_then (node_in o) (find (holds_node o) (blocks_from lists 0 rows))) ≡ Some op
op_value lists rows o op homes l e =
    let b = op_block lists rows o homes l in
    let f = node_found o (get_or lists (home o lists) []) in
    ap (λ (x : Option Block). option_map (λ n. n.op) (option_and_then (node_in o) x)) b
    ∙ ap (λ (x : Option Node). option_map (λ n. n.op) x) (f ∙ ap (λ (x : Option Op). option_map (node o) x) e)

-- ---- neighbours

pub ops_first :
    (lists : List (List (ℕ × Op))) (rows : List Row) (b : ℕ) → LiveBlock rows b →
    option_and_then (λ x. first_id x.ops) (find (is_block b) (blocks_from lists 0 rows)) ≡ arena.first_id (get_or lists b [])
ops_first lists rows b l = ap (λ (x : Option Block). option_and_then (λ y. first_id y.ops) x) (block_is lists rows b l) ∙ node_first (get_or lists b [])

pub ops_next :
    (lists : List (List (ℕ × Op))) (rows : List Row) (o : ℕ) → HaveHomes lists →
    LiveOp lists rows o → option_and_then (λ x. id_after o x.ops) (find (holds_node o) (blocks_from lists 0 rows)) ≡ arena.id_after o (get_or lists (home o lists) [])
ops_next lists rows o homes l = ap (λ (x : Option Block). option_and_then (λ y. id_after o y.ops) x) (op_block lists rows o homes l) ∙ node_after o (get_or lists (home o lists) [])

-- ---- the arena of the kept ones

pub kept_value : (rows : List Row) (b k : ℕ) (r : Row) → IsAt rows b r → r.kept ≡ Some k → AreApart (keys_of (kept_from 0 rows)) → lookup (eqb k) (get_or (kept_from 0 rows ∷ []) (home k (kept_from 0 rows ∷ [])) []) ≡ Some b
kept_value rows b k r at kept apart = one_value (kept_from 0 rows) k b (kept_lookup 0 rows b b r k (omega arith) at kept apart)

pub names_value : (items : List (ℕ × ℕ)) (o b : Option ℕ) → Names items o b → option_and_then (λ k. lookup (eqb k) (get_or (items ∷ []) (home k (items ∷ [])) [])) o ≡ b
names_value items None b names = sym names
names_value items (Some k) b names = one_value items k names.0 names.2 ∙ sym names.1

-- ---- the block of a label

module _ (p : Place) (lists : List (List (ℕ × Op))) (rows : List Row) (c : ℕ) (o : InPlaceOrder (labels_of rows)) (below : (i : ℕ) → i < c → place_lt (row_at rows i).label p ≡ true) (above : (i : ℕ) → c ≤ i → i < length rows → place_lt (row_at rows i).label p ≡ false) where
  labelled_at : (k : ℕ) (x : Row) → IsAt rows k x → place_eq x.label p ≡ true → k ≡ c
  labelled_at k x at e = located p rows c k x o below (λ h. above c (omega arith) h) at e

  pub labelled_past : length rows ≤ c → option_map (λ x. x.id) (find (has_label p) (blocks_from lists 0 rows)) ≡ None
  labelled_past past =
      ap (λ (x : Option Block). option_map (λ y. y.id) x)
      (find_none (has_label p) lists 0 rows (λ m k x e at. false_from_ne_true (place_eq x.label p) (λ t. let b = at_bound rows k x at in let s = labelled_at k x at t in absurd (omega (arith, b, s, past)))))

  pub labelled_other : place_eq (row_at rows c).label p ≡ false → option_map (λ x. x.id) (find (has_label p) (blocks_from lists 0 rows)) ≡ None
  labelled_other other =
      ap (λ (x : Option Block). option_map (λ y. y.id) x)
      (find_none (has_label p) lists 0 rows (λ m k x e at. false_from_ne_true (place_eq x.label p) (λ t.
      let s = labelled_at k x at t in
      let same : row_at rows c ≡ x = at_get rows c x no_row (subst (λ (j : ℕ). IsAt rows j x) s at) in
      true≢false (sym t ∙ subst (λ (y : Row). place_eq y.label p ≡ false) same other))))

  pub labelled_here : c < length rows → place_eq (row_at rows c).label p ≡ true → option_map (λ x. x.id) (find (has_label p) (blocks_from lists 0 rows)) ≡ option_map (λ k. c) (row_at rows c).kept
  labelled_here within here =
      let at : IsAt rows c (row_at rows c) = at_read rows c no_row (row_at rows c) within refl in
      ap (λ (x : Option Block). option_map (λ y. y.id) x)
      (find_only (has_label p) lists 0 rows c c (row_at rows c) (omega arith) at
      (λ m k x e h ne. false_from_ne_true (place_eq x.label p) (λ t. let s = labelled_at k x h t in ne (omega (arith, e, s)))) here)
      ∙ by_kept (row_at rows c).kept
    where
      by_kept : (k : Option ℕ) → option_map (λ y. y.id) (kept_one k (shown c (row_at rows c) (get_or lists c []))) ≡ option_map (λ k. c) k
      by_kept None = refl
      by_kept (Some k) = refl

-- ---- the kept ones, in the arena that orders them

abbrev pub kept_number : List (List (ℕ × ℕ)) → ℕ → Option ℕ
kept_number kept k = lookup (eqb k) (get_or kept (home k kept) [])

module _ (kept : List (List (ℕ × ℕ))) (rows : List Row) (numbers : kept ≡ kept_from 0 rows ∷ []) (apart : AreApart (keys_of (get_or kept 0 []))) where
  apart_keys : AreApart (keys_of (kept_from 0 rows))
  apart_keys = subst (λ (l : List (List (ℕ × ℕ))). AreApart (keys_of (get_or l 0 []))) numbers apart

  pub number_is : (b k : ℕ) (r : Row) → IsAt rows b r → r.kept ≡ Some k → kept_number kept k ≡ Some b
  number_is b k r at is = subst (λ (l : List (List (ℕ × ℕ))). kept_number l k ≡ Some b) (sym numbers) (kept_value rows b k r at is apart_keys)

  -- what the arena has for a row that may be kept
  pub numbers_are : (b : ℕ) (r : Row) → IsAt rows b r → option_and_then (kept_number kept) r.kept ≡ option_map (λ k. b) r.kept
  numbers_are b r at = by_kept r.kept refl
    where
      by_kept : (o : Option ℕ) → r.kept ≡ o → option_and_then (kept_number kept) o ≡ option_map (λ k. b) o
      by_kept None e = refl
      by_kept (Some k) e = number_is b k r at e

  pub numbers_live : (b : ℕ) (r : Row) → IsAt rows b r → IfSome r.kept (λ k. is_some (kept_number kept k) ≡ true)
  numbers_live b r at = if_some r.kept (λ k. is_some (kept_number kept k) ≡ true) (λ k e. ap is_some (number_is b k r at e))

  pub block_first : (order : ℕ) (lists : List (List (ℕ × Op))) → order ≡ 0 → option_and_then (kept_number kept) (arena.first_id (get_or kept order [])) ≡ first_block_id (blocks_from lists 0 rows)
  block_first order lists e =
      subst (λ (n : ℕ). option_and_then (kept_number kept) (arena.first_id (get_or kept n [])) ≡ first_block_id (blocks_from lists 0 rows)) (sym e)
      (subst (λ (l : List (List (ℕ × ℕ))). option_and_then (kept_number l) (arena.first_id (get_or l 0 [])) ≡ first_block_id (blocks_from lists 0 rows)) (sym numbers)
      (names_value (kept_from 0 rows) (arena.first_id (kept_from 0 rows)) (first_block_id (blocks_from lists 0 rows)) (names_first lists 0 rows apart_keys)))

  pub block_next : (lists : List (List (ℕ × Op))) (b k : ℕ) (r : Row) → IsAt rows b r → r.kept ≡ Some k → option_and_then (kept_number kept) (arena.id_after k (get_or kept (home k kept) [])) ≡ block_id_after b (blocks_from lists 0 rows)
  block_next lists b k r at is =
      let found : is_some (lookup (eqb k) (kept_from 0 rows)) ≡ true = ap is_some (kept_lookup 0 rows b b r k (omega arith) at is apart_keys) in
      let here : home k (kept_from 0 rows ∷ []) ≡ 0 = rw found refl in
      subst (λ (l : List (List (ℕ × ℕ))). option_and_then (kept_number l) (arena.id_after k (get_or l (home k l) [])) ≡ block_id_after b (blocks_from lists 0 rows)) (sym numbers)
      (ap (λ (n : ℕ). option_and_then (kept_number (kept_from 0 rows ∷ [])) (arena.id_after k (get_or (kept_from 0 rows ∷ []) n []))) here
      ∙ names_value (kept_from 0 rows) (arena.id_after k (kept_from 0 rows)) (block_id_after b (blocks_from lists 0 rows)) (names_next lists 0 rows b b r k (omega arith) at is apart_keys))

-- ---- a row as it was read

pub read_row :
    (lists : List (List (ℕ × Op))) (rows : List Row) (b n : ℕ) (r : Row) → is_some (find (is_block b) (blocks_from lists 0 rows)) ≡ true →
    r ≡ get_or rows n r → n ≡ b → IsAt rows b r × ((k : ℕ) × (r.kept ≡ Some k))
read_row lists rows b n r live read same =
    let l = live_block lists rows b live in
    let here : get_or rows b r ≡ r = ap (λ (m : ℕ). get_or rows m r) (sym same) ∙ sym read in
    let is : row_at rows b ≡ r = sym (at_get rows b (row_at rows b) r l.is_at) ∙ here in
    (subst (λ (x : Row). IsAt rows b x) is l.is_at, (l.key, ap (λ (x : Row). x.kept) (sym is) ∙ l.kept))

-- the arena of the kept ones with one taken out
pub kept_unlinked :
    (kept : List (List (ℕ × ℕ))) (rows : List Row) (b k : ℕ) (r : Row) → kept ≡ kept_from 0 rows ∷ [] → AreApart (keys_of (get_or kept 0 [])) →
    IsAt rows b r → r.kept ≡ Some k → set kept (home k kept) (without k (get_or kept (home k kept) [])) ≡ without k (kept_from 0 rows) ∷ []
kept_unlinked kept rows b k r numbers apart at is =
    let keys = subst (λ (l : List (List (ℕ × ℕ))). AreApart (keys_of (get_or l 0 []))) numbers apart in
    let found : is_some (lookup (eqb k) (kept_from 0 rows)) ≡ true = ap is_some (kept_lookup 0 rows b b r k (omega arith) at is keys) in
    let here : home k (kept_from 0 rows ∷ []) ≡ 0 = rw found refl in
    ap (λ (l : List (List (ℕ × ℕ))). set l (home k l) (without k (get_or l (home k l) []))) numbers
    ∙ ap (λ (n : ℕ). set (kept_from 0 rows ∷ []) n (without k (get_or (kept_from 0 rows ∷ []) n []))) here
