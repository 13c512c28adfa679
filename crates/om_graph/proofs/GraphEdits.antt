-- Edits of a graph, over its rows and lists: each is that of the view, and what is laid stays laid.
use Rattle.std.proofs.Common.{◌≡◌, ◌<◌, ◌≤◌, ◌+◌, ◌^◌, eqb, ℕ, zero, suc, Bool, true, false, cond, List, [], ◌∷◌, ◌++◌, length, get_or, set, Option, Some, None, refl, sym, ap, ◌∙◌, subst, arith}
use Rattle.std.specs.Prelude.{map, find, not, is_some}
use Rattle.std.specs.Map.{lookup, keys_of}
use Rattle.std.proofs.lemmas.Bool.{true≢false, eq-eqb, ne_eqb, false_from_ne_true}
use Rattle.std.proofs.lemmas.List.{length-set, get_or-set_same, get_or-set_other, length_push}
use Rattle.om_value.specs.declared.value.Place.{Place}
use Rattle.om_arena.specs.Lists.{AreApart, home, with_value, without}
use Rattle.om_graph.specs.declared.op.Op.{Op}
use Rattle.om_graph.specs.declared.op.OpKind.{OpKind}
use Rattle.om_graph.specs.declared.op.Last.{Last}
use Rattle.om_graph.specs.declared.op.Last.TheVariants.{Off}
use Rattle.om_graph.specs.declared.parts.Row.{Row}
use Rattle.om_graph.specs.View.{Block, Node, GraphView, is_block, holds_node, is_live_block, is_live_op, IsAfter, op_added_in, replace_in, delete_in, last_in, touch_block, numbers_from, block_added, op_added, replaced, deleted, last_set, dropped, cleared}
use Rattle.om_graph.specs.Held.{IsGraph}
use Rattle.om_graph.specs.Laid.{row_at, labels_of, touched_of, touched_row, ended_row, dropped_row, cleared_row, shown, blocks_from, kept_from, seen_graph, AreStarts, IsLaid}
use Rattle.om_graph.proofs.HeldEdits.{replaced_held, deleted_held, last_set_held, dropped_held, cleared_held, made_held, block_added_held, op_added_held}
use Rattle.om_graph.proofs.RowBlocks.{at_same, found, map_only, filter_only, blocks_added, blocks_same}
use Rattle.om_graph.proofs.RowNodes.{node, kind_none, kind_one, delete_none, delete_one, node_added, holds_is}
use Rattle.om_graph.proofs.RowKept.{kept_same, kept_cleared, kept_added, kept_without}
use Rattle.om_graph.proofs.RowLabels.{labels_same, labels_added, labels_cleared, touched_set, touched_added, touched_cleared}
use Rattle.om_graph.proofs.GraphReads.{none_from, HaveHomes, LiveBlock, LiveOp, block_is, live_block, op_block, elsewhere}

length_map : (f : Row → Row) (rows : List Row) → length (map f rows) ≡ length rows
length_map f [] = refl
length_map f (x ∷ rows) = ap (λ (n : ℕ). suc n) (length_map f rows)

-- an empty list behind the others changes no items
one_more : (lists : List (List (ℕ × Op))) (n : ℕ) → get_or (lists ++ [] ∷ []) n [] ≡ get_or lists n []
one_more [] zero = refl
one_more [] (suc n) = refl
one_more (x ∷ lists) zero = refl
one_more (x ∷ lists) (suc n) = one_more lists n

past : (lists : List (List (ℕ × Op))) (n : ℕ) → length lists ≤ n → get_or lists n [] ≡ []
past [] n e = refl
past (x ∷ lists) zero e = absurd (omega (arith, e))
past (x ∷ lists) (suc n) e = past lists n (omega (arith, e))

-- what its home does not have, no list has
nowhere : (o : ℕ) (lists : List (List (ℕ × Op))) → lookup (eqb o) (get_or lists (home o lists) []) ≡ None → (m : ℕ) → lookup (eqb o) (get_or lists m []) ≡ None
nowhere o [] none m = refl
nowhere o (x ∷ lists) none m = by_here (is_some (lookup (eqb o) x)) refl none m (nowhere o lists)
  where
    by_here :
        (v : Bool) → is_some (lookup (eqb o) x) ≡ v → lookup (eqb o) (get_or (x ∷ lists) (cond v zero (suc (home o lists))) []) ≡ None → (m : ℕ) →
        (lookup (eqb o) (get_or lists (home o lists) []) ≡ None → (m : ℕ) → lookup (eqb o) (get_or lists m []) ≡ None) → lookup (eqb o) (get_or (x ∷ lists) m []) ≡ None
    by_here true h e m i = absurd (true≢false (sym h ∙ ap is_some e))
    by_here false h e zero i = none_from (lookup (eqb o) x) h
    by_here false h e (suc m) i = i e m

-- a graph as it is made
pub made_laid :
    (counts starts : List ℕ) (roots : List Place) (tables : List ℕ) (rows : List Row) (kept : List (List (ℕ × ℕ))) (order : ℕ) (lists : List (List (ℕ × Op))) →
    rows ≡ [] → kept ≡ [] ∷ [] → order ≡ 0 → lists ≡ [] → AreStarts counts starts → tables ≡ numbers_from 0 (length counts) → length counts < 2 ^ 32 → 0 < length roots →
    IsLaid counts starts roots tables rows kept order lists
made_laid counts starts roots tables rows kept order lists no_rows one_list first no_lists sums numbered few some =
    subst (λ (r : List Row). IsLaid counts starts roots tables r kept order lists) (sym no_rows)
    (subst (λ (l : List (List (ℕ × Op))). IsLaid counts starts roots tables [] kept order l) (sym no_lists)
    (subst (λ (t : List ℕ). IsLaid counts starts roots t [] kept order []) (sym numbered) (record {
      graph = made_held counts roots few (λ e. absurd (let n = ap (λ (l : List Place). length l) e in omega (arith, n, some)));
      sums = sums;
      listed = refl;
      first = first;
      numbers = one_list;
    })))

module _ (counts starts : List ℕ) (roots : List Place) (tables : List ℕ) where
  pub record Edited (rows : List Row) (kept : List (List (ℕ × ℕ))) (order : ℕ) (lists : List (List (ℕ × Op))) (g : GraphView) : Type 0 where
    pub are : seen_graph counts roots tables rows lists ≡ g
    pub laid : IsLaid counts starts roots tables rows kept order lists

  edited :
      (rows : List Row) (kept : List (List (ℕ × ℕ))) (order : ℕ) (lists : List (List (ℕ × Op))) (g : GraphView) →
      seen_graph counts roots tables rows lists ≡ g → IsGraph g → AreStarts counts starts → length lists ≡ length rows → order ≡ 0 →
      kept ≡ kept_from 0 rows ∷ [] → Edited rows kept order lists g
  edited rows kept order lists g are graph sums listed first numbers = record {
    are = are;
    laid = record {
      graph = subst IsGraph (sym are) graph;
      sums = sums;
      listed = listed;
      first = first;
      numbers = numbers;
    };
  }

  seen_as :
      (labels labels' : List Place) (blocks blocks' : List Block) (touched touched' : List Place) → labels ≡ labels' → blocks ≡ blocks' → touched ≡ touched' →
      ◌≡◌ {A = GraphView} (record { counts = counts; roots = roots; tables = tables; labels = labels; blocks = blocks; touched = touched }) (record { counts = counts; roots = roots; tables = tables; labels = labels'; blocks = blocks'; touched = touched' })
  seen_as labels labels' blocks blocks' touched touched' a b c = rw (a, b, c) refl

  module _ (rows : List Row) (kept : List (List (ℕ × ℕ))) (order : ℕ) (lists : List (List (ℕ × Op))) (laid : IsLaid counts starts roots tables rows kept order lists) where
    -- an edit of a block that touches it and keeps its label
    touching :
        (b : ℕ) (r : Row) (o : Option Block) (items : List (ℕ × Op)) → LiveBlock rows b → r.label ≡ (row_at rows b).label → r.touched ≡ true →
        o ≡ Some (shown b (row_at rows b) items) → touched_of (set rows b r) ≡ touch_block o (touched_of rows)
    touching b r o items l same t e = touched_set rows b (row_at rows b) r laid.graph.labels l.is_at same t ∙ ap (λ (x : Option Block). touch_block x (touched_of rows)) (sym e)

    pub last_edited : (b : ℕ) (last : Last) → LiveBlock rows b → Edited (set rows b (ended_row last (row_at rows b))) kept order lists (last_set (seen_graph counts roots tables rows lists) b last)
    last_edited b last l =
        edited (set rows b (ended_row last (row_at rows b))) kept order lists (last_set (seen_graph counts roots tables rows lists) b last)
        (seen_as _ _ _ _ _ _
        (labels_same rows b (row_at rows b) (ended_row last (row_at rows b)) l.is_at refl)
        (sym (map_only (last_in b last) lists lists 0 rows b b (row_at rows b) (ended_row last (row_at rows b)) (omega arith) l.is_at refl
        (λ m k x e at ne. let t = ne_eqb m b ne in rw t refl) (let t = eq-eqb b b refl in rw t refl)))
        (touching b (ended_row last (row_at rows b)) (find (is_block b) (blocks_from lists 0 rows)) (get_or lists b []) l refl refl (block_is lists rows b l)))
        (last_set_held (seen_graph counts roots tables rows lists) b last laid.graph)
        laid.sums (laid.listed ∙ sym (length-set rows b (ended_row last (row_at rows b)))) laid.first
        (laid.numbers ∙ ap (λ (k : List (ℕ × ℕ)). k ∷ []) (sym (kept_same 0 rows b (row_at rows b) (ended_row last (row_at rows b)) l.is_at refl)))

    -- an edit of one block's ops
    list_edited :
        (f : Block → Block) (g : GraphView) (o : ℕ) (items : List (ℕ × Op)) → LiveOp lists rows o → HaveHomes lists →
        ((m : ℕ) (x : Row) → lookup (eqb o) (get_or lists m []) ≡ None → f (shown m x (get_or lists m [])) ≡ shown m x (get_or lists m [])) →
        f (shown (home o lists) (row_at rows (home o lists)) (get_or lists (home o lists) [])) ≡ shown (home o lists) (touched_row (row_at rows (home o lists))) items →
        g ≡ record (seen_graph counts roots tables rows lists) { blocks = map f (blocks_from lists 0 rows); touched = touch_block (find (holds_node o) (blocks_from lists 0 rows)) (touched_of rows) } →
        IsGraph g →
        Edited (set rows (home o lists) (touched_row (row_at rows (home o lists)))) kept order (set lists (home o lists) items) g
    list_edited f g o items l homes others here is graph =
        let within : home o lists < length lists = let w = l.block.within in let e = laid.listed in omega (arith, w, e) in
        let mine : get_or (set lists (home o lists) items) (home o lists) [] ≡ items = get_or-set_same lists (home o lists) items [] within in
        let blocks : map f (blocks_from lists 0 rows) ≡ blocks_from (set lists (home o lists) items) 0 (set rows (home o lists) (touched_row (row_at rows (home o lists)))) =
        map_only f lists (set lists (home o lists) items) 0 rows (home o lists) (home o lists) (row_at rows (home o lists)) (touched_row (row_at rows (home o lists))) (omega arith) l.block.is_at refl
        (λ m k x e at ne. others m x (elsewhere lists o homes m ne) ∙ ap (λ (i : List (ℕ × Op)). shown m x i) (sym (get_or-set_other lists (home o lists) m items [] ne)))
        (here ∙ ap (λ (i : List (ℕ × Op)). shown (home o lists) (touched_row (row_at rows (home o lists))) i) (sym mine)) in
        edited (set rows (home o lists) (touched_row (row_at rows (home o lists)))) kept order (set lists (home o lists) items) g
        (seen_as _ _ _ _ _ _
        (labels_same rows (home o lists) (row_at rows (home o lists)) (touched_row (row_at rows (home o lists))) l.block.is_at refl)
        (sym blocks)
        (touching (home o lists) (touched_row (row_at rows (home o lists))) (find (holds_node o) (blocks_from lists 0 rows)) (get_or lists (home o lists) []) l.block refl refl (op_block lists rows o homes l))
        ∙ sym is)
        graph laid.sums
        (length-set lists (home o lists) items ∙ laid.listed ∙ sym (length-set rows (home o lists) (touched_row (row_at rows (home o lists))))) laid.first
        (laid.numbers ∙ ap (λ (k : List (ℕ × ℕ)). k ∷ []) (sym (kept_same 0 rows (home o lists) (row_at rows (home o lists)) (touched_row (row_at rows (home o lists))) l.block.is_at refl)))

    pub kind_edited :
        (o : ℕ) (kind : OpKind) (op : Op) → LiveOp lists rows o → HaveHomes lists → AreApart (keys_of (get_or lists (home o lists) [])) →
        lookup (eqb o) (get_or lists (home o lists) []) ≡ Some op →
        Edited (set rows (home o lists) (touched_row (row_at rows (home o lists)))) kept order
        (set lists (home o lists) (with_value o (record op { kind = kind }) (get_or lists (home o lists) [])))
        (replaced (seen_graph counts roots tables rows lists) o kind)
    kind_edited o kind op l homes apart is =
        list_edited (replace_in o kind) (replaced (seen_graph counts roots tables rows lists) o kind) o (with_value o (record op { kind = kind }) (get_or lists (home o lists) [])) l homes
        (λ m x none. ap (λ (ns : List Node). record (shown m x (get_or lists m [])) { ops = ns }) (kind_none o kind (get_or lists m []) none))
        (ap (λ (ns : List Node). record (shown (home o lists) (row_at rows (home o lists)) (get_or lists (home o lists) [])) { ops = ns }) (kind_one o kind (get_or lists (home o lists) []) op apart is))
        refl (replaced_held (seen_graph counts roots tables rows lists) o kind laid.graph)

    pub op_deleted :
        (o : ℕ) → LiveOp lists rows o → HaveHomes lists → AreApart (keys_of (get_or lists (home o lists) [])) →
        Edited (set rows (home o lists) (touched_row (row_at rows (home o lists)))) kept order
        (set lists (home o lists) (without o (get_or lists (home o lists) [])))
        (deleted (seen_graph counts roots tables rows lists) o)
    op_deleted o l homes apart =
        list_edited (delete_in o) (deleted (seen_graph counts roots tables rows lists) o) o (without o (get_or lists (home o lists) [])) l homes
        (λ m x none. ap (λ (ns : List Node). record (shown m x (get_or lists m [])) { ops = ns }) (delete_none o (get_or lists m []) none))
        (ap (λ (ns : List Node). record (shown (home o lists) (row_at rows (home o lists)) (get_or lists (home o lists) [])) { ops = ns }) (delete_one o (get_or lists (home o lists) []) apart))
        refl (deleted_held (seen_graph counts roots tables rows lists) o laid.graph)

    pub block_dropped :
        (b k : ℕ) → LiveBlock rows b → (row_at rows b).kept ≡ Some k → AreApart (keys_of (kept_from 0 rows)) →
        Edited (set rows b (dropped_row (row_at rows b))) (without k (kept_from 0 rows) ∷ []) order lists (dropped (seen_graph counts roots tables rows lists) b)
    block_dropped b k l is apart =
        edited (set rows b (dropped_row (row_at rows b))) (without k (kept_from 0 rows) ∷ []) order lists (dropped (seen_graph counts roots tables rows lists) b)
        (seen_as _ _ _ _ _ _
        (labels_same rows b (row_at rows b) (dropped_row (row_at rows b)) l.is_at refl)
        (sym (filter_only (λ x. not (is_block b x)) lists 0 rows b b (row_at rows b) (dropped_row (row_at rows b)) (omega arith) l.is_at refl
        (λ m j x e at ne. let t = ne_eqb m b ne in rw t refl) (λ x items. let t = eq-eqb b b refl in rw t refl)))
        (touching b (dropped_row (row_at rows b)) (find (is_block b) (blocks_from lists 0 rows)) (get_or lists b []) l refl refl (block_is lists rows b l)))
        (dropped_held (seen_graph counts roots tables rows lists) b laid.graph)
        laid.sums (laid.listed ∙ sym (length-set rows b (dropped_row (row_at rows b)))) laid.first
        (ap (λ (k : List (ℕ × ℕ)). k ∷ []) (sym (kept_without 0 rows b (row_at rows b) (dropped_row (row_at rows b)) k l.is_at is refl apart)))

    blocks_cleared : (n : ℕ) (xs : List Row) → blocks_from lists n (map cleared_row xs) ≡ blocks_from lists n xs
    blocks_cleared n [] = refl
    blocks_cleared n (x ∷ xs) = let e = blocks_cleared (suc n) xs in rw e refl

    pub marks_cleared : Edited (map cleared_row rows) kept order lists (cleared (seen_graph counts roots tables rows lists))
    marks_cleared =
        edited (map cleared_row rows) kept order lists (cleared (seen_graph counts roots tables rows lists))
        (seen_as _ _ _ _ _ _ (labels_cleared rows) (blocks_cleared 0 rows) (touched_cleared rows))
        (cleared_held (seen_graph counts roots tables rows lists) laid.graph)
        laid.sums (laid.listed ∙ sym (length_map cleared_row rows)) laid.first
        (laid.numbers ∙ ap (λ (k : List (ℕ × ℕ)). k ∷ []) (sym (kept_cleared 0 rows)))

    -- ---- what is added

    -- an id that stands nowhere
    pub op_fresh : (o : ℕ) → lookup (eqb o) (get_or lists (home o lists) []) ≡ None → is_live_op (seen_graph counts roots tables rows lists) o ≡ false
    op_fresh o none = false_from_ne_true (is_live_op (seen_graph counts roots tables rows lists) o) held
      where
        held : is_live_op (seen_graph counts roots tables rows lists) o ≡ true → ⊥
        held e =
            let f = found (holds_node o) lists 0 rows e in
            true≢false (sym (sym (holds_is o (get_or lists f.number [])) ∙ f.passes) ∙ ap is_some (nowhere o lists none f.number))

    pub op_put :
        (b o : ℕ) (op : Op) → LiveBlock rows b → lookup (eqb o) (get_or lists (home o lists) []) ≡ None →
        Edited rows kept order (set lists b (get_or lists b [] ++ (o, op) ∷ [])) (op_added (seen_graph counts roots tables rows lists) b (node o op))
    op_put b o op l none =
        let within : b < length lists = let w = l.within in let e = laid.listed in omega (arith, w, e) in
        let mine = get_or-set_same lists b (get_or lists b [] ++ (o, op) ∷ []) [] within in
        let blocks : map (op_added_in b (node o op)) (blocks_from lists 0 rows) ≡ blocks_from (set lists b (get_or lists b [] ++ (o, op) ∷ [])) 0 (set rows b (row_at rows b)) =
        map_only (op_added_in b (node o op)) lists (set lists b (get_or lists b [] ++ (o, op) ∷ [])) 0 rows b b (row_at rows b) (row_at rows b) (omega arith) l.is_at refl
        (λ m k x e at ne. let t = ne_eqb m b ne in rw t (ap (λ (i : List (ℕ × Op)). shown m x i) (sym (get_or-set_other lists b m (get_or lists b [] ++ (o, op) ∷ []) [] ne))))
        (let t = eq-eqb b b refl in rw t (ap (λ (ns : List Node). record (shown b (row_at rows b) (get_or lists b [])) { ops = ns }) (sym (node_added (get_or lists b []) o op)) ∙ ap (λ (i : List (ℕ × Op)). shown b (row_at rows b) i) (sym mine))) in
        edited rows kept order (set lists b (get_or lists b [] ++ (o, op) ∷ [])) (op_added (seen_graph counts roots tables rows lists) b (node o op))
        (seen_as _ _ _ _ _ _ refl
        (ap (λ (xs : List Row). blocks_from (set lists b (get_or lists b [] ++ (o, op) ∷ [])) 0 xs) (sym (at_same rows b (row_at rows b) l.is_at)) ∙ sym blocks) refl)
        (op_added_held (seen_graph counts roots tables rows lists) b (node o op) laid.graph (op_fresh o none))
        laid.sums (length-set lists b (get_or lists b [] ++ (o, op) ∷ []) ∙ laid.listed) laid.first laid.numbers

    pub block_fresh : (n : ℕ) → n ≡ length lists → is_live_block (seen_graph counts roots tables rows lists) n ≡ false
    block_fresh n e = false_from_ne_true (is_live_block (seen_graph counts roots tables rows lists) n) held
      where
        held : is_live_block (seen_graph counts roots tables rows lists) n ≡ true → ⊥
        held t =
            let w = (live_block lists rows n t).within in
            let s = laid.listed in
            absurd (omega (arith, w, s, e))

    pub block_put :
        (n k : ℕ) (r : Row) → n ≡ length lists → r.touched ≡ false → r.kept ≡ Some k → r.last ≡ Off → IsAfter (labels_of rows) r.label →
        Edited (rows ++ r ∷ []) ((kept_from 0 rows ++ (k, n) ∷ []) ∷ []) order (lists ++ [] ∷ []) (block_added (seen_graph counts roots tables rows lists) n r.label r.opening)
    block_put n k r number t is off after =
        let count : n ≡ 0 + length rows = let s = laid.listed in omega (arith, s, number) in
        let empty : get_or (lists ++ [] ∷ []) n [] ≡ [] = one_more lists n ∙ past lists n (omega (arith, number)) in
        let blocks : blocks_from (lists ++ [] ∷ []) 0 (rows ++ r ∷ []) ≡ blocks_from lists 0 rows ++ record { id = n; label = r.label; opening = r.opening; ops = []; last = Off } ∷ [] =
        blocks_added (lists ++ [] ∷ []) 0 rows n r count
        ∙ (rw (is, off, empty) refl)
        ∙ ap (λ (bs : List Block). bs ++ record { id = n; label = r.label; opening = r.opening; ops = []; last = Off } ∷ []) (blocks_same (lists ++ [] ∷ []) lists 0 rows (λ m. one_more lists m)) in
        edited (rows ++ r ∷ []) ((kept_from 0 rows ++ (k, n) ∷ []) ∷ []) order (lists ++ [] ∷ []) (block_added (seen_graph counts roots tables rows lists) n r.label r.opening)
        (seen_as _ _ _ _ _ _ (labels_added rows r) blocks (touched_added rows r t))
        (block_added_held (seen_graph counts roots tables rows lists) n r.label r.opening laid.graph after (block_fresh n number))
        laid.sums (length_push lists [] ∙ ap (λ (m : ℕ). m + 1) laid.listed ∙ sym (length_push rows r)) laid.first
        (ap (λ (l : List (ℕ × ℕ)). l ∷ []) (sym (kept_added 0 rows n r count ∙ (rw is refl))))
