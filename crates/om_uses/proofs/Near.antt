-- Each edit changes its block alone, and touches it.
use Rattle.std.proofs.Common.{◌≡◌, inl, inr, ℕ, Bool, true, false, cond, ◌==◌, List, [], ◌∷◌, Option, Some, refl, sym, ap, subst, ◌∙◌}
use Rattle.std.specs.Prelude.{map, filter, find, is_some, not}
use Rattle.std.proofs.lemmas.Bool.{eqb-true}
use Rattle.om_value.specs.declared.value.Place.{Place}
use Rattle.om_value.specs.Same.{place_eq}
use Rattle.om_graph.specs.declared.op.OpKind.{OpKind}
use Rattle.om_graph.specs.declared.op.Last.{Last}
use Rattle.om_graph.specs.View.{Node, Block, GraphView, Has, touch, touch_block, place_lt, is_block, is_node, holds_node, block_of, block_with, is_live_block, is_live_op, kind_set, replace_in, delete_in, last_in, replaced, deleted, last_set, dropped, table_set}
use Rattle.om_graph.specs.Held.{IsGraph, node_ids}
use Rattle.om_graph.specs.Numbers.{number_of, AreNumbered}
use Rattle.om_graph.proofs.Labels.{same_place}
use Rattle.om_blocks.proofs.Walking.{a_some, found_block, not_same}
use Rattle.om_uses.specs.Parts.{Kept, IsAt, IsUsesOf, IsNearly}
use Rattle.om_uses.specs.Installed.{IsRoomier}
use Rattle.om_uses.proofs.Links.{blocks_apart, id_found, roomier_at}

-- ---- marks

touch_self : (p : Place) (ls : List Place) → Has (touch p ls) p
touch_self p [] = inl refl
touch_self p (l ∷ ls) = by_eq (place_eq p l) (place_lt p l) refl (touch_self p ls)
  where
    by_eq : (a b : Bool) → place_eq p l ≡ a → Has (touch p ls) p → Has (cond a (l ∷ ls) (cond b (p ∷ l ∷ ls) (l ∷ touch p ls))) p
    by_eq true b e again = inl (sym (same_place p l e))
    by_eq false true e again = inl refl
    by_eq false false e again = inr again

touch_more : (p q : Place) (ls : List Place) → Has ls q → Has (touch p ls) q
touch_more p q [] h = absurd h
touch_more p q (l ∷ ls) h = by_eq (place_eq p l) (place_lt p l) h (λ k. touch_more p q ls k)
  where
    by_eq : (a b : Bool) → Has (l ∷ ls) q → (Has ls q → Has (touch p ls) q) → Has (cond a (l ∷ ls) (cond b (p ∷ l ∷ ls) (l ∷ touch p ls))) q
    by_eq true b k again = k
    by_eq false true k again = inr k
    by_eq false false (inl e) again = inl e
    by_eq false false (inr k) again = inr (again k)

-- ---- lists

there_map : (f : Block → Block) (bs : List Block) (b : Block) → f b ≡ b → Has bs b → Has (map f bs) b
there_map f [] b same h = h
there_map f (c ∷ bs) b same (inl e) = inl (ap f e ∙ same)
there_map f (c ∷ bs) b same (inr h) = inr (there_map f bs b same h)

back_map : (f : Block → Block) (bs : List Block) (b : Block) → Has (map f bs) b → (c : Block) × Has bs c × (f c ≡ b)
back_map f [] b h = absurd h
back_map f (c ∷ bs) b (inl e) = (c, inl refl, e)
back_map f (c ∷ bs) b (inr h) = let k = back_map f bs b h in (k.0, inr k.1, k.2)

there_filter : (t : Block → Bool) (bs : List Block) (b : Block) → t b ≡ true → Has bs b → Has (filter t bs) b
there_filter t [] b e h = h
there_filter t (c ∷ bs) b e (inl s) = by_test (t c) refl
  where
    by_test : (v : Bool) → t c ≡ v → Has (cond v (c ∷ filter t bs) (filter t bs)) b
    by_test true f = inl s
    by_test false f = let g : t b ≡ false = ap t (sym s) ∙ f in cc
there_filter t (c ∷ bs) b e (inr h) = by_test (t c) (there_filter t bs b e h)
  where
    by_test : (v : Bool) → Has (filter t bs) b → Has (cond v (c ∷ filter t bs) (filter t bs)) b
    by_test true k = inr k
    by_test false k = k

back_filter : (t : Block → Bool) (bs : List Block) (b : Block) → Has (filter t bs) b → Has bs b
back_filter t [] b h = h
back_filter t (c ∷ bs) b h = by_test (t c) h (λ k. back_filter t bs b k)
  where
    by_test : (v : Bool) → Has (cond v (c ∷ filter t bs) (filter t bs)) b → (Has (filter t bs) b → Has bs b) → Has (c ∷ bs) b
    by_test true (inl e) again = inl e
    by_test true (inr k) again = inr (again k)
    by_test false k again = inr (again k)

-- ---- blocks without the op

other_node : (id : ℕ) (n : Node) (ns : List Node) → (Has (node_ids (n ∷ ns)) id → ⊥) → (n.id == id) ≡ false
other_node id n ns out = not_same n.id id (λ e. out (inl e))

kinds_same : (id : ℕ) (kind : OpKind) (ns : List Node) → (Has (node_ids ns) id → ⊥) → map (kind_set id kind) ns ≡ ns
kinds_same id kind [] out = refl
kinds_same id kind (n ∷ ns) out =
    let e = other_node id n ns out in
    let k = kinds_same id kind ns (λ h. out (inr h)) in
    rw (e, k) refl

none_deleted : (id : ℕ) (ns : List Node) → (Has (node_ids ns) id → ⊥) → filter (λ n. not (is_node id n)) ns ≡ ns
none_deleted id [] out = refl
none_deleted id (n ∷ ns) out =
    let e = other_node id n ns out in
    let k = none_deleted id ns (λ h. out (inr h)) in
    rw (e, k) refl

found_node : (id : ℕ) (ns : List Node) → is_some (find (is_node id) ns) ≡ true → Has (node_ids ns) id
found_node id [] e = cc
found_node id (n ∷ ns) e = by_test (n.id == id) refl e (λ f. found_node id ns f)
  where
    by_test : (t : Bool) → (n.id == id) ≡ t → is_some (cond t (Some n) (find (is_node id) ns)) ≡ true → (is_some (find (is_node id) ns) ≡ true → Has (node_ids ns) id) → Has (node_ids (n ∷ ns)) id
    by_test true t f again = inl (eqb-true n.id id t)
    by_test false t f again = inr (again f)

block_has : (id : ℕ) (bs : List Block) (x : Block) → find (holds_node id) bs ≡ Some x → Has bs x × Has (node_ids x.ops) id
block_has id [] x e = cc
block_has id (b ∷ bs) x e = by_test (holds_node id b) refl e (λ f. block_has id bs x f)
  where
    by_test : (t : Bool) → holds_node id b ≡ t → cond t (Some b) (find (holds_node id) bs) ≡ Some x → (find (holds_node id) bs ≡ Some x → Has bs x × Has (node_ids x.ops) id) → Has (b ∷ bs) x × Has (node_ids x.ops) id
    by_test true t f again =
        let s : b ≡ x = cc in
        (inl s, subst (λ (y : Block). Has (node_ids y.ops) id) s (found_node id b.ops t))
    by_test false t f again = let k = again f in (inr k.0, k.1)

-- ---- the edits

-- one block was touched, and others stayed
near_by :
    (g h : GraphView) (u : Kept) (x : Block) → ((q : Place) → number_of h q ≡ number_of g q) → ((q : Place) → Has g.touched q → Has h.touched q) → Has h.touched x.label →
    number_of g x.label ≡ Some x.id → ((b : Block) → Has g.blocks b → (b.id ≡ x.id → ⊥) → Has h.blocks b) → ((b : Block) → Has h.blocks b → (b.id ≡ x.id → ⊥) → Has g.blocks b) →
    IsNearly g u → IsNearly h u
near_by g h u x labels more marked number there back near = record { others = λ j untouched. at j untouched }
  where
    at : (j : ℕ) → ((q : Place) → Has h.touched q → number_of h q ≡ Some j → ⊥) → IsAt h u j
    at j untouched =
        let old = near.others j (λ q m e. untouched q (more q m) (labels q ∙ e)) in
        record {
          kept = λ b m e. old.kept b (back b m (λ s. other (sym e ∙ s))) e;
          gone = λ none. old.gone (λ b m e. none b (there b m (λ s. other (sym e ∙ s))) e);
        }
      where
        other : j ≡ x.id → ⊥
        other e = untouched x.label marked (labels x.label ∙ number ∙ ap (λ (i : ℕ). Some i) (sym e))

pub start_near : (g : GraphView) (u : Kept) → IsUsesOf g u → IsNearly g u
start_near g u is = record { others = λ j untouched. is.all j }

pub replaced_near : (g : GraphView) (u : Kept) (id : ℕ) (kind : OpKind) → IsGraph g → AreNumbered g → is_live_op g id ≡ true → IsNearly g u → IsNearly (replaced g id kind) u
replaced_near g u id kind graph numbered live near =
    near_by g (replaced g id kind) u x.0 (λ q. refl) (λ q h. subst (λ (o : Option Block). Has (touch_block o g.touched) q) (sym x.1) (touch_more x.0.label q g.touched h))
    (subst (λ (o : Option Block). Has (touch_block o g.touched) x.0.label) (sym x.1) (touch_self x.0.label g.touched))
    (numbered x.0 among.0)
    (λ b h differs. there_map (replace_in id kind) g.blocks b (same b h differs) h)
    (λ b h differs. let c = back_map (replace_in id kind) g.blocks b h in
    let e : c.0.id ≡ b.id = ap (λ (y : Block). y.id) c.2 in
    subst (λ (y : Block). Has g.blocks y) (sym (same c.0 c.1 (λ s. differs (sym e ∙ s))) ∙ c.2) c.1)
    near
  where
    x : (b : Block) × (block_with g id ≡ Some b)
    x = a_some (block_with g id) live

    among : Has g.blocks x.0 × Has (node_ids x.0.ops) id
    among = block_has id g.blocks x.0 x.1

    same : (b : Block) → Has g.blocks b → (b.id ≡ x.0.id → ⊥) → replace_in id kind b ≡ b
    same b h differs = ap (λ (l : List Node). record b { ops = l }) (kinds_same id kind b.ops (λ k. blocks_apart g.blocks b x.0 id graph.op_ids h among.0 differs k among.1))

pub deleted_near : (g : GraphView) (u : Kept) (id : ℕ) → IsGraph g → AreNumbered g → is_live_op g id ≡ true → IsNearly g u → IsNearly (deleted g id) u
deleted_near g u id graph numbered live near =
    near_by g (deleted g id) u x.0 (λ q. refl) (λ q h. subst (λ (o : Option Block). Has (touch_block o g.touched) q) (sym x.1) (touch_more x.0.label q g.touched h))
    (subst (λ (o : Option Block). Has (touch_block o g.touched) x.0.label) (sym x.1) (touch_self x.0.label g.touched))
    (numbered x.0 among.0)
    (λ b h differs. there_map (delete_in id) g.blocks b (same b h differs) h)
    (λ b h differs. let c = back_map (delete_in id) g.blocks b h in
    let e : c.0.id ≡ b.id = ap (λ (y : Block). y.id) c.2 in
    subst (λ (y : Block). Has g.blocks y) (sym (same c.0 c.1 (λ s. differs (sym e ∙ s))) ∙ c.2) c.1)
    near
  where
    x : (b : Block) × (block_with g id ≡ Some b)
    x = a_some (block_with g id) live

    among : Has g.blocks x.0 × Has (node_ids x.0.ops) id
    among = block_has id g.blocks x.0 x.1

    same : (b : Block) → Has g.blocks b → (b.id ≡ x.0.id → ⊥) → delete_in id b ≡ b
    same b h differs = ap (λ (l : List Node). record b { ops = l }) (none_deleted id b.ops (λ k. blocks_apart g.blocks b x.0 id graph.op_ids h among.0 differs k among.1))

pub last_set_near : (g : GraphView) (u : Kept) (id : ℕ) (last : Last) → IsGraph g → AreNumbered g → is_live_block g id ≡ true → IsNearly g u → IsNearly (last_set g id last) u
last_set_near g u id last graph numbered live near =
    near_by g (last_set g id last) u x.0 (λ q. refl) (λ q h. subst (λ (o : Option Block). Has (touch_block o g.touched) q) (sym x.1) (touch_more x.0.label q g.touched h))
    (subst (λ (o : Option Block). Has (touch_block o g.touched) x.0.label) (sym x.1) (touch_self x.0.label g.touched))
    (numbered x.0 (found_block g.blocks id x.0 x.1))
    (λ b h differs. there_map (last_in id last) g.blocks b (same b (λ e. differs (e ∙ sym is_id))) h)
    (λ b h differs. let c = back_map (last_in id last) g.blocks b h in
    let e : c.0.id ≡ b.id = sym (id_kept c.0) ∙ ap (λ (y : Block). y.id) c.2 in
    subst (λ (y : Block). Has g.blocks y) (sym (same c.0 (λ s. differs (sym e ∙ s ∙ sym is_id))) ∙ c.2) c.1)
    near
  where
    x : (b : Block) × (block_of g id ≡ Some b)
    x = a_some (block_of g id) live

    is_id : x.0.id ≡ id
    is_id = id_found id g.blocks x.0 x.1

    same : (b : Block) → (b.id ≡ id → ⊥) → last_in id last b ≡ b
    same b differs = let e = not_same b.id id differs in rw e refl

    id_kept : (b : Block) → (last_in id last b).id ≡ b.id
    id_kept b = by_test (b.id == id)
      where
        by_test : (t : Bool) → (cond t (record b { last = last }) b).id ≡ b.id
        by_test true = refl
        by_test false = refl

pub dropped_near : (g : GraphView) (u : Kept) (id : ℕ) → IsGraph g → AreNumbered g → is_live_block g id ≡ true → IsNearly g u → IsNearly (dropped g id) u
dropped_near g u id graph numbered live near =
    near_by g (dropped g id) u x.0 (λ q. refl) (λ q h. subst (λ (o : Option Block). Has (touch_block o g.touched) q) (sym x.1) (touch_more x.0.label q g.touched h))
    (subst (λ (o : Option Block). Has (touch_block o g.touched) x.0.label) (sym x.1) (touch_self x.0.label g.touched))
    (numbered x.0 (found_block g.blocks id x.0 x.1))
    (λ b h differs. there_filter (λ c. not (is_block id c)) g.blocks b (let e = not_same b.id id (λ s. differs (s ∙ sym is_id)) in rw e refl) h)
    (λ b h differs. back_filter (λ c. not (is_block id c)) g.blocks b h)
    near
  where
    x : (b : Block) × (block_of g id ≡ Some b)
    x = a_some (block_of g id) live

    is_id : x.0.id ≡ id
    is_id = id_found id g.blocks x.0 x.1

pub table_set_near : (g : GraphView) (u : Kept) (obj table : ℕ) → IsNearly g u → IsNearly (table_set g obj table) u
table_set_near g u obj table near = record {
  others = λ j untouched.
      let old = near.others j untouched in
      record { kept = old.kept; gone = old.gone };
}

pub room_near : (g : GraphView) (u v : Kept) → IsGraph g → IsRoomier u v → IsNearly g u → IsNearly g v
room_near g u v graph roomier near = record { others = λ j untouched. roomier_at g graph u v j roomier (near.others j untouched) }
