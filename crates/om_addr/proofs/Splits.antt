-- Far loads made LDAH: where blocks and their ops stand stays, and what is left of far loads where none was made LDAH.
use Rattle.std.proofs.Common.{◌≡◌, ◌⊎◌, inl, inr, ◌<◌, ℕ, Bool, true, false, ◌==◌, List, [], ◌∷◌, ◌++◌, map, Option, Some, None, refl, sym, ap, ◌∙◌, subst}
use Rattle.std.specs.Prelude.{ℤ, ◌↔◌, get_or, FitsSigned}
use Rattle.std.specs.Int.{w16, bit_at}
use Rattle.std.proofs.lemmas.Bool.{true≢false, eqb-true, eq-eqb}
use Rattle.om_value.specs.declared.value.Place.{Place}
use Rattle.om_value.specs.declared.value.Region.{Region}
use Rattle.om_value.specs.declared.value.Target.TheVariants as target
use Rattle.om_prog.specs.Act.{Word}
use Rattle.om_prog.specs.View.{ProgramView}
use Rattle.om_prog.specs.Valid.{IsProgram}
use Rattle.om_graph.specs.declared.op.Op.{Op}
use Rattle.om_graph.specs.declared.op.OpKind.{OpKind}
use Rattle.om_graph.specs.View.{Node, Block, GraphView, Has, ops_of, block_of, block_with, op_of, next_op_of, first_id, replace_in, replaced}
use Rattle.om_graph.specs.Held.{IsGraph, node_ids}
use Rattle.om_graph.specs.Run.{op_word, block_words, last_words}
use Rattle.om_graph.specs.Outs.{outs_of}
use Rattle.om_graph.specs.Left.{IsFarLoad}
use Rattle.om_blocks.specs.Found.{masks_in}
use Rattle.om_blocks.proofs.Walking.{found_block, found_here}
use Rattle.om_blocks.proofs.OnFilling.{found_id}
use Rattle.om_blocks.proofs.LastWords.{has_both}
use Rattle.om_uses.specs.Scans.{has_bit}
use Rattle.om_live.specs.Outs.{IsOut, AreOuts}
use Rattle.om_layout.specs.Layout.{LayoutView, gp_of, address_of}
use Rattle.om_passes.specs.OneEdit.{MayGoOn}
use Rattle.om_passes.specs.Replaces.{OpEdit, all_replaced}
use Rattle.om_addr.specs.declared.loads.Load.{Load}
use Rattle.om_addr.specs.Passing.{HasRegionsOf}
use Rattle.om_addr.specs.Loads.{HasPointer}
use Rattle.om_addr.specs.Near.{IsSaid}
use Rattle.om_addr.specs.Done.{load_at}
use Rattle.om_addr.specs.FarRow.{edits_of}
use Rattle.om_addr.specs.FarTest.{half_kind, writes_it}
use Rattle.om_addr.specs.FarEdit.{half_of, IsFarEdit, IsDeadAtEnd, NoFarOf}
use Rattle.om_addr.specs.FarDone.{IsFarDone}
use Rattle.om_addr.specs.Split.{Home, home_of, homes, KeepsEnds, IsOutAt, IsUnsplit, IsLoadSplit, IsOpSplit, IsAllSplit}
use Rattle.om_addr.proofs.AllDone.{node_split, node_of_word, no_last, load_in_is, load_of}
use Rattle.om_addr.proofs.OutsStay.{far_outs}
use Rattle.om_addr.proofs.Walking.{At, is_op, op_is, next_is, node_ids_set}

-- ---- what an edit keeps

homes_set : (id : ℕ) (kind : OpKind) (bs : List Block) → homes (map (replace_in id kind) bs) ≡ homes bs
homes_set id kind [] = refl
homes_set id kind (b ∷ bs) =
    ap (λ (ids : List ℕ). record { id = b.id; label = b.label; ops = ids } ∷ homes (map (replace_in id kind) bs)) (node_ids_set id kind b.ops)
    ∙ ap (λ (hs : List Home). home_of b ∷ hs) (homes_set id kind bs)

homes_all : (g : GraphView) (es : List OpEdit) → homes (all_replaced g es).blocks ≡ homes g.blocks
homes_all g [] = refl
homes_all g (e ∷ es) = homes_all (replaced g e.id e.kind) es ∙ homes_set e.id e.kind g.blocks

pub far_ends : (g new : GraphView) → IsGraph g → (load : Load) (least : ℤ) → HasPointer load → IsFarEdit load least g new → KeepsEnds g new
far_ends g new graph load least pointer far = record {
  outs = far_outs g new graph load least pointer far;
  blocks =
      subst (λ (h : GraphView). homes h.blocks ≡ homes g.blocks) (sym far.set)
      (homes_all g (edits_of (half_kind load.ra far.place) (writes_it load.ra) far.behind ++ record { id = load.id; kind = half_of load least } ∷ []));
}

pub same_ends : (g : GraphView) → KeepsEnds g g
same_ends g = record { outs = λ masks label r. refl; blocks = refl }

pub ends_both : (a b c : GraphView) → KeepsEnds a b → KeepsEnds b c → KeepsEnds a c
ends_both a b c x y = record { outs = λ masks label r. y.outs masks label r ∙ x.outs masks label r; blocks = y.blocks ∙ x.blocks }

-- ---- a block and its ops are where they were

first_home : (x y : Home) (xs ys : List Home) → x ∷ xs ≡ y ∷ ys → x ≡ y
first_home x y xs ys e = cc

other_homes : (x y : Home) (xs ys : List Home) → x ∷ xs ≡ y ∷ ys → xs ≡ ys
other_homes x y xs ys e = cc

-- the block that one of another graph was
pub block_still : (bs cs : List Block) → homes cs ≡ homes bs → (y : Block) → Has cs y → (x : Block) × Has bs x × (home_of y ≡ home_of x)
block_still bs [] e y h = absurd h
block_still [] (c ∷ cs) e y h = cc
block_still (b ∷ bs) (c ∷ cs) e y (inl f) = (b, inl refl, sym (ap home_of f) ∙ first_home (home_of c) (home_of b) (homes cs) (homes bs) e)
block_still (b ∷ bs) (c ∷ cs) e y (inr h) =
    let r = block_still bs cs (other_homes (home_of c) (home_of b) (homes cs) (homes bs) e) y h in
    (r.0, inr r.1, r.2)

pub out_stays : (old now : GraphView) → KeepsEnds old now → (masks : List ℕ) (id out : ℕ) → IsOutAt old masks id out → IsOutAt now masks id out
out_stays old now keeps masks id out is y h e =
    let x = block_still old.blocks now.blocks keeps.blocks y h in
    let i : (x.0).id ≡ id = sym (ap (λ (z : Home). z.id) x.2) ∙ e in
    let same : (r : ℕ) → outs_of now (masks_in now masks) y.label r ≡ outs_of old (masks_in old masks) (x.0).label r =
    λ r. keeps.outs masks y.label r ∙ ap (λ (q : Place). outs_of old (masks_in old masks) q r) (ap (λ (z : Home). z.label) x.2) in
    λ r s. subst (λ (t : Bool). (bit_at out r ≡ 1) ↔ (t ≡ true)) (sym (same r)) (is x.0 x.1 i r s)

-- the registers of a block, by its number
pub out_read :
    (old now : GraphView) (masks outs : List ℕ) → AreOuts old (masks_in old masks) old.blocks outs → KeepsEnds old now → (b k : ℕ) → k ≡ b → IsOutAt now masks b (get_or outs k 0)
out_read old now masks outs are keeps b k e =
    out_stays old now keeps masks b (get_or outs k 0) (λ y h f. subst (λ (i : ℕ). IsOut old (masks_in old masks) y.label (get_or outs i 0)) (f ∙ sym e) (are.each y h))

first_number : (x y : ℕ) (xs ys : List ℕ) → x ∷ xs ≡ y ∷ ys → x ≡ y
first_number x y xs ys e = cc

other_numbers : (x y : ℕ) (xs ys : List ℕ) → x ∷ xs ≡ y ∷ ys → xs ≡ ys
other_numbers x y xs ys e = cc

first_same : (ns ms : List Node) → node_ids ns ≡ node_ids ms → first_id ns ≡ first_id ms
first_same [] [] e = refl
first_same [] (m ∷ ms) e = cc
first_same (n ∷ ns) [] e = cc
first_same (n ∷ ns) (m ∷ ms) e = ap (λ (i : ℕ). Some i) (first_number n.id m.id (node_ids ns) (node_ids ms) e)

-- an op among ops of the same ids
record Among (ns : List Node) (m : Node) (rest : List Node) : Type 0 where
  before : List Node
  node : Node
  behind : List Node
  stands : ns ≡ before ++ node ∷ behind
  is_id : node.id ≡ m.id
  next : first_id behind ≡ first_id rest

among_ids : (ns done : List Node) (m : Node) (rest : List Node) → node_ids ns ≡ node_ids (done ++ m ∷ rest) → Among ns m rest
among_ids [] [] m rest e = cc
among_ids [] (d ∷ done) m rest e = cc
among_ids (n ∷ ns) [] m rest e = record {
  before = [];
  node = n;
  behind = ns;
  stands = refl;
  is_id = first_number n.id m.id (node_ids ns) (node_ids rest) e;
  next = first_same ns rest (other_numbers n.id m.id (node_ids ns) (node_ids rest) e);
}
among_ids (n ∷ ns) (d ∷ done) m rest e =
    let a = among_ids ns done m rest (other_numbers n.id d.id (node_ids ns) (node_ids (done ++ m ∷ rest)) e) in
    record { before = n ∷ a.before; node = a.node; behind = a.behind; stands = ap (λ (l : List Node). n ∷ l) a.stands; is_id = a.is_id; next = a.next }

-- an op in its block, with what stands behind it
pub record IsInBlock (g : GraphView) (b : ℕ) (m : Node) (rest : List Node) : Type 0 where
  pub inside : block_with g m.id ≡ block_of g b
  pub next : next_op_of g m.id ≡ first_id rest

pub op_still : (old now : GraphView) → IsGraph now → KeepsEnds old now → (b : ℕ) (x : Block) → block_of old b ≡ Some x → (done : List Node) (m : Node) (rest : List Node) → x.ops ≡ done ++ m ∷ rest → IsInBlock now b m rest
op_still old now graph keeps b x is done m rest all = record {
  inside = ap (block_with now) (sym a.is_id) ∙ (is_op now graph a.node at).block ∙ sym (found_here now graph y.0 b y.1 here).0;
  next = ap (next_op_of now) (sym a.is_id) ∙ next_is now graph a.node at ∙ a.next;
}
  where
    y : (y : Block) × Has now.blocks y × (home_of x ≡ home_of y)
    y = block_still now.blocks old.blocks (sym keeps.blocks) x (found_block old.blocks b x is)

    here : (y.0).id ≡ b
    here = sym (ap (λ (z : Home). z.id) y.2) ∙ found_id old.blocks b x is

    a : Among (y.0).ops m rest
    a = among_ids (y.0).ops done m rest (sym (ap (λ (z : Home). z.ops) y.2) ∙ ap node_ids all)

    at : At now a.node
    at = record { block = y.0; among = y.1; before = a.before; behind = a.behind; stands = a.stands }

-- ---- the register of a load behind its block

bit_not : (out r : ℕ) → (bit_at out r ≡ 1 → ⊥) → has_bit out r ≡ false
bit_not out r h = by_test (bit_at out r == 1) refl
  where
    by_test : (t : Bool) → (bit_at out r == 1) ≡ t → t ≡ false
    by_test true e = absurd (h (eqb-true (bit_at out r) 1 e))
    by_test false e = refl

pub dead_at :
    (g : GraphView) → IsGraph g → (masks : List ℕ) (b out : ℕ) (load : Load) → block_with g load.id ≡ block_of g b → IsOutAt g masks b out → load.ra < 31 → has_bit out load.ra ≡ false → IsDeadAtEnd masks g load
dead_at g graph masks b out load inside is small dead = record { unread = unread }
  where
    unread : (y : Block) (n : Node) → Has g.blocks y → Has y.ops n → n.id ≡ load.id → outs_of g (masks_in g masks) y.label load.ra ≡ false
    unread y n hy hn e = by_test (outs_of g (masks_in g masks) y.label load.ra) refl
      where
        k : (xs : List Node) × (ys : List Node) × (y.ops ≡ xs ++ n ∷ ys)
        k = node_split y.ops n hn

        at : At g n
        at = record { block = y; among = hy; before = k.0; behind = k.1; stands = k.2 }

        id_is : y.id ≡ b
        id_is = found_id g.blocks b y (sym inside ∙ ap (block_with g) (sym e) ∙ (is_op g graph n at).block)

        by_test : (t : Bool) → outs_of g (masks_in g masks) y.label load.ra ≡ t → t ≡ false
        by_test false f = refl
        by_test true f = absurd (true≢false (sym (eq-eqb (bit_at out load.ra) 1 ((is y hy id_is load.ra small).1 f)) ∙ dead))

-- ---- what is left

-- a load of no pointer that lies in its region
pub none_outside : (l : LayoutView) (g : GraphView) (load : Load) (live : Bool) → IsSaid l load None → NoFarOf l g load live
none_outside l g load live said = record { loads = λ p b w region x prog m h k t f fits dead. said p h region x t f.inside }

pub unsplit : (l : LayoutView) (out : ℕ) (old new : GraphView) (load : Load) (live : Bool) → load.ra < 31 → new ≡ old → live ≡ has_bit out load.ra → NoFarOf l old load live → IsUnsplit l out new load
unsplit l out old new load live small e f none = record {
  small = small;
  none = subst (λ (g : GraphView). NoFarOf l g load (has_bit out load.ra)) (sym e) (subst (λ (t : Bool). NoFarOf l old load t) f none);
}

pub op_split : (l : LayoutView) (out : ℕ) (g : GraphView) (id : ℕ) (x : Op) (o : Option Load) → op_of g id ≡ Some x → o ≡ load_at id x → ((load : Load) → o ≡ Some load → IsLoadSplit l out g load) → IsOpSplit l out g id
op_split l out g id x o e f done y load h k =
    done load (f ∙ subst (λ (z : Op). load_at id z ≡ Some load) (some_op y x (sym h ∙ e)) k)
  where
    some_op : (a b : Op) → Some a ≡ Some b → a ≡ b
    some_op a b e = cc

pub far_done : (l : LayoutView) (masks outs : List ℕ) (g : GraphView) → IsGraph g → AreOuts g (masks_in g masks) g.blocks outs → IsAllSplit l outs g → IsFarDone l masks g
far_done l masks outs g graph are all = record { far = λ p prog m regions. record { loads = loads p prog m regions } }
  where
    loads :
        (p : ProgramView) → IsProgram p → MayGoOn p g → HasRegionsOf p l → (b : Block) (w : Word) (r rb x : ℕ) (region : Region) → Has g.blocks b → Has (block_words b) w →
        (f : IsFarLoad p (gp_of l) (address_of l) (block_words b) w r rb x region) → FitsSigned w16 f.hi → (r < 31 → outs_of g (masks_in g masks) b.label r ≡ false) → ⊥
    loads p prog m regions b w r rb x region hb hw f fits dead = by_part (has_both (map (op_word (ops_of b)) (ops_of b)) (last_words b.last) w hw)
      where
        by_part : Has (map (op_word (ops_of b)) (ops_of b)) w ⊎ Has (last_words b.last) w → ⊥
        by_part (inr h) = no_last b.last w true r rb (target.Ptr region x) h f.loads
        by_part (inl h) =
            let n = node_of_word (ops_of b) b.ops w h in
            let k = node_split b.ops n.0 n.1 in
            let at : At g n.0 = record { block = b; among = hb; before = k.0; behind = k.1; stands = k.2 } in
            let is = load_in_is (ops_of b) (n.0).op.kind (n.0).id (n.0).op.place.obj true r rb (target.Ptr region x) (ap (λ (y : Word). y.act) n.2 ∙ f.loads) in
            let s = all b hb b n.0 (found_here g graph b b.id hb refl).0 n.1 (n.0).op (load_of (n.0).id (n.0).op.place.obj true r rb (target.Ptr region x)) (op_is g graph n.0 at) is refl f.least_use.2.register in
            s.none.loads p b w region x prog m regions (record { among = hb; node = n.0; inside = n.1; is_id = refl; word = sym n.2 }) refl f fits
            (bit_not (get_or outs b.id 0) r (λ e. true≢false (sym ((are.each b hb r s.small).0 e) ∙ dead s.small)))
