-- The walks over the uses of a load.
use Rattle.std.proofs.Common.{◌≡◌, ◌<◌, ℕ, Bool, true, false, cond, ◌==◌, List, [], ◌∷◌, ◌++◌, Option, Some, None, IfSome, IsTrue, refl, sym, ap, ◌∙◌, subst, arith}
use Rattle.std.specs.Prelude.{ℤ, option_map}
use Rattle.std.proofs.lemmas.Int.{ints}
use Rattle.om_isa.specs.Registers.{mask_of}
use Rattle.om_prog.specs.Facts.{has}
use Rattle.om_graph.specs.declared.op.Op.{Op}
use Rattle.om_graph.specs.declared.op.OpKind.{OpKind}
use Rattle.om_graph.specs.declared.op.Last.{Last}
use Rattle.om_graph.specs.View.{Node, Block, GraphView, Has, op_of, next_op_of, first_id, block_of, block_with, last_of, is_live_op}
use Rattle.om_graph.specs.Held.{IsGraph, op_ids}
use Rattle.om_value.specs.declared.value.Place.{Place}
use Rattle.om_blocks.specs.Effects.{kind_reads, kind_writes, last_reads}
use Rattle.om_blocks.proofs.Walking.{assoc, some_is, none_left, no_more, found_block}
use Rattle.om_uses.specs.Scans.{has_bit}
use Rattle.om_uses.proofs.Reading.{bit_has}
use Rattle.om_addr.specs.declared.far.Bases.{Bases}
use Rattle.om_addr.specs.FarTest.{base_of_kind, half_kind, writes_it}
use Rattle.om_addr.specs.FarEdit.{no_bases, unless, with_op, followed, bases_from, AreShort, AllShort, AreBasesOf}
use Rattle.std.specs.Prelude.{is_some, find, map}
use Rattle.om_graph.specs.View.{holds_node, is_node, kind_set, replace_in, replaced}
use Rattle.om_passes.specs.Replaces.{OpEdit, all_replaced}
use Rattle.om_addr.specs.declared.loads.Load.{Load}
use Rattle.om_addr.specs.Passing.{set_if}
use Rattle.om_addr.specs.Loads.{load_kind, IsLoadOf}
use Rattle.om_addr.specs.FarRow.{edits_of, AreSetBehind}
use Rattle.om_addr.specs.FarEdit.{half_of, IsFarEdit}
use Rattle.om_addr.proofs.FarRow.{Setting, Set, set_one, setting_begins, setting_goes_on, setting_fewer, setting_stops, setting_ends}
use Rattle.om_addr.proofs.Walking.{At, op_there, op_is, next_is, is_op, op_ids_set, fewer_left, ops_left}

-- the walk that sets halves
pub record OnHalves (old now : GraphView) (id r : ℕ) (hi : Place) (next : Option ℕ) : Type 0 where
  pub setting : Setting (half_kind r hi) (writes_it r) old now id next
  pub live : IfSome next (λ o. IsTrue (is_live_op now o))

-- the walk that finds displacements: what is left of the block tells what all of it tells
pub record OnBases (g : GraphView) (id r : ℕ) (next : Option ℕ) (a : Bases) : Type 0 where
  pub block : Block
  pub among : Has g.blocks block
  pub before : List Node
  pub node : Node
  pub behind : List Node
  pub stands : block.ops ≡ before ++ node ∷ behind
  pub is_id : node.id ≡ id
  pub done : List Node
  pub left : List Node
  pub is : block.ops ≡ done ++ left
  pub at : next ≡ first_id left
  pub live : IfSome next (λ o. IsTrue (is_live_op g o))
  pub rest : bases_from r block.last left a ≡ bases_from r block.last behind no_bases
  pub short : AreShort a

pub bases_begin : (g : GraphView) (id r : ℕ) (x : Op) (next : Option ℕ) → IsGraph g → op_of g id ≡ Some x → next ≡ next_op_of g id → IfSome next (λ o. IsTrue (is_live_op g o)) → OnBases g id r next no_bases
bases_begin g id r x next graph e n live =
    let t = op_there g id x graph e in
    record {
      block = t.at.block;
      among = t.at.among;
      before = t.at.before;
      node = t.node;
      behind = t.at.behind;
      stands = t.at.stands;
      is_id = t.is_id;
      done = t.at.before ++ t.node ∷ [];
      left = t.at.behind;
      is = t.at.stands ∙ sym (assoc t.at.before (t.node ∷ []) t.at.behind);
      at = n ∙ ap (next_op_of g) (sym t.is_id) ∙ next_is g graph t.node t.at;
      live = live;
      rest = refl;
      short = record { least = omega (arith, ints); most = omega (arith, ints) };
    }

module _ (g : GraphView) (graph : IsGraph g) (id r : ℕ) (small : r < 31) where
  -- the op that is next
  record Next (o : ℕ) (y : Op) (a : Bases) (on : OnBases g id r (Some o) a) : Type 0 where
    node : Node
    more : List Node
    left : on.left ≡ node ∷ more
    is_id : node.id ≡ o
    is_op : node.op ≡ y
    at : At g node
    at_behind : at.behind ≡ more

  next_base : (o : ℕ) (y : Op) (a : Bases) (on : OnBases g id r (Some o) a) → op_of g o ≡ Some y → Next o y a on
  next_base o y a on e = by_left on.left refl on.at
    where
      by_left : (left : List Node) → on.left ≡ left → Some o ≡ first_id left → Next o y a on
      by_left [] l h = cc
      by_left (n ∷ more) l h =
          let same : n.id ≡ o = sym (some_is o n.id h) in
          let at : At g n = record { block = on.block; among = on.among; before = on.done; behind = more; stands = on.is ∙ ap (λ (z : List Node). on.done ++ z) l } in
          record { node = n; more = more; left = l; is_id = same; is_op = some_op n.op y (sym (op_is g graph n at) ∙ ap (op_of g) same ∙ e); at = at; at_behind = refl }
        where
          some_op : (a b : Op) → Some a ≡ Some b → a ≡ b
          some_op a b e = cc

  -- what is left, by the op that is next
  rest_is :
      (o : ℕ) (y : Op) (a : Bases) (on : OnBases g id r (Some o) a) (n : Next o y a on) (b : Option Bases) → b ≡ with_op (base_of_kind r y.kind) (has_bit (mask_of (kind_reads y.kind)) r) a →
      followed b (λ c. cond (has_bit (mask_of (kind_writes y.kind)) r) (Some c) (bases_from r on.block.last n.more c)) ≡ bases_from r on.block.last on.behind no_bases
  rest_is o y a on n b e =
      ap (λ (z : Option Bases). followed z (λ c. cond (has_bit (mask_of (kind_writes y.kind)) r) (Some c) (bases_from r on.block.last n.more c))) e
      ∙ ap (λ (t : Bool). followed (with_op (base_of_kind r y.kind) t a) (λ c. cond (has_bit (mask_of (kind_writes y.kind)) r) (Some c) (bases_from r on.block.last n.more c))) (bit_has (kind_reads y.kind) r small)
      ∙ ap (λ (t : Bool). followed (with_op (base_of_kind r y.kind) (has (kind_reads y.kind) r) a) (λ c. cond t (Some c) (bases_from r on.block.last n.more c))) (bit_has (kind_writes y.kind) r small)
      ∙ ap (λ (v : Op). followed (with_op (base_of_kind r v.kind) (has (kind_reads v.kind) r) a) (λ c. cond (has (kind_writes v.kind) r) (Some c) (bases_from r on.block.last n.more c))) (sym n.is_op)
      ∙ ap (λ (l : List Node). bases_from r on.block.last l a) (sym n.left) ∙ on.rest

  pub bases_none : (o : ℕ) (y : Op) (a : Bases) → OnBases g id r (Some o) a → op_of g o ≡ Some y → None ≡ with_op (base_of_kind r y.kind) (has_bit (mask_of (kind_reads y.kind)) r) a → AreBasesOf g id r None
  bases_none o y a on e b = record {
    block = on.block;
    among = on.among;
    before = on.before;
    node = on.node;
    behind = on.behind;
    stands = on.stands;
    is_id = on.is_id;
    are = rest_is o y a on (next_base o y a on e) None b;
    short = tt;
  }

  pub bases_written :
      (o : ℕ) (y : Op) (a b : Bases) → OnBases g id r (Some o) a → op_of g o ≡ Some y → Some b ≡ with_op (base_of_kind r y.kind) (has_bit (mask_of (kind_reads y.kind)) r) a →
      AreShort b → has_bit (mask_of (kind_writes y.kind)) r ≡ true → AreBasesOf g id r (Some b)
  bases_written o y a b on e s short w = record {
    short = short;
    block = on.block;
    among = on.among;
    before = on.before;
    node = on.node;
    behind = on.behind;
    stands = on.stands;
    is_id = on.is_id;
    are =
        let n = next_base o y a on e in
        sym (ap (λ (t : Bool). cond t (Some b) (bases_from r on.block.last n.more b)) w) ∙ rest_is o y a on n (Some b) s;
  }

  pub bases_more :
      (o : ℕ) (y : Op) (a b : Bases) (next : Option ℕ) → OnBases g id r (Some o) a → op_of g o ≡ Some y → Some b ≡ with_op (base_of_kind r y.kind) (has_bit (mask_of (kind_reads y.kind)) r) a →
      AreShort b → has_bit (mask_of (kind_writes y.kind)) r ≡ false → next ≡ next_op_of g o → IfSome next (λ i. IsTrue (is_live_op g i)) → OnBases g id r next b
  bases_more o y a b next on e s short w n live =
      let x = next_base o y a on e in
      record {
        block = on.block;
        among = on.among;
        before = on.before;
        node = on.node;
        behind = on.behind;
        stands = on.stands;
        is_id = on.is_id;
        done = on.done ++ x.node ∷ [];
        left = x.more;
        is = on.is ∙ ap (λ (l : List Node). on.done ++ l) x.left ∙ sym (assoc on.done (x.node ∷ []) x.more);
        at = n ∙ ap (next_op_of g) (sym x.is_id) ∙ next_is g graph x.node x.at ∙ ap first_id x.at_behind;
        live = live;
        rest = sym (ap (λ (t : Bool). cond t (Some b) (bases_from r on.block.last x.more b)) w) ∙ rest_is o y a on x (Some b) s;
        short = short;
      }

  pub bases_fewer : (o : ℕ) (y : Op) (a : Bases) (next : Option ℕ) → OnBases g id r (Some o) a → op_of g o ≡ Some y → next ≡ next_op_of g o → ops_left g next < ops_left g (Some o)
  bases_fewer o y a next on e n =
      let x = next_base o y a on e in
      let k : next ≡ first_id x.at.behind = n ∙ ap (next_op_of g) (sym x.is_id) ∙ next_is g graph x.node x.at in
      subst (λ (i : Option ℕ). ops_left g i < ops_left g (Some o)) (sym k)
      (subst (λ (i : ℕ). ops_left g (first_id x.at.behind) < ops_left g (Some i)) x.is_id (fewer_left g g x.node x.at graph refl))

  -- at the block's end
  pub bases_end :
      (b : ℕ) (a : Bases) (last : Last) → OnBases g id r None a → block_with g id ≡ block_of g b → last_of g b ≡ Some last →
      AreBasesOf g id r (unless (has_bit (mask_of (last_reads last)) r) a)
  bases_end b a last on with is = record {
    block = on.block;
    among = on.among;
    before = on.before;
    node = on.node;
    behind = on.behind;
    stands = on.stands;
    is_id = on.is_id;
    are =
        ap (λ (t : Bool). unless t a) (bit_has (last_reads last) r small) ∙ ap (λ (l : Last). unless (has (last_reads l) r) a) (sym end)
        ∙ ap (λ (l : List Node). bases_from r on.block.last l a) (sym (none_left on.left on.at)) ∙ on.rest;
    short = short (has_bit (mask_of (last_reads last)) r);
  }
    where
      short : (t : Bool) → AllShort (unless t a)
      short true = tt
      short false = on.short

      at : At g on.node
      at = record { block = on.block; among = on.among; before = on.before; behind = on.behind; stands = on.stands }

      some_last : (x y : Last) → Some x ≡ Some y → x ≡ y
      some_last x y e = cc

      here : block_of g b ≡ Some on.block
      here = sym with ∙ ap (block_with g) (sym on.is_id) ∙ (is_op g graph on.node at).block

      end : on.block.last ≡ last
      end = some_last on.block.last last (sym (ap (option_map (λ (x : Block). x.last)) here) ∙ is)

-- ---- halves

module _ (old : GraphView) (id r : ℕ) (hi : Place) where
  pub halves_begin : (x : Op) (next : Option ℕ) → IsGraph old → op_of old id ≡ Some x → next ≡ next_op_of old id → IfSome next (λ o. IsTrue (is_live_op old o)) → OnHalves old old id r hi next
  halves_begin x next graph e n live = record { setting = setting_begins (half_kind r hi) (writes_it r) old id x next graph e n; live = live }

  abbrev pub HalfSet : GraphView → ℕ → OpKind → Type 0
  HalfSet new o k = Set (half_kind r hi) (writes_it r) old new id o k

  pub halves_set :
      (now new : GraphView) (o : ℕ) (next : Option ℕ) (y : Op) (k : Option OpKind) → IsGraph now → OnHalves old now id r hi next → next ≡ Some o → op_of now o ≡ Some y → k ≡ half_kind r hi y.kind →
      new ≡ set_if now o k → HalfSet new o y.kind
  halves_set now new o next y k graph on s e f n =
      subst (λ (h : GraphView). HalfSet h o y.kind) (sym (n ∙ ap (set_if now o) f))
      (set_one (half_kind r hi) (writes_it r) old now id o y graph e (subst (λ (i : Option ℕ). Setting (half_kind r hi) (writes_it r) old now id i) s on.setting))

  pub halves_live : (new : GraphView) (o : ℕ) (k : OpKind) → IsGraph new → HalfSet new o k → is_live_op new o ≡ true
  halves_live new o k graph s = subst (λ (i : ℕ). is_live_op new i ≡ true) s.here_id (ap is_some (is_op new graph s.here s.there).block)

  pub halves_more :
      (new : GraphView) (o : ℕ) (k : OpKind) (next : Option ℕ) → r < 31 → IsGraph new → HalfSet new o k → has_bit (mask_of (kind_writes k)) r ≡ false → next ≡ next_op_of new o →
      IfSome next (λ i. IsTrue (is_live_op new i)) → OnHalves old new id r hi next
  halves_more new o k next small graph s w n live = record {
    setting = setting_goes_on (half_kind r hi) (writes_it r) old new id o k next graph s (sym (bit_has (kind_writes k) r small) ∙ w) n;
    live = live;
  }

  pub halves_fewer : (now new : GraphView) (o : ℕ) (k : OpKind) (z : Option OpKind) (next : Option ℕ) → IsGraph new → HalfSet new o k → new ≡ set_if now o z → next ≡ next_op_of new o → ops_left new next < ops_left now (Some o)
  halves_fewer now new o k z next graph s n e = setting_fewer (half_kind r hi) (writes_it r) now new old id o k next graph s (subst (λ (h : GraphView). op_ids h.blocks ≡ op_ids now.blocks) (sym n) (same z)) e
    where
      same : (z : Option OpKind) → op_ids (set_if now o z).blocks ≡ op_ids now.blocks
      same None = refl
      same (Some k) = op_ids_set o k now.blocks

  pub halves_stop : (new : GraphView) (o : ℕ) (k : OpKind) → r < 31 → HalfSet new o k → has_bit (mask_of (kind_writes k)) r ≡ true → AreSetBehind (half_kind r hi) (writes_it r) old new id
  halves_stop new o k small s w = setting_stops (half_kind r hi) (writes_it r) old new id o k s (sym (bit_has (kind_writes k) r small) ∙ w)

  pub halves_end : (new : GraphView) → OnHalves old new id r hi None → AreSetBehind (half_kind r hi) (writes_it r) old new id
  halves_end new on = setting_ends (half_kind r hi) (writes_it r) old new id on.setting

-- ---- ops stay live

holds_same : (id : ℕ) (k : OpKind) (j : ℕ) (ns : List Node) → is_some (find (is_node j) (map (kind_set id k) ns)) ≡ is_some (find (is_node j) ns)
holds_same id k j [] = refl
holds_same id k j (n ∷ ns) = by_test (n.id == id) (holds_same id k j ns)
  where
    by_test :
        (t : Bool) → is_some (find (is_node j) (map (kind_set id k) ns)) ≡ is_some (find (is_node j) ns) →
        is_some (cond ((cond t (record n { op = record (n.op) { kind = k } }) n).id == j) (Some (cond t (record n { op = record (n.op) { kind = k } }) n)) (find (is_node j) (map (kind_set id k) ns)))
        ≡ is_some (cond (n.id == j) (Some n) (find (is_node j) ns))
    by_test true i = by_found (n.id == j)
      where
        by_found : (s : Bool) → is_some (cond s (Some (record n { op = record (n.op) { kind = k } })) (find (is_node j) (map (kind_set id k) ns))) ≡ is_some (cond s (Some n) (find (is_node j) ns))
        by_found true = refl
        by_found false = i
    by_test false i = by_found (n.id == j)
      where
        by_found : (s : Bool) → is_some (cond s (Some n) (find (is_node j) (map (kind_set id k) ns))) ≡ is_some (cond s (Some n) (find (is_node j) ns))
        by_found true = refl
        by_found false = i

live_same : (id : ℕ) (k : OpKind) (j : ℕ) (bs : List Block) → is_some (find (holds_node j) (map (replace_in id k) bs)) ≡ is_some (find (holds_node j) bs)
live_same id k j [] = refl
live_same id k j (b ∷ bs) =
    ap (λ (t : Bool). is_some (cond t (Some (replace_in id k b)) (find (holds_node j) (map (replace_in id k) bs)))) (holds_same id k j b.ops) ∙ by_test (holds_node j b) (live_same id k j bs)
  where
    by_test : (t : Bool) → is_some (find (holds_node j) (map (replace_in id k) bs)) ≡ is_some (find (holds_node j) bs) → is_some (cond t (Some (replace_in id k b)) (find (holds_node j) (map (replace_in id k) bs))) ≡ is_some (cond t (Some b) (find (holds_node j) bs))
    by_test true i = refl
    by_test false i = i

pub live_all : (g : GraphView) (es : List OpEdit) (j : ℕ) → is_live_op (all_replaced g es) j ≡ is_live_op g j
live_all g [] j = refl
live_all g (e ∷ es) j = live_all (replaced g e.id e.kind) es j ∙ live_same e.id e.kind j g.blocks

pub live_there : (g : GraphView) (id : ℕ) (x : Op) → IsGraph g → op_of g id ≡ Some x → is_live_op g id ≡ true
live_there g id x graph e = let t = op_there g id x graph e in subst (λ (i : ℕ). is_live_op g i ≡ true) t.is_id (ap is_some (is_op g graph t.node t.at).block)

-- ---- the whole edit

pub all_then : (g : GraphView) (es : List OpEdit) (e : OpEdit) → all_replaced g (es ++ e ∷ []) ≡ replaced (all_replaced g es) e.id e.kind
all_then g [] e = refl
all_then g (x ∷ es) e = all_then (replaced g x.id x.kind) es e

pub far_edit :
    (load : Load) (least : ℤ) (old mid new : GraphView) (y : Op) → IsGraph old → IsLoadOf old load → op_of old load.id ≡ Some y → AreSetBehind (half_kind load.ra y.place) (writes_it load.ra) old mid load.id →
    new ≡ replaced mid load.id (half_of load least) → IsFarEdit load least old new
far_edit load least old mid new y graph is e s n = record {
  place = y.place;
  object = ap (λ (v : Op). v.place.obj) y_is ∙ is.object;
  block = s.block;
  among = s.among;
  before = s.before;
  node = s.node;
  behind = s.behind;
  stands = s.stands;
  is_id = s.is_id;
  is = same ∙ ap (λ (k : OpKind). record { place = y.place; kind = k }) (ap (λ (v : Op). v.kind) y_is);
  set = n ∙ ap (λ (h : GraphView). replaced h load.id (half_of load least)) s.set
      ∙ sym (all_then old (edits_of (half_kind load.ra y.place) (writes_it load.ra) s.behind) (record { id = load.id; kind = half_of load least }));
}
  where
    some_op : (a b : Op) → Some a ≡ Some b → a ≡ b
    some_op a b e = cc

    at : At old s.node
    at = record { block = s.block; among = s.among; before = s.before; behind = s.behind; stands = s.stands }

    same : s.node.op ≡ y
    same = some_op s.node.op y (sym (op_is old graph s.node at) ∙ ap (op_of old) s.is_id ∙ e)

    y_is : y ≡ record { place = is.place; kind = load_kind load }
    y_is = some_op y (record { place = is.place; kind = load_kind load }) (sym e ∙ is.is)
