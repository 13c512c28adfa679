-- What a newly noted block leaves of the others.
use Rattle.std.proofs.Common.{◌≡◌, ◌⊎◌, inl, inr, ℕ, ◌+◌, ◌<◌, ◌≤◌, List, [], ◌∷◌, length, get_or, set, Bool, true, false, cond, ◌==◌, Option, Some, None, refl, sym, ap, subst, ◌∙◌, arith}
use Rattle.std.specs.Prelude.{find}
use Rattle.std.proofs.lemmas.Bool.{cases_eq, cases_lt, eqb-true}
use Rattle.std.proofs.lemmas.List.{get_or-set_same, get_or-set_other, length-set}
use Rattle.om_value.specs.declared.value.Target.{Target}
use Rattle.om_graph.specs.View.{Node, Block, GraphView, Has, first_id, is_block, block_of, is_live_block}
use Rattle.om_graph.specs.Held.{IsGraph, Apart, node_ids, op_ids}
use Rattle.om_blocks.proofs.Walking.{apart_in, apart_two, apart_rest, has_op, found_here, found_block, a_some}
use Rattle.om_uses.specs.declared.tables.OpUses.{OpUses}
use Rattle.om_uses.specs.declared.tables.BlockUses.{BlockUses}
use Rattle.om_uses.specs.declared.tables.Load.{Load}
use Rattle.om_uses.specs.declared.uses.Fresh.{Fresh}
use Rattle.om_uses.specs.declared.uses.Fresh.TheVariants.{Stays, Gone}
use Rattle.om_uses.specs.Parts.{Kept, AreWithin, AreLinked, AreLoads, IsKeptOf, IsAt, alone, block_at, block_uses, loads_of, next_or, no_block, uses_of}
use Rattle.om_uses.specs.Tables.{AreOwned, IsLonger, IsPadded, linked, stored}
use Rattle.om_uses.specs.Installed.{IsRoomier, RoomFor, HasRoom, HasRoomFor, HaveRoom, HasNumber, with_block, with_none, with_found, with_fresh, installed, number_in}
use Rattle.om_uses.proofs.Nodes.{within_longer, stored_length}

-- ---- ops

abbrev here : ℕ → Node → List Node → OpUses
here i n ns = uses_of n.op.kind (next_or n.id (first_id ns)) i

linked_length : (i : ℕ) (ns : List Node) (ops : List OpUses) → length (linked i ns ops) ≡ length ops
linked_length i [] ops = refl
linked_length i (n ∷ ns) ops = linked_length i ns (set ops n.id (here i n ns)) ∙ length-set ops n.id (here i n ns)

linked_other : (i : ℕ) (ns : List Node) (ops : List OpUses) (id : ℕ) (d : OpUses) → (Has (node_ids ns) id → ⊥) → get_or (linked i ns ops) id d ≡ get_or ops id d
linked_other i [] ops id d out = refl
linked_other i (n ∷ ns) ops id d out =
    linked_other i ns (set ops n.id (here i n ns)) id d (λ h. out (inr h))
    ∙ get_or-set_other ops n.id id (here i n ns) d (λ e. out (inl (sym e)))

linked_here : (i : ℕ) (ns : List Node) (ops : List OpUses) → Apart (node_ids ns) → AreWithin (length ops) ns → AreLinked (linked i ns ops) i ns
linked_here i [] ops ids within = tt
linked_here i (n ∷ ns) ops ids within =
    let long = length-set ops n.id (here i n ns) in (
      linked_other i ns (set ops n.id (here i n ns)) n.id (alone n.id) ids.0 ∙ get_or-set_same ops n.id (here i n ns) (alone n.id) within.0,
      linked_here i ns (set ops n.id (here i n ns)) ids.1 (subst (λ (l : ℕ). AreWithin l ns) (sym long) within.1),
    )

links_kept : (i j : ℕ) (others : List Node) (ops : List OpUses) (ns : List Node) → ((id : ℕ) → Has (node_ids others) id → Has (node_ids ns) id → ⊥) → AreLinked ops i ns → AreLinked (linked j others ops) i ns
links_kept i j others ops [] apart are = tt
links_kept i j others ops (n ∷ ns) apart are = (
  linked_other j others ops n.id (alone n.id) (λ h. apart n.id h (inl refl)) ∙ are.0,
  links_kept i j others ops ns (λ id h g. apart id h (inr g)) are.1,
)

links_longer : (i : ℕ) (old new : List OpUses) (ns : List Node) → IsLonger old new → AreWithin (length old) ns → AreLinked old i ns → AreLinked new i ns
links_longer i old new [] longer within are = tt
links_longer i old new (n ∷ ns) longer within are = (
  longer.same n.id (alone n.id) within.0 ∙ are.0,
  links_longer i old new ns longer within.1 are.1,
)

-- ---- loads

stored_other : (at i : ℕ) (ts : List Target) (loads : List Load) (k : ℕ) (d : Load) → (k < at) ⊎ (at + length ts ≤ k) → get_or (stored at i ts loads) k d ≡ get_or loads k d
stored_other at i [] loads k d out = refl
stored_other at i (t ∷ ts) loads k d out =
    stored_other (at + 1) i ts (set loads at (record { target = t; block = i })) k d (later out)
    ∙ get_or-set_other loads at k (record { target = t; block = i }) d (differs out)
  where
    later : (k < at) ⊎ (at + length (t ∷ ts) ≤ k) → (k < at + 1) ⊎ ((at + 1) + length ts ≤ k)
    later (inl h) = inl (omega (arith, h))
    later (inr h) = inr (omega (arith, h))

    differs : (k < at) ⊎ (at + length (t ∷ ts) ≤ k) → k ≡ at → ⊥
    differs (inl h) e = omega (arith, h, e)
    differs (inr h) e = omega (arith, h, e)

stored_here : (at i : ℕ) (ts : List Target) (loads : List Load) → at + length ts ≤ length loads → AreLoads (stored at i ts loads) at i ts
stored_here at i [] loads room = tt
stored_here at i (t ∷ ts) loads room =
    let new : List Load = set loads at (record { target = t; block = i }) in
    let long : length new ≡ length loads = length-set loads at (record { target = t; block = i }) in
    let all : length (stored (at + 1) i ts new) ≡ length new = stored_length (at + 1) i ts new in (
      omega (arith, room, long, all),
      λ d. stored_other (at + 1) i ts new at d (inl (omega arith)) ∙ get_or-set_same loads at (record { target = t; block = i }) d (omega (arith, room)),
      stored_here (at + 1) i ts new (omega (arith, room, long)),
    )

-- a place of another block is not among these
not_among : (at i count k j : ℕ) (loads : List Load) (d : Load) → AreOwned loads at count i → (j ≡ i → ⊥) → (get_or loads k d).block ≡ j → (k < at) ⊎ (at + count ≤ k)
not_among at i count k j loads d owned differs is = by_start (cases_lt k at) (cases_lt k (at + count))
  where
    by_start : (k < at) ⊎ (at ≤ k) → (k < at + count) ⊎ (at + count ≤ k) → (k < at) ⊎ (at + count ≤ k)
    by_start (inl h) e = inl h
    by_start (inr h) (inr e) = inr e
    by_start (inr h) (inl e) = absurd (differs (sym is ∙ owned.own k d h e))

loads_kept : (at i : ℕ) (ts : List Target) (loads : List Load) (start j : ℕ) (us : List Target) → AreOwned loads at (length ts) i → (j ≡ i → ⊥) → AreLoads loads start j us → AreLoads (stored at i ts loads) start j us
loads_kept at i ts loads start j [] owned differs are = tt
loads_kept at i ts loads start j (u ∷ us) owned differs are =
    let out = not_among at i (length ts) start j loads (record { target = u; block = j }) owned differs (ap (λ (l : Load). l.block) (are.1 (record { target = u; block = j }))) in (
      (let long = stored_length at i ts loads in let within = are.0 in omega (arith, long, within)),
      λ d. stored_other at i ts loads start d out ∙ are.1 d,
      loads_kept at i ts loads (start + 1) j us owned differs are.2,
    )

loads_longer : (old new : List Load) (start j : ℕ) (us : List Target) → IsLonger old new → AreLoads old start j us → AreLoads new start j us
loads_longer old new start j [] longer are = tt
loads_longer old new start j (u ∷ us) longer are = (
  (let long = longer.long in let within = are.0 in omega (arith, long, within)),
  λ d. longer.same start d are.0 ∙ are.1 d,
  loads_longer old new (start + 1) j us longer are.2,
)

-- places belong to whom they did
owner_kept : (at i : ℕ) (ts : List Target) (loads : List Load) (k : ℕ) (d : Load) → AreOwned loads at (length ts) i → (get_or (stored at i ts loads) k d).block ≡ (get_or loads k d).block
owner_kept at i [] loads k d owned = refl
owner_kept at i (t ∷ ts) loads k d owned = owner_kept (at + 1) i ts new k d after ∙ by_eq (cases_eq k at)
  where
    new : List Load
    new = set loads at (record { target = t; block = i })

    within : at < length loads
    within = let w = owned.within in omega (arith, w)

    by_place : (m : ℕ) (e : Load) → (m ≡ at) ⊎ (m ≡ at → ⊥) → (get_or new m e).block ≡ (get_or loads m e).block
    by_place m e (inl s) =
        ap (λ (x : ℕ). (get_or new x e).block) s
        ∙ ap (λ (l : Load). l.block) (get_or-set_same loads at (record { target = t; block = i }) e within)
        ∙ sym (owned.own m e (omega (arith, s)) (omega (arith, s)))
    by_place m e (inr differs) = ap (λ (l : Load). l.block) (get_or-set_other loads at m (record { target = t; block = i }) e differs)

    by_eq : (k ≡ at) ⊎ (k ≡ at → ⊥) → (get_or new k d).block ≡ (get_or loads k d).block
    by_eq = by_place k d

    after : AreOwned new (at + 1) (length ts) i
    after = record {
      within = let w = owned.within in let long = length-set loads at (record { target = t; block = i }) in omega (arith, w, long);
      own = λ m e h f. by_place m e (cases_eq m at) ∙ owned.own m e (omega (arith, h)) (omega (arith, f));
    }

owned_kept : (at i : ℕ) (ts : List Target) (loads : List Load) (start count j : ℕ) → AreOwned loads at (length ts) i → AreOwned loads start count j → AreOwned (stored at i ts loads) start count j
owned_kept at i ts loads start count j owned other = record {
  within = let w = other.within in let long = stored_length at i ts loads in omega (arith, w, long);
  own = λ k d h e. owner_kept at i ts loads k d owned ∙ other.own k d h e;
}

pub owned_longer : (old new : List Load) (start count j : ℕ) → IsLonger old new → AreOwned old start count j → AreOwned new start count j
owned_longer old new start count j longer owned = record {
  within = let w = owned.within in let long = longer.long in omega (arith, w, long);
  own = λ k d h e. ap (λ (l : Load). l.block) (longer.same k d (let w = owned.within in omega (arith, w, e))) ∙ owned.own k d h e;
}

-- ---- blocks of other numbers

pub blocks_apart : (bs : List Block) (b c : Block) (id : ℕ) → Apart (op_ids bs) → Has bs b → Has bs c → (b.id ≡ c.id → ⊥) → Has (node_ids b.ops) id → Has (node_ids c.ops) id → ⊥
blocks_apart [] b c id a hb hc differ m n = hb
blocks_apart (x ∷ bs) b c id a (inl e) (inl f) differ m n = differ (ap (λ (y : Block). y.id) (sym e ∙ f))
blocks_apart (x ∷ bs) b c id a (inl e) (inr hc) differ m n = apart_two (node_ids x.ops) (op_ids bs) id a (subst (λ (y : Block). Has (node_ids y.ops) id) (sym e) m) (has_op bs c id hc n)
blocks_apart (x ∷ bs) b c id a (inr hb) (inl f) differ m n = apart_two (node_ids x.ops) (op_ids bs) id a (subst (λ (y : Block). Has (node_ids y.ops) id) (sym f) n) (has_op bs b id hb m)
blocks_apart (x ∷ bs) b c id a (inr hb) (inr hc) differ m n = blocks_apart bs b c id (apart_rest (node_ids x.ops) (op_ids bs) a) hb hc differ m n

abbrev pub Numbered : List Block → ℕ → Type 0
Numbered bs i = (c : Block) × Has bs c × (c.id ≡ i)

abbrev pub NoneNumbered : List Block → ℕ → Type 0
NoneNumbered bs i = (c : Block) → Has bs c → c.id ≡ i → ⊥

pub numbered_or_none : (bs : List Block) (i : ℕ) → Numbered bs i ⊎ NoneNumbered bs i
numbered_or_none [] i = inr (λ c h e. h)
numbered_or_none (b ∷ bs) i = by_eq (cases_eq b.id i) (numbered_or_none bs i)
  where
    by_eq : (b.id ≡ i) ⊎ (b.id ≡ i → ⊥) → Numbered bs i ⊎ NoneNumbered bs i → Numbered (b ∷ bs) i ⊎ NoneNumbered (b ∷ bs) i
    by_eq (inl e) later = inl (b, inl refl, e)
    by_eq (inr differs) (inl k) = inl (k.0, inr k.1, k.2)
    by_eq (inr differs) (inr none) = inr (λ c h e. by_has c h e)
      where
        by_has : (c : Block) → Has (b ∷ bs) c → c.id ≡ i → ⊥
        by_has c (inl s) e = differs (ap (λ (y : Block). y.id) s ∙ e)
        by_has c (inr h) e = none c h e

pub id_found : (i : ℕ) (bs : List Block) (b : Block) → find (is_block i) bs ≡ Some b → b.id ≡ i
id_found i [] b e = cc
id_found i (c ∷ bs) b e = by_test (c.id == i) refl e (λ f. id_found i bs b f)
  where
    by_test : (t : Bool) → (c.id == i) ≡ t → cond t (Some c) (find (is_block i) bs) ≡ Some b → (find (is_block i) bs ≡ Some b → b.id ≡ i) → b.id ≡ i
    by_test true t f again = let s : c ≡ b = cc in ap (λ (y : Block). y.id) (sym s) ∙ eqb-true c.id i t
    by_test false t f again = again f

some_is : {A : Type 0} (x y : A) → Some x ≡ Some y → x ≡ y
some_is x y e = cc

-- ---- room

pub room_kept : (u : Kept) (i : ℕ) (b : Block) (start j : ℕ) (c : Block) (at : ℕ) → RoomFor u i b start → RoomFor u j c at → RoomFor (with_block u i b start) j c at
room_kept u i b start j c at room other = record {
  number = let n = other.number in let long = length-set u.blocks i (block_uses b start) in omega (arith, n, long);
  small = other.small;
  ops = subst (λ (l : ℕ). AreWithin l c.ops) (sym (linked_length i b.ops u.ops)) other.ops;
  loads = owned_kept start i (loads_of b.ops) u.loads at (length (loads_of c.ops)) j room.loads other.loads;
  few = other.few;
}

pub room_longer : (u v : Kept) (i : ℕ) (b : Block) (start : ℕ) → IsRoomier u v → RoomFor u i b start → RoomFor v i b start
room_longer u v i b start r room = record {
  number = let n = room.number in let long = r.blocks.long in omega (arith, n, long);
  small = room.small;
  ops = within_longer (length u.ops) (length v.ops) b.ops r.ops.long room.ops;
  loads = owned_longer u.loads v.loads start (length (loads_of b.ops)) i r.loads room.loads;
  few = room.few;
}

module _ (g : GraphView) (graph : IsGraph g) where
  -- ---- what stands under each number

  pub with_block_at : (u : Kept) (i : ℕ) (x : Block) (start j : ℕ) → block_of g i ≡ Some x → RoomFor u i x start → (j ≡ i) ⊎ IsAt g u j → IsAt g (with_block u i x start) j
  with_block_at u i x start j is room at = by_eq (cases_eq j i) at
    where
      among : Has g.blocks x
      among = found_block g.blocks i x is

      x_is : x.id ≡ i
      x_is = id_found i g.blocks x is

      -- the block of the number is this one
      same : (b : Block) → Has g.blocks b → b.id ≡ i → x ≡ b
      same b h e = some_is x b (sym is ∙ (found_here g graph b i h e).0)

      kept_here : IsKeptOf (with_block u i x start) x
      kept_here = record {
        within = subst (λ (l : ℕ). AreWithin l x.ops) (sym (linked_length i x.ops u.ops)) room.ops;
        linked = subst (λ (k : ℕ). AreLinked (linked i x.ops u.ops) k x.ops) (sym x_is) (linked_here i x.ops u.ops (apart_in g.blocks x graph.op_ids among) room.ops);
        start = start;
        end = ap (λ (k : ℕ). get_or (set u.blocks i (block_uses x start)) k no_block) x_is ∙ get_or-set_same u.blocks i (block_uses x start) no_block room.number;
        loads = subst (λ (k : ℕ). AreLoads (stored start i (loads_of x.ops) u.loads) start k (loads_of x.ops)) (sym x_is) (stored_here start i (loads_of x.ops) u.loads room.loads.within);
      }

      at_here : IsAt g (with_block u i x start) i
      at_here = record {
        kept = λ b h e. subst (λ (c : Block). IsKeptOf (with_block u i x start) c) (same b h e) kept_here;
        gone = λ none. absurd (none x among x_is);
      }

      kept_there : (j ≡ i → ⊥) → (b : Block) → Has g.blocks b → b.id ≡ j → IsKeptOf u b → IsKeptOf (with_block u i x start) b
      kept_there differs b h e old = record {
        within = subst (λ (l : ℕ). AreWithin l b.ops) (sym (linked_length i x.ops u.ops)) old.within;
        linked = links_kept b.id i x.ops u.ops b.ops (λ id m n. blocks_apart g.blocks b x id graph.op_ids h among (λ s. differs (sym e ∙ s ∙ x_is)) n m) old.linked;
        start = old.start;
        end = get_or-set_other u.blocks i b.id (block_uses x start) no_block (λ s. differs (sym e ∙ s)) ∙ old.end;
        loads = loads_kept start i (loads_of x.ops) u.loads old.start b.id (loads_of b.ops) room.loads (λ s. differs (sym e ∙ s)) old.loads;
      }

      at_there : (j ≡ i → ⊥) → IsAt g u j → IsAt g (with_block u i x start) j
      at_there differs old = record {
        kept = λ b h e. kept_there differs b h e (old.kept b h e);
        gone = λ none. get_or-set_other u.blocks i j (block_uses x start) no_block differs ∙ old.gone none;
      }

      by_eq : (j ≡ i) ⊎ (j ≡ i → ⊥) → (j ≡ i) ⊎ IsAt g u j → IsAt g (with_block u i x start) j
      by_eq (inl e) known = subst (λ (k : ℕ). IsAt g (with_block u i x start) k) (sym e) at_here
      by_eq (inr differs) (inl e) = absurd (differs e)
      by_eq (inr differs) (inr old) = at_there differs old

  pub with_none_at : (u : Kept) (i j : ℕ) → i < length u.blocks → NoneNumbered g.blocks i → (j ≡ i) ⊎ IsAt g u j → IsAt g (with_none u i) j
  with_none_at u i j room none at = by_eq (cases_eq j i) at
    where
      at_here : IsAt g (with_none u i) i
      at_here = record {
        kept = λ b h e. absurd (none b h e);
        gone = λ no. get_or-set_same u.blocks i no_block no_block room;
      }

      at_there : (j ≡ i → ⊥) → IsAt g u j → IsAt g (with_none u i) j
      at_there differs old = record {
        kept = λ b h e.
            let k = old.kept b h e in
            record {
              within = k.within;
              linked = k.linked;
              start = k.start;
              end = get_or-set_other u.blocks i b.id no_block no_block (λ s. differs (sym e ∙ s)) ∙ k.end;
              loads = k.loads;
            };
        gone = λ no. get_or-set_other u.blocks i j no_block no_block differs ∙ old.gone no;
      }

      by_eq : (j ≡ i) ⊎ (j ≡ i → ⊥) → (j ≡ i) ⊎ IsAt g u j → IsAt g (with_none u i) j
      by_eq (inl e) known = subst (λ (k : ℕ). IsAt g (with_none u i) k) (sym e) at_here
      by_eq (inr differs) (inl e) = absurd (differs e)
      by_eq (inr differs) (inr old) = at_there differs old

  pub roomier_at : (u v : Kept) (j : ℕ) → IsRoomier u v → IsAt g u j → IsAt g v j
  roomier_at u v j r old = record {
    kept = λ b h e.
        let k = old.kept b h e in
        record {
          within = within_longer (length u.ops) (length v.ops) b.ops r.ops.long k.within;
          linked = links_longer b.id u.ops v.ops b.ops r.ops k.within k.linked;
          start = k.start;
          end = r.blocks.same b.id ∙ k.end;
          loads = loads_longer u.loads v.loads k.start b.id (loads_of b.ops) r.loads k.loads;
        };
    gone = λ none. r.blocks.same j ∙ old.gone none;
  }

  -- ---- touched blocks

  fresh_at : (u : Kept) (f : Fresh) (j : ℕ) → HasRoomFor g u f → (j ≡ number_in f) ⊎ IsAt g u j → IsAt g (with_fresh g f u) j
  fresh_at u (Gone i) j room at = with_none_at u i j room.0 room.1 at
  fresh_at u (Stays i start) j room at =
      let x = a_some (block_of g i) room.0 in
      subst (λ (o : Option Block). IsAt g (with_found o i start u) j) (sym x.1) (with_block_at u i x.0 start j x.1 (room.1.of x.0 x.1) at)

  fresh_room : (u : Kept) (f h : Fresh) → HasRoomFor g u f → HasRoomFor g u h → HasRoomFor g (with_fresh g f u) h
  fresh_room u (Gone i) (Gone j) room other = ((let n = other.0 in let long = length-set u.blocks i no_block in omega (arith, n, long)), other.1)
  fresh_room u (Gone i) (Stays j at) room other = (
    other.0,
    record {
      of = λ c e.
          let r = other.1.of c e in
          record {
            number = let n = r.number in let long = length-set u.blocks i no_block in omega (arith, n, long);
            small = r.small;
            ops = r.ops;
            loads = r.loads;
            few = r.few;
          };
    },
  )
  fresh_room u (Stays i start) (Gone j) room other =
      let x = a_some (block_of g i) room.0 in
      subst (λ (o : Option Block). HasRoomFor g (with_found o i start u) (Gone j)) (sym x.1)
      ((let n = other.0 in let long = length-set u.blocks i (block_uses x.0 start) in omega (arith, n, long)), other.1)
  fresh_room u (Stays i start) (Stays j at) room other =
      let x = a_some (block_of g i) room.0 in
      subst (λ (o : Option Block). HasRoomFor g (with_found o i start u) (Stays j at)) (sym x.1)
      (other.0, record { of = λ c e. room_kept u i x.0 start j c at (room.1.of x.0 x.1) (other.1.of c e) })

  pub have_room_kept : (u : Kept) (f : Fresh) (fs : List Fresh) → HasRoomFor g u f → HaveRoom g u fs → HaveRoom g (with_fresh g f u) fs
  have_room_kept u f [] room others = tt
  have_room_kept u f (h ∷ fs) room others = (fresh_room u f h room others.0, have_room_kept u f fs room others.1)

  pub installed_at : (fs : List Fresh) (u : Kept) (j : ℕ) → HaveRoom g u fs → HasNumber fs j ⊎ IsAt g u j → IsAt g (installed g fs u) j
  installed_at [] u j room (inl h) = absurd h
  installed_at [] u j room (inr at) = at
  installed_at (f ∷ fs) u j room at =
      installed_at fs (with_fresh g f u) j (have_room_kept u f fs room.0 room.1) (by_number at)
    where
      by_number : HasNumber (f ∷ fs) j ⊎ IsAt g u j → HasNumber fs j ⊎ IsAt g (with_fresh g f u) j
      by_number (inl (inl e)) = inr (fresh_at u f j room.0 (inl (sym e)))
      by_number (inl (inr h)) = inl h
      by_number (inr old) = inr (fresh_at u f j room.0 (inr old))
