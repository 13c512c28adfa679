-- Worked groupings.
use Rattle.std.specs.Prelude.{◌≡◌, ◌==◌, ℕ, suc, pos, true, false, List, [], ◌∷◌, length, map, refl}
use Rattle.std.specs.List.{list_any}
use Rattle.om_isa.specs.declared.instr.MemOp.TheVariants.{Lda, Ldq}
use Rattle.om_isa.specs.declared.instr.Instr.TheVariants.{Mem}
use Rattle.om_value.specs.declared.value.Place.{Place}
use Rattle.om_value.specs.declared.value.Target.{Target}
use Rattle.om_value.specs.declared.value.Target.TheVariants as target
use Rattle.om_value.specs.Same.{target_eq}
use Rattle.om_prog.specs.declared.item.Item.{Item}
use Rattle.om_prog.specs.declared.item.Role.TheVariants as role
use Rattle.om_prog.specs.Rows.{plain, with_role}
use Rattle.om_prog.specs.Valid.{slots_onto}
use Rattle.om_graph.specs.declared.op.OpKind.TheVariants as op
use Rattle.om_graph.specs.declared.op.Last.TheVariants.{Off}
use Rattle.om_graph.specs.View.{Node, GraphView}
use Rattle.om_graph.specs.Grouping.{grouped_within, grouped, firsts_onto, object_loads, graph_tables}

-- LITERAL loads of these numbers
abbrev pub loads : List ℕ → List Item
loads ns = map (λ n. with_role (role.Lit (target.Num n)) (Mem Ldq 1 29 (pos 0))) ns

-- no object, and objects without loads
pub row_none : grouped 0 [] [] ≡ []
row_none = refl

pub row_no_loads : grouped 0 [] ((plain (Mem Lda 0 31 (pos 1)) ∷ []) ∷ [] ∷ []) ≡ 0 ∷ 0 ∷ []
row_no_loads = refl

-- tables of at most three targets: what two objects share counts once
pub row_shared : grouped_within slots_onto 3 0 [] (loads (1 ∷ 2 ∷ []) ∷ loads (2 ∷ 3 ∷ []) ∷ []) ≡ 0 ∷ 0 ∷ []
row_shared = refl

-- a target that would be one too many begins a table, and what follows joins that one
pub row_next : grouped_within slots_onto 3 0 [] (loads (1 ∷ 2 ∷ []) ∷ loads (3 ∷ 4 ∷ []) ∷ loads (5 ∷ []) ∷ []) ≡ 0 ∷ 1 ∷ 1 ∷ []
row_next = refl

-- an object never goes back: 1 stands in the first table
pub row_never_back : grouped_within slots_onto 3 0 [] (loads (1 ∷ 2 ∷ 3 ∷ []) ∷ loads (4 ∷ []) ∷ loads (1 ∷ []) ∷ loads (5 ∷ 6 ∷ []) ∷ []) ≡ 0 ∷ 1 ∷ 1 ∷ 2 ∷ []
row_never_back = refl

-- a load that stands twice counts once, and a full table takes objects that need no more
pub row_full : grouped_within slots_onto 3 0 [] (loads (1 ∷ 2 ∷ 1 ∷ 3 ∷ 3 ∷ []) ∷ loads (3 ∷ 2 ∷ []) ∷ loads [] ∷ []) ≡ 0 ∷ 0 ∷ 0 ∷ []
row_full = refl

-- targets with one number and another kind differ
pub row_kinds :
    grouped_within slots_onto 1 0 []
    (loads (0 ∷ []) ∷ (with_role (role.Lit (target.Code (record { obj = 0; off = 0 }))) (Mem Ldq 1 29 (pos 0)) ∷ []) ∷ [])
    ≡ 0 ∷ 1 ∷ []
row_kinds = refl

-- tables at their limit, whatever they hold: of 8,191 targets, with one or two more, and of 8,192
abbrev pub Lacks : List Target → Target → Type 0
Lacks held t = list_any (λ u. target_eq u t) held ≡ false

pub record FullTables : Type 0 where
  pub one_more :
      (k : ℕ) (held : List Target) (n : ℕ) → length held ≡ 8191 → Lacks held (target.Num n) →
      grouped k held (loads (n ∷ []) ∷ []) ≡ k ∷ []
  pub two_more :
      (k : ℕ) (held : List Target) (n m : ℕ) → length held ≡ 8191 → Lacks held (target.Num n) → Lacks held (target.Num m) →
      (n == m) ≡ false → grouped k held (loads (n ∷ m ∷ []) ∷ []) ≡ suc k ∷ []
  pub full :
      (k : ℕ) (held : List Target) (n : ℕ) → length held ≡ 8192 → Lacks held (target.Num n) →
      grouped k held (loads (n ∷ []) ∷ []) ≡ suc k ∷ []
  -- a full table takes an object that loads what it holds
  pub held_already :
      (k : ℕ) (held : List Target) (n : ℕ) → length held ≡ 8192 → list_any (λ u. target_eq u (target.Num n)) held ≡ true →
      grouped k held (loads (n ∷ []) ∷ []) ≡ k ∷ []

-- by the words of a graph: an object's loads count where they stand, also behind those of another
abbrev pub place : ℕ → ℕ → Place
place o x = record { obj = o; off = x }

abbrev pub load_op : ℕ → Place → ℕ → Node
load_op id at n = record { id = id; op = record { place = at; kind = op.Lit 1 29 (target.Num n) } }

abbrev pub three_objects : GraphView
three_objects = record {
  counts = 2 ∷ 1 ∷ 1 ∷ [];
  roots = place 0 0 ∷ [];
  tables = 0 ∷ 1 ∷ 2 ∷ [];
  labels = place 0 0 ∷ place 1 0 ∷ place 2 0 ∷ [];
  blocks =
      record { id = 0; label = place 0 0; opening = false; ops = load_op 0 (place 0 0) 1 ∷ load_op 1 (place 0 4) 2 ∷ []; last = Off }
      ∷ record { id = 1; label = place 1 0; opening = false; ops = load_op 2 (place 1 0) 3 ∷ []; last = Off }
      ∷ record { id = 2; label = place 2 0; opening = false; ops = load_op 3 (place 2 0) 1 ∷ []; last = Off } ∷ [];
  touched = [];
}

pub row_graph : graph_tables three_objects ≡ 0 ∷ 0 ∷ 0 ∷ []
row_graph = refl

pub row_graph_of_two : grouped_within firsts_onto 2 0 [] (object_loads three_objects) ≡ 0 ∷ 1 ∷ 1 ∷ []
row_graph_of_two = refl
