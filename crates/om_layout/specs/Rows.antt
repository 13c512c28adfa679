-- A worked layout: three objects, of which the first and the last share a table, and a table between that no object has;
-- three regions of one size and a smaller one, of which none is a multiple of 16.
use Rattle.std.specs.Prelude.{◌≡◌, ℕ, zero, suc, true, false, not, ◌==◌, List, [], ◌∷◌, map, filter, Some, None, refl}
use Rattle.om_isa.specs.declared.instr.BrOp.TheVariants.{Br as BrOp}
use Rattle.om_value.specs.declared.value.Place.{Place}
use Rattle.om_value.specs.declared.value.Region.TheVariants.{Sec, Common, Stack, Heap}
use Rattle.om_value.specs.declared.value.Target.{Target}
use Rattle.om_value.specs.declared.value.Target.TheVariants as target
use Rattle.om_graph.specs.declared.op.OpKind.TheVariants.{Lit, AddrLda}
use Rattle.om_graph.specs.declared.op.Last.TheVariants.{Br}
use Rattle.om_prog.specs.Act.{Word}
use Rattle.om_graph.specs.View.{GraphView}
use Rattle.om_graph.specs.Run.{words}
use Rattle.om_layout.specs.Layout.{LayoutView, data_base, position_of, code_at, region_at, size_at, gp_at, gp_of, slot_at, address_of}
use Rattle.om_layout.specs.InOrder.{Order, position_in}
use Rattle.om_layout.specs.Order.{table_count, slots_of, InOrder, PlacedTables, PlacedRegions, tables_end, regions_end, words_before}

abbrev pub at : ℕ → ℕ → Place
at obj off = record { obj = obj; off = off }

abbrev pub small : Target
small = target.Ptr (Sec 0 9) 0

abbrev pub in_code : Target
in_code = target.Code (at 1 4)

abbrev pub in_common : Target
in_common = target.Ptr (Common 7) 8

-- of the first object the word at 4 is gone, and the load at 12 needs no slot any more
abbrev pub the_graph : GraphView
the_graph = record {
  counts = 5 ∷ 2 ∷ 2 ∷ [];
  roots = at 0 0 ∷ [];
  tables = 0 ∷ 2 ∷ 0 ∷ [];
  labels = at 0 0 ∷ at 1 0 ∷ at 2 0 ∷ [];
  blocks =
      record {
        id = 0;
        label = at 0 0;
        opening = false;
        ops =
            record { id = 0; op = record { place = at 0 0; kind = Lit 1 29 small } }
            ∷ record { id = 1; op = record { place = at 0 8; kind = Lit 2 29 in_code } }
            ∷ record { id = 2; op = record { place = at 0 12; kind = AddrLda 3 29 in_common } } ∷ [];
        last = Br (at 0 16) BrOp 31 (at 0 0);
      }
      ∷ record {
        id = 1;
        label = at 1 0;
        opening = false;
        ops = record { id = 3; op = record { place = at 1 0; kind = Lit 1 29 in_common } } ∷ [];
        last = Br (at 1 4) BrOp 31 (at 1 0);
      }
      ∷ record {
        id = 2;
        label = at 2 0;
        opening = false;
        ops = record { id = 4; op = record { place = at 2 0; kind = Lit 1 29 small } } ∷ [];
        last = Br (at 2 4) BrOp 31 (at 2 0);
      } ∷ [];
  touched = [];
}

abbrev pub the_layout : LayoutView
the_layout = record {
  counts = 5 ∷ 2 ∷ 2 ∷ [];
  object_tables = 0 ∷ 2 ∷ 0 ∷ [];
  tables =
      record { start = 0x140000000; slots = small ∷ in_code ∷ [] }
      ∷ record { start = 0x140000010; slots = [] }
      ∷ record { start = 0x140000010; slots = in_common ∷ [] } ∷ [];
  regions =
      record { region = Sec 0 9; address = 0x140000020; size = 8 }
      ∷ record { region = Sec 0 3; address = 0x140000030; size = 24 }
      ∷ record { region = Sec 1 2; address = 0x140000050; size = 24 }
      ∷ record { region = Common 7; address = 0x140000070; size = 24 } ∷ [];
  positions = 0 ∷ 1 ∷ 1 ∷ 2 ∷ 3 ∷ 4 ∷ 4 ∷ 5 ∷ 6 ∷ 6 ∷ 7 ∷ 8 ∷ [];
}

-- all places, in order, each text's end among them
abbrev pub all_places : List Place
all_places =
    at 0 0 ∷ at 0 4 ∷ at 0 8 ∷ at 0 12 ∷ at 0 16 ∷ at 0 20 ∷ at 1 0 ∷ at 1 4 ∷ at 1 8 ∷ at 2 0 ∷ at 2 4 ∷ at 2 8 ∷ []

pub row_positions : map (position_of the_layout) all_places ≡ map (words_before (words the_graph)) all_places
row_positions = refl

pub row_position_values : map (position_of the_layout) all_places ≡ the_layout.positions
row_position_values = refl

-- the last object's words first: a word that is gone has the position of the next one of its run, and so has a text's end
abbrev pub object_words : ℕ → List Word
object_words o = filter (λ w. w.at.obj == o) (words the_graph)

abbrev pub number_of : ℕ → ℕ
number_of zero = 1
number_of (suc zero) = 2
number_of _ = 0

abbrev pub turned : Order
turned = record {
  runs = object_words 2 ∷ object_words 0 ∷ object_words 1 ∷ [];
  run_of = λ q. number_of q.obj;
  is_placed = λ q. true;
}

pub row_turned : map (position_in turned) all_places ≡ 2 ∷ 3 ∷ 3 ∷ 4 ∷ 5 ∷ 6 ∷ 6 ∷ 7 ∷ 8 ∷ 0 ∷ 1 ∷ 2 ∷ []
row_turned = refl

-- a place that is in no run, as a word of a dropped block, has position 0
pub row_nowhere : position_in (record turned { is_placed = λ q. not (q.obj == 1) }) (at 1 4) ≡ 0
row_nowhere = refl

-- a slot for each target once, for each table
pub row_table_count : table_count the_graph.tables ≡ 3
row_table_count = refl

pub row_shared : slots_of the_graph 0 ≡ small ∷ in_code ∷ []
row_shared = refl

pub row_no_object : slots_of the_graph 1 ≡ []
row_no_object = refl

pub row_second : slots_of the_graph 2 ≡ in_common ∷ []
row_second = refl

-- tables and regions where they are
pub row_tables : PlacedTables data_base the_layout.tables
row_tables = (refl, (refl, (refl, tt)))

pub row_tables_end : tables_end data_base the_layout.tables ≡ 0x140000018
row_tables_end = refl

pub row_order : InOrder the_layout.regions
row_order = (refl, (refl, (refl, tt)))

pub row_regions : PlacedRegions 0x140000018 the_layout.regions
row_regions = (refl, (refl, (refl, (refl, tt))))

pub row_end : regions_end 0x140000018 the_layout.regions ≡ 0x140000088
row_end = refl

-- addresses
pub row_gp : map (gp_of the_layout) (0 ∷ 1 ∷ 2 ∷ []) ≡ 0x140008000 ∷ 0x140008010 ∷ 0x140008000 ∷ []
row_gp = refl

pub row_gp_of_empty : gp_at the_layout 1 ≡ 0x140008010
row_gp_of_empty = refl

pub row_slot : slot_at the_layout 0 in_code ≡ Some 0x140000008
row_slot = refl

pub row_absent_slot : slot_at the_layout 0 in_common ≡ None
row_absent_slot = refl

pub row_absent_table : slot_at the_layout 3 small ≡ None
row_absent_table = refl

pub row_code : address_of the_layout (target.Code (at 0 4)) ≡ 0x120000004
row_code = refl

pub row_code_end : code_at the_layout (at 1 8) ≡ 0x120000018
row_code_end = refl

pub row_pointer : address_of the_layout in_common ≡ 0x140000078
row_pointer = refl

-- an offset counts modulo 2^64
pub row_before : address_of the_layout (target.Ptr (Sec 1 2) 0xfffffffffffffff0) ≡ 0x140000040
row_before = refl

pub row_number : address_of the_layout (target.Num 5) ≡ 5
row_number = refl

pub row_stack : region_at the_layout Stack ≡ 0x11ff00000
row_stack = refl

pub row_heap : region_at the_layout Heap ≡ 0x160000000
row_heap = refl

pub row_sizes : map (size_at the_layout) (Stack ∷ Sec 1 2 ∷ Common 7 ∷ Sec 0 1 ∷ []) ≡ 1048576 ∷ 24 ∷ 24 ∷ 0 ∷ []
row_sizes = refl
