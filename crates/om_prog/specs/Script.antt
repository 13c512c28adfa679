-- The script of a program, and its run.
use Rattle.std.specs.Prelude.{ℕ, ◌+◌, ◌-◌, Bool, ◌&&◌, nat_le, nat_lt, List, Option, Some, None, find, slice_index, slice_index_or, option_map}
use Rattle.om_isa.specs.declared.instr.Instr.{Instr}
use Rattle.om_isa.specs.declared.instr.Instr.TheVariants.{Mem, Branch}
use Rattle.om_value.specs.declared.value.Place.{Place}
use Rattle.om_value.specs.declared.value.Region.{Region}
use Rattle.om_value.specs.declared.value.Region.TheVariants.{Stack, Heap}
use Rattle.om_value.specs.declared.value.Value.{Value}
use Rattle.om_value.specs.declared.value.Value.TheVariants.{Gp, GpOff}
use Rattle.om_prog.specs.declared.item.Role.{Role}
use Rattle.om_prog.specs.declared.item.Role.TheVariants as role
use Rattle.om_prog.specs.declared.item.Field.{Field}
use Rattle.om_prog.specs.declared.region.RegionInit.{RegionInit}
use Rattle.om_prog.specs.View.{ProgramView, item_at, is_word, init_of, size_of}
use Rattle.om_prog.specs.Cells.{Cell, Byte, cells_of}
use Rattle.om_prog.specs.Act.{Act, Plain, Lit, GpHi, GpLo, To, Wrong, Word, Script}
use Rattle.om_prog.specs.Step.{SymState}
use Rattle.om_prog.specs.Runs.{sym_run}

-- ---- initial cells

-- a value with the number of an object's table for that of the object: global pointers are equal where their
-- tables are
abbrev pub retabled : (ℕ → ℕ) → Value → Value
retabled table (Gp o) = Gp (table o)
retabled table (GpOff o t) = GpOff (table o) t
retabled table v = v

abbrev pub covers : ℕ → Field → Bool
covers x f = nat_le f.off x && nat_lt x (f.off + f.width)

-- the cell at x under a field, or else of the bytes, which zeros follow
abbrev pub field_cell : (ℕ → ℕ) → List ℕ → ℕ → Option Field → Cell
field_cell table bytes x None = Byte (slice_index bytes x)
field_cell table bytes x (Some f) = slice_index_or (cells_of f.width (retabled table f.value)) (x - f.off) (Byte 0)

abbrev pub init_cell : (ℕ → ℕ) → Option RegionInit → ℕ → Cell
init_cell table None x = Byte 0
init_cell table (Some i) x = field_cell table i.bytes x (find (covers x) i.fields)

-- the cells at the start; those of the stack and of the heap are 0
abbrev pub initial : ProgramView → (ℕ → ℕ) → Region → ℕ → Cell
initial p table Stack x = Byte 0
initial p table Heap x = Byte 0
initial p table r x = init_cell table (init_of p r) x

-- ---- words

-- what a word of this role and instruction does
abbrev pub act_of : Role → Instr → Act
act_of role.Plain i = Plain i
act_of (role.Lit t) (Mem op ra rb disp) = Lit ra rb t
act_of (role.GpHi base) (Mem op ra rb disp) = GpHi ra rb base
act_of (role.GpLo hi) (Mem op ra rb disp) = GpLo ra rb hi
act_of (role.To q) (Branch op ra disp) = To op ra q
act_of _ _ = Wrong

abbrev pub program_fetch : ProgramView → Place → Option Word
program_fetch p at = option_map (λ i. record { at = at; act = act_of i.role i.instr }) (item_at p at)

-- each object has a table of its own
abbrev pub own_table : ℕ → ℕ
own_table obj = obj

abbrev pub program_script : ProgramView → Script
program_script p = record {
  fetch = program_fetch p;
  lands = is_word p;
  table = own_table;
  entry = p.entry;
  sizes = size_of p;
  cells = initial p own_table;
}

-- the state of a program after n steps
abbrev pub program_run : ProgramView → List ℕ → ℕ → SymState
program_run p = sym_run (program_script p)
