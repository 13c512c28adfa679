-- A worked image: one word that branches to itself, and a region of eight bytes that are zero.
use Rattle.std.specs.Prelude.{◌≡◌, ℕ, pos, negsuc, true, false, List, [], ◌∷◌, refl}
use Rattle.om_isa.specs.declared.instr.BrOp.TheVariants.{Br}
use Rattle.om_isa.specs.declared.instr.Instr.TheVariants.{Branch}
use Rattle.om_value.specs.declared.value.Place.{Place}
use Rattle.om_value.specs.declared.value.Region.TheVariants.{Sec}
use Rattle.om_value.specs.declared.value.Target.TheVariants as target
use Rattle.om_value.specs.declared.value.Value.TheVariants as value
use Rattle.om_prog.specs.declared.item.Item.{Item}
use Rattle.om_prog.specs.declared.item.Role.TheVariants as role
use Rattle.om_prog.specs.declared.region.RegionInit.{RegionInit}
use Rattle.om_prog.specs.View.{ProgramView}
use Rattle.om_graph.specs.declared.op.Last.TheVariants as last
use Rattle.om_graph.specs.View.{GraphView}
use Rattle.om_image.specs.declared.image.Image.{Image}
use Rattle.om_image.specs.declared.map.Region.TheVariants as part
use Rattle.om_layout.specs.Layout.{LayoutView}
use Rattle.om_lockstep.specs.Lockstep.{AreBytes, InLockstep}
use Rattle.om_prog.specs.Script.{program_script}
use Rattle.om_encode.specs.Halves.{high_part, addresses_of}
use Rattle.om_encode.specs.Data.{value_bytes}

abbrev pub first_place : Place
first_place = record { obj = 0; off = 0 }

abbrev pub the_item : Item
the_item = record { word = 0xc3ffffff; instr = Branch Br 31 (negsuc 0); role = role.To first_place }

abbrev pub the_region : RegionInit
the_region = record { region = Sec 0 3; size = 8; zero = true; bytes = []; fields = [] }

abbrev pub the_program : ProgramView
the_program = record { texts = (the_item ∷ []) ∷ []; regions = the_region ∷ []; entry = first_place }

abbrev pub the_graph : GraphView
the_graph = record {
  counts = 1 ∷ [];
  roots = first_place ∷ [];
  tables = 0 ∷ [];
  labels = first_place ∷ [];
  blocks = record { id = 0; label = first_place; opening = false; ops = []; last = last.Br first_place Br 31 first_place } ∷ [];
  touched = [];
}

abbrev pub the_layout : LayoutView
the_layout = record {
  counts = 1 ∷ [];
  object_tables = 0 ∷ [];
  tables = record { start = 0x140000000; slots = [] } ∷ [];
  regions = record { region = Sec 0 3; address = 0x140000000; size = 8 } ∷ [];
  positions = 0 ∷ 1 ∷ [];
}

abbrev pub the_image : Image
the_image = record {
  entry = 0x120000000;
  gp = 0x140008000;
  text = 0xc3ffffff ∷ [];
  bytes = [];
  bss = 8;
  map = record {
    objects = record { words = 1; table = 0 } ∷ [];
    tables = record { start = 0x140000000; slots = [] } ∷ [];
    regions = record { region = part.Sec 0 3; address = 0x140000000; size = 8 } ∷ [];
    words = record { old = 0xc3ffffff; position = 0; kept = true } ∷ [];
  };
}

-- it runs in lockstep with its program
abbrev pub TheImageRuns : Type 0
TheImageRuns =
    (input : List ℕ) → AreBytes input →
    InLockstep (program_script the_program) (addresses_of the_program the_graph the_layout) the_image input

-- ---- high parts: what is left has 16 signed bits

pub row_high_least : high_part (negsuc 32768) ≡ negsuc 0
row_high_least = refl

pub row_high_below : high_part (negsuc 32767) ≡ pos 0
row_high_below = refl

pub row_high_none : high_part (pos 32767) ≡ pos 0
row_high_none = refl

pub row_high_up : high_part (pos 32768) ≡ pos 1
row_high_up = refl

pub row_high_far : high_part (pos 0x20008000) ≡ pos 0x2001
row_high_far = refl

-- ---- fields of data

pub row_code_bytes : value_bytes the_layout (value.Code (record { obj = 0; off = 4 })) ≡ 4 ∷ 0 ∷ 0 ∷ 0x20 ∷ 1 ∷ 0 ∷ 0 ∷ 0 ∷ []
row_code_bytes = refl

pub row_pointer_bytes : value_bytes the_layout (value.Ptr (Sec 0 3) 8) ≡ 8 ∷ 0 ∷ 0 ∷ 0x40 ∷ 1 ∷ 0 ∷ 0 ∷ 0 ∷ []
row_pointer_bytes = refl

-- the region begins 32768 bytes before the global pointer
pub row_distance_bytes : value_bytes the_layout (value.GpOff 0 (target.Ptr (Sec 0 3) 0)) ≡ 0 ∷ 0x80 ∷ 0xff ∷ 0xff ∷ []
row_distance_bytes = refl
