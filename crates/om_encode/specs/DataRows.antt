-- Worked data: a table of two slots, a region that is zero between what is not, a region with fields, and a common behind.
use Rattle.std.specs.Prelude.{◌≡◌, true, false, [], ◌∷◌, refl}
use Rattle.om_value.specs.declared.value.Place.{Place}
use Rattle.om_value.specs.declared.value.Region.TheVariants.{Sec, Common}
use Rattle.om_value.specs.declared.value.Target.TheVariants as target
use Rattle.om_value.specs.declared.value.Value.TheVariants as value
use Rattle.om_prog.specs.View.{ProgramView}
use Rattle.om_layout.specs.Layout.{LayoutView}
use Rattle.om_encode.specs.Data.{data_given, data_end}
use Rattle.om_encode.specs.DataBytes.{overlay, data_bytes}

abbrev pub entry_place : Place
entry_place = record { obj = 0; off = 0 }

abbrev pub the_data : ProgramView
the_data = record {
  texts = [];
  regions =
      record { region = Common 7; size = 24; zero = true; bytes = []; fields = [] }
      ∷ record { region = Sec 0 5; size = 8; zero = true; bytes = []; fields = [] }
      ∷ record {
        region = Sec 0 3;
        size = 24;
        zero = false;
        bytes = 1 ∷ 2 ∷ 3 ∷ 4 ∷ 5 ∷ [];
        fields =
            record { off = 16; width = 8; value = value.Code (record { obj = 0; off = 4 }) }
            ∷ record { off = 4; width = 4; value = value.GpOff 0 (target.Ptr (Common 7) 8) } ∷ [];
      } ∷ [];
  entry = entry_place;
}

abbrev pub data_layout : LayoutView
data_layout = record {
  counts = 2 ∷ [];
  object_tables = 0 ∷ [];
  tables = record { start = 0x140000000; slots = target.Num 5 ∷ target.Ptr (Sec 0 3) 4 ∷ [] } ∷ [];
  regions =
      record { region = Sec 0 5; address = 0x140000010; size = 8 }
      ∷ record { region = Sec 0 3; address = 0x140000020; size = 24 }
      ∷ record { region = Common 7; address = 0x140000040; size = 24 } ∷ [];
  positions = 0 ∷ 1 ∷ 2 ∷ [];
}

-- the slots; 16 bytes of zero; the region's bytes, with the distance over the last of them, zeros, and the place in code. The
-- common stands 64 bytes behind the table, so its byte 8 lies 32696 bytes before the global pointer
pub row_data_bytes :
    data_bytes data_layout the_data
    ≡ 5 ∷ 0 ∷ 0 ∷ 0 ∷ 0 ∷ 0 ∷ 0 ∷ 0 ∷ 0x24 ∷ 0 ∷ 0 ∷ 0x40 ∷ 1 ∷ 0 ∷ 0 ∷ 0
    ∷ 0 ∷ 0 ∷ 0 ∷ 0 ∷ 0 ∷ 0 ∷ 0 ∷ 0 ∷ 0 ∷ 0 ∷ 0 ∷ 0 ∷ 0 ∷ 0 ∷ 0 ∷ 0
    ∷ 1 ∷ 2 ∷ 3 ∷ 4 ∷ 0x48 ∷ 0x80 ∷ 0xff ∷ 0xff ∷ 0 ∷ 0 ∷ 0 ∷ 0 ∷ 0 ∷ 0 ∷ 0 ∷ 0
    ∷ 4 ∷ 0 ∷ 0 ∷ 0x20 ∷ 1 ∷ 0 ∷ 0 ∷ 0 ∷ []
row_data_bytes = refl

-- the common behind the last region that is not zero takes no bytes
pub row_given : data_given the_data data_layout ≡ 0x140000038
row_given = refl

pub row_end : data_end the_data data_layout ≡ 0x140000058
row_end = refl

pub row_overlay : overlay 1 (7 ∷ 8 ∷ []) (1 ∷ 2 ∷ 3 ∷ 4 ∷ []) ≡ 1 ∷ 7 ∷ 8 ∷ 4 ∷ []
row_overlay = refl
