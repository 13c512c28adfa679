-- A worked image whose words stand in another order than in its program: two words that branch to each other, the second one
-- first.
use Rattle.std.specs.Prelude.{ℕ, pos, negsuc, true, false, List, [], ◌∷◌}
use Rattle.om_isa.specs.declared.instr.BrOp.TheVariants.{Br}
use Rattle.om_isa.specs.declared.instr.Instr.TheVariants.{Branch}
use Rattle.om_value.specs.declared.value.Place.{Place}
use Rattle.om_prog.specs.declared.item.Item.{Item}
use Rattle.om_prog.specs.declared.item.Role.TheVariants as role
use Rattle.om_prog.specs.Script.{program_script}
use Rattle.om_prog.specs.View.{ProgramView}
use Rattle.om_graph.specs.declared.op.Last.TheVariants as last
use Rattle.om_graph.specs.Kept.{KeptInBlocks}
use Rattle.om_graph.specs.View.{GraphView}
use Rattle.om_image.specs.declared.image.Image.{Image}
use Rattle.om_layout.specs.Layout.{LayoutView}
use Rattle.om_lockstep.specs.Lockstep.{AreBytes, InLockstep}
use Rattle.om_encode.specs.Encoded.{IsEncodable}
use Rattle.om_encode.specs.Halves.{addresses_of}

abbrev pub place_0 : Place
place_0 = record { obj = 0; off = 0 }

abbrev pub place_4 : Place
place_4 = record { obj = 0; off = 4 }

abbrev pub first_item : Item
first_item = record { word = 0xc3e00000; instr = Branch Br 31 (pos 0); role = role.To place_4 }

abbrev pub second_item : Item
second_item = record { word = 0xc3fffffe; instr = Branch Br 31 (negsuc 1); role = role.To place_0 }

abbrev pub two_words : ProgramView
two_words = record { texts = (first_item ∷ second_item ∷ []) ∷ []; regions = []; entry = place_0 }

abbrev pub two_blocks : GraphView
two_blocks = record {
  counts = 2 ∷ [];
  roots = place_0 ∷ [];
  tables = 0 ∷ [];
  labels = place_0 ∷ place_4 ∷ [];
  blocks =
      record { id = 0; label = place_0; opening = false; ops = []; last = last.Br place_0 Br 31 place_4 }
      ∷ record { id = 1; label = place_4; opening = false; ops = []; last = last.Br place_4 Br 31 place_0 } ∷ [];
  touched = [];
}

-- the word at 0 is the second of the image
abbrev pub turned_layout : LayoutView
turned_layout = record {
  counts = 2 ∷ [];
  object_tables = 0 ∷ [];
  tables = record { start = 0x140000000; slots = [] } ∷ [];
  regions = [];
  positions = 1 ∷ 0 ∷ 2 ∷ [];
}

-- each word goes to the other still, so their displacements have changed places
abbrev pub turned_image : Image
turned_image = record {
  entry = 0x120000004;
  gp = 0x140008000;
  text = 0xc3e00000 ∷ 0xc3fffffe ∷ [];
  bytes = [];
  bss = 0;
  map = record {
    objects = record { words = 2; table = 0 } ∷ [];
    tables = record { start = 0x140000000; slots = [] } ∷ [];
    regions = [];
    words =
        record { old = 0xc3e00000; position = 1; kept = true } ∷ record { old = 0xc3fffffe; position = 0; kept = true } ∷ [];
  };
}

-- the encoder takes the graph in this layout, and the image runs in lockstep with the program
pub record TurnedWordsRun : Type 0 where
  pub encodable : IsEncodable two_words two_blocks turned_layout
  pub kept : KeptInBlocks two_blocks
  pub runs :
      (input : List ℕ) → AreBytes input →
      InLockstep (program_script two_words) (addresses_of two_words two_blocks turned_layout) turned_image input
