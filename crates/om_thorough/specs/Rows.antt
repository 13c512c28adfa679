-- Worked rows: a program of three words, a load of the address of the third, a call by it, and a branch to itself; its image
-- as a plain link makes it, and one in which the load is gone.
use Rattle.std.specs.Prelude.{◌≡◌, ℕ, pos, negsuc, true, false, [], ◌∷◌, ◌++◌, Some, refl, ◌+◌, ◌-◌, ◌^◌}
use Rattle.om_isa.specs.declared.instr.BrOp.TheVariants.{Br, Bsr}
use Rattle.om_isa.specs.declared.instr.JumpOp.TheVariants.{Jsr}
use Rattle.om_isa.specs.declared.instr.MemOp.TheVariants.{Ldq}
use Rattle.om_isa.specs.declared.instr.Instr.TheVariants.{Mem, Jump, Branch}
use Rattle.om_value.specs.declared.value.Place.{Place}
use Rattle.om_value.specs.declared.value.Region.TheVariants.{Sec}
use Rattle.om_value.specs.declared.value.Target.TheVariants as target
use Rattle.om_prog.specs.declared.item.Item.{Item}
use Rattle.om_prog.specs.declared.item.Role.TheVariants as role
use Rattle.om_prog.specs.View.{ProgramView}
use Rattle.om_graph.specs.declared.op.OpKind.TheVariants as op
use Rattle.om_graph.specs.declared.op.Last.TheVariants as last
use Rattle.om_graph.specs.View.{Shape}
use Rattle.om_graph.specs.Lifted.{lifted_shapes}
use Rattle.om_image.specs.declared.image.Image.{Image}
use Rattle.om_graph.specs.Grouping.{grouped_tables}
use Rattle.om_graph.specs.Left.{IsNear}
use Rattle.om_thorough.specs.Thorough.{kept_in_map, image_instr, KnownCallsDirect}

abbrev pub at : ℕ → Place
at off = record { obj = 0; off = off }

abbrev pub load_item : Item
load_item = record { word = 0xa77d0000; instr = Mem Ldq 27 29 (pos 0); role = role.Lit (target.Code (at 8)) }

abbrev pub call_item : Item
call_item = record { word = 0x6b5b4000; instr = Jump Jsr 26 27 0; role = role.Plain }

abbrev pub stay_item : Item
stay_item = record { word = 0xc3ffffff; instr = Branch Br 31 (negsuc 0); role = role.To (at 8) }

abbrev pub the_program : ProgramView
the_program = record { texts = (load_item ∷ call_item ∷ stay_item ∷ []) ∷ []; regions = []; entry = at 0 }

-- its blocks
abbrev pub call_shape : Shape
call_shape = record {
  label = at 0;
  opening = false;
  ops = record { place = at 0; kind = op.Lit 27 29 (target.Code (at 8)) } ∷ [];
  last = last.CallBy (at 4) (Jump Jsr 26 27 0);
}

abbrev pub stay_shape : Shape
stay_shape = record { label = at 8; opening = false; ops = []; last = last.Br (at 8) Br 31 (at 8) }

pub row_shapes : lifted_shapes the_program ≡ call_shape ∷ stay_shape ∷ []
row_shapes = refl

-- with all words as they were
abbrev pub plain_image : Image
plain_image = record {
  entry = 0x120000000;
  gp = 0x140008000;
  text = 0xa77d8000 ∷ 0x6b5b4000 ∷ 0xc3ffffff ∷ [];
  bytes = 8 ∷ 0 ∷ 0 ∷ 0x20 ∷ 1 ∷ 0 ∷ 0 ∷ 0 ∷ [];
  bss = 0;
  map = record {
    objects = record { words = 3; table = 0 } ∷ [];
    tables = [];
    regions = [];
    words =
        record { old = 0xa77d0000; position = 0; kept = true } ∷ record { old = 0x6b5b4000; position = 1; kept = true }
        ∷ record { old = 0xc3ffffff; position = 2; kept = true }
        ∷ [];
  };
}

-- with a direct call, and without the load
abbrev pub short_image : Image
short_image = record {
  entry = 0x120000000;
  gp = 0x140008000;
  text = 0xd3400000 ∷ 0xc3ffffff ∷ [];
  bytes = [];
  bss = 0;
  map = record {
    objects = record { words = 3; table = 0 } ∷ [];
    tables = [];
    regions = [];
    words =
        record { old = 0xa77d0000; position = 0; kept = false } ∷ record { old = 0x6b5b4000; position = 0; kept = true }
        ∷ record { old = 0xc3ffffff; position = 1; kept = true }
        ∷ [];
  };
}

-- ---- what a map says

pub row_kept : kept_in_map the_program plain_image (at 0) ≡ true
row_kept = refl

pub row_gone : kept_in_map the_program short_image (at 0) ≡ false
row_gone = refl

pub row_call_kept : kept_in_map the_program short_image (at 4) ≡ true
row_call_kept = refl

-- ---- grouping

pub row_one_table : grouped_tables the_program ≡ 0 ∷ []
row_one_table = refl

-- three objects within the slots of a table share it
pub row_shared : grouped_tables (record the_program { texts = the_program.texts ++ the_program.texts ++ the_program.texts }) ≡ 0 ∷ 0 ∷ 0 ∷ []
row_shared = refl

-- ---- the image's instructions, and a call that was left

abbrev pub CallIsDirect : Type 0
CallIsDirect = image_instr the_program short_image (at 4) ≡ Some (Branch Bsr 26 (pos 0))

abbrev pub CallIsLeft : Type 0
CallIsLeft = image_instr the_program plain_image (at 4) ≡ Some (Jump Jsr 26 27 0)

-- a plain image is refused
abbrev pub PlainIsRefused : Type 0
PlainIsRefused = KnownCallsDirect the_program plain_image → ⊥

-- ---- near, with the global pointer at 0x140008000 and a region of 65544 bytes at 0x140000000

abbrev pub wide_program : ProgramView
wide_program = record {
  texts = [];
  regions = record { region = Sec 0 3; size = 65544; zero = true; bytes = []; fields = [] } ∷ [];
  entry = at 0;
}

abbrev pub IsNearAt : ℕ → Type 0
IsNearAt x = IsNear wide_program (λ o. 0x140008000) (λ t. 0x140000000 + x) 0 (target.Ptr (Sec 0 3) x)

abbrev pub IsNearNumber : ℕ → Type 0
IsNearNumber n = IsNear wide_program (λ o. 0x140008000) (λ t. n) 0 (target.Num n)

pub record NearRows : Type 0 where
  pub first : IsNearAt 0
  pub last : IsNearAt 65535
  pub past : IsNearAt 65536 → ⊥
  pub outside : IsNear wide_program (λ o. 0x140008000) (λ t. 0x140008000) 0 (target.Ptr (Sec 0 3) 65545) → ⊥
  pub number : IsNearNumber 32767
  pub above : IsNearNumber 32768 → ⊥
  pub negative : IsNearNumber (2 ^ 64 - 32768)
  pub below : IsNearNumber (2 ^ 64 - 32769) → ⊥
  pub code : IsNear wide_program (λ o. 0x140008000) (λ t. 0x140008000) 0 (target.Code (at 8)) → ⊥
