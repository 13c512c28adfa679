-- Worked landing places: where a jump by a register may go, and where it may not.
use Rattle.std.specs.Prelude.{◌≡◌, pos, false, true, [], ◌∷◌, refl}
use Rattle.om_isa.specs.declared.instr.BrOp.TheVariants.{Br, Bsr}
use Rattle.om_isa.specs.declared.instr.Instr.TheVariants.{Branch, Callsys}
use Rattle.om_value.specs.declared.value.Region.TheVariants.{Sec}
use Rattle.om_value.specs.declared.value.Target.TheVariants as target
use Rattle.om_value.specs.declared.value.Value.TheVariants.{GpOff, Num}
use Rattle.om_prog.specs.declared.item.Role.TheVariants.{To}
use Rattle.om_prog.specs.View.{ProgramView}
use Rattle.om_prog.specs.Rows.{place, plain, with_role, program_of}
use Rattle.om_graph.specs.Landing.{is_landing, begins}

-- the target of a distance from the global pointer is one, and a field that holds a number names none
abbrev pub with_table : ProgramView
with_table =
    program_of
    (plain Callsys ∷ plain Callsys ∷ plain Callsys ∷ [])
    (record {
      region = Sec 0 2;
      size = 16;
      zero = false;
      bytes = [];
      fields =
          record { off = 0; width = 4; value = GpOff 0 (target.Code (place 4)) } ∷ record { off = 8; width = 8; value = Num 8 } ∷ [];
    }
    ∷ [])

pub row_distance : is_landing with_table (place 4) ≡ true
row_distance = refl

pub row_number : begins with_table (place 8) ≡ false
row_number = refl

-- the word behind a BR with a link register is one, and the word behind a BSR of r31 only begins a block
abbrev pub with_links : ProgramView
with_links =
    program_of
    (plain Callsys
    ∷ with_role (To (place 0)) (Branch Br 26 (pos 0)) ∷ plain Callsys ∷ with_role (To (place 0)) (Branch Bsr 31 (pos 0)) ∷ plain Callsys ∷ [])
    []

pub row_behind_link : is_landing with_links (place 8) ≡ true
row_behind_link = refl

pub row_behind_no_link : is_landing with_links (place 16) ≡ false
row_behind_no_link = refl

pub row_behind_branch : begins with_links (place 16) ≡ true
row_behind_branch = refl
