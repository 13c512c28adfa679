-- Worked steps: a call made direct, a closed pair dropped, a call past a pair, and what each of
-- them weighs.
use Rattle.std.specs.Prelude.{◌≡◌, pos, false, [], ◌∷◌, refl}
use Rattle.om_isa.specs.declared.instr.BrOp.TheVariants.{Bsr}
use Rattle.om_isa.specs.declared.instr.MemOp.TheVariants.{Lda}
use Rattle.om_isa.specs.declared.instr.JumpOp.TheVariants.{Jsr, Ret}
use Rattle.om_isa.specs.declared.instr.Instr.TheVariants.{Mem, Jump, Callsys}
use Rattle.om_value.specs.declared.value.Target.TheVariants as target
use Rattle.om_prog.specs.View.{ProgramView}
use Rattle.om_prog.specs.Valid.{IsProgram}
use Rattle.om_graph.specs.declared.op.OpKind.TheVariants as op
use Rattle.om_graph.specs.declared.op.Last.TheVariants as last
use Rattle.om_graph.specs.View.{GraphView, last_set, deleted}
use Rattle.om_graph.specs.Weight.{weight}
use Rattle.om_graph.specs.Rows.{at, calling, entering, lessened}
use Rattle.om_passes.specs.OneEdit.{MayGoOn}
use Rattle.om_passes.specs.Step.{Step, Steps}

-- four blocks and seven words, and a BSR to an opening pair; past the pair it weighs one less;
-- without the pair two less
pub row_weight : weight calling ≡ 14
row_weight = refl

pub row_weight_entered : weight entering ≡ 13
row_weight_entered = refl

pub row_weight_dropped : weight lessened ≡ 11
row_weight_dropped = refl

-- a load of the address 16 into r27; jsr r26,(r27); an exit; and at 16 a procedure that returns
abbrev pub by_register : GraphView
by_register = record {
  counts = 5 ∷ [];
  roots = at 0 ∷ [];
  tables = 0 ∷ [];
  labels = at 0 ∷ at 8 ∷ at 16 ∷ [];
  blocks =
      record {
        id = 0;
        label = at 0;
        opening = false;
        ops = record {
          id = 0;
          op = record {
            place = at 0;
            kind = op.Lit 27 29 (target.Code (at 16));
          };
        } ∷ [];
        last = last.CallBy (at 4) (Jump Jsr 26 27 0);
      }
      ∷ record {
        id = 1;
        label = at 8;
        opening = false;
        ops =
            record { id = 1; op = record { place = at 8; kind = op.Plain (Mem Lda 0 31 (pos 1)) } }
            ∷ record { id = 2; op = record { place = at 12; kind = op.Plain Callsys } } ∷ [];
        last = last.Fall;
      }
      ∷ record {
        id = 2;
        label = at 16;
        opening = false;
        ops = [];
        last = last.JumpBy (at 16)
            (Jump Ret 31 26 0);
      } ∷ [];
  touched = [];
}

abbrev pub direct : GraphView
direct = last_set by_register 0 (last.Call (at 4) Bsr 26 (at 16))

-- a load counts twice, a call or jump by a register three times
pub row_weight_by_register : weight by_register ≡ 13
row_weight_by_register = refl

pub row_weight_direct : weight direct ≡ 11
row_weight_direct = refl

-- whatever program these are graphs of
pub record WorkedSteps : Type 0 where
  pub made_direct :
      (p : ProgramView) → IsProgram p → MayGoOn p by_register → Step p by_register direct
  pub entered : (p : ProgramView) → IsProgram p → MayGoOn p calling → Step p calling entering
  pub dropped :
      (p : ProgramView) → IsProgram p → MayGoOn p calling →
      Step p calling (deleted (deleted calling 4) 3)
  -- and in a row
  pub both :
      (p : ProgramView) → IsProgram p → MayGoOn p calling → MayGoOn p entering →
      Steps p calling (deleted (deleted entering 4) 3)
