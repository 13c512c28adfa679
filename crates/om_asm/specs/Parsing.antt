-- What a call to read one instruction answers.
use Rattle.std.specs.Prelude.{◌≡◌, ℕ, true, List, Option, Some, None}
use Rattle.om_alpha.specs.declared.op.AluOp.{AluOp}
use Rattle.om_alpha.specs.declared.op.AluOp.TheVariants.{Sextb, Sextw}
use Rattle.om_isa.specs.declared.instr.Instr.{Instr}
use Rattle.om_isa.specs.declared.instr.Instr.TheVariants.{Jump, Alu, Misc}
use Rattle.om_isa.specs.Words.{IsInstr}
use Rattle.om_listing.specs.Texts.{instr_text}
use Rattle.om_asm.specs.Statements.{is_spelled, jump_hint}

-- an instruction with its fields in range, of which this is the text; fields that the text does not show are usual
pub record IsTextOf (text : List ℕ) (i : Instr) : Type 0 where
  pub text_is : instr_text i ≡ text
  pub fields : IsInstr i
  pub usual : is_spelled i ≡ true

abbrev pub ParsesInstr : List ℕ → Option Instr → Type 0
ParsesInstr text (Some i) = IsTextOf text i
ParsesInstr text None = (i : Instr) → IsTextOf text i → ⊥

abbrev pub usual_ra : AluOp → ℕ → ℕ
usual_ra Sextb ra = 31
usual_ra Sextw ra = 31
usual_ra _ ra = ra

-- the instruction with the usual numbers in the fields that its text does not show
abbrev pub usual_of : Instr → Instr
usual_of (Jump kind ra rb hint) = Jump kind ra rb (jump_hint kind)
usual_of (Alu op ra rb rc) = Alu op (usual_ra op ra) rb rc
usual_of (Misc op ra rb) = Misc op 0 0
usual_of i = i

-- a text has at most one instruction with usual hidden fields, and the text of each instruction has the usual one: so the
-- text of an instruction is read as that
pub record TextsAreRead : Type 0 where
  pub one_instr : (text : List ℕ) (i j : Instr) → IsTextOf text i → IsTextOf text j → i ≡ j
  pub a_text : (i : Instr) → IsInstr i → IsTextOf (instr_text i) (usual_of i)
  pub read : (i : Instr) (answer : Option Instr) → IsInstr i → ParsesInstr (instr_text i) answer → answer ≡ Some (usual_of i)
