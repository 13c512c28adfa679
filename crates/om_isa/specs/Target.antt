-- Where branches go (Alpha Architecture Handbook, chapter 3, "Branch Instruction Format").
use Rattle.std.specs.Prelude.{ℕ, ℤ, ◌+◌, ◌*◌, ◌%◌, ◌^◌, Option, Some, None}
use Rattle.std.specs.Int.{cast_unsigned, w64}
use Rattle.om_isa.specs.declared.instr.Instr.{Instr}
use Rattle.om_isa.specs.declared.instr.Instr.TheVariants.{Mem, Jump, Branch, Alu, Cmov, Misc, Fnop, Halt, Callsys}

-- the place that a displacement in words leads to, counted from the next place, modulo 2 ^ 64
abbrev pub displaced : ℕ → ℤ → ℕ
displaced place disp = (place + 4 + 4 * cast_unsigned w64 disp) % 2 ^ 64

-- where an instruction at this place branches to; none where it is no branch
abbrev pub target_of : Instr → ℕ → Option ℕ
target_of (Branch op ra disp) place = Some (displaced place disp)
target_of (Mem op ra rb disp) place = None
target_of (Jump kind ra rb hint) place = None
target_of (Alu op ra rb rc) place = None
target_of (Cmov cond ra rb rc) place = None
target_of (Misc op ra rb) place = None
target_of Fnop place = None
target_of Halt place = None
target_of Callsys place = None
