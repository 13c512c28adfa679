-- What the registers are to a word, what an effect writes, and where a word may go.
use Rattle.std.specs.Prelude.{◌≡◌, ◌⊎◌, ℕ, Bool, true, false, List, [], ◌∷◌, Option, Some, None}
use Rattle.om_isa.specs.declared.instr.BrOp.{BrOp}
use Rattle.om_isa.specs.declared.instr.BrOp.TheVariants.{Br, Bsr, If}
use Rattle.om_isa.specs.declared.instr.Instr.{Instr}
use Rattle.om_isa.specs.declared.instr.Instr.TheVariants.{Jump as Jumps}
use Rattle.om_isa.specs.Effect.{Set, Jump, Stop, Calls, StepObserves}
use Rattle.om_isa.specs.SystemCall.{Call, Exits, CallObserves}
use Rattle.om_value.specs.declared.value.Place.{Place}
use Rattle.om_prog.specs.Act.{Act, Plain, To, Word}
use Rattle.om_value.specs.declared.value.Value.{Value}
use Rattle.om_prog.specs.Step.{SymState, SymEffect, read_reg, next_place}

-- two sets of registers agree on a list of them
abbrev pub Agree : (ℕ → Value) → (ℕ → Value) → List ℕ → Type 0
Agree rs ss [] = Unit {0}
Agree rs ss (r ∷ list) = (read_reg rs r ≡ read_reg ss r) × Agree rs ss list

-- a state with other registers and another place
abbrev pub moved : SymState → (ℕ → Value) → Place → SymState
moved s rs q = record s { regs = rs; place = q }

abbrev pub Among : List ℕ → ℕ → Type 0
Among [] x = ⊥
Among (r ∷ rs) x = (r ≡ x) ⊎ Among rs x

abbrev pub call_writes : Call → List ℕ
call_writes (Exits status) = []
call_writes CallObserves = []
call_writes _ = 0 ∷ 19 ∷ []

abbrev pub link_writes : Option ℕ → List ℕ
link_writes None = []
link_writes (Some r) = r ∷ []

abbrev pub effect_writes : SymEffect → List ℕ
effect_writes (Set r v) = r ∷ []
effect_writes (Jump link q) = link_writes link
effect_writes (Calls call a1) = call_writes call
effect_writes _ = []

-- the run ends
abbrev pub call_ends : Call → Bool
call_ends (Exits status) = true
call_ends CallObserves = true
call_ends _ = false

abbrev pub effect_ends : SymEffect → Bool
effect_ends (Stop kind) = true
effect_ends StepObserves = true
effect_ends (Calls call a1) = call_ends call
effect_ends _ = false

-- the place after a word's effect, where the run goes on
abbrev pub effect_place : Place → SymEffect → Place
effect_place at (Jump link q) = q
effect_place at _ = next_place at

-- where a word may go: on to the next place, or to a place; an indirect jump goes to a place of K
abbrev pub branch_falls : BrOp → Type 0
branch_falls Br = ⊥
branch_falls Bsr = ⊥
branch_falls (If k) = Unit {0}

abbrev pub plain_falls : Instr → Type 0
plain_falls (Jumps kind ra rb hint) = ⊥
plain_falls _ = Unit {0}

abbrev pub act_falls : Act → Type 0
act_falls (Plain i) = plain_falls i
act_falls (To op ra q) = branch_falls op
act_falls _ = Unit {0}

abbrev pub plain_jumps : (Place → Type 0) → Instr → Place → Type 0
plain_jumps K (Jumps kind ra rb hint) q = K q
plain_jumps K _ q = ⊥

abbrev pub act_jumps : (Place → Type 0) → Act → Place → Type 0
act_jumps K (Plain i) q = plain_jumps K i q
act_jumps K (To op ra to) q = to ≡ q
act_jumps K _ q = ⊥

abbrev pub GoesTo : (Place → Type 0) → Word → Place → Type 0
GoesTo K w q = (act_falls w.act × (next_place w.at ≡ q)) ⊎ act_jumps K w.act q
