-- Calls that end blocks. No public clause cites this module.
use Rattle.std.specs.Prelude.{ℕ, ◌==◌, if◌then◌else◌, Option, Some, None}
use Rattle.om_isa.specs.declared.instr.BrOp.{BrOp}
use Rattle.om_isa.specs.declared.instr.BrOp.TheVariants.{Bsr}
use Rattle.om_isa.specs.declared.instr.JumpOp.{JumpOp}
use Rattle.om_isa.specs.declared.instr.JumpOp.TheVariants.{Jsr}
use Rattle.om_isa.specs.declared.instr.Instr.{Instr}
use Rattle.om_isa.specs.declared.instr.Instr.TheVariants.{Jump}
use Rattle.om_value.specs.declared.value.Place.{Place}
use Rattle.om_graph.specs.declared.op.Last.{Last}
use Rattle.om_graph.specs.declared.op.Last.TheVariants as last
use Rattle.om_calls.specs.declared.ends.RegisterCall.{RegisterCall}
use Rattle.om_calls.specs.declared.ends.PlaceCall.{PlaceCall}

abbrev pub jsr_with : Place → JumpOp → ℕ → Option RegisterCall
jsr_with at Jsr ra = Some (record { at = at; ra = ra })
jsr_with at _ ra = None

abbrev pub jsr_at : Place → Instr → Option RegisterCall
jsr_at at (Jump kind ra rb hint) = jsr_with at kind ra
jsr_at at _ = None

-- the JSR that ends a block
abbrev pub jsr_of : Last → Option RegisterCall
jsr_of (last.CallBy at i) = jsr_at at i
jsr_of (last.JumpBy at i) = jsr_at at i
jsr_of _ = None

abbrev pub bsr_at : Place → BrOp → ℕ → Place → Option PlaceCall
bsr_at at Bsr ra to = Some (record { at = at; ra = ra; to = to })
bsr_at at _ ra to = None

-- the BSR that ends a block
abbrev pub bsr_of : Last → Option PlaceCall
bsr_of (last.Br at op ra to) = bsr_at at op ra to
bsr_of (last.Call at op ra to) = bsr_at at op ra to
bsr_of _ = None

-- a BSR as the end of a block: a branch where its link register is r31
abbrev pub end_with : PlaceCall → Last
end_with c = if c.ra == 31 then last.Br c.at Bsr c.ra c.to else last.Call c.at Bsr c.ra c.to
