-- What a word and a block do to the registers, as masks, and to r29.
use Rattle.std.specs.Prelude.{◌≡◌, ◌↔◌, ◌<◌, ℕ, Bool, true, false, ◌==◌, List, [], ◌∷◌, if◌then◌else◌}
use Rattle.std.specs.Int.{bit_at, bit_not, w32}
use Rattle.std.specs.Int.Bits.{bit_and, bit_or}
use Rattle.om_isa.specs.Registers.{regs_read, regs_written, branch_reads, branch_writes}
use Rattle.om_prog.specs.Act.{Word, Script, base_of, used_reads, act_reads, act_writes}
use Rattle.om_prog.specs.Facts.{Fact, has, changed}
use Rattle.om_flow.specs.declared.parts.Transfer.{Transfer}
use Rattle.om_flow.specs.declared.parts.Transfer.TheVariants.{Keep, SetTable, SetUnknown}
use Rattle.om_graph.specs.declared.op.OpKind.{OpKind}
use Rattle.om_graph.specs.declared.op.OpKind.TheVariants as op
use Rattle.om_graph.specs.declared.op.Last.{Last}
use Rattle.om_graph.specs.declared.op.Last.TheVariants as last
use Rattle.om_graph.specs.View.{Has}
use Rattle.om_graph.specs.Checks.{onward, reads_first, written_in}
use Rattle.om_blocks.specs.declared.effects.Effect.{Effect}
use Rattle.om_blocks.specs.IsFlow.{behind}

-- ---- registers

abbrev pub kind_reads : OpKind → List ℕ
kind_reads (op.Plain i) = regs_read i
kind_reads (op.Lit ra rb t) = if ra == 31 then [] else rb ∷ []
kind_reads (op.AddrLda ra rb t) = rb ∷ []
kind_reads (op.AddrHi ra rb t least) = rb ∷ []
kind_reads (op.UseLo i hi) = base_of i ∷ used_reads i
kind_reads (op.UseGp i gp t) = gp ∷ used_reads i
kind_reads (op.GpHi ra rb base) = rb ∷ []
kind_reads (op.GpLo ra rb hi) = rb ∷ []

abbrev pub kind_writes : OpKind → List ℕ
kind_writes (op.Plain i) = regs_written i
kind_writes (op.Lit ra rb t) = ra ∷ []
kind_writes (op.AddrLda ra rb t) = ra ∷ []
kind_writes (op.AddrHi ra rb t least) = ra ∷ []
kind_writes (op.UseLo i hi) = regs_written i
kind_writes (op.UseGp i gp t) = regs_written i
kind_writes (op.GpHi ra rb base) = ra ∷ []
kind_writes (op.GpLo ra rb hi) = ra ∷ []

abbrev pub last_reads : Last → List ℕ
last_reads last.Fall = []
last_reads last.Off = []
last_reads (last.Br at op ra to) = branch_reads op ra
last_reads (last.Cond at i to) = regs_read i
last_reads (last.Call at op ra to) = branch_reads op ra
last_reads (last.CallBy at i) = regs_read i
last_reads (last.JumpBy at i) = regs_read i

abbrev pub last_writes : Last → List ℕ
last_writes last.Fall = []
last_writes last.Off = []
last_writes (last.Br at op ra to) = branch_writes op ra
last_writes (last.Cond at i to) = regs_written i
last_writes (last.Call at op ra to) = branch_writes op ra
last_writes (last.CallBy at i) = regs_written i
last_writes (last.JumpBy at i) = regs_written i

-- ---- r29

-- a word that writes it leaves another value, but for the low half of a pair
abbrev pub other_value : Bool → Transfer
other_value b = if b then SetUnknown else Keep

abbrev pub kind_transfer : ℕ → OpKind → Transfer
kind_transfer table (op.GpLo ra rb hi) = if ra == 29 then SetTable table else Keep
kind_transfer table k = other_value (has (kind_writes k) 29)

-- ---- effects

abbrev pub transfer_then : Transfer → Transfer → Transfer
transfer_then t Keep = t
transfer_then t u = u

abbrev pub effect_then : Effect → Effect → Effect
effect_then e d = record {
  reads = bit_or e.reads (bit_and d.reads (bit_not w32 e.writes));
  writes = bit_or e.writes d.writes;
  transfer = transfer_then e.transfer d.transfer;
}

-- what a word does that reads and writes these registers, where its object has the table
pub record Does (table : ℕ) (w : Word) (e : Effect) : Type 0 where
  pub reads : (r : ℕ) → r < 31 → (bit_at e.reads r ≡ 1) ↔ (has (act_reads w.act) r ≡ true)
  pub bare : bit_at e.reads 31 ≡ 0
  pub writes : (r : ℕ) → r < 31 → (bit_at e.writes r ≡ 0) ↔ (has (act_writes w.act) r ≡ false)
  pub transfer : (c : Script) (x : Fact) → c.table w.at.obj ≡ table → changed c w x ≡ behind e.transfer x

pub record DoAll (table : ℕ) (ws : List Word) (e : Effect) : Type 0 where
  pub reads : (r : ℕ) → r < 31 → (bit_at e.reads r ≡ 1) ↔ (reads_first ws r ≡ true)
  pub bare : bit_at e.reads 31 ≡ 0
  pub writes : (r : ℕ) → r < 31 → (bit_at e.writes r ≡ 0) ↔ (written_in ws r ≡ false)
  pub transfer :
      (c : Script) (x : Fact) → ((w : Word) → Has ws w → c.table w.at.obj ≡ table) → onward c x ws ≡ behind e.transfer x
