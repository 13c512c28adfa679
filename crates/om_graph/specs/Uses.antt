-- Uses of results within a block, known calls and pairs: what the rules of rewriting speak of. r31 is never set, read or
-- written: a local use is of another register, and what is said of none that reads or writes takes r31 as it stands in
-- the words.
use Rattle.std.specs.Prelude.{◌≡◌, ◌⊎◌, ◌<◌, ℕ, ◌+◌, ℤ, true, List, ◌∷◌, ◌++◌, IsTrue}
use Rattle.om_isa.specs.declared.instr.Access.TheVariants.{Address, Store}
use Rattle.om_isa.specs.declared.instr.JumpOp.TheVariants.{Jsr}
use Rattle.om_isa.specs.declared.instr.Opnd.TheVariants.{R, Lit as Literal}
use Rattle.om_isa.specs.declared.instr.Instr.{Instr}
use Rattle.om_isa.specs.declared.instr.Instr.TheVariants.{Mem, Jump, Alu}
use Rattle.om_isa.specs.Registers.{access_of}
use Rattle.om_value.specs.declared.value.Place.{Place}
use Rattle.om_value.specs.declared.value.Target.TheVariants as target
use Rattle.om_value.specs.Lift.{is_byte_operation}
use Rattle.om_prog.specs.Act.{Plain, Lit, GpHi, GpLo, Word, act_reads, act_writes}
use Rattle.om_prog.specs.Step.{next_place}
use Rattle.om_prog.specs.Flow.{Among}
use Rattle.om_graph.specs.View.{Block, GraphView, Has}
use Rattle.om_graph.specs.Run.{block_words}
use Rattle.om_graph.specs.Form.{text_size}

-- ---- uses

-- a word stands behind another in a list, with these between
abbrev pub Between : List Word → Word → List Word → Word → Type 0
Between ws a mid b = (before after : List Word) × (ws ≡ before ++ a ∷ mid ++ b ∷ after)

abbrev pub NoneReads : ℕ → List Word → Type 0
NoneReads r ws = (w : Word) → Has ws w → Among (act_reads w.act) r → ⊥

abbrev pub NoneWrites : ℕ → List Word → Type 0
NoneWrites r ws = (w : Word) → Has ws w → Among (act_writes w.act) r → ⊥

-- a register is the same behind words as in front of them; r31 always is
abbrev pub Unwritten : ℕ → List Word → Type 0
Unwritten r ws = (r ≡ 31) ⊎ NoneWrites r ws

-- the last word before a place that writes a register, of words of one text: by their places, whatever order they have
pub record LastBy (ws : List Word) (q : Place) (r : ℕ) (w : Word) : Type 0 where
  pub among : Has ws w
  pub earlier : w.at.off < q.off
  pub writes : Among (act_writes w.act) r
  pub none :
      (v : Word) → Has ws v → w.at.off < v.at.off → v.at.off < q.off → Among (act_writes v.act) r → ⊥

-- of the words of a block one reads in a register what an earlier one wrote there
pub record IsLocalUse (ws : List Word) (def user : Word) (r : ℕ) : Type 0 where
  pub mid : List Word
  pub stands : Between ws def mid user
  pub writes : Among (act_writes def.act) r
  pub unwritten : NoneWrites r mid
  pub reads : Among (act_reads user.act) r
  pub register : r ≡ 31 → ⊥

-- a load or store over a register that it does not store, with this displacement
abbrev pub IsBaseUse : ℕ → Instr → ℤ → Type 0
IsBaseUse r (Mem op ra rb d) z =
    (rb ≡ r) × (d ≡ z) × (access_of op ≡ Address → ⊥) × (access_of op ≡ Store → ra ≡ r → ⊥)
IsBaseUse r _ z = ⊥

-- an EXT, INS or MSK that takes the byte's number from a register, and nothing else
abbrev pub IsByteUse : ℕ → Instr → Type 0
IsByteUse r (Alu op ra (R rb) rc) = IsTrue (is_byte_operation op) × (rb ≡ r) × (ra ≡ r → ⊥)
IsByteUse r _ = ⊥

-- with a literal for the register
abbrev pub with_literal : ℕ → Instr → Instr
with_literal n (Alu op ra (R rb) rc) = Alu op ra (Literal n) rc
with_literal n i = i

-- ---- known calls

-- a JSR with this link register whose other register was last written in its block by a load of the address of a place
pub record IsKnownCall (ws : List Word) (call : Word) (ra : ℕ) (q : Place) : Type 0 where
  pub load : Word
  pub rb : ℕ
  pub base : ℕ
  pub hint : ℕ
  pub local : IsLocalUse ws load call rb
  pub loads : load.act ≡ Lit rb base (target.Code q)
  pub jumps : call.act ≡ Plain (Jump Jsr ra rb hint)

-- ---- pairs

-- the word at a place is the last one of its text
abbrev pub IsTextsLast : GraphView → Place → Type 0
IsTextsLast g q = q.off + 4 ≡ text_size g q.obj

-- the two halves of a pair of r29 in a kept block, the high half first, with no other word between that reads or writes
-- r29, and neither the last word of its text
pub record IsClosedPair (g : GraphView) (b : Block) (hi lo : Place) : Type 0 where
  pub rb : ℕ
  pub base : Place
  pub mid : List Word
  pub stands :
      Between (block_words b) (record { at = hi; act = GpHi 29 rb base }) mid (record { at = lo; act = GpLo 29 29 hi })
  pub unread : NoneReads 29 mid
  pub unwritten : NoneWrites 29 mid
  pub high_stays : IsTextsLast g hi → ⊥
  pub low_stays : IsTextsLast g lo → ⊥

-- a closed pair on the first two places of a kept block that begins with an opening pair
pub record IsClosedOpening (g : GraphView) (b : Block) : Type 0 where
  pub opening : b.opening ≡ true
  pub pair : IsClosedPair g b b.label (next_place b.label)
