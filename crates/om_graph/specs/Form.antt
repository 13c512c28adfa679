-- When a graph is in form: branches and jumps are the ends of blocks, each of the kind that its Last says; and the
-- place of each word fits the block that it stands in.
use Rattle.std.specs.Prelude.{◌%◌, ◌≡◌, ℕ, ◌+◌, ◌*◌, ◌<◌, ◌≤◌, Bool, true, false, ◌&&◌, ◌==◌, nat_lt, List, [], ◌∷◌, find, length, Option, Some, None, slice_index_or}
use Rattle.om_isa.specs.declared.instr.BrOp.{BrOp}
use Rattle.om_isa.specs.declared.instr.BrOp.TheVariants.{If}
use Rattle.om_isa.specs.declared.instr.Instr.{Instr}
use Rattle.om_isa.specs.declared.instr.Instr.TheVariants.{Jump, Branch}
use Rattle.om_value.specs.declared.value.Place.{Place}
use Rattle.om_value.specs.declared.value.Target.{Target}
use Rattle.om_value.specs.declared.value.Target.TheVariants as target
use Rattle.om_prog.specs.Act.{Act, Lit, GpHi, GpLo, AddrLda, AddrHi, Word}
use Rattle.om_graph.specs.declared.op.Op.{Op}
use Rattle.om_graph.specs.declared.op.OpKind.{OpKind}
use Rattle.om_graph.specs.declared.op.OpKind.TheVariants as op
use Rattle.om_graph.specs.declared.op.Last.{Last}
use Rattle.om_graph.specs.declared.op.Last.TheVariants as last
use Rattle.om_graph.specs.View.{Block, GraphView, Has, ops_of}
use Rattle.om_graph.specs.Run.{block_words}

-- ---- forms

-- an instruction behind which a block ends: a branch or a jump
abbrev pub ends_block : Instr → Bool
ends_block (Branch op ra d) = true
ends_block (Jump kind ra rb hint) = true
ends_block _ = false

abbrev pub OpForm : OpKind → Type 0
OpForm (op.Plain i) = ends_block i ≡ false
OpForm (op.UseLo i hi) = ends_block i ≡ false
OpForm (op.UseGp i gp t) = ends_block i ≡ false
OpForm _ = Unit {0}

-- BR or BSR
abbrev pub IsStraight : BrOp → Type 0
IsStraight (If c) = ⊥
IsStraight _ = Unit {0}

abbrev pub IsCondition : Instr → Type 0
IsCondition (Branch (If c) ra d) = Unit {0}
IsCondition _ = ⊥

-- a jump whose link register is such
abbrev pub IsJumpWith : (ℕ → Type 0) → Instr → Type 0
IsJumpWith P (Jump kind ra rb hint) = P ra
IsJumpWith P _ = ⊥

abbrev pub IsNoLink : ℕ → Type 0
IsNoLink ra = ra ≡ 31

abbrev pub IsLink : ℕ → Type 0
IsLink ra = ra ≡ 31 → ⊥

abbrev pub LastForm : Last → Type 0
LastForm (last.Br at op ra to) = IsStraight op × IsNoLink ra
LastForm (last.Call at op ra to) = IsStraight op × IsLink ra
LastForm (last.Cond at i to) = IsCondition i
LastForm (last.CallBy at i) = IsJumpWith IsLink i
LastForm (last.JumpBy at i) = IsJumpWith IsNoLink i
LastForm _ = Unit {0}

-- ---- labels behind a place

abbrev pub is_behind : Place → Place → Bool
is_behind p q = (q.obj == p.obj) && nat_lt p.off q.off

-- the least of some labels in order that is behind a place in its text
abbrev pub label_after : List Place → Place → Option Place
label_after ls p = find (is_behind p) ls

pub record InForm (g : GraphView) : Type 0 where
  pub ops : (b : Block) (o : Op) → Has g.blocks b → Has (ops_of b) o → OpForm o.kind
  pub lasts : (b : Block) → Has g.blocks b → LastForm b.last
  -- Off stands at the end of a text
  pub ends : (b : Block) → Has g.blocks b → b.last ≡ last.Off → label_after g.labels b.label ≡ None

-- ---- targets

abbrev pub IsNoCode : Target → Type 0
IsNoCode (target.Code q) = ⊥
IsNoCode _ = Unit {0}

abbrev pub HasNoCode : OpKind → Type 0
HasNoCode (op.AddrLda ra rb t) = IsNoCode t
HasNoCode (op.AddrHi ra rb t least) = IsNoCode t
HasNoCode (op.UseGp i gp t) = IsNoCode t
HasNoCode _ = Unit {0}

-- what became of a load of an address, or of a use of it, has no place in code as its target
pub record HasNoCodes (g : GraphView) : Type 0 where
  pub none : (b : Block) (o : Op) → Has g.blocks b → Has (ops_of b) o → HasNoCode o.kind

-- ---- words of addresses

-- a word that came from a LITERAL load or a GPDISP
abbrev pub is_address : Act → Bool
is_address (Lit ra rb t) = true
is_address (GpHi ra rb base) = true
is_address (GpLo ra rb hi) = true
is_address (AddrLda ra rb t) = true
is_address (AddrHi ra rb t) = true
is_address _ = false

-- ---- places

-- bytes of the text of an object
abbrev pub text_size : GraphView → ℕ → ℕ
text_size g obj = 4 * slice_index_or g.counts obj 0

-- words of one text in order
abbrev pub After : Word → List Word → Type 0
After w [] = Unit {0}
After w (x ∷ xs) = (x.at.obj ≡ w.at.obj → w.at.off + 4 ≤ x.at.off) × After w xs

abbrev pub Ordered : List Word → Type 0
Ordered [] = Unit {0}
Ordered (w ∷ ws) = After w ws × Ordered ws

-- a word of the block of a label: at the label or behind it, before the next one and before its text's end
pub record IsPlaced (g : GraphView) (label : Place) (at : Place) : Type 0 where
  pub object : at.obj ≡ label.obj
  pub after : label.off ≤ at.off
  pub before : (l : Place) → label_after g.labels label ≡ Some l → at.off + 4 ≤ l.off
  pub inside : at.off + 4 ≤ text_size g at.obj
  pub aligned : at.off % 4 ≡ 0

-- words stand where their blocks are, in order
pub record InPlace (g : GraphView) : Type 0 where
  pub labels : (q : Place) → Has g.labels q → (q.obj < length g.counts) × (q.off < text_size g q.obj)
  pub aligned : (q : Place) → Has g.labels q → q.off % 4 ≡ 0
  pub words : (b : Block) (w : Word) → Has g.blocks b → Has (block_words b) w → IsPlaced g b.label w.at
  pub ordered : (b : Block) → Has g.blocks b → Ordered (block_words b)
