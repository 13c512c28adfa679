-- The kept set: the blocks that a run may come to, as what is kept leads to them and names them; and the places to which
-- a jump by a register may go.
use Rattle.std.specs.Prelude.{◌%◌, ◌≡◌, ◌⊎◌, ◌<◌, ◌≤◌, ℕ, Some, length}
use Rattle.om_isa.specs.declared.instr.BrOp.{BrOp}
use Rattle.om_isa.specs.declared.instr.BrOp.TheVariants.{If}
use Rattle.om_isa.specs.declared.instr.Instr.{Instr}
use Rattle.om_isa.specs.declared.instr.Instr.TheVariants.{Jump as Jumps}
use Rattle.om_value.specs.declared.value.Place.{Place}
use Rattle.om_value.specs.declared.value.Target.{Target}
use Rattle.om_value.specs.declared.value.Target.TheVariants as target
use Rattle.om_prog.specs.Act.{Act, Plain, Lit, To, Word}
use Rattle.om_prog.specs.Step.{next_place}
use Rattle.om_graph.specs.declared.op.Last.{Last}
use Rattle.om_graph.specs.declared.op.Last.TheVariants.{Fall, Cond}
use Rattle.om_graph.specs.View.{Block, GraphView, Has}
use Rattle.om_graph.specs.Run.{block_words}
use Rattle.om_graph.specs.Form.{label_after, text_size}

-- ---- what a word names and leads to

abbrev pub names_target : Target → Place → Type 0
names_target (target.Code c) q = c ≡ q
names_target _ q = ⊥

-- a load of the address of a place in code
abbrev pub loads : Act → Place → Type 0
loads (Lit ra rb t) q = names_target t q
loads _ q = ⊥

-- such a load, and a branch
abbrev pub names : Act → Place → Type 0
names (Lit ra rb t) q = names_target t q
names (To op ra to) q = to ≡ q
names _ q = ⊥

-- a word that writes a link register
abbrev pub BranchLinks : BrOp → ℕ → Type 0
BranchLinks (If k) ra = ⊥
BranchLinks op ra = ra ≡ 31 → ⊥

abbrev pub PlainLinks : Instr → Type 0
PlainLinks (Jumps kind ra rb hint) = ra ≡ 31 → ⊥
PlainLinks _ = ⊥

abbrev pub Links : Act → Type 0
Links (Plain i) = PlainLinks i
Links (To op ra to) = BranchLinks op ra
Links _ = ⊥

-- control falls from a block into the one behind it, kept or not
abbrev pub FallsOn : Last → Type 0
FallsOn Fall = Unit {0}
FallsOn (Cond at i to) = Unit {0}
FallsOn _ = ⊥

-- ---- the kept set

-- by the labels of its blocks: the least set that holds the roots, and what its blocks lead to and name
pub data IsInKeptSet (g : GraphView) : Place → Type 0 where
  root : (q : Place) → Has g.roots q → IsInKeptSet g q
  fall :
      (b : Block) (q : Place) → Has g.blocks b → IsInKeptSet g b.label → FallsOn b.last →
      label_after g.labels b.label ≡ Some q → IsInKeptSet g q
  named :
      (b : Block) (w : Word) (q : Place) → Has g.blocks b → IsInKeptSet g b.label → Has (block_words b) w →
      names w.act q → IsInKeptSet g q
  behind :
      (b : Block) (w : Word) → Has g.blocks b → IsInKeptSet g b.label → Has (block_words b) w → Links w.act →
      IsInKeptSet g (next_place w.at)

-- a text's end
pub record IsEnd (g : GraphView) (q : Place) : Type 0 where
  pub object : q.obj < length g.counts
  pub off : q.off ≡ text_size g q.obj

-- the label of a kept block
abbrev pub IsBlock : GraphView → Place → Type 0
IsBlock g q = (n : Block) × Has g.blocks n × (n.label ≡ q)

-- the kept set lies within the kept blocks, and each place by which a block comes into it is the block's label; but for
-- texts' ends, at which no block is
pub record KeptInBlocks (g : GraphView) : Type 0 where
  pub label : (q : Place) → IsInKeptSet g q → IsBlock g q ⊎ IsEnd g q

-- ---- kept landing places

-- what is kept names a place as one to which a jump by a register may go
pub data Named (g : GraphView) (q : Place) : Type 0 where
  by_root : Has g.roots q → Named g q
  by_load : (b : Block) (w : Word) → Has g.blocks b → Has (block_words b) w → loads w.act q → Named g q
  by_link :
      (b : Block) (w : Word) → Has g.blocks b → Has (block_words b) w → Links w.act → next_place w.at ≡ q →
      Named g q

-- what names the place is kept, and so is its block, unless the place is a text's end
pub record IsKeptLanding (g : GraphView) (q : Place) : Type 0 where
  pub named : Named g q
  pub kept : IsBlock g q ⊎ IsEnd g q

-- ---- where a run may be

-- the place of a word, in a block of the kept set: at its label or behind it, before the next label and the text's end
pub record IsInside (g : GraphView) (b : Block) (q : Place) : Type 0 where
  pub among : Has g.blocks b
  pub kept : IsInKeptSet g b.label
  pub object : q.obj ≡ b.label.obj
  pub after : b.label.off ≤ q.off
  pub below : (l : Place) → label_after g.labels b.label ≡ Some l → q.off < l.off
  pub in_text : q.off < text_size g q.obj
  pub aligned : q.off % 4 ≡ 0

-- a place in a block of the kept set, or a text's end
abbrev pub Comes : GraphView → Place → Type 0
Comes g q = ((b : Block) × IsInside g b q) ⊎ IsEnd g q

-- the label of a block of the kept set, or a text's end
abbrev pub IsKeptLabel : GraphView → Place → Type 0
IsKeptLabel g q = (IsInKeptSet g q × IsBlock g q) ⊎ IsEnd g q
