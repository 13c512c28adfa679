-- The words of a graph, and its run: a graph is run as a program is, over the words that it keeps. Control that comes
-- to a place goes on at the next kept word of its text, so words can be deleted and no place changes.
use Rattle.std.specs.Prelude.{ℕ, ◌/◌, ◌%◌, Bool, ◌&&◌, ◌==◌, nat_le, nat_lt, if◌then◌else◌, List, [], ◌∷◌, ◌++◌, map, flat_map, find, Option, Some, None, slice_index_or}
use Rattle.std.specs.Option.{option_or}
use Rattle.om_isa.specs.declared.instr.Instr.{Instr}
use Rattle.om_isa.specs.declared.instr.Instr.TheVariants.{Branch}
use Rattle.om_value.specs.declared.value.Place.{Place}
use Rattle.om_value.specs.declared.value.Target.{Target}
use Rattle.om_value.specs.Same.{place_eq}
use Rattle.om_prog.specs.Act.{Act, Word, Script}
use Rattle.om_prog.specs.Act as act
use Rattle.om_prog.specs.View.{ProgramView, size_of}
use Rattle.om_prog.specs.Script.{initial}
use Rattle.om_prog.specs.Step.{SymState}
use Rattle.om_prog.specs.Runs.{sym_run}
use Rattle.om_graph.specs.declared.op.Op.{Op}
use Rattle.om_graph.specs.declared.op.OpKind.{OpKind}
use Rattle.om_graph.specs.declared.op.OpKind.TheVariants.{Plain, Lit, AddrLda, AddrHi, UseLo, UseGp, GpHi, GpLo}
use Rattle.om_graph.specs.declared.op.Last.{Last}
use Rattle.om_graph.specs.declared.op.Last.TheVariants.{Fall, Off, Br, Cond, Call, CallBy, JumpBy}
use Rattle.om_graph.specs.View.{Block, Shape, GraphView, shape_of}

-- ---- what an op does

abbrev pub high_target : OpKind → Option Target
high_target (AddrHi ra rb t least) = Some t
high_target _ = None

-- the target of the load at a place that became LDAH, if one of these ops is that
abbrev pub target_at : List Op → Place → Option Target
target_at [] hi = None
target_at (o ∷ os) hi = option_or (if place_eq o.place hi then high_target o.kind else None) (target_at os hi)

abbrev pub use_of : Instr → Place → Option Target → Act
use_of i hi None = act.Wrong
use_of i hi (Some t) = act.UseLo i hi t

-- over the ops of its block
abbrev pub op_act : List Op → OpKind → Act
op_act ops (Plain i) = act.Plain i
op_act ops (Lit ra rb t) = act.Lit ra rb t
op_act ops (AddrLda ra rb t) = act.AddrLda ra rb t
op_act ops (AddrHi ra rb t least) = act.AddrHi ra rb t
op_act ops (UseLo i hi) = use_of i hi (target_at ops hi)
op_act ops (UseGp i gp t) = act.UseGp i gp t
op_act ops (GpHi ra rb base) = act.GpHi ra rb base
op_act ops (GpLo ra rb hi) = act.GpLo ra rb hi

abbrev pub op_word : List Op → Op → Word
op_word ops o = record { at = o.place; act = op_act ops o.kind }

-- ---- words

-- a conditional branch
abbrev pub cond_act : Instr → Place → Act
cond_act (Branch op ra disp) q = act.To op ra q
cond_act _ q = act.Wrong

abbrev pub last_words : Last → List Word
last_words Fall = []
last_words Off = []
last_words (Br at op ra to) = record { at = at; act = act.To op ra to } ∷ []
last_words (Cond at i to) = record { at = at; act = cond_act i to } ∷ []
last_words (Call at op ra to) = record { at = at; act = act.To op ra to } ∷ []
last_words (CallBy at i) = record { at = at; act = act.Plain i } ∷ []
last_words (JumpBy at i) = record { at = at; act = act.Plain i } ∷ []

abbrev pub shape_words : Shape → List Word
shape_words s = map (op_word s.ops) s.ops ++ last_words s.last

abbrev pub block_words : Block → List Word
block_words b = shape_words (shape_of b)

-- the words of blocks, in order
abbrev pub all_words : List Block → List Word
all_words bs = flat_map block_words bs

-- the kept words
abbrev pub words : GraphView → List Word
words g = all_words g.blocks

-- a word that stands at a place or after it in its text
abbrev pub from_place : Place → Word → Bool
from_place p w = (w.at.obj == p.obj) && nat_le p.off w.at.off

abbrev pub next_word : List Word → Place → Option Word
next_word ws p = find (from_place p) ws

-- a list split in front of ws, with the words before, the last one first
abbrev pub rev_onto : List Word → List Word → List Word
rev_onto [] ws = ws
rev_onto (w ∷ bf) ws = rev_onto bf (w ∷ ws)

-- ---- the run

-- a place is that of a word of texts with so many words
abbrev pub is_word_in : List ℕ → Place → Bool
is_word_in counts p = (p.off % 4 == 0) && nat_lt (p.off / 4) (slice_index_or counts p.obj 0)

abbrev pub table_of : GraphView → ℕ → ℕ
table_of g o = slice_index_or g.tables o o

-- the entry is the first root
abbrev pub entry_of : List Place → Place
entry_of [] = record { obj = 0; off = 0 }
entry_of (p ∷ ps) = p

-- the script of a graph over the regions of a program
abbrev pub graph_script : ProgramView → GraphView → Script
graph_script p g = record {
  fetch = next_word (words g);
  lands = is_word_in g.counts;
  table = table_of g;
  entry = entry_of g.roots;
  sizes = size_of p;
  cells = initial p (table_of g);
}

-- the state of a graph after n steps
abbrev pub graph_run : ProgramView → GraphView → List ℕ → ℕ → SymState
graph_run p g = sym_run (graph_script p g)
