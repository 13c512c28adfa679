-- The graph that a program is lifted to. Each text is cut before each place where a block begins, and each piece is a
-- block: its words by what they stand for, but for a branch or jump at its end, which is the block's Last.
use Rattle.std.specs.Prelude.{◌≡◌, ℕ, suc, true, ◌*◌, Bool, ◌==◌, if◌then◌else◌, List, [], ◌∷◌, ◌++◌, map, length}
use Rattle.om_isa.specs.declared.instr.BrOp.{BrOp}
use Rattle.om_isa.specs.declared.instr.BrOp.TheVariants.{If}
use Rattle.om_isa.specs.declared.instr.Instr.{Instr}
use Rattle.om_isa.specs.declared.instr.Instr.TheVariants.{Mem, Jump, Branch}
use Rattle.om_value.specs.declared.value.Place.{Place}
use Rattle.om_prog.specs.declared.item.Item.{Item}
use Rattle.om_prog.specs.declared.item.Role.{Role}
use Rattle.om_prog.specs.declared.item.Role.TheVariants as role
use Rattle.om_prog.specs.View.{ProgramView}
use Rattle.om_prog.specs.Step.{next_place}
use Rattle.om_graph.specs.declared.op.Op.{Op}
use Rattle.om_graph.specs.declared.op.OpKind.{OpKind}
use Rattle.om_graph.specs.declared.op.OpKind.TheVariants as op
use Rattle.om_graph.specs.declared.op.Last.{Last}
use Rattle.om_graph.specs.declared.op.Last.TheVariants.{Fall, Off, Br, Cond, Call, CallBy, JumpBy}
use Rattle.om_graph.specs.View.{Shape, GraphView, shape_of, numbers_from}
use Rattle.om_graph.specs.Held.{IsGraph, label_list}
use Rattle.om_graph.specs.Form.{ends_block}
use Rattle.om_graph.specs.Whole.{program_roots}
use Rattle.om_graph.specs.Landing.{begins, is_opening_pair}

-- ---- words

-- the op of a word that ends no block
abbrev pub kind_of : Role → Instr → OpKind
kind_of (role.Lit t) (Mem o ra rb d) = op.Lit ra rb t
kind_of (role.GpHi base) (Mem o ra rb d) = op.GpHi ra rb base
kind_of (role.GpLo hi) (Mem o ra rb d) = op.GpLo ra rb hi
kind_of _ i = op.Plain i

abbrev pub op_of_item : Place → Item → Op
op_of_item at i = record { place = at; kind = kind_of i.role i.instr }

-- the end of a block whose last word is this branch, to that place
abbrev pub branch_last : Place → Instr → BrOp → ℕ → Place → Last
branch_last at i (If c) ra to = Cond at i to
branch_last at i o ra to = if ra == 31 then Br at o ra to else Call at o ra to

abbrev pub jump_last : Place → Instr → ℕ → Last
jump_last at i ra = if ra == 31 then JumpBy at i else CallBy at i

-- the end of a block whose last word is this; behind any other word control falls, or the text ends
abbrev pub last_of_word : Bool → Place → Role → Instr → Last
last_of_word at_end at (role.To to) (Branch o ra d) = branch_last at (Branch o ra d) o ra to
last_of_word at_end at _ (Jump kind ra rb hint) = jump_last at (Jump kind ra rb hint) ra
last_of_word at_end at _ _ = if at_end then Off else Fall

-- ---- pieces

-- words that follow each other, from a place on
pub record Piece : Type 0 where
  pub from : Place
  pub items : List Item

-- a word in front of pieces: in the first one, unless a block begins there
abbrev pub in_front : (Place → Bool) → Place → Item → List Piece → List Piece
in_front cuts at i [] = record { from = at; items = i ∷ [] } ∷ []
in_front cuts at i (x ∷ xs) =
    if cuts x.from then record { from = at; items = i ∷ [] } ∷ x ∷ xs
    else record { from = at; items = i ∷ x.items } ∷ xs

-- the words of a text, from a place on, cut before such places
abbrev pub cut : (Place → Bool) → Place → List Item → List Piece
cut cuts at [] = []
cut cuts at (i ∷ is) = in_front cuts at i (cut cuts (next_place at) is)

abbrev pub piece_ops : Place → List Item → List Op
piece_ops at [] = []
piece_ops at (i ∷ []) = if ends_block i.instr then [] else op_of_item at i ∷ []
piece_ops at (i ∷ j ∷ is) = op_of_item at i ∷ piece_ops (next_place at) (j ∷ is)

-- the end of a piece, where the text has so many bytes
abbrev pub piece_last : ℕ → Place → List Item → Last
piece_last size at [] = Fall
piece_last size at (i ∷ []) = last_of_word ((next_place at).off == size) at i.role i.instr
piece_last size at (i ∷ j ∷ is) = piece_last size (next_place at) (j ∷ is)

-- ---- the graph

module _ (p : ProgramView) where
  abbrev pub shape_of_piece : ℕ → Piece → Shape
  shape_of_piece size x = record {
    label = x.from;
    opening = is_opening_pair p x.from;
    ops = piece_ops x.from x.items;
    last = piece_last size x.from x.items;
  }

  abbrev pub text_shapes : ℕ → List Item → List Shape
  text_shapes obj text =
      map (shape_of_piece (4 * length text)) (cut (begins p) (record { obj = obj; off = 0 }) text)

  abbrev pub shapes_from : ℕ → List (List Item) → List Shape
  shapes_from obj [] = []
  shapes_from obj (text ∷ texts) = text_shapes obj text ++ shapes_from (suc obj) texts

  -- the blocks, in order of object and offset
  abbrev pub lifted_shapes : List Shape
  lifted_shapes = shapes_from 0 p.texts

  -- its objects have tables of their own, and nothing is touched
  pub record IsLifted (g : GraphView) : Type 0 where
    pub graph : IsGraph g
    pub counts : g.counts ≡ map (λ text. length text) p.texts
    pub roots : g.roots ≡ program_roots p
    pub tables : g.tables ≡ numbers_from 0 (length p.texts)
    pub blocks : map shape_of g.blocks ≡ lifted_shapes
    pub labels : g.labels ≡ label_list g.blocks
    pub touched : g.touched ≡ []

-- ---- a text that grows by a word

-- control falls from where the text ended
abbrev pub ended : Last → Last
ended Off = Fall
ended last = last

-- the last block falls into the next one
abbrev pub fallen : List Shape → List Shape
fallen [] = []
fallen (s ∷ []) = record s { last = ended s.last } ∷ []
fallen (s ∷ t ∷ ss) = s ∷ fallen (t ∷ ss)

-- the ops of a word: none where it ends its block
abbrev pub word_ops : Place → Item → List Op
word_ops q x = if ends_block x.instr then [] else op_of_item q x ∷ []

-- a word that begins a block
abbrev pub begun : ProgramView → Place → Item → List Shape → List Shape
begun p q x ss =
    fallen ss
    ++ record {
      label = q;
      opening = is_opening_pair p q;
      ops = word_ops q x;
      last = last_of_word true q x.role x.instr;
    }
    ∷ []

-- a word behind those of the last block
abbrev pub grown : Place → Item → List Shape → List Shape
grown q x [] = []
grown q x (s ∷ []) = record s { ops = s.ops ++ word_ops q x; last = last_of_word true q x.role x.instr } ∷ []
grown q x (s ∷ t ∷ ss) = s ∷ grown q x (t ∷ ss)
