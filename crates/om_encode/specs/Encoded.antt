-- When lists are the text of an image that holds a graph and the words of its map, whatever else the image has; and which
-- graphs are encoded.
use Rattle.std.specs.Prelude.{◌≡◌, ℕ, suc, ◌+◌, ◌*◌, false, List, [], ◌∷◌, ◌++◌, length, map, sum, Option, Some, None, slice_get}
use Rattle.om_isa.specs.declared.instr.Instr.{Instr}
use Rattle.om_isa.specs.Words.{Encodes}
use Rattle.om_value.specs.declared.value.Place.{Place}
use Rattle.om_prog.specs.declared.item.Item.{Item}
use Rattle.om_prog.specs.Act.{Word}
use Rattle.om_prog.specs.View.{ProgramView, item_at}
use Rattle.om_prog.specs.Valid.{IsProgram}
use Rattle.om_graph.specs.declared.op.Op.{Op}
use Rattle.om_graph.specs.View.{Block, GraphView, Has, ops_of}
use Rattle.om_graph.specs.Run.{words, op_word}
use Rattle.om_graph.specs.Index.{index_of}
use Rattle.om_graph.specs.Kept.{Comes}
use Rattle.om_graph.specs.OfProgram.{IsGraphOf}
use Rattle.om_graph.specs.Fits.{OpsFit}
use Rattle.om_image.specs.declared.map.MapWord.{MapWord}
use Rattle.om_layout.specs.Layout.{LayoutView, position_of, gp_of, address_of}
use Rattle.om_layout.specs.Facts.{LaysOut}
use Rattle.om_layout.specs.Limits.{IsWithinLimits}
use Rattle.om_encode.specs.declared.highs.High.{High}
use Rattle.om_encode.specs.Fields.{HasForm}
use Rattle.om_encode.specs.Fitting.{BranchesFit}
use Rattle.om_encode.specs.Text.{map_word}
use Rattle.om_encode.specs.Written.{IsInstrOf}

-- a graph in a layout of any order of words, of which each address word and each branch fits
pub record IsEncodable (p : ProgramView) (g : GraphView) (l : LayoutView) : Type 0 where
  pub program : IsProgram p
  pub graph : IsGraphOf p g
  pub limits : IsWithinLimits p
  pub layout : LaysOut p g l (Comes g)
  pub fits : OpsFit p (gp_of l) (address_of l) g
  pub branches : BranchesFit g l

module _ (p : ProgramView) (g : GraphView) (l : LayoutView) where
  -- image words in forms of these words, one for each
  abbrev pub AreForms : List Word → List ℕ → Type 0
  AreForms [] [] = Unit {0}
  AreForms (w ∷ ws) (x ∷ xs) = HasForm p g l w.at w.act x × AreForms ws xs
  AreForms _ _ = ⊥

  -- such words were put behind some image words
  pub record Writes (ws : List Word) (old new : List ℕ) : Type 0 where
    pub added : List ℕ
    pub text : new ≡ old ++ added
    pub forms : AreForms ws added

  -- the image word at a word's position has one of its forms
  pub record HasTrueWord (text : List ℕ) (w : Word) : Type 0 where
    pub word : ℕ
    pub found : slice_get text (position_of l w.at) ≡ Some word
    pub form : HasForm p g l w.at w.act word

  -- the text of an image
  pub record IsTextOf (text : List ℕ) : Type 0 where
    pub count : length text ≡ length (words g)
    pub forms : (w : Word) → Has (words g) w → HasTrueWord text w

  -- the words of its map
  pub record AreMapWords (list : List MapWord) : Type 0 where
    pub total : length list ≡ sum g.counts
    pub each :
        (q : Place) (item : Item) → item_at p q ≡ Some item →
        slice_get list (index_of g.counts q) ≡ Some (map_word g l q item)

-- the words of a block's ops
abbrev pub op_words : Block → List Word
op_words b = map (op_word (ops_of b)) (ops_of b)

-- ---- image words that are put behind others

-- that of an instruction
pub record WritesInstr (i : Instr) (old new : List ℕ) : Type 0 where
  pub word : ℕ
  pub text : new ≡ old ++ word ∷ []
  pub encoded : Encodes word i

abbrev pub WritesIf : Option Instr → List ℕ → List ℕ → Type 0
WritesIf None old new = new ≡ old
WritesIf (Some i) old new = WritesInstr i old new

-- that of an op, behind ops after which the registers have these high halves
pub record WritesOp (p : ProgramView) (l : LayoutView) (highs : List (Option High)) (o : Op) (old new : List ℕ) : Type 0 where
  pub instr : Instr
  pub is : IsInstrOf p l highs o.place.obj o.kind instr
  pub written : WritesInstr instr old new

-- ---- what a map says of words, of which none is marked as kept yet

abbrev pub told_word : LayoutView → Place → Item → MapWord
told_word l at item = record { old = item.word; position = position_of l at; kept = false }

-- of a text from a word on
abbrev pub told_words : LayoutView → ℕ → ℕ → List Item → List MapWord
told_words l obj k [] = []
told_words l obj k (i ∷ is) = told_word l (record { obj = obj; off = 4 * k }) i ∷ told_words l obj (suc k) is

-- of texts from an object on
abbrev pub told_texts : LayoutView → ℕ → List (List Item) → List MapWord
told_texts l obj [] = []
told_texts l obj (t ∷ ts) = told_words l obj 0 t ++ told_texts l (suc obj) ts
