-- What the map and the image say of a word of the program, by the graph that they hold.
use Rattle.om_passes.proofs.Sources.{some_item}
use Rattle.std.proofs.Common.{◌≡◌, ℕ, ◌<◌, ◌^◌, true, List, Option, Some, sym, ap, ◌∙◌, subst}
use Rattle.std.specs.Prelude.{slice_get, option_and_then}
use Rattle.om_isa.specs.declared.instr.Instr.{Instr}
use Rattle.om_isa.specs.Words.{Encodes, instr_of}
use Rattle.om_isa.proofs.Reading.{a_word, read_exactly}
use Rattle.om_value.specs.declared.value.Place.{Place}
use Rattle.om_prog.specs.declared.item.Item.{Item}
use Rattle.om_prog.specs.Act.{Word}
use Rattle.om_prog.specs.View.{ProgramView}
use Rattle.om_prog.specs.Script.{program_fetch}
use Rattle.om_prog.specs.Valid.{IsProgram}
use Rattle.om_graph.specs.View.{Block, GraphView, Has}
use Rattle.om_graph.specs.Run.{block_words, words}
use Rattle.om_graph.specs.LeftIn.{is_kept}
use Rattle.om_graph.specs.Index.{index_of}
use Rattle.om_graph.specs.OfProgram.{IsGraphOf}
use Rattle.om_graph.proofs.Labels.{in_all, has_in}
use Rattle.om_image.specs.declared.image.Image.{Image}
use Rattle.om_image.specs.declared.map.MapWord.{MapWord}
use Rattle.om_layout.specs.Layout.{LayoutView, position_of}
use Rattle.om_encode.specs.Text.{TextIsTrue, map_word}
use Rattle.om_encode.specs.Fields.{FieldsAreTrue, IsTrueWord}
use Rattle.om_thorough.specs.Thorough.{in_map, kept_in_map, image_instr, is_kept_word}
use Rattle.om_passes.proofs.Origins.{kept_here, has_kept, SourceOf, source_of}

-- a word with an instruction is read as it
pub reads_as : (word : ℕ) (j : Instr) → Encodes word j → instr_of word ≡ Some j
reads_as word j e = (read_exactly word j (subst (λ (n : ℕ). n < 2 ^ 32) (sym e.word) (a_word j e.fields).1)).1 e

module _ (p : ProgramView) (prog : IsProgram p) (g : GraphView) (of : IsGraphOf p g) (l : LayoutView) (i : Image)
    (text : TextIsTrue p g l i) (fields : FieldsAreTrue p g l i) where
  pub map_is : (q : Place) (w : Word) → program_fetch p q ≡ Some w → (item : Item) × (in_map p i q ≡ Some (map_word g l q item))
  map_is q w e =
      let s = some_item p q w e in
      (s.0, ap (λ (c : List ℕ). slice_get i.map.words (index_of c q)) (sym of.counts) ∙ text.each q s.0 s.1)

  pub kept_is : (q : Place) (w : Word) → program_fetch p q ≡ Some w → kept_in_map p i q ≡ is_kept g q
  kept_is q w e = ap (λ (o : Option MapWord). is_kept_word o) (map_is q w e).1

  pub instr_is : (q : Place) (w : Word) → program_fetch p q ≡ Some w → image_instr p i q ≡ option_and_then instr_of (slice_get i.text (position_of l q))
  instr_is q w e = ap (λ (o : Option MapWord). option_and_then (λ w. option_and_then instr_of (slice_get i.text w.position)) o) (map_is q w e).1

  -- a kept word, with its block, where the map says that the word at a place is kept
  pub record KeptInMap (q : Place) (w : Word) : Type 0 where
    pub block : Block
    pub among : Has g.blocks block
    pub word : Word
    pub has : Has (block_words block) word
    pub place : word.at ≡ q
    pub source : SourceOf p prog g of block word
    pub same : source.word ≡ w

  pub kept_from : (q : Place) (w : Word) → program_fetch p q ≡ Some w → kept_in_map p i q ≡ true → KeptInMap q w
  kept_from q w e k =
      let r = kept_here (words g) q (sym (kept_is q w e) ∙ k) in
      let h = has_in g.blocks r.0 r.1 in
      let s = source_of p prog g of h.block r.0 h.among h.word in
      record {
        block = h.block;
        among = h.among;
        word = r.0;
        has = h.word;
        place = r.2;
        source = s;
        same = let f : program_fetch p q ≡ Some s.word = ap (λ (x : Place). program_fetch p x) (sym r.2) ∙ s.fetched in cc;
      }

  pub in_map_kept : (b : Block) (u : Word) → Has g.blocks b → Has (block_words b) u → kept_in_map p i u.at ≡ true
  in_map_kept b u hb hu =
      let s = source_of p prog g of b u hb hu in
      kept_is u.at s.word s.fetched ∙ has_kept p prog g of b u hb hu

  pub true_word : (b : Block) (u : Word) → Has g.blocks b → Has (block_words b) u → IsTrueWord p g l i u
  true_word b u hb hu = fields.forms u (in_all g.blocks b u hb hu)

  -- the image's instruction for a kept word is that of its image word
  pub image_is : (b : Block) (u : Word) (hb : Has g.blocks b) (hu : Has (block_words b) u) (j : Instr) → Encodes (true_word b u hb hu).word j → image_instr p i u.at ≡ Some j
  image_is b u hb hu j e =
      let s = source_of p prog g of b u hb hu in
      let t = true_word b u hb hu in
      instr_is u.at s.word s.fetched ∙ ap (λ (o : Option ℕ). option_and_then instr_of o) t.found ∙ reads_as t.word j e

  -- so it is no other
  pub image_same : (b : Block) (u : Word) (hb : Has g.blocks b) (hu : Has (block_words b) u) (j k : Instr) → Encodes (true_word b u hb hu).word j → image_instr p i u.at ≡ Some k → j ≡ k
  image_same b u hb hu j k e h = let m = image_is b u hb hu j e in cc
