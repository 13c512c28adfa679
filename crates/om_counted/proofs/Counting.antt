-- The steps that an image counts are those that its graph leaves in.
use Rattle.std.proofs.Common.{◌≡◌, ℕ, ◌^◌, ◌<◌, Bool, true, ◌&&◌, Option, Some, None, refl, sym, ap, ◌∙◌, subst, arith}
use Rattle.std.specs.Prelude.{is_some, option_map}
use Rattle.om_isa.specs.declared.instr.BrOp.TheVariants.{Bsr}
use Rattle.om_value.specs.declared.value.Place.{Place}
use Rattle.om_prog.specs.declared.item.Item.{Item}
use Rattle.om_prog.specs.Act.{To, Word}
use Rattle.om_prog.specs.View.{ProgramView, item_at, is_word}
use Rattle.om_prog.specs.Script.{program_fetch}
use Rattle.om_prog.specs.Step.{next_place}
use Rattle.om_graph.specs.View.{Block, GraphView, Has}
use Rattle.om_graph.specs.Run.{words, block_words}
use Rattle.om_graph.specs.Form.{InPlace}
use Rattle.om_graph.specs.LeftIn.{is_kept}
use Rattle.om_graph.specs.Landing.{is_opening_pair}
use Rattle.om_graph.specs.Pairs.{PairsApart}
use Rattle.om_graph.proofs.Labels.{has_in}
use Rattle.om_graph.proofs.Compose.{has_kept, kept_word}
use Rattle.om_graph.proofs.Forms.{pairs_apart}
use Rattle.om_graph.proofs.OfProgram.{words_in_place}
use Rattle.om_image.specs.declared.image.Image.{Image}
use Rattle.om_layout.specs.Layout.{LayoutView, code_at}
use Rattle.om_counted.proofs.Held.{IsHeld}
use Rattle.om_counted.specs.Counted.{is_kept_word, address, image_instr, calls_at, enters_past}
use Rattle.om_counted.proofs.Lists.{both}
use Rattle.om_counted.proofs.Told.{kept_same, address_same, is_bsr, bsr_calls}

pub fetched_word : (p : ProgramView) (q : Place) (w : Word) → program_fetch p q ≡ Some w → is_word p q ≡ true
fetched_word p q w e = by_item (item_at p q) e
  where
    by_item : (o : Option Item) → option_map (λ i. record { at = q; act = Rattle.om_prog.specs.Script.act_of i.role i.instr }) o ≡ Some w → is_some o ≡ true
    by_item None h = cc
    by_item (Some i) h = refl

module _ (p : ProgramView) (lifted g : GraphView) (l : LayoutView) (i : Image) (k : IsHeld p lifted g l i) where
  places : InPlace g
  places = words_in_place p k.program g k.graph

  pub apart : PairsApart g
  apart = pairs_apart p k.program g k.graph

  pub small : (q : Place) → code_at l q < 2 ^ 64
  small q =
      let m = k.most q in
      let c = k.map.text.count in
      let t = k.valid.text in
      omega (arith, m, c, t)

  -- ---- entering a pair, by the map

  pub record Entered (c q : Place) : Type 0 where
    pub opens : is_opening_pair p q ≡ true
    pub more : is_word p (next_place (next_place q)) ≡ true
    pub block : Block
    pub word : Word
    pub among : Has g.blocks block
    pub has : Has (block_words block) word
    pub at : word.at ≡ c
    pub ra : ℕ
    pub to : Place
    pub act : word.act ≡ To Bsr ra to
    pub there : code_at l to ≡ code_at l (next_place (next_place q))
    pub kept : is_kept g c ≡ true

  pub entered_by : (c q : Place) → is_word p c ≡ true → enters_past i p c q ≡ true → Entered c q
  entered_by c q hc h =
      let a = both (is_opening_pair p q && is_word p (next_place (next_place q)) && is_kept_word i c) _ h in
      let b = both (is_opening_pair p q && is_word p (next_place (next_place q))) _ a.0 in
      let o = both (is_opening_pair p q) _ b.0 in
      let kept : is_kept g c ≡ true = sym (kept_same p lifted g l i k c hc) ∙ b.1 in
      let w = kept_word (words g) c kept in
      let n = has_in g.blocks w.word w.among in
      let there = subst (λ (x : Place). is_word p x ≡ true) (sym w.place) hc in
      let calls = subst (λ (x : Place). calls_at i (address i x) (image_instr i x) (address i (next_place (next_place q))) ≡ true) (sym w.place) a.1 in
      let r = is_bsr p lifted g l i k small n.block w.word n.among n.word there (k.map.fields.forms w.word w.among) (address i (next_place (next_place q))) calls in
      record {
        opens = o.0;
        more = o.1;
        block = n.block;
        word = w.word;
        among = n.among;
        has = n.word;
        at = w.place;
        ra = r.ra;
        to = r.place;
        act = r.act;
        there = r.address ∙ address_same p lifted g l i k (next_place (next_place q)) o.1;
        kept = kept;
      }

  pub enters : (b : Block) (u : Word) (ra : ℕ) (to q : Place) → Has g.blocks b → Has (block_words b) u → is_word p u.at ≡ true → u.act ≡ To Bsr ra to → to ≡ next_place (next_place q) → is_opening_pair p q ≡ true → is_word p (next_place (next_place q)) ≡ true → enters_past i p u.at q ≡ true
  enters b u ra to q hb hu there e s o more =
      let m = Rattle.om_graph.proofs.Labels.in_all g.blocks b u hb hu in
      let kept : is_kept_word i u.at ≡ true = kept_same p lifted g l i k u.at there ∙ has_kept (words g) u m in
      let same : code_at l to ≡ address i (next_place (next_place q)) = ap (code_at l) s ∙ sym (address_same p lifted g l i k (next_place (next_place q)) more) in
      let calls = bsr_calls p lifted g l i k small b u hb hu there (k.map.fields.forms u m) (address i (next_place (next_place q))) ra to e same in
      all_true o more kept calls
    where
      all_true : {a b c d : Bool} → a ≡ true → b ≡ true → c ≡ true → d ≡ true → (a && b && c && d) ≡ true
      all_true x y z w = rw (x, y, z, w) refl
