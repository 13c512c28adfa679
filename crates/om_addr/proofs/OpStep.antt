-- One op made another is a step, where its word is an address rewritten.
use Rattle.std.proofs.Common.{◌≡◌, ◌⊎◌, inl, inr, ℕ, Bool, true, false, List, [], ◌∷◌, Option, Some, refl, sym, ap, ◌∙◌, subst}
use Rattle.std.specs.Prelude.{map}
use Rattle.om_value.specs.declared.value.Place.{Place}
use Rattle.om_value.specs.declared.value.Value.{Value}
use Rattle.om_prog.specs.Act.{Act, Word, act_reads}
use Rattle.om_prog.specs.Values.{Values, no_values}
use Rattle.om_prog.specs.View.{ProgramView}
use Rattle.om_prog.specs.Valid.{IsProgram}
use Rattle.om_graph.specs.declared.op.OpKind.{OpKind}
use Rattle.om_graph.specs.View.{Node, Block, GraphView, Has, ops_of, replace_in, replaced}
use Rattle.om_graph.specs.Run.{words, block_words, next_word, op_act, graph_script, rev_onto}
use Rattle.om_graph.specs.Form.{Ordered, is_address}
use Rattle.om_graph.specs.LeftIn.{Keeps}
use Rattle.om_graph.specs.Rewritten.{each_word}
use Rattle.om_graph.specs.Whole.{IsWhole}
use Rattle.om_graph.specs.Kept.{IsInKeptSet, IsKeptLanding}
use Rattle.om_graph.proofs.Labels.{in_all}
use Rattle.om_graph.proofs.Ends.{each_words}
use Rattle.om_graph.proofs.Kept.{has_split}
use Rattle.om_graph.proofs.Fetching.{found_has}
use Rattle.om_graph.proofs.Itself.{all_ordered, unique}
use Rattle.om_graph.proofs.Places.{placed}
use Rattle.om_graph.proofs.Blocks.{InBlocks, found_at}
use Rattle.om_graph.proofs.ValuesAt.{values_in, known_at, behind}
use Rattle.om_graph.proofs.OfProgram.{words_in_place}
use Rattle.om_graph.proofs.Forms.{pairs_apart, whole_of}
use Rattle.om_graph.proofs.Whole.{blocks_placed, known_there}
use Rattle.om_passes.specs.AtPlaces.{set_at, NoHalf}
use Rattle.om_passes.specs.Step.{Onward, Step}
use Rattle.om_passes.proofs.Standings.{Becomes, stays, bases_stay, pairs_same}
use Rattle.om_passes.specs.OneEdit.{MayGoOn, IsOp, word_of}
use Rattle.om_passes.proofs.AtPlaces.{never_gone, set_else, IsSet, here, elsewhere, is_set}
use Rattle.om_passes.proofs.OneEdit as edit
use Rattle.om_passes.proofs.OneBlock as one
use Rattle.om_passes.proofs.OpEdits.{replaced_words}
use Rattle.om_passes.proofs.EditedOnce.{words_edited, edited_once}
use Rattle.om_graph.proofs.Ends.{one_block, ends_keep}
use Rattle.om_passes.proofs.CallStep.{no_laws}
use Rattle.om_addr.specs.Reduces.{Reduced, as_was}
use Rattle.om_addr.proofs.NoHalf.{no_halves}
use Rattle.om_addr.proofs.NoHalf as address
use Rattle.om_addr.proofs.Never.{passed, passed_in, passed_at, enter, Flow, Le, laws, Before, before_keeps}
use Rattle.om_passes.proofs.KnownCalls.{back_onto, turned, fronts_same}
use Rattle.om_prog.specs.Step.{SymState}
use Rattle.om_prog.specs.Within.{ActWithin}

one_before : (bs bf cf us vs : List Word) (d : Word) → Ordered bs → rev_onto bf (d ∷ us) ≡ bs → rev_onto cf (d ∷ vs) ≡ bs → bf ≡ cf
one_before bs bf cf us vs d o e f =
    let a = turned bf in
    let b = turned cf in
    let x = sym (a.same (d ∷ us)) ∙ e in
    let y = sym (b.same (d ∷ vs)) ∙ f in
    a.back ∙ ap (λ (z : List Word). back_onto z []) (fronts_same a.front b.front us vs d (subst (λ (l : List Word). Ordered l) (sym x) o) (x ∙ sym y)) ∙ sym b.back

-- the words before one in its block, from where its place comes from
module _ (p : ProgramView) (g : GraphView) (whole : IsWhole p g) (ordered : Ordered (words g)) (b : Block) (hb : Has g.blocks b) (q : Place) (w : Word) (there : Has (block_words b) w)
    (e : next_word (words g) q ≡ Some w) (in_block : Ordered (block_words b)) where
  pub record FoundBefore : Type 0 where
    pub before : List Word
    pub rest : List Word
    pub stands : rev_onto before (w ∷ rest) ≡ block_words b
    pub known : known_at (graph_script p g) g.blocks q ≡ behind (graph_script p g) before
    pub over : passed_at g.blocks q ≡ passed before

  pub before_it : FoundBefore
  before_it =
      let x = found_at Values (values_in (graph_script p g)) no_values (λ c. no_values) (λ w x y. Unit {0}) (λ x y. Unit {0}) (no_laws (values_in (graph_script p g)) no_values (λ c. no_values)) g.blocks q w (blocks_placed p g whole) e in
      let inside = has_split x.before w x.rest (block_words x.block) x.splits in
      let is_b = one_block g.blocks x.block b w ordered x.among hb inside there in
      let y = found_at Bool passed_in false enter Flow Le laws g.blocks q w (blocks_placed p g whole) e in
      let also = one_block g.blocks y.block b w ordered y.among hb (has_split y.before w y.rest (block_words y.block) y.splits) there in
      let same = one_before (block_words b) x.before y.before x.rest y.rest w in_block (x.splits ∙ ap block_words is_b) (y.splits ∙ ap block_words also) in
      record { before = x.before; rest = x.rest; stands = x.splits ∙ ap block_words is_b; known = x.here; over = y.here ∙ ap passed (sym same) }

module _ (p : ProgramView) (prog : IsProgram p) (g : GraphView) (m : MayGoOn p g) (id : ℕ) (b : Block) (x : Node) (o : IsOp g id b x) (kind : OpKind)
    (no_old : NoHalf (x.op).kind) (no_new : NoHalf kind) (still : is_address (op_act (ops_of b) kind) ≡ true → is_address (word_of b x).act ≡ true)
    (onward : Onward p g (replaced g id kind)) (becomes : Becomes p g (word_of b x) (record { at = (word_of b x).at; act = op_act (ops_of b) kind }))
    (reduced : (bf ws : List Word) → rev_onto bf (word_of b x ∷ ws) ≡ block_words b → passed bf ≡ false →
    Reduced (graph_script p g) (behind (graph_script p g) bf) no_halves (λ r. true) (word_of b x) (record { at = (word_of b x).at; act = op_act (ops_of b) kind })) where
  abbrev f : Word → Option Word
  f = set_at (x.op).place (op_act (ops_of b) kind)

  abbrev new : GraphView
  new = replaced g id kind

  whole : IsWhole p g
  whole = whole_of p prog g m.graph m.kept

  hb : Has g.blocks b
  hb = edit.there p prog g m.graph m.kept m.reach id b x o.block o.node

  ordered : Ordered (words g)
  ordered = all_ordered g.blocks (placed g (m.graph).graph (m.graph).form (words_in_place p prog g m.graph))

  in_block : Ordered (block_words b)
  in_block = (words_in_place p prog g m.graph).ordered b hb

  there : Has (block_words b) (word_of b x)
  there = edit.word_there p prog g m.graph m.kept m.reach id b x o.block o.node

  block : block_words (replace_in id kind b) ≡ each_word f (block_words b)
  block =
      replaced_words p b (replace_in id kind b) (one.pre g (m.graph).graph id b o.block x o.node) (one.post g (m.graph).graph id b o.block x o.node) x.op (one.ops_were g (m.graph).graph id b o.block x o.node) refl refl refl
      in_block (λ y h. (m.graph).form.ops b y hb h) ((m.graph).form.lasts b hb) kind (one.ops_replaced g (m.graph).graph id b o.block x o.node kind) no_old no_new

  all : words new ≡ each_word f (words g)
  all =
      each_words f g.blocks new.blocks
      (words_edited g new b (replace_in id kind b) (one.replaced_one g (m.graph).graph id b o.block kind) f (x.op).place ordered (λ w n. set_else (x.op).place (op_act (ops_of b) kind) w n) (word_of b x) there refl block)

  in_place : (w u : Word) → f w ≡ Some u → u.at ≡ w.at
  in_place w u e = by_case (is_set (x.op).place (op_act (ops_of b) kind) w u e)
    where
      by_case : IsSet (x.op).place (op_act (ops_of b) kind) w u → u.at ≡ w.at
      by_case (here a c) = ap (λ (x : Word). x.at) c
      by_case (elsewhere a c) = ap (λ (x : Word). x.at) c

  is_word : (w : Word) → Has (words g) w → w.at ≡ (x.op).place → w ≡ word_of b x
  is_word w h a = unique (words g) (word_of b x) w ordered (in_all g.blocks b (word_of b x) hb there) h a

  addresses : (w u : Word) → Has (words g) w → f w ≡ Some u → is_address u.act ≡ true → is_address w.act ≡ true
  addresses w u i e h = by_case (is_set (x.op).place (op_act (ops_of b) kind) w u e)
    where
      by_case : IsSet (x.op).place (op_act (ops_of b) kind) w u → is_address w.act ≡ true
      by_case (here a c) = ap (λ (v : Word). is_address v.act) (is_word w i a) ∙ still (ap (λ (v : Word). is_address v.act) (sym c) ∙ h)
      by_case (elsewhere a c) = ap (λ (x : Word). is_address x.act) (sym c) ∙ h

  word :
      (q : Place) (w : Word) → InBlocks (λ l. IsInKeptSet g l) g.blocks q × (passed_at g.blocks q ≡ false) → next_word (words g) q ≡ Some w →
      (u : Word) × (f w ≡ Some u) × Reduced (graph_script p g) (known_at (graph_script p g) g.blocks q) no_halves (λ r. true) w u
  word q w at e = (_, refl, by_case (is_set (x.op).place (op_act (ops_of b) kind) w _ refl))
    where
      made : {u : Word} → w.at ≡ (x.op).place → u ≡ record { at = w.at; act = op_act (ops_of b) kind } → Reduced (graph_script p g) (known_at (graph_script p g) g.blocks q) no_halves (λ r. true) w u
      made {u} a c =
          let same : w ≡ word_of b x = is_word w (found_has (words g) q w e) a in
          let y = before_it p g whole ordered b hb q w (subst (λ (v : Word). Has (block_words b) v) (sym same) there) e in_block in
          let r = reduced y.before y.rest (ap (λ (v : Word). rev_onto y.before (v ∷ y.rest)) (sym same) ∙ y.stands) (sym y.over ∙ at.1) in
          subst (λ (k : Values). Reduced (graph_script p g) k no_halves (λ r. true) w u) (sym y.known)
          (subst (λ (v : Word). Reduced (graph_script p g) (behind (graph_script p g) y.before) no_halves (λ r. true) w v) (sym c)
          (subst (λ (v : Word). Reduced (graph_script p g) (behind (graph_script p g) y.before) no_halves (λ r. true) v (record { at = v.at; act = op_act (ops_of b) kind })) (sym same) r))

      by_case : {u : Word} → IsSet (x.op).place (op_act (ops_of b) kind) w u → Reduced (graph_script p g) (known_at (graph_script p g) g.blocks q) no_halves (λ r. true) w u
      by_case (here a c) = made a c
      by_case (elsewhere a c) = as_was c (λ r h. refl)

  abbrev Ok : Place → Type 0
  Ok q = passed_at g.blocks q ≡ false

  fine : (s : SymState) (w : Word) → Before p g whole s → next_word (words g) s.place ≡ Some w → ActWithin (IsKeptLanding g) w.at w.act × (InBlocks (λ l. IsInKeptSet g l) g.blocks s.place × Ok s.place)
  fine s w o e = let k = known_there p g whole s w o.0 e in (k.0, (k.1, o.1))

  pub op_keeps : Keeps p g new
  op_keeps =
      ends_keep p g new (record { counts = refl; roots = refl; tables = refl }) (address.K p g new whole ordered f in_place all Ok (Before p g whole) (before_keeps p g whole) fine word) _ _ _ _
      (address.addressing p g new whole ordered f in_place all Ok (Before p g whole) (before_keeps p g whole) fine word) f (λ c. true) (λ c. c.last)
      (edited_once g new b (replace_in id kind b) (one.replaced_one g (m.graph).graph id b o.block kind) f (x.op).place ordered (λ w n. set_else (x.op).place (op_act (ops_of b) kind) w n) (word_of b x) there refl block refl refl refl
      (λ w u h e. in_place w u e) addresses)
      ordered (pairs_apart p prog new onward.goes_on.graph) (λ input n c clean r c' h l. refl) (λ c pair q h k i o e. e)

  each_becomes : (w v : Word) → Has (words g) w → f w ≡ Some v → Becomes p g w v
  each_becomes w v h e = by_case (is_set (x.op).place (op_act (ops_of b) kind) w v e)
    where
      by_case : IsSet (x.op).place (op_act (ops_of b) kind) w v → Becomes p g w v
      by_case (here a c) =
          subst (λ (u : Word). Becomes p g w u) (sym c)
          (subst (λ (u : Word). Becomes p g u (record { at = u.at; act = op_act (ops_of b) kind })) (sym (is_word w h a)) becomes)
      by_case (elsewhere a c) = stays (sym c)

  pub op_step : Step p g new
  op_step = record {
    rewrite = record {
      keeps = op_keeps;
      goes_on = onward.goes_on;
      lighter = onward.lighter;
      bases = bases_stay p prog g new m.graph f all op_keeps onward.goes_on.graph each_becomes;
    };
    pairs = pairs_same p prog g new m.graph f all (λ w v h e. in_place w v e) (λ w h e. never_gone (x.op).place (op_act (ops_of b) kind) w e);
  }
