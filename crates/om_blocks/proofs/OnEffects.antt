-- What the ops of a block do, as a walk over them makes it.
use Rattle.std.proofs.Common.{◌≡◌, ◌<◌, inl, inr, ℕ, ◌^◌, List, [], ◌∷◌, ◌++◌, Option, Some, None, length, get_or, refl, sym, ap, ◌∙◌, subst, arith}
use Rattle.std.specs.Prelude.{map, option_map}
use Rattle.std.proofs.lemmas.List.{get_or_default}
use Rattle.om_value.specs.declared.value.Place.{Place}
use Rattle.om_isa.specs.Registers.{mask_of}
use Rattle.om_prog.specs.Act.{Word}
use Rattle.om_prog.specs.Facts.{has}
use Rattle.om_flow.specs.declared.parts.Transfer.TheVariants.{Keep}
use Rattle.om_graph.specs.declared.op.Op.{Op}
use Rattle.om_graph.specs.declared.op.Last.{Last}
use Rattle.om_graph.specs.View.{Block, GraphView, Has, ops_of, block_of, label_of}
use Rattle.om_graph.specs.Held.{IsGraph}
use Rattle.om_graph.specs.Form.{LastForm}
use Rattle.om_graph.specs.Run.{block_words, op_word, last_words, table_of}
use Rattle.om_blocks.specs.declared.effects.Effect.{Effect}
use Rattle.om_blocks.specs.IsFlow.{HasFlow}
use Rattle.om_blocks.specs.Effects.{kind_reads, kind_writes, kind_transfer, last_reads, last_writes, other_value, effect_then, DoAll}
use Rattle.om_blocks.proofs.Walking.{map_both, found_block}
use Rattle.om_blocks.proofs.OfFlow.{has_label_in}
use Rattle.om_blocks.proofs.Doing.{op_does, does_more, does_first, last_does}

-- what the ops of a block so far do
pub record Done (g : GraphView) (b : Block) (ops : List Op) (e : Effect) : Type 0 where
  pub small : e.writes < 2 ^ 32
  pub all : DoAll (table_of g b.label.obj) (map (op_word (ops_of b)) ops) e

pub done_first : (g : GraphView) (b : Block) (e : Effect) → e.writes < 2 ^ 32 → e.reads ≡ 0 → e.writes ≡ 0 → e.transfer ≡ Keep → Done g b [] e
done_first g b e small r w t = record { small = small; all = does_first (table_of g b.label.obj) e r w t }

pub left_has : (xs ys : List Word) (w : Word) → Has xs w → Has (xs ++ ys) w
left_has [] ys w h = absurd h
left_has (x ∷ xs) ys w (inl e) = inl e
left_has (x ∷ xs) ys w (inr h) = inr (left_has xs ys w h)

pub has_words : (f : Op → Word) (ops : List Op) (o : Op) → Has ops o → Has (map f ops) (f o)
has_words f [] o h = absurd h
has_words f (x ∷ ops) o (inl e) = inl (ap f e)
has_words f (x ∷ ops) o (inr h) = inr (has_words f ops o h)

pub done_more :
    (g : GraphView) (flow : HasFlow g) (b : Block) (ops : List Op) (o : Op) (table : ℕ) (e d n : Effect) → table ≡ table_of g b.label.obj → n ≡ effect_then e d → n.writes < 2 ^ 32 → Has g.blocks b → Has (ops_of b) o → d.reads ≡ mask_of (kind_reads o.kind) →
    d.writes ≡ mask_of (kind_writes o.kind) → d.transfer ≡ kind_transfer table o.kind → Done g b ops e → Done g b (ops ++ o ∷ []) n
done_more g flow b ops o table e d n same is small hb ho r w t done = subst (λ (x : Effect). Done g b (ops ++ o ∷ []) x) (sym is) (record {
  small = subst (λ (x : Effect). x.writes < 2 ^ 32) is small;
  all = subst (λ (ws : List Word). DoAll (table_of g b.label.obj) ws (effect_then e d)) (sym (map_both (op_word (ops_of b)) ops (o ∷ [])))
      (does_more (table_of g b.label.obj) (map (op_word (ops_of b)) ops) (op_word (ops_of b) o) e d done.small done.all
      (op_does (table_of g b.label.obj) (ops_of b) o o.kind d refl
      (flow.right.none b (op_word (ops_of b) o) hb (left_has (map (op_word (ops_of b)) (ops_of b)) (last_words b.last) (op_word (ops_of b) o) (has_words (op_word (ops_of b)) (ops_of b) o ho))) r w (t ∙ ap (λ (x : ℕ). kind_transfer x o.kind) same)));
})

pub done_last :
    (g : GraphView) (flow : HasFlow g) (b : Block) (e d : Effect) (last : Last) → Has g.blocks b → b.last ≡ last → d.reads ≡ mask_of (last_reads last) → d.writes ≡ mask_of (last_writes last) →
    d.transfer ≡ other_value (has (last_writes last) 29) → Done g b (ops_of b) e → DoAll (table_of g b.label.obj) (block_words b) (effect_then e d)
done_last g flow b e d last hb same r w t done =
    subst (λ (l : Last). DoAll (table_of g b.label.obj) (map (op_word (ops_of b)) (ops_of b) ++ last_words l) (effect_then e d)) (sym same)
    (last_does (table_of g b.label.obj) (map (op_word (ops_of b)) (ops_of b)) last e d (subst (λ (l : Last). LastForm l) same (flow.form.lasts b hb)) done.small done.all r w t)

-- the table that was read is the block's
pub table_is : (g : GraphView) (graph : IsGraph g) (b : Block) (at : Place) (table : ℕ) → Some b.label ≡ Some at → at.obj < length g.counts → table ≡ get_or g.tables at.obj 0 → table ≡ table_of g b.label.obj
table_is g graph b at table e h t =
    let s : b.label ≡ at = cc in
    t ∙ get_or_default g.tables at.obj 0 at.obj (omega (arith, graph.tables, h)) ∙ ap (λ (q : Place). table_of g q.obj) (sym s)

-- a kept block's label is of an object
pub label_within : (g : GraphView) → IsGraph g → HasFlow g → (id : ℕ) (at : Place) → label_of g id ≡ Some at → at.obj < length g.counts
label_within g graph flow id at e = by_block (block_of g id) refl e
  where
    by_block : (o : Option Block) → block_of g id ≡ o → option_map (λ (b : Block). b.label) o ≡ Some at → at.obj < length g.counts
    by_block None q e = cc
    by_block (Some b) q e =
        let s : b.label ≡ at = cc in
        subst (λ (x : Place). x.obj < length g.counts) s (flow.places.labels b.label (graph.among b.label (has_label_in g.blocks b (found_block g.blocks id b q)))).0
