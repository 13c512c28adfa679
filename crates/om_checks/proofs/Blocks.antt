-- One block whose words become others: masks stay checked.
use Rattle.std.proofs.Common.{◌≡◌, inl, inr, ℕ, Bool, true, false, cond, ◌==◌, List, [], ◌∷◌, ◌++◌, map, refl, sym, ap, ◌∙◌, subst}
use Rattle.std.proofs.lemmas.Bool.{eqb-true, eq-eqb}
use Rattle.om_value.specs.declared.value.Place.{Place}
use Rattle.om_graph.specs.declared.op.Last.{Last}
use Rattle.om_graph.specs.View.{Block, GraphView, Has}
use Rattle.om_graph.specs.Held.{IsGraph, Apart, block_ids}
use Rattle.om_graph.specs.Run.{block_words}
use Rattle.om_graph.specs.Form.{InForm}
use Rattle.om_graph.specs.Kept.{FallsOn}
use Rattle.om_graph.specs.Checks.{MaskChecked, AreOuts}
use Rattle.om_checks.specs.Steps.{EachBlock, NoWay, Changed, OneChanged}
use Rattle.om_checks.proofs.Edges.{same_last_goes}
use Rattle.om_checks.proofs.Edits.{unchanged, changed_names, changed_reads}
use Rattle.om_checks.proofs.MaskSteps.{mask_kept}

-- the block under an id becomes another, and keeps its label
abbrev set_block : ℕ → Block → Block → Block
set_block id n c = cond (c.id == id) (record n { label = c.label }) c

id_in : (bs : List Block) (c : Block) → Has bs c → Has (block_ids bs) c.id
id_in [] c h = absurd h
id_in (x ∷ bs) c (inl e) = inl (ap (λ (y : Block). y.id) e)
id_in (x ∷ bs) c (inr h) = inr (id_in bs c h)

mid_in : (xs ys : List Block) (b : Block) → Has (xs ++ b ∷ ys) b
mid_in [] ys b = inl refl
mid_in (x ∷ xs) ys b = inr (mid_in xs ys b)

set_else : (id : ℕ) (n c : Block) → (c.id ≡ id → ⊥) → set_block id n c ≡ c
set_else id n c d = by_test (c.id == id) refl
  where
    by_test : (t : Bool) → (c.id == id) ≡ t → cond t (record n { label = c.label }) c ≡ c
    by_test true e = absurd (d (eqb-true c.id id e))
    by_test false e = refl

set_all_else : (id : ℕ) (n : Block) (cs : List Block) → (Has (block_ids cs) id → ⊥) → map (set_block id n) cs ≡ cs
set_all_else id n [] d = refl
set_all_else id n (c ∷ cs) d =
    let a = set_else id n c (λ e. d (inl e)) in
    let r = set_all_else id n cs (λ h. d (inr h)) in
    ap (λ (x : Block). x ∷ map (set_block id n) cs) a ∙ ap (λ (l : List Block). c ∷ l) r

set_here : (n b : Block) → n.label ≡ b.label → set_block b.id n b ≡ n
set_here n b e = ap (λ (t : Bool). cond t (record n { label = b.label }) b) (eq-eqb b.id b.id refl) ∙ ap (λ (q : Place). record n { label = q }) (sym e)

set_one : (n b : Block) (xs ys : List Block) → Apart (block_ids (xs ++ b ∷ ys)) → n.label ≡ b.label → map (set_block b.id n) (xs ++ b ∷ ys) ≡ xs ++ n ∷ ys
set_one n b [] ys a e =
    ap (λ (x : Block). x ∷ map (set_block b.id n) ys) (set_here n b e) ∙ ap (λ (l : List Block). n ∷ l) (set_all_else b.id n ys a.0)
set_one n b (x ∷ xs) ys a e =
    let d = set_else b.id n x (λ s. a.0 (subst (λ (i : ℕ). Has (block_ids (xs ++ b ∷ ys)) i) (sym s) (id_in (xs ++ b ∷ ys) b (mid_in xs ys b)))) in
    let r = set_one n b xs ys a.1 e in
    ap (λ (y : Block). y ∷ map (set_block b.id n) (xs ++ b ∷ ys)) d ∙ ap (λ (l : List Block). x ∷ l) r

same_block : (bs : List Block) (c b : Block) → Apart (block_ids bs) → Has bs c → Has bs b → c.id ≡ b.id → c ≡ b
same_block [] c b a h k e = absurd h
same_block (x ∷ bs) c b a (inl h) (inl k) e = sym h ∙ k
same_block (x ∷ bs) c b a (inl h) (inr k) e = absurd (a.0 (subst (λ (i : ℕ). Has (block_ids bs) i) (sym (ap (λ (y : Block). y.id) h ∙ e)) (id_in bs b k)))
same_block (x ∷ bs) c b a (inr h) (inl k) e = absurd (a.0 (subst (λ (i : ℕ). Has (block_ids bs) i) (e ∙ sym (ap (λ (y : Block). y.id) k)) (id_in bs c h)))
same_block (x ∷ bs) c b a (inr h) (inr k) e = same_block bs c b a.1 h k e

set_label : (id : ℕ) (n c : Block) → (set_block id n c).label ≡ c.label
set_label id n c = by_test (c.id == id)
  where
    by_test : (t : Bool) → (cond t (record n { label = c.label }) c).label ≡ c.label
    by_test true = refl
    by_test false = refl

pub mask_block_changed :
    (masks outs : Place → ℕ → Bool) (g new : GraphView) (b n : Block) → IsGraph g → InForm new → OneChanged g new b n → AreOuts masks outs g → Changed [] (block_words b) (block_words n) →
    MaskChecked masks g → MaskChecked masks new
mask_block_changed masks outs g new b n graph form one are ch checked =
    mask_kept masks outs (set_block b.id n) g new NoWay each (changed_names (set_block b.id n) g words)
    (record {
      falls = λ c hc k. subst (λ (e : Last). FallsOn e) (ends c hc) k;
      jumps = λ c m w hc hm l j. inl (same_last_goes (set_block b.id n) g new each form c m w hc hm (ends c hc) l j);
    })
    are (changed_reads (set_block b.id n) outs g words) (λ c m r hc hm w. absurd w) checked
  where
    apart : Apart (block_ids (one.before ++ b ∷ one.behind))
    apart = subst (λ (l : List Block). Apart (block_ids l)) one.was graph.block_ids

    each : EachBlock (set_block b.id n) g new
    each = record {
      blocks = one.now ∙ sym (set_one n b one.before one.behind apart one.label) ∙ ap (map (set_block b.id n)) (sym one.was);
      label = λ c. set_label b.id n c;
      roots = one.roots;
      counts = one.counts;
      tables = one.tables;
    }

    here : Has g.blocks b
    here = subst (λ (l : List Block). Has l b) (sym one.was) (mid_in one.before one.behind b)

    -- a block is the one, or stays
    by_block : (P : Block → Block → Type 0) → P b n → ((c : Block) → P c c) → (c : Block) → Has g.blocks c → P c (set_block b.id n c)
    by_block P this others c hc = by_test (c.id == b.id) refl
      where
        by_test : (t : Bool) → (c.id == b.id) ≡ t → P c (set_block b.id n c)
        by_test true e =
            let same : c ≡ b = same_block g.blocks c b graph.block_ids hc here (eqb-true c.id b.id e) in
            subst (λ (x : Block). P x (set_block b.id n x)) (sym same) (subst (λ (x : Block). P b x) (sym (set_here n b one.label)) this)
        by_test false e = subst (λ (x : Block). P c x) (sym (ap (λ (t : Bool). cond t (record n { label = c.label }) c) e)) (others c)

    words : (c : Block) → Has g.blocks c → Changed [] (block_words c) (block_words (set_block b.id n c))
    words = by_block (λ x y. Changed [] (block_words x) (block_words y)) ch (λ c. unchanged [] (block_words c))

    ends : (c : Block) → Has g.blocks c → (set_block b.id n c).last ≡ c.last
    ends = by_block (λ x y. y.last ≡ x.last) one.last (λ c. refl)
