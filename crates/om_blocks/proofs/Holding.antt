-- What holds of the blocks of named places, and the union of their masks, as walks over the words make it.
use Rattle.std.proofs.Common.{◌≡◌, inl, inr, ℕ, List, [], ◌∷◌, ◌++◌, Some, None, refl, sym, ap, ◌∙◌, subst, arith}
use Rattle.std.specs.Prelude.{◌↔◌, map, flat_map}
use Rattle.std.specs.Int.{bit_at}
use Rattle.std.specs.Int.Bits.{bit_or}
use Rattle.std.proofs.lemmas.Nat.Bits.{bit_at_or, bit_at-zero, bit_at-pow_same, bit_at-pow_other, same_from_bits}
use Rattle.om_value.specs.declared.value.Place.{Place}
use Rattle.om_prog.specs.Act.{Word}
use Rattle.om_graph.specs.declared.op.Op.{Op}
use Rattle.om_graph.specs.declared.op.Last.{Last}
use Rattle.om_graph.specs.View.{Block, GraphView, Has, ops_of, labelled}
use Rattle.om_graph.specs.Held.{IsGraph}
use Rattle.om_graph.specs.Kept.{Named}
use Rattle.om_graph.specs.Run.{block_words, all_words, words, op_word, last_words}
use Rattle.om_blocks.specs.IsFlow.{HasFlow}
use Rattle.om_blocks.specs.Filling.{word_lands, places_of, places_behind, kind_code, link_place}
use Rattle.om_blocks.specs.Landing.{HoldsAt, IsUnion}
use Rattle.om_blocks.proofs.OnLands.{op_lands, last_lands, flat_both}
use Rattle.om_blocks.proofs.Walking.{assoc, map_both, no_more}
use Rattle.om_blocks.proofs.LastWords.{named_listed, listed_named, has_both, has_left, has_right}
use Rattle.om_blocks.proofs.Entering.{label_is, labelled_block}

module _ (g : GraphView) (P : ℕ → Type 0) where
  pub holds_nothing : HoldsAt g P []
  holds_nothing = record { each = λ q n h hn e. absurd h }

  pub holds_part : (ps qs : List Place) → ((q : Place) → Has ps q → Has qs q) → HoldsAt g P qs → HoldsAt g P ps
  holds_part ps qs part a = record { each = λ q n h hn e. a.each q n (part q h) hn e }

  pub holds_both : (ps qs : List Place) → HoldsAt g P ps → HoldsAt g P qs → HoldsAt g P (ps ++ qs)
  holds_both ps qs a b = record { each = λ q n h hn e. elim (has_both ps qs q h) [ inl k ↦ a.each q n k hn e | inr k ↦ b.each q n k hn e ] }

  -- where no kept block has the label, and where one has
  pub holds_none : IsGraph g → (q : Place) → labelled g q ≡ None → HoldsAt g P (q ∷ [])
  holds_none graph q none = record { each = λ x n h hn e. by_case x n hn e h }
    where
      by_case : (x : Place) (n : Block) → Has g.blocks n → n.label ≡ x → Has (q ∷ []) x → P n.id
      by_case x n hn e (inl s) = let k : Some n.id ≡ None = sym (label_is g graph n hn) ∙ ap (labelled g) (e ∙ sym s) ∙ none in cc
      by_case x n hn e (inr h) = absurd h

  pub holds_found : IsGraph g → (q : Place) (id : ℕ) → labelled g q ≡ Some id → P id → HoldsAt g P (q ∷ [])
  holds_found graph q id found here = record { each = λ x n h hn e. by_case x n hn e h }
    where
      by_case : (x : Place) (n : Block) → Has g.blocks n → n.label ≡ x → Has (q ∷ []) x → P n.id
      by_case x n hn e (inl s) =
          let k : Some id ≡ Some n.id = sym found ∙ ap (labelled g) (s ∙ sym e) ∙ label_is g graph n hn in
          let same : id ≡ n.id = cc in
          subst P same here
      by_case x n hn e (inr h) = absurd h

  pub found_holds : (q : Place) (id : ℕ) → labelled g q ≡ Some id → HoldsAt g P (q ∷ []) → P id
  found_holds q id found a = let r = labelled_block g q id found in subst P r.3 (a.each q r.0 (inl refl) r.1 r.2)

  pub holds_left : (ps qs : List Place) → HoldsAt g P (ps ++ qs) → HoldsAt g P ps
  holds_left ps qs a = holds_part ps (ps ++ qs) (λ q h. has_left ps qs q h) a

  pub holds_right : (ps qs : List Place) → HoldsAt g P (ps ++ qs) → HoldsAt g P qs
  holds_right ps qs a = holds_part qs (ps ++ qs) (λ q h. has_right ps qs q h) a

  -- of each block at a landing place
  pub landings_hold : HoldsAt g P (g.roots ++ flat_map word_lands (words g)) → (n : Block) → Has g.blocks n → Named g n.label → P n.id
  landings_hold a n hn h = a.each n.label n (named_listed g n.label h) hn refl

  pub hold_landings : ((n : Block) → Has g.blocks n → Named g n.label → P n.id) → HoldsAt g P (g.roots ++ flat_map word_lands (words g))
  hold_landings f = record { each = λ q n h hn e. f n hn (subst (Named g) (sym e) (listed_named g q h)) }

-- ---- unions of masks

or_left : (a b r : ℕ) → bit_at (bit_or a b) r ≡ 0 → bit_at a r ≡ 0
or_left a b r e = omega (arith, e, bit_at_or a b r)

or_right : (a b r : ℕ) → bit_at (bit_or a b) r ≡ 0 → bit_at b r ≡ 0
or_right a b r e = omega (arith, e, bit_at_or a b r)

or_none : (a b r : ℕ) → bit_at a r ≡ 0 → bit_at b r ≡ 0 → bit_at (bit_or a b) r ≡ 0
or_none a b r e f = omega (arith, e, f, bit_at_or a b r)

module _ (g : GraphView) (lacks : ℕ → ℕ → Type 0) where
  abbrev At : ℕ → ℕ → Type 0
  At r id = lacks id r

  pub nothing_united : IsUnion g lacks [] 0
  nothing_united = record { bits = λ r. (λ e. holds_nothing g (At r), λ a. bit_at-zero r) }

  pub none_united : IsGraph g → (q : Place) → labelled g q ≡ None → IsUnion g lacks (q ∷ []) 0
  none_united graph q none = record { bits = λ r. (λ e. holds_none g (At r) graph q none, λ a. bit_at-zero r) }

  pub found_united : IsGraph g → (q : Place) (id out : ℕ) → labelled g q ≡ Some id → ((r : ℕ) → (bit_at out r ≡ 0) ↔ lacks id r) → IsUnion g lacks (q ∷ []) out
  found_united graph q id out found is = record {
    bits = λ r. (
      λ e. holds_found g (At r) graph q id found ((is r).0 e),
      λ a. (is r).1 (found_holds g (At r) q id found a),
    );
  }

  pub both_united : (ps qs : List Place) (a b : ℕ) → IsUnion g lacks ps a → IsUnion g lacks qs b → IsUnion g lacks (ps ++ qs) (bit_or a b)
  both_united ps qs a b x y = record {
    bits = λ r. (
      λ e. holds_both g (At r) ps qs ((x.bits r).0 (or_left a b r e)) ((y.bits r).0 (or_right a b r e)),
      λ h. or_none a b r ((x.bits r).1 (holds_left g (At r) ps qs h)) ((y.bits r).1 (holds_right g (At r) ps qs h)),
    );
  }

  -- of what the ops of a block so far name, and of the blocks so far
  pub record OpsUnite (b : Block) (ops : List Op) (all : ℕ) : Type 0 where
    pub united : IsUnion g lacks (flat_map word_lands (map (op_word (ops_of b)) ops)) all

  pub record BlocksUnite (done : List Block) (all : ℕ) : Type 0 where
    pub united : IsUnion g lacks (g.roots ++ flat_map word_lands (all_words done)) all

  pub ops_first : (b : Block) → OpsUnite b [] 0
  ops_first b = record { united = nothing_united }

  module _ (flow : HasFlow g) where
    one_op : (b : Block) (o : Op) → Has g.blocks b → Has (ops_of b) o → flat_map word_lands (map (op_word (ops_of b)) (o ∷ [])) ≡ places_of (kind_code o.kind)
    one_op b o hb ho = no_more (word_lands (op_word (ops_of b) o)) ∙ op_lands (ops_of b) o.place o.kind (flow.form.ops b o hb ho)

    pub ops_more :
        (b : Block) (ops : List Op) (o : Op) (all more : ℕ) → Has g.blocks b → Has (ops_of b) o →
        IsUnion g lacks (places_of (kind_code o.kind)) more → OpsUnite b ops all → OpsUnite b (ops ++ o ∷ []) (bit_or all more)
    ops_more b ops o all more hb ho l old = record {
      united = subst (λ (qs : List Place). IsUnion g lacks qs (bit_or all more))
          (ap (λ (qs : List Place). flat_map word_lands (map (op_word (ops_of b)) ops) ++ qs) (sym (one_op b o hb ho))
          ∙ sym (flat_both word_lands (map (op_word (ops_of b)) ops) (map (op_word (ops_of b)) (o ∷ []))) ∙ ap (flat_map word_lands) (sym (map_both (op_word (ops_of b)) ops (o ∷ []))))
          (both_united (flat_map word_lands (map (op_word (ops_of b)) ops)) (places_of (kind_code o.kind)) all more old.united l);
    }

    pub block_united :
        (b : Block) (last : Last) (all more : ℕ) → Has g.blocks b → b.last ≡ last →
        IsUnion g lacks (places_behind (link_place last)) more → OpsUnite b (ops_of b) all → IsUnion g lacks (flat_map word_lands (block_words b)) (bit_or all more)
    block_united b last all more hb same l old =
        subst (λ (qs : List Place). IsUnion g lacks qs (bit_or all more)) (sym split)
        (both_united (flat_map word_lands (map (op_word (ops_of b)) (ops_of b))) (places_behind (link_place last)) all more old.united l)
      where
        split : flat_map word_lands (block_words b) ≡ flat_map word_lands (map (op_word (ops_of b)) (ops_of b)) ++ places_behind (link_place last)
        split =
            flat_both word_lands (map (op_word (ops_of b)) (ops_of b)) (last_words b.last)
            ∙ ap (λ (qs : List Place). flat_map word_lands (map (op_word (ops_of b)) (ops_of b)) ++ qs) (last_lands b.last (flow.form.lasts b hb) ∙ ap (λ (x : Last). places_behind (link_place x)) same)

  pub blocks_first : (all : ℕ) → IsUnion g lacks g.roots all → BlocksUnite [] all
  blocks_first all l = record { united = subst (λ (qs : List Place). IsUnion g lacks qs all) (sym (no_more g.roots)) l }

  pub blocks_more :
      (done : List Block) (x : Block) (all more : ℕ) → IsUnion g lacks (flat_map word_lands (block_words x)) more →
      BlocksUnite done all → BlocksUnite (done ++ x ∷ []) (bit_or all more)
  blocks_more done x all more l old = record {
    united = subst (λ (qs : List Place). IsUnion g lacks qs (bit_or all more))
        (assoc g.roots (flat_map word_lands (all_words done)) (flat_map word_lands (block_words x)) ∙ ap (λ (qs : List Place). g.roots ++ qs) (sym split))
        (both_united (g.roots ++ flat_map word_lands (all_words done)) (flat_map word_lands (block_words x)) all more old.united l);
  }
    where
      split : flat_map word_lands (all_words (done ++ x ∷ [])) ≡ flat_map word_lands (all_words done) ++ flat_map word_lands (block_words x)
      split = ap (flat_map word_lands) (flat_both block_words done (x ∷ []) ∙ ap (λ (ws : List Word). all_words done ++ ws) (no_more (block_words x))) ∙ flat_both word_lands (all_words done) (block_words x)

  pub at_landings :
      (all : ℕ) → IsUnion g lacks (g.roots ++ flat_map word_lands (words g)) all → (r : ℕ) →
      (bit_at all r ≡ 0) ↔ ((n : Block) → Has g.blocks n → Named g n.label → lacks n.id r)
  at_landings all is r = (
    λ e n hn h. landings_hold g (At r) ((is.bits r).0 e) n hn h,
    λ f. (is.bits r).1 (hold_landings g (At r) f),
  )

-- ---- a test as a mask

-- bit 0 where it does not hold
pub failed_lacks : (P : Type 0) → (P → ⊥) → (r : ℕ) → (bit_at 1 r ≡ 0) ↔ (r ≡ 0 → P)
failed_lacks P n r = (
  λ e q. let z : bit_at 1 0 ≡ 0 = ap (λ (i : ℕ). bit_at 1 i) (sym q) ∙ e in let one = bit_at-pow_same 0 in absurd (omega (arith, z, one)),
  λ f. bit_at-pow_other 0 r (λ q. n (f q)),
)

pub no_bits : (all : ℕ) → ((r : ℕ) → bit_at all r ≡ 0) → all ≡ 0
no_bits all f = same_from_bits all 0 (λ i. f i ∙ sym (bit_at-zero i))
