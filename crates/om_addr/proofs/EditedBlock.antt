-- One block of which any words are changed, as an edited graph.
use Rattle.std.proofs.Common.{◌≡◌, inl, inr, ℕ, Bool, true, false, cond, ◌||◌, List, [], ◌∷◌, ◌++◌, Option, Some, refl, sym, ap, ◌∙◌, subst}
use Rattle.std.specs.Prelude.{map}
use Rattle.std.proofs.lemmas.Bool.{true≢false}
use Rattle.om_value.specs.declared.value.Place.{Place}
use Rattle.om_value.specs.Same.{place_eq}
use Rattle.om_prog.specs.Act.{Word}
use Rattle.om_graph.specs.View.{Block, GraphView, Has}
use Rattle.om_graph.specs.Run.{block_words, all_words}
use Rattle.om_graph.specs.Form.{Ordered, is_address}
use Rattle.om_graph.specs.Rewritten.{each_word, BlockEnd, block_end}
use Rattle.om_graph.proofs.Labels.{append_left, in_all, same_place, self_eq}
use Rattle.om_graph.specs.Rewritten.{Edited}
use Rattle.om_passes.specs.Blocks.{OneBlock}
use Rattle.om_graph.proofs.Ends.{words_apart, ordered_right}
use Rattle.om_passes.proofs.AtPlaces.{each_same}
use Rattle.om_graph.proofs.Ends.{all_stay}
use Rattle.om_passes.proofs.EditedOnce.{all_append, map_join, map_like}

-- ---- whether a word stands at a place

abbrev pub at_some : List Word → Place → Bool
at_some [] q = false
at_some (w ∷ ws) q = place_eq w.at q || at_some ws q

pub at_has : (ws : List Word) (q : Place) → at_some ws q ≡ true → (v : Word) × Has ws v × (v.at ≡ q)
at_has [] q e = absurd (true≢false (sym e))
at_has (w ∷ ws) q e = by_place (place_eq w.at q) refl e (at_has ws q)
  where
    by_place : (t : Bool) → place_eq w.at q ≡ t → (t || at_some ws q) ≡ true → (at_some ws q ≡ true → (v : Word) × Has ws v × (v.at ≡ q)) → (v : Word) × Has (w ∷ ws) v × (v.at ≡ q)
    by_place true t e i = (w, inl refl, same_place w.at q t)
    by_place false t e i = let r = i e in (r.0, inr r.1, r.2)

pub has_at : (ws : List Word) (v : Word) → Has ws v → at_some ws v.at ≡ true
has_at [] v h = absurd h
has_at (w ∷ ws) v (inl h) = let e : place_eq w.at v.at ≡ true = ap (λ (x : Word). place_eq x.at v.at) h ∙ self_eq v.at in rw e refl
has_at (w ∷ ws) v (inr h) = let i = has_at ws v h in rw i (or_true (place_eq w.at v.at))
  where
    or_true : (b : Bool) → (b || true) ≡ true
    or_true true = refl
    or_true false = refl

-- ---- words of one block

module _ (old new : GraphView) (b n : Block) (one : OneBlock old.blocks new.blocks b n) (f : Word → Option Word) (ordered : Ordered (all_words old.blocks))
    (others : (w : Word) → Has (all_words old.blocks) w → (Has (block_words b) w → ⊥) → f w ≡ Some w) (words : block_words n ≡ each_word f (block_words b)) where
  all_is : all_words old.blocks ≡ all_words one.before ++ (block_words b ++ all_words one.after)
  all_is = ap all_words one.was ∙ all_append one.before (b ∷ one.after)

  in_order : Ordered (all_words one.before ++ (block_words b ++ all_words one.after))
  in_order = subst (λ (l : List Word). Ordered l) all_is ordered

  has_block : (c : Block) (w : Word) → Has (one.before ++ b ∷ one.after) c → Has (block_words c) w → Has (all_words old.blocks) w
  has_block c w h k = in_all old.blocks c w (subst (λ (l : List Block). Has l c) (sym one.was) h) k

  in_front : (xs ys : List Block) (c : Block) → Has xs c → Has (xs ++ ys) c
  in_front [] ys c h = absurd h
  in_front (x ∷ xs) ys c (inl h) = inl h
  in_front (x ∷ xs) ys c (inr h) = inr (in_front xs ys c h)

  in_back : (xs ys : List Block) (c : Block) → Has ys c → Has (xs ++ ys) c
  in_back [] ys c h = h
  in_back (x ∷ xs) ys c h = inr (in_back xs ys c h)

  same_before : (c : Block) → Has one.before c → block_words c ≡ each_word f (block_words c)
  same_before c h = sym (each_same f (block_words c) (λ w m. others w (has_block c w (in_front one.before (b ∷ one.after) c h) m) (λ k.
      words_apart (all_words one.before) (block_words b ++ all_words one.after) w w in_order (in_all one.before c w h m) (append_left (block_words b) (all_words one.after) w k) refl)))

  same_after : (c : Block) → Has one.after c → block_words c ≡ each_word f (block_words c)
  same_after c h = sym (each_same f (block_words c) (λ w m. others w (has_block c w (in_back one.before (b ∷ one.after) c (inr h)) m) (λ k.
      words_apart (block_words b) (all_words one.after) w w (ordered_right (all_words one.before) (block_words b ++ all_words one.after) in_order) k (in_all one.after c w h m) refl)))

  abbrev g : Block → List Word
  g c = each_word f (block_words c)

  pub words_edited : map block_words new.blocks ≡ map (λ c. each_word f (block_words c)) old.blocks
  words_edited =
      let l = map_like block_words g one.before same_before in
      let r = map_like block_words g one.after same_after in
      ap (map block_words) one.now ∙ map_join block_words one.before (n ∷ one.after) ∙ ap (λ (z : List (List Word)). z ++ map block_words (n ∷ one.after)) l
      ∙ ap (λ (z : List Word). map g one.before ++ z ∷ map block_words one.after) words ∙ ap (λ (z : List (List Word)). map g one.before ++ g b ∷ z) r
      ∙ sym (map_join g one.before (b ∷ one.after)) ∙ ap (map g) (sym one.was)

  pub block_edited :
      n.label ≡ b.label → n.opening ≡ b.opening → n.last ≡ b.last → ((w u : Word) → Has (all_words old.blocks) w → f w ≡ Some u → u.at ≡ w.at) →
      ((w u : Word) → Has (all_words old.blocks) w → f w ≡ Some u → is_address u.act ≡ true → is_address w.act ≡ true) → Edited f (λ c. true) (λ c. c.last) old new
  block_edited label opening last places addresses = record {
    ends =
        ap (map block_end) one.now ∙ map_join block_end one.before (n ∷ one.after) ∙ ap (λ (z : BlockEnd). map block_end one.before ++ z ∷ map block_end one.after) end
        ∙ sym (map_join block_end one.before (b ∷ one.after)) ∙ ap (map block_end) (sym one.was) ∙ ap (map block_end) (sym (all_stay old.blocks));
    words = words_edited ∙ ap (map g) (sym (all_stay old.blocks));
    places = places;
    addresses = addresses;
  }
    where
      end : block_end n ≡ block_end b
      end = rw (label, opening, last) refl
