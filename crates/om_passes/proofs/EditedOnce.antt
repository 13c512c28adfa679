-- One edit, as an edited graph.
use Rattle.std.proofs.Common.{◌≡◌, inl, inr, ℕ, Bool, true, false, List, [], ◌∷◌, ◌++◌, Option, Some, refl, sym, ap, ◌∙◌, subst, None}
use Rattle.std.specs.Prelude.{map, filter, not, option_and_then}
use Rattle.om_value.specs.declared.value.Place.{Place}
use Rattle.om_prog.specs.Act.{Word}
use Rattle.om_graph.specs.declared.op.Last.{Last}
use Rattle.om_graph.specs.View.{Block, GraphView, Has, is_block, last_in, last_set, dropped}
use Rattle.om_graph.specs.Run.{block_words, all_words}
use Rattle.om_graph.specs.Form.{Ordered, is_address}
use Rattle.om_graph.specs.Rewritten.{onto_words, each_word, BlockEnd, block_end}
use Rattle.om_graph.proofs.Labels.{append_left, in_all}
use Rattle.om_graph.specs.Rewritten.{ended_by, Edited}
use Rattle.om_graph.proofs.Ends.{words_apart, ordered_right}
use Rattle.om_passes.proofs.AtPlaces.{each_same}
use Rattle.om_passes.specs.Blocks.{OneBlock}
use Rattle.om_graph.proofs.Ends.{all_stay}

pub all_append : (xs ys : List Block) → all_words (xs ++ ys) ≡ all_words xs ++ all_words ys
all_append [] ys = refl
all_append (b ∷ xs) ys = ap (λ (l : List Word). block_words b ++ l) (all_append xs ys) ∙ assoc (block_words b) (all_words xs) (all_words ys)
  where
    assoc : (us vs ws : List Word) → us ++ (vs ++ ws) ≡ (us ++ vs) ++ ws
    assoc [] vs ws = refl
    assoc (u ∷ us) vs ws = ap (λ (l : List Word). u ∷ l) (assoc us vs ws)

pub map_join : {A : Type 0} (f : Block → A) (xs ys : List Block) → map f (xs ++ ys) ≡ map f xs ++ map f ys
map_join f [] ys = refl
map_join {A = A} f (x ∷ xs) ys = ap (λ (l : List A). f x ∷ l) (map_join f xs ys)

pub map_like : {A : Type 0} (f g : Block → A) (xs : List Block) → ((x : Block) → Has xs x → f x ≡ g x) → map f xs ≡ map g xs
map_like f g [] e = refl
map_like f g (x ∷ xs) e = let a = e x (inl refl) in let i = map_like f g xs (λ y h. e y (inr h)) in rw (a, i) refl

-- ---- a word of one block

module _ (old new : GraphView) (b n : Block) (one : OneBlock old.blocks new.blocks b n) (f : Word → Option Word) (q : Place) (ordered : Ordered (all_words old.blocks))
    (others : (w : Word) → (w.at ≡ q → ⊥) → f w ≡ Some w) (x : Word) (has : Has (block_words b) x) (at : x.at ≡ q) (words : block_words n ≡ each_word f (block_words b)) where
  in_order : Ordered (all_words one.before ++ (block_words b ++ all_words one.after))
  in_order = subst (λ (l : List Word). Ordered l) (ap all_words one.was ∙ all_append one.before (b ∷ one.after)) ordered

  -- the words of the other blocks stand elsewhere
  same_before : (c : Block) → Has one.before c → block_words c ≡ each_word f (block_words c)
  same_before c h = sym (each_same f (block_words c) (λ w m. others w (λ e.
      words_apart (all_words one.before) (block_words b ++ all_words one.after) w x in_order (in_all one.before c w h m) (append_left (block_words b) (all_words one.after) x has) (e ∙ sym at))))

  same_after : (c : Block) → Has one.after c → block_words c ≡ each_word f (block_words c)
  same_after c h = sym (each_same f (block_words c) (λ w m. others w (λ e.
      words_apart (block_words b) (all_words one.after) x w (ordered_right (all_words one.before) (block_words b ++ all_words one.after) in_order) has (in_all one.after c w h m) (at ∙ sym e))))

  abbrev g : Block → List Word
  g c = each_word f (block_words c)

  pub words_edited : map block_words new.blocks ≡ map (λ c. each_word f (block_words c)) old.blocks
  words_edited =
      let l = map_like block_words g one.before same_before in
      let r = map_like block_words g one.after same_after in
      ap (map block_words) one.now ∙ map_join block_words one.before (n ∷ one.after) ∙ ap (λ (z : List (List Word)). z ++ map block_words (n ∷ one.after)) l
      ∙ ap (λ (z : List Word). map g one.before ++ z ∷ map block_words one.after) words ∙ ap (λ (z : List (List Word)). map g one.before ++ g b ∷ z) r
      ∙ sym (map_join g one.before (b ∷ one.after)) ∙ ap (map g) (sym one.was)

  -- the same Lasts
  pub edited_once :
      n.label ≡ b.label → n.opening ≡ b.opening → n.last ≡ b.last → ((w u : Word) → Has (all_words old.blocks) w → f w ≡ Some u → u.at ≡ w.at) →
      ((w u : Word) → Has (all_words old.blocks) w → f w ≡ Some u → is_address u.act ≡ true → is_address w.act ≡ true) → Edited f (λ c. true) (λ c. c.last) old new
  edited_once label opening last places addresses = record {
    ends =
        ap (map block_end) one.now ∙ map_join block_end one.before (n ∷ one.after) ∙ ap (λ (z : BlockEnd). map block_end one.before ++ z ∷ map block_end one.after) end
        ∙ sym (map_join block_end one.before (b ∷ one.after)) ∙ ap (map block_end) (sym one.was) ∙ ap (map block_end) (sym (all_stay old.blocks));
    words = words_edited ∙ ap (map g) (sym (all_stay old.blocks));
    places = places;
    addresses = addresses;
  }
    where
      end : block_end n ≡ block_end b
      end = rw (label, opening, last) refl

-- another Last of a block
pub last_edited :
    (g : GraphView) (id : ℕ) (l : Last) (f : Word → Option Word) → map block_words (last_set g id l).blocks ≡ map (λ c. each_word f (block_words c)) g.blocks →
    ((w u : Word) → Has (all_words g.blocks) w → f w ≡ Some u → u.at ≡ w.at) → ((w u : Word) → Has (all_words g.blocks) w → f w ≡ Some u → is_address u.act ≡ true → is_address w.act ≡ true) →
    Edited f (λ c. true) (λ c. (last_in id l c).last) g (last_set g id l)
last_edited g id l f words places addresses = record {
  ends = ends g.blocks ∙ ap (map (ended_by (λ c. (last_in id l c).last))) (sym (all_stay g.blocks));
  words = words ∙ ap (map (λ (c : Block). each_word f (block_words c))) (sym (all_stay g.blocks));
  places = places;
  addresses = addresses;
}
  where
    end : (c : Block) → block_end (last_in id l c) ≡ ended_by (λ c. (last_in id l c).last) c
    end c = by_id (is_block id c) refl
      where
        by_id : (t : Bool) → is_block id c ≡ t → block_end (last_in id l c) ≡ ended_by (λ c. (last_in id l c).last) c
        by_id true e = rw e refl
        by_id false e = rw e refl

    ends : (bs : List Block) → map block_end (map (last_in id l) bs) ≡ map (ended_by (λ c. (last_in id l c).last)) bs
    ends [] = refl
    ends (c ∷ bs) = let a = end c in let i = ends bs in rw (a, i) refl

-- a block gone
pub dropped_edited : (g : GraphView) (id : ℕ) → Edited (λ w. Some w) (λ c. not (is_block id c)) (λ c. c.last) g (dropped g id)
dropped_edited g id = record { ends = refl; words = words (filter (λ c. not (is_block id c)) g.blocks); places = λ w u h e. place w u e; addresses = λ w u h e a. subst (λ (v : Word). is_address v.act ≡ true) (sym (same w u e)) a }
  where
    same : (w u : Word) → Some w ≡ Some u → w ≡ u
    same w u e = cc

    place : (w u : Word) → Some w ≡ Some u → u.at ≡ w.at
    place w u e = ap (λ (v : Word). v.at) (sym (same w u e))

    words : (bs : List Block) → map block_words bs ≡ map (λ c. each_word (λ w. Some w) (block_words c)) bs
    words [] = refl
    words (c ∷ bs) = let a = each_same (λ w. Some w) (block_words c) (λ w h. refl) in let i = words bs in rw (a, i) refl

-- ---- two edits that leave the Lasts

abbrev pub then_change : (Word → Option Word) → (Word → Option Word) → Word → Option Word
then_change f h w = option_and_then h (f w)

each_twice : (f h : Word → Option Word) (ws : List Word) → each_word h (each_word f ws) ≡ each_word (then_change f h) ws
each_twice f h [] = refl
each_twice f h (w ∷ ws) = by_word (f w) (each_twice f h ws)
  where
    by_word : (o : Option Word) → each_word h (each_word f ws) ≡ each_word (then_change f h) ws → each_word h (onto_words o (each_word f ws)) ≡ onto_words (option_and_then h o) (each_word (then_change f h) ws)
    by_word None i = i
    by_word (Some u) i = ap (λ (l : List Word). onto_words (h u) l) i

map_twice : {A B : Type 0} (f : Block → A) (h : A → B) (xs : List Block) → map (λ x. h (f x)) xs ≡ map h (map f xs)
map_twice f h [] = refl
map_twice {A} {B} f h (x ∷ xs) = ap (λ (l : List B). h (f x) ∷ l) (map_twice f h xs)

pub edited_twice :
    (f h : Word → Option Word) (a b d : GraphView) → Edited f (λ c. true) (λ c. c.last) a b → Edited h (λ c. true) (λ c. c.last) b d →
    ((w u : Word) → Has (all_words a.blocks) w → then_change f h w ≡ Some u → u.at ≡ w.at) →
    ((w u : Word) → Has (all_words a.blocks) w → then_change f h w ≡ Some u → is_address u.act ≡ true → is_address w.act ≡ true) → Edited (then_change f h) (λ c. true) (λ c. c.last) a d
edited_twice f h a b d x y places addresses = record {
  ends = y.ends ∙ ap (map block_end) (all_stay b.blocks) ∙ x.ends;
  words =
      y.words ∙ ap (map (λ (c : Block). each_word h (block_words c))) (all_stay b.blocks) ∙ map_twice block_words (each_word h) b.blocks ∙ ap (map (each_word h)) x.words
      ∙ sym (map_twice (λ c. each_word f (block_words c)) (each_word h) (filter (λ c. true) a.blocks))
      ∙ map_like (λ c. each_word h (each_word f (block_words c))) (λ c. each_word (then_change f h) (block_words c)) (filter (λ c. true) a.blocks) (λ c m. each_twice f h (block_words c));
  places = places;
  addresses = addresses;
}
