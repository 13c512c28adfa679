-- A graph to which words are added one by one has the blocks of the words so far.
use Rattle.std.proofs.Common.{◌≡◌, ℕ, Bool, true, false, cond, List, [], ◌∷◌, ◌++◌, Option, Some, refl, sym, ap, ◌∙◌, subst}
use Rattle.om_value.specs.declared.value.Place.{Place}
use Rattle.om_prog.specs.declared.item.Item.{Item}
use Rattle.om_prog.specs.View.{ProgramView}
use Rattle.om_graph.specs.declared.op.Last.{Last}
use Rattle.om_graph.specs.declared.op.Last.TheVariants.{Fall, Off}
use Rattle.om_graph.specs.View.{Node, Shape, GraphView, block_added, op_added, last_set, last_of, is_live_block}
use Rattle.om_graph.specs.Form.{ends_block}
use Rattle.om_graph.specs.Landing.{begins, is_opening_pair}
use Rattle.om_graph.specs.Lifted.{op_of_item, last_of_word, fallen, grown}
use Rattle.om_lift.specs.Lifting.{EndsOff, Holds, fallen_if, new_shape, opened}
use Rattle.om_lift.proofs.Shapes.{end_set, end_grown, end_of, set_shapes, set_labels, set_is, add_shapes, add_labels, add_is, new_shapes, new_labels, new_is, end_is, off_falls, other_falls, ending_grows, going_grows, off_snoc}

module _ (p : ProgramView) (ss : List Shape) (g : GraphView) where
  -- ---- another end

  pub end_held : (b : ℕ) (l : Last) → Holds p ss (Some b) g → Holds p (end_set l ss) (Some b) (last_set g b l)
  end_held b l h = record {
    counts = h.counts;
    roots = h.roots;
    tables = h.tables;
    shapes = set_shapes b l g.blocks h.last ∙ ap (λ (xs : List Shape). end_set l xs) h.shapes;
    labels = h.labels ∙ sym (set_labels b l g.blocks);
    last = set_is b l g.blocks h.last;
  }

  pub shapes_same : (before : Option ℕ) (xs : List Shape) → ss ≡ xs → Holds p ss before g → Holds p xs before g
  shapes_same before xs e h = subst (λ (ys : List Shape). Holds p ys before g) e h

  end_here : (b : ℕ) → Holds p ss (Some b) g → last_of g b ≡ end_of ss
  end_here b h = end_is b g.blocks h.last ∙ ap (λ (xs : List Shape). end_of xs) h.shapes

  -- where the text ended behind the last block, control falls there
  pub fall_held : (b : ℕ) → Holds p ss (Some b) g → last_of g b ≡ Some Off → Holds p (fallen ss) (Some b) (last_set g b Fall)
  fall_held b h e =
      subst (λ (ys : List Shape). Holds p ys (Some b) (last_set g b Fall)) (off_falls ss (sym (end_here b h) ∙ e)) (end_held b Fall h)

  pub stay_held : (b : ℕ) (l : Last) → Holds p ss (Some b) g → last_of g b ≡ Some l → (l ≡ Off → ⊥) → Holds p (fallen ss) (Some b) g
  stay_held b l h e n = shapes_same (Some b) (fallen ss) (other_falls l ss (sym (end_here b h) ∙ e) n) h

  pub fell : (before : Option ℕ) (b : ℕ) → before ≡ Some b → Holds p ss before g → last_of g b ≡ Some Off → Holds p (fallen_if before ss) before (last_set g b Fall)
  fell before b e h l =
      subst (λ (o : Option ℕ). Holds p (fallen_if o ss) o (last_set g b Fall)) (sym e) (fall_held b (subst (λ (o : Option ℕ). Holds p ss o g) e h) l)

  pub stayed : (before : Option ℕ) (b : ℕ) (l : Last) → before ≡ Some b → Holds p ss before g → last_of g b ≡ Some l → (l ≡ Off → ⊥) → Holds p (fallen_if before ss) before g
  stayed before b l e h f n = subst (λ (o : Option ℕ). Holds p (fallen_if o ss) o g) (sym e) (stay_held b l (subst (λ (o : Option ℕ). Holds p ss o g) e h) f n)

  -- ---- a block more

  pub block_held : (before : Option ℕ) (b : ℕ) (at : Place) (opening : Bool) → Holds p ss before g → is_live_block g b ≡ false → Holds p (ss ++ new_shape at opening ∷ []) (Some b) (block_added g b at opening)
  block_held before b at opening h n = record {
    counts = h.counts;
    roots = h.roots;
    tables = h.tables;
    shapes = new_shapes b at opening g.blocks ∙ ap (λ (xs : List Shape). xs ++ new_shape at opening ∷ []) h.shapes;
    labels = ap (λ (qs : List Place). qs ++ at ∷ []) h.labels ∙ sym (new_labels b at opening g.blocks);
    last = new_is b at opening g.blocks n;
  }

  -- ---- a word more

  pub ending_held : (b : ℕ) (at : Place) (x : Item) → Holds p ss (Some b) g → ends_block x.instr ≡ true → Holds p (grown at x ss) (Some b) (last_set g b (last_of_word true at x.role x.instr))
  ending_held b at x h e =
      subst (λ (ys : List Shape). Holds p ys (Some b) (last_set g b (last_of_word true at x.role x.instr))) (ending_grows at x ss e)
      (end_held b (last_of_word true at x.role x.instr) h)

  pub going_held : (b o : ℕ) (at : Place) (x : Item) → Holds p ss (Some b) g → ends_block x.instr ≡ false → EndsOff ss → Holds p (grown at x ss) (Some b) (op_added g b (record { id = o; op = op_of_item at x }))
  going_held b o at x h e off =
      let n : Node = record { id = o; op = op_of_item at x } in record {
        counts = h.counts;
        roots = h.roots;
        tables = h.tables;
        shapes = add_shapes b n g.blocks h.last ∙ ap (λ (xs : List Shape). end_grown (op_of_item at x) xs) h.shapes ∙ going_grows at x ss e off;
        labels = h.labels ∙ sym (add_labels b n g.blocks);
        last = add_is b n g.blocks h.last;
      }

-- a block that was just begun ends its text
pub opened_off : (p : ProgramView) (at : Place) (before : Option ℕ) (ss : List Shape) → (begins p at ≡ false → EndsOff ss) → EndsOff (opened p at before ss)
opened_off p at before ss h = by_begin (begins p at) refl
  where
    by_begin : (b : Bool) → begins p at ≡ b → EndsOff (cond b (fallen_if before ss ++ new_shape at (is_opening_pair p at) ∷ []) ss)
    by_begin true e = off_snoc (fallen_if before ss) (new_shape at (is_opening_pair p at)) refl
    by_begin false e = h e

pub opened_is : (p : ProgramView) (at : Place) (before : Option ℕ) (ss : List Shape) → begins p at ≡ true → opened p at before ss ≡ fallen_if before ss ++ new_shape at (is_opening_pair p at) ∷ []
opened_is p at before ss e = ap (λ (t : Bool). cond t (fallen_if before ss ++ new_shape at (is_opening_pair p at) ∷ []) ss) e
