-- The blocks of a graph one after the other, and sweeps until nothing is dead.
use Rattle.std.proofs.Common.{◌≡◌, ◌⊎◌, inl, inr, ◌<◌, ◌≤◌, ℕ, Bool, true, false, ◌||◌, List, [], ◌∷◌, ◌++◌, Option, Some, None, Result, Ok, Err, length, get_or, refl, sym, ap, ◌∙◌, subst, arith}
use Rattle.std.specs.Prelude.{map, is_some, IfSome, IsTrue, OnErr}
use Rattle.std.proofs.lemmas.Bool.{true≢false}
use Rattle.om_value.specs.declared.value.Place.{Place}
use Rattle.om_prog.specs.Act as act
use Rattle.om_prog.specs.Act.{Word}
use Rattle.om_prog.specs.Flow.{Among}
use Rattle.om_prog.specs.View.{ProgramView}
use Rattle.om_prog.specs.Valid.{IsProgram}
use Rattle.om_graph.specs.View.{Node, Block, GraphView, Has, ops_of, block_of, is_live_block, block_id_after}
use Rattle.om_graph.specs.Held.{IsGraph}
use Rattle.om_graph.specs.Run.{op_act, op_word, last_words}
use Rattle.om_graph.specs.Form.{is_address}
use Rattle.om_graph.specs.Checks.{live_in}
use Rattle.om_graph.specs.Outs.{outs_of}
use Rattle.om_graph.specs.Uses.{IsTextsLast}
use Rattle.om_graph.specs.Left.{StandsIn, IsDeadBy, NoDeadWord}
use Rattle.om_graph.specs.Weight.{weight}
use Rattle.om_graph.proofs.Labels.{append_left}
use Rattle.om_graph.proofs.OfProgram.{to_map}
use Rattle.om_passes.specs.OneEdit.{MayGoOn}
use Rattle.om_passes.specs.Passed.{FitsStill, IsOfAProgram}
use Rattle.om_passes.specs.Step.{Deletions}
use Rattle.om_passes.proofs.InARow.{none_deleted, both, deleted}
use Rattle.om_blocks.specs.Found.{masks_in}
use Rattle.om_blocks.specs.Effects.{kind_writes}
use Rattle.om_blocks.proofs.LastWords.{has_both}
use Rattle.om_blocks.proofs.OnFilling.{found_id as id_found}
use Rattle.om_blocks.proofs.Walking.{OnBlocks, blocks_left, blocks_fewer, blocks_more, blocks_end, found_here, a_some, found_block}
use Rattle.om_live.specs.Exact.{AreExact}
use Rattle.om_live.proofs.Exactness.{exact_by_label}
use Rattle.om_live.specs.Outs.{IsOut, AreOuts}
use Rattle.om_dead.specs.Sweeps.{kind_address, live_over_ops, HasToStay, IsSwept, IsOutOf, end_live, HaveToStay, IsSweeping, IsSweptBlock}
use Rattle.om_dead.specs.Words.{IsWithoutDead, IsCleared, IsRewritten, AreDeleted}
use Rattle.om_dead.proofs.Shapes.{or_turned, OpAt, address_at, word_address, address_writes, ops_live}
use Rattle.om_dead.proofs.OnSweeps.{going, flow_of, label_same, live_same, after_same}

-- ---- block by block

-- while nothing is deleted each op of these blocks has to stay
pub record Clean (old : GraphView) (masks : Place → ℕ → Bool) (done : List Block) (changed : Bool) : Type 0 where
  pub stays : changed ≡ false → (b : Block) → Has done b → HaveToStay old (outs_of old masks) b b.ops

pub clean_first : (old : GraphView) (masks : Place → ℕ → Bool) → Clean old masks [] false
clean_first old masks = record { stays = λ e b h. absurd h }

pub record SweptTo (old : GraphView) (masks : Place → ℕ → Bool) (next : Option ℕ) (now : GraphView) (changed : Bool) (ids : List ℕ) : Type 0 where
  pub swept : IsSwept masks (outs_of old masks) old now changed
  pub empty : ids ≡ []
  pub on : OnBlocks Bool (Clean old masks) old next changed

-- what may be read from the end of a block on, that was found before
pub out_here :
    (old now : GraphView) (masks : Place → ℕ → Bool) (outs : List ℕ) (changed : Bool) (b : ℕ) → IsGraph old → AreOuts old masks old.blocks outs → IsSwept masks (outs_of old masks) old now changed →
    IsOutOf (outs_of old masks) now b (get_or outs b 0)
out_here old now masks outs changed b graph are s x e =
    let live : is_live_block old b ≡ true = sym (live_same old now s.blocks b) ∙ some_live (block_of now b) x e in
    let y = a_some (block_of old b) live in
    let h = found_block old.blocks b y.0 y.1 in
    let id : (y.0).id ≡ b = found_id y.0 y.1 in
    subst (λ (q : Place). IsOut old masks q (get_or outs b 0)) (sym (label_same old now s.blocks b x y.0 e y.1))
    (subst (λ (i : ℕ). IsOut old masks (y.0).label (get_or outs i 0)) id (are.each y.0 h))
  where
    some_live : (o : Option Block) (x : Block) → o ≡ Some x → is_some o ≡ true
    some_live None x e = cc
    some_live (Some y) x e = refl

    found_id : (y : Block) → block_of old b ≡ Some y → y.id ≡ b
    found_id y e = id_found old.blocks b y e

pub sweeping :
    (old now : GraphView) (masks : Place → ℕ → Bool) (outs : List ℕ) (changed : Bool) (b out : ℕ) → IsGraph old → AreOuts old masks old.blocks outs → IsSwept masks (outs_of old masks) old now changed →
    out ≡ get_or outs b 0 → IsSweeping now b out
sweeping old now masks outs changed b out graph are s e = record {
  masks = masks;
  outs = outs_of old masks;
  old = old;
  changed = changed;
  swept = s;
  is_out = subst (λ (n : ℕ). IsOutOf (outs_of old masks) now b n) (sym e) (out_here old now masks outs changed b graph are s);
}

pub clean_more :
    (old now new : GraphView) (masks : Place → ℕ → Bool) (changed deleted : Bool) (b out : ℕ) (done : List Block) (y : Block) → IsGraph old → IsSwept masks (outs_of old masks) old now changed →
    IsOutOf (outs_of old masks) now b out → IsSweptBlock now new b out deleted → Has old.blocks y → y.id ≡ b → Clean old masks done changed → Clean old masks (done ++ y ∷ []) (deleted || changed)
clean_more old now new masks changed deleted b out done y graph s outs is hy id clean = record { stays = by_bits deleted changed refl refl }
  where
    by_case : (x : Block) → changed ≡ false → deleted ≡ false → Has done x ⊎ Has (y ∷ []) x → HaveToStay old (outs_of old masks) x x.ops
    by_case x c d (inl h) = clean.stays c x h
    by_case x c d (inr (inl e)) =
        let same : now ≡ old = s.same c in
        let here : block_of now b ≡ Some y = ap (λ (g : GraphView). block_of g b) same ∙ (found_here old graph y b hy id).0 in
        subst (λ (z : Block). HaveToStay old (outs_of old masks) z z.ops) e
        (subst (λ (g : GraphView). HaveToStay g (outs_of old masks) y y.ops) same (is.stays d masks (outs_of old masks) old changed s outs y here))
    by_case x c d (inr (inr h)) = absurd h

    by_bits : (d c : Bool) → deleted ≡ d → changed ≡ c → (d || c) ≡ false → (x : Block) → Has (done ++ y ∷ []) x → HaveToStay old (outs_of old masks) x x.ops
    by_bits true c p q e x h = absurd (true≢false e)
    by_bits false true p q e x h = absurd (true≢false e)
    by_bits false false p q e x h = by_case x q p (has_both done (y ∷ []) x h)

-- ---- no word is dead

pub no_dead : (old : GraphView) (masks : Place → ℕ → Bool) → IsOfAProgram old → Clean old masks old.blocks false → NoDeadWord (outs_of old masks) old
no_dead old masks o clean = record { words = words }
  where
    words :
        (b : Block) (bf : List Word) (w : Word) (ws : List Word) (r : ℕ) → StandsIn old b bf w ws → is_address w.act ≡ true → Among (act.act_writes w.act) r →
        IsDeadBy (outs_of old masks) b ws r → IsTextsLast old w.at
    words b bf w ws r st a h dead = subst (λ (q : Place). IsTextsLast old q) (ap (λ (x : Word). x.at) at.word) (stay.last r kind among live)
      where
        at : OpAt (ops_of b) b.ops b.last w ws
        at = address_at b bf w ws st.split a

        stay : HasToStay old (at.node).op (live_over_ops at.behind (end_live (outs_of old masks) b))
        stay = clean.stays refl b st.among at.before at.node at.behind at.ops

        kind : kind_address ((at.node).op).kind ≡ true
        kind = word_address (ops_of b) ((at.node).op).kind (subst (λ (x : Word). is_address x.act ≡ true) (sym at.word) a)

        among : Among (kind_writes ((at.node).op).kind) r
        among =
            subst (λ (l : List ℕ). Among l r) (address_writes (ops_of b) ((at.node).op).kind kind)
            (subst (λ (x : Word). Among (act.act_writes x.act) r) (sym at.word) h)

        mid_has : (xs : List Node) (x : Node) → Has at.behind x → Has (xs ++ at.node ∷ at.behind) x
        mid_has [] x h = inr h
        mid_has (y ∷ xs) x h = inr (mid_has xs x h)

        right : (x : Node) → Has at.behind x → op_act (ops_of b) x.op.kind ≡ act.Wrong → ⊥
        right x m e =
            let k = subst (λ (l : List Node). Has l x) (sym at.ops) (mid_has at.before x m) in
            (flow_of old o).right.none b (op_word (ops_of b) x.op) st.among
            (append_left (map (op_word (ops_of b)) (ops_of b)) (last_words b.last) (op_word (ops_of b) x.op) (to_map (op_word (ops_of b)) (ops_of b) x.op (to_map (λ (y : Node). y.op) b.ops x k))) e

        live : r < 31 → live_over_ops at.behind (end_live (outs_of old masks) b) r ≡ false
        live l =
            sym (ops_live (ops_of b) at.behind b.last (outs_of old masks b.label) r ((flow_of old o).form.lasts b st.among) right)
            ∙ ap (λ (v : List Word). live_in v (outs_of old masks b.label) r) (sym at.words) ∙ dead l

-- ---- sweeps in a row

pub deleted_none : (g : GraphView) → IsOfAProgram g → AreDeleted false g g
deleted_none g o = record {
  program = o;
  same = λ e. refl;
  lighter = λ e. absurd (true≢false (sym e));
  deletions = λ p prog m. none_deleted p prog g m.graph m.kept m.reach;
  fits = λ p prog m gp address fit. fit;
  near = λ k n. n;
}

pub deleted_by : (masks outs : Place → ℕ → Bool) (old new : GraphView) (changed : Bool) → IsSwept masks outs old new changed → AreDeleted changed old new
deleted_by masks outs old new changed s = record {
  program = s.program;
  same = s.same;
  lighter = s.lighter;
  deletions = λ p prog m. (s.each p prog m).deletions;
  fits = λ p prog m. (s.each p prog m).fits;
  near = s.near;
}

pub rewritten_by : (masks outs : Place → ℕ → Bool) (old new : GraphView) (changed : Bool) → IsSwept masks outs old new changed → IsRewritten old new
rewritten_by masks outs old new changed s p prog m = (s.each p prog m).deletions.rewrites

pub rewritten_none : (g : GraphView) → IsRewritten g g
rewritten_none g p prog m = (none_deleted p prog g m.graph m.kept m.reach).rewrites

pub without : (old new : GraphView) (masks : List ℕ) → IsOfAProgram old → new ≡ old → AreExact old masks → NoDeadWord (outs_of old (masks_in old masks)) old → IsWithoutDead new
without old new masks o same exact none = subst IsWithoutDead (sym same) (record {
  masks = masks_in old masks;
  outs = outs_of old (masks_in old masks);
  exact = exact_by_label old masks o.may_go_on.graph.graph exact;
  none = none;
})

pub now_is : (changed : Bool) (a b : GraphView) → AreDeleted changed a b → IsOfAProgram b
now_is changed a b d =
    let o = d.program in
    record { program = o.program; valid = o.valid; may_go_on = going (d.deletions o.program o.valid o.may_go_on).rewrites.goes_on }

module _ (changed again : Bool) (a b c : GraphView) (d : AreDeleted changed a b) (e : AreDeleted again b c) where
  in_a_row : (p : ProgramView) → IsProgram p → MayGoOn p a → Deletions p a c
  in_a_row p prog m =
      let x = d.deletions p prog m in
      let y = e.deletions p prog (going x.rewrites.goes_on) in
      record {
        rewrites = both p a b c x.rewrites y.rewrites;
        pairs = λ bases stand. y.pairs (x.rewrites.bases bases) (x.pairs bases stand);
      }

  fits_both : (p : ProgramView) → IsProgram p → MayGoOn p a → FitsStill p a c
  fits_both p prog m gp address fit =
      let x = d.deletions p prog m in
      e.fits p prog (going x.rewrites.goes_on) gp address (d.fits p prog m gp address fit)

  lighter_both : (again || changed) ≡ true → weight c < weight a
  lighter_both t = by_bits again changed refl refl t
    where
      l : weight b ≤ weight a
      l = (d.deletions d.program.program d.program.valid d.program.may_go_on).rewrites.no_heavier

      k : weight c ≤ weight b
      k = (e.deletions d.program.program d.program.valid (going (d.deletions d.program.program d.program.valid d.program.may_go_on).rewrites.goes_on)).rewrites.no_heavier

      by_bits : (x y : Bool) → again ≡ x → changed ≡ y → (x || y) ≡ true → weight c < weight a
      by_bits true y p q t = let m = e.lighter p in omega (arith, l, m)
      by_bits false true p q t = let m = d.lighter q in omega (arith, k, m)
      by_bits false false p q t = absurd (true≢false (sym t))

  same_both : (again || changed) ≡ false → c ≡ a
  same_both t = by_bits again changed refl refl t
    where
      by_bits : (x y : Bool) → again ≡ x → changed ≡ y → (x || y) ≡ false → c ≡ a
      by_bits true y p q t = absurd (true≢false t)
      by_bits false true p q t = absurd (true≢false t)
      by_bits false false p q t = e.same p ∙ d.same q

  pub deleted_both : AreDeleted (again || changed) a c
  deleted_both = record {
    program = d.program;
    same = same_both;
    lighter = lighter_both;
    deletions = in_a_row;
    fits = fits_both;
    near = λ k n. e.near k (d.near k n);
  }

pub rewritten_then : (changed : Bool) (a b c : GraphView) → AreDeleted changed a b → IsRewritten b c → IsRewritten a c
rewritten_then changed a b c d e p prog m =
    let x = d.deletions p prog m in
    both p a b c x.rewrites (e p prog (going x.rewrites.goes_on))

pub cleared_by : (changed : Bool) (a b : GraphView) → AreDeleted changed a b → IsWithoutDead b → IsCleared changed a b
cleared_by changed a b d w = record {
  same = d.same;
  passed = λ p prog m bases. record {
    steps = deleted p a b w.masks w.outs prog (d.deletions p prog m) bases w.exact w.none;
    lighter = d.lighter;
    fits = d.fits p prog m;
  };
  near = d.near;
  none = w;
}

pub cleared_end :
    (changed again : Bool) (a b c : GraphView) → again ≡ false → AreDeleted changed a b → AreDeleted again b c → (again ≡ false → IsWithoutDead c) → IsCleared changed a c
cleared_end changed again a b c q d e w =
    cleared_by changed a c (subst (λ (t : Bool). AreDeleted (t || changed) a c) q (deleted_both changed again a b c d e)) (w q)

pub deleted_more : (changed again : Bool) (a b c : GraphView) → again ≡ true → AreDeleted changed a b → AreDeleted again b c → AreDeleted true a c
deleted_more changed again a b c q d e = subst (λ (t : Bool). AreDeleted (t || changed) a c) q (deleted_both changed again a b c d e)

-- ---- where memory runs out

pub when_err : {T E : Type 0} {P : Type 0} → (r : Result T E) → P → OnErr r P
when_err (Ok x) p = tt
when_err (Err e) p = p

-- ---- one block more

pub out_room :
    (old now : GraphView) (masks : Place → ℕ → Bool) (outs : List ℕ) (changed : Bool) (b : ℕ) (ids : List ℕ) → AreOuts old masks old.blocks outs → SweptTo old masks (Some b) now changed ids →
    b < length outs
out_room old now masks outs changed b ids are to = are.room b to.on.live

if_live : (old new : GraphView) (o : Option ℕ) → ((id : ℕ) → is_live_block new id ≡ is_live_block old id) → IfSome o (λ n. IsTrue (is_live_block new n)) → IfSome o (λ n. IsTrue (is_live_block old n))
if_live old new None same h = h
if_live old new (Some id) same h = sym (same id) ∙ h

module _ (old now new : GraphView) (masks : Place → ℕ → Bool) (outs : List ℕ) (changed d : Bool) (b out : ℕ) (graph : IsGraph old) (are : AreOuts old masks old.blocks outs)
    (ids : List ℕ) (to : SweptTo old masks (Some b) now changed ids) (e : out ≡ get_or outs b 0) (is : IsSweptBlock now new b out d) where
  here : IsOutOf (outs_of old masks) now b out
  here = subst (λ (n : ℕ). IsOutOf (outs_of old masks) now b n) (sym e) (out_here old now masks outs changed b graph are to.swept)

  swept_then : IsSwept masks (outs_of old masks) old new (d || changed)
  swept_then = is.swept masks (outs_of old masks) old changed to.swept here

  pub then_rewritten : IsRewritten old new
  then_rewritten = rewritten_by masks (outs_of old masks) old new (d || changed) swept_then

  pub then_live : is_live_block new b ≡ true
  then_live = live_same old new swept_then.blocks b ∙ to.on.live

  module _ (next : Option ℕ) (n : next ≡ block_id_after b new.blocks) where
    after : next ≡ block_id_after b old.blocks
    after = n ∙ after_same old new swept_then.blocks b

    pub swept_fewer : blocks_left Bool (Clean old masks) old next < blocks_left Bool (Clean old masks) old (Some b)
    swept_fewer = blocks_fewer Bool (Clean old masks) old graph b next changed to.on after

    pub swept_more : (more : List ℕ) → more ≡ [] → IfSome next (λ k. IsTrue (is_live_block new k)) → SweptTo old masks next new (changed || d) more
    swept_more more none live = record {
      swept = subst (λ (t : Bool). IsSwept masks (outs_of old masks) old new t) (or_turned d changed) swept_then;
      empty = none;
      on = subst (λ (t : Bool). OnBlocks Bool (Clean old masks) old next t) (or_turned d changed)
          (blocks_more Bool (Clean old masks) old graph b next changed (d || changed) to.on
          (λ done y hy id q. clean_more old now new masks changed d b out done y graph to.swept here is hy id q) after (if_live old new next (live_same old new swept_then.blocks) live));
    }

pub next_live : (old now : GraphView) (masks : Place → ℕ → Bool) (changed : Bool) (b : ℕ) (ids : List ℕ) → SweptTo old masks (Some b) now changed ids → is_live_block now b ≡ true
next_live old now masks changed b ids to = live_same old now to.swept.blocks b ∙ to.on.live

pub none_left : (old now : GraphView) (masks : Place → ℕ → Bool) (changed : Bool) (ids : List ℕ) → IsOfAProgram old → SweptTo old masks None now changed ids → changed ≡ false → NoDeadWord (outs_of old masks) old
none_left old now masks changed ids o to e =
    no_dead old masks o (subst (λ (t : Bool). Clean old masks old.blocks t) e (blocks_end Bool (Clean old masks) old o.may_go_on.graph.graph changed to.on))
