-- A call past the pair of a kept block is a step.
use Rattle.std.proofs.Common.{◌≡◌, ◌⊎◌, inl, inr, ◌+◌, ℕ, Bool, true, false, ◌&&◌, ◌||◌, ◌==◌, List, [], ◌∷◌, Option, Some, refl, sym, ap, ◌∙◌, subst, arith}
use Rattle.std.specs.Prelude.{not, map}
use Rattle.std.proofs.lemmas.Bool.{true≢false, eq-eqb}
use Rattle.om_isa.specs.declared.instr.BrOp.TheVariants.{Bsr}
use Rattle.om_value.specs.declared.value.Place.{Place}
use Rattle.om_value.specs.declared.value.Value.TheVariants.{Gp}
use Rattle.om_value.specs.Same.{place_eq}
use Rattle.om_prog.specs.Act.{GpHi, GpLo, To, Word}
use Rattle.om_prog.specs.Facts.{Fact, Any, Table, Unknown, Holds, IsFact, changed_by, fact_behind}
use Rattle.om_prog.specs.Step.{SymState, read_reg, next_place}
use Rattle.om_prog.specs.View.{ProgramView}
use Rattle.om_prog.specs.Valid.{IsProgram}
use Rattle.om_prog.proofs.Facts.{behind_holds}
use Rattle.om_graph.specs.declared.op.Last.{Last}
use Rattle.om_graph.specs.declared.op.Last.TheVariants as last
use Rattle.om_graph.specs.View.{Block, GraphView, Has, ops_of, is_block, block_of, last_in, last_set, dropped}
use Rattle.om_graph.specs.Run.{words, block_words, last_words, next_word, op_word, rev_onto, graph_script}
use Rattle.om_graph.specs.Form.{Ordered, LastForm, is_address}
use Rattle.om_graph.specs.LeftIn.{ends_past, in_pair, goes_past, holds_word, passes, Keeps}
use Rattle.om_graph.specs.Rewritten.{each_word}
use Rattle.om_graph.specs.Whole.{IsWhole}
use Rattle.om_graph.specs.Checks.{GpChecked}
use Rattle.om_graph.specs.Index.{InReach}
use Rattle.om_graph.specs.Landing.{is_opening_pair}
use Rattle.om_graph.specs.Uses.{IsClosedPair, IsClosedOpening}
use Rattle.om_graph.specs.OfProgram.{MayBePassed}
use Rattle.om_graph.proofs.Labels.{append_right, in_all, self_eq, equal_places}
use Rattle.om_graph.proofs.Compose.{has_kept}
use Rattle.om_graph.proofs.Ends.{each_words}
use Rattle.om_graph.proofs.Kept.{has_split}
use Rattle.om_graph.proofs.Itself.{all_ordered, past_call}
use Rattle.om_graph.proofs.Places.{placed}
use Rattle.om_graph.proofs.Blocks.{found_at}
use Rattle.om_graph.proofs.GpFacts.{fact_in, fact_at}
use Rattle.om_graph.proofs.OfProgram.{words_in_place}
use Rattle.om_graph.proofs.Forms.{opening_is, pairs_apart, whole_of}
use Rattle.om_graph.proofs.Whole.{KnownHere, knowing, blocks_placed}
use Rattle.om_passes.specs.AtPlaces.{set_at}
use Rattle.om_passes.specs.Blocks.{OneBlock}
use Rattle.om_graph.specs.Weight.{opens}
use Rattle.om_passes.specs.Step.{Onward, Step}
use Rattle.om_passes.proofs.Standings.{Becomes, stays, baseless, branch_baseless, bases_stay, pairs_same}
use Rattle.om_passes.specs.OneEdit.{MayGoOn}
use Rattle.om_passes.proofs.AtPlaces.{never_gone, set_else, IsSet, here, elsewhere, is_set}
use Rattle.om_passes.proofs.Edits.{first_in, second_in}
use Rattle.om_passes.proofs.LastEdits.{last_words_are}
use Rattle.om_passes.proofs.OneEdit as edit
use Rattle.om_passes.proofs.OneBlock as one
use Rattle.om_passes.proofs.OneBlock.{new_block, new_there}
use Rattle.om_passes.proofs.EditedOnce.{words_edited, last_edited}
use Rattle.om_graph.proofs.Ends.{in_filter, found_some, one_block, ends_keep}
use Rattle.om_passes.proofs.KnownCalls.{back_onto, turned, fronts_same}
use Rattle.om_passes.proofs.CallStep.{no_laws}
use Rattle.om_passes.proofs.BehindPairs.{falls}
use Rattle.om_passes.proofs.Openings.{may_be_passed}
use Rattle.om_passes.proofs.Calls.{not_twice, past_of, branch_past_of}
use Rattle.om_passes.proofs.Entering as enter

-- where a run comes to a word, it holds the fact in front of it
pub told_there :
    (p : ProgramView) (g : GraphView) (whole : IsWhole p g) (ordered : Ordered (words g)) (facts : Place → Fact) (checked : GpChecked (graph_script p g) facts g) (b : Block) (hb : Has g.blocks b) →
    Ordered (block_words b) → (bf ws : List Word) (w : Word) (t : ℕ) → rev_onto bf (w ∷ ws) ≡ block_words b → IsFact (fact_behind (graph_script p g) (facts b.label) bf) t → (s : SymState) → KnownHere p g whole facts checked s →
    next_word (words g) s.place ≡ Some w → read_reg s.regs 29 ≡ Gp t
told_there p g whole ordered facts checked b hb in_block bf ws w t r fact s i e =
    let c = graph_script p g in
    let y = found_at Fact (fact_in c facts) Unknown (λ b. Unknown) (λ w x y. Unit {0}) (λ x y. Unit {0}) (no_laws (fact_in c facts) Unknown (λ b. Unknown)) g.blocks s.place w (blocks_placed p g whole) e in
    let inside = has_split y.before w y.rest (block_words y.block) y.splits in
    let is_b = one_block g.blocks y.block b w ordered y.among hb inside (has_split bf w ws (block_words b) r) in
    let tx = turned y.before in
    let ty = turned bf in
    let ex = sym (tx.same (w ∷ y.rest)) ∙ y.splits ∙ ap block_words is_b in
    let ey = sym (ty.same (w ∷ ws)) ∙ r in
    let fronts = fronts_same tx.front ty.front y.rest ws w (subst (λ (l : List Word). Ordered l) (sym ex) in_block) (ex ∙ sym ey) in
    let same : y.before ≡ bf = tx.back ∙ ap (λ (l : List Word). back_onto l []) fronts ∙ sym ty.back in
    let known : Holds (fact_at c facts g.blocks s.place) s = i.0.holds in
    let at : Holds (changed_by c (facts b.label) bf) s =
    subst (λ (l : List Word). Holds (changed_by c (facts b.label) l) s) same
    (subst (λ (x : Block). Holds (changed_by c (facts x.label) y.before) s) is_b (subst (λ (f : Fact). Holds f s) y.here known)) in
    is_gp (fact_behind c (facts b.label) bf) fact (behind_holds c (facts b.label) bf s at)
  where
    is_gp : (f : Fact) → IsFact f t → Holds f s → read_reg s.regs 29 ≡ Gp t
    is_gp Any a h = absurd h
    is_gp (Table u) a h = h ∙ ap Gp a
    is_gp Unknown a h = absurd a

or_two : (a b : Bool) → b ≡ true → (a || b) ≡ true
or_two true b e = refl
or_two false b e = e

or_one : (a b : Bool) → a ≡ true → (a || b) ≡ true
or_one true b e = refl
or_one false b e = absurd (true≢false (sym e))

first_of_pair : (q : Place) → in_pair q q ≡ true
first_of_pair q = let o = eq-eqb q.obj q.obj refl in let f = or_one (q.off == q.off) (q.off == q.off + 4) (eq-eqb q.off q.off refl) in rw (o, f) refl

second_of_pair : (q : Place) → in_pair q (next_place q) ≡ true
second_of_pair q = let o = eq-eqb q.obj q.obj refl in let f = or_two (q.off + 4 == q.off) (q.off + 4 == q.off + 4) (eq-eqb (q.off + 4) (q.off + 4) refl) in rw (o, f) refl

module _ (p : ProgramView) (prog : IsProgram p) (g : GraphView) (m : MayGoOn p g) (id : ℕ) (b : Block) (block : block_of g id ≡ Some b) (at : Place) (ra : ℕ) (n : Block) (hn : Has g.blocks n)
    (o : IsClosedOpening g n) (link : ra ≡ 29 → ⊥) (l : Last) (was : last_words b.last ≡ record { at = at; act = To Bsr ra n.label } ∷ [])
    (is : last_words l ≡ record { at = at; act = To Bsr ra (next_place (next_place n.label)) } ∷ []) (form : LastForm l) (ends : ends_past at n.label l ≡ true) (onward : Onward p g (last_set g id l))
    (facts : Place → Fact) (checked : GpChecked (graph_script p g) facts g) (bf ws : List Word) (stands : rev_onto bf (record { at = at; act = To Bsr ra n.label } ∷ ws) ≡ block_words b)
    (fact : IsFact (fact_behind (graph_script p g) (facts b.label) bf) ((graph_script p g).table n.label.obj)) where
  abbrev q : Place
  q = n.label

  abbrev far : Place
  far = next_place (next_place q)

  abbrev call : Word
  call = record { at = at; act = To Bsr ra q }

  abbrev f : Word → Option Word
  f = set_at at (To Bsr ra far)

  abbrev new : GraphView
  new = last_set g id l

  pair : IsClosedPair g n n.label (next_place n.label)
  pair = o.pair

  abbrev high : Word
  high = record { at = q; act = GpHi 29 pair.rb pair.base }

  abbrev low : Word
  low = record { at = next_place q; act = GpLo 29 29 q }

  whole : IsWhole p g
  whole = whole_of p prog g m.graph m.kept

  hb : Has g.blocks b
  hb = edit.here p prog g m.graph m.kept m.reach id b block

  ordered : Ordered (words g)
  ordered = all_ordered g.blocks (placed g (m.graph).graph (m.graph).form (words_in_place p prog g m.graph))

  in_block : Ordered (block_words b)
  in_block = (words_in_place p prog g m.graph).ordered b hb

  there : Has (block_words b) call
  there = append_right (map (op_word (ops_of b)) (ops_of b)) (last_words b.last) call (subst (λ (z : List Word). Has z call) (sym was) (inl refl))

  high_in : Has (block_words n) high
  high_in = first_in (block_words n) pair.mid high low pair.stands

  low_in : Has (block_words n) low
  low_in = second_in (block_words n) pair.mid high low pair.stands

  blocks : map block_words new.blocks ≡ map (λ c. each_word f (block_words c)) g.blocks
  blocks =
      words_edited g new b (record b { last = l }) (one.last_one g (m.graph).graph id b block l) f at ordered (λ w n. set_else at (To Bsr ra far) w n) call there refl
      (last_words_are p b (record b { last = l }) call (To Bsr ra far) refl refl refl was is in_block (λ y h. (m.graph).form.ops b y hb h) form)

  all : words new ≡ each_word f (words g)
  all = each_words f g.blocks new.blocks blocks

  passed : MayBePassed p n.label
  passed = may_be_passed p prog g m.graph n hn o

  -- the block of the pair is another, and stays
  n_stays : Has new.blocks n
  n_stays = by_case (new_block back n hn)
    where
      step : OneBlock g.blocks new.blocks b (record b { last = l })
      step = one.last_one g (m.graph).graph id b block l

      back : OneBlock new.blocks g.blocks (record b { last = l }) b
      back = record { before = step.before; after = step.after; was = step.now; now = step.was }

      by_case : (b ≡ n) ⊎ Has new.blocks n → Has new.blocks n
      by_case (inl e) =
          let fall = falls p prog g m.graph n.label passed n hn refl in
          let none : [] ≡ call ∷ [] = ap last_words (sym fall) ∙ ap (λ (x : Block). last_words x.last) (sym e) ∙ was in
          cc
      by_case (inr h) = h

  b_there : Has new.blocks (record b { last = l })
  b_there = new_there (one.last_one g (m.graph).graph id b block l)

  passing : (x : Place) → in_pair q x ≡ true → holds_word x n ≡ true → passes new at x ≡ true
  passing x inside holds =
      let goes : goes_past new at q x ≡ true = rw inside (found_some (λ c. ends_past at q c.last) new.blocks (record b { last = l }) b_there ends) in
      let opening = o.opening in
      found_some (λ c. c.opening && holds_word x c && goes_past new at c.label x) new.blocks n n_stays (rw (opening, holds, goes) refl)

  in_place : (w u : Word) → f w ≡ Some u → u.at ≡ w.at
  in_place w u e = by_case (is_set at (To Bsr ra far) w u e)
    where
      by_case : IsSet at (To Bsr ra far) w u → u.at ≡ w.at
      by_case (here a c) = ap (λ (x : Word). x.at) c
      by_case (elsewhere a c) = ap (λ (x : Word). x.at) c

  addresses : (w u : Word) → f w ≡ Some u → is_address u.act ≡ true → is_address w.act ≡ true
  addresses w u e h = by_case (is_set at (To Bsr ra far) w u e)
    where
      by_case : IsSet at (To Bsr ra far) w u → is_address w.act ≡ true
      by_case (here a c) = absurd (true≢false (sym h ∙ ap (λ (x : Word). is_address x.act) c))
      by_case (elsewhere a c) = ap (λ (x : Word). is_address x.act) (sym c) ∙ h

  -- the call went past no opening pair: the place behind one begins none
  past : (x other : Block) (c : Place) → Has g.blocks x → Has g.blocks other → other.opening ≡ true → ends_past c other.label x.last ≡ true → ends_past c other.label (last_in id l x).last ≡ true
  past x other c h ho op e = by_id (is_block id x) refl
    where
      is_b : is_block id x ≡ true → b ≡ x
      is_b t = by_case (one.still_there g (m.graph).graph id b block x h)
        where
          by_case : (b ≡ x) ⊎ Has (dropped g id).blocks x → b ≡ x
          by_case (inl s) = s
          by_case (inr k) = let n = (in_filter (λ c. not (is_block id c)) g.blocks x k).1 in absurd (true≢false (sym n ∙ ap not t))

      goes_to : (v : Word) → call ∷ [] ≡ v ∷ [] → (r : ℕ) (to : Place) → v.act ≡ To Bsr r to → q ≡ to
      goes_to v e r to a =
          let s : call ≡ v = cc in
          let d : To Bsr ra q ≡ To Bsr r to = ap (λ (w : Word). w.act) s ∙ a in
          cc

      by_id : (t : Bool) → is_block id x ≡ t → ends_past c other.label (last_in id l x).last ≡ true
      by_id false t = rw t e
      by_id true t =
          let s = is_b t in
          let y = past_call c other.label x.last e in
          let e1 : last_words b.last ≡ last_words x.last = ap (λ (z : Block). last_words z.last) s in
          let to = goes_to (record { at = c; act = To Bsr y.ra y.to }) (sym was ∙ e1 ∙ y.word) y.ra y.to refl in
          let off = ap (λ (z : Place). z.off) to ∙ y.off in
          let behind : q ≡ next_place (next_place other.label) = equal_places q (next_place (next_place other.label)) (ap (λ (z : Place). z.obj) to ∙ y.object) (omega (arith, off)) in
          absurd (not_twice p other.label (opening_is p prog g m.graph other ho op) (subst (λ (z : Place). is_opening_pair p z ≡ true) behind passed.opening))

  pub past_keeps : Keeps p g new
  past_keeps =
      ends_keep p g new (record { counts = refl; roots = refl; tables = refl }) _ _ _ (KnownHere p g whole facts checked) _
      (enter.entering p g new whole ordered at ra q link pair.rb pair.base (in_all g.blocks b call hb there) (in_all g.blocks n high hn high_in) (in_all g.blocks n low hn low_in) all
      (passing q (first_of_pair q) (has_kept (block_words n) high high_in)) (passing (next_place q) (second_of_pair q) (has_kept (block_words n) low low_in))
      (KnownHere p g whole facts checked) (knowing p g whole facts checked) (λ s k. k.1)
      (λ s i e. told_there p g whole ordered facts checked b hb in_block bf ws call ((graph_script p g).table q.obj) stands fact s i e))
      f (λ c. true) (λ c. (last_in id l c).last)
      (last_edited g id l f blocks (λ w u h e. in_place w u e) (λ w u h e a. addresses w u e a)) ordered (pairs_apart p prog new onward.goes_on.graph) (λ input k c clean r c' h e. refl)
      (λ x other c h t ho op e. past x other c h ho op e)

  becomes : (w v : Word) → Has (words g) w → f w ≡ Some v → Becomes p g w v
  becomes w v h e = by_case (is_set at (To Bsr ra far) w v e)
    where
      by_case : IsSet at (To Bsr ra far) w v → Becomes p g w v
      by_case (here a c) = baseless (branch_baseless g v Bsr ra far (ap (λ (x : Word). x.act) c))
      by_case (elsewhere a c) = stays (sym c)

  pub past_step : Step p g new
  past_step = record {
    rewrite = record {
      keeps = past_keeps;
      goes_on = onward.goes_on;
      lighter = onward.lighter;
      bases = bases_stay p prog g new m.graph f all past_keeps onward.goes_on.graph becomes;
    };
    pairs = pairs_same p prog g new m.graph f all (λ w v h e. in_place w v e) (λ w h e. never_gone at (To Bsr ra far) w e);
  }

-- with a link register, and without
module _ (p : ProgramView) (prog : IsProgram p) (g : GraphView) (m : MayGoOn p g) (id : ℕ) (b : Block) (block : block_of g id ≡ Some b) (at : Place) (ra : ℕ) (n : Block) (hn : Has g.blocks n)
    (o : IsClosedOpening g n) (link : ra ≡ 29 → ⊥) (in_reach : InReach g.counts at (next_place (next_place n.label))) (facts : Place → Fact) (checked : GpChecked (graph_script p g) facts g)
    (bf ws : List Word) (stands : rev_onto bf (record { at = at; act = To Bsr ra n.label } ∷ ws) ≡ block_words b)
    (fact : IsFact (fact_behind (graph_script p g) (facts b.label) bf) ((graph_script p g).table n.label.obj)) where
  opened : opens g.blocks n.label ≡ true
  opened = let a = o.opening in let e = self_eq n.label in found_some (λ b. b.opening && place_eq b.label n.label) g.blocks n hn (rw (a, e) refl)

  ends_call : ends_past at n.label (last.Call at Bsr ra (next_place (next_place n.label))) ≡ true
  ends_call = let a = self_eq at in let b = eq-eqb n.label.obj n.label.obj refl in let d = eq-eqb ((n.label.off + 4) + 4) (n.label.off + 8) (omega arith) in rw (a, b, d) refl

  ends_branch : ends_past at n.label (last.Br at Bsr ra (next_place (next_place n.label))) ≡ true
  ends_branch = let a = self_eq at in let b = eq-eqb n.label.obj n.label.obj refl in let d = eq-eqb ((n.label.off + 4) + 4) (n.label.off + 8) (omega arith) in rw (a, b, d) refl

  form_of : (l : Last) → Onward p g (last_set g id l) → LastForm l
  form_of l w = (w.goes_on.graph).form.lasts (record b { last = l }) (new_there (one.last_one g (m.graph).graph id b block l))

  pub enter_call : b.last ≡ last.Call at Bsr ra n.label → Step p g (last_set g id (last.Call at Bsr ra (next_place (next_place n.label))))
  enter_call e =
      let w = past_of p prog g m.graph m.kept m.reach id b block at n.label ra (may_be_passed p prog g m.graph n hn o) opened in_reach e in
      past_step p prog g m id b block at ra n hn o link (last.Call at Bsr ra (next_place (next_place n.label))) (ap last_words e) refl (form_of _ w) ends_call w facts checked bf ws stands fact

  pub enter_branch : b.last ≡ last.Br at Bsr ra n.label → Step p g (last_set g id (last.Br at Bsr ra (next_place (next_place n.label))))
  enter_branch e =
      let w = branch_past_of p prog g m.graph m.kept m.reach id b block at n.label ra (may_be_passed p prog g m.graph n hn o) opened in_reach e in
      past_step p prog g m id b block at ra n hn o link (last.Br at Bsr ra (next_place (next_place n.label))) (ap last_words e) refl (form_of _ w) ends_branch w facts checked bf ws stands fact
