-- A known call made direct is a step.
use Rattle.std.proofs.Common.{◌≡◌, ◌⊎◌, inl, inr, ℕ, Bool, true, false, List, [], ◌∷◌, Option, Some, refl, sym, ap, ◌∙◌, subst}
use Rattle.std.specs.Prelude.{not, map}
use Rattle.std.proofs.lemmas.Bool.{true≢false}
use Rattle.om_isa.specs.declared.instr.BrOp.TheVariants.{Bsr}
use Rattle.om_isa.specs.declared.instr.Instr.{Instr}
use Rattle.om_value.specs.declared.value.Place.{Place}
use Rattle.om_value.specs.declared.value.Value.{Value}
use Rattle.om_value.specs.declared.value.Value.TheVariants.{Code, Gp}
use Rattle.om_prog.specs.Act.{Plain, To, Word}
use Rattle.om_prog.specs.Values.{Values, no_values}
use Rattle.om_prog.specs.View.{ProgramView}
use Rattle.om_prog.specs.Valid.{IsProgram}
use Rattle.om_graph.specs.declared.op.Last.{Last}
use Rattle.om_graph.specs.declared.op.Last.TheVariants as last
use Rattle.om_graph.specs.View.{Block, GraphView, Has, ops_of, is_block, block_of, last_in, last_set, dropped}
use Rattle.om_graph.specs.Run.{words, block_words, last_words, next_word, op_word, graph_script, rev_onto}
use Rattle.om_graph.specs.Form.{Ordered, LastForm, is_address}
use Rattle.om_graph.specs.LeftIn.{ends_past, Keeps}
use Rattle.om_graph.specs.Rewritten.{each_word}
use Rattle.om_graph.specs.Whole.{IsWhole}
use Rattle.om_graph.specs.Index.{InReach}
use Rattle.om_graph.specs.Uses.{IsKnownCall}
use Rattle.om_graph.proofs.Labels.{append_right, in_all}
use Rattle.om_graph.proofs.Ends.{each_words}
use Rattle.om_graph.proofs.Kept.{has_split}
use Rattle.om_graph.proofs.Fetching.{found_has}
use Rattle.om_graph.proofs.Itself.{all_ordered, past_call, unique}
use Rattle.om_graph.proofs.Places.{placed}
use Rattle.om_graph.proofs.Blocks.{Laws, found_at}
use Rattle.om_graph.proofs.ValuesAt.{values_in, known_at}
use Rattle.om_graph.proofs.OfProgram.{words_in_place}
use Rattle.om_graph.proofs.Forms.{pairs_apart, whole_of}
use Rattle.om_graph.proofs.Whole.{blocks_placed}
use Rattle.om_passes.specs.AtPlaces.{set_at}
use Rattle.om_passes.specs.Step.{Onward, Step}
use Rattle.om_passes.proofs.Standings.{Becomes, stays, baseless, branch_baseless, bases_stay, pairs_same}
use Rattle.om_passes.specs.OneEdit.{MayGoOn}
use Rattle.om_passes.proofs.AtPlaces.{never_gone, set_else, IsSet, here, elsewhere, is_set}
use Rattle.om_passes.proofs.LastEdits.{last_words_are}
use Rattle.om_passes.proofs.OneEdit as edit
use Rattle.om_passes.proofs.OneBlock as one
use Rattle.om_passes.proofs.OneBlock.{new_there}
use Rattle.om_passes.proofs.EditedOnce.{words_edited, last_edited}
use Rattle.om_graph.proofs.Ends.{in_filter, one_block, ends_keep}
use Rattle.om_passes.proofs.KnownCalls.{known_call}
use Rattle.om_passes.proofs.Directing.{Directed, as_it_was, made_direct}
use Rattle.om_passes.proofs.Directing as direct
use Rattle.om_passes.proofs.Calls.{call_of, jump_of}

pub no_laws : {D : Type 0} (value : Block → List Word → List Word → D) (done : D) (enter : Block → D) → Laws D value done enter (λ w x y. Unit {0}) (λ x y. Unit {0})
no_laws value done enter = record { inner = λ b bf w x ws. tt; le_done = λ x. tt; flow_done = λ w x. tt; le_trans = λ x y z a b. tt; flow_le = λ w x y z a b. tt }

module _ (p : ProgramView) (prog : IsProgram p) (g : GraphView) (m : MayGoOn p g) (id : ℕ) (b : Block) (block : block_of g id ≡ Some b) (at q : Place) (i : Instr) (ra : ℕ)
    (k : IsKnownCall (block_words b) (record { at = at; act = Plain i }) ra q) (l : Last) (was : last_words b.last ≡ record { at = at; act = Plain i } ∷ [])
    (is : last_words l ≡ record { at = at; act = To Bsr ra q } ∷ []) (form : LastForm l) (onward : Onward p g (last_set g id l)) where
  abbrev call : Word
  call = record { at = at; act = Plain i }

  abbrev f : Word → Option Word
  f = set_at at (To Bsr ra q)

  abbrev new : GraphView
  new = last_set g id l

  whole : IsWhole p g
  whole = whole_of p prog g m.graph m.kept

  hb : Has g.blocks b
  hb = edit.here p prog g m.graph m.kept m.reach id b block

  ordered : Ordered (words g)
  ordered = all_ordered g.blocks (placed g (m.graph).graph (m.graph).form (words_in_place p prog g m.graph))

  in_block : Ordered (block_words b)
  in_block = (words_in_place p prog g m.graph).ordered b hb

  there : Has (block_words b) call
  there = append_right (map (op_word (ops_of b)) (ops_of b)) (last_words b.last) call (subst (λ (z : List Word). Has z call) (sym was) (inl refl))

  blocks : map block_words new.blocks ≡ map (λ c. each_word f (block_words c)) g.blocks
  blocks =
      words_edited g new b (record b { last = l }) (one.last_one g (m.graph).graph id b block l) f at ordered (λ w n. set_else at (To Bsr ra q) w n) call there refl
      (last_words_are p b (record b { last = l }) call (To Bsr ra q) refl refl refl was is in_block (λ y h. (m.graph).form.ops b y hb h) form)

  all : words new ≡ each_word f (words g)
  all = each_words f g.blocks new.blocks blocks

  in_place : (w u : Word) → f w ≡ Some u → u.at ≡ w.at
  in_place w u e = by_case (is_set at (To Bsr ra q) w u e)
    where
      by_case : IsSet at (To Bsr ra q) w u → u.at ≡ w.at
      by_case (here a c) = ap (λ (x : Word). x.at) c
      by_case (elsewhere a c) = ap (λ (x : Word). x.at) c

  addresses : (w u : Word) → f w ≡ Some u → is_address u.act ≡ true → is_address w.act ≡ true
  addresses w u e h = by_case (is_set at (To Bsr ra q) w u e)
    where
      by_case : IsSet at (To Bsr ra q) w u → is_address w.act ≡ true
      by_case (here a c) = absurd (true≢false (sym h ∙ ap (λ (x : Word). is_address x.act) c))
      by_case (elsewhere a c) = ap (λ (x : Word). is_address x.act) (sym c) ∙ h

  word : (r : Place) (w : Word) → next_word (words g) r ≡ Some w → (u : Word) × (f w ≡ Some u) × Directed (known_at (graph_script p g) g.blocks r) w u
  word r w e = (_, refl, by_case (is_set at (To Bsr ra q) w _ refl))
    where
      direct_word : {u : Word} → w.at ≡ at → u ≡ record { at = w.at; act = To Bsr ra q } → Directed (known_at (graph_script p g) g.blocks r) w u
      direct_word {u} a c =
          let same : w ≡ call = unique (words g) call w ordered (in_all g.blocks b call hb there) (found_has (words g) r w e) a in
          let x = found_at Values (values_in (graph_script p g)) no_values (λ c. no_values) (λ w x y. Unit {0}) (λ x y. Unit {0}) (no_laws (values_in (graph_script p g)) no_values (λ c. no_values)) g.blocks r w (blocks_placed p g whole) e in
          let inside = has_split x.before w x.rest (block_words x.block) x.splits in
          let is_b = one_block g.blocks x.block b w ordered x.among hb inside (subst (λ (v : Word). Has (block_words b) v) (sym same) there) in
          let n = known_call (graph_script p g) (block_words b) x.before x.rest call ra q in_block (ap (λ (v : Word). rev_onto x.before (v ∷ x.rest)) (sym same) ∙ x.splits ∙ ap block_words is_b) k in
          let v = x.here in
          made_direct ra k.rb k.hint q (ap (λ (v : Word). v.act) same ∙ k.jumps) (moved_to n (ap (λ (y : Values). y k.rb) v)) c
        where
          moved_to : {a d : Option Value} → (a ≡ Some (Code q)) ⊎ ((t : ℕ) × (a ≡ Some (Gp t))) → d ≡ a → (d ≡ Some (Code q)) ⊎ ((t : ℕ) × (d ≡ Some (Gp t)))
          moved_to (inl x) e = inl (e ∙ x)
          moved_to (inr x) e = inr (x.0, e ∙ x.1)

      by_case : {u : Word} → IsSet at (To Bsr ra q) w u → Directed (known_at (graph_script p g) g.blocks r) w u
      by_case (here a c) = direct_word a c
      by_case (elsewhere a c) = as_it_was c

  -- what goes past a pair still does: the call went by a register
  past : (x pair : Block) (c : Place) → Has g.blocks x → ends_past c pair.label x.last ≡ true → ends_past c pair.label (last_in id l x).last ≡ true
  past x pair c h e = by_id (is_block id x) refl
    where
      never : (v : Word) → call ∷ [] ≡ v ∷ [] → (r : ℕ) (to : Place) → v.act ≡ To Bsr r to → ⊥
      never v e r to a =
          let s : call ≡ v = cc in
          let d : Plain i ≡ To Bsr r to = ap (λ (w : Word). w.act) s ∙ a in
          cc

      is_b : is_block id x ≡ true → b ≡ x
      is_b t = by_case (one.still_there g (m.graph).graph id b block x h)
        where
          by_case : (b ≡ x) ⊎ Has (dropped g id).blocks x → b ≡ x
          by_case (inl s) = s
          by_case (inr k) = let n = (in_filter (λ c. not (is_block id c)) g.blocks x k).1 in absurd (true≢false (sym n ∙ ap not t))

      by_id : (t : Bool) → is_block id x ≡ t → ends_past c pair.label (last_in id l x).last ≡ true
      by_id false t = rw t e
      by_id true t =
          let s = is_b t in
          let y = past_call c pair.label x.last e in
          let e1 : last_words b.last ≡ last_words x.last = ap (λ (z : Block). last_words z.last) s in
          absurd (never (record { at = c; act = To Bsr y.ra y.to }) (sym was ∙ e1 ∙ y.word) y.ra y.to refl)

  pub call_keeps : Keeps p g new
  call_keeps =
      ends_keep p g new (record { counts = refl; roots = refl; tables = refl }) (direct.K p g new whole ordered f in_place all word) _ _ (direct.Old p g new whole ordered f in_place all word) _
      (direct.directing p g new whole ordered f in_place all word) f (λ c. true) (λ c. (last_in id l c).last)
      (last_edited g id l f blocks (λ w u h e. in_place w u e) (λ w u h e a. addresses w u e a)) ordered (pairs_apart p prog new onward.goes_on.graph) (λ input n c clean r c' h l. refl)
      (λ x pair c h t hp o e. past x pair c h e)

  becomes : (w v : Word) → Has (words g) w → f w ≡ Some v → Becomes p g w v
  becomes w v h e = by_case (is_set at (To Bsr ra q) w v e)
    where
      by_case : IsSet at (To Bsr ra q) w v → Becomes p g w v
      by_case (here a c) = baseless (branch_baseless g v Bsr ra q (ap (λ (x : Word). x.act) c))
      by_case (elsewhere a c) = stays (sym c)

  pub call_step : Step p g new
  call_step = record {
    rewrite = record {
      keeps = call_keeps;
      goes_on = onward.goes_on;
      lighter = onward.lighter;
      bases = bases_stay p prog g new m.graph f all call_keeps onward.goes_on.graph becomes;
    };
    pairs = pairs_same p prog g new m.graph f all (λ w v h e. in_place w v e) (λ w h e. never_gone at (To Bsr ra q) w e);
  }

-- a call with a link, and without
module _ (p : ProgramView) (prog : IsProgram p) (g : GraphView) (m : MayGoOn p g) (id : ℕ) (b : Block) (block : block_of g id ≡ Some b) (at q : Place) (i : Instr) (ra : ℕ)
    (k : IsKnownCall (block_words b) (record { at = at; act = Plain i }) ra q) (in_reach : InReach g.counts at q) where
  pub direct_call : b.last ≡ last.CallBy at i → Step p g (last_set g id (last.Call at Bsr ra q))
  direct_call e =
      let o = call_of p prog g m.graph m.kept m.reach id b block at q q i ra k (inl refl) in_reach e in
      call_step p prog g m id b block at q i ra k (last.Call at Bsr ra q) (ap last_words e) refl (new_form o) o
    where
      new_form : Onward p g (last_set g id (last.Call at Bsr ra q)) → LastForm (last.Call at Bsr ra q)
      new_form o =
          (o.goes_on.graph).form.lasts (record b { last = last.Call at Bsr ra q })
          (new_there (one.last_one g (m.graph).graph id b block (last.Call at Bsr ra q)))

  pub direct_jump : b.last ≡ last.JumpBy at i → Step p g (last_set g id (last.Br at Bsr ra q))
  direct_jump e =
      let o = jump_of p prog g m.graph m.kept m.reach id b block at q q i ra k (inl refl) in_reach e in
      call_step p prog g m id b block at q i ra k (last.Br at Bsr ra q) (ap last_words e) refl (new_form o) o
    where
      new_form : Onward p g (last_set g id (last.Br at Bsr ra q)) → LastForm (last.Br at Bsr ra q)
      new_form o =
          (o.goes_on.graph).form.lasts (record b { last = last.Br at Bsr ra q })
          (new_there (one.last_one g (m.graph).graph id b block (last.Br at Bsr ra q)))
