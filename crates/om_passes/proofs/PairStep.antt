-- A closed pair gone is a step.
use Rattle.std.proofs.Common.{◌≡◌, ◌⊎◌, inl, inr, ◌≤◌, ◌+◌, ℕ, Bool, true, false, cond, List, [], ◌∷◌, ◌++◌, Option, Some, None, refl, sym, ap, ◌∙◌, subst, arith}
use Rattle.std.specs.Prelude.{map, option_and_then}
use Rattle.std.proofs.lemmas.Bool.{true≢false}
use Rattle.om_value.specs.declared.value.Place.{Place}
use Rattle.om_value.specs.declared.value.Value.TheVariants.{Gp}
use Rattle.om_prog.specs.Act as act
use Rattle.om_prog.specs.Act.{Word, Script}
use Rattle.om_prog.specs.Step.{SymState, read_reg}
use Rattle.om_prog.specs.Flow.{act_jumps}
use Rattle.om_prog.specs.Facts.{Fact, Any, Table, Unknown, Holds, IsFact, changed_by, fact_behind}
use Rattle.om_prog.specs.View.{ProgramView}
use Rattle.om_prog.specs.Valid.{IsProgram}
use Rattle.om_prog.proofs.Facts.{behind_holds}
use Rattle.om_graph.specs.View.{Block, GraphView, Has}
use Rattle.om_graph.specs.Run.{words, all_words, block_words, next_word, from_place, rev_onto, graph_script}
use Rattle.om_graph.specs.Form.{Ordered}
use Rattle.om_graph.specs.Whole.{IsWhole}
use Rattle.om_graph.specs.Kept.{IsKeptLanding}
use Rattle.om_graph.specs.Checks.{GpChecked}
use Rattle.om_graph.specs.Uses.{Between, IsClosedPair}
use Rattle.om_graph.proofs.Labels.{append_left, append_right, in_all, has_label, least_after, true_is}
use Rattle.om_graph.proofs.Kept.{has_split}
use Rattle.om_graph.proofs.Fetching.{from_true}
use Rattle.om_graph.proofs.Places.{jumps_last}
use Rattle.om_graph.proofs.Placed.{IsLabel, JumpsLast}
use Rattle.om_graph.proofs.Blocks.{found_at}
use Rattle.om_graph.proofs.GpFacts.{fact_in, fact_at}
use Rattle.om_graph.proofs.Whole.{KnownHere, knowing, blocks_placed, lands, in_kept, entry_label}
use Rattle.om_passes.proofs.EditedOnce.{all_append}
use Rattle.om_graph.proofs.Ends.{one_block}
use Rattle.om_passes.proofs.MasksStay.{split_at}
use Rattle.om_passes.proofs.CallStep.{no_laws}
use Rattle.om_passes.proofs.Dropping.{Inside}
use Rattle.om_graph.specs.declared.op.OpKind.TheVariants as op
use Rattle.om_graph.specs.View.{Node, delete_in, deleted}
use Rattle.om_graph.specs.Form.{is_address}
use Rattle.om_graph.specs.LeftIn.{Keeps}
use Rattle.om_graph.specs.Rewritten.{each_word}
use Rattle.om_graph.specs.OfProgram.{IsLastWriter, CameFromLoad}
use Rattle.om_graph.proofs.Ends.{each_words}
use Rattle.om_graph.proofs.Itself.{all_ordered, unique}
use Rattle.om_graph.proofs.Places.{placed}
use Rattle.om_graph.proofs.OfProgram.{words_in_place}
use Rattle.om_graph.proofs.Forms.{pairs_apart, whole_of}
use Rattle.om_passes.specs.AtPlaces.{gone_at}
use Rattle.om_graph.specs.Rewritten.{Edited}
use Rattle.om_passes.specs.Step.{Onward, Step}
use Rattle.om_passes.specs.Keeping.{IsLess, IsOneOf}
use Rattle.om_passes.proofs.Keeping.{pair_dropped}
use Rattle.om_passes.proofs.Standings.{stays, bases_stay, less_by}
use Rattle.om_passes.specs.OneEdit.{MayGoOn, IsOp, word_of}
use Rattle.om_passes.proofs.AtPlaces.{gone_here, gone_else, IsGone, gone, left, is_gone}
use Rattle.om_passes.proofs.OneEdit as edit
use Rattle.om_passes.proofs.OneBlock.{deleted_one}
use Rattle.om_passes.proofs.PairEdits as edits
use Rattle.om_passes.proofs.EditedOnce.{edited_once, then_change, edited_twice}
use Rattle.om_graph.proofs.Ends.{all_stay, ends_keep}
use Rattle.om_passes.proofs.DeadStep.{gone_keeps}
use Rattle.om_passes.proofs.Through.{between_order}
use Rattle.om_passes.proofs.NoLoad.{no_load}
use Rattle.om_passes.proofs.Dropping.{dropping}
use Rattle.om_passes.proofs.KnownCalls.{back_onto, turned, fronts_same}
use Rattle.om_passes.proofs.Edits.{first_in, second_in}
use Rattle.om_passes.proofs.Dropping.{after_off}

assoc : {A : Type 0} (xs ys zs : List A) → xs ++ (ys ++ zs) ≡ (xs ++ ys) ++ zs
assoc [] ys zs = refl
assoc {A = A} (x ∷ xs) ys zs = ap (λ (l : List A). x ∷ l) (assoc xs ys zs)

in_blocks : (bs : List Block) (b : Block) → Has bs b → (before after : List Block) × (bs ≡ before ++ b ∷ after)
in_blocks [] b h = absurd h
in_blocks (c ∷ bs) b (inl e) = ([], bs, ap (λ (x : Block). x ∷ bs) e)
in_blocks (c ∷ bs) b (inr h) = let r = in_blocks bs b h in (c ∷ r.0, r.1, ap (λ (l : List Block). c ∷ l) r.2)

-- words of a block stand among all as they stand in it
among_all : (bs : List Block) (b : Block) (mid : List Word) (x y : Word) → Has bs b → Between (block_words b) x mid y → Between (all_words bs) x mid y
among_all bs b mid x y h s =
    let r = in_blocks bs b h in
    let front = all_words r.0 in
    let back = all_words r.1 in (
      front ++ s.0,
      s.1 ++ back,
      ap all_words r.2 ∙ all_append r.0 (b ∷ r.1) ∙ ap (λ (l : List Word). front ++ (l ++ back)) s.2 ∙ ap (λ (l : List Word). front ++ l) (sym (assoc (s.0 ++ x ∷ mid) (y ∷ s.1) back))
          ∙ assoc front (s.0 ++ x ∷ mid) (y ∷ (s.1 ++ back)) ∙ ap (λ (l : List Word). l ++ y ∷ (s.1 ++ back)) (assoc front s.0 (x ∷ mid)),
    )

some_from : (ws : List Word) (q : Place) (x : Word) → Has ws x → from_place q x ≡ true → next_word ws q ≡ None → ⊥
some_from [] q x h f e = h
some_from (y ∷ ws) q x h f e = by_from (from_place q y) refl e h (some_from ws q x)
  where
    by_from : (t : Bool) → from_place q y ≡ t → cond t (Some y) (next_word ws q) ≡ None → Has (y ∷ ws) x → (Has ws x → from_place q x ≡ true → next_word ws q ≡ None → ⊥) → ⊥
    by_from true t e h i = cc
    by_from false t e (inl s) i = true≢false (sym f ∙ ap (from_place q) (sym s) ∙ t)
    by_from false t e (inr m) i = i m f e

module _ (p : ProgramView) (g : GraphView) (whole : IsWhole p g) (ordered : Ordered (words g)) (b : Block) (hb : Has g.blocks b) (in_block : Ordered (block_words b)) (hi lo : Place)
    (pair : IsClosedPair g b hi lo) where
  abbrev high : Word
  high = record { at = hi; act = act.GpHi 29 pair.rb pair.base }

  abbrev low : Word
  low = record { at = lo; act = act.GpLo 29 29 hi }

  abbrev K : Place → Type 0
  K = IsKeptLanding g

  pub stands_all : Between (words g) high pair.mid low
  stands_all = among_all g.blocks b pair.mid high low hb pair.stands

  high_in : Has (block_words b) high
  high_in = first_in (block_words b) pair.mid high low pair.stands

  low_in : Has (block_words b) low
  low_in = second_in (block_words b) pair.mid high low pair.stands

  mid_in : (w : Word) → Has pair.mid w → Has (block_words b) w
  mid_in w h = in_between pair.stands
    where
      in_between : Between (block_words b) high pair.mid low → Has (block_words b) w
      in_between s = subst (λ (l : List Word). Has l w) (sym s.2) (append_left (s.0 ++ high ∷ pair.mid) (low ∷ s.1) w (append_right s.0 (high ∷ pair.mid) w (inr h)))

  object : (w : Word) → Has (block_words b) w → w.at.obj ≡ b.label.obj
  object w h = (whole.places.words b w hb h).object

  pub one_text : lo.obj ≡ hi.obj
  one_text = object low low_in ∙ sym (object high high_in)

  pub mid_text : (w : Word) → Has pair.mid w → w.at.obj ≡ hi.obj
  mid_text w h = object w (mid_in w h) ∙ sym (object high high_in)

  -- no block begins between the halves
  pub no_label : (q : Place) → IsLabel g.blocks q → Inside hi lo q → ⊥
  no_label q (inr e) i =
      some_from (words g) q low (in_all g.blocks b low hb low_in) (from_true q low (one_text ∙ sym i.object) i.upto) e
  no_label q (inl n) i =
      let l = (whole.places.words b high hb high_in).after in
      let a = i.above in
      let r = least_after g.labels b.label q whole.graph.labels (subst (λ (x : Place). Has g.labels x) n.2 (whole.graph.among n.0.label (has_label g.blocks n.0 n.1)))
      (true_is b.label q (i.object ∙ object high high_in) (omega (arith, l, a))) in
      let d = (whole.places.words b low hb low_in).before r.at r.found in
      let u = i.upto in
      let m = r.least in
      omega (arith, d, u, m)

  last_jumps : JumpsLast K g.blocks
  last_jumps = jumps_last K g whole.form

  -- a word between the halves is not the last one of its block
  pub no_jumps : (w : Word) (q : Place) → Has pair.mid w → act_jumps K w.act q → ⊥
  no_jumps w q h j =
      let x = split_at (block_words b) w [] (mid_in w h) in
      let none = last_jumps b x.0 w x.1 q hb x.2 j in
      let t = turned x.0 in
      let is : t.front ++ w ∷ [] ≡ block_words b = sym (t.same (w ∷ [])) ∙ ap (λ (l : List Word). rev_onto x.0 (w ∷ l)) (sym none) ∙ x.2 in
      ends t.front (subst (λ (l : List Word). Ordered l) (sym is) in_block) (subst (λ (l : List Word). Has l low) (sym is) low_in) (before_low pair.mid w h)
    where
      after_mid : (l : List Word) (w : Word) (ys : List Word) → Ordered (l ++ low ∷ ys) → Has l w → w.at.obj ≡ lo.obj → w.at.off + 4 ≤ lo.off
      after_mid [] w ys o h e = absurd h
      after_mid (x ∷ l) w ys o (inl s) e =
          let a = after_off x low (l ++ low ∷ ys) o.0 (append_right l (low ∷ ys) low (inl refl)) (sym e ∙ sym (ap (λ (z : Word). z.at.obj) s)) in
          let d = ap (λ (z : Word). z.at.off) s in
          omega (arith, a, d)
      after_mid (x ∷ l) w ys o (inr m) e = after_mid l w ys o.1 m e

      behind : (xs zs : List Word) → Ordered (xs ++ zs) → Ordered zs
      behind [] zs o = o
      behind (x ∷ xs) zs o = behind xs zs o.1

      before_low : (l : List Word) (w : Word) → Has pair.mid w → w.at.off + 4 ≤ lo.off
      before_low l w m = in_between pair.stands
        where
          in_between : Between (block_words b) high pair.mid low → w.at.off + 4 ≤ lo.off
          in_between s =
              after_mid pair.mid w s.1 (behind (s.0 ++ high ∷ []) (pair.mid ++ low ∷ s.1) (subst (λ (l : List Word). Ordered l) (s.2 ∙ regroup s.0) in_block)) m (mid_text w m ∙ sym one_text)
            where
              regroup : (xs : List Word) → xs ++ high ∷ pair.mid ++ low ∷ s.1 ≡ (xs ++ high ∷ []) ++ (pair.mid ++ low ∷ s.1)
              regroup [] = refl
              regroup (x ∷ xs) = ap (λ (l : List Word). x ∷ l) (regroup xs)

      ends : (xs : List Word) → Ordered (xs ++ w ∷ []) → Has (xs ++ w ∷ []) low → w.at.off + 4 ≤ lo.off → ⊥
      ends [] o (inl e) l = let a = ap (λ (z : Word). z.at.off) e in omega (arith, a, l)
      ends [] o (inr h) l = h
      ends (x ∷ xs) o (inl e) l =
          let a = after_off x w (xs ++ w ∷ []) o.0 (append_right xs (w ∷ []) w (inl refl)) (mid_text w h ∙ sym one_text ∙ sym (ap (λ (z : Word). z.at.obj) e)) in
          let d = ap (λ (z : Word). z.at.off) e in
          omega (arith, a, d, l)
      ends (x ∷ xs) o (inr m) l = ends xs o.1 m l

  -- ---- what a run knows

  module _ (facts : Place → Fact) (checked : GpChecked (graph_script p g) facts g) where
    abbrev c : Script
    c = graph_script p g

    abbrev I : SymState → Type 0
    I = KnownHere p g whole facts checked

    pub enters : (s : SymState) (w : Word) (q : Place) → I s → next_word (words g) s.place ≡ Some w → act_jumps K w.act q → Inside hi lo q → ⊥
    enters s w q i e j x =
        let y = found_at Fact (fact_in c facts) Unknown (λ b. Unknown) (λ w x y. Unit {0}) (λ x y. Unit {0}) (no_laws (fact_in c facts) Unknown (λ b. Unknown)) g.blocks s.place w (blocks_placed p g whole) e in
        let none = last_jumps y.block y.before w y.rest q y.among y.splits j in
        let alone = ap (λ (l : List Word). rev_onto y.before (w ∷ l)) (sym none) ∙ y.splits in
        no_label q (lands p g whole y.block y.before w q y.among (in_kept p g whole s i.1 y.block.label y.label) alone j) x

    pub told :
        (bf ws : List Word) (t : ℕ) → rev_onto bf (high ∷ ws) ≡ block_words b → IsFact (fact_behind c (facts b.label) bf) t → (s : SymState) → I s → next_word (words g) s.place ≡ Some high →
        read_reg s.regs 29 ≡ Gp t
    told bf ws t r fact s i e =
        let y = found_at Fact (fact_in c facts) Unknown (λ b. Unknown) (λ w x y. Unit {0}) (λ x y. Unit {0}) (no_laws (fact_in c facts) Unknown (λ b. Unknown)) g.blocks s.place high (blocks_placed p g whole) e in
        let inside = has_split y.before high y.rest (block_words y.block) y.splits in
        let is_b = one_block g.blocks y.block b high ordered y.among hb inside high_in in
        let tx = turned y.before in
        let ty = turned bf in
        let ex = sym (tx.same (high ∷ y.rest)) ∙ y.splits ∙ ap block_words is_b in
        let ey = sym (ty.same (high ∷ ws)) ∙ r in
        let fronts = fronts_same tx.front ty.front y.rest ws high (subst (λ (l : List Word). Ordered l) (sym ex) in_block) (ex ∙ sym ey) in
        let same : y.before ≡ bf = tx.back ∙ ap (λ (l : List Word). back_onto l []) fronts ∙ sym ty.back in
        let known : Holds (fact_at c facts g.blocks s.place) s = i.0.holds in
        let at : Holds (changed_by c (facts b.label) bf) s =
        subst (λ (l : List Word). Holds (changed_by c (facts b.label) l) s) same
        (subst (λ (x : Block). Holds (changed_by c (facts x.label) y.before) s) is_b (subst (λ (f : Fact). Holds f s) y.here known)) in
        is_gp (fact_behind c (facts b.label) bf) fact (behind_holds c (facts b.label) bf s at)
      where
        is_gp : (f : Fact) → IsFact f t → Holds f s → read_reg s.regs 29 ≡ Gp t
        is_gp Any a h = absurd h
        is_gp (Table u) a h = h ∙ ap Gp a
        is_gp Unknown a h = absurd a

-- ---- the step

module _ (p : ProgramView) (prog : IsProgram p) (g : GraphView) (m : MayGoOn p g) (hi lo : ℕ) (b : Block) (xh xl : Node) (oh : IsOp g hi b xh) (ol : IsOp g lo b xl) (rb : ℕ) (base : Place)
    (kh : (xh.op).kind ≡ op.GpHi 29 rb base) (kl : (xl.op).kind ≡ op.GpLo 29 29 (xh.op).place) (pair : IsClosedPair g b (xh.op).place (xl.op).place) (facts : Place → Fact)
    (checked : GpChecked (graph_script p g) facts g) (bf ws : List Word) (stands : rev_onto bf (word_of b xh ∷ ws) ≡ block_words b)
    (fact : IsFact (fact_behind (graph_script p g) (facts b.label) bf) ((graph_script p g).table (xh.op).place.obj)) where
  whole : IsWhole p g
  whole = whole_of p prog g m.graph m.kept

  ordered : Ordered (words g)
  ordered = all_ordered g.blocks (placed g (m.graph).graph (m.graph).form (words_in_place p prog g m.graph))

  hb : Has g.blocks b
  hb = edit.there p prog g m.graph m.kept m.reach hi b xh oh.block oh.node

  in_block : Ordered (block_words b)
  in_block = (words_in_place p prog g m.graph).ordered b hb

  abbrev h : Place
  h = (xh.op).place

  abbrev l : Place
  l = (xl.op).place

  abbrev first : Word
  first = record { at = h; act = act.GpHi 29 pair.rb pair.base }

  abbrev second : Word
  second = record { at = l; act = act.GpLo 29 29 h }

  first_in_b : Has (block_words b) first
  first_in_b = first_in (block_words b) pair.mid first second pair.stands

  high_there : Has (block_words b) (word_of b xh)
  high_there = edit.word_there p prog g m.graph m.kept m.reach hi b xh oh.block oh.node

  is_first : word_of b xh ≡ first
  is_first = unique (block_words b) first (word_of b xh) in_block first_in_b high_there refl

  in_front : rev_onto bf (first ∷ ws) ≡ block_words b
  in_front = ap (λ (w : Word). rev_onto bf (w ∷ ws)) (sym is_first) ∙ stands

  before : (u : Word) → IsLastWriter (block_words b) h 29 u → CameFromLoad u.act → ⊥
  before u w c = no_load (graph_script p g) (facts b.label) ((graph_script p g).table h.obj) (block_words b) bf ws first u in_block in_front fact first_in_b w c

  abbrev one : GraphView
  one = deleted g lo

  abbrev new : GraphView
  new = deleted (deleted g lo) hi

  onward : Onward p g new
  onward = edits.pair_of p prog g m hi lo b xh xl oh ol rb base kh kl pair before

  after : MayGoOn p one
  after = edits.after p prog g m hi lo b xh xl oh ol rb base kh kl pair before

  abbrev rest : Block
  rest = delete_in lo b

  o_rest : IsOp one hi rest xh
  o_rest = edits.o_rest p prog g m hi lo b xh xl oh ol rb base kh kl pair before

  ordered_one : Ordered (words one)
  ordered_one = all_ordered one.blocks (placed one (after.graph).graph (after.graph).form (words_in_place p prog one after.graph))

  edited_one : Edited (gone_at l) (λ c. true) (λ c. c.last) g one
  edited_one =
      edited_once g one b rest (deleted_one g (m.graph).graph lo b ol.block) (gone_at l) l ordered (λ w n. gone_else l w n) (word_of b xl)
      (edit.word_there p prog g m.graph m.kept m.reach lo b xl ol.block ol.node) refl (edits.words p prog g m hi lo b xh xl oh ol rb base kh kl pair before) refl refl refl
      (λ w u k e. ap (λ (v : Word). v.at) (sym (gone_keeps l w u e))) (λ w u k e a. subst (λ (v : Word). is_address v.act ≡ true) (sym (gone_keeps l w u e)) a)

  edited_two : Edited (gone_at h) (λ c. true) (λ c. c.last) one new
  edited_two =
      edited_once one new rest (delete_in hi rest) (deleted_one one (after.graph).graph hi rest o_rest.block) (gone_at h) h ordered_one (λ w n. gone_else h w n) (word_of rest xh)
      (edits.high_rest_there p prog g m hi lo b xh xl oh ol rb base kh kl pair before) refl (edits.words_two p prog g m hi lo b xh xl oh ol rb base kh kl pair before) refl refl refl
      (λ w u k e. ap (λ (v : Word). v.at) (sym (gone_keeps h w u e))) (λ w u k e a. subst (λ (v : Word). is_address v.act ≡ true) (sym (gone_keeps h w u e)) a)

  abbrev f : Word → Option Word
  f = then_change (gone_at l) (gone_at h)

  only : (w u : Word) → f w ≡ Some u → w ≡ u
  only w u e = by_low (gone_at l w) refl e
    where
      by_low : (o : Option Word) → gone_at l w ≡ o → option_and_then (gone_at h) o ≡ Some u → w ≡ u
      by_low None a c = cc
      by_low (Some v) a c = gone_keeps l w v a ∙ gone_keeps h v u c

  goes : (w : Word) → f w ≡ None → (w.at ≡ h) ⊎ (w.at ≡ l)
  goes w e = by_low (gone_at l w) (is_gone l w) refl e
    where
      by_high : (o : Option Word) → IsGone h w o → o ≡ None → (w.at ≡ h) ⊎ (w.at ≡ l)
      by_high o (gone a c) n = inl a
      by_high o (left a c) n = let no_word : Some w ≡ None = sym c ∙ n in cc

      by_low : (o : Option Word) → IsGone l w o → gone_at l w ≡ o → option_and_then (gone_at h) o ≡ None → (w.at ≡ h) ⊎ (w.at ≡ l)
      by_low o (gone a c) k n = inr a
      by_low o (left a c) k n = by_high (gone_at h w) (is_gone h w) (ap (option_and_then (gone_at h)) (sym c) ∙ n)

  apart : h ≡ l → ⊥
  apart e = let a = between_order (block_words b) pair.mid first second in_block pair.stands (ap (λ (q : Place). q.obj) (sym e)) in let d = ap (λ (q : Place). q.off) e in omega (arith, a, d)

  high_goes : f first ≡ None
  high_goes = ap (option_and_then (gone_at h)) (gone_else l first apart) ∙ gone_here h first refl

  low_goes : f second ≡ None
  low_goes = ap (option_and_then (gone_at h)) (gone_here l second refl)

  in_place : (w u : Word) → f w ≡ Some u → u.at ≡ w.at
  in_place w u e = ap (λ (v : Word). v.at) (sym (only w u e))

  edited : Edited f (λ c. true) (λ c. c.last) g new
  edited =
      edited_twice (gone_at l) (gone_at h) g one new edited_one edited_two (λ w u k e. in_place w u e) (λ w u k e a. subst (λ (v : Word). is_address v.act ≡ true) (sym (only w u e)) a)

  erased : words new ≡ each_word f (words g)
  erased = each_words f g.blocks new.blocks (edited.words ∙ ap (map (λ (c : Block). each_word f (block_words c))) (all_stay g.blocks))

  pub pair_keeps : Keeps p g new
  pair_keeps =
      ends_keep p g new (record { counts = refl; roots = refl; tables = refl }) (IsKeptLanding g) _ _ (KnownHere p g whole facts checked) _
      (dropping p g new whole ordered h l pair.rb pair.base pair.mid (stands_all p g whole ordered b hb in_block h l pair) (one_text p g whole ordered b hb in_block h l pair)
      (mid_text p g whole ordered b hb in_block h l pair) pair.unread pair.unwritten f only goes high_goes low_goes erased (KnownHere p g whole facts checked) (knowing p g whole facts checked) (λ s k. k.1)
      (told p g whole ordered b hb in_block h l pair facts checked bf ws ((graph_script p g).table h.obj) in_front fact) (enters p g whole ordered b hb in_block h l pair facts checked)
      (no_label p g whole ordered b hb in_block h l pair (graph_script p g).entry (entry_label p g whole)) (no_jumps p g whole ordered b hb in_block h l pair))
      f (λ c. true) (λ c. c.last) edited ordered (pairs_apart p prog new onward.goes_on.graph) (λ input n c clean r c' k e. refl) (λ c q k n e i o s. s)

  both_gone : (w : Word) → (w.at ≡ h) ⊎ (w.at ≡ l) → f w ≡ None
  both_gone w (inr a) = ap (option_and_then (gone_at h)) (gone_here l w a)
  both_gone w (inl a) = by_low (gone_at l w) (is_gone l w)
    where
      by_low : (o : Option Word) → IsGone l w o → option_and_then (gone_at h) o ≡ None
      by_low o (gone b c) = ap (option_and_then (gone_at h)) c
      by_low o (left b c) = ap (option_and_then (gone_at h)) c ∙ gone_here h w a

  less : IsLess g new (IsOneOf h l)
  less = less_by p prog g new m.graph f erased (λ w v k e. in_place w v e) (IsOneOf h l) left_in_place (λ w k e. goes w e)
    where
      no_word : {v : Word} → None ≡ Some v → ⊥
      no_word e = cc

      left_in_place : (w v : Word) → Has (words g) w → f w ≡ Some v → IsOneOf h l w.at → ⊥
      left_in_place w v k e i = no_word (sym (both_gone w i) ∙ e)

  pub pair_step : Step p g new
  pair_step = record {
    rewrite = record {
      keeps = pair_keeps;
      goes_on = onward.goes_on;
      lighter = onward.lighter;
      bases = bases_stay p prog g new m.graph f erased pair_keeps onward.goes_on.graph (λ w v k e. stays (only w v e));
    };
    pairs = λ whole. pair_dropped p prog g new m.graph whole b h l hb pair less;
  }
