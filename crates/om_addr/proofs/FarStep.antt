-- A load of the address of a pointer over its high half, with all of its uses, is a step.
use Rattle.std.proofs.Common.{◌≡◌, ◌⊎◌, inl, inr, ◌<◌, ℕ, ℤ, Bool, true, false, cond, ◌&&◌, ◌||◌, List, [], ◌∷◌, ◌++◌, Option, Some, None, refl, sym, ap, ◌∙◌, subst, arith}
use Rattle.std.specs.Prelude.{not, map}
use Rattle.std.proofs.lemmas.Bool.{true≢false, lt-ltb}
use Rattle.om_isa.specs.declared.instr.Instr.{Instr}
use Rattle.om_isa.specs.declared.instr.Instr.TheVariants.{Mem, Jump, Branch, Alu, Cmov, Misc, Fnop, Halt, Callsys}
use Rattle.om_isa.specs.declared.instr.MemOp.{MemOp}
use Rattle.om_isa.specs.declared.instr.Access.{Access}
use Rattle.om_isa.specs.declared.instr.Access.TheVariants.{Address, Load, Store as Stores}
use Rattle.om_isa.specs.Registers.{access_of}
use Rattle.om_value.specs.declared.value.Place.{Place}
use Rattle.om_value.specs.declared.value.Value.{Value}
use Rattle.om_value.specs.declared.value.Value.TheVariants.{Ptr}
use Rattle.om_value.specs.declared.value.Target.{Target}
use Rattle.om_prog.specs.Act as act
use Rattle.om_prog.specs.Act.{Act, Word, Script, act_reads, act_writes, stored_reads, used_reads}
use Rattle.om_prog.specs.Step.{SymState, next_place}
use Rattle.om_prog.specs.Flow.{Among, GoesTo}
use Rattle.om_prog.specs.Values.{Values, no_values}
use Rattle.om_prog.specs.View.{ProgramView}
use Rattle.om_prog.specs.Valid.{IsProgram}
use Rattle.om_graph.specs.declared.op.Last.{Last}
use Rattle.om_graph.specs.View.{Block, GraphView, Has}
use Rattle.om_graph.specs.Run.{words, block_words, next_word, graph_script, rev_onto}
use Rattle.om_graph.specs.Form.{Ordered, is_address}
use Rattle.om_graph.specs.LeftIn.{Keeps}
use Rattle.om_graph.specs.Pass.{Pass}
use Rattle.om_graph.specs.Rewritten.{SameFrame, each_word}
use Rattle.om_graph.specs.Whole.{IsWhole}
use Rattle.om_graph.specs.Kept.{IsInKeptSet, IsKeptLanding}
use Rattle.om_graph.specs.Checks.{MaskChecked, AreOuts, written_in}
use Rattle.om_graph.specs.Outs.{outs_of}
use Rattle.om_graph.specs.Uses.{NoneWrites, IsLocalUse, IsBaseUse}
use Rattle.om_graph.proofs.Labels.{append_right, in_all}
use Rattle.om_graph.proofs.Ends.{each_words}
use Rattle.om_graph.proofs.Kept.{has_split}
use Rattle.om_graph.proofs.Fetching.{found_has}
use Rattle.om_graph.proofs.Itself.{all_ordered, unique}
use Rattle.om_graph.proofs.Places.{placed, jumps_last}
use Rattle.om_graph.proofs.Blocks.{InBlocks, found_at, none_at, land}
use Rattle.om_graph.proofs.ValuesAt.{known_at, behind}
use Rattle.om_graph.proofs.Masks.{live_at, cared_at, cared_flow, cared_read}
use Rattle.om_graph.proofs.Outs.{are_outs}
use Rattle.om_graph.proofs.OfProgram.{words_in_place}
use Rattle.om_graph.proofs.Forms.{pairs_apart, whole_of}
use Rattle.om_graph.proofs.Placed.{IsLabel}
use Rattle.om_graph.proofs.Whole.{Here, here_keeps, blocks_placed, lands, known_there, first_lands, entry_label}
use Rattle.om_passes.specs.Blocks.{OneBlock}
use Rattle.om_passes.specs.Far.{FarLoad, far_target, use_act, far_word, far_change, IsFarLoad, IsMadeFar}
use Rattle.om_passes.specs.Step.{Onward, Step}
use Rattle.om_passes.proofs.Standings.{NeedsNoBase, Becomes as BecomesWord, stays, baseless, bases_stay, pairs_same}
use Rattle.om_graph.specs.Stands.{IsIdle}
use Rattle.om_passes.specs.OneEdit.{MayGoOn}
use Rattle.om_passes.proofs.OneBlock.{old_block}
use Rattle.om_passes.proofs.FarEdits.{IsFar, half, use_of_half, as_is, is_far, far_some, far_words, load_there, UseWord, use_word}
use Rattle.om_graph.proofs.Ends.{one_block, ends_keep}
use Rattle.om_passes.proofs.BehindMasks.{one_rest}
use Rattle.om_passes.proofs.KnownCalls.{back_onto}
use Rattle.om_addr.specs.Reduces.{Halves, NoHalves, lives_at, Holding, Reduced, as_was, far, by_high, Reduces}
use Rattle.om_addr.specs.Halves.{halves_behind}
use Rattle.om_addr.specs.Laws.{far_load, IsWhollyFar}
use Rattle.om_addr.proofs.HalfWords.{rev_apart, rev_split, has_before, HalfFrom, half_from, goes_on, at_load, unwritten_behind, local_of}
use Rattle.om_addr.proofs.HalfFlow.{Told, told_in, untold, told, known_is, mask_is, Flow, Le, laws, told_flow}
use Rattle.om_addr.proofs.HalfFlow as flow
use Rattle.om_addr.proofs.EditedBlock.{at_some, at_has, has_at, words_edited, block_edited}
use Rattle.om_addr.proofs.KnownUses.{first, before_is, holding_use}
use Rattle.om_addr.proofs.InGraph as graph
use Rattle.om_addr.proofs.Reducing as pass

-- past words that do not write its register a half stays
past_halves : (l : FarLoad) (mid bf : List Word) (h : Place) → NoneWrites l.ra mid → halves_behind l bf l.ra ≡ Some h → halves_behind l (back_onto mid bf) l.ra ≡ Some h
past_halves l [] bf h n e = e
past_halves l (m ∷ mid) bf h n e = past_halves l mid (m ∷ bf) h (λ w i. n w (inr i)) (by_way (goes_on l m bf l.ra h e))
  where
    by_way : Among (act_writes m.act) l.ra ⊎ (halves_behind l (m ∷ bf) l.ra ≡ Some h) → halves_behind l (m ∷ bf) l.ra ≡ Some h
    by_way (inl a) = absurd (n m (inl refl) a)
    by_way (inr i) = i

none_or : (o : Option Place) → ((h : Place) → o ≡ Some h → ⊥) → o ≡ None
none_or None n = refl
none_or (Some h) n = absurd (n h refl)

module _ (p : ProgramView) (prog : IsProgram p) (g new : GraphView) (m : MayGoOn p g) (frame : SameFrame g new) (l : FarLoad) (b n : Block) (one : OneBlock g.blocks new.blocks b n)
    (is : IsFarLoad l b) (made : IsMadeFar l b n) (masks : Place → ℕ → Bool) (checked : MaskChecked masks g) (bf ws : List Word) (wholly : IsWhollyFar g masks l b bf ws) (onward : Onward p g new) where
  abbrev load : Word
  load = far_load l

  abbrev outs : Place → ℕ → Bool
  outs = outs_of g masks

  are : AreOuts masks (outs_of g masks) g
  are = are_outs g (m.graph).graph.blocks masks

  whole : IsWhole p g
  whole = whole_of p prog g m.graph m.kept

  hb : Has g.blocks b
  hb = old_block one

  ordered : Ordered (words g)
  ordered = all_ordered g.blocks (placed g (m.graph).graph (m.graph).form (words_in_place p prog g m.graph))

  in_block : Ordered (block_words b)
  in_block = (words_in_place p prog g m.graph).ordered b hb

  there : Has (block_words b) load
  there = load_there p prog l b n is made in_block

  not_31 : l.ra ≡ 31 → ⊥
  not_31 e = let low = wholly.register in omega (arith, e, low)

  -- ---- the words

  abbrev f : Word → Option Word
  f w = cond (at_some (block_words b) w.at) (far_change l w) (Some w)

  in_b : (w : Word) → Has (words g) w → at_some (block_words b) w.at ≡ true → Has (block_words b) w
  in_b w h e =
      let v = at_has (block_words b) w.at e in
      let same : w ≡ v.0 = unique (words g) v.0 w ordered (in_all g.blocks b v.0 hb v.1) h (sym v.2) in
      subst (λ (x : Word). Has (block_words b) x) (sym same) v.1

  f_in : (w : Word) → Has (block_words b) w → f w ≡ far_change l w
  f_in w h = let e = has_at (block_words b) w h in rw e refl

  f_out : (w : Word) → Has (words g) w → (Has (block_words b) w → ⊥) → f w ≡ Some w
  f_out w h n = by_at (at_some (block_words b) w.at) refl
    where
      by_at : (t : Bool) → at_some (block_words b) w.at ≡ t → cond t (far_change l w) (Some w) ≡ Some w
      by_at true e = absurd (n (in_b w h e))
      by_at false e = refl

  is_load : (w : Word) → Has (words g) w → w.at ≡ l.hi → w ≡ load
  is_load w h a = unique (words g) load w ordered (in_all g.blocks b load hb there) h a

  in_place : (w u : Word) → f w ≡ Some u → u.at ≡ w.at
  in_place w u e = by_at (at_some (block_words b) w.at) e
    where
      by_far : IsFar l w u → u.at ≡ w.at
      by_far (half a i) = ap (λ (x : Word). x.at) i
      by_far (use_of_half a v i) = ap (λ (x : Word). x.at) i
      by_far (as_is a v i) = ap (λ (x : Word). x.at) i

      by_at : (t : Bool) → cond t (far_change l w) (Some w) ≡ Some u → u.at ≡ w.at
      by_at true e = by_far (far_some l w u e)
      by_at false e = let same : w ≡ u = cc in ap (λ (x : Word). x.at) (sym same)

  addresses : (w u : Word) → Has (words g) w → f w ≡ Some u → is_address u.act ≡ true → is_address w.act ≡ true
  addresses w u h e a = by_at (at_some (block_words b) w.at) refl e
    where
      by_far : Has (block_words b) w → IsFar l w u → is_address w.act ≡ true
      by_far k (half c i) = ap (λ (x : Word). is_address x.act) (is_load w h c)
      by_far k (use_of_half c v i) =
          let y = use_word p prog l b n is made in_block w k v in
          absurd (true≢false (sym a ∙ ap (λ (x : Word). is_address x.act) i ∙ ap (λ (x : Act). is_address (use_act l x)) y.plain))
      by_far k (as_is c v i) = ap (λ (x : Word). is_address x.act) (sym i) ∙ a

      by_at : (t : Bool) → at_some (block_words b) w.at ≡ t → cond t (far_change l w) (Some w) ≡ Some u → is_address w.act ≡ true
      by_at true t e = by_far (in_b w h t) (far_some l w u e)
      by_at false t e = let same : w ≡ u = cc in ap (λ (x : Word). is_address x.act) same ∙ a

  block : block_words n ≡ each_word f (block_words b)
  block = far_words p prog l b n is made in_block ∙ each_like (block_words b) (λ w h. h)
    where
      each_like : (vs : List Word) → ((w : Word) → Has vs w → Has (block_words b) w) → each_word (far_change l) vs ≡ each_word f vs
      each_like [] h = refl
      each_like (v ∷ vs) h = let a = f_in v (h v (inl refl)) in let i = each_like vs (λ w k. h w (inr k)) in rw (a, i) refl

  all : words new ≡ each_word f (words g)
  all = each_words f g.blocks new.blocks (words_edited g new b n one f ordered f_out block)

  -- ---- halves

  abbrev c : Script
  c = graph_script p g

  abbrev At : Place → Type 0
  At q = InBlocks (λ l. IsInKeptSet g l) g.blocks q × Unit {0}

  abbrev here : Place → Told
  here q = told c l masks outs g.blocks q

  abbrev halves : Place → Halves
  halves q = (told c l masks outs g.blocks q).half

  abbrev cared : Place → ℕ → Bool
  cared = cared_at masks outs g.blocks

  record HalfAt (w : Word) (r : ℕ) (h : Place) : Type 0 where
    register : l.ra ≡ r
    place : l.hi ≡ h
    inside : Has (block_words b) w
    apart : w.at ≡ l.hi → ⊥
    used : Among (act_reads w.act) l.ra → IsLocalUse (block_words b) load w l.ra

  record Before (q : Place) (w : Word) : Type 0 where
    block : Block
    among : Has g.blocks block
    before : List Word
    rest : List Word
    splits : rev_onto before (w ∷ rest) ≡ block_words block
    told_is : told c l masks outs g.blocks q ≡ told_in c l masks outs block before (w ∷ rest)

  before_it : (q : Place) (w : Word) → next_word (words g) q ≡ Some w → Before q w
  before_it q w e =
      let x = found_at Told (told_in c l masks outs) (untold c l masks outs) (flow.enter c l masks outs) (Flow c l masks outs) (Le c l masks outs) (laws c l masks outs) g.blocks q w (blocks_placed p g whole) e in
      record { block = x.block; among = x.among; before = x.before; rest = x.rest; splits = x.splits; told_is = x.here }

  -- a word of a block with the load's place is the load, and the block is its
  of_b : (x : Block) (d : Word) → Has g.blocks x → Has (block_words x) d → d.at ≡ l.hi → (d ≡ load) × (x ≡ b)
  of_b x d hx h a =
      let same = is_load d (in_all g.blocks x d hx h) a in
      (same, one_block g.blocks x b load ordered hx hb (subst (λ (y : Word). Has (block_words x) y) same h) there)

  half_at : (q : Place) (w : Word) (r : ℕ) (h : Place) → next_word (words g) q ≡ Some w → halves q r ≡ Some h → HalfAt w r h
  half_at q w r h e i = record {
    register = fr.register;
    place = fr.place;
    inside = subst (λ (y : Block). Has (block_words y) w) found.1 (has_split x.before w x.rest (block_words x.block) x.splits);
    apart = λ a. rev_apart x.before (w ∷ x.rest) fr.load w (subst (λ (y : List Word). Ordered y) (sym x.splits) ((words_in_place p prog g m.graph).ordered x.block x.among)) d_before (inl refl) (a ∙ sym fr.at);
    used = λ a. local_of (block_words b) fr.before fr.mid load w x.rest l.ra stands fr.unwritten (inl refl) a not_31;
  }
    where
      x : Before q w
      x = before_it q w e

      fr : HalfFrom l (before_it q w e).before r h
      fr = half_from l (before_it q w e).before r h (ap (λ (t : Told). t.half r) (sym (before_it q w e).told_is) ∙ i)

      d_before : Has (before_it q w e).before fr.load
      d_before = subst (λ (z : List Word). Has z fr.load) (sym fr.stands) (append_right fr.mid (fr.load ∷ fr.before) fr.load (inl refl))

      found : (fr.load ≡ load) × ((before_it q w e).block ≡ b)
      found =
          of_b (before_it q w e).block fr.load (before_it q w e).among
          (subst (λ (z : List Word). Has z fr.load) (before_it q w e).splits (has_before (before_it q w e).before (w ∷ (before_it q w e).rest) fr.load d_before)) fr.at

      stands : rev_onto (fr.mid ++ load ∷ fr.before) (w ∷ (before_it q w e).rest) ≡ block_words b
      stands =
          ap (λ (d : Word). rev_onto (fr.mid ++ d ∷ fr.before) (w ∷ (before_it q w e).rest)) (sym found.0) ∙ ap (λ (z : List Word). rev_onto z (w ∷ (before_it q w e).rest)) (sym fr.stands)
          ∙ (before_it q w e).splits ∙ ap block_words found.1

  ending : (x : Block) (front : List Word) (w : Word) (r : ℕ) (h : Place) → Has g.blocks x → rev_onto front (w ∷ []) ≡ block_words x → halves_behind l (w ∷ front) r ≡ Some h → outs x.label r ≡ false
  ending x front w r h hx s e =
      let fr = half_from l (w ∷ front) r h e in
      let has = subst (λ (z : List Word). Has z fr.load) (sym fr.stands) (append_right fr.mid (fr.load ∷ fr.before) fr.load (inl refl)) in
      let is = of_b x fr.load hx (subst (λ (z : List Word). Has z fr.load) s (has_before (w ∷ front) [] fr.load has)) fr.at in
      let stands : rev_onto fr.before (load ∷ rev_onto fr.mid []) ≡ block_words b =
      ap (λ (d : Word). rev_onto fr.before (d ∷ rev_onto fr.mid [])) (sym is.0) ∙ sym (rev_split fr.mid fr.load fr.before []) ∙ ap (λ (z : List Word). rev_onto z []) (sym fr.stands) ∙ s ∙ ap block_words is.1 in
      let rest : ws ≡ rev_onto fr.mid [] = one_rest (block_words b) bf fr.before load ws (rev_onto fr.mid []) in_block wholly.stands stands in
      by_end is.1 fr.register (ap (λ (z : List Word). written_in z l.ra) rest ∙ unwritten_behind fr.mid l.ra fr.unwritten) wholly.unread
    where
      by_end : x ≡ b → l.ra ≡ r → written_in ws l.ra ≡ false → (written_in ws l.ra ≡ true) ⊎ (outs b.label l.ra ≡ false) → outs x.label r ≡ false
      by_end k i u (inl v) = absurd (true≢false (sym v ∙ u))
      by_end k i u (inr v) = ap (λ (y : Block). outs y.label r) k ∙ ap (outs b.label) (sym i) ∙ v

  flows : (q : Place) (w : Word) (to : Place) → At q → next_word (words g) q ≡ Some w → GoesTo (IsKeptLanding g) w to → Flow c l masks outs w (here q) (here to)
  flows q w to at e t =
      told_flow c l masks outs g checked are wholly.register ending (λ l. IsInKeptSet g l) (blocks_placed p g whole) (jumps_last (IsKeptLanding g) g whole.form) (lands p g whole) q w to at.0 e t

  low_mask : (q : Place) (r : ℕ) → r < 31 → cared q r ≡ (here q).mask r
  low_mask q r low = let i = lt-ltb r 31 low in let e = ap (λ (k : ℕ → Bool). k r) (mask_is c l masks outs g.blocks q) in rw (i, e) refl

  none_here : (q : Place) (w : Word) (r : ℕ) → next_word (words g) q ≡ Some w → w.at ≡ l.hi → halves q r ≡ None
  none_here q w r e a = none_or (halves q r) (λ h i. (half_at q w r h e i).apart a)

  -- ---- each word

  abbrev Becomes : Place → Word → Word → Type 0
  Becomes q w u = Reduced c (known_at c g.blocks q) (halves q) (lives_at cared (known_at c g.blocks) halves (next_place w.at)) w u

  lives : (q : Place) (w : Word) → At q → next_word (words g) q ≡ Some w → w.at ≡ l.hi → lives_at cared (known_at c g.blocks) halves (next_place w.at) l.ra ≡ false
  lives q w at e a =
      let same = is_load w (found_has (words g) q w e) a in
      let fl = flows q w (next_place w.at) at e (subst (λ (v : Word). GoesTo (IsKeptLanding g) v (next_place v.at)) (sym same) (inl (tt, refl))) in
      let i = low_mask (next_place w.at) l.ra wholly.register in
      let j = ap (λ (k : Values). k l.ra) (known_is c l masks outs g.blocks (next_place w.at)) in
      rw (i, j) (fl.made a)

  unread_half : (q : Place) (w : Word) → next_word (words g) q ≡ Some w → l.use_at w.at ≡ false → NoHalves (halves q) (act_reads w.act)
  unread_half q w e u r a =
      none_or (halves q r)
      (λ h i.
      let k = half_at q w r h e i in
      true≢false (sym (wholly.all_uses w (k.used (subst (λ (x : ℕ). Among (act_reads w.act) x) (sym k.register) a))) ∙ u))

  becomes_use : (q : Place) (w : Word) → next_word (words g) q ≡ Some w → Has (block_words b) w → (y : UseWord p prog l b n is made in_block w) → Becomes q w (record { at = w.at; act = act.UseLo y.instr l.hi (far_target l) })
  becomes_use q w e h y = by_instr y.instr y.plain y.base
    where
      x : Before q w
      x = before_it q w e

      is_b : (before_it q w e).block ≡ b
      is_b = one_block g.blocks (before_it q w e).block b w ordered (before_it q w e).among hb (has_split (before_it q w e).before w (before_it q w e).rest (block_words (before_it q w e).block) (before_it q w e).splits) h

      stands : rev_onto (before_it q w e).before (w ∷ (before_it q w e).rest) ≡ block_words b
      stands = (before_it q w e).splits ∙ ap block_words is_b

      holding : Holding (known_at c g.blocks q) l.ra (Ptr l.region l.offset)
      holding =
          subst (λ (k : Values). Holding k l.ra (Ptr l.region l.offset)) (sym (known_is c l masks outs g.blocks q ∙ ap (λ (t : Told). t.known) (before_it q w e).told_is))
          (holding_use c (block_words b) (before_it q w e).before (before_it q w e).rest load w l.ra l.rb l.offset l.region in_block stands y.local (inl refl))

      has_half : halves q l.ra ≡ Some l.hi
      has_half =
          ap (λ (t : Told). t.half l.ra) (before_it q w e).told_is
          ∙ ap (λ (z : List Word). halves_behind l z l.ra) (before_is c (block_words b) (before_it q w e).before (before_it q w e).rest load w l.ra l.rb l.offset l.region in_block stands y.local (inl refl))
          ∙ past_halves l y.local.mid (load ∷ first c (block_words b) (before_it q w e).before (before_it q w e).rest load w l.ra l.rb l.offset l.region in_block stands y.local (inl refl)) l.hi y.local.unwritten
          (at_load l load (first c (block_words b) (before_it q w e).before (before_it q w e).rest load w l.ra l.rb l.offset l.region in_block stands y.local (inl refl)) refl)

      stored : (a : Access) (ra r : ℕ) → (a ≡ Stores → ra ≡ l.ra → ⊥) → Among (stored_reads a ra) r → halves q r ≡ None
      stored Address ra r k i = absurd i
      stored Load ra r k i = absurd i
      stored Stores ra r k (inl i) = none_or (halves q r) (λ h j. k refl (i ∙ sym (half_at q w r h e j).register))
      stored Stores ra r k (inr i) = absurd i

      by_instr : (j : Instr) → w.act ≡ act.Plain j → IsBaseUse l.ra j y.disp → Becomes q w (record { at = w.at; act = act.UseLo j l.hi (far_target l) })
      by_instr (Mem o ra rc d) a u =
          by_high o ra rc d l.hi (far_target l) a (subst (λ (z : ℕ). Holding (known_at c g.blocks q) z (Ptr l.region l.offset)) (sym u.0) holding)
          (ap (halves q) u.0 ∙ has_half) refl u.2 (λ r i. stored (access_of o) ra r u.3 i)
      by_instr (Alu o ra rc rd) a u = absurd u
      by_instr (Jump o ra rc h) a u = absurd u
      by_instr (Branch o ra d) a u = absurd u
      by_instr (Cmov o ra rc rd) a u = absurd u
      by_instr (Misc o ra rc) a u = absurd u
      by_instr Fnop a u = absurd u
      by_instr Halt a u = absurd u
      by_instr Callsys a u = absurd u

  half_word : (w : Word) → Has (words g) w → w.at ≡ l.hi → f w ≡ Some (record { at = w.at; act = act.AddrHi l.ra l.rb (far_target l) })
  half_word w h a = f_in w (subst (λ (v : Word). Has (block_words b) v) (sym (is_load w h a)) there) ∙ by_far (is_far l w)
    where
      by_far : IsFar l w (far_word l w) → Some (far_word l w) ≡ Some (record { at = w.at; act = act.AddrHi l.ra l.rb (far_target l) })
      by_far (half k i) = ap (λ (v : Word). Some v) i
      by_far (use_of_half k v i) = absurd (k a)
      by_far (as_is k v i) = absurd (k a)

  word : (q : Place) (w : Word) → At q → next_word (words g) q ≡ Some w → (u : Word) × (f w ≡ Some u) × Becomes q w u
  word q w at e = by_at (at_some (block_words b) w.at) refl
    where
      has : Has (words g) w
      has = found_has (words g) q w e

      by_far : Has (block_words b) w → IsFar l w (far_word l w) → Becomes q w (far_word l w)
      by_far k (half a i) =
          let same = is_load w (found_has (words g) q w e) a in
          subst (λ (u : Word). Becomes q w u) (sym i)
          (far l.ra l.rb (far_target l) not_31 (ap (λ (v : Word). v.act) same) refl (none_here q w l.rb e a) (lives q w at e a))
      by_far k (use_of_half a v i) =
          let y = use_word p prog l b n is made in_block w k v in
          subst (λ (u : Word). Becomes q w u) (sym (i ∙ ap (λ (z : Act). record { at = w.at; act = use_act l z }) y.plain)) (becomes_use q w e k y)
      by_far k (as_is a v i) = subst (λ (u : Word). Becomes q w u) (sym i) (as_was refl (unread_half q w e v))

      by_at : (t : Bool) → at_some (block_words b) w.at ≡ t → (u : Word) × (cond t (far_change l w) (Some w) ≡ Some u) × Becomes q w u
      by_at true t = (far_word l w, refl, by_far (in_b w (found_has (words g) q w e) t) (is_far l w))
      by_at false t = (
        w,
        refl,
        as_was refl (λ r a. none_or (halves q r) (λ h i. true≢false (sym (has_at (block_words b) w (half_at q w r h e i).inside) ∙ t))),
      )

  -- ---- the pass

  carried :
      (q : Place) (w u : Word) (to : Place) (r : ℕ) (h : Place) → At q → next_word (words g) q ≡ Some w → next_word (words new) q ≡ Some u → GoesTo (IsKeptLanding g) w to → halves to r ≡ Some h →
      ((rb : ℕ) × (t : Target) × (w.act ≡ act.Lit r rb t) × (u.act ≡ act.AddrHi r rb t) × (w.at ≡ h) × (r ≡ 31 → ⊥) × (halves q rb ≡ None)) ⊎ ((halves q r ≡ Some h) × (Among (act_writes w.act) r → ⊥))
  carried q w u to r h at e fu t i = by_way ((flows q w to at e t).carried r h i)
    where
      some_same : {x y : Word} → Some x ≡ Some y → x ≡ y
      some_same e = cc

      by_way :
          ((w.at ≡ l.hi) × (l.ra ≡ r) × (l.hi ≡ h)) ⊎ ((halves q r ≡ Some h) × (Among (act_writes w.act) r → ⊥)) →
          ((rb : ℕ) × (t : Target) × (w.act ≡ act.Lit r rb t) × (u.act ≡ act.AddrHi r rb t) × (w.at ≡ h) × (r ≡ 31 → ⊥) × (halves q rb ≡ None)) ⊎ ((halves q r ≡ Some h) × (Among (act_writes w.act) r → ⊥))
      by_way (inr j) = inr j
      by_way (inl (a, s, k)) =
          let same = is_load w (found_has (words g) q w e) a in
          let v = graph.word_there p g new whole ordered f in_place all (λ q. Unit {0}) cared halves word q w at e in
          let made_is : u ≡ record { at = w.at; act = act.AddrHi l.ra l.rb (far_target l) } =
          some_same (sym fu ∙ graph.there p g new whole ordered f in_place all (λ q. Unit {0}) cared halves word q w (record { at = w.at; act = act.AddrHi l.ra l.rb (far_target l) }) e (half_word w (found_has (words g) q w e) a)) in
          inl (l.rb, far_target l, ap (λ (v : Word). v.act) same ∙ ap (λ (x : ℕ). act.Lit x l.rb (far_target l)) s, ap (λ (v : Word). v.act) made_is ∙ ap (λ (x : ℕ). act.AddrHi x l.rb (far_target l)) s, a ∙ k, (λ z. not_31 (s ∙ z)), none_here q w l.rb e a)

  ends :
      (q : Place) (w : Word) (to : Place) (r : ℕ) (h : Place) → At q → next_word (words g) q ≡ Some w → GoesTo (IsKeptLanding g) w to → halves q r ≡ Some h → halves to r ≡ None →
      Among (act_writes w.act) r ⊎ (cared to r ≡ false)
  ends q w to r h at e t i o = by_way ((flows q w to at e t).ends r h low i o)
    where
      low : r < 31
      low = subst (λ (x : ℕ). x < 31) (half_at q w r h e i).register wholly.register

      by_way : Among (act_writes w.act) r ⊎ ((here to).mask r ≡ false) → Among (act_writes w.act) r ⊎ (cared to r ≡ false)
      by_way (inl j) = inl j
      by_way (inr j) = inr (low_mask to r low ∙ j)

  none_first : (r : ℕ) → halves c.entry r ≡ None
  none_first r = none_or (halves c.entry r) (λ h i. by_label h i (entry_label p g whole))
    where
      none_some : (h : Place) → None ≡ Some h → ⊥
      none_some h e = cc

      by_label : (h : Place) → halves c.entry r ≡ Some h → IsLabel g.blocks c.entry → ⊥
      by_label h i (inr e) =
          let t = none_at Told (told_in c l masks outs) (untold c l masks outs) (flow.enter c l masks outs) (Flow c l masks outs) (Le c l masks outs) (laws c l masks outs) g.blocks c.entry e in
          none_some h (sym (ap (λ (t : Told). t.half r) t) ∙ i)
      by_label h i (inl x) =
          let le = land Told (told_in c l masks outs) (untold c l masks outs) (flow.enter c l masks outs) (Flow c l masks outs) (Le c l masks outs) (laws c l masks outs) g.blocks x.0 (blocks_placed p g whole) (flow.edges c l masks outs g checked are wholly.register ending) x.1 in
          none_some h (le.half r h (ap (λ (q : Place). halves q r) x.2 ∙ i))

  reduces : Reduces c (next_word (words new)) (IsKeptLanding g) At new cared (known_at c g.blocks) halves
  reduces = record {
    kept = graph.kept_there p g new whole ordered f in_place all (λ q. Unit {0}) cared halves word;
    found = λ q w at e. graph.found_behind p g new whole ordered f in_place all (λ q. Unit {0}) cared halves word q w e;
    past = λ q w to x at e goes h o. graph.goes_past p g new whole ordered f in_place all (λ q. Unit {0}) cared halves word q w to x at e goes h o;
    word = graph.word_there p g new whole ordered f in_place all (λ q. Unit {0}) cared halves word;
    none = none_first;
    carried = carried;
    ends = ends;
    values = λ q w to r v at e goes i. (graph.flows p g new whole ordered f in_place all (λ q. Unit {0}) cared halves word).goes q w to r v at e goes i;
    unknown = (graph.flows p g new whole ordered f in_place all (λ q. Unit {0}) cared halves word).entry;
    joined = λ q w to r v h at e t i k. (flows q w to at e t).joined r v h i (ap (λ (z : Values). z r) (sym (known_is c l masks outs g.blocks to)) ∙ k);
    reads = λ q w r at e a. cared_read masks outs g (λ l. IsInKeptSet g l) (blocks_placed p g whole) (jumps_last (IsKeptLanding g) g whole.form) (lands p g whole) checked are q w r e a;
    flows = λ q w to r at e t k. cared_flow masks outs g (λ l. IsInKeptSet g l) (blocks_placed p g whole) (jumps_last (IsKeptLanding g) g whole.form) (lands p g whole) checked are q w to r at.0 e t k;
  }

  pub far_keeps : Keeps p g new
  far_keeps =
      ends_keep p g new frame (IsKeptLanding g) _ _ _ _
      (pass.reducing c (next_word (words new)) (IsKeptLanding g) At new cared (known_at c g.blocks) halves (Here p g whole) reduces
      (graph.flows p g new whole ordered f in_place all (λ q. Unit {0}) cared halves word) (here_keeps p g whole) (λ s w i e. let k = known_there p g whole s w i e in (k.0, (k.1, tt))) (first_lands p g whole))
      f (λ c. true) (λ c. c.last)
      (block_edited g new b n one f ordered f_out block made.label made.opening made.last (λ w u h e. in_place w u e) addresses)
      ordered (pairs_apart p prog new onward.goes_on.graph) (λ input n c clean r c' h l. refl) (λ c pair q h k i o e. e)

  becomes : (w v : Word) → Has (words g) w → f w ≡ Some v → BecomesWord p g w v
  becomes w v h e = by_at (at_some (block_words b) w.at) refl e
    where
      high_baseless : v.act ≡ act.AddrHi l.ra l.rb (far_target l) → NeedsNoBase g v
      high_baseless a = (λ i gp t k. no_use i gp t (sym a ∙ k), λ k. absurd (not_31 (subst (λ (x : Act). IsIdle x) a k)))
        where
          no_use : (i : Instr) (gp : ℕ) (t : Target) → act.AddrHi l.ra l.rb (far_target l) ≡ act.UseGp i gp t → ⊥
          no_use i gp t k = cc

      low_baseless : (j : Instr) → v.act ≡ act.UseLo j l.hi (far_target l) → NeedsNoBase g v
      low_baseless j a = (λ i gp t k. no_use i gp t (sym a ∙ k), λ k. absurd (subst (λ (x : Act). IsIdle x) a k))
        where
          no_use : (i : Instr) (gp : ℕ) (t : Target) → act.UseLo j l.hi (far_target l) ≡ act.UseGp i gp t → ⊥
          no_use i gp t k = cc

      by_far : Has (block_words b) w → IsFar l w v → BecomesWord p g w v
      by_far k (half c i) = baseless (high_baseless (ap (λ (x : Word). x.act) i))
      by_far k (use_of_half c u i) =
          let y = use_word p prog l b n is made in_block w k u in
          baseless (low_baseless y.instr (ap (λ (x : Word). x.act) i ∙ ap (λ (x : Act). use_act l x) y.plain))
      by_far k (as_is c u i) = stays (sym i)

      by_at : (t : Bool) → at_some (block_words b) w.at ≡ t → cond t (far_change l w) (Some w) ≡ Some v → BecomesWord p g w v
      by_at true t e = by_far (in_b w h t) (far_some l w v e)
      by_at false t e = let same : w ≡ v = cc in stays same

  never : (w : Word) → Has (words g) w → f w ≡ None → ⊥
  never w h e = by_at (at_some (block_words b) w.at) e
    where
      by_at : (t : Bool) → cond t (far_change l w) (Some w) ≡ None → ⊥
      by_at true e = cc
      by_at false e = cc

  pub far_step : Step p g new
  far_step = record {
    rewrite = record {
      keeps = far_keeps;
      goes_on = onward.goes_on;
      lighter = onward.lighter;
      bases = bases_stay p prog g new m.graph f all far_keeps onward.goes_on.graph becomes;
    };
    pairs = pairs_same p prog g new m.graph f all (λ w v h e. in_place w v e) never;
  }
