-- A walk enters a block where control goes to it from the end of another: by its last word, by a fall or by a register.
use Rattle.std.proofs.Common.{◌≡◌, inl, inr, ℕ, Bool, true, false, cond, List, [], ◌∷◌, ◌++◌, Option, Some, None, refl, sym, ap, ◌∙◌, subst}
use Rattle.std.specs.Prelude.{◌↔◌, map, option_map}
use Rattle.std.proofs.lemmas.Bool.{true≢false, eqb-true, eq-eqb}
use Rattle.om_isa.specs.declared.instr.Instr.{Instr}
use Rattle.om_isa.specs.declared.instr.Instr.TheVariants.{Mem, Jump, Branch, Alu, Cmov, Misc, Fnop, Halt, Callsys}
use Rattle.om_value.specs.declared.value.Place.{Place}
use Rattle.om_prog.specs.Act.{Word}
use Rattle.om_prog.specs.Act as act
use Rattle.om_prog.specs.Flow.{act_jumps}
use Rattle.om_graph.specs.declared.op.Last.{Last}
use Rattle.om_graph.specs.declared.op.Last.TheVariants as last
use Rattle.om_graph.specs.View.{Block, GraphView, Has, ops_of, labelled, label_of, block_id_after}
use Rattle.om_graph.specs.Held.{IsGraph}
use Rattle.om_graph.specs.Form.{LastForm}
use Rattle.om_graph.specs.Kept.{Named, IsKeptLanding, FallsOn}
use Rattle.om_graph.specs.Outs.{falls_on}
use Rattle.om_graph.specs.Run.{op_word, last_words}
use Rattle.om_graph.specs.Checks.{Next, Enters, falls_in, jumps_in, IsLastWord}
use Rattle.om_graph.proofs.Blocks.{next_has}
use Rattle.om_blocks.specs.declared.exits.Exit.TheVariants as exit
use Rattle.om_blocks.specs.IsFlow.{HasFlow}
use Rattle.om_blocks.specs.Exits.{exit_at, last_exit, same_text, in_text, next_fallen, Leads, JumpsBy}
use Rattle.om_blocks.proofs.Walking.{found_here}
use Rattle.om_blocks.proofs.OfFlow.{same_id, labelled_is}
use Rattle.om_blocks.proofs.LastWords.{is_last, last_splits, op_stays, next_after, after_next, AtLabel, at_none, at_block, at_label}

some_id : (a b : ℕ) → Some a ≡ Some b → a ≡ b
some_id a b e = cc

pub to_block : (o : Option ℕ) (id : ℕ) → exit_at o ≡ exit.Block id → o ≡ Some id
to_block None id e = cc
to_block (Some k) id e = let s : k ≡ id = cc in ap Some s

by_none : (o : Option ℕ) → exit_at o ≡ exit.ByRegister → ⊥
by_none None e = cc
by_none (Some k) e = cc

pub falls_true : (l : Last) → FallsOn l → falls_on l ≡ true
falls_true last.Fall h = refl
falls_true (last.Cond at i to) h = refl
falls_true last.Off h = absurd h
falls_true (last.Br at op ra to) h = absurd h
falls_true (last.Call at op ra to) h = absurd h
falls_true (last.CallBy at i) h = absurd h
falls_true (last.JumpBy at i) h = absurd h

true_falls : (l : Last) → falls_on l ≡ true → FallsOn l
true_falls last.Fall h = tt
true_falls (last.Cond at i to) h = tt
true_falls last.Off h = true≢false (sym h)
true_falls (last.Br at op ra to) h = true≢false (sym h)
true_falls (last.Call at op ra to) h = true≢false (sym h)
true_falls (last.CallBy at i) h = true≢false (sym h)
true_falls (last.JumpBy at i) h = true≢false (sym h)

-- the word that ends a block goes to a place by number, or jumps
data Ends (l : Last) : Type 0 where
  none : last_words l ≡ [] → ((g : GraphView) → last_exit g l ≡ exit.Nowhere) → Ends l
  goes : (w : Word) (to : Place) → last_words l ≡ w ∷ [] → ((g : GraphView) (q : Place) → act_jumps (IsKeptLanding g) w.act q ↔ (to ≡ q)) → ((g : GraphView) → last_exit g l ≡ exit_at (labelled g to)) → Ends l
  by : (w : Word) → last_words l ≡ w ∷ [] → ((g : GraphView) (q : Place) → act_jumps (IsKeptLanding g) w.act q ↔ IsKeptLanding g q) → ((g : GraphView) → last_exit g l ≡ exit.ByRegister) → Ends l

ends : (l : Last) → LastForm l → Ends l
ends last.Fall f = none refl (λ g. refl)
ends last.Off f = none refl (λ g. refl)
ends (last.Br at op ra to) f = goes (record { at = at; act = act.To op ra to }) to refl (λ K q. (λ x. x, λ x. x)) (λ g. refl)
ends (last.Call at op ra to) f = goes (record { at = at; act = act.To op ra to }) to refl (λ K q. (λ x. x, λ x. x)) (λ g. refl)
ends (last.Cond at i to) f = by_instr i f
  where
    by_instr : (i : Instr) → LastForm (last.Cond at i to) → Ends (last.Cond at i to)
    by_instr (Branch op ra d) f = goes (record { at = at; act = act.To op ra to }) to refl (λ K q. (λ x. x, λ x. x)) (λ g. refl)
    by_instr (Mem op ra rb d) f = absurd f
    by_instr (Jump k ra rb h) f = absurd f
    by_instr (Alu op ra rb rc) f = absurd f
    by_instr (Cmov k ra rb rc) f = absurd f
    by_instr (Misc op ra rb) f = absurd f
    by_instr Fnop f = absurd f
    by_instr Halt f = absurd f
    by_instr Callsys f = absurd f
ends (last.CallBy at i) f = by_instr i f
  where
    by_instr : (i : Instr) → LastForm (last.CallBy at i) → Ends (last.CallBy at i)
    by_instr (Jump k ra rb h) f = by (record { at = at; act = act.Plain (Jump k ra rb h) }) refl (λ K q. (λ x. x, λ x. x)) (λ g. refl)
    by_instr (Branch op ra d) f = absurd f
    by_instr (Mem op ra rb d) f = absurd f
    by_instr (Alu op ra rb rc) f = absurd f
    by_instr (Cmov k ra rb rc) f = absurd f
    by_instr (Misc op ra rb) f = absurd f
    by_instr Fnop f = absurd f
    by_instr Halt f = absurd f
    by_instr Callsys f = absurd f
ends (last.JumpBy at i) f = by_instr i f
  where
    by_instr : (i : Instr) → LastForm (last.JumpBy at i) → Ends (last.JumpBy at i)
    by_instr (Jump k ra rb h) f = by (record { at = at; act = act.Plain (Jump k ra rb h) }) refl (λ K q. (λ x. x, λ x. x)) (λ g. refl)
    by_instr (Branch op ra d) f = absurd f
    by_instr (Mem op ra rb d) f = absurd f
    by_instr (Alu op ra rb rc) f = absurd f
    by_instr (Cmov k ra rb rc) f = absurd f
    by_instr (Misc op ra rb) f = absurd f
    by_instr Fnop f = absurd f
    by_instr Halt f = absurd f
    by_instr Callsys f = absurd f

pub entering : (g : GraphView) (b n : Block) → Enters g b n → Has g.blocks b × Has g.blocks n
entering g b n (falls_in h o f) = next_has g.blocks b n h
entering g b n (jumps_in w hb hn l j) = (hb, hn)

-- the kept block of a label
pub labelled_block : (g : GraphView) (q : Place) (id : ℕ) → labelled g q ≡ Some id → (n : Block) × Has g.blocks n × (n.label ≡ q) × (n.id ≡ id)
labelled_block g q id e = by_label (at_label g q)
  where
    by_label : AtLabel g q (labelled g q) → (n : Block) × Has g.blocks n × (n.label ≡ q) × (n.id ≡ id)
    by_label (at_none f) = cc
    by_label (at_block n h l f) = (n, h, l, some_id n.id id (sym f ∙ e))

ends_here : (b : Block) (w : Word) → last_words b.last ≡ w ∷ [] → IsLastWord b w
ends_here b w e =
    let r = last_splits (map (op_word (ops_of b)) (ops_of b)) w in
    (r.0, r.1 ∙ ap (λ (l : List Word). map (op_word (ops_of b)) (ops_of b) ++ l) (sym e))

module _ (g : GraphView) where
  -- the block that an exit names
  pub exit_block : (l : Last) (id : ℕ) → last_exit g l ≡ exit.Block id → (n : Block) × Has g.blocks n × (n.id ≡ id)
  exit_block l id e = by_last l e
    where
      by_label : (q : Place) → exit_at (labelled g q) ≡ exit.Block id → (n : Block) × Has g.blocks n × (n.id ≡ id)
      by_label q e = let r = labelled_block g q id (to_block (labelled g q) id e) in (r.0, r.1, r.3)

      by_last : (l : Last) → last_exit g l ≡ exit.Block id → (n : Block) × Has g.blocks n × (n.id ≡ id)
      by_last last.Fall e = cc
      by_last last.Off e = cc
      by_last (last.Br at op ra to) e = by_label to e
      by_last (last.Cond at i to) e = by_label to e
      by_last (last.Call at op ra to) e = by_label to e
      by_last (last.CallBy at i) e = cc
      by_last (last.JumpBy at i) e = cc

  in_text_after : (id : ℕ) (o : Option ℕ) (k : ℕ) → in_text g id o ≡ Some k → (o ≡ Some k) × (same_text (label_of g id) (label_of g k) ≡ true)
  in_text_after id None k e = cc
  in_text_after id (Some n) k e = by_test (same_text (label_of g id) (label_of g n)) refl e
    where
      by_test : (t : Bool) → same_text (label_of g id) (label_of g n) ≡ t → cond t (Some n) None ≡ Some k → (Some n ≡ Some k) × (same_text (label_of g id) (label_of g k) ≡ true)
      by_test false q s = cc
      by_test true q s = (s, subst (λ (i : ℕ). same_text (label_of g id) (label_of g i) ≡ true) (some_id n k s) q)

  fallen_after : (id : ℕ) (l : Last) (k : ℕ) → next_fallen g id l ≡ Some k → (falls_on l ≡ true) × (block_id_after id g.blocks ≡ Some k) × (same_text (label_of g id) (label_of g k) ≡ true)
  fallen_after id l k e = by_test (falls_on l) refl e
    where
      by_test : (t : Bool) → falls_on l ≡ t → cond t (in_text g id (block_id_after id g.blocks)) None ≡ Some k → (falls_on l ≡ true) × (block_id_after id g.blocks ≡ Some k) × (same_text (label_of g id) (label_of g k) ≡ true)
      by_test false q s = cc
      by_test true q s = let r = in_text_after id (block_id_after id g.blocks) k s in (q, r.0, r.1)

  -- the block of a fall
  pub fallen_block : (id : ℕ) (l : Last) (k : ℕ) → next_fallen g id l ≡ Some k → (n : Block) × Has g.blocks n × (n.id ≡ k)
  fallen_block id l k e =
      let r = after_next g.blocks id k (fallen_after id l k e).1 in
      (r.1, (next_has g.blocks r.0 r.1 r.2).1, r.4)

module _ (g : GraphView) (graph : IsGraph g) where
  pub label_is : (n : Block) → Has g.blocks n → labelled g n.label ≡ Some n.id
  label_is n h = ap (option_map (λ (x : Block). x.id)) (labelled_is g.blocks n graph.blocks h)

  label_here : (b : Block) → Has g.blocks b → label_of g b.id ≡ Some b.label
  label_here b h = ap (option_map (λ (x : Block). x.label)) (found_here g graph b b.id h refl).0

  pub next_is : (b n : Block) → Next g.blocks b n → n.label.obj ≡ b.label.obj → in_text g b.id (block_id_after b.id g.blocks) ≡ Some n.id
  next_is b n h o =
      let k = next_has g.blocks b n h in
      let after = next_after g.blocks b n graph.block_ids h in
      let lb = label_here b k.0 in
      let ln = label_here n k.1 in
      let e : same_text (label_of g b.id) (label_of g n.id) ≡ true = rw (lb, ln) (eq-eqb n.label.obj b.label.obj o) in
      ap (in_text g b.id) after ∙ ap (λ (t : Bool). cond t (Some n.id) None) e

  same_block : (q : Place) (n : Block) → Has g.blocks n → labelled g q ≡ Some n.id → q ≡ n.label
  same_block q n hn e =
      let r = labelled_block g q n.id e in
      sym r.2 ∙ ap (λ (x : Block). x.label) (same_id g.blocks r.0 n graph.block_ids r.1 hn r.3)

module _ (g : GraphView) (graph : IsGraph g) (flow : HasFlow g) where
  enters_exit : (b n : Block) → Has g.blocks b → Has g.blocks n → last_exit g b.last ≡ exit.Block n.id → Enters g b n
  enters_exit b n hb hn e = by_end (ends b.last (flow.form.lasts b hb))
    where
      by_end : Ends b.last → Enters g b n
      by_end (none s m) = let k = m g in cc
      by_end (by w s j m) = let k = m g in cc
      by_end (goes w to s j m) = jumps_in w hb hn (ends_here b w s) ((j g n.label).1 (same_block g graph to n hn (to_block (labelled g to) n.id (sym (m g) ∙ e))))

  -- where control falls
  pub fallen_next : (b n : Block) → Has g.blocks b → Has g.blocks n → next_fallen g b.id b.last ≡ Some n.id → Next g.blocks b n × (n.label.obj ≡ b.label.obj) × FallsOn b.last
  fallen_next b n hb hn e =
      let f = fallen_after g b.id b.last n.id e in
      let r = after_next g.blocks b.id n.id f.1 in
      let h = next_has g.blocks r.0 r.1 r.2 in
      let x : r.0 ≡ b = same_id g.blocks r.0 b graph.block_ids h.0 hb r.3 in
      let y : r.1 ≡ n = same_id g.blocks r.1 n graph.block_ids h.1 hn r.4 in
      let z : same_text (Some b.label) (Some n.label) ≡ true =
      subst (λ (o : Option Place). same_text o (Some n.label) ≡ true) (label_here g graph b hb)
      (subst (λ (o : Option Place). same_text (label_of g b.id) o ≡ true) (label_here g graph n hn) f.2) in
      (subst (λ (c : Block). Next g.blocks c n) x (subst (λ (c : Block). Next g.blocks r.0 c) y r.2), eqb-true n.label.obj b.label.obj z, true_falls b.last f.0)

  enters_fall : (b n : Block) → Has g.blocks b → Has g.blocks n → next_fallen g b.id b.last ≡ Some n.id → Enters g b n
  enters_fall b n hb hn e = let r = fallen_next b n hb hn e in falls_in r.0 r.1 r.2

  pub enters_led : (b n : Block) → Has g.blocks b → Has g.blocks n → Leads g b n.id → Enters g b n
  enters_led b n hb hn (inl e) = enters_exit b n hb hn e
  enters_led b n hb hn (inr e) = enters_fall b n hb hn e

  pub enters_named : (b n : Block) → Has g.blocks b → Has g.blocks n → JumpsBy g b → Named g n.label → Enters g b n
  enters_named b n hb hn e h = by_end (ends b.last (flow.form.lasts b hb))
    where
      by_end : Ends b.last → Enters g b n
      by_end (none s m) = let k = m g in cc
      by_end (goes w to s j m) = absurd (by_none (labelled g to) (sym (m g) ∙ e))
      by_end (by w s j m) = jumps_in w hb hn (ends_here b w s) ((j g n.label).1 (record { named = h; kept = inl (n, hn, refl) }))

  -- how a walk enters a block
  pub data Entered (b n : Block) : Type 0 where
    led : Leads g b n.id → Entered b n
    by_jump : JumpsBy g b → Named g n.label → Entered b n

  pub entered : (b n : Block) → Enters g b n → Entered b n
  entered b n (falls_in h o f) =
      led (inr (ap (λ (t : Bool). cond t (in_text g b.id (block_id_after b.id g.blocks)) None) (falls_true b.last f) ∙ next_is g graph b n h o))
  entered b n (jumps_in w hb hn (bf, s) j) = by_end (ends b.last (flow.form.lasts b hb))
    where
      by_end : Ends b.last → Entered b n
      by_end (none e m) = absurd (op_stays (IsKeptLanding g) g flow.form b w n.label hb e (bf, s) j)
      by_end (goes x to e i m) =
          let same : w ≡ x = is_last bf w (map (op_word (ops_of b)) (ops_of b)) x (s ∙ ap (λ (l : List Word). map (op_word (ops_of b)) (ops_of b) ++ l) e) in
          let there : to ≡ n.label = (i g n.label).0 (subst (λ (y : Word). act_jumps (IsKeptLanding g) y.act n.label) same j) in
          led (inl (m g ∙ ap exit_at (ap (labelled g) there ∙ label_is g graph n hn)))
      by_end (by x e i m) =
          let same : w ≡ x = is_last bf w (map (op_word (ops_of b)) (ops_of b)) x (s ∙ ap (λ (l : List Word). map (op_word (ops_of b)) (ops_of b) ++ l) e) in
          let land : IsKeptLanding g n.label = (i g n.label).0 (subst (λ (y : Word). act_jumps (IsKeptLanding g) y.act n.label) same j) in
          by_jump (m g) land.named
