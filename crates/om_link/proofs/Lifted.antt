-- The graph that a program is lifted to: it has the program's words, no word of it came from rewriting, and its branches are
-- those of the program.
use Rattle.std.proofs.Common.{◌≡◌, inl, inr, ℕ, Bool, true, false, cond, List, [], ◌∷◌, Option, Some, None, refl, ap, sym, subst, ◌∙◌}
use Rattle.std.specs.Prelude.{find, is_some, map, option_map}
use Rattle.om_isa.specs.declared.instr.BrOp.{BrOp}
use Rattle.om_isa.specs.declared.instr.Instr.{Instr}
use Rattle.om_isa.specs.declared.instr.Instr.TheVariants.{Mem, Jump, Branch, Alu, Cmov, Misc, Fnop, Halt, Callsys}
use Rattle.om_value.specs.declared.value.Place.{Place}
use Rattle.om_value.specs.declared.value.Target.{Target}
use Rattle.om_value.specs.Same.{place_eq}
use Rattle.om_prog.specs.declared.item.Role.{Role}
use Rattle.om_prog.specs.declared.item.Role.TheVariants as role
use Rattle.om_prog.specs.declared.item.Item.{Item}
use Rattle.om_prog.specs.Act.{Act, Word}
use Rattle.om_prog.specs.Act as act
use Rattle.om_prog.specs.View.{ProgramView, item_at}
use Rattle.om_prog.specs.Script.{act_of, program_fetch}
use Rattle.om_prog.specs.Step.{next_place}
use Rattle.om_prog.specs.Valid.{IsProgram}
use Rattle.om_graph.specs.declared.op.Op.{Op}
use Rattle.om_graph.specs.declared.op.Last.{Last}
use Rattle.om_graph.specs.declared.op.Last.TheVariants.{Fall, Off, Br, Cond, Call, CallBy, JumpBy}
use Rattle.om_graph.specs.View.{Block, Shape, GraphView, Has, ops_of, shape_of}
use Rattle.om_graph.specs.Run.{words, last_words, op_word}
use Rattle.om_graph.specs.Form.{ends_block, LastForm}
use Rattle.om_graph.specs.Index.{BranchInReach, BranchesInReach}
use Rattle.om_graph.specs.Fits.{OpFits, OpsFit}
use Rattle.om_graph.specs.LeftIn.{is_kept}
use Rattle.om_graph.specs.Lifted.{kind_of, op_of_item, piece_ops, IsLifted}
use Rattle.om_graph.proofs.Labels.{append_right, self_eq}
use Rattle.om_graph.proofs.Fetching.{found_has}
use Rattle.om_graph.proofs.LiftedRun.{lifted_words, next_is}
use Rattle.om_graph.proofs.LiftedOf.{shape_here, lifted_form}
use Rattle.om_graph.proofs.OfProgram.{IsShape, is_shape, shape_word}
use Rattle.om_link.specs.Plain.{BranchesReach}
use Rattle.om_link.proofs.Reach.{stands_in}

-- ---- ops

module _ (p : ProgramView) (gp : ℕ → ℕ) (address : Target → ℕ) (b : Block) (at : Place) where
  -- no word of a program is one that rewriting makes
  kind_fits : (r : Role) (i : Instr) → OpFits p gp address b at (kind_of r i)
  kind_fits role.Plain (Mem o ra rb d) = tt
  kind_fits role.Plain (Jump k ra rb h) = tt
  kind_fits role.Plain (Branch o ra d) = tt
  kind_fits role.Plain (Alu o ra rb rc) = tt
  kind_fits role.Plain (Cmov k ra rb rc) = tt
  kind_fits role.Plain (Misc o ra rb) = tt
  kind_fits role.Plain Fnop = tt
  kind_fits role.Plain Halt = tt
  kind_fits role.Plain Callsys = tt
  kind_fits (role.Lit t) (Mem o ra rb d) = tt
  kind_fits (role.Lit t) (Jump k ra rb h) = tt
  kind_fits (role.Lit t) (Branch o ra d) = tt
  kind_fits (role.Lit t) (Alu o ra rb rc) = tt
  kind_fits (role.Lit t) (Cmov k ra rb rc) = tt
  kind_fits (role.Lit t) (Misc o ra rb) = tt
  kind_fits (role.Lit t) Fnop = tt
  kind_fits (role.Lit t) Halt = tt
  kind_fits (role.Lit t) Callsys = tt
  kind_fits (role.GpHi base) (Mem o ra rb d) = tt
  kind_fits (role.GpHi base) (Jump k ra rb h) = tt
  kind_fits (role.GpHi base) (Branch o ra d) = tt
  kind_fits (role.GpHi base) (Alu o ra rb rc) = tt
  kind_fits (role.GpHi base) (Cmov k ra rb rc) = tt
  kind_fits (role.GpHi base) (Misc o ra rb) = tt
  kind_fits (role.GpHi base) Fnop = tt
  kind_fits (role.GpHi base) Halt = tt
  kind_fits (role.GpHi base) Callsys = tt
  kind_fits (role.GpLo hi) (Mem o ra rb d) = tt
  kind_fits (role.GpLo hi) (Jump k ra rb h) = tt
  kind_fits (role.GpLo hi) (Branch o ra d) = tt
  kind_fits (role.GpLo hi) (Alu o ra rb rc) = tt
  kind_fits (role.GpLo hi) (Cmov k ra rb rc) = tt
  kind_fits (role.GpLo hi) (Misc o ra rb) = tt
  kind_fits (role.GpLo hi) Fnop = tt
  kind_fits (role.GpLo hi) Halt = tt
  kind_fits (role.GpLo hi) Callsys = tt
  kind_fits (role.To q) (Mem o ra rb d) = tt
  kind_fits (role.To q) (Jump k ra rb h) = tt
  kind_fits (role.To q) (Branch o ra d) = tt
  kind_fits (role.To q) (Alu o ra rb rc) = tt
  kind_fits (role.To q) (Cmov k ra rb rc) = tt
  kind_fits (role.To q) (Misc o ra rb) = tt
  kind_fits (role.To q) Fnop = tt
  kind_fits (role.To q) Halt = tt
  kind_fits (role.To q) Callsys = tt

-- an op of a piece is that of one of its words
piece_op : (at : Place) (items : List Item) (o : Op) → Has (piece_ops at items) o → (q : Place) × (i : Item) × (op_of_item q i ≡ o)
piece_op at [] o h = absurd h
piece_op at (i ∷ []) o h = by_end (ends_block i.instr) h
  where
    by_end : (b : Bool) → Has (cond b [] (op_of_item at i ∷ [])) o → (q : Place) × (j : Item) × (op_of_item q j ≡ o)
    by_end true h = absurd h
    by_end false (inl e) = (at, i, e)
    by_end false (inr h) = absurd h
piece_op at (i ∷ j ∷ is) o (inl e) = (at, i, e)
piece_op at (i ∷ j ∷ is) o (inr h) = piece_op (next_place at) (j ∷ is) o h

found_kept : (ws : List Word) (w : Word) → Has ws w → is_some (find (λ v. place_eq v.at w.at) ws) ≡ true
found_kept [] w h = absurd h
found_kept (v ∷ ws) w h = by_test (place_eq v.at w.at) refl h (found_kept ws w)
  where
    by_test : (b : Bool) → place_eq v.at w.at ≡ b → Has (v ∷ ws) w → (Has ws w → is_some (find (λ v. place_eq v.at w.at) ws) ≡ true) → is_some (cond b (Some v) (find (λ v. place_eq v.at w.at) ws)) ≡ true
    by_test true e h rest = refl
    by_test false e (inl same) rest = let never : true ≡ false = sym (self_eq w.at) ∙ sym (ap (λ (x : Word). place_eq x.at w.at) same) ∙ e in cc
    by_test false e (inr h) rest = rest h

module _ (p : ProgramView) (prog : IsProgram p) (g : GraphView) (lifted : IsLifted p g) where
  here : (b : Block) → Has g.blocks b → IsShape p (shape_of b)
  here b h = is_shape p (shape_of b) (shape_here p prog g lifted b h)

  pub ops_fit : (gp : ℕ → ℕ) (address : Target → ℕ) → OpsFit p gp address g
  ops_fit gp address = record {
    ops = λ b o h m.
        let s = here b h in
        let a = piece_op s.piece.from s.piece.items o (subst (λ (os : List Op). Has os o) (sym (ap (λ (x : Shape). x.ops) s.shape)) m) in
        subst (λ (x : Op). OpFits p gp address b o.place x.kind) a.2 (kind_fits p gp address b o.place a.1.role a.1.instr);
  }

  -- ---- words

  pub has_word : (q : Place) (w : Word) → program_fetch p q ≡ Some w → Has (words g) w
  has_word q w h = by_item (item_at p q) refl h
    where
      by_item : (o : Option Item) → item_at p q ≡ o → option_map (λ (i : Item). let v : Word = record { at = q; act = act_of i.role i.instr } in v) o ≡ Some w → Has (words g) w
      by_item None e f = cc
      by_item (Some i) e f =
          let s = stands_in p q i e in
          subst (λ (ws : List Word). Has ws w) (sym (lifted_words p prog g lifted))
          (found_has _ q w (next_is p q s.aligned ∙ h))

  pub each_kept : (q : Place) (item : Item) → item_at p q ≡ Some item → is_kept g q ≡ true
  each_kept q item e =
      let w : Word = record { at = q; act = act_of item.role item.instr } in
      found_kept (words g) w (has_word q w (ap (λ (o : Option Item). option_map (λ (i : Item). let v : Word = record { at = q; act = act_of i.role i.instr } in v) o) e))

  -- ---- branches

  module _ (reach : BranchesReach p) where
    word_reaches : (b : Block) (h : Has g.blocks b) (at to : Place) (o : BrOp) (ra : ℕ) → Has (last_words b.last) (record { at = at; act = act.To o ra to }) → BranchInReach g.counts (Br at o ra to)
    word_reaches b h at to o ra m =
        let w : Word = record { at = at; act = act.To o ra to } in
        let s = here b h in
        let v = shape_word p prog (shape_of b) s w (append_right (map (op_word (ops_of b)) (ops_of b)) (last_words b.last) w m) in
        let f : program_fetch p at ≡ Some w =
        ap (λ (x : Option Item). option_map (λ (i : Item). let y : Word = record { at = at; act = act_of i.role i.instr } in y) x) v.there ∙ ap (λ (y : Word). Some y) v.word in
        subst (λ (cs : List ℕ). BranchInReach cs (Br at o ra to)) (sym lifted.counts) (reach.each at to o ra f)

    last_reaches : (b : Block) → Has g.blocks b → (l : Last) → b.last ≡ l → LastForm l → BranchInReach g.counts l
    last_reaches b h (Br at o ra to) e f = word_reaches b h at to o ra (subst (λ (l : Last). Has (last_words l) (record { at = at; act = act.To o ra to })) (sym e) (inl refl))
    last_reaches b h (Call at o ra to) e f = word_reaches b h at to o ra (subst (λ (l : Last). Has (last_words l) (record { at = at; act = act.To o ra to })) (sym e) (inl refl))
    last_reaches b h (Cond at (Branch o ra d) to) e f = word_reaches b h at to o ra (subst (λ (l : Last). Has (last_words l) (record { at = at; act = act.To o ra to })) (sym e) (inl refl))
    last_reaches b h (Cond at (Mem o ra rb d) to) e f = absurd f
    last_reaches b h (Cond at (Jump k ra rb x) to) e f = absurd f
    last_reaches b h (Cond at (Alu o ra rb rc) to) e f = absurd f
    last_reaches b h (Cond at (Cmov k ra rb rc) to) e f = absurd f
    last_reaches b h (Cond at (Misc o ra rb) to) e f = absurd f
    last_reaches b h (Cond at Fnop to) e f = absurd f
    last_reaches b h (Cond at Halt to) e f = absurd f
    last_reaches b h (Cond at Callsys to) e f = absurd f
    last_reaches b h Fall e f = tt
    last_reaches b h Off e f = tt
    last_reaches b h (CallBy at i) e f = tt
    last_reaches b h (JumpBy at i) e f = tt

    pub branches_in_reach : BranchesInReach g
    branches_in_reach = record { lasts = λ b h. last_reaches b h b.last refl ((lifted_form p prog g lifted).lasts b h) }
