-- The targets of the address ops of a program's graph are the program's, and their least displacements are of 16 bits.
use Rattle.std.proofs.Common.{◌≡◌, ◌⊎◌, inl, inr, ◌/◌, ℕ, Bool, true, false, cond, ◌==◌, List, [], ◌∷◌, Option, Some, None, refl, sym, ap, ◌∙◌, subst, arith, rules}
use Rattle.std.specs.Prelude.{ℤ, FitsSigned, map, option_and_then, option_map}
use Rattle.std.specs.Int.{w16, cast_signed}
use Rattle.std.specs.Option.{option_or}
use Rattle.std.proofs.lemmas.Int.{ints}
use Rattle.om_isa.specs.declared.instr.MemOp.TheVariants.{Lda, Ldah, Ldbu, LdqU, Ldwu, Stw, Stb, StqU, Ldl, Ldq, Stl, Stq}
use Rattle.om_isa.specs.declared.instr.Instr.{Instr}
use Rattle.om_isa.specs.declared.instr.Instr.TheVariants.{Mem, Jump, Branch, Alu, Cmov, Misc, Fnop, Halt, Callsys}
use Rattle.om_isa.specs.Codes.{fnop_word, halt_word, callsys_word}
use Rattle.om_isa.specs.Fields.{field, disp_of}
use Rattle.om_isa.specs.Words.{opcode, operand_at, reg_a, reg_b, reg_c, instr_of, memory_at, branch_at, jump_at, misc_at, move_at, operate_at, fixed_at}
use Rattle.om_isa.proofs.Rows.{jump_found, misc_found, move_found, operate_found}
use Rattle.om_isa.proofs.Found.{or_some, map_some}
use Rattle.om_value.specs.declared.value.Place.{Place}
use Rattle.om_value.specs.declared.value.Target.{Target}
use Rattle.om_value.specs.declared.value.Target.TheVariants as target
use Rattle.om_value.specs.Same.{place_eq}
use Rattle.om_prog.specs.declared.item.Item.{Item}
use Rattle.om_prog.specs.declared.item.Role.{Role}
use Rattle.om_prog.specs.declared.item.Role.TheVariants as role
use Rattle.om_prog.specs.Act as act
use Rattle.om_prog.specs.Act.{Act, Word}
use Rattle.om_prog.specs.Script.{act_of, program_fetch}
use Rattle.om_prog.specs.View.{ProgramView}
use Rattle.om_prog.specs.Valid.{IsProgram, is_target, fits}
use Rattle.om_graph.specs.declared.op.Op.{Op}
use Rattle.om_graph.specs.declared.op.OpKind.{OpKind}
use Rattle.om_graph.specs.declared.op.OpKind.TheVariants as op
use Rattle.om_graph.specs.View.{Block, GraphView, Has, ops_of}
use Rattle.om_graph.specs.Run.{block_words, shape_words, last_words, op_word, op_act, target_at, high_target, use_of}
use Rattle.om_graph.specs.OfProgram.{IsForm, as_was, near, number, far, by_gp, by_high, byte, called, direct, IsGraphOf, TakesHigh}
use Rattle.om_graph.specs.Uses.{IsBaseUse}
use Rattle.om_graph.proofs.Labels.{append_left, self_eq}
use Rattle.om_graph.proofs.OfProgram.{to_map}
use Rattle.om_passes.proofs.Betweens.{first_in}
use Rattle.om_passes.proofs.Origins.{SourceOf, source_of, source_fetch}
use Rattle.om_passes.proofs.Sources.{some_item, in_text, role_fits}
use Rattle.om_shrink.specs.Placed.{OpPlaced, ArePlaced}

-- ---- displacements that are read

abbrev Short : Instr → Type 0
Short (Mem op ra rb d) = FitsSigned w16 d
Short _ = Unit {0}

map_short : {A : Type 0} (f : A → Instr) (o : Option A) (i : Instr) → ((x : A) → Short (f x)) → option_map f o ≡ Some i → Short i
map_short f o i h e = let m = map_some f o i e in subst (λ (j : Instr). Short j) m.2 (h m.0)

if_short : (b : Bool) (o : Option Instr) (i : Instr) → (o ≡ Some i → Short i) → cond b o None ≡ Some i → Short i
if_short true o i h e = h e
if_short false o i h e = cc

then_short : {A : Type 0} (f : A → Option Instr) (o : Option A) (i : Instr) → ((x : A) → f x ≡ Some i → Short i) → option_and_then f o ≡ Some i → Short i
then_short f None i h e = cc
then_short f (Some x) i h e = h x e

memory_short : (w : ℕ) (i : Instr) → memory_at w ≡ Some i → Short i
unfolding memory_at
memory_short w i e = map_short (λ o. Mem o (reg_a w) (reg_b w) (cast_signed w16 (field w 0 16))) _ i (λ o. low_fits w) e
  where
    low_fits : (w : ℕ) → FitsSigned w16 (cast_signed w16 (field w 0 16))
    low_fits w = search rules

branch_short : (w : ℕ) (i : Instr) → branch_at w ≡ Some i → Short i
unfolding branch_at
branch_short w i e = map_short (λ o. Branch o (reg_a w) (disp_of (field w 0 21))) _ i (λ x. tt) e

jump_short : (w : ℕ) (i : Instr) → jump_at w ≡ Some i → Short i
unfolding jump_at
jump_short w i e =
    if_short (opcode w == 26) (option_map (λ kind. Jump kind (reg_a w) (reg_b w) (field w 0 14)) (jump_found (field w 14 2))) i
    (λ h. map_short (λ kind. Jump kind (reg_a w) (reg_b w) (field w 0 14)) (jump_found (field w 14 2)) i (λ x. tt) h) e

misc_short : (w : ℕ) (i : Instr) → misc_at w ≡ Some i → Short i
unfolding misc_at
misc_short w i e =
    if_short (opcode w == 24) (option_map (λ op. Misc op (reg_a w) (reg_b w)) (misc_found (field w 0 16))) i
    (λ h. map_short (λ op. Misc op (reg_a w) (reg_b w)) (misc_found (field w 0 16)) i (λ x. tt) h) e

move_short : (w : ℕ) (i : Instr) → move_at w ≡ Some i → Short i
unfolding move_at
move_short w i e =
    if_short (opcode w == 17) (option_and_then (λ rb. option_map (λ c. Cmov c (reg_a w) rb (reg_c w)) (move_found (field w 5 7))) (operand_at w)) i
    (λ h.
    then_short (λ rb. option_map (λ c. Cmov c (reg_a w) rb (reg_c w)) (move_found (field w 5 7))) (operand_at w) i
    (λ rb k. map_short (λ c. Cmov c (reg_a w) rb (reg_c w)) (move_found (field w 5 7)) i (λ x. tt) k) h) e

operate_short : (w : ℕ) (i : Instr) → operate_at w ≡ Some i → Short i
unfolding operate_at
operate_short w i e =
    then_short (λ rb. option_map (λ op. Alu op (reg_a w) rb (reg_c w)) (operate_found (opcode w) (field w 5 7))) (operand_at w) i
    (λ rb k. map_short (λ op. Alu op (reg_a w) rb (reg_c w)) (operate_found (opcode w) (field w 5 7)) i (λ x. tt) k) e

fixed_short : (w : ℕ) (i : Instr) → fixed_at w ≡ Some i → Short i
unfolding fixed_at
fixed_short w i e = by_tests (w == fnop_word) (w == halt_word) (w == callsys_word) e
  where
    by_tests : (a b c : Bool) → cond a (Some Fnop) (cond b (Some Halt) (cond c (Some Callsys) None)) ≡ Some i → Short i
    by_tests true b c e = let s : Fnop ≡ i = cc in subst (λ (j : Instr). Short j) s tt
    by_tests false true c e = let s : Halt ≡ i = cc in subst (λ (j : Instr). Short j) s tt
    by_tests false false true e = let s : Callsys ≡ i = cc in subst (λ (j : Instr). Short j) s tt
    by_tests false false false e = cc

word_short : (w : ℕ) (i : Instr) → instr_of w ≡ Some i → Short i
unfolding instr_of
word_short w i e = s1 (or_some (memory_at w) _ i e)
  where
    s6 : (operate_at w ≡ Some i) ⊎ (fixed_at w ≡ Some i) → Short i
    s6 (inl e) = operate_short w i e
    s6 (inr e) = fixed_short w i e

    s5 : (move_at w ≡ Some i) ⊎ (option_or (operate_at w) (fixed_at w) ≡ Some i) → Short i
    s5 (inl e) = move_short w i e
    s5 (inr e) = s6 (or_some (operate_at w) _ i e)

    s4 : (misc_at w ≡ Some i) ⊎ (option_or (move_at w) (option_or (operate_at w) (fixed_at w)) ≡ Some i) → Short i
    s4 (inl e) = misc_short w i e
    s4 (inr e) = s5 (or_some (move_at w) _ i e)

    s3 : (jump_at w ≡ Some i) ⊎ (option_or (misc_at w) (option_or (move_at w) (option_or (operate_at w) (fixed_at w))) ≡ Some i) → Short i
    s3 (inl e) = jump_short w i e
    s3 (inr e) = s4 (or_some (misc_at w) _ i e)

    s2 : (branch_at w ≡ Some i) ⊎ (option_or (jump_at w) (option_or (misc_at w) (option_or (move_at w) (option_or (operate_at w) (fixed_at w)))) ≡ Some i) → Short i
    s2 (inl e) = branch_short w i e
    s2 (inr e) = s3 (or_some (jump_at w) _ i e)

    s1 : (memory_at w ≡ Some i) ⊎ (option_or (branch_at w) (option_or (jump_at w) (option_or (misc_at w) (option_or (move_at w) (option_or (operate_at w) (fixed_at w))))) ≡ Some i) → Short i
    s1 (inl e) = memory_short w i e
    s1 (inr e) = s2 (or_some (branch_at w) _ i e)

base_short : (r : ℕ) (z : ℤ) (i : Instr) → Short i → IsBaseUse r i z → FitsSigned w16 z
base_short r z (Mem o ra rb d) s u = subst (λ (x : ℤ). FitsSigned w16 x) u.1 s
base_short r z (Jump k ra rb h) s u = absurd u
base_short r z (Branch o ra d) s u = absurd u
base_short r z (Alu o ra rb rc) s u = absurd u
base_short r z (Cmov k ra rb rc) s u = absurd u
base_short r z (Misc o ra rb) s u = absurd u
base_short r z Fnop s u = absurd u
base_short r z Halt s u = absurd u
base_short r z Callsys s u = absurd u

-- ---- what a word of the program is

lit_target : (p : ProgramView) (at : Place) (text : List Item) (r : Role) (i : Instr) (ra rb : ℕ) (t : Target) → fits p text at r i ≡ true → act_of r i ≡ act.Lit ra rb t → is_target p t ≡ true
lit_target p at text role.Plain i ra rb t f e = cc
lit_target p at text (role.Lit u) (Mem Ldq rc rd d) ra rb t f e = let s : u ≡ t = cc in ap (is_target p) (sym s) ∙ f
lit_target p at text (role.Lit u) (Mem Lda rc rd d) ra rb t f e = cc
lit_target p at text (role.Lit u) (Mem Ldah rc rd d) ra rb t f e = cc
lit_target p at text (role.Lit u) (Mem Ldbu rc rd d) ra rb t f e = cc
lit_target p at text (role.Lit u) (Mem LdqU rc rd d) ra rb t f e = cc
lit_target p at text (role.Lit u) (Mem Ldwu rc rd d) ra rb t f e = cc
lit_target p at text (role.Lit u) (Mem Stw rc rd d) ra rb t f e = cc
lit_target p at text (role.Lit u) (Mem Stb rc rd d) ra rb t f e = cc
lit_target p at text (role.Lit u) (Mem StqU rc rd d) ra rb t f e = cc
lit_target p at text (role.Lit u) (Mem Ldl rc rd d) ra rb t f e = cc
lit_target p at text (role.Lit u) (Mem Stl rc rd d) ra rb t f e = cc
lit_target p at text (role.Lit u) (Mem Stq rc rd d) ra rb t f e = cc
lit_target p at text (role.Lit u) (Jump k rc rd d) ra rb t f e = cc
lit_target p at text (role.Lit u) (Branch o rc d) ra rb t f e = cc
lit_target p at text (role.Lit u) (Alu o rc rd re) ra rb t f e = cc
lit_target p at text (role.Lit u) (Cmov k rc rd re) ra rb t f e = cc
lit_target p at text (role.Lit u) (Misc o rc rd) ra rb t f e = cc
lit_target p at text (role.Lit u) Fnop ra rb t f e = cc
lit_target p at text (role.Lit u) Halt ra rb t f e = cc
lit_target p at text (role.Lit u) Callsys ra rb t f e = cc
lit_target p at text (role.GpHi q) (Mem o rc rd d) ra rb t f e = cc
lit_target p at text (role.GpHi q) (Jump k rc rd d) ra rb t f e = cc
lit_target p at text (role.GpHi q) (Branch o rc d) ra rb t f e = cc
lit_target p at text (role.GpHi q) (Alu o rc rd re) ra rb t f e = cc
lit_target p at text (role.GpHi q) (Cmov k rc rd re) ra rb t f e = cc
lit_target p at text (role.GpHi q) (Misc o rc rd) ra rb t f e = cc
lit_target p at text (role.GpHi q) Fnop ra rb t f e = cc
lit_target p at text (role.GpHi q) Halt ra rb t f e = cc
lit_target p at text (role.GpHi q) Callsys ra rb t f e = cc
lit_target p at text (role.GpLo q) (Mem o rc rd d) ra rb t f e = cc
lit_target p at text (role.GpLo q) (Jump k rc rd d) ra rb t f e = cc
lit_target p at text (role.GpLo q) (Branch o rc d) ra rb t f e = cc
lit_target p at text (role.GpLo q) (Alu o rc rd re) ra rb t f e = cc
lit_target p at text (role.GpLo q) (Cmov k rc rd re) ra rb t f e = cc
lit_target p at text (role.GpLo q) (Misc o rc rd) ra rb t f e = cc
lit_target p at text (role.GpLo q) Fnop ra rb t f e = cc
lit_target p at text (role.GpLo q) Halt ra rb t f e = cc
lit_target p at text (role.GpLo q) Callsys ra rb t f e = cc
lit_target p at text (role.To q) (Branch o rc d) ra rb t f e = cc
lit_target p at text (role.To q) (Mem o rc rd d) ra rb t f e = cc
lit_target p at text (role.To q) (Jump k rc rd d) ra rb t f e = cc
lit_target p at text (role.To q) (Alu o rc rd re) ra rb t f e = cc
lit_target p at text (role.To q) (Cmov k rc rd re) ra rb t f e = cc
lit_target p at text (role.To q) (Misc o rc rd) ra rb t f e = cc
lit_target p at text (role.To q) Fnop ra rb t f e = cc
lit_target p at text (role.To q) Halt ra rb t f e = cc
lit_target p at text (role.To q) Callsys ra rb t f e = cc

-- a word as it stands is the instruction that was read
plain_is : (r : Role) (i j : Instr) → act_of r i ≡ act.Plain j → i ≡ j
plain_is role.Plain i j e = cc
plain_is (role.Lit t) (Mem o rc rd d) j e = cc
plain_is (role.Lit t) (Jump k rc rd d) j e = cc
plain_is (role.Lit t) (Branch o rc d) j e = cc
plain_is (role.Lit t) (Alu o rc rd re) j e = cc
plain_is (role.Lit t) (Cmov k rc rd re) j e = cc
plain_is (role.Lit t) (Misc o rc rd) j e = cc
plain_is (role.Lit t) Fnop j e = cc
plain_is (role.Lit t) Halt j e = cc
plain_is (role.Lit t) Callsys j e = cc
plain_is (role.GpHi q) (Mem o rc rd d) j e = cc
plain_is (role.GpHi q) (Jump k rc rd d) j e = cc
plain_is (role.GpHi q) (Branch o rc d) j e = cc
plain_is (role.GpHi q) (Alu o rc rd re) j e = cc
plain_is (role.GpHi q) (Cmov k rc rd re) j e = cc
plain_is (role.GpHi q) (Misc o rc rd) j e = cc
plain_is (role.GpHi q) Fnop j e = cc
plain_is (role.GpHi q) Halt j e = cc
plain_is (role.GpHi q) Callsys j e = cc
plain_is (role.GpLo q) (Mem o rc rd d) j e = cc
plain_is (role.GpLo q) (Jump k rc rd d) j e = cc
plain_is (role.GpLo q) (Branch o rc d) j e = cc
plain_is (role.GpLo q) (Alu o rc rd re) j e = cc
plain_is (role.GpLo q) (Cmov k rc rd re) j e = cc
plain_is (role.GpLo q) (Misc o rc rd) j e = cc
plain_is (role.GpLo q) Fnop j e = cc
plain_is (role.GpLo q) Halt j e = cc
plain_is (role.GpLo q) Callsys j e = cc
plain_is (role.To q) (Mem o rc rd d) j e = cc
plain_is (role.To q) (Jump k rc rd d) j e = cc
plain_is (role.To q) (Branch o rc d) j e = cc
plain_is (role.To q) (Alu o rc rd re) j e = cc
plain_is (role.To q) (Cmov k rc rd re) j e = cc
plain_is (role.To q) (Misc o rc rd) j e = cc
plain_is (role.To q) Fnop j e = cc
plain_is (role.To q) Halt j e = cc
plain_is (role.To q) Callsys j e = cc

-- no word of a program is one that rewriting makes
abbrev IsMade : Act → Type 0
IsMade (act.AddrLda ra rb t) = Unit {0}
IsMade (act.AddrHi ra rb t) = Unit {0}
IsMade (act.UseLo i hi t) = Unit {0}
IsMade (act.UseGp i gp t) = Unit {0}
IsMade _ = ⊥

none_made : (r : Role) (i : Instr) → IsMade (act_of r i) → ⊥
none_made role.Plain i m = m
none_made (role.Lit t) (Mem o rc rd d) m = m
none_made (role.Lit t) (Jump k rc rd d) m = m
none_made (role.Lit t) (Branch o rc d) m = m
none_made (role.Lit t) (Alu o rc rd re) m = m
none_made (role.Lit t) (Cmov k rc rd re) m = m
none_made (role.Lit t) (Misc o rc rd) m = m
none_made (role.Lit t) Fnop m = m
none_made (role.Lit t) Halt m = m
none_made (role.Lit t) Callsys m = m
none_made (role.GpHi q) (Mem o rc rd d) m = m
none_made (role.GpHi q) (Jump k rc rd d) m = m
none_made (role.GpHi q) (Branch o rc d) m = m
none_made (role.GpHi q) (Alu o rc rd re) m = m
none_made (role.GpHi q) (Cmov k rc rd re) m = m
none_made (role.GpHi q) (Misc o rc rd) m = m
none_made (role.GpHi q) Fnop m = m
none_made (role.GpHi q) Halt m = m
none_made (role.GpHi q) Callsys m = m
none_made (role.GpLo q) (Mem o rc rd d) m = m
none_made (role.GpLo q) (Jump k rc rd d) m = m
none_made (role.GpLo q) (Branch o rc d) m = m
none_made (role.GpLo q) (Alu o rc rd re) m = m
none_made (role.GpLo q) (Cmov k rc rd re) m = m
none_made (role.GpLo q) (Misc o rc rd) m = m
none_made (role.GpLo q) Fnop m = m
none_made (role.GpLo q) Halt m = m
none_made (role.GpLo q) Callsys m = m
none_made (role.To q) (Mem o rc rd d) m = m
none_made (role.To q) (Jump k rc rd d) m = m
none_made (role.To q) (Branch o rc d) m = m
none_made (role.To q) (Alu o rc rd re) m = m
none_made (role.To q) (Cmov k rc rd re) m = m
none_made (role.To q) (Misc o rc rd) m = m
none_made (role.To q) Fnop m = m
none_made (role.To q) Halt m = m
none_made (role.To q) Callsys m = m

module _ (p : ProgramView) (prog : IsProgram p) where
  lit_there : (w : Word) (ra rb : ℕ) (t : Target) → program_fetch p w.at ≡ Some w → w.act ≡ act.Lit ra rb t → is_target p t ≡ true
  lit_there w ra rb t f e =
      let k = some_item p w.at w f in
      let r = role_fits p prog w.at k.0 k.1 in
      lit_target p w.at r.0 k.0.role k.0.instr ra rb t r.2 (ap (λ (v : Word). v.act) k.2 ∙ e)

  plain_short : (w : Word) (i : Instr) → program_fetch p w.at ≡ Some w → w.act ≡ act.Plain i → Short i
  plain_short w i f e =
      let k = some_item p w.at w f in
      let t = in_text p w.at k.0 k.1 in
      let read = ((prog.texts.each w.at.obj t.0 t.1).items.each (w.at.off / 4) k.0 t.2).instr in
      let same = plain_is k.0.role k.0.instr i (ap (λ (v : Word). v.act) k.2 ∙ e) in
      subst (λ (j : Instr). Short j) same (word_short k.0.word k.0.instr read)

  made_not : (w : Word) → program_fetch p w.at ≡ Some w → IsMade w.act → ⊥
  made_not w f m = let k = some_item p w.at w f in none_made k.0.role k.0.instr (subst (λ (v : Word). IsMade v.act) (sym k.2) m)

  module _ (g : GraphView) (of : IsGraphOf p g) where
    -- the target of a word that rewriting made
    abbrev Targets : Act → Type 0
    Targets (act.AddrLda ra rb t) = is_target p t ≡ true
    Targets (act.AddrHi ra rb t) = is_target p t ≡ true
    Targets (act.UseGp i gp t) = is_target p t ≡ true
    Targets _ = Unit {0}

    -- of such a use the displacement is short
    abbrev Shorts : Act → Type 0
    Shorts (act.UseLo i hi t) = Short i
    Shorts _ = Unit {0}

    not_made : (a : Act) → (IsMade a → ⊥) → Targets a × Shorts a
    not_made (act.AddrLda ra rb t) n = absurd (n tt)
    not_made (act.AddrHi ra rb t) n = absurd (n tt)
    not_made (act.UseLo i hi t) n = absurd (n tt)
    not_made (act.UseGp i gp t) n = absurd (n tt)
    not_made (act.Plain i) n = (tt, tt)
    not_made (act.Lit ra rb t) n = (tt, tt)
    not_made (act.GpHi ra rb b) n = (tt, tt)
    not_made (act.GpLo ra rb h) n = (tt, tt)
    not_made (act.To o ra q) n = (tt, tt)
    not_made act.Wrong n = (tt, tt)

    module _ (b : Block) (hb : Has g.blocks b) (u : Word) (hu : Has (block_words b) u) where
      s : SourceOf p prog g of b u
      s = source_of p prog g of b u hb hu

      fetched : program_fetch p s.word.at ≡ Some s.word
      fetched = source_fetch p prog g of s.shape s.word s.among s.has

      load_there : (load : Word) (ra rb : ℕ) (t : Target) → Has (shape_words s.shape) load → load.act ≡ act.Lit ra rb t → is_target p t ≡ true
      load_there load ra rb t h e = lit_there load ra rb t (source_fetch p prog g of s.shape load s.among h) e

      by_form : (a : Act) → IsForm p (shape_words s.shape) s.word a → Targets a × Shorts a
      by_form a (as_was e) = subst (λ (x : Act). Targets x × Shorts x) (sym e) (not_made s.word.act (made_not s.word fetched))
      by_form a (near ra rb x r l e) = subst (λ (y : Act). Targets y × Shorts y) (sym e) (lit_there s.word ra rb (target.Ptr r x) fetched l, tt)
      by_form a (number ra rb n l e) = subst (λ (y : Act). Targets y × Shorts y) (sym e) (refl, tt)
      by_form a (far ra rb x r l e) = subst (λ (y : Act). Targets y × Shorts y) (sym e) (lit_there s.word ra rb (target.Ptr r x) fetched l, tt)
      by_form a (by_gp load r rb x region i z k l w u e) =
          subst (λ (y : Act). Targets y × Shorts y) (sym e) (load_there load r rb (target.Ptr region x) (first_in (shape_words s.shape) load k.mid s.word k.stands) l, tt)
      by_form a (by_high load r rb x region i z k l w u e) = subst (λ (y : Act). Targets y × Shorts y) (sym e) (tt, plain_short s.word i fetched w)
      by_form a (byte load r rb x region i k l w u e) = subst (λ (y : Act). Targets y × Shorts y) (sym e) (tt, tt)
      by_form a (called ra q to w c e) = subst (λ (y : Act). Targets y × Shorts y) (sym e) (tt, tt)
      by_form a (direct ra q to k c e) = subst (λ (y : Act). Targets y × Shorts y) (sym e) (tt, tt)

      known : Targets u.act × Shorts u.act
      known = by_form u.act s.form

    op_there : (b : Block) (o : Op) → Has (ops_of b) o → Has (block_words b) (op_word (ops_of b) o)
    op_there b o h = append_left (map (op_word (ops_of b)) (ops_of b)) (last_words b.last) (op_word (ops_of b) o) (to_map (op_word (ops_of b)) (ops_of b) o h)

    -- a use of a high half that stands in the block is one of its target
    used : (os : List Op) (hi : Place) (o : Op) (ra rb : ℕ) (t : Target) (z : ℤ) → Has os o → o.place ≡ hi → o.kind ≡ op.AddrHi ra rb t z → (u : Target) × (target_at os hi ≡ Some u)
    used [] hi o ra rb t z h e k = absurd h
    used (x ∷ os) hi o ra rb t z (inl s) e k =
        let a : place_eq x.place hi ≡ true = ap (λ (y : Op). place_eq y.place hi) s ∙ ap (λ (q : Place). place_eq q hi) e ∙ self_eq hi in
        let b : high_target x.kind ≡ Some t = ap (λ (y : Op). high_target y.kind) s ∙ ap high_target k in
        (t, rw (a, b) refl)
    used (x ∷ os) hi o ra rb t z (inr h) e k = by_first (place_eq x.place hi) (high_target x.kind) (used os hi o ra rb t z h e k)
      where
        by_first : (c : Bool) (v : Option Target) → (u : Target) × (target_at os hi ≡ Some u) → (u : Target) × (option_or (cond c v None) (target_at os hi) ≡ Some u)
        by_first true (Some y) r = (y, refl)
        by_first true None r = r
        by_first false v r = r

    least_short : (b : Block) (o : Op) (ra rb : ℕ) (t : Target) (z : ℤ) → Has g.blocks b → Has (ops_of b) o → o.kind ≡ op.AddrHi ra rb t z → FitsSigned w16 z
    least_short b o ra rb t z hb ho k =
        let h : TakesHigh b o.place z = ((of.blocks b hb).2.least o ra rb t z ho k).0 in
        let u = used (ops_of b) o.place o ra rb t z ho refl k in
        let a : op_act (ops_of b) h.0.kind ≡ act.UseLo h.1 o.place u.0 = ap (op_act (ops_of b)) h.4 ∙ ap (use_of h.1 o.place) u.1 in
        let n = known b hb (op_word (ops_of b) h.0) (op_there b h.0 h.3) in
        base_short h.2 z h.1 (subst (λ (x : Act). Shorts x) a n.1) h.5

    placed_op : (b : Block) (o : Op) (k : OpKind) → Has g.blocks b → Has (ops_of b) o → o.kind ≡ k → OpPlaced p k
    placed_op b o (op.AddrLda ra rb t) hb ho e = subst (λ (x : Act). Targets x) (ap (op_act (ops_of b)) e) (known b hb (op_word (ops_of b) o) (op_there b o ho)).0
    placed_op b o (op.AddrHi ra rb t z) hb ho e =
        let f = least_short b o ra rb t z hb ho e in
        (subst (λ (x : Act). Targets x) (ap (op_act (ops_of b)) e) (known b hb (op_word (ops_of b) o) (op_there b o ho)).0, omega (arith, ints, f))
    placed_op b o (op.UseGp i gp t) hb ho e = subst (λ (x : Act). Targets x) (ap (op_act (ops_of b)) e) (known b hb (op_word (ops_of b) o) (op_there b o ho)).0
    placed_op b o (op.Plain i) hb ho e = tt
    placed_op b o (op.Lit ra rb t) hb ho e = tt
    placed_op b o (op.UseLo i hi) hb ho e = tt
    placed_op b o (op.GpHi ra rb q) hb ho e = tt
    placed_op b o (op.GpLo ra rb q) hb ho e = tt

    pub are_placed : ArePlaced p g
    are_placed = record { ops = λ b o hb ho. placed_op b o o.kind hb ho refl }
