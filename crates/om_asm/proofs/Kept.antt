-- What the code keeps of a text that is an instruction; and the laws of reading one.
use Rattle.std.proofs.Common.{◌≡◌, ◌⊎◌, inl, inr, ℕ, ◌^◌, ◌<◌, ◌≤◌, ◌==◌, ◌&&◌, min, Bool, true, false, cond, nat_lt, nat_le, List, Option, Some, None, refl, ap, sym, ◌∙◌, arith, ℤ, pos, negsuc, lit<}
use Rattle.std.specs.Prelude.{option_map, option_and_then, FitsSigned}
use Rattle.std.specs.Int.{w16}
use Rattle.std.proofs.lemmas.Int.{ints}
use Rattle.std.proofs.lemmas.Bool.{and_parts, and_from, cond-true, cond-false, eqb-true, eq-eqb, leb-true, le-leb, lt-leb, ltb-true, lt-ltb, cases_lt}
use Rattle.std.proofs.lemmas.Option.{same_Some}
use Rattle.om_alpha.specs.declared.op.AluOp.{AluOp}
use Rattle.om_alpha.specs.declared.op.AluOp.TheVariants.{Sextb, Sextw}
use Rattle.om_alpha.specs.declared.op.Cond.{Cond}
use Rattle.om_isa.specs.declared.instr.Instr.{Instr}
use Rattle.om_isa.specs.declared.instr.Instr.TheVariants as instr
use Rattle.om_isa.specs.declared.instr.MemOp.{MemOp}
use Rattle.om_isa.specs.declared.instr.BrOp.{BrOp}
use Rattle.om_isa.specs.declared.instr.JumpOp.{JumpOp}
use Rattle.om_isa.specs.declared.instr.JumpOp.TheVariants as jump
use Rattle.om_isa.specs.declared.instr.Opnd.{Opnd}
use Rattle.om_isa.specs.declared.instr.Opnd.TheVariants.{R, Lit}
use Rattle.om_isa.specs.Fields.{IsDisp}
use Rattle.om_isa.specs.Words.{IsOperand, IsInstr}
use Rattle.om_listing.specs.Texts.{instr_text}
use Rattle.om_asm.specs.declared.instructions.Said.{Said}
use Rattle.om_asm.specs.declared.instructions.Said.TheVariants as kept
use Rattle.om_asm.specs.declared.forms.Form.{Form}
use Rattle.om_asm.specs.declared.forms.Form.TheVariants.{Memory, Jump, Branch, Operate, Move, Barrier, Fnop, Halt, Callsys}
use Rattle.om_asm.specs.Numerals.{Numeral, magnitude, signed, is_sized}
use Rattle.om_asm.specs.Statements.{Statement, Does, Unfit, is_spelled, has_register, hidden_ra, jump_hint, is_between, operand_fits, fits, fits_with}
use Rattle.om_asm.specs.Forms.{form_of}
use Rattle.om_asm.specs.Reading.{cut_at, both, register_at, decimal_at, base_at, number_of, number_at, address_at, result_at, said, if_sized, opnd_of, memory_made, branch_made, operate_made, move_made, memory_said, jump_said, branch_said, extension_said, three_said, operate_said, move_said, said_with, said_alone, said_by, said_in, answer_of}
use Rattle.om_asm.specs.Parsing.{IsTextOf, ParsesInstr, usual_of, TextsAreRead}
use Rattle.om_asm.proofs.Pieces.{both_mapped}
use Rattle.om_asm.proofs.Pairs.{place_at, Second, InRegister, Literally, last_at, first_at, map_id, operand_of, address_mapped, number_opened, result_mapped}
use Rattle.om_asm.proofs.Doing.{put, numbered, with_second, memory_of, jump_of, branch_of, extension_of, three_of, move_of, operate_with, does_with, does_alone, does_by, does_in, does_sound, does_complete}

-- ---- what is kept of a statement

abbrev pub kept_of : Statement → Said
kept_of (Does i) = kept.Does i
kept_of _ = kept.Unfit

below_min : (most m : ℕ) → most < 2 ^ 32 → nat_le (min (2 ^ 64) m) most ≡ nat_le m most
below_min most m h = below_by (cases_lt most m) where
  below_by : (most < m) ⊎ (m ≤ most) → nat_le (min (2 ^ 64) m) most ≡ nat_le m most
  below_by (inl l) = lt-leb (min (2 ^ 64) m) most (omega (arith, l, h)) ∙ sym (lt-leb m most l)
  below_by (inr l) = le-leb (min (2 ^ 64) m) most (omega (arith, l, h)) ∙ sym (le-leb m most l)

-- where all sizes from 2 ^ 64 on count as that, the same numbers are in a field
sized_min : (low high m : ℕ) (minus : Bool) → low < 2 ^ 32 → high < 2 ^ 32 → is_sized low high minus (min (2 ^ 64) m) ≡ is_sized low high minus m
sized_min low high m true lo hi = below_min low m lo
sized_min low high m false lo hi = below_min high m hi

same_min : (low high m : ℕ) (minus : Bool) → low < 2 ^ 32 → high < 2 ^ 32 → is_sized low high minus m ≡ true → min (2 ^ 64) m ≡ m
same_min low high m true lo hi h = let b = leb-true m low h in omega (arith, b, lo)
same_min low high m false lo hi h = let b = leb-true m high h in omega (arith, b, hi)

kept_numbered : (low high : ℕ) (make : Bool → ℕ → Instr) (i : Instr) (n : Numeral) → low < 2 ^ 32 → high < 2 ^ 32 →
    ((minus : Bool) (m : ℕ) → fits_with i minus m ≡ is_sized low high minus m) → ((minus : Bool) (m : ℕ) → put i minus m ≡ make minus m) →
    said (if_sized low high (number_of n) (make (number_of n).minus (number_of n).size)) ≡ kept_of (numbered i n)
kept_numbered low high make i n lo hi f p = kept_by (is_sized low high n.minus (magnitude n)) refl where
  kept_by : (b : Bool) → is_sized low high n.minus (magnitude n) ≡ b →
      said (if_sized low high (number_of n) (make (number_of n).minus (number_of n).size)) ≡ kept_of (numbered i n)
  kept_by true e =
      ap said (cond-true _ _ _ (sized_min low high (magnitude n) n.minus lo hi ∙ e))
      ∙ ap (λ m. kept.Does (make n.minus m)) (same_min low high (magnitude n) n.minus lo hi e) ∙ ap kept.Does (sym (p n.minus (magnitude n)))
      ∙ sym (ap kept_of (cond-true _ _ _ (f n.minus (magnitude n) ∙ e)))
  kept_by false e =
      ap said (cond-false _ _ _ (sized_min low high (magnitude n) n.minus lo hi ∙ e))
      ∙ sym (ap kept_of (cond-false _ _ _ (f n.minus (magnitude n) ∙ e)))

kept_memory : (op : MemOp) (q : ℕ × (Numeral × ℕ)) → said (memory_made op q.0 (number_of q.1.0) q.1.1) ≡ kept_of (memory_of op q)
kept_memory op q =
    kept_numbered 32768 32767 (λ minus m. instr.Mem op q.0 q.1.1 (signed minus m)) (instr.Mem op q.0 q.1.1 (pos 0)) q.1.0 (lit< tt) (lit< tt)
    (λ minus m. refl) (λ minus m. refl)

kept_branch : (op : BrOp) (q : ℕ × Numeral) → said (branch_made op q.0 (number_of q.1)) ≡ kept_of (branch_of op q)
kept_branch op q =
    kept_numbered 1048576 1048575 (λ minus m. instr.Branch op q.0 (signed minus m)) (instr.Branch op q.0 (pos 0)) q.1 (lit< tt) (lit< tt)
    (λ minus m. refl) (λ minus m. refl)

-- an instruction by its last operand
kept_second : (make : Opnd → Instr) (s : Second) → ((minus : Bool) (m : ℕ) → fits_with (make (Lit 0)) minus m ≡ is_sized 0 255 minus m) →
    ((minus : Bool) (m : ℕ) → put (make (Lit 0)) minus m ≡ make (Lit m)) →
    said (option_map make (opnd_of (operand_of s))) ≡ kept_of (with_second make s)
kept_second make (InRegister r) f p = refl
kept_second make (Literally n) f p =
    ap said (moved (is_sized 0 255 (number_of n).minus (number_of n).size))
    ∙ kept_numbered 0 255 (λ minus m. make (Lit m)) (make (Lit 0)) n (lit< tt) (lit< tt) f p
  where
    moved : (b : Bool) → option_map make (cond b (Some (Lit (number_of n).size)) None) ≡ cond b (Some (make (Lit (number_of n).size))) None
    moved true = refl
    moved false = refl

-- ---- the two readings

-- two readings of operands that are one but for what is kept
kept_by_both : {O K : Type 0} (g : List ℕ → Option O) (k : List ℕ → Option K) (keep : O → K) (make : O → Statement) (made : K → Said) (t : List ℕ) →
    k t ≡ option_map keep (g t) → ((q : O) → made (keep q) ≡ kept_of (make q)) →
    option_map made (k t) ≡ option_map kept_of (option_map make (g t))
kept_by_both g k keep make made t e m = ap (option_map made) e ∙ kept_by (g t) where
  kept_by : (o : Option _) → option_map made (option_map keep o) ≡ option_map kept_of (option_map make o)
  kept_by None = refl
  kept_by (Some q) = ap Some (m q)

first_mapped : {A B : Type 0} (g : List ℕ → Option A) (k : List ℕ → Option B) (keep : A → B) → ((t : List ℕ) → k t ≡ option_map keep (g t)) →
    (t : List ℕ) → both 44 register_at k t ≡ option_map (λ q. (q.0, keep q.1)) (first_at g t)
first_mapped g k keep e t = both_mapped 44 register_at g (λ r. r) keep register_at k (λ s. map_id (register_at s)) e t

memory_kept : (op : MemOp) (t : List ℕ) → memory_said op t ≡ option_map kept_of (does_with (Memory op) t)
unfolding memory_said
memory_kept op t =
    kept_by_both (first_at place_at) (both 44 register_at address_at) (λ q. (q.0, (number_of q.1.0, q.1.1))) (memory_of op)
    (λ p. said (memory_made op p.0 p.1.0 p.1.1)) t (first_mapped place_at address_at (λ q. (number_of q.0, q.1)) address_mapped t) (kept_memory op)

branch_kept : (op : BrOp) (t : List ℕ) → branch_said op t ≡ option_map kept_of (does_with (Branch op) t)
unfolding branch_said
branch_kept op t =
    kept_by_both (first_at decimal_at) (both 44 register_at number_at) (λ q. (q.0, number_of q.1)) (branch_of op)
    (λ p. said (branch_made op p.0 p.1)) t (first_mapped decimal_at number_at number_of number_opened t) (kept_branch op)

jump_kept : (kind : JumpOp) (t : List ℕ) → jump_said kind t ≡ option_map kept_of (does_with (Jump kind) t)
unfolding jump_said
jump_kept kind t =
    kept_by_both (first_at base_at) (both 44 register_at base_at) (λ q. q) (jump_of kind)
    (λ p. kept.Does (instr.Jump kind p.0 p.1 (jump_hint kind))) t (map_id (first_at base_at t)) (λ q. refl)

extension_kept : (op : AluOp) (t : List ℕ) → extension_said op t ≡ option_map kept_of (option_map (extension_of op) (last_at t))
unfolding extension_said
extension_kept op t =
    kept_by_both last_at result_at (λ q. (operand_of q.0, q.1)) (extension_of op)
    (λ p. said (operate_made op 31 p.0 p.1)) t (result_mapped t)
    (λ q. kept_second (λ rb. instr.Alu op 31 rb q.1) q.0 (λ minus m. refl) (λ minus m. refl))

three_kept : (op : AluOp) (t : List ℕ) → three_said op t ≡ option_map kept_of (option_map (three_of op) (first_at last_at t))
unfolding three_said
three_kept op t =
    kept_by_both (first_at last_at) (both 44 register_at result_at) (λ q. (q.0, (operand_of q.1.0, q.1.1))) (three_of op)
    (λ p. said (operate_made op p.0 p.1.0 p.1.1)) t (first_mapped last_at result_at (λ q. (operand_of q.0, q.1)) result_mapped t)
    (λ q. kept_second (λ rb. instr.Alu op q.0 rb q.1.1) q.1.0 (λ minus m. refl) (λ minus m. refl))

move_kept : (c : Cond) (t : List ℕ) → move_said c t ≡ option_map kept_of (does_with (Move c) t)
unfolding move_said
move_kept c t =
    kept_by_both (first_at last_at) (both 44 register_at result_at) (λ q. (q.0, (operand_of q.1.0, q.1.1))) (move_of c)
    (λ p. said (move_made c p.0 p.1.0 p.1.1)) t (first_mapped last_at result_at (λ q. (operand_of q.0, q.1)) result_mapped t)
    (λ q. kept_second (λ rb. instr.Cmov c q.0 rb q.1.1) q.1.0 (λ minus m. refl) (λ minus m. refl))

operate_kept : (op : AluOp) (t : List ℕ) → operate_said op t ≡ option_map kept_of (operate_with op t)
operate_kept Sextb t = extension_kept Sextb t
operate_kept Sextw t = extension_kept Sextw t
operate_kept op t = three_kept op t

with_kept : (f : Form) (t : List ℕ) → said_with f t ≡ option_map kept_of (does_with f t)
with_kept (Memory op) t = memory_kept op t
with_kept (Jump kind) t = jump_kept kind t
with_kept (Branch op) t = branch_kept op t
with_kept (Operate op) t = operate_kept op t
with_kept (Move c) t = move_kept c t
with_kept (Barrier op) t = refl
with_kept Fnop t = refl
with_kept Halt t = refl
with_kept Callsys t = refl

alone_kept : (f : Form) → said_alone f ≡ option_map kept_of (does_alone f)
alone_kept (Memory op) = refl
alone_kept (Jump kind) = refl
alone_kept (Branch op) = refl
alone_kept (Operate op) = refl
alone_kept (Move c) = refl
alone_kept (Barrier op) = refl
alone_kept Fnop = refl
alone_kept Halt = refl
alone_kept Callsys = refl

pub said_kept : (t : List ℕ) → said_in t ≡ option_map kept_of (does_in t)
unfolding said_in does_in
said_kept t = kept_by (cut_at 32 t) where
  with_by : (o : Option Form) (operands : List ℕ) →
      option_and_then (λ f. said_with f operands) o ≡ option_map kept_of (option_and_then (λ f. does_with f operands) o)
  with_by None operands = refl
  with_by (Some f) operands = with_kept f operands

  alone_by : (o : Option Form) → option_and_then said_alone o ≡ option_map kept_of (option_and_then does_alone o)
  alone_by None = refl
  alone_by (Some f) = alone_kept f

  kept_by : (o : Option (List ℕ × List ℕ)) → said_by t o ≡ option_map kept_of (does_by t o)
  kept_by None = alone_by (form_of t)
  kept_by (Some p) = with_by (form_of p.0) p.1

-- ---- instructions with their fields in range

register_below : (r : ℕ) → nat_lt r 32 ≡ true → r < 32
register_below r h = ltb-true r 32 h

between_fits : (z : ℤ) → is_between 32768 32767 z ≡ true → FitsSigned w16 z
between_fits (pos n) h = let b = leb-true n 32767 h in omega (arith, ints, b)
between_fits (negsuc n) h = let b = ltb-true n 32768 h in omega (arith, ints, b)

fits_between : (z : ℤ) → FitsSigned w16 z → is_between 32768 32767 z ≡ true
fits_between (pos n) h = le-leb n 32767 (omega (arith, ints, h))
fits_between (negsuc n) h = lt-ltb n 32768 (omega (arith, ints, h))

between_disp : (z : ℤ) → is_between 1048576 1048575 z ≡ true → IsDisp z
between_disp (pos n) h = let b = leb-true n 1048575 h in (omega (arith, ints, b), omega (arith, ints, b))
between_disp (negsuc n) h = let b = ltb-true n 1048576 h in (omega (arith, ints, b), omega (arith, ints, b))

disp_between : (z : ℤ) → IsDisp z → is_between 1048576 1048575 z ≡ true
disp_between (pos n) h = let b = h.1 in le-leb n 1048575 (omega (arith, ints, b))
disp_between (negsuc n) h = let b = h.0 in lt-ltb n 1048576 (omega (arith, ints, b))

operand_range : (rb : Opnd) → has_register rb ≡ true → operand_fits rb ≡ true → IsOperand rb
operand_range (R r) h f = ltb-true r 32 h
operand_range (Lit n) h f = ltb-true n 256 f

operand_in : (rb : Opnd) → IsOperand rb → (has_register rb ≡ true) × (operand_fits rb ≡ true)
operand_in (R r) h = (lt-ltb r 32 h, refl)
operand_in (Lit n) h = (refl, lt-ltb n 256 h)

ra_range : (op : AluOp) (ra : ℕ) → hidden_ra op ra ≡ true → ra < 32
ra_range Sextb ra h = let e = eqb-true ra 31 h in omega (arith, e)
ra_range Sextw ra h = let e = eqb-true ra 31 h in omega (arith, e)
ra_range op ra h = ltb-true ra 32 h

hint_range : (kind : JumpOp) → jump_hint kind < 2 ^ 14
hint_range jump.Ret = lit< tt
hint_range _ = lit< tt

in_range : (i : Instr) → is_spelled i ≡ true → fits i ≡ true → IsInstr i
in_range (instr.Mem op ra rb disp) s f =
    let k = and_parts (nat_lt ra 32) (nat_lt rb 32) s in (register_below ra k.0, register_below rb k.1, between_fits disp f)
in_range (instr.Jump kind ra rb hint) s f =
    let k = and_parts (nat_lt ra 32) (nat_lt rb 32 && (hint == jump_hint kind)) s in
    let l = and_parts (nat_lt rb 32) (hint == jump_hint kind) k.1 in
    let e = eqb-true hint (jump_hint kind) l.1 in
    let r = hint_range kind in
    (register_below ra k.0, register_below rb l.0, omega (arith, e, r))
in_range (instr.Branch op ra disp) s f = (register_below ra s, between_disp disp f)
in_range (instr.Alu op ra rb rc) s f =
    let k = and_parts (hidden_ra op ra) (has_register rb && nat_lt rc 32) s in
    let l = and_parts (has_register rb) (nat_lt rc 32) k.1 in
    (ra_range op ra k.0, operand_range rb l.0 f, register_below rc l.1)
in_range (instr.Cmov c ra rb rc) s f =
    let k = and_parts (nat_lt ra 32) (has_register rb && nat_lt rc 32) s in
    let l = and_parts (has_register rb) (nat_lt rc 32) k.1 in
    (register_below ra k.0, operand_range rb l.0 f, register_below rc l.1)
in_range (instr.Misc op ra rb) s f =
    let k = and_parts (ra == 0) (rb == 0) s in
    let a = eqb-true ra 0 k.0 in
    let b = eqb-true rb 0 k.1 in
    (omega (arith, a), omega (arith, b))
in_range instr.Fnop s f = tt
in_range instr.Halt s f = tt
in_range instr.Callsys s f = tt

fits_in_range : (i : Instr) → IsInstr i → fits i ≡ true
fits_in_range (instr.Mem op ra rb disp) h = fits_between disp h.2
fits_in_range (instr.Jump kind ra rb hint) h = refl
fits_in_range (instr.Branch op ra disp) h = disp_between disp h.1
fits_in_range (instr.Alu op ra rb rc) h = (operand_in rb h.1).1
fits_in_range (instr.Cmov c ra rb rc) h = (operand_in rb h.1).1
fits_in_range (instr.Misc op ra rb) h = refl
fits_in_range instr.Fnop h = refl
fits_in_range instr.Halt h = refl
fits_in_range instr.Callsys h = refl

-- ---- one instruction from its text

pub text_read : (t : List ℕ) (i : Instr) → IsTextOf t i → said_in t ≡ Some (kept.Does i)
text_read t i h =
    said_kept t ∙ ap (λ q. option_map kept_of (does_in q)) (sym h.text_is)
    ∙ ap (option_map kept_of) (does_complete i (and_from _ _ h.usual (fits_in_range i h.fields)))

kept_does : (o : Option Statement) (i : Instr) → option_map kept_of o ≡ Some (kept.Does i) → o ≡ Some (Does i)
kept_does None i e = cc
kept_does (Some (Does j)) i e = cc
kept_does (Some (Unfit j n)) i e = cc
kept_does (Some s) i e = cc

pub read_text : (t : List ℕ) (i : Instr) → said_in t ≡ Some (kept.Does i) → IsTextOf t i
read_text t i e =
    let s = does_sound t (Does i) (kept_does (does_in t) i (sym (said_kept t) ∙ e)) in
    let k = and_parts (is_spelled i) (fits i) s.formed in
    record { text_is = s.text_is; fields = in_range i k.0 k.1; usual = k.0 }

kept_ends : (t : List ℕ) → said_in t ≡ None → ParsesInstr t None
kept_ends t e i h = let k = text_read t i h in cc

unfit_ends : (t : List ℕ) → said_in t ≡ Some kept.Unfit → ParsesInstr t None
unfit_ends t e i h = let k = text_read t i h in cc

pub parsed : (t : List ℕ) (o : Option Said) → said_in t ≡ o → ParsesInstr t (answer_of o)
parsed t None e = kept_ends t e
parsed t (Some (kept.Does i)) e = read_text t i e
parsed t (Some kept.Unfit) e = unfit_ends t e

-- ---- the laws

same_does : (i j : Instr) → kept.Does i ≡ kept.Does j → i ≡ j
same_does i j e = cc

pub one_instr : (t : List ℕ) (i j : Instr) → IsTextOf t i → IsTextOf t j → i ≡ j
one_instr t i j h k =
    let e : Some (kept.Does i) ≡ Some (kept.Does j) = sym (text_read t i h) ∙ text_read t j k in
    same_does i j (same_Some _ _ e)

usual_text : (i : Instr) → instr_text (usual_of i) ≡ instr_text i
usual_text (instr.Mem op ra rb disp) = refl
usual_text (instr.Jump kind ra rb hint) = refl
usual_text (instr.Branch op ra disp) = refl
usual_text (instr.Alu Sextb ra rb rc) = refl
usual_text (instr.Alu Sextw ra rb rc) = refl
usual_text (instr.Alu op ra rb rc) = refl
usual_text (instr.Cmov c ra rb rc) = refl
usual_text (instr.Misc op ra rb) = refl
usual_text instr.Fnop = refl
usual_text instr.Halt = refl
usual_text instr.Callsys = refl

usual_spelled : (i : Instr) → IsInstr i → is_spelled (usual_of i) ≡ true
usual_spelled (instr.Mem op ra rb disp) h = and_from _ _ (lt-ltb ra 32 h.0) (lt-ltb rb 32 h.1)
usual_spelled (instr.Jump kind ra rb hint) h =
    and_from _ _ (lt-ltb ra 32 h.0) (and_from _ _ (lt-ltb rb 32 h.1) (eq-eqb (jump_hint kind) (jump_hint kind) refl))
usual_spelled (instr.Branch op ra disp) h = lt-ltb ra 32 h.0
usual_spelled (instr.Alu Sextb ra rb rc) h = and_from _ _ (operand_in rb h.1).0 (lt-ltb rc 32 h.2)
usual_spelled (instr.Alu Sextw ra rb rc) h = and_from _ _ (operand_in rb h.1).0 (lt-ltb rc 32 h.2)
usual_spelled (instr.Alu op ra rb rc) h = and_from _ _ (lt-ltb ra 32 h.0) (and_from _ _ (operand_in rb h.1).0 (lt-ltb rc 32 h.2))
usual_spelled (instr.Cmov c ra rb rc) h = and_from _ _ (lt-ltb ra 32 h.0) (and_from _ _ (operand_in rb h.1).0 (lt-ltb rc 32 h.2))
usual_spelled (instr.Misc op ra rb) h = refl
usual_spelled instr.Fnop h = refl
usual_spelled instr.Halt h = refl
usual_spelled instr.Callsys h = refl

usual_range : (i : Instr) → IsInstr i → IsInstr (usual_of i)
usual_range (instr.Mem op ra rb disp) h = h
usual_range (instr.Jump kind ra rb hint) h = (h.0, h.1, hint_range kind)
usual_range (instr.Branch op ra disp) h = h
usual_range (instr.Alu Sextb ra rb rc) h = (lit< tt, h.1, h.2)
usual_range (instr.Alu Sextw ra rb rc) h = (lit< tt, h.1, h.2)
usual_range (instr.Alu op ra rb rc) h = h
usual_range (instr.Cmov c ra rb rc) h = h
usual_range (instr.Misc op ra rb) h = (lit< tt, lit< tt)
usual_range instr.Fnop h = h
usual_range instr.Halt h = h
usual_range instr.Callsys h = h

pub a_text : (i : Instr) → IsInstr i → IsTextOf (instr_text i) (usual_of i)
a_text i h = record { text_is = usual_text i; fields = usual_range i h; usual = usual_spelled i h }

usual_read : (i : Instr) (answer : Option Instr) → IsInstr i → ParsesInstr (instr_text i) answer → answer ≡ Some (usual_of i)
usual_read i None h p = absurd (p (usual_of i) (a_text i h))
usual_read i (Some j) h p = ap Some (one_instr (instr_text i) j (usual_of i) p (a_text i h))

pub texts_read : TextsAreRead
texts_read = record { one_instr = one_instr; a_text = a_text; read = usual_read }
