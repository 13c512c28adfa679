-- Texts of instructions, as they are spelled: what is read is spelled so, and what is spelled so is read.
use Rattle.std.proofs.Common.{◌≡◌, ℕ, zero, ◌+◌, ◌<◌, ◌==◌, ◌&&◌, Bool, true, false, cond, nat_lt, List, ◌∷◌, ◌++◌, Option, Some, None, refl, ap, sym, subst, ◌∙◌, arith, append_assoc, ℤ, pos, negsuc, lit<}
use Rattle.std.specs.Prelude.{option_map, option_and_then, codes, decimal}
use Rattle.std.proofs.lemmas.Bool.{and_parts, and_from, cond-true, cond-false, eqb-true, eq-eqb, not_from_false, not-true, leb-true, ltb-true, lt-ltb}
use Rattle.std.proofs.lemmas.Option.{same_Some}
use Rattle.om_alpha.specs.declared.op.AluOp.{AluOp}
use Rattle.om_alpha.specs.declared.op.AluOp.TheVariants.{Sextb, Sextw}
use Rattle.om_alpha.specs.declared.op.Cond.{Cond}
use Rattle.om_isa.specs.declared.instr.Instr.{Instr}
use Rattle.om_isa.specs.declared.instr.Instr.TheVariants as instr
use Rattle.om_isa.specs.declared.instr.MemOp.{MemOp}
use Rattle.om_isa.specs.declared.instr.BrOp.{BrOp}
use Rattle.om_isa.specs.declared.instr.JumpOp.{JumpOp}
use Rattle.om_isa.specs.declared.instr.MiscOp.{MiscOp}
use Rattle.om_isa.specs.declared.instr.MiscOp.TheVariants as misc
use Rattle.om_isa.specs.declared.instr.Opnd.{Opnd}
use Rattle.om_isa.specs.declared.instr.Opnd.TheVariants.{R, Lit as Literal}
use Rattle.om_isa.proofs.Found.{map_some, then_some}
use Rattle.om_listing.specs.Names.{memory_name, branch_name, operate_name, move_name}
use Rattle.om_listing.specs.Texts.{register_text, operand_text, based_text, address_text, first_text, result_text, operate_start, instr_text}
use Rattle.om_asm.specs.declared.forms.Form.{Form}
use Rattle.om_asm.specs.declared.forms.Form.TheVariants.{Memory, Jump, Branch, Operate, Move, Barrier, Fnop, Halt, Callsys}
use Rattle.om_asm.specs.Numerals.{Numeral, magnitude, signed, numeral_text, is_plain, is_sized}
use Rattle.om_asm.specs.Statements.{Statement, Does, Unfit, text_with, literal_text, statement_text, is_spelled, has_register, hidden_ra, jump_hint, is_between, operand_fits, fits, fits_with, has_zero, is_zero, is_zero_literal, is_statement}
use Rattle.om_asm.specs.Forms.{form_name, form_of}
use Rattle.om_asm.specs.Reading.{cut_at, decimal_at, base_at}
use Rattle.om_asm.proofs.Pieces.{Reads, cut_found, cut_sound}
use Rattle.om_asm.proofs.Decimals.{numeral_of, numeral_is, literal_is, plain_printed, plain_size, between_sized, decimal_value, reads_decimal}
use Rattle.om_asm.proofs.Pairs.{is_reg, closed_text, reads_base, place_at, place_text, is_place, reads_place, Second, InRegister, Literally, second_text, last_at, last_text, is_last, is_second, reads_last, first_at, behind_first, reads_first}
use Rattle.om_asm.proofs.Named.{name_read, name_clear, name_is}

-- ---- statements of one instruction

abbrev pub is_doing : Statement → Bool
is_doing (Does i) = true
is_doing (Unfit i n) = true
is_doing _ = false

pub record Spells (text : List ℕ) (s : Statement) : Type 0 where
  pub text_is : statement_text s ≡ text
  pub formed : is_statement s ≡ true
  pub doing : is_doing s ≡ true

-- the instruction with a number of this sign and size in its place
abbrev pub put : Instr → Bool → ℕ → Instr
put (instr.Mem op ra rb disp) minus size = instr.Mem op ra rb (signed minus size)
put (instr.Branch op ra disp) minus size = instr.Branch op ra (signed minus size)
put (instr.Alu op ra rb rc) minus size = instr.Alu op ra (Literal size) rc
put (instr.Cmov cond ra rb rc) minus size = instr.Cmov cond ra (Literal size) rc
put i minus size = i

abbrev pub numbered : Instr → Numeral → Statement
numbered i n = cond (fits_with i n.minus (magnitude n)) (Does (put i n.minus (magnitude n))) (Unfit i n)

abbrev pub with_second : (Opnd → Instr) → Second → Statement
with_second make (InRegister r) = Does (make (R r))
with_second make (Literally n) = numbered (make (Literal 0)) n

-- ---- how each form is read

abbrev pub memory_of : MemOp → ℕ × (Numeral × ℕ) → Statement
memory_of op q = numbered (instr.Mem op q.0 q.1.1 (pos 0)) q.1.0

abbrev pub jump_of : JumpOp → ℕ × ℕ → Statement
jump_of kind q = Does (instr.Jump kind q.0 q.1 (jump_hint kind))

abbrev pub branch_of : BrOp → ℕ × Numeral → Statement
branch_of op q = numbered (instr.Branch op q.0 (pos 0)) q.1

abbrev pub extension_of : AluOp → Second × ℕ → Statement
extension_of op q = with_second (λ rb. instr.Alu op 31 rb q.1) q.0

abbrev pub three_of : AluOp → ℕ × (Second × ℕ) → Statement
three_of op q = with_second (λ rb. instr.Alu op q.0 rb q.1.1) q.1.0

abbrev pub move_of : Cond → ℕ × (Second × ℕ) → Statement
move_of c q = with_second (λ rb. instr.Cmov c q.0 rb q.1.1) q.1.0

abbrev pub operate_with : AluOp → List ℕ → Option Statement
operate_with Sextb t = option_map (extension_of Sextb) (last_at t)
operate_with Sextw t = option_map (extension_of Sextw) (last_at t)
operate_with op t = option_map (three_of op) (first_at last_at t)

abbrev pub does_with : Form → List ℕ → Option Statement
does_with (Memory op) t = option_map (memory_of op) (first_at place_at t)
does_with (Jump kind) t = option_map (jump_of kind) (first_at base_at t)
does_with (Branch op) t = option_map (branch_of op) (first_at decimal_at t)
does_with (Operate op) t = operate_with op t
does_with (Move c) t = option_map (move_of c) (first_at last_at t)
does_with _ t = None

abbrev pub does_alone : Form → Option Statement
does_alone (Barrier op) = Some (Does (instr.Misc op 0 0))
does_alone Fnop = Some (Does instr.Fnop)
does_alone Halt = Some (Does instr.Halt)
does_alone Callsys = Some (Does instr.Callsys)
does_alone _ = None

abbrev pub does_by : List ℕ → Option (List ℕ × List ℕ) → Option Statement
does_by t None = option_and_then does_alone (form_of t)
does_by t (Some p) = option_and_then (λ f. does_with f p.1) (form_of p.0)

unfoldable pub does_in : List ℕ → Option Statement
does_in t = does_by t (cut_at 32 t)

-- ---- texts as pieces

pub first_is : (name : List ℕ) (r : ℕ) (rest : List ℕ) → first_text name r ++ rest ≡ name ++ 32 ∷ (register_text r ++ 44 ∷ rest)
unfolding first_text
first_is name r rest =
    append_assoc (name ++ codes " " ++ register_text r) (codes ",") rest ∙ append_assoc (name ++ codes " ") (register_text r) (44 ∷ rest)
    ∙ append_assoc name (codes " ") (register_text r ++ 44 ∷ rest)

based_is : (r : ℕ) → based_text r ≡ 40 ∷ closed_text r
unfolding based_text
based_is r = refl

literal_is_text : (number : List ℕ) (rc : ℕ) → literal_text number rc ≡ 35 ∷ (number ++ 44 ∷ register_text rc)
literal_is_text number rc = append_assoc (35 ∷ number) (codes ",") (register_text rc)

result_is : (rb : Opnd) (rc : ℕ) → result_text rb rc ≡ operand_text rb ++ 44 ∷ register_text rc
unfolding result_text
result_is rb rc = append_assoc (operand_text rb) (codes ",") (register_text rc)

register_operand : (r : ℕ) → operand_text (R r) ≡ register_text r
unfolding operand_text
register_operand r = refl

literal_operand : (n : ℕ) → operand_text (Literal n) ≡ 35 ∷ decimal n
unfolding operand_text
literal_operand n = refl

-- the text of an operand and a register behind it
pub last_is : (s : Second) (rb : Opnd) (rc : ℕ) → operand_text rb ≡ second_text s → result_text rb rc ≡ last_text (s, rc)
last_is s rb rc e = result_is rb rc ∙ ap (λ q. q ++ 44 ∷ register_text rc) e

-- ---- numbers in their places

printed_literal : (n : Numeral) (rc : ℕ) → is_plain n ≡ true → is_sized 0 255 n.minus (magnitude n) ≡ true →
    result_text (Literal (magnitude n)) rc ≡ literal_text (numeral_text n) rc
printed_literal n rc p f =
    result_is (Literal (magnitude n)) rc ∙ ap (λ q. q ++ 44 ∷ register_text rc) (literal_operand (magnitude n))
    ∙ ap (λ q. 35 ∷ (q ++ 44 ∷ register_text rc)) (plain_size 255 n (lit< tt) p f) ∙ sym (literal_is_text (numeral_text n) rc)

-- the text of an instruction that has its number is the one with the number's text
printed_with : (i : Instr) (n : Numeral) → has_zero i ≡ true → is_plain n ≡ true → fits_with i n.minus (magnitude n) ≡ true →
    instr_text (put i n.minus (magnitude n)) ≡ text_with i (numeral_text n)
unfolding address_text
printed_with (instr.Mem op ra rb disp) n z p f =
    ap (λ q. first_text (memory_name op) ra ++ (q ++ based_text rb)) (plain_printed 32768 32767 n (lit< tt) (lit< tt) p f)
printed_with (instr.Branch op ra disp) n z p f =
    ap (λ q. first_text (branch_name op) ra ++ q) (plain_printed 1048576 1048575 n (lit< tt) (lit< tt) p f)
printed_with (instr.Alu op ra rb rc) n z p f = ap (λ q. operate_start op ra ++ q) (printed_literal n rc p f)
printed_with (instr.Cmov c ra rb rc) n z p f = ap (λ q. first_text (move_name c) ra ++ q) (printed_literal n rc p f)
printed_with (instr.Jump kind ra rb hint) n z p f = cc
printed_with (instr.Misc op ra rb) n z p f = cc
printed_with instr.Fnop n z p f = cc
printed_with instr.Halt n z p f = cc
printed_with instr.Callsys n z p f = cc

literal_fits : (minus : Bool) (m : ℕ) → is_sized 0 255 minus m ≡ true → nat_lt m 256 ≡ true
literal_fits true m f = let b = leb-true m 0 f in lt-ltb m 256 (omega (arith, b))
literal_fits false m f = let b = leb-true m 255 f in lt-ltb m 256 (omega (arith, b))

fits_put : (i : Instr) (n : Numeral) → has_zero i ≡ true → fits_with i n.minus (magnitude n) ≡ true → fits (put i n.minus (magnitude n)) ≡ true
fits_put (instr.Mem op ra rb disp) n z f = between_sized 32768 32767 n.minus (magnitude n) ∙ f
fits_put (instr.Branch op ra disp) n z f = between_sized 1048576 1048575 n.minus (magnitude n) ∙ f
fits_put (instr.Alu op ra rb rc) n z f = literal_fits n.minus (magnitude n) f
fits_put (instr.Cmov c ra rb rc) n z f = literal_fits n.minus (magnitude n) f
fits_put (instr.Jump kind ra rb hint) n z f = refl
fits_put (instr.Misc op ra rb) n z f = refl
fits_put instr.Fnop n z f = refl
fits_put instr.Halt n z f = refl
fits_put instr.Callsys n z f = refl

spelled_put : (i : Instr) (n : Numeral) → has_zero i ≡ true → is_spelled i ≡ true → is_spelled (put i n.minus (magnitude n)) ≡ true
spelled_put (instr.Mem op ra rb disp) n z s = s
spelled_put (instr.Branch op ra disp) n z s = s
spelled_put (instr.Alu op ra (Literal m) rc) n z s = s
spelled_put (instr.Alu op ra (R r) rc) n z s = cc
spelled_put (instr.Cmov c ra (Literal m) rc) n z s = s
spelled_put (instr.Cmov c ra (R r) rc) n z s = cc
spelled_put (instr.Jump kind ra rb hint) n z s = s
spelled_put (instr.Misc op ra rb) n z s = s
spelled_put instr.Fnop n z s = s
spelled_put instr.Halt n z s = s
spelled_put instr.Callsys n z s = s

pub numbered_spells : (i : Instr) (n : Numeral) (text : List ℕ) → has_zero i ≡ true → is_spelled i ≡ true → is_plain n ≡ true →
    text_with i (numeral_text n) ≡ text → Spells text (numbered i n)
numbered_spells i n text z s p e = spells_by (fits_with i n.minus (magnitude n)) refl where
  spells_by : (b : Bool) → fits_with i n.minus (magnitude n) ≡ b → Spells text (cond b (Does (put i n.minus (magnitude n))) (Unfit i n))
  spells_by true f = record {
    text_is = printed_with i n z p f ∙ e;
    formed = and_from _ _ (spelled_put i n z s) (fits_put i n z f);
    doing = refl;
  }
  spells_by false f = record {
    text_is = e;
    formed = and_from _ _ s (and_from _ _ z (and_from _ _ p (not_from_false _ f)));
    doing = refl;
  }

-- ---- what is read is spelled so

memory_text : (op : MemOp) (ra rb : ℕ) (disp : ℤ) (number : List ℕ) →
    text_with (instr.Mem op ra rb disp) number ≡ memory_name op ++ 32 ∷ (register_text ra ++ 44 ∷ (number ++ 40 ∷ closed_text rb))
memory_text op ra rb disp number =
    first_is (memory_name op) ra (number ++ based_text rb)
    ∙ ap (λ b. memory_name op ++ 32 ∷ (register_text ra ++ 44 ∷ (number ++ b))) (based_is rb)

memory_spells : (op : MemOp) (q : ℕ × (Numeral × ℕ)) → (is_reg q.0 && is_place q.1) ≡ true →
    Spells (memory_name op ++ 32 ∷ behind_first place_text q) (memory_of op q)
memory_spells op q h =
    let a = and_parts (is_reg q.0) (is_place q.1) h in
    let b = and_parts (is_plain q.1.0) (is_reg q.1.1) a.1 in
    numbered_spells (instr.Mem op q.0 q.1.1 (pos 0)) q.1.0 (memory_name op ++ 32 ∷ behind_first place_text q) refl
    (and_from _ _ a.0 b.1) b.0 (memory_text op q.0 q.1.1 (pos 0) (numeral_text q.1.0))

jump_text : (kind : JumpOp) (q : ℕ × ℕ) → first_text (form_name (Jump kind)) q.0 ++ based_text q.1
    ≡ form_name (Jump kind) ++ 32 ∷ behind_first (λ r. 40 ∷ closed_text r) q
jump_text kind q =
    first_is (form_name (Jump kind)) q.0 (based_text q.1)
    ∙ ap (λ b. form_name (Jump kind) ++ 32 ∷ (register_text q.0 ++ 44 ∷ b)) (based_is q.1)

jump_spells : (kind : JumpOp) (q : ℕ × ℕ) → (is_reg q.0 && is_reg q.1) ≡ true →
    Spells (form_name (Jump kind) ++ 32 ∷ behind_first (λ r. 40 ∷ closed_text r) q) (jump_of kind q)
jump_spells kind q h =
    let a = and_parts (is_reg q.0) (is_reg q.1) h in
    record {
      text_is = jump_text kind q;
      formed = and_from _ _ (and_from _ _ a.0 (and_from _ _ a.1 (eq-eqb (jump_hint kind) (jump_hint kind) refl))) refl;
      doing = refl;
    }

branch_spells : (op : BrOp) (q : ℕ × Numeral) → (is_reg q.0 && is_plain q.1) ≡ true →
    Spells (branch_name op ++ 32 ∷ behind_first numeral_text q) (branch_of op q)
branch_spells op q h =
    let a = and_parts (is_reg q.0) (is_plain q.1) h in
    numbered_spells (instr.Branch op q.0 (pos 0)) q.1 (branch_name op ++ 32 ∷ behind_first numeral_text q) refl
    a.0 a.1 (first_is (branch_name op) q.0 (numeral_text q.1))

-- an instruction with a last operand that is a register or a literal, by the text before its last two operands
record TakesOperand (make : Opnd → Instr) (start : List ℕ) (rc : ℕ) : Type 0 where
  text : (rb : Opnd) → instr_text (make rb) ≡ start ++ result_text rb rc
  number_text : (number : List ℕ) → text_with (make (Literal 0)) number ≡ start ++ literal_text number rc
  spelled : (rb : Opnd) → has_register rb ≡ true → is_spelled (make rb) ≡ true
  fits_register : (r : ℕ) → fits (make (R r)) ≡ true
  zero : has_zero (make (Literal 0)) ≡ true
  fits_is : (minus : Bool) (m : ℕ) → fits_with (make (Literal 0)) minus m ≡ is_sized 0 255 minus m
  put_is : (minus : Bool) (m : ℕ) → put (make (Literal 0)) minus m ≡ make (Literal m)

second_spells : (make : Opnd → Instr) (start : List ℕ) (rc : ℕ) → TakesOperand make start rc → (s : Second) → is_second s ≡ true →
    Spells (start ++ last_text (s, rc)) (with_second make s)
second_spells make start rc t (InRegister r) h = record {
  text_is = t.text (R r) ∙ ap (λ q. start ++ q) (last_is (InRegister r) (R r) rc (register_operand r));
  formed = and_from _ _ (t.spelled (R r) h) (t.fits_register r);
  doing = refl;
}
second_spells make start rc t (Literally n) h =
    numbered_spells (make (Literal 0)) n (start ++ last_text (Literally n, rc)) t.zero (t.spelled (Literal 0) refl) h
    (t.number_text (numeral_text n) ∙ ap (λ q. start ++ q) (literal_is_text (numeral_text n) rc))

three_takes : (op : AluOp) (ra rc : ℕ) → operate_start op ra ≡ first_text (operate_name op) ra → hidden_ra op ra ≡ true →
    nat_lt rc 32 ≡ true → TakesOperand (λ rb. instr.Alu op ra rb rc) (first_text (operate_name op) ra) rc
three_takes op ra rc s a c = record {
  text = λ rb. ap (λ q. q ++ result_text rb rc) s;
  number_text = λ number. ap (λ q. q ++ literal_text number rc) s;
  spelled = λ rb h. and_from _ _ a (and_from _ _ h c);
  fits_register = λ r. refl;
  zero = refl;
  fits_is = λ minus m. refl;
  put_is = λ minus m. refl;
}

move_takes : (c : Cond) (ra rc : ℕ) → nat_lt ra 32 ≡ true → nat_lt rc 32 ≡ true →
    TakesOperand (λ rb. instr.Cmov c ra rb rc) (first_text (move_name c) ra) rc
move_takes c ra rc a k = record {
  text = λ rb. refl;
  number_text = λ number. refl;
  spelled = λ rb h. and_from _ _ a (and_from _ _ h k);
  fits_register = λ r. refl;
  zero = refl;
  fits_is = λ minus m. refl;
  put_is = λ minus m. refl;
}

extension_takes : (op : AluOp) (rc : ℕ) → operate_start op 31 ≡ operate_name op ++ codes " " → hidden_ra op 31 ≡ true →
    nat_lt rc 32 ≡ true → TakesOperand (λ rb. instr.Alu op 31 rb rc) (operate_name op ++ codes " ") rc
extension_takes op rc s a c = record {
  text = λ rb. ap (λ q. q ++ result_text rb rc) s;
  number_text = λ number. ap (λ q. q ++ literal_text number rc) s;
  spelled = λ rb h. and_from _ _ a (and_from _ _ h c);
  fits_register = λ r. refl;
  zero = refl;
  fits_is = λ minus m. refl;
  put_is = λ minus m. refl;
}

respelled : (a b : List ℕ) (s : Statement) → a ≡ b → Spells a s → Spells b s
respelled a b s e k = record { text_is = k.text_is ∙ e; formed = k.formed; doing = k.doing }

three_spells : (op : AluOp) (q : ℕ × (Second × ℕ)) → operate_start op q.0 ≡ first_text (operate_name op) q.0 → hidden_ra op q.0 ≡ nat_lt q.0 32 →
    (is_reg q.0 && is_last q.1) ≡ true → Spells (operate_name op ++ 32 ∷ behind_first last_text q) (three_of op q)
three_spells op q s a h =
    let k = and_parts (is_reg q.0) (is_last q.1) h in
    let l = and_parts (is_second q.1.0) (is_reg q.1.1) k.1 in
    respelled _ _ (three_of op q) (first_is (operate_name op) q.0 (last_text q.1))
    (second_spells (λ rb. instr.Alu op q.0 rb q.1.1) (first_text (operate_name op) q.0) q.1.1 (three_takes op q.0 q.1.1 s (a ∙ k.0) l.1) q.1.0 l.0)

move_spells : (c : Cond) (q : ℕ × (Second × ℕ)) → (is_reg q.0 && is_last q.1) ≡ true →
    Spells (move_name c ++ 32 ∷ behind_first last_text q) (move_of c q)
move_spells c q h =
    let k = and_parts (is_reg q.0) (is_last q.1) h in
    let l = and_parts (is_second q.1.0) (is_reg q.1.1) k.1 in
    respelled _ _ (move_of c q) (first_is (move_name c) q.0 (last_text q.1))
    (second_spells (λ rb. instr.Cmov c q.0 rb q.1.1) (first_text (move_name c) q.0) q.1.1 (move_takes c q.0 q.1.1 k.0 l.1) q.1.0 l.0)

extension_spells : (op : AluOp) (q : Second × ℕ) → operate_start op 31 ≡ operate_name op ++ codes " " → hidden_ra op 31 ≡ true →
    is_last q ≡ true → Spells (operate_name op ++ 32 ∷ last_text q) (extension_of op q)
extension_spells op q s a h =
    let l = and_parts (is_second q.0) (is_reg q.1) h in
    respelled _ _ (extension_of op q) (append_assoc (operate_name op) (codes " ") (last_text q))
    (second_spells (λ rb. instr.Alu op 31 rb q.1) (operate_name op ++ codes " ") q.1 (extension_takes op q.1 s a l.1) q.0 l.0)

-- a reading of operands, and what is made of them
made_spells : {O : Type 0} (read : List ℕ → Option O) (text : O → List ℕ) (formed : O → Bool) (make : O → Statement) (name t : List ℕ) (s : Statement) →
    Reads read text formed → ((q : O) → formed q ≡ true → Spells (name ++ 32 ∷ text q) (make q)) → option_map make (read t) ≡ Some s →
    Spells (name ++ 32 ∷ t) s
made_spells read text formed make name t s r k e =
    let m = map_some make (read t) s e in
    let d = r.sound t m.0 m.1 in
    let P : Statement → Type 0 = λ s. Spells (name ++ 32 ∷ t) s in
    subst P m.2 (respelled _ _ (make m.0) (ap (λ q. name ++ 32 ∷ q) d.0) (k m.0 d.1))

reads_memory : Reads (first_at place_at) (behind_first place_text) (λ q. is_reg q.0 && is_place q.1)
reads_memory = reads_first place_at place_text is_place reads_place

reads_jump : Reads (first_at base_at) (behind_first (λ r. 40 ∷ closed_text r)) (λ q. is_reg q.0 && is_reg q.1)
reads_jump = reads_first base_at (λ r. 40 ∷ closed_text r) is_reg reads_base

reads_branch : Reads (first_at decimal_at) (behind_first numeral_text) (λ q. is_reg q.0 && is_plain q.1)
reads_branch = reads_first decimal_at numeral_text is_plain reads_decimal

reads_three : Reads (first_at last_at) (behind_first last_text) (λ q. is_reg q.0 && is_last q.1)
reads_three = reads_first last_at last_text is_last reads_last

operate_spells : (op : AluOp) (t : List ℕ) (s : Statement) → operate_with op t ≡ Some s → Spells (operate_name op ++ 32 ∷ t) s
operate_spells Sextb t s e =
    made_spells last_at last_text is_last (extension_of Sextb) (operate_name Sextb) t s reads_last (λ q h. extension_spells Sextb q refl refl h) e
operate_spells Sextw t s e =
    made_spells last_at last_text is_last (extension_of Sextw) (operate_name Sextw) t s reads_last (λ q h. extension_spells Sextw q refl refl h) e
operate_spells op t s e =
    made_spells (first_at last_at) (behind_first last_text) (λ q. is_reg q.0 && is_last q.1) (three_of op) (operate_name op) t s reads_three
    (λ q h. three_spells op q refl refl h) e

with_spells : (f : Form) (t : List ℕ) (s : Statement) → does_with f t ≡ Some s → Spells (form_name f ++ 32 ∷ t) s
with_spells (Memory op) t s e =
    made_spells (first_at place_at) (behind_first place_text) (λ q. is_reg q.0 && is_place q.1) (memory_of op) (memory_name op) t s reads_memory
    (memory_spells op) e
with_spells (Jump kind) t s e =
    made_spells (first_at base_at) (behind_first (λ r. 40 ∷ closed_text r)) (λ q. is_reg q.0 && is_reg q.1) (jump_of kind) (form_name (Jump kind)) t s
    reads_jump (jump_spells kind) e
with_spells (Branch op) t s e =
    made_spells (first_at decimal_at) (behind_first numeral_text) (λ q. is_reg q.0 && is_plain q.1) (branch_of op) (branch_name op) t s reads_branch
    (branch_spells op) e
with_spells (Operate op) t s e = operate_spells op t s e
with_spells (Move c) t s e =
    made_spells (first_at last_at) (behind_first last_text) (λ q. is_reg q.0 && is_last q.1) (move_of c) (move_name c) t s reads_three (move_spells c) e
with_spells (Barrier op) t s e = cc
with_spells Fnop t s e = cc
with_spells Halt t s e = cc
with_spells Callsys t s e = cc

alone_spells : (f : Form) (s : Statement) → does_alone f ≡ Some s → Spells (form_name f) s
alone_spells (Barrier op) s e = let P : Statement → Type 0 = λ s. Spells (form_name (Barrier op)) s in subst P (same_Some _ _ e) (record { text_is = refl; formed = refl; doing = refl })
alone_spells Fnop s e = let P : Statement → Type 0 = λ s. Spells (codes "fnop") s in subst P (same_Some _ _ e) (record { text_is = refl; formed = refl; doing = refl })
alone_spells Halt s e = let P : Statement → Type 0 = λ s. Spells (codes "halt") s in subst P (same_Some _ _ e) (record { text_is = refl; formed = refl; doing = refl })
alone_spells Callsys s e = let P : Statement → Type 0 = λ s. Spells (codes "callsys") s in subst P (same_Some _ _ e) (record { text_is = refl; formed = refl; doing = refl })
alone_spells (Memory op) s e = cc
alone_spells (Jump kind) s e = cc
alone_spells (Branch op) s e = cc
alone_spells (Operate op) s e = cc
alone_spells (Move c) s e = cc

pub does_sound : (t : List ℕ) (s : Statement) → does_in t ≡ Some s → Spells t s
unfolding does_in
does_sound t s e = sound_by (cut_at 32 t) refl e where
  sound_by : (o : Option (List ℕ × List ℕ)) → cut_at 32 t ≡ o → does_by t o ≡ Some s → Spells t s
  sound_by None c e =
      let m = then_some does_alone (form_of t) s e in
      respelled _ _ s (name_is t m.0 m.1) (alone_spells m.0 s m.2)
  sound_by (Some p) c e =
      let m = then_some (λ f. does_with f p.1) (form_of p.0) s e in
      respelled _ _ s (ap (λ q. q ++ 32 ∷ p.1) (name_is p.0 m.0 m.1) ∙ cut_sound 32 t p c) (with_spells m.0 p.1 s m.2)

-- ---- what is spelled so is read

read_back : (f : Form) (t : List ℕ) (s : Statement) → statement_text s ≡ form_name f ++ 32 ∷ t → does_with f t ≡ Some s → does_in (statement_text s) ≡ Some s
unfolding does_in
read_back f t s e r =
    ap (λ q. does_by q (cut_at 32 q)) e ∙ ap (does_by (form_name f ++ 32 ∷ t)) (cut_found 32 (form_name f) t (name_clear f))
    ∙ ap (option_and_then (λ g. does_with g t)) (name_read f) ∙ r

zero_is : (z : ℤ) → is_zero z ≡ true → z ≡ pos 0
zero_is (pos n) h = ap pos (eqb-true n 0 h)
zero_is (negsuc n) h = cc

memory_complete : (op : MemOp) (ra rb : ℕ) (disp : ℤ) → is_statement (Does (instr.Mem op ra rb disp)) ≡ true →
    does_in (statement_text (Does (instr.Mem op ra rb disp))) ≡ Some (Does (instr.Mem op ra rb disp))
unfolding address_text
memory_complete op ra rb disp h =
    let k = and_parts (is_reg ra && is_reg rb) (is_between 32768 32767 disp) h in
    let r = and_parts (is_reg ra) (is_reg rb) k.0 in
    let n = numeral_is 32768 32767 disp (lit< tt) (lit< tt) k.1 in
    let q : ℕ × (Numeral × ℕ) = (ra, (numeral_of disp, rb)) in
    read_back (Memory op) (behind_first place_text q) (Does (instr.Mem op ra rb disp))
    (ap (λ t. first_text (memory_name op) ra ++ (t ++ based_text rb)) (sym n.printed) ∙ memory_text op ra rb disp (numeral_text (numeral_of disp)))
    (ap (option_map (memory_of op)) (reads_memory.complete q (and_from _ _ r.0 (and_from _ _ n.plain r.1)))
    ∙ ap Some (cond-true _ _ _ n.sized ∙ ap (λ z. Does (instr.Mem op ra rb z)) n.value))

memory_unfit : (op : MemOp) (ra rb : ℕ) (disp : ℤ) (n : Numeral) → is_statement (Unfit (instr.Mem op ra rb disp) n) ≡ true →
    does_in (statement_text (Unfit (instr.Mem op ra rb disp) n)) ≡ Some (Unfit (instr.Mem op ra rb disp) n)
memory_unfit op ra rb disp n h =
    let k = and_parts (is_reg ra && is_reg rb) _ h in
    let r = and_parts (is_reg ra) (is_reg rb) k.0 in
    let z = and_parts (is_zero disp) _ k.1 in
    let p = and_parts (is_plain n) _ z.1 in
    let q : ℕ × (Numeral × ℕ) = (ra, (n, rb)) in
    read_back (Memory op) (behind_first place_text q) (Unfit (instr.Mem op ra rb disp) n) (memory_text op ra rb disp (numeral_text n))
    (ap (option_map (memory_of op)) (reads_memory.complete q (and_from _ _ r.0 (and_from _ _ p.0 r.1)))
    ∙ ap Some (cond-false _ _ _ (not-true _ p.1) ∙ ap (λ z. Unfit (instr.Mem op ra rb z) n) (sym (zero_is disp z.0))))

branch_complete : (op : BrOp) (ra : ℕ) (disp : ℤ) → is_statement (Does (instr.Branch op ra disp)) ≡ true →
    does_in (statement_text (Does (instr.Branch op ra disp))) ≡ Some (Does (instr.Branch op ra disp))
branch_complete op ra disp h =
    let k = and_parts (is_reg ra) (is_between 1048576 1048575 disp) h in
    let n = numeral_is 1048576 1048575 disp (lit< tt) (lit< tt) k.1 in
    let q : ℕ × Numeral = (ra, numeral_of disp) in
    read_back (Branch op) (behind_first numeral_text q) (Does (instr.Branch op ra disp))
    (ap (λ t. first_text (branch_name op) ra ++ t) (sym n.printed) ∙ first_is (branch_name op) ra (numeral_text (numeral_of disp)))
    (ap (option_map (branch_of op)) (reads_branch.complete q (and_from _ _ k.0 n.plain))
    ∙ ap Some (cond-true _ _ _ n.sized ∙ ap (λ z. Does (instr.Branch op ra z)) n.value))

branch_unfit : (op : BrOp) (ra : ℕ) (disp : ℤ) (n : Numeral) → is_statement (Unfit (instr.Branch op ra disp) n) ≡ true →
    does_in (statement_text (Unfit (instr.Branch op ra disp) n)) ≡ Some (Unfit (instr.Branch op ra disp) n)
branch_unfit op ra disp n h =
    let k = and_parts (is_reg ra) _ h in
    let z = and_parts (is_zero disp) _ k.1 in
    let p = and_parts (is_plain n) _ z.1 in
    let q : ℕ × Numeral = (ra, n) in
    read_back (Branch op) (behind_first numeral_text q) (Unfit (instr.Branch op ra disp) n) (first_is (branch_name op) ra (numeral_text n))
    (ap (option_map (branch_of op)) (reads_branch.complete q (and_from _ _ k.0 p.0))
    ∙ ap Some (cond-false _ _ _ (not-true _ p.1) ∙ ap (λ z. Unfit (instr.Branch op ra z) n) (sym (zero_is disp z.0))))

jump_complete : (kind : JumpOp) (ra rb hint : ℕ) → is_statement (Does (instr.Jump kind ra rb hint)) ≡ true →
    does_in (statement_text (Does (instr.Jump kind ra rb hint))) ≡ Some (Does (instr.Jump kind ra rb hint))
jump_complete kind ra rb hint h =
    let k = and_parts _ _ h in
    let r = and_parts (is_reg ra) (is_reg rb && (hint == jump_hint kind)) k.0 in
    let l = and_parts (is_reg rb) (hint == jump_hint kind) r.1 in
    let q : ℕ × ℕ = (ra, rb) in
    read_back (Jump kind) (behind_first (λ r. 40 ∷ closed_text r) q) (Does (instr.Jump kind ra rb hint)) (jump_text kind q)
    (ap (option_map (jump_of kind)) (reads_jump.complete q (and_from _ _ r.0 l.0))
    ∙ ap (λ n. Some (Does (instr.Jump kind ra rb n))) (sym (eqb-true hint (jump_hint kind) l.1)))

-- the operand as it is spelled
record IsSpelledBy (rb : Opnd) (s : Second) : Type 0 where
  same_text : operand_text rb ≡ second_text s
  second : is_second s ≡ true
  made : (make : Opnd → Instr) (start : List ℕ) (rc : ℕ) → TakesOperand make start rc → with_second make s ≡ Does (make rb)

abbrev second_of : Opnd → Second
second_of (R r) = InRegister r
second_of (Literal n) = Literally (numeral_of (pos n))

spelled_by : (rb : Opnd) → has_register rb ≡ true → operand_fits rb ≡ true → IsSpelledBy rb (second_of rb)
spelled_by (R r) h f = record { same_text = register_operand r; second = h; made = λ make start rc t. refl }
spelled_by (Literal m) h f =
    let n = literal_is m f in
    let b = ltb-true m 256 f in
    record {
      same_text = literal_operand m;
      second = n.plain;
      made = λ make start rc t. cond-true _ _ _ (t.fits_is false (magnitude (numeral_of (pos m))) ∙ n.sized)
          ∙ ap Does (t.put_is false (magnitude (numeral_of (pos m))) ∙ ap (λ k. make (Literal k)) (decimal_value m (omega (arith, b))));
    }

module _ (make : Opnd → Instr) (start : List ℕ) (rc : ℕ) (takes : TakesOperand make start rc) (f : Form) (t : List ℕ) where
  back_does : (rb : Opnd) → has_register rb ≡ true → operand_fits rb ≡ true → start ++ last_text (second_of rb, rc) ≡ form_name f ++ 32 ∷ t →
      does_with f t ≡ Some (with_second make (second_of rb)) → does_in (statement_text (Does (make rb))) ≡ Some (Does (make rb))
  back_does rb h k e w =
      let b = spelled_by rb h k in
      read_back f t (Does (make rb)) (takes.text rb ∙ ap (λ z. start ++ z) (last_is (second_of rb) rb rc b.same_text) ∙ e)
      (w ∙ ap Some (b.made make start rc takes))

  back_unfit : (n : Numeral) → fits_with (make (Literal 0)) n.minus (magnitude n) ≡ false →
      start ++ last_text (Literally n, rc) ≡ form_name f ++ 32 ∷ t → does_with f t ≡ Some (with_second make (Literally n)) →
      does_in (statement_text (Unfit (make (Literal 0)) n)) ≡ Some (Unfit (make (Literal 0)) n)
  back_unfit n u e w =
      read_back f t (Unfit (make (Literal 0)) n)
      (takes.number_text (numeral_text n) ∙ ap (λ z. start ++ z) (literal_is_text (numeral_text n) rc) ∙ e)
      (w ∙ ap Some (cond-false _ _ _ u))

second_formed : (rb : Opnd) → has_register rb ≡ true → operand_fits rb ≡ true → is_second (second_of rb) ≡ true
second_formed rb h k = (spelled_by rb h k).second

zero_literal_is : (rb : Opnd) → is_zero_literal rb ≡ true → rb ≡ Literal 0
zero_literal_is (R r) h = cc
zero_literal_is (Literal n) h = ap Literal (eqb-true n 0 h)

three_complete : (op : AluOp) (ra : ℕ) (rb : Opnd) (rc : ℕ) → ((t : List ℕ) → operate_with op t ≡ option_map (three_of op) (first_at last_at t)) →
    operate_start op ra ≡ first_text (operate_name op) ra → hidden_ra op ra ≡ nat_lt ra 32 → is_statement (Does (instr.Alu op ra rb rc)) ≡ true →
    does_in (statement_text (Does (instr.Alu op ra rb rc))) ≡ Some (Does (instr.Alu op ra rb rc))
three_complete op ra rb rc w s a h =
    let k = and_parts (hidden_ra op ra && (has_register rb && nat_lt rc 32)) (operand_fits rb) h in
    let x = and_parts (hidden_ra op ra) (has_register rb && nat_lt rc 32) k.0 in
    let y = and_parts (has_register rb) (nat_lt rc 32) x.1 in
    let q : ℕ × (Second × ℕ) = (ra, (second_of rb, rc)) in
    back_does (λ rb. instr.Alu op ra rb rc) (first_text (operate_name op) ra) rc (three_takes op ra rc s x.0 y.1) (Operate op) (behind_first last_text q)
    rb y.0 k.1 (first_is (operate_name op) ra (last_text (second_of rb, rc)))
    (w (behind_first last_text q) ∙ ap (option_map (three_of op)) (reads_three.complete q (and_from _ _ (sym a ∙ x.0) (and_from _ _ (second_formed rb y.0 k.1) y.1))))

three_unfit : (op : AluOp) (ra : ℕ) (rb : Opnd) (rc : ℕ) (n : Numeral) → ((t : List ℕ) → operate_with op t ≡ option_map (three_of op) (first_at last_at t)) →
    operate_start op ra ≡ first_text (operate_name op) ra → hidden_ra op ra ≡ nat_lt ra 32 → is_statement (Unfit (instr.Alu op ra rb rc) n) ≡ true →
    does_in (statement_text (Unfit (instr.Alu op ra rb rc) n)) ≡ Some (Unfit (instr.Alu op ra rb rc) n)
three_unfit op ra rb rc n w s a h =
    let k = and_parts (hidden_ra op ra && (has_register rb && nat_lt rc 32)) _ h in
    let x = and_parts (hidden_ra op ra) (has_register rb && nat_lt rc 32) k.0 in
    let y = and_parts (has_register rb) (nat_lt rc 32) x.1 in
    let z = and_parts (is_zero_literal rb) _ k.1 in
    let p = and_parts (is_plain n) _ z.1 in
    let q : ℕ × (Second × ℕ) = (ra, (Literally n, rc)) in
    let P : Opnd → Type 0 = λ rb. does_in (statement_text (Unfit (instr.Alu op ra rb rc) n)) ≡ Some (Unfit (instr.Alu op ra rb rc) n) in
    subst P (sym (zero_literal_is rb z.0))
    (back_unfit (λ rb. instr.Alu op ra rb rc) (first_text (operate_name op) ra) rc (three_takes op ra rc s x.0 y.1) (Operate op) (behind_first last_text q)
    n (not-true _ p.1) (first_is (operate_name op) ra (last_text (Literally n, rc)))
    (w (behind_first last_text q) ∙ ap (option_map (three_of op)) (reads_three.complete q (and_from _ _ (sym a ∙ x.0) (and_from _ _ p.0 y.1)))))

move_complete : (c : Cond) (ra : ℕ) (rb : Opnd) (rc : ℕ) → is_statement (Does (instr.Cmov c ra rb rc)) ≡ true →
    does_in (statement_text (Does (instr.Cmov c ra rb rc))) ≡ Some (Does (instr.Cmov c ra rb rc))
move_complete c ra rb rc h =
    let k = and_parts (nat_lt ra 32 && (has_register rb && nat_lt rc 32)) (operand_fits rb) h in
    let x = and_parts (nat_lt ra 32) (has_register rb && nat_lt rc 32) k.0 in
    let y = and_parts (has_register rb) (nat_lt rc 32) x.1 in
    let q : ℕ × (Second × ℕ) = (ra, (second_of rb, rc)) in
    back_does (λ rb. instr.Cmov c ra rb rc) (first_text (move_name c) ra) rc (move_takes c ra rc x.0 y.1) (Move c) (behind_first last_text q)
    rb y.0 k.1 (first_is (move_name c) ra (last_text (second_of rb, rc)))
    (ap (option_map (move_of c)) (reads_three.complete q (and_from _ _ x.0 (and_from _ _ (second_formed rb y.0 k.1) y.1))))

move_unfit : (c : Cond) (ra : ℕ) (rb : Opnd) (rc : ℕ) (n : Numeral) → is_statement (Unfit (instr.Cmov c ra rb rc) n) ≡ true →
    does_in (statement_text (Unfit (instr.Cmov c ra rb rc) n)) ≡ Some (Unfit (instr.Cmov c ra rb rc) n)
move_unfit c ra rb rc n h =
    let k = and_parts (nat_lt ra 32 && (has_register rb && nat_lt rc 32)) _ h in
    let x = and_parts (nat_lt ra 32) (has_register rb && nat_lt rc 32) k.0 in
    let y = and_parts (has_register rb) (nat_lt rc 32) x.1 in
    let z = and_parts (is_zero_literal rb) _ k.1 in
    let p = and_parts (is_plain n) _ z.1 in
    let q : ℕ × (Second × ℕ) = (ra, (Literally n, rc)) in
    let P : Opnd → Type 0 = λ rb. does_in (statement_text (Unfit (instr.Cmov c ra rb rc) n)) ≡ Some (Unfit (instr.Cmov c ra rb rc) n) in
    subst P (sym (zero_literal_is rb z.0))
    (back_unfit (λ rb. instr.Cmov c ra rb rc) (first_text (move_name c) ra) rc (move_takes c ra rc x.0 y.1) (Move c) (behind_first last_text q)
    n (not-true _ p.1) (first_is (move_name c) ra (last_text (Literally n, rc)))
    (ap (option_map (move_of c)) (reads_three.complete q (and_from _ _ x.0 (and_from _ _ p.0 y.1)))))

extension_complete : (op : AluOp) (ra : ℕ) (rb : Opnd) (rc : ℕ) → ((t : List ℕ) → operate_with op t ≡ option_map (extension_of op) (last_at t)) →
    operate_start op 31 ≡ operate_name op ++ codes " " → hidden_ra op 31 ≡ true → hidden_ra op ra ≡ (ra == 31) → is_statement (Does (instr.Alu op ra rb rc)) ≡ true →
    does_in (statement_text (Does (instr.Alu op ra rb rc))) ≡ Some (Does (instr.Alu op ra rb rc))
extension_complete op ra rb rc w s a u h =
    let k = and_parts (hidden_ra op ra && (has_register rb && nat_lt rc 32)) (operand_fits rb) h in
    let x = and_parts (hidden_ra op ra) (has_register rb && nat_lt rc 32) k.0 in
    let y = and_parts (has_register rb) (nat_lt rc 32) x.1 in
    let q : Second × ℕ = (second_of rb, rc) in
    let P : ℕ → Type 0 = λ ra. does_in (statement_text (Does (instr.Alu op ra rb rc))) ≡ Some (Does (instr.Alu op ra rb rc)) in
    subst P (sym (eqb-true ra 31 (sym u ∙ x.0)))
    (back_does (λ rb. instr.Alu op 31 rb rc) (operate_name op ++ codes " ") rc (extension_takes op rc s a y.1) (Operate op) (last_text q)
    rb y.0 k.1 (append_assoc (operate_name op) (codes " ") (last_text q))
    (w (last_text q) ∙ ap (option_map (extension_of op)) (reads_last.complete q (and_from _ _ (second_formed rb y.0 k.1) y.1))))

extension_unfit : (op : AluOp) (ra : ℕ) (rb : Opnd) (rc : ℕ) (n : Numeral) → ((t : List ℕ) → operate_with op t ≡ option_map (extension_of op) (last_at t)) →
    operate_start op 31 ≡ operate_name op ++ codes " " → hidden_ra op 31 ≡ true → hidden_ra op ra ≡ (ra == 31) → is_statement (Unfit (instr.Alu op ra rb rc) n) ≡ true →
    does_in (statement_text (Unfit (instr.Alu op ra rb rc) n)) ≡ Some (Unfit (instr.Alu op ra rb rc) n)
extension_unfit op ra rb rc n w s a u h =
    let k = and_parts (hidden_ra op ra && (has_register rb && nat_lt rc 32)) _ h in
    let x = and_parts (hidden_ra op ra) (has_register rb && nat_lt rc 32) k.0 in
    let y = and_parts (has_register rb) (nat_lt rc 32) x.1 in
    let z = and_parts (is_zero_literal rb) _ k.1 in
    let p = and_parts (is_plain n) _ z.1 in
    let q : Second × ℕ = (Literally n, rc) in
    let P : ℕ → Opnd → Type 0 = λ ra rb. does_in (statement_text (Unfit (instr.Alu op ra rb rc) n)) ≡ Some (Unfit (instr.Alu op ra rb rc) n) in
    subst (λ (ra : ℕ). P ra rb) (sym (eqb-true ra 31 (sym u ∙ x.0))) (subst (P 31) (sym (zero_literal_is rb z.0))
    (back_unfit (λ rb. instr.Alu op 31 rb rc) (operate_name op ++ codes " ") rc (extension_takes op rc s a y.1) (Operate op) (last_text q)
    n (not-true _ p.1) (append_assoc (operate_name op) (codes " ") (last_text q))
    (w (last_text q) ∙ ap (option_map (extension_of op)) (reads_last.complete q (and_from _ _ p.0 y.1)))))

operate_complete : (op : AluOp) (ra : ℕ) (rb : Opnd) (rc : ℕ) → is_statement (Does (instr.Alu op ra rb rc)) ≡ true →
    does_in (statement_text (Does (instr.Alu op ra rb rc))) ≡ Some (Does (instr.Alu op ra rb rc))
operate_complete Sextb ra rb rc h = extension_complete Sextb ra rb rc (λ t. refl) refl refl refl h
operate_complete Sextw ra rb rc h = extension_complete Sextw ra rb rc (λ t. refl) refl refl refl h
operate_complete op ra rb rc h = three_complete op ra rb rc (λ t. refl) refl refl h

operate_unfit : (op : AluOp) (ra : ℕ) (rb : Opnd) (rc : ℕ) (n : Numeral) → is_statement (Unfit (instr.Alu op ra rb rc) n) ≡ true →
    does_in (statement_text (Unfit (instr.Alu op ra rb rc) n)) ≡ Some (Unfit (instr.Alu op ra rb rc) n)
operate_unfit Sextb ra rb rc n h = extension_unfit Sextb ra rb rc n (λ t. refl) refl refl refl h
operate_unfit Sextw ra rb rc n h = extension_unfit Sextw ra rb rc n (λ t. refl) refl refl refl h
operate_unfit op ra rb rc n h = three_unfit op ra rb rc n (λ t. refl) refl refl h

alone_back : (f : Form) (s : Statement) → statement_text s ≡ form_name f → cut_at 32 (form_name f) ≡ None → does_alone f ≡ Some s →
    does_in (statement_text s) ≡ Some s
unfolding does_in
alone_back f s e c d =
    ap (λ q. does_by q (cut_at 32 q)) e ∙ ap (does_by (form_name f)) c ∙ ap (option_and_then does_alone) (name_read f) ∙ d

barrier_uncut : (op : MiscOp) → cut_at 32 (form_name (Barrier op)) ≡ None
unfolding cut_at
barrier_uncut misc.Trapb = refl
barrier_uncut misc.Excb = refl
barrier_uncut misc.Mb = refl
barrier_uncut misc.Wmb = refl

fixed_uncut : (cut_at 32 (codes "fnop") ≡ None) × (cut_at 32 (codes "halt") ≡ None) × (cut_at 32 (codes "callsys") ≡ None)
unfolding cut_at
fixed_uncut = (refl, refl, refl)

barrier_complete : (op : MiscOp) (ra rb : ℕ) → is_statement (Does (instr.Misc op ra rb)) ≡ true →
    does_in (statement_text (Does (instr.Misc op ra rb))) ≡ Some (Does (instr.Misc op ra rb))
barrier_complete op ra rb h =
    let k = and_parts ((ra == 0) && (rb == 0)) true h in
    let z = and_parts (ra == 0) (rb == 0) k.0 in
    let P : ℕ → ℕ → Type 0 = λ ra rb. does_in (statement_text (Does (instr.Misc op ra rb))) ≡ Some (Does (instr.Misc op ra rb)) in
    subst (λ (ra : ℕ). P ra rb) (sym (eqb-true ra 0 z.0)) (subst (P 0) (sym (eqb-true rb 0 z.1))
    (alone_back (Barrier op) (Does (instr.Misc op 0 0)) refl (barrier_uncut op) refl))

pub does_complete : (i : Instr) → is_statement (Does i) ≡ true → does_in (statement_text (Does i)) ≡ Some (Does i)
does_complete (instr.Mem op ra rb disp) h = memory_complete op ra rb disp h
does_complete (instr.Jump kind ra rb hint) h = jump_complete kind ra rb hint h
does_complete (instr.Branch op ra disp) h = branch_complete op ra disp h
does_complete (instr.Alu op ra rb rc) h = operate_complete op ra rb rc h
does_complete (instr.Cmov c ra rb rc) h = move_complete c ra rb rc h
does_complete (instr.Misc op ra rb) h = barrier_complete op ra rb h
does_complete instr.Fnop h = alone_back Fnop (Does instr.Fnop) refl fixed_uncut.0 refl
does_complete instr.Halt h = alone_back Halt (Does instr.Halt) refl fixed_uncut.1 refl
does_complete instr.Callsys h = alone_back Callsys (Does instr.Callsys) refl fixed_uncut.2 refl

pub unfit_complete : (i : Instr) (n : Numeral) → is_statement (Unfit i n) ≡ true → does_in (statement_text (Unfit i n)) ≡ Some (Unfit i n)
unfit_complete (instr.Mem op ra rb disp) n h = memory_unfit op ra rb disp n h
unfit_complete (instr.Branch op ra disp) n h = branch_unfit op ra disp n h
unfit_complete (instr.Alu op ra rb rc) n h = operate_unfit op ra rb rc n h
unfit_complete (instr.Cmov c ra rb rc) n h = move_unfit c ra rb rc n h
unfit_complete (instr.Jump kind ra rb hint) n h = let z : false ≡ true = (and_parts (is_spelled (instr.Jump kind ra rb hint)) false h).1 in cc
unfit_complete (instr.Misc op ra rb) n h = let z : false ≡ true = (and_parts (is_spelled (instr.Misc op ra rb)) false h).1 in cc
unfit_complete instr.Fnop n h = cc
unfit_complete instr.Halt n h = cc
unfit_complete instr.Callsys n h = cc
