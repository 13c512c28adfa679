-- What a word does in a script and what its word does in the image agree.
use Rattle.std.proofs.Common.{◌≡◌, ◌⊎◌, inl, inr, ℕ, zero, suc, ◌+◌, ◌-◌, ◌*◌, ◌/◌, ◌%◌, ◌^◌, ◌<◌, ◌≤◌, Bool, true, false, cond, ◌&&◌, ◌||◌, ◌==◌, nat_lt, nat_le, List, length, map, Option, Some, None, refl, ap, sym as back, subst, ◌∙◌, arith}
use Rattle.std.specs.Prelude.{ℤ, pos, ◌*ℤ◌, FitsSigned}
use Rattle.std.specs.Int.{w16, w64, cast_unsigned}
use Rattle.std.proofs.lemmas.Int.{ints}
use Rattle.std.proofs.lemmas.Bool.{eqb-true, eqb-false, leb-true, ltb-true}
use Rattle.std.proofs.lemmas.Bool.Decides.{nat_tests}
use Rattle.om_alpha.specs.declared.op.AluOp.{AluOp}
use Rattle.om_alpha.specs.declared.op.Cond.{Cond}
use Rattle.om_alpha.specs.declared.op.TrapKind.TheVariants as trap
use Rattle.om_alpha.specs.Arithmetic.{overflows, alu_result, holds}
use Rattle.om_isa.specs.declared.instr.MemOp.{MemOp}
use Rattle.om_isa.specs.declared.instr.MemOp.TheVariants.{Lda, Ldah, Ldbu, LdqU, Ldwu, Stw, Stb, StqU, Ldl, Ldq, Stl}
use Rattle.om_isa.specs.declared.instr.BrOp.{BrOp}
use Rattle.om_isa.specs.declared.instr.BrOp.TheVariants.{Br, Bsr, If}
use Rattle.om_isa.specs.declared.instr.Opnd.{Opnd}
use Rattle.om_isa.specs.declared.instr.Opnd.TheVariants.{R, Lit as Literal}
use Rattle.om_isa.specs.declared.instr.Instr.{Instr}
use Rattle.om_isa.specs.declared.instr.Instr.TheVariants.{Mem, Jump as Jumps, Branch, Alu, Cmov, Misc, Fnop, Halt, Callsys}
use Rattle.om_isa.specs.declared.instr.Access.{Access}
use Rattle.om_isa.specs.declared.instr.Access.TheVariants.{Address, Load, Store as Stores}
use Rattle.om_isa.specs.Registers.{access_of}
use Rattle.om_isa.specs.Effect.{Nothing, Set, Store, Jump, Stop, StepObserves, with_value}
use Rattle.om_isa.specs.SystemCall.{Reached, At, BadAddress, Observes, Call, Answers, Resizes, AsksEnd, AsksOffset, AsksOther, AskObserves, heap_call, put_call, take_call, read_call, write_call, numbered_call, heap_limit}
use Rattle.om_isa.specs.Words.{instr_of, IsInstr, IsOperand, Encodes}
use Rattle.om_value.specs.declared.value.Place.{Place}
use Rattle.om_value.specs.declared.value.Region.{Region}
use Rattle.om_value.specs.declared.value.Region.TheVariants.{Sec, Common, Stack, Heap}
use Rattle.om_value.specs.declared.value.Target.{Target}
use Rattle.om_value.specs.declared.value.Target.TheVariants as target
use Rattle.om_value.specs.declared.value.Value.{Value}
use Rattle.om_value.specs.declared.value.Value.TheVariants.{Num, Ptr, Code, Gp, Half, GpOff}
use Rattle.om_value.specs.Same.{value_eq}
use Rattle.om_value.specs.Lift.{lifted, lifted_add, lifted_condition, value_of}
use Rattle.om_prog.specs.Cells.{Cell, load_cells, cells_from, number_of, all_bytes}
use Rattle.om_prog.specs.Act.{Act, Plain, Lit, GpHi, GpLo, To, AddrLda, AddrHi, UseLo, UseGp, Wrong, Script}
use Rattle.om_prog.specs.Step as sym
use Rattle.om_prog.specs.Step.{SymState, SymEnd, SymEffect, ExitedWith, TrappedAt, ObservedAt, read_reg, write_reg, access_size, address_scale, sized, Inside, Refused, Hidden, spot_of, at_spot}
use Rattle.om_image.specs.declared.image.Image.{Image}
use Rattle.om_image.specs.NumState.{heap_base, NumState, register_at}
use Rattle.om_image.specs.NumStep as num
use Rattle.om_image.specs.NumStep.{NumEffect, num_step, num_start, start_registers, data_size, is_text, start_memory}
use Rattle.om_image.specs.NumAccess as moved
use Rattle.om_image.specs.NumAccess.{plus, is_mapped, bytes_from, number_in}
use Rattle.byteorder.specs.Endian.{little_bytes}
use Rattle.om_lockstep.specs.Addresses.{Addresses, IsValue, IsSizeOf, IsTarget, number_of_value, ptr_number, target_number}
use Rattle.om_lockstep.specs.Goes.{cell_byte, most_of, IsLowered, EffectAlike, CallAlike, Room}
use Rattle.om_lockstep.specs.Forms.{IsEncoded, IsForm, IsSlot, is_num}
use Rattle.om_lockstep.proofs.Small.{and_true, same_value}
use Rattle.om_lockstep.proofs.Memory.{Loaded, loaded, cells_are, cells_length, bytes_are, all_are, digit}
use Rattle.om_isa.proofs.Reading.{complete}
use Rattle.std.proofs.Math.Nat.{mod-one, div-one, add-zero, zero-add}
use Rattle.om_lockstep.proofs.Sound.{number_below, lift_sound, lift_add_sound, condition_sound, inside_number, overflows_at, target_value, target_is}
use Rattle.om_isa.specs.Target.{displaced}
use Rattle.om_lockstep.proofs.Access.{same_size, number_is, load_gives, store_gives}

-- sizes as they are, and at most
pub sized_most : (size : Region → ℕ) (heap : ℕ) → heap ≤ heap_limit → (r : Region) → sized size heap r ≤ sized size heap_limit r
sized_most size heap h (Sec o n) = omega arith
sized_most size heap h (Common s) = omega arith
sized_most size heap h Stack = omega arith
sized_most size heap h Heap = h

unmapped : (limit heap a n : ℕ) → a < 0x10000 → is_mapped limit heap a n ≡ false
unmapped limit heap a n h = grind (arith, nat_tests)

not_below : (x n : ℕ) → nat_le x n ≡ false → n < x
not_below x n e = grind (arith, nat_tests)

bytes_length_is : (memory : ℕ → ℕ) (a n : ℕ) → length (bytes_from memory a n) ≡ n
bytes_length_is memory a zero = refl
bytes_length_is memory a (suc n) = ap suc (bytes_length_is memory (a + 1) n)

from_digits : (memory : ℕ → ℕ) (N a k n : ℕ) → ((j : ℕ) → j < n → memory (a + j) ≡ N / 256 ^ (k + j) % 256) → number_of (bytes_from memory a n) ≡ N / 256 ^ k % 256 ^ n
from_digits memory N a k zero h = back (mod-one _)
from_digits memory N a k (suc n) h =
    let here : memory a ≡ N / 256 ^ k % 256 = ap memory (back (add-zero a)) ∙ h 0 (omega arith) ∙ ap (λ j. N / 256 ^ j % 256) (add-zero k) in
    let rest = from_digits memory N (a + 1) (k + 1) n (λ j lt. let p : a + 1 + j ≡ a + (j + 1) = omega arith in let q : k + (j + 1) ≡ k + 1 + j = omega arith in ap memory p ∙ h (j + 1) (omega arith) ∙ ap (λ j. N / 256 ^ j % 256) q) in
    rw (here, rest) (digit N k n)

module _ (c : Script) (l : Addresses) (i : Image) (K G : Place → Type 0) (enc : IsEncoded c l i K G) (s : SymState) (t : NumState) (low : IsLowered c l (start_memory i) s t) where
  size : Region → ℕ
  size r = sized c.sizes s.heap r

  at_most : (r : Region) → sized c.sizes s.heap r ≤ most_of c r
  at_most = sized_most c.sizes s.heap low.heap_small

  abbrev pub Agrees : SymEffect → NumEffect → Type 0
  Agrees e f = EffectAlike l (sized c.sizes s.heap) e f

  below : (v : Value) → IsValue v → number_of_value l v < 2 ^ 64
  below = number_below l (most_of c) enc.laid

  -- ---- registers

  pub reg_is : (r : ℕ) → register_at t.registers r ≡ number_of_value l (read_reg s.regs r)
  reg_is r = by_test (r == 31)
    where
      by_test : (b : Bool) → cond b 0 (t.registers r) ≡ number_of_value l (cond b (Num 0) (s.regs r))
      by_test true = refl
      by_test false = low.regs r

  pub reg_value : (r : ℕ) → IsValue (read_reg s.regs r)
  reg_value r = by_test (r == 31)
    where
      by_test : (b : Bool) → IsValue (cond b (Num 0) (s.regs r))
      by_test true = omega arith
      by_test false = low.values r

  -- ---- addresses

  -- a number that an access uses for a value
  abbrev Names : Value → ℕ → Type 0
  Names (Num n) a = a ≡ n
  Names (Ptr r x) a = (a ≡ ptr_number l r x) × (x < 2 ^ 64)
  Names _ a = Unit {0}

  names_number : (v : Value) (a : ℕ) → a ≡ number_of_value l v → IsValue v → Names v a
  names_number (Num n) a e h = e
  names_number (Ptr r x) a e h = (e, h)
  names_number (Code p) a e h = tt
  names_number (Gp p) a e h = tt
  names_number (Half p) a e h = tt
  names_number (GpOff p g) a e h = tt

  names_rounded : (v : Value) (a : ℕ) → a ≡ number_of_value l v → IsValue v → Names (sym.rounded v) (a / 8 * 8)
  names_rounded (Num n) a e h = ap (λ a. a / 8 * 8) e
  names_rounded (Ptr r x) a e h = let k = enc.laid.aligned r in (omega arith, omega arith)
  names_rounded (Code p) a e h = tt
  names_rounded (Gp p) a e h = tt
  names_rounded (Half p) a e h = tt
  names_rounded (GpOff p g) a e h = tt

  names_accessed : (op : MemOp) (v : Value) (a : ℕ) → a ≡ number_of_value l v → IsValue v → Names (sym.accessed op v) (moved.accessed op a)
  names_accessed LdqU v a e h = names_rounded v a e h
  names_accessed StqU v a e h = names_rounded v a e h
  names_accessed _ v a e h = names_number v a e h

  -- the sizes of accesses divide 16
  divides : (op : MemOp) (base x : ℕ) → base % 16 ≡ 0 → (base + x) % 2 ^ 64 % access_size op ≡ x % access_size op
  divides Ldbu base x h = omega arith
  divides Stb base x h = omega arith
  divides Ldwu base x h = omega arith
  divides Stw base x h = omega arith
  divides Ldl base x h = omega arith
  divides Stl base x h = omega arith
  divides _ base x h = omega arith

  some_size : (op : MemOp) → (0 < access_size op) × (access_size op ≤ 8)
  some_size Ldbu = (omega arith, omega arith)
  some_size Stb = (omega arith, omega arith)
  some_size Ldwu = (omega arith, omega arith)
  some_size Stw = (omega arith, omega arith)
  some_size Ldl = (omega arith, omega arith)
  some_size Stl = (omega arith, omega arith)
  some_size _ = (omega arith, omega arith)

  -- an access of n bytes at a: what it does where it is in a region decides
  number_access : (n a b : ℕ) (f : Region → ℕ → SymEffect) (g : NumEffect) → a ≡ b → Agrees (at_spot (spot_of (sized c.sizes s.heap) n (Num b)) f) (cond (a % n == 0) (cond (is_mapped (data_size i) t.heap_size a n) g (Stop trap.Access)) (Stop trap.Unaligned))
  number_access n a b f g e = subst (λ a. Agrees (at_spot (spot_of (sized c.sizes s.heap) n (Num b)) f) (cond (a % n == 0) (cond (is_mapped (data_size i) t.heap_size a n) g (Stop trap.Access)) (Stop trap.Unaligned))) (back e) (by_tests (b % n == 0) (nat_lt b 0x10000) refl)
    where
      by_tests : (p q : Bool) → nat_lt b 0x10000 ≡ q → Agrees (at_spot (cond p (cond q (Refused trap.Access) Hidden) (Refused trap.Unaligned)) f) (cond p (cond (is_mapped (data_size i) t.heap_size b n) g (Stop trap.Access)) (Stop trap.Unaligned))
      by_tests true true e = rw (unmapped (data_size i) t.heap_size b n (ltb-true b 0x10000 e)) refl
      by_tests true false e = tt
      by_tests false q e = refl

  pointer_access : (n a x : ℕ) (r : Region) (f : Region → ℕ → SymEffect) (g : NumEffect) → a ≡ ptr_number l r x → ptr_number l r x % n ≡ x % n → 0 < n → (x + n ≤ sized c.sizes s.heap r → a ≡ l.region r + x → Agrees (f r x) g) → Agrees (at_spot (spot_of (sized c.sizes s.heap) n (Ptr r x)) f) (cond (a % n == 0) (cond (is_mapped (data_size i) t.heap_size a n) g (Stop trap.Access)) (Stop trap.Unaligned))
  pointer_access n a x r f g e d some h = by_tests (x % n == 0) (a % n == 0) (nat_le (x + n) (sized c.sizes s.heap r)) (ap (λ k. k == 0) (ap (λ a. a % n) e ∙ d)) refl
    where
      by_tests : (p q u : Bool) → q ≡ p → nat_le (x + n) (sized c.sizes s.heap r) ≡ u → Agrees (at_spot (cond p (cond u (Inside r x) Hidden) (Refused trap.Unaligned)) f) (cond q (cond (is_mapped (data_size i) t.heap_size a n) g (Stop trap.Access)) (Stop trap.Unaligned))
      by_tests true true true same e1 =
          let fits : x + n ≤ sized c.sizes s.heap r = leb-true (x + n) (sized c.sizes s.heap r) e1 in
          let m = at_most r in
          let where_is : a ≡ l.region r + x = e ∙ inside_number l (most_of c) enc.laid r x (omega arith) in
          let mapped : is_mapped (data_size i) t.heap_size a n ≡ true = ap (λ a. is_mapped (data_size i) t.heap_size a n) where_is ∙ ap (λ heap. is_mapped (data_size i) heap (l.region r + x) n) low.heap ∙ enc.mapped r x n s.heap low.heap_small some fits in
          rw mapped (h fits where_is)
      by_tests true true false same e1 = tt
      by_tests false false u same e1 = refl
      by_tests true false u same e1 = cc
      by_tests false true u same e1 = cc

  access : (op : MemOp) (v : Value) (a : ℕ) (f : Region → ℕ → SymEffect) (g : NumEffect) → Names v a → ((r : Region) (x : ℕ) → x + access_size op ≤ sized c.sizes s.heap r → a ≡ l.region r + x → Agrees (f r x) g) → Agrees (at_spot (spot_of (sized c.sizes s.heap) (access_size op) v) f) (num.at_address (length i.text) (data_size i) t.heap_size t.registers t.memory t.pc (access_size op) a g)
  access op (Num n) a f g e h = number_access (access_size op) a n f g e
  access op (Ptr r x) a f g e h = pointer_access (access_size op) a x r f g e.0 (divides op (l.region r) x (enc.laid.aligned r)) (some_size op).0 (h r x)
  access op (Code p) a f g e h = tt
  access op (Gp p) a f g e h = tt
  access op (Half p) a f g e h = tt
  access op (GpOff p t) a f g e h = tt

  -- ---- loads and stores

  load_agrees : (op : MemOp) (ra : ℕ) (v : Value) (a : ℕ) → access_of op ≡ Load → Names v a → Agrees (sym.load c s op ra v) (num.load_effect (length i.text) (data_size i) t.heap_size t.registers t.memory t.pc op ra a)
  load_agrees op ra v a isload e =
      subst (λ k. Agrees (sym.load c s op ra v) (num.at_address (length i.text) (data_size i) t.heap_size t.registers t.memory t.pc k a (Set ra (moved.extended op (number_in t.memory a k))))) (back (same_size op))
      (access op v a _ _ e (λ r x fits where_is. at_value r x fits where_is (load_cells (s.cells r) x (access_size op)) refl))
    where
      at_value : (r : Region) (x : ℕ) → x + access_size op ≤ sized c.sizes s.heap r → a ≡ l.region r + x → (o : Option Value) → load_cells (s.cells r) x (access_size op) ≡ o → Agrees (with_value o (λ w. Set ra (sym.extended op w))) (Set ra (moved.extended op (number_in t.memory a (access_size op))))
      at_value r x fits where_is None e = tt
      at_value r x fits where_is (Some w) e =
          let cs = cells_from (s.cells r) x (access_size op) in
          let n : length cs ≡ access_size op = cells_length (s.cells r) x (access_size op) in
          let g : Loaded l (access_size op) (map (cell_byte l) cs) w = subst (λ k. Loaded l k (map (cell_byte l) cs) w) n (loaded l cs w (cells_are l (s.cells r) (low.cells r) x (access_size op)) e) in
          let k = load_gives l op (map (cell_byte l) cs) w isload (below w) g in
          let b : bytes_from t.memory a (access_size op) ≡ map (cell_byte l) cs = ap (λ a. bytes_from t.memory a (access_size op)) where_is ∙ bytes_are l (most_of c) enc.laid (sized c.sizes s.heap) at_most s.cells t.memory r x (access_size op) low.memory fits in
          (refl, k.0, inr (ap (moved.extended op) (number_is t.memory a (access_size op) ∙ ap number_of b) ∙ k.1))

  store_agrees : (op : MemOp) (w v : Value) (n a : ℕ) → IsValue w → n ≡ number_of_value l w → Names v a → Agrees (sym.store c s op w v) (num.store_effect (length i.text) (data_size i) t.heap_size t.registers t.memory t.pc op n a)
  store_agrees op w v n a hw nw e =
      subst (λ k. Agrees (sym.store c s op w v) (num.at_address (length i.text) (data_size i) t.heap_size t.registers t.memory t.pc k a (Store (a, little_bytes k n)))) (back (same_size op))
      (access op v a _ _ e (λ r x fits where_is. at_cells r x fits where_is (sym.stored (access_size op) w) refl))
    where
      at_cells : (r : Region) (x : ℕ) → x + access_size op ≤ sized c.sizes s.heap r → a ≡ l.region r + x → (o : Option (List Cell)) → sym.stored (access_size op) w ≡ o → Agrees (with_value o (λ cs. Store (r, x, cs))) (Store (a, little_bytes (access_size op) n))
      at_cells r x fits where_is None e = tt
      at_cells r x fits where_is (Some cs) e =
          let g = store_gives l (access_size op) w cs hw e in
          let z = g.count in
          let bytes : little_bytes (access_size op) n ≡ map (cell_byte l) cs = ap (little_bytes (access_size op)) nw ∙ back g.bytes in
          (ap (λ a. (a, little_bytes (access_size op) n)) where_is ∙ ap (λ (bs : List ℕ). (l.region r + x, bs)) bytes, omega arith, g.cells)

  -- over a base, and over another base that gives the same address
  memory_agrees : (kind : Access) (op : MemOp) (ra : ℕ) (v : Value) (n : ℕ) (d z : ℤ) → access_of op ≡ kind → IsValue v → FitsSigned w16 z → plus n d ≡ plus (number_of_value l v) z → (kind ≡ Address → plus n (address_scale op *ℤ d) ≡ plus (number_of_value l v) (address_scale op *ℤ z)) → Agrees (sym.memory_effect c s kind op ra v z) (num.memory_effect (length i.text) (data_size i) t.heap_size t.registers t.memory t.pc kind op ra n d)
  memory_agrees Address op ra v n d z k hv hz e f = at_value (lifted_add v (address_scale op *ℤ z)) refl
    where
      scaled : (op : MemOp) → cast_unsigned w64 (address_scale op *ℤ z) < 2 ^ 64
      scaled Ldah = omega (arith, ints)
      scaled _ = omega (arith, ints)

      at_value : (o : Option Value) → lifted_add v (address_scale op *ℤ z) ≡ o → Agrees (with_value o (λ v. Set ra v)) (Set ra (plus n (address_scale op *ℤ d)))
      at_value None g = tt
      at_value (Some w) g =
          let r = lift_add_sound l (most_of c) enc.laid v w (address_scale op *ℤ z) hv (scaled op) g in
          (refl, r.0, inr (f refl ∙ r.1))
  memory_agrees Load op ra v n d z k hv hz e f = by_test (ra == 31)
    where
      at_value : (o : Option Value) → lifted_add v z ≡ o → Agrees (with_value o (λ v. sym.load c s op ra (sym.accessed op v))) (num.load_effect (length i.text) (data_size i) t.heap_size t.registers t.memory t.pc op ra (moved.accessed op (plus n d)))
      at_value None g = tt
      at_value (Some w) g =
          let r = lift_add_sound l (most_of c) enc.laid v w z hv (omega (arith, ints)) g in
          load_agrees op ra (sym.accessed op w) (moved.accessed op (plus n d)) k (names_accessed op w (plus n d) (e ∙ r.1) r.0)

      by_test : (b : Bool) → Agrees (cond b Nothing (with_value (lifted_add v z) (λ v. sym.load c s op ra (sym.accessed op v)))) (cond b Nothing (num.load_effect (length i.text) (data_size i) t.heap_size t.registers t.memory t.pc op ra (moved.accessed op (plus n d))))
      by_test true = tt
      by_test false = at_value (lifted_add v z) refl
  memory_agrees Stores op ra v n d z k hv hz e f = at_value (lifted_add v z) refl
    where
      at_value : (o : Option Value) → lifted_add v z ≡ o → Agrees (with_value o (λ v. sym.store c s op (read_reg s.regs ra) (sym.accessed op v))) (num.store_effect (length i.text) (data_size i) t.heap_size t.registers t.memory t.pc op (register_at t.registers ra) (moved.accessed op (plus n d)))
      at_value None g = tt
      at_value (Some w) g =
          let r = lift_add_sound l (most_of c) enc.laid v w z hv (omega (arith, ints)) g in
          store_agrees op (read_reg s.regs ra) (sym.accessed op w) (register_at t.registers ra) (moved.accessed op (plus n d)) (reg_value ra) (reg_is ra) (names_accessed op w (plus n d) (e ∙ r.1) r.0)

  -- ---- operations

  size_is : (v : Value) → IsSizeOf (sized c.sizes s.heap) v (sym.region_size c s v)
  size_is (Ptr r x) = refl
  size_is (Num n) = tt
  size_is (Code p) = tt
  size_is (Gp p) = tt
  size_is (Half p) = tt
  size_is (GpOff p g) = tt

  overflow_same : (op : AluOp) (a b : Value) → sym.overflows_on c s op a b ≡ overflows_at op a b
  overflow_same op (Num m) (Num n) = refl
  overflow_same op (Num m) _ = refl
  overflow_same op _ b = refl

  both_numbers : (op : AluOp) (a b : Value) → overflows_at op a b ≡ true → overflows op (number_of_value l a) (number_of_value l b) ≡ true
  both_numbers op (Num m) (Num n) e = e
  both_numbers op (Num m) _ e = cc
  both_numbers op _ b e = cc

  pub alu_agrees : (op : AluOp) (a b : Value) (m n rc : ℕ) → IsValue a → IsValue b → m ≡ number_of_value l a → n ≡ number_of_value l b → Agrees (sym.alu_effect c s op a b rc) (num.alu_effect (length i.text) (data_size i) t.heap_size t.registers t.memory t.pc op m n rc)
  alu_agrees op a b m n rc ha hb em en =
      rw (em, en) (by_overflow (sym.overflows_on c s op a b) (back (overflow_same op a b)))
    where
      by_value : (o : Option Value) → lifted op a (sym.region_size c s a) b (sym.region_size c s b) ≡ o → overflows_at op a b ≡ false → Agrees (with_value o (λ v. Set rc v)) (cond (overflows op (number_of_value l a) (number_of_value l b)) (Stop trap.Overflow) (Set rc (alu_result op (number_of_value l a) (number_of_value l b))))
      by_value None e f = tt
      by_value (Some v) e f =
          let k = lift_sound l (most_of c) enc.laid (sized c.sizes s.heap) at_most op a _ b _ v ha hb (λ q z. (size_is a, size_is b)) f e in
          rw k.fits (refl, k.value, inr k.number)

      by_overflow : (o : Bool) → overflows_at op a b ≡ o → Agrees (cond o (Stop trap.Overflow) (with_value (lifted op a (sym.region_size c s a) b (sym.region_size c s b)) (λ v. Set rc v))) (cond (overflows op (number_of_value l a) (number_of_value l b)) (Stop trap.Overflow) (Set rc (alu_result op (number_of_value l a) (number_of_value l b))))
      by_overflow true e = rw (both_numbers op a b e) refl
      by_overflow false e = by_value (lifted op a (sym.region_size c s a) b (sym.region_size c s b)) refl e

  -- ---- tests and jumps

  test_agrees : (k : Cond) (r : ℕ) (e : SymEffect) (f : NumEffect) → Agrees e f → Agrees (sym.test_effect c s (lifted_condition k (read_reg s.regs r) (sym.region_size c s (read_reg s.regs r))) e) (cond (holds k (register_at t.registers r)) f Nothing)
  test_agrees k r e f h = by_test (lifted_condition k (read_reg s.regs r) (sym.region_size c s (read_reg s.regs r))) refl
    where
      by_bool : (b : Bool) → Agrees (cond b e Nothing) (cond b f Nothing)
      by_bool true = h
      by_bool false = tt

      by_test : (o : Option Bool) → lifted_condition k (read_reg s.regs r) (sym.region_size c s (read_reg s.regs r)) ≡ o → Agrees (sym.test_effect c s o e) (cond (holds k (register_at t.registers r)) f Nothing)
      by_test None z = tt
      by_test (Some b) z =
          let q : holds k (register_at t.registers r) ≡ b = ap (holds k) (reg_is r) ∙ condition_sound l (most_of c) enc.laid (sized c.sizes s.heap) at_most k (read_reg s.regs r) _ b (size_is (read_reg s.regs r)) z in
          rw q (by_bool b)

  low_text : (words : ℕ) (a : ℕ) → a < 0x10000 → is_text words a ≡ false
  low_text words a h = grind (arith, nat_tests)

  jump_agrees : (ra : ℕ) (v : Value) (a : ℕ) → a ≡ number_of_value l v → ((q : Place) → v ≡ Code q → K q) → Agrees (sym.jump_effect c s ra v) (num.jump_effect (length i.text) (data_size i) t.heap_size t.registers t.memory t.pc ra a)
  jump_agrees ra (Code q) a e fine = by_test (c.lands q) refl
    where
      by_test : (b : Bool) → c.lands q ≡ b → Agrees (cond b (Jump (Some ra) q) StepObserves) (cond (is_text (length i.text) (a / 4 * 4)) (Jump (Some ra) (a / 4 * 4)) (Stop trap.Access))
      by_test true z =
          let al = enc.laid.code_aligned q in
          let same : a / 4 * 4 ≡ l.code q = omega arith in
          let text : is_text (length i.text) (a / 4 * 4) ≡ true = ap (is_text (length i.text)) same ∙ enc.lands q (fine q refl) z in
          rw text (refl, same)
      by_test false z = tt
  jump_agrees ra (Num n) a e fine = by_test (nat_lt (n / 4 * 4) 0x10000) refl
    where
      by_test : (b : Bool) → nat_lt (n / 4 * 4) 0x10000 ≡ b → Agrees (cond b (Stop trap.Access) StepObserves) (cond (is_text (length i.text) (a / 4 * 4)) (Jump (Some ra) (a / 4 * 4)) (Stop trap.Access))
      by_test true z =
          let text : is_text (length i.text) (a / 4 * 4) ≡ false = ap (λ a. is_text (length i.text) (a / 4 * 4)) e ∙ low_text (length i.text) (n / 4 * 4) (ltb-true (n / 4 * 4) 0x10000 z) in
          rw text refl
      by_test false z = tt
  jump_agrees ra (Ptr r x) a e fine = tt
  jump_agrees ra (Gp p) a e fine = tt
  jump_agrees ra (Half p) a e fine = tt
  jump_agrees ra (GpOff p g) a e fine = tt

  branch_agrees : (op : BrOp) (ra : ℕ) (q : Place) (to : ℕ) → to ≡ l.code q → Agrees (sym.branch_effect c s op ra q) (num.branch_effect (length i.text) (data_size i) t.heap_size t.registers t.memory t.pc op ra to)
  branch_agrees Br ra q to e = (refl, e)
  branch_agrees Bsr ra q to e = (refl, e)
  branch_agrees (If k) ra q to e = test_agrees k ra (Jump None q) (Jump None to) e

  -- ---- system calls

  abbrev CallsAgree : Call → Value → Call → ℕ → Type 0
  CallsAgree x v y a = CallAlike l (sized c.sizes s.heap) x v y a

  cond_calls : (b : Bool) (x y x' y' : Call) (v : Value) (a : ℕ) → CallsAgree x v x' a → CallsAgree y v y' a → CallsAgree (cond b x y) v (cond b x' y') a
  cond_calls true x y x' y' v a h k = h
  cond_calls false x y x' y' v a h k = k

  answers_same : (m k : ℕ) (v : Value) (a : ℕ) → m < 2 ^ 64 → k < 2 ^ 64 → CallsAgree (Answers m k) v (Answers m k) a
  answers_same m k v a hm hk = (refl, refl, hm, hk)

  -- the range of n bytes at a value and at its number
  abbrev Ranged : ℕ → Value → ℕ → Reached sym.Write → Type 0
  Ranged n v a Observes = Unit {0}
  Ranged n v a BadAddress = is_mapped (data_size i) t.heap_size a n ≡ false
  Ranged n v a (At w) = (v ≡ Ptr w.0 w.1) × (w.2 ≡ cells_from (s.cells w.0) w.1 n) × (a ≡ l.region w.0 + w.1) × (w.1 + n ≤ sized c.sizes s.heap w.0) × (is_mapped (data_size i) t.heap_size a n ≡ true)

  ranged : (n : ℕ) (v : Value) (a : ℕ) → 0 < n → a ≡ number_of_value l v → Ranged n v a (sym.reached c s n v)
  ranged n (Num b) a some e = by_test (nat_lt b 0x10000) refl
    where
      by_test : (p : Bool) → nat_lt b 0x10000 ≡ p → Ranged n (Num b) a (cond p BadAddress Observes)
      by_test true z = ap (λ a. is_mapped (data_size i) t.heap_size a n) e ∙ unmapped (data_size i) t.heap_size b n (ltb-true b 0x10000 z)
      by_test false z = tt
  ranged n (Ptr r x) a some e = by_test (nat_le (x + n) (sized c.sizes s.heap r)) refl
    where
      by_test : (p : Bool) → nat_le (x + n) (sized c.sizes s.heap r) ≡ p → Ranged n (Ptr r x) a (sym.range_at c s p r x n)
      by_test true z =
          let fits : x + n ≤ sized c.sizes s.heap r = leb-true (x + n) (sized c.sizes s.heap r) z in
          let m = at_most r in
          let where_is : a ≡ l.region r + x = e ∙ inside_number l (most_of c) enc.laid r x (omega arith) in
          let mapped : is_mapped (data_size i) t.heap_size a n ≡ true = ap (λ a. is_mapped (data_size i) t.heap_size a n) where_is ∙ ap (λ heap. is_mapped (data_size i) heap (l.region r + x) n) low.heap ∙ enc.mapped r x n s.heap low.heap_small some fits in
          (refl, refl, where_is, fits, mapped)
      by_test false z = tt
  ranged n (Code p) a some e = tt
  ranged n (Gp p) a some e = tt
  ranged n (Half p) a some e = tt
  ranged n (GpOff p g) a some e = tt

  takes_agree : (n : ℕ) (v : Value) (a : ℕ) (o : Reached sym.Write) → Ranged n v a o → CallsAgree (take_call n (sym.room_reached c s o)) v (take_call n (cond (is_mapped (data_size i) t.heap_size a n) (At tt) BadAddress)) a
  takes_agree n v a Observes h = tt
  takes_agree n v a BadAddress h = rw h (answers_same 14 1 v a (omega arith) (omega arith))
  takes_agree n v a (At w) h =
      rw h.4 (refl, subst (λ v. Room l (sized c.sizes s.heap) n v a) (back h.0) (h.2, h.3))

  puts_agree : (d n : ℕ) (v : Value) (a : ℕ) (o : Reached sym.Write) → Ranged n v a o → CallsAgree (put_call d (sym.bytes_reached c s o)) v (put_call d (num.bytes_at (length i.text) (data_size i) t.heap_size t.registers t.memory t.pc a n)) a
  puts_agree d n v a Observes h = tt
  puts_agree d n v a BadAddress h = rw h (answers_same 14 1 v a (omega arith) (omega arith))
  puts_agree d n v a (At w) h = by_bytes (all_bytes w.2) refl
    where
      by_bytes : (o : Option (List ℕ)) → all_bytes w.2 ≡ o → CallsAgree (put_call d (sym.bytes_or_observes c s o)) v (put_call d (num.bytes_at (length i.text) (data_size i) t.heap_size t.registers t.memory t.pc a n)) a
      by_bytes None e = tt
      by_bytes (Some bs) e =
          let b : bytes_from t.memory a n ≡ map (cell_byte l) (cells_from (s.cells w.0) w.1 n) = ap (λ a. bytes_from t.memory a n) h.2 ∙ bytes_are l (most_of c) enc.laid (sized c.sizes s.heap) at_most s.cells t.memory w.0 w.1 n low.memory h.3 in
          let same : bytes_from t.memory a n ≡ bs = b ∙ ap (map (cell_byte l)) (back h.1) ∙ all_are l w.2 bs e in
          let count : length bs ≡ n = ap length (back same) ∙ bytes_length_is t.memory a n in
          let m = at_most w.0 in
          let p = enc.laid.below w.0 in
          let q = h.3 in
          rw h.4 (refl, back same, omega arith)

  asks_agree : (v : Value) (a : ℕ) (w : Value) (b : ℕ) → a ≡ number_of_value l v → IsValue v → CallsAgree (heap_call s.heap (sym.heap_ask c s v)) w (heap_call t.heap_size (num.heap_ask (length i.text) (data_size i) t.heap_size t.registers t.memory t.pc a)) b
  asks_agree (Num n) a w b e h = rw (e, low.heap) (by_zero (n == 0) (nat_lt n 0x10000) refl)
    where
      by_zero : (p q : Bool) → nat_lt n 0x10000 ≡ q → CallsAgree (heap_call s.heap (cond p AsksEnd (cond q AsksOther AskObserves))) w (heap_call s.heap (cond p AsksEnd (cond (nat_le heap_base n) (AsksOffset (n - heap_base)) AsksOther))) b
      by_zero true q z = (refl, low.heap_small)
      by_zero false true z =
          let k = ltb-true n 0x10000 z in
          let t : nat_le heap_base n ≡ false = grind (arith, nat_tests) in
          rw t (answers_same 12 1 w b (omega arith) (omega arith))
      by_zero false false z = tt
  asks_agree (Ptr Heap x) a w b e h = rw low.heap (by_size (nat_lt x (2 ^ 63)) refl)
    where
      hb : l.region Heap ≡ heap_base
      hb = enc.heap

      by_limit : (p : Bool) → nat_le x heap_limit ≡ p → CallsAgree (cond p (Resizes x) (Answers 12 1)) w (cond p (Resizes x) (Answers 12 1)) b
      by_limit true z = (refl, leb-true x heap_limit z)
      by_limit false z = answers_same 12 1 w b (omega arith) (omega arith)

      by_size : (q : Bool) → nat_lt x (2 ^ 63) ≡ q → CallsAgree (heap_call s.heap (cond q (AsksOffset x) AskObserves)) w (heap_call s.heap (cond (a == 0) AsksEnd (cond (nat_le heap_base a) (AsksOffset (a - heap_base)) AsksOther))) b
      by_size true z =
          let m = ltb-true x (2 ^ 63) z in
          let f : a ≡ heap_base + x = omega (arith, hb) in
          let t0 : (a == 0) ≡ false = grind (arith, nat_tests) in
          let t1 : nat_le heap_base a ≡ true = grind (arith, nat_tests) in
          let t2 : a - heap_base ≡ x = omega arith in
          rw (t0, t1, t2) (by_limit (nat_le x heap_limit) refl)
      by_size false z = tt
  asks_agree (Ptr (Sec o n) x) a w b e h = tt
  asks_agree (Ptr (Common n) x) a w b e h = tt
  asks_agree (Ptr Stack x) a w b e h = tt
  asks_agree (Code p) a w b e h = tt
  asks_agree (Gp p) a w b e h = tt
  asks_agree (Half p) a w b e h = tt
  asks_agree (GpOff p g) a w b e h = tt

  call_agrees : (v0 a0 a1 a2 : Value) (n0 m0 m1 m2 : ℕ) → n0 ≡ number_of_value l v0 → m0 ≡ number_of_value l a0 → m1 ≡ number_of_value l a1 → m2 ≡ number_of_value l a2 → IsValue a0 → IsValue a1 → CallsAgree (sym.call_of c s v0 a0 a1 a2) a1 (num.call_of (length i.text) (data_size i) t.heap_size t.registers t.memory t.pc n0 m0 m1 m2) m1
  call_agrees (Num v) a0 a1 a2 n0 m0 m1 m2 e0 f0 f1 f2 h0 h1 =
      rw e0 (cond_calls (v == 17) _ _ _ _ a1 m1 (asks_agree a0 m0 a1 m1 f0 h0) (numbered a0 m0 f0))
    where
      sizes : (n : ℕ) (x y y' : Call) → CallsAgree x a1 x m1 → (0 < n → CallsAgree y a1 y' m1) → CallsAgree (cond (n == 0) x y) a1 (cond (n == 0) x y') m1
      sizes n x y y' hx hy = by_test (n == 0) refl
        where
          by_test : (b : Bool) → (n == 0) ≡ b → CallsAgree (cond b x y) a1 (cond b x y') m1
          by_test true e = hx
          by_test false e = let z = eqb-false n 0 e in hy (omega arith)

      reads : (a : ℕ) (v2 : Value) (n : ℕ) → n ≡ number_of_value l v2 → CallsAgree (read_call (λ n. sym.bytes_reached c s (sym.reached c s n a1)) (λ n. sym.room_reached c s (sym.reached c s n a1)) a (sym.number v2)) a1 (read_call (num.bytes_at (length i.text) (data_size i) t.heap_size t.registers t.memory t.pc m1) (num.room_at (length i.text) (data_size i) t.heap_size t.registers t.memory t.pc m1) a (Some n)) m1
      reads a (Num k) n e = rw e (cond_calls (a == 0) _ _ _ _ a1 m1 (sizes k _ _ _ (answers_same 0 0 a1 m1 (omega arith) (omega arith)) (λ some. takes_agree k a1 m1 (sym.reached c s k a1) (ranged k a1 m1 some f1))) (answers_same 9 1 a1 m1 (omega arith) (omega arith)))
      reads a (Ptr r x) n e = tt
      reads a (Code p) n e = tt
      reads a (Gp p) n e = tt
      reads a (Half p) n e = tt
      reads a (GpOff p g) n e = tt

      writes : (a : ℕ) (v2 : Value) (n : ℕ) → n ≡ number_of_value l v2 → CallsAgree (write_call (λ n. sym.bytes_reached c s (sym.reached c s n a1)) (λ n. sym.room_reached c s (sym.reached c s n a1)) a (sym.number v2)) a1 (write_call (num.bytes_at (length i.text) (data_size i) t.heap_size t.registers t.memory t.pc m1) (num.room_at (length i.text) (data_size i) t.heap_size t.registers t.memory t.pc m1) a (Some n)) m1
      writes a (Num k) n e = rw e (cond_calls ((a == 1) || (a == 2)) _ _ _ _ a1 m1 (sizes k _ _ _ (answers_same 0 0 a1 m1 (omega arith) (omega arith)) (λ some. puts_agree a k a1 m1 (sym.reached c s k a1) (ranged k a1 m1 some f1))) (answers_same 9 1 a1 m1 (omega arith) (omega arith)))
      writes a (Ptr r x) n e = tt
      writes a (Code p) n e = tt
      writes a (Gp p) n e = tt
      writes a (Half p) n e = tt
      writes a (GpOff p g) n e = tt

      numbered : (w : Value) (m : ℕ) → m ≡ number_of_value l w → CallsAgree (numbered_call (λ n. sym.bytes_reached c s (sym.reached c s n a1)) (λ n. sym.room_reached c s (sym.reached c s n a1)) v (sym.number w) (sym.number a2)) a1 (numbered_call (num.bytes_at (length i.text) (data_size i) t.heap_size t.registers t.memory t.pc m1) (num.room_at (length i.text) (data_size i) t.heap_size t.registers t.memory t.pc m1) v (Some m) (Some m2)) m1
      numbered (Num a) m e =
          rw e (cond_calls (v == 1) _ _ _ _ a1 m1 refl
          (cond_calls (v == 3) _ _ _ _ a1 m1 (reads a a2 m2 f2)
          (cond_calls (v == 4) _ _ _ _ a1 m1 (writes a a2 m2 f2) (answers_same 78 1 a1 m1 (omega arith) (omega arith)))))
      numbered (Ptr r x) m e = tt
      numbered (Code p) m e = tt
      numbered (Gp p) m e = tt
      numbered (Half p) m e = tt
      numbered (GpOff p g) m e = tt
  call_agrees (Ptr r x) a0 a1 a2 n0 m0 m1 m2 e0 f0 f1 f2 h0 h1 = tt
  call_agrees (Code p) a0 a1 a2 n0 m0 m1 m2 e0 f0 f1 f2 h0 h1 = tt
  call_agrees (Gp p) a0 a1 a2 n0 m0 m1 m2 e0 f0 f1 f2 h0 h1 = tt
  call_agrees (Half p) a0 a1 a2 n0 m0 m1 m2 e0 f0 f1 f2 h0 h1 = tt
  call_agrees (GpOff p g) a0 a1 a2 n0 m0 m1 m2 e0 f0 f1 f2 h0 h1 = tt

  -- ---- plain words

  operand_is : (rb : Opnd) → num.operand (length i.text) (data_size i) t.heap_size t.registers t.memory t.pc rb ≡ number_of_value l (sym.operand c s rb)
  operand_is (R r) = reg_is r
  operand_is (Literal n) = refl

  operand_value : (rb : Opnd) → IsOperand rb → IsValue (sym.operand c s rb)
  operand_value (R r) h = reg_value r
  operand_value (Literal n) h = omega arith

  pub plain_agrees : (instr : Instr) → IsInstr instr → ((r : ℕ) (q : Place) → read_reg s.regs r ≡ Code q → K q) → Agrees (sym.plain_effect c s instr) (num.effect_of (length i.text) (data_size i) t.heap_size t.registers t.memory t.pc instr)
  plain_agrees (Mem op ra rb disp) h fine =
      memory_agrees (access_of op) op ra (read_reg s.regs rb) (register_at t.registers rb) disp disp refl (reg_value rb) h.2 (ap (λ n. plus n disp) (reg_is rb)) (λ z. ap (λ n. plus n (address_scale op *ℤ disp)) (reg_is rb))
  plain_agrees (Jumps kind ra rb hint) h fine = jump_agrees ra (read_reg s.regs rb) (register_at t.registers rb) (reg_is rb) (fine rb)
  plain_agrees (Branch op ra disp) h fine = tt
  plain_agrees (Alu op ra rb rc) h fine = alu_agrees op _ _ _ _ rc (reg_value ra) (operand_value rb h.1) (reg_is ra) (operand_is rb)
  plain_agrees (Cmov k ra rb rc) h fine = test_agrees k ra (Set rc (sym.operand c s rb)) (Set rc (num.operand (length i.text) (data_size i) t.heap_size t.registers t.memory t.pc rb)) (refl, operand_value rb h.1, inr (operand_is rb))
  plain_agrees (Misc op ra rb) h fine = tt
  plain_agrees Fnop h fine = tt
  plain_agrees Halt h fine = refl
  plain_agrees Callsys h fine = call_agrees (read_reg s.regs 0) (read_reg s.regs 16) (read_reg s.regs 17) (read_reg s.regs 18) (register_at t.registers 0) (register_at t.registers 16) (register_at t.registers 17) (register_at t.registers 18) (reg_is 0) (reg_is 16) (reg_is 17) (reg_is 18) (reg_value 16) (reg_value 17)

  -- ---- words over addresses

  needs_agrees : (r : ℕ) (v : Value) (e : SymEffect) (f : NumEffect) → (register_at t.registers r ≡ number_of_value l v → Agrees e f) → Agrees (sym.needs c s r v e) f
  needs_agrees r v e f h = by_test (value_eq (read_reg s.regs r) v) refl
    where
      by_test : (b : Bool) → value_eq (read_reg s.regs r) v ≡ b → Agrees (cond b e StepObserves) f
      by_test true z = h (reg_is r ∙ ap (number_of_value l) (same_value (read_reg s.regs r) v z))
      by_test false z = tt

  -- an effect of the script and what the image's word does
  abbrev pub Runs : SymEffect → ℕ → Type 0
  Runs e word = (instr : Instr) × (instr_of word ≡ Some instr) × Agrees e (num.effect_of (length i.text) (data_size i) t.heap_size t.registers t.memory t.pc instr)

  runs : (e : SymEffect) (word : ℕ) (instr : Instr) → Encodes word instr → Agrees e (num.effect_of (length i.text) (data_size i) t.heap_size t.registers t.memory t.pc instr) → Runs e word
  runs e word instr sp h = (instr, complete word instr sp, h)

  slot_load : (ra a : ℕ) (target : Target) → IsTarget target → IsSlot c l i a target → Agrees (Set ra (value_of target)) (num.load_effect (length i.text) (data_size i) t.heap_size t.registers t.memory t.pc Ldq ra a)
  slot_load ra a target ht slot =
      let al : (a % 8 == 0) ≡ true = ap (λ k. k == 0) slot.aligned in
      let m = slot.mapped t.heap_size in
      let digits : (k : ℕ) → k < 8 → t.memory (a + k) ≡ target_number l target / 256 ^ (0 + k) % 256 = λ k h. low.fixed (a + k) (slot.fixed k h) ∙ slot.holds k h ∙ ap (λ j. target_number l target / 256 ^ j % 256) (back (zero-add k)) in
      let b = below (value_of target) (target_value target ht) in
      let n : number_of (bytes_from t.memory a 8) ≡ target_number l target / 256 ^ 0 % 256 ^ 8 = from_digits t.memory (target_number l target) a 0 8 digits in
      let d : target_number l target / 256 ^ 0 ≡ target_number l target = div-one (target_number l target) in
      let same = target_is l target in
      rw (al, m) (refl, target_value target ht, inr (omega (arith, n, d, b, same)))

  is_num_same : (g : Target) → sym.is_number c s g ≡ is_num g
  is_num_same (target.Num n) = refl
  is_num_same (target.Ptr r x) = refl
  is_num_same (target.Code p) = refl

  pub act_agrees : (at : Place) (a : Act) (word : ℕ) → IsForm c l i at a word → t.pc ≡ l.code at → ((r : ℕ) (q : Place) → read_reg s.regs r ≡ Code q → K q) → Runs (sym.act_effect c s at a) word
  act_agrees at (Plain instr) word form pc fine = runs _ word instr form (plain_agrees instr form.fields fine)
  act_agrees at (Lit ra rb target) word form pc fine = runs _ word (Mem Ldq ra rb form.0) form.1 (by_test (ra == 31) refl)
    where
      by_form : (ra == 31) ≡ false → (ra ≡ 31) ⊎ (IsSlot c l i (plus (l.gp (c.table at.obj)) form.0) target × IsTarget target) → Agrees (sym.needs c s rb (Gp (c.table at.obj)) (Set ra (value_of target))) (num.load_effect (length i.text) (data_size i) t.heap_size t.registers t.memory t.pc Ldq ra (plus (register_at t.registers rb) form.0))
      by_form z (inl e) = absurd (eqb-false ra 31 z e)
      by_form z (inr e) =
          needs_agrees rb (Gp (c.table at.obj)) _ _
          (λ k. subst (λ g. Agrees (Set ra (value_of target)) (num.load_effect (length i.text) (data_size i) t.heap_size t.registers t.memory t.pc Ldq ra (plus g form.0))) (back k) (slot_load ra _ target e.1 e.0))

      by_test : (b : Bool) → (ra == 31) ≡ b → Agrees (cond b Nothing (sym.needs c s rb (Gp (c.table at.obj)) (Set ra (value_of target)))) (cond b Nothing (num.load_effect (length i.text) (data_size i) t.heap_size t.registers t.memory t.pc Ldq ra (plus (register_at t.registers rb) form.0)))
      by_test true z = tt
      by_test false z = by_form z form.2
  act_agrees at (GpHi ra rb base) word form pc fine =
      runs _ word (Mem Ldah ra rb form.0) form.1
      (needs_agrees rb (Code base) _ _ (λ k. (refl, tt, inr (ap (λ n. plus n (pos 65536 *ℤ form.0)) k ∙ form.2))))
  act_agrees at (GpLo ra rb hi) word form pc fine =
      runs _ word (Mem Lda ra rb form.0) form.1
      (needs_agrees rb (Half hi) _ _ (λ k. (refl, tt, inr (ap (λ n. plus n (pos 1 *ℤ form.0)) k ∙ form.2))))
  act_agrees at (To op ra q) word form pc fine =
      runs _ word (Branch op ra form.0) form.1 (branch_agrees op ra q _ (ap (λ n. displaced n form.0) pc ∙ form.2))
  act_agrees at (AddrLda ra rb target) word form pc fine = runs _ word (Mem Lda ra rb form.0) form.1 (by_test (ra == 31) (sym.is_number c s target && (rb == 31)) refl refl)
    where
      by_test : (b d : Bool) → (ra == 31) ≡ b → (sym.is_number c s target && (rb == 31)) ≡ d → Agrees (cond (b || d) (Set ra (value_of target)) (sym.needs c s rb (Gp (c.table at.obj)) (Set ra (value_of target)))) (Set ra (plus (register_at t.registers rb) (pos 1 *ℤ form.0)))
      by_test true d z y = (refl, target_value target form.2, inl (eqb-true ra 31 z))
      by_test false d z y = by_form d y form.3
        where
          by_form : (d : Bool) → (sym.is_number c s target && (rb == 31)) ≡ d → (ra ≡ 31) ⊎ (plus (cond (is_num target && (rb == 31)) 0 (l.gp (c.table at.obj))) (pos 1 *ℤ form.0) ≡ target_number l target) → Agrees (cond d (Set ra (value_of target)) (sym.needs c s rb (Gp (c.table at.obj)) (Set ra (value_of target)))) (Set ra (plus (register_at t.registers rb) (pos 1 *ℤ form.0)))
          by_form d y (inl e) = absurd (eqb-false ra 31 z e)
          by_form true y (inr e) =
              let k : (is_num target && (rb == 31)) ≡ true = ap (λ b. b && (rb == 31)) (back (is_num_same target)) ∙ y in
              let base : rb ≡ 31 = eqb-true rb 31 (and_true (is_num target) (rb == 31) k).1 in
              let zero_base : register_at t.registers rb ≡ 0 = ap (register_at t.registers) base in
              (refl, target_value target form.2, inr (ap (λ n. plus n (pos 1 *ℤ form.0)) zero_base ∙ ap (λ b. plus (cond b 0 (l.gp (c.table at.obj))) (pos 1 *ℤ form.0)) (back k) ∙ e ∙ target_is l target))
          by_form false y (inr e) =
              let k : (is_num target && (rb == 31)) ≡ false = ap (λ b. b && (rb == 31)) (back (is_num_same target)) ∙ y in
              needs_agrees rb (Gp (c.table at.obj)) _ _
              (λ g. (refl, target_value target form.2, inr (ap (λ n. plus n (pos 1 *ℤ form.0)) g ∙ ap (λ b. plus (cond b 0 (l.gp (c.table at.obj))) (pos 1 *ℤ form.0)) (back k) ∙ e ∙ target_is l target)))
  act_agrees at (AddrHi ra rb target) word form pc fine = runs _ word (Mem Ldah ra rb form.0) form.1 (by_test (ra == 31) refl)
    where
      by_form : (ra == 31) ≡ false → (ra ≡ 31) ⊎ (plus (l.gp (c.table at.obj)) (pos 65536 *ℤ form.0) ≡ l.half at) → Agrees (sym.needs c s rb (Gp (c.table at.obj)) (Set ra (Half at))) (Set ra (plus (register_at t.registers rb) (pos 65536 *ℤ form.0)))
      by_form z (inl e) = absurd (eqb-false ra 31 z e)
      by_form z (inr e) = needs_agrees rb (Gp (c.table at.obj)) _ _ (λ k. (refl, tt, inr (ap (λ n. plus n (pos 65536 *ℤ form.0)) k ∙ e)))

      by_test : (b : Bool) → (ra == 31) ≡ b → Agrees (cond b Nothing (sym.needs c s rb (Gp (c.table at.obj)) (Set ra (Half at)))) (Set ra (plus (register_at t.registers rb) (pos 65536 *ℤ form.0)))
      by_test true z = eqb-true ra 31 z
      by_test false z = by_form z form.2
  act_agrees at (UseLo (Mem op ra rb disp) hi target) word form pc fine =
      let u = form.0 in
      runs _ word (Mem op ra rb u.0) u.1
      (needs_agrees rb (Half hi) _ _ (λ k. memory_agrees (access_of op) op ra (value_of target) (register_at t.registers rb) u.0 disp refl (target_value target form.1) u.3 (ap (λ n. plus n u.0) k ∙ u.2 ∙ ap (λ n. plus n disp) (target_is l target)) (λ z. absurd (u.4 z))))
  act_agrees at (UseLo _ hi target) word form pc fine = absurd form.0
  act_agrees at (UseGp (Mem op ra rb disp) gp target) word form pc fine =
      let u = form.0 in
      runs _ word (Mem op ra gp u.0) u.1
      (needs_agrees gp (Gp (c.table at.obj)) _ _ (λ k. memory_agrees (access_of op) op ra (value_of target) (register_at t.registers gp) u.0 disp refl (target_value target form.1) u.3 (ap (λ n. plus n u.0) k ∙ u.2 ∙ ap (λ n. plus n disp) (target_is l target)) (λ z. absurd (u.4 z))))
  act_agrees at (UseGp _ gp target) word form pc fine = absurd form.0
  act_agrees at Wrong word form pc fine = absurd form
