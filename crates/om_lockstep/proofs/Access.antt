-- Addresses, loads and stores agree.
use Rattle.std.proofs.Common.{◌≡◌, inl, ℕ, zero, suc, ◌+◌, ◌*◌, ◌/◌, ◌%◌, ◌^◌, ◌<◌, ◌≤◌, Bool, true, false, cond, ◌==◌, List, ◌∷◌, length, map, Some, None, refl, ap, sym as back, subst, ◌∙◌, arith, slice_index}
use Rattle.std.specs.Int.{w32, cast_signed, byte_at, bytes_low_first}
use Rattle.std.proofs.lemmas.Bool.{eqb-true}
use Rattle.std.proofs.Math.Nat.{pow-suc, div-div-eq-div-mul, mod-mod, div-one, pow-le-pow_right}
use Rattle.om_alpha.specs.declared.op.Width.TheVariants as width
use Rattle.om_alpha.specs.Arithmetic.{at_width, sign_extend}
use Rattle.om_isa.specs.declared.instr.MemOp.{MemOp}
use Rattle.om_isa.specs.declared.instr.MemOp.TheVariants.{Lda, Ldah, Ldbu, LdqU, Ldwu, Stw, Stb, StqU, Ldl, Ldq, Stl, Stq}
use Rattle.om_isa.specs.declared.instr.Access.TheVariants.{Load}
use Rattle.om_isa.specs.Registers.{access_of}
use Rattle.om_value.specs.declared.value.Value.{Value}
use Rattle.om_value.specs.declared.value.Value.TheVariants.{Num, Ptr, Code, Gp, Half, GpOff}
use Rattle.om_prog.specs.Cells.{Cell, number_of, bytes_of, parts_from}
use Rattle.om_prog.specs.Step as sym
use Rattle.om_prog.specs.Step.{SymState, SymEnd, SymEffect, ExitedWith, TrappedAt, ObservedAt, read_reg, write_reg, access_size, address_scale, sized, Inside, Refused, Hidden, spot_of, at_spot}
use Rattle.om_image.specs.NumAccess as moved
use Rattle.om_image.specs.NumAccess.{plus, is_mapped, bytes_from, size_bytes, size_of, number_in}
use Rattle.byteorder.specs.Endian.{little_bytes, little_from}
use Rattle.om_lockstep.specs.Addresses.{Addresses, IsValue, IsLong, number_of_value}
use Rattle.om_lockstep.specs.Goes.{cell_byte}
use Rattle.om_lockstep.proofs.Fits.{width_fits}
use Rattle.om_lockstep.proofs.Memory.{Loaded, a_number, of_eight, of_four, AreCells}

-- both machines move as many bytes
pub same_size : (op : MemOp) → size_bytes (size_of op) ≡ access_size op
same_size Lda = refl
same_size Ldah = refl
same_size Ldbu = refl
same_size LdqU = refl
same_size Ldwu = refl
same_size Stw = refl
same_size Stb = refl
same_size StqU = refl
same_size Ldl = refl
same_size Ldq = refl
same_size Stl = refl
same_size Stq = refl

same_scale : (op : MemOp) → moved.address_scale op ≡ address_scale op
same_scale Ldah = refl
same_scale _ = refl

-- a number by places, and by its bytes
further : (i n b : ℕ) (bs : List ℕ) → little_from (suc i) n (b ∷ bs) ≡ little_from i n bs
further i zero b bs = refl
further i (suc n) b bs = ap (λ k. slice_index bs i + 256 * k) (further (suc i) n b bs)

pub number_is : (memory : ℕ → ℕ) (a n : ℕ) → number_in memory a n ≡ number_of (bytes_from memory a n)
number_is memory a zero = refl
number_is memory a (suc n) =
    ap (λ k. memory a + 256 * k) (further 0 n (memory a) (bytes_from memory (a + 1) n) ∙ number_is memory (a + 1) n)

-- ---- what a load gives

pow256_mono : (n m : ℕ) → n ≤ m → 256 ^ n ≤ 256 ^ m
pow256_mono n m h = pow-le-pow_right {n = 256} (omega arith) {i = n} {j = m} h

not_four : (l : Addresses) (n : ℕ) (bytes : List ℕ) (v : Value) → IsValue v → number_of_value l v < 2 ^ 64 → Loaded l n bytes v → n ≤ 8 → (n ≡ 4 → ⊥) → number_of bytes ≡ number_of_value l v
not_four l n bytes v h k (a_number m e f g) small other = f ∙ back (ap (number_of_value l) e)
not_four l n bytes v h k (of_eight e f g) small other = f ∙ omega (arith, k)
not_four l n bytes v h k (of_four e f g j) small other = absurd (other e)

loaded_value : (l : Addresses) (n : ℕ) (bytes : List ℕ) (v : Value) → n ≤ 8 → Loaded l n bytes v → IsValue v
loaded_value l n bytes v small (a_number m e f g) =
    let p : 256 ^ n ≤ 256 ^ 8 = pow256_mono n 8 small in
    subst IsValue (back e) (omega (arith, g, p))
loaded_value l n bytes v small (of_eight e f g) = g
loaded_value l n bytes v small (of_four e f g j) = j

long_again : (m : ℕ) → at_width width.Long (m % 2 ^ 32) ≡ at_width width.Long m
long_again m = ap (λ k. sign_extend (cast_signed w32 k)) (mod-mod m (2 ^ 32))

-- LDL of a value
long_value : (l : Addresses) (v : Value) → IsValue v → IsValue (sym.extended Ldl v)
long_value l (Num m) h = width_fits width.Long m
long_value l (Ptr r x) h = h
long_value l (Code p) h = h
long_value l (Gp t) h = h
long_value l (Half p) h = h
long_value l (GpOff t g) h = h

long_four : (l : Addresses) (v : Value) (n : ℕ) → n ≡ number_of_value l v % 2 ^ 32 → IsLong (number_of_value l v) → at_width width.Long n ≡ number_of_value l (sym.extended Ldl v)
long_four l (Num m) n e f = ap (at_width width.Long) e ∙ long_again m
long_four l (Ptr r x) n e f = ap (at_width width.Long) e ∙ f
long_four l (Code p) n e f = ap (at_width width.Long) e ∙ f
long_four l (Gp t) n e f = ap (at_width width.Long) e ∙ f
long_four l (Half p) n e f = ap (at_width width.Long) e ∙ f
long_four l (GpOff t g) n e f = ap (at_width width.Long) e ∙ f

long_loaded : (l : Addresses) (bytes : List ℕ) (v : Value) → Loaded l 4 bytes v → IsValue v → IsValue (sym.extended Ldl v) × (at_width width.Long (number_of bytes) ≡ number_of_value l (sym.extended Ldl v))
long_loaded l bytes v (a_number m e f g) h =
    (long_value l v h, ap (at_width width.Long) f ∙ back (ap (λ v. number_of_value l (sym.extended Ldl v)) e))
long_loaded l bytes v (of_eight e f g) h = absurd (omega arith)
long_loaded l bytes v (of_four e f g j) h = (long_value l v h, long_four l v (number_of bytes) f g)

abbrev LoadGives : Addresses → MemOp → List ℕ → Value → Type 0
LoadGives l op bytes v =
    IsValue (sym.extended op v) × (moved.extended op (number_of bytes) ≡ number_of_value l (sym.extended op v))

pub load_gives : (l : Addresses) (op : MemOp) (bytes : List ℕ) (v : Value) → access_of op ≡ Load → (IsValue v → number_of_value l v < 2 ^ 64) → Loaded l (access_size op) bytes v → LoadGives l op bytes v
load_gives l Ldl bytes v e k h = long_loaded l bytes v h (loaded_value l 4 bytes v (omega arith) h)
load_gives l Ldbu bytes v e k h = let i = loaded_value l 1 bytes v (omega arith) h in (i, not_four l 1 bytes v i (k i) h (omega arith) (λ z. omega arith))
load_gives l Ldwu bytes v e k h = let i = loaded_value l 2 bytes v (omega arith) h in (i, not_four l 2 bytes v i (k i) h (omega arith) (λ z. omega arith))
load_gives l LdqU bytes v e k h = let i = loaded_value l 8 bytes v (omega arith) h in (i, not_four l 8 bytes v i (k i) h (omega arith) (λ z. omega arith))
load_gives l Ldq bytes v e k h = let i = loaded_value l 8 bytes v (omega arith) h in (i, not_four l 8 bytes v i (k i) h (omega arith) (λ z. omega arith))
load_gives l _ bytes v e k h = cc

-- ---- what a store writes

byte_is : (i n : ℕ) → n / 256 ^ i % 256 ≡ byte_at i n
byte_is zero n = ap (λ m. m % 256) (div-one n)
byte_is (suc i) n = refl

power_step : (n i : ℕ) → n / 256 ^ i / 256 ≡ n / 256 ^ suc i
power_step n i = div-div-eq-div-mul n (256 ^ i) 256 ∙ back (ap (λ m. n / m) (pow-suc 256 i))

-- the bytes of a number from byte i on
higher_lowered : (l : Addresses) (i n m : ℕ) → map (cell_byte l) (bytes_of n (m / 256 ^ i)) ≡ bytes_low_first i n m
higher_lowered l i zero m = refl
higher_lowered l i (suc n) m =
    ap (λ (b : ℕ). b ∷ map (cell_byte l) (bytes_of n (m / 256 ^ i / 256))) (byte_is i m)
    ∙ ap (λ (bs : List ℕ). byte_at i m ∷ bs) (ap (λ k. map (cell_byte l) (bytes_of n k)) (power_step m i) ∙ higher_lowered l (suc i) n m)

pub bytes_lowered : (l : Addresses) (n m : ℕ) → map (cell_byte l) (bytes_of n m) ≡ little_bytes n m
bytes_lowered l n m = ap (λ k. map (cell_byte l) (bytes_of n k)) (back (div-one m)) ∙ higher_lowered l 0 n m

bytes_length : (n m : ℕ) → length (bytes_of n m) ≡ n
bytes_length zero m = refl
bytes_length (suc n) m = ap suc (bytes_length n (m / 256))

pub bytes_cells : (l : Addresses) (n m : ℕ) → AreCells l (bytes_of n m)
bytes_cells l zero m k = omega arith
bytes_cells l (suc n) m zero = omega arith
bytes_cells l (suc n) m (suc k) = bytes_cells l n (m / 256) k

pub parts_lowered : (l : Addresses) (v : Value) (i count n : ℕ) → map (cell_byte l) (parts_from v i count n) ≡ bytes_low_first i count (number_of_value l v)
parts_lowered l v i zero n = refl
parts_lowered l v i (suc count) n =
    let p : i + 1 ≡ suc i = omega arith in
    ap (λ (b : ℕ). b ∷ map (cell_byte l) (parts_from v (i + 1) count n)) (byte_is i (number_of_value l v))
    ∙ ap (λ (bs : List ℕ). byte_at i (number_of_value l v) ∷ bs) (parts_lowered l v (i + 1) count n ∙ ap (λ j. bytes_low_first j count (number_of_value l v)) p)

parts_length : (v : Value) (i count n : ℕ) → length (parts_from v i count n) ≡ count
parts_length v i zero n = refl
parts_length v i (suc count) n = ap suc (parts_length v (i + 1) count n)

parts_cells : (l : Addresses) (v : Value) → IsValue v → (i count : ℕ) → AreCells l (parts_from v i count 8)
parts_cells l v h i zero k = omega arith
parts_cells l v h i (suc count) zero = (h, inl refl)
parts_cells l v h i (suc count) (suc k) = parts_cells l v h (i + 1) count k

pub record StoreGives (l : Addresses) (n : ℕ) (v : Value) (cs : List Cell) : Type 0 where
  pub bytes : map (cell_byte l) cs ≡ little_bytes n (number_of_value l v)
  pub count : length cs ≡ n
  pub cells : AreCells l cs

eight_given : (l : Addresses) (n : ℕ) (v : Value) (cs : List Cell) → IsValue v → cond (n == 8) (Some (parts_from v 0 8 8)) None ≡ Some cs → StoreGives l n v cs
eight_given l n v cs h e = by_test (n == 8) refl e
  where
    by_test : (b : Bool) → (n == 8) ≡ b → cond b (Some (parts_from v 0 8 8)) None ≡ Some cs → StoreGives l n v cs
    by_test true t e =
        let eight : n ≡ 8 = eqb-true n 8 t in
        let same : parts_from v 0 8 8 ≡ cs = cc in
        subst (λ cs. StoreGives l n v cs) same
        (subst (λ n. StoreGives l n v (parts_from v 0 8 8)) (back eight)
        (record {
          bytes = parts_lowered l v 0 8 8;
          count = parts_length v 0 8 8;
          cells = parts_cells l v h 0 8;
        }))
    by_test false t e = cc

pub store_gives : (l : Addresses) (n : ℕ) (v : Value) (cs : List Cell) → IsValue v → sym.stored n v ≡ Some cs → StoreGives l n v cs
store_gives l n (Num m) cs h e =
    let same : bytes_of n m ≡ cs = cc in
    subst (λ cs. StoreGives l n (Num m) cs) same
    (record { bytes = bytes_lowered l n m; count = bytes_length n m; cells = bytes_cells l n m })
store_gives l n (Ptr r x) cs h e = eight_given l n (Ptr r x) cs h e
store_gives l n (Code p) cs h e = eight_given l n (Code p) cs h e
store_gives l n (Gp t) cs h e = eight_given l n (Gp t) cs h e
store_gives l n (Half p) cs h e = eight_given l n (Half p) cs h e
store_gives l n (GpOff t g) cs h e = eight_given l n (GpOff t g) cs h e
