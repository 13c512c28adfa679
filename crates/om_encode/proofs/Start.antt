-- The image's start is that of the graph's run.
use Rattle.std.proofs.Common.{◌≡◌, inl, inr, ℕ, zero, suc, ◌+◌, ◌-◌, ◌%◌, ◌^◌, ◌<◌, Bool, true, false, cond, ◌&&◌, nat_lt, List, [], ◌∷◌, length, map, Option, Some, None, refl, ap, sym, subst, ◌∙◌, arith}
use Rattle.std.specs.Prelude.{slice_index, find, All, ℤ, pos, ◌-ℤ◌, FitsSigned}
use Rattle.std.specs.Int.{w32, w64, cast_unsigned, cast_signed, byte_at, bytes_low_first}
use Rattle.std.proofs.lemmas.Int.{ints, to_z-of_z}
use Rattle.byteorder.specs.Endian.{little_bytes}
use Rattle.om_alpha.specs.Arithmetic.{sign_extend}
use Rattle.om_value.specs.declared.value.Region.{Region}
use Rattle.om_value.specs.declared.value.Target.{Target}
use Rattle.om_value.specs.declared.value.Target.TheVariants as target
use Rattle.om_value.specs.declared.value.Value.{Value}
use Rattle.om_value.specs.declared.value.Value.TheVariants.{Num, Ptr, Code, Gp, Half, GpOff}
use Rattle.om_prog.specs.declared.item.Field.{Field}
use Rattle.om_prog.specs.declared.region.RegionInit.{RegionInit}
use Rattle.om_prog.specs.Cells.{Cell, cells_of, parts_from}
use Rattle.om_prog.specs.View.{ProgramView, is_word}
use Rattle.om_prog.specs.Valid.{width_of, has_region, is_near_target}
use Rattle.om_value.specs.declared.value.Place.{Place}
use Rattle.om_lockstep.proofs.Small.{cond_some}
use Rattle.om_prog.specs.Script.{retabled, covers, field_cell, init_cell}
use Rattle.om_lockstep.specs.Addresses.{Addresses, IsTarget, IsValue, IsCell, IsLong, FitsIn, number_of_value, target_number}
use Rattle.om_lockstep.specs.Goes.{cell_byte}
use Rattle.om_lockstep.proofs.Memory.{AreCells, mapped_at}
use Rattle.om_lockstep.proofs.Access.{bytes_lowered, bytes_cells, parts_lowered}
use Rattle.om_layout.specs.Layout.{LayoutView, region_at, code_at, gp_at, table_at, address_of}
use Rattle.om_encode.specs.Data.{value_bytes, field_byte, region_byte, DistanceFits}

pub find_all : {A : Type 0} (P : A → Type 0) (test : A → Bool) (xs : List A) (x : A) → All P xs → find test xs ≡ Some x → P x × (test x ≡ true)
find_all P test [] x h e = cc
find_all P test (y ∷ ys) x h e = by_test (λ k. find_all P test ys x (λ j d lt. h (suc j) d (omega arith)) k) (test y) refl e
  where
    by_test : (find test ys ≡ Some x → P x × (test x ≡ true)) → (b : Bool) → test y ≡ b → cond b (Some y) (find test ys) ≡ Some x → P x × (test x ≡ true)
    by_test again true t e = let k : y ≡ x = cc in (subst P k (h 0 y (omega arith)), subst (λ z. test z ≡ true) k t)
    by_test again false t e = again e

-- the low four bytes depend on the number modulo 2^32
low_four : (m n : ℕ) → m % 2 ^ 32 ≡ n % 2 ^ 32 → little_bytes 4 m ≡ little_bytes 4 n
low_four m n e =
    let a : byte_at 0 m ≡ byte_at 0 n = omega arith in
    let b : byte_at 1 m ≡ byte_at 1 n = omega arith in
    let c : byte_at 2 m ≡ byte_at 2 n = omega arith in
    let d : byte_at 3 m ≡ byte_at 3 n = omega arith in
    ap (λ (k : ℕ). k ∷ bytes_low_first 1 3 m) a
    ∙ ap (λ (k : ℕ). byte_at 0 n ∷ k ∷ bytes_low_first 2 2 m) b
    ∙ ap (λ (k : ℕ). byte_at 0 n ∷ byte_at 1 n ∷ k ∷ bytes_low_first 3 1 m) c
    ∙ ap (λ (k : ℕ). byte_at 0 n ∷ byte_at 1 n ∷ byte_at 2 n ∷ k ∷ []) d

long_is : (z : ℤ) → FitsSigned w32 z → IsLong (cast_unsigned w64 z)
long_is z f =
    let e : cast_unsigned w64 z % 2 ^ 32 % 2 ^ 32 ≡ cast_unsigned w32 z = omega (arith, ints) in
    ap (λ k. sign_extend (cast_signed w32 k)) e ∙ ap sign_extend (to_z-of_z w32 z f)

module _ (l : Addresses) where
  -- the bytes of a field's cells
  cells_lowered : (v : Value) (n : ℕ) → map (cell_byte l) (cells_of n v) ≡ little_bytes n (number_of_value l v)
  cells_lowered (Num m) n = bytes_lowered l n m
  cells_lowered (Ptr r x) n = parts_lowered l (Ptr r x) 0 n n
  cells_lowered (Code q) n = parts_lowered l (Code q) 0 n n
  cells_lowered (Gp q) n = parts_lowered l (Gp q) 0 n n
  cells_lowered (Half q) n = parts_lowered l (Half q) 0 n n
  cells_lowered (GpOff o t) n = parts_lowered l (GpOff o t) 0 n n

  parts_are_cells : (v : Value) (n : ℕ) → IsValue v → FitsIn l n v → (i count : ℕ) → AreCells l (parts_from v i count n)
  parts_are_cells v n h f i zero k = omega arith
  parts_are_cells v n h f i (suc count) zero = (h, f)
  parts_are_cells v n h f i (suc count) (suc k) = parts_are_cells v n h f (i + 1) count k

  long_offset : (t g : ℕ) → t < 2 ^ 64 → g < 2 ^ 63 → FitsSigned w32 (pos t -ℤ pos g) → IsLong ((t + (2 ^ 64 - g)) % 2 ^ 64)
  long_offset t g ht hg f =
      let n : (t + (2 ^ 64 - g)) % 2 ^ 64 ≡ cast_unsigned w64 (pos t -ℤ pos g) = omega (arith, ints) in
      subst IsLong (sym n) (long_is (pos t -ℤ pos g) f)

  offset_bytes : (t g : ℕ) → t < 2 ^ 64 → g < 2 ^ 63 → FitsSigned w32 (pos t -ℤ pos g) → cast_unsigned w32 (pos t -ℤ pos g) % 2 ^ 32 ≡ (t + (2 ^ 64 - g)) % 2 ^ 64 % 2 ^ 32
  offset_bytes t g ht hg f = omega (arith, ints)

-- ---- the start of a graph's run

-- a cell of a region at the start, and the byte that a true map has there
pub record Begins (addr : Addresses) (c : Cell) (byte : ℕ) : Type 0 where
  pub cell : IsCell addr c
  pub same : byte ≡ cell_byte addr c

module _ (p : ProgramView) (l : LayoutView) (addr : Addresses) (regions_same : (r : Region) → addr.region r ≡ region_at l r) (codes_same : (q : Place) → addr.code q ≡ code_at l q) (gps_same : (t : ℕ) → addr.gp t ≡ gp_at l t) (code_small : (q : Place) → code_at l q < 2 ^ 64) (gp_small : (t : ℕ) → gp_at l t < 2 ^ 63) where
  target_same : (t : Target) → target_number addr t ≡ address_of l t
  target_same (target.Num n) = refl
  target_same (target.Ptr r x) = ap (λ b. (b + x) % 2 ^ 64) (regions_same r)
  target_same (target.Code q) = codes_same q

  target_small : (t : Target) → IsTarget t → address_of l t < 2 ^ 64
  target_small (target.Num n) h = h
  target_small (target.Ptr r x) h = omega arith
  target_small (target.Code q) h = code_small q

  -- a value's cells are cells, and its bytes are those of its number
  record Holds (v : Value) (w : ℕ) : Type 0 where
    cells : AreCells addr (cells_of w (retabled (table_at l) v))
    bytes : value_bytes l v ≡ little_bytes w (number_of_value addr (retabled (table_at l) v))

  eight : (w : ℕ) → Some 8 ≡ Some w → w ≡ 8
  eight w e = cc

  four : (w : ℕ) → 4 ≡ w → w ≡ 4
  four w e = sym e

  value_holds : (v : Value) (w : ℕ) → width_of p v ≡ Some w → IsValue v → DistanceFits l v → Holds v w
  value_holds (Num n) w e h fits =
      record { cells = bytes_cells addr w n; bytes = ap (λ k. little_bytes k n) (sym (eight w e)) }
  value_holds (Ptr r x) w e h fits =
      let k : w ≡ 8 = sym (cond_some (has_region p r) 8 w e).1 in
      record {
        cells = parts_are_cells addr (Ptr r x) w h (inl k) 0 w;
        bytes = ap (λ k. little_bytes k ((region_at l r + x) % 2 ^ 64)) (sym k) ∙ ap (λ b. little_bytes w ((b + x) % 2 ^ 64)) (sym (regions_same r));
      }
  value_holds (Code q) w e h fits =
      let k : w ≡ 8 = sym (cond_some (is_word p q) 8 w e).1 in
      record {
        cells = parts_are_cells addr (Code q) w tt (inl k) 0 w;
        bytes = ap (λ k. little_bytes k (code_at l q)) (sym k) ∙ ap (little_bytes w) (sym (codes_same q));
      }
  value_holds (GpOff o t) w e h fits =
      let k : w ≡ 4 = sym (cond_some (nat_lt o (length p.texts) && is_near_target p t) 4 w e).1 in
      let ts = target_small t h in
      let gp : ℕ = gp_at l (table_at l o) in
      let number : number_of_value addr (GpOff (table_at l o) t) ≡ (address_of l t + (2 ^ 64 - gp_at l (table_at l o))) % 2 ^ 64 = ap (λ a. (a + (2 ^ 64 - addr.gp (table_at l o))) % 2 ^ 64) (target_same t) ∙ ap (λ g. (address_of l t + (2 ^ 64 - g)) % 2 ^ 64) (gps_same (table_at l o)) in
      let long : IsLong (number_of_value addr (GpOff (table_at l o) t)) = subst IsLong (sym number) (long_offset addr (address_of l t) (gp_at l (table_at l o)) ts (gp_small (table_at l o)) fits) in
      record {
        cells = parts_are_cells addr (GpOff (table_at l o) t) w h (inr (k, long)) 0 w;
        bytes =
            low_four _ _ (offset_bytes addr (address_of l t) (gp_at l (table_at l o)) ts (gp_small (table_at l o)) fits)
            ∙ ap (λ k. little_bytes k ((address_of l t + (2 ^ 64 - gp_at l (table_at l o))) % 2 ^ 64)) (sym k) ∙ ap (little_bytes w) (sym number);
      }
  value_holds (Gp o) w e h fits = cc
  value_holds (Half q) w e h fits = cc

  field_begins : (bytes : List ℕ) (x : ℕ) (o : Option Field) → ((k : ℕ) → slice_index bytes k < 256) → ((f : Field) → o ≡ Some f → Holds f.value f.width) → Begins addr (field_cell (table_at l) bytes x o) (field_byte l bytes x o)
  field_begins bytes x None small h = record { cell = small x; same = refl }
  field_begins bytes x (Some f) small h =
      let k = h f refl in
      record {
        cell = k.cells (x - f.off);
        same = ap (λ (bs : List ℕ). slice_index bs (x - f.off)) (k.bytes ∙ sym (cells_lowered addr (retabled (table_at l) f.value) f.width)) ∙ mapped_at addr (cells_of f.width (retabled (table_at l) f.value)) (x - f.off);
      }

  pub init_begins : (r : RegionInit) (x : ℕ) → ((k : ℕ) → slice_index r.bytes k < 256) → All (λ f. width_of p f.value ≡ Some f.width) r.fields → All (λ f. IsValue f.value) r.fields → All (λ f. DistanceFits l f.value) r.fields → Begins addr (init_cell (table_at l) (Some r) x) (region_byte l r x)
  init_begins r x small widths values fits =
      field_begins r.bytes x (find (covers x) r.fields) small
      (λ f e.
      value_holds f.value f.width
      (find_all (λ f. width_of p f.value ≡ Some f.width) (covers x) r.fields f widths e).0
      (find_all (λ f. IsValue f.value) (covers x) r.fields f values e).0
      (find_all (λ f. DistanceFits l f.value) (covers x) r.fields f fits e).0)
