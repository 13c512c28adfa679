-- The start of a run.
use Rattle.std.proofs.Common.{◌≡◌, ◌⊎◌, inl, inr, ◌≤◌, ◌<◌, ℕ, zero, suc, ◌+◌, ◌-◌, ◌/◌, Bool, true, false, cond, ◌&&◌, nat_le, nat_lt, List, [], ◌∷◌, length, drop, replicate, Option, Some, None, refl, ap, sym, subst, ◌∙◌, arith}
use Rattle.std.specs.Prelude.{find, slice_get, slice_index, slice_index_or}
use Rattle.std.proofs.lemmas.Bool.{cases_lt, lt-ltb, le-ltb, le-leb}
use Rattle.std.proofs.lemmas.List.{get_or_past, length-map}
use Rattle.om_isa.specs.SystemCall.{heap_limit}
use Rattle.om_value.specs.declared.value.Region.{Region}
use Rattle.om_value.specs.declared.value.Region.TheVariants.{Sec, Common, Stack, Heap}
use Rattle.om_value.specs.declared.value.Value.{Value}
use Rattle.om_value.specs.declared.value.Value.TheVariants.{Num, Ptr, Code, Gp, Half, GpOff}
use Rattle.om_value.specs.Same.{region_eq}
use Rattle.om_prog.specs.declared.item.Field.{Field}
use Rattle.om_prog.specs.declared.region.RegionInit.{RegionInit}
use Rattle.om_prog.specs.Cells.{Cell, Byte, cells_of, bytes_of, parts_from, store_cells}
use Rattle.om_prog.specs.Runs.{sym_start, start_regs}
use Rattle.om_prog.specs.Script.{covers, own_table, retabled, field_cell, init_cell, initial, program_script}
use Rattle.om_prog.specs.Step.{sized}
use Rattle.om_prog.specs.Valid.{IsProgram, IsRegionInit, IsField, width_of, has_region, is_near_target}
use Rattle.om_prog.specs.View.{ProgramView, is_word, size_of, size_or_none, stack_size}
use Rattle.om_symrun.specs.RegionCells.{RegionCells, Regions}
use Rattle.om_symrun.specs.Memory.{region_in, cell_of, count_of, memory_cells, memory_size, heap_size}
use Rattle.om_symrun.specs.CellsIn.{cell_in, Writes, IsZeros, byte_cells}
use Rattle.om_symrun.specs.Starting.{AreLaid, WritesFields, field_over, IsMade, IsMadeOf, init_in, IsFirst}
use Rattle.om_symrun.specs.View.{View, state_of, register_in}
use mathlib.Core.Path.{fun_ext}

value_at : (n k : ℕ) → register_in (replicate n (Num 0)) k ≡ Num 0
value_at zero k = refl
value_at (suc n) zero = refl
value_at (suc n) (suc k) = value_at n k

-- 32 registers that hold 0
pub no_registers : (k : ℕ) → register_in (replicate 32 (Num 0)) k ≡ Num 0
no_registers k = value_at 32 k

-- ---- fields

length-bytes_of : (n m : ℕ) → length (bytes_of n m) ≡ n
length-bytes_of zero m = refl
length-bytes_of (suc n) m = let r = length-bytes_of n (m / 256) in omega (arith, r)

length-parts_from : (v : Value) (i count n : ℕ) → length (parts_from v i count n) ≡ count
length-parts_from v i zero n = refl
length-parts_from v i (suc count) n = let r = length-parts_from v (i + 1) count n in omega (arith, r)

length-cells_of : (n : ℕ) (v : Value) → length (cells_of n v) ≡ n
length-cells_of n (Num m) = length-bytes_of n m
length-cells_of n (Ptr r x) = length-parts_from (Ptr r x) 0 n n
length-cells_of n (Code p) = length-parts_from (Code p) 0 n n
length-cells_of n (Gp o) = length-parts_from (Gp o) 0 n n
length-cells_of n (Half p) = length-parts_from (Half p) 0 n n
length-cells_of n (GpOff o t) = length-parts_from (GpOff o t) 0 n n

-- a list from its last places on
pub drop_read : {A : Type 0} → (xs : List A) (i : ℕ) (x : A) → slice_get xs i ≡ Some x → drop i xs ≡ x ∷ drop (i + 1) xs
drop_read [] i x e = cc
drop_read (y ∷ ys) zero x e = let s : y ≡ x = cc in ap (λ z. z ∷ ys) s
drop_read (y ∷ ys) (suc i) x e = let n : suc i + 1 ≡ suc (i + 1) = omega arith in rw n (drop_read ys i x e)

covered : (old : ℕ → Cell) (f : Field) (fs : List Field) (x : ℕ) (b : Bool) → covers x f ≡ b → cond b (slice_index_or (cells_of f.width f.value) (x - f.off) (Byte 0)) (field_over old x (find (covers x) fs)) ≡ field_over old x (cond b (Some f) (find (covers x) fs))
covered old f fs x true e = refl
covered old f fs x false e = refl

-- one more field, before the others
pub fields_more : (c0 c1 c2 : RegionCells) (f : Field) (fs : List Field) → WritesFields c0 c1 fs → Writes c1 c2 f.off (cells_of f.width f.value) → WritesFields c0 c2 (f ∷ fs)
fields_more c0 c1 c2 f fs done now =
    record { size = now.size ∙ done.size; places = λ x. now.places x ∙ here x }
  where
    here : (x : ℕ) → store_cells (cell_in c1) f.off (cells_of f.width f.value) x ≡ field_over (cell_in c0) x (find (covers x) (f ∷ fs))
    here x =
        ap (λ n. cond (nat_le f.off x && nat_lt x (f.off + n)) (slice_index_or (cells_of f.width f.value) (x - f.off) (Byte 0)) (cell_in c1 x)) (length-cells_of f.width f.value)
        ∙ ap (λ d. cond (covers x f) (slice_index_or (cells_of f.width f.value) (x - f.off) (Byte 0)) d) (done.places x)
        ∙ covered (cell_in c0) f fs x (covers x f) refl

own_value : (v : Value) → retabled own_table v ≡ v
own_value (Num n) = refl
own_value (Ptr r x) = refl
own_value (Code p) = refl
own_value (Gp o) = refl
own_value (Half p) = refl
own_value (GpOff o t) = refl

-- ---- a region

mapped_at : (bytes : List ℕ) (x : ℕ) → slice_index_or (byte_cells bytes) x (Byte 0) ≡ Byte (slice_index bytes x)
mapped_at [] x = refl
mapped_at (b ∷ bs) zero = refl
mapped_at (b ∷ bs) (suc x) = mapped_at bs x

-- bytes over zeros
bytes_over : (cell : ℕ → Cell) (bytes : List ℕ) (x : ℕ) → cell x ≡ Byte 0 → store_cells cell 0 (byte_cells bytes) x ≡ Byte (slice_index bytes x)
bytes_over cell bytes x zero_here = by_place (cases_lt x (length bytes))
  where
    n : 0 + length (byte_cells bytes) ≡ length bytes
    n = let m = length-map bytes (λ b. Byte b) in omega (arith, m)

    z : x - 0 ≡ x
    z = omega arith

    low : nat_le 0 x ≡ true
    low = le-leb 0 x (omega arith)

    by_place : (x < length bytes) ⊎ (length bytes ≤ x) → store_cells cell 0 (byte_cells bytes) x ≡ Byte (slice_index bytes x)
    by_place (inl h) = rw (n, z, low, lt-ltb x (length bytes) h) (mapped_at bytes x)
    by_place (inr h) = rw (n, z, low, le-ltb x (length bytes) h) (zero_here ∙ sym (ap Byte (get_or_past bytes x 0 h)))

under_fields : (cell : ℕ → Cell) (bytes : List ℕ) (x : ℕ) (o : Option Field) → cell x ≡ Byte (slice_index bytes x) → field_over cell x o ≡ field_cell own_table bytes x o
under_fields cell bytes x None e = e
under_fields cell bytes x (Some f) e =
    ap (λ v. slice_index_or (cells_of f.width v) (x - f.off) (Byte 0)) (sym (own_value f.value))

-- zeros, then bytes, then fields
pub made : (c0 c1 c2 : RegionCells) (i : RegionInit) → IsZeros c0 i.size → Writes c0 c1 0 (byte_cells i.bytes) → WritesFields c1 c2 i.fields → IsMade c2 i
made c0 c1 c2 i zeros bytes fields =
    record {
      size = fields.size ∙ bytes.size ∙ zeros.size;
      places = λ x.
          fields.places x
          ∙ under_fields (cell_in c1) i.bytes x (find (covers x) i.fields) (bytes.places x ∙ bytes_over (cell_in c0) i.bytes x (zeros.places x));
    }

-- one more region, before the others
pub region_more : (x : RegionInit) (rest : List RegionInit) (c : RegionCells) (r : Region) (new old : Option RegionCells) (b : Bool) → region_eq x.region r ≡ b → IsMade c x → IsMadeOf old (init_in rest r) → new ≡ cond b (Some c) old → IsMadeOf new (init_in (x ∷ rest) r)
region_more x rest c r new old true e here before n = rw (n, e) here
region_more x rest c r new old false e here before n = rw (n, e) before

-- ---- a program

width_is : (p : ProgramView) (v : Value) (w : ℕ) → width_of p v ≡ Some w → (w ≡ 4) ⊎ (w ≡ 8)
width_is p (Num n) w e = inr cc
width_is p (Ptr r x) w e = by_test (has_region p r) e
  where
    by_test : (b : Bool) → cond b (Some 8) None ≡ Some w → (w ≡ 4) ⊎ (w ≡ 8)
    by_test true f = inr cc
    by_test false f = cc
width_is p (Code q) w e = by_test (is_word p q) e
  where
    by_test : (b : Bool) → cond b (Some 8) None ≡ Some w → (w ≡ 4) ⊎ (w ≡ 8)
    by_test true f = inr cc
    by_test false f = cc
width_is p (Gp o) w e = cc
width_is p (Half q) w e = cc
width_is p (GpOff o t) w e = by_test (nat_lt o (length p.texts) && is_near_target p t) e
  where
    by_test : (b : Bool) → cond b (Some 4) None ≡ Some w → (w ≡ 4) ⊎ (w ≡ 8)
    by_test true f = inl cc
    by_test false f = cc

pub laid : (p : ProgramView) → IsProgram p → AreLaid p.regions
laid p is =
    record {
      each = λ k i e.
          let r : IsRegionInit p i = is.regions.each k i e in
          record {
            bytes = r.form.bytes;
            fields =
                record {
                  each = λ j f g.
                      let h : IsField p i.size f = r.fields.each j f g in
                      record { width = width_is p f.value f.width h.width; aligned = h.aligned; inside = h.inside };
                };
          };
    }

-- the sizes and the cells of a region that was made of its initial content
size_made : (c : Option RegionCells) (i : Option RegionInit) → IsMadeOf c i → count_of c ≡ size_or_none i
size_made None None h = refl
size_made (Some c) (Some i) h = h.size
size_made None (Some i) h = absurd h
size_made (Some c) None h = absurd h

cell_made : (c : Option RegionCells) (i : Option RegionInit) (x : ℕ) → IsMadeOf c i → cell_of c x ≡ init_cell own_table i x
cell_made None None x h = refl
cell_made (Some c) (Some i) x h = h.places x
cell_made None (Some i) x h = absurd h
cell_made (Some c) None x h = absurd h

pub first : (p : ProgramView) (m : Regions) → IsProgram p → IsZeros m.stack stack_size → IsZeros m.heap 0 → ((r : Region) → IsMadeOf (region_in m.given r) (init_in p.regions r)) → IsFirst p m
first p m is stack heap given =
    record {
      memory = record { program = is; sizes = sizes; limit = subst (λ n. n ≤ heap_limit) (sym heap.size) (omega arith) };
      cells = cells;
      heap = heap.size;
    }
  where
    sizes : (r : Region) → memory_size m r ≡ sized (size_of p) (heap_size m) r
    sizes (Sec o k) = size_made (region_in m.given (Sec o k)) (init_in p.regions (Sec o k)) (given (Sec o k))
    sizes (Common s) = size_made (region_in m.given (Common s)) (init_in p.regions (Common s)) (given (Common s))
    sizes Stack = stack.size
    sizes Heap = refl

    cells : (r : Region) (x : ℕ) → memory_cells m r x ≡ initial p own_table r x
    cells (Sec o k) x = cell_made (region_in m.given (Sec o k)) (init_in p.regions (Sec o k)) x (given (Sec o k))
    cells (Common s) x = cell_made (region_in m.given (Common s)) (init_in p.regions (Common s)) x (given (Common s))
    cells Stack x = stack.places x
    cells Heap x = heap.places x

-- a machine with the registers and the memory of the start
pub started : (v : View) (p : ProgramView) (input : List ℕ) → ((r : ℕ) → register_in v.registers r ≡ start_regs (program_script p) r) → v.place ≡ p.entry → IsFirst p v.memory → v.end ≡ None → state_of v input [] [] ≡ sym_start (program_script p) input
unfolding sym_start
started v p input registers place f end =
    let r : register_in v.registers ≡ start_regs (program_script p) = fun_ext registers in
    let m : memory_cells v.memory ≡ initial p own_table = fun_ext (λ q. fun_ext (λ x. f.cells q x)) in
    let h = f.heap in
    cc (r, m, h)
