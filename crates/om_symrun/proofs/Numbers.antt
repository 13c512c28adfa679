-- Numbers as bytes, and bytes as cells.
use Rattle.std.proofs.Common.{◌≡◌, ◌≤◌, ◌<◌, ℕ, zero, suc, ◌+◌, ◌-◌, ◌/◌, ◌%◌, List, length, take, drop, Option, Some, None, refl, ap, sym, subst, ◌∙◌, arith, add-one}
use Rattle.std.proofs.Math.Seq.{drop-cons}
use Rattle.om_alpha.specs.declared.op.Size.{Size}
use Rattle.om_alpha.specs.declared.op.Size.TheVariants as sizes
use Rattle.byteorder.specs.Endian.{little_bytes}
use Rattle.om_prog.specs.Cells.{Cell, Byte, Part, bytes_of, all_bytes, with_byte, cells_from, load_cells, or_whole, whole_value}
use Rattle.om_value.specs.declared.value.Value.{Value}
use Rattle.om_symrun.specs.RegionCells.{RegionCells}
use Rattle.om_symrun.specs.CellsIn.{byte_cells, cell_in, cell_marked, mark_at, part_of, value_at, size_bytes, AllAre, OneIsNot, Writes}
use Rattle.om_symrun.specs.declared.cells.Mark.{Mark}
use Rattle.om_symrun.specs.declared.cells.Mark.TheVariants as mark

-- the low bytes of a number that was cut to them
pub two_bytes : (n : ℕ) → little_bytes 2 (n % 65536) ≡ little_bytes 2 n
two_bytes n =
    let a : n % 65536 % 256 ≡ n % 256 = omega arith in
    let b : n % 65536 / 256 % 256 ≡ n / 256 % 256 = omega arith in
    cc

pub four_bytes : (n : ℕ) → little_bytes 4 (n % 4294967296) ≡ little_bytes 4 n
four_bytes n =
    let a : n % 4294967296 % 256 ≡ n % 256 = omega arith in
    let b : n % 4294967296 / 256 % 256 ≡ n / 256 % 256 = omega arith in
    let d : n % 4294967296 / 65536 % 256 ≡ n / 65536 % 256 = omega arith in
    let e : n % 4294967296 / 16777216 % 256 ≡ n / 16777216 % 256 = omega arith in
    cc

-- a number of eight bytes as cells
pub eight_cells : (n : ℕ) → byte_cells (little_bytes 8 n) ≡ bytes_of 8 n
eight_cells n =
    let b : n / 256 / 256 ≡ n / 65536 = omega arith in
    let d : n / 65536 / 256 ≡ n / 16777216 = omega arith in
    let e : n / 16777216 / 256 ≡ n / 4294967296 = omega arith in
    let f : n / 4294967296 / 256 ≡ n / 1099511627776 = omega arith in
    let g : n / 1099511627776 / 256 ≡ n / 281474976710656 = omega arith in
    let h : n / 281474976710656 / 256 ≡ n / 72057594037927936 = omega arith in
    rw (b, d, e, f, g, h) refl

-- ---- bytes alone

marked : (c : RegionCells) (x : ℕ) (m : Mark) → mark_at c.marks x ≡ m → cell_in c x ≡ cell_marked c x m
marked c x m e = ap (cell_marked c x) e

pub all_are_bytes : (c : RegionCells) (at count : ℕ) → at + count ≤ length c.bytes → AllAre c.marks at count mark.Byte → all_bytes (cells_from (cell_in c) at count) ≡ Some (take count (drop at c.bytes))
all_are_bytes c at zero fits all = refl
all_are_bytes c at (suc count) fits all =
    let here : at < length c.bytes = omega arith in
    let first = marked c at mark.Byte (all.each at (omega arith) (omega arith)) in
    let next : at + 1 ≡ suc at = add-one at in
    let rest =
    all_are_bytes c (at + 1) count (omega arith) (record { each = λ k a b. all.each k (omega arith) (omega arith) }) in
    rw (first, rest, drop-cons c.bytes at 0 here, next) refl

part_none : (c : RegionCells) (x : ℕ) (m : Mark) (rest : Option (List ℕ)) → (m ≡ mark.Byte → ⊥) → with_byte (cell_marked c x m) rest ≡ None
part_none c x mark.Byte rest h = absurd (h refl)
part_none c x mark.Eight rest h = of_part (value_at c.eights (x / 8)) (x % 8) 8
  where
    of_part : (o : Option Value) (i n : ℕ) → with_byte (part_of o i n) rest ≡ None
    of_part (Some v) i n = refl
    of_part None i n = refl
part_none c x mark.Four rest h = of_part (value_at c.fours (x / 4)) (x % 4) 4
  where
    of_part : (o : Option Value) (i n : ℕ) → with_byte (part_of o i n) rest ≡ None
    of_part (Some v) i n = refl
    of_part None i n = refl

with_none : (d : Cell) → with_byte d None ≡ None
with_none (Byte b) = refl
with_none (Part v i n) = refl

none_from : (c : RegionCells) (at count j : ℕ) → j < count → (mark_at c.marks (at + j) ≡ mark.Byte → ⊥) → all_bytes (cells_from (cell_in c) at count) ≡ None
none_from c at zero j h other = absurd (omega arith)
none_from c at (suc count) zero h other =
    let z : at + zero ≡ at = omega arith in
    part_none c at (mark_at c.marks at) _ (rw z at other)
none_from c at (suc count) (suc j) h other =
    let s : at + suc j ≡ (at + 1) + j = omega arith in
    let rest = none_from c (at + 1) count j (omega arith) (rw s at other) in
    rw rest (with_none (cell_in c at))

pub not_all_bytes : (c : RegionCells) (at count : ℕ) → OneIsNot c.marks at count mark.Byte → all_bytes (cells_from (cell_in c) at count) ≡ None
not_all_bytes c at count one =
    let k : at + (one.place - at) ≡ one.place = omega (arith, one.from) in
    none_from c at count (one.place - at) (omega (arith, one.from, one.below)) (rw k one.other)

pub writes_eight : (old new : RegionCells) (size : Size) (at n : ℕ) (piece : List ℕ) → size ≡ sizes.Quad → piece ≡ little_bytes 8 n → Writes old new at (byte_cells piece) → Writes old new at (bytes_of (size_bytes size) n)
writes_eight old new size at n piece e p h =
    let all : byte_cells piece ≡ bytes_of (size_bytes size) n =
    ap byte_cells p ∙ eight_cells n ∙ ap (λ k. bytes_of k n) (sym (ap size_bytes e)) in
    subst (λ cs. Writes old new at cs) all h

pub loads_whole : (c : RegionCells) (size : Size) (at n : ℕ) (r : Option Value) → n ≡ size_bytes size → OneIsNot c.marks at n mark.Byte → r ≡ whole_value (cells_from (cell_in c) at (size_bytes size)) → r ≡ load_cells (cell_in c) at (size_bytes size)
loads_whole c size at n r e one h =
    let none = not_all_bytes c at (size_bytes size) (subst (λ k. OneIsNot c.marks at k mark.Byte) e one) in
    h ∙ sym (ap (λ o. or_whole o (cells_from (cell_in c) at (size_bytes size))) none)
