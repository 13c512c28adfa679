-- Cells that are the fragments of a value, and cells that are not.
use Rattle.std.proofs.Common.{◌≡◌, ◌<◌, ℕ, zero, suc, ◌+◌, ◌-◌, ◌/◌, ◌%◌, true, false, ◌==◌, List, Option, Some, None, refl, ap, sym, subst, ◌∙◌, arith}
use Rattle.std.proofs.lemmas.Bool.{eq-eqb, ne_eqb, and_left, and_right}
use Rattle.om_alpha.specs.declared.op.Size.{Size}
use Rattle.om_alpha.specs.declared.op.Size.TheVariants as sizes
use Rattle.om_value.specs.declared.value.Place.{Place}
use Rattle.om_value.specs.declared.value.Region.{Region}
use Rattle.om_value.specs.declared.value.Region.TheVariants.{Sec, Common, Stack, Heap}
use Rattle.om_value.specs.declared.value.Target.{Target}
use Rattle.om_value.specs.declared.value.Target.TheVariants as target
use Rattle.om_value.specs.declared.value.Value.{Value}
use Rattle.om_value.specs.declared.value.Value.TheVariants.{Num, Ptr, Code, Gp, Half, GpOff}
use Rattle.om_value.specs.Same.{place_eq, region_eq, target_eq, value_eq}
use Rattle.om_prog.specs.Cells.{Cell, Byte, Part, is_part, are_parts, whole_value, cells_from}
use Rattle.om_symrun.specs.RegionCells.{RegionCells}
use Rattle.om_symrun.specs.CellsIn.{cell_in, cell_marked, mark_at, part_of, value_at, size_bytes, AllAre, OneIsNot}
use Rattle.om_symrun.specs.declared.cells.Mark.{Mark}
use Rattle.om_symrun.specs.declared.cells.Mark.TheVariants as mark

-- ---- a value is equal to itself

number_same : (n : ℕ) → (n == n) ≡ true
number_same n = eq-eqb n n refl

region_same : (r : Region) → region_eq r r ≡ true
region_same (Sec o n) = rw (number_same o, number_same n) refl
region_same (Common s) = number_same s
region_same Stack = refl
region_same Heap = refl

place_same : (p : Place) → place_eq p p ≡ true
place_same p = rw (number_same p.obj, number_same p.off) refl

target_same : (t : Target) → target_eq t t ≡ true
target_same (target.Num n) = number_same n
target_same (target.Ptr r x) = rw (region_same r, number_same x) refl
target_same (target.Code p) = place_same p

value_same : (v : Value) → value_eq v v ≡ true
value_same (Num n) = number_same n
value_same (Ptr r x) = rw (region_same r, number_same x) refl
value_same (Code p) = place_same p
value_same (Gp o) = number_same o
value_same (Half p) = place_same p
value_same (GpOff o t) = rw (number_same o, target_same t) refl

own_part : (v : Value) (i n : ℕ) → is_part v i n (Part v i n) ≡ true
own_part v i n = rw (value_same v, number_same i, number_same n) refl

-- ---- cells from x on

module _ (cell : ℕ → Cell) where
  -- they end at another fragment than the last
  ends : (v : Value) (i n x count : ℕ) → (i + count ≡ n → ⊥) → are_parts v i n (cells_from cell x count) ≡ false
  ends v i n x zero h = ne_eqb i n (λ e. h (omega (arith, e)))
  ends v i n x (suc count) h =
      and_right _ _ (ends v (i + 1) n (x + 1) count (λ e. h (omega (arith, e))))

  -- one of them is another cell
  stops : (v : Value) (i n x count j : ℕ) → j < count → is_part v (i + j) n (cell (x + j)) ≡ false → are_parts v i n (cells_from cell x count) ≡ false
  stops v i n x zero j h e = absurd (omega arith)
  stops v i n x (suc count) zero h e =
      let a : i + zero ≡ i = omega arith in
      let b : x + zero ≡ x = omega arith in
      and_left _ _ (rw (a, b) at e)
  stops v i n x (suc count) (suc j) h e =
      let a : i + suc j ≡ (i + 1) + j = omega arith in
      let b : x + suc j ≡ (x + 1) + j = omega arith in
      and_right _ _ (stops v (i + 1) n (x + 1) count j (omega arith) (rw (a, b) at e))

  -- all are the fragments, to the last
  passes : (v : Value) (i n x count : ℕ) → i + count ≡ n → ((j : ℕ) → j < count → cell (x + j) ≡ Part v (i + j) n) → are_parts v i n (cells_from cell x count) ≡ true
  passes v i n x zero h all = eq-eqb i n (omega (arith, h))
  passes v i n x (suc count) h all =
      let a : i + zero ≡ i = omega arith in
      let b : x + zero ≡ x = omega arith in
      let first : cell x ≡ Part v i n = rw (a, b) at (all zero (omega arith)) in
      let rest : are_parts v (i + 1) n (cells_from cell (x + 1) count) ≡ true =
      passes v (i + 1) n (x + 1) count (omega (arith, h)) (λ j k.
      let c : i + suc j ≡ (i + 1) + j = omega arith in
      let d : x + suc j ≡ (x + 1) + j = omega arith in
      rw (c, d) at (all (suc j) (omega (arith, k)))) in
      rw (first, own_part v i n, rest) refl

  byte_first : (x count b : ℕ) → cell x ≡ Byte b → whole_value (cells_from cell x (suc count)) ≡ None
  byte_first x count b e = rw e refl

  no_parts : (v : Value) (i n x count : ℕ) → cell x ≡ Part v i n → are_parts v 0 n (cells_from cell x (suc count)) ≡ false → whole_value (cells_from cell x (suc count)) ≡ None
  no_parts v i n x count e h = rw (e, rw e at h) refl

  all_parts : (v : Value) (i n x count : ℕ) → cell x ≡ Part v i n → are_parts v 0 n (cells_from cell x (suc count)) ≡ true → whole_value (cells_from cell x (suc count)) ≡ Some v
  all_parts v i n x count e h = rw (e, rw e at h) refl

-- ---- cells by their marks

marked : (c : RegionCells) (x : ℕ) (m : Mark) → mark_at c.marks x ≡ m → cell_in c x ≡ cell_marked c x m
marked c x m e = ap (cell_marked c x) e

-- a value of n cells at the first of which so many follow, where another number are looked at
part_first : (c : RegionCells) (o : Option Value) (i n x count : ℕ) → (suc count ≡ n → ⊥) → cell_in c x ≡ part_of o i n → whole_value (cells_from (cell_in c) x (suc count)) ≡ None
part_first c (Some v) i n x count h e =
    no_parts (cell_in c) v i n x count e (ends (cell_in c) v 0 n x (suc count) (λ k. h (omega (arith, k))))
part_first c None i n x count h e =
    no_parts (cell_in c) (Num 0) i 0 x count e (ends (cell_in c) (Num 0) 0 0 x (suc count) (λ k. absurd (omega (arith, k))))

-- ---- the cells of a value of eight

eight_at : (c : RegionCells) (at j : ℕ) → at % 8 ≡ 0 → j < 8 → mark_at c.marks (at + j) ≡ mark.Eight → cell_in c (at + j) ≡ part_of (value_at c.eights (at / 8)) j 8
eight_at c at j a h e =
    let slot : (at + j) / 8 ≡ at / 8 = omega arith in
    let place : (at + j) % 8 ≡ j = omega arith in
    marked c (at + j) mark.Eight e ∙ rw (slot, place) refl

four_at : (c : RegionCells) (at j : ℕ) → at % 4 ≡ 0 → j < 4 → mark_at c.marks (at + j) ≡ mark.Four → cell_in c (at + j) ≡ part_of (value_at c.fours (at / 4)) j 4
four_at c at j a h e =
    let slot : (at + j) / 4 ≡ at / 4 = omega arith in
    let place : (at + j) % 4 ≡ j = omega arith in
    marked c (at + j) mark.Four e ∙ rw (slot, place) refl

all_of : (c : RegionCells) (o : Option Value) (n at : ℕ) → ((j : ℕ) → j < suc n → cell_in c (at + j) ≡ part_of o j (suc n)) → whole_value (cells_from (cell_in c) at (suc n)) ≡ o
all_of c (Some v) n at all =
    let z : at + 0 ≡ at = omega arith in
    let first : cell_in c at ≡ Part v 0 (suc n) = rw z at (all 0 (omega arith)) in
    all_parts (cell_in c) v 0 (suc n) at n first
    (passes (cell_in c) v 0 (suc n) at (suc n) (omega arith) (λ j h. let e : 0 + j ≡ j = omega arith in rw e (all j h)))
all_of c None n at all =
    let z : at + 0 ≡ at = omega arith in
    let first : cell_in c at ≡ Part (Num 0) 0 0 = rw z at (all 0 (omega arith)) in
    no_parts (cell_in c) (Num 0) 0 0 at n first (ends (cell_in c) (Num 0) 0 0 at (suc n) (λ k. absurd (omega (arith, k))))

pub whole_eight : (c : RegionCells) (at : ℕ) → at % 8 ≡ 0 → AllAre c.marks at 8 mark.Eight → whole_value (cells_from (cell_in c) at 8) ≡ value_at c.eights (at / 8)
whole_eight c at a all =
    all_of c (value_at c.eights (at / 8)) 7 at (λ j h. eight_at c at j a h (all.each (at + j) (omega arith) (omega arith)))

pub whole_four : (c : RegionCells) (at : ℕ) → at % 4 ≡ 0 → AllAre c.marks at 4 mark.Four → whole_value (cells_from (cell_in c) at 4) ≡ value_at c.fours (at / 4)
whole_four c at a all =
    all_of c (value_at c.fours (at / 4)) 3 at (λ j h. four_at c at j a h (all.each (at + j) (omega arith) (omega arith)))

-- a cell that belongs to no value of eight is no fragment of one
not_eight : (c : RegionCells) (v : Value) (i x : ℕ) (m : Mark) → mark_at c.marks x ≡ m → (m ≡ mark.Eight → ⊥) → is_part v i 8 (cell_in c x) ≡ false
not_eight c v i x mark.Byte e h = rw (marked c x mark.Byte e) refl
not_eight c v i x mark.Eight e h = absurd (h refl)
not_eight c v i x mark.Four e h = rw (marked c x mark.Four e) (other (value_at c.fours (x / 4)))
  where
    other : (o : Option Value) → is_part v i 8 (part_of o (x % 4) 4) ≡ false
    other (Some w) = and_right _ _ refl
    other None = and_right _ _ refl

not_four : (c : RegionCells) (v : Value) (i x : ℕ) (m : Mark) → mark_at c.marks x ≡ m → (m ≡ mark.Four → ⊥) → is_part v i 4 (cell_in c x) ≡ false
not_four c v i x mark.Byte e h = rw (marked c x mark.Byte e) refl
not_four c v i x mark.Four e h = absurd (h refl)
not_four c v i x mark.Eight e h = rw (marked c x mark.Eight e) (other (value_at c.eights (x / 8)))
  where
    other : (o : Option Value) → is_part v i 4 (part_of o (x % 8) 8) ≡ false
    other (Some w) = and_right _ _ refl
    other None = and_right _ _ refl

pub not_whole_eight : (c : RegionCells) (at : ℕ) → OneIsNot c.marks at 8 mark.Eight → whole_value (cells_from (cell_in c) at 8) ≡ None
not_whole_eight c at one = by_first (mark_at c.marks at) refl
  where
    inside : (o : Option Value) → cell_in c at ≡ part_of o (at % 8) 8 → whole_value (cells_from (cell_in c) at 8) ≡ None
    inside (Some v) e =
        let k : at + (one.place - at) ≡ one.place = omega (arith, one.from) in
        no_parts (cell_in c) v (at % 8) 8 at 7 e
        (stops (cell_in c) v 0 8 at 8 (one.place - at) (omega (arith, one.from, one.below)) (rw k (not_eight c v (0 + (one.place - at)) one.place (mark_at c.marks one.place) refl one.other)))
    inside None e =
        no_parts (cell_in c) (Num 0) (at % 8) 0 at 7 e (ends (cell_in c) (Num 0) 0 0 at 8 (λ k. absurd (omega (arith, k))))

    by_first : (m : Mark) → mark_at c.marks at ≡ m → whole_value (cells_from (cell_in c) at 8) ≡ None
    by_first mark.Byte e = byte_first (cell_in c) at 7 _ (marked c at mark.Byte e)
    by_first mark.Four e = part_first c (value_at c.fours (at / 4)) (at % 4) 4 at 7 (λ k. absurd (omega (arith, k))) (marked c at mark.Four e)
    by_first mark.Eight e = inside (value_at c.eights (at / 8)) (marked c at mark.Eight e)

pub not_whole_four : (c : RegionCells) (at : ℕ) → OneIsNot c.marks at 4 mark.Four → whole_value (cells_from (cell_in c) at 4) ≡ None
not_whole_four c at one = by_first (mark_at c.marks at) refl
  where
    inside : (o : Option Value) → cell_in c at ≡ part_of o (at % 4) 4 → whole_value (cells_from (cell_in c) at 4) ≡ None
    inside (Some v) e =
        let k : at + (one.place - at) ≡ one.place = omega (arith, one.from) in
        no_parts (cell_in c) v (at % 4) 4 at 3 e
        (stops (cell_in c) v 0 4 at 4 (one.place - at) (omega (arith, one.from, one.below)) (rw k (not_four c v (0 + (one.place - at)) one.place (mark_at c.marks one.place) refl one.other)))
    inside None e =
        no_parts (cell_in c) (Num 0) (at % 4) 0 at 3 e (ends (cell_in c) (Num 0) 0 0 at 4 (λ k. absurd (omega (arith, k))))

    by_first : (m : Mark) → mark_at c.marks at ≡ m → whole_value (cells_from (cell_in c) at 4) ≡ None
    by_first mark.Byte e = byte_first (cell_in c) at 3 _ (marked c at mark.Byte e)
    by_first mark.Eight e = part_first c (value_at c.eights (at / 8)) (at % 8) 8 at 3 (λ k. absurd (omega (arith, k))) (marked c at mark.Eight e)
    by_first mark.Four e = inside (value_at c.fours (at / 4)) (marked c at mark.Four e)

-- ---- the same where the region and the size are known by equations

module _ (v w : RegionCells) (same : v ≡ w) (size : Size) (at : ℕ) (marks : List Mark) (marks_are : marks ≡ v.marks) where
  moved : (n : ℕ) (r : Option Value) → size_bytes size ≡ n → r ≡ whole_value (cells_from (cell_in v) at n) → r ≡ whole_value (cells_from (cell_in w) at (size_bytes size))
  moved n r e h =
      subst (λ (x : RegionCells). r ≡ whole_value (cells_from (cell_in x) at (size_bytes size))) same
      (subst (λ (k : ℕ). r ≡ whole_value (cells_from (cell_in v) at k)) (sym e) h)

  pub is_eight : (r : Option Value) → size ≡ sizes.Quad → at % size_bytes size ≡ 0 → AllAre marks at 8 mark.Eight → r ≡ value_at v.eights (at / 8) → r ≡ whole_value (cells_from (cell_in w) at (size_bytes size))
  is_eight r e a all h =
      let n = ap size_bytes e in
      moved 8 r n (h ∙ sym (whole_eight v at (subst (λ (k : ℕ). at % k ≡ 0) n a) (subst (λ (x : List Mark). AllAre x at 8 mark.Eight) marks_are all)))

  pub is_four : (r : Option Value) → size ≡ sizes.Long → at % size_bytes size ≡ 0 → AllAre marks at 4 mark.Four → r ≡ value_at v.fours (at / 4) → r ≡ whole_value (cells_from (cell_in w) at (size_bytes size))
  is_four r e a all h =
      let n = ap size_bytes e in
      moved 4 r n (h ∙ sym (whole_four v at (subst (λ (k : ℕ). at % k ≡ 0) n a) (subst (λ (x : List Mark). AllAre x at 4 mark.Four) marks_are all)))

  pub no_eight : size ≡ sizes.Quad → OneIsNot marks at 8 mark.Eight → None ≡ whole_value (cells_from (cell_in w) at (size_bytes size))
  no_eight e one =
      moved 8 None (ap size_bytes e) (sym (not_whole_eight v at (subst (λ (x : List Mark). OneIsNot x at 8 mark.Eight) marks_are one)))

  pub no_four : size ≡ sizes.Long → OneIsNot marks at 4 mark.Four → None ≡ whole_value (cells_from (cell_in w) at (size_bytes size))
  no_four e one =
      moved 4 None (ap size_bytes e) (sym (not_whole_four v at (subst (λ (x : List Mark). OneIsNot x at 4 mark.Four) marks_are one)))
