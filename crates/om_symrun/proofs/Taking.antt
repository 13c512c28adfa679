-- Bytes that were taken, piece by piece.
use Rattle.std.proofs.Common.{◌≡◌, ◌≤◌, ℕ, ◌+◌, ◌-◌, Bool, true, false, cond, List, [], ◌++◌, length, take, drop, Option, Some, ap, sym, subst, ◌∙◌, arith, nat_le, nat_lt, ◌&&◌, if◌then◌else◌, length-append, length-drop, length-take}
use Rattle.std.specs.Prelude.{slice_index_or}
use Rattle.std.proofs.Math.Seq.{take-add, get_or-append_right}
use Rattle.std.proofs.Math.ListN.{get_or-append}
use Rattle.std.proofs.lemmas.List.{drop-drop, map-append, length-map}
use Rattle.std.proofs.lemmas.Bool.Decides.{nat_tests}
use Rattle.om_value.specs.declared.value.Region.{Region}
use Rattle.om_value.specs.Same.{region_eq}
use Rattle.om_prog.specs.Cells.{Cell, Byte, store_cells}
use Rattle.om_symrun.specs.RegionCells.{Regions}
use Rattle.om_symrun.specs.CellsIn.{byte_cells}
use Rattle.om_symrun.specs.Memory.{memory_cells, WritesRegion}
use Rattle.om_symrun.specs.Streams.{TakesFront}

stored_twice : (f : ℕ → Cell) (a : ℕ) (xs ys : List Cell) (y : ℕ) → store_cells (store_cells f a xs) (a + length xs) ys y ≡ store_cells f a (xs ++ ys) y
stored_twice f a xs ys y =
    let n = length-append xs ys in
    grind (arith, nat_tests, n, get_or-append, get_or-append_right)

-- cells that were written behind others
both_written : (m0 m1 m2 : Regions) (region : Region) (a : ℕ) (xs ys : List Cell) → WritesRegion m0 m1 region a xs → WritesRegion m1 m2 region (a + length xs) ys → WritesRegion m0 m2 region a (xs ++ ys)
both_written m0 m1 m2 region a xs ys one two =
    record { sizes = λ r. two.sizes r ∙ one.sizes r; places = λ r y. at_region r y (region_eq r region) (one.places r) (two.places r y) }
  where
    at_region :
        (r : Region) (y : ℕ) (b : Bool) → ((x : ℕ) → memory_cells m1 r x ≡ cond b (store_cells (memory_cells m0 r) a xs x) (memory_cells m0 r x)) →
        memory_cells m2 r y ≡ cond b (store_cells (memory_cells m1 r) (a + length xs) ys y) (memory_cells m1 r y) →
        memory_cells m2 r y ≡ cond b (store_cells (memory_cells m0 r) a (xs ++ ys) y) (memory_cells m0 r y)
    at_region r y true p q =
        q
        ∙ ap (λ old. if nat_le (a + length xs) y && nat_lt y ((a + length xs) + length ys) then slice_index_or ys (y - (a + length xs)) (Byte 0) else old) (p y)
        ∙ stored_twice (memory_cells m0 r) a xs ys y
    at_region r y false p q = q ∙ p y

-- one more piece
pub taken_more : (m0 m1 m2 : Regions) (region : Region) (a k j : ℕ) (xs : List ℕ) (l1 l2 : Option (List ℕ)) → TakesFront m0 m1 region a k xs l1 → TakesFront m1 m2 region (a + k) j (drop k xs) l2 → TakesFront m0 m2 region a (k + j) xs l2
taken_more m0 m1 m2 region a k j xs l1 l2 first next =
    let left = length-drop k xs in
    let size : length (take k xs) ≡ k = length-take k xs ∙ omega (arith, first.enough) in
    let cells : length (byte_cells (take k xs)) ≡ k = length-map (take k xs) (λ b. Byte b) ∙ size in
    let joined : byte_cells (take k xs) ++ byte_cells (take j (drop k xs)) ≡ byte_cells (take (k + j) xs) =
    sym (map-append (λ b. Byte b) (take k xs) (take j (drop k xs))) ∙ ap byte_cells (sym (take-add k j xs)) in
    let two : WritesRegion m1 m2 region (a + length (byte_cells (take k xs))) (byte_cells (take j (drop k xs))) =
    subst (λ (n : ℕ). WritesRegion m1 m2 region (a + n) (byte_cells (take j (drop k xs)))) (sym cells) next.writes in
    record {
      enough = omega (arith, first.enough, next.enough, left);
      rest = next.rest ∙ ap Some (drop-drop j k xs);
      writes = subst (λ (cs : List Cell). WritesRegion m0 m2 region a cs) joined (both_written m0 m1 m2 region a (byte_cells (take k xs)) (byte_cells (take j (drop k xs))) first.writes two);
    }

-- no more bytes are left
pub all_taken : (k : ℕ) (xs : List ℕ) → k ≤ length xs → drop k xs ≡ [] → k ≡ length xs
all_taken k xs few none =
    let left = length-drop k xs in
    let gone = ap length none in
    omega (arith, left, gone)
