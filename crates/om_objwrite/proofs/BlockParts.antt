-- Where the bytes of blocks stand in a file.
use Rattle.std.proofs.Common.{◌≡◌, ◌<◌, ◌≤◌, ◌+◌, ℕ, zero, suc, false, List, [], ◌∷◌, ◌++◌, length, refl, length-append, arith}
use Rattle.std.proofs.lemmas.List.{length-replicate}
use Rattle.std.proofs.lemmas.Bool.Decides.{nat_tests}
use Rattle.om_fields.specs.Bytes.{zeros}
use Rattle.om_fields.specs.Places.{is_past, bytes_at}
use Rattle.om_objwrite.specs.Written.{block_place, block_end, block_gap, block, blocks, blocks_end}
use Rattle.om_objwrite.proofs.Rounding.{rounded_above}
use Rattle.om_objwrite.proofs.Steps.{end_suc, place_suc, gap_suc}
use Rattle.om_objwrite.proofs.Standing.{IsAt, second_in, bytes_in, inside}

pub block_stands : {file : List ℕ} (to at : ℕ) (bytes : List ℕ) → 0 < to → 0 < length bytes → IsAt file (block to at bytes) at
    → IsAt file bytes (block_place to at (length bytes))
block_stands to at [] some long h = absurd (omega arith)
block_stands to at (b ∷ bs) some long h =
    let above = rounded_above at to some in
    let gap = gap_suc to at (length bs) in
    let place = place_suc to at (length bs) in
    let zeros_long = length-replicate {A = ℕ} (block_gap to at (length (b ∷ bs))) 0 in
    second_in (zeros (block_gap to at (length (b ∷ bs)))) (b ∷ bs) (block_place to at (length (b ∷ bs))) h (omega (arith, above, gap, place, zeros_long))

pub block_bytes : {file : List ℕ} (to at : ℕ) (bytes : List ℕ) → 0 < to → IsAt file (block to at bytes) at
    → bytes_at file (block_place to at (length bytes)) (length bytes) ≡ bytes
block_bytes to at [] some h = refl
block_bytes to at (b ∷ bs) some h = bytes_in (block_stands to at (b ∷ bs) some (omega arith) h)

pub past_none : (long at n : ℕ) → (0 < n → at + n ≤ long) → is_past long at n ≡ false
past_none long at n h = grind (arith, nat_tests)

-- a block lies in the file
pub block_inside : {file : List ℕ} (to at : ℕ) (bytes : List ℕ) → 0 < to → IsAt file (block to at bytes) at
    → is_past (length file) (block_place to at (length bytes)) (length bytes) ≡ false
block_inside {file} to at bytes some h =
    past_none (length file) (block_place to at (length bytes)) (length bytes) (λ long. inside (block_stands to at bytes some long h))

pub block_length : (to at : ℕ) (bytes : List ℕ) → 0 < to → at + length (block to at bytes) ≡ block_end to at (length bytes)
block_length to at [] some = omega arith
block_length to at (b ∷ bs) some =
    let above = rounded_above at to some in
    let gap = gap_suc to at (length bs) in
    let ends = end_suc to at (length bs) in
    let zeros_long = length-replicate {A = ℕ} (block_gap to at (length (b ∷ bs))) 0 in
    let both = length-append (zeros (block_gap to at (length (b ∷ bs)))) (b ∷ bs) in
    omega (arith, above, gap, ends, zeros_long, both)

pub blocks_length : (to at : ℕ) (bs : List (List ℕ)) → 0 < to → at + length (blocks to at bs) ≡ blocks_end to at bs
blocks_length to at [] some = omega arith
blocks_length to at (b ∷ bs) some =
    let e = block_length to at b some in
    let f = blocks_length to (block_end to at (length b)) bs some in
    let g = length-append (block to at b) (blocks to (block_end to at (length b)) bs) in
    let q : length (blocks to at (b ∷ bs)) ≡ length (block to at b ++ blocks to (block_end to at (length b)) bs) = refl in
    let s : blocks_end to at (b ∷ bs) ≡ blocks_end to (block_end to at (length b)) bs = refl in
    omega (arith, e, f, g, q, s)

pub place_below : (to at n : ℕ) → block_place to at n ≤ block_end to at n
place_below to at zero = omega arith
place_below to at (suc n) =
    let e = end_suc to at n in
    let f = place_suc to at n in
    omega (arith, e, f)
