-- Worked rows of ranges in a file, of sections that lie in each other's way, and of their names.
use Rattle.std.specs.Prelude.{◌≡◌, ℕ, zero, suc, ◌+◌, ◌-◌, ◌^◌, true, false, List, [], ◌∷◌, codes, Some, None, refl}
use Rattle.om_fields.specs.Places.{is_past, picked}
use Rattle.om_fields.specs.Rules.{Rule, first_fault}
use Rattle.om_fields.specs.Sections.{padded, number_of_name, is_passed_over}
use Rattle.om_fields.specs.declared.extents.Extent.{Extent}
use Rattle.om_fields.specs.Extents.{shares, collide, ends_late, is_misplaced}

-- the last bytes of a file of 100, one byte more, an empty range far behind the end
pub row_to_the_end : is_past 100 96 4 ≡ false
row_to_the_end = refl

pub row_past_the_end : is_past 100 96 5 ≡ true
row_past_the_end = refl

pub row_empty_behind : is_past 100 (2 ^ 64 - 1) 0 ≡ false
row_empty_behind = refl

-- ranges that touch, that overlap by one address, one inside another, an empty one inside another
pub row_touching : shares 0 16 16 16 ≡ false
row_touching = refl

pub row_overlapping : shares 0 17 16 16 ≡ true
row_overlapping = refl

pub row_inside : shares 8 4 0 32 ≡ true
row_inside = refl

pub row_empty_inside : shares 8 0 0 32 ≡ false
row_empty_inside = refl

abbrev loaded : ℕ → ℕ → ℕ → Extent
loaded number addr size = record { number = Some number; addr = addr; size = size }

abbrev other : ℕ → ℕ → Extent
other addr size = record { number = None; addr = addr; size = size }

-- an end at 2 ^ 63, one past it, an empty section behind it, and one that is not loaded
pub row_end : ends_late (loaded 3 (2 ^ 63 - 16) 16) ≡ false
row_end = refl

pub row_late_end : ends_late (loaded 3 (2 ^ 63 - 16) 17) ≡ true
row_late_end = refl

pub row_empty_late : ends_late (loaded 6 (2 ^ 63 + 16) 0) ≡ true
row_empty_late = refl

pub row_other_late : ends_late (other (2 ^ 63) 16) ≡ false
row_other_late = refl

-- a number twice, also where both are empty; and a section that is not loaded, on one that is
pub row_number_twice : collide (loaded 3 0 0) (loaded 3 64 0) ≡ true
row_number_twice = refl

pub row_not_loaded : collide (loaded 3 0 16) (other 0 16) ≡ false
row_not_loaded = refl

-- the later of two is misplaced
abbrev two : ℕ → Extent
two zero = loaded 2 0 17
two (suc k) = loaded 3 16 16

pub row_later : picked (is_misplaced two) (λ k. 104 + k) 2 ≡ 105 ∷ []
row_later = refl

-- names that fill their 8 bytes or not, and one that only begins like a loaded section's
pub row_name : number_of_name (padded (codes ".rconst")) ≡ Some 15
unfolding number_of_name
row_name = refl

pub row_other_name : number_of_name (padded (codes ".text2")) ≡ None
unfolding number_of_name
row_other_name = refl

pub row_passed : is_passed_over (codes ".comment") ≡ true
unfolding is_passed_over
row_passed = refl

-- of two rules the first that has places, and of its places the least
abbrev rules : List (Rule (List ℕ))
rules = (2, λ file. []) ∷ (5, λ file. 9 ∷ 4 ∷ 7 ∷ []) ∷ (8, λ file. 1 ∷ []) ∷ []

pub row_least : first_fault rules [] ≡ Some (5, 4)
row_least = refl
