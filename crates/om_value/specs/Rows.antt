-- Worked rows of the rules, and beside each a case that has no value.
use Rattle.std.specs.Prelude.{◌≡◌, ◌^◌, pos, negsuc, true, false, Some, None, refl}
use Rattle.om_alpha.specs.declared.op.Width.TheVariants.{Long, Quad}
use Rattle.om_alpha.specs.declared.op.Scale.TheVariants.{One, Four, Eight}
use Rattle.om_alpha.specs.declared.op.Cmp.TheVariants as cmp
use Rattle.om_alpha.specs.declared.op.Size.TheVariants as size
use Rattle.om_alpha.specs.declared.op.AluOp.TheVariants.{Add, Sub, And, Bis, Xor, Bic, Srl, Compare, Sextb, ExtLow, MskLow}
use Rattle.om_alpha.specs.declared.op.Cond.TheVariants as cond
use Rattle.om_value.specs.declared.value.Place.{Place}
use Rattle.om_value.specs.declared.value.Region.{Region}
use Rattle.om_value.specs.declared.value.Region.TheVariants.{Sec, Common, Stack, Heap}
use Rattle.om_value.specs.declared.value.Target.TheVariants as target
use Rattle.om_value.specs.declared.value.Value.TheVariants.{Num, Ptr, Code, Gp, Half, GpOff}
use Rattle.om_value.specs.Lift.{lifted, lifted_add, lifted_condition, on_numbers, moves_pointer, keeps_value, distance, compares, compares_pointers, above_small, low_bits, named_bytes, from_gp}

-- the place 4 of object 0, the section 3 of object 0
abbrev pub four : Place
four = record { obj = 0; off = 4 }

abbrev pub some_data : Region
some_data = Sec 0 3

-- numbers, and a sign extension of a number beside any value
pub row_numbers : lifted (Add One Quad) (Num 0xffffffffffffffff) 0 (Num 2) 0 ≡ Some (Num 1)
unfolding lifted on_numbers moves_pointer keeps_value distance compares compares_pointers above_small low_bits named_bytes from_gp
row_numbers = refl

pub row_sextb : lifted Sextb (Gp 0) 0 (Num 0x180) 0 ≡ Some (Num 0xffffffffffffff80)
unfolding lifted on_numbers moves_pointer keeps_value distance compares compares_pointers above_small low_bits named_bytes from_gp
row_sextb = refl

pub row_sextb_of_pointer : lifted Sextb (Num 0) 0 (Ptr Stack 0) 16 ≡ None
unfolding lifted on_numbers moves_pointer keeps_value distance compares compares_pointers above_small low_bits named_bytes from_gp
row_sextb_of_pointer = refl

-- a pointer plus a number
pub row_pointer_plus : lifted (Add One Quad) (Ptr Stack 8) 16 (Num 0xfffffffffffffff0) 0 ≡ Some (Ptr Stack 0xfffffffffffffff8)
unfolding lifted on_numbers moves_pointer keeps_value distance compares compares_pointers above_small low_bits named_bytes from_gp
row_pointer_plus = refl

pub row_plus_pointer : lifted (Add One Quad) (Num 5) 0 (Ptr Heap 8) 16 ≡ Some (Ptr Heap 13)
unfolding lifted on_numbers moves_pointer keeps_value distance compares compares_pointers above_small low_bits named_bytes from_gp
row_plus_pointer = refl

pub row_pointer_minus : lifted (Sub One Quad) (Ptr Stack 8) 16 (Num 3) 0 ≡ Some (Ptr Stack 5)
unfolding lifted on_numbers moves_pointer keeps_value distance compares compares_pointers above_small low_bits named_bytes from_gp
row_pointer_minus = refl

pub row_minus_pointer : lifted (Sub One Quad) (Num 3) 0 (Ptr Stack 8) 16 ≡ None
unfolding lifted on_numbers moves_pointer keeps_value distance compares compares_pointers above_small low_bits named_bytes from_gp
row_minus_pointer = refl

pub row_scaled : lifted (Add Eight Quad) (Num 3) 0 (Ptr some_data 1) 16 ≡ Some (Ptr some_data 25)
unfolding lifted on_numbers moves_pointer keeps_value distance compares compares_pointers above_small low_bits named_bytes from_gp
row_scaled = refl

pub row_scaled_pointer : lifted (Add Four Quad) (Ptr some_data 1) 16 (Num 3) 0 ≡ None
unfolding lifted on_numbers moves_pointer keeps_value distance compares compares_pointers above_small low_bits named_bytes from_gp
row_scaled_pointer = refl

pub row_long : lifted (Add One Long) (Ptr some_data 1) 16 (Num 3) 0 ≡ None
unfolding lifted on_numbers moves_pointer keeps_value distance compares compares_pointers above_small low_bits named_bytes from_gp
row_long = refl

pub row_lda : lifted_add (Ptr Stack 8) (negsuc 8) ≡ Some (Ptr Stack 0xffffffffffffffff)
unfolding lifted_add lifted on_numbers moves_pointer keeps_value distance compares compares_pointers above_small low_bits named_bytes from_gp
row_lda = refl

pub row_lda_of_code : lifted_add (Code four) (pos 4) ≡ None
unfolding lifted_add lifted on_numbers moves_pointer keeps_value distance compares compares_pointers above_small low_bits named_bytes from_gp
row_lda_of_code = refl

pub row_lda_of_code_by_0 : lifted_add (Code four) (pos 0) ≡ Some (Code four)
unfolding lifted_add lifted on_numbers moves_pointer keeps_value distance compares compares_pointers above_small low_bits named_bytes from_gp
row_lda_of_code_by_0 = refl

-- a value with 0, or with itself
pub row_or_0 : lifted Bis (Num 0) 0 (Gp 1) 0 ≡ Some (Gp 1)
unfolding lifted on_numbers moves_pointer keeps_value distance compares compares_pointers above_small low_bits named_bytes from_gp
row_or_0 = refl

pub row_minus_0 : lifted (Sub One Quad) (Half four) 0 (Num 0) 0 ≡ Some (Half four)
unfolding lifted on_numbers moves_pointer keeps_value distance compares compares_pointers above_small low_bits named_bytes from_gp
row_minus_0 = refl

pub row_0_minus : lifted (Sub One Quad) (Num 0) 0 (Half four) 0 ≡ None
unfolding lifted on_numbers moves_pointer keeps_value distance compares compares_pointers above_small low_bits named_bytes from_gp
row_0_minus = refl

pub row_xor_1 : lifted Xor (Half four) 0 (Num 1) 0 ≡ None
unfolding lifted on_numbers moves_pointer keeps_value distance compares compares_pointers above_small low_bits named_bytes from_gp
row_xor_1 = refl

pub row_and_itself : lifted And (Ptr Heap 24) 16 (Ptr Heap 24) 16 ≡ Some (Ptr Heap 24)
unfolding lifted on_numbers moves_pointer keeps_value distance compares compares_pointers above_small low_bits named_bytes from_gp
row_and_itself = refl

pub row_and_other : lifted And (Ptr Heap 24) 16 (Ptr Heap 25) 16 ≡ None
unfolding lifted on_numbers moves_pointer keeps_value distance compares compares_pointers above_small low_bits named_bytes from_gp
row_and_other = refl

pub row_xor_itself : lifted Xor (Code four) 0 (Code four) 0 ≡ None
unfolding lifted on_numbers moves_pointer keeps_value distance compares compares_pointers above_small low_bits named_bytes from_gp
row_xor_itself = refl

-- the distance of two pointers
pub row_distance : lifted (Sub One Quad) (Ptr Stack 8) 16 (Ptr Stack 24) 16 ≡ Some (Num 0xfffffffffffffff0)
unfolding lifted on_numbers moves_pointer keeps_value distance compares compares_pointers above_small low_bits named_bytes from_gp
row_distance = refl

pub row_distance_of_regions : lifted (Sub One Quad) (Ptr Stack 8) 16 (Ptr Heap 8) 16 ≡ None
unfolding lifted on_numbers moves_pointer keeps_value distance compares compares_pointers above_small low_bits named_bytes from_gp
row_distance_of_regions = refl

-- comparisons
pub row_equal_outside : lifted (Compare cmp.Eq) (Ptr Stack 17) 16 (Ptr Stack 17) 16 ≡ Some (Num 1)
unfolding lifted on_numbers moves_pointer keeps_value distance compares compares_pointers above_small low_bits named_bytes from_gp
row_equal_outside = refl

pub row_less_at_end : lifted (Compare cmp.Ult) (Ptr Stack 0) 16 (Ptr Stack 16) 16 ≡ Some (Num 1)
unfolding lifted on_numbers moves_pointer keeps_value distance compares compares_pointers above_small low_bits named_bytes from_gp
row_less_at_end = refl

pub row_less_past_end : lifted (Compare cmp.Ult) (Ptr Stack 0) 16 (Ptr Stack 17) 16 ≡ None
unfolding lifted on_numbers moves_pointer keeps_value distance compares compares_pointers above_small low_bits named_bytes from_gp
row_less_past_end = refl

pub row_signed_by_offsets : lifted (Compare cmp.Lt) (Ptr Stack (2 ^ 63)) (2 ^ 63) (Ptr Stack 0) (2 ^ 63) ≡ Some (Num 0)
unfolding lifted on_numbers moves_pointer keeps_value distance compares compares_pointers above_small low_bits named_bytes from_gp
row_signed_by_offsets = refl

pub row_two_regions : lifted (Compare cmp.Eq) (Ptr Stack 15) 16 (Ptr (Common 0) 0) 8 ≡ Some (Num 0)
unfolding lifted on_numbers moves_pointer keeps_value distance compares compares_pointers above_small low_bits named_bytes from_gp
row_two_regions = refl

pub row_two_regions_at_end : lifted (Compare cmp.Eq) (Ptr Stack 16) 16 (Ptr (Common 0) 0) 8 ≡ None
unfolding lifted on_numbers moves_pointer keeps_value distance compares compares_pointers above_small low_bits named_bytes from_gp
row_two_regions_at_end = refl

pub row_two_regions_less : lifted (Compare cmp.Ule) (Ptr Stack 0) 16 (Ptr (Common 0) 0) 8 ≡ None
unfolding lifted on_numbers moves_pointer keeps_value distance compares compares_pointers above_small low_bits named_bytes from_gp
row_two_regions_less = refl

pub row_equal_codes : lifted (Compare cmp.Eq) (Code four) 0 (Code four) 0 ≡ Some (Num 1)
unfolding lifted on_numbers moves_pointer keeps_value distance compares compares_pointers above_small low_bits named_bytes from_gp
row_equal_codes = refl

pub row_other_codes : lifted (Compare cmp.Eq) (Code four) 0 (Code (record { obj = 0; off = 8 })) 0 ≡ None
unfolding lifted on_numbers moves_pointer keeps_value distance compares compares_pointers above_small low_bits named_bytes from_gp
row_other_codes = refl

-- a small number is below
pub row_small : lifted (Compare cmp.Lt) (Num 0xffff) 0 (Code four) 0 ≡ Some (Num 1)
unfolding lifted on_numbers moves_pointer keeps_value distance compares compares_pointers above_small low_bits named_bytes from_gp
row_small = refl

pub row_no_small : lifted (Compare cmp.Lt) (Num 0x10000) 0 (Code four) 0 ≡ None
unfolding lifted on_numbers moves_pointer keeps_value distance compares compares_pointers above_small low_bits named_bytes from_gp
row_no_small = refl

pub row_small_second : lifted (Compare cmp.Le) (Ptr Stack 16) 16 (Num 0) 0 ≡ Some (Num 0)
unfolding lifted on_numbers moves_pointer keeps_value distance compares compares_pointers above_small low_bits named_bytes from_gp
row_small_second = refl

pub row_small_equal : lifted (Compare cmp.Eq) (Num 0) 0 (Ptr Stack 16) 16 ≡ Some (Num 0)
unfolding lifted on_numbers moves_pointer keeps_value distance compares compares_pointers above_small low_bits named_bytes from_gp
row_small_equal = refl

pub row_small_past_end : lifted (Compare cmp.Eq) (Num 0) 0 (Ptr Stack 17) 16 ≡ None
unfolding lifted on_numbers moves_pointer keeps_value distance compares compares_pointers above_small low_bits named_bytes from_gp
row_small_past_end = refl

pub row_small_gp : lifted (Compare cmp.Eq) (Num 0) 0 (Gp 0) 0 ≡ None
unfolding lifted on_numbers moves_pointer keeps_value distance compares compares_pointers above_small low_bits named_bytes from_gp
row_small_gp = refl

-- conditions
pub row_positive : lifted_condition cond.Gt (Ptr Stack 16) 16 ≡ Some true
unfolding lifted_condition
row_positive = refl

pub row_not_zero : lifted_condition cond.Eq (Code four) 0 ≡ Some false
unfolding lifted_condition
row_not_zero = refl

pub row_low_bit : lifted_condition cond.Lbs (Ptr Stack 3) 16 ≡ Some true
unfolding lifted_condition
row_low_bit = refl

pub row_past_end : lifted_condition cond.Ne (Ptr Stack 17) 16 ≡ None
unfolding lifted_condition
row_past_end = refl

pub row_half : lifted_condition cond.Ne (Half four) 0 ≡ None
unfolding lifted_condition
row_half = refl

pub row_number : lifted_condition cond.Lt (Num 0x8000000000000000) 0 ≡ Some true
unfolding lifted_condition
row_number = refl

-- the low four bits
pub row_and_15 : lifted And (Ptr Stack 0x2b) 64 (Num 15) 0 ≡ Some (Num 0xb)
unfolding lifted on_numbers moves_pointer keeps_value distance compares compares_pointers above_small low_bits named_bytes from_gp
row_and_15 = refl

pub row_15_and : lifted And (Num 3) 0 (Ptr Stack 0x2b) 64 ≡ Some (Num 3)
unfolding lifted on_numbers moves_pointer keeps_value distance compares compares_pointers above_small low_bits named_bytes from_gp
row_15_and = refl

pub row_and_16 : lifted And (Ptr Stack 0x2b) 64 (Num 16) 0 ≡ None
unfolding lifted on_numbers moves_pointer keeps_value distance compares compares_pointers above_small low_bits named_bytes from_gp
row_and_16 = refl

pub row_bic_7 : lifted Bic (Ptr Stack 0x2b) 64 (Num 7) 0 ≡ Some (Ptr Stack 0x28)
unfolding lifted on_numbers moves_pointer keeps_value distance compares compares_pointers above_small low_bits named_bytes from_gp
row_bic_7 = refl

pub row_bic_by_pointer : lifted Bic (Num 7) 0 (Ptr Stack 0x2b) 64 ≡ None
unfolding lifted on_numbers moves_pointer keeps_value distance compares compares_pointers above_small low_bits named_bytes from_gp
row_bic_by_pointer = refl

-- bytes that a pointer names
pub row_extbl : lifted (ExtLow size.Byte) (Num 0x8182838485868788) 0 (Ptr Stack 0x2b) 64 ≡ Some (Num 0x85)
unfolding lifted on_numbers moves_pointer keeps_value distance compares compares_pointers above_small low_bits named_bytes from_gp
row_extbl = refl

pub row_mskwl : lifted (MskLow size.Word) (Num 0x8182838485868788) 0 (Ptr Stack 7) 64 ≡ Some (Num 0x0082838485868788)
unfolding lifted on_numbers moves_pointer keeps_value distance compares compares_pointers above_small low_bits named_bytes from_gp
row_mskwl = refl

pub row_ext_of_pointer : lifted (ExtLow size.Byte) (Ptr Stack 0x2b) 64 (Num 3) 0 ≡ None
unfolding lifted on_numbers moves_pointer keeps_value distance compares compares_pointers above_small low_bits named_bytes from_gp
row_ext_of_pointer = refl

pub row_shift_by_pointer : lifted Srl (Num 1) 0 (Ptr Stack 1) 64 ≡ None
unfolding lifted on_numbers moves_pointer keeps_value distance compares compares_pointers above_small low_bits named_bytes from_gp
row_shift_by_pointer = refl

-- a global pointer and a distance from it
pub row_from_gp : lifted (Add One Quad) (GpOff 1 (target.Code four)) 0 (Gp 1) 0 ≡ Some (Code four)
unfolding lifted on_numbers moves_pointer keeps_value distance compares compares_pointers above_small low_bits named_bytes from_gp
row_from_gp = refl

pub row_from_other_gp : lifted (Add One Quad) (Gp 0) 0 (GpOff 1 (target.Code four)) 0 ≡ None
unfolding lifted on_numbers moves_pointer keeps_value distance compares compares_pointers above_small low_bits named_bytes from_gp
row_from_other_gp = refl
