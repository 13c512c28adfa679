-- Worked numbers as text, in decimal and in lower-case hexadecimal.
use Rattle.std.specs.Prelude.{◌≡◌, ◌-◌, ◌^◌, decimal, codes, refl}
use Rattle.std.specs.Fmt.{digits}
use Rattle.om_io.specs.Digits.{hex}

pub row_decimal_zero : decimal 0 ≡ codes "0"
unfolding digits
row_decimal_zero = refl

pub row_decimal_digits : decimal 1234567890 ≡ codes "1234567890"
unfolding digits
row_decimal_digits = refl

pub row_decimal_greatest : decimal (2 ^ 128 - 1) ≡ codes "340282366920938463463374607431768211455"
unfolding digits
row_decimal_greatest = refl

pub row_hex_zero : hex 1 0 ≡ codes "0"
row_hex_zero = refl

pub row_hex_digits : hex 16 0x0123456789abcdef ≡ codes "0123456789abcdef"
row_hex_digits = refl

pub row_hex_low_digits : hex 8 0x120000014 ≡ codes "20000014"
row_hex_low_digits = refl

pub row_hex_leading_zeros : hex 8 0x4 ≡ codes "00000004"
row_hex_leading_zeros = refl

pub row_hex_greatest : hex 16 (2 ^ 64 - 1) ≡ codes "ffffffffffffffff"
row_hex_greatest = refl
