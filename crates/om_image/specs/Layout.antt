-- Where the parts of an image lie in memory (this project's own profile of the ECOFF object format).
use Rattle.std.specs.Prelude.{ℕ}

-- where the text begins
abbrev pub text_base : ℕ
text_base = 0x120000000

-- where the data begins
abbrev pub data_base : ℕ
data_base = 0x140000000

-- the most bytes of a text, and of the data with the zeros behind it
abbrev pub text_limit : ℕ
text_limit = 16777216

abbrev pub data_limit : ℕ
data_limit = 67108864
