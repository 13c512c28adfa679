-- Headers that were worked by hand, from a file of one text of three words.
use Rattle.std.specs.Prelude.{◌≡◌, ℕ, List, [], ◌∷◌, ◌++◌, refl}
use Rattle.byteorder.specs.Endian.{little_from}
use Rattle.om_fields.specs.Bytes.{zeros, word_bytes, words_at}
use Rattle.om_fields.specs.Headers.{file_header, optional_header, section_header, section_place}

-- magic 0183, one section, the symbolic header at c0 with its size of 144, an optional header of 80 bytes
object_header : file_header 1 0xc0 144
    ≡ 0x83 ∷ 0x01 ∷ 0x01 ∷ 0x00 ∷ 0 ∷ 0 ∷ 0 ∷ 0 ∷ 0xc0 ∷ 0 ∷ 0 ∷ 0 ∷ 0 ∷ 0 ∷ 0 ∷ 0 ∷ 0x90 ∷ 0 ∷ 0 ∷ 0 ∷ 0x50 ∷ 0 ∷ 0 ∷ 0 ∷ []
unfolding file_header
object_header = refl

-- the entry of an image is at 32, its GP value at 72
image_header : optional_header 0x120000000 0x140008000
    ≡ zeros 32 ++ (0 ∷ 0 ∷ 0 ∷ 0x20 ∷ 1 ∷ 0 ∷ 0 ∷ 0 ∷ []) ++ zeros 32 ++ (0 ∷ 0x80 ∷ 0 ∷ 0x40 ∷ 1 ∷ 0 ∷ 0 ∷ 0 ∷ [])
unfolding optional_header
image_header = refl

text_name : List ℕ
text_name = 0x2e ∷ 0x74 ∷ 0x65 ∷ 0x78 ∷ 0x74 ∷ 0 ∷ 0 ∷ 0 ∷ []

-- the section of three words, whose bytes stand at b0
text_header : section_header text_name 0 12 0xb0 0 0
    ≡ text_name ++ zeros 16 ++ (0x0c ∷ 0 ∷ 0 ∷ 0 ∷ 0 ∷ 0 ∷ 0 ∷ 0 ∷ []) ++ (0xb0 ∷ 0 ∷ 0 ∷ 0 ∷ 0 ∷ 0 ∷ 0 ∷ 0 ∷ []) ++ zeros 24
unfolding section_header section_place text_name
text_header = refl

-- the place and the number of the relocations
relocations_at : little_from 40 8 (section_header text_name 0 12 0xb0 0xc0 3) ≡ 0xc0
unfolding section_header section_place text_name
relocations_at = refl

relocations : little_from 56 2 (section_header text_name 0 12 0xb0 0xc0 3) ≡ 3
unfolding section_header section_place text_name
relocations = refl

-- `lda r0,1(r31)`, `lda r16,7(r31)`, `callsys`, behind two bytes
three_words : words_at 2 3 (0xff ∷ 0xff ∷ 0x01 ∷ 0x00 ∷ 0x1f ∷ 0x20 ∷ 0x07 ∷ 0x00 ∷ 0x1f ∷ 0x22 ∷ 0x83 ∷ 0x00 ∷ 0x00 ∷ 0x00 ∷ [])
    ≡ 0x201f0001 ∷ 0x221f0007 ∷ 0x00000083 ∷ []
three_words = refl

three_written : word_bytes (0x201f0001 ∷ 0x221f0007 ∷ 0x00000083 ∷ [])
    ≡ 0x01 ∷ 0x00 ∷ 0x1f ∷ 0x20 ∷ 0x07 ∷ 0x00 ∷ 0x1f ∷ 0x22 ∷ 0x83 ∷ 0x00 ∷ 0x00 ∷ 0x00 ∷ []
three_written = refl
