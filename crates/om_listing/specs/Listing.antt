-- The listing of an image: what became of each source word that is not as it was.
use Rattle.std.specs.Prelude.{ℕ, ◌+◌, ◌<◌, ◌==◌, if◌then◌else◌, List, [], ◌∷◌, ◌++◌, codes, decimal, length, take, drop, slice_index, count_by, sum_by}
use Rattle.om_io.specs.Digits.{hex}
use Rattle.om_image.specs.declared.image.Image.{Image}
use Rattle.om_image.specs.declared.map.MapObj.{MapObj}
use Rattle.om_image.specs.declared.map.MapWord.{MapWord}
use Rattle.om_image.specs.declared.map.Map.{Map}
use Rattle.om_image.specs.Written.{slot_count}
use Rattle.om_listing.specs.Texts.{word_text}

-- the lowest 32 bits in 8 hexadecimal digits
unfoldable pub word_digits : ℕ → List ℕ
word_digits n = hex 8 n

-- object, byte offset in its text, and old word
unfoldable pub line_start : ℕ → ℕ → ℕ → List ℕ
line_start object offset old = decimal object ++ codes " " ++ word_digits offset ++ codes " " ++ word_digits old ++ codes " "

-- the line of a word that is gone, with the old word's text
unfoldable pub gone_line : ℕ → ℕ → ℕ → List ℕ
gone_line object offset old = line_start object offset old ++ codes "gone " ++ word_text old ++ codes "\n"

-- the line of a word that another one stands for, with the new word's text
unfoldable pub changed_line : ℕ → ℕ → ℕ → ℕ → List ℕ
changed_line object offset old new =
    line_start object offset old ++ word_digits new ++ codes " " ++ word_text new ++ codes "\n"

-- the lines of a source word, over the words of the image: none where it is kept as it was
abbrev pub word_lines : List ℕ → ℕ → ℕ → MapWord → List ℕ
word_lines text object offset w =
    if w.kept
    then (if slice_index text w.position == w.old then [] else changed_line object offset w.old (slice_index text w.position))
    else gone_line object offset w.old

-- the position of a word is one of an image of so many words; that of a word that is gone may be the end
abbrev pub IsPlaced : ℕ → MapWord → Type 0
IsPlaced count w = w.position < (if w.kept then count else count + 1)

-- how many words objects have
abbrev pub word_count : List MapObj → ℕ
word_count os = sum_by (λ o. o.words) os

-- those of the words of an object from an offset on
abbrev pub lines_from : List ℕ → ℕ → ℕ → List MapWord → List ℕ
lines_from text object offset [] = []
lines_from text object offset (w ∷ ws) = word_lines text object offset w ++ lines_from text object (offset + 4) ws

-- those of objects from a number on, which have these words in order
abbrev pub object_lines : List ℕ → ℕ → List MapObj → List MapWord → List ℕ
object_lines text object [] ws = []
object_lines text object (o ∷ os) ws =
    lines_from text object 0 (take o.words ws) ++ object_lines text (object + 1) os (drop o.words ws)

-- a number behind its name
unfoldable pub count_text : List ℕ → ℕ → List ℕ
count_text name n = name ++ decimal n

-- how many source words, kept words, slots of all tables, and tables there are
unfoldable pub totals_line : ℕ → ℕ → ℕ → ℕ → List ℕ
totals_line words kept slots tables =
    count_text (codes "words ") words ++ count_text (codes " kept ") kept ++ count_text (codes " slots ") slots
    ++ count_text (codes " tables ") tables ++ codes "\n"

abbrev pub totals : Map → List ℕ
totals m = totals_line (length m.words) (count_by (λ w. w.kept) m.words) (slot_count m.tables) (length m.tables)

-- the listing
abbrev pub listing : Image → List ℕ
listing i = object_lines i.text 0 i.map.objects i.map.words ++ totals i.map
