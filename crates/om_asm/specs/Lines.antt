-- The lines of a text, as they are spelled. A line is wrong by grammar where it has none of these spellings.
use Rattle.std.specs.Prelude.{◌≡◌, ℕ, Bool, true, ◌&&◌, ◌||◌, ◌==◌, List, [], ◌++◌, map, flat_map, codes, Option, Some, None}
use Rattle.std.specs.List.{list_all, slice_split}
use Rattle.om_asm.specs.Names.{Name, is_name}
use Rattle.om_asm.specs.Statements.{Statement, statement_text, is_statement}

abbrev pub is_blank : ℕ → Bool
is_blank c = (c == 32) || (c == 9)

-- a label with the blanks before it
pub record Label : Type 0 where
  pub blanks : List ℕ
  pub name : Name

pub record Line : Type 0 where
  pub labels : List Label
  pub before : List ℕ
  pub statement : Option Statement
  pub behind : List ℕ
  -- bytes behind `;`
  pub comment : Option (List ℕ)

abbrev pub label_text : Label → List ℕ
label_text l = l.blanks ++ l.name ++ codes ":"

abbrev pub body_text : Option Statement → List ℕ
body_text None = []
body_text (Some s) = statement_text s

abbrev pub comment_text : Option (List ℕ) → List ℕ
comment_text None = []
comment_text (Some cs) = codes ";" ++ cs

abbrev pub line_text : Line → List ℕ
line_text l = flat_map label_text l.labels ++ l.before ++ body_text l.statement ++ l.behind ++ comment_text l.comment

abbrev pub is_label : Label → Bool
is_label l = list_all is_blank l.blanks && is_name l.name

abbrev pub is_body : Option Statement → Bool
is_body None = true
is_body (Some s) = is_statement s

abbrev pub is_line : Line → Bool
is_line l = list_all is_label l.labels && (list_all is_blank l.before && (is_body l.statement && list_all is_blank l.behind))

-- a line's bytes have this meaning: labels and a statement
pub record Says (text : List ℕ) (labels : List Name) (statement : Option Statement) : Type 0 where
  pub line : Line
  pub formed : is_line line ≡ true
  pub spelled : line_text line ≡ text
  pub labels_are : labels ≡ map (λ l. l.name) line.labels
  pub statement_is : statement ≡ line.statement

-- the lines of a text: the bytes between newlines; behind the last newline there may be one more
abbrev pub lines_of : List ℕ → List (List ℕ)
lines_of text = slice_split (λ c. c == 10) text

-- ---- the meaning of a line

-- its labels and its statement; none where it is wrong by grammar
abbrev pub Meaning : Type 0
Meaning = Option (List Name × Option Statement)

abbrev pub Means : List ℕ → Meaning → Type 0
Means text (Some m) = Says text m.0 m.1
Means text None = (labels : List Name) (statement : Option Statement) → Says text labels statement → ⊥
