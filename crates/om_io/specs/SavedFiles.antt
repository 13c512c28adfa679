-- The files that were saved into a store in memory, and the room that is left for more.
use Rattle.std.specs.Prelude.{◌≤◌, ℕ, List, [], ◌∷◌, Option, Some, None, if◌then◌else◌, bytes_eq, take, drop}
use Rattle.om_io.specs.declared.places.Place.{Place}

-- files by name, the newest first, and how many bytes of names and of files may still be saved
pub record Kept : Type 0 where
  pub files : List (List ℕ × List ℕ)
  pub left : ℕ

-- what the first file of this name holds
abbrev pub first_of : List (List ℕ × List ℕ) → List ℕ → Option (List ℕ)
first_of [] wanted = None
first_of (file ∷ files) wanted = if bytes_eq file.0 wanted then Some file.1 else first_of files wanted

-- the name at a place
abbrev pub name_from : List ℕ → Place → List ℕ
name_from bytes place = drop place.name_at (take place.bytes_at bytes)

-- the bytes of the file at a place
abbrev pub bytes_from : List ℕ → Place → List ℕ
bytes_from bytes place = drop place.bytes_at (take place.end bytes)

-- the files at these places
abbrev pub files_at : List ℕ → List Place → List (List ℕ × List ℕ)
files_at bytes [] = []
files_at bytes (place ∷ places) = (name_from bytes place, bytes_from bytes place) ∷ files_at bytes places

-- no place reaches past this many bytes
abbrev pub AreWithin : ℕ → List Place → Type 0
AreWithin count [] = Unit {0}
AreWithin count (place ∷ places) =
    (place.name_at ≤ place.bytes_at) × (place.bytes_at ≤ place.end) × (place.end ≤ count) × AreWithin count places
