-- A file that is kept behind others leaves them as they were.
use Rattle.std.proofs.Common.{◌≡◌, ◌≤◌, ◌+◌, ℕ, suc, List, [], ◌∷◌, ◌++◌, length, refl, sym, ap, arith, append_assoc, length-append}
use Rattle.std.proofs.lemmas.List.{take-append-le, take_all, take_at, drop_at}
use Rattle.om_io.specs.declared.places.Place.{Place}
use Rattle.om_io.specs.SavedFiles.{AreWithin, files_at}

pub length-files_at : (bytes : List ℕ) (places : List Place) → length (files_at bytes places) ≡ length places
length-files_at bytes [] = refl
length-files_at bytes (place ∷ places) = ap suc (length-files_at bytes places)

-- bytes behind all the places change no file
files_at-append : (bytes more : List ℕ) (places : List Place) → AreWithin (length bytes) places →
    files_at (bytes ++ more) places ≡ files_at bytes places
files_at-append bytes more [] within = refl
files_at-append bytes more (place ∷ places) within =
    rw (
      take-append-le place.bytes_at bytes more (omega (arith, within.1, within.2)),
      take-append-le place.end bytes more within.2,
      files_at-append bytes more places within.3,
    ) refl

-- places within some bytes are within more
AreWithin-more : (count all : ℕ) (places : List Place) → count ≤ all → AreWithin count places → AreWithin all places
AreWithin-more count all [] more within = tt
AreWithin-more count all (place ∷ places) more within =
    (within.0, within.1, omega (arith, within.2, more), AreWithin-more count all places more within.3)

pub files_more : (kept name bytes : List ℕ) (places : List Place) (place : Place) →
    place.name_at ≡ length kept → place.bytes_at ≡ length kept + length name →
    place.end ≡ length kept + (length name + length bytes) → AreWithin (length kept) places →
    files_at ((kept ++ name) ++ bytes) (place ∷ places) ≡ (name, bytes) ∷ files_at kept places
files_more kept name bytes places place from to end within =
    let named : length (kept ++ name) ≡ place.bytes_at = simp (length-append kept name) (sym to) in
    let whole : length ((kept ++ name) ++ bytes) ≤ place.end =
    simp (length-append (kept ++ name) bytes, length-append kept name) (omega (arith, end)) in
    let others : files_at ((kept ++ name) ++ bytes) places ≡ files_at kept places =
    rw (append_assoc kept name bytes) (files_at-append kept (name ++ bytes) places within) in
    rw (
      take_at (kept ++ name) bytes place.bytes_at named,
      drop_at kept name place.name_at (sym from),
      take_all place.end ((kept ++ name) ++ bytes) whole,
      drop_at (kept ++ name) bytes place.bytes_at named,
      others,
    ) refl

pub within_more : (count all : ℕ) (places : List Place) (place : Place) →
    place.name_at ≤ place.bytes_at → place.bytes_at ≤ place.end → place.end ≡ all → count ≤ all →
    AreWithin count places → AreWithin all (place ∷ places)
within_more count all places place name bytes end more within =
    (name, bytes, omega (arith, end), AreWithin-more count all places more within)
