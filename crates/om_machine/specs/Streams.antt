-- What is moved from a source to memory, and what is known of a sink.
use Rattle.std.specs.Prelude.{◌≡◌, ◌≤◌, ◌<◌, ◌++◌, ◌⊎◌, ℕ, List, [], length, take, drop, Bool, true, false, Option, Some, None, Result, Ok, Err}
use Rattle.om_io.specs.Outside.{IsFrontOf}
use Rattle.om_image.specs.NumAccess.{written}
use Rattle.om_machine.specs.Mapped.{Mapped}
use Rattle.om_machine.specs.Memory.{memory_of}

-- what a sink that tells had told before the run, and what it told last; the first is none where nothing is said of it
abbrev pub Told : Type 0
Told = Option (List ℕ) × Option (List ℕ)

-- a sink has told this text behind what it had told before
abbrev pub TellsText : Option (List ℕ) → Option (List ℕ) → List ℕ → Type 0
TellsText (Some before) told text = told ≡ Some (before ++ text)
TellsText None told text = Unit {0}

abbrev pub Tells : Told → List ℕ → Type 0
Tells sink text = TellsText sink.0 sink.1 text

-- the first so many bytes of what was left went to an address, and what follows them is left
pub record TakesFront (old new : Mapped) (address count : ℕ) (bytes : List ℕ) (left : Option (List ℕ)) : Type 0 where
  pub enough : count ≤ length bytes
  pub rest : left ≡ Some (drop count bytes)
  pub places : (a : ℕ) → memory_of new a ≡ written (memory_of old) (address, take count bytes) a

-- a read of at most so many bytes took them all, or all that were left; or it failed, with fewer
abbrev pub Takes : {E : Type 0} → Mapped → Mapped → ℕ → ℕ → List ℕ → Option (List ℕ) → Result ℕ E → Type 0
Takes old new address count bytes left (Ok taken) =
    TakesFront old new address taken bytes left × ((taken ≡ count) ⊎ ((taken ≤ count) × (taken ≡ length bytes)))
Takes old new address count bytes left (Err e) =
    (taken : ℕ) × (taken < count) × TakesFront old new address taken bytes left

-- bytes were put, or a front of them where a put failed
abbrev pub Puts : List ℕ → Option (List ℕ) → List ℕ → Bool → Type 0
Puts old now bytes true = now ≡ Some (old ++ bytes)
Puts old now bytes false = (front : List ℕ) × IsFrontOf front bytes × (now ≡ Some (old ++ front))

-- one piece: it is empty only where nothing was left
abbrev pub TakesPiece : {E : Type 0} → Mapped → Mapped → ℕ → List ℕ → Option (List ℕ) → Result ℕ E → Type 0
TakesPiece old new address bytes left (Ok taken) =
    TakesFront old new address taken bytes left × (taken ≡ 0 → bytes ≡ [])
TakesPiece old new address bytes left (Err e) = (new ≡ old) × (left ≡ Some bytes)
