-- Files that a store in memory begins with, of which the first of a name counts.
use Rattle.std.specs.Prelude.{ℕ, List, [], ◌∷◌, Option, Some, None, if◌then◌else◌, bytes_eq, string_bytes}
use Rattle.std.specs.declared.alloc.Global.{Global}
use Rattle.std.specs.declared.string.String.{String}

-- what the first entry of this name holds
abbrev pub first_entry : List (String Global × List ℕ) → List ℕ → Option (List ℕ)
first_entry [] wanted = None
first_entry (entry ∷ entries) wanted =
    if bytes_eq (string_bytes entry.0) wanted then Some entry.1 else first_entry entries wanted

-- the first, or else the second
abbrev pub or_else : Option (List ℕ) → Option (List ℕ) → Option (List ℕ)
or_else (Some bytes) other = Some bytes
or_else None other = other
