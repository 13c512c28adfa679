-- Section headers: their places rise, and they stand in order.
use Rattle.std.proofs.Common.{◌≡◌, ℕ, ◌+◌, List, [], ◌∷◌, ◌++◌, arith}
use Rattle.om_fields.specs.Places.{each}
use Rattle.om_fields.proofs.Picked.{Rises}
use Rattle.om_fields.proofs.Each.{each-snoc}
use Rattle.om_fields.specs.HeaderFields.{header_at, head_of}

pub headers-rise : Rises header_at
headers-rise i j h = omega arith

pub heads_snoc : (file : List ℕ) (n : ℕ) → each (head_of file) (n + 1) ≡ each (head_of file) n ++ head_of file n ∷ []
heads_snoc file n = each-snoc (head_of file) n
