-- Where spots of parts stand in a file.
use Rattle.std.specs.Prelude.{ℕ, ◌+◌, ◌*◌, List, [], ◌∷◌, slice_index_or, map, Option, Some, None}
use Rattle.om_fields.specs.Places.{least}
use Rattle.om_object.specs.declared.parts.Parts.{Parts}
use Rattle.om_object.specs.declared.origin.Origin.{Origin}
use Rattle.om_object.specs.declared.origin.Origins.{Origins}
use Rattle.om_object.specs.Rules.{Spot, AtSection, AtSymbol, AtReloc, AtWord, PartRule}

abbrev pub no_origin : Origin
no_origin = record { head = 0; bytes = 0; relocs = 0 }

abbrev pub origin_at : Origins → ℕ → Origin
origin_at o a = slice_index_or o.sections a no_origin

abbrev pub place_of : Origins → Spot → ℕ
place_of o (AtSection a) = (origin_at o a).head
place_of o (AtSymbol j) = o.symbols + 24 * j
place_of o (AtReloc a i) = (origin_at o a).relocs + 16 * i
place_of o (AtWord a off) = (origin_at o a).bytes + off

abbrev pub places_of : Origins → List Spot → List ℕ
places_of o spots = map (place_of o) spots

-- the first rule on parts that is broken, with the least of its places
abbrev pub first_spot : List PartRule → Parts → Origins → Option (ℕ × ℕ)
first_spot [] p o = None
first_spot (r ∷ rs) p o =
    elim (least (places_of o (r.1 p))) as (λ _. Option (ℕ × ℕ)) [
      | None ↦ first_spot rs p o
      | Some at ↦ Some (r.0, at)
    ]
