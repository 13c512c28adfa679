-- Where words stand.
use Rattle.std.proofs.Common.{◌≡◌, ◌<◌, ◌+◌, ℕ, true, subst}
use Rattle.std.specs.Prelude.{if◌then◌else◌}
use Rattle.om_image.specs.declared.map.MapWord.{MapWord}
use Rattle.om_listing.specs.Listing.{IsPlaced}

-- a word that is kept stands in the text
pub kept_place : (count : ℕ) (w : MapWord) → IsPlaced count w → w.kept ≡ true → w.position < count
kept_place count w placed kept = subst (λ b. w.position < (if b then count else count + 1)) kept placed
