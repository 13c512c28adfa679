-- Words of a section on which external BRADDRs stand.
use Rattle.std.specs.Prelude.{◌≡◌, ℕ, ◌*◌, ◌/◌, ◌<◌, Bool, false, List, length, slice_index_or}
use Rattle.om_object.specs.declared.parts.Section.{Section}
use Rattle.om_object.specs.Rules.{is_bound}

-- one mark for each word, set where an external BRADDR stands on it
pub record AreMarked (s : Section) (marks : List Bool) : Type 0 where
  pub count : length marks ≡ length s.bytes / 4
  pub holds : (k : ℕ) → k < length marks → slice_index_or marks k false ≡ is_bound s (4 * k)
