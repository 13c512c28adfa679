-- The counts of a store.
use Rattle.std.specs.Prelude.{◌≡◌, ℕ, List, Option, None, option_map}
use Rattle.om_io.specs.declared.counts.Counts.{Counts}

-- the name of the last load that failed
abbrev pub last_failed_in : Counts → Option (List ℕ)
last_failed_in counts = option_map (λ name. name.items) counts.last_failed

-- nothing was asked for, and nothing failed
pub record IsFresh (counts : Counts) : Type 0 where
  pub loads : counts.loads ≡ 0
  pub saves : counts.saves ≡ 0
  pub failed_loads : counts.failed_loads ≡ 0
  pub failed_saves : counts.failed_saves ≡ 0
  pub last_failed : last_failed_in counts ≡ None
