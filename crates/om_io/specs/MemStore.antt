-- What a store in memory is seen as.
use Rattle.std.specs.Prelude.{ℕ, List, Option}
use Rattle.om_io.specs.declared.memory_store.MemStore.{MemStore}
use Rattle.om_io.specs.declared.schedule.Schedule.{Schedule}
use Rattle.om_io.specs.declared.counts.Counts.{Counts}
use Rattle.om_io.specs.Files.{first_entry, or_else}
use Rattle.om_io.specs.SavedFiles.{Kept, first_of}

-- what was saved, and the room that is left for saves
abbrev pub kept_in : MemStore → Kept
kept_in s = s.saves

-- what a file holds: what was saved last under its name, or else what the store began with
abbrev pub file_of : MemStore → List ℕ → Option (List ℕ)
file_of s name = or_else (first_of s.saves.files name) (first_entry s.files.items name)

-- the calls so far, and those that are to fail
abbrev pub schedule_of : MemStore → Schedule
schedule_of s = s.schedule

-- what was asked for, and what failed
abbrev pub counts_of : MemStore → Counts
counts_of s = s.counts
