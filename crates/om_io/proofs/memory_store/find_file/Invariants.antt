use Rattle.std.proofs.Common.{◌≡◌, drop}
use Rattle.om_io.specs.Files.{first_entry}
use Rattle.om_io.proofs.memory_store.find_file.Given as goal

abbrev pub invariant-loop-entry : goal.invariant-loop-entry
invariant-loop-entry l = first_entry (drop l.entry-index l.files) l.name ≡ first_entry l.files l.name
