use Rattle.std.proofs.Common.{◌≡◌, drop, length}
use Rattle.om_io.specs.SavedFiles.{AreWithin, files_at, first_of}
use Rattle.om_io.proofs.saves.find.Given as goal

abbrev pub invariant-loop-place : goal.invariant-loop-place
invariant-loop-place l =
    AreWithin (length l.kept) (drop l.place-index l.places)
    × (first_of (files_at l.kept (drop l.place-index l.places)) l.name ≡ first_of (files_at l.kept l.places) l.name)
