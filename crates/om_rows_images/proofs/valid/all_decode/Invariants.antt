use Rattle.std.proofs.Common.{◌≡◌, ◌<◌, ℕ, true, slice_index}
use Rattle.std.specs.Prelude.{is_some}
use Rattle.om_isa.specs.Words.{instr_of}
use Rattle.om_rows_images.proofs.valid.all_decode.Given as goal

abbrev pub invariant-loop-word : goal.invariant-loop-word
invariant-loop-word l =
    (k : ℕ) → k < l.word-index → is_some (instr_of (slice_index l.text k)) ≡ true
