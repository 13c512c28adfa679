use Rattle.std.proofs.Common.{ℕ, ◌<◌, ◌^◌, slice_index_or}
use Rattle.om_image.proofs.widths.text_fits.Given as goal

abbrev pub invariant-loop-w : goal.invariant-loop-w
invariant-loop-w l = (k : ℕ) → (d : ℕ) → k < l.w-index → (slice_index_or l.text k d) < 2 ^ 32
