use Rattle.std.proofs.Common.{ℕ, ◌<◌, ◌^◌, slice_index_or}
use Rattle.om_image.specs.declared.map.MapWord.{MapWord}
use Rattle.om_image.proofs.widths.sources_fit.Given as goal

abbrev pub invariant-loop-w : goal.invariant-loop-w
invariant-loop-w l = (k : ℕ) → (d : MapWord) → k < l.w-index → (slice_index_or l.words k d).old < 2 ^ 32
