-- Parts of lists of bytes that are put together.
use Rattle.std.proofs.Common.{◌≡◌, ◌+◌, ◌≤◌, ℕ, List, ◌++◌, length, take, drop, ap, ◌∙◌, arith}
use Rattle.std.proofs.lemmas.List.{drop-append-le, take-append-le, length-drop}
use Rattle.std.proofs.Math.Seq.{drop-append_seam, take-append_seam}

-- n bytes in front stay where others follow
pub bytes_at-append : (i n : ℕ) (xs ys : List ℕ) → i + n ≤ length xs → take n (drop i (xs ++ ys)) ≡ take n (drop i xs)
bytes_at-append i n xs ys within =
    ap (take n) (drop-append-le i xs ys (omega arith)) ∙ take-append-le n (drop i xs) ys (rw (length-drop i xs) (omega arith))

-- bytes behind some, and before others
pub bytes_at-past : (front bytes rest : List ℕ) → take (length bytes) (drop (length front) (front ++ (bytes ++ rest))) ≡ bytes
bytes_at-past front bytes rest =
    ap (take (length bytes)) (drop-append_seam front (bytes ++ rest)) ∙ take-append_seam bytes rest
