-- Bytes that were taken, piece by piece.
use Rattle.std.proofs.Common.{◌≡◌, ◌≤◌, ◌<◌, ℕ, ◌+◌, ◌-◌, List, [], ◌∷◌, ◌++◌, length, take, drop, slice_index, Option, Some, refl, ap, sym, ◌∙◌, arith, nat_le, nat_lt, ◌&&◌, if◌then◌else◌, length-append, length-drop, length-take}
use Rattle.std.proofs.Math.Seq.{take-add, get_or-append_right}
use Rattle.std.proofs.Math.ListN.{get_or-append}
use Rattle.std.proofs.lemmas.List.{drop-drop}
use Rattle.std.proofs.lemmas.Bool.Decides.{nat_tests}
use Rattle.om_image.specs.NumAccess.{written}
use Rattle.om_machine.specs.Mapped.{Mapped}
use Rattle.om_machine.specs.Memory.{memory_of}
use Rattle.om_machine.specs.Streams.{TakesFront}

written_twice : (f : ℕ → ℕ) (a : ℕ) (xs ys : List ℕ) (y : ℕ) → written (written f (a, xs)) (a + length xs, ys) y ≡ written f (a, xs ++ ys) y
written_twice f a xs ys y =
    let n = length-append xs ys in
    grind (arith, nat_tests, n, get_or-append, get_or-append_right)

-- one more piece
pub taken_more : (m0 m1 m2 : Mapped) (a k j : ℕ) (xs : List ℕ) (l1 l2 : Option (List ℕ)) → TakesFront m0 m1 a k xs l1 → TakesFront m1 m2 (a + k) j (drop k xs) l2 → TakesFront m0 m2 a (k + j) xs l2
taken_more m0 m1 m2 a k j xs l1 l2 first next =
    let left = length-drop k xs in
    let size : length (take k xs) ≡ k = length-take k xs ∙ omega (arith, first.enough) in
    let joined : take k xs ++ take j (drop k xs) ≡ take (k + j) xs = sym (take-add k j xs) in
    record {
      enough = omega (arith, first.enough, next.enough, left);
      rest = next.rest ∙ ap Some (drop-drop j k xs);
      places = λ y.
          let one = first.places y in
          let two = next.places y in
          let both = written_twice (memory_of m0) a (take k xs) (take j (drop k xs)) y in
          two
          ∙ ap (λ old. if nat_le (a + k) y && nat_lt y ((a + k) + length (take j (drop k xs))) then slice_index (take j (drop k xs)) (y - (a + k)) else old) one
          ∙ ap (λ n. written (written (memory_of m0) (a, take k xs)) (a + n, take j (drop k xs)) y) (sym size)
          ∙ both
          ∙ ap (λ zs. written (memory_of m0) (a, zs) y) joined;
    }

-- no more bytes are left
pub all_taken : (k : ℕ) (xs : List ℕ) → k ≤ length xs → drop k xs ≡ [] → k ≡ length xs
all_taken k xs few none =
    let left = length-drop k xs in
    let gone = ap length none in
    omega (arith, left, gone)

pub none_left : (bytes : List ℕ) (n taken : ℕ) → 0 < n → (0 < length bytes → 0 < n → 0 < taken) → taken ≡ 0 → bytes ≡ []
none_left [] n taken some more none = refl
none_left (b ∷ bytes) n taken some more none =
    let m : 0 < taken = more (omega arith) some in
    absurd (omega arith)
