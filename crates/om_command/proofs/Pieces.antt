-- A line that is put piece by piece.
use Rattle.std.proofs.Common.{◌≡◌, ◌++◌, ◌+◌, ◌<◌, ◌∙◌, ℕ, zero, suc, List, [], ◌∷◌, length, take, drop, get_or, Option, Result, Ok, Err, refl, sym, ap, subst, append_assoc, append-nil, Some, arith}
use Rattle.std.specs.Prelude.{IsErr}
use Rattle.om_command.specs.Telling.{Adds, text_of, texts_of}
use Rattle.om_command.specs.declared.lines.Piece.{Piece}
use Rattle.om_command.proofs.Adding.{adds_front}

texts_done : (line : List Piece) (k : ℕ) (d : Piece) → k < length line →
    texts_of (take k line) ++ text_of (get_or line k d) ≡ texts_of (take (suc k) line)
texts_done [] k d below = absurd (omega (arith, below))
texts_done (p ∷ ps) zero d below = sym (append-nil (text_of p))
texts_done (p ∷ ps) (suc k) d below =
    append_assoc (text_of p) (texts_of (take k ps)) (text_of (get_or ps k d)) ∙ ap (λ l. text_of p ++ l) (texts_done ps k d (omega arith))

texts_split : (line : List Piece) (k : ℕ) → texts_of (take k line) ++ texts_of (drop k line) ≡ texts_of line
texts_split line zero = refl
texts_split [] (suc k) = refl
texts_split (p ∷ ps) (suc k) = append_assoc (text_of p) (texts_of (take k ps)) (texts_of (drop k ps)) ∙ ap (λ l. text_of p ++ l) (texts_split ps k)

-- one piece more is put
pub piece_put : {T E E' : Type 0} (line : List Piece) (k : ℕ) (d : Piece) {w0 : Option (List ℕ)} {f0 : ℕ} {w1 : Option (List ℕ)} {f1 : ℕ} {done : T}
    (result : Result T E) → k < length line → result ≡ Ok done →
    Adds (texts_of (take k line) ++ text_of (get_or line k d)) w0 f0 w1 f1 result →
    Adds {T = T} {E = E'} (texts_of (take (k + 1) line)) w0 f0 w1 f1 (Ok done)
piece_put line k d (Ok x) below is adds =
    let same : texts_of (take k line) ++ text_of (get_or line k d) ≡ texts_of (take (k + 1) line) =
    texts_done line k d below ∙ ap (λ n. texts_of (take n line)) (next k) in record {
      appends = λ old there. adds.appends old there ∙ ap (λ l. Some (old ++ l)) same;
      cause = record { later = adds.cause.later; failed = tt; kept = adds.cause.kept };
    } where
      next : (k : ℕ) → suc k ≡ k + 1
      next k = omega arith
piece_put line k d (Err e) below is adds = let never : ⊥ = cc in absurd never

-- a piece that failed
pub piece_failed : {T E T' E' : Type 0} (line : List Piece) (k : ℕ) (d : Piece) {w0 : Option (List ℕ)} {f0 : ℕ} {w1 : Option (List ℕ)} {f1 : ℕ}
    {r : Result T E} {r' : Result T' E'} → k < length line → IsErr r' → IsErr r →
    Adds (texts_of (take k line) ++ text_of (get_or line k d)) w0 f0 w1 f1 r → Adds (texts_of line) w0 f0 w1 f1 r'
piece_failed line k d {w0} {f0} {w1} {f1} {r} {r'} below failed' failed adds =
    subst (λ l. Adds l w0 f0 w1 f1 r')
    (ap (λ l. l ++ texts_of (drop (suc k) line)) (texts_done line k d below) ∙ texts_split line (suc k))
    (adds_front (texts_of (drop (suc k) line)) failed' failed adds)
