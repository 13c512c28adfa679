-- A line that is put piece by piece.
use Rattle.std.proofs.Common.{◌≡◌, ◌++◌, ℕ, List, Option, Some, Result, Ok, Err, refl, sym, ap, ◌∙◌, append_assoc, arith}
use Rattle.std.specs.Prelude.{IsErr}
use Rattle.std.proofs.lemmas.Bool.{true≢false}
use Rattle.om_command.specs.Telling.{Adds, HasLine, HasFront}

-- a piece that was put, and what a put did after it
pub adds_more : {T E T' E' : Type 0} {a b : List ℕ} {w0 : Option (List ℕ)} {f0 : ℕ} {w1 : Option (List ℕ)} {f1 : ℕ} {w2 : Option (List ℕ)}
    {f2 : ℕ} {done : T} {result : Result T' E'} → Adds {T = T} {E = E} a w0 f0 w1 f1 (Ok done) → Adds b w1 f1 w2 f2 result →
    Adds (a ++ b) w0 f0 w2 f2 result
adds_more {a = a} {b = b} {f0 = f0} {f2 = f2} {result = Ok x} first second = record {
  appends = λ old there. second.appends (old ++ a) (first.appends old there) ∙ ap (λ (l : List ℕ). Some l) (append_assoc old a b);
  cause = record {
    later = omega (arith, first.cause.later, second.cause.later);
    failed = tt;
    kept = second.cause.kept ∙ first.cause.kept;
  };
}
adds_more {a = a} {b = b} {f0 = f0} {f2 = f2} {result = Err e} first second = record {
  appends = λ old there.
      let more = second.appends (old ++ a) (first.appends old there) in
      (a ++ more.0, (more.1.0, append_assoc a more.0 more.1.0 ∙ ap (λ l. a ++ l) more.1.1), more.2 ∙ ap (λ (l : List ℕ). Some l) (append_assoc old a more.0));
  cause = record {
    later = omega (arith, first.cause.later, second.cause.later);
    failed = omega (arith, first.cause.later, second.cause.failed);
    kept = tt;
  };
}

-- a put that failed in the front of a line
pub adds_front : {T E T' E' : Type 0} {a : List ℕ} (b : List ℕ) {w0 : Option (List ℕ)} {f0 : ℕ} {w1 : Option (List ℕ)} {f1 : ℕ}
    {r : Result T E} {r' : Result T' E'} → IsErr r' → IsErr r → Adds a w0 f0 w1 f1 r → Adds (a ++ b) w0 f0 w1 f1 r'
adds_front {a = a} b {r = Err e} {r' = Err e'} failed' failed first = record {
  appends = λ old there.
      let front = first.appends old there in
      (front.0, (front.1.0 ++ b, sym (append_assoc front.0 front.1.0 b) ∙ ap (λ l. l ++ b) front.1.1), front.2);
  cause = record { later = first.cause.later; failed = first.cause.failed; kept = tt };
}
adds_front b {r = Ok x} failed' failed first = absurd (true≢false (sym failed))
adds_front b {r' = Ok x} failed' failed first = absurd (true≢false (sym failed'))

-- a put that failed, and the answer that hands it on
pub adds_again : {T E T' E' : Type 0} {a : List ℕ} {w0 : Option (List ℕ)} {f0 : ℕ} {w1 : Option (List ℕ)} {f1 : ℕ}
    {r : Result T E} {r' : Result T' E'} → IsErr r' → IsErr r → Adds a w0 f0 w1 f1 r → Adds a w0 f0 w1 f1 r'
adds_again {r = Err e} {r' = Err e'} failed' failed first = record {
  appends = first.appends;
  cause = record { later = first.cause.later; failed = first.cause.failed; kept = tt };
}
adds_again {r = Ok x} failed' failed first = absurd (true≢false (sym failed))
adds_again {r' = Ok x} failed' failed first = absurd (true≢false (sym failed'))

-- what a line that was put leaves, and one whose put failed
pub whole_line : {T E : Type 0} {line : List ℕ} {w0 : Option (List ℕ)} {f0 : ℕ} {w1 : Option (List ℕ)} {f1 : ℕ} {done : T} →
    Adds {T = T} {E = E} line w0 f0 w1 f1 (Ok done) → HasLine line w0 f0 w1 f1
whole_line adds = record { appended = adds.appends; no_fault = adds.cause.kept }

pub front_of_line : {T E : Type 0} {line : List ℕ} {w0 : Option (List ℕ)} {f0 : ℕ} {w1 : Option (List ℕ)} {f1 : ℕ} {e : E} →
    Adds {T = T} {E = E} line w0 f0 w1 f1 (Err e) → HasFront line w0 f0 w1 f1
front_of_line adds = record { appended = adds.appends; fault = adds.cause.failed }

-- pieces that are put one after the other, and the line that they are
pub five_parts : (a b c d e : List ℕ) → a ++ (b ++ (c ++ (d ++ e))) ≡ a ++ b ++ c ++ d ++ e
five_parts a b c d e = simp append_assoc refl

pub eight_parts : (a b c d e f g h : List ℕ) → a ++ (b ++ (c ++ (d ++ (e ++ (f ++ (g ++ h)))))) ≡ a ++ b ++ c ++ d ++ e ++ f ++ g ++ h
eight_parts a b c d e f g h = simp append_assoc refl
