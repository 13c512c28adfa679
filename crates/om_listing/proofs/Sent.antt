-- Texts that are sent one after another.
use Rattle.std.proofs.Common.{◌≡◌, ◌++◌, ℕ, List, [], Option, Some, Result, Ok, Err, refl, sym, ap, ◌∙◌, append_assoc, append-nil, arith}
use Rattle.std.specs.Prelude.{OnOk, IsErr}
use Rattle.std.proofs.lemmas.Bool.{true≢false}
use Rattle.om_io.specs.Causes.{HasCause}
use Rattle.om_io.specs.Outside.{Appends}
use Rattle.om_fields.specs.Bytes.{Grows}
use Rattle.om_listing.specs.Sending.{IsSent, Sends}

-- a text behind one of which a part is put
sent_on : {old p0 a b : List ℕ} {now1 now2 : Option (List ℕ)} {p1 p2 : List ℕ} (s : IsSent old p0 a now1 p1) →
    IsSent (old ++ s.put) p1 b now2 p2 → IsSent old p0 (a ++ b) now2 p2
sent_on {old} {p0} {a} {b} {p1 = p1} {p2 = p2} s t = record {
  put = s.put ++ t.put;
  written = t.written ∙ ap (λ (l : List ℕ). Some l) (append_assoc old s.put t.put);
  rest = append_assoc s.put t.put p2 ∙ ap (λ l. s.put ++ l) t.rest ∙ sym (append_assoc s.put p1 b)
      ∙ ap (λ l. l ++ b) s.rest ∙ append_assoc p0 a b;
}

-- one text, and what became of the next
pub sends_more : {T E T' E' : Type 0} {a b : List ℕ} {w0 : Option (List ℕ)} {f0 : ℕ} {p0 : List ℕ} {w1 : Option (List ℕ)} {f1 : ℕ}
    {p1 : List ℕ} {w2 : Option (List ℕ)} {f2 : ℕ} {p2 : List ℕ} {done : T} {result : Result T' E'} →
    Sends {T = T} {E = E} a w0 f0 p0 w1 f1 p1 (Ok done) → Sends b w1 f1 p1 w2 f2 p2 result → Sends (a ++ b) w0 f0 p0 w2 f2 p2 result
sends_more {f0 = f0} {f2 = f2} {result = Ok x} first second = record {
  sends = λ old there. let s = first.sends old there in sent_on s (second.sends (old ++ s.put) s.written);
  cause = record {
    later = omega (arith, first.cause.later, second.cause.later);
    failed = tt;
    kept = second.cause.kept ∙ first.cause.kept;
  };
}
sends_more {f0 = f0} {f2 = f2} {result = Err e} first second = record {
  sends = λ old there.
      let s = first.sends old there in let t = second.sends (old ++ s.put) s.written in (t.0, sent_on s t.1);
  cause = record {
    later = omega (arith, first.cause.later, second.cause.later);
    failed = omega (arith, first.cause.later, second.cause.failed);
    kept = tt;
  };
}

-- a text in whose front a put failed
pub sends_into : {T E T' E' : Type 0} {a : List ℕ} (whole rest : List ℕ) {w0 : Option (List ℕ)} {f0 : ℕ} {p0 : List ℕ} {w1 : Option (List ℕ)}
    {f1 : ℕ} {p1 p2 : List ℕ} {e : E} {r : Result T' E'} → a ++ rest ≡ whole → IsErr r →
    Sends {T = T} {E = E} a w0 f0 p0 w1 f1 p1 (Err e) → Sends {T = T'} {E = E'} whole w0 f0 p0 w1 f1 p2 r
sends_into {a = a} whole rest {p0 = p0} {r = Err e'} same failed first = record {
  sends = λ old there.
      let s = first.sends old there in (
        s.0 ++ rest,
        record {
          put = s.1.put;
          written = s.1.written;
          rest = sym (append_assoc s.1.put s.0 rest) ∙ ap (λ l. l ++ rest) s.1.rest ∙ append_assoc p0 a rest ∙ ap (λ l. p0 ++ l) same;
        },
      );
  cause = record { later = first.cause.later; failed = first.cause.failed; kept = tt };
}
sends_into whole rest {r = Ok x} same failed first = absurd (true≢false (sym failed))

-- a text of which no byte is put yet
pub sends_waiting : {T E : Type 0} {a : List ℕ} {w : Option (List ℕ)} {f : ℕ} {p0 p1 : List ℕ} (done : T) →
    Grows p0 p1 a → Sends {T = T} {E = E} a w f p0 w f p1 (Ok done)
sends_waiting {f = f} done grows = record {
  sends = λ old there. record {
    put = [];
    written = there ∙ ap (λ (l : List ℕ). Some l) (sym (append-nil old));
    rest = grows.by;
  };
  cause = record { later = omega arith; failed = tt; kept = refl };
}

-- the same text by another name, and another value in the answer
pub sends_as : {T E T' E' : Type 0} {a b : List ℕ} {w0 : Option (List ℕ)} {f0 : ℕ} {p0 : List ℕ} {w1 : Option (List ℕ)} {f1 : ℕ}
    {p1 : List ℕ} {done : T} (done' : T') → a ≡ b → Sends {T = T} {E = E} a w0 f0 p0 w1 f1 p1 (Ok done) →
    Sends {T = T'} {E = E'} b w0 f0 p0 w1 f1 p1 (Ok done')
sends_as {p0 = p0} done' same first = record {
  sends = λ old there.
      let s = first.sends old there in record { put = s.put; written = s.written; rest = s.rest ∙ ap (λ l. p0 ++ l) same };
  cause = record { later = first.cause.later; failed = tt; kept = first.cause.kept };
}

-- a put of all that waits, and one that failed
pub all_put : {T E T' E' : Type 0} {bytes : List ℕ} {w0 : Option (List ℕ)} {f0 : ℕ} {p0 : List ℕ} {w1 : Option (List ℕ)} {f1 : ℕ}
    {p1 : List ℕ} {done : T} (done' : T') → bytes ≡ p0 → p1 ≡ [] →
    ((old : List ℕ) → w0 ≡ Some old → Appends {T = T} {E = E} old w1 bytes (Ok done)) → HasCause {T = T} {E = E} f0 f1 (Ok done) →
    Sends {T = T'} {E = E'} [] w0 f0 p0 w1 f1 p1 (Ok done')
all_put {p0 = p0} done' same empty appends cause = record {
  sends = λ old there. record {
    put = p0;
    written = appends old there ∙ ap (λ l. Some (old ++ l)) same;
    rest = ap (λ l. p0 ++ l) empty;
  };
  cause = record { later = cause.later; failed = tt; kept = cause.kept };
}

pub put_failed : {T E T' E' : Type 0} {bytes : List ℕ} {w0 : Option (List ℕ)} {f0 : ℕ} {p0 : List ℕ} {w1 : Option (List ℕ)} {f1 : ℕ}
    (p1 : List ℕ) {e : E} (e' : E') → bytes ≡ p0 →
    ((old : List ℕ) → w0 ≡ Some old → Appends {T = T} {E = E} old w1 bytes (Err e)) → HasCause {T = T} {E = E} f0 f1 (Err e) →
    Sends {T = T'} {E = E'} [] w0 f0 p0 w1 f1 p1 (Err e')
put_failed {p0 = p0} p1 e' same appends cause = record {
  sends = λ old there.
      let front = appends old there in
      (front.1.0, record { put = front.0; written = front.2; rest = front.1.1 ∙ same ∙ sym (append-nil p0) });
  cause = record { later = cause.later; failed = cause.failed; kept = tt };
}

-- a text of which all is put
pub all_sent : {T E : Type 0} {a : List ℕ} {w0 : Option (List ℕ)} {f0 : ℕ} {p0 : List ℕ} {w1 : Option (List ℕ)} {f1 : ℕ}
    {p1 : List ℕ} (result : Result T E) → p0 ≡ [] → OnOk result (p1 ≡ []) → Sends a w0 f0 p0 w1 f1 p1 result →
    (old : List ℕ) → w0 ≡ Some old → Appends old w1 a result
all_sent {a = a} {p0 = p0} {p1 = p1} (Ok x) begun ended sends old there =
    let s = sends.sends old there in
    s.written ∙ ap (λ l. Some (old ++ l))
    (sym (append-nil s.put) ∙ ap (λ l. s.put ++ l) (sym ended) ∙ s.rest ∙ ap (λ l. l ++ a) begun)
all_sent {a = a} (Err e) begun ended sends old there =
    let s = sends.sends old there in (s.1.put, (s.0, s.1.rest ∙ ap (λ l. l ++ a) begun), s.1.written)
