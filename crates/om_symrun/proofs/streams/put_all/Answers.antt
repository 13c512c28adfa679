use Rattle.std.proofs.Common.{◌≡◌, ◌≤◌, ℕ, List, ◌++◌, ◌+◌, ◌-◌, take, drop, Option, Some, arith, ap, ◌∙◌, append_assoc, sym}
use Rattle.std.proofs.Math.Seq.{take-add}
use Rattle.std.proofs.lemmas.List.{take-append-drop}
use Rattle.om_symrun.proofs.streams.put_all.Goals as goal

-- a piece more
pieces : (a b : ℕ) (old bytes : List ℕ) (o : Option (List ℕ)) → a ≤ b → o ≡ Some ((old ++ take a bytes) ++ take (b - a) (drop a bytes)) → o ≡ Some (old ++ take b bytes)
pieces a b old bytes o h e =
    let n : a + (b - a) ≡ b = omega arith in
    let t = take-add a (b - a) bytes in
    e ∙ ap Some (append_assoc old (take a bytes) (take (b - a) (drop a bytes)) ∙ ap (λ ys. old ++ ys) (sym t ∙ ap (λ k. take k bytes) n))

-- a front of a piece is one of all bytes, with what was put before it
front_of : (a n : ℕ) (old bytes : List ℕ) (o : Option (List ℕ)) → ((x : List ℕ) × ((y : List ℕ) × (x ++ y ≡ take n (drop a bytes))) × (o ≡ Some ((old ++ take a bytes) ++ x))) → (x : List ℕ) × ((y : List ℕ) × (x ++ y ≡ bytes)) × (o ≡ Some (old ++ x))
front_of a n old bytes o e =
    let x = e.0 in
    let y = e.1.0 in
    let rest = drop n (drop a bytes) in
    let whole : (take a bytes ++ x) ++ (y ++ rest) ≡ bytes =
    append_assoc (take a bytes) x (y ++ rest)
    ∙ ap (λ zs. take a bytes ++ zs) (sym (append_assoc x y rest) ∙ ap (λ zs. zs ++ rest) e.1.1 ∙ take-append-drop n (drop a bytes))
    ∙ take-append-drop a bytes in
    (take a bytes ++ x, (y ++ rest, whole), e.2 ∙ ap Some (append_assoc old (take a bytes) x))

pub returns-in-Err-clause-appends : goal.returns-in-Err-clause-appends
returns-in-Err-clause-appends g c = λ old told.
    front_of c.loop-at.at (c.min-end.result - c.loop-at.at) old c.args.bytes.now _ (c.in-Err.ensures.appends (old ++ take c.loop-at.at c.args.bytes.now) (c.loop-at.invariant.2 old told))

pub loop-at-preserved : goal.loop-at-preserved
loop-at-preserved g c =
    let e = c.min-end.ensures in
    let least : c.loop-at.at ≤ c.min-end.result = omega (arith, e) in (
      omega (arith, e),
      c.in_default.ensures.cause.kept ∙ c.loop-at.invariant.1,
      λ old told.
          pieces c.loop-at.at c.min-end.result old c.args.bytes.now (g.S.Sink.written c.put.new.self) least (c.in_default.ensures.appends (old ++ take c.loop-at.at c.args.bytes.now) (c.loop-at.invariant.2 old told)),
    )
