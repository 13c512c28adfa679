-- One piece after another at the end of a list.
use Rattle.std.proofs.Common.{◌≡◌, ℕ, List, [], ◌++◌, sym, ap, ◌∙◌, append_assoc, append-nil}
use Rattle.om_fields.specs.Bytes.{Grows, KeepsFront}

-- what two calls in a row append
pub more : {start middle end a b : List ℕ} → Grows start middle a → Grows middle end b → Grows start end (a ++ b)
more {start} {middle} {end} {a} {b} first second =
    record { by = second.by ∙ ap (λ (x : List ℕ). x ++ b) first.by ∙ append_assoc start a b }

-- what is as before is still there
pub unchanged_keeps : {old new : List ℕ} → new ≡ old → KeepsFront old new
unchanged_keeps {old} {new} same = record { more = []; grows = record { by = same ∙ sym (append-nil old) } }

-- a call that grew what was written, then one that left it in front
pub grown_keeps : {start middle end a : List ℕ} → Grows start middle a → KeepsFront middle end → KeepsFront start end
grown_keeps first second = record { more = _; grows = more first second.grows }

-- a call that grew what was written, then one that changed nothing
pub grown_unchanged : {start middle end a : List ℕ} → Grows start middle a → end ≡ middle → KeepsFront start end
grown_unchanged first same = grown_keeps first (unchanged_keeps same)
