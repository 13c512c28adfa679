-- What the solvers say of edges with a hub they say of blocks.
use Rattle.std.proofs.Common.{◌≡◌, ◌⊎◌, inl, inr, ◌<◌, ◌≤◌, ℕ, List, refl, ap, ◌∙◌, subst, arith}
use Rattle.std.specs.Int.{bit_at}
use Rattle.std.proofs.lemmas.Nat.Bits.{bit_at-zero}
use Rattle.om_flow.specs.declared.parts.Fact.{Fact}
use Rattle.om_flow.specs.declared.parts.Transfer.{Transfer}
use Rattle.om_flow.specs.declared.parts.Transfer.TheVariants.{Keep}
use Rattle.om_flow.specs.Edges.{Edge}
use Rattle.om_flow.specs.Facts.{fact_at, transfer_at, sent, Allows, Solved}
use Rattle.om_flow.specs.Masks.{number_at, MasksSolved}
use Rattle.om_flow.specs.Hub.{GoesTo, Along, ByJump, HasHub}
use Rattle.om_flow.proofs.HubWalks.{means_plain, reads_plain, reads_by_hub}
use Rattle.om_flow.proofs.FactSolver.{allows_then, exact}

module _ (next : List (List ℕ)) (hub : ℕ) (apart : Edge next hub hub → ⊥) where
  abbrev P : ℕ → ℕ → Type 0
  P = GoesTo next hub

  once : (b c : ℕ) → P b c → Edge next b c ⊎ (Edge next b hub × Edge next hub c)
  once b c (Along n m e) = inl e
  once b c (ByJump d e) = inr (d, e)

  pub has_hub : HasHub (Edge next) P hub
  has_hub = record { once = once; direct = λ b c n m e. Along n m e; joint = λ b c d e. ByJump d e; apart = apart }

  module _ (transfers : List Transfer) (keep : transfer_at transfers hub ≡ Keep) (entry table : ℕ) (entered : entry < hub) (fs : List Fact) (n : ℕ) (more : hub ≤ n)
      (s : Solved n (Edge next) transfers entry table fs) where
    from_hub : (c : ℕ) → Edge next hub c → Allows (fact_at fs hub) (fact_at fs c)
    from_hub c d = subst (λ (t : Transfer). Allows (sent t (fact_at fs hub)) (fact_at fs c)) keep (s.checked.edges hub c d)

    flow : (b c : ℕ) → P b c → Allows (sent (transfer_at transfers b) (fact_at fs b)) (fact_at fs c)
    flow b c (Along x y e) = s.checked.edges b c e
    flow b c (ByJump d e) = allows_then (sent (transfer_at transfers b) (fact_at fs b)) (fact_at fs hub) (fact_at fs c) (s.checked.edges b hub d) (from_hub c e)

    pub facts_plain : Solved hub P transfers entry table fs
    facts_plain = record {
      size = omega (arith, s.size, more);
      checked = record { entry_fact = s.checked.entry_fact; edges = flow };
      exact = λ b h.
          exact P (transfer_at transfers) entry table b (fact_at fs b)
          (means_plain (Edge next) P hub has_hub (transfer_at transfers) (transfer_at transfers) entry table (λ e. omega (arith, entered, e)) (λ c. refl) keep b (fact_at fs b)
          (λ e. omega (arith, h, e)) (s.exact b (omega (arith, h, more))).means);
    }

  module _ (reads writes : List ℕ) (none_read : number_at reads hub ≡ 0) (none_written : number_at writes hub ≡ 0) (ms : List ℕ) (n : ℕ) (more : hub ≤ n)
      (s : MasksSolved n (Edge next) reads writes ms) where
    no_reads : (r : ℕ) → bit_at (number_at reads hub) r ≡ 0
    no_reads r = ap (λ (x : ℕ). bit_at x r) none_read ∙ bit_at-zero r

    no_writes : (r : ℕ) → bit_at (number_at writes hub) r ≡ 0
    no_writes r = ap (λ (x : ℕ). bit_at x r) none_written ∙ bit_at-zero r

    live : (b c r : ℕ) → r < 32 → P b c → bit_at (number_at writes b) r ≡ 0 → bit_at (number_at ms c) r ≡ 1 → bit_at (number_at ms b) r ≡ 1
    live b c r l (Along x y d) z e = s.checked.edges b c r l d z e
    live b c r l (ByJump d f) z e = s.checked.edges b hub r l d z (s.checked.edges hub c r l f (no_writes r) e)

    pub masks_plain : MasksSolved hub P reads writes ms
    masks_plain = record {
      size = omega (arith, s.size, more);
      checked = record { own = s.checked.own; edges = live };
      exact = λ b r h l. let k = s.exact b r (omega (arith, h, more)) l in (
        λ e. reads_plain (Edge next) P hub has_hub (number_at reads) (number_at writes) (number_at reads) (number_at writes) r (λ c. refl) (λ c. refl) (no_reads r) (no_writes r) b
            (λ q. omega (arith, h, q)) (k.0 e),
        λ v. k.1 (reads_by_hub (Edge next) P hub has_hub (number_at reads) (number_at writes) (number_at reads) (number_at writes) r (λ c. refl) (λ c. refl) (no_reads r) (no_writes r) b v),
      );
    }
