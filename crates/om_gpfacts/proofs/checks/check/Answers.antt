use Rattle.std.proofs.Common.{refl, sym}
use Rattle.std.proofs.lemmas.Bool.{true≢false}
use Rattle.om_gpfacts.proofs.OnChecks.{all_checked, jump_allows}
use Rattle.om_gpfacts.proofs.checks.check.Goals as goal

pub returns-in-Some : goal.returns-in-Some
returns-in-Some c = λ p. (
  λ t. all_checked c.args.g.now c.is_graph.ensures c.requires.flow c.args.f.now p c.in-Some.out (c.if-not-at_entry.ensures.0 refl) (c.in-Some.ensures.some c.in-Some.out refl) (c.passes_at_landings.ensures.0 t),
  λ checked. c.passes_at_landings.ensures.1 (jump_allows c.args.g.now c.is_graph.ensures c.requires.flow c.args.f.now p c.in-Some.out checked (c.in-Some.ensures.some c.in-Some.out refl)),
)

pub returns-in-None : goal.returns-in-None
returns-in-None c = λ p. (λ t. absurd (true≢false (sym t)), λ checked. absurd (c.in-None.ensures.none refl p checked))
