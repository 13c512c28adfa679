use Rattle.std.proofs.Common.{ℕ, sym, ◌∙◌, ap}
use Rattle.std.specs.Prelude.{Option, is_some}
use Rattle.om_object.proofs.FoundSpots.{misplaced_found}
use Rattle.om_object.proofs.making.any_misplaced.Goals as goal

pub returns : goal.returns
returns c = c.is_there.ensures ∙ ap (λ (o : Option ℕ). is_some o) c.in_ok-found.ensures ∙ sym (misplaced_found c.args.p.now)
