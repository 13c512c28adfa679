use Rattle.std.proofs.Common.{ℕ, sym, ◌∙◌, ap}
use Rattle.std.specs.Prelude.{Option, is_some}
use Rattle.om_object.specs.Rules.{section_breaks}
use Rattle.om_object.proofs.FoundSpots.{sections_found}
use Rattle.om_object.proofs.making.any_section.Goals as goal

pub returns : goal.returns
returns c = c.is_there.ensures ∙ ap (λ (o : Option ℕ). is_some o) c.first_section.ensures ∙ sym (sections_found c.args.p.now (section_breaks c.args.rule))
