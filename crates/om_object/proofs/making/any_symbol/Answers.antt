use Rattle.std.proofs.Common.{ℕ, sym, ◌∙◌, ap}
use Rattle.std.specs.Prelude.{Option, is_some}
use Rattle.om_object.specs.Rules.{symbol_breaks}
use Rattle.om_object.proofs.FoundSpots.{symbols_found}
use Rattle.om_object.proofs.making.any_symbol.Goals as goal

pub returns : goal.returns
returns c = c.is_there.ensures ∙ ap (λ (o : Option ℕ). is_some o) c.first_symbol.ensures ∙ sym (symbols_found c.args.p.now (symbol_breaks c.args.p.now c.args.rule))
