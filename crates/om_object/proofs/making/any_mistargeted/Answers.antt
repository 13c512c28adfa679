use Rattle.std.proofs.Common.{Bool, ◌||◌, sym, ◌∙◌, ap}
use Rattle.om_object.specs.declared.rules.RelocRule.TheVariants.{Targeted}
use Rattle.om_object.specs.declared.rules.SymbolRule.TheVariants.{Misvalued}
use Rattle.om_object.specs.Rules.{symbols_where, symbol_breaks, relocs_where, is_found}
use Rattle.om_object.proofs.FoundSpots.{found_append}
use Rattle.om_object.proofs.making.any_mistargeted.Goals as goal

pub returns : goal.returns
returns c =
    let p = c.args.p.now in
    c.either.ensures
    ∙ ap (λ (b : Bool). b || c.in_ok-of_relocs.of_relocs) c.any_symbol.ensures
    ∙ ap (λ (b : Bool). is_found (symbols_where p (symbol_breaks p Misvalued)) || b) c.in_ok-of_relocs.ensures
    ∙ sym (found_append (symbols_where p (symbol_breaks p Misvalued)) (relocs_where p Targeted))
