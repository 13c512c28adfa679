use Rattle.std.proofs.Common.{ℕ, sym, ◌∙◌, ap}
use Rattle.std.specs.Prelude.{Option}
use Rattle.om_fields.specs.Places.{least, lesser_of}
use Rattle.om_object.specs.declared.rules.RelocRule.TheVariants.{Targeted}
use Rattle.om_object.specs.declared.rules.SymbolRule.TheVariants.{Misvalued}
use Rattle.om_object.specs.Rules.{symbols_where, symbol_breaks, relocs_where}
use Rattle.om_object.specs.Spots.{places_of}
use Rattle.om_object.proofs.Chains.{places_append}
use Rattle.om_object.proofs.faults.mistargeted.Goals as goal

pub returns : goal.returns
returns c =
    let p = c.args.p.now in
    let o = c.args.o.now in
    c.lesser.ensures
    ∙ ap (λ (x : Option ℕ). lesser_of x c.in_ok-of_relocs.of_relocs) c.least_symbol.ensures
    ∙ ap (lesser_of (least (places_of o (symbols_where p (symbol_breaks p Misvalued))))) c.in_ok-of_relocs.ensures
    ∙ sym (places_append o (symbols_where p (symbol_breaks p Misvalued)) (relocs_where p Targeted))
