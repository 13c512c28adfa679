use Rattle.std.proofs.Common.{ℕ, sym, ◌∙◌, ap, arith, length}
use Rattle.std.specs.Prelude.{option_map}
use Rattle.om_fields.specs.Places.{least}
use Rattle.om_fields.proofs.Picked.{least-placed, first-picked}
use Rattle.om_object.specs.Rules.{symbol_breaks, symbol_at}
use Rattle.om_object.specs.Passes.{symbol_place}
use Rattle.om_object.proofs.Places.{symbols-rise, symbol_places}
use Rattle.om_object.proofs.passes.least_symbol.Goals as goal

pub overflow_mul-result : goal.overflow_mul-result
overflow_mul-result c =
    let first = first-picked (λ j. symbol_breaks c.args.p.now c.args.rule (symbol_at c.args.p.now j)) (length c.args.p.now.symbols) c.in-Some.j (sym c.first_symbol.ensures ∙ c.in-Some.is) in
    omega (arith, first.below, c.requires.symbols)

pub overflow_add-result : goal.overflow_add-result
overflow_add-result c =
    let first = first-picked (λ j. symbol_breaks c.args.p.now c.args.rule (symbol_at c.args.p.now j)) (length c.args.p.now.symbols) c.in-Some.j (sym c.first_symbol.ensures ∙ c.in-Some.is) in
    omega (arith, first.below, c.requires.symbols)

pub returns-in-None : goal.returns-in-None
returns-in-None c =
    let p = c.args.p.now in
    let test = λ (j : ℕ). symbol_breaks p c.args.rule (symbol_at p j) in
    ap (option_map (symbol_place c.args.o.now)) (sym c.in-None.is ∙ c.first_symbol.ensures)
    ∙ least-placed test (symbol_place c.args.o.now) (length p.symbols) (symbols-rise c.args.o.now)
    ∙ ap least (sym (symbol_places p c.args.o.now (symbol_breaks p c.args.rule)))

pub returns-in-Some : goal.returns-in-Some
returns-in-Some c =
    let p = c.args.p.now in
    let test = λ (j : ℕ). symbol_breaks p c.args.rule (symbol_at p j) in
    ap (option_map (symbol_place c.args.o.now)) (sym c.in-Some.is ∙ c.first_symbol.ensures)
    ∙ least-placed test (symbol_place c.args.o.now) (length p.symbols) (symbols-rise c.args.o.now)
    ∙ ap least (sym (symbol_places p c.args.o.now (symbol_breaks p c.args.rule)))
