use Rattle.std.proofs.Common.{inl, inr, refl, [], ◌∷◌, arith}
use Rattle.om_flow.specs.declared.parts.Fact.{Fact}
use Rattle.om_flow.specs.declared.parts.Fact.TheVariants.{Any}
use Rattle.om_flow.specs.FactSteps.{fact_up, changes_left}
use Rattle.om_flow.proofs.Spreading.{spread_more, spread_none}
use Rattle.om_flow.proofs.FactSolver.{joined_again}
use Rattle.om_flow.proofs.facts.spread_pair.Goals as goal

pub raise-requires : goal.raise-requires
raise-requires c = c.requires.below c.args.first (inl refl)

pub raise-requires-2 : goal.raise-requires-2
raise-requires-2 c =
    let one =
    spread_more Fact Fact Any fact_up changes_left joined_again [] c.args.first c.args.out c.args.facts.now.items c.args.work.now.items c.args.facts.now.items c.args.work.now.items
    c.raise.new.facts.items c.raise.new.work.items (c.requires.below c.args.first (inl refl)) (spread_none Fact Fact Any fact_up changes_left c.args.out c.args.facts.now.items c.args.work.now.items)
    c.in_ok-raise.ensures in
    omega (arith, one.size, c.requires.below c.args.second (inr (inl refl)))

pub returns : goal.returns
returns c =
    let one =
    spread_more Fact Fact Any fact_up changes_left joined_again [] c.args.first c.args.out c.args.facts.now.items c.args.work.now.items c.args.facts.now.items c.args.work.now.items
    c.raise.new.facts.items c.raise.new.work.items (c.requires.below c.args.first (inl refl)) (spread_none Fact Fact Any fact_up changes_left c.args.out c.args.facts.now.items c.args.work.now.items)
    c.in_ok-raise.ensures in
    spread_more Fact Fact Any fact_up changes_left joined_again (c.args.first ∷ []) c.args.second c.args.out c.args.facts.now.items c.args.work.now.items c.raise.new.facts.items c.raise.new.work.items
    c.raise-2.new.facts.items c.raise-2.new.work.items (c.requires.below c.args.second (inr (inl refl))) one c.in_ok-raise-2.ensures
