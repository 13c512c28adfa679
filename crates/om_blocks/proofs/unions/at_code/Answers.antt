use Rattle.std.proofs.Common.{Option, subst}
use Rattle.om_value.specs.declared.value.Place.{Place}
use Rattle.om_blocks.specs.Filling.{places_of}
use Rattle.om_blocks.specs.Landing.{IsUnion}
use Rattle.om_blocks.proofs.Holding.{nothing_united}
use Rattle.om_blocks.proofs.unions.at_code.Goals as goal

pub returns-in-None : goal.returns-in-None
returns-in-None g c =
    subst (λ (o : Option Place). IsUnion c.args.g.now (g.M.BlockMask.lacks c.args.masks.now) (places_of o) 0) c.in-None.ensures
    (nothing_united c.args.g.now (g.M.BlockMask.lacks c.args.masks.now))
