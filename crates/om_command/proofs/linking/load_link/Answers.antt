use Rattle.std.proofs.Common.{List, subst}
use Rattle.om_link.specs.Links.{IsLinked}
use Rattle.om_object.specs.declared.parts.Parts.{Parts}
use Rattle.om_command.proofs.Linked.{holds_link}
use Rattle.om_command.proofs.linking.load_link.Goals as goal

pub returns-in-Ok-link-clause-holds : goal.returns-in-Ok-link-clause-holds
returns-in-Ok-link-clause-holds g c =
    holds_link _ _ _ _ _ _ c.in-Ok.ensures.loaded
    (subst (λ (ps : List Parts). IsLinked c.args.level ps c.in-Ok-link.linked) c.as_slice-2.ensures c.in-Ok-link.ensures)
