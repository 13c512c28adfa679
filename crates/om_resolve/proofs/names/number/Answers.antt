use Rattle.std.proofs.Common.{sym, ◌∙◌}
use Rattle.om_resolve.specs.Names.{number_in}
use Rattle.om_resolve.specs.Linked.{names_in}
use Rattle.om_resolve.proofs.Places.{absent_number, present_number, ok_along}
use Rattle.om_resolve.proofs.names.number.Goals as goal

pub returns-in-None : goal.returns-in-None
returns-in-None c =
    ok_along c.small.result c.len.result (number_in (names_in c.args.names.now) c.args.name.now)
    (c.len.ensures.len ∙ absent_number c.args.name.now c.args.names.now.keys (sym c.in-None.ensures.index)) c.small.ensures

pub returns-in-Some : goal.returns-in-Some
returns-in-Some c =
    ok_along c.small-in-Some.result c.in-Some.k (number_in (names_in c.args.names.now) c.args.name.now)
    (present_number c.args.name.now c.args.names.now.keys c.in-Some.k (sym c.in-Some.ensures.index)) c.small-in-Some.ensures
