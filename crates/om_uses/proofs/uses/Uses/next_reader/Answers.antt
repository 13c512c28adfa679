use Rattle.std.proofs.Common.{◌≡◌, ℕ, Option, Some, None, sym, ap, subst, ◌∙◌}
use Rattle.om_uses.specs.declared.tables.OpUses.{OpUses}
use Rattle.om_uses.specs.Readers.{IsAmong, readers, next_of}
use Rattle.om_uses.proofs.Standing.{some_same, register_is, first_is, after_is}
use Rattle.om_uses.proofs.uses.Uses.next_reader.Goals as goal

pub returns-in_default : goal.returns-in_default
returns-in_default c = λ g r b behind graph is h among.
    let found = register_is g c.args.self.now c.args.def r b behind graph is h c.op.result.writes c.lowest.result (ap (λ (o : OpUses). o.writes) c.op.ensures) c.lowest.ensures.one in
    let none = c.in_default.is in
    absurd (cc)

pub returns-in-Some-after : goal.returns-in-Some-after
returns-in-Some-after c = λ g r b behind graph is h among.
    let found = register_is g c.args.self.now c.args.def r b behind graph is h c.op.result.writes c.lowest.result (ap (λ (o : OpUses). o.writes) c.op.ensures) c.lowest.ensures.one in
    let same = some_same c.lowest.result c.in-Some.r r c.in-Some.is found in
    subst (λ (o : Option ℕ). c.reader_after.result ≡ next_of o (readers r behind)) (sym c.in-Some-after.is)
    (after_is g c.args.self.now c.args.def r b behind graph is h c.in-Some.r c.in-Some-after.reader c.reader_after.result same
    (subst (λ (o : Option ℕ). IsAmong o (readers r behind)) c.in-Some-after.is among) c.reader_after.ensures)

pub returns-in-None : goal.returns-in-None
returns-in-None c = λ g r b behind graph is h among.
    let found = register_is g c.args.self.now c.args.def r b behind graph is h c.op.result.writes c.lowest.result (ap (λ (o : OpUses). o.writes) c.op.ensures) c.lowest.ensures.one in
    let same = some_same c.lowest.result c.in-Some.r r c.in-Some.is found in
    subst (λ (o : Option ℕ). c.reader_behind.result ≡ next_of o (readers r behind)) (sym c.in-None.is)
    (first_is g c.args.self.now c.args.def r b behind graph is h c.in-Some.r c.reader_behind.result same c.reader_behind.ensures)
