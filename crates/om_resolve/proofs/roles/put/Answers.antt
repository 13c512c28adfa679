use Rattle.std.proofs.Common.{◌≡◌, ◌/◌, ◌<◌, Option, None, ap, sym, ◌∙◌, arith, length, slice_index_or}
use Rattle.std.specs.Prelude.{is_some}
use Rattle.om_prog.specs.declared.item.Role.{Role}
use Rattle.om_resolve.proofs.Put.{role_put, role_kept, same-entry}
use Rattle.om_resolve.proofs.roles.put.Goals as goal

pub returns-then-off-ne0-clause-roles : goal.returns-then-off-ne0-clause-roles
returns-then-off-ne0-clause-roles c rs h =
    role_kept c.args.roles.now.items rs c.args.off c.args.role h (λ k below e. absurd (omega (arith, e, c.if-off-ne0.true)))

pub returns-then-off-len-clause-roles : goal.returns-then-off-len-clause-roles
returns-then-off-len-clause-roles c rs h =
    role_kept c.args.roles.now.items rs c.args.off c.args.role h (λ k below e. absurd (omega (arith, e, below, c.len.ensures, c.if-off-len.true)))

pub returns-then-is_some-clause-roles : goal.returns-then-is_some-clause-roles
returns-then-is_some-clause-roles c rs h =
    role_kept c.args.roles.now.items rs c.args.off c.args.role h
    (λ k below e.
    let word : k ≡ c.args.off / 4 = omega (arith, e) in
    let inside : c.args.off / 4 < length c.args.roles.now.items = omega (arith, word, below) in
    ap (λ j. is_some (slice_index_or c.args.roles.now.items j None)) word
    ∙ ap (λ (o : Option Role). is_some o) (sym (same-entry c.args.roles.now.items (c.args.off / 4) c.index.result.now inside c.index.ensures))
    ∙ sym c.is_some.ensures ∙ c.if-is_some.true)

pub returns-clause-roles : goal.returns-clause-roles
returns-clause-roles c rs h =
    let inside : c.args.off / 4 < length c.args.roles.now.items = omega (arith, c.len.ensures, c.if-off-len.false) in
    role_put c.args.roles.now.items rs c.args.off c.args.role (c.args.off / 4) h inside (omega (arith, c.if-off-ne0.false))
    (ap (λ (o : Option Role). is_some o) (sym (same-entry c.args.roles.now.items (c.args.off / 4) c.index.result.now inside c.index.ensures))
    ∙ sym c.is_some.ensures ∙ c.if-is_some.false)
