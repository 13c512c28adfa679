use Rattle.std.proofs.Common.{◌≡◌, true, ap, sym, ◌∙◌}
use Rattle.std.specs.Prelude.{Some, is_some}
use Rattle.std.specs.BTreeMap.{get}
use Rattle.std.specs.Ordering.{nat_cmp, is_eq}
use Rattle.std.proofs.Common.{cond}
use Rattle.om_object.specs.Aims.{is_quad}
use Rattle.om_resolve.proofs.Put.{quad_put, quad_kept, quad_other, other_kind}
use Rattle.om_resolve.proofs.roles.add_slot.Goals as goal

pub returns-in_ok-insert : goal.returns-in_ok-insert
returns-in_ok-insert c rs h =
    let kind : is_quad c.args.r.now.kind ≡ true = ap is_quad c.in-RefQuad.is in
    let off = c.offset-off.ensures in
    quad_put c.args.lita.now c.args.entries.now c.insert.new.self rs c.args.r.now h kind
    (ap (λ k. is_some (get nat_cmp c.args.entries.now k)) (sym off) ∙ sym c.contains_key.ensures ∙ c.if-not-contains_key.true)
    (λ q. c.in_ok-insert.ensures.updates.0 q ∙ ap (λ k. cond (is_eq (nat_cmp k q)) (Some c.args.r.now) (get nat_cmp c.args.entries.now q)) off)

pub returns-else-not-contains_key : goal.returns-else-not-contains_key
returns-else-not-contains_key c rs h =
    quad_kept c.args.lita.now c.args.entries.now rs c.args.r.now h (ap is_quad c.in-RefQuad.is)
    (ap (λ k. is_some (get nat_cmp c.args.entries.now k)) (sym c.offset-off.ensures) ∙ sym c.contains_key.ensures ∙ c.if-not-contains_key.false)

pub returns-in_default : goal.returns-in_default
returns-in_default c rs h = quad_other c.args.lita.now c.args.entries.now rs c.args.r.now h (other_kind c.args.r.now.kind c.in_default.not-RefQuad)
