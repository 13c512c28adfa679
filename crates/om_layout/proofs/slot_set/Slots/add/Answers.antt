use Rattle.std.proofs.Common.{length, cond, ap, sym, subst, ◌≡◌, ◌∙◌, List, Some, ◌++◌, ◌∷◌, []}
use Rattle.std.specs.Prelude.{is_some}
use Rattle.std.specs.BTreeMap.{get}
use Rattle.std.specs.Ordering.{is_eq}
use Rattle.om_prog.specs.Keys.{target_cmp}
use Rattle.om_value.specs.declared.value.Target.{Target}
use Rattle.om_prog.specs.Valid.{with_target}
use Rattle.om_layout.specs.Layout.{slot_number}
use Rattle.om_layout.specs.Found.{HasNumbers}
use Rattle.om_layout.proofs.Finding.{is_there, numbers_more, none_from, with_old, with_new}
use Rattle.om_layout.proofs.slot_set.Slots.add.Goals as goal

pub returns-then-contains_key : goal.returns-then-contains_key
returns-then-contains_key c =
    subst (λ (ts : List Target). ts ≡ with_target ts c.args.t) c.self.view_is
    (with_old c.self.inside.targets.items c.args.t (sym (is_there c.self.inside.targets.items c.args.t) ∙ ap is_some (sym (c.self.invariant.each c.args.t)) ∙ sym c.contains_key.ensures ∙ c.if-contains_key.true))

long : (c : goal.After-push_reserved) → c.len.result ≡ length c.self.inside.targets.items
long c = c.len.ensures ∙ c.reserve.new.self.ok.0 ∙ ap (λ (l : List Target). length l) c.in_ok-reserve.ensures.items

pub invariant_of-self-2 : goal.invariant_of-self-2
invariant_of-self-2 c =
    subst (λ (ts : List Target). HasNumbers ts c.insert.new.self) (sym (c.push_reserved.ensures.items ∙ ap (λ l. l ++ c.args.t ∷ []) c.in_ok-reserve.ensures.items))
    (numbers_more c.self.inside.targets.items c.self.inside.numbers c.insert.new.self c.args.t c.self.invariant
    (none_from (slot_number c.self.inside.targets.items c.args.t) (ap is_some (sym (c.self.invariant.each c.args.t)) ∙ sym c.contains_key.ensures ∙ c.if-contains_key.false))
    (λ q. subst (λ n. get target_cmp c.insert.new.self q ≡ cond (is_eq (target_cmp c.args.t q)) (Some n) (get target_cmp c.self.inside.numbers q)) (long c) (c.in_ok-insert.ensures.updates.0 q)))

pub returns : goal.returns
returns c =
    subst (λ (ts : List Target). c.push_reserved.new.self.items ≡ with_target ts c.args.t) c.self.view_is
    (c.push_reserved.ensures.items ∙ ap (λ l. l ++ c.args.t ∷ []) c.in_ok-reserve.ensures.items
    ∙ with_new c.self.inside.targets.items c.args.t (sym (is_there c.self.inside.targets.items c.args.t) ∙ ap is_some (sym (c.self.invariant.each c.args.t)) ∙ sym c.contains_key.ensures ∙ c.if-contains_key.false))
