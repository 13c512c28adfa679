use Rattle.std.proofs.Common.{◌≡◌, ◌<◌, ℕ, false, get_or, length, refl, sym, ap, ◌∙◌, subst}
use Rattle.std.proofs.lemmas.List.{get_or_default}
use Rattle.om_dead.proofs.Growing.{one_grown}
use Rattle.om_dead.proofs.kept.Found.add.Goals as goal

pub returns : goal.returns
returns c =
    let low : c.number.result < length c.args.self.now.set.items = subst (λ (i : ℕ). i < length c.args.self.now.set.items) (sym c.number.ensures) c.requires in
    let new : get_or c.args.self.now.set.items c.args.b false ≡ false =
    ap (λ (i : ℕ). get_or c.args.self.now.set.items i false) (sym c.number.ensures) ∙ get_or_default c.args.self.now.set.items c.number.result false c.index.result.now low ∙ sym c.index.ensures ∙ c.if-index.false in
    rw (c.number-2.ensures, c.in_ok-push.ensures.items) (one_grown (λ id. c.args.b ≡ id) c.args.b c.args.self.now.set.items c.args.self.now.work.items c.requires new refl (λ id e. e))
