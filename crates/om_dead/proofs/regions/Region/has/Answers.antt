use Rattle.std.proofs.Common.{◌≡◌, ◌<◌, ℕ, List, nat_eq, true, length, get_or, arith, sym, ◌∙◌, subst}
use Rattle.std.proofs.lemmas.Bool.{eqb-true}
use Rattle.om_graph.specs.View.{Has}
use Rattle.om_dead.proofs.OnLowering.{has_at}
use Rattle.om_dead.proofs.regions.Region.has.Goals as goal

-- what stands at a place is there
there : (blocks : List ℕ) (i d x n m b : ℕ) → i < length blocks → x ≡ get_or blocks i d → n ≡ x → m ≡ b → nat_eq n m ≡ true → Has blocks b
there blocks i d x n m b l is e f t = subst (λ (y : ℕ). Has blocks y) (sym is ∙ sym e ∙ eqb-true n m t ∙ f) (has_at blocks i d l)

pub returns-then-at-len : goal.returns-then-at-len
returns-then-at-len c = λ t.
    there c.args.self.now.blocks.items c.index-at.result.now _ c.index.result.now c.number.result c.number-n.result c.args.b (omega (arith, c.if-at-len.true, c.len-2.ensures)) c.index.ensures c.number.ensures c.number-n.ensures t
