use Rattle.std.proofs.Common.{refl, sym}
use Rattle.std.proofs.lemmas.Bool.{true≢false}
use Rattle.om_live.proofs.OnChecks.{all_checked, jump_covers, landed_covered, covers_landed}
use Rattle.om_live.proofs.checks.check.Goals as goal

pub returns-in-Some : goal.returns-in-Some
returns-in-Some c =
    let g = c.args.g.now in
    let out = c.in-Some.out in
    let passes = c.in-Some.ensures.some out refl in (
      λ t. all_checked g c.is_graph.ensures c.requires c.args.l.now out passes
          (landed_covered g c.is_graph.ensures c.requires c.args.l.now out c.landed.result c.landed.ensures (c.covers.ensures.0 t)),
      λ checked. c.covers.ensures.1
          (covers_landed g c.is_graph.ensures c.requires c.args.l.now out c.landed.result c.landed.ensures
          (jump_covers g c.is_graph.ensures c.requires c.args.l.now out checked passes)),
    )

pub returns-in-None : goal.returns-in-None
returns-in-None c = (λ t. absurd (true≢false (sym t)), λ checked. absurd (c.in-None.ensures.none refl checked))
