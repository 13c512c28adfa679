use Rattle.std.proofs.Common.{◌+◌, ap, ◌∙◌}
use Rattle.om_resolve.specs.Linked.{words_before}
use Rattle.om_resolve.proofs.Meanings.{start_there}
use Rattle.om_resolve.proofs.scans.index.Goals as goal

pub returns-clause-value : goal.returns-clause-value
returns-clause-value c =
    let start = start_there c.args.l.now c.requires c.args.q.obj in
    ap (λ n. n + c.from-2.result) (c.from.ensures ∙ c.start.ensures ∙ start) ∙ ap (λ n. words_before c.args.l.now.objects.now c.args.q.obj + n) c.from-2.ensures
