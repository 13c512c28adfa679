use Rattle.om_tests_graphs.proofs.solved.grouped.Goals as goal

pub returns : goal.returns
returns c = c.in_ok-group.ensures.of c.args.p.now c.objects.ensures.program c.in_ok-g.ensures.of
