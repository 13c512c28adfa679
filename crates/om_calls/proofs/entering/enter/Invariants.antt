use Rattle.om_prog.specs.View.{ProgramView}
use Rattle.om_blocks.specs.Found.{facts_in}
use Rattle.om_graph.specs.Checks.{GpChecked}
use Rattle.om_graph.specs.Run.{graph_script}
use Rattle.om_calls.specs.Entries.{NoEnterIn}
use Rattle.om_calls.proofs.Blocks.{OnPass, left_in}
use Rattle.om_calls.proofs.entering.enter.Given as goal

abbrev pub invariant-loop-next : goal.invariant-loop-next
invariant-loop-next l =
    record {
      pass : OnPass (NoEnterIn l.f) l.initial.g l.next l.changed l.g;
      facts : (p : ProgramView) → GpChecked (graph_script p l.g) (facts_in l.g l.f) l.g;
    }

abbrev pub decreases-loop-next : goal.decreases-loop-next
decreases-loop-next l = left_in l.g l.next
