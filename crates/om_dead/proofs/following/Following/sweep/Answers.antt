use Rattle.om_dead.proofs.OnSweeps.{flow_of}
use Rattle.om_dead.proofs.OnFollowing.{sweeping_one, one_deleted, one_program, one_holds, one_live}
use Rattle.om_dead.proofs.following.Following.sweep.Goals as goal

pub find_end-requires-clause-flow : goal.find_end-requires-clause-flow
find_end-requires-clause-flow c = flow_of c.args.g.now c.requires.following.program

pub end-end-requires : goal.end-end-requires
end-end-requires c = (c.find_end.ensures.room c.args.b c.requires.live).1

pub sweep_block-requires-clause-sweeping : goal.sweep_block-requires-clause-sweeping
sweep_block-requires-clause-sweeping c =
    sweeping_one c.args.g.now c.requires.following.program c.find_end.new.self.starts.items c.find_end.new.self.ends.items c.find_end.ensures c.args.b c.end-end.result c.end-end.ensures

pub returns-clause-deleted : goal.returns-clause-deleted
returns-clause-deleted c =
    one_deleted c.args.g.now c.requires.following.program c.find_end.new.self.starts.items c.find_end.new.self.ends.items c.find_end.ensures c.args.b c.sweep_block.new.g c.end-end.result
    c.sweep_block.result c.end-end.ensures c.sweep_block.ensures.swept

pub returns-clause-following : goal.returns-clause-following
returns-clause-following c = record {
  program = one_program c.args.g.now c.requires.following.program c.find_end.new.self.starts.items c.find_end.new.self.ends.items c.find_end.ensures c.args.b c.sweep_block.new.g c.end-end.result
      c.sweep_block.result c.end-end.ensures c.sweep_block.ensures.swept;
  holds = one_holds c.args.g.now c.requires.following.program c.find_end.new.self.starts.items c.find_end.new.self.ends.items c.find_end.ensures c.args.b c.sweep_block.new.g c.end-end.result
      c.sweep_block.result c.end-end.ensures c.sweep_block.ensures.swept;
  empty = c.sweep_block.ensures.empty;
}

pub returns-clause-live : goal.returns-clause-live
returns-clause-live c =
    one_live c.args.g.now c.requires.following.program c.find_end.new.self.starts.items c.find_end.new.self.ends.items c.find_end.ensures c.args.b c.sweep_block.new.g c.end-end.result
    c.sweep_block.result c.end-end.ensures c.sweep_block.ensures.swept c.args.b c.requires.live
