use Rattle.std.proofs.Common.{◌≡◌, true, sym, ap, ◌∙◌, subst}
use Rattle.om_graph.specs.declared.op.OpKind.{OpKind}
use Rattle.om_graph.specs.View.{GraphView, replaced}
use Rattle.om_addr.proofs.Nears.{near_taken}
use Rattle.om_addr.proofs.near_loads.take_address.Goals as goal

pub returns : goal.returns
returns c = record {
  passed = λ l said masks.
      near_taken l masks c.args.g.now c.is_graph.ensures c.is_numbered.ensures c.args.load.now c.requires.load c.requires.slot c.requires.register c.requires.bytes c.args.at c.requires.near said c.replace.new.self
      (c.replace.ensures ∙ ap (λ (k : OpKind). replaced c.args.g.now c.args.load.now.id k) c.address_load-kind.ensures);
}
