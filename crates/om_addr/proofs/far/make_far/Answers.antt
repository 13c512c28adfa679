use Rattle.std.proofs.Common.{◌≡◌, true, sym, ap, ◌∙◌, subst}
use Rattle.std.specs.Prelude.{ℤ}
use Rattle.std.specs.Int.{w16}
use Rattle.std.proofs.lemmas.Int.{to_z-of_z}
use Rattle.om_graph.specs.declared.op.OpKind.TheVariants as op
use Rattle.om_graph.specs.View.{GraphView, is_live_op, replaced}
use Rattle.om_addr.specs.Loads.{load_kind}
use Rattle.om_addr.specs.FarRow.{edits_of}
use Rattle.om_addr.specs.FarTest.{half_kind, writes_it}
use Rattle.om_addr.proofs.FarWalk.{live_all, live_there, far_edit}
use Rattle.om_addr.proofs.far.make_far.Goals as goal

pub replace-requires : goal.replace-requires
replace-requires c =
    ap (λ (h : GraphView). is_live_op h c.args.load.now.id) c.take_halves.ensures.set
    ∙ live_all c.args.g.now (edits_of (half_kind c.args.load.now.ra c.op.result.place) (writes_it c.args.load.now.ra) c.take_halves.ensures.behind) c.args.load.now.id
    ∙ live_there c.args.g.now c.args.load.now.id c.op.result c.requires.graph c.op.ensures

pub returns : goal.returns
returns c =
    far_edit c.args.load.now c.args.least c.args.g.now c.take_halves.new.g c.replace.new.self c.op.result c.requires.graph c.requires.load c.op.ensures c.take_halves.ensures
    (c.replace.ensures
    ∙ ap (λ (z : ℤ). replaced c.take_halves.new.g c.args.load.now.id (op.AddrHi c.args.load.now.ra c.args.load.now.rb c.args.load.now.target z)) (to_z-of_z w16 c.args.least c.ranges.least))
