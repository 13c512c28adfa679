use Rattle.om_graph.specs.Kept.{Comes}
use Rattle.om_graph.proofs.LiftedOf.{lifted_of}
use Rattle.om_layout.specs.Layout.{gp_of, address_of}
use Rattle.om_layout.proofs.Natural.{lays_out}
use Rattle.om_encode.proofs.Reached.{reached_branches_fit}
use Rattle.om_link.proofs.Lifted.{ops_fit, branches_in_reach}
use Rattle.om_link.proofs.Images.{plain_image}
use Rattle.om_link.proofs.linking.plain_image.Goals as goal

pub encode_image-requires-clause-layout : goal.encode_image-requires-clause-layout
encode_image-requires-clause-layout c =
    let p = c.args.program.now in
    let g = c.in_ok-graph.graph in
    lays_out p c.requires.program g (lifted_of p c.requires.program g c.in_ok-graph.ensures.lifted) c.in_ok-layout.layout c.in_ok-layout.ensures (Comes g)

pub encode_image-requires-clause-fits : goal.encode_image-requires-clause-fits
encode_image-requires-clause-fits c =
    ops_fit c.args.program.now c.requires.program c.in_ok-graph.graph c.in_ok-graph.ensures.lifted (gp_of c.in_ok-layout.layout) (address_of c.in_ok-layout.layout)

pub encode_image-requires-clause-branches : goal.encode_image-requires-clause-branches
encode_image-requires-clause-branches c =
    let p = c.args.program.now in
    let g = c.in_ok-graph.graph in
    reached_branches_fit p g c.in_ok-layout.layout c.requires.program (lifted_of p c.requires.program g c.in_ok-graph.ensures.lifted) c.in_ok-layout.ensures
    (branches_in_reach p c.requires.program g c.in_ok-graph.ensures.lifted c.requires.reach)

pub returns : goal.returns
returns c =
    plain_image c.args.program.now c.in_ok-graph.graph c.in_ok-layout.layout c.in_ok-image.image c.requires.program c.in_ok-graph.ensures.lifted
    c.in_ok-layout.ensures c.in_ok-image.ensures.map c.in_ok-image.ensures.valid
