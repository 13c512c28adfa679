use Rattle.std.proofs.Common.{refl, ap, sym, ◌∙◌}
use Rattle.std.specs.Prelude.{List, ℕ, length}
use Rattle.om_graph.specs.View.{numbers_from}
use Rattle.om_graph.proofs.OfProgram.{map_length}
use Rattle.om_link.proofs.Grouped.{may_begin, lays, branches, full_image}
use Rattle.om_link.proofs.linking.full_image.Goals as goal

pub group-requires-clause-places : goal.group-requires-clause-places
group-requires-clause-places c = c.in_ok-graph.ensures.whole.places

pub group-requires-clause-own : goal.group-requires-clause-own
group-requires-clause-own c =
    let l = c.in_ok-graph.ensures.lifted in
    l.tables ∙ ap (numbers_from 0) (sym (ap (λ (cs : List ℕ). length cs) l.counts ∙ map_length (λ t. length t) c.args.program.now.texts))

pub rounds-requires-clause-begins : goal.rounds-requires-clause-begins
rounds-requires-clause-begins c =
    let p = c.args.program.now in
    let lifted = c.in_ok-graph.ensures.lifted in
    may_begin p c.requires.program c.in_ok-graph.graph lifted c.group.new.graph (c.in_ok-group.ensures.grouped refl p c.requires.program lifted) c.requires.reach
    (c.in_ok-group.ensures.full refl)

pub encode_image-requires-clause-layout : goal.encode_image-requires-clause-layout
encode_image-requires-clause-layout c =
    let p = c.args.program.now in
    let lifted = c.in_ok-graph.ensures.lifted in
    lays p c.requires.program c.in_ok-graph.graph lifted c.group.new.graph (c.in_ok-group.ensures.grouped refl p c.requires.program lifted) c.rounds.new.g
    c.in_ok-layout.layout c.in_ok-layout.ensures

pub encode_image-requires-clause-branches : goal.encode_image-requires-clause-branches
encode_image-requires-clause-branches c =
    let p = c.args.program.now in
    let lifted = c.in_ok-graph.ensures.lifted in
    branches p c.requires.program c.in_ok-graph.graph lifted c.group.new.graph (c.in_ok-group.ensures.grouped refl p c.requires.program lifted) c.rounds.new.g
    c.in_ok-layout.layout c.in_ok-layout.ensures

pub returns : goal.returns
returns c =
    let p = c.args.program.now in
    let lifted = c.in_ok-graph.ensures.lifted in
    full_image p c.requires.program c.in_ok-graph.graph lifted c.group.new.graph (c.in_ok-group.ensures.grouped refl p c.requires.program lifted) c.rounds.new.g
    c.in_ok-layout.layout c.in_ok-layout.ensures c.in_ok-image.image c.requires.limits c.in_ok-image.ensures.map c.in_ok-image.ensures.valid
