use Rattle.std.proofs.Common.{◌<◌, inl, refl, sym, ap, subst, ◌∙◌, arith, length}
use Rattle.om_value.specs.declared.value.Place.{Place}
use Rattle.om_graph.specs.Run.{last_words}
use Rattle.om_graph.specs.Index.{index_of}
use Rattle.om_layout.specs.Layout.{position_of}
use Rattle.om_encode.specs.Encoded.{op_words}
use Rattle.om_encode.specs.Positions.{filled, with_last}
use Rattle.om_encode.proofs.PutWords.{room_front, last_room, block_put}
use Rattle.om_encode.proofs.positions.put_block.Goals as goal

pub put_ops-requires-clause-room : goal.put_ops-requires-clause-room
put_ops-requires-clause-room c =
    λ b f. room_front c.args.graph.now c.args.layout.now c.args.listed.now _ (op_words b) (last_words b.last) (c.requires.room b f)

pub put_word-requires-clause-object : goal.put_word-requires-clause-object
put_word-requires-clause-object c =
    let r =
    last_room c.args.graph.now c.args.layout.now c.args.listed.now c.args.block c.last.result c.in-Some.at (filled c.args.placing.now)
    (filled c.put_ops.new.placing) c.requires.live c.last.ensures (sym c.last_place.ensures ∙ c.in-Some.is) c.requires.room c.put_ops.ensures in
    subst (λ (q : Place). q.obj < length c.args.graph.now.counts) r.2 (r.1.object r.0 (inl refl))

pub put_word-requires-clause-text : goal.put_word-requires-clause-text
put_word-requires-clause-text c =
    let r =
    last_room c.args.graph.now c.args.layout.now c.args.listed.now c.args.block c.last.result c.in-Some.at (filled c.args.placing.now)
    (filled c.put_ops.new.placing) c.requires.live c.last.ensures (sym c.last_place.ensures ∙ c.in-Some.is) c.requires.room c.put_ops.ensures in
    subst (λ (q : Place). position_of c.args.layout.now q < length c.put_ops.new.placing.text.items) r.2 (r.1.text r.0 (inl refl))

pub put_word-requires-clause-words : goal.put_word-requires-clause-words
put_word-requires-clause-words c =
    let r =
    last_room c.args.graph.now c.args.layout.now c.args.listed.now c.args.block c.last.result c.in-Some.at (filled c.args.placing.now)
    (filled c.put_ops.new.placing) c.requires.live c.last.ensures (sym c.last_place.ensures ∙ c.in-Some.is) c.requires.room c.put_ops.ensures in
    subst (λ (q : Place). index_of c.args.graph.now.counts q < length c.put_ops.new.placing.words.items) r.2 (r.1.words r.0 (inl refl))

pub put_word-requires-clause-count : goal.put_word-requires-clause-count
put_word-requires-clause-count c =
    let r =
    last_room c.args.graph.now c.args.layout.now c.args.listed.now c.args.block c.last.result c.in-Some.at (filled c.args.placing.now)
    (filled c.put_ops.new.placing) c.requires.live c.last.ensures (sym c.last_place.ensures ∙ c.in-Some.is) c.requires.room c.put_ops.ensures in
    let n = r.1.count in
    omega (arith, n)

pub returns-in-Some : goal.returns-in-Some
returns-in-Some c =
    block_put c.args.graph.now c.args.layout.now c.args.listed.now c.args.block c.last.result (filled c.args.placing.now) (filled c.put_ops.new.placing)
    (filled c.put_word.new.placing) c.last.ensures c.put_ops.ensures
    (c.put_word.ensures ∙ ap (with_last c.args.graph.now c.args.layout.now c.args.listed.now (filled c.put_ops.new.placing)) (sym c.in-Some.is ∙ c.last_place.ensures))
