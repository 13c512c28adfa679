use Rattle.std.proofs.Common.{◌≡◌, ◌+◌, length, refl, ap, ◌∙◌}
use Rattle.om_flow.proofs.Chained.{zero_count, chained_first, pairs_low, hub_low, all_added}
use Rattle.om_flow.proofs.chains.reversed.Goals as goal

pub add_blocks-requires : goal.add_blocks-requires
add_blocks-requires c = rw (c.in_ok-vec.ensures.items_if_clones_equal (λ y e. e), zero_count (length c.args.blocks.now + 1)) (pairs_low c.args.blocks.now c.args.lands.now c.requires)

pub add_lands-requires : goal.add_lands-requires
add_lands-requires c =
    rw (c.in_ok-add_blocks.ensures.size, c.in_ok-vec.ensures.items_if_clones_equal (λ y e. e), zero_count (length c.args.blocks.now + 1)) (hub_low c.args.blocks.now c.args.lands.now c.requires)

pub returns : goal.returns
returns c =
    let count : length c.in_ok-vec.field-0.items ≡ length c.args.blocks.now + 1 =
    ap length (c.in_ok-vec.ensures.items_if_clones_equal (λ y e. e)) ∙ zero_count (length c.args.blocks.now + 1) in
    all_added c.args.blocks.now c.args.lands.now (length c.args.blocks.now + 1) (length c.add_blocks.new.self.heads.items) c.in_ok-vec.field-0.items c.new.result.items
    c.add_blocks.new.self.heads.items c.add_blocks.new.self.more.items c.add_lands.new.self.heads.items c.add_lands.new.self.more.items
    (rw (c.in_ok-vec.ensures.items_if_clones_equal (λ y e. e), c.new.ensures.items) (chained_first (length c.args.blocks.now + 1))) refl (rw count at c.in_ok-add_blocks.ensures) c.in_ok-add_lands.ensures
