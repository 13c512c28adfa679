use Rattle.std.proofs.Common.{◌≡◌, sym, ap, subst, slice_index_or, ◌∙◌, arith}
use Rattle.std.proofs.lemmas.List.{get_or_default}
use Rattle.om_layout.specs.Layout.{LayoutView, position_of}
use Rattle.om_layout.specs.contracts.layout.Layout.{the_view}
use Rattle.om_layout.proofs.Finding.{no_position, inside, number_read}
use Rattle.om_layout.proofs.layout.Layout.position.Goals as goal

pub returns-then-obj-len : goal.returns-then-obj-len
returns-then-obj-len c =
    let t = c.if-obj-len.true in
    let l = c.len.ensures in
    let o = c.self.inside.starts.ok.0 in
    subst (λ (v : LayoutView). 0 ≡ position_of v c.args.place) c.self.view_is
    (sym (no_position (the_view c.self.inside) c.self.inside.starts.items c.args.place c.self.invariant (omega (arith, t, l, o))))

pub index-requires-3 : goal.index-requires-3
index-requires-3 c =
    let t = c.if-obj-len.false in
    let l = c.len.ensures in
    let o = c.self.inside.starts.ok.0 in
    let p = c.self.inside.positions.ok.0 in
    let n = number_read c.self.inside.counts.items c.self.inside.starts.items c.self.inside.positions.items c.args.place c.index.result.now c.index-2.result.now c.min.result
    c.self.invariant (omega (arith, t, l, o)) c.index.ensures c.index-2.ensures c.min.ensures in
    let i = inside c.self.inside.counts.items c.self.inside.starts.items c.self.inside.positions.items c.args.place c.self.invariant (omega (arith, t, l, o)) in
    grind (arith, n, i, p)

pub overflow_add-index : goal.overflow_add-index
overflow_add-index c =
    let i = index-requires-3 c in
    let o = c.self.inside.positions.ok.1 in
    let s = c.self.inside.positions.small in
    grind (arith, i, o, s)

pub returns : goal.returns
returns c =
    let t = c.if-obj-len.false in
    let l = c.len.ensures in
    let o = c.self.inside.starts.ok.0 in
    let n = number_read c.self.inside.counts.items c.self.inside.starts.items c.self.inside.positions.items c.args.place c.index.result.now c.index-2.result.now c.min.result
    c.self.invariant (omega (arith, t, l, o)) c.index.ensures c.index-2.ensures c.min.ensures in
    let i = inside c.self.inside.counts.items c.self.inside.starts.items c.self.inside.positions.items c.args.place c.self.invariant (omega (arith, t, l, o)) in
    subst (λ (v : LayoutView). c.index-3.result.now ≡ position_of v c.args.place) c.self.view_is
    (c.index-3.ensures ∙ get_or_default c.self.inside.positions.items _ c.index-3.result.now 0 (omega (arith, n, i)) ∙ ap (λ k. slice_index_or c.self.inside.positions.items k 0) n)
