use Rattle.std.proofs.Common.{◌≡◌, ◌+◌, ◌-◌, List, length, Some, ap, ◌∙◌, arith}
use Rattle.std.specs.Prelude.{slice_get}
use Rattle.om_layout.specs.Layout.{LayoutView, RegionAt, data_base}
use Rattle.om_layout.specs.Order.{tables_end, regions_end}
use Rattle.om_encode.specs.DataBytes.{HasData}
use Rattle.om_encode.proofs.Mapped.{last_region}
use Rattle.om_encode.proofs.filling.data_end.Goals as goal

end_is :
    (l : LayoutView) (rs : List RegionAt) (r : RegionAt) → HasData l → rs ≡ l.regions → Some r ≡ slice_get rs (length rs - 1) →
    r.address + r.size ≡ regions_end (tables_end data_base l.tables) l.regions
end_is l rs r h same e =
    last_region (tables_end data_base l.tables) l.regions r h.regions (e ∙ ap (λ (xs : List RegionAt). slice_get xs (length xs - 1)) same)

pub overflow_add-result : goal.overflow_add-result
overflow_add-result c =
    let last = end_is c.args.layout.now c.regions.result.now c.in-Some.placed.now c.requires c.regions.ensures c.in-Some.ensures.value in
    let address = c.address.ensures in
    let size = c.size.ensures in
    let limit = c.requires.limit in
    omega (arith, last, address, size, limit)

pub returns-in-Some : goal.returns-in-Some
returns-in-Some c =
    let last = end_is c.args.layout.now c.regions.result.now c.in-Some.placed.now c.requires c.regions.ensures c.in-Some.ensures.value in
    let address = c.address.ensures in
    let size = c.size.ensures in
    omega (arith, last, address, size)
