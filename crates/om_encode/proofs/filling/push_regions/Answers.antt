use Rattle.std.proofs.Common.{◌≡◌, List, ap, sym, ◌∙◌, arith}
use Rattle.std.specs.Prelude.{find, option_copied}
use Rattle.om_value.specs.Same.{region_eq}
use Rattle.om_prog.specs.declared.region.RegionInit.{RegionInit}
use Rattle.om_prog.specs.View.{init_of}
use Rattle.om_encode.specs.DataBytes.{with_pieces, region_pieces, pieces_of}
use Rattle.om_encode.proofs.Mapped.{found_fills, regions_step}
use Rattle.om_encode.proofs.filling.push_regions.Goals as goal

pub push_placed-requires : goal.push_placed-requires
push_placed-requires c = record {
  fits =
      λ x e.
      found_fills c.args.program.now c.args.layout.now c.regions-regions.ensures.program c.requires c.region.result x.now
      (sym (c.init_in-init.ensures ∙ ap (λ (rs : List RegionInit). find (λ (i : RegionInit). region_eq i.region c.region.result) rs) c.regions-regions.ensures.value)
      ∙ ap (λ o. option_copied o) e);
}

pub loop-placed-preserved : goal.loop-placed-preserved
loop-placed-preserved c =
    let region : c.region.result ≡ c.placed-item.result.region = cc in
    let put : c.push_placed.new.out.items ≡ with_pieces (pieces_of c.args.layout.now c.placed-item.result (option_copied c.init_in-init.result)) c.loop-placed.out.items = cc (c.in_ok-push_placed.ensures) in
    regions_step c.args.program.now c.args.layout.now c.regions-placed-items.result.now c.args.layout.now.regions c.loop-placed.placed-index c.placed-item.result
    (option_copied c.init_in-init.result) c.loop-placed.out.items c.push_placed.new.out.items
    (with_pieces (region_pieces c.args.layout.now c.args.program.now c.args.layout.now.regions) c.args.out.now.items)
    c.regions-placed-items.ensures (omega arith) c.placed-item.is
    (c.init_in-init.ensures ∙ ap (λ (rs : List RegionInit). find (λ (i : RegionInit). region_eq i.region c.region.result) rs) c.regions-regions.ensures.value ∙ ap (init_of c.args.program.now) region)
    put c.loop-placed.invariant
