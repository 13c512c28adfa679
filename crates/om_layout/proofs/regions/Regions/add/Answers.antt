use Rattle.std.proofs.Common.{◌≡◌, cond, Some, List, [], ◌∷◌, ◌++◌, None, find, ap, sym, subst, ◌∙◌}
use Rattle.std.specs.BTreeMap.{get}
use Rattle.std.specs.Ordering.{is_eq}
use Rattle.om_value.specs.declared.value.Region.{Region}
use Rattle.om_prog.specs.Keys.{region_cmp}
use Rattle.om_layout.specs.Layout.{RegionAt, is_region}
use Rattle.om_layout.specs.Found.{HasRegions}
use Rattle.om_layout.proofs.Finding.{regions_more}
use Rattle.om_layout.proofs.regions.Regions.add.Goals as goal

pub invariant_of-self-2 : goal.invariant_of-self-2
invariant_of-self-2 c =
    subst (λ (rs : List RegionAt). HasRegions rs c.insert.new.self) (sym (c.push_reserved.ensures.items ∙ ap (λ l. l ++ c.args.placed ∷ []) c.in_ok-reserve.ensures.items))
    (regions_more c.self.inside.placed.items c.self.inside.by_region c.insert.new.self c.args.placed c.self.invariant
    (subst (λ (rs : List RegionAt). find (is_region c.args.placed.region) rs ≡ None) (sym c.self.view_is) c.requires)
    (λ q. subst (λ (r : Region). get region_cmp c.insert.new.self q ≡ cond (is_eq (region_cmp r q)) (Some c.args.placed) (get region_cmp c.self.inside.by_region q)) c.region.ensures (c.in_ok-insert.ensures.updates.0 q)))
