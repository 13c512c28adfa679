-- A layout of a graph of a program has the program's regions, below 2^48 as all that it places.
use Rattle.std.proofs.Common.{◌≡◌, ℕ, ◌+◌, ◌^◌, ◌<◌, ◌≤◌, Bool, true, false, cond, List, [], ◌∷◌, Option, Some, None, refl, ap, sym, ◌∙◌, arith}
use Rattle.std.specs.Prelude.{find}
use Rattle.om_value.specs.declared.value.Region.{Region}
use Rattle.om_value.specs.declared.value.Region.TheVariants.{Sec, Common, Stack, Heap}
use Rattle.om_value.specs.Same.{region_eq}
use Rattle.om_prog.specs.View.{ProgramView, init_of, size_or_none, size_of}
use Rattle.om_prog.specs.Valid.{IsProgram}
use Rattle.om_graph.specs.View.{GraphView}
use Rattle.om_graph.specs.Kept.{Comes}
use Rattle.om_graph.specs.OfProgram.{IsGraphOf}
use Rattle.om_layout.specs.Layout.{LayoutView, RegionAt, data_base, region_at, size_at, size_or, table_at}
use Rattle.om_layout.specs.Limits.{IsWithinLimits}
use Rattle.om_layout.specs.Order.{round_16, tables_end, regions_end, IsDataLayout, IsLayoutOf}
use Rattle.om_layout.proofs.Limits.{stays}
use Rattle.om_layout.proofs.Natural.{lays_out}
use Rattle.om_addr.specs.Passing.{HasRegionsOf}
use Rattle.om_encode.proofs.Extents.{SizesMatch, sizes_match}
use Rattle.om_encode.proofs.Fitting.{gp_between}
use Rattle.om_encode.proofs.Regions.{end_grows, located}

-- a region that is found is no longer than all that is placed
found_below : (a : ℕ) (rs : List RegionAt) (r : Region) (e : RegionAt) → find (λ e. region_eq e.region r) rs ≡ Some e → e.size ≤ regions_end a rs
found_below a [] r e f = cc
found_below a (x ∷ xs) r e f = by_test (found_below (round_16 a + x.size) xs r e) (region_eq x.region r) f
  where
    by_test : (find (λ e. region_eq e.region r) xs ≡ Some e → e.size ≤ regions_end a (x ∷ xs)) → (b : Bool) → cond b (Some x) (find (λ e. region_eq e.region r) xs) ≡ Some e → e.size ≤ regions_end a (x ∷ xs)
    by_test again true k =
        let same : x ≡ e = cc in
        let s : x.size ≡ e.size = ap (λ (r : RegionAt). r.size) same in
        let g = end_grows (round_16 a + x.size) xs in
        omega (arith, s, g)
    by_test again false k = again k

module _ (p : ProgramView) (prog : IsProgram p) (limits : IsWithinLimits p) (g : GraphView) (of : IsGraphOf p g) (l : LayoutView) (lay : IsDataLayout p g l) where
  sizes : SizesMatch p l
  sizes = sizes_match p l prog.once lay.extents

  data_end : regions_end (tables_end data_base l.tables) l.regions ≤ data_base + 67108864
  data_end = (stays p prog g of limits l lay).data_part

  size_is : (r : Region) → size_or (find (λ e. region_eq e.region r) l.regions) ≡ size_or_none (init_of p r)
  size_is r = by_find (find (λ e. region_eq e.region r) l.regions) refl
    where
      by_find : (o : Option RegionAt) → find (λ e. region_eq e.region r) l.regions ≡ o → size_or (find (λ e. region_eq e.region r) l.regions) ≡ size_or_none (init_of p r)
      by_find None e = ap size_or e ∙ sym (sizes.absent r e)
      by_find (Some f) e = ap size_or e ∙ sym (sizes.known r f e)

  size_small : (r : Region) → size_or_none (init_of p r) ≤ data_base + 67108864
  size_small r = by_find (find (λ e. region_eq e.region r) l.regions) refl
    where
      by_find : (o : Option RegionAt) → find (λ e. region_eq e.region r) l.regions ≡ o → size_or_none (init_of p r) ≤ data_base + 67108864
      by_find None e = let z = sizes.absent r e in omega (arith, z)
      by_find (Some f) e =
          let z = sizes.known r f e in
          let b = found_below (tables_end data_base l.tables) l.regions r f e in
          let d = data_end in
          omega (arith, z, b, d)

  sizes_are : (r : Region) → size_at l r ≡ size_of p r
  sizes_are (Sec o n) = size_is (Sec o n)
  sizes_are (Common n) = size_is (Common n)
  sizes_are Stack = refl
  sizes_are Heap = size_is Heap

  low : (r : Region) → region_at l r + size_of p r < 2 ^ 48
  low (Sec o n) =
      let h = (located p l sizes lay.tables lay.regions data_end (Sec o n) tt).below in
      let d = data_end in
      omega (arith, h, d)
  low (Common n) =
      let h = (located p l sizes lay.tables lay.regions data_end (Common n) tt).below in
      let d = data_end in
      omega (arith, h, d)
  low Stack = omega arith
  low Heap = let s = size_small Heap in omega (arith, s)

-- the global pointers lie within what is placed
pub has_regions : (p : ProgramView) → IsProgram p → IsWithinLimits p → (g : GraphView) → IsGraphOf p g → (l : LayoutView) → IsLayoutOf p g l → HasRegionsOf p l
has_regions p prog limits g of l laid = record {
  sizes = sizes_are p prog limits g of l laid.data_part;
  low = low p prog limits g of l laid.data_part;
  gps =
      λ o.
      let b = gp_between p g l prog of limits (lays_out p prog g of l laid (Comes g)) (table_at l o) in
      let h = b.1 in
      omega (arith, h);
}
