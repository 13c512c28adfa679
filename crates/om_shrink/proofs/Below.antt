-- In a layout within the limits no region reaches 2 ^ 64.
use Rattle.std.proofs.Common.{◌≡◌, inl, inr, ◌<◌, ◌≤◌, ℕ, zero, suc, ◌+◌, ◌*◌, ◌/◌, ◌^◌, Bool, true, false, List, [], ◌∷◌, map, Option, Some, None, refl, sym, ap, ◌∙◌, subst, arith}
use Rattle.std.specs.Prelude.{find, slice_get, is_some}
use Rattle.std.proofs.lemmas.Bool.{true≢false}
use Rattle.om_value.specs.declared.value.Region.{Region}
use Rattle.om_value.specs.declared.value.Region.TheVariants.{Sec, Common, Stack, Heap}
use Rattle.om_value.specs.Same.{region_eq}
use Rattle.om_prog.specs.declared.region.RegionInit.{RegionInit}
use Rattle.om_prog.specs.View.{ProgramView, init_of, size_of, size_or_none}
use Rattle.om_prog.specs.Valid.{IsProgram, AreOnce}
use Rattle.om_prog.proofs.Found.{same_region}
use Rattle.om_graph.specs.View.{GraphView, Has}
use Rattle.om_graph.proofs.OfProgram.{of_map, to_map}
use Rattle.om_layout.specs.Layout.{LayoutView, RegionAt, data_base, is_region, region_there, region_at}
use Rattle.om_layout.specs.Order.{PlacedRegions, tables_end, regions_end, extent_at, extent_of, IsDataLayout}
use Rattle.om_layout.specs.Limits.{StaysInLimits}
use Rattle.om_layout.proofs.FewSlots.{region_self}
use Rattle.om_shrink.specs.Placed.{IsData}
use Rattle.om_shrink.proofs.Distances.{shuffled}
use Rattle.om_shrink.proofs.There.{found_has, has_index}

end_behind : (rs : List RegionAt) (a : ℕ) → a ≤ regions_end a rs
end_behind [] a = omega arith
end_behind (r ∷ rs) a = let e = end_behind rs ((a + 15) / 16 * 16 + r.size) in omega (arith, e)

inside : (rs : List RegionAt) (a : ℕ) (e : RegionAt) → PlacedRegions a rs → Has rs e → e.address + e.size ≤ regions_end a rs
inside [] a e p h = absurd h
inside (r ∷ rs) a e p (inl i) =
    let b = end_behind rs ((a + 15) / 16 * 16 + r.size) in
    let p0 = p.0 in
    let c = ap (λ (x : RegionAt). x.address) i in
    let d = ap (λ (x : RegionAt). x.size) i in
    omega (arith, b, p0, c, d)
inside (r ∷ rs) a e p (inr h) = inside rs ((a + 15) / 16 * 16 + r.size) e p.1 h

same_init : (rs : List RegionInit) → AreOnce rs → (a b : RegionInit) → Has rs a → Has rs b → a.region ≡ b.region → a ≡ b
same_init [] o a b h k e = absurd h
same_init (x ∷ rs) o a b (inl i) (inl j) e = sym i ∙ j
same_init (x ∷ rs) o a b (inl i) (inr k) e =
    let n = has_index rs b k in
    let f = o.apart 0 (suc n.0) x b (omega arith) refl n.1 in
    absurd (true≢false (sym (ap (λ (y : Region). region_eq y b.region) (ap (λ (y : RegionInit). y.region) i ∙ e) ∙ region_self b.region) ∙ f))
same_init (x ∷ rs) o a b (inr h) (inl j) e =
    let n = has_index rs a h in
    let f = o.apart 0 (suc n.0) x a (omega arith) refl n.1 in
    absurd (true≢false (sym (ap (λ (y : Region). region_eq y a.region) (ap (λ (y : RegionInit). y.region) j ∙ sym e) ∙ region_self a.region) ∙ f))
same_init (x ∷ rs) o a b (inr h) (inr k) e = same_init rs (record { apart = λ j k a b l e f. o.apart (suc j) (suc k) a b (omega (arith, l)) e f }) a b h k e

module _ (p : ProgramView) (prog : IsProgram p) (g : GraphView) (l : LayoutView) (lay : IsDataLayout p g l) (stays : StaysInLimits g l) where
  size_is : (r : Region) (e : RegionAt) → IsData r → region_there l r ≡ Some e → size_of p r ≤ e.size
  size_is r e d f =
      let h = found_has (is_region r) l.regions e f in
      let s : e.region ≡ r = same_region e.region r h.1 in
      let at = shuffled (map extent_at l.regions) (map extent_of p.regions) (extent_at e) lay.extents (to_map extent_at l.regions e h.0) in
      let x = of_map extent_of p.regions (extent_at e) at in
      by_region r d x.0 x.1 (ap (λ (y : Region × ℕ). y.0) x.2 ∙ s) (ap (λ (y : Region × ℕ). y.1) x.2)
    where
      by_init : (q : Region) (o : Option RegionInit) → init_of p q ≡ o → (x : RegionInit) → Has p.regions x → x.region ≡ q → x.size ≡ e.size → size_or_none o ≤ e.size
      by_init q None i x h s z = omega arith
      by_init q (Some y) i x h s z =
          let f = found_has (λ i. region_eq i.region q) p.regions y i in
          let t : y ≡ x = same_init p.regions prog.once y x f.0 h (same_region y.region q f.1 ∙ sym s) in
          let w = ap (λ (v : RegionInit). v.size) t in
          omega (arith, w, z)

      by_region : (q : Region) → IsData q → (x : RegionInit) → Has p.regions x → x.region ≡ q → x.size ≡ e.size → size_of p q ≤ e.size
      by_region (Sec i n) d x h s z = by_init (Sec i n) (init_of p (Sec i n)) refl x h s z
      by_region (Common n) d x h s z = by_init (Common n) (init_of p (Common n)) refl x h s z
      by_region Stack d x h s z = absurd d
      by_region Heap d x h s z = absurd d

  pub stays_below : (r : Region) (e : RegionAt) → IsData r → region_there l r ≡ Some e → region_at l r + size_of p r < 2 ^ 64
  stays_below r e d f =
      let s = size_is r e d f in
      let h = found_has (is_region r) l.regions e f in
      let i = inside l.regions (tables_end data_base l.tables) e lay.regions h.0 in
      let b = stays.data_part in
      let a = address r d f in
      omega (arith, s, i, b, a)
    where
      address : (r : Region) → IsData r → region_there l r ≡ Some e → region_at l r ≡ e.address
      address (Sec i n) d f = rw f refl
      address (Common n) d f = rw f refl
      address Stack d f = absurd d
      address Heap d f = absurd d
