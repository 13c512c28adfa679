-- One more item of a part of a map.
use Rattle.std.proofs.Common.{◌≡◌, ℕ, ◌+◌, ◌*◌, List, [], ◌∷◌, ◌++◌, ap, sym, ◌∙◌, arith}
use Rattle.om_fields.specs.Places.{each}
use Rattle.om_fields.proofs.Each.{each-snoc}
use Rattle.om_image.specs.declared.map.MapObj.{MapObj}
use Rattle.om_image.specs.declared.map.MapTable.{MapTable}
use Rattle.om_image.specs.declared.map.MapRegion.{MapRegion}
use Rattle.om_image.specs.declared.map.MapWord.{MapWord}
use Rattle.om_image.specs.declared.map.Map.{Map}
use Rattle.om_image.specs.declared.shape.Shape.{Shape}
use Rattle.om_image.specs.Shapes.{IsShape}
use Rattle.om_image.specs.MapFields.{objects_in, tables_in, regions_in, words_in, regions_at, words_at, map_of, object_at, table_at, map_region_at, source_at}

pub tables_next : (b : List ℕ) (n : ℕ) → each (table_at b) (n + 1) ≡ each (table_at b) n ++ table_at b n ∷ []
tables_next b n = each-snoc (table_at b) n

pub next_item : {X : Type 0} (f : ℕ → X) (xs ys : List X) (x : X) (n : ℕ) → ys ≡ xs ++ x ∷ [] → xs ≡ each f n → x ≡ f n → ys ≡ each f (n + 1)
next_item {X} f xs ys x n new so_far is =
    new ∙ ap (λ (zs : List X). zs ++ x ∷ []) so_far ∙ ap (λ (y : X). each f n ++ y ∷ []) is ∙ sym (each-snoc f n)

pub same_map : (os ps : List MapObj) (ts us : List MapTable) (rs qs : List MapRegion) (ws vs : List MapWord) → os ≡ ps → ts ≡ us → rs ≡ qs → ws ≡ vs
    → (let m : Map = record { objects = os; tables = ts; regions = rs; words = ws } in
    let n : Map = record { objects = ps; tables = us; regions = qs; words = vs } in m ≡ n)
same_map os ps ts us rs qs ws vs ho ht hr hw = cc

-- the parts of a map, read by their counts
pub map_made : (b : List ℕ) (s : Shape) (os : List MapObj) (ts : List MapTable) (rs : List MapRegion) (ws : List MapWord) → IsShape s b
    → os ≡ each (λ k. object_at b (24 + 8 * k)) s.objects → ts ≡ each (table_at b) s.tables
    → rs ≡ each (λ k. map_region_at b (24 + 8 * s.objects + 16 * s.tables + 24 * s.slots + 32 * k)) s.regions
    → ws ≡ each (λ k. source_at b (24 + 8 * s.objects + 16 * s.tables + 24 * s.slots + 32 * s.regions + 8 * k)) s.words
    → (let m : Map = record { objects = os; tables = ts; regions = rs; words = ws } in m ≡ map_of b)
map_made b s os ts rs ws shape ho ht hr hw =
    let at : 24 + 8 * s.objects + 16 * s.tables + 24 * s.slots ≡ regions_at b =
    let eo = shape.objects in let et = shape.tables in let el = shape.slots in omega (arith, eo, et, el) in
    let end : 24 + 8 * s.objects + 16 * s.tables + 24 * s.slots + 32 * s.regions ≡ words_at b =
    let er = shape.regions in omega (arith, at, er) in
    same_map os (each (λ k. object_at b (24 + 8 * k)) (objects_in b)) ts (each (table_at b) (tables_in b))
    rs (each (λ k. map_region_at b (regions_at b + 32 * k)) (regions_in b)) ws (each (λ k. source_at b (words_at b + 8 * k)) (words_in b))
    (ho ∙ ap (λ (n : ℕ). each (λ k. object_at b (24 + 8 * k)) n) shape.objects)
    (ht ∙ ap (λ (n : ℕ). each (table_at b) n) shape.tables)
    (hr ∙ ap (λ (p : ℕ). each (λ k. map_region_at b (p + 32 * k)) s.regions) at ∙ ap (λ (n : ℕ). each (λ k. map_region_at b (regions_at b + 32 * k)) n) shape.regions)
    (hw ∙ ap (λ (p : ℕ). each (λ k. source_at b (p + 8 * k)) s.words) end ∙ ap (λ (n : ℕ). each (λ k. source_at b (words_at b + 8 * k)) n) shape.words)
