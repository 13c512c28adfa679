-- An image of which the data is that of a layout, and of which the map has the layout's tables and regions.
use Rattle.std.proofs.Common.{◌≡◌, ℕ, zero, suc, ◌+◌, ◌-◌, ◌*◌, ◌<◌, List, [], ◌∷◌, length, Some, refl, ap, sym, ◌∙◌, arith, slice_index_or}
use Rattle.std.specs.Prelude.{map, slice_get, slice_index, unwrap_or}
use Rattle.om_fields.specs.Places.{each_from}
use Rattle.om_prog.specs.declared.item.Item.{Item}
use Rattle.om_prog.specs.declared.region.RegionInit.{RegionInit}
use Rattle.om_prog.specs.View.{ProgramView, word_count}
use Rattle.om_prog.specs.Valid.{IsProgram}
use Rattle.om_graph.specs.View.{GraphView}
use Rattle.om_graph.specs.Kept.{Comes}
use Rattle.om_graph.specs.OfProgram.{IsGraphOf}
use Rattle.om_graph.proofs.OfProgram.{map_length}
use Rattle.om_image.specs.declared.image.Image.{Image}
use Rattle.om_image.specs.declared.map.MapObj.{MapObj}
use Rattle.om_layout.specs.Layout.{LayoutView, data_base, code_at, region_at, gp_of, table_at}
use Rattle.om_layout.specs.Facts.{LaysOut}
use Rattle.om_layout.specs.Order.{tables_end, regions_end}
use Rattle.om_layout.specs.Limits.{IsWithinLimits}
use Rattle.om_layout.proofs.Limits.{stays}
use Rattle.om_encode.specs.Data.{DataIsTrue, HasWidths, data_byte, region_byte, map_table, map_region, data_given}
use Rattle.om_encode.specs.DataBytes.{map_object, map_objects, data_bytes, HasData}
use Rattle.om_encode.proofs.DataHolds.{bytes_end, given_end, slot_byte, region_bytes, other_byte}
use Rattle.om_encode.proofs.Fitting.{fits_in_every_layout}
use Rattle.om_encode.proofs.Whole.{all_of}

-- ---- the map's objects

map_each : {A B : Type 0} (f : A → B) (h : ℕ → A) (k n : ℕ) → map f (each_from h k n) ≡ each_from (λ j. f (h j)) k n
map_each f h k zero = refl
map_each f h k (suc n) = ap (λ ys. f (h k) ∷ ys) (map_each f h (k + 1) n)

each_same : {A : Type 0} (f : ℕ → A) (k : ℕ) (xs : List A) → ((j : ℕ) (x : A) → slice_get xs j ≡ Some x → f (k + j) ≡ x) → each_from f k (length xs) ≡ xs
each_same f k [] h = refl
each_same f k (x ∷ xs) h =
    let e : f k ≡ x = (let z : k ≡ k + 0 = omega arith in ap f z) ∙ h 0 x refl in
    ap (λ y. y ∷ each_from f (k + 1) (length xs)) e
    ∙ ap (λ ys. x ∷ ys) (each_same f (k + 1) xs (λ j y g. (let z : k + 1 + j ≡ k + suc j = omega arith in ap f z) ∙ h (suc j) y g))

zero_more : (k : ℕ) → 0 + k ≡ k
zero_more k = omega arith

counts_are : (p : ProgramView) (l : LayoutView) → map (λ (o : MapObj). o.words) (map_objects p l) ≡ map (λ (t : List Item). length t) p.texts
counts_are p l =
    map_each (λ (o : MapObj). o.words) (map_object p l) 0 (length p.texts)
    ∙ ap (each_from (λ j. word_count p j) 0) (sym (map_length (λ (t : List Item). length t) p.texts))
    ∙ each_same (λ j. word_count p j) 0 (map (λ (t : List Item). length t) p.texts) (λ j n e. ap (word_count p) (zero_more j) ∙ count_at p.texts j n e)
  where
    count_at : (texts : List (List Item)) (j n : ℕ) → slice_get (map (λ (t : List Item). length t) texts) j ≡ Some n → length (unwrap_or (slice_get texts j) []) ≡ n
    count_at [] j n e = cc
    count_at (t ∷ ts) zero n e = cc
    count_at (t ∷ ts) (suc j) n e = count_at ts j n e

tables_are : (p : ProgramView) (l : LayoutView) → length p.texts ≡ length l.object_tables → map (λ (o : MapObj). o.table) (map_objects p l) ≡ l.object_tables
tables_are p l same =
    map_each (λ (o : MapObj). o.table) (map_object p l) 0 (length p.texts)
    ∙ ap (each_from (λ j. table_at l j) 0) same
    ∙ each_same (λ j. table_at l j) 0 l.object_tables (λ j n e. ap (table_at l) (zero_more j) ∙ table_got l.object_tables j j n e)
  where
    table_got : (ts : List ℕ) (j d n : ℕ) → slice_get ts j ≡ Some n → slice_index_or ts j d ≡ n
    table_got [] j d n e = cc
    table_got (t ∷ ts) zero d n e = cc
    table_got (t ∷ ts) (suc j) d n e = table_got ts j d n e

-- ---- the image

-- what the encoder makes of the data
pub record IsDataOf (p : ProgramView) (l : LayoutView) (i : Image) : Type 0 where
  pub objects : i.map.objects ≡ map_objects p l
  pub tables : i.map.tables ≡ map map_table l.tables
  pub regions : i.map.regions ≡ map map_region l.regions
  pub bytes : i.bytes ≡ data_bytes l p
  pub bss : i.bss ≡ regions_end (tables_end data_base l.tables) l.regions - data_base - length i.bytes
  pub entry : i.entry ≡ code_at l p.entry
  pub gp : i.gp ≡ gp_of l p.entry.obj

module _ (p : ProgramView) (g : GraphView) (l : LayoutView) (prog : IsProgram p) (of : IsGraphOf p g) (limits : IsWithinLimits p) (lay : LaysOut p g l (Comes g)) where
  pub has_data : HasData l
  has_data = record {
    tables = lay.data_part.tables;
    regions = lay.data_part.regions;
    limit = (stays p prog g of limits l lay.data_part).data_part;
  }

  objects_same : length p.texts ≡ length l.object_tables
  objects_same =
      sym (map_length (λ (t : List Item). length t) p.texts) ∙ ap (λ (ns : List ℕ). length ns) (sym of.counts)
      ∙ sym of.graph.tables ∙ ap (λ (ns : List ℕ). length ns) (sym lay.data_part.object_tables)

  pub data_is : (i : Image) → HasWidths p → IsDataOf p l i → DataIsTrue p g l i
  data_is i widths d = record {
    counts = ap (λ (os : List MapObj). map (λ (o : MapObj). o.words) os) d.objects ∙ counts_are p l;
    object_tables = ap (λ (os : List MapObj). map (λ (o : MapObj). o.table) os) d.objects ∙ tables_are p l objects_same ∙ lay.data_part.object_tables;
    tables = d.tables;
    regions = d.regions;
    slots = λ k t j u b e f lt. at (t.start + 8 * j + b) ∙ slot_byte p g l prog lay.data_part k t j u b e f lt;
    contents =
        all_of (λ (q : RegionInit). (x : ℕ) → x < q.size → data_byte i (region_at l q.region + x) ≡ region_byte l q x) p.regions
        (λ k q e x lt. at (region_at l q.region + x) ∙ region_bytes p g l prog lay.data_part k q e x lt);
    fits = (fits_in_every_layout p g l prog of limits lay).distances;
    widths = widths;
    others = λ a le s r. at a ∙ other_byte p g l prog lay.data_part a le s r;
    given = end;
    whole =
        let e = end in
        let m = given_end p g l prog lay.data_part in
        let b = d.bss in
        omega (arith, e, m, b);
    entry = d.entry;
    gp = d.gp;
  }
    where
      at : (a : ℕ) → data_byte i a ≡ slice_index (data_bytes l p) (a - data_base)
      at a = ap (λ (xs : List ℕ). slice_index xs (a - data_base)) d.bytes

      end : data_base + length i.bytes ≡ data_given p l
      end = ap (λ (xs : List ℕ). data_base + length xs) d.bytes ∙ bytes_end p g l prog lay.data_part
