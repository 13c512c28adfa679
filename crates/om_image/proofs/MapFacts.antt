-- What is known of bytes that are a map.
use Rattle.std.proofs.Common.{◌≡◌, ◌≤◌, ℕ, true, List, length}
use Rattle.om_image.specs.declared.part.Part.TheVariants.{Object, Table, Slot, Extent, Word}
use Rattle.om_image.specs.MapFields.{objects_in, tables_in, slots_in, regions_in, words_in, tables_at, slots_at, regions_at, words_at, map_end, object_words, are_fine, is_map}
use Rattle.om_image.proofs.Deciding.{both_of, le_of, eq_of}

pub record MapFacts (count : ℕ) (b : List ℕ) : Type 0 where
  pub long : 24 ≤ length b
  pub ends : map_end b ≡ length b
  pub total : object_words b ≡ words_in b
  pub objects : are_fine Object b 24 (tables_in b) (objects_in b) ≡ true
  pub tables : are_fine Table b (tables_at b) 0 (tables_in b) ≡ true
  pub slots : are_fine Slot b (slots_at b) 0 (slots_in b) ≡ true
  pub regions : are_fine Extent b (regions_at b) 0 (regions_in b) ≡ true
  pub words : are_fine Word b (words_at b) count (words_in b) ≡ true

pub map_facts : (count : ℕ) (b : List ℕ) → is_map count b ≡ true → MapFacts count b
map_facts count b h =
    let h1 = both_of _ _ h in
    let h2 = both_of _ _ h1.0 in
    let h3 = both_of _ _ h2.0 in
    let h4 = both_of _ _ h3.0 in
    let h5 = both_of _ _ h4.0 in
    let p1 = both_of _ _ h1.1 in
    let p2 = both_of _ _ p1.0 in
    let p3 = both_of _ _ p2.0 in
    let p4 = both_of _ _ p3.0 in
    record {
      long = le_of 24 (length b) h5.0;
      ends = eq_of (map_end b) (length b) h3.1;
      total = eq_of (object_words b) (words_in b) h2.1;
      objects = p4.0;
      tables = p4.1;
      slots = p3.1;
      regions = p2.1;
      words = p1.1;
    }
