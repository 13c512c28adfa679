-- How many items the parts of a map have, and what is known of a file that breaks no rule.
use Rattle.std.specs.Prelude.{◌≡◌, ℕ, ◌/◌, ◌<◌, ◌≤◌, true, false, List, length}
use Rattle.om_fields.specs.Places.{number_at}
use Rattle.om_image.specs.declared.part.HeadRule.TheVariants.{Inside, Placed}
use Rattle.om_image.specs.declared.shape.Shape.{Shape}
use Rattle.om_image.specs.MapFields.{objects_in, tables_in, slots_in, regions_in, words_in, is_map}
use Rattle.om_image.specs.Rules.{section_size, section_bytes, breaks_head, is_entry, is_unreadable}

pub record IsShape (s : Shape) (b : List ℕ) : Type 0 where
  pub objects : s.objects ≡ objects_in b
  pub tables : s.tables ≡ tables_in b
  pub slots : s.slots ≡ slots_in b
  pub regions : s.regions ≡ regions_in b
  pub words : s.words ≡ words_in b

-- no header breaks a rule
pub record KeepHeads (file : List ℕ) : Type 0 where
  pub inside : (k : ℕ) → k < 4 → breaks_head Inside file k ≡ false

pub record IsReadable (file : List ℕ) : Type 0 where
  pub long : 360 ≤ length file
  pub inside : KeepHeads file
  pub placed : (k : ℕ) → k < 4 → breaks_head Placed file k ≡ false
  pub entry : is_entry (section_size file 0) (number_at file 56 8) ≡ true
  pub map : is_map (section_size file 0 / 4) (section_bytes file 3) ≡ true
  pub words : (k : ℕ) → k < section_size file 0 / 4 → is_unreadable (section_bytes file 0) k ≡ false
