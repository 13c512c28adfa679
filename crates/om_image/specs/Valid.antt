-- Which images are valid: those whose numbers fit the fields of the format, and that break no rule.
use Rattle.std.specs.Prelude.{◌≡◌, ℕ, ◌+◌, ◌*◌, ◌^◌, ◌<◌, ◌≤◌, true, if◌then◌else◌, length, All, sum_by, is_some}
use Rattle.om_isa.specs.Words.{instr_of}
use Rattle.om_image.specs.declared.image.Image.{Image}
use Rattle.om_image.specs.declared.map.Region.{Region}
use Rattle.om_image.specs.declared.map.Region.TheVariants.{Sec, Common, Stack}
use Rattle.om_image.specs.declared.map.Target.{Target}
use Rattle.om_image.specs.declared.map.Target.TheVariants.{Num, Ptr, Code}
use Rattle.om_image.specs.declared.map.Map.{Map}
use Rattle.om_image.specs.Layout.{text_limit, data_limit}
use Rattle.om_image.specs.Written.{map_size}
use Rattle.om_image.specs.Rules.{is_entry}

-- a map has no stack
abbrev pub IsInMap : Region → Type 0
IsInMap (Sec obj number) = Unit {0}
IsInMap (Common sym) = Unit {0}
IsInMap Stack = ⊥

abbrev pub IsSlot : Target → Type 0
IsSlot (Num n) = Unit {0}
IsSlot (Ptr region off) = IsInMap region
IsSlot (Code place) = Unit {0}

-- a map of an image with so many words: the counts fit their fields, tables and positions are there, and the objects'
-- words are all words
pub record IsMap (count : ℕ) (m : Map) : Type 0 where
  pub few_objects : length m.objects < 2 ^ 32
  pub few_tables : length m.tables < 2 ^ 32
  pub few_slots : All (λ t. length t.slots < 2 ^ 32) m.tables
  pub few_regions : length m.regions < 2 ^ 32
  pub few_words : length m.words < 2 ^ 32
  pub fits : map_size m < 2 ^ 63
  pub total : sum_by (λ o. o.words) m.objects ≡ length m.words
  pub objects : All (λ o. o.table < length m.tables) m.objects
  pub slots : All (λ t. All IsSlot t.slots) m.tables
  pub regions : All (λ r. IsInMap r.region) m.regions
  pub words : All (λ w. w.position < (if w.kept then count else count + 1)) m.words

pub record IsValidImage (i : Image) : Type 0 where
  pub text : 4 * length i.text ≤ text_limit
  pub bytes : length i.bytes + i.bss ≤ data_limit
  pub entry : is_entry (4 * length i.text) i.entry ≡ true
  pub map : IsMap (length i.text) i.map
  pub words : All (λ w. is_some (instr_of w) ≡ true) i.text

-- the lists of a map can be counted in their fields, its positions fit below the bit beside them, and it has no stack
pub record IsMapInRange (m : Map) : Type 0 where
  pub few_objects : length m.objects < 2 ^ 32
  pub few_tables : length m.tables < 2 ^ 32
  pub few_slots : All (λ t. length t.slots < 2 ^ 32) m.tables
  pub few_regions : length m.regions < 2 ^ 32
  pub few_words : length m.words < 2 ^ 32
  pub fits : map_size m < 2 ^ 63
  pub slots : All (λ t. All IsSlot t.slots) m.tables
  pub regions : All (λ r. IsInMap r.region) m.regions
  pub positions : All (λ w. w.position < 2 ^ 31) m.words

-- an image whose file can say what it has
pub record IsInRange (i : Image) : Type 0 where
  pub text : 4 * length i.text < 2 ^ 62
  pub bytes : length i.bytes < 2 ^ 62
  pub map : IsMapInRange i.map
