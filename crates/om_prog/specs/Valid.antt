-- When words, regions and an entry are a program: each place that is named is a word, each region is there, each
-- word has the instruction and a role that may stand on it, and fields lie apart. Which roles there are follows
-- the relocations of the ECOFF object format; that an address table has at most 8192 slots is this project's own.
use Rattle.std.specs.Prelude.{◌≡◌, ℕ, ◌+◌, ◌*◌, ◌%◌, ◌^◌, ◌<◌, ◌≤◌, Bool, true, false, not, ◌&&◌, ◌==◌, nat_lt, nat_le, is_some, if◌then◌else◌, List, [], ◌∷◌, ◌++◌, length, count_by, slice_get, Option, Some, None}
use Rattle.std.specs.List.{list_any}
use Rattle.om_isa.specs.declared.instr.Instr.{Instr}
use Rattle.om_isa.specs.declared.instr.Instr.TheVariants.{Mem, Branch}
use Rattle.om_isa.specs.declared.instr.MemOp.TheVariants.{Lda, Ldah, Ldq}
use Rattle.om_isa.specs.Words.{instr_of}
use Rattle.om_value.specs.declared.value.Place.{Place}
use Rattle.om_value.specs.declared.value.Region.{Region}
use Rattle.om_value.specs.declared.value.Region.TheVariants.{Stack, Heap}
use Rattle.om_value.specs.declared.value.Target.{Target}
use Rattle.om_value.specs.declared.value.Target.TheVariants as target
use Rattle.om_value.specs.declared.value.Value.{Value}
use Rattle.om_value.specs.declared.value.Value.TheVariants as value
use Rattle.om_value.specs.Same.{place_eq, region_eq, target_eq}
use Rattle.om_prog.specs.declared.item.Role.{Role}
use Rattle.om_prog.specs.declared.item.Role.TheVariants as role
use Rattle.om_prog.specs.declared.item.Item.{Item}
use Rattle.om_prog.specs.declared.item.Field.{Field}
use Rattle.om_prog.specs.declared.region.RegionInit.{RegionInit}
use Rattle.om_prog.specs.View.{ProgramView, item_at, is_word, init_of}

-- no region is given twice
pub record AreOnce (regions : List RegionInit) : Type 0 where
  pub apart :
      (j k : ℕ) (a b : RegionInit) → j < k → slice_get regions j ≡ Some a → slice_get regions k ≡ Some b →
      region_eq a.region b.region ≡ false

-- two fields have no byte of both
abbrev pub are_apart : Field → Field → Bool
are_apart f g = not (nat_lt f.off (g.off + g.width) && nat_lt g.off (f.off + f.width))

pub record AreApart (fields : List Field) : Type 0 where
  pub apart :
      (j k : ℕ) (f g : Field) → j < k → slice_get fields j ≡ Some f → slice_get fields k ≡ Some g → are_apart f g ≡ true

-- neither the stack nor the heap is given
abbrev pub is_given : Region → Bool
is_given Stack = false
is_given Heap = false
is_given _ = true

-- what a region has apart from its fields
pub record HasForm (i : RegionInit) : Type 0 where
  pub given : is_given i.region ≡ true
  pub even : i.size % 8 ≡ 0
  pub bytes : length i.bytes ≤ i.size
  pub zero : i.zero ≡ true → (length i.bytes ≡ 0) × (length i.fields ≡ 0)

-- ---- roles

abbrev pub target_of_role : Role → Option Target
target_of_role (role.Lit t) = Some t
target_of_role _ = None

-- the target that a word loads the address of
abbrev pub literal_of : Item → Option Target
literal_of i = target_of_role i.role

-- a list with a target behind it, unless it is there
abbrev pub with_target : List Target → Target → List Target
with_target ts t = if list_any (λ u. target_eq u t) ts then ts else ts ++ t ∷ []

abbrev pub with_slot : List Target → Option Target → List Target
with_slot ts None = ts
with_slot ts (Some t) = with_target ts t

abbrev pub slots_onto : List Target → List Item → List Target
slots_onto ts [] = ts
slots_onto ts (i ∷ text) = slots_onto (with_slot ts (literal_of i)) text

-- the targets that the words of a text load the addresses of, each once, in order of first use
abbrev pub slots : List Item → List Target
slots text = slots_onto [] text

abbrev pub slot_limit : ℕ
slot_limit = 8192

-- a low half that names the high half at a place
abbrev pub names_high : Place → Role → Bool
names_high hi (role.GpLo q) = place_eq q hi
names_high hi _ = false

abbrev pub is_low_of : Place → Item → Bool
is_low_of hi i = names_high hi i.role

abbrev pub is_high_role : Role → Bool
is_high_role (role.GpHi base) = true
is_high_role _ = false

abbrev pub is_high : Option Item → Bool
is_high None = false
is_high (Some i) = is_high_role i.role

module _ (p : ProgramView) where
  abbrev pub has_region : Region → Bool
  has_region r = is_some (init_of p r)

  abbrev pub is_target : Target → Bool
  is_target (target.Num n) = true
  is_target (target.Ptr r x) = has_region r
  is_target (target.Code q) = is_word p q

  -- the role may stand on the instruction of the word at a place of this text
  abbrev pub fits : List Item → Place → Role → Instr → Bool
  fits text at role.Plain (Branch op ra disp) = false
  fits text at role.Plain _ = true
  fits text at (role.Lit t) (Mem Ldq ra rb disp) = is_target t
  fits text at (role.GpHi base) (Mem Ldah ra rb disp) = is_word p base && (count_by (is_low_of at) text == 1)
  fits text at (role.GpLo hi) (Mem Lda ra rb disp) = (hi.obj == at.obj) && is_high (item_at p hi)
  fits text at (role.To q) (Branch op ra disp) = is_word p q
  fits text at _ _ = false

  pub record IsItem (text : List Item) (at : Place) (i : Item) : Type 0 where
    pub instr : instr_of i.word ≡ Some i.instr
    pub role : fits text at i.role i.instr ≡ true

  -- each word of a text is one, at its place
  pub record AreItems (obj : ℕ) (text : List Item) : Type 0 where
    pub each :
        (k : ℕ) (i : Item) → slice_get text k ≡ Some i → IsItem text (record { obj = obj; off = 4 * k }) i

  pub record IsText (obj : ℕ) (text : List Item) : Type 0 where
    pub words : length text < 2 ^ 30
    pub few : length (slots text) ≤ slot_limit
    pub items : AreItems obj text

  pub record AreTexts : Type 0 where
    pub each : (obj : ℕ) (text : List Item) → slice_get p.texts obj ≡ Some text → IsText obj text

  -- ---- regions

  abbrev pub is_up_to : ℕ → Option RegionInit → Bool
  is_up_to x None = false
  is_up_to x (Some i) = nat_le x i.size

  -- what a distance from a global pointer leads to: a place, or a byte of a region or its end
  abbrev pub is_near_target : Target → Bool
  is_near_target (target.Num n) = false
  is_near_target (target.Ptr r x) = is_up_to x (init_of p r)
  is_near_target (target.Code q) = is_word p q

  -- the width of a field of this value, if there may be one
  abbrev pub width_of : Value → Option ℕ
  width_of (value.Num n) = Some 8
  width_of (value.Ptr r x) = if has_region r then Some 8 else None
  width_of (value.Code q) = if is_word p q then Some 8 else None
  width_of (value.GpOff obj t) = if nat_lt obj (length p.texts) && is_near_target t then Some 4 else None
  width_of _ = None

  pub record IsField (size : ℕ) (f : Field) : Type 0 where
    pub width : width_of f.value ≡ Some f.width
    pub aligned : f.off % f.width ≡ 0
    pub inside : f.off + f.width ≤ size

  pub record AreFields (size : ℕ) (fields : List Field) : Type 0 where
    pub each : (k : ℕ) (f : Field) → slice_get fields k ≡ Some f → IsField size f
    pub apart : AreApart fields

  pub record IsRegionInit (i : RegionInit) : Type 0 where
    pub form : HasForm i
    pub fields : AreFields i.size i.fields

  pub record AreRegions : Type 0 where
    pub each : (k : ℕ) (i : RegionInit) → slice_get p.regions k ≡ Some i → IsRegionInit i

  pub record IsProgram : Type 0 where
    pub objects : length p.texts < 2 ^ 32
    pub texts : AreTexts
    pub entry : is_word p p.entry ≡ true
    pub regions : AreRegions
    pub once : AreOnce p.regions
