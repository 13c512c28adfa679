-- A written image is read as itself.
use Rattle.std.specs.Prelude.{◌≡◌, ℕ, ◌^◌, ◌<◌, All}
use Rattle.om_fields.specs.Rules.{IsUnbroken}
use Rattle.om_image.specs.declared.map.Region.{Region}
use Rattle.om_image.specs.declared.map.Region.TheVariants.{Sec, Common, Stack}
use Rattle.om_image.specs.declared.map.Target.{Target}
use Rattle.om_image.specs.declared.map.Target.TheVariants.{Num, Ptr, Code}
use Rattle.om_image.specs.declared.map.MapObj.{MapObj}
use Rattle.om_image.specs.declared.map.MapTable.{MapTable}
use Rattle.om_image.specs.declared.map.MapRegion.{MapRegion}
use Rattle.om_image.specs.declared.map.Map.{Map}
use Rattle.om_image.specs.declared.image.Image.{Image}
use Rattle.om_image.specs.Written.{file_of}
use Rattle.om_image.specs.Rules.{image_rules, image_of}
use Rattle.om_image.specs.Valid.{IsInRange, IsValidImage}

-- the numbers of an image are below the widths of their types
pub record HasSecWidths (object section : ℕ) : Type 0 where
  pub obj : object < 2 ^ 32
  pub number : section < 2 ^ 8

pub record HasCodeWidths (object place : ℕ) : Type 0 where
  pub obj : object < 2 ^ 32
  pub off : place < 2 ^ 32

abbrev pub HasRegionWidths : Region → Type 0
HasRegionWidths (Sec obj number) = HasSecWidths obj number
HasRegionWidths (Common sym) = sym < 2 ^ 32
HasRegionWidths Stack = Unit {0}

abbrev pub HasTargetWidths : Target → Type 0
HasTargetWidths (Num n) = n < 2 ^ 64
HasTargetWidths (Ptr region off) = HasRegionWidths region × (off < 2 ^ 64)
HasTargetWidths (Code place) = HasCodeWidths place.obj place.off

pub record HasObjWidths (o : MapObj) : Type 0 where
  pub words : o.words < 2 ^ 32
  pub table : o.table < 2 ^ 32

pub record HasTableWidths (t : MapTable) : Type 0 where
  pub start : t.start < 2 ^ 64
  pub slots : All HasTargetWidths t.slots

pub record HasExtentWidths (r : MapRegion) : Type 0 where
  pub region : HasRegionWidths r.region
  pub address : r.address < 2 ^ 64
  pub size : r.size < 2 ^ 64

pub record HasMapWidths (m : Map) : Type 0 where
  pub objects : All HasObjWidths m.objects
  pub tables : All HasTableWidths m.tables
  pub regions : All HasExtentWidths m.regions
  pub words : All (λ w. w.old < 2 ^ 32) m.words

pub record HasWidths (i : Image) : Type 0 where
  pub entry : i.entry < 2 ^ 64
  pub gp : i.gp < 2 ^ 64
  pub text : All (λ w. w < 2 ^ 32) i.text
  pub bss : i.bss < 2 ^ 64
  pub map : HasMapWidths i.map

-- the file of the image holds it, and breaks no rule
pub record ReadsBack (i : Image) : Type 0 where
  pub image : image_of (file_of i) ≡ i
  pub unbroken : IsUnbroken image_rules (file_of i)

abbrev pub WrittenIsRead : Type 0
WrittenIsRead = (i : Image) → HasWidths i → IsValidImage i → ReadsBack i

-- an image is valid if its file breaks no rule
abbrev pub UnbrokenIsValid : Type 0
UnbrokenIsValid = (i : Image) → HasWidths i → IsInRange i → IsUnbroken image_rules (file_of i) → IsValidImage i
