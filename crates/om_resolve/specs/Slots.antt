-- The slots of an object's address table, as the code keeps them.
use Rattle.std.specs.Prelude.{◌≡◌, Some}
use Rattle.om_object.specs.declared.parts.Section.{Section}
use Rattle.om_object.specs.declared.parts.Parts.{Parts}
use Rattle.om_object.specs.Words.{section_of}
use Rattle.om_resolve.specs.declared.roles.Slots.{Slots}
use Rattle.om_resolve.specs.Maps.{HasQuads}

-- the entries are the REFQUADs of `.lita`, where there is one
pub record AreSlots (p : Parts) (slots : Slots) : Type 0 where
  pub each : (lita : Section) → section_of p 13 ≡ Some lita → HasQuads lita slots.entries lita.relocs
