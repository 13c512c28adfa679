-- A layout that says where the parts of an object stand.
use Rattle.std.specs.Prelude.{◌≡◌}
use Rattle.om_object.specs.declared.parts.Parts.{Parts}
use Rattle.om_objwrite.specs.declared.places.Layout.{Layout}
use Rattle.om_objwrite.specs.Written.{bodies_at, tables_at, tables_end, symbolic_at}

pub record IsLaidOut (at : Layout) (p : Parts) : Type 0 where
  pub bodies_at : at.bodies ≡ bodies_at p
  pub tables_at : at.tables ≡ tables_at p
  pub end_at : at.end ≡ tables_end p
  pub symbolic : at.symbolic ≡ symbolic_at p
