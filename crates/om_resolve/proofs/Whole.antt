-- A program by its parts.
use Rattle.std.proofs.Common.{◌≡◌, List, ap, ◌∙◌}
use Rattle.om_value.specs.declared.value.Place.{Place}
use Rattle.om_object.specs.declared.parts.Parts.{Parts}
use Rattle.om_prog.specs.declared.item.Item.{Item}
use Rattle.om_prog.specs.declared.region.RegionInit.{RegionInit}
use Rattle.om_prog.specs.View.{ProgramView}
use Rattle.om_resolve.specs.Names.{start_name, definition_of}
use Rattle.om_resolve.specs.Program.{program_of, entry_by}

-- texts, regions and an entry that are those of the objects' program are that program
pub same_program : (objects : List Parts) (texts : List (List Item)) (regions : List RegionInit) (entry : Place) → texts ≡ (program_of objects).texts → regions ≡ (program_of objects).regions
    → entry ≡ entry_by (definition_of objects start_name) → record { texts = texts; regions = regions; entry = entry } ≡ program_of objects
unfolding program_of
same_program objects texts regions entry t r e =
    ap (λ (ts : List (List Item)). let v : ProgramView = record { texts = ts; regions = regions; entry = entry } in v) t
    ∙ ap (λ (rs : List RegionInit). let v : ProgramView = record { texts = (program_of objects).texts; regions = rs; entry = entry } in v) r
    ∙ ap (λ (p : Place). let v : ProgramView = record { texts = (program_of objects).texts; regions = (program_of objects).regions; entry = p } in v) e
