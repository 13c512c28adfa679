use Rattle.std.proofs.Common.{◌≡◌, sym, ◌∙◌, ap, length}
use Rattle.std.specs.Prelude.{Some}
use Rattle.om_fields.specs.Places.{is_past}
use Rattle.om_fields.specs.declared.head.SecHead.{SecHead}
use Rattle.om_fields.specs.Sections.{number_of_name}
use Rattle.om_fields.specs.HeaderFields.{number_of}
use Rattle.om_reloc.specs.Relocs.{table_is_past}
use Rattle.om_object.proofs.HeadsAt.{section-inside, table-inside}
use Rattle.om_object.proofs.file_parts.add_section.Goals as goal

pub section-requires-clause-inside : goal.section-requires-clause-inside
section-requires-clause-inside c has =
    let bytes = c.args.bytes.now in
    let number : number_of bytes c.args.k ≡ Some c.in-Some.number =
    ap (λ (h : SecHead). number_of_name h.name) (sym c.requires.head) ∙ ap number_of_name (sym c.as_slice.ensures) ∙ sym c.section_number.ensures ∙ c.in-Some.is in
    ap (λ (h : SecHead). is_past (length bytes) h.bytes_at h.size) c.requires.head
    ∙ section-inside bytes c.args.k c.in-Some.number c.requires.fits c.requires.inside number has

pub section-requires-clause-table : goal.section-requires-clause-table
section-requires-clause-table c =
    let bytes = c.args.bytes.now in
    let number : number_of bytes c.args.k ≡ Some c.in-Some.number =
    ap (λ (h : SecHead). number_of_name h.name) (sym c.requires.head) ∙ ap number_of_name (sym c.as_slice.ensures) ∙ sym c.section_number.ensures ∙ c.in-Some.is in
    ap (table_is_past bytes) c.requires.head ∙ table-inside bytes c.args.k c.in-Some.number c.requires.fits c.requires.inside number
