-- How long tables of relocations are.
use Rattle.std.proofs.Common.{◌≡◌, ◌*◌, List, [], ◌∷◌, length, length-append, refl, arith}
use Rattle.om_reloc.specs.declared.reloc.Reloc.{Reloc}
use Rattle.om_object.specs.declared.parts.Section.{Section}
use Rattle.std.specs.Prelude.{flat_map}
use Rattle.om_objwrite.specs.Written.{reloc_bytes, table_of}

pub reloc_length : (r : Reloc) → length (reloc_bytes r) ≡ 16
unfolding reloc_bytes
reloc_length r = refl

pub relocs_length : (rs : List Reloc) → length (flat_map reloc_bytes rs) ≡ 16 * length rs
relocs_length [] = refl
relocs_length (r ∷ rs) =
    let e = relocs_length rs in
    let f = reloc_length r in
    let g = length-append (reloc_bytes r) (flat_map reloc_bytes rs) in
    omega (arith, e, f, g)

pub table_length : (s : Section) → length (table_of s) ≡ 16 * length s.relocs
table_length s = relocs_length s.relocs
