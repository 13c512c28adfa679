-- Where the parts of a written file stand.
use Rattle.std.proofs.Common.{◌≡◌, ◌<◌, ◌≤◌, ◌+◌, ◌-◌, ◌*◌, ℕ, suc, List, [], ◌∷◌, ◌++◌, length, get_or, refl, length-append, arith}
use Rattle.std.proofs.lemmas.List.{length-replicate}
use Rattle.om_fields.specs.Bytes.{zeros}
use Rattle.om_fields.specs.Headers.{file_header, optional_header, section_header}
use Rattle.om_object.specs.declared.parts.Section.{Section}
use Rattle.om_object.specs.declared.parts.Parts.{Parts}
use Rattle.om_object.specs.Rules.{no_section}
use Rattle.om_objwrite.specs.Written.{name_bytes, block_place, block_end, blocks, table_of, tables, bodies, section_headers, symbolic_header, symbol_table, strings, bodies_at, tables_at, tables_end, symbolic_at, headers_part, sections_part, symbols_part, file_of}
use Rattle.om_objwrite.proofs.Rounding.{rounded_above}
use Rattle.om_objwrite.proofs.Standing.{IsAt, whole, first_in, second_in, as_piece}
use Rattle.om_objwrite.proofs.HeaderParts.{front_length, header_length}
use Rattle.om_objwrite.proofs.BlockParts.{blocks_length}
use Rattle.om_objwrite.proofs.SectionParts.{SectionFine, name_reads}
use Rattle.om_objwrite.proofs.SymbolParts.{symbolic_length, table_length}

heads_length : (ss : List Section) (b t : ℕ) → ((i : ℕ) → i < length ss → SectionFine (get_or ss i no_section)) → length (section_headers b t ss) ≡ 64 * length ss
heads_length [] b t fine = refl
heads_length (s ∷ ss) b t fine =
    let named = name_reads s.number (fine 0 (omega arith)).named in
    let e = header_length (name_bytes s.number) s.addr s.size (block_place 16 b (length s.bytes)) (block_place 8 t (length (table_of s))) (length s.relocs) named.eight in
    let f = heads_length ss (block_end 16 b (length s.bytes)) (block_end 8 t (length (table_of s))) (λ i below. fine (suc i) (omega arith)) in
    let g = length-append (section_header (name_bytes s.number) s.addr s.size (block_place 16 b (length s.bytes)) (block_place 8 t (length (table_of s))) (length s.relocs))
    (section_headers (block_end 16 b (length s.bytes)) (block_end 8 t (length (table_of s))) ss) in
    let q : length (section_headers b t (s ∷ ss))
    ≡ length (section_header (name_bytes s.number) s.addr s.size (block_place 16 b (length s.bytes)) (block_place 8 t (length (table_of s))) (length s.relocs)
    ++ section_headers (block_end 16 b (length s.bytes)) (block_end 8 t (length (table_of s))) ss) = refl in
    omega (arith, e, f, g, q)

written : (p : Parts) → file_of p ≡ headers_part p ++ sections_part p ++ symbols_part p
unfolding file_of
written p = refl

pub record FileStands (p : Parts) : Type 0 where
  pub front : IsAt (file_of p) (file_header (length p.sections) (symbolic_at p) 144 ++ optional_header 0 p.gp) 0
  pub heads : IsAt (file_of p) (section_headers (bodies_at p) (tables_at p) p.sections) 104
  pub bodies_in : IsAt (file_of p) (blocks 16 (bodies_at p) (bodies p.sections)) (bodies_at p)
  pub tables_in : IsAt (file_of p) (blocks 8 (tables_at p) (tables p.sections)) (tables_at p)
  pub symbolic : IsAt (file_of p) (symbolic_header (symbolic_at p) (length p.symbols) (length (strings p.symbols))) (symbolic_at p)
  pub symbols : IsAt (file_of p) (symbol_table 0 p.symbols) (symbolic_at p + 144)
  pub strings_in : IsAt (file_of p) (strings p.symbols) (symbolic_at p + 144 + 24 * length p.symbols)

pub file_stands : (p : Parts) → ((i : ℕ) → i < length p.sections → SectionFine (get_or p.sections i no_section)) → FileStands p
file_stands p fine =
    let fh = file_header (length p.sections) (symbolic_at p) 144 ++ optional_header 0 p.gp in
    let sh = section_headers (bodies_at p) (tables_at p) p.sections in
    let b = blocks 16 (bodies_at p) (bodies p.sections) in
    let t = blocks 8 (tables_at p) (tables p.sections) in
    let z = zeros (symbolic_at p - tables_end p) in
    let y = symbolic_header (symbolic_at p) (length p.symbols) (length (strings p.symbols)) in
    let table = symbol_table 0 p.symbols in
    let all = as_piece (whole (file_of p)) (written p) in
    let two : IsAt (file_of p) (headers_part p ++ sections_part p) 0 = first_in (headers_part p ++ sections_part p) (symbols_part p) all in
    let heads : IsAt (file_of p) (fh ++ sh) 0 = first_in (headers_part p) (sections_part p) two in
    let lf : length fh ≡ 104 = front_length (length p.sections) (symbolic_at p) p.gp in
    let ls : length sh ≡ 64 * length p.sections = heads_length p.sections (bodies_at p) (tables_at p) fine in
    let lh : length (headers_part p) ≡ length fh + length sh = length-append fh sh in
    let sections : IsAt (file_of p) (sections_part p) (bodies_at p) = second_in (headers_part p) (sections_part p) (bodies_at p) two (omega (arith, lf, ls, lh)) in
    let both : IsAt (file_of p) (b ++ t) (bodies_at p) = first_in (b ++ t) z sections in
    let lb : bodies_at p + length b ≡ tables_at p = blocks_length 16 (bodies_at p) (bodies p.sections) (omega arith) in
    let lt : tables_at p + length t ≡ tables_end p = blocks_length 8 (tables_at p) (tables p.sections) (omega arith) in
    let lz : length z ≡ symbolic_at p - tables_end p = length-replicate {A = ℕ} (symbolic_at p - tables_end p) 0 in
    let lbt : length (b ++ t) ≡ length b + length t = length-append b t in
    let lp : length (sections_part p) ≡ length (b ++ t) + length z = length-append (b ++ t) z in
    let la : length (headers_part p ++ sections_part p) ≡ length (headers_part p) + length (sections_part p) = length-append (headers_part p) (sections_part p) in
    let up : tables_end p ≤ symbolic_at p = rounded_above (tables_end p) 8 (omega arith) in
    let last : IsAt (file_of p) (symbols_part p) (symbolic_at p) =
    second_in (headers_part p ++ sections_part p) (symbols_part p) (symbolic_at p) all (omega (arith, lf, ls, lh, lb, lt, lz, lbt, lp, la, up)) in
    let ly : length y ≡ 144 = symbolic_length (symbolic_at p) (length p.symbols) (length (strings p.symbols)) in
    let lm : length table ≡ 24 * length p.symbols = table_length p.symbols 0 in
    let lym : length (y ++ table) ≡ length y + length table = length-append y table in
    let fore : IsAt (file_of p) (y ++ table) (symbolic_at p) = first_in (y ++ table) (strings p.symbols) last in
    record {
      front = first_in fh sh heads;
      heads = second_in fh sh 104 heads (omega (arith, lf));
      bodies_in = first_in b t both;
      tables_in = second_in b t (tables_at p) both lb;
      symbolic = first_in y table fore;
      symbols = second_in y table (symbolic_at p + 144) fore (omega (arith, ly));
      strings_in = second_in (y ++ table) (strings p.symbols) (symbolic_at p + 144 + 24 * length p.symbols) last (omega (arith, ly, lm, lym));
    }
