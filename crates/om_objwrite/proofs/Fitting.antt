-- The places of an object whose lists are short.
use Rattle.std.proofs.Common.{◌≡◌, ◌<◌, ◌≤◌, ◌+◌, ◌*◌, ◌^◌, ℕ, zero, suc, List, [], ◌∷◌, ◌++◌, length, length-append, refl, arith}
use Rattle.std.specs.Prelude.{sum_by}
use Rattle.std.proofs.lemmas.List.Sums.{sum_by-cons}
use Rattle.om_symtab.specs.declared.symbol.ExtSym.{ExtSym}
use Rattle.om_object.specs.declared.parts.Section.{Section}
use Rattle.om_object.specs.declared.parts.Parts.{Parts}
use Rattle.om_objwrite.specs.Lengths.{section_length, name_length, total_length}
use Rattle.om_objwrite.specs.Written.{block_end, blocks_end, bodies, tables, table_of, strings, string_of, bodies_at, tables_at, tables_end, symbolic_at}
use Rattle.om_objwrite.proofs.Rounding.{rounded_below}
use Rattle.om_objwrite.proofs.Tables.{table_length}
use Rattle.om_objwrite.proofs.Steps.{ends_above, end_suc}

end_below : (to at n : ℕ) → 0 < to → block_end to at n ≤ at + to + n
end_below to at zero h = omega arith
end_below to at (suc n) h =
    let e = rounded_below at to h in
    omega (arith, e, end_suc to at n)

bodies_below : (at : ℕ) (ss : List Section) → blocks_end 16 at (bodies ss) ≤ at + 16 * length ss + sum_by section_length ss
bodies_below at [] = omega arith
bodies_below at (s ∷ ss) =
    let e = end_below 16 at (length s.bytes) (omega arith) in
    let f = bodies_below (block_end 16 at (length s.bytes)) ss in
    let g : blocks_end 16 at (bodies (s ∷ ss)) ≡ blocks_end 16 (block_end 16 at (length s.bytes)) (bodies ss) = refl in
    let k = sum_by-cons section_length s ss in
    omega (arith, e, f, g, k)

tables_below : (at : ℕ) (ss : List Section) → blocks_end 8 at (tables ss) ≤ at + 8 * length ss + 16 * sum_by section_length ss
tables_below at [] = omega arith
tables_below at (s ∷ ss) =
    let e = end_below 8 at (length (table_of s)) (omega arith) in
    let f = tables_below (block_end 8 at (length (table_of s))) ss in
    let g = table_length s in
    let q : blocks_end 8 at (tables (s ∷ ss)) ≡ blocks_end 8 (block_end 8 at (length (table_of s))) (tables ss) = refl in
    let k = sum_by-cons section_length s ss in
    omega (arith, e, f, g, q, k)

pub strings_length : (ys : List ExtSym) → length (strings ys) ≡ sum_by name_length ys + length ys
strings_length [] = refl
strings_length (y ∷ ys) =
    let e = strings_length ys in
    let f = length-append (string_of y) (strings ys) in
    let g = length-append y.name (0 ∷ []) in
    let q : length (strings (y ∷ ys)) ≡ length (string_of y ++ strings ys) = refl in
    let k = sum_by-cons name_length y ys in
    omega (arith, e, f, g, q, k)

pub tables_above : (p : Parts) → tables_at p ≤ tables_end p
tables_above p = ends_above 8 (tables_at p) (tables p.sections) (omega arith)

-- what short lists give
pub record AreShort (p : Parts) : Type 0 where
  pub end : tables_end p < 2 ^ 40
  pub symbolic : symbolic_at p < 2 ^ 41
  pub strings : length (strings p.symbols) < 2 ^ 28
  pub symbols : length p.symbols < 2 ^ 28

pub are_short : (p : Parts) → total_length p < 2 ^ 28 → AreShort p
are_short p h =
    let e = bodies_below (bodies_at p) p.sections in
    let f = tables_below (tables_at p) p.sections in
    let g = rounded_below (tables_end p) 8 (omega arith) in
    let k = strings_length p.symbols in
    record {
      end = omega (arith, e, f, h);
      symbolic = omega (arith, e, f, g, h);
      strings = omega (arith, k, h);
      symbols = omega (arith, h);
    }
