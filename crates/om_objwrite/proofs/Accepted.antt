-- A written object is read as itself, and breaks no rule.
use Rattle.std.proofs.Common.{◌≡◌, ◌<◌, ◌≤◌, ◌+◌, ◌*◌, ◌^◌, ℕ, Bool, true, false, List, [], ◌∷◌, ◌++◌, length, get_or, map, refl, sym, ap, ◌∙◌, arith, subst}
use Rattle.std.specs.Prelude.{Option, Some, ◌==◌, ◌&&◌, ◌||◌, not, is_none, is_some, nat_lt, if◌then◌else◌}
use Rattle.std.proofs.Common.{inl, inr}
use Rattle.std.proofs.lemmas.Bool.Decides.{nat_tests}
use Rattle.om_fields.specs.Places.{number_at, bytes_at, each, picked, place_if, is_past, IsAmong}
use Rattle.om_fields.specs.Rules.{Rule, Breaks}
use Rattle.om_fields.specs.Sections.{is_passed_over}
use Rattle.om_fields.specs.HeaderFields.{section_count, header_at, head_of, number_of, head_extent, runs_past, is_other, rule_1, rule_2, rule_3, rule_4, rule_6, rule_24}
use Rattle.om_fields.specs.declared.extents.Extent.{Extent}
use Rattle.om_fields.specs.Extents.{is_misplaced, collides, ends_late}
use Rattle.om_symtab.specs.declared.symbol.ExtSym.{ExtSym}
use Rattle.om_symtab.specs.Symbols.{strings_size, strings_at, symbol_count, symbols_at, symbol_of, symbol_at, symbols_of, is_no_table, is_unended, rule_7, rule_8, strings as strings_in}
use Rattle.om_reloc.specs.Relocs.{rule_5, rule_26, table_is_past, is_over}
use Rattle.om_object.specs.declared.parts.Section.{Section}
use Rattle.om_object.specs.declared.parts.Parts.{Parts}
use Rattle.om_object.specs.Rules.{Spot, PartRule, AreKept, IsObject, rules_9_to_23, rule_25, rule_29, no_section, no_symbol, section_at, section_extent, sections_where, section_breaks}
use Rattle.om_object.specs.declared.rules.SectionRule.TheVariants.{Crowded}
use Rattle.om_object.specs.Spots.{place_of}
use Rattle.om_object.specs.File.{parts_of, origins_of, on_file, head_rules, name_rules, last_rules, object_rules, is_loaded, section_of_head, sym_at, IsAccepted}
use Rattle.om_objwrite.specs.Written.{file_of, strings, bodies, bodies_at, tables_at, tables_end, symbolic_at}
use Rattle.om_objwrite.specs.Lengths.{total_length}
use Rattle.om_objwrite.specs.RoundTrip.{HasWidths, WrittenIsRead}
use Rattle.om_objwrite.proofs.Rounding.{rounded_above}
use Rattle.om_objwrite.proofs.Fitting.{are_short, tables_above}
use Rattle.om_objwrite.proofs.Steps.{ends_above}
use Rattle.om_objwrite.proofs.Standing.{inside, bytes_in, at_place}
use Rattle.om_objwrite.proofs.HeaderParts.{FrontReads, front_reads}
use Rattle.om_objwrite.proofs.BlockParts.{past_none}
use Rattle.om_objwrite.proofs.Picks.{picked_all, picked_nothing, each_all, each_same}
use Rattle.om_objwrite.proofs.SectionParts.{SectionIn, sections_in}
use Rattle.om_objwrite.proofs.SymbolParts.{SymbolicReads, symbolic_reads, symbolic_length, SymbolIn, symbols_in, table_length}
use Rattle.om_objwrite.proofs.FileParts.{file_stands}
use Rattle.om_objwrite.proofs.Objects.{is_placed, few, section_fine, symbol_fine}

-- ---- tables of rules that have no place

AreEmpty : List (Rule (List ℕ)) → List ℕ → Type 0
AreEmpty [] file = Unit {0}
AreEmpty (r ∷ rs) file = (r.1 file ≡ []) × AreEmpty rs file

empty_unbroken : (rules : List (Rule (List ℕ))) (file : List ℕ) → AreEmpty rules file → (rule at : ℕ) → Breaks rules file rule at → ⊥
unfolding AreEmpty
empty_unbroken [] file h rule at b = b
empty_unbroken (r ∷ rs) file h rule at (inl b) = subst (λ (xs : List ℕ). IsAmong xs at) h.0 b.1
empty_unbroken (r ∷ rs) file h rule at (inr b) = empty_unbroken rs file h.1 rule at b

empty_append : (xs ys : List (Rule (List ℕ))) (file : List ℕ) → AreEmpty xs file → AreEmpty ys file → AreEmpty (xs ++ ys) file
unfolding AreEmpty
empty_append [] ys file h g = g
empty_append (x ∷ xs) ys file h g = (h.0, empty_append xs ys file h.1 g)

kept_split : (rs qs : List PartRule) (p : Parts) → AreKept (rs ++ qs) p → AreKept rs p × AreKept qs p
kept_split [] qs p h = (tt, h)
kept_split (r ∷ rs) qs p h = let more = kept_split rs qs p h.1 in ((h.0, more.0), more.1)

part_empty : (r : PartRule) (p : Parts) (file : List ℕ) → parts_of file ≡ p → r.1 p ≡ [] → (on_file r).1 file ≡ []
part_empty r p file e h = ap (λ (spots : List Spot). map (place_of (origins_of file)) spots) (ap r.1 e ∙ h)

parts_empty : (rs : List PartRule) (p : Parts) (file : List ℕ) → parts_of file ≡ p → AreKept rs p → AreEmpty (map on_file rs) file
unfolding AreEmpty
parts_empty [] p file e h = tt
parts_empty (r ∷ rs) p file e h = (part_empty r p file e h.0, parts_empty rs p file e h.1)

-- ---- small tests

place_none : (b : Bool) (at : ℕ) → b ≡ false → place_if b at ≡ []
place_none b at h = ap (λ (t : Bool). place_if t at) h

and_false : (a b : Bool) → b ≡ false → (a && b) ≡ false
and_false true b h = h
and_false false b h = refl

or_none : (a b : Bool) → a ≡ false → b ≡ false → (a || b) ≡ false
or_none true b h g = h
or_none false b h g = g

long_enough : (n m : ℕ) → m ≤ n → nat_lt n m ≡ false
long_enough n m h = grind (arith, nat_tests)

not_zero : (n : ℕ) → 0 < n → (n == 0) ≡ false
not_zero n h = grind (arith, nat_tests)

same_extent : (n m : Option ℕ) (a b s t : ℕ) → n ≡ m → a ≡ b → s ≡ t
    → (let c : Extent = record { number = n; addr = a; size = s } in
    let d : Extent = record { number = m; addr = b; size = t } in c ≡ d)
same_extent n m a b s t hn ha hs = cc

same_parts : (g h : ℕ) (ss ts : List Section) (ys zs : List ExtSym) → g ≡ h → ss ≡ ts → ys ≡ zs
    → (let c : Parts = record { gp = g; sections = ss; symbols = ys } in
    let d : Parts = record { gp = h; sections = ts; symbols = zs } in c ≡ d)
same_parts g h ss ts ys zs hg hs hy = cc

same_misplaced : (f g : ℕ → Extent) (n : ℕ) → ((j : ℕ) → j < n → f j ≡ g j) → (k : ℕ) → k < n → is_misplaced f k ≡ is_misplaced g k
same_misplaced f g n same k h =
    let zero_is : (j : ℕ) → 0 + j ≡ j = λ j. omega arith in
    let earlier : each f k ≡ each g k = each_same f g 0 k (λ j b. ap f (zero_is j) ∙ same j (omega arith) ∙ ap g (sym (zero_is j))) in
    ap (λ (t : Extent). ends_late t || collides (each f k) t) (same k h)
    ∙ ap (λ (ts : List Extent). ends_late (g k) || collides ts (g k)) earlier

-- ---- what is known of the file

pub record FileReads (p : Parts) : Type 0 where
  pub front : FrontReads (file_of p) (length p.sections) (symbolic_at p) p.gp
  pub long : 104 + 64 * length p.sections ≤ length (file_of p)
  pub sections : (j : ℕ) → j < length p.sections → SectionIn (file_of p) (0 + j) (get_or p.sections j no_section)
  pub symbolic : SymbolicReads (file_of p) (symbolic_at p) (length p.symbols) (length (strings p.symbols))
  pub table : is_no_table (file_of p) (symbolic_at p) ≡ false
  pub symbols : (j : ℕ) → j < length p.symbols → SymbolIn (file_of p) (symbolic_at p) (0 + j) (get_or p.symbols j no_symbol)
  pub count : symbol_count (file_of p) (symbolic_at p) ≡ length p.symbols

file_reads : (p : Parts) → HasWidths p → IsObject p → total_length p < 2 ^ 28 → FileReads p
file_reads p widths object total =
    let file = file_of p in
    let at = symbolic_at p in
    let m = length p.symbols in
    let size = length (strings p.symbols) in
    let short = are_short p total in
    let end = short.end in
    let sym = short.symbolic in
    let sm = short.symbols in
    let ss = short.strings in
    let fine = section_fine p object widths in
    let stands = file_stands p fine in
    let most = few p object in
    let above = tables_above p in
    let up = rounded_above (tables_end p) 8 (omega arith) in
    let start : bodies_at p ≤ tables_at p = ends_above 16 (bodies_at p) (bodies p.sections) (omega arith) in
    let positive : 0 < at = omega (arith, above, up, start) in
    let reads = symbolic_reads at m size stands.symbolic (omega (arith, ss)) (omega (arith, sm)) (omega (arith, sym)) in
    let non_zero : (at == 0) ≡ false = not_zero at positive in
    let count : symbol_count file at ≡ m = ap (λ (b : Bool). if b then 0 else number_at file (at + 44) 4) non_zero ∙ reads.count in
    let in_header = inside stands.symbolic in
    let header_long = symbolic_length at m size in
    let in_symbols = inside stands.symbols in
    let table_long = table_length p.symbols 0 in
    let in_strings = inside stands.strings_in in
    let head_past : is_past (length file) at 144 ≡ false = past_none (length file) at 144 (λ h. omega (arith, in_header, header_long)) in
    let magic : not (number_at file at 2 == 0x1992) ≡ false = ap (λ (n : ℕ). not (n == 0x1992)) reads.magic in
    let strings_past : is_past (length file) (strings_at file at) (strings_size file at) ≡ false =
    ap (λ (n : ℕ). is_past (length file) n (strings_size file at)) reads.strings ∙ ap (λ (n : ℕ). is_past (length file) (at + 144 + 24 * m) n) reads.size_at
    ∙ past_none (length file) (at + 144 + 24 * m) size (λ h. in_strings) in
    let symbols_past : is_past (length file) (symbols_at file at) (24 * symbol_count file at) ≡ false =
    ap (λ (n : ℕ). is_past (length file) n (24 * symbol_count file at)) reads.symbols ∙ ap (λ (n : ℕ). is_past (length file) (at + 144) (24 * n)) count
    ∙ past_none (length file) (at + 144) (24 * m) (λ h. omega (arith, in_symbols, table_long)) in
    let text : strings_in file at ≡ strings p.symbols =
    ap (λ (n : ℕ). bytes_at file n (strings_size file at)) reads.strings ∙ ap (λ (n : ℕ). bytes_at file (at + 144 + 24 * m) n) reads.size_at ∙ bytes_in stands.strings_in in
    let in_heads = inside stands.bodies_in in
    record {
      front = front_reads stands.front (omega (arith, most)) (omega (arith, sym)) widths.gp;
      long = omega (arith, in_heads);
      sections = sections_in p.sections 0 (bodies_at p) (tables_at p) stands.heads stands.bodies_in stands.tables_in (omega (arith, above, end)) (omega (arith, end)) fine;
      symbolic = reads;
      table = or_none _ _ (or_none _ _ (or_none _ _ head_past magic) strings_past) symbols_past;
      symbols = symbols_in p.symbols at 0 0 (at + 144) [] (strings p.symbols) (at_place stands.symbols (omega arith)) reads.symbols text refl refl
          (omega (arith, ss)) (symbol_fine p object widths);
      count = count;
    }

-- ---- the parts

module _ (p : Parts) (reads : FileReads p) where
  abbrev file : List ℕ
  file = file_of p

  abbrev n : ℕ
  n = length p.sections

  counted : section_count file ≡ n
  counted = reads.front.sections

  sym_is : sym_at file ≡ symbolic_at p
  sym_is = reads.front.symbolic

  pub parts_back : parts_of file ≡ p
  parts_back =
      same_parts (number_at file 96 8) p.gp (picked (is_loaded file) (section_of_head file) (section_count file)) p.sections (symbols_of file (sym_at file)) p.symbols
      reads.front.gp_at
      (ap (λ (k : ℕ). picked (is_loaded file) (section_of_head file) k) counted
      ∙ picked_all (is_loaded file) (section_of_head file) p.sections 0 no_section
      (λ j b. ap (λ (o : Option ℕ). is_some o) (reads.sections j b).number) (λ j b. (reads.sections j b).section))
      (ap (λ (at : ℕ). symbols_of file at) sym_is
      ∙ ap (λ (k : ℕ). each (symbol_of file (symbolic_at p)) k) reads.count
      ∙ each_all (symbol_of file (symbolic_at p)) p.symbols 0 no_symbol (λ j b. (reads.symbols j b).symbol))

  -- ---- the rules on the file

  -- a test that no section's header meets
  heads_none : (test : ℕ → Bool) → ((j : ℕ) → j < n → test (0 + j) ≡ false) → picked test header_at (section_count file) ≡ []
  heads_none test h = ap (λ (k : ℕ). picked test header_at k) counted ∙ picked_nothing test header_at 0 n h

  kept_1 : rule_1 file ≡ []
  kept_1 =
      let long = reads.long in
      place_none _ 0 (or_none _ _ (long_enough (length file) 24 (omega (arith, long))) (ap (λ (k : ℕ). not (k == 0x183)) reads.front.magic))

  kept_2 : rule_2 file ≡ []
  kept_2 = place_none _ 20 (ap (λ (k : ℕ). not (k == 80)) reads.front.optional)

  kept_3 : rule_3 file ≡ []
  kept_3 =
      let long = reads.long in
      let count = counted in
      place_none _ 24 (long_enough (length file) (104 + 64 * section_count file) (omega (arith, long, count)))

  kept_4 : rule_4 file ≡ []
  kept_4 = heads_none (runs_past file) (λ j b. (reads.sections j b).bytes)

  kept_5 : rule_5 file ≡ []
  kept_5 = heads_none (λ k. is_some (number_of file k) && table_is_past file (head_of file k)) (λ j b. and_false _ _ (reads.sections j b).table)

  kept_26 : rule_26 file ≡ []
  kept_26 = heads_none (λ k. is_some (number_of file k) && is_over (head_of file k)) (λ j b. and_false _ _ (reads.sections j b).count)

  kept_24 : rule_24 file ≡ []
  kept_24 =
      heads_none (is_other file)
      (λ j b. ap (λ (o : Option ℕ). is_none o && not (is_passed_over (bytes_at file (header_at (0 + j)) 8)) && nat_lt 0 (number_at file (header_at (0 + j) + 24) 8)) (reads.sections j b).number)

  extent_is : (j : ℕ) → j < n → head_extent file (0 + j) ≡ section_extent p j
  extent_is j b =
      same_extent (number_of file (0 + j)) (Some (section_at p j).number) (number_at file (header_at (0 + j) + 16) 8) (section_at p j).addr
      (number_at file (header_at (0 + j) + 24) 8) (section_at p j).size (reads.sections j b).number (reads.sections j b).addr (reads.sections j b).size

  same_at : (j : ℕ) → j < n → head_extent file j ≡ section_extent p j
  same_at j b = let e : j ≡ 0 + j = omega arith in ap (head_extent file) e ∙ extent_is j b

  kept_6 : IsObject p → rule_6 file ≡ []
  kept_6 object =
      heads_none (is_misplaced (head_extent file))
      (λ j b. let e : 0 + j ≡ j = omega arith in
      ap (is_misplaced (head_extent file)) e ∙ same_misplaced (head_extent file) (section_extent p) n same_at j b ∙ is_placed p object j b)

  kept_7 : rule_7 (sym_at file) file ≡ []
  kept_7 = ap (λ (at : ℕ). rule_7 at file) sym_is ∙ table_by (symbolic_at p == 0)
    where
      table_by : (t : Bool) → (if t then [] else place_if (is_no_table file (symbolic_at p)) (symbolic_at p)) ≡ []
      table_by true = refl
      table_by false = place_none (is_no_table file (symbolic_at p)) (symbolic_at p) reads.table

  kept_8 : rule_8 (sym_at file) file ≡ []
  kept_8 =
      ap (λ (at : ℕ). rule_8 at file) sym_is
      ∙ ap (λ (k : ℕ). picked (is_unended file (symbolic_at p)) (symbol_at file (symbolic_at p)) k) reads.count
      ∙ picked_nothing (is_unended file (symbolic_at p)) (symbol_at file (symbolic_at p)) 0 (length p.symbols) (λ j b. (reads.symbols j b).ended)

  empty : IsObject p → AreEmpty object_rules file
  unfolding AreEmpty
  empty object =
      let back = parts_back in
      let rest = rule_25 ∷ (26, λ p. sections_where p (section_breaks Crowded)) ∷ rule_29 ∷ [] in
      let kept : AreKept (rules_9_to_23 ++ rest) p = object.kept.1.1.1 in
      let split = kept_split rules_9_to_23 rest p kept in
      let first : AreEmpty (head_rules ++ name_rules) file = (kept_1, (kept_2, (kept_3, (kept_4, (kept_5, (kept_6 object, (kept_7, (kept_8, tt)))))))) in
      let middle = parts_empty rules_9_to_23 p file back split.0 in
      let last : AreEmpty last_rules file = (kept_24, (part_empty rule_25 p file back split.1.0, (kept_26, (part_empty rule_29 p file back split.1.1.1.0, tt)))) in
      empty_append (head_rules ++ name_rules ++ map on_file rules_9_to_23) last_rules file
      (empty_append (head_rules ++ name_rules) (map on_file rules_9_to_23) file first middle) last

  pub accepted : IsObject p → IsAccepted file
  accepted object = record { nowhere = λ rule at b. empty_unbroken object_rules file (empty object) rule at b }

pub all_read : WrittenIsRead
all_read p widths object total =
    let reads = file_reads p widths object total in
    record { parts = parts_back p reads; accepted = accepted p reads object }
