-- Whether a rule on parts is broken, and the first that is.
use Rattle.std.proofs.Common.{◌≡◌, ℕ, Bool, true, false, ◌||◌, List, [], ◌∷◌, ◌++◌, length, refl, ap, ◌∙◌}
use Rattle.std.specs.Prelude.{Option, Some, None, is_some, is_none, if◌then◌else◌}
use Rattle.std.specs.Option.{option_or}
use Rattle.om_fields.specs.Places.{least, picked}
use Rattle.om_fields.proofs.Joined.{map-picked}
use Rattle.om_fields.specs.Sections.{name_of_number}
use Rattle.om_fields.specs.Extents.{is_misplaced}
use Rattle.om_fields.proofs.Picked.{none-picked, picked-none}
use Rattle.om_symtab.specs.declared.symbol.ExtSym.{ExtSym}
use Rattle.om_object.specs.declared.parts.Section.{Section}
use Rattle.om_object.specs.declared.parts.Parts.{Parts}
use Rattle.om_object.specs.Rules.{Spot, AtSection, PartRule, section_extent, made_rule_6, section_at, symbol_at, sections_where, symbols_where, is_found, first_broken, AreKept, IsObject, made_rules}
use Rattle.om_object.specs.Spots.{place_of, origin_at}
use Rattle.om_object.specs.Passes.{symbol_place}
use Rattle.om_object.proofs.Places.{no_origins, found-by-places, section_heads, symbol_places}

same-by : (test : ℕ → Bool) (f g : ℕ → ℕ) (n : ℕ) (a b : Option ℕ) → least (picked test f n) ≡ a → least (picked test g n) ≡ b → is_some a ≡ is_some b
same-by test f g n None None e h = refl
same-by test f g n (Some x) (Some y) e h = refl
same-by test f g n None (Some y) e h = let none = picked-none test g n (none-picked test f n e) in cc
same-by test f g n (Some x) None e h = let none = picked-none test f n (none-picked test g n h) in cc

-- whether a test picks anything does not depend on the places
same-found : (test : ℕ → Bool) (f g : ℕ → ℕ) (n : ℕ) → is_some (least (picked test f n)) ≡ is_some (least (picked test g n))
same-found test f g n = same-by test f g n (least (picked test f n)) (least (picked test g n)) refl refl

pub sections_found : (p : Parts) (test : Section → Bool) → is_found (sections_where p test) ≡ is_some (least (picked (λ a. test (section_at p a)) (λ a. a) (length p.sections)))
sections_found p test =
    found-by-places no_origins (sections_where p test) ∙ ap (λ (xs : List ℕ). is_some (least xs)) (section_heads p no_origins test)
    ∙ same-found (λ a. test (section_at p a)) (λ a. (origin_at no_origins a).head) (λ a. a) (length p.sections)

pub symbols_found : (p : Parts) (test : ExtSym → Bool) → is_found (symbols_where p test) ≡ is_some (least (picked (λ j. test (symbol_at p j)) (λ j. j) (length p.symbols)))
symbols_found p test =
    found-by-places no_origins (symbols_where p test) ∙ ap (λ (xs : List ℕ). is_some (least xs)) (symbol_places p no_origins test)
    ∙ same-found (λ j. test (symbol_at p j)) (symbol_place no_origins) (λ j. j) (length p.symbols)

-- whether a section is misplaced
pub misplaced_found : (p : Parts) → is_found (made_rule_6 p) ≡ is_some (least (picked (λ a. is_none (name_of_number (section_at p a).number) || is_misplaced (section_extent p) a) (λ a. a) (length p.sections)))
misplaced_found p =
    found-by-places no_origins (made_rule_6 p)
    ∙ ap (λ (xs : List ℕ). is_some (least xs)) (map-picked (place_of no_origins) (λ a. is_none (name_of_number (section_at p a).number) || is_misplaced (section_extent p) a) AtSection 0 (length p.sections))
    ∙ same-found (λ a. is_none (name_of_number (section_at p a).number) || is_misplaced (section_extent p) a) (λ a. (origin_at no_origins a).head) (λ a. a) (length p.sections)

pub found_append : (xs ys : List Spot) → is_found (xs ++ ys) ≡ (is_found xs || is_found ys)
found_append [] ys = refl
found_append (x ∷ xs) ys = refl

by-test : (b : Bool) (x : Option ℕ) (rest more : Option ℕ) (all : Option ℕ) → all ≡ option_or rest more → (n : ℕ) → (if b then Some n else all) ≡ option_or (if b then Some n else rest) more
by-test true x rest more all e n = refl
by-test false x rest more all e n = e

pub broken_append : (qs rs : List PartRule) (p : Parts) → first_broken (qs ++ rs) p ≡ option_or (first_broken qs p) (first_broken rs p)
broken_append [] rs p = refl
broken_append (q ∷ qs) rs p = by-test (is_found (q.1 p)) None (first_broken qs p) (first_broken rs p) (first_broken (qs ++ rs) p) (broken_append qs rs p) q.0

nothing-found : (xs : List Spot) (n : ℕ) (rest : Option ℕ) → (if is_found xs then Some n else rest) ≡ None → (xs ≡ []) × (rest ≡ None)
nothing-found [] n rest e = (refl, e)
nothing-found (x ∷ xs) n rest e = cc

kept : (rs : List PartRule) (p : Parts) → first_broken rs p ≡ None → AreKept rs p
kept [] p e = tt
kept (r ∷ rs) p e = let both = nothing-found (r.1 p) r.0 (first_broken rs p) e in (both.0, kept rs p both.1)

-- parts that break no rule are an object
pub unbroken_object : (p : Parts) → first_broken made_rules p ≡ None → IsObject p
unbroken_object p e = record { kept = kept made_rules p e }

none-or : (o more : Option ℕ) → is_some o ≡ false → option_or o more ≡ more
none-or None more e = refl
none-or (Some x) more e = cc

some-or : (o more : Option ℕ) → is_some o ≡ true → option_or o more ≡ o
some-or None more e = cc
some-or (Some x) more e = refl

-- the first group that is broken decides
pub broken_here : (qs rs : List PartRule) (p : Parts) → is_some (first_broken qs p) ≡ true → first_broken (qs ++ rs) p ≡ first_broken qs p
broken_here qs rs p e = broken_append qs rs p ∙ some-or (first_broken qs p) (first_broken rs p) e

pub broken_later : (qs rs : List PartRule) (p : Parts) → is_some (first_broken qs p) ≡ false → first_broken (qs ++ rs) p ≡ first_broken rs p
broken_later qs rs p e = broken_append qs rs p ∙ none-or (first_broken qs p) (first_broken rs p) e
