-- Chains of rules.
use Rattle.std.proofs.Common.{◌≡◌, ℕ, List, [], ◌∷◌, ◌++◌, map, true, false, refl, ap, ◌∙◌, arith}
use Rattle.std.specs.Prelude.{Option, Some, None, is_some, Err}
use Rattle.std.specs.Option.{option_or}
use Rattle.om_fields.specs.Places.{least, lesser_of}
use Rattle.om_fields.specs.Rules.{Rule, first_fault, IsFirstFault, IsUnbroken, AreAbove}
use Rattle.om_fields.proofs.FirstFault.{fault_is_least, none_is_unbroken}
use Rattle.om_fields.specs.HeaderFields.{rule_1, rule_2, rule_3, rule_4, rule_6}
use Rattle.om_reloc.specs.Relocs.{rule_5}
use Rattle.om_fields.proofs.Joined.{least-append}
use Rattle.om_object.specs.declared.parts.Parts.{Parts}
use Rattle.om_object.specs.declared.origin.Origins.{Origins}
use Rattle.om_object.specs.Rules.{Spot, PartRule, rules_9_to_23}
use Rattle.om_object.specs.Spots.{place_of, places_of, first_spot}
use Rattle.om_object.specs.File.{on_file, parts_of, origins_of, head_rules, name_rules, last_rules, last_spot, object_rules, ReadsHeads, ReadsParts}
use Rattle.om_object.specs.declared.errors.ObjErr.{ObjErr}
use Rattle.om_object.specs.declared.errors.ObjErr.TheVariants as obj

map-joining : (o : Origins) (xs ys : List Spot) → places_of o (xs ++ ys) ≡ places_of o xs ++ places_of o ys
map-joining o [] ys = refl
map-joining o (x ∷ xs) ys = ap (λ zs. place_of o x ∷ zs) (map-joining o xs ys)

-- the least place of two lists of spots
pub places_append : (o : Origins) (xs ys : List Spot) → least (places_of o (xs ++ ys)) ≡ lesser_of (least (places_of o xs)) (least (places_of o ys))
places_append o xs ys = ap least (map-joining o xs ys) ∙ least-append (places_of o xs) (places_of o ys)

spot-by : (rs : List PartRule) (p : Parts) (o : Origins) (n : ℕ) (at : Option ℕ) (rest later : Option (ℕ × ℕ))
    → later ≡ option_or rest (first_spot rs p o)
    → elim at as (λ _. Option (ℕ × ℕ)) [ None ↦ later | Some x ↦ Some (n, x) ]
    ≡ option_or (elim at as (λ _. Option (ℕ × ℕ)) [ None ↦ rest | Some x ↦ Some (n, x) ]) (first_spot rs p o)
spot-by rs p o n None rest later e = e
spot-by rs p o n (Some x) rest later e = refl

pub spots-append : (qs rs : List PartRule) (p : Parts) (o : Origins) → first_spot (qs ++ rs) p o ≡ option_or (first_spot qs p o) (first_spot rs p o)
spots-append [] rs p o = refl
spots-append (q ∷ qs) rs p o = spot-by rs p o q.0 (least (places_of o (q.1 p))) (first_spot qs p o) (first_spot (qs ++ rs) p o) (spots-append qs rs p o)

fault-by : (n : ℕ) (at : Option ℕ) (rest later more : Option (ℕ × ℕ))
    → later ≡ option_or rest more
    → elim at as (λ _. Option (ℕ × ℕ)) [ None ↦ later | Some x ↦ Some (n, x) ]
    ≡ option_or (elim at as (λ _. Option (ℕ × ℕ)) [ None ↦ rest | Some x ↦ Some (n, x) ]) more
fault-by n None rest later more e = e
fault-by n (Some x) rest later more e = refl

pub faults-append : (qs rs : List (Rule (List ℕ))) (file : List ℕ) → first_fault (qs ++ rs) file ≡ option_or (first_fault qs file) (first_fault rs file)
faults-append [] rs file = refl
faults-append (q ∷ qs) rs file = fault-by q.0 (least (q.1 file)) (first_fault qs file) (first_fault (qs ++ rs) file) (first_fault rs file) (faults-append qs rs file)

-- rules on parts, as rules on a file
pub faults-on_file : (rs : List PartRule) (file : List ℕ) → first_fault (map on_file rs) file ≡ first_spot rs (parts_of file) (origins_of file)
faults-on_file [] file = refl
faults-on_file (r ∷ rs) file =
    ap (λ (later : Option (ℕ × ℕ)). elim (least (places_of (origins_of file) (r.1 (parts_of file)))) as (λ _. Option (ℕ × ℕ)) [ None ↦ later | Some x ↦ Some (r.0, x) ])
    (faults-on_file rs file)

none-or : (o more : Option (ℕ × ℕ)) → o ≡ None → option_or o more ≡ more
none-or None more e = refl
none-or (Some x) more e = cc

-- where two groups of rules are kept, the third decides
pub spot-last : (qs rs ts : List PartRule) (p : Parts) (o : Origins) → first_spot qs p o ≡ None → first_spot rs p o ≡ None
    → first_spot (qs ++ (rs ++ ts)) p o ≡ first_spot ts p o
spot-last qs rs ts p o q r =
    spots-append qs (rs ++ ts) p o ∙ none-or (first_spot qs p o) (first_spot (rs ++ ts) p o) q
    ∙ spots-append rs ts p o ∙ none-or (first_spot rs p o) (first_spot ts p o) r

some-or : (o more : Option (ℕ × ℕ)) → is_some o ≡ true → option_or o more ≡ o
some-or None more e = cc
some-or (Some x) more e = refl

none-is : (o : Option (ℕ × ℕ)) → is_some o ≡ false → o ≡ None
none-is None e = refl
none-is (Some x) e = cc

-- a fault of the first group, and of the second where the first is kept
pub spot-first : (qs rs ts : List PartRule) (p : Parts) (o : Origins) → is_some (first_spot qs p o) ≡ true → first_spot (qs ++ (rs ++ ts)) p o ≡ first_spot qs p o
spot-first qs rs ts p o q = spots-append qs (rs ++ ts) p o ∙ some-or (first_spot qs p o) (first_spot (rs ++ ts) p o) q

pub spot-second : (qs rs ts : List PartRule) (p : Parts) (o : Origins) → is_some (first_spot qs p o) ≡ false → is_some (first_spot rs p o) ≡ true
    → first_spot (qs ++ (rs ++ ts)) p o ≡ first_spot rs p o
spot-second qs rs ts p o q r =
    spots-append qs (rs ++ ts) p o ∙ none-or (first_spot qs p o) (first_spot (rs ++ ts) p o) (none-is (first_spot qs p o) q)
    ∙ spots-append rs ts p o ∙ some-or (first_spot rs p o) (first_spot ts p o) r

pub spot-third : (qs rs ts : List PartRule) (p : Parts) (o : Origins) → is_some (first_spot qs p o) ≡ false → is_some (first_spot rs p o) ≡ false
    → first_spot (qs ++ (rs ++ ts)) p o ≡ first_spot ts p o
spot-third qs rs ts p o q r = spot-last qs rs ts p o (none-is (first_spot qs p o) q) (none-is (first_spot rs p o) r)

-- the first fault of a file, by those of the groups of rules
pub whole-by : (file : List ℕ) (h f p l : Option (ℕ × ℕ)) → first_fault head_rules file ≡ h → first_fault name_rules file ≡ f
    → first_spot rules_9_to_23 (parts_of file) (origins_of file) ≡ p → last_spot file (parts_of file) (origins_of file) ≡ l
    → first_fault object_rules file ≡ option_or h (option_or f (option_or p l))
whole-by file h f p l eh ef ep el =
    faults-append head_rules (name_rules ++ (map on_file rules_9_to_23 ++ last_rules)) file
    ∙ ap (λ (x : Option (ℕ × ℕ)). option_or x (first_fault (name_rules ++ (map on_file rules_9_to_23 ++ last_rules)) file)) eh
    ∙ ap (option_or h) (
    faults-append name_rules (map on_file rules_9_to_23 ++ last_rules) file
    ∙ ap (λ (x : Option (ℕ × ℕ)). option_or x (first_fault (map on_file rules_9_to_23 ++ last_rules) file)) ef
    ∙ ap (option_or f) (
    faults-append (map on_file rules_9_to_23) last_rules file
    ∙ ap (λ (x : Option (ℕ × ℕ)). option_or x (first_fault last_rules file)) (faults-on_file rules_9_to_23 file ∙ ep)
    ∙ ap (option_or p) el
    )
    )

rise : AreAbove 0 object_rules
rise = (
  omega arith,
  (
    omega arith,
    (
      omega arith,
      (
        omega arith,
        (
          omega arith,
          (
            omega arith,
            (
              omega arith,
              (
                omega arith,
                (
                  omega arith,
                  (
                    omega arith,
                    (
                      omega arith,
                      (
                        omega arith,
                        (
                          omega arith,
                          (
                            omega arith,
                            (
                              omega arith,
                              (
                                omega arith,
                                (omega arith, (omega arith, (omega arith, (omega arith, (omega arith, (omega arith, (omega arith, (omega arith, tt)))))))),
                              ),
                            ),
                          ),
                        ),
                      ),
                    ),
                  ),
                ),
              ),
            ),
          ),
        ),
      ),
    ),
  ),
)

pub object-fault : (file : List ℕ) (rule at : ℕ) → first_fault object_rules file ≡ Some (rule, at) → IsFirstFault object_rules file rule at
object-fault file rule at h = fault_is_least 0 object_rules file rule at rise h

pub object-unbroken : (file : List ℕ) → first_fault object_rules file ≡ None → IsUnbroken object_rules file
object-unbroken file h = none_is_unbroken object_rules file h

first-kept : (n : ℕ) (at : Option ℕ) (rest : Option (ℕ × ℕ)) → elim at as (λ _. Option (ℕ × ℕ)) [ None ↦ rest | Some x ↦ Some (n, x) ] ≡ None → (at ≡ None) × (rest ≡ None)
first-kept n None rest e = (refl, e)
first-kept n (Some x) rest e = cc

-- the rules on the sections' bytes, on their relocation tables and on where they lie are kept where the headers have no fault
pub heads-kept : (file : List ℕ) → first_fault head_rules file ≡ None → (least (rule_4 file) ≡ None) × ((least (rule_5 file) ≡ None) × (least (rule_6 file) ≡ None))
heads-kept file e =
    let a = first-kept 1 (least (rule_1 file)) _ e in
    let b = first-kept 2 (least (rule_2 file)) _ a.1 in
    let c = first-kept 3 (least (rule_3 file)) _ b.1 in
    let d = first-kept 4 (least (rule_4 file)) _ c.1 in
    let f = first-kept 5 (least (rule_5 file)) _ d.1 in
    let g = first-kept 6 (least (rule_6 file)) None f.1 in
    (d.0, (f.0, g.0))

-- a fault of the headers is one of the file
pub heads_fault : (file : List ℕ) (e : ObjErr) → ReadsHeads file (Err e) → ReadsParts file (Err e)
heads_fault file (obj.Rule rule at) h = object-fault file rule at (whole-by file (Some (rule, at)) _ _ _ h refl refl refl)
heads_fault file obj.NoMemory h = tt
