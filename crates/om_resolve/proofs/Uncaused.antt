-- Relocations of objects against which there is no cause.
use Rattle.std.proofs.Common.{◌≡◌, ◌⊎◌, inl, inr, ℕ, ◌<◌, Bool, true, false, cond, List, [], ◌∷◌, length, fold, Option, Some, None, refl, ap, sym, subst, ◌∙◌}
use Rattle.std.specs.Prelude.{option_map}
use Rattle.om_fields.specs.Places.{each}
use Rattle.om_value.specs.declared.value.Place.{Place}
use Rattle.om_value.specs.declared.value.Target.{Target}
use Rattle.om_value.specs.declared.value.Target.TheVariants.{Num, Ptr, Code}
use Rattle.om_reloc.specs.declared.reloc.RelocKind.{RelocKind}
use Rattle.om_reloc.specs.declared.reloc.RelocKind.TheVariants.{GpRel32, BrAddr}
use Rattle.om_object.specs.declared.parts.Section.{Section}
use Rattle.om_object.specs.declared.parts.Parts.{Parts}
use Rattle.om_object.specs.Words.{section_of}
use Rattle.om_object.specs.Rules.{section_at, reloc_at}
use Rattle.om_resolve.specs.declared.finding.Finding.{Finding}
use Rattle.om_resolve.specs.declared.finding.Finding.TheVariants.{Broken}
use Rattle.om_resolve.specs.declared.finding.Scan.TheVariants.{Targets}
use Rattle.om_resolve.specs.Names.{object_at}
use Rattle.om_resolve.specs.Findings.{is_before, better, first_found}
use Rattle.om_resolve.specs.Causes.{gp_target, branch_target, is_no_gp_target, is_no_code, rule_broken, broken_at, found_at, found_in_section, found_in_object, found_in, cause_of, scanned, first_cause}
use Rattle.om_resolve.proofs.Members.{In, got_in, joined_in}
use Rattle.om_resolve.proofs.ProgramWords.{each_get, found_at as section_found_at}
use Rattle.om_resolve.proofs.ProgramEntry.{targets_unbroken}

-- ---- where nothing is found, nothing is in the list

better_none : (a b : Option Finding) → better a b ≡ None → (a ≡ None) × (b ≡ None)
better_none None b h = (refl, h)
better_none (Some a) None h = cc
better_none (Some a) (Some b) h = by_test (is_before b a) h
  where
    by_test : (c : Bool) → cond c (Some b) (Some a) ≡ None → (Some a ≡ None) × (Some b ≡ None)
    by_test true h = cc
    by_test false h = cc

all_none : (o : Option Finding) (xs : List (Option Finding)) → fold better o xs ≡ None → (o ≡ None) × ((x : Option Finding) → In xs x → x ≡ None)
all_none o [] h = (h, λ x i. absurd i)
all_none o (y ∷ ys) h =
    let rest = all_none (better o y) ys h in
    let both = better_none o y rest.0 in
    (both.0, λ x i. by_place x both.1 rest.1 i)
  where
    by_place : (x : Option Finding) → y ≡ None → ((z : Option Finding) → In ys z → z ≡ None) → (y ≡ x) ⊎ In ys x → x ≡ None
    by_place x e later (inl same) = sym same ∙ e
    by_place x e later (inr i) = later x i

pub nothing_found : (xs : List (Option Finding)) (x : Option Finding) → first_found xs ≡ None → In xs x → x ≡ None
nothing_found xs x h i = (all_none None xs h).1 x i

pub each_in : {X : Type 0} (f : ℕ → X) (n i : ℕ) → i < n → In (each f n) (f i)
each_in f n i h = got_in (each f n) i (f i) (each_get f n i h)

module _ (objects : List Parts) (uncaused : first_cause objects ≡ None) where
  none_scanned : first_found (found_in objects Targets) ≡ None
  unfolding scanned
  none_scanned = by_found (first_found (found_in objects Targets)) (targets_unbroken objects uncaused)
    where
      by_found : (o : Option Finding) → option_map (cause_of objects) o ≡ None → o ≡ None
      by_found None e = refl
      by_found (Some f) e = cc

  unbroken_at : (obj a i : ℕ) → obj < length objects → a < length (object_at objects obj).sections → i < length (section_at (object_at objects obj) a).relocs → broken_at objects obj (section_at (object_at objects obj) a) (reloc_at (section_at (object_at objects obj) a) i) ≡ None
  unfolding found_in found_in_object found_in_section
  unbroken_at obj a i ho ha hi =
      nothing_found (found_in objects Targets) _ none_scanned
      (joined_in (found_in_object objects Targets) (length objects) obj _ ho
      (joined_in (λ b. found_in_section objects Targets obj (section_at (object_at objects obj) b)) (length (object_at objects obj).sections) a _ ha
      (each_in (λ k. found_at objects Targets obj (section_at (object_at objects obj) a) (reloc_at (section_at (object_at objects obj) a) k)) (length (section_at (object_at objects obj) a).relocs) i hi)))

  -- no relocation of a section breaks one of the rules on external targets
  pub unbroken_in : (obj n : ℕ) (s : Section) → obj < length objects → section_of (object_at objects obj) n ≡ Some s → (i : ℕ) → i < length s.relocs → broken_at objects obj s (reloc_at s i) ≡ None
  unbroken_in obj n s ho hs =
      let f = section_found_at (object_at objects obj) n s hs in
      subst (λ (t : Section). (i : ℕ) → i < length t.relocs → broken_at objects obj t (reloc_at t i) ≡ None) f.here (λ i. unbroken_at obj f.index i ho f.below)

  rule_unbroken : (obj : ℕ) (s : Section) (i : ℕ) (kind : RelocKind) → broken_at objects obj s (reloc_at s i) ≡ None → (reloc_at s i).external ≡ true → (reloc_at s i).kind ≡ kind → rule_broken objects obj s (reloc_at s i) kind ≡ None
  rule_unbroken obj s i kind h e k =
      by_rule (rule_broken objects obj s (reloc_at s i) kind)
      (sym (ap (λ k. option_map (λ rule. Broken obj rule (reloc_at s i).place) (rule_broken objects obj s (reloc_at s i) k)) k)
      ∙ sym (ap (λ b. cond b (option_map (λ rule. Broken obj rule (reloc_at s i).place) (rule_broken objects obj s (reloc_at s i) (reloc_at s i).kind)) None) e) ∙ h)
    where
      by_rule : (o : Option ℕ) → option_map (λ rule. Broken obj rule (reloc_at s i).place) o ≡ None → o ≡ None
      by_rule None h = refl
      by_rule (Some rule) h = cc

  test_false : (b : Bool) (n : ℕ) → cond b (Some n) None ≡ None → b ≡ false
  test_false true n h = cc
  test_false false n h = refl

  -- an external distance from the global pointer leads to a byte of a region, to its end or to a word
  pub gp_unbroken : (obj : ℕ) (s : Section) (i : ℕ) → broken_at objects obj s (reloc_at s i) ≡ None → (reloc_at s i).external ≡ true → (reloc_at s i).kind ≡ GpRel32 → is_no_gp_target objects (gp_target objects obj s (reloc_at s i)) ≡ false
  gp_unbroken obj s i h e k = test_false (is_no_gp_target objects (gp_target objects obj s (reloc_at s i))) 27 (rule_unbroken obj s i GpRel32 h e k)

  -- an external branch leads to a word
  pub branch_unbroken : (obj : ℕ) (s : Section) (i : ℕ) → broken_at objects obj s (reloc_at s i) ≡ None → (reloc_at s i).external ≡ true → (reloc_at s i).kind ≡ BrAddr → (q : Place) × (branch_target objects obj s (reloc_at s i) ≡ Some (Code q))
  branch_unbroken obj s i h e k = by_target (branch_target objects obj s (reloc_at s i)) (test_false (is_no_code (branch_target objects obj s (reloc_at s i))) 28 (rule_unbroken obj s i BrAddr h e k))
    where
      by_target : (o : Option Target) → is_no_code o ≡ false → (q : Place) × (o ≡ Some (Code q))
      by_target None h = cc
      by_target (Some (Code q)) h = (q, refl)
      by_target (Some (Num n)) h = cc
      by_target (Some (Ptr r x)) h = cc
