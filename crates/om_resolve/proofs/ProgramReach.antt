-- Where no cause applies to objects, branches to symbols reach them.
use Rattle.std.proofs.Common.{◌≡◌, ℕ, ◌<◌, Bool, true, false, cond, ◌&&◌, List, length, Option, Some, None, refl, ap, sym, subst, ◌∙◌}
use Rattle.std.specs.Prelude.{option_map}
use Rattle.om_value.specs.declared.value.Place.{Place}
use Rattle.om_reloc.specs.declared.reloc.RelocKind.TheVariants.{BrAddr}
use Rattle.om_object.specs.declared.parts.Section.{Section}
use Rattle.om_object.specs.declared.parts.Parts.{Parts}
use Rattle.om_object.specs.Words.{section_of, offset_of}
use Rattle.om_object.specs.Rules.{section_at, reloc_at, is_braddr}
use Rattle.om_resolve.specs.declared.finding.Finding.{Finding}
use Rattle.om_resolve.specs.declared.finding.Finding.TheVariants.{Far}
use Rattle.om_resolve.specs.declared.finding.Scan.TheVariants.{Reach}
use Rattle.om_resolve.specs.Names.{object_at}
use Rattle.om_resolve.specs.Findings.{first_found}
use Rattle.om_resolve.specs.Causes.{reaches, code_of, branch_target, distance, far_by, far_at, found_at, found_in_section, found_in_object, found_in, cause_of, scanned, first_cause}
use Rattle.om_resolve.specs.Program.{place_at}
use Rattle.om_resolve.proofs.Members.{joined_in}
use Rattle.om_resolve.proofs.ProgramWords.{found_at as section_found_at}
use Rattle.om_resolve.proofs.ProgramTotals.{causes}
use Rattle.om_resolve.proofs.Uncaused.{nothing_found, each_in}

module _ (objects : List Parts) (uncaused : first_cause objects ≡ None) where
  none_far : first_found (found_in objects Reach) ≡ None
  unfolding scanned
  none_far = by_found (first_found (found_in objects Reach)) (causes objects uncaused).2
    where
      by_found : (o : Option Finding) → option_map (cause_of objects) o ≡ None → o ≡ None
      by_found None e = refl
      by_found (Some f) e = cc

  far_none_at : (obj a i : ℕ) → obj < length objects → a < length (object_at objects obj).sections → i < length (section_at (object_at objects obj) a).relocs → far_at objects obj (section_at (object_at objects obj) a) (reloc_at (section_at (object_at objects obj) a) i) ≡ None
  unfolding found_in found_in_object found_in_section
  far_none_at obj a i ho ha hi =
      nothing_found (found_in objects Reach) _ none_far
      (joined_in (found_in_object objects Reach) (length objects) obj _ ho
      (joined_in (λ b. found_in_section objects Reach obj (section_at (object_at objects obj) b)) (length (object_at objects obj).sections) a _ ha
      (each_in (λ k. found_at objects Reach obj (section_at (object_at objects obj) a) (reloc_at (section_at (object_at objects obj) a) k)) (length (section_at (object_at objects obj) a).relocs) i hi)))

  far_none : (obj n : ℕ) (s : Section) → obj < length objects → section_of (object_at objects obj) n ≡ Some s → (i : ℕ) → i < length s.relocs → far_at objects obj s (reloc_at s i) ≡ None
  far_none obj n s ho hs =
      let f = section_found_at (object_at objects obj) n s hs in
      subst (λ (t : Section). (i : ℕ) → i < length t.relocs → far_at objects obj t (reloc_at t i) ≡ None) f.here (λ i. far_none_at obj f.index i ho f.below)

  not_far : (at q : Place) → far_by objects at (Some q) ≡ None → reaches (distance objects at q) ≡ true
  not_far at q h = by_test (reaches (distance objects at q)) h
    where
      by_test : (b : Bool) → cond b None (Some (Far at (distance objects at q))) ≡ None → b ≡ true
      by_test true h = refl
      by_test false h = cc

  symbol_reaches : (obj : ℕ) (s : Section) (i : ℕ) (q : Place) → far_at objects obj s (reloc_at s i) ≡ None → (reloc_at s i).external ≡ true → (reloc_at s i).kind ≡ BrAddr → code_of (branch_target objects obj s (reloc_at s i)) ≡ Some q
      → reaches (distance objects (place_at obj (offset_of s (reloc_at s i))) q) ≡ true
  symbol_reaches obj s i q h x k e =
      let r = reloc_at s i in
      let at = place_at obj (offset_of s r) in
      let far = far_by objects at (code_of (branch_target objects obj s r)) in
      let both : (r.external && is_braddr r.kind) ≡ true = ap (λ b. b && is_braddr r.kind) x ∙ ap is_braddr k in
      not_far at q (sym (ap (far_by objects at) e) ∙ sym (ap (λ b. cond b far None) both) ∙ h)

  -- a branch to a symbol reaches it
  pub external_reaches : (obj : ℕ) (s : Section) (i : ℕ) (q : Place) → obj < length objects → section_of (object_at objects obj) 1 ≡ Some s → i < length s.relocs → (reloc_at s i).external ≡ true → (reloc_at s i).kind ≡ BrAddr
      → code_of (branch_target objects obj s (reloc_at s i)) ≡ Some q → reaches (distance objects (place_at obj (offset_of s (reloc_at s i))) q) ≡ true
  external_reaches obj s i q ho hs li x k e = symbol_reaches obj s i q (far_none obj 1 s ho hs i li) x k e
