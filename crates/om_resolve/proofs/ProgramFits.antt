-- The words of the program of objects: each has its instruction, and a role that fits it.
use Rattle.std.proofs.Common.{◌≡◌, ◌⊎◌, inl, inr, ℕ, zero, suc, ◌+◌, ◌*◌, ◌/◌, ◌%◌, ◌^◌, ◌<◌, ◌≤◌, Bool, true, false, cond, not, ◌&&◌, ◌||◌, ◌==◌, nat_lt, nat_le, List, [], ◌∷◌, length, Option, Some, None, refl, ap, sym, subst, ◌∙◌, arith, slice_index_or}
use Rattle.std.specs.Prelude.{ℤ, pos, ◌*ℤ◌, is_none, count_by, option_map, unwrap_or}
use Rattle.std.specs.Int.{w32, w64, cast_signed, cast_unsigned}
use Rattle.std.proofs.lemmas.Bool.{eqb-true}
use Rattle.std.proofs.lemmas.Bool.Decides.{nat_tests}
use Rattle.std.proofs.lemmas.Int.{ints}
use Rattle.std.proofs.lemmas.List.Sums.{sum_by-cons}
use Rattle.om_fields.specs.Places.{any_of, each, each_from, number_at}
use Rattle.om_isa.specs.declared.instr.Instr.{Instr}
use Rattle.om_isa.specs.declared.instr.Instr.TheVariants.{Mem, Branch}
use Rattle.om_isa.specs.declared.instr.MemOp.TheVariants.{Lda, Ldah, Ldq}
use Rattle.om_isa.specs.declared.instr.BrOp.{BrOp}
use Rattle.om_isa.specs.Words.{instr_of}
use Rattle.om_isa.proofs.Found.{map_some, then_some}
use Rattle.om_reloc.specs.declared.reloc.Reloc.{Reloc}
use Rattle.om_reloc.specs.declared.reloc.RelocKind.{RelocKind}
use Rattle.om_reloc.specs.declared.reloc.RelocKind.TheVariants.{GpDisp, BrAddr}
use Rattle.om_object.specs.declared.parts.Section.{Section}
use Rattle.om_object.specs.declared.parts.Parts.{Parts}
use Rattle.om_object.specs.declared.rules.RelocRule.TheVariants.{Inside, Aligned, Paired}
use Rattle.om_object.specs.Words.{section_of, offset_of, is_word, instr_in, ldah_disp, lda_disp, branch_disp, lda_offset, base_by, base_offset, own_target}
use Rattle.om_object.specs.Aims.{Symbol, branch_aim}
use Rattle.om_object.specs.Rules.{no_reloc, reloc_at, is_braddr, is_gpdisp, is_no_base, is_unpaired, is_unreadable, goes_astray, is_astray, is_branch_field, is_bound, four_bytes, field_bytes, field_width, IsObject}
use Rattle.om_value.specs.declared.value.Place.{Place}
use Rattle.om_value.specs.declared.value.Target.{Target}
use Rattle.om_value.specs.declared.value.Target.TheVariants.{Num, Ptr, Code}
use Rattle.om_value.specs.Same.{place_eq}
use Rattle.om_prog.specs.declared.item.Item.{Item}
use Rattle.om_prog.specs.declared.item.Role.{Role}
use Rattle.om_prog.specs.declared.item.Role.TheVariants.{Lit, GpHi, GpLo, To}
use Rattle.om_prog.specs.View.{item_at, is_word as is_program_word}
use Rattle.om_prog.specs.Valid.{fits, names_high, is_low_of, is_high_role, is_high, target_of_role, literal_of}
use Rattle.om_resolve.specs.Names.{object_at}
use Rattle.om_resolve.specs.Targets.{target_of}
use Rattle.om_resolve.specs.Causes.{branch_target, code_of, first_cause}
use Rattle.om_resolve.specs.Program.{place_at, role_by_disp, own_role, role_given, roles_in, role_at, item_of, literal_target, program_of}
use Rattle.om_resolve.proofs.Members.{In}
use Rattle.om_resolve.proofs.ObjectFacts.{or_false, and_false, not_true, stays_in, is_readable}
use Rattle.om_resolve.proofs.Uncaused.{unbroken_in, branch_unbroken}
use Rattle.om_resolve.proofs.ProgramBytes.{others_apart, four_in}
use Rattle.om_resolve.proofs.ProgramWords.{found_at, text_is_even, item_there, word_there}
use Rattle.om_resolve.proofs.ProgramTargets.{aim_is_target}
use Rattle.om_resolve.proofs.ProgramFields.{SoundSection, sound_section, kept_by}
use Rattle.om_resolve.proofs.ProgramLoads.{ldq_is, loads_slot, load_is_target, load_is_reached, reached_target}
use Rattle.om_resolve.proofs.ProgramRoles.{Gives, loads, high, low, branches, first_byte, halves_apart, given_by, gives_given}

-- ---- lists

both_true : (a b : Bool) → (a && b) ≡ true → (a ≡ true) × (b ≡ true)
both_true true b e = (refl, e)
both_true false b e = cc

any_at : {X : Type 0} (test : X → Bool) (xs : List X) (d : X) → any_of test xs ≡ true → (i : ℕ) × (i < length xs) × (test (slice_index_or xs i d) ≡ true)
any_at test [] d h = cc
any_at {X = X} test (x ∷ xs) d h = by_test (any_at test xs d) (test x) refl h
  where
    by_test : (any_of test xs ≡ true → (i : ℕ) × (i < length xs) × (test (slice_index_or xs i d) ≡ true)) → (b : Bool) → test x ≡ b → (b || any_of test xs) ≡ true → (i : ℕ) × (i < length (x ∷ xs)) × (test (slice_index_or (x ∷ xs) i d) ≡ true)
    by_test rest true e h = (zero, omega arith, e)
    by_test rest false e h = let k = rest h in (suc k.0, omega (arith, k.1), k.2)

none_counted : {X : Type 0} (test : X → Bool) (f : ℕ → X) (k n : ℕ) → ((j : ℕ) → j < n → test (f (k + j)) ≡ false) → count_by test (each_from f k n) ≡ 0
none_counted test f k zero h = refl
none_counted test f k (suc n) h =
    let z : k + 0 ≡ k = omega arith in
    let here : test (f k) ≡ false = sym (ap (λ j. test (f j)) z) ∙ h 0 (omega arith) in
    let rest = none_counted test f (k + 1) n (λ j b. let e : k + 1 + j ≡ k + suc j = omega arith in ap (λ i. test (f i)) e ∙ h (suc j) (omega arith)) in
    let sum : 0 + count_by test (each_from f (k + 1) n) ≡ 0 = omega (arith, rest) in
    sum_by-cons (λ x. cond (test x) 1 0) (f k) (each_from f (k + 1) n) ∙ ap (λ b. cond b 1 0 + count_by test (each_from f (k + 1) n)) here ∙ sum

one_counted : {X : Type 0} (test : X → Bool) (f : ℕ → X) (k n m : ℕ) → m < n → test (f (k + m)) ≡ true → ((j : ℕ) → j < n → (j ≡ m → ⊥) → test (f (k + j)) ≡ false) → count_by test (each_from f k n) ≡ 1
one_counted test f k zero m b t h = absurd (omega arith)
one_counted test f k (suc n) zero b t h =
    let z : k + 0 ≡ k = omega arith in
    let here : test (f k) ≡ true = sym (ap (λ j. test (f j)) z) ∙ t in
    let rest = none_counted test f (k + 1) n (λ j b. let e : k + 1 + j ≡ k + suc j = omega arith in ap (λ i. test (f i)) e ∙ h (suc j) (omega arith) (λ e. omega (arith, e))) in
    let sum : 1 + count_by test (each_from f (k + 1) n) ≡ 1 = omega (arith, rest) in
    sum_by-cons (λ x. cond (test x) 1 0) (f k) (each_from f (k + 1) n) ∙ ap (λ b. cond b 1 0 + count_by test (each_from f (k + 1) n)) here ∙ sum
one_counted test f k (suc n) (suc m) b t h =
    let z : k + 0 ≡ k = omega arith in
    let here : test (f k) ≡ false = sym (ap (λ j. test (f j)) z) ∙ h 0 (omega arith) (λ e. omega (arith, e)) in
    let e : k + 1 + m ≡ k + suc m = omega arith in
    let rest = one_counted test f (k + 1) n m (omega arith) (ap (λ i. test (f i)) e ∙ t) (λ j b d. let e : k + 1 + j ≡ k + suc j = omega arith in ap (λ i. test (f i)) e ∙ h (suc j) (omega arith) (λ g. d (omega (arith, g)))) in
    let sum : 0 + count_by test (each_from f (k + 1) n) ≡ 1 = omega (arith, rest) in
    sum_by-cons (λ x. cond (test x) 1 0) (f k) (each_from f (k + 1) n) ∙ ap (λ b. cond b 1 0 + count_by test (each_from f (k + 1) n)) here ∙ sum

-- ---- instructions

ldah_is : (o : Option Instr) (disp : ℤ) → ldah_disp o ≡ Some disp → (ra : ℕ) × (rb : ℕ) × (o ≡ Some (Mem Ldah ra rb disp))
ldah_is (Some (Mem Ldah ra rb d)) disp h = let same : d ≡ disp = cc in (ra, rb, ap (λ d. Some (Mem Ldah ra rb d)) same)
ldah_is _ disp h = cc

lda_is : (o : Option Instr) (disp : ℤ) → lda_disp o ≡ Some disp → (ra : ℕ) × (rb : ℕ) × (o ≡ Some (Mem Lda ra rb disp))
lda_is (Some (Mem Lda ra rb d)) disp h = let same : d ≡ disp = cc in (ra, rb, ap (λ d. Some (Mem Lda ra rb d)) same)
lda_is _ disp h = cc

branch_is : (o : Option Instr) (disp : ℤ) → branch_disp o ≡ Some disp → (op : BrOp) × (ra : ℕ) × (o ≡ Some (Branch op ra disp))
branch_is (Some (Branch op ra d)) disp h = let same : d ≡ disp = cc in (op, ra, ap (λ d. Some (Branch op ra d)) same)
branch_is _ disp h = cc

braddr_is : (k : RelocKind) → is_braddr k ≡ true → k ≡ BrAddr
braddr_is BrAddr e = refl
braddr_is _ e = cc

code_is : (o : Option Target) (q : Place) → code_of o ≡ Some q → o ≡ Some (Code q)
code_is (Some (Code p)) q h = let same : p ≡ q = cc in ap (λ p. Some (Code p)) same
code_is (Some (Num n)) q h = cc
code_is (Some (Ptr r x)) q h = cc
code_is None q h = cc

-- a distance of 32 bits that is a multiple of 4 keeps a multiple of 4, or it is one short of nothing
even_distance : (n : ℕ) → n % 4 ≡ 0 → (cast_unsigned w64 (cast_signed w32 n) % 4 ≡ 0) ⊎ (cast_unsigned w64 (cast_signed w32 n) ≡ 18446744073709551615)
even_distance n h = by_size (nat_lt n 4294967296) refl
  where
    by_size : (b : Bool) → nat_lt n 4294967296 ≡ b → (cast_unsigned w64 (cast_signed w32 n) % 4 ≡ 0) ⊎ (cast_unsigned w64 (cast_signed w32 n) ≡ 18446744073709551615)
    by_size true e = inl (grind (arith, nat_tests, ints))
    by_size false e = inr (grind (arith, nat_tests, ints))

module _ (objects : List Parts) (sound : (k : ℕ) → k < length objects → IsObject (object_at objects k)) (uncaused : first_cause objects ≡ None) (obj : ℕ) (ho : obj < length objects) (s : Section) (hs : section_of (object_at objects obj) 1 ≡ Some s) where
  fine : SoundSection (object_at objects obj) s
  fine = sound_section (object_at objects obj) (sound obj ho) 1 s hs

  number : s.number ≡ 1
  number = (found_at (object_at objects obj) 1 s hs).number

  size_is : (s.size % 4 ≡ 0) × (length s.bytes ≡ s.size)
  size_is = text_is_even (object_at objects obj) (sound obj ho) s hs

  readable : (k : ℕ) → k < length s.bytes / 4 → is_unreadable s (4 * k) ≡ false
  readable =
      let f = found_at (object_at objects obj) 1 s hs in
      subst (λ (t : Section). t.number ≡ 1 → (k : ℕ) → k < length t.bytes / 4 → is_unreadable t (4 * k) ≡ false) f.here
      (λ one k b. is_readable (object_at objects obj) (sound obj ho) f.index k f.below one b) number

  stays : (k : ℕ) → k < length s.bytes / 4 → is_astray (object_at objects obj) s (4 * k) ≡ false
  stays =
      let f = found_at (object_at objects obj) 1 s hs in
      subst (λ (t : Section). t.number ≡ 1 → (k : ℕ) → k < length t.bytes / 4 → is_astray (object_at objects obj) t (4 * k) ≡ false) f.here
      (λ one k b. stays_in (object_at objects obj) (sound obj ho) f.index k f.below one b) number

  in_bytes : (k : ℕ) → k < s.size / 4 → k < length s.bytes / 4
  in_bytes k b = subst (λ n. k < n / 4) (sym size_is.1) b

  -- the instruction of a word
  pub instr_there : (k : ℕ) → k < s.size / 4 → (i : Instr) × (instr_of (number_at s.bytes (4 * k) 4) ≡ Some i) × (instr_in s (4 * k) ≡ Some i)
  instr_there k b = by_instr (instr_of (number_at s.bytes (4 * k) 4)) refl
    where
      same : instr_in s (4 * k) ≡ instr_of (number_at s.bytes (4 * k) 4)
      same =
          let size = size_is.1 in
          let below : nat_le (4 * k + 4) (length s.bytes) ≡ true = grind (arith, nat_tests, size, b) in
          ap (λ t. cond t (instr_of (number_at s.bytes (4 * k) 4)) None) below

      by_instr : (o : Option Instr) → instr_of (number_at s.bytes (4 * k) 4) ≡ o → (i : Instr) × (instr_of (number_at s.bytes (4 * k) 4) ≡ Some i) × (instr_in s (4 * k) ≡ Some i)
      by_instr None e =
          let never : true ≡ false = sym (ap is_none (same ∙ e)) ∙ readable k (in_bytes k b) in
          absurd cc
      by_instr (Some i) e = (i, e, same ∙ e)

  -- ---- words that no relocation gives a role

  bound_gives : (off : ℕ) → is_bound s off ≡ true → (q : Place) × (role_given (roles_in objects obj s) off ≡ Some (To q))
  bound_gives off h =
      let a = any_at (is_branch_field s off) s.relocs no_reloc h in
      let t = both_true (is_braddr (reloc_at s a.0).kind && (reloc_at s a.0).external) (offset_of s (reloc_at s a.0) == off) a.2 in
      let u = both_true (is_braddr (reloc_at s a.0).kind) (reloc_at s a.0).external t.0 in
      let kind = braddr_is (reloc_at s a.0).kind u.0 in
      let q = branch_unbroken objects uncaused obj s a.0 (unbroken_in objects uncaused obj 1 s ho hs a.0 a.1) u.1 kind in
      (q.0, gives_given objects obj s fine.unshared a.0 off (To q.0) a.1 (branches q.0 kind u.1 (ap code_of q.1) (eqb-true (offset_of s (reloc_at s a.0)) off t.1) refl))

  unbound : (off : ℕ) → role_given (roles_in objects obj s) off ≡ None → is_bound s off ≡ false
  unbound off none = by_test (is_bound s off) refl
    where
      by_test : (b : Bool) → is_bound s off ≡ b → b ≡ false
      by_test true e = let g = bound_gives off e in let never : None ≡ Some (To g.0) = sym none ∙ g.1 in cc
      by_test false e = refl

  own_fits : (text : List Item) (k : ℕ) (i : Instr) → k < s.size / 4 → instr_in s (4 * k) ≡ Some i → role_given (roles_in objects obj s) (4 * k) ≡ None → fits (program_of objects) text (place_at obj (4 * k)) (own_role obj s (4 * k)) i ≡ true
  own_fits text k i b e none =
      ap (λ o. fits (program_of objects) text (place_at obj (4 * k)) (role_by_disp obj (4 * k) (branch_disp o)) i) e ∙ by_instr i e
    where
      by_word : (disp : ℤ) (w : Bool) → is_word (object_at objects obj) (own_target (4 * k) disp) ≡ w → (not w && not (is_bound s (4 * k))) ≡ false → is_program_word (program_of objects) (place_at obj (own_target (4 * k) disp)) ≡ true
      by_word disp true e h = word_there objects obj (own_target (4 * k) disp) ho (sound obj ho) e
      by_word disp false e h = let never : true ≡ false = sym (ap not (unbound (4 * k) none)) ∙ h in absurd cc

      by_instr : (i : Instr) → instr_in s (4 * k) ≡ Some i → fits (program_of objects) text (place_at obj (4 * k)) (role_by_disp obj (4 * k) (branch_disp (Some i))) i ≡ true
      by_instr (Branch op ra disp) e =
          by_word disp (is_word (object_at objects obj) (own_target (4 * k) disp)) refl
          (sym (ap (λ o. goes_astray (object_at objects obj) (4 * k) (branch_disp o) && not (is_bound s (4 * k))) e) ∙ stays k (in_bytes k b))
      by_instr _ e = refl

  -- ---- address loads, and branches to symbols

  load_fits : (text : List Item) (at : Place) (i : ℕ) (t : Target) (instr : Instr) → literal_target objects obj s (reloc_at s i) ≡ Some t → instr_in s (offset_of s (reloc_at s i)) ≡ Some instr → fits (program_of objects) text at (Lit t) instr ≡ true
  load_fits text at i t instr h e =
      let k = loads_slot objects obj s (reloc_at s i) t h in
      let l = ldq_is (instr_in s (offset_of s (reloc_at s i))) k.disp k.load in
      let f : Some (Mem Ldq l.0 l.1 k.disp) ≡ Some instr = sym l.2 ∙ e in
      let same : Mem Ldq l.0 l.1 k.disp ≡ instr = cc in
      subst (λ x. fits (program_of objects) text at (Lit t) x ≡ true) same (load_is_target objects sound obj s (reloc_at s i) t ho h)

  branch_fits : (text : List Item) (at : Place) (i : ℕ) (q : Place) (instr : Instr) → code_of (branch_target objects obj s (reloc_at s i)) ≡ Some q → instr_in s (offset_of s (reloc_at s i)) ≡ Some instr → fits (program_of objects) text at (To q) instr ≡ true
  branch_fits text at i q instr h e =
      let a = then_some (target_of objects obj) (branch_aim s (reloc_at s i)) (Code q) (code_is (branch_target objects obj s (reloc_at s i)) q h) in
      let b = map_some (λ disp. Symbol (reloc_at s i).index (cast_unsigned w64 (pos 4 *ℤ disp))) (branch_disp (instr_in s (offset_of s (reloc_at s i)))) a.0 a.1 in
      let l = branch_is (instr_in s (offset_of s (reloc_at s i))) b.0 b.1 in
      let f : Some (Branch l.0 l.1 b.0) ≡ Some instr = sym l.2 ∙ e in
      let same : Branch l.0 l.1 b.0 ≡ instr = cc in
      subst (λ x. fits (program_of objects) text at (To q) x ≡ true) same
      (aim_is_target objects sound obj (Symbol (reloc_at s i).index (cast_unsigned w64 (pos 4 *ℤ b.0))) (Code q) ho tt (ap (target_of objects obj) b.2 ∙ a.2))

  -- ---- pairs that set the global pointer

  record IsPair (r : Reloc) : Type 0 where
    low_even : lda_offset s r % 4 ≡ 0
    low_inside : lda_offset s r < s.size
    high_even : offset_of s r % 4 ≡ 0
    high_inside : offset_of s r + 4 ≤ s.size
    base : ℕ
    base_is : base_offset (object_at objects obj) s r ≡ Some base
    base_word : is_word (object_at objects obj) base ≡ true

  based : (o : Option ℕ) → is_no_base (object_at objects obj) o ≡ false → (base : ℕ) × (o ≡ Some base) × (is_word (object_at objects obj) base ≡ true)
  based None h = cc
  based (Some base) h = (base, refl, not_true (is_word (object_at objects obj) base) h)

  pair_even : (i : ℕ) → i < length s.relocs → (reloc_at s i).kind ≡ GpDisp → (reloc_at s i).index % 4 ≡ 0 → offset_of s (reloc_at s i) % 4 ≡ 0 → lda_offset s (reloc_at s i) % 4 ≡ 0
  pair_even i li k e h = by_case (even_distance (reloc_at s i).index e)
    where
      by_case : (cast_unsigned w64 (cast_signed w32 (reloc_at s i).index) % 4 ≡ 0) ⊎ (cast_unsigned w64 (cast_signed w32 (reloc_at s i).index) ≡ 18446744073709551615) → lda_offset s (reloc_at s i) % 4 ≡ 0
      by_case (inl z) = let even : (offset_of s (reloc_at s i) + cast_unsigned w64 (cast_signed w32 (reloc_at s i).index)) % 2 ^ 64 % 4 ≡ 0 = omega (arith, z, h) in even
      by_case (inr z) =
          let next : (lda_offset s (reloc_at s i) + 1) % 2 ^ 64 ≡ (offset_of s (reloc_at s i) + 0) % 2 ^ 64 = omega (arith, z) in
          absurd (halves_apart s i ((offset_of s (reloc_at s i) + 0) % 2 ^ 64) (fine.unshared i li) k (four_in (offset_of s (reloc_at s i)) 0 (omega arith))
          (subst (In (four_bytes (lda_offset s (reloc_at s i)))) next (four_in (lda_offset s (reloc_at s i)) 1 (omega arith))))

  pair_is : (i : ℕ) → i < length s.relocs → (reloc_at s i).kind ≡ GpDisp → IsPair (reloc_at s i)
  pair_is i li k =
      let one : (s.number == 1) ≡ true = ap (λ n. n == 1) number in
      let a = and_false (s.number == 1) (not (offset_of s (reloc_at s i) % 4 == 0)) (kept_by (object_at objects obj) s fine Aligned i li GpDisp k refl) one in
      let even = eqb-true (offset_of s (reloc_at s i) % 4) 0 (not_true (offset_of s (reloc_at s i) % 4 == 0) a) in
      let n = kept_by (object_at objects obj) s fine Inside i li GpDisp k refl in
      let m : nat_lt s.size (offset_of s (reloc_at s i) + 4) ≡ false = sym (ap (λ k. nat_lt s.size (offset_of s (reloc_at s i) + field_width k)) k) ∙ n in
      let p = kept_by (object_at objects obj) s fine Paired i li GpDisp k refl in
      let here : ((s.number == 1) && is_gpdisp (reloc_at s i).kind) ≡ true = ap (λ t. t && is_gpdisp (reloc_at s i).kind) one ∙ ap is_gpdisp k in
      let q = and_false ((s.number == 1) && is_gpdisp (reloc_at s i).kind) (is_unpaired (object_at objects obj) s (reloc_at s i)) p here in
      let f = or_false ((reloc_at s i).external || ((reloc_at s i).index == 0) || not ((reloc_at s i).index % 4 == 0) || not (nat_lt (lda_offset s (reloc_at s i)) s.size)) (is_no_base (object_at objects obj) (base_offset (object_at objects obj) s (reloc_at s i))) q in
      let e = or_false ((reloc_at s i).external || ((reloc_at s i).index == 0) || not ((reloc_at s i).index % 4 == 0)) (not (nat_lt (lda_offset s (reloc_at s i)) s.size)) f.0 in
      let d = or_false ((reloc_at s i).external || ((reloc_at s i).index == 0)) (not ((reloc_at s i).index % 4 == 0)) e.0 in
      let index = eqb-true ((reloc_at s i).index % 4) 0 (not_true ((reloc_at s i).index % 4 == 0) d.1) in
      let inside = not_true (nat_lt (lda_offset s (reloc_at s i)) s.size) e.1 in
      let b = based (base_offset (object_at objects obj) s (reloc_at s i)) f.1 in
      record {
        low_even = pair_even i li k index even;
        low_inside = grind (arith, nat_tests, inside);
        high_even = even;
        high_inside = grind (arith, nat_tests, m);
        base = b.0;
        base_is = b.1;
        base_word = b.2;
      }

  pub low_role : (i : ℕ) → i < length s.relocs → (reloc_at s i).kind ≡ GpDisp → role_at objects obj s (lda_offset s (reloc_at s i)) ≡ GpLo (place_at obj (offset_of s (reloc_at s i)))
  unfolding role_at
  low_role i li k =
      ap (λ (o : Option Role). unwrap_or o (own_role obj s (lda_offset s (reloc_at s i))))
      (gives_given objects obj s fine.unshared i (lda_offset s (reloc_at s i)) (GpLo (place_at obj (offset_of s (reloc_at s i)))) li (low k refl refl))

  high_role : (i base : ℕ) → i < length s.relocs → (reloc_at s i).kind ≡ GpDisp → base_offset (object_at objects obj) s (reloc_at s i) ≡ Some base → role_at objects obj s (offset_of s (reloc_at s i)) ≡ GpHi (place_at obj base)
  unfolding role_at
  high_role i base li k e =
      ap (λ (o : Option Role). unwrap_or o (own_role obj s (offset_of s (reloc_at s i))))
      (gives_given objects obj s fine.unshared i (offset_of s (reloc_at s i)) (GpHi (place_at obj base)) li (high base k e refl refl))

  -- a low half that names the high half at an offset is that of its relocation
  own_names_none : (hi : Place) (off : ℕ) (o : Option ℤ) → names_high hi (role_by_disp obj off o) ≡ false
  own_names_none hi off None = refl
  own_names_none hi off (Some disp) = refl

  names_by : (i off : ℕ) (role : Role) (j : ℕ) → i < length s.relocs → j < length s.relocs → (reloc_at s i).kind ≡ GpDisp → Gives objects obj s j off role → names_high (place_at obj (offset_of s (reloc_at s i))) role ≡ true → off ≡ lda_offset s (reloc_at s i)
  names_by i off role j li lj k (loads t l h o same) n = let never : false ≡ true = ap (names_high (place_at obj (offset_of s (reloc_at s i)))) same ∙ n in absurd cc
  names_by i off role j li lj k (high base l h o same) n = let never : false ≡ true = ap (names_high (place_at obj (offset_of s (reloc_at s i)))) same ∙ n in absurd cc
  names_by i off role j li lj k (branches q l x h o same) n = let never : false ≡ true = ap (names_high (place_at obj (offset_of s (reloc_at s i)))) same ∙ n in absurd cc
  names_by i off role j li lj k (low l o same) n =
      let m : place_eq (place_at obj (offset_of s (reloc_at s j))) (place_at obj (offset_of s (reloc_at s i))) ≡ true = ap (names_high (place_at obj (offset_of s (reloc_at s i)))) same ∙ n in
      let at : offset_of s (reloc_at s j) ≡ offset_of s (reloc_at s i) = eqb-true (offset_of s (reloc_at s j)) (offset_of s (reloc_at s i)) (both_true (obj == obj) (offset_of s (reloc_at s j) == offset_of s (reloc_at s i)) m).1 in
      let one = others_apart s fine.unshared j i (offset_of s (reloc_at s i)) lj li
      (subst (In (field_bytes s (reloc_at s j))) at (first_byte objects obj s j GpDisp l tt (omega arith)))
      (first_byte objects obj s i GpDisp k tt (omega arith)) in
      sym o ∙ ap (λ k. lda_offset s (reloc_at s k)) one

  names_only : (i off : ℕ) → i < length s.relocs → (reloc_at s i).kind ≡ GpDisp → names_high (place_at obj (offset_of s (reloc_at s i))) (role_at objects obj s off) ≡ true → off ≡ lda_offset s (reloc_at s i)
  unfolding role_at
  names_only i off li k n = by_given (role_given (roles_in objects obj s) off) refl n
    where
      by_given : (o : Option Role) → role_given (roles_in objects obj s) off ≡ o → names_high (place_at obj (offset_of s (reloc_at s i))) (unwrap_or o (own_role obj s off)) ≡ true → off ≡ lda_offset s (reloc_at s i)
      by_given None e n =
          let never : false ≡ true = sym (own_names_none (place_at obj (offset_of s (reloc_at s i))) off (branch_disp (instr_in s off))) ∙ n in
          absurd cc
      by_given (Some role) e n = let g = given_by objects obj s off role e in names_by i off role g.0 li g.1 k g.2 n

  -- each high half is named by one word of its text
  one_low : (i k : ℕ) → i < length s.relocs → (reloc_at s i).kind ≡ GpDisp → offset_of s (reloc_at s i) ≡ 4 * k → count_by (is_low_of (place_at obj (4 * k))) (each (item_of objects obj s) (s.size / 4)) ≡ 1
  one_low i k li g at =
      let p = pair_is i li g in
      let low_even = p.low_even in
      let low_inside = p.low_inside in
      let even = size_is.0 in
      let place : 4 * (lda_offset s (reloc_at s i) / 4) ≡ lda_offset s (reloc_at s i) = omega (arith, low_even) in
      let self : place_eq (place_at obj (offset_of s (reloc_at s i))) (place_at obj (4 * k)) ≡ true = grind (arith, nat_tests, at) in
      one_counted (is_low_of (place_at obj (4 * k))) (item_of objects obj s) 0 (s.size / 4) (lda_offset s (reloc_at s i) / 4) (omega (arith, low_even, low_inside, even))
      (let z : 0 + lda_offset s (reloc_at s i) / 4 ≡ lda_offset s (reloc_at s i) / 4 = omega arith in
      ap (λ j. names_high (place_at obj (4 * k)) (role_at objects obj s (4 * j))) z
      ∙ ap (λ o. names_high (place_at obj (4 * k)) (role_at objects obj s o)) place
      ∙ ap (names_high (place_at obj (4 * k))) (low_role i li g) ∙ self)
      (λ j b other. by_test j other (names_high (place_at obj (4 * k)) (role_at objects obj s (4 * (0 + j)))) refl)
    where
      by_test : (j : ℕ) → (j ≡ lda_offset s (reloc_at s i) / 4 → ⊥) → (b : Bool) → names_high (place_at obj (4 * k)) (role_at objects obj s (4 * (0 + j))) ≡ b → b ≡ false
      by_test j other true e =
          let here = names_only i (4 * (0 + j)) li g (ap (λ x. names_high (place_at obj x) (role_at objects obj s (4 * (0 + j)))) at ∙ e) in
          absurd (other (omega (arith, here)))
      by_test j other false e = refl

  high_fits : (i k base : ℕ) (instr : Instr) → i < length s.relocs → (reloc_at s i).kind ≡ GpDisp → base_offset (object_at objects obj) s (reloc_at s i) ≡ Some base → offset_of s (reloc_at s i) ≡ 4 * k → instr_in s (offset_of s (reloc_at s i)) ≡ Some instr → fits (program_of objects) (each (item_of objects obj s) (s.size / 4)) (place_at obj (4 * k)) (GpHi (place_at obj base)) instr ≡ true
  high_fits i k base instr li g h at e =
      let p = pair_is i li g in
      let f : Some p.base ≡ Some base = sym p.base_is ∙ h in
      let same : p.base ≡ base = cc in
      let word = word_there objects obj base ho (sound obj ho) (subst (λ b. is_word (object_at objects obj) b ≡ true) same p.base_word) in
      let a = then_some (λ hi. option_map (λ lo. base_by (object_at objects obj) s hi lo) (lda_disp (instr_in s (lda_offset s (reloc_at s i))))) (ldah_disp (instr_in s (offset_of s (reloc_at s i)))) base h in
      let l = ldah_is (instr_in s (offset_of s (reloc_at s i))) a.0 a.1 in
      let x : Some (Mem Ldah l.0 l.1 a.0) ≡ Some instr = sym l.2 ∙ e in
      let here : Mem Ldah l.0 l.1 a.0 ≡ instr = cc in
      let one : (count_by (is_low_of (place_at obj (4 * k))) (each (item_of objects obj s) (s.size / 4)) == 1) ≡ true = ap (λ n. n == 1) (one_low i k li g at) in
      subst (λ x. fits (program_of objects) (each (item_of objects obj s) (s.size / 4)) (place_at obj (4 * k)) (GpHi (place_at obj base)) x ≡ true) here
      (ap (λ b. b && (count_by (is_low_of (place_at obj (4 * k))) (each (item_of objects obj s) (s.size / 4)) == 1)) word ∙ one)

  high_there : (i : ℕ) → i < length s.relocs → (reloc_at s i).kind ≡ GpDisp → is_high (item_at (program_of objects) (place_at obj (offset_of s (reloc_at s i)))) ≡ true
  high_there i li g =
      let p = pair_is i li g in
      let high_even = p.high_even in
      let high_inside = p.high_inside in
      let even = size_is.0 in
      let place : 4 * (offset_of s (reloc_at s i) / 4) ≡ offset_of s (reloc_at s i) = omega (arith, high_even) in
      ap is_high (item_there objects obj s (offset_of s (reloc_at s i)) ho hs high_even (omega (arith, high_even, high_inside, even)))
      ∙ ap (λ o. is_high_role (role_at objects obj s o)) place
      ∙ ap is_high_role (high_role i p.base li g p.base_is)

  low_fits : (text : List Item) (i off : ℕ) (instr : Instr) → i < length s.relocs → (reloc_at s i).kind ≡ GpDisp → instr_in s (lda_offset s (reloc_at s i)) ≡ Some instr → fits (program_of objects) text (place_at obj off) (GpLo (place_at obj (offset_of s (reloc_at s i)))) instr ≡ true
  low_fits text i off instr li g e =
      let p = pair_is i li g in
      let a = then_some (λ hi. option_map (λ lo. base_by (object_at objects obj) s hi lo) (lda_disp (instr_in s (lda_offset s (reloc_at s i))))) (ldah_disp (instr_in s (offset_of s (reloc_at s i)))) p.base p.base_is in
      let b = map_some (λ lo. base_by (object_at objects obj) s a.0 lo) (lda_disp (instr_in s (lda_offset s (reloc_at s i)))) p.base a.2 in
      let l = lda_is (instr_in s (lda_offset s (reloc_at s i))) b.0 b.1 in
      let x : Some (Mem Lda l.0 l.1 b.0) ≡ Some instr = sym l.2 ∙ e in
      let here : Mem Lda l.0 l.1 b.0 ≡ instr = cc in
      let self : (obj == obj) ≡ true = grind (arith, nat_tests) in
      subst (λ x. fits (program_of objects) text (place_at obj off) (GpLo (place_at obj (offset_of s (reloc_at s i)))) x ≡ true) here
      (ap (λ b. b && is_high (item_at (program_of objects) (place_at obj (offset_of s (reloc_at s i))))) self ∙ high_there i li g)

  -- ---- each word

  given_fits : (k i : ℕ) (role : Role) (instr : Instr) → i < length s.relocs → instr_in s (4 * k) ≡ Some instr → Gives objects obj s i (4 * k) role → fits (program_of objects) (each (item_of objects obj s) (s.size / 4)) (place_at obj (4 * k)) role instr ≡ true
  given_fits k i role instr li e (loads t g h o same) =
      subst (λ r. fits (program_of objects) (each (item_of objects obj s) (s.size / 4)) (place_at obj (4 * k)) r instr ≡ true) same
      (load_fits (each (item_of objects obj s) (s.size / 4)) (place_at obj (4 * k)) i t instr h (ap (instr_in s) o ∙ e))
  given_fits k i role instr li e (high base g h o same) =
      subst (λ r. fits (program_of objects) (each (item_of objects obj s) (s.size / 4)) (place_at obj (4 * k)) r instr ≡ true) same
      (high_fits i k base instr li g h o (ap (instr_in s) o ∙ e))
  given_fits k i role instr li e (low g o same) =
      subst (λ r. fits (program_of objects) (each (item_of objects obj s) (s.size / 4)) (place_at obj (4 * k)) r instr ≡ true) same
      (low_fits (each (item_of objects obj s) (s.size / 4)) i (4 * k) instr li g (ap (instr_in s) o ∙ e))
  given_fits k i role instr li e (branches q g x h o same) =
      subst (λ r. fits (program_of objects) (each (item_of objects obj s) (s.size / 4)) (place_at obj (4 * k)) r instr ≡ true) same
      (branch_fits (each (item_of objects obj s) (s.size / 4)) (place_at obj (4 * k)) i q instr h (ap (instr_in s) o ∙ e))

  pub role_fits : (k : ℕ) (instr : Instr) → k < s.size / 4 → instr_in s (4 * k) ≡ Some instr → fits (program_of objects) (each (item_of objects obj s) (s.size / 4)) (place_at obj (4 * k)) (role_at objects obj s (4 * k)) instr ≡ true
  unfolding role_at
  role_fits k instr b e = by_given (role_given (roles_in objects obj s) (4 * k)) refl
    where
      by_given : (o : Option Role) → role_given (roles_in objects obj s) (4 * k) ≡ o → fits (program_of objects) (each (item_of objects obj s) (s.size / 4)) (place_at obj (4 * k)) (unwrap_or o (own_role obj s (4 * k))) instr ≡ true
      by_given None g = own_fits (each (item_of objects obj s) (s.size / 4)) k instr b e g
      by_given (Some role) g = let h = given_by objects obj s (4 * k) role g in given_fits k h.0 role instr h.1 e h.2

  -- a word that loads an address loads that of a slot that is reached
  pub item_reached : (lita : Section) → section_of (object_at objects obj) 13 ≡ Some lita → (k : ℕ) (u : Target) → k < s.size / 4 → literal_of (item_of objects obj s k) ≡ Some u → (q : ℕ) × (q < 8192) × (reached_target objects obj lita q ≡ u)
  unfolding role_at
  item_reached lita hl k u b h = by_given (role_given (roles_in objects obj s) (4 * k)) refl h
    where
      by_own : (o : Option ℤ) → target_of_role (role_by_disp obj (4 * k) o) ≡ Some u → ⊥
      by_own None h = cc
      by_own (Some disp) h = cc

      by_gives : (i : ℕ) (role : Role) → Gives objects obj s i (4 * k) role → target_of_role role ≡ Some u → (q : ℕ) × (q < 8192) × (reached_target objects obj lita q ≡ u)
      by_gives i role (loads t g l o same) h =
          let f : Some t ≡ Some u = ap target_of_role same ∙ h in
          let here : t ≡ u = cc in
          let w = instr_there k b in
          load_is_reached objects obj s lita (reloc_at s i) u (number_at s.bytes (4 * k) 4) (ap (instr_in s) o ∙ w.2 ∙ sym w.1) hl (l ∙ f)
      by_gives i role (high base g l o same) h = let never : None ≡ Some u = ap target_of_role same ∙ h in absurd cc
      by_gives i role (low g o same) h = let never : None ≡ Some u = ap target_of_role same ∙ h in absurd cc
      by_gives i role (branches q g x l o same) h = let never : None ≡ Some u = ap target_of_role same ∙ h in absurd cc

      by_given : (o : Option Role) → role_given (roles_in objects obj s) (4 * k) ≡ o → target_of_role (unwrap_or o (own_role obj s (4 * k))) ≡ Some u → (q : ℕ) × (q < 8192) × (reached_target objects obj lita q ≡ u)
      by_given None g h = absurd (by_own (branch_disp (instr_in s (4 * k))) h)
      by_given (Some role) g h = let x = given_by objects obj s (4 * k) role g in by_gives x.0 role x.2 h

  -- a word loads no address where there is no address table
  pub item_loads_none : section_of (object_at objects obj) 13 ≡ None → (k : ℕ) (u : Target) → literal_of (item_of objects obj s k) ≡ Some u → ⊥
  unfolding role_at
  item_loads_none hl k u h = by_given (role_given (roles_in objects obj s) (4 * k)) refl h
    where
      by_own : (o : Option ℤ) → target_of_role (role_by_disp obj (4 * k) o) ≡ Some u → ⊥
      by_own None h = cc
      by_own (Some disp) h = cc

      by_gives : (i : ℕ) (role : Role) → Gives objects obj s i (4 * k) role → target_of_role role ≡ Some u → ⊥
      by_gives i role (loads t g l o same) h =
          let x = loads_slot objects obj s (reloc_at s i) t l in
          let never : None ≡ Some x.lita = sym hl ∙ x.there in
          cc
      by_gives i role (high base g l o same) h = let never : None ≡ Some u = ap target_of_role same ∙ h in cc
      by_gives i role (low g o same) h = let never : None ≡ Some u = ap target_of_role same ∙ h in cc
      by_gives i role (branches q g x l o same) h = let never : None ≡ Some u = ap target_of_role same ∙ h in cc

      by_given : (o : Option Role) → role_given (roles_in objects obj s) (4 * k) ≡ o → target_of_role (unwrap_or o (own_role obj s (4 * k))) ≡ Some u → ⊥
      by_given None g h = by_own (branch_disp (instr_in s (4 * k))) h
      by_given (Some role) g h = let x = given_by objects obj s (4 * k) role g in by_gives x.0 role x.2 h
