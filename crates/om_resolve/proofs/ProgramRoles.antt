-- Which relocation gives a word of the program of objects its role.
use Rattle.std.proofs.Common.{◌≡◌, ◌⊎◌, inl, inr, ℕ, ◌+◌, ◌%◌, ◌^◌, ◌<◌, Bool, true, false, cond, ◌||◌, ◌==◌, List, [], ◌∷◌, ◌++◌, length, Option, Some, None, refl, ap, sym, subst, ◌∙◌, arith}
use Rattle.std.specs.Prelude.{find, option_map, flat_map, take}
use Rattle.std.specs.Option.{option_to_list}
use Rattle.std.proofs.lemmas.Bool.{eqb-true}
use Rattle.std.proofs.lemmas.Bool.Decides.{nat_tests}
use Rattle.om_fields.specs.Places.{any_of}
use Rattle.om_reloc.specs.declared.reloc.RelocKind.{RelocKind}
use Rattle.om_reloc.specs.declared.reloc.RelocKind.TheVariants.{Ignore, RefLong, RefQuad, GpRel32, Literal, LitUse, GpDisp, BrAddr, Hint, Other}
use Rattle.om_object.specs.declared.parts.Section.{Section}
use Rattle.om_object.specs.declared.parts.Parts.{Parts}
use Rattle.om_object.specs.Words.{offset_of, lda_offset, base_offset}
use Rattle.om_object.specs.Rules.{reloc_at, four_bytes, bytes_by_kind, field_bytes, repeats, is_shared}
use Rattle.om_value.specs.declared.value.Place.{Place}
use Rattle.om_value.specs.declared.value.Target.{Target}
use Rattle.om_prog.specs.declared.item.Role.{Role}
use Rattle.om_prog.specs.declared.item.Role.TheVariants.{Lit, GpHi, GpLo, To}
use Rattle.om_resolve.specs.Names.{object_at}
use Rattle.om_resolve.specs.Causes.{branch_target, code_of}
use Rattle.om_resolve.specs.Program.{place_at, role_given, literal_target, high_roles, roles_by, roles_at, roles_in}
use Rattle.om_resolve.proofs.Members.{In, in_front, in_back, in_either, in_joined, joined_in, in_option, option_in, found_in, something_found}
use Rattle.om_resolve.proofs.ObjectFacts.{or_false}
use Rattle.om_resolve.proofs.ProgramBytes.{HasField, width_by, byte_in_field, low_in_field, four_in, not_seen, others_apart}

-- ---- a relocation gives the word at an offset a role

pub data Gives (objects : List Parts) (obj : ℕ) (s : Section) (i : ℕ) (off : ℕ) (role : Role) : Type 0 where
  loads :
      (t : Target) → (reloc_at s i).kind ≡ Literal → literal_target objects obj s (reloc_at s i) ≡ Some t →
      offset_of s (reloc_at s i) ≡ off → Lit t ≡ role → Gives objects obj s i off role
  high :
      (base : ℕ) → (reloc_at s i).kind ≡ GpDisp → base_offset (object_at objects obj) s (reloc_at s i) ≡ Some base →
      offset_of s (reloc_at s i) ≡ off → GpHi (place_at obj base) ≡ role → Gives objects obj s i off role
  low :
      (reloc_at s i).kind ≡ GpDisp → lda_offset s (reloc_at s i) ≡ off →
      GpLo (place_at obj (offset_of s (reloc_at s i))) ≡ role → Gives objects obj s i off role
  branches :
      (q : Place) → (reloc_at s i).kind ≡ BrAddr → (reloc_at s i).external ≡ true → code_of (branch_target objects obj s (reloc_at s i)) ≡ Some q →
      offset_of s (reloc_at s i) ≡ off → To q ≡ role → Gives objects obj s i off role

module _ (objects : List Parts) (obj : ℕ) (s : Section) where
  by_role : (i off : ℕ) (role : Role) (k : RelocKind) → (reloc_at s i).kind ≡ k → In {X = ℕ × Role} (roles_by objects obj s (reloc_at s i) k) (off, role) → Gives objects obj s i off role
  by_role i off role Literal k h =
      let a = in_option {Y = ℕ × Role} (λ t. (offset_of s (reloc_at s i), Lit t)) (literal_target objects obj s (reloc_at s i)) (off, role) h in
      loads a.0 k a.1 (ap (λ (e : ℕ × Role). e.0) a.2) (ap (λ (e : ℕ × Role). e.1) a.2)
  by_role i off role GpDisp k h = by_half (in_either {X = ℕ × Role} (high_roles objects obj s (reloc_at s i)) ((lda_offset s (reloc_at s i), GpLo (place_at obj (offset_of s (reloc_at s i)))) ∷ []) (off, role) h)
    where
      by_half : In {X = ℕ × Role} (high_roles objects obj s (reloc_at s i)) (off, role) ⊎ In {X = ℕ × Role} ((lda_offset s (reloc_at s i), GpLo (place_at obj (offset_of s (reloc_at s i)))) ∷ []) (off, role) → Gives objects obj s i off role
      by_half (inl h) =
          let a = in_option {Y = ℕ × Role} (λ base. (offset_of s (reloc_at s i), GpHi (place_at obj base))) (base_offset (object_at objects obj) s (reloc_at s i)) (off, role) h in
          high a.0 k a.1 (ap (λ (e : ℕ × Role). e.0) a.2) (ap (λ (e : ℕ × Role). e.1) a.2)
      by_half (inr (inl e)) = low k (ap (λ (e : ℕ × Role). e.0) e) (ap (λ (e : ℕ × Role). e.1) e)
      by_half (inr (inr h)) = absurd h
  by_role i off role BrAddr k h = by_origin (reloc_at s i).external refl h
    where
      by_origin : (b : Bool) → (reloc_at s i).external ≡ b → In {X = ℕ × Role} (cond b (option_to_list (option_map (λ q. (offset_of s (reloc_at s i), To q)) (code_of (branch_target objects obj s (reloc_at s i))))) []) (off, role) → Gives objects obj s i off role
      by_origin true x h =
          let a = in_option {Y = ℕ × Role} (λ q. (offset_of s (reloc_at s i), To q)) (code_of (branch_target objects obj s (reloc_at s i))) (off, role) h in
          branches a.0 k x a.1 (ap (λ (e : ℕ × Role). e.0) a.2) (ap (λ (e : ℕ × Role). e.1) a.2)
      by_origin false x h = absurd h
  by_role i off role Ignore k h = absurd h
  by_role i off role RefLong k h = absurd h
  by_role i off role RefQuad k h = absurd h
  by_role i off role GpRel32 k h = absurd h
  by_role i off role LitUse k h = absurd h
  by_role i off role Hint k h = absurd h
  by_role i off role (Other n) k h = absurd h

  gives_of : (i off : ℕ) (role : Role) → In {X = ℕ × Role} (roles_at objects obj s (reloc_at s i)) (off, role) → Gives objects obj s i off role
  unfolding roles_at
  gives_of i off role h = by_role i off role (reloc_at s i).kind refl h

  in_roles : (i off : ℕ) (role : Role) → Gives objects obj s i off role → In {X = ℕ × Role} (roles_at objects obj s (reloc_at s i)) (off, role)
  unfolding roles_at
  in_roles i off role (loads t k h o same) =
      subst (λ k. In {X = ℕ × Role} (roles_by objects obj s (reloc_at s i) k) (off, role)) (sym k)
      (subst (λ o. In {X = ℕ × Role} (roles_by objects obj s (reloc_at s i) Literal) (o, role)) o
      (subst (λ r. In {X = ℕ × Role} (roles_by objects obj s (reloc_at s i) Literal) (offset_of s (reloc_at s i), r)) same
      (option_in {Y = ℕ × Role} (λ t. (offset_of s (reloc_at s i), Lit t)) (literal_target objects obj s (reloc_at s i)) t h)))
  in_roles i off role (high base k h o same) =
      subst (λ k. In {X = ℕ × Role} (roles_by objects obj s (reloc_at s i) k) (off, role)) (sym k)
      (subst (λ o. In {X = ℕ × Role} (roles_by objects obj s (reloc_at s i) GpDisp) (o, role)) o
      (subst (λ r. In {X = ℕ × Role} (roles_by objects obj s (reloc_at s i) GpDisp) (offset_of s (reloc_at s i), r)) same
      (in_front {X = ℕ × Role} (high_roles objects obj s (reloc_at s i)) ((lda_offset s (reloc_at s i), GpLo (place_at obj (offset_of s (reloc_at s i)))) ∷ []) (offset_of s (reloc_at s i), GpHi (place_at obj base))
      (option_in {Y = ℕ × Role} (λ base. (offset_of s (reloc_at s i), GpHi (place_at obj base))) (base_offset (object_at objects obj) s (reloc_at s i)) base h))))
  in_roles i off role (low k o same) =
      subst (λ k. In {X = ℕ × Role} (roles_by objects obj s (reloc_at s i) k) (off, role)) (sym k)
      (subst (λ o. In {X = ℕ × Role} (roles_by objects obj s (reloc_at s i) GpDisp) (o, role)) o
      (subst (λ r. In {X = ℕ × Role} (roles_by objects obj s (reloc_at s i) GpDisp) (lda_offset s (reloc_at s i), r)) same
      (in_back {X = ℕ × Role} (high_roles objects obj s (reloc_at s i)) ((lda_offset s (reloc_at s i), GpLo (place_at obj (offset_of s (reloc_at s i)))) ∷ []) (lda_offset s (reloc_at s i), GpLo (place_at obj (offset_of s (reloc_at s i)))) (inl refl))))
  in_roles i off role (branches q k x h o same) =
      subst (λ k. In {X = ℕ × Role} (roles_by objects obj s (reloc_at s i) k) (off, role)) (sym k)
      (subst (λ b. In {X = ℕ × Role} (cond b (option_to_list (option_map (λ q. (offset_of s (reloc_at s i), To q)) (code_of (branch_target objects obj s (reloc_at s i))))) []) (off, role)) (sym x)
      (subst (λ o. In {X = ℕ × Role} (option_to_list (option_map (λ q. (offset_of s (reloc_at s i), To q)) (code_of (branch_target objects obj s (reloc_at s i))))) (o, role)) o
      (subst (λ r. In {X = ℕ × Role} (option_to_list (option_map (λ q. (offset_of s (reloc_at s i), To q)) (code_of (branch_target objects obj s (reloc_at s i))))) (offset_of s (reloc_at s i), r)) same
      (option_in {Y = ℕ × Role} (λ q. (offset_of s (reloc_at s i), To q)) (code_of (branch_target objects obj s (reloc_at s i))) q h))))

  -- ---- the word is among the bytes of the relocation

  pub first_byte : (i : ℕ) (k : RelocKind) → (reloc_at s i).kind ≡ k → HasField k → 0 < width_by k → In (field_bytes s (reloc_at s i)) (offset_of s (reloc_at s i))
  first_byte i k e f w =
      let same : (offset_of s (reloc_at s i) + 0) % 2 ^ 64 ≡ offset_of s (reloc_at s i) = omega arith in
      subst (λ k. In (bytes_by_kind s (reloc_at s i) k) (offset_of s (reloc_at s i))) (sym e)
      (subst (In (bytes_by_kind s (reloc_at s i) k)) same (byte_in_field s (reloc_at s i) k f 0 w))

  low_byte : (i : ℕ) → (reloc_at s i).kind ≡ GpDisp → In (field_bytes s (reloc_at s i)) (lda_offset s (reloc_at s i))
  low_byte i e =
      let same : (lda_offset s (reloc_at s i) + 0) % 2 ^ 64 ≡ lda_offset s (reloc_at s i) = omega arith in
      subst (λ k. In (bytes_by_kind s (reloc_at s i) k) (lda_offset s (reloc_at s i))) (sym e)
      (subst (In (bytes_by_kind s (reloc_at s i) GpDisp)) same (low_in_field s (reloc_at s i) 0 (omega arith)))

  pub gives_byte : (i off : ℕ) (role : Role) → Gives objects obj s i off role → In (field_bytes s (reloc_at s i)) off
  gives_byte i off role (loads t k h o same) = subst (In (field_bytes s (reloc_at s i))) o (first_byte i Literal k tt (omega arith))
  gives_byte i off role (high base k h o same) = subst (In (field_bytes s (reloc_at s i))) o (first_byte i GpDisp k tt (omega arith))
  gives_byte i off role (low k o same) = subst (In (field_bytes s (reloc_at s i))) o (low_byte i k)
  gives_byte i off role (branches q k x h o same) = subst (In (field_bytes s (reloc_at s i))) o (first_byte i BrAddr k tt (omega arith))

  -- ---- the role of a word

  pub given_by : (off : ℕ) (role : Role) → role_given (roles_in objects obj s) off ≡ Some role → (i : ℕ) × (i < length s.relocs) × Gives objects obj s i off role
  unfolding roles_in
  given_by off role h = by_found (find (λ e. e.0 == off) (roles_in objects obj s)) refl h
    where
      by_found : (o : Option (ℕ × Role)) → find (λ e. e.0 == off) (roles_in objects obj s) ≡ o → option_map (λ (e : ℕ × Role). e.1) o ≡ Some role → (i : ℕ) × (i < length s.relocs) × Gives objects obj s i off role
      by_found None e h = cc
      by_found (Some x) e h =
          let f = found_in (λ (e : ℕ × Role). e.0 == off) (roles_in objects obj s) x e in
          let here : x.0 ≡ off = eqb-true x.0 off f.1 in
          let same : x.1 ≡ role = cc in
          let a = in_joined {X = ℕ × Role} (λ k. roles_at objects obj s (reloc_at s k)) (length s.relocs) x f.0 in
          let g = gives_of a.index x.0 x.1 a.here in
          (a.index, a.below, subst (λ o. Gives objects obj s a.index o role) here (subst (λ r. Gives objects obj s a.index x.0 r) same g))

-- ---- the two words of a pair have no byte of both

twice : (seen xs ys : List ℕ) (x : ℕ) → repeats seen (xs ++ ys) ≡ false → In xs x → In ys x → ⊥
twice seen [] ys x h i j = i
twice seen (b ∷ xs) ys x h (inl e) j =
    let rest = (or_false (any_of (λ c. c == b) seen) (repeats (b ∷ seen) (xs ++ ys)) h).1 in
    let here : (b == x) ≡ true = grind (arith, nat_tests, e) in
    not_seen (b ∷ seen) (xs ++ ys) x rest (ap (λ t. t || any_of (λ c. c == x) seen) here) (in_back xs ys x j)
twice seen (b ∷ xs) ys x h (inr i) j = twice (b ∷ seen) xs ys x (or_false (any_of (λ c. c == b) seen) (repeats (b ∷ seen) (xs ++ ys)) h).1 i j

pub halves_apart : (s : Section) (i x : ℕ) → is_shared s i ≡ false → (reloc_at s i).kind ≡ GpDisp → In (four_bytes (offset_of s (reloc_at s i))) x → In (four_bytes (lda_offset s (reloc_at s i))) x → ⊥
halves_apart s i x h k a b =
    let h' = subst (λ k. repeats (flat_map (field_bytes s) (take i s.relocs)) (bytes_by_kind s (reloc_at s i) k) ≡ false) k h in
    twice (flat_map (field_bytes s) (take i s.relocs)) (four_bytes (offset_of s (reloc_at s i))) (four_bytes (lda_offset s (reloc_at s i))) x h' a b

module _ (objects : List Parts) (obj : ℕ) (s : Section) (unshared : (i : ℕ) → i < length s.relocs → is_shared s i ≡ false) where
  halves_differ : (i off : ℕ) → i < length s.relocs → (reloc_at s i).kind ≡ GpDisp → offset_of s (reloc_at s i) ≡ off → lda_offset s (reloc_at s i) ≡ off → ⊥
  halves_differ i off li k e f =
      let a : In (four_bytes (offset_of s (reloc_at s i))) ((offset_of s (reloc_at s i) + 0) % 2 ^ 64) = four_in (offset_of s (reloc_at s i)) 0 (omega arith) in
      let b : In (four_bytes (lda_offset s (reloc_at s i))) ((lda_offset s (reloc_at s i) + 0) % 2 ^ 64) = four_in (lda_offset s (reloc_at s i)) 0 (omega arith) in
      let same : (lda_offset s (reloc_at s i) + 0) % 2 ^ 64 ≡ (offset_of s (reloc_at s i) + 0) % 2 ^ 64 = ap (λ x. (x + 0) % 2 ^ 64) (f ∙ sym e) in
      halves_apart s i ((offset_of s (reloc_at s i) + 0) % 2 ^ 64) (unshared i li) k a (subst (In (four_bytes (lda_offset s (reloc_at s i)))) same b)

  -- a relocation gives a word one role
  one_role : (i off : ℕ) (role other : Role) → i < length s.relocs → Gives objects obj s i off role → Gives objects obj s i off other → role ≡ other
  one_role i off role other li (loads t k h o same) (loads u l g p then) =
      let e : Some t ≡ Some u = sym h ∙ g in
      let f : t ≡ u = cc in
      sym same ∙ ap (λ t. Lit t) f ∙ then
  one_role i off role other li (loads t k h o same) (high base l g p then) = let never : Literal ≡ GpDisp = sym k ∙ l in cc
  one_role i off role other li (loads t k h o same) (low l p then) = let never : Literal ≡ GpDisp = sym k ∙ l in cc
  one_role i off role other li (loads t k h o same) (branches q l x g p then) = let never : Literal ≡ BrAddr = sym k ∙ l in cc
  one_role i off role other li (high base k h o same) (loads u l g p then) = let never : GpDisp ≡ Literal = sym k ∙ l in cc
  one_role i off role other li (high base k h o same) (high base' l g p then) =
      let e : Some base ≡ Some base' = sym h ∙ g in
      let f : base ≡ base' = cc in
      sym same ∙ ap (λ b. GpHi (place_at obj b)) f ∙ then
  one_role i off role other li (high base k h o same) (low l p then) = absurd (halves_differ i off li k o p)
  one_role i off role other li (high base k h o same) (branches q l x g p then) = let never : GpDisp ≡ BrAddr = sym k ∙ l in cc
  one_role i off role other li (low k o same) (loads u l g p then) = let never : GpDisp ≡ Literal = sym k ∙ l in cc
  one_role i off role other li (low k o same) (high base l g p then) = absurd (halves_differ i off li k p o)
  one_role i off role other li (low k o same) (low l p then) = sym same ∙ then
  one_role i off role other li (low k o same) (branches q l x g p then) = let never : GpDisp ≡ BrAddr = sym k ∙ l in cc
  one_role i off role other li (branches q k x h o same) (loads u l g p then) = let never : BrAddr ≡ Literal = sym k ∙ l in cc
  one_role i off role other li (branches q k x h o same) (high base l g p then) = let never : BrAddr ≡ GpDisp = sym k ∙ l in cc
  one_role i off role other li (branches q k x h o same) (low l p then) = let never : BrAddr ≡ GpDisp = sym k ∙ l in cc
  one_role i off role other li (branches q k x h o same) (branches q' l y g p then) =
      let e : Some q ≡ Some q' = sym h ∙ g in
      let f : q ≡ q' = cc in
      sym same ∙ ap (λ q. To q) f ∙ then

  -- one relocation gives a word its role
  pub one_giver : (i j off : ℕ) (role other : Role) → i < length s.relocs → j < length s.relocs → Gives objects obj s i off role → Gives objects obj s j off other → (i ≡ j) × (role ≡ other)
  one_giver i j off role other li lj g h =
      let same = others_apart s unshared i j off li lj (gives_byte objects obj s i off role g) (gives_byte objects obj s j off other h) in
      (same, one_role i off role other li g (subst (λ k. Gives objects obj s k off other) (sym same) h))

  -- a word to which a relocation gives a role has it
  pub gives_given : (i off : ℕ) (role : Role) → i < length s.relocs → Gives objects obj s i off role → role_given (roles_in objects obj s) off ≡ Some role
  unfolding roles_in
  gives_given i off role li g =
      let among = joined_in {X = ℕ × Role} (λ k. roles_at objects obj s (reloc_at s k)) (length s.relocs) i (off, role) li (in_roles objects obj s i off role g) in
      let self : (off == off) ≡ true = grind (arith, nat_tests) in
      let f = something_found (λ (e : ℕ × Role). e.0 == off) (roles_in objects obj s) (off, role) among self in
      let given : role_given (roles_in objects obj s) off ≡ Some f.0.1 = ap (λ (o : Option (ℕ × Role)). option_map (λ (e : ℕ × Role). e.1) o) f.1 in
      let b = given_by objects obj s off f.0.1 given in
      given ∙ ap (λ r. Some r) (sym (one_giver i b.0 off role f.0.1 li b.1 g b.2).1)
