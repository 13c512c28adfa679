-- Two answers that meet a reader's clause are equal, but for want of memory.
use Rattle.std.proofs.Common.{◌≡◌, inl, inr, ℕ, zero, suc, ◌<◌, List, refl, sym, ap, subst, ◌∙◌, arith}
use Rattle.std.specs.Prelude.{Result, Ok, Err, Option, Some, None, [], ◌∷◌, if◌then◌else◌}
use Rattle.om_fields.specs.Rules.{Rule, Breaks, IsFirstFault, IsUnbroken}
use Rattle.om_fields.specs.Answers.{Reads}
use Rattle.om_fields.specs.declared.head.FieldErr.{FieldErr}
use Rattle.om_fields.specs.declared.head.FieldErr.TheVariants as field
use Rattle.om_object.specs.File.{ReadsParts, MakesObject, object_rules}
use Rattle.om_object.specs.Rules.{Spot, PartRule, AreKept, is_found, first_broken, made_rules, IsObject}
use Rattle.om_object.specs.declared.parts.Parts.{Parts}
use Rattle.om_object.specs.declared.errors.ObjErr.{ObjErr}
use Rattle.om_object.specs.declared.errors.ObjErr.TheVariants as obj
use Rattle.om_object.specs.declared.errors.MakeErr.{MakeErr}
use Rattle.om_object.specs.declared.errors.MakeErr.TheVariants as make
use Rattle.om_strength_low.specs.OneAnswer.{AreOne, AnswersAreOne}

neither_less : (a b : ℕ) → (a < b → ⊥) → (b < a → ⊥) → a ≡ b
neither_less zero zero p q = refl
neither_less zero (suc b) p q = absurd (p (omega arith))
neither_less (suc a) zero p q = absurd (q (omega arith))
neither_less (suc a) (suc b) p q = ap suc (neither_less a b (λ h. p (omega (arith, h))) (λ h. q (omega (arith, h))))

-- two least faults of a file have one rule, and one place
same_rule : {A : Type 0} (rules : List (Rule A)) (file : A) (r p s q : ℕ) → IsFirstFault rules file r p → IsFirstFault rules file s q → r ≡ s
same_rule rules file r p s q f g = neither_less r s (λ h. g.no_less r p h f.broken) (λ h. f.no_less s q h g.broken)

same_place : {A : Type 0} (rules : List (Rule A)) (file : A) (r p q : ℕ) → IsFirstFault rules file r p → IsFirstFault rules file r q → p ≡ q
same_place rules file r p q f g = neither_less p q (λ h. g.no_nearer p h f.broken) (λ h. f.no_nearer q h g.broken)

moved_rule : {A : Type 0} (rules : List (Rule A)) (file : A) (r s q : ℕ) → r ≡ s → IsFirstFault rules file s q → IsFirstFault rules file r q
moved_rule rules file r s q e g = subst (λ (n : ℕ). IsFirstFault rules file n q) (sym e) g

same_broken : (r p s q : ℕ) → r ≡ s → p ≡ q → ◌≡◌ {A = FieldErr} (field.Rule r p) (field.Rule s q)
same_broken r p s q e f = ap (λ n. field.Rule n p) e ∙ ap (λ n. field.Rule s n) f

same_fault : (r p s q : ℕ) → r ≡ s → p ≡ q → ◌≡◌ {A = ObjErr} (obj.Rule r p) (obj.Rule s q)
same_fault r p s q e f = ap (λ n. obj.Rule n p) e ∙ ap (λ n. obj.Rule s n) f

pub answers_are_one : (T : Type 0) → AnswersAreOne T
answers_are_one T rules file v (Err field.NoMemory) b h k = inl refl
answers_are_one T rules file v (Ok x) (Err field.NoMemory) h k = inr (inl refl)
answers_are_one T rules file v (Err (field.Rule r p)) (Err field.NoMemory) h k = inr (inl refl)
answers_are_one T rules file v (Ok x) (Ok y) h k = inr (inr (ap Ok (h.0 ∙ sym k.0)))
answers_are_one T rules file v (Ok x) (Err (field.Rule s q)) h k = absurd (h.1.nowhere s q k.broken)
answers_are_one T rules file v (Err (field.Rule r p)) (Ok y) h k = absurd (k.1.nowhere r p h.broken)
answers_are_one T rules file v (Err (field.Rule r p)) (Err (field.Rule s q)) h k =
    let e = same_rule rules file r p s q h k in
    let f = same_place rules file r p q h (moved_rule rules file r s q e k) in
    inr (inr (ap Err (same_broken r p s q e f)))

pub reads_one_object : (file : List ℕ) (a b : Result Parts ObjErr) → ReadsParts file a → ReadsParts file b → AreOne obj.NoMemory a b
reads_one_object file (Err obj.NoMemory) b h k = inl refl
reads_one_object file (Ok x) (Err obj.NoMemory) h k = inr (inl refl)
reads_one_object file (Err (obj.Rule r p)) (Err obj.NoMemory) h k = inr (inl refl)
reads_one_object file (Ok x) (Ok y) h k = inr (inr (ap Ok (h.0 ∙ sym k.0)))
reads_one_object file (Ok x) (Err (obj.Rule s q)) h k = absurd (h.1.nowhere s q k.broken)
reads_one_object file (Err (obj.Rule r p)) (Ok y) h k = absurd (k.1.nowhere r p h.broken)
reads_one_object file (Err (obj.Rule r p)) (Err (obj.Rule s q)) h k =
    let e = same_rule object_rules file r p s q h k in
    let f = same_place object_rules file r p q h (moved_rule object_rules file r s q e k) in
    inr (inr (ap Err (same_fault r p s q e f)))

passed : (spots : List Spot) (n : ℕ) (o : Option ℕ) → spots ≡ [] → o ≡ None → (if is_found spots then Some n else o) ≡ None
passed [] n o e f = f
passed (x ∷ xs) n o e f = cc

kept_is_unbroken : (rs : List PartRule) (p : Parts) → AreKept rs p → first_broken rs p ≡ None
kept_is_unbroken [] p k = refl
kept_is_unbroken (r ∷ rs) p k = passed (r.1 p) r.0 (first_broken rs p) k.0 (kept_is_unbroken rs p k.1)

same_made : (r s : ℕ) → ◌≡◌ (Some r) (Some s) → ◌≡◌ {A = MakeErr} (make.Rule r) (make.Rule s)
same_made r s e = let f : r ≡ s = cc in ap make.Rule f

pub makes_one_object : (p : Parts) (a b : Result Parts MakeErr) → MakesObject p a → MakesObject p b → AreOne make.NoMemory a b
makes_one_object p (Err make.NoMemory) b h k = inl refl
makes_one_object p (Ok x) (Err make.NoMemory) h k = inr (inl refl)
makes_one_object p (Err (make.Rule r)) (Err make.NoMemory) h k = inr (inl refl)
makes_one_object p (Ok x) (Ok y) h k = inr (inr (ap Ok (h.0 ∙ sym k.0)))
makes_one_object p (Ok x) (Err (make.Rule s)) h k = let e = kept_is_unbroken made_rules p h.1.kept in cc
makes_one_object p (Err (make.Rule r)) (Ok y) h k = let e = kept_is_unbroken made_rules p k.1.kept in cc
makes_one_object p (Err (make.Rule r)) (Err (make.Rule s)) h k = inr (inr (ap Err (same_made r s (sym h ∙ k))))
