-- Sections by their numbers, and places of names among keys.
use Rattle.std.proofs.Common.{◌≡◌, ℕ, suc, ◌+◌, ◌≤◌, Bool, true, false, ◌==◌, List, [], ◌∷◌, length, map, refl, ap, sym, ◌∙◌, arith, Bor, bytes_eq, cond, not}
use Rattle.std.specs.Prelude.{Option, Some, None, Result, Ok, Err, IfOk, find, nat_lt, if◌then◌else◌}
use Rattle.std.specs.List.{position, position_or_len}
use Rattle.std.proofs.lemmas.Bool.Decides.{nat_tests}
use Rattle.om_object.specs.declared.parts.Section.{Section}
use Rattle.om_object.specs.declared.parts.Parts.{Parts}
use Rattle.om_object.specs.Words.{section_of}
use Rattle.om_value.specs.declared.value.Region.TheVariants.{Sec}
use Rattle.om_value.specs.declared.value.Target.TheVariants.{Ptr}
use Rattle.om_resolve.specs.Targets.{place_in, byte_in}
use Rattle.om_resolve.specs.Names.{Name, number_in, object_at}
use Rattle.om_resolve.specs.Linked.{bytes_of}
use Rattle.om_resolve.proofs.Naming.{place_mapped}

passes-by : {X : Type 0} (test : X → Bool) (x y : X) (b : Bool) (rest : Option X) → test x ≡ b → (if b then Some x else rest) ≡ Some y → (rest ≡ Some y → test y ≡ true) → test y ≡ true
passes-by test x y true rest e f later = let same : x ≡ y = cc in ap test (sym same) ∙ e
passes-by test x y false rest e f later = later f

-- what is found passes the test
pub passes : {X : Type 0} (test : X → Bool) (xs : List X) (x : X) → find test xs ≡ Some x → test x ≡ true
passes test [] x e = cc
passes test (y ∷ ys) x e = passes-by test y x (test y) (find test ys) refl e (passes test ys x)

-- a section that is found by its number has it
pub numbered : (p : Parts) (n : ℕ) (s : Section) → section_of p n ≡ Some s → s.number ≡ n
numbered p n s e = let t = passes (λ (x : Section). x.number == n) p.sections s e in grind (arith, nat_tests, t)

within-by : (b : Bool) (i n : ℕ) → i ≤ n → cond (not b) (1 + i) 0 ≤ suc n
within-by true i n h = omega arith
within-by false i n h = omega arith

place-within : {X : Type 0} (p : X → Bool) (xs : List X) → position_or_len p xs ≤ length xs
place-within p [] = omega arith
place-within p (x ∷ xs) = within-by (p x) (position_or_len p xs) (length xs) (place-within p xs)

none-by : (i n : ℕ) (b : Bool) → nat_lt i n ≡ b → i ≤ n → cond b (Some i) None ≡ None → i ≡ n
none-by i n true e h f = cc
none-by i n false e h f = grind (arith, nat_tests)

some-by : (i n k : ℕ) (b : Bool) → cond b (Some i) None ≡ Some k → i ≡ k
some-by i n k true e = cc
some-by i n k false e = cc

-- the number of a name that is not among the keys, or is
pub absent_number : (n : Name) (ks : List (Bor Name)) → position (λ k. bytes_eq n k.now) ks ≡ None → length ks ≡ number_in (map bytes_of ks) n
absent_number n ks e =
    sym (none-by (position_or_len (λ k. bytes_eq n k.now) ks) (length ks) (nat_lt (position_or_len (λ k. bytes_eq n k.now) ks) (length ks)) refl (place-within (λ k. bytes_eq n k.now) ks) e)
    ∙ place_mapped n ks

pub present_number : (n : Name) (ks : List (Bor Name)) (k : ℕ) → position (λ k. bytes_eq n k.now) ks ≡ Some k → k ≡ number_in (map bytes_of ks) n
present_number n ks k e =
    sym (some-by (position_or_len (λ k. bytes_eq n k.now) ks) (length ks) k (nat_lt (position_or_len (λ k. bytes_eq n k.now) ks) (length ks)) e) ∙ place_mapped n ks

pub ok_along : {E : Type 0} (r : Result ℕ E) (a b : ℕ) → a ≡ b → IfOk r (λ n. n ≡ a) → IfOk r (λ n. n ≡ b)
ok_along (Ok n) a b e h = h ∙ e
ok_along (Err x) a b e h = h

-- a byte of a section that is not the text
pub other_number : (objects : List Parts) (obj n off : ℕ) (s : Section) → (n ≡ 1 → ⊥) → section_of (object_at objects obj) n ≡ Some s → place_in objects obj n off ≡ Some (Ptr (Sec obj n) off)
other_number objects obj n off s other there =
    let e : (n == 1) ≡ false = grind (arith, nat_tests) in rw e (ap (byte_in objects obj n off) there)
