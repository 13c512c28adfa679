-- Two regions, or two targets, are equal in the derived order exactly where they are the same.
use Rattle.std.proofs.Common.{◌≡◌, ℕ, ◌&&◌, ◌==◌, refl, ◌∙◌, arith}
use Rattle.std.specs.declared.cmp.Ordering.{Ordering}
use Rattle.std.specs.declared.cmp.Ordering.TheVariants.{Less, Equal, Greater}
use Rattle.std.specs.Ordering.{is_eq, nat_cmp, ordering_then}
use Rattle.std.proofs.lemmas.Bool.Decides.{nat_tests}
use Rattle.om_value.specs.declared.value.Region.{Region}
use Rattle.om_value.specs.declared.value.Region.TheVariants.{Sec, Common, Stack, Heap}
use Rattle.om_value.specs.declared.value.Target.{Target}
use Rattle.om_value.specs.declared.value.Target.TheVariants.{Num, Ptr, Code}
use Rattle.om_value.specs.Same.{region_eq, target_eq}
use Rattle.om_prog.specs.Keys.{region_cmp, target_cmp}

then_both : (o p : Ordering) → is_eq (ordering_then o p) ≡ (is_eq o && is_eq p)
then_both Less p = refl
then_both Equal p = refl
then_both Greater p = refl

number_same : (m n : ℕ) → is_eq (nat_cmp m n) ≡ (m == n)
number_same m n = grind (arith, nat_tests)

two_same : (a b m n : ℕ) → is_eq (ordering_then (nat_cmp a b) (nat_cmp m n)) ≡ ((a == b) && (m == n))
two_same a b m n = then_both (nat_cmp a b) (nat_cmp m n) ∙ rw (number_same a b, number_same m n) refl

pub region_keys : (r q : Region) → is_eq (region_cmp r q) ≡ region_eq r q
region_keys (Sec o n) (Sec p m) = two_same o p n m
region_keys (Sec o n) (Common s) = refl
region_keys (Sec o n) Stack = refl
region_keys (Sec o n) Heap = refl
region_keys (Common s) (Sec o n) = refl
region_keys (Common s) (Common t) = number_same s t
region_keys (Common s) Stack = refl
region_keys (Common s) Heap = refl
region_keys Stack (Sec o n) = refl
region_keys Stack (Common s) = refl
region_keys Stack Stack = refl
region_keys Stack Heap = refl
region_keys Heap (Sec o n) = refl
region_keys Heap (Common s) = refl
region_keys Heap Stack = refl
region_keys Heap Heap = refl

pub target_keys : (t u : Target) → is_eq (target_cmp t u) ≡ target_eq t u
target_keys (Num m) (Num n) = number_same m n
target_keys (Num m) (Ptr r x) = refl
target_keys (Num m) (Code p) = refl
target_keys (Ptr r x) (Num n) = refl
target_keys (Ptr r x) (Ptr s y) = then_both (region_cmp r s) (nat_cmp x y) ∙ rw (region_keys r s, number_same x y) refl
target_keys (Ptr r x) (Code p) = refl
target_keys (Code p) (Num n) = refl
target_keys (Code p) (Ptr r x) = refl
target_keys (Code p) (Code q) = two_same p.obj q.obj p.off q.off
