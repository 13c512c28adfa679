-- Small facts on tests and options.
use Rattle.std.proofs.Common.{◌≡◌, ◌⊎◌, inl, inr, ℕ, Bool, true, false, cond, ◌&&◌, ◌||◌, ◌==◌, Option, Some, None, refl, arith}
use Rattle.std.specs.Option.{option_or}
use Rattle.std.proofs.lemmas.Bool.{eqb-true}
use Rattle.om_value.specs.declared.value.Place.{Place}
use Rattle.om_value.specs.declared.value.Region.{Region}
use Rattle.om_value.specs.declared.value.Region.TheVariants.{Sec, Common, Stack, Heap}
use Rattle.om_value.specs.declared.value.Target.{Target}
use Rattle.om_value.specs.declared.value.Target.TheVariants as target
use Rattle.om_value.specs.declared.value.Value.{Value}
use Rattle.om_value.specs.declared.value.Value.TheVariants.{Num, Ptr, Code, Gp, Half, GpOff}
use Rattle.om_value.specs.Same.{place_eq, region_eq, target_eq, value_eq}
use Rattle.om_value.specs.Lift.{when}

pub when_some : {A : Type 0} (b : Bool) (x y : A) → when b x ≡ Some y → (b ≡ true) × (x ≡ y)
when_some true x y e = (refl, cc)
when_some false x y e = cc

pub cond_some : {A : Type 0} (b : Bool) (x y : A) → cond b (Some x) None ≡ Some y → (b ≡ true) × (x ≡ y)
cond_some true x y e = (refl, cc)
cond_some false x y e = cc

pub or_some : {A : Type 0} (a b : Option A) (x : A) → option_or a b ≡ Some x → (a ≡ Some x) ⊎ (b ≡ Some x)
or_some None b x e = inr e
or_some (Some y) b x e = inl cc

pub or_true : (a b : Bool) → (a || b) ≡ true → (a ≡ true) ⊎ (b ≡ true)
or_true true b e = inl refl
or_true false b e = inr e

pub and_true : (a b : Bool) → (a && b) ≡ true → (a ≡ true) × (b ≡ true)
and_true true b e = (refl, e)
and_true false b e = cc

pub true_and : (a b : Bool) → a ≡ true → b ≡ true → (a && b) ≡ true
true_and true b e f = f
true_and false b e f = cc

pub true_or : (a b : Bool) → (a ≡ true) ⊎ (b ≡ true) → (a || b) ≡ true
true_or true b h = refl
true_or false b (inl e) = cc
true_or false b (inr e) = e

pub same_region : (r s : Region) → region_eq r s ≡ true → r ≡ s
same_region (Sec o n) (Sec p m) e =
    let b = and_true (o == p) (n == m) e in
    let f : o ≡ p = eqb-true o p b.0 in
    let g : n ≡ m = eqb-true n m b.1 in
    cc
same_region (Common a) (Common b) e = let f : a ≡ b = eqb-true a b e in cc
same_region Stack Stack e = refl
same_region Heap Heap e = refl
same_region _ _ e = cc

pub eqb_self : (n : ℕ) → (n == n) ≡ true
eqb_self n = grind arith

pub region_self : (r : Region) → region_eq r r ≡ true
region_self (Sec o n) = true_and (o == o) (n == n) (eqb_self o) (eqb_self n)
region_self (Common a) = eqb_self a
region_self Stack = refl
region_self Heap = refl

pub same_place : (p q : Place) → place_eq p q ≡ true → p ≡ q
same_place p q e =
    let b = and_true (p.obj == q.obj) (p.off == q.off) e in
    let f : p.obj ≡ q.obj = eqb-true p.obj q.obj b.0 in
    let g : p.off ≡ q.off = eqb-true p.off q.off b.1 in
    grind (arith, f, g)

pub same_target : (t u : Target) → target_eq t u ≡ true → t ≡ u
same_target (target.Num m) (target.Num n) e = let f : m ≡ n = eqb-true m n e in cc
same_target (target.Ptr r x) (target.Ptr q y) e =
    let b = and_true (region_eq r q) (x == y) e in
    let f : r ≡ q = same_region r q b.0 in
    let g : x ≡ y = eqb-true x y b.1 in
    cc
same_target (target.Code p) (target.Code q) e = let f : p ≡ q = same_place p q e in cc
same_target _ _ e = cc

pub same_value : (v w : Value) → value_eq v w ≡ true → v ≡ w
same_value (Num m) (Num n) e = let f : m ≡ n = eqb-true m n e in cc
same_value (Ptr r x) (Ptr q y) e =
    let b = and_true (region_eq r q) (x == y) e in
    let f : r ≡ q = same_region r q b.0 in
    let g : x ≡ y = eqb-true x y b.1 in
    cc
same_value (Code p) (Code q) e = let f : p ≡ q = same_place p q e in cc
same_value (Gp m) (Gp n) e = let f : m ≡ n = eqb-true m n e in cc
same_value (Half p) (Half q) e = let f : p ≡ q = same_place p q e in cc
same_value (GpOff o t) (GpOff p u) e =
    let b = and_true (o == p) (target_eq t u) e in
    let f : o ≡ p = eqb-true o p b.0 in
    let g : t ≡ u = same_target t u b.1 in
    cc
same_value _ _ e = cc
