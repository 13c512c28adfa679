-- Worked rows of tables at their limit.
use Rattle.std.proofs.Common.{◌≡◌, ◌||◌, ◌==◌, ℕ, suc, Bool, true, false, List, [], ◌∷◌, ◌++◌, refl, ap, ◌∙◌}
use Rattle.std.specs.Prelude.{length, nat_le}
use Rattle.std.specs.List.{list_any}
use Rattle.om_value.specs.declared.value.Target.{Target}
use Rattle.om_value.specs.declared.value.Target.TheVariants as target
use Rattle.om_value.specs.Same.{target_eq}
use Rattle.om_prog.specs.Valid.{slots_onto, slot_limit}
use Rattle.om_graph.specs.Grouping.{has_room}
use Rattle.om_graph.specs.GroupRows.{loads, Lacks, FullTables}

longer : (ts : List Target) (t : Target) → length (ts ++ t ∷ []) ≡ suc (length ts)
longer [] t = refl
longer (u ∷ ts) t = ap suc (longer ts t)

-- what lacks a target does so with another one behind it
lacks_more : (ts : List Target) (t u : Target) → Lacks ts t → target_eq u t ≡ false → Lacks (ts ++ u ∷ []) t
lacks_more [] t u e f = rw f refl
lacks_more (x ∷ ts) t u e f = by_test (target_eq x t) e (λ h. lacks_more ts t u h f)
  where
    by_test :
        (b : Bool) → (b || list_any (λ u. target_eq u t) ts) ≡ false → (Lacks ts t → Lacks (ts ++ u ∷ []) t) →
        (b || list_any (λ u. target_eq u t) (ts ++ u ∷ [])) ≡ false
    by_test true e i = e
    by_test false e i = i e

module _ (k : ℕ) (held : List Target) where
  -- the targets of a table with an object that loads one
  with_one : (n : ℕ) → Lacks held (target.Num n) → slots_onto held (loads (n ∷ [])) ≡ held ++ target.Num n ∷ []
  with_one n e = rw e refl

  with_two :
      (n m : ℕ) → Lacks held (target.Num n) → Lacks held (target.Num m) → (n == m) ≡ false →
      slots_onto held (loads (n ∷ m ∷ [])) ≡ (held ++ target.Num n ∷ []) ++ target.Num m ∷ []
  with_two n m e f d =
      let l = lacks_more held (target.Num m) (target.Num n) f d in
      rw (e, l) refl

  room : (size : ℕ) (ns : List ℕ) → length (slots_onto held (loads ns)) ≡ size → has_room slots_onto slot_limit held (loads ns) ≡ nat_le size 8192
  room size ns e = ap (λ (x : ℕ). nat_le x 8192) e

pub full_tables : FullTables
full_tables = record {
  one_more = λ k held n e l.
      let r = room k held 8192 (n ∷ []) (ap length (with_one k held n l) ∙ longer held (target.Num n) ∙ ap suc e) in
      rw r refl;
  two_more = λ k held n m e l j d.
      let r =
      room k held 8193 (n ∷ m ∷ []) (ap length (with_two k held n m l j d) ∙ longer (held ++ target.Num n ∷ []) (target.Num m) ∙ ap suc (longer held (target.Num n) ∙ ap suc e)) in
      rw r refl;
  full = λ k held n e l.
      let r = room k held 8193 (n ∷ []) (ap length (with_one k held n l) ∙ longer held (target.Num n) ∙ ap suc e) in
      rw r refl;
  held_already = λ k held n e l.
      let s : slots_onto held (loads (n ∷ [])) ≡ held = rw l refl in
      let r = room k held 8192 (n ∷ []) (ap length s ∙ e) in
      rw r refl;
}
