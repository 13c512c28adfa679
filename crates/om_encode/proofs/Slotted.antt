-- Each kept load of an address has a slot in the table of its object.
use Rattle.std.proofs.Common.{◌≡◌, ◌⊎◌, inl, inr, ℕ, zero, suc, ◌+◌, ◌*◌, ◌<◌, ◌≤◌, max, Bool, true, false, cond, ◌||◌, ◌==◌, List, [], ◌∷◌, ◌++◌, length, Option, Some, refl, ap, sym, subst, ◌∙◌, arith}
use Rattle.std.specs.Prelude.{flat_map, option_map, option_and_then, slice_get, slice_index_or}
use Rattle.std.specs.List.{list_any}
use Rattle.std.proofs.lemmas.Bool.{eq-eqb}
use Rattle.om_value.specs.declared.value.Target.{Target}
use Rattle.om_value.specs.declared.value.Target.TheVariants as target
use Rattle.om_value.specs.Same.{target_eq}
use Rattle.om_prog.specs.Act.{Act, Lit, Word}
use Rattle.om_prog.specs.View.{ProgramView}
use Rattle.om_prog.specs.Valid.{with_target}
use Rattle.om_graph.specs.View.{GraphView, Has}
use Rattle.om_graph.specs.Run.{words, table_of}
use Rattle.om_graph.proofs.Labels.{append_left, append_right, self_eq}
use Rattle.om_lockstep.proofs.Small.{same_target, region_self, eqb_self, true_and}
use Rattle.om_layout.specs.Layout.{LayoutView, TableAt, table_at, start_at, start_or, slot_at, slot_number, slot_address}
use Rattle.om_layout.specs.Order.{IsDataLayout, table_count, act_targets, word_targets, targets_of, firsts_onto, slots_of}

-- ---- slots

target_self : (t : Target) → target_eq t t ≡ true
target_self (target.Num n) = eqb_self n
target_self (target.Ptr r x) = true_and _ (x == x) (region_self r) (eqb_self x)
target_self (target.Code q) = self_eq q

pub record Numbered (us : List Target) (t : Target) : Type 0 where
  pub number : ℕ
  pub found : slot_number us t ≡ Some number
  pub there : slice_get us number ≡ Some t

numbered : (us : List Target) (t : Target) → Has us t → Numbered us t
numbered [] t h = absurd h
numbered (u ∷ us) t h = by_test (target_eq u t) refl h (numbered us t)
  where
    by_test : (b : Bool) → target_eq u t ≡ b → Has (u ∷ us) t → (Has us t → Numbered us t) → Numbered (u ∷ us) t
    by_test true e h i = record { number = 0; found = rw e refl; there = ap (λ (x : Target). Some x) (same_target u t e) }
    by_test false e (inl s) i = absurd (differ (sym (subst (λ (x : Target). target_eq x t ≡ true) (sym s) (target_self t)) ∙ e))
      where
        differ : true ≡ false → ⊥
        differ e = cc
    by_test false e (inr k) i =
        let r = i k in
        record { number = suc r.number; found = rw e (ap (option_map suc) r.found); there = r.there }

any_has : (ts : List Target) (t : Target) → list_any (λ u. target_eq u t) ts ≡ true → Has ts t
any_has [] t e = cc
any_has (u ∷ ts) t e = by_test (target_eq u t) refl e (any_has ts t)
  where
    by_test : (b : Bool) → target_eq u t ≡ b → (b || list_any (λ u. target_eq u t) ts) ≡ true → (list_any (λ u. target_eq u t) ts ≡ true → Has ts t) → Has (u ∷ ts) t
    by_test true s e i = inl (same_target u t s)
    by_test false s e i = inr (i e)

with_new : (ts : List Target) (t : Target) → Has (with_target ts t) t
with_new ts t = by_any (list_any (λ u. target_eq u t) ts) refl
  where
    by_any : (b : Bool) → list_any (λ u. target_eq u t) ts ≡ b → Has (cond b ts (ts ++ t ∷ [])) t
    by_any true e = any_has ts t e
    by_any false e = append_right ts (t ∷ []) t (inl refl)

with_old : (ts : List Target) (t x : Target) → Has ts x → Has (with_target ts t) x
with_old ts t x h = by_any (list_any (λ u. target_eq u t) ts)
  where
    by_any : (b : Bool) → Has (cond b ts (ts ++ t ∷ [])) x
    by_any true = h
    by_any false = append_left ts (t ∷ []) x h

firsts_has : (seen ts : List Target) (x : Target) → Has seen x ⊎ Has ts x → Has (firsts_onto seen ts) x
firsts_has seen [] x (inl h) = h
firsts_has seen [] x (inr h) = absurd h
firsts_has seen (t ∷ ts) x (inl h) = firsts_has (with_target seen t) ts x (inl (with_old seen t x h))
firsts_has seen (t ∷ ts) x (inr (inl e)) = firsts_has (with_target seen t) ts x (inl (subst (λ (y : Target). Has (with_target seen t) y) e (with_new seen t)))
firsts_has seen (t ∷ ts) x (inr (inr h)) = firsts_has (with_target seen t) ts x (inr h)

loads_has : (table : ℕ → ℕ) (k : ℕ) (ws : List Word) (w : Word) (ra rb : ℕ) (t : Target) → Has ws w → w.act ≡ Lit ra rb t → table w.at.obj ≡ k → Has (flat_map (word_targets table k) ws) t
loads_has table k [] w ra rb t h a e = absurd h
loads_has table k (v ∷ vs) w ra rb t (inl s) a e =
    append_left (word_targets table k v) (flat_map (word_targets table k) vs) t
    (subst (λ (y : Word). Has (word_targets table k y) t) (sym s)
    (let b = eq-eqb (table w.at.obj) k e in rw b (subst (λ (x : Act). Has (act_targets x) t) (sym a) (inl refl))))
loads_has table k (v ∷ vs) w ra rb t (inr h) a e =
    append_right (word_targets table k v) (flat_map (word_targets table k) vs) t (loads_has table k vs w ra rb t h a e)

-- ---- tables

max_left : (m n : ℕ) → m ≤ max m n
max_left m n = grind arith

max_right : (m n : ℕ) → n ≤ max m n
max_right m n = grind arith

count_above : (ts : List ℕ) (o : ℕ) → o < length ts → slice_index_or ts o o < table_count ts
count_above ts o h = at_any ts o o h
  where
    at_any : (ts : List ℕ) (o d : ℕ) → o < length ts → slice_index_or ts o d < table_count ts
    at_any [] o d h = absurd (omega arith)
    at_any (t ∷ ts) zero d h = let m = max_left (suc t) (table_count ts) in omega (arith, m)
    at_any (t ∷ ts) (suc o) d h =
        let m = max_right (suc t) (table_count ts) in
        let i = at_any ts o d (omega (arith, h)) in
        omega (arith, m, i)

pub got_some : {A : Type 0} (xs : List A) (k : ℕ) → k < length xs → (x : A) × (slice_get xs k ≡ Some x)
got_some [] k h = absurd (omega arith)
got_some (x ∷ xs) zero h = (x, refl)
got_some (x ∷ xs) (suc k) h = got_some xs k (omega (arith, h))

-- a target has a slot in the table of an object
pub record HasSlotIn (l : LayoutView) (obj : ℕ) (t : Target) : Type 0 where
  pub table : TableAt
  pub number : ℕ
  pub found : slice_get l.tables (table_at l obj) ≡ Some table
  pub there : slice_get table.slots number ≡ Some t
  pub slot : slot_at l (table_at l obj) t ≡ Some (start_at l (table_at l obj) + 8 * number)

pub slotted :
    (p : ProgramView) (g : GraphView) (l : LayoutView) → IsDataLayout p g l → (w : Word) (ra rb : ℕ) (t : Target) → Has (words g) w → w.act ≡ Lit ra rb t →
    w.at.obj < length g.tables → HasSlotIn l w.at.obj t
slotted p g l lay w ra rb t h a below = by_table (got_some l.tables (table_at l w.at.obj) inside)
  where
    same : table_at l w.at.obj ≡ table_of g w.at.obj
    same = ap (λ (ts : List ℕ). slice_index_or ts w.at.obj w.at.obj) lay.object_tables

    inside : table_at l w.at.obj < length l.tables
    inside =
        let c = count_above g.tables w.at.obj below in
        let n = lay.number in
        let e = same in
        omega (arith, c, n, e)

    by_table : (table : TableAt) × (slice_get l.tables (table_at l w.at.obj) ≡ Some table) → HasSlotIn l w.at.obj t
    by_table (table, f) =
        let there : Has (slots_of g (table_at l w.at.obj)) t =
        firsts_has [] (targets_of g (table_at l w.at.obj)) t
        (inr (loads_has (table_of g) (table_at l w.at.obj) (words g) w ra rb t h a (sym same))) in
        let n = numbered table.slots t (subst (λ (us : List Target). Has us t) (sym (lay.slots (table_at l w.at.obj) table f)) there) in
        let s : start_at l (table_at l w.at.obj) ≡ table.start = ap start_or f in
        record {
          table = table;
          number = n.number;
          found = f;
          there = n.there;
          slot =
              ap (λ (o : Option TableAt). option_and_then (slot_address t) o) f
              ∙ ap (λ (o : Option ℕ). option_map (λ j. table.start + 8 * j) o) n.found
              ∙ ap (λ (m : ℕ). Some (m + 8 * n.number)) (sym s);
        }
