-- The slots of each table are the targets of its kept loads, each once; and each object has its table of the grouping.
use Rattle.std.proofs.Common.{◌≡◌, ◌⊎◌, inl, inr, ◌<◌, ◌||◌, ◌==◌, ℕ, zero, suc, Bool, true, false, cond, List, [], ◌∷◌, ◌++◌, length, Some, refl, sym, ap, ◌∙◌, subst, arith}
use Rattle.std.specs.Prelude.{slice_get, slice_index_or}
use Rattle.std.specs.List.{list_any}
use Rattle.om_value.specs.declared.value.Place.{Place}
use Rattle.om_value.specs.declared.value.Target.{Target}
use Rattle.om_value.specs.declared.value.Target.TheVariants as target
use Rattle.om_value.specs.Same.{target_eq}
use Rattle.om_prog.specs.Act.{Word}
use Rattle.om_prog.specs.View.{ProgramView}
use Rattle.om_prog.specs.Valid.{IsProgram, with_target}
use Rattle.om_graph.specs.View.{Block, GraphView, Has}
use Rattle.om_graph.specs.Run.{words, block_words, table_of}
use Rattle.om_graph.specs.OfProgram.{IsGraphOf}
use Rattle.om_graph.proofs.Labels.{has_append, has_in, has_label, self_eq, in_all}
use Rattle.om_graph.proofs.OfProgram.{words_in_place}
use Rattle.om_lockstep.proofs.Small.{region_self, eqb_self, true_and}
use Rattle.om_image.specs.declared.image.Image.{Image}
use Rattle.om_layout.specs.Layout.{LayoutView, TableAt, table_at}
use Rattle.om_layout.specs.Order.{IsDataLayout, firsts_onto, slots_of, targets_of}
use Rattle.om_layout.proofs.FewSlots.{firsts_from, load_of}
use Rattle.om_encode.specs.Data.{DataIsTrue}
use Rattle.om_encode.specs.Text.{TextIsTrue}
use Rattle.om_encode.specs.Fields.{FieldsAreTrue}
use Rattle.om_encode.proofs.Slotted.{slotted}
use Rattle.om_graph.specs.Grouping.{grouped_tables}
use Rattle.om_thorough.specs.Thorough.{IsKeptLoad, SlotsAreUsed, TablesAreGrouped}
use Rattle.om_thorough.proofs.Loads.{kept_lit, lit_kept}

-- ---- lists of targets

target_self : (t : Target) → target_eq t t ≡ true
target_self (target.Num n) = eqb_self n
target_self (target.Ptr r x) = true_and _ (x == x) (region_self r) (eqb_self x)
target_self (target.Code q) = self_eq q

abbrev Once : List Target → Type 0
Once [] = Unit {0}
Once (u ∷ us) = (Has us u → ⊥) × Once us

-- a target that is there is found
found_any : (ts : List Target) (t : Target) → list_any (λ u. target_eq u t) ts ≡ false → Has ts t → ⊥
found_any [] t e h = h
found_any (u ∷ ts) t e h = by_test (target_eq u t) refl e h (found_any ts t)
  where
    by_test : (b : Bool) → target_eq u t ≡ b → (b || list_any (λ u. target_eq u t) ts) ≡ false → Has (u ∷ ts) t → (list_any (λ u. target_eq u t) ts ≡ false → Has ts t → ⊥) → ⊥
    by_test true s e h i = cc
    by_test false s e (inl k) i = let z = ap (λ (x : Target). target_eq x t) k in let y = target_self t in cc
    by_test false s e (inr k) i = i e k

once_behind : (ts : List Target) (t : Target) → Once ts → (Has ts t → ⊥) → Once (ts ++ t ∷ [])
once_behind [] t o n = (λ h. h, tt)
once_behind (u ∷ ts) t o n = (λ h. not_there (has_append ts (t ∷ []) u h), once_behind ts t o.1 (λ h. n (inr h)))
  where
    not_there : Has ts u ⊎ Has (t ∷ []) u → ⊥
    not_there (inl h) = o.0 h
    not_there (inr (inl e)) = n (inl (sym e))
    not_there (inr (inr h)) = h

once_with : (ts : List Target) (t : Target) → Once ts → Once (with_target ts t)
once_with ts t o = by_any (list_any (λ u. target_eq u t) ts) refl
  where
    by_any : (b : Bool) → list_any (λ u. target_eq u t) ts ≡ b → Once (cond b ts (ts ++ t ∷ []))
    by_any true e = o
    by_any false e = once_behind ts t o (found_any ts t e)

firsts_once : (seen ts : List Target) → Once seen → Once (firsts_onto seen ts)
firsts_once seen [] o = o
firsts_once seen (t ∷ ts) o = firsts_once (with_target seen t) ts (once_with seen t o)

got_has : (us : List Target) (j : ℕ) (u : Target) → slice_get us j ≡ Some u → Has us u
got_has [] j u e = cc
got_has (v ∷ us) zero u e = let s : v ≡ u = cc in inl s
got_has (v ∷ us) (suc j) u e = inr (got_has us j u e)

one_index : (us : List Target) (j m : ℕ) (u : Target) → Once us → slice_get us j ≡ Some u → slice_get us m ≡ Some u → j ≡ m
one_index [] j m u o e f = cc
one_index (v ∷ us) zero zero u o e f = refl
one_index (v ∷ us) zero (suc m) u o e f = let s : u ≡ v = cc in absurd (o.0 (subst (λ (x : Target). Has us x) s (got_has us m u f)))
one_index (v ∷ us) (suc j) zero u o e f = let s : u ≡ v = cc in absurd (o.0 (subst (λ (x : Target). Has us x) s (got_has us j u e)))
one_index (v ∷ us) (suc j) (suc m) u o e f = ap (λ (n : ℕ). suc n) (one_index us j m u o.1 e f)

-- ----

pub tables_are_grouped : (p : ProgramView) (g : GraphView) (l : LayoutView) (i : Image) → DataIsTrue p g l i → g.tables ≡ grouped_tables p → TablesAreGrouped p i
tables_are_grouped p g l i d e = record { tables = d.object_tables ∙ e }

module _ (p : ProgramView) (prog : IsProgram p) (g : GraphView) (of : IsGraphOf p g) (l : LayoutView) (i : Image)
    (text : TextIsTrue p g l i) (fields : FieldsAreTrue p g l i) (lay : IsDataLayout p g l) where
  same_table : (o : ℕ) → table_at l o ≡ table_of g o
  same_table o = ap (λ (ts : List ℕ). slice_index_or ts o o) lay.object_tables

  used :
      (k : ℕ) (t : TableAt) (u : Target) → slice_get l.tables k ≡ Some t → Has t.slots u →
      (q : Place) × (table_at l q.obj ≡ k) × IsKeptLoad p i q u
  used k t u e h = by_from (firsts_from [] (targets_of g k) u (subst (λ (us : List Target). Has us u) (lay.slots k t e) h))
    where
      by_from : Has [] u ⊎ Has (targets_of g k) u → (q : Place) × (table_at l q.obj ≡ k) × IsKeptLoad p i q u
      by_from (inl h) = absurd h
      by_from (inr h) =
          let r = load_of (table_of g) k (words g) u h in
          let b = has_in g.blocks r.0 r.1 in
          (r.0.at, same_table r.0.at.obj ∙ r.2.object, lit_kept p prog g of l i text fields b.block r.0 r.2.ra r.2.rb u b.among b.word r.2.loads)

  object_below : (b : Block) (w : Word) → Has g.blocks b → Has (block_words b) w → w.at.obj < length g.tables
  object_below b w hb hw =
      let places = words_in_place p prog g of in
      let o = (places.words b w hb hw).object in
      let a = (places.labels b.label (of.graph.among b.label (has_label g.blocks b hb))).0 in
      let n = of.graph.tables in
      omega (arith, o, a, n)

  all :
      (q : Place) (u : Target) → IsKeptLoad p i q u →
      (t : TableAt) × (slice_get l.tables (table_at l q.obj) ≡ Some t) × Has t.slots u
  all q u k =
      let r = kept_lit p prog g of l i text fields q u k in
      let s = slotted p g l lay r.word r.ra r.rb u (in_all g.blocks r.block r.word r.among r.has) r.act (object_below r.block r.word r.among r.has) in
      (s.table, ap (λ (x : Place). slice_get l.tables (table_at l x.obj)) (sym r.place) ∙ s.found, got_has s.table.slots s.number u s.there)

  once :
      (k : ℕ) (t : TableAt) (j m : ℕ) (u : Target) → slice_get l.tables k ≡ Some t → slice_get t.slots j ≡ Some u →
      slice_get t.slots m ≡ Some u → j ≡ m
  once k t j m u e f h =
      let s = lay.slots k t e in
      one_index (slots_of g k) j m u (firsts_once [] (targets_of g k) tt) (subst (λ (us : List Target). slice_get us j ≡ Some u) s f)
      (subst (λ (us : List Target). slice_get us m ≡ Some u) s h)

  pub slots_are_used : SlotsAreUsed p l i
  slots_are_used = record { used = used; all = all; once = once }
