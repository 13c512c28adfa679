-- In the graph that a program is lifted to a table's loads are those of its own object's text.
use Rattle.std.proofs.Common.{◌≡◌, ◌<◌, ◌+◌, ◌==◌, ℕ, zero, suc, Bool, true, false, cond, List, [], ◌∷◌, ◌++◌, length, Option, Some, None, refl, sym, ap, ◌∙◌, subst, arith}
use Rattle.std.specs.Prelude.{flat_map, slice_get, slice_index_or, unwrap_or}
use Rattle.std.proofs.lemmas.Bool.{true≢false, eqb-true}
use Rattle.std.proofs.lemmas.Bool.Decides.{nat_tests}
use Rattle.om_isa.specs.declared.instr.Instr.{Instr}
use Rattle.om_isa.specs.declared.instr.Instr.TheVariants.{Mem, Jump, Branch, Alu, Cmov, Misc, Fnop, Halt, Callsys}
use Rattle.om_value.specs.declared.value.Place.{Place}
use Rattle.om_value.specs.declared.value.Target.{Target}
use Rattle.om_prog.specs.declared.item.Item.{Item}
use Rattle.om_prog.specs.declared.item.Role.{Role}
use Rattle.om_prog.specs.declared.item.Role.TheVariants as role
use Rattle.om_prog.specs.Act.{Word}
use Rattle.om_prog.specs.View.{ProgramView, text_of}
use Rattle.om_prog.specs.Script.{act_of}
use Rattle.om_prog.specs.Step.{next_place}
use Rattle.om_prog.specs.Valid.{IsProgram, fits, target_of_role, literal_of, with_slot, slots_onto}
use Rattle.om_graph.specs.View.{GraphView, numbers_from}
use Rattle.om_graph.specs.Run.{words, table_of}
use Rattle.om_graph.specs.Lifted.{IsLifted}
use Rattle.om_graph.specs.Grouping.{act_targets, loaded_in, firsts_onto}
use Rattle.om_graph.proofs.LiftedWords.{text_words, text_start, texts_words, Known}
use Rattle.om_graph.proofs.LiftedRun.{known, lifted_words}
use Rattle.om_layout.specs.Order.{word_targets, slots_of}

-- ---- the targets of a text

abbrev option_list : Option Target → List Target
option_list None = []
option_list (Some t) = t ∷ []

abbrev literals : List Item → List Target
literals [] = []
literals (i ∷ is) = option_list (literal_of i) ++ literals is

firsts_slot : (held : List Target) (o : Option Target) (ts : List Target) → firsts_onto held (option_list o ++ ts) ≡ firsts_onto (with_slot held o) ts
firsts_slot held None ts = refl
firsts_slot held (Some t) ts = refl

firsts_are : (held : List Target) (text : List Item) → firsts_onto held (literals text) ≡ slots_onto held text
firsts_are held [] = refl
firsts_are held (i ∷ is) = firsts_slot held (literal_of i) (literals is) ∙ firsts_are (with_slot held (literal_of i)) is

item_target : (p : ProgramView) (text : List Item) (at : Place) (r : Role) (i : Instr) → fits p text at r i ≡ true → act_targets (act_of r i) ≡ option_list (target_of_role r)
item_target p text at role.Plain i f = refl
item_target p text at (role.GpHi base) (Mem o ra rb d) f = refl
item_target p text at (role.GpHi base) (Jump k ra rb h) f = refl
item_target p text at (role.GpHi base) (Branch o ra d) f = refl
item_target p text at (role.GpHi base) (Alu o ra rb rc) f = refl
item_target p text at (role.GpHi base) (Cmov k ra rb rc) f = refl
item_target p text at (role.GpHi base) (Misc o ra rb) f = refl
item_target p text at (role.GpHi base) Fnop f = refl
item_target p text at (role.GpHi base) Halt f = refl
item_target p text at (role.GpHi base) Callsys f = refl
item_target p text at (role.GpLo hi) (Mem o ra rb d) f = refl
item_target p text at (role.GpLo hi) (Jump k ra rb h) f = refl
item_target p text at (role.GpLo hi) (Branch o ra d) f = refl
item_target p text at (role.GpLo hi) (Alu o ra rb rc) f = refl
item_target p text at (role.GpLo hi) (Cmov k ra rb rc) f = refl
item_target p text at (role.GpLo hi) (Misc o ra rb) f = refl
item_target p text at (role.GpLo hi) Fnop f = refl
item_target p text at (role.GpLo hi) Halt f = refl
item_target p text at (role.GpLo hi) Callsys f = refl
item_target p text at (role.To q) (Mem o ra rb d) f = refl
item_target p text at (role.To q) (Jump k ra rb h) f = refl
item_target p text at (role.To q) (Branch o ra d) f = refl
item_target p text at (role.To q) (Alu o ra rb rc) f = refl
item_target p text at (role.To q) (Cmov k ra rb rc) f = refl
item_target p text at (role.To q) (Misc o ra rb) f = refl
item_target p text at (role.To q) Fnop f = refl
item_target p text at (role.To q) Halt f = refl
item_target p text at (role.To q) Callsys f = refl
item_target p text at (role.Lit t) (Mem o ra rb d) f = refl
item_target p text at (role.Lit t) (Jump k ra rb h) f = absurd (true≢false (sym f))
item_target p text at (role.Lit t) (Branch o ra d) f = absurd (true≢false (sym f))
item_target p text at (role.Lit t) (Alu o ra rb rc) f = absurd (true≢false (sym f))
item_target p text at (role.Lit t) (Cmov k ra rb rc) f = absurd (true≢false (sym f))
item_target p text at (role.Lit t) (Misc o ra rb) f = absurd (true≢false (sym f))
item_target p text at (role.Lit t) Fnop f = absurd (true≢false (sym f))
item_target p text at (role.Lit t) Halt f = absurd (true≢false (sym f))
item_target p text at (role.Lit t) Callsys f = absurd (true≢false (sym f))

abbrev loads_at : ℕ → List Word → List Target
loads_at o ws = flat_map (loaded_in o) ws

append_same : (xs ys zs : List Target) → (xs ++ ys) ++ zs ≡ xs ++ (ys ++ zs)
append_same [] ys zs = refl
append_same (x ∷ xs) ys zs = ap (λ (l : List Target). x ∷ l) (append_same xs ys zs)

loads_append : (o : ℕ) (xs ys : List Word) → loads_at o (xs ++ ys) ≡ loads_at o xs ++ loads_at o ys
loads_append o [] ys = refl
loads_append o (x ∷ xs) ys =
    ap (λ (l : List Target). loaded_in o x ++ l) (loads_append o xs ys) ∙ sym (append_same (loaded_in o x) (loads_at o xs) (loads_at o ys))

self_number : (o : ℕ) → (o == o) ≡ true
self_number o = grind (arith, nat_tests)

other_number : (o k : ℕ) → (o ≡ k → ⊥) → (o == k) ≡ false
other_number o k h = by_case (o == k) refl
  where
    by_case : (b : Bool) → (o == k) ≡ b → b ≡ false
    by_case true e = absurd (h (eqb-true o k e))
    by_case false e = refl

-- the words of an object's own text, and of another's
own_loads : (p : ProgramView) (at : Place) (is : List Item) → Known p at is → loads_at at.obj (text_words at is) ≡ literals is
own_loads p at [] k = refl
own_loads p at (i ∷ is) k =
    let e = self_number at.obj in
    let f = item_target p k.1.0 at i.role i.instr k.1.1 in
    let r = own_loads p (next_place at) is k.2 in
    rw (e, f, r) refl

no_loads : (o : ℕ) (at : Place) (is : List Item) → (at.obj ≡ o → ⊥) → loads_at o (text_words at is) ≡ []
no_loads o at [] h = refl
no_loads o at (i ∷ is) h =
    let e = other_number at.obj o h in
    let r = no_loads o (next_place at) is h in
    rw (e, r) refl

no_later : (o k : ℕ) (texts : List (List Item)) → o < k → loads_at o (texts_words k texts) ≡ []
no_later o k [] h = refl
no_later o k (t ∷ ts) h =
    let a = no_loads o (text_start k) t (λ e. later e) in
    let r = no_later o (suc k) ts (omega (arith, h)) in
    loads_append o (text_words (text_start k) t) (texts_words (suc k) ts) ∙ rw (a, r) refl
  where
    later : k ≡ o → ⊥
    later e = omega (arith, e, h)

-- ---- the text of an object

append_none : (ts : List Target) → ts ++ [] ≡ ts
append_none [] = refl
append_none (t ∷ ts) = ap (λ (l : List Target). t ∷ l) (append_none ts)

module _ (p : ProgramView) (prog : IsProgram p) where
  text_loads :
      (k : ℕ) (texts : List (List Item)) (o : ℕ) → ((j : ℕ) (t : List Item) → slice_get texts j ≡ Some t → slice_get p.texts (k + j) ≡ Some t) →
      loads_at (k + o) (texts_words k texts) ≡ literals (unwrap_or (slice_get texts o) [])
  text_loads k [] o f = refl
  text_loads k (t ∷ ts) zero f =
      let at : k + 0 ≡ k = omega arith in
      let a = own_loads p (text_start k) t (known p prog k t (subst (λ (x : ℕ). slice_get p.texts x ≡ Some t) (omega arith) (f 0 t refl))) in
      let b = no_later k (suc k) ts (omega arith) in
      ap (λ (n : ℕ). loads_at n (texts_words k (t ∷ ts))) at
      ∙ loads_append k (text_words (text_start k) t) (texts_words (suc k) ts)
      ∙ ap (λ (x : List Target). x ++ loads_at k (texts_words (suc k) ts)) a
      ∙ ap (λ (x : List Target). literals t ++ x) b
      ∙ append_none (literals t)
  text_loads k (t ∷ ts) (suc o) f =
      let at : k + suc o ≡ suc k + o = omega arith in
      let a = no_loads (k + suc o) (text_start k) t (λ e. before e) in
      loads_append (k + suc o) (text_words (text_start k) t) (texts_words (suc k) ts)
      ∙ ap (λ (x : List Target). x ++ loads_at (k + suc o) (texts_words (suc k) ts)) a
      ∙ ap (λ (n : ℕ). loads_at n (texts_words (suc k) ts)) at
      ∙ text_loads (suc k) ts o (λ j u e. subst (λ (x : ℕ). slice_get p.texts x ≡ Some u) (omega arith) (f (suc j) u e))
    where
      before : k ≡ k + suc o → ⊥
      before e = omega (arith, e)

  module _ (g : GraphView) (lifted : IsLifted p g) where
    -- each object has its own table
    own_table : (o : ℕ) → table_of g o ≡ o
    own_table o =
        let z : 0 + o ≡ o = omega arith in
        ap (λ (ts : List ℕ). slice_index_or ts o o) lifted.tables
        ∙ ap (slice_index_or (numbers_from 0 (length p.texts)) o) (sym z)
        ∙ number_at 0 (length p.texts) o ∙ z
      where
        number_at : (k n o : ℕ) → slice_index_or (numbers_from k n) o (k + o) ≡ k + o
        number_at k zero o = refl
        number_at k (suc n) zero = omega arith
        number_at k (suc n) (suc o) =
            let e : k + suc o ≡ k + 1 + o = omega arith in
            ap (slice_index_or (numbers_from (k + 1) n) o) e ∙ number_at (k + 1) n o ∙ sym e

    same_targets : (k : ℕ) (ws : List Word) → flat_map (word_targets (table_of g) k) ws ≡ loads_at k ws
    same_targets k [] = refl
    same_targets k (w ∷ ws) =
        ap (λ (o : ℕ). cond (o == k) (act_targets w.act) [] ++ flat_map (word_targets (table_of g) k) ws) (own_table w.at.obj)
        ∙ ap (λ (ts : List Target). loaded_in k w ++ ts) (same_targets k ws)

    -- so table k has the slots of text k
    pub own_slots : (k : ℕ) → slots_of g k ≡ slots_onto [] (text_of p k)
    own_slots k =
        let here : 0 + k ≡ k = omega arith in
        let from : (j : ℕ) → j ≡ 0 + j = λ j. omega arith in
        ap (firsts_onto [])
        (same_targets k (words g) ∙ ap (loads_at k) (lifted_words p prog g lifted)
        ∙ ap (λ (n : ℕ). loads_at n (texts_words 0 p.texts)) (sym here)
        ∙ text_loads 0 p.texts k (λ j t e. subst (λ (x : ℕ). slice_get p.texts x ≡ Some t) (from j) e))
        ∙ firsts_are [] (text_of p k)
