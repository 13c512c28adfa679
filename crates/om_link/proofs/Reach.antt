-- Where no cause applies to objects, each branch of their program reaches its place: one by its own displacement stays in a
-- text of at most 2 ^ 20 words, and one to a symbol that is too far is a cause.
use Rattle.std.proofs.Common.{◌≡◌, ℕ, zero, suc, ◌+◌, ◌*◌, ◌/◌, ◌%◌, ◌<◌, Bool, true, false, cond, ◌==◌, min, List, [], ◌∷◌, length, map, take, Option, Some, None, refl, ap, sym, subst, ◌∙◌, arith, slice_index_or}
use Rattle.std.specs.Prelude.{ℤ, pos, negsuc, ◌-ℤ◌, sum, is_some, slice_get, option_map, option_and_then, unwrap_or}
use Rattle.std.proofs.lemmas.Bool.{eqb-true, ltb-true}
use Rattle.std.proofs.lemmas.Int.{ints}
use Rattle.std.proofs.lemmas.List.{take-map}
use Rattle.std.proofs.lemmas.List.Sums.{sum-map}
use Rattle.om_fields.specs.Places.{each_from}
use Rattle.om_isa.specs.declared.instr.BrOp.{BrOp}
use Rattle.om_isa.specs.declared.instr.Instr.{Instr}
use Rattle.om_isa.specs.declared.instr.Instr.TheVariants.{Mem, Jump, Branch, Alu, Cmov, Misc, Fnop, Halt, Callsys}
use Rattle.om_isa.specs.Fields.{IsDisp}
use Rattle.om_value.specs.declared.value.Place.{Place}
use Rattle.om_object.specs.declared.parts.Section.{Section}
use Rattle.om_object.specs.declared.parts.Parts.{Parts}
use Rattle.om_object.specs.Words.{section_of, instr_in, branch_disp}
use Rattle.om_prog.specs.declared.item.Role.{Role}
use Rattle.om_prog.specs.declared.item.Role.TheVariants as role
use Rattle.om_prog.specs.declared.item.Item.{Item}
use Rattle.om_prog.specs.Act.{Act, Word}
use Rattle.om_prog.specs.Act as act
use Rattle.om_prog.specs.View.{ProgramView, item_at, is_word}
use Rattle.om_prog.specs.Script.{act_of, program_fetch}
use Rattle.om_prog.specs.Valid.{IsProgram, fits}
use Rattle.om_graph.specs.Index.{InReach, index_of}
use Rattle.om_graph.proofs.OfProgram.{count_is}
use Rattle.om_resolve.specs.Names.{object_at, no_parts}
use Rattle.om_resolve.specs.Causes.{size_of_text, text_size, text_words, reaches, index_of as index_in, distance as distance_in, first_cause}
use Rattle.om_resolve.specs.Program.{place_at, role_by_disp, own_role, role_given, roles_in, role_at, item_of, items_of, text_of, program_of}
use Rattle.om_resolve.proofs.ProgramReach.{external_reaches}
use Rattle.om_resolve.proofs.ProgramTotals.{short_object, text_count}
use Rattle.om_resolve.proofs.ProgramWords.{each_inside}
use Rattle.om_resolve.proofs.ProgramRoles.{Gives, loads, high, low, branches, given_by}
use Rattle.om_link.specs.Plain.{counts_of, BranchesReach}

-- ---- lists

mapped_each : {X Y Z : Type 0} (f : ℕ → X) (a : X → Z) (b : Y → Z) (d : Y) (ys : List Y) (k : ℕ) → ((j : ℕ) → j < length ys → a (f (k + j)) ≡ b (slice_index_or ys j d)) → map a (each_from f k (length ys)) ≡ map b ys
mapped_each f a b d [] k h = refl
mapped_each {Z = Z} f a b d (y ∷ ys) k h =
    let z : k ≡ k + 0 = omega arith in
    let first : a (f k) ≡ b y = ap (λ i. a (f i)) z ∙ h 0 (omega arith) in
    let rest =
    mapped_each f a b d ys (k + 1)
    (λ j below. let e : k + 1 + j ≡ k + suc j = omega arith in ap (λ i. a (f i)) e ∙ h (suc j) (omega (arith, below))) in
    ap (λ (x : Z). x ∷ map a (each_from f (k + 1) (length ys))) first ∙ ap (λ (xs : List Z). b y ∷ xs) rest

-- ---- where a word stands

-- a place of a word is that of an item of a text
pub record StandsIn (p : ProgramView) (at : Place) (item : Item) : Type 0 where
  pub text : List Item
  pub there : slice_get p.texts at.obj ≡ Some text
  pub here : slice_get text (at.off / 4) ≡ Some item
  pub aligned : at.off % 4 ≡ 0

pub stands_in : (p : ProgramView) (at : Place) (item : Item) → item_at p at ≡ Some item → StandsIn p at item
stands_in p at item h = by_off (at.off % 4 == 0) refl h
  where
    by_text : (o : Option (List Item)) → slice_get p.texts at.obj ≡ o → option_and_then (λ text. slice_get text (at.off / 4)) o ≡ Some item → (text : List Item) × (slice_get p.texts at.obj ≡ Some text) × (slice_get text (at.off / 4) ≡ Some item)
    by_text None e h = cc
    by_text (Some text) e h = (text, e, h)

    by_off : (b : Bool) → (at.off % 4 == 0) ≡ b → cond b (option_and_then (λ text. slice_get text (at.off / 4)) (slice_get p.texts at.obj)) None ≡ Some item → StandsIn p at item
    by_off true a h = let t = by_text (slice_get p.texts at.obj) refl h in record { text = t.0; there = t.1; here = t.2; aligned = eqb-true (at.off % 4) 0 a }
    by_off false a h = cc

inside_text : {A : Type 0} (xs : List A) (k : ℕ) (x : A) → slice_get xs k ≡ Some x → k < length xs
inside_text [] k x e = cc
inside_text (y ∷ xs) zero x e = omega arith
inside_text (y ∷ xs) (suc k) x e = let i = inside_text xs k x e in omega (arith, i)

-- how many words stand before a word
min_small : (n k : ℕ) → k < n → min n k ≡ k
min_small n k h = grind arith

index_is : (p : ProgramView) (at : Place) (item : Item) → StandsIn p at item → index_of (counts_of p) at ≡ sum (take at.obj (counts_of p)) + at.off / 4
index_is p at item s =
    let count = count_is p.texts at.obj s.text s.there in
    let inside = inside_text s.text (at.off / 4) item s.here in
    let even = s.aligned in
    let up : (at.off + 3) / 4 ≡ at.off / 4 = omega (arith, even) in
    let least = min_small (slice_index_or (counts_of p) at.obj 0) (at.off / 4) (omega (arith, count, inside)) in
    ap (λ k. sum (take at.obj (counts_of p)) + min (slice_index_or (counts_of p) at.obj 0) k) up
    ∙ ap (λ k. sum (take at.obj (counts_of p)) + k) least

-- ---- a word that branches

to_role : (r : Role) (i : Instr) (op : BrOp) (ra : ℕ) (q : Place) → act_of r i ≡ act.To op ra q → r ≡ role.To q
to_role role.Plain i op ra q e = cc
to_role (role.Lit t) (Mem o rc rd d) op ra q e = cc
to_role (role.Lit t) (Jump k rc rd h) op ra q e = cc
to_role (role.Lit t) (Branch o rc d) op ra q e = cc
to_role (role.Lit t) (Alu o rc rd re) op ra q e = cc
to_role (role.Lit t) (Cmov k rc rd re) op ra q e = cc
to_role (role.Lit t) (Misc o rc rd) op ra q e = cc
to_role (role.Lit t) Fnop op ra q e = cc
to_role (role.Lit t) Halt op ra q e = cc
to_role (role.Lit t) Callsys op ra q e = cc
to_role (role.GpHi base) (Mem o rc rd d) op ra q e = cc
to_role (role.GpHi base) (Jump k rc rd h) op ra q e = cc
to_role (role.GpHi base) (Branch o rc d) op ra q e = cc
to_role (role.GpHi base) (Alu o rc rd re) op ra q e = cc
to_role (role.GpHi base) (Cmov k rc rd re) op ra q e = cc
to_role (role.GpHi base) (Misc o rc rd) op ra q e = cc
to_role (role.GpHi base) Fnop op ra q e = cc
to_role (role.GpHi base) Halt op ra q e = cc
to_role (role.GpHi base) Callsys op ra q e = cc
to_role (role.GpLo hi) (Mem o rc rd d) op ra q e = cc
to_role (role.GpLo hi) (Jump k rc rd h) op ra q e = cc
to_role (role.GpLo hi) (Branch o rc d) op ra q e = cc
to_role (role.GpLo hi) (Alu o rc rd re) op ra q e = cc
to_role (role.GpLo hi) (Cmov k rc rd re) op ra q e = cc
to_role (role.GpLo hi) (Misc o rc rd) op ra q e = cc
to_role (role.GpLo hi) Fnop op ra q e = cc
to_role (role.GpLo hi) Halt op ra q e = cc
to_role (role.GpLo hi) Callsys op ra q e = cc
to_role (role.To x) (Mem o rc rd d) op ra q e = cc
to_role (role.To x) (Jump k rc rd h) op ra q e = cc
to_role (role.To x) (Branch o rc d) op ra q e = cc
to_role (role.To x) (Alu o rc rd re) op ra q e = cc
to_role (role.To x) (Cmov k rc rd re) op ra q e = cc
to_role (role.To x) (Misc o rc rd) op ra q e = cc
to_role (role.To x) Fnop op ra q e = cc
to_role (role.To x) Halt op ra q e = cc
to_role (role.To x) Callsys op ra q e = cc

pub record BranchesTo (p : ProgramView) (at q : Place) : Type 0 where
  pub item : Item
  pub there : item_at p at ≡ Some item
  pub role : item.role ≡ role.To q

branches_to : (p : ProgramView) (at q : Place) (op : BrOp) (ra : ℕ) → program_fetch p at ≡ Some (record { at = at; act = act.To op ra q }) → BranchesTo p at q
branches_to p at q op ra h = by_item (item_at p at) refl h
  where
    by_item : (o : Option Item) → item_at p at ≡ o → option_map (λ (i : Item). let w : Word = record { at = at; act = act_of i.role i.instr } in w) o ≡ Some (record { at = at; act = act.To op ra q }) → BranchesTo p at q
    by_item None e h = cc
    by_item (Some i) e h =
        let w : Word = record { at = at; act = act_of i.role i.instr } in
        let v : Word = record { at = at; act = act.To op ra q } in
        let same : w ≡ v = cc in
        record { item = i; there = e; role = to_role i.role i.instr op ra q (ap (λ (x : Word). x.act) same) }

-- its target is a word
fits_to : (p : ProgramView) (text : List Item) (at q : Place) (i : Instr) → fits p text at (role.To q) i ≡ true → is_word p q ≡ true
fits_to p text at q (Branch o rc d) e = e
fits_to p text at q (Mem o rc rd d) e = cc
fits_to p text at q (Jump k rc rd h) e = cc
fits_to p text at q (Alu o rc rd re) e = cc
fits_to p text at q (Cmov k rc rd re) e = cc
fits_to p text at q (Misc o rc rd) e = cc
fits_to p text at q Fnop e = cc
fits_to p text at q Halt e = cc
fits_to p text at q Callsys e = cc

target_there : (p : ProgramView) → IsProgram p → (at q : Place) → BranchesTo p at q → (item : Item) × (item_at p q ≡ Some item)
target_there p prog at q b =
    let s = stands_in p at b.item b.there in
    let item = (prog.texts.each at.obj s.text s.there).items.each (at.off / 4) b.item s.here in
    let even = s.aligned in
    let place : 4 * (at.off / 4) ≡ at.off = omega (arith, even) in
    by_item (item_at p q) refl
    (fits_to p s.text (record { obj = at.obj; off = 4 * (at.off / 4) }) q b.item.instr
    (sym (ap (λ (r : Role). fits p s.text (record { obj = at.obj; off = 4 * (at.off / 4) }) r b.item.instr) b.role) ∙ item.role))
  where
    by_item : (o : Option Item) → item_at p q ≡ o → is_some o ≡ true → (item : Item) × (item_at p q ≡ Some item)
    by_item None e h = cc
    by_item (Some item) e h = (item, e)

-- ---- in reach

near_disp : (a b : ℕ) → a < 1048576 → b < 1048576 → (n : ℕ) → IsDisp (pos (n + b) -ℤ pos (n + a) -ℤ pos 1)
near_disp a b f g n = (omega (arith, ints, f, g), omega (arith, ints, f, g))

reached_disp : (z : ℤ) → reaches z ≡ true → IsDisp z
reached_disp (pos n) h = let l = ltb-true n 1048576 h in (omega (arith, ints), omega (arith, ints, l))
reached_disp (negsuc n) h = let l = ltb-true n 1048576 h in (omega (arith, ints, l), omega (arith, ints))

module _ (objects : List Parts) where
  counts_are : counts_of (program_of objects) ≡ map text_words objects
  unfolding program_of
  counts_are =
      mapped_each (text_of objects) (λ (text : List Item). length text) text_words no_parts objects 0
      (λ j below. let e : 0 + j ≡ j = omega arith in ap (λ i. length (text_of objects i)) e ∙ text_count objects j)

  -- the words before a word are as many in the program as in the objects
  same_index : (at : Place) (item : Item) → StandsIn (program_of objects) at item → index_of (counts_of (program_of objects)) at ≡ index_in objects at
  same_index at item s =
      index_is (program_of objects) at item s
      ∙ ap (λ (cs : List ℕ). sum (take at.obj cs) + at.off / 4) counts_are
      ∙ ap (λ (cs : List ℕ). sum cs + at.off / 4) (take-map text_words at.obj objects)
      ∙ ap (λ n. n + at.off / 4) (sum-map text_words (take at.obj objects))

  same_distance : (at q : Place) (i j : Item) → StandsIn (program_of objects) at i → StandsIn (program_of objects) q j → IsDisp (distance_in objects at q) → InReach (counts_of (program_of objects)) at q
  same_distance at q i j s t h =
      subst (λ m. IsDisp (pos (index_of (counts_of (program_of objects)) q) -ℤ pos m -ℤ pos 1)) (sym (same_index at i s))
      (subst (λ n. IsDisp (pos n -ℤ pos (index_in objects at) -ℤ pos 1)) (sym (same_index q j t)) h)

  -- ---- where an item comes from

  pub record ComesFrom (at : Place) (item : Item) : Type 0 where
    pub below : at.obj < length objects
    pub section : Section
    pub there : section_of (object_at objects at.obj) 1 ≡ Some section
    pub inside : at.off / 4 < section.size / 4
    pub role : role_at objects at.obj section at.off ≡ item.role

  comes_from : (at : Place) (item : Item) → StandsIn (program_of objects) at item → ComesFrom at item
  unfolding program_of text_of
  comes_from at item s =
      let a = each_inside (text_of objects) (length objects) at.obj s.text s.there in
      by_section (section_of (object_at objects at.obj) 1) refl (ap (λ (t : List Item). slice_get t (at.off / 4)) a.1 ∙ s.here)
    where
      by_section : (o : Option Section) → section_of (object_at objects at.obj) 1 ≡ o → slice_get (items_of objects at.obj o) (at.off / 4) ≡ Some item → ComesFrom at item
      by_section None e h = cc
      by_section (Some x) e h =
          let a = each_inside (text_of objects) (length objects) at.obj s.text s.there in
          let b = each_inside (item_of objects at.obj x) (x.size / 4) (at.off / 4) item h in
          let even = s.aligned in
          let place : at.off ≡ 4 * (at.off / 4) = omega (arith, even) in
          record {
            below = a.0;
            section = x;
            there = e;
            inside = b.0;
            role = ap (λ off. role_at objects at.obj x off) place ∙ ap (λ (i : Item). i.role) b.1;
          }

  -- a branch without a relocation stays in its text
  own_object : (obj off : ℕ) (q : Place) (d : Option ℤ) → role_by_disp obj off d ≡ role.To q → obj ≡ q.obj
  own_object obj off q None h = cc
  own_object obj off q (Some disp) h = cc

  module _ (uncaused : first_cause objects ≡ None) where
    -- ---- one text

    index_below : (at : Place) (item : Item) → ComesFrom at item → at.off / 4 < 1048576
    index_below at item c =
        let short = short_object objects uncaused at.obj c.below in
        let size : text_size (object_at objects at.obj) ≡ c.section.size = ap size_of_text c.there in
        let inside = c.inside in
        omega (arith, short, size, inside)

    stays_near : (at q : Place) (i j : Item) → StandsIn (program_of objects) at i → StandsIn (program_of objects) q j → at.obj ≡ q.obj → InReach (counts_of (program_of objects)) at q
    stays_near at q i j s t same =
        let counts = counts_of (program_of objects) in
        let a = index_is (program_of objects) at i s in
        let b = index_is (program_of objects) q j t ∙ ap (λ o. sum (take o counts) + q.off / 4) (sym same) in
        let c = comes_from at i s in
        let d = comes_from q j t in
        subst (λ m. IsDisp (pos (index_of counts q) -ℤ pos m -ℤ pos 1)) (sym a)
        (subst (λ n. IsDisp (pos n -ℤ pos (sum (take at.obj counts) + at.off / 4) -ℤ pos 1)) (sym b)
        (near_disp (at.off / 4) (q.off / 4) (index_below at i c) (index_below q j d) (sum (take at.obj counts))))

    -- ---- each branch

    given_reaches : (obj : ℕ) (s : Section) (off : ℕ) (q : Place) → obj < length objects → section_of (object_at objects obj) 1 ≡ Some s → (i : ℕ) → i < length s.relocs → Gives objects obj s i off (role.To q) → IsDisp (distance_in objects (place_at obj off) q)
    given_reaches obj s off q ho hs i li (branches x k external e o same) =
        let here : x ≡ q = cc in
        reached_disp (distance_in objects (place_at obj off) q)
        (subst (λ o. reaches (distance_in objects (place_at obj o) q) ≡ true) o
        (external_reaches objects uncaused obj s i q ho hs li external k (e ∙ ap (λ (y : Place). Some y) here)))
    given_reaches obj s off q ho hs i li (loads t k h o same) = cc
    given_reaches obj s off q ho hs i li (high base k h o same) = cc
    given_reaches obj s off q ho hs i li (low k o same) = cc

    branch_reaches : (at q : Place) (i j : Item) → StandsIn (program_of objects) at i → StandsIn (program_of objects) q j → i.role ≡ role.To q → InReach (counts_of (program_of objects)) at q
    unfolding role_at
    branch_reaches at q i j s t r = by_given (role_given (roles_in objects at.obj x.section) at.off) refl (x.role ∙ r)
      where
        x : ComesFrom at i
        x = comes_from at i s

        by_given : (o : Option Role) → role_given (roles_in objects at.obj x.section) at.off ≡ o → unwrap_or o (own_role at.obj x.section at.off) ≡ role.To q → InReach (counts_of (program_of objects)) at q
        by_given None g h = stays_near at q i j s t (own_object at.obj at.off q (branch_disp (instr_in x.section at.off)) h)
        by_given (Some given) g h =
            let a = given_by objects at.obj x.section at.off given g in
            same_distance at q i j s t
            (given_reaches at.obj x.section at.off q x.below x.there a.0 a.1 (subst (λ (r : Role). Gives objects at.obj x.section a.0 at.off r) h a.2))

    pub branches_reach : IsProgram (program_of objects) → BranchesReach (program_of objects)
    branches_reach prog = record {
      each = λ at q op ra h.
          let b = branches_to (program_of objects) at q op ra h in
          let t = target_there (program_of objects) prog at q b in
          branch_reaches at q b.item t.0 (stands_in (program_of objects) at b.item b.there) (stands_in (program_of objects) q t.0 t.1) b.role;
    }
