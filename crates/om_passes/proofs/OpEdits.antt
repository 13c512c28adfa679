-- A block of which one op is replaced or deleted.
use Rattle.std.proofs.Common.{◌≡◌, ◌⊎◌, inl, inr, ℕ, Bool, true, false, cond, List, [], ◌∷◌, ◌++◌, Option, None, refl, sym, ap, ◌∙◌, subst}
use Rattle.std.specs.Prelude.{ℤ, map}
use Rattle.std.specs.Option.{option_or}
use Rattle.om_isa.specs.declared.instr.Instr.{Instr}
use Rattle.om_value.specs.declared.value.Place.{Place}
use Rattle.om_value.specs.declared.value.Target.{Target}
use Rattle.om_value.specs.Same.{place_eq}
use Rattle.om_prog.specs.Act.{Act, Word}
use Rattle.om_prog.specs.View.{ProgramView}
use Rattle.om_graph.specs.declared.op.Op.{Op}
use Rattle.om_graph.specs.declared.op.OpKind.{OpKind}
use Rattle.om_graph.specs.declared.op.OpKind.TheVariants as op
use Rattle.om_graph.specs.declared.op.Last.{Last}
use Rattle.om_graph.specs.View.{Block, Shape, Has, ops_of}
use Rattle.om_graph.specs.Run.{high_target, target_at, use_of, op_act, op_word, last_words, block_words, shape_words}
use Rattle.om_graph.specs.Form.{Ordered, OpForm, LastForm}
use Rattle.om_graph.specs.Rewritten.{each_word}
use Rattle.om_graph.specs.Lifted.{lifted_shapes}
use Rattle.om_graph.specs.OfProgram.{IsBlockOf, TakesHigh}
use Rattle.om_graph.proofs.Labels.{has_append, append_left, append_right}
use Rattle.om_passes.specs.AtPlaces.{set_at, gone_at, NoHalf, NoUseLo, NoLit}
use Rattle.om_passes.specs.Edit.{WordEdit}
use Rattle.om_passes.specs.Blocks.{HasLeast, BlockEdit}
use Rattle.om_passes.proofs.AtPlaces.{set_parts, gone_parts}

-- ---- what ops do, over other ops

pub no_high : (k : OpKind) → NoHalf k → high_target k ≡ None
no_high (op.Plain i) n = refl
no_high (op.Lit ra rb t) n = refl
no_high (op.AddrLda ra rb t) n = refl
no_high (op.AddrHi ra rb t least) n = absurd n
no_high (op.UseLo i hi) n = refl
no_high (op.UseGp i gp t) n = refl
no_high (op.GpHi ra rb base) n = refl
no_high (op.GpLo ra rb hi) n = refl

skip_high : (b : Bool) (t : Option Target) (rest : Option Target) → t ≡ None → option_or (cond b t None) rest ≡ rest
skip_high true t rest e = rw e refl
skip_high false t rest e = refl

-- with another op that is no high half
target_set : (pre post : List Op) (o n : Op) (hi : Place) → high_target o.kind ≡ None → high_target n.kind ≡ None → target_at (pre ++ o ∷ post) hi ≡ target_at (pre ++ n ∷ post) hi
target_set [] post o n hi a b =
    skip_high (place_eq o.place hi) (high_target o.kind) (target_at post hi) a ∙ sym (skip_high (place_eq n.place hi) (high_target n.kind) (target_at post hi) b)
target_set (x ∷ pre) post o n hi a b =
    ap (λ (t : Option Target). option_or (cond (place_eq x.place hi) (high_target x.kind) None) t) (target_set pre post o n hi a b)

-- without one that is no high half, or not the one asked for
target_gone : (pre post : List Op) (o : Op) (hi : Place) → (high_target o.kind ≡ None) ⊎ (place_eq o.place hi ≡ false) → target_at (pre ++ o ∷ post) hi ≡ target_at (pre ++ post) hi
target_gone [] post o hi (inl a) = skip_high (place_eq o.place hi) (high_target o.kind) (target_at post hi) a
target_gone [] post o hi (inr a) = rw a refl
target_gone (x ∷ pre) post o hi a =
    ap (λ (t : Option Target). option_or (cond (place_eq x.place hi) (high_target x.kind) None) t) (target_gone pre post o hi a)

-- the ops of one list do the same over another
abbrev pub SameActs : List Op → List Op → List Op → Type 0
SameActs os ns l = (y : Op) → Has l y → op_act os y.kind ≡ op_act ns y.kind

abbrev SameTargets : List Op → List Op → OpKind → Type 0
SameTargets os ns (op.UseLo i hi) = target_at os hi ≡ target_at ns hi
SameTargets os ns _ = Unit {0}

same_act : (os ns : List Op) (k : OpKind) → SameTargets os ns k → op_act os k ≡ op_act ns k
same_act os ns (op.Plain i) t = refl
same_act os ns (op.Lit ra rb x) t = refl
same_act os ns (op.AddrLda ra rb x) t = refl
same_act os ns (op.AddrHi ra rb x least) t = refl
same_act os ns (op.UseLo i hi) t = ap (use_of i hi) t
same_act os ns (op.UseGp i gp x) t = refl
same_act os ns (op.GpHi ra rb base) t = refl
same_act os ns (op.GpLo ra rb hi) t = refl

same_words : (os ns l : List Op) → SameActs os ns l → map (op_word os) l ≡ map (op_word ns) l
same_words os ns [] s = refl
same_words os ns (y ∷ l) s =
    let a : op_word os y ≡ op_word ns y = ap (λ (x : Act). record { at = y.place; act = x }) (s y (inl refl)) in
    let r = same_words os ns l (λ z h. s z (inr h)) in
    rw (a, r) refl

words_split : (f : Op → Word) (pre post : List Op) (o : Op) (l : List Word) → map f (pre ++ o ∷ post) ++ l ≡ map f pre ++ f o ∷ (map f post ++ l)
words_split f [] post o l = refl
words_split f (x ∷ pre) post o l = ap (λ (z : List Word). f x ∷ z) (words_split f pre post o l)

words_joined : (f : Op → Word) (pre post : List Op) (l : List Word) → map f (pre ++ post) ++ l ≡ map f pre ++ (map f post ++ l)
words_joined f [] post l = refl
words_joined f (x ∷ pre) post l = ap (λ (z : List Word). f x ∷ z) (words_joined f pre post l)

-- ---- the least displacements

-- ops of high halves and their uses of one list are of the other
abbrev pub HalvesIn : List Op → List Op → Type 0
HalvesIn os ns = (y : Op) → Has os y → (NoHalf y.kind → ⊥) → Has ns y

abbrev pub UsesIn : List Op → List Op → Type 0
UsesIn os ns = (y : Op) → Has os y → (NoUseLo y.kind → ⊥) → Has ns y

pub still_least : (b n : Block) → HalvesIn (ops_of n) (ops_of b) → UsesIn (ops_of b) (ops_of n) → HasLeast b → HasLeast n
still_least b n back forth l o ra rb t z h e =
    let r = l o ra rb t z (back o h (λ x. let y : NoHalf (op.AddrHi ra rb t z) = subst (λ (k : OpKind). NoHalf k) e x in y)) e in
    (takes_new r.0, λ y k. r.1 y (takes_old k))
  where
    takes_new : {hi : Place} {z : ℤ} → TakesHigh b hi z → TakesHigh n hi z
    takes_new {hi} {z} u = (u.0, u.1, u.2, forth u.0 u.3 (λ x. let y : NoUseLo (op.UseLo u.1 hi) = subst (λ (k : OpKind). NoUseLo k) u.4 x in y), u.4, u.5)

    takes_old : {hi : Place} {z : ℤ} → TakesHigh n hi z → TakesHigh b hi z
    takes_old {hi} {z} u = (u.0, u.1, u.2, back u.0 u.3 (λ x. let y : NoHalf (op.UseLo u.1 hi) = subst (λ (k : OpKind). NoHalf k) u.4 x in y), u.4, u.5)

-- ---- one op replaced

in_parts : {A : Type 0} (pre post : List A) (o y : A) → Has (pre ++ o ∷ post) y → (o ≡ y) ⊎ ((n : A) → Has (pre ++ n ∷ post) y)
in_parts pre post o y h = by_case (has_append pre (o ∷ post) y h)
  where
    by_case : Has pre y ⊎ Has (o ∷ post) y → (o ≡ y) ⊎ ((n : _) → Has (pre ++ n ∷ post) y)
    by_case (inl m) = inr (λ n. append_left pre (n ∷ post) y m)
    by_case (inr (inl e)) = inl e
    by_case (inr (inr m)) = inr (λ n. append_right pre (n ∷ post) y (inr m))

without : {A : Type 0} (pre post : List A) (o y : A) → Has (pre ++ o ∷ post) y → (o ≡ y) ⊎ Has (pre ++ post) y
without pre post o y h = by_case (has_append pre (o ∷ post) y h)
  where
    by_case : Has pre y ⊎ Has (o ∷ post) y → (o ≡ y) ⊎ Has (pre ++ post) y
    by_case (inl m) = inr (append_left pre post y m)
    by_case (inr (inl e)) = inl e
    by_case (inr (inr m)) = inr (append_right pre post y m)

with_more : {A : Type 0} (pre post : List A) (o y : A) → Has (pre ++ post) y → Has (pre ++ o ∷ post) y
with_more pre post o y h = by_case (has_append pre post y h)
  where
    by_case : Has pre y ⊎ Has post y → Has (pre ++ o ∷ post) y
    by_case (inl m) = append_left pre (o ∷ post) y m
    by_case (inr m) = append_right pre (o ∷ post) y (inr m)

module _ (p : ProgramView) (b n : Block) (pre post : List Op) (o : Op) (was : ops_of b ≡ pre ++ o ∷ post) (label : n.label ≡ b.label) (opening : n.opening ≡ b.opening)
    (end : n.last ≡ b.last) (ordered : Ordered (block_words b)) (forms : (y : Op) → Has (ops_of b) y → OpForm y.kind) (last_form : LastForm b.last) where
  abbrev f : Op → Word
  f = op_word (ops_of b)

  old_words : block_words b ≡ map f pre ++ f o ∷ (map f post ++ last_words b.last)
  old_words = ap (λ (l : List Op). map f l ++ last_words b.last) was ∙ words_split f pre post o (last_words b.last)

  new_words : (l : List Op) → ops_of n ≡ l → SameActs l (ops_of b) l → block_words n ≡ map f l ++ last_words b.last
  new_words l is s =
      ap (λ (z : List Op). map (op_word z) z ++ last_words n.last) is ∙ ap (λ (z : Last). map (op_word l) l ++ last_words z) end
      ∙ ap (λ (z : List Word). z ++ last_words b.last) (same_words l (ops_of b) l s)

  in_order : Ordered (map f pre ++ f o ∷ (map f post ++ last_words b.last))
  in_order = subst (λ (l : List Word). Ordered l) old_words ordered

  module _ (kind : OpKind) (is : ops_of n ≡ pre ++ record { place = o.place; kind = kind } ∷ post) (no_old : NoHalf o.kind) (no_new : NoHalf kind) where
    abbrev made : Op
    made = record { place = o.place; kind = kind }

    targets : (hi : Place) → target_at (pre ++ made ∷ post) hi ≡ target_at (ops_of b) hi
    targets hi = target_set pre post made o hi (no_high kind no_new) (no_high o.kind no_old) ∙ ap (λ (l : List Op). target_at l hi) (sym was)

    acts : (k : OpKind) → SameTargets (pre ++ made ∷ post) (ops_of b) k
    acts (op.Plain i) = tt
    acts (op.Lit ra rb x) = tt
    acts (op.AddrLda ra rb x) = tt
    acts (op.AddrHi ra rb x least) = tt
    acts (op.UseLo i hi) = targets hi
    acts (op.UseGp i gp x) = tt
    acts (op.GpHi ra rb base) = tt
    acts (op.GpLo ra rb hi) = tt

    pub replaced_words : block_words n ≡ each_word (set_at o.place (op_act (ops_of b) kind)) (block_words b)
    replaced_words =
        new_words (pre ++ made ∷ post) is (λ y h. same_act (pre ++ made ∷ post) (ops_of b) y.kind (acts y.kind)) ∙ words_split f pre post made (last_words b.last)
        ∙ sym (set_parts (map f pre) (f o) (map f post ++ last_words b.last) in_order (op_act (ops_of b) kind))
        ∙ ap (each_word (set_at o.place (op_act (ops_of b) kind))) (sym old_words)

    back_in : (y : Op) → Has (ops_of n) y → (made ≡ y) ⊎ Has (ops_of b) y
    back_in y h = by_case (in_parts pre post made y (subst (λ (l : List Op). Has l y) is h))
      where
        by_case : (made ≡ y) ⊎ ((x : Op) → Has (pre ++ x ∷ post) y) → (made ≡ y) ⊎ Has (ops_of b) y
        by_case (inl e) = inl e
        by_case (inr m) = inr (subst (λ (l : List Op). Has l y) (sym was) (m o))

    forth_in : (y : Op) → Has (ops_of b) y → (o ≡ y) ⊎ Has (ops_of n) y
    forth_in y h = by_case (in_parts pre post o y (subst (λ (l : List Op). Has l y) was h))
      where
        by_case : (o ≡ y) ⊎ ((x : Op) → Has (pre ++ x ∷ post) y) → (o ≡ y) ⊎ Has (ops_of n) y
        by_case (inl e) = inl e
        by_case (inr m) = inr (subst (λ (l : List Op). Has l y) (sym is) (m made))

    halves_back : HalvesIn (ops_of n) (ops_of b)
    halves_back y h m = by_case (back_in y h)
      where
        by_case : (made ≡ y) ⊎ Has (ops_of b) y → Has (ops_of b) y
        by_case (inl e) = absurd (m (subst (λ (x : Op). NoHalf x.kind) e no_new))
        by_case (inr k) = k

    uses_forth : UsesIn (ops_of b) (ops_of n)
    uses_forth y h m = by_case (forth_in y h)
      where
        no_use : (k : OpKind) → NoHalf k → NoUseLo k
        no_use (op.Plain i) x = tt
        no_use (op.Lit ra rb t) x = tt
        no_use (op.AddrLda ra rb t) x = tt
        no_use (op.AddrHi ra rb t least) x = tt
        no_use (op.UseLo i hi) x = absurd x
        no_use (op.UseGp i gp t) x = tt
        no_use (op.GpHi ra rb base) x = tt
        no_use (op.GpLo ra rb hi) x = tt

        by_case : (o ≡ y) ⊎ Has (ops_of n) y → Has (ops_of n) y
        by_case (inl e) = absurd (m (subst (λ (x : Op). NoUseLo x.kind) e (no_use o.kind no_old)))
        by_case (inr k) = k

    module _ (form : OpForm kind) (no_lit : NoLit kind)
        (edit : (s : Shape) → Has (lifted_shapes p) s → IsBlockOf p s b → WordEdit p (shape_words s) (block_words b) (set_at o.place (op_act (ops_of b) kind))) where
      ops : (y : Op) → Has (ops_of n) y → OpForm y.kind
      ops y h = by_case (back_in y h)
        where
          by_case : (made ≡ y) ⊎ Has (ops_of b) y → OpForm y.kind
          by_case (inl e) = subst (λ (x : Op). OpForm x.kind) e form
          by_case (inr k) = forms y k

      lits : (y : Op) (ra rb : ℕ) (t : Target) → Has (ops_of n) y → y.kind ≡ op.Lit ra rb t → Has (ops_of b) y
      lits y ra rb t h e = by_case (back_in y h)
        where
          by_case : (made ≡ y) ⊎ Has (ops_of b) y → Has (ops_of b) y
          by_case (inl m) = absurd (subst (λ (k : OpKind). NoLit k) (ap (λ (x : Op). x.kind) m ∙ e) no_lit)
          by_case (inr k) = k

      pub replaced_block : BlockEdit p b n (set_at o.place (op_act (ops_of b) kind))
      replaced_block = record {
        label = label;
        opening = opening;
        words = replaced_words;
        edit = edit;
        falls = λ e. end ∙ e;
        off = λ e. end ∙ e;
        ends = λ e. sym end ∙ e;
        least = still_least b n halves_back uses_forth;
        ops = ops;
        form = subst (λ (l : Last). LastForm l) (sym end) last_form;
        lits = lits;
      }

  module _ (is : ops_of n ≡ pre ++ post) (no_use : NoUseLo o.kind)
      (unnamed : (high_target o.kind ≡ None) ⊎ ((y : Op) (i : Instr) (hi : Place) → Has (ops_of b) y → y.kind ≡ op.UseLo i hi → place_eq o.place hi ≡ false)) where
    back : (y : Op) → Has (ops_of n) y → Has (ops_of b) y
    back y h = subst (λ (l : List Op). Has l y) (sym was) (with_more pre post o y (subst (λ (l : List Op). Has l y) is h))

    left_targets : (y : Op) → Has (ops_of b) y → (k : OpKind) → y.kind ≡ k → SameTargets (pre ++ post) (ops_of b) k
    left_targets y h (op.Plain i) e = tt
    left_targets y h (op.Lit ra rb x) e = tt
    left_targets y h (op.AddrLda ra rb x) e = tt
    left_targets y h (op.AddrHi ra rb x least) e = tt
    left_targets y h (op.UseLo i hi) e = sym (ap (λ (l : List Op). target_at l hi) was ∙ target_gone pre post o hi (by_case unnamed))
      where
        by_case :
            (high_target o.kind ≡ None) ⊎ ((y : Op) (i : Instr) (hi : Place) → Has (ops_of b) y → y.kind ≡ op.UseLo i hi → place_eq o.place hi ≡ false) →
            (high_target o.kind ≡ None) ⊎ (place_eq o.place hi ≡ false)
        by_case (inl a) = inl a
        by_case (inr g) = inr (g y i hi h e)
    left_targets y h (op.UseGp i gp x) e = tt
    left_targets y h (op.GpHi ra rb base) e = tt
    left_targets y h (op.GpLo ra rb hi) e = tt

    pub deleted_words : block_words n ≡ each_word (gone_at o.place) (block_words b)
    deleted_words =
        new_words (pre ++ post) is
        (λ y h. same_act (pre ++ post) (ops_of b) y.kind (left_targets y (back y (subst (λ (l : List Op). Has l y) (sym is) h)) y.kind refl))
        ∙ words_joined f pre post (last_words b.last) ∙ sym (gone_parts (map f pre) (f o) (map f post ++ last_words b.last) in_order)
        ∙ ap (each_word (gone_at o.place)) (sym old_words)

    uses_left : UsesIn (ops_of b) (ops_of n)
    uses_left y h m = by_case (without pre post o y (subst (λ (l : List Op). Has l y) was h))
      where
        by_case : (o ≡ y) ⊎ Has (pre ++ post) y → Has (ops_of n) y
        by_case (inl e) = absurd (m (subst (λ (x : Op). NoUseLo x.kind) e no_use))
        by_case (inr k) = subst (λ (l : List Op). Has l y) (sym is) k

    pub deleted_block :
        ((s : Shape) → Has (lifted_shapes p) s → IsBlockOf p s b → WordEdit p (shape_words s) (block_words b) (gone_at o.place)) → BlockEdit p b n (gone_at o.place)
    deleted_block edit = record {
      label = label;
      opening = opening;
      words = deleted_words;
      edit = edit;
      falls = λ e. end ∙ e;
      off = λ e. end ∙ e;
      ends = λ e. sym end ∙ e;
      least = still_least b n (λ y h m. back y h) uses_left;
      ops = λ y h. forms y (back y h);
      form = subst (λ (l : Last). LastForm l) (sym end) last_form;
      lits = λ y ra rb t h e. back y h;
    }
