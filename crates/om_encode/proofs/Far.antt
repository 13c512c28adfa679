-- A load that became LDAH is found by its place.
use Rattle.std.proofs.Common.{◌≡◌, inl, inr, Bool, true, false, cond, List, [], ◌∷◌, ◌++◌, Option, Some, None, refl, ap, sym, subst, ◌∙◌, arith, append_assoc}
use Rattle.std.specs.Prelude.{map, ℤ}
use Rattle.std.specs.Option.{option_or}
use Rattle.om_value.specs.declared.value.Place.{Place}
use Rattle.om_value.specs.declared.value.Target.{Target}
use Rattle.om_value.specs.Same.{place_eq}
use Rattle.om_prog.specs.Act.{Word}
use Rattle.om_graph.specs.declared.op.Op.{Op}
use Rattle.om_graph.specs.View.{Block, GraphView, Has, ops_of}
use Rattle.om_graph.specs.Run.{block_words, all_words, words, op_word, last_words}
use Rattle.om_graph.specs.Form.{After, Ordered}
use Rattle.om_graph.proofs.Labels.{append_left, append_right, in_all, same_place, self_eq}
use Rattle.om_graph.proofs.OfProgram.{to_map}
use Rattle.om_encode.specs.Halves.{FarLoad, far_kind, far_op, far_in, far_of}
use Rattle.om_encode.specs.Fields.{IsFar}

differ : {b : Bool} → b ≡ true → b ≡ false → ⊥
differ e f = cc

-- a word after another has another place
pub after_apart : (ws : List Word) (w x : Word) → After w ws → Has ws x → x.at ≡ w.at → ⊥
after_apart [] w x a h e = h
after_apart (y ∷ ys) w x a (inl s) e =
    let o = ap (λ (z : Word). z.at.obj) s ∙ ap (λ (q : Place). q.obj) e in
    let f = ap (λ (z : Word). z.at.off) s ∙ ap (λ (q : Place). q.off) e in
    let b = a.0 o in
    omega (arith, b, f)
after_apart (y ∷ ys) w x a (inr h) e = after_apart ys w x a.1 h e

halves_apart : (xs ys : List Word) (x y : Word) → Ordered (xs ++ ys) → Has xs x → Has ys y → y.at ≡ x.at → ⊥
halves_apart [] ys x y o h k e = h
halves_apart (z ∷ zs) ys x y o (inl s) k e = after_apart (zs ++ ys) z y o.0 (append_right zs ys y k) (e ∙ sym (ap (λ (w : Word). w.at) s))
halves_apart (z ∷ zs) ys x y o (inr h) k e = halves_apart zs ys x y o.1 h k e

ordered_right : (xs ys : List Word) → Ordered (xs ++ ys) → Ordered ys
ordered_right [] ys o = o
ordered_right (x ∷ xs) ys o = ordered_right xs ys o.1

-- no op at the place
none_there : (os : List Op) (at : Place) → ((o : Op) → Has os o → o.place ≡ at → ⊥) → far_in os at ≡ None
none_there [] at f = refl
none_there (o ∷ os) at f = by_test (place_eq o.place at) refl (none_there os at (λ x h. f x (inr h)))
  where
    by_test : (b : Bool) → place_eq o.place at ≡ b → far_in os at ≡ None → option_or (cond b (far_kind o.kind) None) (far_in os at) ≡ None
    by_test true t e = absurd (f o (inl refl) (same_place o.place at t))
    by_test false t e = e

here_first : (o : Op) (rest : Option FarLoad) (f : FarLoad) → far_kind o.kind ≡ Some f → option_or (far_op o.place o) rest ≡ Some f
here_first o rest f e = let t = self_eq o.place in rw (t, e) refl

found_in : (ops os : List Op) (rest : List Word) (o : Op) (f : FarLoad) → Ordered (map (op_word ops) os ++ rest) → Has os o → far_kind o.kind ≡ Some f → far_in os o.place ≡ Some f
found_in ops [] rest o f ord h e = absurd h
found_in ops (x ∷ os) rest o f ord (inl s) e =
    subst (λ (y : Op). option_or (far_op y.place x) (far_in os y.place) ≡ Some f) s
    (here_first x (far_in os x.place) f (ap (λ (y : Op). far_kind y.kind) s ∙ e))
found_in ops (x ∷ os) rest o f ord (inr h) e = by_test (place_eq x.place o.place) refl (found_in ops os rest o f ord.1 h e)
  where
    by_test : (b : Bool) → place_eq x.place o.place ≡ b → far_in os o.place ≡ Some f → option_or (cond b (far_kind x.kind) None) (far_in os o.place) ≡ Some f
    by_test true t i =
        absurd (after_apart (map (op_word ops) os ++ rest) (op_word ops x) (op_word ops o) ord.0
        (append_left (map (op_word ops) os) rest (op_word ops o) (to_map (op_word ops) os o h))
        (sym (same_place x.place o.place t)))
    by_test false t i = i

found_of : (bs : List Block) (b : Block) (o : Op) (f : FarLoad) → Ordered (all_words bs) → Has bs b → Has (ops_of b) o → far_kind o.kind ≡ Some f → far_of bs o.place ≡ Some f
found_of [] b o f ord h k e = absurd h
found_of (c ∷ cs) b o f ord (inl s) k e =
    let there : Has (ops_of c) o = subst (λ (y : Block). Has (ops_of y) o) (sym s) k in
    let split : Ordered (map (op_word (ops_of c)) (ops_of c) ++ (last_words c.last ++ all_words cs)) = subst Ordered (append_assoc (map (op_word (ops_of c)) (ops_of c)) (last_words c.last) (all_words cs)) ord in
    let i = found_in (ops_of c) (ops_of c) (last_words c.last ++ all_words cs) o f split there e in
    rw i refl
found_of (c ∷ cs) b o f ord (inr h) k e =
    let i = found_of cs b o f (ordered_right (block_words c) (all_words cs) ord) h k e in
    let word : Has (all_words cs) (op_word (ops_of b) o) = in_all cs b (op_word (ops_of b) o) h (append_left _ (last_words b.last) (op_word (ops_of b) o) (to_map (op_word (ops_of b)) (ops_of b) o k)) in
    let n = none_there (ops_of c) o.place
    (λ x m same. halves_apart (block_words c) (all_words cs) (op_word (ops_of c) x) (op_word (ops_of b) o) ord (append_left _ (last_words c.last) (op_word (ops_of c) x) (to_map (op_word (ops_of c)) (ops_of c) x m)) word (sym same)) in
    rw n i

pub far_found : (g : GraphView) (at : Place) (t : Target) (least : ℤ) → Ordered (words g) → IsFar g at t least → far_of g.blocks at ≡ Some (t, least)
far_found g at t least ord far =
    subst (λ (q : Place). far_of g.blocks q ≡ Some (t, least)) far.place
    (found_of g.blocks far.block far.op (t, least) ord far.among far.has (ap far_kind far.kind))
