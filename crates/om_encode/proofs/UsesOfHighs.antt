-- Where a load or store is over the half of a load that became LDAH, its register has that half: the last such load into the
-- register before it in its block is the one that it names.
use Rattle.std.proofs.Common.{◌≡◌, inl, inr, ℕ, Bool, true, false, cond, ◌==◌, List, [], ◌∷◌, ◌++◌, Option, Some, None, refl, ap, sym, subst, ◌∙◌, append_assoc}
use Rattle.std.specs.Prelude.{map, ℤ}
use Rattle.std.specs.Option.{option_or}
use Rattle.std.proofs.lemmas.Bool.{eqb-true, eq-eqb}
use Rattle.om_value.specs.declared.value.Target.{Target}
use Rattle.om_prog.specs.Act.{Word, act_writes}
use Rattle.om_prog.specs.Flow.{Among}
use Rattle.om_graph.specs.declared.op.Op.{Op}
use Rattle.om_graph.specs.declared.op.OpKind.{OpKind}
use Rattle.om_graph.specs.declared.op.OpKind.TheVariants as op
use Rattle.om_graph.specs.View.{Block, Has, ops_of}
use Rattle.om_graph.specs.Run.{block_words, op_word, op_act, last_words}
use Rattle.om_graph.specs.Form.{Ordered}
use Rattle.om_graph.specs.Uses.{Between, NoneWrites, IsLocalUse}
use Rattle.om_graph.proofs.Labels.{append_left}
use Rattle.om_graph.proofs.OfProgram.{to_map}
use Rattle.om_encode.specs.declared.highs.High.{High}
use Rattle.om_encode.specs.Written.{high_in, last_high}
use Rattle.om_encode.proofs.Far.{after_apart}
use Rattle.om_encode.proofs.Walks.{mid_has}

-- ---- words in order have places of their own

pub same_at : (ws : List Word) → Ordered ws → (v w : Word) → Has ws v → Has ws w → v.at ≡ w.at → v ≡ w
same_at [] o v w h k e = absurd h
same_at (x ∷ xs) o v w (inl s) (inl t) e = sym s ∙ t
same_at (x ∷ xs) o v w (inl s) (inr k) e = absurd (after_apart xs x w o.0 k (sym e ∙ sym (ap (λ (y : Word). y.at) s)))
same_at (x ∷ xs) o v w (inr h) (inl t) e = absurd (after_apart xs x v o.0 h (e ∙ sym (ap (λ (y : Word). y.at) t)))
same_at (x ∷ xs) o v w (inr h) (inr k) e = same_at xs o.1 v w h k e

-- what stands before a place is one list
before_same : (xs : List Word) (u : Word) (ys pre : List Word) (v : Word) (bs : List Word) → Ordered (xs ++ u ∷ ys) → xs ++ u ∷ ys ≡ pre ++ v ∷ bs → u.at ≡ v.at → xs ≡ pre
before_same [] u ys [] v bs o e s = refl
before_same [] u ys (a ∷ pre) v bs o e s =
    let t : ys ≡ pre ++ v ∷ bs = cc in
    absurd (after_apart ys u v o.0 (subst (λ (l : List Word). Has l v) (sym t) (mid_has pre v bs)) (sym s))
before_same (x ∷ xs) u ys [] v bs o e s =
    let t : x ≡ v = cc in
    absurd (after_apart (xs ++ u ∷ ys) x u o.0 (mid_has xs u ys) (s ∙ sym (ap (λ (y : Word). y.at) t)))
before_same (x ∷ xs) u ys (a ∷ pre) v bs o e s =
    let t : x ≡ a = cc in
    let r : xs ++ u ∷ ys ≡ pre ++ v ∷ bs = cc in
    let i = before_same xs u ys pre v bs o.1 r s in
    ap (λ (l : List Word). x ∷ l) i ∙ ap (λ (y : Word). y ∷ pre) t

-- ---- parts of a list that a function made

pub record Parts {A B : Type 0} (f : A → B) (xs : List A) (pre : List B) (y : B) (bs : List B) : Type 0 where
  pub before : List A
  pub this : A
  pub after : List A
  pub split : xs ≡ before ++ this ∷ after
  pub befores : map f before ≡ pre
  pub is : f this ≡ y
  pub afters : map f after ≡ bs

pub map_parts : {A B : Type 0} (f : A → B) (xs : List A) (pre : List B) (y : B) (bs : List B) → map f xs ≡ pre ++ y ∷ bs → Parts f xs pre y bs
map_parts f [] [] y bs e = cc
map_parts f [] (a ∷ pre) y bs e = cc
map_parts f (x ∷ xs) [] y bs e = record { before = []; this = x; after = xs; split = refl; befores = refl; is = head e; afters = tail e }
  where
    head : f x ∷ map f xs ≡ y ∷ bs → f x ≡ y
    head e = cc

    tail : f x ∷ map f xs ≡ y ∷ bs → map f xs ≡ bs
    tail e = cc
map_parts f (x ∷ xs) (a ∷ pre) y bs e =
    let r = map_parts f xs pre y bs (tail e) in
    record {
      before = x ∷ r.before;
      this = r.this;
      after = r.after;
      split = ap (λ (l : List _). x ∷ l) r.split;
      befores = ap (λ (l : List _). f x ∷ l) r.befores ∙ ap (λ (z : _). z ∷ pre) (head e);
      is = r.is;
      afters = r.afters;
    }
  where
    head : f x ∷ map f xs ≡ a ∷ (pre ++ y ∷ bs) → f x ≡ a
    head e = cc

    tail : f x ∷ map f xs ≡ a ∷ (pre ++ y ∷ bs) → map f xs ≡ pre ++ y ∷ bs
    tail e = cc

pub map_append : {A B : Type 0} (f : A → B) (xs ys : List A) → map f (xs ++ ys) ≡ map f xs ++ map f ys
map_append f [] ys = refl
map_append f (x ∷ xs) ys = ap (λ (l : List _). f x ∷ l) (map_append f xs ys)

-- ---- the last high half

or_assoc : {A : Type 0} (a b c : Option A) → option_or (option_or a b) c ≡ option_or a (option_or b c)
or_assoc None b c = refl
or_assoc (Some x) b c = refl

last_append : (r : ℕ) (xs ys : List Op) → last_high r (xs ++ ys) ≡ option_or (last_high r ys) (last_high r xs)
last_append r [] ys = none_right (last_high r ys)
  where
    none_right : (o : Option High) → o ≡ option_or o None
    none_right None = refl
    none_right (Some x) = refl
last_append r (x ∷ xs) ys =
    ap (λ (o : Option High). option_or o (high_in r x.kind)) (last_append r xs ys)
    ∙ or_assoc (last_high r ys) (last_high r xs) (high_in r x.kind)

pub last_more : (r : ℕ) (xs : List Op) (o : Op) → last_high r (xs ++ o ∷ []) ≡ option_or (high_in r o.kind) (last_high r xs)
last_more r xs o = last_append r xs (o ∷ [])

-- an op that does not write the register leaves its half
no_high : (ops : List Op) (r : ℕ) (k : OpKind) → (Among (act_writes (op_act ops k)) r → ⊥) → high_in r k ≡ None
no_high ops r (op.AddrHi ra rb t least) n = by_test (ra == r) refl
  where
    by_test : (b : Bool) → (ra == r) ≡ b → cond {A = Option High} b (Some (record { target = t; least = least })) None ≡ None
    by_test true e = absurd (n (inl (eqb-true ra r e)))
    by_test false e = refl
no_high ops r (op.Plain i) n = refl
no_high ops r (op.Lit ra rb t) n = refl
no_high ops r (op.AddrLda ra rb t) n = refl
no_high ops r (op.UseLo i hi) n = refl
no_high ops r (op.UseGp i gp t) n = refl
no_high ops r (op.GpHi ra rb b) n = refl
no_high ops r (op.GpLo ra rb b) n = refl

none_last : (ops : List Op) (r : ℕ) (xs : List Op) → NoneWrites r (map (op_word ops) xs) → last_high r xs ≡ None
none_last ops r [] n = refl
none_last ops r (x ∷ xs) n =
    let a = none_last ops r xs (λ w h. n w (inr h)) in
    let b = no_high ops r x.kind (n (op_word ops x) (inl refl)) in
    rw (a, b) refl

pub here_high : (r rb : ℕ) (t : Target) (least : ℤ) → high_in r (op.AddrHi r rb t least) ≡ Some (record { target = t; least = least })
here_high r rb t least = let e = eq-eqb r r refl in rw e refl

-- of ops whose words are in order, a place has one
same_op : (ops os : List Op) (rest : List Word) → Ordered (map (op_word ops) os ++ rest) → (x y : Op) → Has os x → Has os y → x.place ≡ y.place → x ≡ y
same_op ops [] rest ord x y h k e = absurd h
same_op ops (z ∷ os) rest ord x y (inl s) (inl t) e = sym s ∙ t
same_op ops (z ∷ os) rest ord x y (inl s) (inr k) e =
    absurd (after_apart (map (op_word ops) os ++ rest) (op_word ops z) (op_word ops y) ord.0
    (append_left (map (op_word ops) os) rest (op_word ops y) (to_map (op_word ops) os y k)) (sym e ∙ sym (ap (λ (u : Op). u.place) s)))
same_op ops (z ∷ os) rest ord x y (inr h) (inl t) e =
    absurd (after_apart (map (op_word ops) os ++ rest) (op_word ops z) (op_word ops x) ord.0
    (append_left (map (op_word ops) os) rest (op_word ops x) (to_map (op_word ops) os x h)) (e ∙ sym (ap (λ (u : Op). u.place) t)))
same_op ops (z ∷ os) rest ord x y (inr h) (inr k) e = same_op ops os rest ord.1 x y h k e

module _ (b : Block) (ordered : Ordered (block_words b)) (done : List Op) (o : Op) (rest : List Op) (split : ops_of b ≡ done ++ o ∷ rest) where
  abbrev ow : Op → Word
  ow x = op_word (ops_of b) x

  abbrev after_this : List Word
  after_this = map ow rest ++ last_words b.last

  words_split : block_words b ≡ map ow done ++ ow o ∷ after_this
  words_split =
      ap (λ (os : List Op). map ow os ++ last_words b.last) split
      ∙ ap (λ (ws : List Word). ws ++ last_words b.last) (map_append ow done (o ∷ rest))
      ∙ append_assoc (map ow done) (ow o ∷ map ow rest) (last_words b.last)

  in_order : Ordered (map ow done ++ ow o ∷ after_this)
  in_order = subst (λ (ws : List Word). Ordered ws) words_split ordered

  pub has_op : (x : Op) → Has (ops_of b) x → Has (block_words b) (ow x)
  has_op x h = append_left (map ow (ops_of b)) (last_words b.last) (ow x) (to_map ow (ops_of b) x h)

  -- the load by which such a use goes is noted last
  pub half_noted :
      (def user : Word) (ra rb : ℕ) (t : Target) (least : ℤ) → IsLocalUse (block_words b) def user ra → user.at ≡ o.place →
      Has (ops_of b) (record { place = def.at; kind = op.AddrHi ra rb t least }) → last_high ra done ≡ Some (record { target = t; least = least })
  half_noted def user ra rb t least local at load = by_parts (map_parts ow done s.0 def local.mid front)
    where
      s : Between (block_words b) def local.mid user
      s = local.stands

      front : map ow done ≡ s.0 ++ def ∷ local.mid
      front = before_same (map ow done) (ow o) after_this (s.0 ++ def ∷ local.mid) user s.1 in_order (sym words_split ∙ s.2) (sym at)

      by_parts : Parts ow done s.0 def local.mid → last_high ra done ≡ Some (record { target = t; least = least })
      by_parts q =
          let h : Op = record { place = def.at; kind = op.AddrHi ra rb t least } in
          let among : Has (ops_of b) q.this =
          subst (λ (l : List Op). Has l q.this) (sym split)
          (append_left done (o ∷ rest) q.this (subst (λ (l : List Op). Has l q.this) (sym q.split) (mid_has q.before q.this q.after))) in
          let place : q.this.place ≡ def.at = ap (λ (w : Word). w.at) q.is in
          let none : last_high ra q.after ≡ None =
          none_last (ops_of b) ra q.after (subst (λ (l : List Word). NoneWrites ra l) (sym q.afters) local.unwritten) in
          let one : q.this ≡ h = same_op (ops_of b) (ops_of b) (last_words b.last) ordered q.this h among load place in
          let here : high_in ra q.this.kind ≡ Some (record { target = t; least = least }) =
          ap (λ (x : Op). high_in ra x.kind) one ∙ here_high ra rb t least in
          ap (last_high ra) q.split
          ∙ last_append ra q.before (q.this ∷ q.after)
          ∙ ap (λ (x : Option High). option_or (option_or x (high_in ra q.this.kind)) (last_high ra q.before)) none
          ∙ ap (λ (x : Option High). option_or x (last_high ra q.before)) here
