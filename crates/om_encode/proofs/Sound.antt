-- What is known of the words of a graph by the program that it is of: what they name is there.
use Rattle.std.proofs.Common.{◌≡◌, inl, inr, ℕ, ◌*◌, ◌/◌, ◌%◌, Bool, true, false, cond, ◌==◌, List, [], ◌∷◌, ◌++◌, Option, Some, None, refl, ap, sym, subst, ◌∙◌, arith}
use Rattle.std.specs.Prelude.{slice_get, option_and_then, option_map, ℤ, count_by}
use Rattle.om_isa.specs.declared.instr.BrOp.TheVariants.{Bsr}
use Rattle.om_isa.specs.declared.instr.MemOp.{MemOp}
use Rattle.om_isa.specs.declared.instr.MemOp.TheVariants.{Lda, Ldah, Ldbu, LdqU, Ldwu, Stw, Stb, StqU, Ldl, Ldq, Stl, Stq}
use Rattle.om_isa.specs.declared.instr.Instr.{Instr}
use Rattle.om_isa.specs.declared.instr.Instr.TheVariants.{Mem, Jump, Branch, Alu, Cmov, Misc, Fnop, Halt, Callsys}
use Rattle.om_value.specs.declared.value.Place.{Place}
use Rattle.om_value.specs.declared.value.Target.{Target}
use Rattle.om_value.specs.declared.value.Target.TheVariants as target
use Rattle.om_prog.specs.declared.item.Item.{Item}
use Rattle.om_prog.specs.declared.item.Role.{Role}
use Rattle.om_prog.specs.declared.item.Role.TheVariants as role
use Rattle.om_prog.specs.Act.{Act, Plain, Lit, GpHi, GpLo, To, AddrLda, AddrHi, UseLo, UseGp, Wrong, Word}
use Rattle.om_prog.specs.View.{ProgramView, item_at, is_word}
use Rattle.om_prog.specs.Script.{act_of}
use Rattle.om_prog.specs.Valid.{IsProgram, fits, is_target, is_high, is_high_role, is_low_of}
use Rattle.om_graph.specs.View.{Shape, GraphView, Has}
use Rattle.om_graph.specs.Run.{words, shape_words}
use Rattle.om_graph.specs.Uses.{Between}
use Rattle.om_graph.specs.OfProgram.{IsGraphOf, IsForm, as_was, near, number, far, by_gp, by_high, byte, called, direct, CallsTo}
use Rattle.om_graph.proofs.Labels.{has_in, equal_places}
use Rattle.om_graph.proofs.LiftedOf.{item_get}
use Rattle.om_graph.proofs.OfProgram.{IsShape, word_from, shape_word, shape_at, block_shape}
use Rattle.om_lockstep.proofs.Small.{and_true}
use Rattle.om_encode.specs.Fields.{IsBaseOf}
use Rattle.om_encode.specs.Written.{pair_base, base_in_role}

-- ---- a word of the program

-- the first half of a pair stands at a place
pub record IsPairAt (p : ProgramView) (hi : Place) : Type 0 where
  pub base : Place
  pub found : pair_base p hi ≡ Some base
  pub first : IsBaseOf p hi base
  pub word : is_word p base ≡ true

-- the base of a load of a number that became LDA is r31
abbrev pub HasBase : ℕ → Target → Type 0
HasBase rb (target.Num n) = rb ≡ 31
HasBase rb t = Unit {0}

abbrev pub Sound : ProgramView → Place → Act → Type 0
Sound p at (Lit ra rb t) = is_target p t ≡ true
Sound p at (GpHi ra rb base) = is_word p base ≡ true
Sound p at (GpLo ra rb hi) = IsPairAt p hi
Sound p at (To op ra q) = is_word p q ≡ true
Sound p at (AddrLda ra rb t) = (is_target p t ≡ true) × HasBase rb t
Sound p at (AddrHi ra rb t) = is_target p t ≡ true
Sound p at (UseLo i hi t) = (is_target p t ≡ true) × (hi.obj ≡ at.obj)
Sound p at (UseGp i gp t) = is_target p t ≡ true
Sound p at _ = Unit {0}

-- no program holds the acts that rewriting makes
abbrev Given : ProgramView → Place → Act → Type 0
Given p at (AddrLda ra rb t) = ⊥
Given p at (AddrHi ra rb t) = ⊥
Given p at (UseLo i hi t) = ⊥
Given p at (UseGp i gp t) = ⊥
Given p at a = Sound p at a

lit_target : (p : ProgramView) (at : Place) (text : List Item) (t : Target) (o : MemOp) (ra rb : ℕ) (d : ℤ) → fits p text at (role.Lit t) (Mem o ra rb d) ≡ true → is_target p t ≡ true
lit_target p at text t Lda ra rb d f = cc
lit_target p at text t Ldah ra rb d f = cc
lit_target p at text t Ldbu ra rb d f = cc
lit_target p at text t LdqU ra rb d f = cc
lit_target p at text t Ldwu ra rb d f = cc
lit_target p at text t Stw ra rb d f = cc
lit_target p at text t Stb ra rb d f = cc
lit_target p at text t StqU ra rb d f = cc
lit_target p at text t Ldl ra rb d f = cc
lit_target p at text t Ldq ra rb d f = f
lit_target p at text t Stl ra rb d f = cc
lit_target p at text t Stq ra rb d f = cc

high_base : (p : ProgramView) (at : Place) (text : List Item) (base : Place) (o : MemOp) (ra rb : ℕ) (d : ℤ) → fits p text at (role.GpHi base) (Mem o ra rb d) ≡ true → is_word p base ≡ true
high_base p at text base Lda ra rb d f = cc
high_base p at text base Ldah ra rb d f = (and_true (is_word p base) (count_by (is_low_of at) text == 1) f).0
high_base p at text base Ldbu ra rb d f = cc
high_base p at text base LdqU ra rb d f = cc
high_base p at text base Ldwu ra rb d f = cc
high_base p at text base Stw ra rb d f = cc
high_base p at text base Stb ra rb d f = cc
high_base p at text base StqU ra rb d f = cc
high_base p at text base Ldl ra rb d f = cc
high_base p at text base Ldq ra rb d f = cc
high_base p at text base Stl ra rb d f = cc
high_base p at text base Stq ra rb d f = cc

low_high : (p : ProgramView) (at : Place) (text : List Item) (hi : Place) (o : MemOp) (ra rb : ℕ) (d : ℤ) → fits p text at (role.GpLo hi) (Mem o ra rb d) ≡ true → is_high (item_at p hi) ≡ true
low_high p at text hi Lda ra rb d f = (and_true (hi.obj == at.obj) (is_high (item_at p hi)) f).1
low_high p at text hi Ldah ra rb d f = cc
low_high p at text hi Ldbu ra rb d f = cc
low_high p at text hi LdqU ra rb d f = cc
low_high p at text hi Ldwu ra rb d f = cc
low_high p at text hi Stw ra rb d f = cc
low_high p at text hi Stb ra rb d f = cc
low_high p at text hi StqU ra rb d f = cc
low_high p at text hi Ldl ra rb d f = cc
low_high p at text hi Ldq ra rb d f = cc
low_high p at text hi Stl ra rb d f = cc
low_high p at text hi Stq ra rb d f = cc

high_act : (p : ProgramView) (at : Place) (text : List Item) (base : Place) (i : Instr) → fits p text at (role.GpHi base) i ≡ true → (ra : ℕ) × (rb : ℕ) × (act_of (role.GpHi base) i ≡ GpHi ra rb base)
high_act p at text base (Mem o ra rb d) f = (ra, rb, refl)
high_act p at text base (Jump k ra rb h) f = cc
high_act p at text base (Branch o ra d) f = cc
high_act p at text base (Alu o ra rb rc) f = cc
high_act p at text base (Cmov k ra rb rc) f = cc
high_act p at text base (Misc o ra rb) f = cc
high_act p at text base Fnop f = cc
high_act p at text base Halt f = cc
high_act p at text base Callsys f = cc

high_is_word : (p : ProgramView) (at : Place) (text : List Item) (base : Place) (i : Instr) → fits p text at (role.GpHi base) i ≡ true → is_word p base ≡ true
high_is_word p at text base (Mem o ra rb d) f = high_base p at text base o ra rb d f
high_is_word p at text base (Jump k ra rb h) f = cc
high_is_word p at text base (Branch o ra d) f = cc
high_is_word p at text base (Alu o ra rb rc) f = cc
high_is_word p at text base (Cmov k ra rb rc) f = cc
high_is_word p at text base (Misc o ra rb) f = cc
high_is_word p at text base Fnop f = cc
high_is_word p at text base Halt f = cc
high_is_word p at text base Callsys f = cc

-- what stands at a place of a program may stand there
stands_at : (p : ProgramView) → IsProgram p → (q : Place) (item : Item) → item_at p q ≡ Some item → (text : List Item) × (fits p text q item.role item.instr ≡ true)
stands_at p prog q item e = by_text (slice_get p.texts q.obj) refl
  where
    by_text : (o : Option (List Item)) → slice_get p.texts q.obj ≡ o → (text : List Item) × (fits p text q item.role item.instr ≡ true)
    by_text None f = absurd (none_there (q.off % 4 == 0) (sym (ap (λ (o : Option (List Item)). cond (q.off % 4 == 0) (option_and_then (λ t. slice_get t (q.off / 4)) o) None) f) ∙ e))
      where
        none_there : (b : Bool) → cond b None None ≡ Some item → ⊥
        none_there true e = cc
        none_there false e = cc
    by_text (Some text) f =
        let g = item_get p q text item f e in
        let a = g.1 in
        let k = (((prog.texts.each q.obj text f).items.each (q.off / 4) item g.0).role) in
        (text, subst (λ (x : Place). fits p text x item.role item.instr ≡ true) (equal_places (record { obj = q.obj; off = 4 * (q.off / 4) }) q refl (omega (arith, a))) k)

pair_at : (p : ProgramView) → IsProgram p → (hi : Place) → is_high (item_at p hi) ≡ true → IsPairAt p hi
pair_at p prog hi h = by_item (item_at p hi) refl h
  where
    by_role : (item : Item) (r : Role) → item.role ≡ r → item_at p hi ≡ Some item → is_high_role r ≡ true → IsPairAt p hi
    by_role item (role.GpHi base) r e h =
        let s = stands_at p prog hi item e in
        let f : fits p s.0 hi (role.GpHi base) item.instr ≡ true = ap (λ (x : Role). fits p s.0 hi x item.instr) (sym r) ∙ s.1 in
        let a = high_act p hi s.0 base item.instr f in
        record {
          base = base;
          found = ap (λ (o : Option Item). option_and_then (λ (i : Item). base_in_role i.role) o) e ∙ ap base_in_role r;
          first = record {
            ra = a.0;
            rb = a.1;
            first =
                ap (λ (o : Option Item). option_map (λ (i : Item). record { at = hi; act = act_of i.role i.instr }) o) e
                ∙ ap (λ (x : Role). Some (record { at = hi; act = act_of x item.instr })) r
                ∙ ap (λ (x : Act). Some (record { at = hi; act = x })) a.2;
          };
          word = high_is_word p hi s.0 base item.instr f;
        }
    by_role item role.Plain r e h = cc
    by_role item (role.Lit t) r e h = cc
    by_role item (role.GpLo q) r e h = cc
    by_role item (role.To q) r e h = cc

    by_item : (o : Option Item) → item_at p hi ≡ o → is_high o ≡ true → IsPairAt p hi
    by_item None e h = cc
    by_item (Some item) e h = by_role item item.role refl e h

given_word : (p : ProgramView) → IsProgram p → (at : Place) (text : List Item) (r : Role) (i : Instr) → fits p text at r i ≡ true → Given p at (act_of r i)
given_word p prog at text role.Plain i f = tt
given_word p prog at text (role.Lit t) (Mem o ra rb d) f = lit_target p at text t o ra rb d f
given_word p prog at text (role.Lit t) (Jump k ra rb h) f = tt
given_word p prog at text (role.Lit t) (Branch o ra d) f = tt
given_word p prog at text (role.Lit t) (Alu o ra rb rc) f = tt
given_word p prog at text (role.Lit t) (Cmov k ra rb rc) f = tt
given_word p prog at text (role.Lit t) (Misc o ra rb) f = tt
given_word p prog at text (role.Lit t) Fnop f = tt
given_word p prog at text (role.Lit t) Halt f = tt
given_word p prog at text (role.Lit t) Callsys f = tt
given_word p prog at text (role.GpHi b) (Mem o ra rb d) f = high_base p at text b o ra rb d f
given_word p prog at text (role.GpHi b) (Jump k ra rb h) f = tt
given_word p prog at text (role.GpHi b) (Branch o ra d) f = tt
given_word p prog at text (role.GpHi b) (Alu o ra rb rc) f = tt
given_word p prog at text (role.GpHi b) (Cmov k ra rb rc) f = tt
given_word p prog at text (role.GpHi b) (Misc o ra rb) f = tt
given_word p prog at text (role.GpHi b) Fnop f = tt
given_word p prog at text (role.GpHi b) Halt f = tt
given_word p prog at text (role.GpHi b) Callsys f = tt
given_word p prog at text (role.GpLo b) (Mem o ra rb d) f = pair_at p prog b (low_high p at text b o ra rb d f)
given_word p prog at text (role.GpLo b) (Jump k ra rb h) f = tt
given_word p prog at text (role.GpLo b) (Branch o ra d) f = tt
given_word p prog at text (role.GpLo b) (Alu o ra rb rc) f = tt
given_word p prog at text (role.GpLo b) (Cmov k ra rb rc) f = tt
given_word p prog at text (role.GpLo b) (Misc o ra rb) f = tt
given_word p prog at text (role.GpLo b) Fnop f = tt
given_word p prog at text (role.GpLo b) Halt f = tt
given_word p prog at text (role.GpLo b) Callsys f = tt
given_word p prog at text (role.To q) (Branch o ra d) f = f
given_word p prog at text (role.To q) (Mem o ra rb d) f = tt
given_word p prog at text (role.To q) (Jump k ra rb h) f = tt
given_word p prog at text (role.To q) (Alu o ra rb rc) f = tt
given_word p prog at text (role.To q) (Cmov k ra rb rc) f = tt
given_word p prog at text (role.To q) (Misc o ra rb) f = tt
given_word p prog at text (role.To q) Fnop f = tt
given_word p prog at text (role.To q) Halt f = tt
given_word p prog at text (role.To q) Callsys f = tt

-- ---- a word of the graph

between_has : (ws : List Word) (a b : Word) (mid : List Word) → Between ws a mid b → Has ws a
between_has ws a b mid s = subst (λ (l : List Word). Has l a) (sym s.2) (in_middle s.0 mid (b ∷ s.1))
  where
    in_middle : (xs ys zs : List Word) → Has (xs ++ a ∷ ys ++ zs) a
    in_middle [] ys zs = inl refl
    in_middle (x ∷ xs) ys zs = inr (in_middle xs ys zs)

record Knows (p : ProgramView) (obj : ℕ) (w : Word) : Type 0 where
  object : w.at.obj ≡ obj
  given : Given p w.at w.act

module _ (p : ProgramView) (ws : List Word) (obj : ℕ) (knows : (w : Word) → Has ws w → Knows p obj w) (w : Word) (has : Has ws w) where
  given_as : (v : Word) → Has ws v → (a : Act) → v.act ≡ a → Given p v.at a
  given_as v h a e = subst (Given p v.at) e (knows v h).given

  as_is : (a : Act) → Given p w.at a → Sound p w.at a
  as_is (Plain i) g = tt
  as_is (Lit ra rb t) g = g
  as_is (GpHi ra rb base) g = g
  as_is (GpLo ra rb first) g = g
  as_is (To op ra q) g = g
  as_is (AddrLda ra rb t) g = absurd g
  as_is (AddrHi ra rb t) g = absurd g
  as_is (UseLo i hi t) g = absurd g
  as_is (UseGp i gp t) g = absurd g
  as_is Wrong g = tt

  lands : (q to : Place) → CallsTo p q to → is_word p q ≡ true → is_word p to ≡ true
  lands q to (inl e) h = ap (is_word p) e ∙ h
  lands q to (inr (e, m)) h = ap (is_word p) e ∙ m.more

  by_form : (a : Act) → IsForm p ws w a → Sound p w.at a
  by_form a (as_was e) = subst (Sound p w.at) (sym e) (as_is w.act (knows w has).given)
  by_form a (near ra rb x r f e) = subst (Sound p w.at) (sym e) (given_as w has (Lit ra rb (target.Ptr r x)) f, tt)
  by_form a (number ra rb n f e) = subst (Sound p w.at) (sym e) (refl, refl)
  by_form a (far ra rb x r f e) = subst (Sound p w.at) (sym e) (given_as w has (Lit ra rb (target.Ptr r x)) f)
  by_form a (by_gp load r rb x region i z local lf wf base e) =
      subst (Sound p w.at) (sym e) (given_as load (between_has ws load w local.mid local.stands) (Lit r rb (target.Ptr region x)) lf)
  by_form a (by_high load r rb x region i z local lf wf base e) =
      let h = between_has ws load w local.mid local.stands in
      subst (Sound p w.at) (sym e) (given_as load h (Lit r rb (target.Ptr region x)) lf, (knows load h).object ∙ sym (knows w has).object)
  by_form a (byte load r rb x region i local lf wf base e) = subst (Sound p w.at) (sym e) tt
  by_form a (called ra q to f c e) = subst (Sound p w.at) (sym e) (lands q to c (given_as w has (To Bsr ra q) f))
  by_form a (direct ra q to k c e) =
      subst (Sound p w.at) (sym e)
      (lands q to c (given_as k.load (between_has ws k.load w k.local.mid k.local.stands) (Lit k.rb k.base (target.Code q)) k.loads))

module _ (p : ProgramView) (prog : IsProgram p) (g : GraphView) (of : IsGraphOf p g) where
  knows_of : (s : Shape) (i : IsShape p s) (w : Word) → Has (shape_words s) w → Knows p i.piece.from.obj w
  knows_of s i w h =
      let k = shape_word p prog s i w h in
      record {
        object = k.object;
        given = subst (λ (x : Word). Given p w.at x.act) k.word (given_word p prog w.at k.stands.0 k.item.role k.item.instr k.stands.1);
      }

  pub sound : (u : Word) → Has (words g) u → Sound p u.at u.act
  sound u h =
      let i = has_in g.blocks u h in
      let s = shape_at p prog g of i.block i.among in
      let sh = block_shape p prog g of i.block i.among in
      let r = word_from p prog g of i.block i.among u i.word in
      subst (λ (q : Place). Sound p q u.act) (sym r.place)
      (by_form p (shape_words s) sh.piece.from.obj (knows_of s sh) r.word r.among u.act r.form)
