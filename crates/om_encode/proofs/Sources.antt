-- What is known of the words of a graph, as they come from a program's words.
use Rattle.std.proofs.Common.{◌≡◌, inl, inr, ℕ, zero, suc, ◌/◌, ◌%◌, Bool, true, false, cond, ◌==◌, List, [], ◌∷◌, ◌++◌, Option, Some, None, refl, ap, sym, subst, ◌∙◌, arith}
use Rattle.std.specs.Prelude.{slice_get, option_and_then, option_map, All, ℤ}
use Rattle.std.proofs.lemmas.Bool.{eqb-true}
use Rattle.om_isa.specs.declared.instr.MemOp.{MemOp}
use Rattle.om_isa.specs.declared.instr.MemOp.TheVariants.{Lda, Ldah, Ldbu, LdqU, Ldwu, Stw, Stb, StqU, Ldl, Ldq, Stl, Stq}
use Rattle.om_isa.specs.declared.instr.Instr.{Instr}
use Rattle.om_isa.specs.declared.instr.Instr.TheVariants.{Mem, Jump, Branch, Alu, Cmov, Misc, Fnop, Halt, Callsys}
use Rattle.om_value.specs.declared.value.Place.{Place}
use Rattle.om_value.specs.declared.value.Target.{Target}
use Rattle.om_value.specs.declared.value.Target.TheVariants as target
use Rattle.om_prog.specs.declared.item.Item.{Item}
use Rattle.om_prog.specs.declared.item.Role.{Role}
use Rattle.om_prog.specs.declared.item.Role.TheVariants as role
use Rattle.om_prog.specs.Act.{Act, Plain, Lit, GpHi, GpLo, To, AddrLda, AddrHi, UseLo, UseGp, Wrong, Word}
use Rattle.om_prog.specs.View.{ProgramView, item_at}
use Rattle.om_prog.specs.Script.{act_of, program_fetch}
use Rattle.om_prog.specs.Valid.{IsProgram, fits, is_high}
use Rattle.om_graph.specs.View.{Shape, GraphView, Has}
use Rattle.om_graph.specs.Run.{words, shape_words}
use Rattle.om_graph.specs.Uses.{Between}
use Rattle.om_graph.specs.OfProgram.{IsGraphOf, IsForm, as_was, near, number, far, by_gp, by_high, byte, called, direct}
use Rattle.om_graph.proofs.Labels.{has_in}
use Rattle.om_graph.proofs.LiftedWords.{item_word}
use Rattle.om_graph.proofs.OfProgram.{IsShape, word_from, shape_word, shape_at, block_shape}
use Rattle.om_lockstep.specs.Addresses.{IsTarget}
use Rattle.om_lockstep.proofs.Small.{and_true}
use Rattle.om_encode.specs.Data.{HasWidths, RoleFits}

-- ---- a word of the program

pub all_at : {A : Type 0} (P : A → Type 0) (xs : List A) (k : ℕ) (x : A) → All P xs → slice_get xs k ≡ Some x → P x
all_at P [] k x h e = cc
all_at P (y ∷ ys) zero x h e = let s : y ≡ x = cc in subst P s (h 0 y (omega arith))
all_at P (y ∷ ys) (suc k) x h e = all_at P ys k x (λ j d lt. h (suc j) d (omega (arith, lt))) e

item_fits : (p : ProgramView) → HasWidths p → (q : Place) (item : Item) → item_at p q ≡ Some item → RoleFits item.role
item_fits p widths q item e = by_off (q.off % 4 == 0) e
  where
    by_text : (o : Option (List Item)) → slice_get p.texts q.obj ≡ o → option_and_then (λ (t : List Item). slice_get t (q.off / 4)) o ≡ Some item → RoleFits item.role
    by_text None f e = cc
    by_text (Some text) f e = all_at (λ i. RoleFits i.role) text (q.off / 4) item (all_at (λ t. All (λ i. RoleFits i.role) t) p.texts q.obj text widths.targets f) e

    by_off : (b : Bool) → cond b (option_and_then (λ (t : List Item). slice_get t (q.off / 4)) (slice_get p.texts q.obj)) None ≡ Some item → RoleFits item.role
    by_off true e = by_text (slice_get p.texts q.obj) refl e
    by_off false e = cc

-- what is known of a word of a program by its act; no program holds the acts that rewriting makes
abbrev pub Given : ProgramView → Place → Act → Type 0
Given p at (Lit ra rb t) = IsTarget t
Given p at (GpLo ra rb first) = first.obj ≡ at.obj
Given p at (AddrLda ra rb t) = ⊥
Given p at (AddrHi ra rb t) = ⊥
Given p at (UseLo i hi t) = ⊥
Given p at (UseGp i gp t) = ⊥
Given p at _ = Unit {0}

lo_same : (p : ProgramView) (at : Place) (text : List Item) (hi : Place) (o : MemOp) (ra rb : ℕ) (d : ℤ) → fits p text at (role.GpLo hi) (Mem o ra rb d) ≡ true → hi.obj ≡ at.obj
lo_same p at text hi Lda ra rb d f = eqb-true hi.obj at.obj (and_true (hi.obj == at.obj) (is_high (item_at p hi)) f).0
lo_same p at text hi Ldah ra rb d f = cc
lo_same p at text hi Ldbu ra rb d f = cc
lo_same p at text hi LdqU ra rb d f = cc
lo_same p at text hi Ldwu ra rb d f = cc
lo_same p at text hi Stw ra rb d f = cc
lo_same p at text hi Stb ra rb d f = cc
lo_same p at text hi StqU ra rb d f = cc
lo_same p at text hi Ldl ra rb d f = cc
lo_same p at text hi Ldq ra rb d f = cc
lo_same p at text hi Stl ra rb d f = cc
lo_same p at text hi Stq ra rb d f = cc

given_word : (p : ProgramView) (at : Place) (text : List Item) (r : Role) (i : Instr) → RoleFits r → fits p text at r i ≡ true → Given p at (act_of r i)
given_word p at text role.Plain i w f = tt
given_word p at text (role.Lit t) (Mem o ra rb d) w f = w
given_word p at text (role.Lit t) (Jump k ra rb h) w f = tt
given_word p at text (role.Lit t) (Branch o ra d) w f = tt
given_word p at text (role.Lit t) (Alu o ra rb rc) w f = tt
given_word p at text (role.Lit t) (Cmov k ra rb rc) w f = tt
given_word p at text (role.Lit t) (Misc o ra rb) w f = tt
given_word p at text (role.Lit t) Fnop w f = tt
given_word p at text (role.Lit t) Halt w f = tt
given_word p at text (role.Lit t) Callsys w f = tt
given_word p at text (role.GpHi b) (Mem o ra rb d) w f = tt
given_word p at text (role.GpHi b) (Jump k ra rb h) w f = tt
given_word p at text (role.GpHi b) (Branch o ra d) w f = tt
given_word p at text (role.GpHi b) (Alu o ra rb rc) w f = tt
given_word p at text (role.GpHi b) (Cmov k ra rb rc) w f = tt
given_word p at text (role.GpHi b) (Misc o ra rb) w f = tt
given_word p at text (role.GpHi b) Fnop w f = tt
given_word p at text (role.GpHi b) Halt w f = tt
given_word p at text (role.GpHi b) Callsys w f = tt
given_word p at text (role.GpLo b) (Mem o ra rb d) w f = lo_same p at text b o ra rb d f
given_word p at text (role.GpLo b) (Jump k ra rb h) w f = tt
given_word p at text (role.GpLo b) (Branch o ra d) w f = tt
given_word p at text (role.GpLo b) (Alu o ra rb rc) w f = tt
given_word p at text (role.GpLo b) (Cmov k ra rb rc) w f = tt
given_word p at text (role.GpLo b) (Misc o ra rb) w f = tt
given_word p at text (role.GpLo b) Fnop w f = tt
given_word p at text (role.GpLo b) Halt w f = tt
given_word p at text (role.GpLo b) Callsys w f = tt
given_word p at text (role.To q) (Mem o ra rb d) w f = tt
given_word p at text (role.To q) (Jump k ra rb h) w f = tt
given_word p at text (role.To q) (Branch o ra d) w f = tt
given_word p at text (role.To q) (Alu o ra rb rc) w f = tt
given_word p at text (role.To q) (Cmov k ra rb rc) w f = tt
given_word p at text (role.To q) (Misc o ra rb) w f = tt
given_word p at text (role.To q) Fnop w f = tt
given_word p at text (role.To q) Halt w f = tt
given_word p at text (role.To q) Callsys w f = tt

-- ---- a word of the graph

-- the word of the program at a place loads the address of a target
pub record IsLoad (p : ProgramView) (at : Place) (t : Target) : Type 0 where
  pub ra : ℕ
  pub rb : ℕ
  pub fetch : program_fetch p at ≡ Some (record { at = at; act = Lit ra rb t })
  pub target : IsTarget t

abbrev pub Formed : ProgramView → Place → Act → Type 0
Formed p at (Lit ra rb t) = IsTarget t
Formed p at (GpHi ra rb base) = program_fetch p at ≡ Some (record { at = at; act = GpHi ra rb base })
Formed p at (GpLo ra rb first) = first.obj ≡ at.obj
Formed p at (AddrLda ra rb t) = IsTarget t
Formed p at (AddrHi ra rb t) = IsLoad p at t
Formed p at (UseLo i hi t) = (hi.obj ≡ at.obj) × IsLoad p hi t
Formed p at (UseGp i gp t) = IsTarget t
Formed p at _ = Unit {0}

between_has : (ws : List Word) (a b : Word) (mid : List Word) → Between ws a mid b → Has ws a
between_has ws a b mid s = subst (λ (l : List Word). Has l a) (sym s.2) (in_middle s.0 mid (b ∷ s.1))
  where
    in_middle : (xs ys zs : List Word) → Has (xs ++ a ∷ ys ++ zs) a
    in_middle [] ys zs = inl refl
    in_middle (x ∷ xs) ys zs = inr (in_middle xs ys zs)

-- what is known of the words of a block of the program
record Knows (p : ProgramView) (obj : ℕ) (w : Word) : Type 0 where
  object : w.at.obj ≡ obj
  fetch : program_fetch p w.at ≡ Some w
  given : Given p w.at w.act

module _ (p : ProgramView) (ws : List Word) (obj : ℕ) (knows : (w : Word) → Has ws w → Knows p obj w) (w : Word) (has : Has ws w) where
  given_as : (v : Word) → Has ws v → (a : Act) → v.act ≡ a → Given p v.at a
  given_as v h a e = subst (Given p v.at) e (knows v h).given

  load_is : (v : Word) → Has ws v → (ra rb : ℕ) (t : Target) → v.act ≡ Lit ra rb t → IsLoad p v.at t
  load_is v h ra rb t e = record {
    ra = ra;
    rb = rb;
    fetch = (knows v h).fetch ∙ ap (λ a. Some (record { at = v.at; act = a })) e;
    target = given_as v h (Lit ra rb t) e;
  }

  as_is : (a : Act) → w.act ≡ a → Given p w.at a → Formed p w.at a
  as_is (Plain i) e g = tt
  as_is (Lit ra rb t) e g = g
  as_is (GpHi ra rb base) e g = (knows w has).fetch ∙ ap (λ a. Some (record { at = w.at; act = a })) e
  as_is (GpLo ra rb first) e g = g
  as_is (To op ra q) e g = tt
  as_is (AddrLda ra rb t) e g = absurd g
  as_is (AddrHi ra rb t) e g = absurd g
  as_is (UseLo i hi t) e g = absurd g
  as_is (UseGp i gp t) e g = absurd g
  as_is Wrong e g = tt

  by_form : (a : Act) → IsForm p ws w a → Formed p w.at a
  by_form a (as_was e) = subst (Formed p w.at) (sym e) (as_is w.act refl (knows w has).given)
  by_form a (near ra rb x r f e) = subst (Formed p w.at) (sym e) (given_as w has (Lit ra rb (target.Ptr r x)) f)
  by_form a (number ra rb n f e) = subst (Formed p w.at) (sym e) (given_as w has (Lit ra rb (target.Num n)) f)
  by_form a (far ra rb x r f e) = subst (Formed p w.at) (sym e) (load_is w has ra rb (target.Ptr r x) f)
  by_form a (by_gp load r rb x region i z local lf wf base e) =
      subst (Formed p w.at) (sym e) (given_as load (between_has ws load w local.mid local.stands) (Lit r rb (target.Ptr region x)) lf)
  by_form a (by_high load r rb x region i z local lf wf base e) =
      let h = between_has ws load w local.mid local.stands in
      subst (Formed p w.at) (sym e) ((knows load h).object ∙ sym (knows w has).object, load_is load h r rb (target.Ptr region x) lf)
  by_form a (byte load r rb x region i local lf wf base e) = subst (Formed p w.at) (sym e) tt
  by_form a (called ra q to f c e) = subst (Formed p w.at) (sym e) tt
  by_form a (direct ra q to k c e) = subst (Formed p w.at) (sym e) tt

module _ (p : ProgramView) (prog : IsProgram p) (widths : HasWidths p) (g : GraphView) (of : IsGraphOf p g) where
  knows_of : (s : Shape) (i : IsShape p s) (w : Word) → Has (shape_words s) w → Knows p i.piece.from.obj w
  knows_of s i w h =
      let k = shape_word p prog s i w h in
      record {
        object = k.object;
        fetch = ap (option_map (item_word w.at)) k.there ∙ ap (λ (x : Word). Some x) k.word;
        given = subst (λ (x : Word). Given p w.at x.act) k.word (given_word p w.at k.stands.0 k.item.role k.item.instr (item_fits p widths w.at k.item k.there) k.stands.1);
      }

  pub formed : (u : Word) → Has (words g) u → Formed p u.at u.act
  formed u h =
      let i = has_in g.blocks u h in
      let s = shape_at p prog g of i.block i.among in
      let sh = block_shape p prog g of i.block i.among in
      let r = word_from p prog g of i.block i.among u i.word in
      subst (λ (q : Place). Formed p q u.act) (sym r.place)
      (by_form p (shape_words s) sh.piece.from.obj (knows_of s sh) r.word r.among u.act r.form)
