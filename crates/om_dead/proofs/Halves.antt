-- A high half whose result is dead is named by no use of a half: each use reads in its block what the half wrote.
use Rattle.std.proofs.Common.{◌≡◌, ◌⊎◌, inl, inr, ◌<◌, ℕ, ℤ, Bool, true, false, List, [], ◌∷◌, ◌++◌, Option, Some, None, refl, sym, ap, ◌∙◌, subst, arith}
use Rattle.std.specs.Prelude.{map}
use Rattle.std.proofs.lemmas.Bool.{true≢false}
use Rattle.om_isa.specs.declared.instr.Instr.{Instr}
use Rattle.om_isa.specs.declared.instr.Instr.TheVariants.{Mem, Jump, Branch, Alu, Cmov, Misc, Fnop, Halt, Callsys}
use Rattle.om_value.specs.declared.value.Place.{Place}
use Rattle.om_value.specs.declared.value.Target.{Target}
use Rattle.om_value.specs.declared.value.Target.TheVariants as target
use Rattle.om_value.specs.Same.{place_eq}
use Rattle.om_prog.specs.Act as act
use Rattle.om_prog.specs.Act.{Act, Word, base_of, act_reads, act_writes}
use Rattle.om_prog.specs.Flow.{Among}
use Rattle.om_prog.specs.View.{ProgramView}
use Rattle.om_prog.specs.Valid.{IsProgram}
use Rattle.om_graph.specs.declared.op.Op.{Op}
use Rattle.om_graph.specs.declared.op.OpKind.{OpKind}
use Rattle.om_graph.specs.declared.op.OpKind.TheVariants as op
use Rattle.om_graph.specs.View.{Node, Block, GraphView, Has, ops_of}
use Rattle.om_graph.specs.Run.{high_target, target_at, use_of, op_act, op_word, last_words, block_words, shape_words, rev_onto}
use Rattle.om_graph.specs.Form.{Ordered}
use Rattle.om_graph.specs.Checks.{live_in}
use Rattle.om_graph.specs.Uses.{Between, IsLocalUse, IsBaseUse}
use Rattle.om_graph.specs.OfProgram.{IsForm, as_was, near, number, far, by_gp, by_high, byte, called, direct, IsGraphOf}
use Rattle.om_graph.proofs.Labels.{same_place, append_left}
use Rattle.om_graph.proofs.OfProgram.{to_map}
use Rattle.om_passes.specs.OneEdit.{word_of, NamesNoHalf}
use Rattle.om_passes.proofs.Betweens.{after_has, first_in, ends_apart}
use Rattle.om_passes.proofs.BehindMasks.{local_live}
use Rattle.om_passes.proofs.Locals.{source_ordered, block_ordered, block_object}
use Rattle.om_passes.proofs.NewForms.{IsGiven, given_word}
use Rattle.om_passes.proofs.Origins.{SourceOf, source_of, kept_of}
use Rattle.om_passes.proofs.Sources.{form_writes, source_object, kept_unwritten}
use Rattle.om_blocks.proofs.OfPrograms.{has_flow}

-- ---- lists

word_split : (ws : List Word) (c : Word) → Has ws c → (done : List Word) × (rest : List Word) × (ws ≡ done ++ c ∷ rest)
word_split [] c h = absurd h
word_split (x ∷ ws) c (inl e) = ([], ws, ap (λ (y : Word). y ∷ ws) e)
word_split (x ∷ ws) c (inr h) = let k = word_split ws c h in (x ∷ k.0, k.1, ap (λ (l : List Word). x ∷ l) k.2)

-- of two words in order the later one stands behind the other
between :
    (ws : List Word) (a c : Word) → Ordered ws → ((x y : Word) → Has ws x → Has ws y → x.at.obj ≡ y.at.obj) →
    Has ws a → Has ws c → a.at.off < c.at.off → (mid : List Word) × Between ws a mid c
between [] a c o same h k l = absurd h
between (x ∷ ws) a c o same (inl e) (inl f) l =
    let z : a.at.off ≡ c.at.off = ap (λ (y : Word). y.at.off) (sym e ∙ f) in
    absurd (omega (arith, l, z))
between (x ∷ ws) a c o same (inl e) (inr k) l =
    let s = word_split ws c k in
    (s.0, ([], s.1, ap (λ (y : Word). y ∷ ws) e ∙ ap (λ (z : List Word). a ∷ z) s.2))
between (x ∷ ws) a c o same (inr h) (inl f) l =
    let z = after_has x a ws o.0 h (same a x (inr h) (inl refl)) in
    let q : x.at.off ≡ c.at.off = ap (λ (y : Word). y.at.off) f in
    absurd (omega (arith, l, z, q))
between (x ∷ ws) a c o same (inr h) (inr k) l =
    let r = between ws a c o.1 (λ y z m n. same y z (inr m) (inr n)) h k l in
    (r.0, (x ∷ r.1.0, r.1.1, ap (λ (z : List Word). x ∷ z) r.1.2))

-- ---- what a use reads

base_is : (i : Instr) (r : ℕ) (z : ℤ) → IsBaseUse r i z → base_of i ≡ r
base_is (Mem o ra rb d) r z u = u.0
base_is (Jump k ra rb h) r z u = absurd u
base_is (Branch o ra d) r z u = absurd u
base_is (Alu o ra rb rc) r z u = absurd u
base_is (Cmov k ra rb rc) r z u = absurd u
base_is (Misc o ra rb) r z u = absurd u
base_is Fnop r z u = absurd u
base_is Halt r z u = absurd u
base_is Callsys r z u = absurd u

is_high : (k : OpKind) (t : Target) → high_target k ≡ Some t → (ra : ℕ) × (rb : ℕ) × (z : ℤ) × (k ≡ op.AddrHi ra rb t z)
is_high (op.AddrHi ra rb u z) t e = let same : u ≡ t = cc in (ra, rb, z, ap (λ (x : Target). op.AddrHi ra rb x z) same)
is_high (op.Plain i) t e = cc
is_high (op.Lit ra rb u) t e = cc
is_high (op.AddrLda ra rb u) t e = cc
is_high (op.UseLo i hi) t e = cc
is_high (op.UseGp i gp u) t e = cc
is_high (op.GpHi ra rb base) t e = cc
is_high (op.GpLo ra rb hi) t e = cc

module _ (p : ProgramView) (prog : IsProgram p) (g : GraphView) (of : IsGraphOf p g) where
  module _ (b : Block) (half u : Word) (ra rb : ℕ) (t k : Target) (i : Instr) (hi : Place) (hb : Has g.blocks b)
      (hh : Has (block_words b) half) (hu : Has (block_words b) u) (is_half : half.act ≡ act.AddrHi ra rb t)
      (is_use : u.act ≡ act.UseLo i hi k) (at : half.at ≡ hi) where
    s : SourceOf p prog g of b u
    s = source_of p prog g of b u hb hu

    abbrev ss : List Word
    ss = shape_words s.shape

    module _ (load : Word) (r rd : ℕ) (x : Target) (z : ℤ) (l : IsLocalUse ss load s.word r) (loads : load.act ≡ act.Lit r rd x)
        (base : IsBaseUse r i z) (there : load.at ≡ hi) where
      load_in : Has ss load
      load_in = first_in ss load l.mid s.word l.stands

      place : half.at ≡ load.at
      place = at ∙ sym there

      same : ra ≡ r
      same =
          let f = kept_of p prog g of s.shape load half b s.among load_in hb hh place in
          let w : ra ∷ [] ≡ r ∷ [] = sym (ap act_writes is_half) ∙ form_writes p ss load half.act f.1 ∙ ap act_writes loads in
          cc

      order : half.at.off < u.at.off
      order =
          let a = ends_apart ss load l.mid s.word l.stands (source_ordered p prog g of s.shape s.among) (source_object p prog g of s.shape s.among) in
          let q = ap (λ (y : Place). y.off) place in
          let v = ap (λ (y : Place). y.off) s.place in
          omega (arith, a, q, v)

      local : IsLocalUse (block_words b) half u ra
      local =
          let m = between (block_words b) half u (block_ordered p prog g of b hb) (block_object p prog g of b hb) hh hu order in
          subst (λ (q : ℕ). IsLocalUse (block_words b) half u q) (sym same) (record {
            mid = m.0;
            stands = m.1;
            writes = subst (λ (a : Act). Among (act_writes a) r) (sym is_half) (inl same);
            unwritten = kept_unwritten p prog g of s.shape b load s.word half u l.mid m.0 r s.among s.of_shape hb l.stands m.1 place s.place l.unwritten;
            reads = subst (λ (a : Act). Among (act_reads a) r) (sym is_use) (inl (base_is i r z base));
            register = l.register;
          })

    -- a use of a half is a local use of the half
    half_local : IsLocalUse (block_words b) half u ra
    half_local = by_form s.form
      where
        given : IsGiven s.word.act
        given = given_word p prog s.shape s.among s.word s.has

        by_form : IsForm p ss s.word u.act → IsLocalUse (block_words b) half u ra
        by_form (as_was e) = absurd (subst (λ (a : Act). IsGiven a) (sym e ∙ is_use) given)
        by_form (near rc rd x r o e) = let z : act.AddrLda rc rd (target.Ptr r x) ≡ act.UseLo i hi k = sym e ∙ is_use in cc
        by_form (number rc rd n o e) = let z : act.AddrLda rc 31 (target.Num n) ≡ act.UseLo i hi k = sym e ∙ is_use in cc
        by_form (far rc rd x r o e) = let z : act.AddrHi rc rd (target.Ptr r x) ≡ act.UseLo i hi k = sym e ∙ is_use in cc
        by_form (by_gp load r rd x region j z l o v m e) = let z : act.UseGp j rd (target.Ptr region x) ≡ act.UseLo i hi k = sym e ∙ is_use in cc
        by_form (byte load r rd x region j l o v m e) = cc
        by_form (called rc q to o c e) = let z : act.To _ rc to ≡ act.UseLo i hi k = sym e ∙ is_use in cc
        by_form (direct rc q to o c e) = let z : act.To _ rc to ≡ act.UseLo i hi k = sym e ∙ is_use in cc
        by_form (by_high load r rd x region j z l o v m e) =
            let w : act.UseLo j load.at (target.Ptr region x) ≡ act.UseLo i hi k = sym e ∙ is_use in
            let a : j ≡ i = cc in
            let c : load.at ≡ hi = cc in
            local load r rd (target.Ptr region x) z l o (subst (λ (y : Instr). IsBaseUse r y z) a m) c

  -- a dead op is named by no use of a half
  pub unnamed :
      (b : Block) (x : Node) (bf ws : List Word) (out : ℕ → Bool) → Has g.blocks b → Has (ops_of b) x.op →
      rev_onto bf (word_of b x ∷ ws) ≡ block_words b →
      ((r : ℕ) → Among (act_writes (word_of b x).act) r → (r ≡ 31) ⊎ ((r < 31) × (live_in ws out r ≡ false))) → NamesNoHalf b x
  unnamed b x bf ws out hb hx stands dead = by_target (high_target (x.op).kind) refl
    where
      word_in : (o : Op) → Has (ops_of b) o → Has (block_words b) (op_word (ops_of b) o)
      word_in o h = append_left (map (op_word (ops_of b)) (ops_of b)) (last_words b.last) (op_word (ops_of b) o) (to_map (op_word (ops_of b)) (ops_of b) o h)

      not_used : (ra rb : ℕ) (t : Target) (z : ℤ) (y : Op) (i : Instr) (hi : Place) → (x.op).kind ≡ op.AddrHi ra rb t z → Has (ops_of b) y → y.kind ≡ op.UseLo i hi → (x.op).place ≡ hi → ⊥
      not_used ra rb t z y i hi e hy k at = by_found (target_at (ops_of b) hi) (ap (op_act (ops_of b)) k)
        where
          is_half : (word_of b x).act ≡ act.AddrHi ra rb t
          is_half = ap (op_act (ops_of b)) e

          by_dead : IsLocalUse (block_words b) (word_of b x) (op_word (ops_of b) y) ra → (ra ≡ 31) ⊎ ((ra < 31) × (live_in ws out ra ≡ false)) → ⊥
          by_dead l (inl f) = l.register f
          by_dead l (inr f) = true≢false (sym (local_live (block_words b) bf (word_of b x) ws (op_word (ops_of b) y) ra out (block_ordered p prog g of b hb) stands l) ∙ f.1)

          by_found : (o : Option Target) → (op_word (ops_of b) y).act ≡ use_of i hi o → ⊥
          by_found None f = (has_flow p prog g of).right.none b (op_word (ops_of b) y) hb (word_in y hy) f
          by_found (Some u) f =
              by_dead (half_local b (word_of b x) (op_word (ops_of b) y) ra rb t u i hi hb (word_in x.op hx) (word_in y hy) is_half f at)
              (dead ra (subst (λ (a : Act). Among (act_writes a) ra) (sym is_half) (inl refl)))

      by_eq : (t : Target) → high_target (x.op).kind ≡ Some t → (y : Op) (i : Instr) (hi : Place) → Has (ops_of b) y → y.kind ≡ op.UseLo i hi → (q : Bool) → place_eq (x.op).place hi ≡ q → place_eq (x.op).place hi ≡ false
      by_eq t e y i hi hy k false q = q
      by_eq t e y i hi hy k true q = let h = is_high (x.op).kind t e in absurd (not_used h.0 h.1 t h.2 y i hi h.3 hy k (same_place (x.op).place hi q))

      by_target : (o : Option Target) → high_target (x.op).kind ≡ o → NamesNoHalf b x
      by_target None e = inl e
      by_target (Some t) e = inr (λ y i hi hy k. by_eq t e y i hi hy k (place_eq (x.op).place hi) refl)
