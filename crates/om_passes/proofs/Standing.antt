-- Where a pass finds that the base of a load is not written before a use, the base stands.
use Rattle.std.proofs.Common.{◌≡◌, ◌⊎◌, inl, inr, ◌<◌, ◌≤◌, ◌+◌, ℕ, true, List, [], ◌∷◌, refl, sym, ap, ◌∙◌, subst, arith}
use Rattle.om_isa.specs.declared.instr.Instr.{Instr}
use Rattle.om_value.specs.declared.value.Place.{Place}
use Rattle.om_value.specs.declared.value.Region.{Region}
use Rattle.om_value.specs.declared.value.Target.{Target}
use Rattle.om_value.specs.declared.value.Target.TheVariants as target
use Rattle.om_prog.specs.Act as act
use Rattle.om_prog.specs.Act.{Act, Word, act_reads, act_writes}
use Rattle.om_prog.specs.Flow.{Among}
use Rattle.om_prog.specs.View.{ProgramView}
use Rattle.om_prog.specs.Valid.{IsProgram}
use Rattle.om_graph.specs.View.{Block, Shape, GraphView, Has, place_lt}
use Rattle.om_graph.specs.Run.{block_words, shape_words}
use Rattle.om_graph.specs.Lifted.{lifted_shapes}
use Rattle.om_graph.specs.OfProgram.{IsForm, as_was, near, number, far, by_gp, by_high, byte, called, direct, IsBlockOf, IsGraphOf, IsLastWriter, CameFromLoad}
use Rattle.om_graph.specs.Uses.{IsLocalUse, Unwritten}
use Rattle.om_graph.proofs.Labels.{lt_off}
use Rattle.om_graph.proofs.OfProgram.{shape_at}
use Rattle.om_graph.specs.Stands.{HasStandingBase, IsIdle}
use Rattle.om_passes.proofs.Origins.{kept_of, label_apart, shape_of_block, source_fetch}
use Rattle.om_passes.proofs.Sources.{some_item, lit_source}
use Rattle.om_passes.proofs.Starts.{IsMade, none_made}
use Rattle.om_passes.proofs.Betweens.{first_in, last_in, in_mid}
use Rattle.om_passes.proofs.Locals.{block_ordered, block_object}
use Rattle.om_passes.proofs.Closed.{ReadsBy, form_reads}

-- the word of the program of a load of a pointer that became LDA
lda_source :
    (p : ProgramView) (ws : List Word) (w : Word) (a : Act) (ra rb x : ℕ) (region : Region) → IsForm p ws w a → a ≡ act.AddrLda ra rb (target.Ptr region x) →
    (w.act ≡ act.Lit ra rb (target.Ptr region x)) ⊎ (w.act ≡ act.AddrLda ra rb (target.Ptr region x))
lda_source p ws w a ra rb x region (as_was e) h = inr (sym e ∙ h)
lda_source p ws w a ra rb x region (near rc rd y r l e) h = inl (l ∙ same (sym e ∙ h))
  where
    same : act.AddrLda rc rd (target.Ptr r y) ≡ act.AddrLda ra rb (target.Ptr region x) → act.Lit rc rd (target.Ptr r y) ≡ act.Lit ra rb (target.Ptr region x)
    same e = cc
lda_source p ws w a ra rb x region (number rc rd n l e) h = cc
lda_source p ws w a ra rb x region (far rc rd y r l e) h = cc
lda_source p ws w a ra rb x region (by_gp load r rd y t i z u l s b e) h = cc
lda_source p ws w a ra rb x region (by_high load r rd y t i z u l s b e) h = cc
lda_source p ws w a ra rb x region (byte load r rd y t i u l s b e) h = cc
lda_source p ws w a ra rb x region (called rc q to s c e) h = cc
lda_source p ws w a ra rb x region (direct rc q to k c e) h = cc

module _ (p : ProgramView) (prog : IsProgram p) (g : GraphView) (of : IsGraphOf p g) (b : Block) (s : Shape) (load user : Word) (r gp x : ℕ) (region : Region) (i : Instr)
    (hb : Has g.blocks b) (hs : Has (lifted_shapes p) s) (label : b.label ≡ s.label) (u : IsLocalUse (block_words b) load user r)
    (loads : (load.act ≡ act.Lit r gp (target.Ptr region x)) ⊎ (load.act ≡ act.AddrLda r gp (target.Ptr region x))) (plain : user.act ≡ act.Plain i) where
  is_block : IsBlockOf p s b
  is_block =
      subst (λ (y : Shape). IsBlockOf p y b)
      (label_apart p prog g of (shape_at p prog g of b hb) s (shape_of_block p prog g of b hb) hs (sym (of.blocks b hb).2.label ∙ label)) (of.blocks b hb).2

  load_in : Has (block_words b) load
  load_in = first_in (block_words b) load u.mid user u.stands

  user_in : Has (block_words b) user
  user_in = last_in (block_words b) load u.mid user u.stands

  came : CameFromLoad load.act
  came = by_act loads
    where
      by_act : (load.act ≡ act.Lit r gp (target.Ptr region x)) ⊎ (load.act ≡ act.AddrLda r gp (target.Ptr region x)) → CameFromLoad load.act
      by_act (inl e) = subst (λ (a : Act). CameFromLoad a) (sym e) tt
      by_act (inr e) = subst (λ (a : Act). CameFromLoad a) (sym e) tt

  source : (w : Word) × IsLastWriter (shape_words s) user.at r w × (w.at ≡ load.at)
  source =
      (is_block.same_load user i r user_in plain u.reads u.register).1 load (u.mid, user, refl, u.stands, u.unwritten, u.writes) came

  -- the load and the use among the words of the program
  source_load : Has (shape_words s) source.0
  source_load = let w = source.1 in first_in (shape_words s) source.0 w.0 w.1 w.3

  source_loads : source.0.act ≡ act.Lit r gp (target.Ptr region x)
  source_loads = by_act loads
    where
      form : IsForm p (shape_words s) source.0 load.act
      form = (kept_of p prog g of s source.0 load b hs source_load hb load_in (sym source.2)).1

      made : source.0.act ≡ act.AddrLda r gp (target.Ptr region x) → ⊥
      made e =
          let k = some_item p source.0.at source.0 (source_fetch p prog g of s source.0 hs source_load) in
          none_made k.0.role k.0.instr (subst (λ (a : Act). IsMade a) (sym (ap (λ (w : Word). w.act) k.2 ∙ e)) tt)

      by_lda : (source.0.act ≡ act.Lit r gp (target.Ptr region x)) ⊎ (source.0.act ≡ act.AddrLda r gp (target.Ptr region x)) → source.0.act ≡ act.Lit r gp (target.Ptr region x)
      by_lda (inl e) = e
      by_lda (inr e) = absurd (made e)

      by_act : (load.act ≡ act.Lit r gp (target.Ptr region x)) ⊎ (load.act ≡ act.AddrLda r gp (target.Ptr region x)) → source.0.act ≡ act.Lit r gp (target.Ptr region x)
      by_act (inl e) = lit_source p (shape_words s) source.0 load.act r gp (target.Ptr region x) form e
      by_act (inr e) = by_lda (lda_source p (shape_words s) source.0 load.act r gp x region form e)

  source_use : (w : Word) × IsLocalUse (shape_words s) source.0 w r × (w.at ≡ user.at)
  source_use = (w.1, record { mid = w.0; stands = w.3; writes = w.5; unwritten = w.4; reads = by_reads (form_reads p (shape_words s) w.1 user.act r form u.register u.reads); register = u.register }, w.2)
    where
      w : IsLastWriter (shape_words s) user.at r source.0
      w = source.1

      form : IsForm p (shape_words s) w.1 user.act
      form = (kept_of p prog g of s w.1 user b hs (last_in (shape_words s) source.0 w.0 w.1 w.3) hb user_in (sym w.2)).1

      by_reads : ReadsBy w.1 user.act r → Among (act_reads w.1.act) r
      by_reads (inl h) = h
      by_reads (inr (inl (j, t, e))) = let k = plain in cc
      by_reads (inr (inr d)) = absurd (subst (λ (a : Act). IsIdle a) plain d)

  pub use_stands : Unwritten gp u.mid → HasStandingBase s b user.at gp
  use_stands free = record {
    load = source.0;
    user = source_use.0;
    reg = r;
    target = target.Ptr region x;
    local = source_use.1;
    place = source_use.2;
    loads = source_loads;
    unwritten = λ n31 v hv after before writes. by_free free n31 v (between v hv after before) writes;
  }
    where
      between : (v : Word) → Has (block_words b) v → place_lt source.0.at v.at ≡ true → place_lt v.at user.at ≡ true → Has u.mid v
      between v hv after before =
          let o = block_object p prog g of b hb in
          let a = lt_off source.0.at v.at after (o v load hv load_in ∙ sym (ap (λ (q : Place). q.obj) source.2)) in
          let f = ap (λ (q : Place). q.off) source.2 in
          in_mid (block_words b) load u.mid user u.stands (block_ordered p prog g of b hb) o v hv (omega (arith, a, f)) (lt_off v.at user.at before (o user v user_in hv))

      by_free : Unwritten gp u.mid → (gp ≡ 31 → ⊥) → (v : Word) → Has u.mid v → Among (act_writes v.act) gp → ⊥
      by_free (inl e) n31 v h m = n31 e
      by_free (inr none) n31 v h m = none v h m
