-- A pass that owes nothing more keeps meaning.
use Rattle.std.proofs.Common.{◌≡◌, ◌⊎◌, inl, inr, ℕ, Bool, true, false, ◌==◌, List, [], ◌∷◌, Option, Some, None, refl, sym, ap, ◌∙◌, subst}
use Rattle.std.proofs.lemmas.Bool.{true≢false, eqb-true, eq-eqb}
use Rattle.om_isa.specs.Effect.{Nothing, Set, Jump}
use Rattle.om_value.specs.declared.value.Place.{Place}
use Rattle.om_value.specs.declared.value.Value.{Value}
use Rattle.om_prog.specs.Act.{Word, Script, act_keeps, act_writes}
use Rattle.om_prog.specs.Step.{SymState, SymEffect, read_reg, write_reg, next_place, act_effect, after}
use Rattle.om_prog.specs.Runs.{sym_run, sym_start, step_word, has_observed, Alike}
use Rattle.om_prog.specs.Flow.{Among, effect_writes, effect_ends, effect_place, moved}
use Rattle.om_prog.specs.Within.{StateWithin}
use Rattle.om_prog.proofs.After.{Beside, beside_moved, after_beside, after_regs, act_done, Done}
use Rattle.om_prog.proofs.Codes.{act_within}
use Rattle.om_prog.proofs.Goes.{after_within, after_went, after_over, act_leads}
use Rattle.om_prog.proofs.Writes.{unwritten}
use Rattle.om_graph.specs.View.{GraphView}
use Rattle.om_graph.specs.LeftIn.{is_left, left_in, KeepsMeaning}
use Rattle.om_graph.specs.Run.{words, next_word, graph_script}
use Rattle.om_graph.specs.Rewritten.{SameFrame}
use Rattle.om_graph.proofs.Forward.{keeps_meaning, runs_go}
use Rattle.om_prog.specs.View.{ProgramView}
use Rattle.om_graph.specs.Form.{is_address}
use Rattle.om_graph.specs.Pass.{Like, same, jumps, sets, idles, Pass}
use Rattle.om_graph.specs.Matching.{Simulates, Matched}
use Rattle.om_graph.proofs.Straight.{Straight, idle, sets as puts, over, act_straight}
use Rattle.om_prog.specs.Laws.{with_words}

module _ (c : Script) (fetch : Place → Option Word) (K : Place → Type 0) (g : GraphView)
    (live : List Place → Place → ℕ → Bool) (Meet : List Place → Place → Place → Type 0) (I : SymState → Type 0) (L : List Place → Place → (ℕ → Value) → Type 0)
    (pass : Pass c fetch K g live Meet I L) where
  abbrev pub d : Script
  d = with_words c fetch

  pub record Near (ps : List Place) (s t : SymState) : Type 0 where
    pub beside : Beside s t
    pub place : s.ended ≡ None → Meet ps t.place s.place
    pub old : I s
    pub new : s.ended ≡ None → L ps s.place t.regs
    pub regs : s.ended ≡ None → (r : ℕ) → live ps s.place r ≡ true → read_reg t.regs r ≡ read_reg s.regs r
    pub fine : StateWithin K s

  module _ (ps : List Place) (s t : SymState) (w : Word) (near : Near ps s t) (going : s.ended ≡ None) (found : c.fetch s.place ≡ Some w) where
    abbrev e : SymEffect
    e = act_effect c s w.at w.act

    -- a register cared for behind the word: the runs agree on it, or the effect writes it
    reg_after : (r : ℕ) → is_left g ps w.at ≡ true → effect_ends e ≡ false → live (w.at ∷ ps) (effect_place w.at e) r ≡ true → (read_reg t.regs r ≡ read_reg s.regs r) ⊎ Among (effect_writes e) r
    reg_after r kept h l =
        let to = act_leads w.at c s K near.fine w.act h in
        by_flow (pass.goes ps s w (effect_place w.at e) r near.old found kept to l)
      where
        by_done : Among (act_keeps w.act) r ⊎ (r ≡ 31) ⊎ Done r e → (read_reg t.regs r ≡ read_reg s.regs r) ⊎ Among (effect_writes e) r
        by_done (inl m) = inl (near.regs going r (pass.keeps s ps w r near.old found kept m))
        by_done (inr (inl x)) = inl (subst (λ (y : ℕ). read_reg t.regs y ≡ read_reg s.regs y) (sym x) refl)
        by_done (inr (inr k)) = by_is k.is
          where
            by_is : Among (effect_writes e) r ⊎ (effect_ends e ≡ true) → (read_reg t.regs r ≡ read_reg s.regs r) ⊎ Among (effect_writes e) r
            by_is (inl m) = inr m
            by_is (inr y) = absurd (true≢false (sym y ∙ h))

        by_flow : Among (act_writes w.act) r ⊎ (live ps s.place r ≡ true) → (read_reg t.regs r ≡ read_reg s.regs r) ⊎ Among (effect_writes e) r
        by_flow (inr l) = inl (near.regs going r l)
        by_flow (inl m) = by_done (act_done c s r w.at w.act m)

    fine_after : StateWithin K (after s w.at e)
    fine_after = after_within K s near.fine w.at e (act_within K c s near.fine w.at w.act (pass.fine s w near.old found))

    old_after : I (after s w.at e)
    old_after = pass.steps s w near.fine near.old found

    -- the states after two effects
    record Behind (f x : SymEffect) : Type 0 where
      pub beside : Beside (after s w.at x) (after (moved s t.regs t.place) w.at f)
      pub place : effect_ends x ≡ false → Meet (w.at ∷ ps) (after (moved s t.regs t.place) w.at f).place (effect_place w.at x)
      pub regs : effect_ends x ≡ false → (r : ℕ) → live (w.at ∷ ps) (effect_place w.at x) r ≡ true → read_reg (after (moved s t.regs t.place) w.at f).regs r ≡ read_reg (after s w.at x).regs r

    abbrev Ready : SymEffect → Type 0
    Ready x = effect_ends x ≡ false → (r : ℕ) → live (w.at ∷ ps) (effect_place w.at x) r ≡ true → (read_reg t.regs r ≡ read_reg s.regs r) ⊎ Among (effect_writes x) r

    behind_same : (x : SymEffect) → Ready x → (effect_ends x ≡ false → Meet (w.at ∷ ps) (effect_place w.at x) (effect_place w.at x)) → Behind x x
    behind_same x ready meets = record {
      beside = after_beside s t.regs t.place w.at x;
      place = λ h. subst (λ (p : Place). Meet (w.at ∷ ps) p (effect_place w.at x)) (sym (after_went (moved s t.regs t.place) w.at x h).place) (meets h);
      regs = λ h r l. after_regs s t.regs t.place w.at r x (ready h r l);
    }

    behind_jump : (link : Option ℕ) (to at : Place) → Ready (Jump link at) → Meet (w.at ∷ ps) to at → Behind (Jump link to) (Jump link at)
    behind_jump None to at ready meets = record {
      beside = record { cells = refl; heap = refl; input = refl; out = refl; err = refl; ended = refl };
      place = λ h. meets;
      regs = λ h r l. after_regs s t.regs t.place w.at r (Jump None at) (ready h r l);
    }
    behind_jump (Some k) to at ready meets = record {
      beside = record { cells = refl; heap = refl; input = refl; out = refl; err = refl; ended = refl };
      place = λ h. meets;
      regs = λ h r l. after_regs s t.regs t.place w.at r (Jump (Some k) at) (ready h r l);
    }

    behind_set : (k : ℕ) (u v : Value) → Ready (Set k v) → live (w.at ∷ ps) (next_place w.at) k ≡ false → Meet (w.at ∷ ps) (next_place w.at) (next_place w.at) → Behind (Set k u) (Set k v)
    behind_set k u v ready dead meets = record {
      beside = record { cells = refl; heap = refl; input = refl; out = refl; err = refl; ended = refl };
      place = λ h. meets;
      regs = λ h r l. other r l (λ i. true≢false (sym l ∙ subst (λ (x : ℕ). live (w.at ∷ ps) (next_place w.at) x ≡ false) i dead)) (ready h r l);
    }
      where
        other : (r : ℕ) → live (w.at ∷ ps) (next_place w.at) r ≡ true → (k ≡ r → ⊥) → (read_reg t.regs r ≡ read_reg s.regs r) ⊎ Among (k ∷ []) r → read_reg (write_reg t.regs k u) r ≡ read_reg (write_reg s.regs k v) r
        other r l n (inl a) = unwritten t.regs k u r n ∙ a ∙ sym (unwritten s.regs k v r n)
        other r l n (inr (inl i)) = absurd (n i)
        other r l n (inr (inr i)) = absurd i

    behind_idle : (v : Value) → Ready Nothing → Meet (w.at ∷ ps) (next_place w.at) (next_place w.at) → Behind (Set 31 v) Nothing
    behind_idle v ready meets = record {
      beside = record { cells = refl; heap = refl; input = refl; out = refl; err = refl; ended = refl };
      place = λ h. meets;
      regs = λ h r l. other r (31 == r) refl (ready h r l);
    }
      where
        other : (r : ℕ) (b : Bool) → (31 == r) ≡ b → (read_reg t.regs r ≡ read_reg s.regs r) ⊎ Among [] r → read_reg (write_reg t.regs 31 v) r ≡ read_reg s.regs r
        other r b e (inr m) = absurd m
        other r true e (inl a) = subst (λ (x : ℕ). read_reg (write_reg t.regs 31 v) x ≡ read_reg s.regs x) (eqb-true 31 r e) refl
        other r false e (inl a) = unwritten t.regs 31 v r (λ i. true≢false (sym (eq-eqb 31 r i) ∙ e)) ∙ a

    behind_like : (f x : SymEffect) → e ≡ x → Ready x → Like c fetch K g live Meet I L ps w f x → Behind f x
    behind_like f x is ready (same eq meets) =
        subst (λ (y : SymEffect). Behind y x) (sym eq)
        (behind_same x ready meets)
    behind_like f x is ready (jumps link to at eq was meets) =
        subst (λ (y : SymEffect). Behind y x) (sym eq)
        (subst (λ (y : SymEffect). Behind (Jump link to) y) (sym was) (behind_jump link to at (subst (λ (y : SymEffect). Ready y) was ready) meets))
    behind_like f x is ready (sets k u v eq was dead meets) =
        subst (λ (y : SymEffect). Behind y x) (sym eq)
        (subst (λ (y : SymEffect). Behind (Set k u) y) (sym was) (behind_set k u v (subst (λ (y : SymEffect). Ready y) was ready) dead meets))
    behind_like f x is ready (idles v eq was meets) =
        subst (λ (y : SymEffect). Behind y x) (sym eq)
        (subst (λ (y : SymEffect). Behind (Set 31 v) y) (sym was) (behind_idle v (subst (λ (y : SymEffect). Ready y) was ready) meets))

    going_on : (after s w.at e).ended ≡ None → (b : Bool) → effect_ends e ≡ b → effect_ends e ≡ false
    going_on on true h = absurd (after_over s w.at e h on)
    going_on on false h = h

    matches : is_left g ps w.at ≡ true → has_observed (after s w.at e).ended ≡ false → Matched c d Near ps s t w
    matches left clean =
        let meet = near.place going in
        let u = pass.kept ps s t.place w near.old found left meet in
        let m = beside_moved s t near.beside in
        let f = act_effect c (moved s t.regs t.place) w.at u.0.act in
        let l = near.new going in
        let like = pass.like ps s t.regs t.place w u.0 near.fine near.old found left meet u.1 l (near.regs going) clean in
        let b = behind_like f e refl (λ h r l. reg_after r left h l) like in
        let y : SymState = after (moved s t.regs t.place) w.at f in
        let is : step_word d t (Some u.0) ≡ y =
        ap (λ (y : SymState). step_word d y (Some u.0)) m ∙
        ap (λ (at : Place). after (moved s t.regs t.place) at (act_effect c (moved s t.regs t.place) at u.0.act)) u.2 in
        record {
          word = u.0;
          found = u.1;
          place = u.2;
          related = subst (λ (z : SymState). Near (w.at ∷ ps) (after s w.at e) z) (sym is) (record {
            beside = b.beside;
            place = λ on.
                let h = going_on on _ refl in
                subst (λ (p : Place). Meet (w.at ∷ ps) y.place p) (sym (after_went s w.at e h).place) (b.place h);
            old = old_after;
            new = λ on.
                let h = going_on on _ refl in
                let to = act_leads w.at c s K near.fine w.act h in
                subst (λ (p : Place). L (w.at ∷ ps) p y.regs) (sym (after_went s w.at e h).place)
                (pass.l_kept ps s t.regs t.place w u.0 near.old found left meet u.1 l (near.regs going) clean h to);
            regs = λ on r l.
                let h = going_on on _ refl in
                b.regs h r (subst (λ (p : Place). live (w.at ∷ ps) p r ≡ true) (after_went s w.at e h).place l);
            fine = fine_after;
          });
        }

    -- a word that is left out leaves the other run's state near
    live_before : is_left g ps w.at ≡ false → (r : ℕ) → live ps (next_place w.at) r ≡ true → Among (act_writes w.act) r ⊎ (live ps s.place r ≡ true)
    live_before k r l = pass.goes_out ps s t.place w r near.old found k (near.place going) l

    skipped :
        (x : SymEffect) → Straight (act_writes w.act) x → e ≡ x → has_observed (after s w.at x).ended ≡ false → is_left g ps w.at ≡ false → is_address w.act ≡ true →
        StateWithin K (after s w.at x) → I (after s w.at x) → Near ps (after s w.at x) t
    skipped x over is clean k a fine i = absurd (true≢false clean)
    skipped x idle is clean k a fine i =
        let b = near.beside in
        record {
          beside = record { cells = b.cells; heap = b.heap; input = b.input; out = b.out; err = b.err; ended = b.ended };
          place = λ on. pass.gone ps s t.place w near.old found k (near.place going);
          old = i;
          new = λ on. pass.l_gone ps s t w near.old found k (near.place going) (near.regs going) (near.new going);
          regs = λ on r l. reg_idle r l (live_before k r l);
          fine = fine;
        }
      where
        reg_idle : (r : ℕ) → live ps (next_place w.at) r ≡ true → Among (act_writes w.act) r ⊎ (live ps s.place r ≡ true) → read_reg t.regs r ≡ read_reg s.regs r
        reg_idle r l (inr h) = near.regs going r h
        reg_idle r l (inl m) =
            let clean_here = ap (λ (y : SymEffect). has_observed (after s w.at y).ended) is ∙ clean in
            pass.settled ps s t.regs t.place w r near.old found k (near.place going) m l (near.new going) clean_here ∙
            ap (λ (y : SymEffect). read_reg (after s w.at y).regs r) is
    skipped x (puts q v m) is clean k a fine i =
        let b = near.beside in
        record {
          beside = record { cells = b.cells; heap = b.heap; input = b.input; out = b.out; err = b.err; ended = b.ended };
          place = λ on. pass.gone ps s t.place w near.old found k (near.place going);
          old = i;
          new = λ on. pass.l_gone ps s t w near.old found k (near.place going) (near.regs going) (near.new going);
          regs = λ on r l. reg_set r l (q == r) refl (live_before k r l);
          fine = fine;
        }
      where
        written : (r : ℕ) → live ps (next_place w.at) r ≡ true → Among (act_writes w.act) r → read_reg t.regs r ≡ read_reg (write_reg s.regs q v) r
        written r l m =
            let clean_here = ap (λ (y : SymEffect). has_observed (after s w.at y).ended) is ∙ clean in
            pass.settled ps s t.regs t.place w r near.old found k (near.place going) m l (near.new going) clean_here ∙
            ap (λ (y : SymEffect). read_reg (after s w.at y).regs r) is

        reg_set : (r : ℕ) → live ps (next_place w.at) r ≡ true → (b : Bool) → (q == r) ≡ b → Among (act_writes w.act) r ⊎ (live ps s.place r ≡ true) → read_reg t.regs r ≡ read_reg (write_reg s.regs q v) r
        reg_set r l true h o = written r l (subst (λ (y : ℕ). Among (act_writes w.act) y) (eqb-true q r h) m)
        reg_set r l false h (inl n) = written r l n
        reg_set r l false h (inr n) = near.regs going r n ∙ sym (unwritten s.regs q v r (λ i. true≢false (sym (eq-eqb q r i) ∙ h)))

    skips : has_observed (after s w.at e).ended ≡ false → is_left g ps w.at ≡ false → Near ps (after s w.at e) t
    skips clean k =
        let a = pass.address ps s t.place w near.old found k (near.place going) in
        skipped e (act_straight c s w.at w.act a) refl clean k a fine_after old_after

  near_alike : (ps : List Place) (s t : SymState) → Near ps s t → Alike s t
  near_alike ps s t near =
      let b = near.beside in
      record { input = b.input; out = b.out; err = b.err; ended = b.ended }

  -- the one simulation
  pub passing : Simulates c d g Near
  unfolding sym_start
  passing = record {
    starts = λ input. record {
      beside = record { cells = refl; heap = refl; input = refl; out = refl; err = refl; ended = refl };
      place = λ on. pass.meet_first;
      old = pass.starts input;
      new = λ on. pass.l_first input;
      regs = λ on r l. refl;
      fine = pass.first input;
    };
    alike = near_alike;
    steps = λ ps s t w near going found clean l. matches ps s t w near going found l clean;
    skips = λ ps s t w near going found clean l. skips ps s t w near going found clean l;
  }

-- ---- a pass from one graph to another

module _ (p : ProgramView) (old new : GraphView) (frame : SameFrame old new) (K : Place → Type 0) (live : List Place → Place → ℕ → Bool) (Meet : List Place → Place → Place → Type 0)
    (I : SymState → Type 0) (L : List Place → Place → (ℕ → Value) → Type 0) (pass : Pass (graph_script p old) (next_word (words new)) K new live Meet I L) where
  abbrev fetch : Place → Option Word
  fetch = next_word (words new)

  same_script : with_words (graph_script p old) fetch ≡ graph_script p new
  same_script = rw (frame.counts, frame.roots, frame.tables) refl

  simulates : Simulates (graph_script p old) (graph_script p new) new (Near (graph_script p old) fetch K new live Meet I L pass)
  simulates =
      subst (λ (d : Script). Simulates (graph_script p old) d new (Near (graph_script p old) fetch K new live Meet I L pass)) same_script
      (passing (graph_script p old) fetch K new live Meet I L pass)

  -- a pass keeps meaning
  pub pass_keeps_meaning : KeepsMeaning p old new
  pass_keeps_meaning = keeps_meaning p old new (Near (graph_script p old) fetch K new live Meet I L pass) simulates

  -- and what it leaves out came from a LITERAL load or a GPDISP
  pub pass_straight :
      (input : List ℕ) (n : ℕ) (w : Word) → (sym_run (graph_script p old) input n).ended ≡ None →
      next_word (words old) (sym_run (graph_script p old) input n).place ≡ Some w →
      is_left new (left_in new (graph_script p old) input n) w.at ≡ false → is_address w.act ≡ true
  pass_straight input n w going found out =
      let now =
      runs_go (graph_script p old) (graph_script p new) new (Near (graph_script p old) fetch K new live Meet I L pass) simulates input n (ap has_observed going) in
      pass.address _ (sym_run (graph_script p old) input n) _ w now.related.old found out (now.related.place going)
