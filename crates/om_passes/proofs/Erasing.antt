-- Words gone that are dead address words, or to which no run comes, are a pass.
use Rattle.std.proofs.Common.{◌≡◌, ◌⊎◌, inl, inr, ◌<◌, ℕ, Bool, true, false, List, [], ◌∷◌, Option, Some, None, refl, sym, ap, ◌∙◌, subst}
use Rattle.std.proofs.lemmas.Bool.{true≢false}
use Rattle.om_isa.specs.declared.instr.Instr.{Instr}
use Rattle.om_isa.specs.declared.instr.Instr.TheVariants.{Cmov}
use Rattle.om_value.specs.declared.value.Place.{Place}
use Rattle.om_value.specs.declared.value.Value.{Value}
use Rattle.om_prog.specs.Act.{Act, Plain, Word, Script, act_reads, act_writes, act_keeps}
use Rattle.om_prog.specs.Step.{SymState, read_reg, next_place, act_effect}
use Rattle.om_prog.specs.Runs.{step_word}
use Rattle.om_prog.specs.Flow.{Among, Agree, moved, GoesTo, effect_place}
use Rattle.om_prog.specs.View.{ProgramView}
use Rattle.om_prog.proofs.Agree.{act_same}
use Rattle.om_graph.specs.View.{Block, GraphView, Has}
use Rattle.om_graph.specs.Run.{words, next_word, graph_script}
use Rattle.om_graph.specs.Form.{Ordered, is_address}
use Rattle.om_graph.specs.LeftIn.{is_kept, passes, is_left}
use Rattle.om_graph.specs.Pass.{Agreeing, Like, same, Pass}
use Rattle.om_graph.specs.Rewritten.{each_word}
use Rattle.om_graph.specs.Whole.{IsWhole}
use Rattle.om_graph.specs.Kept.{IsInKeptSet, IsKeptLanding}
use Rattle.om_graph.specs.Checks.{MaskChecked, AreOuts}
use Rattle.om_graph.proofs.Places.{jumps_last}
use Rattle.om_graph.proofs.Placed.{JumpsLast}
use Rattle.om_graph.proofs.Compose.{kept_word}
use Rattle.om_graph.proofs.Ends.{each_from}
use Rattle.om_graph.proofs.Fetching.{found_has, found_gone}
use Rattle.om_graph.proofs.Itself.{unique}
use Rattle.om_graph.proofs.Straight.{address_falls}
use Rattle.om_graph.proofs.Masks.{cared_at, cared_flow, cared_read}
use Rattle.om_passes.proofs.KeptWords.{Past, left_kept, past_next, found_there, out_gone, call_past}
use Rattle.om_graph.proofs.Whole.{Here, here_keeps, blocks_placed, lands, known_there, first_lands}

keeps_plain_read : (i : Instr) (r : ℕ) → Among (act_keeps (Plain i)) r → Among (act_reads (Plain i)) r
keeps_plain_read (Cmov k ra rb rc) r (inl e) = inr (inl e)
keeps_plain_read (Cmov k ra rb rc) r (inr m) = absurd m
keeps_plain_read i r m = absurd m

pub keeps_read : (a : Act) (r : ℕ) → Among (act_keeps a) r → Among (act_reads a) r
keeps_read (Plain i) r m = keeps_plain_read i r m
keeps_read a r m = absurd m

-- what is known of a word that goes, where a run comes to it
pub record IsErasable (masks outs : Place → ℕ → Bool) (bs : List Block) (w : Word) : Type 0 where
  pub address : is_address w.act ≡ true
  pub dead : (r : ℕ) → Among (act_writes w.act) r → (r ≡ 31) ⊎ (cared_at masks outs bs (next_place w.at) r ≡ false)

module _ (p : ProgramView) (g new : GraphView) (whole : IsWhole p g) (ordered : Ordered (words g)) (f : Word → Option Word) (only : (w u : Word) → f w ≡ Some u → w ≡ u)
    (erased : words new ≡ each_word f (words g)) (masks outs : Place → ℕ → Bool) (checked : MaskChecked masks g) (are : AreOuts masks outs g)
    (erasable : (s : SymState) (w : Word) → Here p g whole s → next_word (words g) s.place ≡ Some w → f w ≡ None → IsErasable masks outs g.blocks w) where
  abbrev pub c : Script
  c = graph_script p g

  abbrev pub K : Place → Type 0
  K = IsKeptLanding g

  abbrev pub fetch : Place → Option Word
  fetch = next_word (words new)

  abbrev pub Live : List Place → Place → ℕ → Bool
  Live ps q r = cared_at masks outs g.blocks q r

  abbrev pub Meets : List Place → Place → Place → Type 0
  Meets ps q s = (fetch q ≡ fetch s) × Past new ps s

  abbrev pub Knows : List Place → Place → (ℕ → Value) → Type 0
  Knows ps q rs = Unit {0}

  last : JumpsLast (IsKeptLanding g) g.blocks
  last = jumps_last (IsKeptLanding g) g whole.form

  in_place : (w u : Word) → f w ≡ Some u → u.at ≡ w.at
  in_place w u e = ap (λ (x : Word). x.at) (sym (only w u e))

  -- ---- what is kept

  has_word : (s : SymState) (w : Word) → c.fetch s.place ≡ Some w → Has (words g) w
  has_word s w h = found_has (words g) s.place w h

  stays : (w : Word) → Has (words g) w → is_kept new w.at ≡ true → f w ≡ Some w
  stays w h k =
      let u = kept_word (words new) w.at k in
      let x = each_from f (words g) u.word (subst (λ (l : List Word). Has l u.word) erased u.among) in
      let is_u = only x.0 u.word x.2 in
      let is_w : x.0 ≡ w = unique (words g) w x.0 ordered h x.1 (ap (λ (y : Word). y.at) is_u ∙ u.place) in
      ap f (sym is_w) ∙ x.2 ∙ ap (λ (y : Word). Some y) (sym is_u ∙ is_w)

  out : (ps : List Place) (s : SymState) (q : Place) (w : Word) → Meets ps q s.place → c.fetch s.place ≡ Some w → is_left new ps w.at ≡ false → f w ≡ None
  out ps s q w m h l = out_gone g new ordered f in_place erased ps s.place w m.1 h l

  there : (q : Place) (s : SymState) (w : Word) → fetch q ≡ fetch s.place → c.fetch s.place ≡ Some w → is_kept new w.at ≡ true → fetch q ≡ Some w
  there q s w m h k = m ∙ found_there g new ordered f in_place erased s.place w w h (stays w (has_word s w h) k)

  -- ---- registers

  flow :
      (s : SymState) (w : Word) (q : Place) (r : ℕ) → Here p g whole s → c.fetch s.place ≡ Some w → GoesTo K w q → cared_at masks outs g.blocks q r ≡ true →
      Among (act_writes w.act) r ⊎ (cared_at masks outs g.blocks s.place r ≡ true)
  flow s w q r i e to h =
      cared_flow masks outs g (λ l. IsInKeptSet g l) (blocks_placed p g whole) last (lands p g whole) checked are s.place w q r (known_there p g whole s w i e).1 e to h

  reads : (s : SymState) (w : Word) (r : ℕ) → c.fetch s.place ≡ Some w → Among (act_reads w.act) r → cared_at masks outs g.blocks s.place r ≡ true
  reads s w r e m = cared_read masks outs g (λ l. IsInKeptSet g l) (blocks_placed p g whole) last (lands p g whole) checked are s.place w r e m

  same_effect : (s : SymState) (rs : ℕ → Value) (q : Place) (w : Word) → c.fetch s.place ≡ Some w → ((r : ℕ) → cared_at masks outs g.blocks s.place r ≡ true → read_reg rs r ≡ read_reg s.regs r) → act_effect c (moved s rs q) w.at w.act ≡ act_effect c s w.at w.act
  same_effect s rs q w e agree = act_same c s rs q w.at w.act (agrees (act_reads w.act) (λ r m. reads s w r e m))
    where
      agrees : (list : List ℕ) → ((r : ℕ) → Among list r → cared_at masks outs g.blocks s.place r ≡ true) → Agree rs s.regs list
      agrees [] h = tt
      agrees (r ∷ list) h = (agree r (h r (inl refl)), agrees list (λ x m. h x (inr m)))

  -- ---- pairs that a call goes past

  past_step : (s : SymState) (w : Word) → c.fetch s.place ≡ Some w → is_kept new w.at ≡ true → (x : Place) → passes new w.at x ≡ true → x.obj ≡ (effect_place w.at (act_effect c s w.at w.act)).obj → x.off < (effect_place w.at (act_effect c s w.at w.act)).off
  past_step s w e kept x h o =
      let k = call_past g new ordered f in_place erased w w x (has_word s w e) (stays w (has_word s w e) kept) h in
      subst (λ (v : Word). x.off < (effect_place w.at (act_effect c s w.at v.act)).off) (sym k.is) k.before

  -- ---- the pass

  pub erasing : Pass c fetch K new Live Meets (Here p g whole) Knows
  erasing = record {
    fine = λ s w i e. (known_there p g whole s w i e).0;
    first = first_lands p g whole;
    starts = (here_keeps p g whole).starts;
    steps = (here_keeps p g whole).steps;
    keeps = λ s ps w r i e l a. reads s w r e (keeps_read w.act r a);
    goes = λ ps s w q r i e l to h. flow s w q r i e to h;
    goes_out = λ ps s q w r i e l m h. flow s w (next_place w.at) r i e (falls_on ps s q w i e l m) h;
    meet_first = (refl, tt);
    kept = λ ps s q w i e l m. (w, there q s w m.0 e (left_kept new ps w l), refl);
    like = λ ps s rs q w u fs i e l m fu k agree clean. alike ps s rs q w u i e l m fu agree;
    gone = λ ps s q w i e l m. (skipped ps s q w e l m, past_next g new ps s.place w e m.1);
    address = λ ps s q w i e l m. (erasable s w i e (out ps s q w m e l)).address;
    settled = λ ps s rs q w r i e l m a h k clean. settled s rs w r h ((erasable s w i e (out ps s q w m e l)).dead r a);
    l_first = λ input. tt;
    l_kept = λ ps s rs q w u i e l m fu k agree clean h to. tt;
    l_gone = λ ps s t w i e l m agree x. tt;
  }
    where
      falls_on : (ps : List Place) (s : SymState) (q : Place) (w : Word) → Here p g whole s → c.fetch s.place ≡ Some w → is_left new ps w.at ≡ false → Meets ps q s.place → GoesTo K w (next_place w.at)
      falls_on ps s q w i e l m = inl (address_falls w.act (erasable s w i e (out ps s q w m e l)).address, refl)

      skipped : (ps : List Place) (s : SymState) (q : Place) (w : Word) → c.fetch s.place ≡ Some w → is_left new ps w.at ≡ false → Meets ps q s.place → fetch q ≡ fetch (next_place w.at)
      skipped ps s q w e l m =
          m.0 ∙ ap (λ (ws : List Word). next_word ws s.place) erased ∙ found_gone f in_place (words g) s.place w ordered e (out ps s q w m e l)
          ∙ sym (ap (λ (ws : List Word). next_word ws (next_place w.at)) erased)

      alike :
          (ps : List Place) (s : SymState) (rs : ℕ → Value) (q : Place) (w u : Word) → Here p g whole s → c.fetch s.place ≡ Some w → is_left new ps w.at ≡ true → Meets ps q s.place →
          fetch q ≡ Some u → Agreeing (Live ps) s (record s { regs = rs; place = q }) →
          Like c fetch K new Live Meets (Here p g whole) Knows ps w (act_effect c (record s { regs = rs; place = q }) w.at u.act) (act_effect c s w.at w.act)
      alike ps s rs q w u i e l m fu agree =
          let k = left_kept new ps w l in
          let is_w : w ≡ u = some_same (sym (there q s w m.0 e k) ∙ fu) in
          same (ap (λ (x : Word). act_effect c (moved s rs q) w.at x.act) (sym is_w) ∙ same_effect s rs q w e agree)
          (λ h. (refl, λ x y o. past_step s w e k x y o))
        where
          some_same : {a b : Word} → Some a ≡ Some b → a ≡ b
          some_same e = cc

      settled :
          (s : SymState) (rs : ℕ → Value) (w : Word) (r : ℕ) → cared_at masks outs g.blocks (next_place w.at) r ≡ true →
          (r ≡ 31) ⊎ (cared_at masks outs g.blocks (next_place w.at) r ≡ false) → read_reg rs r ≡ read_reg (step_word c s (Some w)).regs r
      settled s rs w r h (inl e) = subst (λ (x : ℕ). read_reg rs x ≡ read_reg (step_word c s (Some w)).regs x) (sym e) refl
      settled s rs w r h (inr e) = absurd (true≢false (sym h ∙ e))
