-- Address rewriting of the words of a graph: what of it is the same whatever is known of halves.
use Rattle.std.proofs.Common.{◌≡◌, ◌⊎◌, inl, inr, ◌<◌, ◌≤◌, ℕ, Bool, true, Option, Some, refl, sym, ap, subst}
use Rattle.om_isa.specs.declared.instr.BrOp.TheVariants.{Bsr}
use Rattle.om_value.specs.declared.value.Place.{Place}
use Rattle.om_prog.specs.Act as act
use Rattle.om_prog.specs.Act.{Act, Word, Script}
use Rattle.om_prog.specs.Step.{next_place}
use Rattle.om_prog.specs.Flow.{act_falls, act_jumps, GoesTo}
use Rattle.om_prog.specs.Values.{Values, ValueFlows}
use Rattle.om_prog.specs.View.{ProgramView}
use Rattle.om_graph.specs.View.{GraphView, Has}
use Rattle.om_graph.specs.Run.{words, next_word, graph_script}
use Rattle.om_graph.specs.Form.{Ordered}
use Rattle.om_graph.specs.LeftIn.{is_kept, passes}
use Rattle.om_graph.specs.Rewritten.{each_word}
use Rattle.om_graph.specs.Whole.{IsWhole}
use Rattle.om_graph.specs.Kept.{IsInKeptSet, IsKeptLanding}
use Rattle.om_graph.proofs.Places.{jumps_last}
use Rattle.om_graph.proofs.Fetching.{found_from, found_has}
use Rattle.om_graph.proofs.Blocks.{InBlocks}
use Rattle.om_graph.proofs.ValuesAt.{known_at, values_flows}
use Rattle.om_graph.proofs.Whole.{blocks_placed, lands, entry_label}
use Rattle.om_passes.proofs.KeptWords.{kept_word_is, found_there, call_past}
use Rattle.om_addr.specs.Reduces.{Halves, lives_at, Reduced, as_was, near, number, idle, far, by_gp, by_high, by_literal}

module _ (p : ProgramView) (g new : GraphView) (whole : IsWhole p g) (ordered : Ordered (words g)) (f : Word → Option Word) (in_place : (w u : Word) → f w ≡ Some u → u.at ≡ w.at)
    (changed : words new ≡ each_word f (words g)) (Ok : Place → Type 0) (cared : Place → ℕ → Bool) (half : Place → Halves)
    (word :
    (q : Place) (w : Word) → InBlocks (λ l. IsInKeptSet g l) g.blocks q × Ok q → next_word (words g) q ≡ Some w →
    (u : Word) × (f w ≡ Some u) × Reduced (graph_script p g) (known_at (graph_script p g) g.blocks q) (half q) (lives_at cared (known_at (graph_script p g) g.blocks) half (next_place w.at)) w u) where
  abbrev pub c : Script
  c = graph_script p g

  abbrev pub K : Place → Type 0
  K = IsKeptLanding g

  abbrev pub At : Place → Type 0
  At q = InBlocks (λ l. IsInKeptSet g l) g.blocks q × Ok q

  abbrev pub fetch : Place → Option Word
  fetch = next_word (words new)

  abbrev pub known : Place → Values
  known = known_at c g.blocks

  has_word : (q : Place) (w : Word) → c.fetch q ≡ Some w → Has (words g) w
  has_word q w e = found_has (words g) q w e

  pub there : (q : Place) (w u : Word) → c.fetch q ≡ Some w → f w ≡ Some u → fetch q ≡ Some u
  there q w u e i = found_there g new ordered f in_place changed q w u e i

  pub kept_there : (q : Place) (w : Word) → At q → c.fetch q ≡ Some w → is_kept new w.at ≡ true
  kept_there q w at e = let u = word q w at e in kept_word_is g new ordered f in_place changed w u.0 (has_word q w e) u.1

  pub found_behind : (q : Place) (w : Word) → c.fetch q ≡ Some w → (w.at.obj ≡ q.obj) × (q.off ≤ w.at.off)
  found_behind q w e = let o = found_from (words g) q w e in (o.0, o.1)

  -- a call is as it was
  call_stays : {known : Values} {h : Halves} {k : ℕ → Bool} {w : Word} {at to : Place} {ra : ℕ} → Reduced c known h k w (record { at = at; act = act.To Bsr ra to }) → w.act ≡ act.To Bsr ra to
  call_stays (as_was is none) = ap (λ (x : Word). x.act) (sym is)
  call_stays (near a rb t n e is h) = let i = ap (λ (x : Word). x.act) is in cc
  call_stays (number a rb m n e is h) = let i = ap (λ (x : Word). x.act) is in cc
  call_stays (idle rb rc t s e is) = let i = ap (λ (x : Word). x.act) is in cc
  call_stays (far a rb t n e is h b) = let i = ap (λ (x : Word). x.act) is in cc
  call_stays (by_gp op a r rb d t e k kb is n h none) = let i = ap (λ (x : Word). x.act) is in cc
  call_stays (by_high op a r d hi t e k kr is n none) = let i = ap (λ (x : Word). x.act) is in cc
  call_stays (by_literal op a rb rc n region e b k is none) = let i = ap (λ (x : Word). x.act) is in cc

  pub goes_past : (q : Place) (w : Word) (to x : Place) → At q → c.fetch q ≡ Some w → GoesTo K w to → passes new w.at x ≡ true → to.obj ≡ x.obj → x.off < to.off
  goes_past q w to x at e goes h o =
      let u = word q w at e in
      let k = call_past g new ordered f in_place changed w u.0 x (has_word q w e) u.1 h in
      let act_is : w.act ≡ act.To Bsr k.ra k.to =
      call_stays (subst (λ (v : Word). Reduced c (known q) (half q) (lives_at cared (known_at (graph_script p g) g.blocks) half (next_place w.at)) w v) k.is u.2) in
      by_way k.ra k.to k.before (subst (λ (a : Act). (act_falls a × (next_place w.at ≡ to)) ⊎ act_jumps K a to) act_is goes)
    where
      by_way : (ra : ℕ) (k : Place) → x.off < k.off → (act_falls (act.To Bsr ra k) × (next_place w.at ≡ to)) ⊎ act_jumps K (act.To Bsr ra k) to → x.off < to.off
      by_way ra k l (inl i) = absurd i.0
      by_way ra k l (inr i) = subst (λ (v : Place). x.off < v.off) i l

  in_blocks : ValueFlows c K (InBlocks (λ l. IsInKeptSet g l) g.blocks) known
  in_blocks = values_flows c K (λ l. IsInKeptSet g l) g.blocks (blocks_placed p g whole) (jumps_last K g whole.form) (lands p g whole) (λ q. refl) (entry_label p g whole)

  pub flows : ValueFlows c K At known
  flows = record { entry = in_blocks.entry; goes = λ q w to r v at e t i. in_blocks.goes q w to r v at.0 e t i }

  pub word_there : (q : Place) (w : Word) → At q → c.fetch q ≡ Some w → (u : Word) × (fetch q ≡ Some u) × Reduced c (known q) (half q) (lives_at cared (known_at (graph_script p g) g.blocks) half (next_place w.at)) w u
  word_there q w at e = let x = word q w at e in (x.0, there q w x.0 e x.1, x.2)
