-- No kept word of an address has a dead result, apart from the last word of a text.
use Rattle.om_passes.proofs.Whole.{not_dead}
use Rattle.std.proofs.Common.{◌≡◌, ℕ, Bool, true, List, sym, ap, ◌∙◌}
use Rattle.std.proofs.lemmas.Bool.{true≢false}
use Rattle.om_value.specs.declared.value.Place.{Place}
use Rattle.om_prog.specs.Act.{Act, Word, act_writes}
use Rattle.om_prog.specs.Flow.{Among}
use Rattle.om_prog.specs.View.{ProgramView}
use Rattle.om_prog.specs.Valid.{IsProgram}
use Rattle.om_graph.specs.View.{GraphView, Has}
use Rattle.om_graph.specs.Run.{words}
use Rattle.om_graph.specs.Form.{is_address}
use Rattle.om_graph.specs.OfProgram.{IsForm, as_was, near, number, far, by_gp, by_high, byte, called, direct, IsFollowed, IsGraphOf}
use Rattle.om_graph.specs.Walks.{IsDeadAfter}
use Rattle.om_graph.proofs.Labels.{has_in}
use Rattle.om_graph.specs.Left.{AreExactMasks, NoDeadWord}
use Rattle.om_thorough.specs.Thorough.{NoDeadResult, CameFromAddress}
use Rattle.om_passes.proofs.Origins.{source_of}

-- ---- forms of addresses

pub address_form : (p : ProgramView) (ws : List Word) (w : Word) (a : Act) → IsForm p ws w a → is_address w.act ≡ true → is_address a ≡ true
address_form p ws w a (as_was e) h = ap is_address e ∙ h
address_form p ws w a (near ra rb x r l e) h = ap is_address e
address_form p ws w a (number ra rb n l e) h = ap is_address e
address_form p ws w a (far ra rb x r l e) h = ap is_address e
address_form p ws w a (by_gp load r rb x region i z u l s b e) h = absurd (true≢false (sym h ∙ ap is_address s))
address_form p ws w a (by_high load r rb x region i z u l s b e) h = absurd (true≢false (sym h ∙ ap is_address s))
address_form p ws w a (byte load r rb x region i u l s b e) h = absurd (true≢false (sym h ∙ ap is_address s))
address_form p ws w a (called ra q to s c e) h = absurd (true≢false (sym h ∙ ap is_address s))
address_form p ws w a (direct ra q to k c e) h = absurd (true≢false (sym h ∙ ap is_address k.jumps))

module _ (p : ProgramView) (prog : IsProgram p) (g : GraphView) (of : IsGraphOf p g) (masks outs : Place → ℕ → Bool) (exact : AreExactMasks masks outs g) (left : NoDeadWord outs g) where
  pub no_dead_result : NoDeadResult p g
  no_dead_result = record { none = none }
    where
      none : (w : Word) (r : ℕ) → Has (words g) w → CameFromAddress p w.at → Among (act_writes w.act) r → IsDeadAfter g r w → IsFollowed p w.at → ⊥
      none w r h c m dead f =
          let k = has_in g.blocks w h in
          let s = source_of p prog g of k.block w k.among k.word in
          let c1 = c.1 in
          let sf = s.fetched in
          let same : c.0 ≡ s.word = cc in
          let a = address_form p _ s.word w.act s.form (ap (λ (x : Word). is_address x.act) (sym same) ∙ c.2) in
          not_dead p prog g of masks outs exact left k.block w r k.among k.word a m dead f
