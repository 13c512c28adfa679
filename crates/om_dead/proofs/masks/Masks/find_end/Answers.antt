use Rattle.std.proofs.Common.{◌≡◌, ℕ, Option, get_or, sym, ap, ◌∙◌, subst}
use Rattle.std.specs.Prelude.{slice_set}
use Rattle.std.specs.Int.Bits.{bit_or}
use Rattle.om_graph.specs.View.{block_of}
use Rattle.om_blocks.specs.declared.exits.Exit.{Exit}
use Rattle.om_blocks.specs.Exits.{last_exit, next_fallen}
use Rattle.om_blocks.proofs.Walking.{a_some, found_block}
use Rattle.om_blocks.proofs.OnFilling.{found_id}
use Rattle.om_live.specs.Outs.{exit_mask, fall_mask}
use Rattle.om_live.proofs.OnOuts.{last_is}
use Rattle.om_dead.specs.Lowering.{Holds}
use Rattle.om_dead.proofs.OnLowering.{end_found}
use Rattle.om_dead.proofs.masks.Masks.find_end.Goals as goal

pub at_exit-requires-clause-there : goal.at_exit-requires-clause-there
at_exit-requires-clause-there c = λ id e. (c.requires.holds.room id (c.exit_of.ensures.live id e)).0

pub returns : goal.returns
returns c =
    let g = c.args.g.now in
    let starts = c.args.self.now.starts.items in
    let ends = c.args.self.now.ends.items in
    let y = a_some (block_of g c.args.b) c.requires.live in
    let x = y.0 in
    let hx = found_block g.blocks c.args.b x y.1 in
    let same = found_id g.blocks c.args.b x y.1 in
    let last = last_is g c.requires.graph x c.args.b c.last-last.result hx same c.last-last.ensures in
    let exit : c.exit_of.result ≡ last_exit g x.last = c.exit_of.ensures.exit ∙ ap (last_exit g) (sym last) in
    let fall : c.fall_of.result ≡ next_fallen g x.id x.last =
    c.fall_of.ensures.next ∙ ap (next_fallen g c.args.b) (sym last) ∙ ap (λ (i : ℕ). next_fallen g i x.last) (sym same) in
    let a : c.at_exit.result ≡ exit_mask starts (get_or ends x.id 0) (last_exit g x.last) =
    c.at_exit.ensures ∙ ap (λ (e : Exit). exit_mask starts (get_or ends c.args.b 0) e) exit ∙ ap (λ (i : ℕ). exit_mask starts (get_or ends i 0) (last_exit g x.last)) (sym same) in
    let b : c.at_fall.result ≡ fall_mask starts (next_fallen g x.id x.last) = c.at_fall.ensures ∙ ap (λ (o : Option ℕ). fall_mask starts o) fall in
    subst (λ (i : ℕ). Holds g starts (slice_set ends i (bit_or c.at_exit.result c.at_fall.result))) (sym c.number.ensures)
    (end_found g c.requires.graph c.requires.flow starts ends c.requires.holds x hx c.args.b (bit_or c.at_exit.result c.at_fall.result) same
    (ap (λ (n : ℕ). bit_or n c.at_fall.result) a ∙ ap (λ (n : ℕ). bit_or (exit_mask starts (get_or ends x.id 0) (last_exit g x.last)) n) b))
