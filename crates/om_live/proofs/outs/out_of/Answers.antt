use Rattle.std.proofs.Common.{◌≡◌, ℕ, Option, sym, ap, ◌∙◌, subst}
use Rattle.std.specs.Int.Bits.{bit_or}
use Rattle.om_blocks.specs.declared.exits.Exit.{Exit}
use Rattle.om_blocks.specs.Exits.{last_exit, next_fallen}
use Rattle.om_blocks.specs.Found.{masks_in}
use Rattle.om_live.specs.Outs.{IsOut, exit_mask, fall_mask}
use Rattle.om_live.proofs.OnOuts.{is_out, last_is}
use Rattle.om_live.proofs.outs.out_of.Goals as goal

pub returns : goal.returns
returns c = λ x hx same.
    let g = c.args.g.now in
    let ends = last_is g c.requires.graph x c.args.b c.last-last.result hx same c.last-last.ensures in
    let exit : c.exit_of.result ≡ last_exit g x.last = c.exit_of.ensures.exit ∙ ap (last_exit g) (sym ends) in
    let fall : c.fall_of.result ≡ next_fallen g x.id x.last =
    c.fall_of.ensures.next ∙ ap (next_fallen g c.args.b) (sym ends) ∙ ap (λ (i : ℕ). next_fallen g i x.last) (sym same) in
    let a = c.at_exit.ensures ∙ ap (λ (e : Exit). exit_mask c.args.l.now c.args.landed e) exit in
    let b = c.at_fall.ensures ∙ ap (λ (o : Option ℕ). fall_mask c.args.l.now o) fall in
    subst (λ (n : ℕ). IsOut g (masks_in g c.args.l.now) x.label n)
    (sym (ap (λ (n : ℕ). bit_or n c.at_fall.result) a ∙ ap (λ (n : ℕ). bit_or (exit_mask c.args.l.now c.args.landed (last_exit g x.last)) n) b))
    (is_out g c.requires.graph c.requires.flow c.args.l.now c.args.landed c.requires.landed x hx)
