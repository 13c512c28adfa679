use Rattle.std.proofs.Common.{◌≡◌, inl, inr, ℕ, Option, get_or, refl, sym, ap, ◌∙◌, subst}
use Rattle.std.specs.Prelude.{IfSome, IsTrue}
use Rattle.std.specs.Int.{bit_at}
use Rattle.om_graph.specs.View.{is_live_block}
use Rattle.om_graph.specs.Run.{table_of}
use Rattle.om_blocks.specs.Exits.{last_exit, next_fallen}
use Rattle.om_blocks.proofs.Walking.{found_here}
use Rattle.om_live.proofs.OnOuts.{last_is}
use Rattle.om_dead.proofs.OnRegions.{spread_none, spread_both, spread_has, hands_written, hands_there}
use Rattle.om_dead.proofs.regions.Region.look.Goals as goal

pub returns-then-is_in-clause-spread : goal.returns-then-is_in-clause-spread
returns-then-is_in-clause-spread c = spread_none c.args.g.now c.args.self.now.blocks.items

pub returns-then-is_in-2-clause-spread : goal.returns-then-is_in-2-clause-spread
returns-then-is_in-2-clause-spread c = spread_none c.args.g.now c.args.self.now.blocks.items

pub returns-then-is_in-2-clause-hands : goal.returns-then-is_in-2-clause-hands
returns-then-is_in-2-clause-hands c = λ t x hx same.
    hands_written c.args.g.now c.args.m.now.starts.items c.args.m.now.ends.items c.args.r c.requires.register c.args.self.now.blocks.items x (table_of c.args.g.now x.label.obj) c.effect_of-effect.result
    (c.effect_of-effect.ensures.all x (found_here c.args.g.now c.requires.graph x c.args.b hx same).0) (c.if-is_in.ensures.lacks refl) (c.if-is_in-2.ensures.has refl)

pub add_fall-requires-clause-room : goal.add_fall-requires-clause-room
add_fall-requires-clause-room c = λ id e. (c.requires.holds.room id (subst (λ (o : Option ℕ). IfSome o (λ n. IsTrue (is_live_block c.args.g.now n))) e c.fall_of.ensures.live)).0

pub add_exit-requires-clause-room : goal.add_exit-requires-clause-room
add_exit-requires-clause-room c = λ id e. (c.requires.holds.room id (c.exit_of.ensures.live id e)).0

pub returns-clause-spread : goal.returns-clause-spread
returns-clause-spread c =
    spread_both c.args.g.now c.args.self.now.blocks.items c.add_fall.new.self.blocks.items c.add_exit.new.self.blocks.items c.in_ok-add_fall.ensures.spread c.in_ok-left.ensures.spread

pub returns-clause-hands : goal.returns-clause-hands
returns-clause-hands c = λ t x hx same.
    let g = c.args.g.now in
    let last = last_is g c.requires.graph x c.args.b c.last-last.result hx same c.last-last.ensures in
    let exit : c.exit_of.result ≡ last_exit g x.last = c.exit_of.ensures.exit ∙ ap (last_exit g) (sym last) in
    let fall : c.fall_of.result ≡ next_fallen g x.id x.last =
    c.fall_of.ensures.next ∙ ap (next_fallen g c.args.b) (sym last) ∙ ap (λ (i : ℕ). next_fallen g i x.last) (sym same) in
    hands_there g c.args.m.now.starts.items c.args.m.now.ends.items c.args.r c.requires.register c.add_exit.new.self.blocks.items x (table_of g x.label.obj) c.effect_of-effect.result
    (c.effect_of-effect.ensures.all x (found_here g c.requires.graph x c.args.b hx same).0) (c.if-is_in.ensures.lacks refl)
    (λ id e. c.in_ok-left.ensures.there id (exit ∙ e))
    (λ id e. elim (c.in_ok-add_fall.ensures.there id (fall ∙ e)) [
      | inl z ↦ inl z
      | inr h ↦ inr (spread_has g c.add_fall.new.self.blocks.items c.add_exit.new.self.blocks.items id c.in_ok-left.ensures.spread h)
    ])
    (λ j. subst (λ (i : ℕ). bit_at (get_or c.args.m.now.ends.items i 0) c.args.r ≡ 0) (sym same) (c.in_ok-left.ensures.jump t (exit ∙ j)))
