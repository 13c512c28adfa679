use Rattle.std.proofs.Common.{◌≡◌, ℕ, inl, inr, Some, get_or, refl, sym, ap, ◌∙◌, subst}
use Rattle.std.proofs.lemmas.Bool.{true≢false}
use Rattle.om_graph.specs.View.{block_of}
use Rattle.om_blocks.specs.declared.exits.Exit.{Exit}
use Rattle.om_blocks.specs.Exits.{last_exit, next_fallen}
use Rattle.om_blocks.specs.Found.{all_registers}
use Rattle.om_blocks.proofs.Walking.{a_some, found_block, found_here}
use Rattle.om_live.specs.Passing.{Covers, with_exit, PassesMore}
use Rattle.om_live.proofs.OnChecks.{Mask, read_is, own_covers, led_covers, passes_more}
use Rattle.om_live.proofs.checks.step.Goals as goal

pub returns-then-not-covers-clause-none : goal.returns-then-not-covers-clause-none
returns-then-not-covers-clause-none c = λ e checked.
    let x = a_some (block_of c.args.g.now c.args.b) c.requires.live in
    let hx = found_block c.args.g.now.blocks c.args.b x.0 x.1 in
    let r = read_is c.args.g.now c.requires.graph c.requires.flow c.args.l.now x.0 c.args.b c.last-last.result c.effect_of-effect.result c.mask-mask.result x.1 c.last-last.ensures c.mask-mask.ensures.mask c.effect_of-effect.ensures.all in
    true≢false (sym (c.if-not-covers.ensures.1
    (subst (λ (m : ℕ). Covers m c.effect_of-effect.result.reads 0) (sym r.mask)
    (own_covers c.args.g.now c.requires.graph c.requires.flow c.args.l.now x.0 c.effect_of-effect.result hx r.does checked))))

pub returns-then-not-at_exit-clause-none : goal.returns-then-not-at_exit-clause-none
returns-then-not-at_exit-clause-none c = λ e checked.
    let x = a_some (block_of c.args.g.now c.args.b) c.requires.live in
    let hx = found_block c.args.g.now.blocks c.args.b x.0 x.1 in
    let r = read_is c.args.g.now c.requires.graph c.requires.flow c.args.l.now x.0 c.args.b c.last-last.result c.effect_of-effect.result c.mask-mask.result x.1 c.last-last.ensures c.mask-mask.ensures.mask c.effect_of-effect.ensures.all in
    true≢false (sym (c.if-not-at_exit.ensures.1 (λ id s.
    subst (λ (m : ℕ). Covers m (get_or c.args.l.now id all_registers) c.effect_of-effect.result.writes) (sym r.mask)
    (led_covers c.args.g.now c.requires.graph c.requires.flow c.args.l.now x.0 c.effect_of-effect.result hx r.does checked id
    (inl (sym (c.exit_of-exit.ensures.exit ∙ ap (last_exit c.args.g.now) r.ends) ∙ s))))))

pub returns-then-not-at_fall-clause-none : goal.returns-then-not-at_fall-clause-none
returns-then-not-at_fall-clause-none c = λ e checked.
    let x = a_some (block_of c.args.g.now c.args.b) c.requires.live in
    let hx = found_block c.args.g.now.blocks c.args.b x.0 x.1 in
    let r = read_is c.args.g.now c.requires.graph c.requires.flow c.args.l.now x.0 c.args.b c.last-last.result c.effect_of-effect.result c.mask-mask.result x.1 c.last-last.ensures c.mask-mask.ensures.mask c.effect_of-effect.ensures.all in
    true≢false (sym (c.if-not-at_fall.ensures.1 (λ id s.
    subst (λ (m : ℕ). Covers m (get_or c.args.l.now id all_registers) c.effect_of-effect.result.writes) (sym r.mask)
    (led_covers c.args.g.now c.requires.graph c.requires.flow c.args.l.now x.0 c.effect_of-effect.result hx r.does checked id
    (inr (sym (c.fall_of.ensures.next ∙ ap (next_fallen c.args.g.now c.args.b) r.ends ∙ ap (λ (i : ℕ). next_fallen c.args.g.now i x.0.last) (sym r.id)) ∙ s))))))

some_mask : (a b : ℕ) → Some a ≡ Some b → a ≡ b
some_mask a b e = cc

pub returns-clause-some : goal.returns-clause-some
returns-clause-some c = λ new e x hx same.
    let here = found_here c.args.g.now c.requires.graph x c.args.b hx same in
    let r = read_is c.args.g.now c.requires.graph c.requires.flow c.args.l.now x c.args.b c.last-last.result c.effect_of-effect.result c.mask-mask.result here.0 c.last-last.ensures c.mask-mask.ensures.mask c.effect_of-effect.ensures.all in
    let mask : c.mask-mask.result ≡ Mask c.args.g.now c.requires.graph c.requires.flow c.args.l.now x = r.mask in
    let exit : c.exit_of-exit.result ≡ last_exit c.args.g.now x.last = c.exit_of-exit.ensures.exit ∙ ap (last_exit c.args.g.now) r.ends in
    let fall : c.fall_of.result ≡ next_fallen c.args.g.now x.id x.last =
    c.fall_of.ensures.next ∙ ap (next_fallen c.args.g.now c.args.b) r.ends ∙ ap (λ (i : ℕ). next_fallen c.args.g.now i x.last) (sym r.id) in
    subst (λ (z : ℕ). PassesMore c.args.g.now c.args.l.now x c.args.out z)
    (ap (λ (z : Exit). with_exit z c.args.out (Mask c.args.g.now c.requires.graph c.requires.flow c.args.l.now x) c.effect_of-effect.result.writes) (sym exit)
    ∙ ap (λ (z : ℕ). with_exit c.exit_of-exit.result c.args.out z c.effect_of-effect.result.writes) (sym mask) ∙ sym c.with_exit.ensures ∙ some_mask c.with_exit.result new e)
    (passes_more c.args.g.now c.requires.graph c.requires.flow c.args.l.now x c.effect_of-effect.result hx r.does c.args.out
    (subst (λ (m : ℕ). Covers m c.effect_of-effect.result.reads 0) mask (c.if-not-covers.ensures.0 refl))
    (λ id s. subst (λ (m : ℕ). Covers m (get_or c.args.l.now id all_registers) c.effect_of-effect.result.writes) mask (c.if-not-at_exit.ensures.0 refl id (exit ∙ s)))
    (λ id s. subst (λ (m : ℕ). Covers m (get_or c.args.l.now id all_registers) c.effect_of-effect.result.writes) mask (c.if-not-at_fall.ensures.0 refl id (fall ∙ s))))
