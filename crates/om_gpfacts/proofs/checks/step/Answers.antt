use Rattle.std.proofs.Common.{◌≡◌, ℕ, inl, inr, Some, get_or, refl, sym, ap, ◌∙◌, subst}
use Rattle.std.proofs.lemmas.Bool.{true≢false}
use Rattle.om_flow.specs.declared.parts.Fact.{Fact}
use Rattle.om_flow.specs.declared.parts.Fact.TheVariants.{Unknown}
use Rattle.om_flow.specs.Facts.{Allows}
use Rattle.om_graph.specs.View.{block_of}
use Rattle.om_blocks.specs.declared.exits.Exit.{Exit}
use Rattle.om_blocks.specs.Exits.{last_exit, next_fallen}
use Rattle.om_blocks.proofs.Walking.{a_some, found_block, found_here}
use Rattle.om_gpfacts.specs.Passing.{with_exit, PassesMore}
use Rattle.om_gpfacts.proofs.OnChecks.{Out, read_is, led_allows, passes_more}
use Rattle.om_gpfacts.proofs.checks.step.Goals as goal

pub returns-then-not-at_exit-clause-none : goal.returns-then-not-at_exit-clause-none
returns-then-not-at_exit-clause-none c = λ e p checked.
    let x = a_some (block_of c.args.g.now c.args.b) c.requires.live in
    let hx = found_block c.args.g.now.blocks c.args.b x.0 x.1 in
    let r = read_is c.args.g.now c.requires.graph c.requires.flow c.args.f.now x.0 c.args.b c.last-last.result c.effect_of.result c.fact.result x.1 c.last-last.ensures c.fact.ensures.fact c.effect_of.ensures.all in
    true≢false (sym (c.if-not-at_exit.ensures.1 (λ id s.
    subst (λ (y : Fact). Allows y (get_or c.args.f.now id Unknown)) (sym (c.sent_by-sent.ensures ∙ r.out))
    (led_allows c.args.g.now c.requires.graph c.requires.flow c.args.f.now x.0 c.effect_of.result hx r.does p checked id
    (inl (sym (c.exit_of-exit.ensures.exit ∙ ap (last_exit c.args.g.now) r.ends) ∙ s))))))

pub returns-then-not-at_fall-clause-none : goal.returns-then-not-at_fall-clause-none
returns-then-not-at_fall-clause-none c = λ e p checked.
    let x = a_some (block_of c.args.g.now c.args.b) c.requires.live in
    let hx = found_block c.args.g.now.blocks c.args.b x.0 x.1 in
    let r = read_is c.args.g.now c.requires.graph c.requires.flow c.args.f.now x.0 c.args.b c.last-last.result c.effect_of.result c.fact.result x.1 c.last-last.ensures c.fact.ensures.fact c.effect_of.ensures.all in
    true≢false (sym (c.if-not-at_fall.ensures.1 (λ id s.
    subst (λ (y : Fact). Allows y (get_or c.args.f.now id Unknown)) (sym (c.sent_by-sent.ensures ∙ r.out))
    (led_allows c.args.g.now c.requires.graph c.requires.flow c.args.f.now x.0 c.effect_of.result hx r.does p checked id
    (inr (sym (c.fall_of.ensures.next ∙ ap (next_fallen c.args.g.now c.args.b) r.ends ∙ ap (λ (i : ℕ). next_fallen c.args.g.now i x.0.last) (sym r.id)) ∙ s))))))

some_fact : (a b : Fact) → Some a ≡ Some b → a ≡ b
some_fact a b e = cc

pub returns-clause-some : goal.returns-clause-some
returns-clause-some c = λ new e x hx same.
    let here = found_here c.args.g.now c.requires.graph x c.args.b hx same in
    let r = read_is c.args.g.now c.requires.graph c.requires.flow c.args.f.now x c.args.b c.last-last.result c.effect_of.result c.fact.result here.0 c.last-last.ensures c.fact.ensures.fact c.effect_of.ensures.all in
    let out : c.sent_by-sent.result ≡ Out c.args.g.now c.requires.graph c.requires.flow c.args.f.now x c.effect_of.result = c.sent_by-sent.ensures ∙ r.out in
    let exit : c.exit_of-exit.result ≡ last_exit c.args.g.now x.last = c.exit_of-exit.ensures.exit ∙ ap (last_exit c.args.g.now) r.ends in
    let fall : c.fall_of.result ≡ next_fallen c.args.g.now x.id x.last =
    c.fall_of.ensures.next ∙ ap (next_fallen c.args.g.now c.args.b) r.ends ∙ ap (λ (i : ℕ). next_fallen c.args.g.now i x.last) (sym r.id) in
    subst (λ (z : Fact). PassesMore c.args.g.now c.args.f.now x c.args.out z)
    (ap (λ (z : Exit). with_exit z c.args.out (Out c.args.g.now c.requires.graph c.requires.flow c.args.f.now x c.effect_of.result)) (sym exit)
    ∙ ap (λ (z : Fact). with_exit c.exit_of-exit.result c.args.out z) (sym out) ∙ sym c.with_exit.ensures ∙ some_fact c.with_exit.result new e)
    (passes_more c.args.g.now c.requires.graph c.requires.flow c.args.f.now x c.effect_of.result hx r.does c.args.out
    (λ id s. subst (λ (y : Fact). Allows y (get_or c.args.f.now id Unknown)) out (c.if-not-at_exit.ensures.0 refl id (exit ∙ s)))
    (λ id s. subst (λ (y : Fact). Allows y (get_or c.args.f.now id Unknown)) out (c.if-not-at_fall.ensures.0 refl id (fall ∙ s))))
