use Rattle.std.proofs.Common.{◌≡◌, ℕ, ◌+◌, ◌/◌, ◌<◌, List, [], ◌∷◌, ◌++◌, length, ap, sym, subst, ◌∙◌, arith, below_more}
use Rattle.om_fields.specs.Places.{each}
use Rattle.om_object.specs.Rules.{IsObject}
use Rattle.om_resolve.specs.Names.{object_at, no_parts}
use Rattle.om_resolve.specs.Causes.{text_words}
use Rattle.om_resolve.specs.Linked.{words_before}
use Rattle.om_resolve.proofs.Steps.{item_any, each_more, sum_more}
use Rattle.om_resolve.proofs.prefixes.text_starts.Goals as goal

pub loop-i-preserved : goal.loop-i-preserved
loop-i-preserved c =
    let objects = c.args.objects.now in
    let i = c.loop-i.i in
    let below : i < length objects = omega (arith, c.loop-i-test.true) in
    let part : c.parts.result.now ≡ object_at objects i = c.parts.ensures.value ∙ c.index-objects-i.is ∙ item_any objects i c.index-objects-i.result no_parts below in
    let more : c.text_size-more.result / 4 ≡ text_words (object_at objects i) = ap (λ n. n / 4) c.text_size-more.ensures ∙ ap text_words part in (
      c.in_ok-push.ensures.items ∙ ap (λ (ws : List ℕ). ws ++ c.loop-i.words ∷ []) c.loop-i.invariant.0
          ∙ ap (λ w. each (words_before objects) i ++ w ∷ []) c.loop-i.invariant.1 ∙ sym (each_more (words_before objects) i),
      ap (λ w. w + c.text_size-more.result / 4) c.loop-i.invariant.1 ∙ ap (λ m. words_before objects i + m) more ∙ sym (sum_more text_words objects i no_parts below),
      below_more _ _ c.loop-i.invariant.2 (subst IsObject (c.index-objects-i.is ∙ item_any objects i c.index-objects-i.result no_parts below) c.parts.ensures.object),
    )
