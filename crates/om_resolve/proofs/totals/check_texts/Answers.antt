use Rattle.std.proofs.Common.{◌≡◌, ◌<◌, length, ap, sym, subst, ◌∙◌, arith}
use Rattle.om_object.specs.declared.parts.Parts.{Parts}
use Rattle.om_resolve.specs.declared.causes.Which.TheVariants.{ObjText}
use Rattle.om_resolve.specs.Names.{object_at, no_parts}
use Rattle.om_resolve.specs.Causes.{over, text_size, long_object, Blames}
use Rattle.om_resolve.proofs.Steps.{item_any}
use Rattle.om_resolve.proofs.Given.{given_more, given_whole, found_item}
use Rattle.om_resolve.proofs.totals.check_texts.Goals as goal

pub loop-i-preserved : goal.loop-i-preserved
loop-i-preserved c =
    let objects = c.args.objects.now in
    let i = c.loop-i.i in
    let below : i < length objects = omega (arith, c.loop-i-test.true) in
    let part : c.parts.result.now ≡ object_at objects i = c.parts.ensures.value ∙ c.index-objects-i.is ∙ item_any objects i c.index-objects-i.result no_parts below in
    let size : c.from.result ≡ text_size (object_at objects i) = c.from.ensures ∙ c.text_size-size.ensures ∙ ap text_size part in
    given_more (λ (p : Parts). over ObjText 4194304 (text_size p)) objects i no_parts below c.loop-i.invariant (ap (over ObjText 4194304) (sym size) ∙ c.in_default.ensures)

pub returns-in-Err : goal.returns-in-Err
unfolding long_object
returns-in-Err c =
    let objects = c.args.objects.now in
    let i = c.loop-i.i in
    let below : i < length objects = omega (arith, c.loop-i-test.true) in
    let part : c.parts.result.now ≡ object_at objects i = c.parts.ensures.value ∙ c.index-objects-i.is ∙ item_any objects i c.index-objects-i.result no_parts below in
    let size : c.from.result ≡ text_size (object_at objects i) = c.from.ensures ∙ c.text_size-size.ensures ∙ ap text_size part in
    found_item (λ (p : Parts). over ObjText 4194304 (text_size p)) objects i no_parts c.in-Err.cause below c.loop-i.invariant
    (subst (λ n. Blames (over ObjText 4194304 n) c.in-Err.cause) size c.in-Err.ensures)

pub returns : goal.returns
unfolding long_object
returns c =
    let objects = c.args.objects.now in
    given_whole (λ (p : Parts). over ObjText 4194304 (text_size p)) objects c.loop-i.i (omega (arith, c.loop-i-test.false)) c.loop-i.invariant
