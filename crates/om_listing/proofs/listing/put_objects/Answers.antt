use Rattle.std.proofs.Common.{◌∙◌, ◌+◌, sym, ap, get_or}
use Rattle.std.proofs.lemmas.List.Sums.{sum_by_more}
use Rattle.om_image.specs.declared.map.MapObj.{MapObj}
use Rattle.om_listing.proofs.Steps.{object_put, object_failed, cut}
use Rattle.om_listing.proofs.listing.put_objects.Goals as goal

abbrev none : MapObj
none = record { words = 0; table = 0 }

pub returns-in_err-put_words : goal.returns-in_err-put_words
returns-in_err-put_words g c =
    object_failed c.args.text.now c.args.objects.now c.args.words.now c.loop-number.number none c.loop-number.at _ c.loop-number-test.true
    c.loop-number.invariant.place
    (cut (get_or c.args.objects.now c.loop-number.number none).words c.loop-number.at c.args.words.now)
    c.from_residual.ensures.0 c.loop-number.invariant.sends c.in_err-put_words.ensures

pub loop-number-preserved : goal.loop-number-preserved
loop-number-preserved g c = record {
  place = ap (λ n. n + (get_or c.args.objects.now c.loop-number.number none).words) c.loop-number.invariant.place
      ∙ sym (sum_by_more (λ (o : MapObj). o.words) c.args.objects.now c.loop-number.number none c.loop-number-test.true);
  sends = object_put c.args.text.now c.args.objects.now c.args.words.now c.loop-number.number none c.loop-number.at _ c.loop-number-test.true
      c.loop-number.invariant.place
      (cut (get_or c.args.objects.now c.loop-number.number none).words c.loop-number.at c.args.words.now)
      c.loop-number.invariant.sends c.in_ok-put_words.ensures;
}
