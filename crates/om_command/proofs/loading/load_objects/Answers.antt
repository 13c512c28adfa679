use Rattle.om_words.proofs.Texts.{text_at}
use Rattle.om_command.proofs.Loads.{refused, one_loaded, inside_texts}
use Rattle.om_command.proofs.loading.load_objects.Goals as goal

pub returns-in-Err-clause-refused : goal.returns-in-Err-clause-refused
returns-in-Err-clause-refused g c =
    refused _ _ _ _ _ _ _ c.as_str.result.now c.in-Err.stop c.loop-place.invariant (inside_texts c.args.names.now c.loop-place.place c.loop-place-test.true)
    (text_at c.args.names.now c.loop-place.place c.index-names-place.result c.as_str.result.now c.loop-place-test.true c.index-names-place.is c.as_str.ensures.value)
    c.load_object.ensures.files c.in-Err.ensures.unread

pub returns-in-Err-push-clause-refused : goal.returns-in-Err-push-clause-refused
returns-in-Err-push-clause-refused g c =
    refused _ _ _ _ _ _ _ c.as_str.result.now _ c.loop-place.invariant (inside_texts c.args.names.now c.loop-place.place c.loop-place-test.true)
    (text_at c.args.names.now c.loop-place.place c.index-names-place.result c.as_str.result.now c.loop-place-test.true c.index-names-place.is c.as_str.ensures.value)
    c.load_object.ensures.files c.in-Ok.ensures.unfailed

pub loop-place-preserved : goal.loop-place-preserved
loop-place-preserved g c =
    one_loaded _ _ _ _ _ _ _ _ c.as_str.result.now c.in-Ok.loaded c.loop-place.invariant
    (text_at c.args.names.now c.loop-place.place c.index-names-place.result c.as_str.result.now c.loop-place-test.true c.index-names-place.is c.as_str.ensures.value)
    c.load_object.ensures.files c.in-Ok.ensures.unfailed c.in-Ok.ensures.holds c.in-Ok-push.ensures.items
