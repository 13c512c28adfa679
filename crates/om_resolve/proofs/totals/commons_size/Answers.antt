use Rattle.std.proofs.Common.{◌≡◌, ◌+◌, ◌<◌, [], length, take, ap, sym, ◌∙◌, arith, slice_index_or}
use Rattle.std.specs.Prelude.{sum_by}
use Rattle.om_resolve.specs.Names.{Name, names_of, definition_of}
use Rattle.om_resolve.specs.Targets.{common_size}
use Rattle.om_resolve.proofs.Steps.{get_here, sum_more}
use Rattle.om_resolve.proofs.Meanings.{known_length, definition_there, definition_at_name}
use Rattle.om_resolve.proofs.totals.commons_size.Goals as goal

pub loop-k-preserved : goal.loop-k-preserved
loop-k-preserved c =
    let l = c.args.l.now in
    let objects = l.objects.now in
    let ns = names_of objects in
    let k = c.loop-k.k in
    let len = known_length l c.requires in
    let below : k < length ns = omega (arith, len, c.len-k-end.ensures, c.loop-k-test.true) in
    let means : c.definition.result ≡ definition_of objects (slice_index_or ns k []) =
    c.definition.ensures ∙ definition_there l c.requires k ∙ definition_at_name objects k (slice_index_or ns k []) (get_here ns k [] below) in
    let size : c.common_size-sum.result ≡ common_size (definition_of objects (slice_index_or ns k [])) = c.common_size-sum.ensures.value ∙ ap common_size means in
    let more = sum_more (λ (n : Name). common_size (definition_of objects n)) ns k [] below in (
      ap (λ s. s + c.common_size-sum.result) c.loop-k.invariant.0 ∙ ap (λ s. sum_by (λ (n : Name). common_size (definition_of objects n)) (take k ns) + s) size ∙ sym more,
      omega (arith, c.loop-k.invariant.1, c.common_size-sum.ensures.small),
    )
