use Rattle.std.proofs.Common.{◌≡◌, ℕ, ◌<◌, List, [], ◌∷◌, length, fold, ap, sym, ◌∙◌, arith}
use Rattle.om_fields.specs.Places.{joined}
use Rattle.om_object.specs.declared.parts.Parts.{Parts}
use Rattle.om_resolve.specs.Names.{Name, with_name, start_name, symbol_names, names_of, object_at, no_parts}
use Rattle.om_resolve.specs.Linked.{names_in}
use Rattle.om_resolve.proofs.Steps.{item_any, fold_append, joined_more}
use Rattle.om_resolve.proofs.names.all_names.Goals as goal

pub loop-i-preserved : goal.loop-i-preserved
loop-i-preserved c =
    let objects = c.args.objects.now in
    let i = c.loop-i.i in
    let f : ℕ → List Name = λ k. symbol_names (object_at objects k) in
    let below : i < length objects = omega (arith, c.loop-i-test.true) in
    let part : c.parts.result.now ≡ object_at objects i = c.parts.ensures.value ∙ c.index-objects-i.is ∙ item_any objects i c.index-objects-i.result no_parts below in
    c.in_ok-add_names.ensures
    ∙ ap (λ (p : Parts). fold with_name (names_in c.loop-i.names) (symbol_names p)) part
    ∙ ap (λ (ns : List Name). fold with_name ns (f i)) c.loop-i.invariant
    ∙ sym (fold_append with_name (start_name ∷ []) (joined f i) (f i))
    ∙ ap (fold with_name (start_name ∷ [])) (sym (joined_more f i))

pub returns : goal.returns
unfolding names_of
returns c =
    let objects = c.args.objects.now in
    let whole : c.loop-i.i ≡ length objects = omega (arith, c.loop-i-test.false, c.loop-i.auto.i-end) in
    c.loop-i.invariant ∙ ap (λ n. fold with_name (start_name ∷ []) (joined (λ k. symbol_names (object_at objects k)) n)) whole
