use Rattle.std.proofs.Common.{ℕ, ◌<◌, List, [], ◌∷◌, ◌++◌, length, map, fold, take, ap, sym, ◌∙◌, arith}
use Rattle.om_fields.specs.Places.{joined}
use Rattle.om_object.specs.declared.parts.Parts.{Parts}
use Rattle.om_resolve.specs.declared.definition.Known.{Known}
use Rattle.om_symtab.specs.declared.symbol.ExtSym.{ExtSym}
use Rattle.om_resolve.specs.Names.{Seen, object_at, no_parts, number_in, seen_in}
use Rattle.om_resolve.specs.Known.{noted}
use Rattle.om_resolve.specs.Linked.{names_in, lists_in}
use Rattle.om_resolve.proofs.Steps.{map_more, fold_append, joined_more, lists_more}
use Rattle.om_resolve.proofs.names.note_objects.Goals as goal

pub loop-i-preserved : goal.loop-i-preserved
loop-i-preserved c =
    let objects = c.args.objects.now in
    let ns = names_in c.args.names.now in
    let i = c.loop-i.i in
    let below : i < length objects = omega (arith, c.loop-i-test.true) in
    let f : Parts → List ℕ = λ p. map (λ (y : ExtSym). number_in ns y.name) p.symbols in
    let g : ℕ → List Seen = λ k. seen_in k (object_at objects k) in (
      ap lists_in c.in_ok-push.ensures.items ∙ lists_more c.loop-i.numbers.items c.in_ok-note_symbols.field-0
          ∙ ap (λ (ls : List (List ℕ)). ls ++ c.in_ok-note_symbols.field-0.items ∷ []) c.loop-i.invariant.0
          ∙ ap (λ (ks : List ℕ). map f (take i objects) ++ ks ∷ []) c.in_ok-note_symbols.ensures.numbers
          ∙ sym (map_more f objects i no_parts below),
      c.in_ok-note_symbols.ensures.known ∙ ap (λ (ks : List Known). fold (noted objects ns) ks (g i)) c.loop-i.invariant.1
          ∙ sym (fold_append (noted objects ns) c.args.known.now.items (joined g i) (g i))
          ∙ ap (fold (noted objects ns) c.args.known.now.items) (sym (joined_more g i)),
    )
