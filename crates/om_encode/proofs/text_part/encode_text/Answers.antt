use Rattle.std.proofs.Common.{ℕ, List, length, refl, sym, ap, subst, ◌∙◌}
use Rattle.std.proofs.lemmas.List.{length-replicate}
use Rattle.om_graph.specs.Run.{words}
use Rattle.om_encode.specs.Encoded.{AreForms}
use Rattle.om_encode.specs.Positions.{Filled}
use Rattle.om_encode.proofs.MapWalks.{room, text_is, map_words_are}
use Rattle.om_encode.proofs.text_part.encode_text.Goals as goal

pub put_words-requires : goal.put_words-requires
put_words-requires c =
    let p = c.args.program.now in
    let g = c.args.graph.now in
    let l = c.args.layout.now in
    record {
      room =
          room p g l c.requires c.as_slice.result.now (subst (λ (xs : List ℕ). AreForms p g l (words g) xs) (sym c.as_slice.ensures.value) c.in_ok-listed.ensures)
          (record { text = c.in_ok-text.text.items; words = c.in_ok-words.words.items; count = 0 }) refl
          (ap (λ (xs : List ℕ). length xs) (c.in_ok-text.ensures.items_if_clones_equal (λ y e. e)) ∙ length-replicate _ 0
          ∙ c.len.ensures ∙ sym c.as_slice.ensures.len)
          c.in_ok-words.ensures;
    }

pub returns-clause-text : goal.returns-clause-text
returns-clause-text c =
    let p = c.args.program.now in
    let g = c.args.graph.now in
    let l = c.args.layout.now in
    text_is p g l c.requires c.as_slice.result.now (subst (λ (xs : List ℕ). AreForms p g l (words g) xs) (sym c.as_slice.ensures.value) c.in_ok-listed.ensures)
    (record { text = c.in_ok-text.text.items; words = c.in_ok-words.words.items; count = 0 }) refl
    (ap (λ (xs : List ℕ). length xs) (c.in_ok-text.ensures.items_if_clones_equal (λ y e. e)) ∙ length-replicate _ 0
    ∙ c.len.ensures ∙ sym c.as_slice.ensures.len)
    c.in_ok-words.ensures c.from_vec.result (c.from_vec.ensures ∙ ap (λ (f : Filled). f.text) c.put_words.ensures)

pub returns-clause-words : goal.returns-clause-words
returns-clause-words c =
    let p = c.args.program.now in
    let g = c.args.graph.now in
    let l = c.args.layout.now in
    map_words_are p g l c.requires c.as_slice.result.now (subst (λ (xs : List ℕ). AreForms p g l (words g) xs) (sym c.as_slice.ensures.value) c.in_ok-listed.ensures)
    (record { text = c.in_ok-text.text.items; words = c.in_ok-words.words.items; count = 0 }) refl
    (ap (λ (xs : List ℕ). length xs) (c.in_ok-text.ensures.items_if_clones_equal (λ y e. e)) ∙ length-replicate _ 0
    ∙ c.len.ensures ∙ sym c.as_slice.ensures.len)
    c.in_ok-words.ensures c.from_vec-2.result (c.from_vec-2.ensures ∙ ap (λ (f : Filled). f.words) c.put_words.ensures)
