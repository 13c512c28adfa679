use Rattle.std.proofs.Common.{◌≡◌, ◌<◌, ◌+◌, ◌++◌, ◌∷◌, [], map, take, Option, Some, ℕ, List, length, slice_index, ap, sym, ◌∙◌, append_assoc, add-one, arith}
use Rattle.std.proofs.Math.Seq.{take-suc}
use Rattle.std.proofs.lemmas.List.{map-append}
use Rattle.om_isa.specs.declared.instr.Instr.{Instr}
use Rattle.om_isa.specs.Words.{instr_of}
use Rattle.om_machine.proofs.loading.push_code.Goals as goal

-- one more word, with its instruction
grown : (code new : List Instr) (i : Instr) (text : List ℕ) (at : ℕ) (start : List (Option Instr)) → map Some code ≡ start ++ map instr_of (take at text) → new ≡ code ++ i ∷ [] → instr_of (slice_index text at) ≡ Some i → at < length text → map Some new ≡ start ++ map instr_of (take (at + 1) text)
grown code new i text at start before pushed word here =
    let more : take (at + 1) text ≡ take at text ++ slice_index text at ∷ [] = rw (add-one at) (take-suc text at 0 here) in
    let front = map instr_of (take at text) in
    ap (λ xs. map Some xs) pushed
    ∙ map-append Some code (i ∷ [])
    ∙ ap (λ xs. xs ++ Some i ∷ []) before
    ∙ append_assoc start front (Some i ∷ [])
    ∙ ap (λ xs. start ++ xs) (sym (ap (λ xs. map instr_of xs) more ∙ map-append instr_of (take at text) (slice_index text at ∷ []) ∙ ap (λ o. front ++ o ∷ []) word))

pub loop-word-preserved : goal.loop-word-preserved
loop-word-preserved c =
    grown c.loop-word.code.items c.push_to.new.items.items c.decoded.result c.args.text.now c.loop-word.word-index (map Some c.args.code.now.items) c.loop-word.invariant c.in_ok-push_to.ensures c.decoded.ensures (omega arith)
