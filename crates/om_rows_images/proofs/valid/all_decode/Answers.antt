use Rattle.std.proofs.Common.{◌≡◌, true, arith}
use Rattle.std.specs.Prelude.{is_some}
use Rattle.std.proofs.lemmas.List.Elements.{All-from_get_or}
use Rattle.om_isa.specs.Words.{instr_of}
use Rattle.om_rows_images.proofs.valid.all_decode.Goals as goal

pub returns : goal.returns
returns c = λ _.
    All-from_get_or (λ w. is_some (instr_of w) ≡ true) c.args.text.now 0 (λ k h. c.loop-word.invariant k (omega arith))
