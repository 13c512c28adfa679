use Rattle.std.proofs.Common.{◌≡◌, ◌++◌, map, take, Some}
use Rattle.om_isa.specs.Words.{instr_of}
use Rattle.om_machine.proofs.loading.push_code.Given as goal

abbrev pub invariant-loop-word : goal.invariant-loop-word
invariant-loop-word l =
    map Some l.code.items ≡ map Some l.initial.code.items ++ map instr_of (take l.word-index l.text)
