use Rattle.std.specs.Prelude.{List}
use Rattle.om_fields.specs.declared.head.Headers.{Headers}
use Rattle.om_symtab.specs.declared.symbol.ExtSym.{ExtSym}
use Rattle.om_reloc.specs.declared.reloc.Reloc.{Reloc}
use Rattle.om_strength_low.proofs.OneAnswer.{answers_are_one}
use Rattle.om_strength_low.proofs.laws.readers_are_one.Goals as goal

pub returns : goal.returns
returns c = record {
  headers = answers_are_one Headers;
  symbols = answers_are_one (List ExtSym);
  relocs = answers_are_one (List Reloc);
}
