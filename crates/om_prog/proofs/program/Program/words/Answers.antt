use Rattle.std.proofs.Common.{length, [], sym, ap, arith}
use Rattle.std.specs.Prelude.{unwrap_or}
use Rattle.om_prog.proofs.Texts.{text_found, text_missing}
use Rattle.om_prog.proofs.program.Program.words.Goals as goal

pub overflow_cast-result : goal.overflow_cast-result
overflow_cast-result c =
    let look = c.in-Some.ensures.lookup in
    let found = text_found c.self.inside.texts.items c.deref.result.now c.args.obj c.in-Some.text.now c.deref.ensures.value look.3.0 look.1 in
    let short = (c.self.invariant.texts.each c.args.obj c.in-Some.text.now.items found).words in
    grind (arith, short, c.len.ensures)

pub returns-in-Some : goal.returns-in-Some
returns-in-Some c =
    let look = c.in-Some.ensures.lookup in
    let found = text_found c.self.inside.texts.items c.deref.result.now c.args.obj c.in-Some.text.now c.deref.ensures.value look.3.0 look.1 in
    let counted = ap (λ o. length (unwrap_or o [])) (sym found) in
    grind (arith, counted, c.len.ensures)

pub returns-in-None : goal.returns-in-None
returns-in-None c = grind (arith, text_missing c.self.inside.texts.items c.args.obj, c.in-None.ensures)
