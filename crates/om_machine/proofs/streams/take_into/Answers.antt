use Rattle.std.proofs.Common.{◌<◌, ◌∙◌, ap, length, arith}
use Rattle.om_image.specs.NumAccess.{written}
use Rattle.om_machine.specs.Memory.{memory_of}
use Rattle.om_machine.proofs.Taking.{none_left}
use Rattle.om_machine.proofs.streams.take_into.Goals as goal

pub returns-in-Ok-clause-taken : goal.returns-in-Ok-clause-taken
returns-in-Ok-clause-taken g c = λ bytes told.
    let moved = c.in-Ok.ensures.moves bytes told in
    let some : 0 < length c.read.new.buf = omega (arith, c.read.auto.buf, c.requires.some) in (
      record {
        enough = moved.0;
        rest = moved.2;
        places = λ a. c.write.ensures.places a ∙ ap (λ p. written (memory_of c.args.memory.now) (c.args.address, p) a) moved.1;
      },
      none_left bytes (length c.read.new.buf) c.in-Ok.taken some (c.in-Ok.ensures.not_end bytes told),
    )
