use Rattle.std.specs.Prelude.{take}
use Rattle.om_prog.specs.Valid.{AreApart}
use Rattle.om_prog.specs.Claims.{HasClaims}
use Rattle.om_prog.proofs.claims.are_apart.Given as goal

abbrev pub invariant-loop-i : goal.invariant-loop-i
invariant-loop-i l = HasClaims l.claims (take l.i l.fields) × AreApart (take l.i l.fields)
