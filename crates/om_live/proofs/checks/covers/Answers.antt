use Rattle.std.proofs.Common.{arith}
use Rattle.std.proofs.lemmas.Bool.{eqb-true, eq-eqb}
use Rattle.om_live.proofs.OnChecks.{missing, none_missing, covers_all}
use Rattle.om_live.proofs.checks.covers.Goals as goal

pub returns : goal.returns
returns c = (
  λ t. none_missing c.args.mask c.args.live c.args.writes (omega arith) (omega arith) (eqb-true (missing c.args.mask c.args.live c.args.writes) 0 t),
  λ a. eq-eqb (missing c.args.mask c.args.live c.args.writes) 0 (covers_all c.args.mask c.args.live c.args.writes (omega arith) (omega arith) a),
)
