use Rattle.std.proofs.Common.{◌∙◌}
use Rattle.om_alpha.proofs.Kept.{kept_bytes}
use Rattle.om_alpha.proofs.compute.zapnot.Goals as goal

pub returns : goal.returns
returns c = c.zap.ensures ∙ kept_bytes c.args.a c.args.kept c.ranges.kept.fits
