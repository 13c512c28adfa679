use Rattle.std.proofs.Common.{subst}
use Rattle.om_objwrite.specs.RoundTrip.{HasWidths}
use Rattle.om_objwrite.proofs.Accepted.{all_read}
use Rattle.om_objwrite.proofs.writing.write_object.Goals as goal

pub returns-clause-read : goal.returns-clause-read
returns-clause-read c =
    all_read c.args.o.now (subst HasWidths c.parts-parts.ensures.value c.parts_fit.ensures) c.parts-parts.ensures.object c.requires
