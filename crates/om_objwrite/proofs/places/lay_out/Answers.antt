use Rattle.std.proofs.Common.{arith}
use Rattle.om_objwrite.proofs.Fitting.{tables_above}
use Rattle.om_objwrite.proofs.places.lay_out.Goals as goal

pub bodies_end-tables-requires : goal.bodies_end-tables-requires
bodies_end-tables-requires c = rw c.as_slice-sections.ensures (omega (arith, tables_above c.args.parts.now, c.requires))
