use Rattle.std.proofs.Common.{arith}
use Rattle.om_objwrite.proofs.Fitting.{tables_above}
use Rattle.om_objwrite.proofs.writing.push_sections.Goals as goal

pub push_bodies-requires : goal.push_bodies-requires
push_bodies-requires c =
    rw (c.as_slice-sections.ensures, c.requires.layout.bodies_at) (omega (arith, tables_above c.args.parts.now, c.requires.fits))
