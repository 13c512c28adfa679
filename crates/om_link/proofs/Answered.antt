-- What objects are answered with.
use Rattle.std.proofs.Common.{◌≡◌, List, None}
use Rattle.std.specs.Prelude.{Err}
use Rattle.om_alpha.specs.declared.op.Level.{Level}
use Rattle.om_layout.specs.Limits.{IsWithinLimits}
use Rattle.om_object.specs.declared.parts.Parts.{Parts}
use Rattle.om_resolve.specs.Causes.{Blames, first_cause}
use Rattle.om_resolve.specs.Program.{program_of}
use Rattle.om_resolve.proofs.ProgramTotals.{few}
use Rattle.om_resolve.specs.declared.causes.ResolveErr.{ResolveErr}
use Rattle.om_resolve.specs.declared.causes.ResolveErr.TheVariants.{Duplicate, Unresolved, Rule, Limit, TooFar, NoMemory}
use Rattle.om_link.specs.Links.{Links, link_err}

-- objects that have a program
pub within_limits : (objects : List Parts) → first_cause objects ≡ None → IsWithinLimits (program_of objects)
within_limits objects uncaused =
    let f = few objects uncaused in
    record { objects = f.texts; words = f.words; sizes = f.sizes; regions = f.regions }

-- objects that have none
pub blamed : (at : Level) (objects : List Parts) (e : ResolveErr) → Blames (first_cause objects) e → Links at objects (Err (link_err e))
blamed k objects NoMemory h = tt
blamed k objects (Duplicate name a b) h = h
blamed k objects (Unresolved name file) h = h
blamed k objects (Rule file rule at) h = h
blamed k objects (Limit which total) h = h
blamed k objects (TooFar from words) h = h
