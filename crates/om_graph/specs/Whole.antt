-- What passes and laws ask of a graph: it is in form, its words stand where its blocks are, it has the roots of the
-- program, and nothing that a run may come to is missing.
use Rattle.std.specs.Prelude.{◌≡◌, List, [], ◌∷◌, flat_map}
use Rattle.om_value.specs.declared.value.Place.{Place}
use Rattle.om_value.specs.declared.value.Target.{Target}
use Rattle.om_value.specs.declared.value.Target.TheVariants as target
use Rattle.om_value.specs.declared.value.Value.{Value}
use Rattle.om_value.specs.declared.value.Value.TheVariants.{Code, GpOff}
use Rattle.om_prog.specs.View.{ProgramView}
use Rattle.om_graph.specs.View.{GraphView}
use Rattle.om_graph.specs.Held.{IsGraph}
use Rattle.om_graph.specs.Form.{InForm, HasNoCodes, InPlace}
use Rattle.om_graph.specs.Kept.{KeptInBlocks}

-- ---- roots

abbrev pub target_places : Target → List Place
target_places (target.Code q) = q ∷ []
target_places _ = []

-- the places in code that a value names
abbrev pub value_places : Value → List Place
value_places (Code q) = q ∷ []
value_places (GpOff o t) = target_places t
value_places _ = []

-- the places that initial fields name, in order
abbrev pub field_places : ProgramView → List Place
field_places p = flat_map (λ r. flat_map (λ f. value_places f.value) r.fields) p.regions

-- the entry, and those
abbrev pub program_roots : ProgramView → List Place
program_roots p = p.entry ∷ field_places p

-- ----

pub record IsWhole (p : ProgramView) (g : GraphView) : Type 0 where
  pub graph : IsGraph g
  pub roots : g.roots ≡ program_roots p
  pub form : InForm g
  pub codes : HasNoCodes g
  pub places : InPlace g
  pub kept : KeptInBlocks g
