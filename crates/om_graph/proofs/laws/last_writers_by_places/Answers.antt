use Rattle.om_graph.proofs.LastBy.{last_writers_by_places}
use Rattle.om_graph.proofs.laws.last_writers_by_places.Goals as goal

pub returns : goal.returns
returns c = last_writers_by_places
