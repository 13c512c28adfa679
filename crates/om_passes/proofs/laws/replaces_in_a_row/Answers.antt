use Rattle.om_passes.proofs.Replaces.{graph_behind, frame_behind, labels_behind, far_behind}
use Rattle.om_passes.proofs.laws.replaces_in_a_row.Goals as goal

pub returns : goal.returns
returns c = record { graph = graph_behind; frame = frame_behind; labels = labels_behind; far = far_behind }
