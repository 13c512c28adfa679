use Rattle.om_uses.proofs.Near.{start_near, replaced_near, deleted_near, last_set_near, dropped_near, table_set_near, room_near}
use Rattle.om_uses.proofs.laws.edits_stay_near.Goals as goal

pub returns : goal.returns
returns c = record {
  start = start_near;
  replaced = replaced_near;
  deleted = deleted_near;
  last_set = last_set_near;
  dropped = dropped_near;
  table_set = table_set_near;
  room = room_near;
}
