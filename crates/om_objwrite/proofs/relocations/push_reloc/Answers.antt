use Rattle.om_fields.proofs.Appending.{more}
use Rattle.om_objwrite.specs.Written.{reloc_bytes}
use Rattle.om_objwrite.proofs.relocations.push_reloc.Goals as goal

pub returns : goal.returns
unfolding reloc_bytes
returns c = more (more c.in_ok-push_u64.ensures.ok c.in_ok-push_u32.ensures.ok) c.in_ok-push_kind.ensures
