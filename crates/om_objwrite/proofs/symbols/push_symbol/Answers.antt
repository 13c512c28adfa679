use Rattle.om_fields.proofs.Appending.{more}
use Rattle.om_objwrite.specs.Written.{symbol_bytes}
use Rattle.om_objwrite.proofs.symbols.push_symbol.Goals as goal

pub returns : goal.returns
unfolding symbol_bytes
returns c =
    more (more (more c.in_ok-push_u64.ensures.ok c.in_ok-push_u32.ensures.ok) c.in_ok-push_u32-2.ensures.ok) c.in_ok-push_zeros.ensures.ok
