use Rattle.om_fields.specs.Headers.{file_header}
use Rattle.om_fields.proofs.Appending.{more}
use Rattle.om_fields.proofs.headers.push_file_header.Goals as goal

pub returns-clause-ok : goal.returns-clause-ok
unfolding file_header
returns-clause-ok c =
    more (more (more (more (more (more c.in_ok-push_u16.ensures.ok c.in_ok-push_u16-2.ensures.ok) c.in_ok-push_zeros.ensures.ok)
    c.in_ok-push_u64.ensures.ok) c.in_ok-push_u32.ensures.ok) c.in_ok-push_u16-3.ensures.ok) c.in_ok-push_zeros-2.ensures.ok
