use Rattle.std.proofs.Common.{◌≡◌, ◌+◌, ◌∙◌, sym, arith, length, vec_len}
use Rattle.om_io.proofs.Appending.{files_more, within_more}
use Rattle.om_io.proofs.saves.append.Goals as goal

pub returns-clause-files : goal.returns-clause-files
returns-clause-files c =
    let size : vec_len c.args.kept.now ≡ length c.args.kept.now.items = c.args.kept.now.ok.0 in
    let named : vec_len c.extend_from_slice.new.self ≡ vec_len c.args.kept.now + length c.args.name.now = c.in-Ok.ensures.len in
    let whole : vec_len c.extend_from_slice-2.new.self ≡ vec_len c.extend_from_slice.new.self + length c.args.bytes.now =
    c.in-Ok-extend_from_slice.ensures.len in
    rw (c.in-Ok-extend_from_slice.ensures.items, c.in-Ok.ensures.items, c.in-Ok-insert.ensures.items)
    (files_more c.args.kept.now.items c.args.name.now c.args.bytes.now c.args.places.now.items _
    (c.len-name_at.ensures ∙ size) (omega (arith, c.len-bytes_at.ensures, named, size))
    (omega (arith, c.len.ensures, named, whole, size)) (rw (sym size) c.requires.within))

pub returns-clause-within : goal.returns-clause-within
returns-clause-within c =
    let named : vec_len c.extend_from_slice.new.self ≡ vec_len c.args.kept.now + length c.args.name.now = c.in-Ok.ensures.len in
    let whole : vec_len c.extend_from_slice-2.new.self ≡ vec_len c.extend_from_slice.new.self + length c.args.bytes.now =
    c.in-Ok-extend_from_slice.ensures.len in
    rw (c.in-Ok-insert.ensures.items)
    (within_more (vec_len c.args.kept.now) (vec_len c.extend_from_slice-2.new.self) c.args.places.now.items _
    (omega (arith, c.len-name_at.ensures, c.len-bytes_at.ensures, named))
    (omega (arith, c.len-bytes_at.ensures, c.len.ensures, whole)) c.len.ensures
    (omega (arith, named, whole)) c.requires.within)
