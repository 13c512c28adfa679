use Rattle.std.proofs.Common.{List, ℕ, ◌++◌, ap, ◌∙◌, arith}
use Rattle.om_fields.specs.Bytes.{Grows}
use Rattle.om_fields.proofs.Appending.{more}
use Rattle.om_objwrite.specs.Written.{file_of}
use Rattle.om_objwrite.proofs.Fitting.{are_short}
use Rattle.om_objwrite.proofs.writing.write_parts.Goals as goal

pub lay_out-at-requires : goal.lay_out-at-requires
lay_out-at-requires c = let e = (are_short c.args.parts.now c.requires.total).end in omega (arith, e)

pub strings_size-size-requires : goal.strings_size-size-requires
strings_size-size-requires c = rw c.as_slice.ensures (let e = (are_short c.args.parts.now c.requires.total).strings in omega (arith, e))

pub overflow_add-at : goal.overflow_add-at
overflow_add-at c =
    let s = are_short c.args.parts.now c.requires.total in
    let e = s.symbolic in
    let f = c.lay_out-at.ensures.symbolic in
    omega (arith, e, f)

pub overflow_add-at-2 : goal.overflow_add-at-2
overflow_add-at-2 c =
    let s = are_short c.args.parts.now c.requires.total in
    let e = s.symbolic in
    let f = c.lay_out-at.ensures.symbolic in
    let g = s.symbols in
    rw c.as_slice-2.ensures (omega (arith, e, f, g))

pub overflow_add-at-3 : goal.overflow_add-at-3
overflow_add-at-3 c =
    let s = are_short c.args.parts.now c.requires.total in
    let e = s.symbolic in
    let f = c.lay_out-at.ensures.symbolic in
    let g = s.symbols in
    rw c.as_slice-2.ensures (omega (arith, e, f, g, c.strings_size-size.ensures))

pub push_headers-requires-clause-fits : goal.push_headers-requires-clause-fits
push_headers-requires-clause-fits c = let e = (are_short c.args.parts.now c.requires.total).end in omega (arith, e)

pub push_sections-requires-clause-fits : goal.push_sections-requires-clause-fits
push_sections-requires-clause-fits c = let e = (are_short c.args.parts.now c.requires.total).end in omega (arith, e)

pub push_symbolic-requires-clause-fits : goal.push_symbolic-requires-clause-fits
push_symbolic-requires-clause-fits c = let e = (are_short c.args.parts.now c.requires.total).end in omega (arith, e)

pub returns : goal.returns
unfolding file_of
returns c =
    let p = c.args.parts.now in
    let grown : Grows c.in_ok-out.out.items c.push_symbolic.new.out.items (file_of p) =
    more (more c.in_ok-push_headers.ensures c.in_ok-push_sections.ensures) c.in_ok-push_symbolic.ensures in
    c.from_vec.ensures ∙ grown.by ∙ ap (λ (front : List ℕ). front ++ file_of p) c.in_ok-out.ensures.items
