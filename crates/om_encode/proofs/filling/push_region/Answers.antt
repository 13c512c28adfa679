use Rattle.std.proofs.Common.{◌≡◌, ℕ, ◌-◌, List, ◌++◌, length, rules, ap, ◌∙◌}
use Rattle.om_fields.specs.Bytes.{zeros}
use Rattle.om_prog.specs.declared.item.Field.{Field}
use Rattle.om_encode.specs.DataBytes.{with_fields}
use Rattle.om_encode.proofs.Mapped.{region_grown}
use Rattle.om_encode.proofs.filling.push_region.Goals as goal

pub returns : goal.returns
returns c =
    let old = c.args.out.now.items in
    let mid = c.push_zeros.new.out.items in
    let base : c.len-base.result ≡ length old = search rules in
    let same : length c.put_fields.new.bytes ≡ length mid = search rules in
    let len : c.push_zeros.new.out.len ≡ length mid = search rules in
    region_grown c.args.layout.now old c.extend_from_slice.new.self.items mid c.put_fields.new.bytes c.args.init.now.bytes _ c.args.init.now.fields
    (c.args.init.now.size - length c.args.init.now.bytes) c.push_zeros.new.out.len
    (c.in_ok-extend_from_slice.ensures.items ∙ ap (λ (xs : List ℕ). old ++ xs) c.as_slice-bytes.ensures)
    c.in_ok-push_zeros.ensures.ok
    (ap (λ (xs : List ℕ). zeros (c.args.init.now.size - length xs)) c.as_slice-bytes.ensures)
    (c.put_fields.ensures ∙ ap (λ (n : ℕ). with_fields c.args.layout.now n c.as_slice.result.now c.deref_mut.result.now) base
    ∙ ap (λ (fs : List Field). with_fields c.args.layout.now (length old) fs c.deref_mut.result.now) c.as_slice.ensures
    ∙ ap (λ (xs : List ℕ). with_fields c.args.layout.now (length old) c.args.init.now.fields xs) c.deref_mut.ensures.value)
    same len
