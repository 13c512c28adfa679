use Rattle.std.proofs.Common.{◌≡◌, ◌<◌, Bool, ◌||◌, List, sym, ◌∙◌, ap, arith}
use Rattle.om_fields.proofs.Picked.{picked-first, picked-none, none-further}
use Rattle.om_fields.specs.declared.extents.Extent.{Extent}
use Rattle.om_fields.specs.Extents.{is_misplaced, ends_late, collides}
use Rattle.om_fields.specs.HeaderFields.{section_count, header_at, head_extent}
use Rattle.om_fields.proofs.Heads.{headers-rise}
use Rattle.om_fields.proofs.header_rules.misplaced_section.Goals as goal

pub returns-then-is_out_of_place : goal.returns-then-is_out_of_place
returns-then-is_out_of_place c =
    let bytes = c.args.bytes.now in
    let k = c.loop-k.k in
    let here : Extent = head_extent bytes k in
    let below : k < section_count bytes = omega (arith, c.loop-k-test.true, c.section_count-k-end.ensures.gives) in
    let test : c.is_out_of_place.result ≡ is_misplaced (head_extent bytes) k =
    c.is_out_of_place.ensures
    ∙ ap (λ (es : List Extent). ends_late c.head_extent-extent.result || collides es c.head_extent-extent.result) c.deref.ensures.value
    ∙ ap (λ (e : Extent). ends_late e || collides c.loop-k.loaded.items e) c.head_extent-extent.ensures
    ∙ ap (λ (b : Bool). ends_late here || b) (c.loop-k.invariant.1.same here) in
    sym (picked-first (is_misplaced (head_extent bytes)) header_at (section_count bytes) k headers-rise below (sym test ∙ c.if-is_out_of_place.true) c.loop-k.invariant.0)

pub loop-k-preserved : goal.loop-k-preserved
loop-k-preserved c =
    let bytes = c.args.bytes.now in
    let k = c.loop-k.k in
    let here : Extent = head_extent bytes k in
    let test : c.is_out_of_place.result ≡ is_misplaced (head_extent bytes) k =
    c.is_out_of_place.ensures
    ∙ ap (λ (es : List Extent). ends_late c.head_extent-extent.result || collides es c.head_extent-extent.result) c.deref.ensures.value
    ∙ ap (λ (e : Extent). ends_late e || collides c.loop-k.loaded.items e) c.head_extent-extent.ensures
    ∙ ap (λ (b : Bool). ends_late here || b) (c.loop-k.invariant.1.same here) in (
      none-further (is_misplaced (head_extent bytes)) k c.loop-k.invariant.0 (sym test ∙ c.if-is_out_of_place.false),
      c.in_ok-add_loaded.ensures.stands (head_extent bytes) k c.loop-k.invariant.1 (sym c.head_extent-extent.ensures),
    )

pub returns : goal.returns
returns c =
    sym (picked-none (is_misplaced (head_extent c.args.bytes.now)) header_at (section_count c.args.bytes.now)
    (λ j h. c.loop-k.invariant.0 j (omega (arith, h, c.loop-k-test.false, c.loop-k.auto.k-end, c.section_count-k-end.ensures.gives))))
