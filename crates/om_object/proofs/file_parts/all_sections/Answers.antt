use Rattle.std.proofs.Common.{◌≡◌, ◌<◌, ◌++◌, [], List, sym, ◌∙◌, ap, arith}
use Rattle.om_fields.specs.Places.{picked, put_if}
use Rattle.om_fields.proofs.Joined.{picked-snoc}
use Rattle.om_fields.specs.HeaderFields.{section_count}
use Rattle.om_object.specs.declared.parts.Section.{Section}
use Rattle.om_object.specs.declared.origin.Origin.{Origin}
use Rattle.om_object.specs.File.{is_loaded, section_of_head, origin_of}
use Rattle.om_object.proofs.HeadsAt.{heads-length, head-at}
use Rattle.om_object.proofs.file_parts.all_sections.Goals as goal

pub add_section-requires-clause-inside : goal.add_section-requires-clause-inside
add_section-requires-clause-inside c = omega (arith, heads-length c.args.bytes.now c.args.heads.now c.requires.heads, c.loop-k-test.true)

pub add_section-requires-clause-small : goal.add_section-requires-clause-small
add_section-requires-clause-small c = omega (arith, heads-length c.args.bytes.now c.args.heads.now c.requires.heads, c.loop-k-test.true, c.requires.small)

pub add_section-requires-clause-head : goal.add_section-requires-clause-head
add_section-requires-clause-head c =
    let below : c.loop-k.k < section_count c.args.bytes.now = omega (arith, heads-length c.args.bytes.now c.args.heads.now c.requires.heads, c.loop-k-test.true) in
    c.index-heads-k.is ∙ head-at c.args.bytes.now c.args.heads.now c.loop-k.k c.index-heads-k.result c.requires.heads below

pub loop-k-preserved : goal.loop-k-preserved
loop-k-preserved c =
    let bytes = c.args.bytes.now in
    let k = c.loop-k.k in (
      c.in_ok-add_section.ensures.sections
          ∙ ap (λ (xs : List Section). xs ++ put_if (is_loaded bytes k) (section_of_head bytes k) []) c.loop-k.invariant.0
          ∙ sym (picked-snoc (is_loaded bytes) (section_of_head bytes) k),
      c.in_ok-add_section.ensures.origins
          ∙ ap (λ (xs : List Origin). xs ++ put_if (is_loaded bytes k) (origin_of bytes k) []) c.loop-k.invariant.1
          ∙ sym (picked-snoc (is_loaded bytes) (origin_of bytes) k),
    )

pub returns-clause-sections : goal.returns-clause-sections
returns-clause-sections c =
    let bytes = c.args.bytes.now in
    let e : c.loop-k.k ≡ section_count bytes = omega (arith, heads-length bytes c.args.heads.now c.requires.heads, c.loop-k-test.false, c.loop-k.auto.k-end) in
    c.loop-k.invariant.0 ∙ ap (λ n. picked (is_loaded bytes) (section_of_head bytes) n) e

pub returns-clause-origins : goal.returns-clause-origins
returns-clause-origins c =
    let bytes = c.args.bytes.now in
    let e : c.loop-k.k ≡ section_count bytes = omega (arith, heads-length bytes c.args.heads.now c.requires.heads, c.loop-k-test.false, c.loop-k.auto.k-end) in
    c.loop-k.invariant.1 ∙ ap (λ n. picked (is_loaded bytes) (origin_of bytes) n) e
