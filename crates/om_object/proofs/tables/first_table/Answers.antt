use Rattle.std.proofs.Common.{◌≡◌, ◌<◌, ℕ, Bool, true, sym, ◌∙◌, ap, arith}
use Rattle.om_fields.proofs.Picked.{picked-first, picked-none, none-further}
use Rattle.om_fields.proofs.Heads.{headers-rise}
use Rattle.om_fields.specs.HeaderFields.{section_count, header_at, head_of}
use Rattle.om_object.specs.File.{head_breaks}
use Rattle.om_object.proofs.HeadsAt.{heads-length, head-at}
use Rattle.om_object.proofs.tables.first_table.Goals as goal

pub returns-then-breaks_head : goal.returns-then-breaks_head
returns-then-breaks_head c =
    let bytes = c.args.bytes.now in
    let k = c.loop-k.k in
    let test : ℕ → Bool = λ j. head_breaks c.args.rule bytes (head_of bytes j) in
    let below : k < section_count bytes = omega (arith, heads-length bytes c.args.heads.now c.requires, c.loop-k-test.true) in
    let head : c.index-heads-k.result ≡ head_of bytes k = c.index-heads-k.is ∙ head-at bytes c.args.heads.now k c.index-heads-k.result c.requires below in
    let holds : test k ≡ true = sym (c.breaks_head.ensures ∙ ap (head_breaks c.args.rule bytes) head) ∙ c.if-breaks_head.true in
    sym (picked-first test header_at (section_count bytes) k headers-rise below holds c.loop-k.invariant)

pub loop-k-preserved : goal.loop-k-preserved
loop-k-preserved c =
    let bytes = c.args.bytes.now in
    let k = c.loop-k.k in
    let test : ℕ → Bool = λ j. head_breaks c.args.rule bytes (head_of bytes j) in
    let below : k < section_count bytes = omega (arith, heads-length bytes c.args.heads.now c.requires, c.loop-k-test.true) in
    let head : c.index-heads-k.result ≡ head_of bytes k = c.index-heads-k.is ∙ head-at bytes c.args.heads.now k c.index-heads-k.result c.requires below in
    none-further test k c.loop-k.invariant (sym (c.breaks_head.ensures ∙ ap (head_breaks c.args.rule bytes) head) ∙ c.if-breaks_head.false)

pub returns : goal.returns
returns c =
    let bytes = c.args.bytes.now in
    sym (picked-none (λ j. head_breaks c.args.rule bytes (head_of bytes j)) header_at (section_count bytes)
    (λ j h. c.loop-k.invariant j (omega (arith, h, heads-length bytes c.args.heads.now c.requires, c.loop-k-test.false, c.loop-k.auto.k-end))))
