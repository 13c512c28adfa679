use Rattle.std.proofs.Common.{◌≡◌, ◌<◌, ◌^◌, ℕ, length, refl, sym, ◌∙◌, ap, arith, subst}
use Rattle.std.specs.Prelude.{Option, Some, None, IfNone}
use Rattle.om_fields.specs.Rules.{first_fault}
use Rattle.om_fields.specs.declared.head.Headers.{Headers}
use Rattle.om_symtab.specs.Symbols.{HasTables, symbol_rules}
use Rattle.om_object.specs.declared.parts.Parts.{Parts}
use Rattle.om_object.specs.declared.origin.Origins.{Origins}
use Rattle.om_object.specs.Rules.{rules_9_to_23, IsObject}
use Rattle.om_object.specs.Spots.{first_spot}
use Rattle.om_object.specs.Passes.{IsPlaced}
use Rattle.om_object.specs.File.{parts_of, origins_of, last_spot, sym_at, name_rules}
use Rattle.om_object.proofs.Chains.{whole-by, object-fault, object-unbroken, heads-kept}
use Rattle.om_object.proofs.Placed.{placed}
use Rattle.om_object.proofs.Made.{KeepsFile, made, last-none}
use Rattle.om_object.proofs.object.read_parts.Goals as goal

pub returns-in-Some : goal.returns-in-Some
returns-in-Some c =
    let bytes = c.args.bytes.now in
    let names : first_fault name_rules bytes ≡ Some (c.in-Some.rule, c.in-Some.at) =
    ap (λ (h : Headers). first_fault (symbol_rules h.sym_at) bytes) (sym c.in-Ok.ensures.reads.0) ∙ sym c.first_fault.ensures.gives ∙ c.in-Some.is in
    let fault = object-fault bytes c.in-Some.rule c.in-Some.at
    (whole-by bytes None (Some (c.in-Some.rule, c.in-Some.at)) _ _ c.in-Ok.ensures.reads.1 names refl refl) in
    record { reads = fault; object = tt }

pub part_fault-requires : goal.part_fault-requires
part_fault-requires c =
    let bytes = c.args.bytes.now in
    let short : length bytes < 2 ^ 63 = omega arith in
    let symbols : HasTables bytes (sym_at bytes) =
    subst (λ (h : Headers). HasTables bytes h.sym_at) c.in-Ok.ensures.reads.0
    (subst (λ (x : Option (ℕ × ℕ)). IfNone x (HasTables bytes c.in-Ok.headers.sym_at)) (c.in_default.is) c.first_fault.ensures.tables) in
    let here = placed bytes short (λ k. omega (arith, c.type_inv.bytes k)) c.in-Ok.ensures.fits symbols in
    subst (λ (p : Parts). IsPlaced p c.in_ok-parts.origins) (sym c.in_ok-parts.ensures.parts)
    (subst (λ (o : Origins). IsPlaced (parts_of bytes) o) (sym c.in_ok-parts.ensures.origins) here)

pub returns-in-Some-2 : goal.returns-in-Some-2
returns-in-Some-2 c =
    let bytes = c.args.bytes.now in
    let names : first_fault name_rules bytes ≡ None =
    ap (λ (h : Headers). first_fault (symbol_rules h.sym_at) bytes) (sym c.in-Ok.ensures.reads.0) ∙ sym c.first_fault.ensures.gives ∙ c.in_default.is in
    let spot : first_spot rules_9_to_23 (parts_of bytes) (origins_of bytes) ≡ Some (c.in-Some-2.rule, c.in-Some-2.at) =
    ap (λ (p : Parts). first_spot rules_9_to_23 p (origins_of bytes)) (sym c.in_ok-parts.ensures.parts)
    ∙ ap (λ (o : Origins). first_spot rules_9_to_23 c.in_ok-parts.parts o) (sym c.in_ok-parts.ensures.origins)
    ∙ sym c.in_ok-rule.ensures ∙ c.in-Some-2.is in
    let fault = object-fault bytes c.in-Some-2.rule c.in-Some-2.at
    (whole-by bytes None None (Some (c.in-Some-2.rule, c.in-Some-2.at)) _ c.in-Ok.ensures.reads.1 names spot refl) in
    record { reads = fault; object = tt }

pub last_fault-requires-clause-placed : goal.last_fault-requires-clause-placed
last_fault-requires-clause-placed c =
    let bytes = c.args.bytes.now in
    let short : length bytes < 2 ^ 63 = omega arith in
    let symbols : HasTables bytes (sym_at bytes) =
    subst (λ (h : Headers). HasTables bytes h.sym_at) c.in-Ok.ensures.reads.0
    (subst (λ (x : Option (ℕ × ℕ)). IfNone x (HasTables bytes c.in-Ok.headers.sym_at)) (c.in_default.is) c.first_fault.ensures.tables) in
    let here = placed bytes short (λ k. omega (arith, c.type_inv.bytes k)) c.in-Ok.ensures.fits symbols in
    subst (λ (p : Parts). IsPlaced p c.in_ok-parts.origins) (sym c.in_ok-parts.ensures.parts)
    (subst (λ (o : Origins). IsPlaced (parts_of bytes) o) (sym c.in_ok-parts.ensures.origins) here)

pub returns-in-Some-3 : goal.returns-in-Some-3
returns-in-Some-3 c =
    let bytes = c.args.bytes.now in
    let names : first_fault name_rules bytes ≡ None =
    ap (λ (h : Headers). first_fault (symbol_rules h.sym_at) bytes) (sym c.in-Ok.ensures.reads.0) ∙ sym c.first_fault.ensures.gives ∙ c.in_default.is in
    let spot : first_spot rules_9_to_23 (parts_of bytes) (origins_of bytes) ≡ None =
    ap (λ (p : Parts). first_spot rules_9_to_23 p (origins_of bytes)) (sym c.in_ok-parts.ensures.parts)
    ∙ ap (λ (o : Origins). first_spot rules_9_to_23 c.in_ok-parts.parts o) (sym c.in_ok-parts.ensures.origins)
    ∙ sym c.in_ok-rule.ensures ∙ c.in_default-2.is in
    let last : last_spot bytes (parts_of bytes) (origins_of bytes) ≡ Some (c.in-Some-3.rule, c.in-Some-3.at) =
    ap (λ (p : Parts). last_spot bytes p (origins_of bytes)) (sym c.in_ok-parts.ensures.parts)
    ∙ ap (λ (o : Origins). last_spot bytes c.in_ok-parts.parts o) (sym c.in_ok-parts.ensures.origins)
    ∙ sym c.in_ok-rule-2.ensures ∙ c.in-Some-3.is in
    let fault = object-fault bytes c.in-Some-3.rule c.in-Some-3.at
    (whole-by bytes None None None (Some (c.in-Some-3.rule, c.in-Some-3.at)) c.in-Ok.ensures.reads.1 names spot last) in
    record { reads = fault; object = tt }

pub returns : goal.returns
returns c =
    let bytes = c.args.bytes.now in
    let names : first_fault name_rules bytes ≡ None =
    ap (λ (h : Headers). first_fault (symbol_rules h.sym_at) bytes) (sym c.in-Ok.ensures.reads.0) ∙ sym c.first_fault.ensures.gives ∙ c.in_default.is in
    let spot : first_spot rules_9_to_23 (parts_of bytes) (origins_of bytes) ≡ None =
    ap (λ (p : Parts). first_spot rules_9_to_23 p (origins_of bytes)) (sym c.in_ok-parts.ensures.parts)
    ∙ ap (λ (o : Origins). first_spot rules_9_to_23 c.in_ok-parts.parts o) (sym c.in_ok-parts.ensures.origins)
    ∙ sym c.in_ok-rule.ensures ∙ c.in_default-2.is in
    let last : last_spot bytes (parts_of bytes) (origins_of bytes) ≡ None =
    ap (λ (p : Parts). last_spot bytes p (origins_of bytes)) (sym c.in_ok-parts.ensures.parts)
    ∙ ap (λ (o : Origins). last_spot bytes c.in_ok-parts.parts o) (sym c.in_ok-parts.ensures.origins)
    ∙ sym c.in_ok-rule-2.ensures ∙ c.in_default-3.is in
    let heads = c.in-Ok.ensures.reads.1 in
    let rest = last-none bytes (parts_of bytes) (origins_of bytes) last in
    let keeps : KeepsFile bytes = record {
      bytes = λ k. omega (arith, c.type_inv.bytes k);
      sections = c.in-Ok.ensures.fits;
      apart = (heads-kept bytes heads).1.1;
      counts = rest.1.0;
    } in
    record {
      reads = (c.in_ok-parts.ensures.parts, object-unbroken bytes (whole-by bytes None None None None heads names spot last));
      object = subst (λ (p : Parts). IsObject p) (sym c.in_ok-parts.ensures.parts) (made bytes keeps (origins_of bytes) spot rest.0 rest.1.1);
    }
