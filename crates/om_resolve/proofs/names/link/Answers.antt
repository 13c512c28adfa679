use Rattle.std.proofs.Common.{◌≡◌, List, length, map, fold, ap, sym, ◌∙◌, arith}
use Rattle.std.specs.Prelude.{replicate}
use Rattle.std.proofs.lemmas.List.{length-map}
use Rattle.om_fields.specs.Places.{joined}
use Rattle.om_object.specs.declared.parts.Parts.{Parts}
use Rattle.om_symtab.specs.declared.symbol.ExtSym.{ExtSym}
use Rattle.om_resolve.specs.declared.definition.Known.{Known}
use Rattle.om_resolve.specs.Names.{Name, Seen, object_at, names_of, number_of, number_in, seen_in}
use Rattle.om_resolve.specs.Known.{noted, unknown}
use Rattle.om_resolve.specs.Linked.{names_in, bytes_of, known_of}
use Rattle.om_resolve.proofs.Meanings.{all_known}
use Rattle.om_resolve.proofs.names.link.Goals as goal

pub returns-clause-linked : goal.returns-clause-linked
unfolding number_of
returns-clause-linked c =
    let objects = c.args.objects.now in
    let names : names_in c.in_ok-names.names ≡ names_of objects = c.in_ok-names.ensures in
    let seen : List Seen = joined (λ i. seen_in i (object_at objects i)) (length objects) in
    let start : c.in_ok-known.known.items ≡ replicate (length (names_of objects)) unknown =
    c.in_ok-known.ensures.items_if_clones_equal (λ y e. e) ∙ ap (λ n. replicate n unknown) (c.len-2.ensures.len ∙ sym (length-map c.in_ok-names.names.keys bytes_of) ∙ ap (λ (ns : List Name). length ns) names) in
    let known : c.note_objects.new.known.items ≡ map (known_of objects) (names_of objects) =
    c.in_ok-numbers.ensures.known ∙ ap (λ (ns : List Name). fold (noted objects ns) c.in_ok-known.known.items seen) names
    ∙ ap (λ (ks : List Known). fold (noted objects (names_of objects)) ks seen) start ∙ all_known objects in
    record {
      sound = c.in_ok-starts.ensures.sound;
      names = names;
      numbers = c.in_ok-numbers.ensures.numbers ∙ ap (λ (ns : List Name). map (λ (p : Parts). map (λ (y : ExtSym). number_in ns y.name) p.symbols) objects) names;
      known = known;
      starts = c.in_ok-starts.ensures.starts;
      words = c.in_ok-starts.ensures.words;
      few = c.requires;
      short = omega (arith, ap (λ (ks : List Known). length ks) known, length-map (names_of objects) (known_of objects), ap (λ (ns : List Name). length ns) names, length-map c.in_ok-names.names.keys bytes_of, c.len.ensures.len, c.if-len-ge4294967296.false);
    }
