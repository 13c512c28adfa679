use Rattle.std.proofs.Common.{◌≡◌, ℕ, ◌<◌, List, [], length, ap, sym, ◌∙◌, arith, slice_index_or}
use Rattle.std.specs.Prelude.{Option, Some, None, slice_get, option_map, unwrap_or}
use Rattle.om_resolve.specs.declared.causes.ResolveErr.TheVariants.{Duplicate}
use Rattle.om_resolve.specs.declared.definition.Known.{Known}
use Rattle.om_resolve.specs.Names.{Name, Seen, names_of, defining, common_sizes, greatest}
use Rattle.om_resolve.specs.Causes.{duplicate, two_of}
use Rattle.om_resolve.specs.Linked.{known_at}
use Rattle.om_resolve.proofs.Steps.{get_here}
use Rattle.om_resolve.proofs.Given.{given_more, given_here, given_whole, two_here, none_here}
use Rattle.om_resolve.proofs.Knowing.{first_all, second_all}
use Rattle.om_resolve.proofs.Meanings.{known_length, known_there}
use Rattle.std.proofs.lemmas.Option.{slice_get_read}
use Rattle.om_resolve.proofs.resolving.check_duplicates.Goals as goal

pub returns-in-Some : goal.returns-in-Some
unfolding duplicate
returns-in-Some c =
    let objects = c.args.l.now.objects.now in
    let ns = names_of objects in
    let k = c.loop-k.k in
    let n : Name = slice_index_or ns k [] in
    let len = known_length c.args.l.now c.requires in
    let below : k < length ns = omega (arith, len, c.len-k-end.ensures, c.loop-k-test.true) in
    let here : slice_get ns k ≡ Some n = get_here ns k [] below in
    let at : known_at c.args.l.now k ≡ Some c.index-known.result.now =
    slice_get_read c.args.l.now.known.items (length ns) k c.index-known.result.now (sym len) below c.index-known.ensures in
    let is = known_there c.args.l.now c.requires k n c.index-known.result.now here at in
    let ds : List Seen = defining objects n in
    let second : option_map (λ (s : Seen). s.obj) (slice_get ds 1) ≡ Some c.in-Some.second =
    sym (second_all objects (greatest (common_sizes objects n)) ds) ∙ ap (λ (x : Known). x.second) (sym is) ∙ c.in-Some.is in
    let first : c.unwrap_or.result ≡ unwrap_or (option_map (λ (s : Seen). s.obj) (slice_get ds 0)) 0 =
    c.unwrap_or.ensures ∙ ap (λ (x : Known). unwrap_or x.first 0) is ∙ ap (λ (o : Option ℕ). unwrap_or o 0) (first_all objects (greatest (common_sizes objects n)) ds) in
    given_here (λ m. two_of m (defining objects m)) ns k [] _ below c.loop-k.invariant (two_here n ds c.in-Some.second second)
    ∙ ap (λ a. Some (Duplicate n a c.in-Some.second)) (sym first) ∙ ap (λ m. Some (Duplicate m c.unwrap_or.result c.in-Some.second)) (sym c.in_ok-name.ensures)

pub loop-k-preserved : goal.loop-k-preserved
loop-k-preserved c =
    let objects = c.args.l.now.objects.now in
    let ns = names_of objects in
    let k = c.loop-k.k in
    let n : Name = slice_index_or ns k [] in
    let len = known_length c.args.l.now c.requires in
    let below : k < length ns = omega (arith, len, c.len-k-end.ensures, c.loop-k-test.true) in
    let here : slice_get ns k ≡ Some n = get_here ns k [] below in
    let at : known_at c.args.l.now k ≡ Some c.index-known.result.now =
    slice_get_read c.args.l.now.known.items (length ns) k c.index-known.result.now (sym len) below c.index-known.ensures in
    let is = known_there c.args.l.now c.requires k n c.index-known.result.now here at in
    let ds : List Seen = defining objects n in
    let second : option_map (λ (s : Seen). s.obj) (slice_get ds 1) ≡ None =
    sym (second_all objects (greatest (common_sizes objects n)) ds) ∙ ap (λ (x : Known). x.second) (sym is) ∙ c.in_default.is in
    given_more (λ m. two_of m (defining objects m)) ns k [] below c.loop-k.invariant (none_here n ds second)

pub returns : goal.returns
unfolding duplicate
returns c =
    let objects = c.args.l.now.objects.now in
    let len = known_length c.args.l.now c.requires in
    given_whole (λ m. two_of m (defining objects m)) (names_of objects) c.loop-k.k (omega (arith, len, c.len-k-end.ensures, c.loop-k-test.false)) c.loop-k.invariant
