-- Texts of a program, as its vectors hold them.
use Rattle.std.proofs.Common.{◌≡◌, [], ◌∷◌, refl, suc, ℕ, ◌<◌, ◌≤◌, List, Vec, length, Some, None, sym, ap, subst, ◌∙◌}
use Rattle.std.specs.Prelude.{get_or, option_map}
use Rattle.std.specs.List.{slice_get}
use Rattle.std.proofs.lemmas.Option.{slice_get-map, slice_get-get_or, slice_get_past}
use Rattle.om_prog.specs.declared.item.Item.{Item}
use Rattle.om_prog.specs.View.{items_lists}

pub text_found :
    {A : Type 0} → (vs ws : List (Vec Item A)) (k : ℕ) (v : Vec Item A) → ws ≡ vs → k < length ws →
    v ≡ get_or ws k v → slice_get (items_lists vs) k ≡ Some v.items
text_found vs ws k v same h e =
    subst
    (λ us. slice_get (items_lists us) k ≡ Some v.items)
    same
    (slice_get-map (λ v. v.items) ws k ∙
    ap (λ o. option_map (λ v. v.items) o) (slice_get-get_or ws k v h ∙ ap (λ w. Some w) (sym e)))

pub text_missing : {A : Type 0} → (vs : List (Vec Item A)) (k : ℕ) → length vs ≤ k → slice_get (items_lists vs) k ≡ None
text_missing vs k h = slice_get-map (λ v. v.items) vs k ∙ ap (λ o. option_map (λ v. v.items) o) (slice_get_past vs k h)

pub as_many : {A : Type 0} → (vs : List (Vec Item A)) → length (items_lists vs) ≡ length vs
as_many [] = refl
as_many (v ∷ vs) = ap (λ n. suc n) (as_many vs)
