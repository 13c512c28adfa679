-- How often a target is loaded, by the tables and by the blocks.
use Rattle.std.proofs.Common.{◌≡◌, ◌⊎◌, inl, inr, ℕ, zero, suc, ◌+◌, List, [], ◌∷◌, ◌++◌, take, drop, length, get_or, set, cond, refl, sym, ap, subst, ◌∙◌, arith}
use Rattle.std.proofs.lemmas.Bool.{cases_eq}
use Rattle.std.proofs.lemmas.List.{get_or-set_other, drop_more}
use Rattle.om_value.specs.declared.value.Target.{Target}
use Rattle.om_value.specs.declared.value.Target.TheVariants as target
use Rattle.om_value.specs.Same.{target_eq}
use Rattle.om_graph.specs.View.{Block, GraphView, Has}
use Rattle.om_graph.specs.Held.{IsGraph, Apart, block_ids}
use Rattle.om_uses.specs.declared.tables.BlockUses.{BlockUses}
use Rattle.om_uses.specs.declared.tables.Load.{Load}
use Rattle.om_uses.specs.Parts.{Kept, AreLoads, IsUsesOf, block_uses, loads_of, no_block}
use Rattle.om_uses.specs.Readers.{count_in, loads_in}
use Rattle.om_uses.specs.Installed.{count_loads, loads_kept}
use Rattle.om_uses.proofs.Links.{NoneNumbered}

abbrev loads_at : List Load → BlockUses → List Load
loads_at loads b = take b.count (drop b.start loads)

-- the loads of a block in their places
in_places : (t : Target) (loads : List Load) (start i : ℕ) (ts : List Target) → AreLoads loads start i ts → count_loads t (take (length ts) (drop start loads)) ≡ count_in t ts
in_places t loads start i [] are = none (drop start loads)
  where
    none : (ls : List Load) → count_loads t (take 0 ls) ≡ 0
    none ls = refl
in_places t loads start i (x ∷ ts) are =
    let here : Load = record { target = x; block = i } in
    let first : drop start loads ≡ here ∷ drop (start + 1) loads = drop_more loads start here are.0 ∙ ap (λ (l : Load). l ∷ drop (start + 1) loads) (are.1 here) in
    ap (λ (ls : List Load). count_loads t (take (length (x ∷ ts)) ls)) first
    ∙ ap (λ (n : ℕ). cond (target_eq x t) 1 0 + n) (in_places t loads (start + 1) i ts are.2)

without : (t : Target) (loads : List Load) (ps : List BlockUses) (i : ℕ) → loads_kept t loads (set ps i no_block) + count_loads t (loads_at loads (get_or ps i no_block)) ≡ loads_kept t loads ps
without t loads [] i = refl
without t loads (p ∷ ps) zero = let a = loads_kept t loads ps in let b = count_loads t (loads_at loads p) in omega arith
without t loads (p ∷ ps) (suc i) = let e = without t loads ps i in omega (arith, e)

none_kept : (t : Target) (loads : List Load) (ps : List BlockUses) → ((i : ℕ) → get_or ps i no_block ≡ no_block) → loads_kept t loads ps ≡ 0
none_kept t loads [] none = refl
none_kept t loads (p ∷ ps) none =
    let e : count_loads t (loads_at loads p) ≡ 0 = ap (λ (q : BlockUses). count_loads t (loads_at loads q)) (none 0) in
    omega (arith, e, none_kept t loads ps (λ i. none (suc i)))

emptied : (ps : List BlockUses) (i : ℕ) → get_or (set ps i no_block) i no_block ≡ no_block
emptied [] i = refl
emptied (p ∷ ps) zero = refl
emptied (p ∷ ps) (suc i) = emptied ps i

has_id : (bs : List Block) (b : Block) → Has bs b → Has (block_ids bs) b.id
has_id [] b h = absurd h
has_id (c ∷ bs) b (inl e) = inl (ap (λ (x : Block). x.id) e)
has_id (c ∷ bs) b (inr h) = inr (has_id bs b h)

same_loads :
    (t : Target) (loads : List Load) (bs : List Block) (ps : List BlockUses) → Apart (block_ids bs) → ((b : Block) → Has bs b → count_loads t (loads_at loads (get_or ps b.id no_block)) ≡ count_in t (loads_of b.ops)) →
    ((i : ℕ) → NoneNumbered bs i → get_or ps i no_block ≡ no_block) → loads_kept t loads ps ≡ loads_in t bs
same_loads t loads [] ps ids kept none = none_kept t loads ps (λ i. none i (λ c h e. h))
same_loads t loads (b ∷ bs) ps ids kept none =
    let rest = same_loads t loads bs (set ps b.id no_block) ids.1
    (λ c h. ap (λ (q : BlockUses). count_loads t (loads_at loads q)) (get_or-set_other ps b.id c.id no_block no_block (λ e. ids.0 (subst (λ (i : ℕ). Has (block_ids bs) i) e (has_id bs c h)))) ∙ kept c (inr h))
    (λ i free. by_eq i free (cases_eq i b.id)) in
    let here = kept b (inl refl) in
    omega (arith, rest, here, without t loads ps b.id)
  where
    by_eq : (i : ℕ) → NoneNumbered bs i → (i ≡ b.id) ⊎ (i ≡ b.id → ⊥) → get_or (set ps b.id no_block) i no_block ≡ no_block
    by_eq i free (inl e) = subst (λ (k : ℕ). get_or (set ps b.id no_block) k no_block ≡ no_block) (sym e) (emptied ps b.id)
    by_eq i free (inr differs) = get_or-set_other ps b.id i no_block no_block differs ∙ none i (λ c h e. by_has c h e)
      where
        by_has : (c : Block) → Has (b ∷ bs) c → c.id ≡ i → ⊥
        by_has c (inl s) e = differs (sym e ∙ ap (λ (x : Block). x.id) (sym s))
        by_has c (inr h) e = free c h e

pub loads_are : (t : Target) (g : GraphView) (u : Kept) → IsGraph g → IsUsesOf g u → loads_kept t u.loads u.blocks ≡ loads_in t g.blocks
loads_are t g u graph is = same_loads t u.loads g.blocks u.blocks graph.block_ids (λ b h. counted b h) (λ i free. (is.all i).gone free)
  where
    counted : (b : Block) → Has g.blocks b → count_loads t (loads_at u.loads (get_or u.blocks b.id no_block)) ≡ count_in t (loads_of b.ops)
    counted b h =
        let k = (is.all b.id).kept b h refl in
        ap (λ (q : BlockUses). count_loads t (loads_at u.loads q)) k.end ∙ in_places t u.loads k.start b.id (loads_of b.ops) k.loads
