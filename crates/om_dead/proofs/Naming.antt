-- To what a block leads by its words: by number, and by the kept set's steps.
use Rattle.std.proofs.Common.{◌≡◌, ◌⊎◌, inl, inr, ℕ, Bool, List, Option, Some, None, refl, sym, ap, ◌∙◌, subst}
use Rattle.std.specs.Prelude.{map, flat_map}
use Rattle.om_isa.specs.declared.instr.Instr.{Instr}
use Rattle.om_isa.specs.declared.instr.Instr.TheVariants.{Mem, Jump, Branch, Alu, Cmov, Misc, Fnop, Halt, Callsys}
use Rattle.om_value.specs.declared.value.Place.{Place}
use Rattle.om_value.specs.declared.value.Target.{Target}
use Rattle.om_prog.specs.Act.{Act, Word}
use Rattle.om_prog.specs.Act as act
use Rattle.om_prog.specs.Step.{next_place}
use Rattle.om_graph.specs.declared.op.Op.{Op}
use Rattle.om_graph.specs.declared.op.OpKind.{OpKind}
use Rattle.om_graph.specs.declared.op.OpKind.TheVariants as op
use Rattle.om_graph.specs.declared.op.Last.{Last}
use Rattle.om_graph.specs.declared.op.Last.TheVariants as last
use Rattle.om_graph.specs.View.{Block, GraphView, Has, ops_of, labelled}
use Rattle.om_graph.specs.Held.{IsGraph}
use Rattle.om_graph.specs.Form.{LastForm}
use Rattle.om_graph.specs.Run.{op_act, op_word, use_of, target_at, last_words, block_words}
use Rattle.om_graph.specs.Outs.{act_links}
use Rattle.om_graph.specs.Kept.{loads, names, Links, IsInKeptSet, named, behind, KeptInBlocks}
use Rattle.om_graph.proofs.Labels.{has_append, append_left, append_right}
use Rattle.om_graph.proofs.Outs.{links_of, of_links}
use Rattle.om_blocks.specs.declared.exits.Exit.TheVariants as exit
use Rattle.om_blocks.specs.IsFlow.{HasFlow}
use Rattle.om_blocks.specs.Exits.{exit_at, last_exit}
use Rattle.om_blocks.specs.Filling.{act_codes, word_lands}
use Rattle.om_blocks.proofs.LastWords.{has_op, flat_has, has_flat, codes_load, load_codes, link_list, link_has}
use Rattle.om_blocks.proofs.Entering.{to_block, labelled_block, fallen_block, fallen_next}
use Rattle.om_dead.specs.Finding.{LeadsTo}
use Rattle.om_dead.proofs.Falling.{fallen_kept}

-- ---- what a word names

-- a branch to a place
abbrev IsTo : Act → Place → Type 0
IsTo (act.To op ra to) q = to ≡ q
IsTo _ q = ⊥

load_or_branch : (a : Act) (q : Place) → names a q → loads a q ⊎ IsTo a q
load_or_branch (act.Lit ra rb t) q h = inl h
load_or_branch (act.To op ra to) q h = inr h
load_or_branch (act.Plain i) q h = absurd h
load_or_branch (act.GpHi ra rb base) q h = absurd h
load_or_branch (act.GpLo ra rb hi) q h = absurd h
load_or_branch (act.AddrLda ra rb t) q h = absurd h
load_or_branch (act.AddrHi ra rb t) q h = absurd h
load_or_branch (act.UseLo i hi t) q h = absurd h
load_or_branch (act.UseGp i gp t) q h = absurd h
load_or_branch act.Wrong q h = absurd h

load_names : (a : Act) (q : Place) → loads a q → names a q
load_names (act.Lit ra rb t) q h = h
load_names (act.To op ra to) q h = absurd h
load_names (act.Plain i) q h = absurd h
load_names (act.GpHi ra rb base) q h = absurd h
load_names (act.GpLo ra rb hi) q h = absurd h
load_names (act.AddrLda ra rb t) q h = absurd h
load_names (act.AddrHi ra rb t) q h = absurd h
load_names (act.UseLo i hi t) q h = absurd h
load_names (act.UseGp i gp t) q h = absurd h
load_names act.Wrong q h = absurd h

-- an op is no branch
op_stays : (ops : List Op) (k : OpKind) (q : Place) → IsTo (op_act ops k) q → ⊥
op_stays ops (op.Plain i) q h = h
op_stays ops (op.Lit ra rb t) q h = h
op_stays ops (op.AddrLda ra rb t) q h = h
op_stays ops (op.AddrHi ra rb t least) q h = h
op_stays ops (op.UseGp i gp t) q h = h
op_stays ops (op.GpHi ra rb base) q h = h
op_stays ops (op.GpLo ra rb hi) q h = h
op_stays ops (op.UseLo i hi) q h = by_target (target_at ops hi) h
  where
    by_target : (o : Option Target) → IsTo (use_of i hi o) q → ⊥
    by_target None h = h
    by_target (Some t) h = h

-- the branch that ends a block is its exit
last_goes : (g : GraphView) (l : Last) (w : Word) (q : Place) → Has (last_words l) w → IsTo w.act q → last_exit g l ≡ exit_at (labelled g q)
last_goes g last.Fall w q h t = absurd h
last_goes g last.Off w q h t = absurd h
last_goes g (last.Br at op ra to) w q (inl e) t = ap (λ (x : Place). exit_at (labelled g x)) (subst (λ (v : Word). IsTo v.act q) (sym e) t)
last_goes g (last.Br at op ra to) w q (inr h) t = absurd h
last_goes g (last.Call at op ra to) w q (inl e) t = ap (λ (x : Place). exit_at (labelled g x)) (subst (λ (v : Word). IsTo v.act q) (sym e) t)
last_goes g (last.Call at op ra to) w q (inr h) t = absurd h
last_goes g (last.CallBy at i) w q (inl e) t = absurd (subst (λ (v : Word). IsTo v.act q) (sym e) t)
last_goes g (last.CallBy at i) w q (inr h) t = absurd h
last_goes g (last.JumpBy at i) w q (inl e) t = absurd (subst (λ (v : Word). IsTo v.act q) (sym e) t)
last_goes g (last.JumpBy at i) w q (inr h) t = absurd h
last_goes g (last.Cond at i to) w q h t = by_instr i h
  where
    by_instr : (i : Instr) → Has (last_words (last.Cond at i to)) w → last_exit g (last.Cond at i to) ≡ exit_at (labelled g q)
    by_instr (Branch op ra d) (inl e) = ap (λ (x : Place). exit_at (labelled g x)) (subst (λ (v : Word). IsTo v.act q) (sym e) t)
    by_instr (Branch op ra d) (inr k) = absurd k
    by_instr (Mem op ra rb d) (inl e) = absurd (subst (λ (v : Word). IsTo v.act q) (sym e) t)
    by_instr (Mem op ra rb d) (inr k) = absurd k
    by_instr (Jump k ra rb hint) (inl e) = absurd (subst (λ (v : Word). IsTo v.act q) (sym e) t)
    by_instr (Jump k ra rb hint) (inr m) = absurd m
    by_instr (Alu op ra rb rc) (inl e) = absurd (subst (λ (v : Word). IsTo v.act q) (sym e) t)
    by_instr (Alu op ra rb rc) (inr k) = absurd k
    by_instr (Cmov k ra rb rc) (inl e) = absurd (subst (λ (v : Word). IsTo v.act q) (sym e) t)
    by_instr (Cmov k ra rb rc) (inr m) = absurd m
    by_instr (Misc op ra rb) (inl e) = absurd (subst (λ (v : Word). IsTo v.act q) (sym e) t)
    by_instr (Misc op ra rb) (inr k) = absurd k
    by_instr Fnop (inl e) = absurd (subst (λ (v : Word). IsTo v.act q) (sym e) t)
    by_instr Fnop (inr k) = absurd k
    by_instr Halt (inl e) = absurd (subst (λ (v : Word). IsTo v.act q) (sym e) t)
    by_instr Halt (inr k) = absurd k
    by_instr Callsys (inl e) = absurd (subst (λ (v : Word). IsTo v.act q) (sym e) t)
    by_instr Callsys (inr k) = absurd k

-- ---- a block leads to what its words name

pub named_leads : (g : GraphView) (b : Block) (w : Word) (q : Place) (id : ℕ) → Has (block_words b) w → names w.act q → labelled g q ≡ Some id → LeadsTo g b id
named_leads g b w q id h n e = by_case (load_or_branch w.act q n)
  where
    by_place : Has (map (op_word (ops_of b)) (ops_of b)) w ⊎ Has (last_words b.last) w → IsTo w.act q → LeadsTo g b id
    by_place (inl k) t =
        let o = has_op (op_word (ops_of b)) (ops_of b) w k in
        absurd (op_stays (ops_of b) (o.0).kind q (subst (λ (v : Word). IsTo v.act q) (sym o.2) t))
    by_place (inr k) t = inl (inl (last_goes g b.last w q k t ∙ ap exit_at e))

    by_case : loads w.act q ⊎ IsTo w.act q → LeadsTo g b id
    by_case (inl l) = inr (q, has_flat word_lands (block_words b) w q h (append_left (act_codes w.act) (link_list (act_links w.act) (next_place w.at)) q (load_codes w.act q l)), e)
    by_case (inr t) = by_place (has_append (map (op_word (ops_of b)) (ops_of b)) (last_words b.last) w h) t

pub linked_leads : (g : GraphView) (b : Block) (w : Word) (id : ℕ) → Has (block_words b) w → Links w.act → labelled g (next_place w.at) ≡ Some id → LeadsTo g b id
linked_leads g b w id h l e =
    inr (
      next_place w.at,
      has_flat word_lands (block_words b) w (next_place w.at) h
          (append_right (act_codes w.act) (link_list (act_links w.act) (next_place w.at)) (next_place w.at) (subst (λ (t : Bool). Has (link_list t (next_place w.at)) (next_place w.at)) (sym (of_links w.act l)) (inl refl))),
      e,
    )

-- ---- what a block of the kept set leads to is in it

lands_kept : (g : GraphView) (b : Block) (q : Place) → Has g.blocks b → IsInKeptSet g b.label → Has (flat_map word_lands (block_words b)) q → IsInKeptSet g q
lands_kept g b q hb k h =
    let r = flat_has word_lands (block_words b) q h in
    by_case r.0 r.1 (has_append (act_codes (r.0).act) (link_list (act_links (r.0).act) (next_place (r.0).at)) q r.2)
  where
    by_case : (w : Word) → Has (block_words b) w → Has (act_codes w.act) q ⊎ Has (link_list (act_links w.act) (next_place w.at)) q → IsInKeptSet g q
    by_case w m (inl c) = named b w q hb k m (load_names w.act q (codes_load w.act q c))
    by_case w m (inr c) =
        let r = link_has (act_links w.act) (next_place w.at) q c in
        subst (λ (x : Place). IsInKeptSet g x) r.1 (behind b w hb k m (links_of w.act r.0))

-- the word that ends a block names where that goes
abbrev EndNames : GraphView → Last → ℕ → Type 0
EndNames g l id = (q : Place) × (w : Word) × Has (last_words l) w × names w.act q × (labelled g q ≡ Some id)

end_names : (g : GraphView) (l : Last) (id : ℕ) → LastForm l → last_exit g l ≡ exit.Block id → EndNames g l id
end_names g last.Fall id f e = cc
end_names g last.Off id f e = cc
end_names g (last.Br at op ra to) id f e = (to, record { at = at; act = act.To op ra to }, inl refl, refl, to_block (labelled g to) id e)
end_names g (last.Call at op ra to) id f e = (to, record { at = at; act = act.To op ra to }, inl refl, refl, to_block (labelled g to) id e)
end_names g (last.CallBy at i) id f e = cc
end_names g (last.JumpBy at i) id f e = cc
end_names g (last.Cond at i to) id f e = by_instr i f
  where
    by_instr : (i : Instr) → LastForm (last.Cond at i to) → EndNames g (last.Cond at i to) id
    by_instr (Branch op ra d) f = (to, record { at = at; act = act.To op ra to }, inl refl, refl, to_block (labelled g to) id e)
    by_instr (Mem op ra rb d) f = absurd f
    by_instr (Jump k ra rb h) f = absurd f
    by_instr (Alu op ra rb rc) f = absurd f
    by_instr (Cmov k ra rb rc) f = absurd f
    by_instr (Misc op ra rb) f = absurd f
    by_instr Fnop f = absurd f
    by_instr Halt f = absurd f
    by_instr Callsys f = absurd f

-- the kept block of a number, in the kept set
abbrev pub IsKeptNumber : GraphView → ℕ → Type 0
IsKeptNumber g id = (n : Block) × Has g.blocks n × (n.id ≡ id) × IsInKeptSet g n.label

pub place_kept : (g : GraphView) (q : Place) (id : ℕ) → labelled g q ≡ Some id → IsInKeptSet g q → IsKeptNumber g id
place_kept g q id e k = let r = labelled_block g q id e in (r.0, r.1, r.3, subst (λ (x : Place). IsInKeptSet g x) (sym r.2) k)

pub leads_kept : (g : GraphView) → IsGraph g → HasFlow g → KeptInBlocks g → (b : Block) (id : ℕ) → Has g.blocks b → IsInKeptSet g b.label → LeadsTo g b id → IsKeptNumber g id
leads_kept g graph flow kept b id hb k (inl (inl e)) =
    let r = end_names g b.last id (flow.form.lasts b hb) e in
    place_kept g r.0 id r.4 (named b r.1 r.0 hb k (append_right (map (op_word (ops_of b)) (ops_of b)) (last_words b.last) r.1 r.2) r.3)
leads_kept g graph flow kept b id hb k (inl (inr e)) =
    let r = fallen_block g b.id b.last id e in
    let f = fallen_next g graph flow b r.0 hb r.1 (e ∙ ap Some (sym r.2)) in
    (r.0, r.1, r.2, fallen_kept g graph flow kept b r.0 hb f.0 f.1 f.2 k)
leads_kept g graph flow kept b id hb k (inr (q, h, e)) = place_kept g q id e (lands_kept g b q hb k h)
