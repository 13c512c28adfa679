-- The calls that end blocks, by their words.
use Rattle.std.proofs.Common.{◌≡◌, inl, inr, ℕ, Bool, true, false, cond, ◌==◌, [], ◌∷◌, Some, refl, sym, ap, ◌∙◌, subst}
use Rattle.std.proofs.lemmas.Bool.{eqb-true, eq-eqb}
use Rattle.om_isa.specs.declared.instr.BrOp.{BrOp}
use Rattle.om_isa.specs.declared.instr.BrOp.TheVariants.{Br as Straight, Bsr, If}
use Rattle.om_isa.specs.declared.instr.JumpOp.TheVariants.{Jmp, Jsr, Ret, Jcr}
use Rattle.om_isa.specs.declared.instr.Instr.{Instr}
use Rattle.om_isa.specs.declared.instr.Instr.TheVariants.{Mem, Jump, Branch, Alu, Cmov, Misc, Fnop, Halt, Callsys}
use Rattle.om_value.specs.declared.value.Place.{Place}
use Rattle.om_prog.specs.Act.{Act, Plain, To, Word}
use Rattle.om_prog.specs.Flow.{act_jumps}
use Rattle.om_graph.specs.declared.op.Last.{Last}
use Rattle.om_graph.specs.declared.op.Last.TheVariants as last
use Rattle.om_graph.specs.View.{Block, GraphView, Has}
use Rattle.om_graph.specs.Run.{block_words, last_words, cond_act}
use Rattle.om_graph.specs.Form.{InForm}
use Rattle.om_checks.proofs.Edges.{jump_word, one_last}
use Rattle.om_calls.specs.declared.ends.RegisterCall.{RegisterCall}
use Rattle.om_calls.specs.declared.ends.PlaceCall.{PlaceCall}
use Rattle.om_calls.specs.Ends.{jsr_at, jsr_of, bsr_at, bsr_of, end_with}

-- ---- calls by a register

-- a JSR with this register and hint ends the block, by a jump that links or by one that does not
pub data EndsInJsr (l : Last) (c : RegisterCall) : Type 0 where
  links : (rb hint : ℕ) → l ≡ last.CallBy c.at (Jump Jsr c.ra rb hint) → EndsInJsr l c
  leaves : (rb hint : ℕ) → l ≡ last.JumpBy c.at (Jump Jsr c.ra rb hint) → EndsInJsr l c

pub record IsJsr (at : Place) (i : Instr) (c : RegisterCall) : Type 0 where
  pub rb : ℕ
  pub hint : ℕ
  pub place : at ≡ c.at
  pub is : i ≡ Jump Jsr c.ra rb hint

jsr_is : (at : Place) (i : Instr) (c : RegisterCall) → jsr_at at i ≡ Some c → IsJsr at i c
jsr_is at (Jump Jsr ra rb hint) c e =
    let s : record { at = at; ra = ra } ≡ c = cc in
    subst (λ (x : RegisterCall). IsJsr at (Jump Jsr ra rb hint) x) s (record { rb = rb; hint = hint; place = refl; is = refl })
jsr_is at (Jump Jmp ra rb hint) c e = cc
jsr_is at (Jump Ret ra rb hint) c e = cc
jsr_is at (Jump Jcr ra rb hint) c e = cc
jsr_is at (Mem o ra rb d) c e = cc
jsr_is at (Branch o ra d) c e = cc
jsr_is at (Alu o ra rb rc) c e = cc
jsr_is at (Cmov k ra rb rc) c e = cc
jsr_is at (Misc o ra rb) c e = cc
jsr_is at Fnop c e = cc
jsr_is at Halt c e = cc
jsr_is at Callsys c e = cc

pub ends_in_jsr : (l : Last) (c : RegisterCall) → jsr_of l ≡ Some c → EndsInJsr l c
ends_in_jsr (last.CallBy at i) c e =
    let j = jsr_is at i c e in
    links j.rb j.hint (ap (λ (p : Place). last.CallBy p i) j.place ∙ ap (λ (x : Instr). last.CallBy c.at x) j.is)
ends_in_jsr (last.JumpBy at i) c e =
    let j = jsr_is at i c e in
    leaves j.rb j.hint (ap (λ (p : Place). last.JumpBy p i) j.place ∙ ap (λ (x : Instr). last.JumpBy c.at x) j.is)
ends_in_jsr last.Fall c e = cc
ends_in_jsr last.Off c e = cc
ends_in_jsr (last.Br at o ra to) c e = cc
ends_in_jsr (last.Cond at i to) c e = cc
ends_in_jsr (last.Call at o ra to) c e = cc

-- the word that ends the block
pub jsr_word : (l : Last) (c : RegisterCall) → EndsInJsr l c → (rb : ℕ) × (hint : ℕ) × (last_words l ≡ record { at = c.at; act = Plain (Jump Jsr c.ra rb hint) } ∷ [])
jsr_word l c (links rb hint e) = (rb, hint, ap last_words e)
jsr_word l c (leaves rb hint e) = (rb, hint, ap last_words e)

cond_not_plain : (i : Instr) (q : Place) (j : Instr) → cond_act i q ≡ Plain j → ⊥
cond_not_plain (Branch o ra d) q j e = cc
cond_not_plain (Mem o ra rb d) q j e = cc
cond_not_plain (Jump k ra rb h) q j e = cc
cond_not_plain (Alu o ra rb rc) q j e = cc
cond_not_plain (Cmov k ra rb rc) q j e = cc
cond_not_plain (Misc o ra rb) q j e = cc
cond_not_plain Fnop q j e = cc
cond_not_plain Halt q j e = cc
cond_not_plain Callsys q j e = cc

jsr_last : (l : Last) (w : Word) (ra rb hint : ℕ) → Has (last_words l) w → w.act ≡ Plain (Jump Jsr ra rb hint) → jsr_of l ≡ Some (record { at = w.at; ra = ra })
jsr_last last.Fall w ra rb hint h e = absurd h
jsr_last last.Off w ra rb hint h e = absurd h
jsr_last (last.Br at o r to) w ra rb hint (inl s) e = let d : To o r to ≡ Plain (Jump Jsr ra rb hint) = ap (λ (x : Word). x.act) s ∙ e in cc
jsr_last (last.Br at o r to) w ra rb hint (inr n) e = absurd n
jsr_last (last.Cond at i to) w ra rb hint (inl s) e = absurd (cond_not_plain i to (Jump Jsr ra rb hint) (ap (λ (x : Word). x.act) s ∙ e))
jsr_last (last.Cond at i to) w ra rb hint (inr n) e = absurd n
jsr_last (last.Call at o r to) w ra rb hint (inl s) e = let d : To o r to ≡ Plain (Jump Jsr ra rb hint) = ap (λ (x : Word). x.act) s ∙ e in cc
jsr_last (last.Call at o r to) w ra rb hint (inr n) e = absurd n
jsr_last (last.CallBy at i) w ra rb hint (inl s) e =
    let d : Plain i ≡ Plain (Jump Jsr ra rb hint) = ap (λ (x : Word). x.act) s ∙ e in
    let same : i ≡ Jump Jsr ra rb hint = cc in
    ap (λ (x : Instr). jsr_at at x) same ∙ ap (λ (p : Place). Some (record { at = p; ra = ra })) (ap (λ (x : Word). x.at) s)
jsr_last (last.CallBy at i) w ra rb hint (inr n) e = absurd n
jsr_last (last.JumpBy at i) w ra rb hint (inl s) e =
    let d : Plain i ≡ Plain (Jump Jsr ra rb hint) = ap (λ (x : Word). x.act) s ∙ e in
    let same : i ≡ Jump Jsr ra rb hint = cc in
    ap (λ (x : Instr). jsr_at at x) same ∙ ap (λ (p : Place). Some (record { at = p; ra = ra })) (ap (λ (x : Word). x.at) s)
jsr_last (last.JumpBy at i) w ra rb hint (inr n) e = absurd n

-- a JSR of a block in form ends it
pub jsr_there :
    (g : GraphView) → InForm g → (b : Block) (w : Word) (ra rb hint : ℕ) → Has g.blocks b → Has (block_words b) w → w.act ≡ Plain (Jump Jsr ra rb hint) →
    (jsr_of b.last ≡ Some (record { at = w.at; ra = ra })) × (last_words b.last ≡ w ∷ [])
jsr_there g form b w ra rb hint hb hw e =
    let m = jump_word (λ (q : Place). Unit {0}) g form b w w.at hb hw (subst (λ (a : Act). act_jumps (λ (q : Place). Unit {0}) a w.at) (sym e) tt) in
    (jsr_last b.last w ra rb hint m e, one_last b.last w m)

-- ---- calls of a place

-- a BSR ends the block, by a branch that links or by one that does not
pub data EndsInBsr (l : Last) (c : PlaceCall) : Type 0 where
  calls : l ≡ last.Call c.at Bsr c.ra c.to → EndsInBsr l c
  goes : l ≡ last.Br c.at Bsr c.ra c.to → EndsInBsr l c

pub record IsBsr (at : Place) (o : BrOp) (ra : ℕ) (to : Place) (c : PlaceCall) : Type 0 where
  pub op : o ≡ Bsr
  pub is : record { at = at; ra = ra; to = to } ≡ c

bsr_is : (at : Place) (o : BrOp) (ra : ℕ) (to : Place) (c : PlaceCall) → bsr_at at o ra to ≡ Some c → IsBsr at o ra to c
bsr_is at Bsr ra to c e = record { op = refl; is = cc }
bsr_is at Straight ra to c e = cc
bsr_is at (If k) ra to c e = cc

pub ends_in_bsr : (l : Last) (c : PlaceCall) → bsr_of l ≡ Some c → EndsInBsr l c
ends_in_bsr (last.Call at o ra to) c e =
    let j = bsr_is at o ra to c e in
    calls (ap (λ (x : BrOp). last.Call at x ra to) j.op ∙ ap (λ (x : PlaceCall). last.Call x.at Bsr x.ra x.to) j.is)
ends_in_bsr (last.Br at o ra to) c e =
    let j = bsr_is at o ra to c e in
    goes (ap (λ (x : BrOp). last.Br at x ra to) j.op ∙ ap (λ (x : PlaceCall). last.Br x.at Bsr x.ra x.to) j.is)
ends_in_bsr last.Fall c e = cc
ends_in_bsr last.Off c e = cc
ends_in_bsr (last.Cond at i to) c e = cc
ends_in_bsr (last.CallBy at i) c e = cc
ends_in_bsr (last.JumpBy at i) c e = cc

pub bsr_word : (l : Last) (c : PlaceCall) → EndsInBsr l c → last_words l ≡ record { at = c.at; act = To Bsr c.ra c.to } ∷ []
bsr_word l c (calls e) = ap last_words e
bsr_word l c (goes e) = ap last_words e

-- ---- a new end

pub end_words : (c : PlaceCall) → last_words (end_with c) ≡ record { at = c.at; act = To Bsr c.ra c.to } ∷ []
end_words c = by_test (c.ra == 31)
  where
    by_test : (t : Bool) → last_words (cond t (last.Br c.at Bsr c.ra c.to) (last.Call c.at Bsr c.ra c.to)) ≡ record { at = c.at; act = To Bsr c.ra c.to } ∷ []
    by_test true = refl
    by_test false = refl

pub end_branch : (c : PlaceCall) → c.ra ≡ 31 → end_with c ≡ last.Br c.at Bsr c.ra c.to
end_branch c e = let t = eq-eqb c.ra 31 e in rw t refl

pub end_call : (c : PlaceCall) → (c.ra ≡ 31 → ⊥) → end_with c ≡ last.Call c.at Bsr c.ra c.to
end_call c n = by_test (c.ra == 31) refl
  where
    by_test : (t : Bool) → (c.ra == 31) ≡ t → cond t (last.Br c.at Bsr c.ra c.to) (last.Call c.at Bsr c.ra c.to) ≡ last.Call c.at Bsr c.ra c.to
    by_test true e = absurd (n (eqb-true c.ra 31 e))
    by_test false e = refl
