use Rattle.std.proofs.Common.{◌≡◌, ◌≤◌, ◌+◌, ◌*◌, ℕ, suc, refl, Bool, true, false, cond, length, sym, ◌∙◌, arith}
use Rattle.om_value.specs.declared.value.Place.{Place}
use Rattle.om_layout.proofs.Steps.{place, is_at, at_here, at_past, next_step, next_end, position_step, text_placed}
use Rattle.om_layout.proofs.positions.add_text.Goals.{then-next-places+then-eq, else-next-places, else-next-places-via-then-next-places+else-eq, else-next-places-via-else-next-places}
use Rattle.om_layout.proofs.positions.add_text.Goals as goal

abbrev none : Place
none = record { obj = 0; off = 0 }

stepped : (n : ℕ) (b : Bool) → b ≡ true → n + 1 ≡ cond b (suc n) n
stepped n true e = omega arith
stepped n false e = cc

stayed : (n : ℕ) (b : Bool) → b ≡ false → n ≡ cond b (suc n) n
stayed n true e = cc
stayed n false e = refl

-- the next word is passed where it stands at the place
moved : (c : goal.Joined-next-places) → c.if-next-places.next ≡ cond (is_at (place c.args.obj (4 * c.loop-word.word)) c.args.places.now c.loop-word.next) (suc c.loop-word.next) c.loop-word.next
moved c = elim c.if-next-places.branch [
  | then-next-places+then-eq w ↦
      w.next-is ∙ stepped c.loop-word.next (is_at (place c.args.obj (4 * c.loop-word.word)) c.args.places.now c.loop-word.next) (at_here (place c.args.obj (4 * c.loop-word.word)) c.args.places.now c.loop-word.next none true w.if-next-places.true (sym w.eq.ensures ∙ w.if-eq.true))
  | else-next-places w ↦ elim w.else-next-places.branch [
    | else-next-places-via-then-next-places+else-eq v ↦
        w.next-is ∙ stayed c.loop-word.next (is_at (place c.args.obj (4 * c.loop-word.word)) c.args.places.now c.loop-word.next) (at_here (place c.args.obj (4 * c.loop-word.word)) c.args.places.now c.loop-word.next none false v.if-next-places.true (sym v.eq.ensures ∙ v.if-eq.false))
    | else-next-places-via-else-next-places v ↦
        w.next-is ∙ stayed c.loop-word.next (is_at (place c.args.obj (4 * c.loop-word.word)) c.args.places.now c.loop-word.next) (at_past (place c.args.obj (4 * c.loop-word.word)) c.args.places.now c.loop-word.next v.if-next-places.false)
  ]
]

bound : (c : goal.Joined-next-places) → c.if-next-places.next ≤ length c.args.places.now
bound c = elim c.if-next-places.branch [
  | then-next-places+then-eq w ↦ (let n = w.next-is in let t = w.if-next-places.true in omega (arith, n, t))
  | else-next-places w ↦ (let n = w.next-is in let b = c.loop-word.invariant.bound in omega (arith, n, b))
]

pub loop-word-preserved : goal.loop-word-preserved
loop-word-preserved c = record {
  bound = bound c;
  next =
      λ counts ws are at is first.
      next_step counts ws c.args.places.now c.args.obj c.loop-word.word c.loop-word.next c.if-next-places.next are at (c.loop-word.invariant.next counts ws are at is first) (moved c);
  placed =
      λ counts ws are at is first h.
      position_step counts ws c.args.obj c.args.count c.loop-word.word c.loop-word.next c.loop-word.positions.items c.push.new.self.items is
      (c.loop-word.invariant.placed counts ws are at is first h) c.in_ok-push.ensures.items (c.loop-word.invariant.next counts ws are at is first);
}

ended : (c : goal.After-loop-word) → c.loop-word.word ≡ c.args.count + 1
ended c =
    let a = c.loop-word.auto.word-end in
    let b = c.loop-word-test.false in
    omega (arith, a, b)

pub returns-clause-next : goal.returns-clause-next
returns-clause-next c counts ws are at is first =
    next_end counts ws c.args.obj c.args.count c.loop-word.word c.loop-word.next are is (ended c) (c.loop-word.invariant.next counts ws are at is first)

pub returns-clause-placed : goal.returns-clause-placed
returns-clause-placed c counts ws are at is first h =
    text_placed counts ws c.args.obj c.args.count c.loop-word.word c.loop-word.positions.items is (ended c) (c.loop-word.invariant.placed counts ws are at is first h)
