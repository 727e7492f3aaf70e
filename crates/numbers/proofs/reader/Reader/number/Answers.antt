use Rattle.std.proofs.Common.{◌≡◌, ◌<◌, ◌⊎◌, sym, ◌∙◌, arith, inl, inr}
use Rattle.numbers.proofs.Read.{unmoved, gone, got, broken, misspelled, ended, next, shifted}
use Rattle.numbers.proofs.reader.Reader.number.Goals as goal
use Rattle.numbers.proofs.reader.Reader.number.Goals.{else-loop-shift-test, then-loop-shift-test+in-Some+then-byte-gt1, then-byte-gt1-via-then-byte-gt1, then-byte-gt1-via-else-byte-gt1+then-byte-eq0}

pub returns-in_default-clause-defined : goal.returns-in_default-clause-defined
returns-in_default-clause-defined c =
    let i = c.loop-shift.invariant in
    let e = broken _ _ _ _ _ i.so_far (gone _ _ _ i.same_bytes c.in_default.ensures.defined) in
    (cc (e, c.at.ensures.placed), unmoved i.not_moved)

pub overflow_add-result : goal.overflow_add-result
overflow_add-result c =
    let s = shifted _ _ _ _ _ c.from.result c.loop-shift.invariant.so_far (omega arith) (λ e. omega (arith, c.if-byte-gt1.either)) in
    rw s.whole (omega (arith, s.fits))

pub returns-then-byte-lt128-clause-defined : goal.returns-then-byte-lt128-clause-defined
returns-then-byte-lt128-clause-defined c =
    let i = c.loop-shift.invariant in
    let h = got _ _ _ _ i.same_bytes c.in-Some.ensures.defined in
    let s = shifted _ _ _ _ _ c.from.result i.so_far (omega arith) (λ e. omega (arith, c.if-byte-gt1.either)) in
    let e = ended _ _ _ _ _ _ i.so_far h c.if-byte-lt128.true (λ e. omega (arith, c.if-byte-gt1.either)) (λ e. omega (arith, c.if-byte-eq0.either)) in
    (rw (s.whole, c.from.ensures, c.in-Some.ensures.goes_on) (sym e), c.byte.ensures.same_bytes ∙ i.same_bytes)

pub loop-shift-preserved : goal.loop-shift-preserved
loop-shift-preserved c =
    let i = c.loop-shift.invariant in
    let h = got _ _ _ _ i.same_bytes c.in-Some.ensures.defined in
    let s = shifted _ _ _ _ _ c.from-in-loop-shift.result i.so_far (omega arith) (λ e. omega (arith, c.if-byte-gt1.either)) in
    record {
      so_far = rw (s.whole, c.from-in-loop-shift.ensures, c.in-Some.ensures.goes_on)
          (next _ _ _ _ _ _ i.so_far h (omega arith) (omega arith) (omega (arith, c.if-byte-gt1.either, i.so_far.nine, i.so_far.bits)));
      not_moved = i.not_moved;
      same_bytes = c.byte.ensures.same_bytes ∙ i.same_bytes;
    }

pub returns-clause-defined : goal.returns-clause-defined
returns-clause-defined c =
    let i = c.loop-shift.invariant in
    elim c.loop-shift-test.branch [
      | else-loop-shift-test w ↦ absurd (omega (arith, i.so_far.nine, i.so_far.bits, w.loop-shift-test.false))
      | then-loop-shift-test+in-Some+then-byte-gt1 w ↦
          let h = got _ _ _ _ i.same_bytes w.in-Some.ensures.defined in
          let wrong : ((c.loop-shift.shift ≡ 63) × (1 < w.in-Some.byte)) ⊎ ((0 < c.loop-shift.shift) × (w.in-Some.byte ≡ 0)) =
          elim w.then-byte-gt1.branch [
            | then-byte-gt1-via-then-byte-gt1 v ↦ inl (omega arith, omega arith)
            | then-byte-gt1-via-else-byte-gt1+then-byte-eq0 v ↦ inr (omega arith, omega arith)
          ] in
          let e = misspelled _ _ _ _ _ _ i.so_far h wrong in
          (cc (e, c.at-2.ensures.placed), unmoved i.not_moved)
    ]
