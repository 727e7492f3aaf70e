use Rattle.std.proofs.Common.{◌-◌, arith, length-take}
use Rattle.numbers.proofs.Write.{left_start, left_more, left_last, written}
use Rattle.numbers.proofs.write_number.Goals as goal

pub loop-group-init : goal.loop-group-init
loop-group-init c = left_start _ _ (omega arith)

pub loop-group-preserved : goal.loop-group-preserved
loop-group-preserved c = left_more _ _ _ _ _ c.loop-group.invariant c.loop-group-test.true (omega (arith, length-take (c.spelled_length-length.result - 1) c.args.out.now))

pub overflow_cast-out : goal.overflow_cast-out
overflow_cast-out c =
    let room = length-take (c.spelled_length-length.result - 1) c.args.out.now in
    let last = left_last _ _ _ _ _ c.loop-group.invariant (omega (arith, room)) in
    omega arith

pub returns : goal.returns
returns c =
    let room = length-take (c.spelled_length-length.result - 1) c.args.out.now in
    let e = c.spelled_length-length.ensures.defined in
    record { spelled_or_untouched = (e, omega arith, written _ _ _ _ _ _ c.loop-group.invariant (omega (arith, room)) (omega (arith, room)) e (omega arith)) }
