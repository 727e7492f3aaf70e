use Rattle.std.proofs.Common.{◌+◌, ◌-◌, arith}
use Rattle.machine.proofs.Walks.{walk_ends, walk_arrives, walk_goes_on}
use Rattle.machine.proofs.asking.reached.Goals as goal

pub returns-then-ends : goal.returns-then-ends
returns-then-ends g c = walk_ends _ _ c.loop.place (c.args.steps - c.loop.counter) c.args.first c.args.steps c.ends.ensures c.if-ends.true c.loop.invariant

pub loop-preserved : goal.loop-preserved
loop-preserved g c =
    walk_goes_on _ _ c.loop.place c.onward-place.result (c.args.steps - c.loop.counter) (c.args.steps - (c.loop.counter + 1)) c.args.first c.args.steps
    c.ends.ensures c.if-ends.false c.onward-place.ensures (omega (arith, c.loop-test.true)) (omega arith) c.loop.invariant

pub returns-then-ends-2 : goal.returns-then-ends-2
returns-then-ends-2 g c = walk_ends _ _ c.loop.place (c.args.steps - c.loop.counter) c.args.first c.args.steps c.ends-2.ensures c.if-ends-2.true c.loop.invariant

pub returns : goal.returns
returns g c =
    walk_arrives _ _ c.loop.place (c.args.steps - c.loop.counter) c.args.first c.args.steps
    c.ends-2.ensures c.if-ends-2.false (omega (arith, c.loop-test.false)) c.loop.invariant
