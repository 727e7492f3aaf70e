use Rattle.schedule.proofs.Calling.{stops, all_read}
use Rattle.schedule.proofs.body.read_calls.Goals as goal

pub returns-in-Err : goal.returns-in-Err
returns-in-Err c =
    let i = c.loop-reader.invariant in
    record { defined = stops _ _ _ _ i.so_far c.in-Err.fault (rw i.same_bytes at c.loop-reader-test.true) (rw i.same_bytes at c.in-Err.ensures.defined.0) }

pub returns : goal.returns
returns c =
    let i = c.loop-reader.invariant in
    record { defined = all_read _ _ _ _ i.so_far (rw i.same_bytes at c.loop-reader-test.false) }
