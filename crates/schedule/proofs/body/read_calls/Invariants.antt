use Rattle.std.proofs.Common.{◌≡◌, ◌-◌, length, vec_items}
use Rattle.schedule.specs.Reading.{calls_from}
use Rattle.schedule.proofs.Calling.{SoFar}
use Rattle.schedule.proofs.body.read_calls.Given as goal

abbrev pub invariant-loop-reader : goal.invariant-loop-reader
invariant-loop-reader l = record {
  so_far : SoFar l.fn.reader.bytes.now l.reader.at (vec_items l.calls) (calls_from (length l.fn.reader.bytes.now) l.fn.reader.bytes.now l.fn.reader.at);
  same_bytes : l.reader.bytes.now ≡ l.fn.reader.bytes.now;
}

abbrev pub decreases-loop-reader : goal.decreases-loop-reader
decreases-loop-reader l = length l.fn.reader.bytes.now - l.reader.at
