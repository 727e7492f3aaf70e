use Rattle.std.proofs.Common.{◌≡◌, ◌-◌}
use Rattle.numbers.proofs.Read.{SoFar}
use Rattle.numbers.proofs.reader.Reader.number.Given as goal

abbrev pub invariant-loop-shift : goal.invariant-loop-shift
invariant-loop-shift l = record {
  so_far : SoFar l.fn.self.bytes.now l.fn.self.at l.ahead.at l.shift l.value;
  not_moved : l.self ≡ l.fn.self;
  same_bytes : l.ahead.bytes.now ≡ l.fn.self.bytes.now;
}

abbrev pub decreases-loop-shift : goal.decreases-loop-shift
decreases-loop-shift l = 64 - l.shift
