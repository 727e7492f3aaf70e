use Rattle.std.proofs.Common.{◌≡◌}
use Rattle.schedule.proofs.Texts.{SoFar}
use Rattle.schedule.proofs.header.read_words.Given as goal

abbrev pub invariant-loop-word : goal.invariant-loop-word
invariant-loop-word l = record {
  so_far : SoFar l.fn.reader.bytes.now l.fn.reader.at l.count l.word-index l.reader.at l.word-items;
  same_bytes : l.reader.bytes.now ≡ l.fn.reader.bytes.now;
}
