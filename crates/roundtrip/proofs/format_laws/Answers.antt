use Rattle.roundtrip.proofs.Telling.{schedule_reads_back}
use Rattle.roundtrip.proofs.Told.{header_was_written, call_was_written}
use Rattle.roundtrip.proofs.format_laws.Goals as goal

pub returns : goal.returns
returns c = record {
  a_written_schedule_reads_back = schedule_reads_back;
  an_accepted_header_is_the_written_one = header_was_written;
  an_accepted_call_is_the_written_one = call_was_written;
}
