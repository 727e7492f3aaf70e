use Rattle.std.proofs.Common.{refl}
use Rattle.numbers.specs.Reading.{number_at}
use Rattle.numbers.proofs.Spelled.{reads, written_spells, reads_back_at, written_alone, one_spelling_alone, one_number}
use Rattle.numbers.proofs.spelling_laws.Goals as goal

pub returns : goal.returns
returns c = record {
  the_reader_answers_what_is_spelled = λ bytes first ok. reads bytes first ok (number_at bytes first) refl;
  what_is_written_spells_the_number = written_spells;
  what_is_written_is_read_back = reads_back_at;
  every_spelling_is_the_written_one = written_alone;
  two_spellings_of_a_number_are_equal = one_spelling_alone;
  a_spelling_stands_for_one_number = one_number;
}
