use Rattle.std.proofs.Common.{refl}
use Rattle.numbers.specs.Spelling.{spell}
use Rattle.numbers.specs.Reading.{hear, number_at}
use Rattle.image.specs.Layout.{section_of}
use Rattle.exclusion.specs.Parts.{first_inside}
use Rattle.worked.proofs.Lives.{interrupted, fifth, sent_to_abort, six_remain, sent_to_start, four_remain, masked, grace_held, grace_passes, ring}
use Rattle.worked.proofs.worked_examples.Goals as goal

pub returns : goal.returns
unfolding spell hear number_at section_of first_inside
returns c = record {
  the_worked_examples_hold = record {
    numbers = record { zero_is = refl; largest_of_one_byte_is = refl; least_of_two_bytes_is = refl; three_hundred_is = refl; longer_is_refused = refl };
    verdicts = record { before_the_start = refl; at_the_start = refl; at_the_last = refl; behind_the_end = refl; rollback_at_the_start = refl; rollback_at_the_last = refl };
    add_settles_on_its_fifth_run = fifth;
    a_switch_after_three_runs_sends_to_the_abort = sent_to_abort;
    then_six_runs_remain = six_remain;
    by_rollback_it_sends_to_the_start = sent_to_start;
    by_rollback_four_runs_remain = four_remain;
    by_masking_it_is_held_and_two_runs_later_it_passes = masked;
    by_grace_one_it_is_held_after_two_runs = grace_held;
    by_grace_one_it_passes_after_three = grace_passes;
    two_puts_and_two_takes = ring;
  };
  a_signal_after_three_runs_sends_to_the_abort_first = interrupted;
}
