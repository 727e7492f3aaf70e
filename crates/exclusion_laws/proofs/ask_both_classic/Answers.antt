use Rattle.std.proofs.Common.{◌≡◌}
use Rattle.image.specs.Layout.{sections_of}
use Rattle.exclusion.specs.Ours.{abort_restarts, rolls_back}
use Rattle.exclusion_laws.proofs.Told.{unmoved}
use Rattle.exclusion_laws.proofs.Shut.{agree}
use Rattle.exclusion.specs.Walking.{abort_says, rollback_says}
use Rattle.exclusion_laws.proofs.ask_both_classic.Goals as goal

pub returns : goal.returns
returns c =
    let sections = sections_of c.args.table.now in
    let armed = c.args.standing.armed in
    let place = c.args.standing.place in
    let one = c.tell_and_ask-by_abort in
    let other = c.tell_and_ask-by_rollback in
    let one_stays = unmoved _ c.args.notices.now _ one.ensures.told_so in
    let other_stays = unmoved _ c.args.notices.now _ other.ensures.told_so in
    let first : one.result ≡ abort_restarts sections armed place = cc in
    let second : other.result ≡ rolls_back sections place = cc in
    record {
      the_first_restarts_by_abort = first;
      the_second_rolls_back = second;
      they_agree_on_when = agree sections c.args.standing.cpu armed place one.result other.result (abort_says sections c.args.standing.cpu armed place one.result first) (rollback_says sections c.args.standing.cpu armed place other.result second);
    }
