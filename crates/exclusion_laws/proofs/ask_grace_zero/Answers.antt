use Rattle.std.proofs.Common.{sym, subst}
use Rattle.exclusion.specs.Meaning.{ToldAll}
use Rattle.exclusion_laws.proofs.Told.{grace_zero, fresh, no_wait}
use Rattle.exclusion_laws.proofs.ask_grace_zero.Goals as goal

pub returns : goal.returns
returns g c =
    let new = c.new-layer in
    let asked = c.tell_and_ask-verdict in
    let both = grace_zero (λ e. e.lower) (λ e. e.grace) (λ e. e.patience) g.E.Exclusion.told new.result c.args.notices.now asked.new.exclusion new.ensures.of_the_number (fresh new.result.patience new.ensures.without_patience) asked.ensures.told_so in
    let answer = asked.ensures.as_it_answers in
    record {
      the_lower_is_told_the_same = subst (λ l. ToldAll g.E.Exclusion.told l c.args.notices.now asked.new.exclusion.lower) new.ensures.over_the_lower both.0;
      as_the_lower_answers = subst (λ v. g.E.Exclusion.answers asked.new.exclusion.lower c.args.standing.cpu c.args.standing.armed c.args.standing.place v) (sym (no_wait _ _ answer.0 (both.1 c.args.standing.cpu) answer.2)) answer.1;
    }
