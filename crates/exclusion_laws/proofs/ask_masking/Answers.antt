use Rattle.std.proofs.Common.{◌≡◌, ℕ, List, replicate, ap, ◌∙◌}
use Rattle.image.specs.declared.layout.Section.{Section}
use Rattle.exclusion.specs.declared.meaning.Notice.{Notice}
use Rattle.exclusion.specs.declared.meaning.Verdict.{Verdict}
use Rattle.exclusion.specs.Parts.{patience_at, held_while}
use Rattle.exclusion.specs.Ours.{masking_choice, rolls_back}
use Rattle.exclusion_laws.specs.Laws.{counted_all, masking_after}
use Rattle.exclusion_laws.proofs.Told.{counted_on}
use Rattle.exclusion_laws.proofs.ask_masking.Goals as goal

determined : (made sections after : List Section) (own counts : List ℕ) (ns : List Notice) (cpu place : ℕ) (v : Verdict) → made ≡ sections → own ≡ replicate 8 0 → after ≡ made
    → counts ≡ counted_all (masking_choice made) own ns → v ≡ held_while (patience_at counts cpu) (rolls_back after place) → v ≡ masking_after sections ns cpu place
determined made sections after own counts ns cpu place v m o a c e =
    e ∙ ap (λ xs. held_while (patience_at xs cpu) (rolls_back after place)) (c ∙ ap (λ s. counted_all (masking_choice s) own ns) m ∙ ap (λ xs. counted_all (masking_choice sections) xs ns) o)
    ∙ ap (λ s. held_while (patience_at (counted_all (masking_choice sections) (replicate 8 0) ns) cpu) (rolls_back s place)) (a ∙ m)

pub returns : goal.returns
returns c =
    let new = c.new-masking in
    let asked = c.tell_and_ask in
    let both = counted_on (λ e. e.sections) (λ e. e.patience) masking_choice new.result c.args.notices.now asked.new.exclusion asked.ensures.told_so in
    record {
      determined = determined new.result.sections _ asked.new.exclusion.sections new.result.patience asked.new.exclusion.patience c.args.notices.now
          c.args.standing.cpu c.args.standing.place asked.result new.ensures.made_from_the_table new.ensures.without_patience both.0 both.1 asked.ensures.as_it_answers;
    }
