use Rattle.std.proofs.Common.{Err, refl, ap, ◌∙◌}
use Rattle.std.proofs.lemmas.Result.{err_from_is_err_and}
use Rattle.schedule.proofs.Texts.{front_long, none_yet, one_more, stops, all_read}
use Rattle.schedule.proofs.header.read_words.Goals as goal

pub loop-word-init : goal.loop-word-init
loop-word-init c = record { so_far = none_yet _ _ _ c.requires; same_bytes = refl }

pub returns-in_err-word : goal.returns-in_err-word
returns-in_err-word c =
    let i = c.loop-word.invariant in
    let p = err_from_is_err_and c.from_residual.result c.from_residual.ensures.1 in
    let e = stops _ _ _ _ _ _ i.so_far _ (rw (front_long _ c.requires) at c.loop-word-test.true) (rw i.same_bytes at c.in_err-word.ensures.defined.0) in
    record { defined = (rw p.1 (ap Err p.2 ∙ e), c.read_field.ensures.defined.1 ∙ i.same_bytes) }

pub loop-word-preserved : goal.loop-word-preserved
loop-word-preserved c =
    let i = c.loop-word.invariant in
    record {
      so_far = one_more _ _ _ _ _ _ i.so_far c.in_ok-word.field-0 _ (rw (front_long _ c.requires) at c.loop-word-test.true) (rw i.same_bytes at c.in_ok-word.ensures.defined.0);
      same_bytes = c.read_field.ensures.defined.1 ∙ i.same_bytes;
    }

pub returns : goal.returns
returns c =
    let i = c.loop-word.invariant in
    record { defined = (all_read _ _ _ _ _ _ i.so_far (rw (front_long _ c.requires) at c.loop-word-test.false), i.same_bytes) }
