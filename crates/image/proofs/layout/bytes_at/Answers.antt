use Rattle.std.proofs.Common.{◌≡◌, ◌+◌, slice_index, rules, arith, ◌∙◌}
use Rattle.std.proofs.lemmas.Grind.{common_steps}
use Rattle.image.proofs.Bytes.{made_by}
use Rattle.image.proofs.layout.bytes_at.Goals as goal

pub returns-in-None : goal.returns-in-None
returns-in-None g c = record {
  defined = λ k h.
      let there : slice_index c.unwrap_or-rest.result.now k ≡ slice_index c.args.table.now (c.args.at + k) = grind (arith, common_steps) in
      made_by _ _ _ (λ k. slice_index c.unwrap_or-rest.result.now k) (λ k y q called. search rules) _ c.from_fn.ensures.items k h ∙ there;
}
