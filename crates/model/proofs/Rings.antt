-- Slots of a ring, counted round and round.
use Rattle.std.proofs.Common.{◌≡◌, ℕ, ◌+◌, ◌-◌, ◌%◌, ◌<◌, ◌∙◌, ⊎_elim, mod-lt, mod-eq_of_lt, arith}
use native.Mathlib.Nat.{mod-add-mod, mod-eq-sub-mod}
use Rattle.std.proofs.lemmas.Bool.{cases_lt}

-- A slot that is less than a whole round further on is another one.
pub further : (slots i d : ℕ) → 0 < d → d < slots → (i + d) % slots ≡ i % slots → ⊥
further slots i d some near same =
    let r = i % slots in
    let low : r < slots = mod-lt i {m = slots} (omega arith) in
    let is : (r + d) % slots ≡ r = mod-add-mod i slots d ∙ same in
    ⊎_elim (λ below. let e : (r + d) % slots ≡ r + d = mod-eq_of_lt below in omega arith)
    (λ round.
    let less : r + d - slots < slots = omega arith in
    let e : (r + d) % slots ≡ r + d - slots = mod-eq-sub-mod round ∙ mod-eq_of_lt less in
    omega arith) (cases_lt (r + d) slots)
