-- The bytes of a table, taken from where a reader stands.
use Rattle.std.proofs.Common.{◌≡◌, ℕ, ◌+◌, ◌≤◌, cond, List, length, take, drop, slice_range, Ok, Err, sym, ap, arith, le-ltb}
use Rattle.std.proofs.lemmas.Grind.{common_steps}
use Rattle.faults.specs.declared.Refusal.TheVariants.{EndsInside}
use Rattle.faults.specs.Numbering.{fault_at}
use Rattle.schedule.specs.Reading.{table_at}

pub read : (bytes rest table : List ℕ) (at : ℕ) → rest ≡ slice_range bytes at (length bytes) → length rest + at ≡ length bytes → 160 ≤ length rest
    → table ≡ take 160 rest → Ok (table, at + 160) ≡ table_at bytes at
read bytes rest table at r l n e =
    let all : rest ≡ drop at bytes = grind (arith, common_steps) in
    rw (e, all) (sym (ap (λ b. cond b (Err (fault_at EndsInside (length bytes))) (Ok (take 160 (drop at bytes), at + 160))) (le-ltb (length bytes) (at + 160) (omega arith))))
