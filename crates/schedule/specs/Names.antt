-- The exclusions by their numbers, and their names.
use Rattle.std.specs.Prelude.{ℕ, cond, List, Ok, Err, Result, codes, nat_lt}
use Rattle.schedule.specs.declared.job.ExclusionName.{ExclusionName}
use Rattle.schedule.specs.declared.job.ExclusionName.TheVariants.{Abort, Rollback, Masking}
use Rattle.schedule.specs.declared.job.UnknownExclusion.{UnknownExclusion}
use Rattle.schedule.specs.Reading.{exclusion_of}

-- The exclusion with a number; from 3 on there is none.
abbrev pub exclusion_numbered : ℕ → Result ExclusionName UnknownExclusion
exclusion_numbered number = cond (nat_lt number 3) (Ok (exclusion_of number)) (Err (record { 0 = number }))

-- The name that is written of an exclusion.
abbrev pub exclusion_name : ExclusionName → List ℕ
exclusion_name Abort = codes "abort"
exclusion_name Rollback = codes "rollback"
exclusion_name Masking = codes "masking"
