-- What every machine keeps, so that its arrays are never read past their ends.
use Rattle.std.specs.Prelude.{ℕ, ◌<◌, ◌≤◌}
use Rattle.std.specs.Option.{unwrap_or}
use Rattle.model.specs.declared.state.Core.{Core}
use Rattle.model.specs.State.{thread_at, cpu_at}

abbrev pub Sound : Core → Type 0
Sound core =
    (core.sizes.cpus ≤ 8) × (core.sizes.threads ≤ 16) × (core.image.text.count ≤ 256) × ((c : ℕ) → unwrap_or (cpu_at core c).current 0 < 16) × ((t : ℕ) → (thread_at core t).q < 8)
