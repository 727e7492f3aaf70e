-- What masking and grace are seen as: what lies below, and a patience of their own.
use Rattle.std.specs.Prelude.{ℕ, List}
use Rattle.image.specs.declared.layout.Section.{Section}

pub record Masked : Type 0 where
  pub sections : List Section
  pub patience : List ℕ

pub record Graced (E : Type 0) : Type 0 where
  pub lower : E
  pub grace : ℕ
  pub patience : List ℕ
