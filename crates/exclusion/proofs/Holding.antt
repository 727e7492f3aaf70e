-- The first of five sections that a place is inside.
use Rattle.std.proofs.Common.{◌≡◌, ℕ, List, [], ◌∷◌, length, Option, arith}
use Rattle.std.specs.List.{find}
use Rattle.image.specs.declared.layout.Section.{Section}
use Rattle.image.specs.Layout.{inside}
use Rattle.exclusion.specs.Parts.{section_at, first_inside}

pub found_first : (sections : List Section) (place : ℕ) (r : Option Section) → length sections ≡ 5 → r ≡ find (λ section. inside section place) sections → r ≡ first_inside (section_at sections) place 5 1
unfolding first_inside
found_first [] place r n e = absurd (omega arith)
found_first (a ∷ []) place r n e = absurd (omega arith)
found_first (a ∷ b ∷ []) place r n e = absurd (omega arith)
found_first (a ∷ b ∷ c ∷ []) place r n e = absurd (omega arith)
found_first (a ∷ b ∷ c ∷ d ∷ []) place r n e = absurd (omega arith)
found_first (a ∷ b ∷ c ∷ d ∷ e ∷ []) place r n e' = e'
found_first (a ∷ b ∷ c ∷ d ∷ e ∷ f ∷ more) place r n e' = absurd (omega arith)
