-- What the meaning shuts out, and when two exclusions agree.
use Rattle.std.proofs.Common.{◌≡◌, ℕ, List, sym, refl, subst₂, ⊎_elim, arith}
use Rattle.std.proofs.lemmas.Bool.{cases_lt}
use Rattle.image.specs.declared.layout.Section.{Section}
use Rattle.exclusion.specs.declared.meaning.Verdict.{Verdict}
use Rattle.exclusion.specs.declared.meaning.Verdict.TheVariants.{Back}
use Rattle.exclusion.specs.Meaning.{Meaning, Says, SameKind, NotOutsideWhenArmed, NotHeldWithoutPatience}
use Rattle.exclusion.specs.Ours.{impatient}
use Rattle.exclusion_laws.specs.Laws.{AgreeOnWhen}

module _ (m : Meaning) (cpu armed place : ℕ) (v : Verdict) (s : Says m cpu armed place v) where
  pub never_outside : NotOutsideWhenArmed m armed place v
  never_outside possible only e =
      ⊎_elim (λ some. cc (s.held possible only some))
      (λ none. let zero_left : m.patience cpu ≡ 0 = omega arith in ⊎_elim (λ b. cc) (λ b. cc) (s.back possible only zero_left))
      (cases_lt 0 (m.patience cpu))

  pub never_held : NotHeldWithoutPatience m cpu armed place v
  never_held (possible, where_it_is) none e =
      ⊎_elim (λ out. cc (s.outside possible out)) (λ only. ⊎_elim (λ b. cc) (λ b. cc) (s.back possible only none)) where_it_is

-- Where nobody has patience, two that have the same sections agree.
both_back : (v w : Verdict) (p q : ℕ) → v ≡ Back p → w ≡ Back q → SameKind v w
both_back v w p q a b = subst₂ SameKind (sym a) (sym b) tt

pub agree : (sections : List Section) (cpu armed place : ℕ) (v w : Verdict) → Says (impatient sections) cpu armed place v → Says (impatient sections) cpu armed place w → AgreeOnWhen sections armed place v w
agree sections cpu armed place v w s t (possible, where_it_is) =
    ⊎_elim (λ out. subst₂ SameKind (sym (s.outside possible out)) (sym (t.outside possible out)) tt)
    (λ only. ⊎_elim (λ a. ⊎_elim (λ b. both_back v w _ _ a b) (λ b. both_back v w _ _ a b) (t.back possible only refl))
    (λ a. ⊎_elim (λ b. both_back v w _ _ a b) (λ b. both_back v w _ _ a b) (t.back possible only refl)) (s.back possible only refl)) where_it_is
