-- The walk over the sections, and what it finds.
use Rattle.std.specs.Prelude.{◌≡◌, ℕ, zero, suc, ◌+◌, ◌-◌, ◌<◌, ◌≤◌, Bool, true, false, cond, ◌&&◌, List, Some, None, ◌≢◌, nat_le, slice_index_or, refl}
use Rattle.std.proofs.Common.{inl, inr, sym, ◌∙◌, ap, arith}
use Rattle.std.proofs.lemmas.Bool.{leb-true, and_parts}
use Rattle.image.specs.declared.layout.Section.{Section}
use Rattle.image.specs.Layout.{Inside, inside}
use Rattle.image.proofs.Lying.{is_inside, inside_is}
use Rattle.exclusion.specs.declared.meaning.Verdict.{Verdict}
use Rattle.exclusion.specs.declared.meaning.Verdict.TheVariants.{Outside, Back}
use Rattle.exclusion.specs.Meaning.{Says, no_section}
use Rattle.exclusion.specs.Parts.{section_at, first_inside}
use Rattle.exclusion.specs.Ours.{impatient, abort_restarts, back_to_start, rolls_back}

pub found : (section : ℕ → Section) (place k d : ℕ) → inside (section d) place ≡ true → first_inside section place (suc k) d ≡ Some (section d)
unfolding first_inside
found section place k d e = ap (λ t. cond t (Some (section d)) (first_inside section place k (d + 1))) e

pub passed : (section : ℕ → Section) (place k d : ℕ) → inside (section d) place ≡ false → first_inside section place (suc k) d ≡ first_inside section place k (d + 1)
unfolding first_inside
passed section place k d e = ap (λ t. cond t (Some (section d)) (first_inside section place k (d + 1))) e

pub none_left : (section : ℕ → Section) (place d : ℕ) → first_inside section place 0 d ≡ None
unfolding first_inside
none_left section place d = refl

-- In no section nothing is found; in one alone, that one.
pub finds_none : (section : ℕ → Section) (place k d : ℕ) → ((e : ℕ) → Inside (section e) place → ⊥) → first_inside section place k d ≡ None
finds_none section place zero d out = none_left section place d
finds_none section place (suc k) d out = go (finds_none section place k (d + 1) out) (inside (section d) place) refl
  where
    go : first_inside section place k (d + 1) ≡ None → (t : Bool) → inside (section d) place ≡ t → first_inside section place (suc k) d ≡ None
    go ih true e = absurd (out d (is_inside (section d) place e))
    go ih false e = passed section place k d e ∙ ih

pub finds_alone : (section : ℕ → Section) (place k d armed : ℕ) → d ≤ armed → armed < d + k → Inside (section armed) place → ((e : ℕ) → Inside (section e) place → e ≡ armed)
    → first_inside section place k d ≡ Some (section armed)
finds_alone section place zero d armed low high here alone = absurd (omega arith)
finds_alone section place (suc k) d armed low high here alone =
    go (λ low' high'. finds_alone section place k (d + 1) armed low' high' here alone) (inside (section d) place) refl
  where
    other : inside (section d) place ≡ false → d ≢ armed
    other e same =
        let z : true ≡ false = sym (inside_is (section armed) place here) ∙ ap (λ n. inside (section n) place) (sym same) ∙ e in
        let n : ◌≡◌ {A = ℕ} 0 1 = cc in
        omega arith

    go : (d + 1 ≤ armed → armed < d + 1 + k → first_inside section place k (d + 1) ≡ Some (section armed)) → (t : Bool) → inside (section d) place ≡ t
        → first_inside section place (suc k) d ≡ Some (section armed)
    go ih true e = found section place k d e ∙ ap (λ n. Some (section n)) (alone d (is_inside (section d) place e))
    go ih false e = let ne : d ≡ armed → ⊥ = other e in passed section place k d e ∙ ih (omega arith) (omega arith)

-- Only sections 1 to 5 hold anything.
pub numbered : (sections : List Section) (armed place : ℕ) → Inside (section_at sections armed) place → (1 ≤ armed) × (armed < 6)
numbered sections armed place h = go (nat_le 1 armed && nat_le armed 5) refl h
  where
    go : (t : Bool) → (nat_le 1 armed && nat_le armed 5) ≡ t → Inside (cond t (slice_index_or sections (armed - 1) no_section) no_section) place → (1 ≤ armed) × (armed < 6)
    go true e i =
        let p = and_parts (nat_le 1 armed) (nat_le armed 5) e in
        let low = leb-true 1 armed p.0 in
        let high = leb-true armed 5 p.1 in
        (low, omega arith)
    go false e i = absurd (omega (arith, i.1))

-- What rollback answers.
pub rollback_says : (sections : List Section) (cpu armed place : ℕ) (v : Verdict) → v ≡ rolls_back sections place → Says (impatient sections) cpu armed place v
rollback_says sections cpu armed place v e = record {
  outside = λ possible none. e ∙ ap back_to_start (finds_none (section_at sections) place 5 1 none);
  held = λ possible only waits. absurd (omega (arith, waits));
  back = λ possible only none.
      let n = numbered sections armed place only.inside in
      inr (e ∙ ap back_to_start (finds_alone (section_at sections) place 5 1 armed n.0 n.1 only.inside only.alone));
}

-- What abort restart answers.
pub abort_says : (sections : List Section) (cpu armed place : ℕ) (v : Verdict) → v ≡ abort_restarts sections armed place → Says (impatient sections) cpu armed place v
abort_says sections cpu armed place v e = record {
  outside = λ possible none. e ∙ ap (λ t. cond t (Back (section_at sections armed).abort) Outside) (outside_is (none armed));
  held = λ possible only waits. absurd (omega (arith, waits));
  back = λ possible only none. inl (e ∙ ap (λ t. cond t (Back (section_at sections armed).abort) Outside) (inside_is (section_at sections armed) place only.inside));
}
  where
    outside_is : (Inside (section_at sections armed) place → ⊥) → inside (section_at sections armed) place ≡ false
    outside_is out = go (inside (section_at sections armed) place) refl
      where
        go : (t : Bool) → inside (section_at sections armed) place ≡ t → inside (section_at sections armed) place ≡ false
        go true q = absurd (out (is_inside (section_at sections armed) place q))
        go false q = q
