-- A count of one's own beside another meaning.
use Rattle.std.specs.Prelude.{◌≡◌, ℕ, zero, suc, ◌-◌, ◌<◌, ◌≤◌, min, max, true, false, cond, ◌≢◌, ◌⊎◌, List, length, replicate, nat_lt, slice_index, slice_set, refl}
use Rattle.std.proofs.Common.{inl, inr, ⊎_elim, ◌∙◌, ap, arith, lt-ltb, le-ltb, get_or-set_same, get_or-set_other}
use Rattle.std.proofs.lemmas.List.{get_or_past, set_past}
use Rattle.std.proofs.lemmas.Bool.{cases_lt, cases_eq}
use Rattle.exclusion.specs.declared.meaning.Notice.{Notice}
use Rattle.exclusion.specs.declared.meaning.Notice.TheVariants.{Entered, Stepped, Left}
use Rattle.exclusion.specs.declared.meaning.Verdict.{Verdict}
use Rattle.exclusion.specs.declared.meaning.Verdict.TheVariants.{Held, Back}
use Rattle.exclusion.specs.Meaning.{Meaning, Shaped, Obeys, Possible, InArmedAlone, Says}
use Rattle.image.specs.declared.layout.Section.{Section}
use Rattle.exclusion.specs.Ours.{impatient}
use Rattle.exclusion.specs.Parts.{patience_at, stepped_down, layered, counted, held_while}

-- A CPU above 7 has none.
pub beyond : (own : List ℕ) (cpu : ℕ) → 7 < cpu → patience_at own cpu ≡ 0
beyond own cpu h = ap (λ t. cond t (min (slice_index own cpu) 255) 0) (le-ltb cpu 8 h)

below : (own : List ℕ) (cpu : ℕ) → cpu < 8 → patience_at own cpu ≡ min (slice_index own cpu) 255
below own cpu h = ap (λ t. cond t (min (slice_index own cpu) 255) 0) (lt-ltb cpu 8 h)

-- It is at most 255.
pub few : (own : List ℕ) (cpu : ℕ) → patience_at own cpu ≤ 255
few own cpu = elim (nat_lt cpu 8) as (λ t. cond t (min (slice_index own cpu) 255) 0 ≤ 255) [ true ↦ omega arith | false ↦ omega arith ]

-- Another CPU keeps what it has.
pub another : (own : List ℕ) (cpu x other : ℕ) → (other ≢ cpu) → patience_at (slice_set own cpu x) other ≡ patience_at own other
another own cpu x other ne = ap (λ n. cond (nat_lt other 8) (min n 255) 0) (get_or-set_other own cpu other x 0 ne)

-- The CPU that is set has the new number, or, where the list is too short for it, none.
set_or_none : (own : List ℕ) (cpu x : ℕ) → x ≤ 255 → cpu < 8 → (patience_at (slice_set own cpu x) cpu ≡ x) ⊎ ((patience_at (slice_set own cpu x) cpu ≡ 0) × (patience_at own cpu ≡ 0))
set_or_none own cpu x small h = ⊎_elim (λ lt. inl (within lt)) (λ le. inr (past le)) (cases_lt cpu (length own))
  where
    within : cpu < length own → patience_at (slice_set own cpu x) cpu ≡ x
    within lt = below (slice_set own cpu x) cpu h ∙ ap (λ n. min n 255) (get_or-set_same own cpu x 0 lt) ∙ omega arith

    past : length own ≤ cpu → (patience_at (slice_set own cpu x) cpu ≡ 0) × (patience_at own cpu ≡ 0)
    past le = let none = below own cpu h ∙ ap (λ n. min n 255) (get_or_past own cpu 0 le) in (ap (λ xs. patience_at xs cpu) (set_past own cpu x le) ∙ none, none)

stepped_there : (own : List ℕ) (cpu : ℕ) → cpu < 8 → patience_at (stepped_down own cpu) cpu ≡ patience_at own cpu - 1
stepped_there own cpu h = ⊎_elim (λ e. e) (λ p. let q = p.0 in let r = p.1 in omega arith) (set_or_none own cpu (patience_at own cpu - 1) (let f = few own cpu in omega arith) h)

left_there : (own : List ℕ) (cpu : ℕ) → cpu < 8 → patience_at (slice_set own cpu 0) cpu ≡ 0
left_there own cpu h = ⊎_elim (λ e. e) (λ p. p.0) (set_or_none own cpu 0 (omega arith) h)

-- The layer's meaning has the shape, and obeys what both parts obey.
pub layered_shaped : (m : Meaning) (own : List ℕ) → Shaped m → Shaped (layered m own)
layered_shaped m own s = record {
  five_sections = s.five_sections;
  eight_cpus = λ cpu h. let a = beyond own cpu h in let b = s.eight_cpus cpu h in omega arith;
  at_most_255 = λ cpu. let a = few own cpu in let b = s.at_most_255 cpu in omega arith;
}

module _ (m n : Meaning) (own : List ℕ) (choice : ℕ → ℕ) where
  pub layered_obeys : (notice : Notice) → Obeys m notice n → Obeys (layered m own) notice (layered n (counted choice own notice))
  layered_obeys (Entered cpu d) (x, small, b) =
      let mine = few (slice_set own cpu (choice d)) cpu in (
        max (patience_at (slice_set own cpu (choice d)) cpu) x,
        omega arith,
        record {
          sections_stay = b.sections_stay;
          there = λ h. ap (max (patience_at (slice_set own cpu (choice d)) cpu)) (b.there h);
          elsewhere = λ other ne. ap (λ p. max p (n.patience other)) (another own cpu (choice d) other ne) ∙ ap (max (patience_at own other)) (b.elsewhere other ne);
        },
      )
  layered_obeys (Stepped cpu) b = record {
    sections_stay = b.sections_stay;
    there = λ h. let mine = stepped_there own cpu h in let theirs = b.there h in omega arith;
    elsewhere = λ other ne. ap (λ p. max p (n.patience other)) (another own cpu (patience_at own cpu - 1) other ne) ∙ ap (max (patience_at own other)) (b.elsewhere other ne);
  }
  layered_obeys (Left cpu) b = record {
    sections_stay = b.sections_stay;
    there = λ h. let mine = left_there own cpu h in let theirs = b.there h in omega arith;
    elsewhere = λ other ne. ap (λ p. max p (n.patience other)) (another own cpu 0 other ne) ∙ ap (max (patience_at own other)) (b.elsewhere other ne);
  }

-- What the layer says, from what the lower says.
waits : (n place : ℕ) → 0 < n → held_while n (Back place) ≡ Held
waits n place h = ap (λ t. cond t Held (Back place)) (lt-ltb 0 n h)

lets_go : (n place : ℕ) → n ≡ 0 → held_while n (Back place) ≡ Back place
lets_go n place h = ap (λ t. cond t Held (Back place)) (le-ltb 0 n (omega arith))

pub layered_says : (m : Meaning) (own : List ℕ) (cpu armed place : ℕ) (w : Verdict) → Says m cpu armed place w → Says (layered m own) cpu armed place (held_while (patience_at own cpu) w)
layered_says m own cpu armed place w s = record {
  outside = λ possible none. ap (held_while (patience_at own cpu)) (s.outside possible none);
  held = λ possible only waiting. lower possible (record { inside = only.inside; alone = only.alone }) waiting (cases_lt 0 (m.patience cpu));
  back = λ possible only none.
      let mine : patience_at own cpu ≡ 0 = omega arith in
      let theirs : m.patience cpu ≡ 0 = omega arith in
      ⊎_elim (λ e. inl (ap (held_while (patience_at own cpu)) e ∙ lets_go (patience_at own cpu) _ mine)) (λ e. inr (ap (held_while (patience_at own cpu)) e ∙ lets_go (patience_at own cpu) _ mine))
      (s.back possible (record { inside = only.inside; alone = only.alone }) theirs);
}
  where
    lower : Possible place → InArmedAlone m armed place → 0 < max (patience_at own cpu) (m.patience cpu) → (0 < m.patience cpu) ⊎ (m.patience cpu ≤ 0)
        → held_while (patience_at own cpu) w ≡ Held
    lower possible only waiting (inl some) = ap (held_while (patience_at own cpu)) (s.held possible only some)
    lower possible only waiting (inr none) =
        let mine : 0 < patience_at own cpu = omega arith in
        let theirs : m.patience cpu ≡ 0 = omega arith in
        ⊎_elim (λ e. ap (held_while (patience_at own cpu)) e ∙ waits (patience_at own cpu) _ mine) (λ e. ap (held_while (patience_at own cpu)) e ∙ waits (patience_at own cpu) _ mine) (s.back possible only theirs)

-- Sections without patience obey by staying as they are.
pub impatient_obeys : (sections : List Section) (notice : Notice) → Obeys (impatient sections) notice (impatient sections)
impatient_obeys sections (Entered cpu d) = (0, omega arith, record { sections_stay = λ _. refl; there = λ _. refl; elsewhere = λ _ _. refl })
impatient_obeys sections (Stepped cpu) = record { sections_stay = λ _. refl; there = λ _. refl; elsewhere = λ _ _. refl }
impatient_obeys sections (Left cpu) = record { sections_stay = λ _. refl; there = λ _. refl; elsewhere = λ _ _. refl }

-- Setting 0 where all are 0.
pub nothing_set : (own : List ℕ) (at x cpu : ℕ) → x ≡ 0 → patience_at own cpu ≡ 0 → patience_at (slice_set own at x) cpu ≡ 0
nothing_set own at x cpu z none = ⊎_elim (λ same. here same) (λ ne. another own at x cpu ne ∙ none) (cases_eq cpu at)
  where
    here : cpu ≡ at → patience_at (slice_set own at x) cpu ≡ 0
    here same =
        ⊎_elim (λ lt. ⊎_elim (λ e. ap (λ c. patience_at (slice_set own at x) c) same ∙ e ∙ z) (λ p. ap (λ c. patience_at (slice_set own at x) c) same ∙ p.0) (set_or_none own at x (omega arith) (omega arith)))
        (λ le. beyond (slice_set own at x) cpu le) (cases_lt cpu 8)

-- No patience at the beginning.
pub nothing_in : (cpu : ℕ) → patience_at (replicate 8 0) cpu ≡ 0
nothing_in cpu = ⊎_elim (λ lt. below (replicate 8 0) cpu lt ∙ ap (λ n. min n 255) (all_zero 8 cpu)) (λ le. beyond (replicate 8 0) cpu le) (cases_lt cpu 8)
  where
    all_zero : (k i : ℕ) → ◌≡◌ {A = ℕ} (slice_index (replicate k 0) i) 0
    all_zero zero i = refl
    all_zero (suc k) zero = refl
    all_zero (suc k) (suc i) = all_zero k i
