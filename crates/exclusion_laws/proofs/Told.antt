-- Told one thing after another.
use Rattle.std.proofs.Common.{◌≡◌, ℕ, ◌+◌, ◌-◌, ◌<◌, ◌≤◌, List, [], ◌∷◌, ◌++◌, length, get_or, take, replicate, sym, refl, ap, ◌∙◌, subst, arith}
use Rattle.std.proofs.lemmas.List.{take_more, take_all}
use Rattle.exclusion.specs.declared.meaning.Notice.{Notice}
use Rattle.exclusion.specs.declared.meaning.Notice.TheVariants.{Entered, Stepped, Left}
use Rattle.exclusion.specs.declared.meaning.Verdict.{Verdict}
use Rattle.exclusion.specs.declared.meaning.Verdict.TheVariants.{Outside, Held, Back}
use Rattle.exclusion.specs.Meaning.{ToldAll}
use Rattle.exclusion.specs.Parts.{patience_at, counted, held_while}
use Rattle.exclusion.specs.Ours.{grace_choice}
use Rattle.exclusion_laws.specs.Laws.{counted_all}
use Rattle.exclusion.specs.Counting.{nothing_set, nothing_in}

-- One more at the end.
told_push : {S : Type 0} (told : S → Notice → S → Type 0) (e : S) (ns : List Notice) (m : S) (n : Notice) (f : S) → ToldAll told e ns m → told m n f → ToldAll told e (ns ++ (n ∷ [])) f
told_push told e [] m n f before last = (f, subst (λ x. told x n f) before last, refl)
told_push told e (k ∷ ks) m n f (next, first, rest) last = (next, first, told_push told next ks m n f rest last)

pub told_more : {S : Type 0} (told : S → Notice → S → Type 0) (e : S) (ns : List Notice) (i : ℕ) (m f : S) → i < length ns → ToldAll told e (take i ns) m → told m (get_or ns i (Entered 0 0)) f
    → ToldAll told e (take (i + 1) ns) f
told_more told e ns i m f h before last =
    subst (λ xs. ToldAll told e xs f) (sym (take_more ns i (Entered 0 0) h)) (told_push told e (take i ns) m (get_or ns i (Entered 0 0)) f before last)

pub told_whole : {S : Type 0} (told : S → Notice → S → Type 0) (e : S) (ns : List Notice) (i : ℕ) (f : S) → length ns ≤ i → ToldAll told e (take i ns) f → ToldAll told e ns f
told_whole told e ns i f h all = subst (λ xs. ToldAll told e xs f) (take_all i ns h) all

-- An exclusion that stays as it is.
pub unmoved : {S : Type 0} (e : S) (ns : List Notice) (f : S) → ToldAll (λ e n f. f ≡ e) e ns f → f ≡ e
unmoved e [] f all = all
unmoved e (n ∷ ns) f (m, same, rest) = unmoved m ns f rest ∙ same

-- A count by a choice of its own, beside a part that stays.
pub counted_on : {S R : Type 0} (kept : S → R) (own : S → List ℕ) (choice : R → ℕ → ℕ) (e : S) (ns : List Notice) (f : S)
    → ToldAll (λ e n f. (kept f ≡ kept e) × (own f ≡ counted (choice (kept e)) (own e) n)) e ns f
    → (kept f ≡ kept e) × (own f ≡ counted_all (choice (kept e)) (own e) ns)
counted_on kept own choice e [] f all = (ap kept all, ap own all)
counted_on kept own choice e (n ∷ ns) f (m, told, rest) =
    let more = counted_on kept own choice m ns f rest in
    (more.0 ∙ told.0, more.1 ∙ ap (λ k. counted_all (choice k) (own m) ns) told.0 ∙ ap (λ xs. counted_all (choice (kept e)) xs ns) told.1)

-- A layer of grace 0 without patience of its own.
still_none : (own : List ℕ) (notice : Notice) → ((cpu : ℕ) → patience_at own cpu ≡ 0) → (cpu : ℕ) → patience_at (counted (grace_choice 0) own notice) cpu ≡ 0
still_none own (Entered at d) none cpu = nothing_set own at 0 cpu refl (none cpu)
still_none own (Stepped at) none cpu = nothing_set own at (patience_at own at - 1) cpu (let z = none at in omega arith) (none cpu)
still_none own (Left at) none cpu = nothing_set own at 0 cpu refl (none cpu)

module _ {S L : Type 0} (lower : S → L) (grace : S → ℕ) (own : S → List ℕ) (told : L → Notice → L → Type 0) where
  abbrev LayerTold : S → Notice → S → Type 0
  LayerTold e n f = (grace f ≡ grace e) × (own f ≡ counted (grace_choice (grace e)) (own e) n) × told (lower e) n (lower f)

  pub grace_zero : (e : S) (ns : List Notice) (f : S) → grace e ≡ 0 → ((cpu : ℕ) → patience_at (own e) cpu ≡ 0) → ToldAll LayerTold e ns f
      → ToldAll told (lower e) ns (lower f) × ((cpu : ℕ) → patience_at (own f) cpu ≡ 0)
  grace_zero e [] f z none all = (ap lower all, λ cpu. ap (λ x. patience_at (own x) cpu) all ∙ none cpu)
  grace_zero e (n ∷ ns) f z none (m, (same, count, one), rest) =
      let step : (cpu : ℕ) → patience_at (own m) cpu ≡ 0 = λ cpu. ap (λ xs. patience_at xs cpu) (count ∙ ap (λ k. counted (grace_choice k) (own e) n) z) ∙ still_none (own e) n none cpu in
      let more = grace_zero m ns f (same ∙ z) step rest in
      ((lower m, one, more.0), more.1)

pub fresh : (own : List ℕ) → own ≡ replicate 8 0 → (cpu : ℕ) → patience_at own cpu ≡ 0
fresh own e cpu = ap (λ xs. patience_at xs cpu) e ∙ zeros cpu
  where
    zeros : (cpu : ℕ) → patience_at (replicate 8 0) cpu ≡ 0
    zeros cpu = nothing_in cpu

pub no_wait : (n : ℕ) (v w : Verdict) → n ≡ 0 → v ≡ held_while n w → v ≡ w
no_wait n v w z e = e ∙ ap (λ k. held_while k w) z ∙ plain w
  where
    plain : (w : Verdict) → held_while 0 w ≡ w
    plain Outside = refl
    plain Held = refl
    plain (Back place) = refl
