-- What has happened on a CPU, counted: how long it is since an instruction settled, how long a held call has waited, and
-- which calls are pending. Bounds on the two counts, kept mark by mark, bound every window of the trace.
use Rattle.std.proofs.Common.{◌≡◌, ℕ, zero, suc, ◌+◌, ◌<◌, ◌≤◌, max, min, true, false, ◌⊎◌, List, [], ◌∷◌, ◌++◌, replicate, sym, refl, ap, ◌∙◌, inl, inr, ⊎_elim, arith}
use mathlib.Core.List.{tail}
use Rattle.std.proofs.lemmas.Bool.{false≢true}
use Rattle.std.specs.List.{AllByRecursion}
use Rattle.calls.specs.declared.Call.{Call}
use Rattle.model.specs.Claims.{Mark, instruction, granted, held, instructions, NothingGranted, is_settling, Settles}
use Rattle.lives.specs.Whole.{since}

-- A wait is 0 where no call waits, else one more than the instructions since the call was held. A held call begins a wait
-- where there is none; an instruction that does not settle prolongs one where there is one. This is the wait of the oldest
-- call that was held since the last instruction that settled and the last grant.
abbrev pub waited : List Mark → ℕ
waited [] = 0
waited (instruction true ∷ marks) = 0
waited (instruction false ∷ marks) = waited marks + min 1 (waited marks)
waited (granted ∷ marks) = 0
waited (held c ∷ marks) = max 1 (waited marks)

-- The calls that were held since the last grant.
abbrev pub pending : List Mark → List Call
pending [] = []
pending (instruction settles ∷ marks) = pending marks
pending (granted ∷ marks) = []
pending (held c ∷ marks) = c ∷ pending marks

-- Of any eight successive instructions, with nothing granted between, one settles.
abbrev pub InEight : List Mark → Type 0
InEight marks = (after window before : List Mark) → marks ≡ after ++ (window ++ before) → NothingGranted window → instructions window ≡ 8 → Settles window

-- Of the five instructions after a held call, with nothing granted between, one settles.
abbrev pub InFive : List Mark → Type 0
InFive marks = (c : Call) (after window before : List Mark) → marks ≡ after ++ (window ++ (held c ∷ before)) → NothingGranted window → instructions window ≡ 5 → Settles window

-- A window settles at its newest mark or at an older one; whether it settles is decided mark by mark.
pub settles_older : (mark : Mark) (window : List Mark) → Settles window → Settles (mark ∷ window)
settles_older mark window (i, low, settles) = (suc i, omega arith, settles)

pub settles_here : (window : List Mark) → Settles (instruction true ∷ window)
settles_here window = (0, omega arith, refl)

pub not_settled_older : (mark : Mark) (window : List Mark) → is_settling mark ≡ false → (Settles window → ⊥) → Settles (mark ∷ window) → ⊥
not_settled_older mark window not_here not_older (zero, low, settles) = false≢true (sym not_here ∙ settles)
not_settled_older mark window not_here not_older (suc i, low, settles) = not_older (i, omega arith, settles)

older_or_not : (mark : Mark) (window : List Mark) → is_settling mark ≡ false → Settles window ⊎ (Settles window → ⊥) → Settles (mark ∷ window) ⊎ (Settles (mark ∷ window) → ⊥)
older_or_not mark window not_here (inl settles) = inl (settles_older mark window settles)
older_or_not mark window not_here (inr unsettled) = inr (not_settled_older mark window not_here unsettled)

pub settles_or_not : (window : List Mark) → Settles window ⊎ (Settles window → ⊥)
settles_or_not [] = inr (λ s. omega (arith, s.1))
settles_or_not (instruction true ∷ window) = inl (settles_here window)
settles_or_not (instruction false ∷ window) = older_or_not (instruction false) window refl (settles_or_not window)
settles_or_not (granted ∷ window) = older_or_not granted window refl (settles_or_not window)
settles_or_not (held c ∷ window) = older_or_not (held c) window refl (settles_or_not window)

-- A window that grants nothing and does not settle counts in full.
pub since_unsettled : (window before : List Mark) → NothingGranted window → (Settles window → ⊥) → since (window ++ before) ≡ instructions window + since before
since_unsettled [] before nothing unsettled = omega arith
since_unsettled (instruction true ∷ window) before nothing unsettled = absurd (unsettled (settles_here window))
since_unsettled (instruction false ∷ window) before nothing unsettled =
    let rest = since_unsettled window before nothing.1 (λ s. unsettled (settles_older (instruction false) window s)) in
    omega arith
since_unsettled (granted ∷ window) before nothing unsettled = absurd nothing.0
since_unsettled (held c ∷ window) before nothing unsettled =
    let rest = since_unsettled window before nothing.1 (λ s. unsettled (settles_older (held c) window s)) in
    omega arith

pub waited_unsettled : (c : Call) (window before : List Mark) → NothingGranted window → (Settles window → ⊥) → 1 + instructions window ≤ waited (window ++ (held c ∷ before))
waited_unsettled c [] before nothing unsettled = omega arith
waited_unsettled c (instruction true ∷ window) before nothing unsettled = absurd (unsettled (settles_here window))
waited_unsettled c (instruction false ∷ window) before nothing unsettled =
    let rest = waited_unsettled c window before nothing.1 (λ s. unsettled (settles_older (instruction false) window s)) in
    omega arith
waited_unsettled c (granted ∷ window) before nothing unsettled = absurd nothing.0
waited_unsettled c (held d ∷ window) before nothing unsettled =
    let rest = waited_unsettled c window before nothing.1 (λ s. unsettled (settles_older (held d) window s)) in
    omega arith

-- The instructions of two traces in a row are counted together.
pub instructions_append : (xs ys : List Mark) → instructions (xs ++ ys) ≡ instructions xs + instructions ys
instructions_append [] ys = omega arith
instructions_append (mark ∷ xs) ys = let rest = instructions_append xs ys in omega arith

-- Nothing has happened yet: there is no window of eight instructions or of five.
pub in_eight_none : InEight []
in_eight_none after window before is nothing eight =
    absurd (omega (arith, ap instructions is, instructions_append after (window ++ before), instructions_append window before))

pub in_five_none : InFive []
in_five_none c after window before is nothing five =
    absurd (omega (arith, ap instructions is, instructions_append after (window ++ (held c ∷ before)), instructions_append window (held c ∷ before)))

-- One more mark: a window without it is as before, and one that ends with it is bounded by the count.
pub in_eight_more : (mark : Mark) (marks : List Mark) → InEight marks → since (mark ∷ marks) ≤ 7 → InEight (mark ∷ marks)
in_eight_more mark marks before_it few [] window before is nothing eight =
    ⊎_elim (λ settles. settles)
    (λ (unsettled : Settles window → ⊥). absurd (omega (arith, few, ap since is, since_unsettled window before nothing unsettled))) (settles_or_not window)
in_eight_more mark marks before_it few (newest ∷ after) window before is nothing eight = before_it after window before (ap tail is) nothing eight

pub in_five_more : (mark : Mark) (marks : List Mark) → InFive marks → waited (mark ∷ marks) ≤ 5 → InFive (mark ∷ marks)
in_five_more mark marks before_it few c [] window before is nothing five =
    ⊎_elim (λ settles. settles)
    (λ (unsettled : Settles window → ⊥). absurd (omega (arith, few, ap waited is, waited_unsettled c window before nothing unsettled))) (settles_or_not window)
in_five_more mark marks before_it few c (newest ∷ after) window before is nothing five = before_it c after window before (ap tail is) nothing five

-- A call that was held, with nothing granted after it, is pending: what holds of all pending calls holds of it.
pub pending_has : (P : Call → Type 0) (c : Call) (window before : List Mark) → NothingGranted window → AllByRecursion P (pending (window ++ (held c ∷ before))) → P c
pending_has P c [] before nothing all = all.0
pending_has P c (instruction settles ∷ window) before nothing all = pending_has P c window before nothing.1 all
pending_has P c (granted ∷ window) before nothing all = absurd nothing.0
pending_has P c (held d ∷ window) before nothing all = pending_has P c window before nothing.1 all.1

-- A run of instructions that do not settle: each counts, prolongs a wait that there is, begins none, and holds no call.
pub since_run : (k : ℕ) (marks : List Mark) → since (replicate k (instruction false) ++ marks) ≡ k + since marks
since_run zero marks = omega arith
since_run (suc k) marks = let rest = since_run k marks in omega arith

pub waited_run : (k : ℕ) (marks : List Mark) → 0 < waited marks → waited (replicate k (instruction false) ++ marks) ≡ k + waited marks
waited_run zero marks some = omega arith
waited_run (suc k) marks some =
    let rest = waited_run k marks some in
    omega arith

pub waited_none : (k : ℕ) (marks : List Mark) → waited marks ≡ 0 → waited (replicate k (instruction false) ++ marks) ≡ 0
waited_none zero marks none = none
waited_none (suc k) marks none = let rest = waited_none k marks none in omega arith

pub pending_run : (k : ℕ) (marks : List Mark) → pending (replicate k (instruction false) ++ marks) ≡ pending marks
pending_run zero marks = refl
pending_run (suc k) marks = pending_run k marks
