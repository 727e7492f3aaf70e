-- The written spelling is the one spelling of its number, and what the reader hears is what the spellings say.
use Rattle.std.proofs.Common.{◌≡◌, ℕ, zero, suc, ◌+◌, ◌/◌, ◌%◌, ◌^◌, ◌<◌, ◌≤◌, Bool, true, false, cond, ltb, List, [], ◌∷◌, ◌++◌, length, drop, Ok, Result, sym, refl, ap, ◌∙◌, inl, inr, arith, ltb-false, ltb-true, lt-ltb}
use native.Mathlib.Nat.{pow-succ'}
use Rattle.std.proofs.lemmas.Nat.{div_below}
use Rattle.std.proofs.lemmas.List.{take-append-drop, drop_at, drop-drop}
use Rattle.faults.specs.declared.Fault.{Fault}
use Rattle.numbers.specs.Spelling.{Bytes, Grouped, value_of, Spells, spell, spelling}
use Rattle.numbers.specs.Reading.{BreakOff, Reads, Heard, number, breaks, wrong, hear, told, number_at}
use Rattle.numbers.specs.Laws.{WrittenSpells, ReadsBack, WrittenAlone, OneSpelling, OneNumber}
use Rattle.numbers.proofs.Write.{spell_last, spell_more}
use Rattle.numbers.proofs.Heard.{reads_back, one_spelling, breaks_off, front_breaks}

-- Groups with one more in front.
grouped_more : (b : ℕ) (bs : List ℕ) → 128 ≤ b → b < 256 → Grouped bs → Grouped (b ∷ bs)
grouped_more b [] l h g = absurd g
grouped_more b (c ∷ bs) l h g = (l, h, g)

-- What is written has groups that stand for the number.
abbrev Stands : List ℕ → ℕ → Type 0
Stands bytes n = Grouped bytes × (value_of bytes ≡ n)

written_stands : (k n : ℕ) → n < 128 ^ suc k → Stands (spell (suc k) n) n
written_stands zero n h = let l : n < 128 = omega (arith, h) in rw (spell_last 0 n l) (l, omega arith)
written_stands (suc k) n h =
    go (λ l. written_stands k (n / 128) l) (ltb n 128) refl
  where
    go : (n / 128 < 128 ^ suc k → Stands (spell (suc k) (n / 128)) (n / 128)) → (t : Bool) → ltb n 128 ≡ t → Stands (spell (suc (suc k)) n) n
    go ih true e = let l = ltb-true n 128 e in rw (spell_last (suc k) n l) (l, omega arith)
    go ih false e =
        let p = ih (div_below n 128 (128 ^ suc k) (omega arith) (omega (arith, pow-succ' 128 (suc k)))) in
        rw (spell_more (suc k) n (ltb-false n 128 e))
        (grouped_more (128 + n % 128) (spell (suc k) (n / 128)) (omega arith) (omega arith) p.0, omega (arith, p.1))

-- No groups that stand for the number are fewer than those written.
written_shortest : (k n : ℕ) (others : List ℕ) → Grouped others → value_of others ≡ n → length (spell k n) ≤ length others
unfolding spell
written_shortest zero n others g e = omega arith
written_shortest (suc k) n [] g e = absurd g
written_shortest (suc k) n (b ∷ []) g e =
    ap_le (lt-ltb n 128 (omega arith))
  where
    ap_le : ltb n 128 ≡ true → length (cond (ltb n 128) (n ∷ []) ((128 + n % 128) ∷ spell k (n / 128))) ≤ 1
    ap_le t = rw t (omega arith)
written_shortest (suc k) n (b ∷ c ∷ bs) g e =
    let ih = written_shortest k (n / 128) (c ∷ bs) g.2 (omega arith) in
    elim (ltb n 128) as (λ t. length (cond t (n ∷ []) ((128 + n % 128) ∷ spell k (n / 128))) ≤ suc (suc (length bs))) [ true ↦ omega arith | false ↦ omega (arith, ih) ]

pub written_spells : WrittenSpells
written_spells n h =
    let s = written_stands 9 n (omega arith) in
    record { grouped = s.0; stands = s.1; bounded = h; shortest = λ others g e. written_shortest 10 n others g e }

-- Groups that stand for the number and are no more than those written are those written.
written_only : (bytes : List ℕ) (k n : ℕ) → Grouped bytes → value_of bytes ≡ n → length bytes ≤ length (spell k n) → bytes ≡ spell k n
unfolding spell
written_only [] k n g e l = absurd g
written_only (b ∷ bs) zero n g e l = absurd (omega arith)
written_only (b ∷ []) (suc k) n g e l = let b_is : b ≡ n = omega arith in ap (λ x. x ∷ []) b_is ∙ sym (spell_last k n (omega arith))
written_only (b ∷ c ∷ bs) (suc k) n g e l =
    let rest : n / 128 ≡ value_of (c ∷ bs) = omega arith in
    go (λ d. written_only (c ∷ bs) k (n / 128) g.2 (sym rest) d) (ltb n 128) refl l
  where
    go : (length (c ∷ bs) ≤ length (spell k (n / 128)) → c ∷ bs ≡ spell k (n / 128)) → (t : Bool) → ltb n 128 ≡ t
        → length (b ∷ c ∷ bs) ≤ length (cond t (n ∷ []) ((128 + n % 128) ∷ spell k (n / 128))) → b ∷ c ∷ bs ≡ cond t (n ∷ []) ((128 + n % 128) ∷ spell k (n / 128))
    go ih true t m = absurd (omega arith)
    go ih false t m =
        let low = g.0 in
        let high = g.1 in
        let b_is : b ≡ 128 + n % 128 = omega arith in
        ap (λ x. x ∷ c ∷ bs) b_is ∙ ap (λ xs. (128 + n % 128) ∷ xs) (ih (omega arith))

pub written_alone : WrittenAlone
written_alone bytes n s =
    let w = written_spells n s.bounded in
    written_only bytes 10 n s.grouped s.stands (s.shortest (spelling n) w.grouped w.stands)

pub one_spelling_alone : OneSpelling
one_spelling_alone these those n s t = written_alone these n s ∙ sym (written_alone those n t)

pub one_number : OneNumber
one_number bytes m n s t = sym s.stands ∙ t.stands

pub reads_back_at : ReadsBack
unfolding number_at
reads_back_at before n rest h =
    ap (λ bs. told (length before) (hear 9 bs)) (drop_at before (spelling n ++ rest) (length before) refl) ∙ ap (told (length before)) (reads_back n rest h)

bytes_drop : (k : ℕ) (xs : List ℕ) → Bytes xs → Bytes (drop k xs)
bytes_drop zero xs h = h
bytes_drop (suc k) [] h = tt
bytes_drop (suc k) (x ∷ xs) h = bytes_drop k xs h.1

two_numbers : {m i n j : ℕ} → number m i ≡ number n j → i ≡ j
two_numbers e = cc

no_break : {n k : ℕ} → number n k ≡ breaks → ⊥
no_break e = let z : ◌≡◌ {A = ℕ} 0 1 = cc in omega arith

no_number : {n k : ℕ} → wrong ≡ number n k → ⊥
no_number e = let z : ◌≡◌ {A = ℕ} 0 1 = cc in omega arith

no_wrong : wrong ≡ breaks → ⊥
no_wrong e = let z : ◌≡◌ {A = ℕ} 0 1 = cc in omega arith

-- A spelling in front is heard.
heard : (bytes s rest : List ℕ) (n : ℕ) → Spells s n → bytes ≡ s ++ rest → hear 9 bytes ≡ number n (length s)
heard bytes s rest n p e =
    let w = written_alone s n p in
    ap (hear 9) (e ∙ ap (λ x. x ++ rest) w) ∙ reads_back n rest p.bounded ∙ ap (λ x. number n (length x)) (sym w)

-- What breaks off is heard to.
broken : (bytes : List ℕ) → BreakOff bytes → hear 9 bytes ≡ breaks
broken bytes b = front_breaks b.0 bytes b.1 b.3.bounded b.2 (written_alone _ _ b.3)

told_reads : (bytes : List ℕ) (first : ℕ) → Bytes (drop first bytes) → (h : Heard) → hear 9 (drop first bytes) ≡ h → Reads bytes first (told first h)
told_reads bytes first ok (number n k) e =
    let only = one_spelling (drop first bytes) n k ok e in
    let spells = written_spells n only.0 in
    let rest = drop k (drop first bytes) in
    let parts : drop first bytes ≡ spelling n ++ rest = sym (take-append-drop k (drop first bytes)) ∙ ap (λ x. x ++ rest) only.1 in
    (spelling n, rest, spells, parts, ap (λ x. first + x) (two_numbers (sym e ∙ heard (drop first bytes) (spelling n) rest n spells parts)))
told_reads bytes first ok breaks e =
    let off = breaks_off (drop first bytes) ok e in
    inl (refl, (off.0, off.1, off.3, rw off.4 (written_spells off.0 off.2)))
told_reads bytes first ok wrong e =
    inr (refl, (λ b. no_wrong (sym e ∙ broken (drop first bytes) b)), (λ b. no_number (sym e ∙ heard (drop first bytes) b.1 b.2 b.0 b.3 b.4)))

pub reads : (bytes : List ℕ) (first : ℕ) → Bytes bytes → (r : Result (ℕ × ℕ) Fault) → r ≡ number_at bytes first → Reads bytes first r
unfolding number_at
reads bytes first ok r e = rw e (told_reads bytes first (bytes_drop first bytes ok) (hear 9 (drop first bytes)) refl)

-- A number whose written spelling stands at an offset is read there; and a number that is read stood there as it is written.
pub read_there : (bytes : List ℕ) (at n : ℕ) (rest : List ℕ) → n < 2 ^ 64 → drop at bytes ≡ spelling n ++ rest → number_at bytes at ≡ Ok (n, at + length (spelling n))
unfolding number_at
read_there bytes at n rest h e = ap (λ bs. told at (hear 9 bs)) e ∙ ap (told at) (reads_back n rest h)

pub was_there : (bytes : List ℕ) (at n next : ℕ) → Bytes bytes → number_at bytes at ≡ Ok (n, next)
    → (n < 2 ^ 64) × (drop at bytes ≡ spelling n ++ drop next bytes) × (next ≡ at + length (spelling n))
was_there bytes at n next ok e = go (reads bytes at ok (Ok (n, next)) (sym e))
  where
    go : Reads bytes at (Ok (n, next)) → (n < 2 ^ 64) × (drop at bytes ≡ spelling n ++ drop next bytes) × (next ≡ at + length (spelling n))
    go (s, rest, spells, parts, behind) =
        let w = written_alone s n spells in
        let place = behind ∙ ap (λ x. at + length x) w in
        let left : rest ≡ drop next bytes = sym (drop_at s rest (length s) refl) ∙ ap (drop (length s)) (sym parts) ∙ drop-drop (length s) at bytes ∙ ap (λ k. drop k bytes) (sym behind) in
        (spells.bounded, parts ∙ ap (λ x. x ++ rest) w ∙ ap (λ x. spelling n ++ x) left, place)
