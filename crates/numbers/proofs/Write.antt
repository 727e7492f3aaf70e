use Rattle.std.proofs.Common.{◌≡◌, ℕ, zero, suc, ◌+◌, ◌-◌, ◌*◌, ◌/◌, ◌%◌, ◌^◌, ◌<◌, ◌≤◌, max, true, false, cond, ltb, List, [], ◌∷◌, ◌++◌, length, take, drop, set, sym, refl, ap, ◌∙◌, ⊎_elim, append_assoc, append-nil, arith, le-ltb, lt-ltb, length-append, length-take, pow_pos, pow_mono, pow-add}
use native.Mathlib.Nat.{pow-succ'}
use Rattle.std.proofs.lemmas.Nat.{div_below}
use Rattle.std.proofs.lemmas.Bool.Decides.{leb_tells}
use Rattle.std.proofs.lemmas.List.{drop_all}
use Rattle.numbers.specs.Spelling.{spell, spelling}

pub spell_last : (k n : ℕ) → n < 128 → spell (suc k) n ≡ n ∷ []
unfolding spell
spell_last k n h = ap (λ t. cond t (n ∷ []) ((128 + n % 128) ∷ spell k (n / 128))) (lt-ltb n 128 h)

pub spell_more : (k n : ℕ) → 128 ≤ n → spell (suc k) n ≡ (128 + n % 128) ∷ spell k (n / 128)
unfolding spell
spell_more k n h = ap (λ t. cond t (n ∷ []) ((128 + n % 128) ∷ spell k (n / 128))) (le-ltb n 128 h)

pub pow7 : (i : ℕ) → 2 ^ (7 * suc i) ≡ 128 * 2 ^ (7 * i)
pow7 i = ap (λ k. 2 ^ k) (omega arith) ∙ pow-add 2 7 (7 * i)

-- A number has one byte for each seven bits.
spell_long : (q k n : ℕ) → q ≤ k → (0 < q → 2 ^ (7 * q) ≤ n) → n < 2 ^ (7 * suc q) → length (spell (suc k) n) ≡ q + 1
spell_long zero k n l low high = ap length (spell_last k n (omega arith))
spell_long (suc q) zero n l low high = absurd (omega arith)
spell_long (suc q) (suc k) n l low high =
    let some = pow_pos (7 * q) in
    let below : 128 * 2 ^ (7 * q) ≤ n = omega (arith, low (omega arith), pow7 q) in
    let ih = spell_long q k (n / 128) (omega arith) (λ h. omega arith) (div_below n 128 (2 ^ (7 * suc q)) (omega arith) (omega (arith, pow7 (suc q)))) in
    ap length (spell_more (suc k) n (omega arith)) ∙ ap suc ih ∙ omega arith

pub bits_long : (n m r : ℕ) → m ≡ max n 1 → 2 ^ r ≤ m → m < 2 * 2 ^ r → r < 64 → r / 7 + 1 ≡ length (spelling n)
bits_long n m r e low high h =
    let under : 2 ^ (7 * (r / 7)) ≤ 2 ^ r = pow_mono (omega arith) in
    let over : 2 ^ (r + 1) ≤ 2 ^ (7 * suc (r / 7)) = pow_mono (omega arith) in
    sym (spell_long (r / 7) 9 n (omega arith) (λ some. let seven : 7 ≤ r = omega arith in let big : 2 ^ 7 ≤ 2 ^ r = pow_mono seven in omega arith) (omega (arith, pow-add 2 r 1)))

some_spell : (k n : ℕ) → 0 < length (spell (suc k) n)
unfolding spell
some_spell k n = elim (ltb n 128) as (λ t. 0 < length (cond t (n ∷ []) ((128 + n % 128) ∷ spell k (n / 128)))) [ true ↦ omega arith | false ↦ omega arith ]

-- How far the writer has come: `done` are the groups written, and the spelling of `rest` is to come.
pub record Left (out : List ℕ) (n : ℕ) (out' : List ℕ) (i rest : ℕ) : Type 0 where
  pub done : List ℕ
  pub fuel : ℕ
  pub long : length done ≡ i
  pub enough : rest < 128 ^ suc fuel
  pub spells : spelling n ≡ done ++ spell (suc fuel) rest
  pub front : out' ≡ done ++ drop (length done) out

pub left_start : (out : List ℕ) (n : ℕ) → n < 2 ^ 64 → Left out n out 0 n
left_start out n h = record { done = []; fuel = 9; long = refl; enough = omega arith; spells = refl; front = refl }

set_next : (done out : List ℕ) (b : ℕ) → length done < length out → set (done ++ drop (length done) out) (length done) b ≡ (done ++ (b ∷ [])) ++ drop (suc (length done)) out
set_next done [] b h = absurd (omega arith)
set_next [] (x ∷ xs) b h = refl
set_next (d ∷ ds) (x ∷ xs) b h = ap (λ ys. d ∷ ys) (set_next ds xs b (omega arith))

alone : (k n : ℕ) → n < 128 → length (spell (suc k) n) ≡ 1
alone k n h = ap length (spell_last k n h)

pub left_more : (out : List ℕ) (n : ℕ) (out' : List ℕ) (i rest : ℕ) → Left out n out' i rest → i < length out → i + 1 < length (spelling n)
    → Left out n (set out' i (128 + rest % 128)) (i + 1) (rest / 128)
left_more out n out' i rest l h more = go l.fuel l.enough l.spells
  where
    long : (k : ℕ) → spelling n ≡ l.done ++ spell (suc k) rest → length (spelling n) ≡ i + length (spell (suc k) rest)
    long k e = ap length e ∙ length-append l.done (spell (suc k) rest) ∙ omega (arith, l.long)

    go : (k : ℕ) → rest < 128 ^ suc k → spelling n ≡ l.done ++ spell (suc k) rest → Left out n (set out' i (128 + rest % 128)) (i + 1) (rest / 128)
    go zero enough e = absurd (omega (arith, long 0 e, alone 0 rest (omega arith)))
    go (suc k) enough e =
        let big : 128 ≤ rest = ⊎_elim (λ p. absurd (omega (arith, long (suc k) e, alone (suc k) rest (omega arith)))) (λ p. omega arith) (leb_tells rest 127) in
        let next : suc (length l.done) ≡ length (l.done ++ ((128 + rest % 128) ∷ [])) = omega (arith, length-append l.done ((128 + rest % 128) ∷ [])) in
        record {
          done = l.done ++ ((128 + rest % 128) ∷ []);
          fuel = k;
          long = length-append l.done ((128 + rest % 128) ∷ []) ∙ omega (arith, l.long);
          enough = div_below rest 128 (128 ^ suc k) (omega arith) (omega (arith, pow-succ' 128 (suc k)));
          spells = e ∙ ap (λ bs. l.done ++ bs) (spell_more (suc k) rest big) ∙ sym (append_assoc l.done ((128 + rest % 128) ∷ []) (spell (suc k) (rest / 128)));
          front = ap (λ bs. set bs i (128 + rest % 128)) l.front ∙ ap (λ j. set (l.done ++ drop (length l.done) out) j (128 + rest % 128)) (sym l.long)
              ∙ set_next l.done out (128 + rest % 128) (omega (arith, l.long))
              ∙ ap (λ j. (l.done ++ ((128 + rest % 128) ∷ [])) ++ drop j out) next;
        }

-- The last group.
pub left_last : (out : List ℕ) (n : ℕ) (out' : List ℕ) (i rest : ℕ) → Left out n out' i rest → i + 1 ≡ length (spelling n) → rest < 128
left_last out n out' i rest l last = go l.fuel l.enough l.spells
  where
    go : (k : ℕ) → rest < 128 ^ suc k → spelling n ≡ l.done ++ spell (suc k) rest → rest < 128
    go zero enough e = omega arith
    go (suc k) enough e =
        let long = ap length e ∙ length-append l.done (spell (suc (suc k)) rest) in
        ⊎_elim (λ p. omega arith) (λ p. absurd (omega (arith, long, ap length (spell_more (suc k) rest (omega arith)), l.long, some_spell k (rest / 128)))) (leb_tells rest 127)

-- The whole spelling stands in the buffer, and behind it what stood there.
pub written : (all : List ℕ) (n : ℕ) (out' : List ℕ) (k i rest : ℕ) → Left (take (k - 1) all) n out' i rest → i ≡ k - 1 → i + 1 ≡ k → k ≡ length (spelling n) → k ≤ length all
    → set (out' ++ drop (k - 1) all) (k - 1) rest ≡ spelling n ++ drop k all
written all n out' k i rest l last next e room =
    let here : length l.done ≡ k - 1 = l.long ∙ last in
    let behind : suc (length l.done) ≡ k = omega (arith, l.long) in
    let whole : out' ≡ l.done = l.front ∙ ap (λ bs. l.done ++ bs) (drop_all (length l.done) (take (k - 1) all) (omega (arith, l.long, length-take (k - 1) all))) ∙ append-nil l.done in
    let spells : spelling n ≡ l.done ++ (rest ∷ []) = l.spells ∙ ap (λ bs. l.done ++ bs) (spell_last l.fuel rest (left_last _ _ _ _ _ l (next ∙ e))) in
    ap (λ bs. set (bs ++ drop (k - 1) all) (k - 1) rest) whole ∙ ap (λ j. set (l.done ++ drop j all) j rest) (sym here) ∙ set_next l.done all rest (omega (arith, l.long))
    ∙ ap (λ bs. bs ++ drop (suc (length l.done)) all) (sym spells) ∙ ap (λ j. spelling n ++ drop j all) behind
