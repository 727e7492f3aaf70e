use Rattle.std.proofs.Common.{◌≡◌, ℕ, zero, suc, ◌+◌, ◌-◌, ◌*◌, ◌/◌, ◌%◌, ◌^◌, ◌<◌, ◌≤◌, Bool, true, false, cond, ltb, List, [], ◌∷◌, ◌++◌, length, take, sym, refl, ap, ◌∙◌, add_comm, arith, length-append, pow_pos, pow-add, ltb-false, ltb-true, le-ltb, lt-ltb}
use Rattle.std.proofs.lemmas.Nat.{div_below}
use Rattle.numbers.specs.Spelling.{Bytes, spell, spelling}
use Rattle.numbers.specs.Reading.{Heard, number, breaks, wrong, more, hear}
use Rattle.numbers.proofs.Write.{spell_last, spell_more}

pow8 : (k : ℕ) → 2 ^ (7 * suc k + 1) ≡ 128 * 2 ^ (7 * k + 1)
pow8 k = ap (λ x. 2 ^ x) (omega arith) ∙ pow-add 2 7 (7 * k + 1)

back : (k n : ℕ) (rest : List ℕ) → n < 2 ^ (7 * k + 1) → hear k (spell (suc k) n ++ rest) ≡ number n (length (spell (suc k) n))
unfolding hear
back zero n rest h =
    let l : n < 2 = h in
    let s = spell_last zero n (omega arith) in
    rw s (ap (λ t. cond t (number n 1) wrong) (lt-ltb n 2 l))
back (suc k) n rest h =
    go (back k (n / 128) rest (div_below n 128 (2 ^ (7 * k + 1)) (omega arith) (omega (arith, pow8 k)))) (ltb n 128) refl
  where
    go : hear k (spell (suc k) (n / 128) ++ rest) ≡ number (n / 128) (length (spell (suc k) (n / 128)))
        → (t : Bool) → ltb n 128 ≡ t → hear (suc k) (spell (suc (suc k)) n ++ rest) ≡ number n (length (spell (suc (suc k)) n))
    go ih true e = rw (spell_last (suc k) n (ltb-true n 128 e)) (ap (λ t. cond t (number n 1) (more n (hear k rest))) e)
    go ih false e =
        let g : 128 ≤ n = ltb-false n 128 e in
        rw (spell_more (suc k) n g)
        (ap (λ t. cond t (number (128 + n % 128) 1) (more (128 + n % 128) (hear k (spell (suc k) (n / 128) ++ rest)))) (le-ltb (128 + n % 128) 128 (omega arith))
        ∙ ap (more (128 + n % 128)) ih
        ∙ ap (λ t. cond t (number (128 + n % 128 - 128 + 128 * (n / 128)) (suc (length (spell (suc k) (n / 128))))) wrong) (lt-ltb 0 (n / 128) (omega arith))
        ∙ ap (λ x. number x (suc (length (spell (suc k) (n / 128))))) (omega arith))

-- What was written is heard, whatever follows.
pub reads_back : (n : ℕ) (rest : List ℕ) → n < 2 ^ 64 → hear 9 (spelling n ++ rest) ≡ number n (length (spelling n))
reads_back n rest h = back 9 n rest h

clash : {P : Type 0} {h : Heard} {n j : ℕ} → h ≡ breaks → h ≡ number n j → P
clash p q = let z : ◌≡◌ {A = ℕ} 0 1 = cc in absurd (omega arith)

clash' : {P : Type 0} {h : Heard} {n j : ℕ} → h ≡ wrong → h ≡ number n j → P
clash' p q = let z : ◌≡◌ {A = ℕ} 0 1 = cc in absurd (omega arith)

first : {m i n j : ℕ} → number m i ≡ number n j → m ≡ n
first e = cc

second : {m i n j : ℕ} → number m i ≡ number n j → i ≡ j
second e = cc

one : (k b : ℕ) (bs : List ℕ) (n j : ℕ) → b < 128 → b < 2 ^ (7 * k + 1) → number b 1 ≡ number n j → (n < 2 ^ (7 * k + 1)) × (take j (b ∷ bs) ≡ spell (suc k) n)
one k b bs n j h l e =
    let p : b ≡ n = first e in
    let q : 1 ≡ j = second e in
    rw (← p, ← q) (l, sym (spell_last k b h))

only : (k : ℕ) (bs : List ℕ) (n j : ℕ) → Bytes bs → hear k bs ≡ number n j → (n < 2 ^ (7 * k + 1)) × (take j bs ≡ spell (suc k) n)
unfolding hear
only k [] n j w e = clash {h = breaks} refl e
only zero (b ∷ bs) n j w e = go (ltb b 2) refl e
  where
    go : (t : Bool) → ltb b 2 ≡ t → cond t (number b 1) wrong ≡ number n j → (n < 2 ^ (7 * 0 + 1)) × (take j (b ∷ bs) ≡ spell 1 n)
    go true p q = let l : b < 2 = ltb-true b 2 p in one 0 b bs n j (omega arith) l q
    go false p q = clash' {h = wrong} refl q
only (suc k) (b ∷ bs) n j w e = go (λ m i. only k bs m i w.1) (ltb b 128) refl e
  where
    far : (m i : ℕ) → 128 ≤ b → m < 2 ^ (7 * k + 1) → take i bs ≡ spell (suc k) m → (t : Bool) → ltb 0 m ≡ t
        → cond t (number (b - 128 + 128 * m) (suc i)) wrong ≡ number n j → (n < 2 ^ (7 * suc k + 1)) × (take j (b ∷ bs) ≡ spell (suc (suc k)) n)
    far m i g l s false p q = clash' {h = wrong} refl q
    far m i g l s true p q =
        let a : b - 128 + 128 * m ≡ n = first q in
        let c : suc i ≡ j = second q in
        let z : 0 < m = ltb-true 0 m p in
        let u : b < 256 = w.0 in
        let d : n / 128 ≡ m = omega arith in
        let r : 128 + n % 128 ≡ b = omega arith in
        (omega (arith, pow8 k), rw (← c) (ap (λ x. b ∷ x) s ∙ ap (λ x. x ∷ spell (suc k) m) (sym r) ∙ ap (λ x. (128 + n % 128) ∷ spell (suc k) x) (sym d) ∙ sym (spell_more (suc k) n (omega arith))))

    heard : ((m i : ℕ) → hear k bs ≡ number m i → (m < 2 ^ (7 * k + 1)) × (take i bs ≡ spell (suc k) m)) → 128 ≤ b → (h : Heard) → hear k bs ≡ h
        → more b h ≡ number n j → (n < 2 ^ (7 * suc k + 1)) × (take j (b ∷ bs) ≡ spell (suc (suc k)) n)
    heard ih g breaks p q = clash {h = breaks} refl q
    heard ih g wrong p q = clash' {h = wrong} refl q
    heard ih g (number m i) p q = let f = ih m i p in far m i g f.0 f.1 (ltb 0 m) refl q

    go : ((m i : ℕ) → hear k bs ≡ number m i → (m < 2 ^ (7 * k + 1)) × (take i bs ≡ spell (suc k) m)) → (t : Bool) → ltb b 128 ≡ t
        → cond t (number b 1) (more b (hear k bs)) ≡ number n j → (n < 2 ^ (7 * suc k + 1)) × (take j (b ∷ bs) ≡ spell (suc (suc k)) n)
    go ih true p q = let l : b < 128 = ltb-true b 128 p in one (suc k) b bs n j l (omega (arith, pow8 k, pow_pos (7 * k + 1))) q
    go ih false p q = heard ih (ltb-false b 128 p) (hear k bs) refl q

-- What is heard as a number was its written spelling.
pub one_spelling : (bytes : List ℕ) (n k : ℕ) → Bytes bytes → hear 9 bytes ≡ number n k → (n < 2 ^ 64) × (take k bytes ≡ spelling n)
one_spelling bytes n k w e = only 9 bytes n k w e

-- A longer spelling than bytes that break off.
abbrev Off : ℕ → List ℕ → Type 0
Off k bs = (n : ℕ) × (rest : List ℕ) × (n < 2 ^ (7 * k + 1)) × (0 < n) × (0 < length rest) × (bs ++ rest ≡ spell (suc k) n)

never : {P : Type 0} {n j : ℕ} → number n j ≡ breaks → P
never p = let z : ◌≡◌ {A = ℕ} 0 1 = cc in absurd (omega arith)

never' : {P : Type 0} → wrong ≡ breaks → P
never' p = let z : ◌≡◌ {A = ℕ} 0 1 = cc in absurd (omega arith)

off : (k : ℕ) (bs : List ℕ) → Bytes bs → hear k bs ≡ breaks → Off k bs
unfolding hear
off k [] w e = (1, 1 ∷ [], omega (arith, ap (λ x. 2 ^ x) (add_comm (7 * k) 1), pow-add 2 1 (7 * k), pow_pos (7 * k)), omega arith, omega arith, sym (spell_last k 1 (omega arith)))
off zero (b ∷ bs) w e = go (ltb b 2) e
  where
    go : (t : Bool) → cond t (number b 1) wrong ≡ breaks → Off 0 (b ∷ bs)
    go true q = never q
    go false q = never' q
off (suc k) (b ∷ bs) w e = go (λ p. off k bs w.1 p) (ltb b 128) refl e
  where
    other : (t : Bool) (m i : ℕ) → cond t (number (b - 128 + 128 * m) (suc i)) wrong ≡ breaks → Off (suc k) (b ∷ bs)
    other true m i q = never q
    other false m i q = never' q

    heard : (hear k bs ≡ breaks → Off k bs) → 128 ≤ b → (h : Heard) → hear k bs ≡ h → more b h ≡ breaks → Off (suc k) (b ∷ bs)
    heard ih g breaks p q =
        let f = ih p in
        let m = f.0 in
        let u : b < 256 = w.0 in
        let z : 0 < m = f.3 in
        let l : m < 2 ^ (7 * k + 1) = f.2 in
        let n = b - 128 + 128 * m in
        let d : n / 128 ≡ m = omega arith in
        let r : 128 + n % 128 ≡ b = omega arith in (
          n,
          f.1,
          omega (arith, pow8 k),
          omega arith,
          f.4,
          ap (λ x. b ∷ x) f.5 ∙ ap (λ x. x ∷ spell (suc k) m) (sym r) ∙ ap (λ x. (128 + n % 128) ∷ spell (suc k) x) (sym d) ∙ sym (spell_more (suc k) n (omega arith)),
        )
    heard ih g wrong p q = never' q
    heard ih g (number m i) p q = other (ltb 0 m) m i q

    go : (hear k bs ≡ breaks → Off k bs) → (t : Bool) → ltb b 128 ≡ t → cond t (number b 1) (more b (hear k bs)) ≡ breaks → Off (suc k) (b ∷ bs)
    go ih true p q = never q
    go ih false p q = heard ih (ltb-false b 128 p) (hear k bs) refl q

-- What breaks off is the front of a longer written spelling.
pub breaks_off : (bytes : List ℕ) → Bytes bytes → hear 9 bytes ≡ breaks
    → (n : ℕ) × (rest : List ℕ) × (n < 2 ^ 64) × (0 < length rest) × (bytes ++ rest ≡ spelling n)
breaks_off bytes w e = let f = off 9 bytes w e in (f.0, f.1, f.2, f.4, f.5)

-- And the front of a written spelling breaks off.
tail_of : (a b : ℕ) (xs ys : List ℕ) → a ∷ xs ≡ b ∷ ys → xs ≡ ys
tail_of a b xs ys e = cc

head_of : (a b : ℕ) (xs ys : List ℕ) → a ∷ xs ≡ b ∷ ys → a ≡ b
head_of a b xs ys e = cc

front : (k n : ℕ) (bs rest : List ℕ) → 0 < length rest → bs ++ rest ≡ spell (suc k) n → n < 2 ^ (7 * k + 1) → hear k bs ≡ breaks
unfolding hear
front k n [] rest g e h = refl
front zero n (b ∷ bs) rest g e h =
    let l : n < 2 = h in
    let t = ap length (tail_of b n (bs ++ rest) [] (e ∙ spell_last 0 n (omega arith))) in
    absurd (omega (arith, simp length-append at t))
front (suc k) n (b ∷ bs) rest g e h = go (λ m i p. front k m bs rest g i p) (ltb n 128) refl
  where
    go : ((m : ℕ) → bs ++ rest ≡ spell (suc k) m → m < 2 ^ (7 * k + 1) → hear k bs ≡ breaks) → (t : Bool) → ltb n 128 ≡ t
        → cond (ltb b 128) (number b 1) (more b (hear k bs)) ≡ breaks
    go ih true p =
        let t = ap length (tail_of b n (bs ++ rest) [] (e ∙ spell_last (suc k) n (ltb-true n 128 p))) in
        absurd (omega (arith, simp length-append at t))
    go ih false p =
        let q = e ∙ spell_more (suc k) n (ltb-false n 128 p) in
        let b_is : b ≡ 128 + n % 128 = head_of _ _ _ _ q in
        let i = ih (n / 128) (tail_of _ _ _ _ q) (div_below n 128 (2 ^ (7 * k + 1)) (omega arith) (omega (arith, pow8 k))) in
        ap (λ t. cond t (number b 1) (more b (hear k bs))) (le-ltb b 128 (omega arith)) ∙ ap (more b) i

pub front_breaks : (n : ℕ) (bs rest : List ℕ) → n < 2 ^ 64 → 0 < length rest → bs ++ rest ≡ spelling n → hear 9 bs ≡ breaks
front_breaks n bs rest h g e = front 9 n bs rest g e h
