use Rattle.std.proofs.Common.{◌≡◌, ℕ, zero, suc, ◌+◌, ◌-◌, ◌*◌, ◌%◌, ◌^◌, ◌<◌, ◌≤◌, Bool, true, false, cond, ltb, leb, List, [], ◌∷◌, length, get_or, drop, Ok, Err, slice_index, sym, refl, ap, ◌∙◌, subst, ◌⊎◌, ⊎_elim, mul-le-mul_right, mul_assoc, mul_comm, mul-add, mul_left_comm, arith, pow_mono, pow-add, ltb-true, le-ltb, lt-ltb}
use Rattle.std.proofs.lemmas.Nat.{shl_whole}
use Rattle.std.proofs.lemmas.Bool.Decides.{leb_tells}
use Rattle.std.proofs.lemmas.List.{drop_more, drop_all}
use Rattle.faults.specs.declared.Refusal.TheVariants.{EndsInside, WrongSpelling}
use Rattle.faults.specs.Numbering.{fault_at}
use Rattle.numbers.specs.declared.reader.Reader.{Reader}
use Rattle.numbers.proofs.Write.{pow7}
use Rattle.numbers.specs.Reading.{Heard, number, breaks, wrong, more, hear, told, number_at}

-- What bytes say, by `i` groups that say `v` and what follows them.
abbrev pub after : ℕ → ℕ → Heard → Heard
after zero v h = h
after (suc i) v breaks = breaks
after (suc i) v wrong = wrong
after (suc i) v (number n k) = cond (ltb 0 n) (number (v + 2 ^ (7 * suc i) * n) (suc i + k)) wrong

same : (t : Bool) (m n j k : ℕ) → m ≡ n → j ≡ k → cond t (number m j) wrong ≡ cond t (number n k) wrong
same t m n j k p q = ap (λ x. cond t (number x j) wrong) p ∙ ap (λ x. cond t (number n x) wrong) q

joined : (v d n p p' : ℕ) → p' ≡ 128 * p → v + p * (d + 128 * n) ≡ v + d * p + p' * n
joined v d n p p' e =
    omega (arith, mul-add p d (128 * n), mul_left_comm p 128 n, mul_comm p d, ap (λ x. x * n) e, mul_assoc 128 p n)

step : (j v b n k : ℕ) (t : Bool) → ltb 0 n ≡ t
    → after (suc j) v (cond t (number (b - 128 + 128 * n) (suc k)) wrong)
    ≡ cond t (number (v + (b - 128) * 2 ^ (7 * suc j) + 2 ^ (7 * suc (suc j)) * n) (suc (suc j) + k)) wrong
step j v b n k false e = refl
step j v b n k true e =
    let h : ltb 0 (b - 128 + 128 * n) ≡ true = lt-ltb 0 (b - 128 + 128 * n) (omega (arith, ltb-true 0 n e)) in
    rw h (same true _ _ _ _ (joined v (b - 128) n (2 ^ (7 * suc j)) (2 ^ (7 * suc (suc j))) (pow7 (suc j))) (omega arith))

-- One group more.
pub after_more : (i v b : ℕ) (h : Heard) → v < 2 ^ (7 * i) → after i v (more b h) ≡ after (suc i) (v + (b - 128) * 2 ^ (7 * i)) h
after_more zero v b breaks s = refl
after_more zero v b wrong s = refl
after_more zero v b (number n k) s = same (ltb 0 n) _ _ _ _ (omega arith) (omega arith)
after_more (suc j) v b breaks s = refl
after_more (suc j) v b wrong s = refl
after_more (suc j) v b (number n k) s = step j v b n k (ltb 0 n) refl

-- How far the reader has come: what it has read stands before what is left.
pub record SoFar (bytes : List ℕ) (first at shift value : ℕ) : Type 0 where
  pub groups : ℕ
  pub left : ℕ
  pub nine : groups + left ≡ 9
  pub place : at ≡ first + groups
  pub bits : shift ≡ 7 * groups
  pub small : value < 2 ^ shift
  pub says : hear 9 (drop first bytes) ≡ after groups value (hear left (drop at bytes))

-- A reader that has not moved has the same bytes.
pub unmoved : {here there : Reader} → here ≡ there → here.bytes.now ≡ there.bytes.now
unmoved e = ap (λ (r : Reader). r.bytes.now) e

pub start : (bytes : List ℕ) (first : ℕ) → SoFar bytes first first 0 0
start bytes first = record { groups = 0; left = 9; nine = refl; place = omega arith; bits = refl; small = omega arith; says = refl }

-- The bytes end.
after_breaks : (i v : ℕ) → after i v breaks ≡ breaks
after_breaks zero v = refl
after_breaks (suc i) v = refl

after_wrong : (i v : ℕ) → after i v wrong ≡ wrong
after_wrong zero v = refl
after_wrong (suc i) v = refl

hear_end : (k : ℕ) → hear k [] ≡ breaks
unfolding hear
hear_end k = refl

pub broken : (bytes : List ℕ) (first at shift value : ℕ) → SoFar bytes first at shift value → length bytes ≤ at
    → number_at bytes first ≡ Err (fault_at EndsInside first)
unfolding number_at
broken bytes first at shift value s h =
    ap (told first) (s.says ∙ ap (λ x. after s.groups value (hear s.left x)) (drop_all at bytes h)
    ∙ ap (after s.groups value) (hear_end s.left) ∙ after_breaks s.groups value)

-- The byte that stands at a place.
pub record Here (bytes : List ℕ) (at b : ℕ) : Type 0 where
  pub within : at < length bytes
  pub is : b ≡ get_or bytes at 0

-- What `byte` answers of the same bytes.
pub got : (bytes others : List ℕ) (at b : ℕ) → others ≡ bytes → (at < length others) × (b ≡ slice_index others at) → Here bytes at b
got bytes others at b e f = let g = rw e at f in record { within = g.0; is = g.1 }

pub gone : (bytes others : List ℕ) (at : ℕ) → others ≡ bytes → length others ≤ at → length bytes ≤ at
gone bytes others at e f = rw e at f

here : (bytes : List ℕ) (first at shift value b : ℕ) (s : SoFar bytes first at shift value) → Here bytes at b
    → hear 9 (drop first bytes) ≡ after s.groups value (hear s.left (b ∷ drop (at + 1) bytes))
here bytes first at shift value b s h =
    s.says ∙ ap (λ x. after s.groups value (hear s.left x)) (drop_more bytes at 0 h.within)
    ∙ ap (λ x. after s.groups value (hear s.left (x ∷ drop (at + 1) bytes))) (sym h.is)

hear_above : (b : ℕ) (bs : List ℕ) (k : ℕ) → k ≡ 0 → 1 < b → hear k (b ∷ bs) ≡ wrong
unfolding hear
hear_above b bs zero e h = ap (λ t. cond t (number b 1) wrong) (le-ltb b 2 h)
hear_above b bs (suc k) e h = absurd (omega arith)

hear_last : (b : ℕ) (bs : List ℕ) (k : ℕ) → b < 128 → (k ≡ 0 → b < 2) → hear k (b ∷ bs) ≡ number b 1
unfolding hear
hear_last b bs zero l h = ap (λ t. cond t (number b 1) wrong) (lt-ltb b 2 (h refl))
hear_last b bs (suc k) l h = ap (λ t. cond t (number b 1) (more b (hear k bs))) (lt-ltb b 128 l)

hear_more : (b : ℕ) (bs : List ℕ) (k : ℕ) → 128 ≤ b → hear (suc k) (b ∷ bs) ≡ more b (hear k bs)
unfolding hear
hear_more b bs k h = ap (λ t. cond t (number b 1) (more b (hear k bs))) (le-ltb b 128 h)

after_zero : (i v : ℕ) → 0 < i → after i v (number 0 1) ≡ wrong
after_zero zero v h = absurd (omega arith)
after_zero (suc i) v h = refl

after_last : (i v b : ℕ) → v < 2 ^ (7 * i) → (0 < i → 0 < b) → after i v (number b 1) ≡ number (v + b * 2 ^ (7 * i)) (i + 1)
after_last zero v b s h = same true _ _ _ _ (omega arith) refl
after_last (suc i) v b s h =
    rw (lt-ltb 0 b (h (omega arith))) (same true _ _ _ _ (omega (arith, mul_comm b (2 ^ (7 * suc i)))) refl)

-- The tenth byte is above 1; the last of several groups is 0.
pub above : (bytes : List ℕ) (first at shift value b : ℕ) → SoFar bytes first at shift value → Here bytes at b
    → shift ≡ 63 → 1 < b → number_at bytes first ≡ Err (fault_at WrongSpelling first)
unfolding number_at
above bytes first at shift value b s h e l =
    ap (told first) (here bytes first at shift value b s h
    ∙ ap (after s.groups value) (hear_above b (drop (at + 1) bytes) s.left (omega (arith, s.nine, s.bits)) l)
    ∙ after_wrong s.groups value)

pub zeroed : (bytes : List ℕ) (first at shift value b : ℕ) → SoFar bytes first at shift value → Here bytes at b
    → 0 < shift → b ≡ 0 → number_at bytes first ≡ Err (fault_at WrongSpelling first)
unfolding number_at
zeroed bytes first at shift value b s h e z =
    ap (told first) (here bytes first at shift value b s h
    ∙ ap (after s.groups value) (hear_last b (drop (at + 1) bytes) s.left (omega arith) (λ _. omega arith) ∙ ap (λ x. number x 1) z)
    ∙ after_zero s.groups value (omega (arith, s.bits)))

pub misspelled : (bytes : List ℕ) (first at shift value b : ℕ) → SoFar bytes first at shift value → Here bytes at b
    → ((shift ≡ 63) × (1 < b)) ⊎ ((0 < shift) × (b ≡ 0)) → number_at bytes first ≡ Err (fault_at WrongSpelling first)
misspelled bytes first at shift value b s h w =
    ⊎_elim (λ p. above bytes first at shift value b s h p.0 p.1) (λ p. zeroed bytes first at shift value b s h p.0 p.1) w

-- The last byte.
pub ended : (bytes : List ℕ) (first at shift value b : ℕ) → SoFar bytes first at shift value → Here bytes at b
    → b < 128 → (shift ≡ 63 → b < 2) → (0 < shift → 0 < b)
    → number_at bytes first ≡ Ok (value + b * 2 ^ shift, at + 1)
unfolding number_at
ended bytes first at shift value b s h l top low =
    ap (told first) (here bytes first at shift value b s h
    ∙ ap (after s.groups value) (hear_last b (drop (at + 1) bytes) s.left l (λ e. top (omega (arith, s.nine, s.bits))))
    ∙ after_last s.groups value b (rw (← s.bits) s.small) (λ p. low (omega (arith, s.bits))))
    ∙ ap (λ x. Ok (value + b * 2 ^ x, first + (s.groups + 1))) (sym s.bits)
    ∙ ap (λ x. Ok (value + b * 2 ^ shift, x)) (omega (arith, s.place))

-- Another byte follows.
pub next : (bytes : List ℕ) (first at shift value b : ℕ) → SoFar bytes first at shift value → Here bytes at b
    → 128 ≤ b → b < 256 → shift < 63
    → SoFar bytes first (at + 1) (shift + 7) (value + (b - 128) * 2 ^ shift)
next bytes first at shift value b s h g c l = go s.left refl
  where
    go : (k : ℕ) → s.left ≡ k → SoFar bytes first (at + 1) (shift + 7) (value + (b - 128) * 2 ^ shift)
    go zero e = absurd (omega (arith, s.nine, s.bits))
    go (suc k) e = record {
      groups = suc s.groups;
      left = k;
      nine = omega (arith, s.nine);
      place = omega (arith, s.place);
      bits = omega (arith, s.bits);
      small = omega (arith, s.small, pow-add 2 shift 7, mul-le-mul_right {m = b - 128} {n = 127} (2 ^ shift) (omega arith));
      says = here bytes first at shift value b s h
          ∙ ap (λ x. after s.groups value (hear x (b ∷ drop (at + 1) bytes))) e
          ∙ ap (after s.groups value) (hear_more b (drop (at + 1) bytes) k g)
          ∙ after_more s.groups value b (hear k (drop (at + 1) bytes)) (rw (← s.bits) s.small)
          ∙ ap (λ x. after (suc s.groups) (value + (b - 128) * 2 ^ x) (hear k (drop (at + 1) bytes))) (sym s.bits);
    }

-- A group that is shifted loses nothing, and the sum fits.
pub record Shifted (b shift value : ℕ) : Type 0 where
  pub whole : (b * 2 ^ shift) % 2 ^ 64 ≡ b * 2 ^ shift
  pub fits : value + b * 2 ^ shift < 2 ^ 64

shifted_low : (b shift value : ℕ) → b < 128 → shift ≤ 56 → value < 2 ^ shift → Shifted b shift value
shifted_low b shift value l h v = record {
  whole = shl_whole b 7 shift 64 l (omega arith);
  fits = omega (arith, pow_mono {i = shift} {j = 56} h, mul-le-mul_right {m = b} {n = 127} (2 ^ shift) (omega arith));
}

pub shifted : (bytes : List ℕ) (first at shift value b : ℕ) → SoFar bytes first at shift value → b < 128 → (shift ≡ 63 → b < 2) → Shifted b shift value
shifted bytes first at shift value b s l h = ⊎_elim (λ p. low p) (λ p. top p) (leb_tells shift 56)
  where
    low : (leb shift 56 ≡ true) × (shift ≤ 56) → Shifted b shift value
    low p = shifted_low b shift value l p.1 s.small

    top : (leb shift 56 ≡ false) × (56 < shift) → Shifted b shift value
    top p =
        let e : shift ≡ 63 = omega (arith, s.nine, s.bits) in
        let v : value < 2 ^ 63 = subst (λ x. value < 2 ^ x) e s.small in
        rw e (record { whole = shl_whole b 1 63 64 (h e) (omega arith); fits = omega (arith, h e, v) })
