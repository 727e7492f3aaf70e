-- The words of a text, read one by one.
use Rattle.std.proofs.Common.{◌≡◌, ℕ, zero, suc, ◌+◌, ◌-◌, ◌<◌, ◌≤◌, List, [], ◌∷◌, ◌++◌, length, take, drop, set, replicate, Ok, Err, sym, refl, ap, ◌∙◌, append_assoc, append-nil, arith, length-append}
use Rattle.std.proofs.Math.ListN.{length-replicate}
use Rattle.std.proofs.lemmas.List.{take-replicate, drop-replicate}
use Rattle.faults.specs.declared.Fault.{Fault}
use Rattle.image.specs.declared.fields.Field.TheVariants.{TextWord}
use Rattle.schedule.specs.Format.{padded}
use Rattle.schedule.specs.Reading.{Read, and_then, field_at, words_at, padded_words_at}

-- How far the reader has come: `taken` are the words read, and `left` are to come, for which there is a 0 each.
pub record SoFar (bytes : List ℕ) (first count i at : ℕ) (words : List ℕ) : Type 0 where
  pub taken : List ℕ
  pub left : ℕ
  pub long : length taken ≡ i
  pub rest : i + left ≡ count
  pub front : words ≡ taken ++ replicate left 0
  pub says : padded_words_at count bytes first ≡ and_then (words_at left bytes at) (λ ws end. Ok (padded (taken ++ ws), end))

pub front_long : (count : ℕ) → count ≤ 256 → length (take {A = ℕ} count (replicate 256 0)) ≡ count
front_long count few = ap length (take-replicate count 256 0 few) ∙ length-replicate count 0

pub none_yet : (bytes : List ℕ) (first count : ℕ) → count ≤ 256 → SoFar bytes first count 0 first (take count (replicate 256 0))
unfolding padded_words_at
none_yet bytes first count few = record { taken = []; left = count; long = refl; rest = omega arith; front = take-replicate count 256 0 few; says = refl }

set_at_seam : (xs : List ℕ) (m w : ℕ) → set (xs ++ replicate (suc m) 0) (length xs) w ≡ (xs ++ (w ∷ [])) ++ replicate m 0
set_at_seam [] m w = refl
set_at_seam (x ∷ xs) m w = ap (λ ys. x ∷ ys) (set_at_seam xs m w)

regroup : (taken : List ℕ) (w : ℕ) (r : Read (List ℕ))
    → and_then (and_then r (λ ws end. Ok (w ∷ ws, end))) (λ ws end. Ok (padded (taken ++ ws), end)) ≡ and_then r (λ ws end. Ok (padded ((taken ++ (w ∷ [])) ++ ws), end))
regroup taken w (Ok p) = ap (λ ws. Ok (padded ws, p.1)) (sym (append_assoc taken (w ∷ []) p.0))
regroup taken w (Err fault) = refl

words_more : (k : ℕ) (bytes : List ℕ) (at w next : ℕ) → Ok (w, next) ≡ field_at bytes at TextWord
    → words_at (suc k) bytes at ≡ and_then (words_at k bytes next) (λ ws end. Ok (w ∷ ws, end))
unfolding words_at
words_more k bytes at w next e = ap (λ r. and_then r (λ word there. and_then (words_at k bytes there) (λ ws end. Ok (word ∷ ws, end)))) (sym e)

words_stop : (k : ℕ) (bytes : List ℕ) (at : ℕ) (f : Fault) → Err f ≡ field_at bytes at TextWord → words_at (suc k) bytes at ≡ Err f
unfolding words_at
words_stop k bytes at f e = ap (λ r. and_then r (λ word there. and_then (words_at k bytes there) (λ ws end. Ok (word ∷ ws, end)))) (sym e)

words_none : (bytes : List ℕ) (at : ℕ) → words_at 0 bytes at ≡ Ok ([], at)
unfolding words_at
words_none bytes at = refl

module _ (bytes : List ℕ) (first count i at : ℕ) (words : List ℕ) (s : SoFar bytes first count i at words) where
  pub one_more : (w next : ℕ) → i < count → Ok (w, next) ≡ field_at bytes at TextWord → SoFar bytes first count (i + 1) next (set words i w)
  one_more w next h e = go s.left refl
    where
      go : (k : ℕ) → s.left ≡ k → SoFar bytes first count (i + 1) next (set words i w)
      go zero z = absurd (omega (arith, s.rest))
      go (suc k) z = record {
        taken = s.taken ++ (w ∷ []);
        left = k;
        long = length-append s.taken (w ∷ []) ∙ ap (λ n. n + 1) s.long;
        rest = omega (arith, s.rest);
        front = ap (λ ws. set ws i w) (s.front ∙ ap (λ n. s.taken ++ replicate n 0) z) ∙ ap (λ n. set (s.taken ++ replicate (suc k) 0) n w) (sym s.long) ∙ set_at_seam s.taken k w;
        says = s.says ∙ ap (λ n. and_then (words_at n bytes at) (λ ws end. Ok (padded (s.taken ++ ws), end))) z
            ∙ ap (λ r. and_then r (λ ws end. Ok (padded (s.taken ++ ws), end))) (words_more k bytes at w next e) ∙ regroup s.taken w (words_at k bytes next);
      }

  pub stops : (f : Fault) → i < count → Err f ≡ field_at bytes at TextWord → Err f ≡ padded_words_at count bytes first
  stops f h e = go s.left refl
    where
      go : (k : ℕ) → s.left ≡ k → Err f ≡ padded_words_at count bytes first
      go zero z = absurd (omega (arith, s.rest))
      go (suc k) z =
          sym (s.says ∙ ap (λ n. and_then (words_at n bytes at) (λ ws end. Ok (padded (s.taken ++ ws), end))) z
          ∙ ap (λ r. and_then r (λ ws end. Ok (padded (s.taken ++ ws), end))) (words_stop k bytes at f e))

  pub all_read : count ≤ i → Ok (words ++ drop count (replicate 256 0), at) ≡ padded_words_at count bytes first
  all_read h =
      let none : s.left ≡ 0 = omega (arith, s.rest) in
      let all : words ≡ s.taken = s.front ∙ ap (λ n. s.taken ++ replicate n 0) none ∙ append-nil s.taken in
      let long : count ≡ length s.taken = omega (arith, s.rest, s.long) in
      ap (λ n. Ok (words ++ n, at)) (drop-replicate count 256 0 ∙ ap (λ n. replicate (256 - n) 0) long) ∙ ap (λ ws. Ok (ws ++ replicate (256 - length s.taken) 0, at)) all
      ∙ ap (λ ws. Ok (padded ws, at)) (sym (append-nil s.taken))
      ∙ sym (s.says ∙ ap (λ n. and_then (words_at n bytes at) (λ ws end. Ok (padded (s.taken ++ ws), end))) none
      ∙ ap (λ r. and_then r (λ ws end. Ok (padded (s.taken ++ ws), end))) (words_none bytes at))
