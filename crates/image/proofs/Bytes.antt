-- Numbers of four and of eight bytes.
use Rattle.std.proofs.Common.{◌≡◌, ℕ, zero, suc, ◌+◌, ◌<◌, List, length, slice_index, arith, ap, sym, ◌∙◌, subst}
use Rattle.std.specs.Fn.{Mut, Called}
use Rattle.std.specs.Array.{IsFromFnResult, IsFromFnResultFrom}
use Rattle.std.specs.Int.{from_le_bytes, w32, w64}
use Rattle.image.specs.Layout.{four_bytes, eight_bytes}

-- A list that is made by a closure that stays as it is.
module _ {F : Type 0} (g : Mut F (ℕ × Unit {0}) ℕ) (f : F) (ys : List ℕ) (h : ℕ → ℕ) (each : (k y : ℕ) (q : F) → Called g f (k, tt) y q → (q ≡ f) × (y ≡ h k)) where
  made_from : (i n : ℕ) → IsFromFnResultFrom g f ys i n → (k : ℕ) → k < n → slice_index ys (i + k) ≡ h (i + k)
  made_from i zero m k l = absurd (omega arith)
  made_from i (suc n) (q, y, at, called, rest) zero l =
      let here : i + zero ≡ i = omega arith in
      subst (λ j. slice_index ys j ≡ h j) (sym here) (at.1 0 ∙ (each i y q called).1)
  made_from i (suc n) (q, y, at, called, rest) (suc k) l =
      let there : i + 1 + k ≡ i + suc k = omega arith in
      subst (λ j. slice_index ys j ≡ h j) there (made_from (i + 1) n (subst (λ p. IsFromFnResultFrom g p ys (i + 1) n) (each i y q called).0 rest) k (omega arith))

  pub made_by : (n : ℕ) → IsFromFnResult g f ys n → (k : ℕ) → k < length ys → slice_index ys k ≡ h k
  made_by n made k l =
      let here : 0 + k ≡ k = omega arith in
      let long = made.long in
      subst (λ j. slice_index ys j ≡ h j) here (made_from 0 n made.each k (omega arith))

pub of_four : (bytes table : List ℕ) (at : ℕ) → length bytes ≡ 4 → ((k : ℕ) → k < length bytes → slice_index bytes k ≡ slice_index table (at + k)) → from_le_bytes w32 bytes ≡ four_bytes table at
of_four bytes table at n e =
    let a = e 0 (omega arith) in
    let b = e 1 (omega arith) in
    let c = e 2 (omega arith) in
    let d = e 3 (omega arith) in
    let z : slice_index table (at + 0) ≡ slice_index table at = ap (slice_index table) (omega arith) in
    omega arith

pub of_eight : (bytes table : List ℕ) (at : ℕ) → length bytes ≡ 8 → ((k : ℕ) → k < length bytes → slice_index bytes k ≡ slice_index table (at + k)) → from_le_bytes w64 bytes ≡ eight_bytes table at
of_eight bytes table at n e =
    let b0 = e 0 (omega arith) in
    let b1 = e 1 (omega arith) in
    let b2 = e 2 (omega arith) in
    let b3 = e 3 (omega arith) in
    let b4 = e 4 (omega arith) in
    let b5 = e 5 (omega arith) in
    let b6 = e 6 (omega arith) in
    let b7 = e 7 (omega arith) in
    let z : slice_index table (at + 0) ≡ slice_index table at = ap (slice_index table) (omega arith) in
    let y5 : slice_index table (at + 4 + 1) ≡ slice_index table (at + 5) = ap (slice_index table) (omega arith) in
    let y6 : slice_index table (at + 4 + 2) ≡ slice_index table (at + 6) = ap (slice_index table) (omega arith) in
    let y7 : slice_index table (at + 4 + 3) ≡ slice_index table (at + 7) = ap (slice_index table) (omega arith) in
    omega arith
