-- Numbers and fields where they stand: what is written there is read, and what is read was written there.
use Rattle.std.proofs.Common.{◌≡◌, ℕ, ◌+◌, ◌^◌, ◌<◌, ◌≤◌, Bool, true, false, cond, List, [], ◌∷◌, ◌++◌, length, drop, Ok, Err, sym, refl, ap, ◌∙◌, subst, append_assoc, arith, length-append}
use Rattle.std.proofs.lemmas.List.{drop-drop, drop_at}
use Rattle.numbers.specs.Spelling.{Bytes, spelling}
use Rattle.numbers.specs.Reading.{number_at}
use Rattle.numbers.proofs.Spelled.{read_there, was_there}
use Rattle.image.specs.declared.fields.Field.{Field}
use Rattle.image.specs.declared.fields.Field.TheVariants.{Exclusion, Grace, Cpus, Threads, Nodes, Packets, Counters, Signature, TextWord}
use Rattle.image.specs.Checks.{Check, first_failing, field_check, text_check, least, largest}
use Rattle.image.proofs.Accepting.{between_parts, between_from}
use Rattle.schedule.specs.Format.{Within}
use Rattle.schedule.specs.Reading.{Read, and_then, refused_by_boot, field_at, word_count_at}

-- Bytes stand from an offset on, up to another.
pub record Stands (bytes : List ℕ) (at : ℕ) (these : List ℕ) (next : ℕ) : Type 0 where
  pub there : drop at bytes ≡ these ++ drop next bytes
  pub behind : next ≡ at + length these

-- A part that succeeds hands on; and where all succeeds, each part did.
pub then_ok : {X Y : Type 0} {x : X} {at : ℕ} (r : Read X) (next : X → ℕ → Read Y) → r ≡ Ok (x, at) → and_then r next ≡ next x at
then_ok r next e = ap (λ r. and_then r next) e

pub record Split {X Y : Type 0} (r : Read X) (next : X → ℕ → Read Y) (z : Y × ℕ) : Type 0 where
  pub value : X
  pub at : ℕ
  pub first : r ≡ Ok (value, at)
  pub second : next value at ≡ Ok z

pub split : {X Y : Type 0} (r : Read X) (next : X → ℕ → Read Y) (z : Y × ℕ) → and_then r next ≡ Ok z → Split r next z
split (Ok p) next z e = record { value = p.0; at = p.1; first = refl; second = e }
split (Err f) next z e = cc

-- What holds of one answer holds of the same answer.
pub as_read : {X : Type 0} (P : X → ℕ → Type 0) {x y : X} {m n : ℕ} → ◌≡◌ {A = Read X} (Ok (x, m)) (Ok (y, n)) → P x m → P y n
as_read {X} P {x} {y} {m} {n} e p = let same : ◌≡◌ {A = X × ℕ} (x, m) (y, n) = cc in subst (λ q. P q.0 q.1) same p

-- A field within its limits.
accepted : (p : ℕ × ℕ) (at : ℕ) (check : Check) → check.passes ≡ true → refused_by_boot at (first_failing p (check ∷ [])) ≡ Ok p
accepted p at check e = ap (λ t. refused_by_boot at (cond t (Ok p) (Err check.fault))) e

passed : (p q : ℕ × ℕ) (at : ℕ) (check : Check) → refused_by_boot at (first_failing p (check ∷ [])) ≡ Ok q → (check.passes ≡ true) × (p ≡ q)
passed p q at check e = go check.passes refl e
  where
    go : (t : Bool) → check.passes ≡ t → refused_by_boot at (cond t (Ok p) (Err check.fault)) ≡ Ok q → (check.passes ≡ true) × (p ≡ q)
    go true b h = (b, cc)
    go false b h = cc

-- What is read where it was written, and what follows there.
pub record ReadsThere {X : Type 0} (r : Read X) (x : X) (bytes : List ℕ) (at k : ℕ) (rest : List ℕ) : Type 0 where
  pub answer : r ≡ Ok (x, at + k)
  pub onward : drop (at + k) bytes ≡ rest

pub behind_it : (bytes : List ℕ) (at : ℕ) (these rest : List ℕ) → drop at bytes ≡ these ++ rest → drop (at + length these) bytes ≡ rest
behind_it bytes at these rest e = sym (drop-drop (length these) at bytes) ∙ ap (drop (length these)) e ∙ drop_at these rest (length these) refl

pub number_there : (bytes : List ℕ) (at n : ℕ) (rest : List ℕ) → n < 2 ^ 64 → drop at bytes ≡ spelling n ++ rest → ReadsThere (number_at bytes at) n bytes at (length (spelling n)) rest
number_there bytes at n rest h e = record { answer = read_there bytes at n rest h e; onward = behind_it bytes at (spelling n) rest e }

field_small : (field : Field) (n : ℕ) → Within field n → n < 2 ^ 64
field_small Exclusion n w = omega arith
field_small Grace n w = omega arith
field_small Cpus n w = omega arith
field_small Threads n w = omega arith
field_small Nodes n w = omega arith
field_small Packets n w = omega arith
field_small Counters n w = omega arith
field_small Signature n w = omega arith
field_small TextWord n w = omega arith

pub field_there : (bytes : List ℕ) (at : ℕ) (field : Field) (n : ℕ) (rest : List ℕ) → Within field n → drop at bytes ≡ spelling n ++ rest
    → ReadsThere (field_at bytes at field) n bytes at (length (spelling n)) rest
field_there bytes at field n rest w e = record {
  answer = then_ok (number_at bytes at) (λ m next. refused_by_boot at (first_failing (m, next) (field_check field m ∷ []))) (read_there bytes at n rest (field_small field n w) e)
      ∙ accepted (n, at + length (spelling n)) at (field_check field n) (between_from (least field) (largest field) n w);
  onward = behind_it bytes at (spelling n) rest e;
}

pub count_there : (bytes : List ℕ) (at n : ℕ) (rest : List ℕ) → (1 ≤ n) × (n ≤ 256) → drop at bytes ≡ spelling n ++ rest
    → ReadsThere (word_count_at bytes at) n bytes at (length (spelling n)) rest
count_there bytes at n rest w e =
    let small : n < 2 ^ 64 = omega (arith, w.1) in
    record {
      answer = then_ok (number_at bytes at) (λ m next. refused_by_boot at (first_failing (m, next) (text_check m ∷ []))) (read_there bytes at n rest small e)
          ∙ accepted (n, at + length (spelling n)) at (text_check n) (between_from 1 256 n w);
      onward = behind_it bytes at (spelling n) rest e;
    }

-- What was read stood there.
pub number_stood : (bytes : List ℕ) (at n next : ℕ) → Bytes bytes → number_at bytes at ≡ Ok (n, next) → (n < 2 ^ 64) × Stands bytes at (spelling n) next
number_stood bytes at n next ok e = let w = was_there bytes at n next ok e in (w.0, record { there = w.1; behind = w.2 })

module _ (bytes : List ℕ) (at n next : ℕ) (ok : Bytes bytes) where
  checked_stood : (check : ℕ → Check) → and_then (number_at bytes at) (λ m there. refused_by_boot at (first_failing (m, there) (check m ∷ []))) ≡ Ok (n, next)
      → ((check n).passes ≡ true) × Stands bytes at (spelling n) next
  checked_stood check e =
      let s = split (number_at bytes at) (λ m there. refused_by_boot at (first_failing (m, there) (check m ∷ []))) (n, next) e in
      let p = passed (s.value, s.at) (n, next) at (check s.value) s.second in
      let stood = number_stood bytes at s.value s.at ok s.first in
      subst (λ q. ((check q.0).passes ≡ true) × Stands bytes at (spelling q.0) q.1) p.1 (p.0, stood.1)

  pub field_stood : (field : Field) → field_at bytes at field ≡ Ok (n, next) → Within field n × Stands bytes at (spelling n) next
  field_stood field e = let c = checked_stood (field_check field) e in (between_parts (least field) (largest field) n c.0, c.1)

  pub count_stood : word_count_at bytes at ≡ Ok (n, next) → ((1 ≤ n) × (n ≤ 256)) × Stands bytes at (spelling n) next
  count_stood e = let c = checked_stood text_check e in (between_parts 1 256 n c.0, c.1)

-- One part behind another.
pub stands_then : {bytes : List ℕ} {at mid next : ℕ} {these those : List ℕ} → Stands bytes at these mid → Stands bytes mid those next → Stands bytes at (these ++ those) next
stands_then {bytes} {at} {mid} {next} {these} {those} s t = record {
  there = s.there ∙ ap (λ x. these ++ x) t.there ∙ sym (append_assoc these those (drop next bytes));
  behind = t.behind ∙ ap (λ k. k + length those) s.behind ∙ omega (arith, length-append these those);
}
