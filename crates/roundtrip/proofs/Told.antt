-- What is read of a job and of a call stood there as it is written.
use Rattle.std.proofs.Common.{◌≡◌, ℕ, zero, suc, ◌+◌, ◌-◌, ◌^◌, ◌<◌, ◌≤◌, Bool, true, false, cond, eqb, ltb, List, [], ◌∷◌, ◌++◌, length, get_or, take, drop, replicate, Ok, Err, sym, refl, ap, ◌∙◌, subst, add-zero, arith, length-append, length-drop, take-append-drop, length-take, ltb-false, ltb-true}
use lib.ListN.{length-replicate}
use Rattle.std.proofs.lemmas.List.{drop-drop, drop_more, take_at}
use Rattle.std.proofs.lemmas.Bool.{eqb-true}
use Rattle.std.specs.List.{AllByRecursion}
use Rattle.faults.specs.declared.Refusal.TheVariants.{EndsInside, UnknownLetter}
use Rattle.faults.specs.Numbering.{fault_at}
use Rattle.numbers.specs.Spelling.{Bytes, spelling}
use Rattle.numbers.specs.Reading.{number_at}
use Rattle.image.specs.declared.fields.Field.TheVariants.{Exclusion, Grace, Cpus, Threads, Nodes, Packets, Counters, Signature, TextWord}
use Rattle.image.specs.declared.fields.Sizes.{Sizes}
use Rattle.calls.specs.declared.RawOperation.{RawOperation}
use Rattle.calls.specs.declared.Call.{Call}
use Rattle.calls.specs.declared.Call.TheVariants.{Enlist, Run, Advance, Switch, Idle, Signal}
use Rattle.schedule.specs.declared.job.Job.{Job}
use Rattle.image.specs.declared.text.Text.{Text}
use Rattle.schedule.specs.Format.{written_numbers, exclusion_number, words_of, padded, written_job, written_operation, written_call, Within, TellableJob, TellableOperation, Tellable}
use Rattle.schedule.specs.Reading.{Read, and_then, field_at, sizes_at, table_at, words_at, padded_words_at, word_count_at, text_at, exclusion_of, parts_at, operation_at, call_by, call_at}
use Rattle.roundtrip.specs.Laws.{HeaderWasWritten, CallWasWritten}
use Rattle.roundtrip.proofs.Parsing.{Stands, split, as_read, number_stood, field_stood, count_stood, stands_then}

-- Words.
pub record WordsStood (bytes : List ℕ) (k at : ℕ) (words : List ℕ) (next : ℕ) : Type 0 where
  pub many : length words ≡ k
  pub within : AllByRecursion (λ word. word < 2 ^ 32) words
  pub stand : Stands bytes at (written_numbers words) next

words_stood : (k : ℕ) (bytes : List ℕ) (at : ℕ) (words : List ℕ) (next : ℕ) → Bytes bytes → words_at k bytes at ≡ Ok (words, next) → WordsStood bytes k at words next
unfolding words_at
words_stood zero bytes at words next ok e =
    as_read (WordsStood bytes 0 at) e (record { many = refl; within = tt; stand = record { there = refl; behind = sym (add-zero at) } })
words_stood (suc k) bytes at words next ok e =
    let s = split (field_at bytes at TextWord) _ (words, next) e in
    let t = split (words_at k bytes s.at) _ (words, next) s.second in
    let f = field_stood bytes at s.value s.at ok TextWord s.first in
    let rest = words_stood k bytes s.at t.value t.at ok t.first in
    let small : s.value ≤ 4294967295 = f.0.1 in
    as_read (WordsStood bytes (suc k) at) t.second (record { many = ap suc rest.many; within = (omega arith, rest.within); stand = stands_then f.1 rest.stand })

-- The table.
table_stood : (bytes : List ℕ) (at : ℕ) (table : List ℕ) (next : ℕ) → table_at bytes at ≡ Ok (table, next) → (length table ≡ 160) × Stands bytes at table next
table_stood bytes at table next e = go (ltb (length bytes) (at + 160)) refl e
  where
    go : (t : Bool) → ltb (length bytes) (at + 160) ≡ t → cond {A = Read (List ℕ)} t (Err (fault_at EndsInside (length bytes))) (Ok (take 160 (drop at bytes), at + 160)) ≡ Ok (table, next) → (length table ≡ 160) × Stands bytes at table next
    go true b h = cc
    go false b h =
        let room : at + 160 ≤ length bytes = ltb-false (length bytes) (at + 160) b in
        let left = length-drop at bytes in
        let long : length (take 160 (drop at bytes)) ≡ 160 = length-take 160 (drop at bytes) ∙ omega arith in
        as_read (λ t n. (length t ≡ 160) × Stands bytes at t n) h
        (long, record { there = sym (take-append-drop 160 (drop at bytes)) ∙ ap (λ x. take 160 (drop at bytes) ++ x) (drop-drop 160 at bytes); behind = ap (λ k. at + k) (sym long) })

-- Sizes.
abbrev sizes_written : Sizes → List ℕ → List ℕ
sizes_written sizes rest = spelling sizes.cpus ++ (spelling sizes.threads ++ (spelling sizes.nodes ++ (spelling sizes.packets ++ (spelling sizes.counters ++ rest))))

pub record SizesStood (bytes : List ℕ) (at : ℕ) (sizes : Sizes) (next : ℕ) : Type 0 where
  pub cpus_within : Within Cpus sizes.cpus
  pub threads_within : Within Threads sizes.threads
  pub nodes_within : Within Nodes sizes.nodes
  pub packets_within : Within Packets sizes.packets
  pub counters_within : Within Counters sizes.counters
  pub stand : (rest : List ℕ) (end : ℕ) → Stands bytes next rest end → Stands bytes at (sizes_written sizes rest) end

sizes_stood : (bytes : List ℕ) (at : ℕ) (sizes : Sizes) (next : ℕ) → Bytes bytes → sizes_at bytes at ≡ Ok (sizes, next) → SizesStood bytes at sizes next
sizes_stood bytes at sizes next ok e =
    let s1 = split (field_at bytes at Cpus) _ (sizes, next) e in
    let s2 = split (field_at bytes s1.at Threads) _ (sizes, next) s1.second in
    let s3 = split (field_at bytes s2.at Nodes) _ (sizes, next) s2.second in
    let s4 = split (field_at bytes s3.at Packets) _ (sizes, next) s3.second in
    let s5 = split (field_at bytes s4.at Counters) _ (sizes, next) s4.second in
    let f1 = field_stood bytes at s1.value s1.at ok Cpus s1.first in
    let f2 = field_stood bytes s1.at s2.value s2.at ok Threads s2.first in
    let f3 = field_stood bytes s2.at s3.value s3.at ok Nodes s3.first in
    let f4 = field_stood bytes s3.at s4.value s4.at ok Packets s4.first in
    let f5 = field_stood bytes s4.at s5.value s5.at ok Counters s5.first in
    as_read (SizesStood bytes at) s5.second
    (record {
      cpus_within = f1.0;
      threads_within = f2.0;
      nodes_within = f3.0;
      packets_within = f4.0;
      counters_within = f5.0;
      stand = λ rest end r. stands_then f1.1 (stands_then f2.1 (stands_then f3.1 (stands_then f4.1 (stands_then f5.1 r))));
    })

-- The text.
pub record TextStood (bytes : List ℕ) (at : ℕ) (text : Text) (next : ℕ) : Type 0 where
  pub places : length text.words ≡ 256
  pub some_words : 1 ≤ text.count
  pub words_fit : text.count ≤ 256
  pub text_padded : text.words ≡ padded (words_of text)
  pub words_within : AllByRecursion (λ word. word < 2 ^ 32) (words_of text)
  pub stand : Stands bytes at (spelling text.count ++ written_numbers (words_of text)) next

of_words : (bytes : List ℕ) (at count mid : ℕ) (words : List ℕ) (next : ℕ) → ((1 ≤ count) × (count ≤ 256)) → Stands bytes at (spelling count) mid → WordsStood bytes count mid words next
    → TextStood bytes at (record { words = padded words; count = count }) next
of_words bytes at count mid words next limits number w =
    let same : take count (padded words) ≡ words = take_at words (replicate (256 - length words) 0) count w.many in
    let many = w.many in
    let most = limits.1 in
    record {
      places = length-append words (replicate (256 - length words) 0) ∙ ap (λ n. length words + n) (length-replicate (256 - length words) 0) ∙ omega arith;
      some_words = limits.0;
      words_fit = limits.1;
      text_padded = ap padded (sym same);
      words_within = subst (AllByRecursion (λ word. word < 2 ^ 32)) (sym same) w.within;
      stand = stands_then number (subst (λ ws. Stands bytes mid (written_numbers ws) next) (sym same) w.stand);
    }

text_stood : (bytes : List ℕ) (at : ℕ) (text : Text) (next : ℕ) → Bytes bytes → text_at bytes at ≡ Ok (text, next) → TextStood bytes at text next
unfolding padded_words_at
text_stood bytes at text next ok e =
    let s1 = split (word_count_at bytes at) _ (text, next) e in
    let s2 = split (padded_words_at s1.value bytes s1.at) _ (text, next) s1.second in
    let s3 = split (words_at s1.value bytes s1.at) _ (s2.value, s2.at) s2.first in
    let c = count_stood bytes at s1.value s1.at ok s1.first in
    let w = words_stood s1.value bytes s1.at s3.value s3.at ok s3.first in
    let whole = of_words bytes at s1.value s1.at s3.value s3.at c.0 c.1 w in
    as_read (TextStood bytes at) s2.second (as_read (λ ws. TextStood bytes at (record { words = ws; count = s1.value })) s3.second whole)

-- The parts of a job.
exclusion_told : (n : ℕ) → Within Exclusion n → exclusion_number (exclusion_of n) ≡ n
exclusion_told zero w = refl
exclusion_told (suc zero) w = refl
exclusion_told (suc (suc zero)) w = refl
exclusion_told (suc (suc (suc n))) w = absurd (omega (arith, w.1))

pub record JobStood (bytes : List ℕ) (at : ℕ) (job : Job) (next : ℕ) : Type 0 where
  pub tellable : TellableJob job
  pub stand : Stands bytes at
      (spelling (exclusion_number job.exclusion) ++ (spelling job.grace ++ sizes_written job.sizes (spelling job.signature ++ (job.table ++ (spelling job.text.count ++ written_numbers (words_of job.text)))))) next

parts_stood : (bytes : List ℕ) (at : ℕ) (job : Job) (next : ℕ) → Bytes bytes → parts_at bytes at ≡ Ok (job, next) → JobStood bytes at job next
parts_stood bytes at job next ok e =
    let s1 = split (field_at bytes at Exclusion) _ (job, next) e in
    let s2 = split (field_at bytes s1.at Grace) _ (job, next) s1.second in
    let s3 = split (sizes_at bytes s2.at) _ (job, next) s2.second in
    let s4 = split (field_at bytes s3.at Signature) _ (job, next) s3.second in
    let s5 = split (table_at bytes s4.at) _ (job, next) s4.second in
    let s6 = split (text_at bytes s5.at) _ (job, next) s5.second in
    let f1 = field_stood bytes at s1.value s1.at ok Exclusion s1.first in
    let f2 = field_stood bytes s1.at s2.value s2.at ok Grace s2.first in
    let f3 = sizes_stood bytes s2.at s3.value s3.at ok s3.first in
    let f4 = field_stood bytes s3.at s4.value s4.at ok Signature s4.first in
    let f5 = table_stood bytes s4.at s5.value s5.at s5.first in
    let f6 = text_stood bytes s5.at s6.value s6.at ok s6.first in
    let grace_small : s2.value < 256 = omega (arith, f2.0.1) in
    let signature_small : s4.value < 2 ^ 32 = omega (arith, f4.0.1) in
    let named = exclusion_told s1.value f1.0 in
    as_read (JobStood bytes at) s6.second
    (record {
      tellable = record {
        grace_within = grace_small;
        cpus_within = f3.cpus_within;
        threads_within = f3.threads_within;
        nodes_within = f3.nodes_within;
        packets_within = f3.packets_within;
        counters_within = f3.counters_within;
        signature_within = signature_small;
        table_long = f5.0;
        places = f6.places;
        some_words = f6.some_words;
        words_fit = f6.words_fit;
        text_padded = f6.text_padded;
        words_within = f6.words_within;
      };
      stand = stands_then (subst (λ n. Stands bytes at (spelling n) s1.at) (sym named) f1.1) (stands_then f2.1 (f3.stand _ _ (stands_then f4.1 (stands_then f5.1 f6.stand))));
    })

-- A letter.
letter_stood : (bytes : List ℕ) (first letter : ℕ) → first < length bytes → get_or bytes first 0 ≡ letter → Stands bytes first (letter ∷ []) (first + 1)
letter_stood bytes first letter h e = record { there = drop_more bytes first 0 h ∙ ap (λ b. b ∷ drop (first + 1) bytes) e; behind = refl }

pub header_was_written : HeaderWasWritten
header_was_written bytes job next ok e = long (ltb 32768 (length bytes)) refl e
  where
    Whole : Type 0
    Whole = TellableJob job × (length bytes ≤ 32768) × (bytes ≡ written_job job ++ drop next bytes) × (next ≡ length (written_job job))

    letter : length bytes ≤ 32768 → 0 < length bytes → (t : Bool) → eqb (get_or bytes 0 0) 74 ≡ t → cond t (parts_at bytes 1) (Err (fault_at UnknownLetter 0)) ≡ Ok (job, next) → Whole
    letter short some true b h =
        let parts = parts_stood bytes 1 job next ok h in
        let whole = stands_then (letter_stood bytes 0 74 some (eqb-true (get_or bytes 0 0) 74 b)) parts.stand in
        (parts.tellable, short, whole.there, whole.behind ∙ omega arith)
    letter short some false b h = cc

    empty : length bytes ≤ 32768 → (t : Bool) → ltb 0 (length bytes) ≡ t
        → cond t (cond (eqb (get_or bytes 0 0) 74) (parts_at bytes 1) (Err (fault_at UnknownLetter 0))) (Err (fault_at EndsInside 0)) ≡ Ok (job, next) → Whole
    empty short true b h = letter short (ltb-true 0 (length bytes) b) (eqb (get_or bytes 0 0) 74) refl h
    empty short false b h = cc

    long : (t : Bool) → ltb 32768 (length bytes) ≡ t
        → cond t (Err (fault_at EndsInside 32768)) (cond (ltb 0 (length bytes)) (cond (eqb (get_or bytes 0 0) 74) (parts_at bytes 1) (Err (fault_at UnknownLetter 0))) (Err (fault_at EndsInside 0))) ≡ Ok (job, next)
        → Whole
    long true b h = cc
    long false b h = empty (ltb-false 32768 (length bytes) b) (ltb 0 (length bytes)) refl h

-- Operands.
pub record CallStood (bytes : List ℕ) (first : ℕ) (call : Call) (next : ℕ) : Type 0 where
  pub tellable : Tellable call
  pub stand : Stands bytes first (written_call call) next

operation_stood : (bytes : List ℕ) (at : ℕ) (operation : RawOperation) (next : ℕ) → Bytes bytes → operation_at bytes at ≡ Ok (operation, next)
    → TellableOperation operation × Stands bytes at (written_operation operation) next
operation_stood bytes at operation next ok e =
    let s1 = split (number_at bytes at) _ (operation, next) e in
    let s2 = split (number_at bytes s1.at) _ (operation, next) s1.second in
    let s3 = split (number_at bytes s2.at) _ (operation, next) s2.second in
    let n1 = number_stood bytes at s1.value s1.at ok s1.first in
    let n2 = number_stood bytes s1.at s2.value s2.at ok s2.first in
    let n3 = number_stood bytes s2.at s3.value s3.at ok s3.first in
    as_read (λ o n. TellableOperation o × Stands bytes at (written_operation o) n) s3.second ((n1.0, n2.0, n3.0), stands_then n1.1 (stands_then n2.1 n3.1))

module _ (bytes : List ℕ) (first : ℕ) (call : Call) (next : ℕ) (ok : Bytes bytes) where
  abbrev ResultStood : Type 0
  ResultStood = CallStood bytes first call next

  of_one : (letter : ℕ) (make : ℕ → Call) → ((n : ℕ) → n < 2 ^ 64 → Tellable (make n)) → ((n : ℕ) → written_call (make n) ≡ letter ∷ spelling n)
      → Stands bytes first (letter ∷ []) (first + 1) → and_then (number_at bytes (first + 1)) (λ n at. Ok (make n, at)) ≡ Ok (call, next) → ResultStood
  of_one letter make fits written l e =
      let s = split (number_at bytes (first + 1)) _ (call, next) e in
      let n = number_stood bytes (first + 1) s.value s.at ok s.first in
      as_read (CallStood bytes first) s.second (record { tellable = fits s.value n.0; stand = subst (λ w. Stands bytes first w s.at) (sym (written s.value)) (stands_then l n.1) })

  -- A number, and a second operand of any kind.
  of_two : {B : Type 0} (second : ℕ → Read B) (spelled : B → List ℕ) (Fits : B → Type 0) → ((at : ℕ) (b : B) (end : ℕ) → second at ≡ Ok (b, end) → Fits b × Stands bytes at (spelled b) end)
      → (letter : ℕ) (make : ℕ → B → Call) → ((n : ℕ) (b : B) → n < 2 ^ 64 → Fits b → Tellable (make n b)) → ((n : ℕ) (b : B) → written_call (make n b) ≡ letter ∷ (spelling n ++ spelled b))
      → Stands bytes first (letter ∷ []) (first + 1) → and_then (number_at bytes (first + 1)) (λ n at. and_then (second at) (λ b at. Ok (make n b, at))) ≡ Ok (call, next) → ResultStood
  of_two second spelled Fits stood letter make fits written l e =
      let s1 = split (number_at bytes (first + 1)) _ (call, next) e in
      let s2 = split (second s1.at) _ (call, next) s1.second in
      let n1 = number_stood bytes (first + 1) s1.value s1.at ok s1.first in
      let n2 = stood s1.at s2.value s2.at s2.first in
      as_read (CallStood bytes first) s2.second
      (record { tellable = fits s1.value s2.value n1.0 n2.0; stand = subst (λ w. Stands bytes first w s2.at) (sym (written s1.value s2.value)) (stands_then l (stands_then n1.1 n2.1)) })

  -- One letter after the other is tried.
  by_letter : (letter : ℕ) (this other : Read Call) → first < length bytes → (this ≡ Ok (call, next) → Stands bytes first (letter ∷ []) (first + 1) → ResultStood) → (other ≡ Ok (call, next) → ResultStood)
      → cond (eqb (get_or bytes first 0) letter) this other ≡ Ok (call, next) → ResultStood
  by_letter letter this other h here there e = go (eqb (get_or bytes first 0) letter) refl e
    where
      go : (t : Bool) → eqb (get_or bytes first 0) letter ≡ t → cond t this other ≡ Ok (call, next) → ResultStood
      go true b q = here q (letter_stood bytes first letter h (eqb-true (get_or bytes first 0) letter b))
      go false b q = there q

  call_stood : call_at bytes first ≡ Ok (call, next) → ResultStood
  call_stood e = go (ltb first (length bytes)) refl e
    where
      letters : first < length bytes → call_by (get_or bytes first 0) bytes first (first + 1) ≡ Ok (call, next) → ResultStood
      letters h q =
          by_letter 101 _ _ h (λ p l. of_two (operation_at bytes) written_operation TellableOperation (λ at o end. operation_stood bytes at o end ok) 101 Enlist (λ n o s t. (s, t)) (λ n o. refl) l p)
          (by_letter 114 _ _ h (λ p l. of_one 114 Run (λ n s. s) (λ n. refl) l p)
          (by_letter 97 _ _ h (λ p l. of_two (number_at bytes) spelling (λ n. n < 2 ^ 64) (λ at n end. number_stood bytes at n end ok) 97 Advance (λ m n s t. (s, t)) (λ m n. refl) l p)
          (by_letter 115 _ _ h (λ p l. of_two (number_at bytes) spelling (λ n. n < 2 ^ 64) (λ at n end. number_stood bytes at n end ok) 115 Switch (λ m n s t. (s, t)) (λ m n. refl) l p)
          (by_letter 105 _ _ h (λ p l. of_one 105 Idle (λ n s. s) (λ n. refl) l p)
          (by_letter 103 _ _ h (λ p l. of_two (operation_at bytes) written_operation TellableOperation (λ at o end. operation_stood bytes at o end ok) 103 Signal (λ n o s t. (s, t)) (λ n o. refl) l p)
          (λ p. cc)))))) q

      go : (t : Bool) → ltb first (length bytes) ≡ t → cond t (call_by (get_or bytes first 0) bytes first (first + 1)) (Err (fault_at EndsInside first)) ≡ Ok (call, next) → ResultStood
      go true b q = letters (ltb-true first (length bytes) b) q
      go false b q = cc

pub call_was_written : CallWasWritten
call_was_written bytes first call next ok e = let s = call_stood bytes first call next ok e in (s.tellable, s.stand.there, s.stand.behind)
