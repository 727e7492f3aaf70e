-- What is written of a job and of calls reads back as them.
use Rattle.std.proofs.Common.{◌≡◌, ℕ, zero, suc, ◌+◌, ◌^◌, ◌<◌, ◌≤◌, cond, ltb, List, [], ◌∷◌, ◌++◌, length, get_or, take, drop, None, Ok, Err, sym, refl, ap, ◌∙◌, append_assoc, add-zero, arith, length-append, length-drop, length-take, le-ltb, lt-ltb}
use Rattle.std.proofs.lemmas.List.{take_at, drop_at, get_or-drop}
use Rattle.std.specs.List.{AllByRecursion}
use Rattle.faults.specs.declared.Refusal.TheVariants.{EndsInside}
use Rattle.faults.specs.Numbering.{fault_at}
use Rattle.numbers.specs.Spelling.{spelling}
use Rattle.numbers.specs.Reading.{number_at}
use Rattle.image.specs.declared.fields.Field.TheVariants.{Exclusion, Grace, Cpus, Threads, Nodes, Packets, Counters, Signature, TextWord}
use Rattle.calls.specs.declared.RawOperation.{RawOperation}
use Rattle.calls.specs.declared.Call.{Call}
use Rattle.calls.specs.declared.Call.TheVariants.{Enlist, Run, Advance, Switch, Idle, Signal}
use Rattle.schedule.specs.declared.job.ExclusionName.{ExclusionName}
use Rattle.schedule.specs.declared.job.ExclusionName.TheVariants.{Abort, Rollback, Masking}
use Rattle.schedule.specs.declared.job.Job.{Job}
use Rattle.schedule.specs.Format.{written_numbers, exclusion_number, words_of, padded, written_job, written_operation, written_call, written_calls, written_schedule, Within, TellableJob, TellableOperation, Tellable}
use Rattle.schedule.specs.Reading.{Read, and_then, field_at, table_at, words_at, padded_words_at, exclusion_of, parts_at, header_at, operation_at, call_by, call_at, calls_from, calls_after, with_call}
use Rattle.roundtrip.specs.Laws.{placed, ScheduleReadsBack}
use Rattle.roundtrip.proofs.Parsing.{ReadsThere, then_ok, behind_it, number_there, field_there, count_there}
use Rattle.schedule.proofs.Calling.{no_call, some_call}

-- The words of a text.
pub words_there : (bytes : List ℕ) (at : ℕ) (words rest : List ℕ) → AllByRecursion (λ word. word < 2 ^ 32) words → drop at bytes ≡ written_numbers words ++ rest
    → ReadsThere (words_at (length words) bytes at) words bytes at (length (written_numbers words)) rest
unfolding words_at
words_there bytes at [] rest all e = record { answer = ap (λ k. Ok ([], k)) (sym (add-zero at)); onward = ap (λ k. drop k bytes) (add-zero at) ∙ e }
words_there bytes at (word ∷ words) rest all e =
    let small : word < 2 ^ 32 = all.0 in
    let one = field_there bytes at TextWord word (written_numbers words ++ rest) (omega arith, omega arith) (e ∙ append_assoc (spelling word) (written_numbers words) rest) in
    let more = words_there bytes (at + length (spelling word)) words rest all.1 one.onward in
    let long : at + length (spelling word) + length (written_numbers words) ≡ at + length (spelling word ++ written_numbers words) = omega (arith, length-append (spelling word) (written_numbers words)) in
    record {
      answer = then_ok (field_at bytes at TextWord) (λ w next. and_then (words_at (length words) bytes next) (λ ws end. Ok (w ∷ ws, end))) one.answer
          ∙ then_ok (words_at (length words) bytes (at + length (spelling word))) (λ ws end. Ok (word ∷ ws, end)) more.answer ∙ ap (λ k. Ok (word ∷ words, k)) long;
      onward = ap (λ k. drop k bytes) (sym long) ∙ more.onward;
    }

-- The bytes of the table.
table_there : (bytes : List ℕ) (at : ℕ) (table rest : List ℕ) → length table ≡ 160 → drop at bytes ≡ table ++ rest → ReadsThere (table_at bytes at) table bytes at 160 rest
table_there bytes at table rest long e =
    let enough = simp (length-drop, length-append) at (ap length e) in
    let room : at + 160 ≤ length bytes = omega arith in
    record {
      answer = ap (λ t. cond t (Err (fault_at EndsInside (length bytes))) (Ok (take 160 (drop at bytes), at + 160))) (le-ltb (length bytes) (at + 160) room)
          ∙ ap (λ x. Ok (x, at + 160)) (ap (take 160) e ∙ take_at table rest 160 long);
      onward = ap (λ k. drop (at + k) bytes) (sym long) ∙ behind_it bytes at table rest e;
    }

exclusion_back : (exclusion : ExclusionName) → exclusion_of (exclusion_number exclusion) ≡ exclusion
exclusion_back Abort = refl
exclusion_back Rollback = refl
exclusion_back Masking = refl

exclusion_within : (exclusion : ExclusionName) → Within Exclusion (exclusion_number exclusion)
exclusion_within Abort = (omega arith, omega arith)
exclusion_within Rollback = (omega arith, omega arith)
exclusion_within Masking = (omega arith, omega arith)

-- The parts of a job behind its letter.
abbrev parts_of : Job → List ℕ
parts_of job =
    spelling (exclusion_number job.exclusion) ++ (spelling job.grace ++ (spelling job.sizes.cpus ++ (spelling job.sizes.threads
    ++ (spelling job.sizes.nodes ++ (spelling job.sizes.packets ++ (spelling job.sizes.counters ++ (spelling job.signature
    ++ (job.table ++ (spelling job.text.count ++ written_numbers (words_of job.text))))))))))

count_is : (job : Job) → TellableJob job → length (words_of job.text) ≡ job.text.count
count_is job t = length-take job.text.count job.text.words ∙ omega (arith, t.words_fit, t.places)

text_back : (bytes : List ℕ) (at : ℕ) (job : Job) (rest : List ℕ) (t : TellableJob job) → drop at bytes ≡ written_numbers (words_of job.text) ++ rest
    → ReadsThere (padded_words_at job.text.count bytes at) job.text.words bytes at (length (written_numbers (words_of job.text))) rest
unfolding padded_words_at
text_back bytes at job rest t e =
    let words = words_of job.text in
    let read = words_there bytes at words rest t.words_within e in
    record {
      answer = ap (λ n. and_then (words_at n bytes at) (λ ws end. Ok (padded ws, end))) (sym (count_is job t))
          ∙ then_ok (words_at (length words) bytes at) (λ ws end. Ok (padded ws, end)) read.answer ∙ ap (λ ws. Ok (ws, at + length (written_numbers words))) (sym t.text_padded);
      onward = read.onward;
    }

abbrev end_of_parts : ℕ → Job → ℕ
end_of_parts at job =
    at + length (spelling (exclusion_number job.exclusion)) + length (spelling job.grace) + length (spelling job.sizes.cpus) + length (spelling job.sizes.threads)
    + length (spelling job.sizes.nodes) + length (spelling job.sizes.packets) + length (spelling job.sizes.counters) + length (spelling job.signature) + 160
    + length (spelling job.text.count) + length (written_numbers (words_of job.text))

end_is : (at : ℕ) (job : Job) → length job.table ≡ 160 → end_of_parts at job ≡ at + length (parts_of job)
end_is at job long = simp length-append (omega arith)

pub parts_there : (bytes : List ℕ) (at : ℕ) (job : Job) (rest : List ℕ) → TellableJob job → drop at bytes ≡ parts_of job ++ rest
    → parts_at bytes at ≡ Ok (job, at + length (parts_of job))
parts_there bytes at job rest t e =
    let start = simp append_assoc at e in
    let w = exclusion_within job.exclusion in
    let g : Within Grace job.grace = let h = t.grace_within in (omega arith, omega arith) in
    let s : Within Signature job.signature = let h = t.signature_within in (omega arith, omega arith) in
    let f1 = field_there bytes at Exclusion (exclusion_number job.exclusion) _ w start in
    let f2 = field_there bytes _ Grace job.grace _ g f1.onward in
    let f3 = field_there bytes _ Cpus job.sizes.cpus _ t.cpus_within f2.onward in
    let f4 = field_there bytes _ Threads job.sizes.threads _ t.threads_within f3.onward in
    let f5 = field_there bytes _ Nodes job.sizes.nodes _ t.nodes_within f4.onward in
    let f6 = field_there bytes _ Packets job.sizes.packets _ t.packets_within f5.onward in
    let f7 = field_there bytes _ Counters job.sizes.counters _ t.counters_within f6.onward in
    let f8 = field_there bytes _ Signature job.signature _ s f7.onward in
    let f9 = table_there bytes _ job.table _ t.table_long f8.onward in
    let f10 = count_there bytes _ job.text.count _ (t.some_words, t.words_fit) f9.onward in
    let f11 = text_back bytes _ job rest t f10.onward in
    let sizes = then_ok _ _ f3.answer ∙ then_ok _ _ f4.answer ∙ then_ok _ _ f5.answer ∙ then_ok _ _ f6.answer ∙ then_ok _ _ f7.answer in
    let text = then_ok _ _ f10.answer ∙ then_ok _ _ f11.answer in
    then_ok _ _ f1.answer ∙ then_ok _ _ f2.answer ∙ then_ok _ _ sizes ∙ then_ok _ _ f8.answer ∙ then_ok _ _ f9.answer ∙ then_ok _ _ text
    ∙ ap (λ x. Ok (record { exclusion = x; grace = job.grace; sizes = job.sizes; signature = job.signature; table = job.table; text = job.text }, end_of_parts at job)) (exclusion_back job.exclusion)
    ∙ ap (λ k. Ok (job, k)) (end_is at job t.table_long)

-- A header.
pub header_back : (job : Job) (rest : List ℕ) → TellableJob job → length (written_job job ++ rest) ≤ 32768 → header_at (written_job job ++ rest) ≡ Ok (job, length (written_job job))
header_back job rest t short =
    let bytes = written_job job ++ rest in
    ap (λ b. cond b (Err (fault_at EndsInside 32768)) (cond (ltb 0 (length bytes)) (parts_at bytes 1) (Err (fault_at EndsInside 0)))) (le-ltb 32768 (length bytes) short)
    ∙ ap (λ b. cond b (parts_at bytes 1) (Err (fault_at EndsInside 0))) (lt-ltb 0 (length bytes) (omega arith))
    ∙ parts_there bytes 1 job rest t refl ∙ ap (λ k. Ok (job, k)) (omega arith)

operation_there : (bytes : List ℕ) (at : ℕ) (operation : RawOperation) (rest : List ℕ) → TellableOperation operation → drop at bytes ≡ written_operation operation ++ rest
    → ReadsThere (operation_at bytes at) operation bytes at (length (written_operation operation)) rest
operation_there bytes at operation rest t e =
    let start = simp append_assoc at e in
    let n1 = number_there bytes at operation.kind _ t.0 start in
    let n2 = number_there bytes _ operation.counter _ t.1 n1.onward in
    let n3 = number_there bytes _ operation.amount _ t.2 n2.onward in
    record {
      answer = then_ok _ _ n1.answer ∙ then_ok _ _ n2.answer ∙ then_ok _ _ n3.answer ∙ ap (λ k. Ok (operation, k)) (simp length-append (omega arith));
      onward = behind_it bytes at (written_operation operation) rest e;
    }

-- A call with one operand, and with a number and a second operand of any kind.
one_operand : (bytes : List ℕ) (at n : ℕ) (rest : List ℕ) (make : ℕ → Call) → n < 2 ^ 64 → drop at bytes ≡ spelling n ++ rest
    → and_then (number_at bytes at) (λ m next. Ok (make m, next)) ≡ Ok (make n, at + length (spelling n))
one_operand bytes at n rest make h e = then_ok _ _ (number_there bytes at n rest h e).answer

two_operands : {B : Type 0} (bytes : List ℕ) (second : ℕ → Read B) (spelled : B → List ℕ) (at n : ℕ) (b : B) (rest : List ℕ) (make : ℕ → B → Call) → n < 2 ^ 64
    → ((there : ℕ) → drop there bytes ≡ spelled b ++ rest → ReadsThere (second there) b bytes there (length (spelled b)) rest) → drop at bytes ≡ (spelling n ++ spelled b) ++ rest
    → and_then (number_at bytes at) (λ i next. and_then (second next) (λ o end. Ok (make i o, end))) ≡ Ok (make n b, at + length (spelling n ++ spelled b))
two_operands bytes second spelled at n b rest make h reads e =
    let n1 = number_there bytes at n (spelled b ++ rest) h (e ∙ append_assoc (spelling n) (spelled b) rest) in
    let n2 = reads _ n1.onward in
    then_ok _ _ n1.answer ∙ then_ok _ _ n2.answer ∙ ap (λ x. Ok (make n b, x)) (omega (arith, length-append (spelling n) (spelled b)))

-- A letter, and the operands behind it.
lettered : (bytes : List ℕ) (first letter : ℕ) (rest : List ℕ) {call : Call} (k : ℕ) → drop first bytes ≡ letter ∷ rest
    → (drop (first + 1) bytes ≡ rest → call_by letter bytes first (first + 1) ≡ Ok (call, first + 1 + k)) → call_at bytes first ≡ Ok (call, first + suc k)
lettered bytes first letter rest {call} k e reads =
    let long = length-drop first bytes in
    let more = ap length e in
    let here : first + 0 ≡ first = omega arith in
    ap (λ b. cond b (call_by (get_or bytes first 0) bytes first (first + 1)) (Err (fault_at EndsInside first))) (lt-ltb first (length bytes) (omega arith))
    ∙ ap (λ n. call_by n bytes first (first + 1)) (ap (λ i. get_or bytes i 0) (sym here) ∙ sym (get_or-drop first bytes 0 0) ∙ ap (λ xs. get_or xs 0 0) e)
    ∙ reads (behind_it bytes first (letter ∷ []) rest e) ∙ ap (λ x. Ok (call, x)) (omega arith)

pub call_there : (bytes : List ℕ) (first : ℕ) (call : Call) (rest : List ℕ) → Tellable call → drop first bytes ≡ written_call call ++ rest → call_at bytes first ≡ Ok (call, first + length (written_call call))
call_there bytes first (Enlist thread operation) rest t e =
    lettered bytes first 101 _ _ e (two_operands bytes (operation_at bytes) written_operation (first + 1) thread operation rest Enlist t.0 (λ there. operation_there bytes there operation rest t.1))
call_there bytes first (Run cpu) rest t e = lettered bytes first 114 _ _ e (one_operand bytes (first + 1) cpu rest Run t)
call_there bytes first (Advance cpu instructions) rest t e =
    lettered bytes first 97 _ _ e (two_operands bytes (number_at bytes) spelling (first + 1) cpu instructions rest Advance t.0 (λ there. number_there bytes there instructions rest t.1))
call_there bytes first (Switch cpu thread) rest t e =
    lettered bytes first 115 _ _ e (two_operands bytes (number_at bytes) spelling (first + 1) cpu thread rest Switch t.0 (λ there. number_there bytes there thread rest t.1))
call_there bytes first (Idle cpu) rest t e = lettered bytes first 105 _ _ e (one_operand bytes (first + 1) cpu rest Idle t)
call_there bytes first (Signal thread operation) rest t e =
    lettered bytes first 103 _ _ e (two_operands bytes (operation_at bytes) written_operation (first + 1) thread operation rest Signal t.0 (λ there. operation_there bytes there operation rest t.1))

some_byte : (call : Call) → 0 < length (written_call call)
some_byte (Enlist thread operation) = omega arith
some_byte (Run cpu) = omega arith
some_byte (Advance cpu instructions) = omega arith
some_byte (Switch cpu thread) = omega arith
some_byte (Idle cpu) = omega arith
some_byte (Signal thread operation) = omega arith

-- Calls to the end.
pub calls_there : (calls : List Call) (k : ℕ) (bytes : List ℕ) (at : ℕ) → AllByRecursion Tellable calls → drop at bytes ≡ written_calls calls → length bytes ≤ k + at
    → calls_from k bytes at ≡ record { calls = placed at calls; fault = None }
calls_there [] k bytes at all e enough = no_call k bytes at (let none = sym (length-drop at bytes) ∙ ap length e in omega arith)
calls_there (call ∷ calls) k bytes at all e enough = go k enough (λ j room. calls_there calls j bytes (at + length (written_call call)) all.1 (behind_it bytes at (written_call call) (written_calls calls) e) room)
  where
    within : at < length bytes
    within =
        let long = sym (length-drop at bytes) ∙ ap length e ∙ length-append (written_call call) (written_calls calls) in
        let some = some_byte call in
        omega arith

    go : (j : ℕ) → length bytes ≤ j + at
        → ((i : ℕ) → length bytes ≤ i + (at + length (written_call call)) → calls_from i bytes (at + length (written_call call)) ≡ record { calls = placed (at + length (written_call call)) calls; fault = None })
        → calls_from j bytes at ≡ record { calls = placed at (call ∷ calls); fault = None }
    go zero room more = let w = within in absurd (omega arith)
    go (suc j) room more =
        let some = some_byte call in
        some_call j bytes at within ∙ ap (calls_after at (λ next. calls_from j bytes next)) (call_there bytes at call (written_calls calls) all.0 e)
        ∙ ap (with_call at call) (more j (omega arith))

pub schedule_reads_back : ScheduleReadsBack
schedule_reads_back job calls t all short =
    (header_back job (written_calls calls) t short, calls_there calls (length (written_schedule job calls)) (written_schedule job calls) (length (written_job job)) all (drop_at (written_job job) (written_calls calls) (length (written_job job)) refl) (omega arith))
