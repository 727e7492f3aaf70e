-- Every call keeps what holds of a machine with a past.
use Rattle.std.proofs.Common.{◌≡◌, ℕ, zero, suc, ◌<◌, true, false, cond, eqb, List, [], ◌∷◌, ◌++◌, reverse, length, take, replicate, is_some, Some, None, Ok, Err, Option, Result, sym, refl, ap, ap₂, ◌∙◌, subst, ⊎_elim, arith, get_or-set_other}
use Rattle.std.proofs.lemmas.Bool.{cond_both, cases_eq, eq-eqb, ne_eqb, eqb-true, ltb-true, not-true}
use Rattle.std.proofs.lemmas.Option.{same_Some}
use Rattle.std.specs.List.{AllByRecursion}
use Rattle.faults.specs.declared.Fault.{Fault}
use Rattle.faults.specs.declared.Refusal.TheVariants.{Held}
use Rattle.faults.specs.Numbering.{fault_at, number_of}
use Rattle.image.specs.declared.fields.Sizes.{Sizes}
use Rattle.image.specs.Checks.{Check, all_pass}
use Rattle.image.proofs.Accepting.{all_passed}
use Rattle.calls.specs.declared.RawOperation.{RawOperation}
use Rattle.calls.specs.declared.Call.{Call}
use Rattle.calls.specs.declared.Call.TheVariants as call
use Rattle.exclusion.specs.declared.meaning.Notice.{Notice}
use Rattle.exclusion.specs.declared.meaning.Notice.TheVariants.{Left}
use Rattle.exclusion.specs.declared.meaning.Verdict.{Verdict}
use Rattle.exclusion.specs.Meaning.{Meaning, PatienceBecomes}
use Rattle.model.specs.declared.state.Operation.{Operation}
use Rattle.model.specs.declared.state.Thread.{Thread}
use Rattle.model.specs.declared.state.Core.{Core}
use Rattle.model.specs.declared.state.Settling.{Settling}
use Rattle.model.specs.State.{no_thread, thread_at, cpu_at}
use Rattle.model.specs.Calls.{ByChecks, Stopped, Granted, Answered, refused, accepted, ran, advanced, operation_of, has_cpu, has_thread, is_operation, has_no_frame, has_room, cpu_of, not_current, has_current, current_works, has_work, DisturbsCurrent, Performs, Runs, Signals, Step}
use Rattle.model.specs.Ledger.{Ledger, updated, brings}
use Rattle.model.specs.Ledger.{with_current as ledger-current}
use Rattle.model.specs.Life.{Event, ledger}
use Rattle.model.specs.Claims.{is_thread, HasMeaning, Mark, instruction, granted, held, about, trace, SettlingsAgree, instructions_of}
use Rattle.model.proofs.Calling.{by_current, by_operation}
use Rattle.lives.proofs.Nodes.{updated_else}
use Rattle.lives.proofs.Midway.{Valid}
use Rattle.lives.proofs.Standing.{RestartPoint, Standing, idle, resting, restarting, midway, Invariant, thread_written}
use Rattle.lives.proofs.Assigning.{assigned, enlisted}
use Rattle.lives.proofs.Running.{Well, well_marks, noted, ran_well, runs_well, runs_settle}
use Rattle.lives.proofs.Granting.{granted_well, held_well, enlisted_well, thread_there, not_thread}
use Rattle.lives.proofs.Calls.{fault_among, operation_valid, no_cpu_has, cpu_has, IsHeld, ByCore, disturbed, disturbed_current}
use Rattle.lives.specs.Apart.{frames_of, with_frame, given_thread}

-- A fault of another number than that of a held call.
abbrev NotHeld : Fault → Type 0
NotHeld fault = eqb (number_of fault.refusal) 18 ≡ false

pub none_if_not_some : {A : Type 0} (o : Option A) → is_some o ≡ false → o ≡ None
none_if_not_some None e = refl
none_if_not_some (Some x) e = cc

quiet_marks : (count : ℕ) → instructions_of count None ≡ replicate count (instruction false)
quiet_marks zero = refl
quiet_marks (suc count) = refl

module _ {E : Type 0} (meaning : E → Meaning) (told : E → Notice → E → Type 0) (answers : E → ℕ → ℕ → ℕ → Verdict → Type 0) (has : HasMeaning meaning told answers) where
  -- What holds of a machine with a past.
  pub record LivedWell (sizes : Sizes) (past : List Event) (m : Core × E) : Type 0 where
    pub same_sizes : m.0.sizes ≡ sizes
    pub well : Well meaning (ledger sizes past) (trace sizes past) m
    pub settlings : SettlingsAgree sizes past

  module _ (before : List Event) (m : Core × E) (lived_so : LivedWell m.0.sizes before m) where
    abbrev core : Core
    core = m.0

    abbrev sizes : Sizes
    sizes = m.0.sizes

    abbrev l : Ledger
    l = ledger sizes before

    abbrev marks : ℕ → List Mark
    marks = trace sizes before

    abbrev number : ℕ
    number = suc (length before)

    abbrev inv : Invariant l (meaning m.1) core
    inv = lived_so.well.invariant

    abbrev event : Call → Answered → Event
    event x r = record { call = x; answer = r }

    abbrev After : Call → Answered → Core × E → Type 0
    After x r k = LivedWell sizes (event x r ∷ before) k

    as_answered : (x : Call) {r s : Answered} {k n : Core × E} → r ≡ s → k ≡ n → After x s n → After x r k
    as_answered x {s = s} {k} answer same after = subst (λ a. After x a k) (sym answer) (subst (After x s) (sym same) after)

    -- Refused, but not held: nothing has happened.
    unmarked : (x : Call) (fault : Fault) → NotHeld fault → (c : ℕ) → marks c ≡ trace sizes (event x (refused fault) ∷ before) c
    unmarked x fault other c = sym (ap (λ b. cond (about l c x) (cond b (held x ∷ []) []) [] ++ marks c) other ∙ cond_both (about l c x) [] [] (λ new. new ++ marks c ≡ marks c) (λ e. refl) (λ e. refl))

    refused_well : (x : Call) (fault : Fault) → NotHeld fault → After x (refused fault) m
    refused_well x fault other = record { same_sizes = refl; well = well_marks meaning l marks _ m (unmarked x fault other) lived_so.well; settlings = (refl, lived_so.settlings) }

    -- A call whose checks are tried.
    checked : (x : Call) (checks : List Check) (r : Answered) (k : Core × E) (done : Type 0) → AllByRecursion (λ (check : Check). NotHeld check.fault) checks
        → (AllByRecursion (λ (check : Check). check.passes ≡ true) checks → done → After x r k) → (o : Result (Unit {0}) Fault) → all_pass checks ≡ o → ByChecks told answers m o r k done → After x r k
    checked x checks r k done others then (Ok u) is d = then (all_passed tt u checks is) d
    checked x checks r k done others then (Err fault) is (answer, same) =
        as_answered x answer same (refused_well x fault (fault_among NotHeld tt checks fault others is))

    -- Held.
    held_event : (x : Call) (c : ℕ) (exists : c < sizes.cpus) → IsHeld meaning told answers has l m c inv exists → ((other : ℕ) → about l other x ≡ eqb c other) → After x (refused (fault_at Held 0)) m
    held_event x c exists h about_it = record {
      same_sizes = refl;
      well =
          well_marks meaning l (noted c (held x ∷ []) marks) _ m (λ other. ap (λ b. cond b (held x ∷ []) [] ++ marks other) (sym (about_it other)))
          (held_well meaning l marks m lived_so.well x c h.t h.on h.some h.patient (about_it c ∙ eq-eqb c c refl));
      settlings = (refl, lived_so.settlings);
    }

    -- A thread that has nothing to do leaves no patience on its CPU.
    rest_is_calm : (c t : ℕ) → l.current c ≡ Some t → (thread_at core t).depth ≡ 0 → (meaning m.1).patience c ≡ 0
    rest_is_calm c t on rests = go (inv.standing c (inv.current_exists c t on).0)
      where
        go : Standing core ((meaning m.1).patience c) c → (meaning m.1).patience c ≡ 0
        go (idle none calm) = calm
        go (resting s there empty calm) = calm
        go (restarting s there some point calm) = calm
        go (midway s there some at) = let e = ap (λ x. (thread_at core x).depth) (same_Some _ _ (sym there ∙ inv.current c ∙ on)) in absurd (omega (arith, rests, some))

    empty_restarts : (t : ℕ) → (thread_at core t).depth ≡ 0 → AllByRecursion (RestartPoint core.image) (frames_of (thread_at core t))
    empty_restarts t rests = subst (AllByRecursion (RestartPoint core.image)) (sym (ap (λ n. reverse (take n (thread_at core t).frames)) rests)) tt

    -- An operation on top of a thread that is on no CPU, or has nothing to do.
    on_top : (t : ℕ) (raw : RawOperation) (operation : Operation) → operation_of sizes raw ≡ Some operation → t < sizes.threads → (thread_at core t).depth < 8
        → AllByRecursion (RestartPoint core.image) (frames_of (thread_at core t)) → ((c : ℕ) → l.current c ≡ Some t → (thread_at core t).depth ≡ 0)
        → Well meaning (brings l number t (Some operation)) marks (with_frame t operation core, m.1)
    on_top t raw operation is exists room restart rests =
        enlisted_well meaning l marks m lived_so.well _ (with_frame t operation core) t refl
        (enlisted l (meaning m.1) core t number operation inv exists room restart (operation_valid sizes raw operation is) (λ c on. rest_is_calm c t on (rests c on))) (λ c. refl)
        (λ s differs. get_or-set_other core.threads t s _ no_thread differs)
        (subst (λ (x : Thread). 0 < x.depth) (sym (thread_written inv exists _)) (omega arith)) rests

    -- Enlist.
    enlist_accepted : (t : ℕ) (raw : RawOperation) (operation : Operation) → operation_of sizes raw ≡ Some operation → t < sizes.threads → (thread_at core t).depth ≡ 0
        → After (call.Enlist t raw) accepted (with_frame t operation core, m.1)
    enlist_accepted t raw operation is exists rests = record {
      same_sizes = refl;
      well =
          subst (λ o. Well meaning (brings l number t o) (trace sizes (event (call.Enlist t raw) accepted ∷ before)) (with_frame t operation core, m.1)) (sym is)
          (on_top t raw operation is exists (omega (arith, rests)) (empty_restarts t rests) (λ c on. rests));
      settlings = (refl, lived_so.settlings);
    }

    enlist_well : (t : ℕ) (raw : RawOperation) (r : Answered) (k : Core × E) → Step told answers m (call.Enlist t raw) r k → After (call.Enlist t raw) r k
    enlist_well t raw r k step =
        checked (call.Enlist t raw) (has_thread core t ∷ is_operation core raw ∷ has_no_frame core t ∷ []) r k _ (refl, (refl, (refl, tt)))
        (λ passed d.
        by_operation told answers (operation_of sizes raw) (λ operation. (r ≡ accepted) × (k.0 ≡ with_frame t operation core) × (k.1 ≡ m.1)) (After (call.Enlist t raw) r k) d
        (λ operation is p.
        as_answered (call.Enlist t raw) p.0 (ap₂ (λ a b. (a, b)) p.1 p.2) (enlist_accepted t raw operation is (ltb-true t sizes.threads passed.0) (eqb-true (thread_at core t).depth 0 passed.1.1.0))))
        _ refl step

    -- Run.
    ran_event : (c t : ℕ) (settling : Option Settling) (k : Core × E) → l.current c ≡ Some t → 0 < (thread_at core t).depth → Performs told answers m c t settling k → After (call.Run c) (ran settling) k
    ran_event c t None k on some p =
        let went = ran_well meaning told answers has l marks m c t lived_so.well on some None k p in
        record { same_sizes = ap (λ (x : Core). x.sizes) p.0; well = went.later; settlings = (refl, lived_so.settlings) }
    ran_event c t (Some s) k on some p =
        let settled = ran_well meaning told answers has l marks m c t lived_so.well on some (Some s) k p in
        record { same_sizes = ap (λ (x : Core). x.sizes) p.0; well = settled.later; settlings = (sym settled.settling, lived_so.settlings) }

    works : (c t : ℕ) → (cpu_at core c).current ≡ Some t → current_works core (cpu_at core c).current ≡ true → 0 < (thread_at core t).depth
    works c t is passes = ltb-true 0 (thread_at core t).depth (sym (ap (current_works core) is) ∙ passes)

    run_well : (c : ℕ) (r : Answered) (k : Core × E) → Step told answers m (call.Run c) r k → After (call.Run c) r k
    run_well c r k step =
        checked (call.Run c) (has_cpu core c ∷ has_current core c ∷ has_work core c ∷ []) r k _ (refl, (refl, (refl, tt)))
        (λ passed d.
        by_current told answers (cpu_at core c).current (λ t. (settling : Option Settling) × (r ≡ ran settling) × Performs told answers m c t settling k) (After (call.Run c) r k) d
        (λ t is p.
        subst (λ a. After (call.Run c) a k) (sym p.1) (ran_event c t p.0 k (sym (inv.current c) ∙ is) (works c t is passed.1.1.0) p.2)))
        _ refl step

    -- Advance.
    advanced_event : (c n t count : ℕ) (settling : Option Settling) (k : Core × E) → l.current c ≡ Some t → 0 < (thread_at core t).depth → Runs told answers c t count settling m k
        → After (call.Advance c n) (advanced count settling) k
    advanced_event c n t count None k on some runs =
        let still = runs_well meaning told answers has l marks c t on count m k runs lived_so.well some in
        record {
          same_sizes = still.sizes;
          well = well_marks meaning l _ _ k (λ x. ap (λ new. cond (eqb c x) new [] ++ marks x) (sym (quiet_marks count))) still.later;
          settlings = (refl, lived_so.settlings);
        }
    advanced_event c n t count (Some s) k on some runs =
        let stops = runs_settle meaning told answers has l marks c t on count s m k runs lived_so.well some in
        record { same_sizes = stops.sizes; well = stops.later; settlings = (sym stops.settling, lived_so.settlings) }

    advance_well : (c n : ℕ) (r : Answered) (k : Core × E) → Step told answers m (call.Advance c n) r k → After (call.Advance c n) r k
    advance_well c n r k step =
        checked (call.Advance c n) (has_cpu core c ∷ has_current core c ∷ has_work core c ∷ []) r k _ (refl, (refl, (refl, tt)))
        (λ passed d.
        by_current told answers (cpu_at core c).current
        (λ t. (count : ℕ) × (settling : Option Settling) × (r ≡ advanced count settling) × Stopped told answers n count settling × Runs told answers c t count settling m k) (After (call.Advance c n) r k) d
        (λ t is p.
        subst (λ a. After (call.Advance c n) a k) (sym p.2) (advanced_event c n t p.0 p.1 k (sym (inv.current c) ∙ is) (works c t is passed.1.1.0) p.4)))
        _ refl step

    -- Switch and idle.
    abbrev Changes : ℕ → Option ℕ → Answered → Core × E → Type 0
    Changes c to r k = (o : Option Core) × DisturbsCurrent told answers m c (cpu_at core c).current o × Granted told answers m c o (given_thread c to) r k

    abbrev with_current_ledger : ℕ → Option ℕ → Ledger
    with_current_ledger c to = ledger-current l (updated l.current c to)

    abbrev Free : Option ℕ → Type 0
    Free to = (t : ℕ) → to ≡ Some t → (t < sizes.threads) × ((other : ℕ) → l.current other ≡ Some t → ⊥)

    changed : (x : Call) (c : ℕ) (to : Option ℕ) (exists : c < sizes.cpus) → Free to → ((other : ℕ) → about l other x ≡ eqb c other)
        → ((r : Answered) (k : Core × E) → r ≡ accepted → Well meaning (with_current_ledger c to) (noted c (granted ∷ []) marks) k → k.0.sizes ≡ sizes → After x r k)
        → (r : Answered) (k : Core × E) (o : Option Core) → ByCore meaning told answers has l m c inv exists o → Granted told answers m c o (given_thread c to) r k → After x r k
    changed x c to exists free about_it then r k None is_held_lem (answer, same) = as_answered x answer same (held_event x c exists is_held_lem about_it)
    changed x c to exists free about_it then r k (Some later) is_calm (answer, core_is, tells) =
        let calm = is_calm k.1 tells in
        let becomes : PatienceBecomes (meaning m.1) c 0 (meaning k.1) = has.obeys m.1 (Left c) k.1 tells in
        let quiet : (meaning k.1).patience c ≡ 0 = becomes.there (omega (arith, exists, inv.limits.cpus)) in
        then r k answer
        (subst (λ y. Well meaning (with_current_ledger c to) (noted c (granted ∷ []) marks) (y, k.1)) (sym core_is)
        (granted_well meaning l marks m lived_so.well (with_current_ledger c to) (given_thread c to later, k.1) c calm.same_image
        (assigned l (meaning k.1) later c to calm.invariant (subst (λ z. c < z.cpus) (sym calm.same_sizes) exists) quiet calm.restart
        (λ t is. let f = free t is in (subst (λ z. t < z.threads) (sym calm.same_sizes) f.0, f.1))) quiet becomes.elsewhere
        (λ other differs. updated_else l.current c to other differs)
        (λ other s differs there. calm.threads_else s (λ here. differs (inv.on_one_cpu other c s there here)))))
        (ap (λ (y : Core). y.sizes) core_is ∙ calm.same_sizes)

    switch_well : (c t : ℕ) (r : Answered) (k : Core × E) → Step told answers m (call.Switch c t) r k → After (call.Switch c t) r k
    switch_well c t r k step =
        checked (call.Switch c t) (has_cpu core c ∷ has_thread core t ∷ not_current core t ∷ []) r k (Changes c (Some t) r k) (refl, (refl, (refl, tt)))
        (λ passed d.
        let exists : c < sizes.cpus = ltb-true c sizes.cpus passed.0 in
        let nowhere : cpu_of core t ≡ None = none_if_not_some (cpu_of core t) (not-true (is_some (cpu_of core t)) passed.1.1.0) in
        changed (call.Switch c t) c (Some t) exists
        (λ s is. (
          subst (λ x. x < sizes.threads) (same_Some _ _ is) (ltb-true t sizes.threads passed.1.0),
          λ other there. no_cpu_has core t nowhere other (inv.current other ∙ there ∙ sym is),
        )) (λ other. refl)
        (λ a y answer later same. subst (λ b. After (call.Switch c t) b y) (sym answer) (record { same_sizes = same; well = later; settlings = (refl, lived_so.settlings) })) r k d.0
        (disturbed_current meaning told answers has l m c inv exists (cpu_at core c).current (sym (inv.current c)) d.0 d.1) d.2)
        _ refl step

    idle_well : (c : ℕ) (r : Answered) (k : Core × E) → Step told answers m (call.Idle c) r k → After (call.Idle c) r k
    idle_well c r k step =
        checked (call.Idle c) (has_cpu core c ∷ has_current core c ∷ []) r k (Changes c None r k) (refl, (refl, tt))
        (λ passed d.
        let exists : c < sizes.cpus = ltb-true c sizes.cpus passed.0 in
        changed (call.Idle c) c None exists (λ s is. cc) (λ other. refl)
        (λ a y answer later same. subst (λ b. After (call.Idle c) b y) (sym answer) (record { same_sizes = same; well = later; settlings = (refl, lived_so.settlings) })) r k d.0
        (disturbed_current meaning told answers has l m c inv exists (cpu_at core c).current (sym (inv.current c)) d.0 d.1) d.2)
        _ refl step

    -- Signal.
    signal_elsewhere : (t : ℕ) (raw : RawOperation) (operation : Operation) → operation_of sizes raw ≡ Some operation → t < sizes.threads → (thread_at core t).depth < 8 → cpu_of core t ≡ None
        → After (call.Signal t raw) accepted (with_frame t operation core, m.1)
    signal_elsewhere t raw operation is exists room nowhere =
        let off : (c : ℕ) → l.current c ≡ Some t → ⊥ = λ c there. no_cpu_has core t nowhere c (inv.current c ∙ there) in
        record {
          same_sizes = refl;
          well =
              subst (λ o. Well meaning (brings l number t o) (trace sizes (event (call.Signal t raw) accepted ∷ before)) (with_frame t operation core, m.1)) (sym is)
              (well_marks meaning _ marks _ _ (λ c. sym (ap (λ b. cond b (granted ∷ []) [] ++ marks c) (not_thread l t (l.current c) (off c))))
              (on_top t raw operation is exists room (inv.off_cpu t exists off) (λ c on. absurd (off c on))));
          settlings = (refl, lived_so.settlings);
        }

    -- A call about the thread of one CPU.
    about_thread : (t c : ℕ) → l.current c ≡ Some t → (other : ℕ) → is_thread t (l.current other) ≡ eqb c other
    about_thread t c on other =
        ⊎_elim (λ (same : other ≡ c). thread_there l t (l.current other) (ap l.current same ∙ on) ∙ sym (eq-eqb c other (sym same)))
        (λ (differs : other ≡ c → ⊥).
        not_thread l t (l.current other) (λ there. differs (inv.on_one_cpu other c t there on)) ∙ sym (ne_eqb c other (λ same. differs (sym same)))) (cases_eq other c)

    signal_here : (t : ℕ) (raw : RawOperation) (operation : Operation) (c : ℕ) (exists : c < sizes.cpus) → operation_of sizes raw ≡ Some operation → t < sizes.threads → (thread_at core t).depth < 8 → l.current c ≡ Some t
        → (r : Answered) (k : Core × E) (o : Option Core) → ByCore meaning told answers has l m c inv exists o → Granted told answers m c o (with_frame t operation) r k → After (call.Signal t raw) r k
    signal_here t raw operation c exists is t_exists room on r k None is_held_lem (answer, same) =
        as_answered (call.Signal t raw) answer same (held_event (call.Signal t raw) c exists is_held_lem (about_thread t c on))
    signal_here t raw operation c exists is t_exists room on r k (Some later) is_calm (answer, core_is, tells) =
        let calm = is_calm k.1 tells in
        let becomes : PatienceBecomes (meaning m.1) c 0 (meaning k.1) = has.obeys m.1 (Left c) k.1 tells in
        let quiet : (meaning k.1).patience c ≡ 0 = becomes.there (omega (arith, exists, inv.limits.cpus)) in
        let t_later : t < later.sizes.threads = subst (λ z. t < z.threads) (sym calm.same_sizes) t_exists in
        let valid = subst (λ z. Valid z operation) (sym calm.same_sizes) (operation_valid sizes raw operation is) in
        subst (λ a. After (call.Signal t raw) a k) (sym answer)
        (record {
          same_sizes = ap (λ (y : Core). y.sizes) core_is ∙ calm.same_sizes;
          well =
              subst (λ x. Well meaning (brings l number t x) (trace sizes (event (call.Signal t raw) accepted ∷ before)) k) (sym is)
              (well_marks meaning _ (noted c (granted ∷ []) marks) _ k (λ other. ap (λ b. cond b (granted ∷ []) [] ++ marks other) (sym (about_thread t c on other)))
              (subst (λ y. Well meaning (brings l number t (Some operation)) (noted c (granted ∷ []) marks) (y, k.1)) (sym core_is)
              (granted_well meaning l marks m lived_so.well (brings l number t (Some operation)) (with_frame t operation later, k.1) c calm.same_image
              (enlisted l (meaning k.1) later t number operation calm.invariant t_later (omega (arith, calm.depths t, room)) (calm.restart t on) valid
              (λ other there. subst (λ y. (meaning k.1).patience y ≡ 0) (inv.on_one_cpu c other t on there) quiet)) quiet becomes.elsewhere (λ other differs. refl)
              (λ other s differs there.
              let apart : s ≡ t → ⊥ = λ same. differs (inv.on_one_cpu other c t (there ∙ ap Some same) on) in
              get_or-set_other later.threads t s _ no_thread apart ∙ calm.threads_else s (λ here. apart (same_Some _ _ (sym here ∙ on)))))));
          settlings = (refl, lived_so.settlings);
        })

    signal_by : (t : ℕ) (raw : RawOperation) (operation : Operation) → operation_of sizes raw ≡ Some operation → t < sizes.threads → (thread_at core t).depth < 8 → (r : Answered) (k : Core × E) (o : Option ℕ) → cpu_of core t ≡ o
        → Signals told answers m t operation o r k → After (call.Signal t raw) r k
    signal_by t raw operation is exists room r k None nowhere (answer, core_is, same) =
        as_answered (call.Signal t raw) answer (ap₂ (λ a b. (a, b)) core_is same) (signal_elsewhere t raw operation is exists room nowhere)
    signal_by t raw operation is exists room r k (Some c) there (o, disturbs, grants) =
        let on : l.current c ≡ Some t = sym (inv.current c) ∙ cpu_has core t c there in
        let c_exists = (inv.current_exists c t on).0 in
        signal_here t raw operation c c_exists is exists room on r k o (disturbed meaning told answers has l m c inv c_exists t on o disturbs) grants

    signal_well : (t : ℕ) (raw : RawOperation) (r : Answered) (k : Core × E) → Step told answers m (call.Signal t raw) r k → After (call.Signal t raw) r k
    signal_well t raw r k step =
        checked (call.Signal t raw) (has_thread core t ∷ is_operation core raw ∷ has_room core t ∷ []) r k _ (refl, (refl, (refl, tt)))
        (λ passed d.
        by_operation told answers (operation_of sizes raw) (λ operation. Signals told answers m t operation (cpu_of core t) r k) (After (call.Signal t raw) r k) d
        (λ operation is p. signal_by t raw operation is (ltb-true t sizes.threads passed.0) (ltb-true (thread_at core t).depth 8 passed.1.1.0) r k (cpu_of core t) refl p))
        _ refl step

    -- Every call.
    pub stepped_well : (x : Call) (r : Answered) (k : Core × E) → Step told answers m x r k → After x r k
    stepped_well (call.Enlist t raw) r k step = enlist_well t raw r k step
    stepped_well (call.Run c) r k step = run_well c r k step
    stepped_well (call.Advance c n) r k step = advance_well c n r k step
    stepped_well (call.Switch c t) r k step = switch_well c t r k step
    stepped_well (call.Idle c) r k step = idle_well c r k step
    stepped_well (call.Signal t raw) r k step = signal_well t raw r k step
