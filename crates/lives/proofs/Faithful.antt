-- Every life is faithful.
use Rattle.std.proofs.Common.{take, ◌≡◌, ℕ, ◌<◌, true, false, cond, eqb, leb, List, [], ◌∷◌, ◌++◌, Some, None, Ok, Err, Option, Result, sym, refl, ap, ◌∙◌, subst, ⊎_elim, arith}
use Rattle.std.proofs.lemmas.Bool.{false≢true, eqb-true, ltb-true, le-leb, lt-leb, and_from, and_left, and_right}
use Rattle.std.specs.List.{AllByRecursion}
use Rattle.faults.specs.declared.Fault.{Fault}
use Rattle.faults.specs.declared.Refusal.TheVariants.{Held}
use Rattle.faults.specs.Numbering.{fault_at, number_of}
use Rattle.image.specs.declared.fields.Sizes.{Sizes}
use Rattle.image.specs.Checks.{Check, all_pass}
use Rattle.image.proofs.Accepting.{all_passed}
use Rattle.calls.specs.declared.Call.{Call}
use Rattle.calls.specs.declared.Call.TheVariants as call
use Rattle.exclusion.specs.declared.meaning.Notice.{Notice}
use Rattle.exclusion.specs.declared.meaning.Verdict.{Verdict}
use Rattle.exclusion.specs.Meaning.{Meaning, Asked}
use Rattle.model.specs.declared.state.Operation.{Operation}
use Rattle.model.specs.declared.state.Core.{Core}
use Rattle.model.specs.declared.state.Settling.{Settling}
use Rattle.model.specs.State.{thread_at, cpu_at, top_frame}
use Rattle.model.specs.Calls.{ByChecks, Stopped, Granted, refused, ran, advanced, operation_of, has_cpu, has_thread, is_operation, has_room, cpu_of, not_current, has_current, has_work, DisturbsCurrent, Performs, Runs, Signals, Step}
use Rattle.model.specs.Ledger.{Ledger, new_ledger}
use Rattle.model.specs.Life.{Event, ledger, Life, booted, lived}
use Rattle.model.specs.Claims.{HasMeaning, StructuresAgree, Mark, instruction, held, about, trace, NothingGranted, Settles, ByThread, Faithful}
use Rattle.model.proofs.Asking.{agreeing_tell}
use Rattle.lives.proofs.Standing.{Invariant}
use Rattle.lives.proofs.Operations.{operations_conserved, nothing_invented}
use Rattle.lives.proofs.Booted.{booted_invariant, booted_sizes}
use Rattle.lives.proofs.Disturbing.{asked}
use Rattle.lives.proofs.Traces.{pending, in_eight_none, in_five_none, pending_has}
use Rattle.lives.proofs.Pacing.{Paced}
use Rattle.lives.proofs.Calls.{fault_among, is_there, cpu_has, ByCore, disturbed, disturbed_current}
use Rattle.lives.proofs.Living.{LivedWell, stepped_well}
use Rattle.model.proofs.Calling.{by_current, by_operation}
use Rattle.lives.specs.Apart.{with_frame, given_thread}
use Rattle.lives.specs.Whole.{since, WhollyFaithful, EveryLifeIsWhollyFaithful}
use Rattle.model.specs.declared.state.Frame.{Frame}
use Rattle.model.specs.Laws.{HeadsAreSlots}
use Rattle.lives.proofs.Stacks.{mapped_backwards}

module _ {E : Type 0} (meaning : E → Meaning) (told : E → Notice → E → Type 0) (answers : E → ℕ → ℕ → ℕ → Verdict → Type 0) (has : HasMeaning meaning told answers) where
  -- Right after boot nothing has happened.
  new_paced : (sizes : Sizes) (m : Core × E) (c : ℕ) → Paced (new_ledger sizes) (meaning m.1) m.0 c []
  new_paced sizes m c = record {
    in_eight = in_eight_none;
    in_five = in_five_none;
    pace = λ t on some. cc;
    pace_held = λ t on some waits. cc;
    at_rest = λ t on rests. cc;
    patient = λ t on patient. cc;
    concerned = tt;
  }

  lives_well : (sizes : Sizes) (past : List Event) (m : Core × E) → Life meaning told answers sizes past m → LivedWell meaning told answers has sizes past m
  lives_well sizes past m (booted signature table text e boots) = record {
    same_sizes = booted_sizes meaning told answers has sizes signature table text e m boots;
    well = record { invariant = booted_invariant meaning told answers has sizes signature table text e m boots; paced = new_paced sizes m };
    settlings = tt;
  }
  lives_well sizes past k (lived {before = before} {m = m} event life step) =
      let so = lives_well sizes before m life in
      subst (λ z. LivedWell meaning told answers has z (event ∷ before) k) so.same_sizes
      (stepped_well meaning told answers has before m (subst (λ z. LivedWell meaning told answers has z before m) (sym so.same_sizes) so) event.call event.answer k step)

  -- A call that is held, about a CPU: that CPU has a thread, and patience.
  module _ (l : Ledger) (m : Core × E) (inv : Invariant l (meaning m.1) m.0) where
    abbrev HeldOn : ℕ → Type 0
    HeldOn c = (t : ℕ) × (l.current c ≡ Some t) × (0 < (meaning m.1).patience c)

    abbrev fault : Fault
    fault = fault_at Held 0

    -- It was not refused by a check.
    not_by_checks : (checks : List Check) (k : Core × E) (done : Type 0) (c : ℕ) → AllByRecursion (λ (check : Check). eqb (number_of check.fault.refusal) 18 ≡ false) checks
        → (AllByRecursion (λ (check : Check). check.passes ≡ true) checks → done → HeldOn c) → (o : Result (Unit {0}) Fault) → all_pass checks ≡ o → ByChecks told answers m o (refused fault) k done → HeldOn c
    not_by_checks checks k done c others then (Ok u) is d = then (all_passed tt u checks is) d
    not_by_checks checks k done c others then (Err other) is (answer, same) =
        let refusal : fault ≡ other = cc in
        absurd (false≢true (sym (fault_among (λ f. eqb (number_of f.refusal) 18 ≡ false) tt checks other others is) ∙ ap (λ (f : Fault). eqb (number_of f.refusal) 18) (sym refusal)))

    granted_not : (c : ℕ) (exists : c < m.0.sizes.cpus) (rest : Core → Core) (k : Core × E) (o : Option Core) → ByCore meaning told answers has l m c inv exists o → Granted told answers m c o rest (refused fault) k → HeldOn c
    granted_not c exists rest k None h g = (h.t, h.on, h.patient)
    granted_not c exists rest k (Some later) h g = cc

    abbrev Changes : ℕ → Option ℕ → Core × E → Type 0
    Changes c to k = (o : Option Core) × DisturbsCurrent told answers m c (cpu_at m.0 c).current o × Granted told answers m c o (given_thread c to) (refused fault) k

    signals_not : (t : ℕ) (operation : Operation) (c : ℕ) → l.current c ≡ Some t → (k : Core × E) (o : Option ℕ) → cpu_of m.0 t ≡ o → Signals told answers m t operation o (refused fault) k → HeldOn c
    signals_not t operation c on k None nowhere s = cc
    signals_not t operation c on k (Some other) there (o, disturbs, grants) =
        let there_on : l.current other ≡ Some t = sym (inv.current other) ∙ cpu_has m.0 t other there in
        let exists = (inv.current_exists other t there_on).0 in
        subst HeldOn (inv.on_one_cpu other c t there_on on) (granted_not other exists (with_frame t operation) k o (disturbed meaning told answers has l m other inv exists t there_on o disturbs) grants)

    held_where : (x : Call) (k : Core × E) → Step told answers m x (refused fault) k → (c : ℕ) → about l c x ≡ true → HeldOn c
    held_where (call.Enlist t raw) k step c about_it = absurd (false≢true about_it)
    held_where (call.Run cpu) k step c about_it =
        not_by_checks (has_cpu m.0 cpu ∷ has_current m.0 cpu ∷ has_work m.0 cpu ∷ []) k _ c (refl, (refl, (refl, tt)))
        (λ passed d.
        by_current told answers (cpu_at m.0 cpu).current (λ t. (settling : Option Settling) × (refused fault ≡ ran settling) × Performs told answers m cpu t settling k) (HeldOn c) d (λ t is p. cc)) _ refl step
    held_where (call.Advance cpu n) k step c about_it =
        not_by_checks (has_cpu m.0 cpu ∷ has_current m.0 cpu ∷ has_work m.0 cpu ∷ []) k _ c (refl, (refl, (refl, tt)))
        (λ passed d.
        by_current told answers (cpu_at m.0 cpu).current (λ t. (count : ℕ) × (settling : Option Settling) × (refused fault ≡ advanced count settling) × Stopped told answers n count settling × Runs told answers cpu t count settling m k) (HeldOn c) d
        (λ t is p. cc)) _ refl step
    held_where (call.Switch cpu t) k step c about_it =
        not_by_checks (has_cpu m.0 cpu ∷ has_thread m.0 t ∷ not_current m.0 t ∷ []) k (Changes cpu (Some t) k) c (refl, (refl, (refl, tt)))
        (λ passed d.
        let exists = ltb-true cpu m.0.sizes.cpus passed.0 in
        subst HeldOn (eqb-true cpu c about_it)
        (granted_not cpu exists (given_thread cpu (Some t)) k d.0
        (disturbed_current meaning told answers has l m cpu inv exists (cpu_at m.0 cpu).current (sym (inv.current cpu)) d.0 d.1) d.2)) _ refl step
    held_where (call.Idle cpu) k step c about_it =
        not_by_checks (has_cpu m.0 cpu ∷ has_current m.0 cpu ∷ []) k (Changes cpu None k) c (refl, (refl, tt))
        (λ passed d.
        let exists = ltb-true cpu m.0.sizes.cpus passed.0 in
        subst HeldOn (eqb-true cpu c about_it)
        (granted_not cpu exists (given_thread cpu None) k d.0
        (disturbed_current meaning told answers has l m cpu inv exists (cpu_at m.0 cpu).current (sym (inv.current cpu)) d.0 d.1) d.2)) _ refl step
    held_where (call.Signal t raw) k step c about_it =
        not_by_checks (has_thread m.0 t ∷ is_operation m.0 raw ∷ has_room m.0 t ∷ []) k _ c (refl, (refl, (refl, tt)))
        (λ passed d.
        by_operation told answers (operation_of m.0.sizes raw) (λ operation. Signals told answers m t operation (cpu_of m.0 t) (refused fault) k) (HeldOn c) d
        (λ operation is s. signals_not t operation c (is_there m.0 t (l.current c) about_it) k (cpu_of m.0 t) refl s)) _ refl step

  -- All claims, of a machine with a past.
  module _ (past : List Event) (m : Core × E) (so : LivedWell meaning told answers has m.0.sizes past m) where
    abbrev sizes : Sizes
    sizes = m.0.sizes

    abbrev l : Ledger
    l = ledger sizes past

    abbrev inv : Invariant l (meaning m.1) m.0
    inv = so.well.invariant

    agree : StructuresAgree sizes l m.0
    agree = record {
      counters = λ c counter exists below. (inv.holds c exists).counts counter below;
      lists = λ c exists. (inv.holds c exists).listed;
      rings = λ c exists. let ring = (inv.holds c exists).ringed in record { at_most = ring.at_most; slot = ring.slot; up_to_the_tail = ring.up_to_the_tail };
      hands = inv.hands;
    }

    heads : HeadsAreSlots m.0
    heads c exists = (inv.holds c exists).ringed.head_is_a_slot

    -- No call is held on a CPU that has run nothing since boot, a settling or a grant.
    not_held_yet : (c : ℕ) (x : Call) → about l c x ≡ true → since (trace sizes past c) ≡ 0 → (k : Core × E) → Step told answers m x (refused (fault_at Held 0)) k → ⊥
    not_held_yet c x concerns none k step =
        let there = held_where l m inv x k step c concerns in
        let ran_since = (so.well.paced c).patient there.0 there.1 there.2 in
        omega (arith, ran_since, none)

    not_held : (c : ℕ) (x : Call) (window before : List Mark) → trace sizes past c ≡ instruction true ∷ (window ++ (held x ∷ before)) → NothingGranted window → (Settles window → ⊥) → (k : Core × E)
        → Step told answers m x (refused (fault_at Held 0)) k → ⊥
    not_held c x window before is quiet unsettled k step =
        let paced = so.well.paced c in
        let concerns : about l c x ≡ true =
        pending_has (λ (y : Call). about l c y ≡ true) x (instruction true ∷ window) before (tt, quiet) (subst (λ marks. AllByRecursion (λ (y : Call). about l c y ≡ true) (pending marks)) is paced.concerned) in
        not_held_yet c x concerns (ap since is) k step

    answered : (c : ℕ) (o : Option ℕ) → (cpu_at m.0 c).current ≡ o
        → ByThread o (λ t. 0 < (thread_at m.0 t).depth → Asked (meaning m.1) (top_frame (thread_at m.0 t)).armed (top_frame (thread_at m.0 t)).place)
    answered c None is = tt
    answered c (Some t) is = λ some. asked l (meaning m.1) m.0 c t inv (sym (inv.current c) ∙ is) some

    faithful_so : Faithful meaning told answers sizes past m
    faithful_so = record {
      structures_agree = agree;
      settlings_agree = so.settlings;
      conserved = record {
        operations = operations_conserved sizes past;
        frames = λ t exists. mapped_backwards (λ (frame : Frame). frame.operation) (take (thread_at m.0 t).depth (thread_at m.0 t).frames) ∙ (inv.threads t exists).waits;
        nodes = λ node low high. inv.nodes node ∙ ap (λ b. cond b 1 0) (and_from (leb 1 node) (leb node sizes.nodes) (le-leb 1 node low) (le-leb node sizes.nodes high));
      };
      progresses = record {
        in_eight = λ c after window before. (so.well.paced c).in_eight after window before;
        in_five_after_held = λ c x after window before. (so.well.paced c).in_five x after window before;
        then_not_held = not_held;
      };
      only_answered = λ c exists. answered c (cpu_at m.0 c).current refl;
    }

    wholly_faithful : WhollyFaithful meaning told answers sizes past m
    wholly_faithful = record {
      faithful = faithful_so;
      threads_agree = λ c exists. inv.current c;
      heads_are_slots = heads;
      questions_tell = agreeing_tell l m.0 agree heads;
      nothing_invented = nothing_invented sizes past;
      nowhere_else = inv.nowhere_else;
      no_other_node = λ node beyond.
          inv.nodes node
          ∙ ap (λ b. cond b 1 0)
          (⊎_elim (λ (none : node ≡ 0). and_left (leb 1 node) (leb node sizes.nodes) (lt-leb 1 node (omega arith))) (λ (more : sizes.nodes < node). and_right (leb 1 node) (leb node sizes.nodes) (lt-leb node sizes.nodes more)) beyond);
      not_held_before_an_instruction = not_held_yet;
    }

pub every_life_is_wholly_faithful : {E : Type 0} (meaning : E → Meaning) (told : E → Notice → E → Type 0) (answers : E → ℕ → ℕ → ℕ → Verdict → Type 0) → EveryLifeIsWhollyFaithful meaning told answers
every_life_is_wholly_faithful meaning told answers has sizes past m life =
    let so = lives_well meaning told answers has sizes past m life in
    subst (λ z. WhollyFaithful meaning told answers z past m) so.same_sizes
    (wholly_faithful meaning told answers has past m (subst (λ z. LivedWell meaning told answers has z past m) (sym so.same_sizes) so))
