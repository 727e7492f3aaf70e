-- The lives of the worked examples. Each step holds by computing.
use Rattle.std.proofs.Common.{ℕ, zero, suc, List, [], ◌∷◌, replicate, Some, None, refl}
use Rattle.image.specs.Layout.{section_of, descriptor_of}
use Rattle.image.specs.Checks.{has_words, has_routine, all_descriptor_checks}
use Rattle.calls.specs.declared.Call.TheVariants as call
use Rattle.exclusion.specs.declared.meaning.Notice.{Notice}
use Rattle.exclusion.specs.declared.meaning.Notice.TheVariants.{Left}
use Rattle.exclusion.specs.declared.meaning.Verdict.{Verdict}
use Rattle.exclusion.specs.declared.meaning.Verdict.TheVariants.{Held, Back}
use Rattle.exclusion.specs.Meaning.{Meaning}
use Rattle.exclusion.specs.Parts.{layered, first_inside}
use Rattle.exclusion.specs.Ours.{impatient}
use Rattle.model.specs.declared.state.Core.{Core}
use Rattle.model.specs.declared.state.Operation.{Operation}
use Rattle.model.specs.declared.state.Operation.TheVariants.{Add, Put, Take}
use Rattle.model.specs.declared.state.Answer.TheVariants.{Done, Got, Empty, Full}
use Rattle.model.specs.declared.state.Cpu.{Cpu}
use Rattle.model.specs.declared.state.Thread.{Thread}
use Rattle.model.specs.State.{no_frame, new_cpu, new_thread, new_core, put_thread, thread_at}
use Rattle.model.specs.Words.{performed}
use Rattle.model.specs.Calls.{image_of, with_frame, with_current, sent_back, accepted, ran, Step}
use Rattle.model.specs.Life.{Event, Life, booted, lived}
use Rattle.worked.specs.Worked.{Abort, Rollback, Masking, GraceOne, settled, runs, add_switched_in, switched_away, switch_held, switched_back, Stands, Interrupted, Anyhow, event, put, take_one, sample_text, sample_table, sample_signature, sample_sizes, sample_sections, told_nothing, told_masking, told_grace, answers_abort, answers_rollback, answers_masking, answers_grace}

-- The machine after each kind of event, and what an exclusion keeps that counts so much for CPU 0.
abbrev booted_machine : Core
booted_machine = new_core sample_sizes (image_of sample_table sample_text)

abbrev enlist : Operation → Core → Core
enlist operation core = with_frame told_nothing answers_abort 0 operation core

abbrev switch : ℕ → Core → Core
switch t core = with_current told_nothing answers_abort 0 (Some t) core

abbrev back : ℕ → Core → Core
back place core = put_thread core 0 (sent_back core (thread_at core 0) place)

abbrev ran_on : ℕ → Core → Core
ran_on zero core = core
ran_on (suc n) core = (performed (ran_on n core) 0 0).core

abbrev added : ℕ → Core
added n = ran_on n (switch 0 (enlist (Add 0 5) booted_machine))

abbrev count : ℕ → List ℕ
count n = n ∷ replicate 7 0

module _ (meaning : List ℕ → Meaning) (told : List ℕ → Notice → List ℕ → Type 0) (answers : List ℕ → ℕ → ℕ → ℕ → Verdict → Type 0) where
  abbrev Lives : List Event → Core → ℕ → Type 0
  Lives past core n = Life meaning told answers sample_sizes past (core, count n)

  -- Thread 0 gets an operation, and is switched in.
  switched_in : told (count 0) (Left 0) (count 0) → Lives [] booted_machine 0 → Lives add_switched_in (added 0) 0
  unfolding section_of
  switched_in left life = lived _ (lived {k = (enlist (Add 0 5) booted_machine, count 0)} _ life (refl, refl, refl)) (Some (enlist (Add 0 5) booted_machine), refl, (refl, refl, left))

  -- Runs that settle nothing, and that the exclusion does not count.
  abbrev Quiet : ℕ → Core → Type 0
  Quiet zero core = Unit {0}
  Quiet (suc n) core = Quiet n core × Step told answers (ran_on n core, count 0) (call.Run 0) (ran None) (ran_on (suc n) core, count 0)

  runs_on : (n : ℕ) {past : List Event} {core : Core} → Lives past core 0 → Quiet n core → Lives (runs n past) (ran_on n core) 0
  runs_on zero life quiet = life
  runs_on (suc n) life quiet = lived _ (runs_on n life quiet.0) quiet.1

abbrev AbortLife : List Event → Core → Type 0
AbortLife past core = Lives (λ e. impatient sample_sections) told_nothing answers_abort past core 0

abbrev RollbackLife : List Event → Core → Type 0
RollbackLife past core = Lives (λ e. impatient sample_sections) told_nothing answers_rollback past core 0

abbrev MaskingLife : List Event → Core → ℕ → Type 0
MaskingLife = Lives (λ e. layered (impatient sample_sections) e) told_masking answers_masking

abbrev GraceLife : List Event → Core → ℕ → Type 0
GraceLife = Lives (λ e. layered (impatient sample_sections) e) told_grace answers_grace

abort_boots : AbortLife [] booted_machine
unfolding section_of descriptor_of has_words has_routine all_descriptor_checks first_inside
abort_boots = booted sample_signature sample_table sample_text (count 0) {m = (booted_machine, count 0)} (refl, (_, refl, (_, refl, (_, refl, (_, refl, (_, refl, (_, refl, (_, refl, (_, refl, refl)))))))))

abort_in : AbortLife add_switched_in (added 0)
abort_in = switched_in _ _ _ refl abort_boots

abort_three : AbortLife (runs 3 add_switched_in) (added 3)
unfolding section_of descriptor_of first_inside
abort_three = runs_on _ _ _ 3 abort_in (((tt, (None, refl, (refl, refl, refl))), (None, refl, (refl, refl, refl))), (None, refl, (refl, refl, refl)))

pub fifth : Abort (settled (Add 0 5) Done (runs 4 add_switched_in)) Anyhow
unfolding section_of descriptor_of first_inside
fifth = ((added 5, count 0), lived _ (lived {k = (added 4, count 0)} _ abort_three (None, refl, (refl, refl, refl))) (_, refl, (refl, refl, refl)), tt)

-- Sent to the abort by a switch, and by a signal; and the runs that remain.
abbrev aborted : Core
aborted = back 4120 (added 3)

abort_away : AbortLife (switched_away (runs 3 add_switched_in)) (switch 1 aborted)
unfolding section_of descriptor_of first_inside
abort_away = lived _ abort_three (Some aborted, (Back 4120, refl, refl), (refl, refl, refl))

pub sent_to_abort : Abort (switched_away (runs 3 add_switched_in)) (Stands 4120 0)
unfolding section_of descriptor_of first_inside
sent_to_abort = ((switch 1 aborted, count 0), abort_away, (refl, refl))

pub interrupted : Abort (event (call.Signal 0 take_one) accepted ∷ runs 3 add_switched_in) (Interrupted 4120 4228)
unfolding section_of descriptor_of first_inside
interrupted = ((enlist Take aborted, count 0), lived _ abort_three (Some aborted, (Back 4120, refl, refl), (refl, refl, refl)), (refl, refl, refl, refl, refl))

pub six_remain : Abort (settled (Add 0 5) Done (runs 5 (switched_back (switched_away (runs 3 add_switched_in))))) Anyhow
unfolding section_of descriptor_of first_inside
six_remain =
    let again = switch 0 (switch 1 aborted) in
    let life : AbortLife (switched_back (switched_away (runs 3 add_switched_in))) again = lived _ abort_away (Some (switch 1 aborted), refl, (refl, refl, refl)) in
    ((ran_on 6 again, count 0), lived _ (runs_on _ _ _ 5 life (((((tt, (None, refl, (refl, refl, refl))), (None, refl, (refl, refl, refl))), (None, refl, (refl, refl, refl))), (None, refl, (refl, refl, refl))), (None, refl, (refl, refl, refl)))) (_, refl, (refl, refl, refl)), tt)

-- Sent to the start, and the runs that remain.
rollback_in : RollbackLife add_switched_in (added 0)
unfolding section_of descriptor_of has_words has_routine all_descriptor_checks first_inside
rollback_in = switched_in _ _ _ refl (booted sample_signature sample_table sample_text (count 0) {m = (booted_machine, count 0)} (refl, (_, refl, (_, refl, (_, refl, (_, refl, (_, refl, (_, refl, (_, refl, (_, refl, refl))))))))))

abbrev rolled_back : Core
rolled_back = switch 1 (back 4100 (added 3))

rollback_away : RollbackLife (switched_away (runs 3 add_switched_in)) rolled_back
unfolding section_of descriptor_of first_inside
rollback_away = lived _ (runs_on _ _ _ 3 rollback_in (((tt, (None, refl, (refl, refl, refl))), (None, refl, (refl, refl, refl))), (None, refl, (refl, refl, refl)))) (Some (back 4100 (added 3)), (Back 4100, refl, refl), (refl, refl, refl))

pub sent_to_start : Rollback (switched_away (runs 3 add_switched_in)) (Stands 4100 1)
unfolding section_of descriptor_of first_inside
sent_to_start = ((rolled_back, count 0), rollback_away, (refl, refl))

pub four_remain : Rollback (settled (Add 0 5) Done (runs 3 (switched_back (switched_away (runs 3 add_switched_in))))) Anyhow
unfolding section_of descriptor_of first_inside
four_remain =
    let life : RollbackLife (switched_back (switched_away (runs 3 add_switched_in))) (switch 0 rolled_back) = lived _ rollback_away (Some rolled_back, refl, (refl, refl, refl)) in
    ((ran_on 4 (switch 0 rolled_back), count 0), lived _ (runs_on _ _ _ 3 life (((tt, (None, refl, (refl, refl, refl))), (None, refl, (refl, refl, refl))), (None, refl, (refl, refl, refl)))) (_, refl, (refl, refl, refl)), tt)

-- Held by masking, and then granted.
masking_in : MaskingLife add_switched_in (added 0) 0
unfolding section_of descriptor_of has_words has_routine all_descriptor_checks first_inside
masking_in = switched_in _ _ _ refl (booted sample_signature sample_table sample_text (count 0) {m = (booted_machine, count 0)} (refl, (_, refl, (_, refl, (_, refl, (_, refl, (_, refl, (_, refl, (_, refl, (_, refl, refl))))))))))

masking_three : MaskingLife (runs 3 add_switched_in) (added 3) 2
unfolding section_of descriptor_of first_inside
masking_three = lived _ (lived {k = (added 2, count 3)} _ (lived {k = (added 1, count 0)} _ masking_in (None, refl, (refl, refl, refl))) (None, refl, (refl, refl, refl))) (None, refl, (refl, refl, refl))

pub masked : Masking (switched_away (settled (Add 0 5) Done (runs 1 (switch_held (runs 3 add_switched_in))))) Anyhow
unfolding section_of descriptor_of first_inside
masked =
    let four : MaskingLife (runs 1 (switch_held (runs 3 add_switched_in))) (added 4) 1 = lived _ (lived {k = (added 3, count 2)} _ masking_three (None, (Held, refl, refl), (refl, refl))) (None, refl, (refl, refl, refl)) in
    ((switch 1 (added 5), count 0), lived _ (lived {k = (added 5, count 0)} _ four (_, refl, (refl, refl, refl))) (Some (added 5), refl, (refl, refl, refl)), tt)

-- Held by grace 1 after two runs, and granted after three.
grace_in : GraceLife add_switched_in (added 0) 0
unfolding section_of descriptor_of has_words has_routine all_descriptor_checks first_inside
grace_in = switched_in _ _ _ refl (booted sample_signature sample_table sample_text (count 0) {m = (booted_machine, count 0)} (refl, (_, refl, (_, refl, (_, refl, (_, refl, (_, refl, (_, refl, (_, refl, (_, refl, refl))))))))))

grace_two : GraceLife (runs 2 add_switched_in) (added 2) 1
unfolding section_of descriptor_of first_inside
grace_two = lived _ (lived {k = (added 1, count 0)} _ grace_in (None, refl, (refl, refl, refl))) (None, refl, (refl, refl, refl))

pub grace_held : GraceOne (switch_held (runs 2 add_switched_in)) Anyhow
unfolding section_of descriptor_of first_inside
grace_held = ((added 2, count 1), lived _ grace_two (None, (Held, refl, refl), (refl, refl)), tt)

pub grace_passes : GraceOne (switched_away (runs 3 add_switched_in)) (Stands 4120 0)
unfolding section_of descriptor_of first_inside
grace_passes = ((switch 1 aborted, count 0), lived _ (lived {k = (added 3, count 0)} _ grace_two (None, refl, (refl, refl, refl))) (Some aborted, (Back 4120, refl, refl), (refl, refl, refl)), (refl, refl))

-- Two puts and two takes. The sample machine by thread 0 and CPU 0, which are all that changes when thread 0 works its ring:
-- after the first put, the second, the first take, and the second.
abbrev machine : Thread → Cpu → Core
machine thread cpu = record {
  sizes = sample_sizes;
  image = image_of sample_table sample_text;
  cpus = cpu ∷ replicate 7 (new_cpu 0);
  threads = thread ∷ replicate 15 new_thread;
  next = booted_machine.next;
}

abbrev one_put : Core
one_put = machine (record { q = 0; a = 0; b = 0; w = 0; frames = (record { operation = Put 9; place = 4216; armed = 4 }) ∷ replicate 7 no_frame; depth = 0; hand = None }) (record { current = (Some 0); counters = replicate 8 0; list = 1; head = 0; tail = 1; slots = 9 ∷ 0 ∷ replicate 14 0 })

abbrev one_put_past : List Event
one_put_past = settled (Put 9) Done (runs 6 (event (call.Switch 0 0) accepted ∷ event (call.Enlist 0 (put 9)) accepted ∷ []))

one_put_life : AbortLife one_put_past one_put
unfolding section_of descriptor_of first_inside
one_put_life =
    let life : AbortLife (event (call.Switch 0 0) accepted ∷ event (call.Enlist 0 (put 9)) accepted ∷ []) (switch 0 (enlist (Put 9) booted_machine)) = lived _ (lived {k = (enlist (Put 9) booted_machine, count 0)} _ abort_boots (refl, refl, refl)) (Some (enlist (Put 9) booted_machine), refl, (refl, refl, refl)) in
    lived _ (runs_on _ _ _ 6 life ((((((tt, (None, refl, (refl, refl, refl))), (None, refl, (refl, refl, refl))), (None, refl, (refl, refl, refl))), (None, refl, (refl, refl, refl))), (None, refl, (refl, refl, refl))), (None, refl, (refl, refl, refl)))) (_, refl, (refl, refl, refl))

abbrev no_room : Core
no_room = machine (record { q = 0; a = 1; b = 0; w = 0; frames = (record { operation = Put 8; place = 4208; armed = 4 }) ∷ replicate 7 no_frame; depth = 0; hand = None }) (record { current = (Some 0); counters = replicate 8 0; list = 1; head = 0; tail = 1; slots = 9 ∷ 0 ∷ replicate 14 0 })

abbrev no_room_past : List Event
no_room_past = settled (Put 8) Full (runs 4 (event (call.Enlist 0 (put 8)) accepted ∷ one_put_past))

no_room_life : AbortLife no_room_past no_room
unfolding section_of descriptor_of first_inside
no_room_life =
    let life : AbortLife (event (call.Enlist 0 (put 8)) accepted ∷ one_put_past) (enlist (Put 8) one_put) = lived _ one_put_life (refl, refl, refl) in
    lived _ (runs_on _ _ _ 4 life ((((tt, (None, refl, (refl, refl, refl))), (None, refl, (refl, refl, refl))), (None, refl, (refl, refl, refl))), (None, refl, (refl, refl, refl)))) (_, refl, (refl, refl, refl))

abbrev one_taken : Core
one_taken = machine (record { q = 0; a = 1; b = 0; w = 9; frames = (record { operation = Take; place = 4252; armed = 5 }) ∷ replicate 7 no_frame; depth = 0; hand = None }) (record { current = (Some 0); counters = replicate 8 0; list = 1; head = 1; tail = 1; slots = 9 ∷ 0 ∷ replicate 14 0 })

abbrev one_taken_past : List Event
one_taken_past = settled Take (Got 9) (runs 6 (event (call.Enlist 0 take_one) accepted ∷ no_room_past))

one_taken_life : AbortLife one_taken_past one_taken
unfolding section_of descriptor_of first_inside
one_taken_life =
    let life : AbortLife (event (call.Enlist 0 take_one) accepted ∷ no_room_past) (enlist Take no_room) = lived _ no_room_life (refl, refl, refl) in
    lived _ (runs_on _ _ _ 6 life ((((((tt, (None, refl, (refl, refl, refl))), (None, refl, (refl, refl, refl))), (None, refl, (refl, refl, refl))), (None, refl, (refl, refl, refl))), (None, refl, (refl, refl, refl))), (None, refl, (refl, refl, refl)))) (_, refl, (refl, refl, refl))

abbrev none_left : Core
none_left = machine (record { q = 0; a = 1; b = 1; w = 9; frames = (record { operation = Take; place = 4244; armed = 5 }) ∷ replicate 7 no_frame; depth = 0; hand = None }) (record { current = (Some 0); counters = replicate 8 0; list = 1; head = 1; tail = 1; slots = 9 ∷ 0 ∷ replicate 14 0 })

abbrev none_left_past : List Event
none_left_past = settled Take Empty (runs 4 (event (call.Enlist 0 take_one) accepted ∷ one_taken_past))

none_left_life : AbortLife none_left_past none_left
unfolding section_of descriptor_of first_inside
none_left_life =
    let life : AbortLife (event (call.Enlist 0 take_one) accepted ∷ one_taken_past) (enlist Take one_taken) = lived _ one_taken_life (refl, refl, refl) in
    lived _ (runs_on _ _ _ 4 life ((((tt, (None, refl, (refl, refl, refl))), (None, refl, (refl, refl, refl))), (None, refl, (refl, refl, refl))), (None, refl, (refl, refl, refl)))) (_, refl, (refl, refl, refl))

pub ring : Abort none_left_past Anyhow
ring = ((none_left, count 0), none_left_life, tt)
