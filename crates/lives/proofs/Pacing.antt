-- The pace of a CPU: what its trace says of how near its thread's operation is to its end.
use Rattle.std.proofs.Common.{◌≡◌, ℕ, suc, ◌+◌, ◌-◌, ◌*◌, ◌<◌, ◌≤◌, max, min, true, false, List, ◌∷◌, length, Some, sym, refl, ap, ◌∙◌, subst, arith}
use Rattle.std.proofs.lemmas.Option.{same_Some}
use Rattle.std.proofs.lemmas.List.Elements.{recursion_from_All, All-weaker, All-from_recursion}
use Rattle.std.specs.List.{AllByRecursion}
use Rattle.calls.specs.declared.Call.{Call}
use Rattle.calls.specs.declared.Call.TheVariants as call
use Rattle.exclusion.specs.Meaning.{Meaning}
use Rattle.model.specs.declared.state.Operation.{Operation}
use Rattle.model.specs.declared.state.Thread.{Thread}
use Rattle.model.specs.declared.state.Core.{Core}
use Rattle.model.specs.State.{thread_at, cpu_at, top_frame}
use Rattle.model.specs.Ledger.{Ledger}
use Rattle.model.specs.Claims.{is_thread, Mark, instruction, held, about}
use Rattle.lives.proofs.Midway.{words_of}
use Rattle.lives.proofs.Standing.{RestartPoint, at_entry, at_abort, at_start, Invariant, StandsThere, restarts_there, midway_there, stands_there}
use Rattle.lives.proofs.Instructing.{to_go, from, from_entry, from_abort, from_section, few_words, known_within}
use Rattle.lives.proofs.Traces.{waited, pending, InEight, InFive, in_eight_more, in_five_more}
use Rattle.lives.specs.Apart.{section_of_operation}
use Rattle.lives.specs.Whole.{since}

-- An operation that a CPU's thread works on is one to eight words from its end, and one to five where there is patience.
module _ (l : Ledger) (m : Meaning) (core : Core) (c t : ℕ) (inv : Invariant l m core) (on : l.current c ≡ Some t) (some : 0 < (thread_at core t).depth) where
  abbrev operation : Operation
  operation = (top_frame (thread_at core t)).operation

  abbrev left : ℕ
  left = to_go core.image (top_frame (thread_at core t))

  abbrev Bounds : Type 0
  Bounds = (4 ≤ left) × (left ≤ 32) × (0 < m.patience c → left ≤ 20)

  pub bounds : Bounds
  bounds = go (stands_there l m core c t inv on some)
    where
      point : RestartPoint core.image (top_frame (thread_at core t)) → m.patience c ≡ 0 → Bounds
      point (at_entry at unarmed) calm =
          let is : left ≡ 4 * length (words_of operation) + 4 = ap (from core.image inv.text operation) at ∙ from_entry core.image inv.text operation in
          let few = few_words operation in (omega (arith, is), omega (arith, is, few.1), λ patient. absurd (omega (arith, patient, calm)))
      point (at_abort at unarmed) calm =
          let is : left ≡ 4 * length (words_of operation) + 8 = ap (from core.image inv.text operation) at ∙ from_abort core.image inv.text operation in
          let few = few_words operation in (omega (arith, is), omega (arith, is, few.1), λ patient. absurd (omega (arith, patient, calm)))
      point (at_start at armed) calm =
          let few = few_words operation in
          let first : (section_of_operation core.image operation).start + 4 * 0 ≡ (section_of_operation core.image operation).start = omega arith in
          let is : left ≡ 4 * (length (words_of operation) - 0) =
          ap (from core.image inv.text operation) (at ∙ sym first) ∙ from_section core.image inv.text operation 0 (omega (arith, few.0)) in
          (omega (arith, is, few.0), omega (arith, is, few.1), λ patient. absurd (omega (arith, patient, calm)))

      go : StandsThere m core c t → Bounds
      go (restarts_there at calm) = point at calm
      go (midway_there at) =
          let few = few_words operation in
          let within = known_within core.sizes.packets (cpu_at core c) core.next (thread_at core t) operation at.words_done at.known in
          let is : left ≡ 4 * (length (words_of operation) - at.words_done) = ap (from core.image inv.text operation) at.place ∙ from_section core.image inv.text operation at.words_done within.1 in
          (omega (arith, is, within.1), omega (arith, is, few.1), λ patient. omega (arith, is, few.1, within.0))

-- What holds of a CPU and its trace. The words run since the last settling or grant and those to go are eight at most, and
-- since a held call they are five; and only a held call of this CPU is pending there.
pub record Paced (l : Ledger) (m : Meaning) (core : Core) (c : ℕ) (marks : List Mark) : Type 0 where
  pub in_eight : InEight marks
  pub in_five : InFive marks
  pub pace : (t : ℕ) → l.current c ≡ Some t → 0 < (thread_at core t).depth → 4 * since marks + to_go core.image (top_frame (thread_at core t)) ≤ 32
  pub pace_held : (t : ℕ) → l.current c ≡ Some t → 0 < (thread_at core t).depth → 0 < waited marks → 4 * waited marks + to_go core.image (top_frame (thread_at core t)) ≤ 24
  pub at_rest : (t : ℕ) → l.current c ≡ Some t → (thread_at core t).depth ≡ 0 → (since marks ≡ 0) × (waited marks ≡ 0)
  pub patient : (t : ℕ) → l.current c ≡ Some t → 0 < m.patience c → 0 < since marks
  pub concerned : AllByRecursion (λ (x : Call). about l c x ≡ true) (pending marks)

-- Whether a call is about a CPU goes by the CPU's thread.
pub about_same : (l k : Ledger) (c : ℕ) (x : Call) → k.current c ≡ l.current c → about k c x ≡ about l c x
about_same l k c (call.Enlist thread raw) same = refl
about_same l k c (call.Run cpu) same = refl
about_same l k c (call.Advance cpu n) same = refl
about_same l k c (call.Switch cpu thread) same = refl
about_same l k c (call.Idle cpu) same = refl
about_same l k c (call.Signal thread raw) same = ap (is_thread thread) same

abbrev About : Ledger → ℕ → Call → Type 0
About l c x = about l c x ≡ true

pub concerned_same : (l k : Ledger) (c : ℕ) (calls : List Call) → k.current c ≡ l.current c → AllByRecursion (λ (x : Call). about l c x ≡ true) calls → AllByRecursion (λ (x : Call). about k c x ≡ true) calls
concerned_same l k c calls same all = recursion_from_All (About k c) calls (All-weaker (About l c) (About k c) (λ x e. about_same l k c x same ∙ e) calls (All-from_recursion (About l c) calls all))

-- A CPU whose thread is not touched.
pub untouched : (l k : Ledger) (m n : Meaning) (core later : Core) (c : ℕ) (marks : List Mark) → later.image ≡ core.image → k.current c ≡ l.current c
    → ((s : ℕ) → l.current c ≡ Some s → thread_at later s ≡ thread_at core s) → n.patience c ≡ m.patience c → Paced l m core c marks → Paced k n later c marks
untouched l k m n core later c marks image current threads patience paced = record {
  in_eight = paced.in_eight;
  in_five = paced.in_five;
  pace = λ t on some.
      let there = threads t (sym current ∙ on) in
      let depth = ap (λ (x : Thread). x.depth) there in
      let same : to_go later.image (top_frame (thread_at later t)) ≡ to_go core.image (top_frame (thread_at core t)) = ap (λ i. to_go i (top_frame (thread_at later t))) image ∙ ap (λ (x : Thread). to_go core.image (top_frame x)) there in
      omega (arith, same, paced.pace t (sym current ∙ on) (omega (arith, depth, some)));
  pace_held = λ t on some waits.
      let there = threads t (sym current ∙ on) in
      let depth = ap (λ (x : Thread). x.depth) there in
      let same : to_go later.image (top_frame (thread_at later t)) ≡ to_go core.image (top_frame (thread_at core t)) = ap (λ i. to_go i (top_frame (thread_at later t))) image ∙ ap (λ (x : Thread). to_go core.image (top_frame x)) there in
      omega (arith, same, paced.pace_held t (sym current ∙ on) (omega (arith, depth, some)) waits);
  at_rest = λ t on none. paced.at_rest t (sym current ∙ on) (sym (ap (λ (x : Thread). x.depth) (threads t (sym current ∙ on))) ∙ none);
  patient = λ t on h. paced.patient t (sym current ∙ on) (omega (arith, h, patience));
  concerned = concerned_same l k c (pending marks) current paced.concerned;
}

-- An instruction that settles nothing.
pub paced_on : (l : Ledger) (m n : Meaning) (core later : Core) (c t : ℕ) (marks : List Mark) → later.image ≡ core.image → Invariant l n later → l.current c ≡ Some t → 0 < (thread_at core t).depth → 0 < (thread_at later t).depth
    → to_go core.image (top_frame (thread_at later t)) + 4 ≡ to_go core.image (top_frame (thread_at core t)) → Paced l m core c marks → Paced l n later c (instruction false ∷ marks)
paced_on l m n core later c t marks image inv on some still nearer paced = record {
  in_eight = in_eight_more (instruction false) marks paced.in_eight (omega (arith, ends.0, pace));
  in_five = in_five_more (instruction false) marks paced.in_five (grind (arith, ends.0, held_pace));
  pace = λ s there more. subst (λ x. 4 * suc (since marks) + to_go later.image (top_frame (thread_at later x)) ≤ 32) (same s there) pace;
  pace_held = λ s there more waits. subst (λ x. 4 * (waited marks + min 1 (waited marks)) + to_go later.image (top_frame (thread_at later x)) ≤ 24) (same s there) (held_pace (omega arith));
  at_rest = λ s there none. absurd (omega (arith, still, ap (λ x. (thread_at later x).depth) (same s there), none));
  patient = λ s there h. omega arith;
  concerned = paced.concerned;
}
  where
    same : (s : ℕ) → l.current c ≡ Some s → t ≡ s
    same s there = same_Some _ _ (sym on ∙ there)

    ends : (4 ≤ to_go later.image (top_frame (thread_at later t))) × (to_go later.image (top_frame (thread_at later t)) ≤ 32) × (0 < n.patience c → to_go later.image (top_frame (thread_at later t)) ≤ 20)
    ends = bounds l n later c t inv on still

    left_is : to_go later.image (top_frame (thread_at later t)) ≡ to_go core.image (top_frame (thread_at later t))
    left_is = ap (λ i. to_go i (top_frame (thread_at later t))) image

    pace : 4 * suc (since marks) + to_go later.image (top_frame (thread_at later t)) ≤ 32
    pace = omega (arith, left_is, nearer, paced.pace t on some)

    held_pace : 0 < waited marks → 4 * (waited marks + min 1 (waited marks)) + to_go later.image (top_frame (thread_at later t)) ≤ 24
    held_pace waits = omega (arith, left_is, nearer, paced.pace_held t on some waits)

-- A settling, or a call that is granted: the count begins anew.
pub paced_anew : (l k : Ledger) (n : Meaning) (later : Core) (c : ℕ) (mark : Mark) (marks : List Mark) → InEight marks → InFive marks → since (mark ∷ marks) ≡ 0 → waited (mark ∷ marks) ≡ 0
    → AllByRecursion (λ (x : Call). about k c x ≡ true) (pending (mark ∷ marks)) → Invariant k n later → n.patience c ≡ 0 → Paced k n later c (mark ∷ marks)
paced_anew l k n later c mark marks eight five none unwaited concerned inv calm = record {
  in_eight = in_eight_more mark marks eight (omega (arith, none));
  in_five = in_five_more mark marks five (omega (arith, unwaited));
  pace = λ t on some. omega (arith, none, (bounds k n later c t inv on some).1);
  pace_held = λ t on some waits. absurd (omega (arith, waits, unwaited));
  at_rest = λ t on rests. (none, unwaited);
  patient = λ t on h. absurd (omega (arith, h, calm));
  concerned = concerned;
}

-- A call that is held.
pub paced_held : (l : Ledger) (m : Meaning) (core : Core) (c t : ℕ) (x : Call) (marks : List Mark) → Invariant l m core → l.current c ≡ Some t → 0 < (thread_at core t).depth → 0 < m.patience c → about l c x ≡ true
    → Paced l m core c marks → Paced l m core c (held x ∷ marks)
paced_held l m core c t x marks inv on some patient concerns paced = record {
  in_eight = in_eight_more (held x) marks paced.in_eight (omega (arith, ends.0, paced.pace t on some));
  in_five = in_five_more (held x) marks paced.in_five (omega (arith, ends.0, held_pace));
  pace = paced.pace;
  pace_held = λ s there more waits. subst (λ y. 4 * max 1 (waited marks) + to_go core.image (top_frame (thread_at core y)) ≤ 24) (same_Some _ _ (sym on ∙ there)) held_pace;
  at_rest = λ s there none. absurd (omega (arith, some, ap (λ y. (thread_at core y).depth) (same_Some _ _ (sym on ∙ there)), none));
  patient = paced.patient;
  concerned = (concerns, paced.concerned);
}
  where
    ends : (4 ≤ to_go core.image (top_frame (thread_at core t))) × (to_go core.image (top_frame (thread_at core t)) ≤ 32) × (0 < m.patience c → to_go core.image (top_frame (thread_at core t)) ≤ 20)
    ends = bounds l m core c t inv on some

    held_pace : 4 * max 1 (waited marks) + to_go core.image (top_frame (thread_at core t)) ≤ 24
    held_pace = grind (arith, ends.2 patient, paced.pace_held t on some)

-- A thread at rest gets an operation.
pub paced_enlisted : (l k : Ledger) (m : Meaning) (core later : Core) (c t : ℕ) (marks : List Mark) → k.current c ≡ l.current c → l.current c ≡ Some t → (thread_at core t).depth ≡ 0 → 0 < (thread_at later t).depth
    → Invariant k m later → Paced l m core c marks → Paced k m later c marks
paced_enlisted l k m core later c t marks same on none some inv paced = record {
  in_eight = paced.in_eight;
  in_five = paced.in_five;
  pace = λ s there more. omega (arith, rest.0, (bounds k m later c s inv there more).1);
  pace_held = λ s there more waits. absurd (omega (arith, waits, rest.1));
  at_rest = λ s there empty. rest;
  patient = λ s there h. paced.patient s (sym same ∙ there) h;
  concerned = concerned_same l k c (pending marks) same paced.concerned;
}
  where
    rest : (since marks ≡ 0) × (waited marks ≡ 0)
    rest = paced.at_rest t on none
