-- The ledger alone: whatever its past, an operation that was brought has settled once or waits once.
use Rattle.std.proofs.Common.{◌≡◌, ℕ, suc, ◌+◌, ◌<◌, cond, leb, ◌⊎◌, List, [], ◌∷◌, ◌++◌, length, Some, None, Option, sym, refl, ap, ◌∙◌, subst, inl, inr, ⊎_elim, arith}
use Rattle.std.proofs.lemmas.Bool.{cond_both, eq-eqb, ne_eqb, cases_eq}
use Rattle.image.specs.declared.fields.Sizes.{Sizes}
use Rattle.calls.specs.declared.Call.{Call}
use Rattle.calls.specs.declared.Call.TheVariants as call
use Rattle.model.specs.declared.state.Operation.{Operation}
use Rattle.model.specs.declared.state.Operation.TheVariants.{Add, Push, Pop, Put, Take}
use Rattle.model.specs.Calls.{operation_of}
use Rattle.model.specs.Ledger.{Ledger, Waiting, Outcome, Fate, was_refused, was_accepted, has_settled, fate_of, updated, brings, pushes, pops, takes, does_whole, settle_top, settle_on, takes_in}
use Rattle.model.specs.Life.{Event, ledger}
use Rattle.model.specs.Claims.{with_number, brought_by, brought, settled, occurs, HasSettledOnce, WaitsOnce}
use Rattle.lives.proofs.Nodes.{here_or_else, updated_here, updated_else}

-- An operation among others: one more with its number, none more with another.
one_more : (number : ℕ) (w : Waiting) (ws : List Waiting) → w.call ≡ number → occurs number (w ∷ ws) ≡ suc (occurs number ws)
one_more number w ws e = ap (λ b. cond b 1 0 + occurs number ws) (eq-eqb w.call number e) ∙ omega arith

none_more : (number : ℕ) (w : Waiting) (ws : List Waiting) → (w.call ≡ number → ⊥) → occurs number (w ∷ ws) ≡ occurs number ws
none_more number w ws ne = ap (λ b. cond b 1 0 + occurs number ws) (ne_eqb w.call number ne) ∙ omega arith

-- The waiting lists with another one at one thread.
module _ (waiting : ℕ → List Waiting) (thread : ℕ) (ws : List Waiting) where
  -- A number that is as often in the new list as in the old one is in each thread as often as before.
  as_often : (number : ℕ) → occurs number ws ≡ occurs number (waiting thread) → (other : ℕ) → occurs number (updated waiting thread ws other) ≡ occurs number (waiting other)
  as_often number same =
      here_or_else (λ t. occurs number (updated waiting thread ws t) ≡ occurs number (waiting t)) thread (ap (occurs number) (updated_here waiting thread ws) ∙ same)
      (λ other ne. ap (occurs number) (updated_else waiting thread ws other ne))

  -- A number that is not in the new list and in no other thread is nowhere.
  nowhere_now : (number : ℕ) → occurs number ws ≡ 0 → ((other : ℕ) → (other ≡ thread → ⊥) → occurs number (waiting other) ≡ 0) → (other : ℕ) → occurs number (updated waiting thread ws other) ≡ 0
  nowhere_now number here there =
      here_or_else (λ t. occurs number (updated waiting thread ws t) ≡ 0) thread (ap (occurs number) (updated_here waiting thread ws) ∙ here)
      (λ other ne. ap (occurs number) (updated_else waiting thread ws other ne) ∙ there other ne)

-- What has become of the operation with a number: it was never brought, or it has settled once, or it waits once.
record NeverBrought (number : ℕ) (waiting : ℕ → List Waiting) (done all : List Waiting) : Type 0 where
  pub not_brought : occurs number all ≡ 0
  pub not_settled : occurs number done ≡ 0
  pub waits_nowhere : (thread : ℕ) → occurs number (waiting thread) ≡ 0

record Settled (number : ℕ) (waiting : ℕ → List Waiting) (done all : List Waiting) : Type 0 where
  pub brought : occurs number all ≡ 1
  pub once : occurs number done ≡ 1
  pub waits_nowhere : (thread : ℕ) → occurs number (waiting thread) ≡ 0

record Waits (number : ℕ) (waiting : ℕ → List Waiting) (done all : List Waiting) : Type 0 where
  pub brought : occurs number all ≡ 1
  pub not_settled : occurs number done ≡ 0
  pub thread : ℕ
  pub once : occurs number (waiting thread) ≡ 1
  pub nowhere_else : (other : ℕ) → (other ≡ thread → ⊥) → occurs number (waiting other) ≡ 0

data Accounted (number : ℕ) (waiting : ℕ → List Waiting) (done all : List Waiting) : Type 0 where
  never : NeverBrought number waiting done all → Accounted number waiting done all
  settles : Settled number waiting done all → Accounted number waiting done all
  waits : Waits number waiting done all → Accounted number waiting done all

-- It only depends on how often the number is among the waiting, settled and brought ones.
module _ (number : ℕ) (waiting waiting' : ℕ → List Waiting) (done done' all all' : List Waiting)
    (same_waiting : (thread : ℕ) → occurs number (waiting' thread) ≡ occurs number (waiting thread)) (same_done : occurs number done' ≡ occurs number done) (same_all : occurs number all' ≡ occurs number all) where
  same_never : NeverBrought number waiting done all → NeverBrought number waiting' done' all'
  same_never n = record { not_brought = same_all ∙ n.not_brought; not_settled = same_done ∙ n.not_settled; waits_nowhere = λ thread. same_waiting thread ∙ n.waits_nowhere thread }

  same_accounted : Accounted number waiting done all → Accounted number waiting' done' all'
  same_accounted (never n) = never (same_never n)
  same_accounted (settles s) = settles (record { brought = same_all ∙ s.brought; once = same_done ∙ s.once; waits_nowhere = λ thread. same_waiting thread ∙ s.waits_nowhere thread })
  same_accounted (waits w) = waits (record {
    brought = same_all ∙ w.brought;
    not_settled = same_done ∙ w.not_settled;
    thread = w.thread;
    once = same_waiting w.thread ∙ w.once;
    nowhere_else = λ other ne. same_waiting other ∙ w.nowhere_else other ne;
  })

-- After so many calls every number is accounted for, and those of later calls were never brought.
record Kept (calls : ℕ) (waiting : ℕ → List Waiting) (done all : List Waiting) : Type 0 where
  pub later : (number : ℕ) → calls < number → NeverBrought number waiting done all
  pub each : (number : ℕ) → Accounted number waiting done all

-- A call that moves no operation.
module _ (calls : ℕ) (waiting : ℕ → List Waiting) (done all : List Waiting) (kept : Kept calls waiting done all) where
  kept_still : Kept (suc calls) waiting done all
  kept_still = record { later = λ number h. kept.later number (omega arith); each = kept.each }

  -- A call that brings an operation, with its own number, on top of those waiting in a thread.
  module _ (thread : ℕ) (w : Waiting) (own : w.call ≡ suc calls) where
    abbrev more : ℕ → List Waiting
    more = updated waiting thread (w ∷ waiting thread)

    others_wait : (number : ℕ) → (w.call ≡ number → ⊥) → (other : ℕ) → occurs number (more other) ≡ occurs number (waiting other)
    others_wait number ne = as_often waiting thread (w ∷ waiting thread) number (none_more number w (waiting thread) ne)

    now_waits : (number : ℕ) → w.call ≡ number → NeverBrought number waiting done all → Waits number more done (w ∷ all)
    now_waits number e n = record {
      brought = one_more number w all e ∙ ap suc n.not_brought;
      not_settled = n.not_settled;
      thread = thread;
      once = ap (occurs number) (updated_here waiting thread (w ∷ waiting thread)) ∙ one_more number w (waiting thread) e ∙ ap suc (n.waits_nowhere thread);
      nowhere_else = λ other ne. ap (occurs number) (updated_else waiting thread (w ∷ waiting thread) other ne) ∙ n.waits_nowhere other;
    }

    kept_brought : Kept (suc calls) more done (w ∷ all)
    kept_brought = record {
      later = λ number h.
          let ne : w.call ≡ number → ⊥ = λ e. omega arith in
          same_never number waiting more done done all (w ∷ all) (others_wait number ne) refl (none_more number w all ne) (kept.later number (omega arith));
      each = λ number.
          ⊎_elim (λ e. waits (now_waits number e (kept.later number (omega arith))))
          (λ ne. same_accounted number waiting more done done all (w ∷ all) (others_wait number ne) refl (none_more number w all ne) (kept.each number))
          (cases_eq w.call number);
    }

  -- A call with which the top operation of those waiting in a thread settles.
  module _ (thread : ℕ) (top : Waiting) (rest : List Waiting) (is : waiting thread ≡ top ∷ rest) where
    abbrev fewer : ℕ → List Waiting
    fewer = updated waiting thread rest

    others_stay : (number : ℕ) → (top.call ≡ number → ⊥) → (other : ℕ) → occurs number (fewer other) ≡ occurs number (waiting other)
    others_stay number ne = as_often waiting thread rest number (sym (ap (occurs number) is ∙ none_more number top rest ne))

    in_its_thread : (number : ℕ) → top.call ≡ number → occurs number (waiting thread) ≡ suc (occurs number rest)
    in_its_thread number e = ap (occurs number) is ∙ one_more number top rest e

    now_settled : (number : ℕ) → top.call ≡ number → Accounted number waiting done all → Settled number fewer (top ∷ done) all
    now_settled number e (never n) = absurd (omega (arith, in_its_thread number e, n.waits_nowhere thread))
    now_settled number e (settles s) = absurd (omega (arith, in_its_thread number e, s.waits_nowhere thread))
    now_settled number e (waits w) =
        ⊎_elim
        (λ (here : thread ≡ w.thread). record {
          brought = w.brought;
          once = one_more number top done e ∙ ap suc w.not_settled;
          waits_nowhere = nowhere_now waiting thread rest number
              (let one = ap (λ t. occurs number (waiting t)) here ∙ w.once in omega (arith, in_its_thread number e, one))
              (λ other ne. w.nowhere_else other (λ same. ne (same ∙ sym here)));
        })
        (λ there. absurd (omega (arith, in_its_thread number e, w.nowhere_else thread there)))
        (cases_eq thread w.thread)

    kept_settled : Kept (suc calls) fewer (top ∷ done) all
    kept_settled = record {
      later = λ number h.
          let n = kept.later number (omega arith) in
          let ne : top.call ≡ number → ⊥ = λ e. omega (arith, in_its_thread number e, n.waits_nowhere thread) in
          same_never number waiting fewer done (top ∷ done) all all (others_stay number ne) (none_more number top done ne) refl n;
      each = λ number.
          ⊎_elim (λ e. settles (now_settled number e (kept.each number)))
          (λ ne. same_accounted number waiting fewer done (top ∷ done) all all (others_stay number ne) (none_more number top done ne) refl (kept.each number))
          (cases_eq top.call number);
    }

-- An operation that is done whole leaves the waiting ones alone.
module _ (packets : ℕ) (l : Ledger) (thread cpu : ℕ) where
  push_leaves : (hand : Option ℕ) → (pushes packets l thread cpu hand).ledger.waiting ≡ l.waiting
  push_leaves None = refl
  push_leaves (Some node) = refl

  pop_leaves : (hand : Option ℕ) (nodes : List ℕ) → (pops packets l thread cpu hand nodes).ledger.waiting ≡ l.waiting
  pop_leaves (Some node) nodes = refl
  pop_leaves None [] = refl
  pop_leaves None (node ∷ nodes) = refl

  take_leaves : (ring : List ℕ) → (takes packets l thread cpu ring).ledger.waiting ≡ l.waiting
  take_leaves [] = refl
  take_leaves (packet ∷ rest) = refl

  whole_leaves : (operation : Operation) → (does_whole packets l thread cpu operation).ledger.waiting ≡ l.waiting
  whole_leaves (Add counter amount) = refl
  whole_leaves Push = push_leaves (l.hands thread)
  whole_leaves Pop = pop_leaves (l.hands thread) (l.lists cpu)
  whole_leaves (Put amount) = cond_both (leb packets (length (l.rings cpu))) _ _ (λ (o : Outcome). o.ledger.waiting ≡ l.waiting) (λ e. refl) (λ e. refl)
  whole_leaves Take = take_leaves (l.rings cpu)

-- What each call does to the ledger keeps every number accounted for.
module _ (sizes : Sizes) (calls : ℕ) (l : Ledger) (done all : List Waiting) (kept : Kept calls l.waiting done all) where
  still : Kept (suc calls) l.waiting done all
  still = kept_still calls l.waiting done all kept

  after_bringing : (thread : ℕ) (o : Option Operation) → Kept (suc calls) (brings l (suc calls) thread o).waiting done (with_number (suc calls) o ++ all)
  after_bringing thread None = still
  after_bringing thread (Some operation) = kept_brought calls l.waiting done all kept thread (record { call = suc calls; operation = operation }) refl

  after_settling_top : (packets thread cpu : ℕ) (ws : List Waiting) → l.waiting thread ≡ ws
      → Kept (suc calls) (settle_top packets l thread cpu ws).ledger.waiting ((settle_top packets l thread cpu ws).done ++ done) all
  after_settling_top packets thread cpu [] is = still
  after_settling_top packets thread cpu (top ∷ rest) is =
      subst (λ waiting. Kept (suc calls) (updated waiting thread rest) (top ∷ done) all) (sym (whole_leaves packets l thread cpu top.operation))
      (kept_settled calls l.waiting done all kept thread top rest is)

  after_settling : (packets cpu : ℕ) (o : Option ℕ) → Kept (suc calls) (settle_on packets l cpu o).ledger.waiting ((settle_on packets l cpu o).done ++ done) all
  after_settling packets cpu None = still
  after_settling packets cpu (Some thread) = after_settling_top packets thread cpu (l.waiting thread) refl

  after : (c : Call) (fate : Fate) → Kept (suc calls) (takes_in sizes l (suc calls) c fate).ledger.waiting ((takes_in sizes l (suc calls) c fate).done ++ done) (brought_by sizes (suc calls) c fate ++ all)
  after c was_refused = still
  after (call.Enlist thread raw) was_accepted = after_bringing thread (operation_of sizes raw)
  after (call.Signal thread raw) was_accepted = after_bringing thread (operation_of sizes raw)
  after (call.Switch cpu thread) was_accepted = still
  after (call.Idle cpu) was_accepted = still
  after (call.Run cpu) was_accepted = still
  after (call.Advance cpu n) was_accepted = still
  after (call.Enlist thread raw) has_settled = still
  after (call.Signal thread raw) has_settled = still
  after (call.Switch cpu thread) has_settled = still
  after (call.Idle cpu) has_settled = still
  after (call.Run cpu) has_settled = after_settling sizes.packets cpu (l.current cpu)
  after (call.Advance cpu n) has_settled = after_settling sizes.packets cpu (l.current cpu)

-- So it is with every past.
always_kept : (sizes : Sizes) (past : List Event) → Kept (length past) (ledger sizes past).waiting (settled sizes past) (brought sizes past)
always_kept sizes [] = record {
  later = λ number h. nothing number;
  each = λ number. never (nothing number);
}
  where
    nothing : (number : ℕ) → NeverBrought number (λ thread. []) [] []
    nothing number = record { not_brought = refl; not_settled = refl; waits_nowhere = λ thread. refl }
always_kept sizes (event ∷ before) = after sizes (length before) (ledger sizes before) (settled sizes before) (brought sizes before) (always_kept sizes before) event.call (fate_of event.answer)

-- An operation that was brought has settled once and waits nowhere, or has not settled and waits once.
pub operations_conserved : (sizes : Sizes) (past : List Event) (number : ℕ) → 0 < occurs number (brought sizes past) → HasSettledOnce sizes past number ⊎ WaitsOnce sizes past number
operations_conserved sizes past number some = by ((always_kept sizes past).each number)
  where
    by : Accounted number (ledger sizes past).waiting (settled sizes past) (brought sizes past) → HasSettledOnce sizes past number ⊎ WaitsOnce sizes past number
    by (never n) = absurd (omega (arith, n.not_brought))
    by (settles s) = inl (record { once = s.once; waits_nowhere = s.waits_nowhere })
    by (waits w) = inr (record { not_settled = w.not_settled; thread = w.thread; once = w.once; nowhere_else = w.nowhere_else })

-- Nothing else has settled, and nothing else waits.
pub nothing_invented : (sizes : Sizes) (past : List Event) (number : ℕ) → occurs number (brought sizes past) ≡ 0
    → (occurs number (settled sizes past) ≡ 0) × ((thread : ℕ) → occurs number ((ledger sizes past).waiting thread) ≡ 0)
nothing_invented sizes past number none = by ((always_kept sizes past).each number)
  where
    by : Accounted number (ledger sizes past).waiting (settled sizes past) (brought sizes past) → (occurs number (settled sizes past) ≡ 0) × ((thread : ℕ) → occurs number ((ledger sizes past).waiting thread) ≡ 0)
    by (never n) = (n.not_settled, n.waits_nowhere)
    by (settles s) = absurd (omega (arith, s.brought, none))
    by (waits w) = absurd (omega (arith, w.brought, none))

-- An operation of a call that is still to come waits nowhere.
pub waiting_below : (sizes : Sizes) (past : List Event) (thread number : ℕ) → length past < number → occurs number ((ledger sizes past).waiting thread) ≡ 0
waiting_below sizes past thread number h = ((always_kept sizes past).later number h).waits_nowhere thread
