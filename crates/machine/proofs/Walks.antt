-- The walk over the CPUs, and the walks over lists and rings, met step by step.
use Rattle.std.proofs.Common.{◌≡◌, ℕ, suc, ◌-◌, ◌<◌, Bool, true, false, cond, List, [], ◌∷◌, Some, None, sym, refl, ap, ◌∙◌, arith}
use Rattle.std.specs.List.{position_from}
use Rattle.model.specs.declared.state.Cpu.{Cpu}
use Rattle.model.specs.Questions.{reached}
use Rattle.model.proofs.Asking.{reached_ends, reached_here, reached_on}
use Rattle.lives.specs.Apart.{cpu_among}
use Rattle.machine.specs.Promises.{Walks}
use Rattle.model.specs.Claims.{is_thread}

-- The first of some CPUs, counted from c on, that has the thread, as the library finds it.
pub first_with : (t c : ℕ) (cpus : List Cpu) → position_from (λ (cpu : Cpu). is_thread t cpu.current) c cpus ≡ cpu_among cpus c t
first_with t c [] = refl
first_with t c (cpu ∷ cpus) =
    ap (cond (is_thread t cpu.current) (Some c)) (ap (λ k. position_from (λ (x : Cpu). is_thread t x.current) k cpus) (omega arith) ∙ first_with t (suc c) cpus)

-- A walk that has come to a place, with so many steps left, by a test that answers and a step that leads.
module _ (answers : ℕ → Bool → Type 0) (leads : ℕ → ℕ → Type 0) where
  abbrev pub OnTheWay : ℕ → ℕ → ℕ → ℕ → Type 0
  OnTheWay place left first steps =
      (ends : ℕ → Bool) (onward : ℕ → ℕ) → ((x : ℕ) (b : Bool) → answers x b → b ≡ ends x) → ((x y : ℕ) → leads x y → y ≡ onward x)
      → reached ends onward place left ≡ reached ends onward first steps

  pub walk_ends : (place left first steps : ℕ) {b : Bool} → answers place b → b ≡ true → OnTheWay place left first steps → Walks answers leads first steps None
  walk_ends place left first steps {b} answered is way ends onward tests goes = sym (reached_ends ends onward place left (sym (tests place b answered) ∙ is)) ∙ way ends onward tests goes

  pub walk_arrives : (place left first steps : ℕ) {b : Bool} → answers place b → b ≡ false → left ≡ 0 → OnTheWay place left first steps → Walks answers leads first steps (Some place)
  walk_arrives place left first steps {b} answered is none way ends onward tests goes =
      sym (ap (reached ends onward place) none ∙ reached_here ends onward place (sym (tests place b answered) ∙ is)) ∙ way ends onward tests goes

  pub walk_goes_on : (place further left less first steps : ℕ) {b : Bool} → answers place b → b ≡ false → leads place further → 0 < left → less ≡ left - 1 → OnTheWay place left first steps → OnTheWay further less first steps
  walk_goes_on place further left less first steps {b} answered is led some one way ends onward tests goes =
      sym (ap (reached ends onward place) (omega arith) ∙ reached_on ends onward place less (sym (tests place b answered) ∙ is) ∙ ap (λ p. reached ends onward p less) (sym (goes place further led)))
      ∙ way ends onward tests goes
