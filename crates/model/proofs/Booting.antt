-- A newly booted machine.
use Rattle.std.proofs.Common.{◌≡◌, ℕ, zero, suc, ◌+◌, ◌%◌, ◌<◌, ◌≤◌, cond, ◌&&◌, ltb, leb, List, [], get_or, replicate, None, sym, refl, ap, ◌∙◌, subst, mod-eq_of_lt, arith, le-ltb, lt-ltb}
use Rattle.std.proofs.lemmas.Bool.{le-leb, ne_eqb}
use Rattle.image.specs.declared.fields.Sizes.{Sizes}
use Rattle.model.specs.declared.state.Cpu.{Cpu}
use Rattle.model.specs.declared.state.Image.{Image}
use Rattle.model.specs.declared.state.Thread.{Thread}
use Rattle.model.specs.State.{no_cpu, no_thread, new_cpu, new_thread, new_core, cpu_at, tabulated}
use Rattle.model.specs.Ledger.{new_ledger}
use Rattle.model.specs.Claims.{Listed}
use Rattle.model.specs.Laws.{NewAgrees}

-- What is repeated holds of each, and past the end.
pub each : {A : Type 0} (P : A → Type 0) (x d : A) (k i : ℕ) → P x → P d → P (get_or (replicate k x) i d)
each P x d zero i p q = q
each P x d (suc k) zero p q = p
each P x d (suc k) (suc i) p q = each P x d k i p q

pub each_cpu : (P : Cpu → Type 0) (sizes : Sizes) (image : Image) (cpu : ℕ) → ((first : ℕ) → P (new_cpu first)) → P no_cpu → P (cpu_at (new_core sizes image) cpu)
each_cpu P sizes image zero new none = new _
each_cpu P sizes image (suc cpu) new none = each P (new_cpu 0) no_cpu 7 cpu (new 0) none

at_index : {A : Type 0} (k : ℕ) (f : ℕ → A) (i : ℕ) (d : A) → i < k → get_or (tabulated k f) i d ≡ f i
at_index zero f i d h = absurd (omega arith)
at_index (suc k) f zero d h = refl
at_index (suc k) f (suc i) d h = at_index k (λ j. f (suc j)) i d (omega arith)

-- The nodes from one on, linked one after the other.
module _ (n : ℕ) (few : n ≤ 255) where
  abbrev link : ℕ → ℕ
  link node = cond (leb 1 node && ltb node n) (node + 1) 0

  abbrev next : List ℕ
  next = tabulated 256 link

  linked : (i : ℕ) → i < n → get_or next (suc i) 0 ≡ cond (ltb (suc i) n) (suc (suc i)) 0
  linked i h =
      at_index 256 link (suc i) 0 (omega arith) ∙ ap (λ b. cond (b && ltb (suc i) n) (suc i + 1) 0) (le-leb 1 (suc i) (omega arith))
      ∙ ap (λ k. cond (ltb (suc i) n) k 0) (omega arith)

  chain : (k i : ℕ) (f : ℕ → ℕ) → ((j : ℕ) → f j ≡ suc (i + j)) → i + k ≡ n → Listed next (cond (ltb i n) (suc i) 0) (tabulated k f)
  chain zero i f is long = ap (λ b. cond b (suc i) 0) (le-ltb i n (omega arith))
  chain (suc k) i f is long =
      let below : i < n = omega arith in
      let first : f 0 ≡ suc i = is 0 ∙ omega arith in (
        omega arith,
        ap (λ b. cond b (suc i) 0) (lt-ltb i n below) ∙ sym first,
        subst (λ h. Listed next h (tabulated k (λ j. f (suc j)))) (sym (ap (λ x. get_or next x 0) first ∙ linked i below)) (chain k (suc i) (λ j. f (suc j)) (λ j. is (suc j) ∙ omega arith) (omega arith)),
      )

pub new_agrees : NewAgrees
new_agrees sizes image few = record {
  counters = λ cpu counter c k. each_cpu (λ x. get_or x.counters counter 0 ≡ 0) sizes image cpu (λ first. each (λ n. n ≡ 0) 0 0 8 counter refl refl) refl;
  lists = λ cpu c. lists cpu;
  rings = λ cpu c. record {
    at_most = omega arith;
    slot = λ i h. absurd (omega arith);
    up_to_the_tail = tail cpu ∙ sym (ap (λ h. (h + 0) % (sizes.packets + 1)) (head cpu) ∙ mod-eq_of_lt (omega arith));
  };
  hands = λ thread t. each (λ (x : Thread). x.hand ≡ None) new_thread no_thread 16 thread refl refl;
}
  where
    head : (cpu : ℕ) → (cpu_at (new_core sizes image) cpu).head ≡ 0
    head cpu = each_cpu (λ x. x.head ≡ 0) sizes image cpu (λ first. refl) refl

    tail : (cpu : ℕ) → (cpu_at (new_core sizes image) cpu).tail ≡ 0
    tail cpu = each_cpu (λ x. x.tail ≡ 0) sizes image cpu (λ first. refl) refl

    lists : (cpu : ℕ) → Listed (new_core sizes image).next (cpu_at (new_core sizes image) cpu).list ((new_ledger sizes).lists cpu)
    lists zero = chain sizes.nodes few sizes.nodes 0 suc (λ j. omega arith) (omega arith)
    lists (suc cpu) =
        subst (Listed (new_core sizes image).next (cpu_at (new_core sizes image) (suc cpu)).list) (sym (ap (λ b. cond b (tabulated sizes.nodes suc) []) (ne_eqb (suc cpu) 0 (λ e. omega arith))))
        (each (λ (x : Cpu). x.list ≡ 0) (new_cpu 0) no_cpu 7 cpu refl refl)
