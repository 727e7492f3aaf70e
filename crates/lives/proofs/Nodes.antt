-- Where the nodes are: how often each is on a list or in a hand.
use Rattle.std.proofs.Common.{◌≡◌, ℕ, zero, suc, ◌+◌, ◌<◌, ◌≤◌, cond, ◌&&◌, eqb, leb, List, [], ◌∷◌, length, get_or, Some, None, Option, sym, refl, ap, ◌∙◌, subst, ⊎_elim, arith}
use Rattle.std.proofs.lemmas.Bool.{eq-eqb, ne_eqb, le-leb, lt-leb, cases_eq, cases_lt, cond_both}
use Rattle.image.specs.declared.fields.Sizes.{Sizes}
use Rattle.model.specs.declared.state.Operation.{Operation}
use Rattle.model.specs.declared.state.Operation.TheVariants.{Add, Push, Pop, Put, Take}
use Rattle.model.specs.State.{tabulated}
use Rattle.model.specs.Ledger.{Ledger, Outcome, updated, new_ledger, pushes, pops, takes, does_whole, with_lists_and_hands}
use Rattle.model.specs.Claims.{Listed, among, in_hand, sum_below, found}

-- Sums. Equal values have equal sums.
pub sum_same : (k : ℕ) (f g : ℕ → ℕ) → ((j : ℕ) → j < k → g j ≡ f j) → sum_below k g ≡ sum_below k f
sum_same zero f g same = refl
sum_same (suc k) f g same =
    let last : g k ≡ f k = same k (omega arith) in
    let rest : sum_below k g ≡ sum_below k f = sum_same k f g (λ j h. same j (omega arith)) in
    omega arith

-- One value is changed: the sum changes by as much.
pub sum_changed : (k : ℕ) (f g : ℕ → ℕ) (i : ℕ) → i < k → ((j : ℕ) → (j ≡ i → ⊥) → g j ≡ f j) → sum_below k g + f i ≡ sum_below k f + g i
sum_changed zero f g i h same = absurd (omega arith)
sum_changed (suc k) f g i h same =
    ⊎_elim
    (λ (last : i ≡ k).
    let before : f i ≡ f k = ap f last in
    let after : g i ≡ g k = ap g last in
    let rest : sum_below k g ≡ sum_below k f = sum_same k f g (λ j low. same j (λ e. omega arith)) in
    omega arith)
    (λ (other : i ≡ k → ⊥).
    let last : g k ≡ f k = same k (λ e. other (sym e)) in
    let rest : sum_below k g + f i ≡ sum_below k f + g i = sum_changed k f g i (omega arith) same in
    omega arith) (cases_eq i k)

-- A sum has each of its values, and any two together.
pub sum_has : (k : ℕ) (f : ℕ → ℕ) (i : ℕ) → i < k → f i ≤ sum_below k f
sum_has zero f i h = absurd (omega arith)
sum_has (suc k) f i h =
    ⊎_elim (λ (last : i ≡ k). let e : f i ≡ f k = ap f last in omega arith)
    (λ (other : i ≡ k → ⊥). let rest : f i ≤ sum_below k f = sum_has k f i (omega arith) in omega arith) (cases_eq i k)

pub sum_has_two : (k : ℕ) (f : ℕ → ℕ) (i j : ℕ) → i < k → j < k → (i ≡ j → ⊥) → f i + f j ≤ sum_below k f
sum_has_two zero f i j h g apart = absurd (omega arith)
sum_has_two (suc k) f i j h g apart =
    ⊎_elim
    (λ (last : i ≡ k).
    let e : f i ≡ f k = ap f last in
    let rest : f j ≤ sum_below k f = sum_has k f j (omega arith) in
    omega arith)
    (λ (i_other : i ≡ k → ⊥).
    ⊎_elim
    (λ (last : j ≡ k).
    let e : f j ≡ f k = ap f last in
    let rest : f i ≤ sum_below k f = sum_has k f i (omega arith) in
    omega arith)
    (λ (j_other : j ≡ k → ⊥). let rest : f i + f j ≤ sum_below k f = sum_has_two k f i j (omega arith) (omega arith) apart in omega arith) (cases_eq j k)) (cases_eq i k)

-- What holds of one number, and of every other, holds of each.
pub here_or_else : (P : ℕ → Type 0) (here : ℕ) → P here → ((x : ℕ) → (x ≡ here → ⊥) → P x) → (x : ℕ) → P x
here_or_else P here there elsewhere x = ⊎_elim (λ (same : x ≡ here). subst P (sym same) there) (elsewhere x) (cases_eq x here)

-- A function with another value at one argument: there, and elsewhere.
pub updated_here : {A : Type 0} (f : ℕ → A) (i : ℕ) (x : A) → updated f i x i ≡ x
updated_here f i x = ap (λ b. cond b x (f i)) (eq-eqb i i refl)

pub updated_else : {A : Type 0} (f : ℕ → A) (i : ℕ) (x : A) (j : ℕ) → (j ≡ i → ⊥) → updated f i x j ≡ f j
updated_else f i x j other = ap (λ b. cond b x (f j)) (ne_eqb j i other)

-- A list and a hand exchange what they hold: each node is found as often as before.
module _ (sizes : Sizes) (l : Ledger) (thread cpu node : ℕ) (a_cpu : cpu < sizes.cpus) (a_thread : thread < sizes.threads) where
  exchanged : (nodes : List ℕ) (hand : Option ℕ) → among node nodes + in_hand node hand ≡ among node (l.lists cpu) + in_hand node (l.hands thread)
      → found sizes (with_lists_and_hands l (updated l.lists cpu nodes) (updated l.hands thread hand)) node ≡ found sizes l node
  exchanged nodes hand balance =
      let list_there : among node (updated l.lists cpu nodes cpu) ≡ among node nodes = ap (among node) (updated_here l.lists cpu nodes) in
      let hand_there : in_hand node (updated l.hands thread hand thread) ≡ in_hand node hand = ap (in_hand node) (updated_here l.hands thread hand) in
      let lists = sum_changed sizes.cpus (λ c. among node (l.lists c)) (λ c. among node (updated l.lists cpu nodes c)) cpu a_cpu
      (λ c other. ap (among node) (updated_else l.lists cpu nodes c other)) in
      let hands = sum_changed sizes.threads (λ t. in_hand node (l.hands t)) (λ t. in_hand node (updated l.hands thread hand t)) thread a_thread
      (λ t other. ap (in_hand node) (updated_else l.hands thread hand t other)) in
      omega arith

  pushed_nodes : (hand : Option ℕ) → l.hands thread ≡ hand → found sizes (pushes sizes.packets l thread cpu hand).ledger node ≡ found sizes l node
  pushed_nodes None holds = refl
  pushed_nodes (Some n) holds =
      let held : in_hand node (l.hands thread) ≡ cond (eqb n node) 1 0 = ap (in_hand node) holds in
      exchanged (n ∷ l.lists cpu) None (omega arith)

  popped_nodes : (hand : Option ℕ) (nodes : List ℕ) → l.hands thread ≡ hand → l.lists cpu ≡ nodes → found sizes (pops sizes.packets l thread cpu hand nodes).ledger node ≡ found sizes l node
  popped_nodes (Some n) nodes holds is = refl
  popped_nodes None [] holds is = refl
  popped_nodes None (n ∷ nodes) holds is =
      let held : in_hand node (l.hands thread) ≡ 0 = ap (in_hand node) holds in
      let listed : among node (l.lists cpu) ≡ cond (eqb n node) 1 0 + among node nodes = ap (among node) is in
      exchanged nodes (Some n) (omega arith)

-- What leaves a ring is no node.
taken_nodes : (sizes : Sizes) (l : Ledger) (thread cpu node : ℕ) (ring : List ℕ) → found sizes (takes sizes.packets l thread cpu ring).ledger node ≡ found sizes l node
taken_nodes sizes l thread cpu node [] = refl
taken_nodes sizes l thread cpu node (packet ∷ rest) = refl

-- After a whole operation each node is found as often as before.
pub settled_nodes : (sizes : Sizes) (l : Ledger) (thread cpu : ℕ) (operation : Operation) (node : ℕ) → cpu < sizes.cpus → thread < sizes.threads
    → found sizes (does_whole sizes.packets l thread cpu operation).ledger node ≡ found sizes l node
settled_nodes sizes l thread cpu (Add counter amount) node a_cpu a_thread = refl
settled_nodes sizes l thread cpu Push node a_cpu a_thread = pushed_nodes sizes l thread cpu node a_cpu a_thread (l.hands thread) refl
settled_nodes sizes l thread cpu Pop node a_cpu a_thread = popped_nodes sizes l thread cpu node a_cpu a_thread (l.hands thread) (l.lists cpu) refl refl
settled_nodes sizes l thread cpu (Put amount) node a_cpu a_thread =
    cond_both (leb sizes.packets (length (l.rings cpu))) _ _ (λ (o : Outcome). found sizes o.ledger node ≡ found sizes l node) (λ e. refl) (λ e. refl)
settled_nodes sizes l thread cpu Take node a_cpu a_thread = taken_nodes sizes l thread cpu node (l.rings cpu)

-- A node counts once where it is, and not where another is.
counts_once : (n node : ℕ) → n ≡ node → ◌≡◌ {A = ℕ} (cond (eqb n node) 1 0) 1
counts_once n node same = ap (λ b. cond b 1 0) (eq-eqb n node same)

counts_not : (n node : ℕ) → (n ≡ node → ⊥) → ◌≡◌ {A = ℕ} (cond (eqb n node) 1 0) 0
counts_not n node other = ap (λ b. cond b 1 0) (ne_eqb n node other)

-- Among successive nodes is each of them once, and no other.
module _ (node : ℕ) where
  not_among_run : (k first : ℕ) (f : ℕ → ℕ) → ((i : ℕ) → f i ≡ first + i) → ((i : ℕ) → i < k → first + i ≡ node → ⊥) → among node (tabulated k f) ≡ 0
  not_among_run zero first f is other = refl
  not_among_run (suc k) first f is other =
      let front = counts_not (f 0) node (λ e. other 0 (omega arith) (sym (is 0) ∙ e)) in
      let rest : among node (tabulated k (λ i. f (suc i))) ≡ 0 =
      not_among_run k (suc first) (λ i. f (suc i)) (λ i. is (suc i) ∙ omega arith) (λ i low e. other (suc i) (omega arith) (omega arith)) in
      omega arith

  among_run : (k first : ℕ) (f : ℕ → ℕ) → ((i : ℕ) → f i ≡ first + i) → first ≤ node → node < first + k → among node (tabulated k f) ≡ 1
  among_run zero first f is from below = absurd (omega arith)
  among_run (suc k) first f is from below =
      let at : f 0 ≡ first + 0 = is 0 in
      ⊎_elim
      (λ (same : first ≡ node).
      let front = counts_once (f 0) node (omega arith) in
      let rest : among node (tabulated k (λ i. f (suc i))) ≡ 0 = not_among_run k (suc first) (λ i. f (suc i)) (λ i. is (suc i) ∙ omega arith) (λ i low e. omega arith) in
      omega arith)
      (λ (other : first ≡ node → ⊥).
      let front = counts_not (f 0) node (λ e. omega arith) in
      let rest : among node (tabulated k (λ i. f (suc i))) ≡ 1 = among_run k (suc first) (λ i. f (suc i)) (λ i. is (suc i) ∙ omega arith) (omega arith) (omega arith) in
      omega arith) (cases_eq first node)

  among_from_one : (k : ℕ) → among node (tabulated k suc) ≡ cond (leb 1 node && leb node k) 1 0
  among_from_one k =
      ⊎_elim
      (λ (none : node < 1).
      not_among_run k 1 suc (λ i. omega arith) (λ i low e. omega arith) ∙ sym (ap (λ b. cond (b && leb node k) 1 0) (lt-leb 1 node none)))
      (λ (some : 1 ≤ node).
      ⊎_elim
      (λ (past : k < node).
      not_among_run k 1 suc (λ i. omega arith) (λ i low e. omega arith)
      ∙ sym (ap (λ b. cond (b && leb node k) 1 0) (le-leb 1 node some) ∙ ap (λ b. cond b 1 0) (lt-leb node k past)))
      (λ (within : node ≤ k).
      among_run k 1 suc (λ i. omega arith) some (omega arith)
      ∙ sym (ap (λ b. cond (b && leb node k) 1 0) (le-leb 1 node some) ∙ ap (λ b. cond b 1 0) (le-leb node k within))) (cases_lt k node)) (cases_lt node 1)

-- A sum of nothing.
sum_nothing : (k : ℕ) → sum_below k (λ j. 0) ≡ 0
sum_nothing zero = refl
sum_nothing (suc k) = let rest = sum_nothing k in omega arith

-- At boot the nodes from 1 to N are found once and no other is found.
pub new_nodes : (sizes : Sizes) (node : ℕ) → 1 ≤ sizes.cpus → found sizes (new_ledger sizes) node ≡ cond (leb 1 node && leb node sizes.nodes) 1 0
new_nodes sizes node some =
    let nodes = tabulated sizes.nodes suc in
    let lists = sum_changed sizes.cpus (λ c. 0) (λ c. among node (updated (λ cpu. []) 0 nodes c)) 0 some (λ c other. ap (among node) (updated_else (λ cpu. []) 0 nodes c other)) in
    let first : among node (updated (λ cpu. []) 0 nodes 0) ≡ among node nodes = ap (among node) (updated_here (λ cpu. []) 0 nodes) in
    let no_list = sum_nothing sizes.cpus in
    let no_hand = sum_nothing sizes.threads in
    let all : found sizes (new_ledger sizes) node ≡ among node nodes = omega arith in
    all ∙ among_from_one node sizes.nodes

-- A node in a thread's hand or on a CPU's list is found, and one that is found at most once is in no second place.
module _ (sizes : Sizes) (l : Ledger) where
  held_node : (thread node : ℕ) → l.hands thread ≡ Some node → in_hand node (l.hands thread) ≡ 1
  held_node thread node holds = ap (in_hand node) holds ∙ counts_once node node refl

  hands_have : (thread node : ℕ) → thread < sizes.threads → in_hand node (l.hands thread) ≤ sum_below sizes.threads (λ t. in_hand node (l.hands t))
  hands_have thread node a_thread = sum_has sizes.threads (λ t. in_hand node (l.hands t)) thread a_thread

  lists_have : (cpu node : ℕ) → cpu < sizes.cpus → among node (l.lists cpu) ≤ sum_below sizes.cpus (λ c. among node (l.lists c))
  lists_have cpu node a_cpu = sum_has sizes.cpus (λ c. among node (l.lists c)) cpu a_cpu

  pub hand_found : (thread node : ℕ) → thread < sizes.threads → l.hands thread ≡ Some node → 1 ≤ found sizes l node
  hand_found thread node a_thread holds = omega (arith, held_node thread node holds, hands_have thread node a_thread)

  pub list_found : (cpu node : ℕ) → cpu < sizes.cpus → 0 < among node (l.lists cpu) → 1 ≤ found sizes l node
  list_found cpu node a_cpu listed = omega (arith, lists_have cpu node a_cpu)

  pub hand_not_listed : (thread cpu node : ℕ) → thread < sizes.threads → cpu < sizes.cpus → found sizes l node ≤ 1 → l.hands thread ≡ Some node → among node (l.lists cpu) ≡ 0
  hand_not_listed thread cpu node a_thread a_cpu once holds = omega (arith, held_node thread node holds, hands_have thread node a_thread, lists_have cpu node a_cpu)

  pub hands_apart : (one other node : ℕ) → one < sizes.threads → other < sizes.threads → (one ≡ other → ⊥) → found sizes l node ≤ 1 → l.hands one ≡ Some node → l.hands other ≡ Some node → ⊥
  hands_apart one other node a_thread another apart once holds too =
      omega (arith, held_node one node holds, held_node other node too, sum_has_two sizes.threads (λ t. in_hand node (l.hands t)) one other a_thread another apart)

-- A list is the same where the next words of its nodes are.
pub listed_same : (next later : List ℕ) (head : ℕ) (nodes : List ℕ) → ((node : ℕ) → 0 < among node nodes → get_or later node 0 ≡ get_or next node 0) → Listed next head nodes → Listed later head nodes
listed_same next later head [] same listed = listed
listed_same next later head (n ∷ nodes) same (some, is, rest) = (
  some,
  is,
  subst (λ h. Listed later h nodes) (sym (same n (omega (arith, counts_once n n refl)))) (listed_same next later (get_or next n 0) nodes (λ node here. same node (omega arith)) rest),
)
