-- A machine that has just booted: all that holds of every machine with a past holds of it.
use Rattle.std.proofs.Common.{◌≡◌, ℕ, zero, suc, ◌-◌, ◌<◌, ◌≤◌, true, cond, ◌&&◌, eqb, ltb, leb, ◌⊎◌, List, [], ◌∷◌, ◌++◌, map, length, get_or, Some, None, Ok, sym, refl, ap, ◌∙◌, subst, inl, inr, ⊎_elim, arith}
use lib.ListN.{get_or-replicate}
use lib.Seq.{take-append_seam}
use Rattle.std.proofs.lemmas.Bool.{agree_below_at, and_right, cond-false, eqb-true, ltb-true, ne_eqb, lt-leb, cases_eq, and_parts}
use Rattle.std.specs.List.{AllByRecursion}
use Rattle.words.specs.declared.Kind.{Kind}
use Rattle.words.specs.declared.Kind.TheVariants as kind
use Rattle.words.specs.declared.Word.{Word}
use Rattle.words.specs.declared.Word.TheVariants.{Enter, ReadCpu, LoadCounter, AddAmount, StoreCounter, NeedNode, NeedEmptyHand, LoadListHead, LinkNode, PushNode, NeedListed, LoadNext, PopNode, LoadTail, LoadRingHead, NeedRoom, StorePacket, AdvanceTail, NeedPacket, LoadPacket, AdvanceRingHead, Restart}
use Rattle.words.specs.Words.{code, kinds, kind_number, word_of}
use Rattle.image.proofs.Accepting.{split_all}
use Rattle.image.specs.declared.fields.Sizes.{Sizes}
use Rattle.image.specs.declared.layout.Section.{Section}
use Rattle.image.specs.Layout.{LiesAt, word_at, Inside, section_of, sections_of}
use Rattle.image.specs.Checks.{Check, image_checks}
use Rattle.image.specs.Accepted.{Routine, Acceptable, LaidOut}
use Rattle.image.proofs.Checking.{passed}
use Rattle.image.proofs.Accepting.{all_passed, acceptable}
use Rattle.image.proofs.Laying.{laid_out}
use Rattle.image.proofs.Lying.{lies_word}
use Rattle.exclusion.specs.declared.meaning.Notice.{Notice}
use Rattle.exclusion.specs.declared.meaning.Notice.TheVariants.{Left}
use Rattle.exclusion.specs.declared.meaning.Verdict.{Verdict}
use Rattle.exclusion.specs.Meaning.{Meaning, Possible, Shaped, ToldAll, no_section}
use Rattle.exclusion.specs.Parts.{section_at}
use Rattle.model.specs.declared.state.Operation.{Operation}
use Rattle.model.specs.declared.state.Cpu.{Cpu}
use Rattle.model.specs.declared.state.Image.{Image}
use Rattle.model.specs.declared.state.Core.{Core}
use Rattle.model.specs.State.{no_cpu, no_thread, new_cpu, new_thread, new_core, thread_at, cpu_at, kind_of_operation}
use Rattle.model.specs.Words.{decoded}
use Rattle.model.specs.Calls.{same_section, section_checks, image_of, Boots}
use Rattle.model.specs.Ledger.{new_ledger}
use Rattle.model.specs.Claims.{StructuresAgree, among, HasMeaning}
use Rattle.model.proofs.Booting.{each_cpu, new_agrees}
use Rattle.lives.proofs.Nodes.{new_nodes}
use Rattle.lives.proofs.Standing.{TextStands, RestartPoint, idle, ThreadStands, WithinLimits, Invariant}
use Rattle.lives.specs.Apart.{frames_of, section_of_operation, entry_of, word_here}

-- The number of a word stands for that word.
word_of_code : (w : Word) → word_of (code w) ≡ Some w
word_of_code Enter = refl
word_of_code ReadCpu = refl
word_of_code LoadCounter = refl
word_of_code AddAmount = refl
word_of_code StoreCounter = refl
word_of_code NeedNode = refl
word_of_code NeedEmptyHand = refl
word_of_code LoadListHead = refl
word_of_code LinkNode = refl
word_of_code PushNode = refl
word_of_code NeedListed = refl
word_of_code LoadNext = refl
word_of_code PopNode = refl
word_of_code LoadTail = refl
word_of_code LoadRingHead = refl
word_of_code NeedRoom = refl
word_of_code StorePacket = refl
word_of_code AdvanceTail = refl
word_of_code NeedPacket = refl
word_of_code LoadPacket = refl
word_of_code AdvanceRingHead = refl
word_of_code Restart = refl

-- The sections that a table tells, by their numbers.
module _ (table : List ℕ) where
  abbrev there : ℕ → Section
  there d = section_at (sections_of table) d

  -- The section with the number of a kind is that kind's, and with another number there is none.
  at_kind : (kind : Kind) → there (kind_number kind) ≡ section_of table kind
  at_kind kind.Add = refl
  at_kind kind.Push = refl
  at_kind kind.Pop = refl
  at_kind kind.Put = refl
  at_kind kind.Take = refl

  no_such_section : (d : ℕ) → 5 < d → there d ≡ no_section
  no_such_section d past = cond-false (leb 1 d && leb d 5) (get_or (sections_of table) (d - 1) no_section) no_section (and_right (leb 1 d) (leb d 5) (lt-leb d 5 past))

  -- What lies inside a section by its number lies inside the section of a kind.
  inside_kind : (d address : ℕ) → Inside (there d) address → (kind : Kind) × (d ≡ kind_number kind) × Inside (section_of table kind) address
  inside_kind zero address (low, high) = absurd (omega arith)
  inside_kind (suc zero) address h = (kind.Add, refl, h)
  inside_kind (suc (suc zero)) address h = (kind.Push, refl, h)
  inside_kind (suc (suc (suc zero))) address h = (kind.Pop, refl, h)
  inside_kind (suc (suc (suc (suc zero)))) address h = (kind.Put, refl, h)
  inside_kind (suc (suc (suc (suc (suc zero))))) address h = (kind.Take, refl, h)
  inside_kind (suc (suc (suc (suc (suc (suc d)))))) address h =
      let (low, high) = subst (λ s. Inside s address) (no_such_section (suc (suc (suc (suc (suc (suc d)))))) (omega arith)) h in
      absurd (omega arith)

-- The image of an accepted table and text stands as every machine's image does.
module _ (table text : List ℕ) where
  -- A word that lies in the text is read there by the machine, and its address is a possible one.
  reads : (address : ℕ) (w : Word) → LiesAt text address (code w) → word_here (image_of table text) address ≡ Some w
  reads address w l = ap (λ t. decoded (word_at t address)) (take-append_seam text _) ∙ ap decoded (lies_word text address (code w) l) ∙ word_of_code w

  module _ (laid : LaidOut table text) (few : length text ≤ 256) where
    possible : (address n : ℕ) → LiesAt text address n → Possible address
    possible address n (i, within, at, is) = (i, omega arith, at)

    routine : (operation : Operation) → Routine text (kind_of_operation operation) (section_of_operation (image_of table text) operation)
    routine operation = subst (Routine text (kind_of_operation operation)) (sym (at_kind table (kind_of_operation operation))) (laid.routines_stand (kind_of_operation operation))

    text_stands : TextStands (image_of table text)
    text_stands = record {
      apart = λ d e address h k.
          let one = inside_kind table d address h in
          let other = inside_kind table e address k in
          one.1 ∙ ap kind_number (laid.no_address_in_two_sections one.0 other.0 address one.2 other.2) ∙ sym other.1;
      entry_outside = λ operation d h.
          let other = inside_kind table d (entry_of (image_of table text) operation) h in
          laid.entries_in_no_section (kind_of_operation operation) other.0
          (subst (λ s. Inside (section_of table other.0) (s.start - 4)) (at_kind table (kind_of_operation operation)) other.2);
      abort_outside = λ operation d h.
          let other = inside_kind table d (section_of_operation (image_of table text) operation).abort h in
          laid.aborts_in_no_section (kind_of_operation operation) other.0
          (subst (λ s. Inside (section_of table other.0) s.abort) (at_kind table (kind_of_operation operation)) other.2);
      long_as_its_words = λ operation. (routine operation).long_as_its_words;
      entry_word = λ operation. reads _ Enter (routine operation).entry;
      section_word = λ operation i below. reads _ _ ((routine operation).words i below);
      abort_word = λ operation. reads _ Restart (routine operation).abort;
      entry_possible = λ operation. possible _ _ (routine operation).entry;
      section_possible = λ operation i below. possible _ _ ((routine operation).words i below);
      abort_possible = λ operation. possible _ _ (routine operation).abort;
      entry_before = λ operation. let at = (routine operation).entry.2 in omega arith;
    }

-- Lists of checks, one after the other.
abbrev Passes : Check → Type 0
Passes check = check.passes ≡ true

-- Sections that pass the comparison are the same.
same_by_test : (one other : Section) → same_section one other ≡ true → one ≡ other
same_by_test one other e =
    let p = and_parts (eqb one.start other.start) (eqb one.length other.length && eqb one.abort other.abort) e in
    let q = and_parts (eqb one.length other.length) (eqb one.abort other.abort) p.1 in
    let same : ◌≡◌ {A = Section} (record { start = one.start; length = one.length; abort = one.abort }) (record { start = other.start; length = other.length; abort = other.abort }) =
    cc (eqb-true one.start other.start p.0, eqb-true one.length other.length q.0, eqb-true one.abort other.abort q.1) in same

-- An exclusion that passes the comparison has the table's sections.
sections_agree : (m : Meaning) (table : List ℕ) → Shaped m → AllByRecursion Passes (section_checks m.section table kinds) → (d : ℕ) → m.section d ≡ section_at (sections_of table) d
sections_agree m table shaped all zero = shaped.five_sections 0 (inl refl)
sections_agree m table shaped all (suc zero) = same_by_test (m.section 1) (section_of table kind.Add) all.0
sections_agree m table shaped all (suc (suc zero)) = same_by_test (m.section 2) (section_of table kind.Push) all.1.0
sections_agree m table shaped all (suc (suc (suc zero))) = same_by_test (m.section 3) (section_of table kind.Pop) all.1.1.0
sections_agree m table shaped all (suc (suc (suc (suc zero)))) = same_by_test (m.section 4) (section_of table kind.Put) all.1.1.1.0
sections_agree m table shaped all (suc (suc (suc (suc (suc zero))))) = same_by_test (m.section 5) (section_of table kind.Take) all.1.1.1.1.0
sections_agree m table shaped all (suc (suc (suc (suc (suc (suc d)))))) =
    let past : 5 < suc (suc (suc (suc (suc (suc d))))) = omega arith in
    shaped.five_sections (suc (suc (suc (suc (suc (suc d)))))) (inr past) ∙ sym (no_such_section table (suc (suc (suc (suc (suc (suc d)))))) past)

-- CPUs 0 to 7.
abbrev eight : List ℕ
eight = 0 ∷ 1 ∷ 2 ∷ 3 ∷ 4 ∷ 5 ∷ 6 ∷ 7 ∷ []

among_eight : (c : ℕ) → c < 8 → 0 < among c eight
among_eight c below = ltb-true 0 (among c eight) (agree_below_at (λ n. ltb 0 (among n eight)) (λ n. true) 8 c refl below)

-- An exclusion that is told left for some CPUs keeps its sections, and has no patience for those CPUs.
module _ {E : Type 0} (meaning : E → Meaning) (told : E → Notice → E → Type 0) (answers : E → ℕ → ℕ → ℕ → Verdict → Type 0) (has : HasMeaning meaning told answers) where
  left_keeps_sections : (cpus : List ℕ) (e f : E) → ToldAll told e (map Left cpus) f → (d : ℕ) → (meaning f).section d ≡ (meaning e).section d
  left_keeps_sections [] e f same d = ap (λ x. (meaning x).section d) same
  left_keeps_sections (cpu ∷ cpus) e f (m, first, rest) d = left_keeps_sections cpus m f rest d ∙ (has.obeys e (Left cpu) m first).sections_stay d

  left_ends_patience : (cpus : List ℕ) (e f : E) → ToldAll told e (map Left cpus) f → (c : ℕ) → c < 8 → ((meaning e).patience c ≡ 0) ⊎ (0 < among c cpus) → (meaning f).patience c ≡ 0
  left_ends_patience [] e f same c below either = ap (λ x. (meaning x).patience c) same ∙ ⊎_elim (λ none. none) (λ some. absurd (omega arith)) either
  left_ends_patience (cpu ∷ cpus) e f (m, first, rest) c below either =
      let obeys = has.obeys e (Left cpu) m first in
      left_ends_patience cpus m f rest c below
      (⊎_elim (λ (same : c ≡ cpu). inl (ap (meaning m).patience same ∙ obeys.there (omega arith)))
      (λ (other : c ≡ cpu → ⊥).
      ⊎_elim (λ (none : (meaning e).patience c ≡ 0). inl (obeys.elsewhere c other ∙ none))
      (λ (some : 0 < among c (cpu ∷ cpus)).
      let not_first : ◌≡◌ {A = ℕ} (cond (eqb cpu c) 1 0) 0 = ap (λ b. cond b 1 0) (ne_eqb cpu c (λ e. other (sym e))) in
      inr (omega arith)) either) (cases_eq c cpu))

-- The parts of a new machine: eight new CPUs, and sixteen new threads.
module _ (sizes : Sizes) (image : Image) where
  abbrev new : Core
  new = new_core sizes image

  new_cpu_at : (P : Cpu → Type 0) (c : ℕ) → c < 8 → ((first : ℕ) → P (new_cpu first)) → P (cpu_at new c)
  new_cpu_at P zero below each_new = each_new _
  new_cpu_at P (suc c) below each_new = subst P (sym (get_or-replicate 7 c (new_cpu 0) no_cpu (omega arith))) (each_new 0)

  no_current : (c : ℕ) → (cpu_at new c).current ≡ None
  no_current c = each_cpu (λ (x : Cpu). x.current ≡ None) sizes image c (λ first. refl) refl

  -- All that holds of a new machine, with sizes within the limits, an image that stands, and an exclusion that has its
  -- sections and no patience.
  new_invariant : (m : Meaning) → WithinLimits sizes → TextStands image → ((d : ℕ) → m.section d ≡ section_at image.sections d) → ((c : ℕ) → c < 8 → m.patience c ≡ 0)
      → Invariant (new_ledger sizes) m new
  new_invariant m limits text sections patience =
      let agrees : StructuresAgree sizes (new_ledger sizes) new = new_agrees sizes image limits.nodes in
      let on_cpu : (c : ℕ) → c < sizes.cpus → c < 8 = λ c below. omega (arith, limits.cpus) in
      let in_threads : (t : ℕ) → t < sizes.threads → thread_at new t ≡ new_thread = λ t below. get_or-replicate 16 t new_thread no_thread (omega (arith, limits.threads)) in
      record {
        limits = limits;
        text = text;
        sections = sections;
        eight_cpus = refl;
        sixteen_threads = refl;
        next_words = refl;
        holds = λ c below. record {
          eight_counters = new_cpu_at (λ x. length x.counters ≡ 8) c (on_cpu c below) (λ first. refl);
          sixteen_slots = new_cpu_at (λ x. length x.slots ≡ 16) c (on_cpu c below) (λ first. refl);
          counts = λ counter few. agrees.counters c counter below few;
          listed = agrees.lists c below;
          ringed = let ring = agrees.rings c below in let at_0 = new_cpu_at (λ x. x.head ≡ 0) c (on_cpu c below) (λ first. refl) in record { at_most = ring.at_most; head_is_a_slot = omega (arith, at_0); slot = ring.slot; up_to_the_tail = ring.up_to_the_tail };
        };
        hands = agrees.hands;
        current = no_current;
        current_exists = λ c t some. cc;
        on_one_cpu = λ c other t some too. cc;
        threads = λ t below.
            subst (ThreadStands sizes image []) (sym (in_threads t below))
            (record { whole = record { eight_places = refl; at_most_eight = omega arith }; waits = refl; valid = tt; below = tt });
        nowhere_else = λ t beyond. refl;
        nodes = λ node. new_nodes sizes node limits.some_cpus;
        standing = λ c below. idle (no_current c) (patience c (on_cpu c below));
        off_cpu = λ t below nowhere. subst (λ thread. AllByRecursion (RestartPoint image) (frames_of thread)) (sym (in_threads t below)) tt;
      }

-- A boot that is accepted gives a new machine: its image was accepted, and the exclusion has its sections and no patience.
module _ {E : Type 0} (meaning : E → Meaning) (told : E → Notice → E → Type 0) (answers : E → ℕ → ℕ → ℕ → Verdict → Type 0) (has : HasMeaning meaning told answers) where
  module _ (sizes : Sizes) (signature : ℕ) (table text : List ℕ) (e : E) (m : Core × E) (boots : Boots told answers meaning sizes signature table text e (Ok m)) where
    abbrev checks : List Check
    checks = image_checks sizes table text signature ++ section_checks (meaning e).section table kinds

    booted_new : m.0 ≡ new_core sizes (image_of table text)
    booted_new = passed (new_core sizes (image_of table text)) m.0 checks (sym boots.0)

    checks_pass : AllByRecursion Passes (image_checks sizes table text signature) × AllByRecursion Passes (section_checks (meaning e).section table kinds)
    checks_pass = split_all (image_checks sizes table text signature) (section_checks (meaning e).section table kinds) (all_passed (new_core sizes (image_of table text)) m.0 checks (sym boots.0))

    accepted_image : Acceptable sizes table text signature
    accepted_image = acceptable sizes table text signature checks_pass.0

  pub booted_invariant : (sizes : Sizes) (signature : ℕ) (table text : List ℕ) (e : E) (m : Core × E) → Boots told answers meaning sizes signature table text e (Ok m) → Invariant (new_ledger sizes) (meaning m.1) m.0
  booted_invariant sizes signature table text e m boots =
      let image = accepted_image sizes signature table text e m boots in
      subst (Invariant (new_ledger sizes) (meaning m.1)) (sym (booted_new sizes signature table text e m boots))
      (new_invariant sizes (image_of table text) (meaning m.1)
      (record {
        some_cpus = image.one_to_eight_cpus.0;
        cpus = image.one_to_eight_cpus.1;
        threads = image.one_to_sixteen_threads.1;
        nodes = image.at_most_255_nodes;
        packets = image.one_to_fifteen_packets.1;
        counters = image.one_to_eight_counters.1;
      })
      (text_stands table text (laid_out sizes table text signature image) image.one_to_256_words.1)
      (λ d. left_keeps_sections meaning told answers has eight e m.1 boots.1 d ∙ sections_agree (meaning e) table (has.shaped e) (checks_pass sizes signature table text e m boots).1 d)
      (λ c below. left_ends_patience meaning told answers has eight e m.1 boots.1 c below (inr (among_eight c below))))

  pub booted_sizes : (sizes : Sizes) (signature : ℕ) (table text : List ℕ) (e : E) (m : Core × E) → Boots told answers meaning sizes signature table text e (Ok m) → m.0.sizes ≡ sizes
  booted_sizes sizes signature table text e m boots = ap (λ (core : Core). core.sizes) (booted_new sizes signature table text e m boots)
