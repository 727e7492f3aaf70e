-- How the sections of an accepted image lie: word 2 stands only at a start, words 1 and 22 in no section, and the second
-- words of the sections differ.
use Rattle.std.proofs.Common.{◌≡◌, ℕ, zero, suc, ◌+◌, ◌-◌, ◌*◌, ◌<◌, ◌≤◌, Bool, true, cond, not, ◌&&◌, eqb, List, [], ◌∷◌, length, get_or, Ok, Err, Result, sym, refl, ap, ◌∙◌, subst, ⊎_elim, arith, eq-eqb}
use Rattle.std.proofs.lemmas.Bool.{and_parts, both_ways, not-true, cases_lt}
use Rattle.faults.specs.declared.Fault.{Fault}
use Rattle.image.specs.declared.fields.Sizes.{Sizes}
use Rattle.image.specs.declared.layout.Section.{Section}
use Rattle.words.specs.declared.Kind.{Kind}
use Rattle.words.specs.declared.Kind.TheVariants.{Add, Push, Pop, Put, Take}
use Rattle.words.specs.declared.Word.{Word}
use Rattle.words.specs.declared.Word.TheVariants.{Enter}
use Rattle.words.specs.Words.{code, section_words}
use Rattle.image.specs.Layout.{LiesAt, Inside, section_of, descriptor_of}
use Rattle.image.specs.Accepted.{Routine, Acceptable, AcceptedExactly, LaidOut, LaidOutIfAccepted}

-- The table of section words, by computing: whether words lack a number.
abbrev lacks : ℕ → List Word → Bool
lacks n [] = true
lacks n (w ∷ ws) = not (eqb (code w) n) && lacks n ws

lacking : (n : ℕ) (words : List Word) → lacks n words ≡ true → (j : ℕ) → j < length words → code (get_or words j Enter) ≡ n → ⊥
lacking n [] e j h p = absurd (omega arith)
lacking n (w ∷ ws) e zero h p =
    let q = and_parts (not (eqb (code w) n)) (lacks n ws) e in
    both_ways (eqb (code w) n) (not-true (eqb (code w) n) q.0) (eq-eqb (code w) n p)
lacking n (w ∷ ws) e (suc j) h p = lacking n ws (and_parts (not (eqb (code w) n)) (lacks n ws) e).1 j (omega arith) p

no_entry_word : (kind : Kind) → lacks 1 (section_words kind) ≡ true
no_entry_word Add = refl
no_entry_word Push = refl
no_entry_word Pop = refl
no_entry_word Put = refl
no_entry_word Take = refl

no_abort_word : (kind : Kind) → lacks 22 (section_words kind) ≡ true
no_abort_word Add = refl
no_abort_word Push = refl
no_abort_word Pop = refl
no_abort_word Put = refl
no_abort_word Take = refl

-- What every section begins with, and what follows.
pub record Begun (words : List Word) : Type 0 where
  pub two : 1 < length words
  pub first_reads_cpu : code (get_or words 0 Enter) ≡ 2
  pub only_first : (j : ℕ) → j < length words → code (get_or words j Enter) ≡ 2 → j ≡ 0

begun_by : (w : Word) (ws : List Word) → 0 < length ws → code w ≡ 2 → lacks 2 ws ≡ true → Begun (w ∷ ws)
begun_by w ws some e rest = record { two = omega arith; first_reads_cpu = e; only_first = only }
  where
    only : (j : ℕ) → j < length (w ∷ ws) → code (get_or (w ∷ ws) j Enter) ≡ 2 → j ≡ 0
    only zero h p = refl
    only (suc j) h p = absurd (lacking 2 ws rest j (omega arith) p)

pub begun : (kind : Kind) → Begun (section_words kind)
begun Add = begun_by _ _ (omega arith) refl refl
begun Push = begun_by _ _ (omega arith) refl refl
begun Pop = begun_by _ _ (omega arith) refl refl
begun Put = begun_by _ _ (omega arith) refl refl
begun Take = begun_by _ _ (omega arith) refl refl

abbrev second_word : Kind → ℕ
second_word kind = code (get_or (section_words kind) 1 Enter)

abbrev by_second_word : ℕ → Kind
by_second_word n = cond (eqb n 3) Add (cond (eqb n 6) Push (cond (eqb n 7) Pop (cond (eqb n 14) Put Take)))

known : (kind : Kind) → by_second_word (second_word kind) ≡ kind
known Add = refl
known Push = refl
known Pop = refl
known Put = refl
known Take = refl

-- One address holds one word.
two_words : (text : List ℕ) (address m n : ℕ) → LiesAt text address m → LiesAt text address n → m ≡ n
two_words text address m n (i, _, at, is) (j, _, at', is') =
    let same : i ≡ j = omega arith in
    is ∙ ap (λ k. get_or text k 0) same ∙ sym is'

-- A word that lies inside a section is one of its words.
pub record Placed (kind : Kind) (section : Section) (address n : ℕ) : Type 0 where
  pub index : ℕ
  pub below : index < length (section_words kind)
  pub place : address ≡ section.start + 4 * index
  pub word : n ≡ code (get_or (section_words kind) index Enter)

module _ (text : List ℕ) where
  placed : (kind : Kind) (section : Section) (address n : ℕ) → Routine text kind section → Inside section address → LiesAt text address n → Placed kind section address n
  placed kind section address n r (low, high) (i, within, at, is) =
      let first = r.words 0 (omega (arith, (begun kind).two)) in
      let k = first.0 in
      let start_at : section.start + 4 * 0 ≡ 4096 + 4 * k = first.2 in
      let long = r.long_as_its_words in
      let j : ℕ = i - k in
      let here : address ≡ section.start + 4 * (i - k) = omega arith in
      let inner : i - k < length (section_words kind) = omega arith in
      let lies = r.words (i - k) inner in
      record {
        index = i - k;
        below = inner;
        place = here;
        word = two_words text address n _ (i, within, at, is) (subst (λ a. LiesAt text a (code (get_or (section_words kind) (i - k) Enter))) (sym here) lies);
      }

  -- Of two sections that share an address, the one that starts later starts where the other does.
  same_start : (one other : Kind) (s t : Section) (address : ℕ) → Routine text one s → Routine text other t → Inside s address → Inside t address → s.start ≤ t.start → s.start ≡ t.start
  same_start one other s t address r q (low, high) (low', high') le =
      let two = begun other in
      let first = q.words 0 (omega (arith, two.two)) in
      let at : t.start + 4 * 0 ≡ t.start = omega arith in
      let begins : LiesAt text t.start 2 = subst (LiesAt text t.start) two.first_reads_cpu (subst (λ a. LiesAt text a (code (get_or (section_words other) 0 Enter))) at first) in
      let p = placed one s t.start 2 r (le, omega arith) begins in
      let zeroth = (begun one).only_first p.index p.below (sym p.word) in
      omega (arith, p.place, zeroth)

  same_kind : (one other : Kind) (s t : Section) → Routine text one s → Routine text other t → s.start ≡ t.start → one ≡ other
  same_kind one other s t r q e =
      let mine = r.words 1 (begun one).two in
      let theirs = q.words 1 (begun other).two in
      let there : t.start + 4 * 1 ≡ s.start + 4 * 1 = omega arith in
      let same = two_words text (s.start + 4 * 1) (second_word one) (second_word other) mine (subst (λ a. LiesAt text a (second_word other)) there theirs) in
      sym (known one) ∙ ap by_second_word same ∙ known other

  apart : (one other : Kind) (s t : Section) (address : ℕ) → Routine text one s → Routine text other t → Inside s address → Inside t address → one ≡ other
  apart one other s t address r q h k =
      ⊎_elim (λ lt. same_kind one other s t r q (same_start one other s t address r q h k (omega arith)))
      (λ le. sym (same_kind other one t s q r (same_start other one t s address q r k h le))) (cases_lt s.start t.start)

  -- A word that no section has lies in no section.
  lies_outside : (n : ℕ) → ((kind : Kind) → lacks n (section_words kind) ≡ true) → (kind : Kind) (section : Section) (address : ℕ) → Routine text kind section → LiesAt text address n → Inside section address → ⊥
  lies_outside n none kind section address r l h =
      let p = placed kind section address n r h l in
      lacking n (section_words kind) (none kind) p.index p.below (sym p.word)

pub laid_out : (sizes : Sizes) (table text : List ℕ) (signature : ℕ) → Acceptable sizes table text signature → LaidOut table text
unfolding descriptor_of
laid_out sizes table text signature a =
    let r : (kind : Kind) → Routine text kind (section_of table kind) = λ kind. (a.well_described kind).routine_stands in
    record {
      no_address_in_two_sections = λ one other address h k. apart text one other (section_of table one) (section_of table other) address (r one) (r other) h k;
      entries_in_no_section = λ one other h. lies_outside text 1 no_entry_word other (section_of table other) ((section_of table one).start - 4) (r other) (r one).entry h;
      aborts_in_no_section = λ one other h. lies_outside text 22 no_abort_word other (section_of table other) (section_of table one).abort (r other) (r one).abort h;
      routines_stand = r;
    }

pub laid_out_if_accepted : (sizes : Sizes) (table text : List ℕ) (signature : ℕ) (r : Result (List Section) Fault) → AcceptedExactly sizes table text signature r → LaidOutIfAccepted table text r
laid_out_if_accepted sizes table text signature (Ok sections) a = laid_out sizes table text signature a.0
laid_out_if_accepted sizes table text signature (Err fault) a = tt
