-- What the tests on the text say: a word lies at an address, words lie one after the other, a routine stands.
use Rattle.std.proofs.Common.{◌≡◌, ℕ, zero, suc, ◌+◌, ◌-◌, ◌*◌, ◌/◌, ◌%◌, ◌<◌, ◌≤◌, Bool, true, false, cond, eqb, ltb, leb, List, [], ◌∷◌, length, get_or, Some, None, Option, refl, ap, ◌∙◌, subst, arith, ltb-true, lt-ltb, eq-eqb}
use Rattle.std.proofs.lemmas.Bool.{leb-true, le-leb, eqb-true, and_parts, and_from}
use Rattle.image.specs.declared.layout.Section.{Section}
use Rattle.words.specs.declared.Kind.{Kind}
use Rattle.words.specs.declared.Word.{Word}
use Rattle.words.specs.declared.Word.TheVariants.{Enter, Restart}
use Rattle.words.specs.Words.{code, section_words}
use Rattle.image.specs.Layout.{LiesAt, word_at, Inside, inside}
use Rattle.image.specs.Checks.{is_word, has_words, has_routine}
use Rattle.image.specs.Accepted.{Routine}

pub word_lies : (text : List ℕ) (address n : ℕ) → word_at text address ≡ Some n → LiesAt text address n
word_lies text address n e = first (leb 4096 address) refl e
  where
    i : ℕ
    i = (address - 4096) / 4

    third : 4096 ≤ address → address % 4 ≡ 0 → (t : Bool) → ltb i (length text) ≡ t → cond t (Some (get_or text i 0)) None ≡ Some n → LiesAt text address n
    third low even true p q = let same : n ≡ get_or text i 0 = cc in (i, ltb-true i (length text) p, omega arith, same)
    third low even false p q = cc

    second : 4096 ≤ address → (t : Bool) → eqb (address % 4) 0 ≡ t → cond t (cond (ltb i (length text)) (Some (get_or text i 0)) None) None ≡ Some n → LiesAt text address n
    second low true p q = third low (eqb-true (address % 4) 0 p) (ltb i (length text)) refl q
    second low false p q = cc

    first : (t : Bool) → leb 4096 address ≡ t → cond t (cond (eqb (address % 4) 0) (cond (ltb i (length text)) (Some (get_or text i 0)) None) None) None ≡ Some n → LiesAt text address n
    first true p q = second (leb-true 4096 address p) (eqb (address % 4) 0) refl q
    first false p q = cc

pub lies_word : (text : List ℕ) (address n : ℕ) → LiesAt text address n → word_at text address ≡ Some n
lies_word text address n (i, within, at, is) =
    let place : (address - 4096) / 4 ≡ i = omega arith in
    let low : leb 4096 address ≡ true = le-leb 4096 address (omega arith) in
    let even : eqb (address % 4) 0 ≡ true = eq-eqb (address % 4) 0 (omega arith) in
    rw (low, even, place, lt-ltb i (length text) within, is)

pub is_word_some : (o : Option ℕ) (n : ℕ) → is_word o n ≡ true → o ≡ Some n
is_word_some None n e = cc
is_word_some (Some m) n e = ap Some (eqb-true m n e)

pub lies : (text : List ℕ) (address n : ℕ) → is_word (word_at text address) n ≡ true → LiesAt text address n
lies text address n e = word_lies text address n (is_word_some (word_at text address) n e)

pub is_word_lying : (text : List ℕ) (address n : ℕ) → LiesAt text address n → is_word (word_at text address) n ≡ true
is_word_lying text address n l = ap (λ o. is_word o n) (lies_word text address n l) ∙ eq-eqb n n refl

-- Words one after the other.
abbrev AllLie : List ℕ → ℕ → List Word → Type 0
AllLie text address words = (i : ℕ) → i < length words → LiesAt text (address + 4 * i) (code (get_or words i Enter))

pub words_lie : (text : List ℕ) (address : ℕ) (words : List Word) → has_words text address words ≡ true → AllLie text address words
unfolding has_words
words_lie text address [] e i h = absurd (omega arith)
words_lie text address (w ∷ ws) e zero h =
    let p = and_parts (is_word (word_at text address) (code w)) (has_words text (address + 4) ws) e in
    let at : address ≡ address + 4 * 0 = omega arith in
    subst (λ a. LiesAt text a (code w)) at (lies text address (code w) p.0)
words_lie text address (w ∷ ws) e (suc i) h =
    let p = and_parts (is_word (word_at text address) (code w)) (has_words text (address + 4) ws) e in
    let at : address + 4 + 4 * i ≡ address + 4 * suc i = omega arith in
    subst (λ a. LiesAt text a (code (get_or ws i Enter))) at (words_lie text (address + 4) ws p.1 i (omega arith))

pub lying_words : (text : List ℕ) (address : ℕ) (words : List Word) → AllLie text address words → has_words text address words ≡ true
unfolding has_words
lying_words text address [] l = refl
lying_words text address (w ∷ ws) l =
    let at : address + 4 * 0 ≡ address = omega arith in
    and_from (is_word (word_at text address) (code w)) (has_words text (address + 4) ws)
    (is_word_lying text address (code w) (subst (λ a. LiesAt text a (code w)) at (l 0 (omega arith))))
    (lying_words text (address + 4) ws (λ i h. let next : address + 4 * suc i ≡ address + 4 + 4 * i = omega arith in subst (λ a. LiesAt text a (code (get_or ws i Enter))) next (l (suc i) (omega arith))))

pub routine_stands : (text : List ℕ) (kind : Kind) (section : Section) → has_routine text kind section ≡ true → Routine text kind section
unfolding has_routine
routine_stands text kind section e =
    let p = and_parts (eqb section.length (4 * length (section_words kind))) _ e in
    let q = and_parts (is_word (word_at text (section.start - 4)) (code Enter)) _ p.1 in
    let r = and_parts (has_words text section.start (section_words kind)) _ q.1 in
    record {
      long_as_its_words = eqb-true section.length (4 * length (section_words kind)) p.0;
      entry = lies text (section.start - 4) (code Enter) q.0;
      words = words_lie text section.start (section_words kind) r.0;
      abort = lies text section.abort (code Restart) r.1;
    }

pub standing_routine : (text : List ℕ) (kind : Kind) (section : Section) → Routine text kind section → has_routine text kind section ≡ true
unfolding has_routine
standing_routine text kind section r =
    and_from (eqb section.length (4 * length (section_words kind))) _ (eq-eqb section.length (4 * length (section_words kind)) r.long_as_its_words)
    (and_from (is_word (word_at text (section.start - 4)) (code Enter)) _ (is_word_lying text (section.start - 4) (code Enter) r.entry)
    (and_from (has_words text section.start (section_words kind)) _ (lying_words text section.start (section_words kind) r.words)
    (is_word_lying text section.abort (code Restart) r.abort)))

-- Inside a section.
pub is_inside : (section : Section) (address : ℕ) → inside section address ≡ true → Inside section address
is_inside section address e =
    let p = and_parts (leb section.start address) (ltb address (section.start + section.length)) e in
    (leb-true section.start address p.0, ltb-true address (section.start + section.length) p.1)

pub inside_is : (section : Section) (address : ℕ) → Inside section address → inside section address ≡ true
inside_is section address h =
    and_from (leb section.start address) (ltb address (section.start + section.length))
    (le-leb section.start address h.0) (lt-ltb address (section.start + section.length) h.1)
