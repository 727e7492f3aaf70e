-- Words that stand one after the other in a text, met word by word.
use Rattle.std.proofs.Common.{◌≡◌, ℕ, ◌+◌, ◌*◌, ◌<◌, ◌≤◌, Bool, true, false, ◌&&◌, List, length, get_or, drop, ap, ap₂, ◌∙◌, arith}
use Rattle.std.proofs.lemmas.List.{drop_more, drop_all}
use Rattle.words.specs.declared.Word.{Word}
use Rattle.words.specs.declared.Word.TheVariants.{Enter}
use Rattle.words.specs.Words.{code}
use Rattle.image.specs.Layout.{word_at}
use Rattle.image.specs.Checks.{is_word, has_words}

module _ (text : List ℕ) (start i : ℕ) (words : List Word) where
  abbrev one_word : Bool
  one_word = is_word (word_at text (start + 4 * i)) (code (get_or words i Enter))

  met : (t : Bool) → i < length words → one_word ≡ t → has_words text (start + 4 * i) (drop i words) ≡ (t && has_words text (start + 4 * (i + 1)) (drop (i + 1) words))
  unfolding has_words
  met t h e =
      let next : start + 4 * i + 4 ≡ start + 4 * (i + 1) = omega arith in
      ap (has_words text (start + 4 * i)) (drop_more words i Enter h) ∙ ap₂ (λ b a. b && has_words text a (drop (i + 1) words)) e next

  pub next_word : i < length words → one_word ≡ true → has_words text (start + 4 * i) (drop i words) ≡ has_words text (start + 4 * (i + 1)) (drop (i + 1) words)
  next_word h e = met true h e

  pub wrong_word : i < length words → one_word ≡ false → has_words text (start + 4 * i) (drop i words) ≡ false
  wrong_word h e = met false h e

  pub no_more_words : length words ≤ i → has_words text (start + 4 * i) (drop i words) ≡ true
  unfolding has_words
  no_more_words h = ap (has_words text (start + 4 * i)) (drop_all i words h)
