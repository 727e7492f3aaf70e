-- Checks that are tried one list after the other.
use Rattle.std.proofs.Common.{◌≡◌, ℕ, ◌+◌, ◌<◌, ◌≤◌, Bool, true, false, cond, List, [], ◌∷◌, ◌++◌, length, get_or, drop, Ok, Err, Result, sym, refl, ap, ◌∙◌, append-nil, eq-eqb}
use Rattle.std.proofs.lemmas.List.{drop_more, drop_all}
use Rattle.faults.specs.declared.Fault.{Fault}
use Rattle.image.specs.declared.layout.Section.{Section}
use Rattle.words.specs.declared.Kind.{Kind}
use Rattle.words.specs.declared.Kind.TheVariants.{Add}
use Rattle.image.specs.Layout.{descriptor_of, sections_of}
use Rattle.image.specs.declared.fields.Sizes.{Sizes}
use Rattle.words.specs.Words.{kinds}
use Rattle.image.specs.Checks.{Check, first_failing, all_pass, size_checks, table_check, text_check, descriptor_checks, all_descriptor_checks, checked_image}

-- Where the first list passes, the second decides.
pub passed_on : {X Y : Type 0} (x : X) (y : Y) (z : Y) (first second : List Check) → first_failing y first ≡ Ok z
    → first_failing x (first ++ second) ≡ first_failing x second
passed_on x y z [] second e = refl
passed_on {X} {Y} x y z (c ∷ cs) second e = go (passed_on x y z cs second) c.passes e
  where
    go : (first_failing y cs ≡ Ok z → first_failing x (cs ++ second) ≡ first_failing x second) → (t : Bool)
        → cond t (first_failing y cs) (Err c.fault) ≡ Ok z → cond t (first_failing x (cs ++ second)) (Err c.fault) ≡ first_failing x second
    go ih true h = ih h
    go ih false h = cc

-- Where the first list fails, its fault is the answer.
pub stopped : {X Y : Type 0} (x : X) (y : Y) (f : Fault) (first second : List Check) → first_failing y first ≡ Err f → first_failing x (first ++ second) ≡ Err f
stopped x y f [] second e = cc
stopped {X} {Y} x y f (c ∷ cs) second e = go (stopped x y f cs second) c.passes e
  where
    go : (first_failing y cs ≡ Err f → first_failing x (cs ++ second) ≡ Err f) → (t : Bool)
        → cond t (first_failing y cs) (Err c.fault) ≡ Err f → cond t (first_failing x (cs ++ second)) (Err c.fault) ≡ Err f
    go ih true h = ih h
    go ih false h = cc

-- What passes is what was asked for.
pub passed : {Y : Type 0} (y z : Y) (checks : List Check) → first_failing y checks ≡ Ok z → z ≡ y
passed y z [] e = cc
passed {Y} y z (c ∷ cs) e = go (passed y z cs) c.passes e
  where
    go : (first_failing y cs ≡ Ok z → z ≡ y) → (t : Bool) → cond t (first_failing y cs) (Err c.fault) ≡ Ok z → z ≡ y
    go ih true h = ih h
    go ih false h = cc

-- Checks pass or fail whatever is asked for.
pub passed_for : {X Y : Type 0} (x : X) (y z : Y) (checks : List Check) → first_failing y checks ≡ Ok z → first_failing x checks ≡ Ok x
passed_for x y z checks e = ap (first_failing x) (sym (append-nil checks)) ∙ passed_on x y z checks [] e

pub failed_for : {X Y : Type 0} (x : X) (y : Y) (f : Fault) (checks : List Check) → first_failing y checks ≡ Err f → first_failing x checks ≡ Err f
failed_for x y f checks e = ap (first_failing x) (sym (append-nil checks)) ∙ stopped x y f checks [] e

-- The descriptors one by one.
module _ (table text : List ℕ) (signature : ℕ) (these : List Kind) (i : ℕ) where
  abbrev one_descriptor : Result (Unit {0}) Fault
  one_descriptor =
      let kind = get_or these i Add in
      all_pass (descriptor_checks text signature kind (descriptor_of table kind))

  pub next_descriptor : i < length these → (u : Unit {0}) → Ok u ≡ one_descriptor
      → all_pass (all_descriptor_checks table text signature (drop i these)) ≡ all_pass (all_descriptor_checks table text signature (drop (i + 1) these))
  unfolding all_descriptor_checks
  next_descriptor h u e =
      let kind = get_or these i Add in
      ap (λ ks. all_pass (all_descriptor_checks table text signature ks)) (drop_more these i Add h)
      ∙ passed_on {X = Unit {0}} {Y = Unit {0}} tt tt u (descriptor_checks text signature kind (descriptor_of table kind)) (all_descriptor_checks table text signature (drop (i + 1) these)) (sym e)

  pub failed_descriptor : i < length these → (f : Fault) → Err f ≡ one_descriptor
      → all_pass (all_descriptor_checks table text signature (drop i these)) ≡ Err f
  unfolding all_descriptor_checks
  failed_descriptor h f e =
      let kind = get_or these i Add in
      ap (λ ks. all_pass (all_descriptor_checks table text signature ks)) (drop_more these i Add h)
      ∙ stopped {X = Unit {0}} {Y = Unit {0}} tt tt f (descriptor_checks text signature kind (descriptor_of table kind)) (all_descriptor_checks table text signature (drop (i + 1) these)) (sym e)

  pub no_more_descriptors : length these ≤ i → all_pass (all_descriptor_checks table text signature (drop i these)) ≡ Ok tt
  unfolding all_descriptor_checks
  no_more_descriptors h = ap (λ ks. all_pass (all_descriptor_checks table text signature ks)) (drop_all i these h)

-- Where sizes and lengths pass, the descriptors decide.
pub descriptors_decide : (sizes : Sizes) (table text : List ℕ) (signature : ℕ) (m : Unit {0}) (n : ℕ) → Ok m ≡ all_pass (size_checks sizes)
    → length table ≡ 160 → Ok n ≡ first_failing (length text) (text_check (length text) ∷ [])
    → checked_image sizes table text signature ≡ first_failing (sections_of table) (all_descriptor_checks table text signature kinds)
descriptors_decide sizes table text signature m n s t x =
    let rest = all_descriptor_checks table text signature kinds in
    passed_on (sections_of table) tt m (size_checks sizes) (table_check (length table) ∷ text_check (length text) ∷ rest) (sym s)
    ∙ ap (λ b. cond b (first_failing (sections_of table) (text_check (length text) ∷ rest)) (Err (table_check (length table)).fault)) (eq-eqb (length table) 160 t)
    ∙ passed_on (sections_of table) (length text) n (text_check (length text) ∷ []) rest (sym x)

pub accepted_image : (sizes : Sizes) (table text : List ℕ) (signature : ℕ) (m : Unit {0}) (n : ℕ) (these : List Kind) (u : Unit {0}) (sections : List Section)
    → Ok m ≡ all_pass (size_checks sizes) → length table ≡ 160 → Ok n ≡ first_failing (length text) (text_check (length text) ∷ [])
    → these ≡ kinds → Ok u ≡ all_pass (all_descriptor_checks table text signature these) → sections ≡ sections_of table
    → Ok sections ≡ checked_image sizes table text signature
accepted_image sizes table text signature m n these u sections s t x k d e =
    ap Ok e ∙ sym (passed_for (sections_of table) tt u (all_descriptor_checks table text signature kinds) (sym (d ∙ ap (λ ks. all_pass (all_descriptor_checks table text signature ks)) k)))
    ∙ sym (descriptors_decide sizes table text signature m n s t x)

pub refused_image : (sizes : Sizes) (table text : List ℕ) (signature : ℕ) (m : Unit {0}) (n : ℕ) (these : List Kind) (f : Fault)
    → Ok m ≡ all_pass (size_checks sizes) → length table ≡ 160 → Ok n ≡ first_failing (length text) (text_check (length text) ∷ [])
    → these ≡ kinds → Err f ≡ all_pass (all_descriptor_checks table text signature these)
    → Err f ≡ checked_image sizes table text signature
refused_image sizes table text signature m n these f s t x k d =
    sym (failed_for (sections_of table) tt f (all_descriptor_checks table text signature kinds) (sym (d ∙ ap (λ ks. all_pass (all_descriptor_checks table text signature ks)) k)))
    ∙ sym (descriptors_decide sizes table text signature m n s t x)
