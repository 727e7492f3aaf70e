-- An image is accepted exactly if every rule holds, and else refused by the first rule that fails.
use Rattle.std.proofs.Common.{◌≡◌, ℕ, ◌+◌, ◌-◌, ◌^◌, ◌≤◌, Bool, true, false, cond, leb, List, [], ◌∷◌, ◌++◌, length, Ok, Err, Result, sym, refl, ap, ◌∙◌, subst, arith, ltb-true, lt-ltb, eq-eqb}
use Rattle.std.proofs.ByRecursion.{All-append}
use Rattle.std.proofs.lemmas.Bool.{leb-true, le-leb, eqb-true, and_parts, and_from, both_ways, not-true, not_from_false}
use Rattle.std.specs.List.{AllByRecursion}
use Rattle.faults.specs.declared.Fault.{Fault}
use Rattle.image.specs.declared.fields.Sizes.{Sizes}
use Rattle.image.specs.declared.layout.Descriptor.{Descriptor}
use Rattle.image.specs.declared.layout.Section.{Section}
use Rattle.words.specs.declared.Kind.{Kind}
use Rattle.words.specs.declared.Kind.TheVariants.{Add, Push, Pop, Put, Take}
use Rattle.words.specs.Words.{kinds}
use Rattle.image.specs.Layout.{Inside, inside, descriptor_of, sections_of}
use Rattle.image.specs.Checks.{Check, first_failing, between, size_checks, table_check, text_check, descriptor_checks, all_descriptor_checks, image_checks, checked_image}
use Rattle.image.specs.Accepted.{WellDescribed, Acceptable, AcceptedExactly, FirstOf, FirstThatFails}
use Rattle.image.proofs.Checking.{passed}
use Rattle.image.proofs.Lying.{lies, is_word_lying, routine_stands, standing_routine, is_inside, inside_is}

abbrev Passes : Check → Type 0
Passes check = check.passes ≡ true

-- The first that fails.
pub first_that_fails : {X : Type 0} (x : X) (checks : List Check) → FirstThatFails checks (first_failing x checks)
first_that_fails x [] = tt
first_that_fails {X} x (c ∷ cs) = go c.passes refl (first_failing x cs) (first_that_fails x cs)
  where
    go : (t : Bool) → c.passes ≡ t → (r : Result X Fault) → FirstThatFails cs r → FirstThatFails (c ∷ cs) (cond t r (Err c.fault))
    go true e (Ok y) all = (e, all)
    go true e (Err f) first = record {
      before = c ∷ first.before;
      failing = first.failing;
      after = first.after;
      in_order = ap (λ rest. c ∷ rest) first.in_order;
      all_before_pass = (e, first.all_before_pass);
      it_fails = first.it_fails;
      is_its_fault = first.is_its_fault;
    }
    go false e r all = record { before = []; failing = c; after = cs; in_order = refl; all_before_pass = tt; it_fails = e; is_its_fault = refl }

-- All pass exactly if what was asked for is the answer.
pub all_passed : {X : Type 0} (x y : X) (checks : List Check) → first_failing x checks ≡ Ok y → AllByRecursion Passes checks
all_passed x y checks e = subst (FirstThatFails checks) e (first_that_fails x checks)

pub passing : {X : Type 0} (x : X) (checks : List Check) → AllByRecursion Passes checks → first_failing x checks ≡ Ok x
passing x [] all = refl
passing x (c ∷ cs) all = ap (λ t. cond t (first_failing x cs) (Err c.fault)) all.0 ∙ passing x cs all.1

-- Lists of checks, one after the other.
pub split_all : (first second : List Check) → AllByRecursion Passes (first ++ second) → AllByRecursion Passes first × AllByRecursion Passes second
split_all [] second all = (tt, all)
split_all (c ∷ cs) second all = let rest = split_all cs second all.1 in ((all.0, rest.0), rest.1)

abbrev Described : List ℕ → List ℕ → ℕ → Kind → Type 0
Described table text signature kind = AllByRecursion Passes (descriptor_checks text signature kind (descriptor_of table kind))

split_descriptors : (table text : List ℕ) (signature : ℕ) (these : List Kind) → AllByRecursion Passes (all_descriptor_checks table text signature these) → AllByRecursion (Described table text signature) these
unfolding all_descriptor_checks
split_descriptors table text signature [] all = tt
split_descriptors table text signature (kind ∷ rest) all =
    let parts = split_all (descriptor_checks text signature kind (descriptor_of table kind)) (all_descriptor_checks table text signature rest) all in
    (parts.0, split_descriptors table text signature rest parts.1)

join_descriptors : (table text : List ℕ) (signature : ℕ) (these : List Kind) → AllByRecursion (Described table text signature) these → AllByRecursion Passes (all_descriptor_checks table text signature these)
unfolding all_descriptor_checks
join_descriptors table text signature [] all = tt
join_descriptors table text signature (kind ∷ rest) all =
    All-append Passes (descriptor_checks text signature kind (descriptor_of table kind)) (all_descriptor_checks table text signature rest) all.0
    (join_descriptors table text signature rest all.1)

every_kind : (P : Kind → Type 0) → AllByRecursion P kinds → (kind : Kind) → P kind
every_kind P all Add = all.0
every_kind P all Push = all.1.0
every_kind P all Pop = all.1.1.0
every_kind P all Put = all.1.1.1.0
every_kind P all Take = all.1.1.1.1.0

-- The rules by their tests.
pub between_parts : (low high n : ℕ) → between low high n ≡ true → (low ≤ n) × (n ≤ high)
between_parts low high n e = let p = and_parts (leb low n) (leb n high) e in (leb-true low n p.0, leb-true n high p.1)

pub between_from : (low high n : ℕ) → (low ≤ n) × (n ≤ high) → between low high n ≡ true
between_from low high n h = and_from (leb low n) (leb n high) (le-leb low n h.0) (le-leb n high h.1)

outside_from : (section : Section) (address : ℕ) → (Inside section address → ⊥) → inside section address ≡ false
outside_from section address out = go (inside section address) refl
  where
    go : (t : Bool) → inside section address ≡ t → inside section address ≡ false
    go true e = absurd (out (is_inside section address e))
    go false e = e

well_described : (text : List ℕ) (signature : ℕ) (kind : Kind) (d : Descriptor) → AllByRecursion Passes (descriptor_checks text signature kind d) → WellDescribed text signature kind d
well_described text signature kind d all = record {
  version_is_zero = eqb-true d.version 0 all.0;
  flags_are_zero = eqb-true d.flags 0 all.1.0;
  start_is_addressable = ltb-true d.section.start (2 ^ 32) all.1.1.0;
  end_is_addressable = ltb-true (d.section.start + d.section.length) (2 ^ 32) all.1.1.1.0;
  abort_is_addressable = ltb-true d.section.abort (2 ^ 32) all.1.1.1.1.0;
  abort_is_outside = λ h. both_ways (inside d.section d.section.abort) (not-true (inside d.section d.section.abort) all.1.1.1.1.1.0) (inside_is d.section d.section.abort h);
  abort_is_signed = lies text (d.section.abort - 4) signature all.1.1.1.1.1.1.0;
  routine_stands = routine_stands text kind d.section all.1.1.1.1.1.1.1.0;
}

descriptor_passes : (text : List ℕ) (signature : ℕ) (kind : Kind) (d : Descriptor) → WellDescribed text signature kind d → AllByRecursion Passes (descriptor_checks text signature kind d)
descriptor_passes text signature kind d w = (
  eq-eqb d.version 0 w.version_is_zero,
  (
    eq-eqb d.flags 0 w.flags_are_zero,
    (
      lt-ltb d.section.start (2 ^ 32) w.start_is_addressable,
      (
        lt-ltb (d.section.start + d.section.length) (2 ^ 32) w.end_is_addressable,
        (
          lt-ltb d.section.abort (2 ^ 32) w.abort_is_addressable,
          (
            not_from_false (inside d.section d.section.abort) (outside_from d.section d.section.abort w.abort_is_outside),
            (is_word_lying text (d.section.abort - 4) signature w.abort_is_signed, (standing_routine text kind d.section w.routine_stands, tt)),
          ),
        ),
      ),
    ),
  ),
)

module _ (sizes : Sizes) (table text : List ℕ) (signature : ℕ) where
  pub acceptable : AllByRecursion Passes (image_checks sizes table text signature) → Acceptable sizes table text signature
  acceptable all =
      let parts = split_all (size_checks sizes) (table_check (length table) ∷ text_check (length text) ∷ all_descriptor_checks table text signature kinds) all in
      let s = parts.0 in
      let descriptors = split_descriptors table text signature kinds parts.1.1.1 in
      record {
        one_to_eight_cpus = between_parts 1 8 sizes.cpus s.0;
        one_to_sixteen_threads = between_parts 1 16 sizes.threads s.1.0;
        at_most_255_nodes = (between_parts 0 255 sizes.nodes s.1.1.0).1;
        one_to_fifteen_packets = between_parts 1 15 sizes.packets s.1.1.1.0;
        one_to_eight_counters = between_parts 1 8 sizes.counters s.1.1.1.1.0;
        table_of_160_bytes = eqb-true (length table) 160 parts.1.0;
        one_to_256_words = between_parts 1 256 (length text) parts.1.1.0;
        well_described = λ kind. well_described text signature kind (descriptor_of table kind) (every_kind (Described table text signature) descriptors kind);
      }

  image_passes : Acceptable sizes table text signature → AllByRecursion Passes (image_checks sizes table text signature)
  image_passes a =
      let d : (kind : Kind) → Described table text signature kind = λ kind. descriptor_passes text signature kind (descriptor_of table kind) (a.well_described kind) in
      All-append Passes (size_checks sizes) (table_check (length table) ∷ text_check (length text) ∷ all_descriptor_checks table text signature kinds) (
        between_from 1 8 sizes.cpus a.one_to_eight_cpus,
        (
          between_from 1 16 sizes.threads a.one_to_sixteen_threads,
          (
            between_from 0 255 sizes.nodes (omega arith, a.at_most_255_nodes),
            (between_from 1 15 sizes.packets a.one_to_fifteen_packets, (between_from 1 8 sizes.counters a.one_to_eight_counters, tt)),
          ),
        ),
      ) (
        eq-eqb (length table) 160 a.table_of_160_bytes,
        (between_from 1 256 (length text) a.one_to_256_words, join_descriptors table text signature kinds (d Add, (d Push, (d Pop, (d Put, (d Take, tt)))))),
      )

  pub accepted_exactly : (r : Result (List Section) Fault) → r ≡ checked_image sizes table text signature → AcceptedExactly sizes table text signature r
  accepted_exactly (Ok sections) e =
      let all = all_passed (sections_of table) sections (image_checks sizes table text signature) (sym e) in
      (acceptable all, passed (sections_of table) sections (image_checks sizes table text signature) (sym e))
  accepted_exactly (Err fault) e = λ a. cc (passing (sections_of table) (image_checks sizes table text signature) (image_passes a))

  pub fails_first : (r : Result (List Section) Fault) → r ≡ checked_image sizes table text signature → FirstThatFails (image_checks sizes table text signature) r
  fails_first r e = rw e (first_that_fails (sections_of table) (image_checks sizes table text signature))

  pub fails_at : (fault : Fault) → Err fault ≡ checked_image sizes table text signature → FirstOf (image_checks sizes table text signature) fault
  fails_at fault e = fails_first (Err fault) e
