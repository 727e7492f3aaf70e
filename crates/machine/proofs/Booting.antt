-- A new machine, and the checks of a boot.
use Rattle.std.proofs.Common.{◌≡◌, ℕ, zero, suc, ◌+◌, ◌-◌, ◌<◌, ◌≤◌, cond, ◌&&◌, ltb, leb, List, [], ◌∷◌, ◌++◌, length, get_or, take, drop, replicate, Ok, Err, unwrap_or, sym, refl, ap, ◌∙◌, subst, arith}
use Rattle.std.specs.Fn.{Called, Mut}
use Rattle.std.specs.Array.{IsFromFnResultFrom, IsFromFnResult}
use Rattle.std.proofs.lemmas.List.{drop-replicate, take_more}
use Rattle.std.proofs.lemmas.List.FromFn.{get_or-map-range_with_len}
use Rattle.faults.specs.declared.Fault.{Fault}
use Rattle.words.specs.Words.{kinds}
use Rattle.image.specs.declared.fields.Sizes.{Sizes}
use Rattle.image.specs.declared.layout.Section.{Section}
use Rattle.image.specs.Layout.{sections_of}
use Rattle.image.specs.Checks.{Check, all_pass, image_checks, checked_image}
use Rattle.image.specs.Accepted.{Acceptable}
use Rattle.image.proofs.Checking.{passed, passed_on, passed_for, stopped, failed_for}
use Rattle.exclusion.specs.declared.meaning.Notice.{Notice}
use Rattle.exclusion.specs.declared.meaning.Notice.TheVariants.{Left}
use Rattle.exclusion.specs.Meaning.{ToldAll}
use Rattle.model.specs.declared.state.Thread.{Thread}
use Rattle.model.specs.declared.state.Cpu.{Cpu}
use Rattle.model.specs.declared.state.Image.{Image}
use Rattle.model.specs.declared.state.Core.{Core}
use Rattle.model.specs.State.{no_thread, cpu_at, new_thread, new_cpu, new_core, tabulated}
use Rattle.model.specs.Calls.{section_checks, image_of, booted_core, all_left}
use Rattle.model.proofs.Booting.{each, each_cpu}
use Rattle.machine.specs.Sound.{Sound}

-- A list by a function of the index, from what each call of a closure gave.
tabulated_each : (ys : List ℕ) (h : ℕ → ℕ) (n : ℕ) → length ys ≡ n → ((i : ℕ) → i < n → get_or ys i 0 ≡ h i) → ys ≡ tabulated n h
tabulated_each [] h zero long each = refl
tabulated_each [] h (suc n) long each = absurd (omega arith)
tabulated_each (y ∷ ys) h zero long each = absurd (omega arith)
tabulated_each (y ∷ ys) h (suc n) long each =
    ap (λ x. x ∷ ys) (each 0 (omega arith)) ∙ ap (λ xs. h 0 ∷ xs) (tabulated_each ys (λ i. h (suc i)) n (omega arith) (λ i below. each (suc i) (omega arith)))

module _ {F : Type 0} (g : Mut F (ℕ × Unit {0}) ℕ) (h : ℕ → ℕ) where
  gave_from : (f : F) (ys : List ℕ) (i n : ℕ) → ((j y : ℕ) (q : F) → Called g f (j, tt) y q → (q ≡ f) × (y ≡ h j)) → IsFromFnResultFrom g f ys i n → (k : ℕ) → k < n → get_or ys (i + k) 0 ≡ h (i + k)
  gave_from f ys i zero calls gave k below = absurd (omega arith)
  gave_from f ys i (suc n) calls (q, y, here, called, gave) zero below =
      ap (λ k. get_or ys k 0) (let e : i + 0 ≡ i = omega arith in e) ∙ here.1 0 ∙ (calls i y q called).1 ∙ ap h (omega arith)
  gave_from f ys i (suc n) calls (q, y, here, called, gave) (suc k) below =
      let e : i + suc k ≡ i + 1 + k = omega arith in
      ap (λ m. get_or ys m 0) e
      ∙ gave_from f ys (i + 1) n calls (subst (λ p. IsFromFnResultFrom g p ys (i + 1) n) (calls i y q called).0 gave) k (omega arith)
      ∙ ap h (sym e)

  pub tabulated_from : (f : F) (ys : List ℕ) (n : ℕ) → ((j y : ℕ) (q : F) → Called g f (j, tt) y q → (q ≡ f) × (y ≡ h j)) → IsFromFnResult g f ys n → ys ≡ tabulated n h
  tabulated_from f ys n calls gave =
      tabulated_each ys h n gave.long (λ i below. let e : 0 + i ≡ i = omega arith in ap (λ m. get_or ys m 0) (sym e) ∙ gave_from f ys 0 n calls gave.each i below ∙ ap h e)

-- A machine of new parts is a new one.
pub of_new_parts : (sizes : Sizes) (image : Image) (first : ℕ) (one other : Cpu) (thread : Thread) (next : List ℕ) → first ≡ cond (ltb 0 sizes.nodes) 1 0 → one ≡ new_cpu first
    → other ≡ new_cpu 0 → thread ≡ new_thread → next ≡ tabulated 256 (λ node. cond (leb 1 node && ltb node sizes.nodes) (node + 1) 0)
    → ◌≡◌ {A = Core} (record { sizes = sizes; image = image; cpus = one ∷ replicate 7 other; threads = replicate 16 thread; next = next }) (new_core sizes image)
of_new_parts sizes image first one other thread next f p q t n =
    ap (λ (x : Cpu). record { sizes = sizes; image = image; cpus = x ∷ replicate 7 other; threads = replicate 16 thread; next = next }) (p ∙ ap new_cpu f)
    ∙ ap (λ (x : Cpu). record { sizes = sizes; image = image; cpus = new_cpu (cond (ltb 0 sizes.nodes) 1 0) ∷ replicate 7 x; threads = replicate 16 thread; next = next }) q
    ∙ ap (λ (x : Thread). record { sizes = sizes; image = image; cpus = new_cpu (cond (ltb 0 sizes.nodes) 1 0) ∷ replicate 7 (new_cpu 0); threads = replicate 16 x; next = next }) t
    ∙ ap (λ (x : List ℕ). record { sizes = sizes; image = image; cpus = new_cpu (cond (ltb 0 sizes.nodes) 1 0) ∷ replicate 7 (new_cpu 0); threads = replicate 16 new_thread; next = x }) n

-- A text that is copied over the front of zeros.
pub copied : (sections : List Section) (text words : List ℕ) → words ≡ text
    → ◌≡◌ {A = Image} (record { sections = sections; text = record { words = words ++ drop (length text) (replicate 256 0); count = length text } })
    (record { sections = sections; text = record { words = text ++ replicate (256 - length text) 0; count = length text } })
copied sections text words e =
    ap (λ (ws : List ℕ). record { sections = sections; text = record { words = ws ++ drop (length text) (replicate 256 0); count = length text } }) e
    ∙ ap (λ (ws : List ℕ). record { sections = sections; text = record { words = text ++ ws; count = length text } }) (drop-replicate (length text) 256 0)

-- Left for one CPU after another.
told_push : {S : Type 0} (told : S → Notice → S → Type 0) (e : S) (ns : List Notice) (m : S) (n : Notice) (f : S) → ToldAll told e ns m → told m n f → ToldAll told e (ns ++ (n ∷ [])) f
told_push told e [] m n f before last = (f, subst (λ x. told x n f) before last, refl)
told_push told e (k ∷ ks) m n f (next, first, rest) last = (next, first, told_push told next ks m n f rest last)

left_at : (cpu : ℕ) → cpu < 8 → get_or all_left cpu (Left 0) ≡ Left cpu
left_at cpu h = get_or-map-range_with_len Left 0 8 cpu cpu (Left 0) h (omega arith)

pub left_more : {S : Type 0} (told : S → Notice → S → Type 0) (e : S) (cpu : ℕ) (m f : S) → cpu < 8 → ToldAll told e (take cpu all_left) m → told m (Left cpu) f → ToldAll told e (take (cpu + 1) all_left) f
left_more told e cpu m f h before last =
    subst (λ xs. ToldAll told e xs f) (sym (take_more all_left cpu (Left 0) h ∙ ap (λ n. take cpu all_left ++ (n ∷ [])) (left_at cpu h))) (told_push told e (take cpu all_left) m (Left cpu) f before last)

-- A new machine within the limits is sound.
new_sound : (sizes : Sizes) (image : Image) → sizes.cpus ≤ 8 → sizes.threads ≤ 16 → image.text.count ≤ 256 → Sound (new_core sizes image)
new_sound sizes image cpus threads count = (cpus, threads, count, idle, λ t. each (λ (x : Thread). x.q < 8) new_thread no_thread 16 t (omega arith) (omega arith))
  where
    idle : (c : ℕ) → unwrap_or (cpu_at (new_core sizes image) c).current 0 < 16
    idle c = each_cpu (λ (x : Cpu). unwrap_or x.current 0 < 16) sizes image c (λ first. omega arith) (omega arith)

-- The checks of the image come first, and then those of the sections: refused by the first or the second, or booted.
module _ (sizes : Sizes) (table text : List ℕ) (signature : ℕ) where
  abbrev new : Core
  new = new_core sizes (image_of table text)

  abbrev first : List Check
  first = image_checks sizes table text signature

  module _ (sections : List Section) (image : Image) (core : Core) (checked : Ok sections ≡ checked_image sizes table text signature)
      (is : image ≡ record { sections = sections; text = record { words = text ++ replicate (256 - length text) 0; count = length text } }) (made : core ≡ new_core sizes image) where
    is_new : core ≡ new
    is_new =
        made ∙ ap (new_core sizes) (is ∙ ap (λ (ss : List Section). record { sections = ss; text = record { words = text ++ replicate (256 - length text) 0; count = length text } })
        (passed (sections_of table) sections first (sym checked)))

    pub booted : (section : ℕ → Section) → Ok tt ≡ all_pass (section_checks section table kinds) → Ok core ≡ booted_core sizes table text signature section
    booted section same =
        let second = section_checks section table kinds in
        ap Ok is_new ∙ sym (passed_on new (sections_of table) sections first second (sym checked) ∙ passed_for {Y = Unit {0}} new tt tt second (sym same))

    pub booted_sound : Acceptable sizes table text signature → Sound core
    booted_sound a = subst Sound (sym is_new) (new_sound sizes (image_of table text) a.one_to_eight_cpus.1 a.one_to_sixteen_threads.1 a.one_to_256_words.1)

  module _ (section : ℕ → Section) (fault : Fault) where
    abbrev second : List Check
    second = section_checks section table kinds

    pub refused_by_image : Err fault ≡ checked_image sizes table text signature → Err fault ≡ booted_core sizes table text signature section
    refused_by_image image = sym (stopped new (sections_of table) fault first second (sym image))

    pub refused_by_sections : (sections : List Section) → Ok sections ≡ checked_image sizes table text signature → Err fault ≡ all_pass second
        → Err fault ≡ booted_core sizes table text signature section
    refused_by_sections sections image other = sym (passed_on new (sections_of table) sections first second (sym image) ∙ failed_for new tt fault second (sym other))
