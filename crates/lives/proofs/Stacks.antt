-- A thread's stack as a list of frames, the top one first.
use Rattle.std.proofs.Common.{List, ◌++◌, map, refl, sym, ◌≡◌, ◌-◌, ◌<◌, ◌≤◌, [], ◌∷◌, reverse, length, take, set, ap, ◌∙◌, arith}
use Rattle.std.proofs.lemmas.List.{map-append, reverse-append, take_more, take_more_set}
use Rattle.model.specs.declared.state.Frame.{Frame}
use Rattle.model.specs.declared.state.Thread.{Thread}
use Rattle.model.specs.State.{no_frame, top_frame, with_top, pushed, dropped}
use Rattle.lives.specs.Apart.{frames_of}

-- A stack has eight places, and at most so many are taken.
pub record Whole (thread : Thread) : Type 0 where
  pub eight_places : length thread.frames ≡ 8
  pub at_most_eight : thread.depth ≤ 8

module _ (thread : Thread) (whole : Whole thread) where
  pub frames_pushed : (frame : Frame) → thread.depth < 8 → frames_of (pushed thread frame) ≡ frame ∷ frames_of thread
  frames_pushed frame room =
      ap reverse (take_more_set thread.frames thread.depth frame (omega (arith, whole.eight_places))) ∙ reverse-append (take thread.depth thread.frames) (frame ∷ [])

  pub frames_top : 0 < thread.depth → frames_of thread ≡ top_frame thread ∷ frames_of (dropped thread)
  frames_top some =
      ap (λ n. reverse (take n thread.frames)) (omega arith)
      ∙ ap reverse (take_more thread.frames (thread.depth - 1) no_frame (omega (arith, whole.eight_places, whole.at_most_eight)))
      ∙ reverse-append (take (thread.depth - 1) thread.frames) (top_frame thread ∷ [])

  pub frames_with_top : (frame : Frame) → 0 < thread.depth → frames_of (with_top thread frame) ≡ frame ∷ frames_of (dropped thread)
  frames_with_top frame some =
      ap (λ n. reverse (take n (set thread.frames (thread.depth - 1) frame))) (omega arith)
      ∙ ap reverse (take_more_set thread.frames (thread.depth - 1) frame (omega (arith, whole.eight_places, whole.at_most_eight)))
      ∙ reverse-append (take (thread.depth - 1) thread.frames) (frame ∷ [])

-- To change each item of a list and then turn the list round is to turn it round and then change each item.
pub mapped_backwards : {X Y : Type 0} (f : X → Y) (xs : List X) → reverse (map f xs) ≡ map f (reverse xs)
mapped_backwards f [] = refl
mapped_backwards f (x ∷ xs) =
    reverse-append (f x ∷ []) (map f xs) ∙ ap (λ l. l ++ f x ∷ []) (mapped_backwards f xs) ∙ sym (ap (map f) (reverse-append (x ∷ []) xs) ∙ map-append f (reverse xs) (x ∷ []))
