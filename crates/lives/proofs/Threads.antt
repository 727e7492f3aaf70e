-- What becomes of a thread's stack: its top frame changes, goes, or gets another frame on top.
use Rattle.std.proofs.Common.{◌≡◌, ◌+◌, ◌-◌, ◌<◌, ◌≤◌, List, ◌∷◌, map, reverse, length, get_or, take, set, sym, ap, ◌∙◌, subst, ⊎_elim, arith, length-set, get_or-set_same}
use lib.Seq.{take-set-le}
use Rattle.std.proofs.lemmas.Bool.{cases_lt}
use Rattle.std.specs.List.{AllByRecursion}
use Rattle.image.specs.declared.fields.Sizes.{Sizes}
use Rattle.model.specs.declared.state.Operation.{Operation}
use Rattle.model.specs.declared.state.Frame.{Frame}
use Rattle.model.specs.declared.state.Thread.{Thread}
use Rattle.model.specs.declared.state.Image.{Image}
use Rattle.model.specs.State.{no_frame, top_frame, with_top, pushed, dropped}
use Rattle.model.specs.Ledger.{Waiting}
use Rattle.lives.proofs.Stacks.{Whole, frames_pushed, frames_top, frames_with_top}
use Rattle.lives.proofs.Midway.{Valid}
use Rattle.lives.proofs.Standing.{RestartPoint, ThreadStands}
use Rattle.lives.specs.Apart.{frames_of}

abbrev operation_in : Frame → Operation
operation_in frame = frame.operation

abbrev operation_waiting : Waiting → Operation
operation_waiting w = w.operation

-- Frames go by the array and the depth alone.
frames_as : (one other : Thread) → one.frames ≡ other.frames → one.depth ≡ other.depth → frames_of one ≡ frames_of other
frames_as one other f d = ap (λ n. reverse (take n one.frames)) d ∙ ap (λ fs. reverse (take other.depth fs)) f

-- The rest of a stack has what all of it has.
pub all_dropped : (P : Frame → Type 0) (thread : Thread) → Whole thread → AllByRecursion P (frames_of thread) → AllByRecursion P (frames_of (dropped thread))
all_dropped P thread whole all =
    ⊎_elim (λ (none : thread.depth < 1). subst (AllByRecursion P) (ap (λ n. reverse (take n thread.frames)) (omega arith)) all)
    (λ (some : 1 ≤ thread.depth). (subst (AllByRecursion P) (frames_top thread whole some) all).1) (cases_lt thread.depth 1)

pub all_top : (P : Frame → Type 0) (thread : Thread) → Whole thread → 0 < thread.depth → AllByRecursion P (frames_of thread) → P (top_frame thread)
all_top P thread whole some all = (subst (AllByRecursion P) (frames_top thread whole some) all).0

pub all_from_top : (P : Frame → Type 0) (thread : Thread) → Whole thread → 0 < thread.depth → P (top_frame thread) → AllByRecursion P (frames_of (dropped thread)) → AllByRecursion P (frames_of thread)
all_from_top P thread whole some top rest = subst (AllByRecursion P) (sym (frames_top thread whole some)) (top, rest)

-- The top frame becomes another.
pub record TopBecomes (thread : Thread) (frame : Frame) (later : Thread) : Type 0 where
  pub frames : later.frames ≡ (with_top thread frame).frames
  pub depth : later.depth ≡ thread.depth

module _ (thread later : Thread) (frame : Frame) (whole : Whole thread) (some : 0 < thread.depth) (becomes : TopBecomes thread frame later) where
  pub top_is : top_frame later ≡ frame
  top_is =
      ap (λ fs. get_or fs (later.depth - 1) no_frame) becomes.frames ∙ ap (λ d. get_or (with_top thread frame).frames (d - 1) no_frame) becomes.depth
      ∙ get_or-set_same thread.frames (thread.depth - 1) frame no_frame (omega (arith, whole.eight_places, whole.at_most_eight))

  pub topped_whole : Whole later
  topped_whole = record {
    eight_places = ap length becomes.frames ∙ length-set thread.frames (thread.depth - 1) frame ∙ whole.eight_places;
    at_most_eight = omega (arith, becomes.depth, whole.at_most_eight);
  }

  topped_frames : frames_of later ≡ frame ∷ frames_of (dropped thread)
  topped_frames = frames_as later (with_top thread frame) becomes.frames becomes.depth ∙ frames_with_top thread whole frame some

  topped_below : frames_of (dropped later) ≡ frames_of (dropped thread)
  topped_below =
      frames_as (dropped later) (dropped (with_top thread frame)) becomes.frames (ap (λ d. d - 1) becomes.depth)
      ∙ ap reverse (take-set-le (thread.depth - 1) thread.frames (thread.depth - 1) frame (omega arith))

  pub topped : (sizes : Sizes) (image : Image) (waiting : List Waiting) → frame.operation ≡ (top_frame thread).operation → ThreadStands sizes image waiting thread → ThreadStands sizes image waiting later
  topped sizes image waiting same stands =
      let all : frames_of thread ≡ top_frame thread ∷ frames_of (dropped thread) = frames_top thread whole some in
      let valid = subst (AllByRecursion (λ (f : Frame). Valid sizes f.operation)) all stands.valid in
      record {
        whole = topped_whole;
        waits = ap (map operation_in) topped_frames ∙ ap (λ o. o ∷ map operation_in (frames_of (dropped thread))) same ∙ sym (ap (map operation_in) all) ∙ stands.waits;
        valid = subst (AllByRecursion (λ (f : Frame). Valid sizes f.operation)) (sym topped_frames) (subst (Valid sizes) (sym same) valid.0, valid.1);
        below = subst (AllByRecursion (RestartPoint image)) (sym topped_below) stands.below;
      }

-- The top frame goes.
module _ (sizes : Sizes) (image : Image) (top : Waiting) (waiting : List Waiting) (thread later : Thread) (stands : ThreadStands sizes image (top ∷ waiting) thread) (some : 0 < thread.depth)
    (frames : later.frames ≡ thread.frames) (depth : later.depth ≡ thread.depth - 1) where
  dropped_frames : frames_of later ≡ frames_of (dropped thread)
  dropped_frames = frames_as later (dropped thread) frames depth

  dropped_is_whole : Whole later
  dropped_is_whole = record { eight_places = ap length frames ∙ stands.whole.eight_places; at_most_eight = omega (arith, depth, stands.whole.at_most_eight) }

  both_waits : operation_in (top_frame thread) ∷ map operation_in (frames_of (dropped thread)) ≡ operation_waiting top ∷ map operation_waiting waiting
  both_waits = sym (ap (map operation_in) (frames_top thread stands.whole some)) ∙ stands.waits

  pub top_waits : (top_frame thread).operation ≡ top.operation
  top_waits = cc both_waits

  pub dropped_restarts : AllByRecursion (RestartPoint image) (frames_of later)
  dropped_restarts = subst (AllByRecursion (RestartPoint image)) (sym dropped_frames) stands.below

  pub dropped_stands : ThreadStands sizes image waiting later
  dropped_stands = record {
    whole = dropped_is_whole;
    waits = let below : map operation_in (frames_of (dropped thread)) ≡ map operation_waiting waiting = cc both_waits in ap (map operation_in) dropped_frames ∙ below;
    valid = subst (AllByRecursion (λ (f : Frame). Valid sizes f.operation)) (sym dropped_frames) (all_dropped (λ (f : Frame). Valid sizes f.operation) thread stands.whole stands.valid);
    below = all_dropped (RestartPoint image) later dropped_is_whole dropped_restarts;
  }

-- A frame goes on top.
module _ (sizes : Sizes) (image : Image) (waiting : List Waiting) (thread : Thread) (frame : Frame) (stands : ThreadStands sizes image waiting thread) (room : thread.depth < 8) (all : AllByRecursion (RestartPoint image) (frames_of thread)) where
  pub pushed_whole : Whole (pushed thread frame)
  pushed_whole = record { eight_places = length-set thread.frames thread.depth frame ∙ stands.whole.eight_places; at_most_eight = omega arith }

  below_pushed : frames_of (dropped (pushed thread frame)) ≡ frames_of thread
  below_pushed =
      ap (λ n. reverse (take n (set thread.frames thread.depth frame))) {x = thread.depth + 1 - 1} {y = thread.depth} (omega arith)
      ∙ ap reverse (take-set-le thread.depth thread.frames thread.depth frame (omega arith))

  pub pushed_frames : frames_of (pushed thread frame) ≡ frame ∷ frames_of thread
  pushed_frames = frames_pushed thread stands.whole frame room

  pub pushed_stands : (top : Waiting) → frame.operation ≡ top.operation → Valid sizes frame.operation → ThreadStands sizes image (top ∷ waiting) (pushed thread frame)
  pushed_stands top same valid = record {
    whole = pushed_whole;
    waits = ap (map operation_in) pushed_frames ∙ ap (λ o. o ∷ map operation_in (frames_of thread)) same ∙ ap (λ os. operation_waiting top ∷ os) stands.waits;
    valid = subst (AllByRecursion (λ (f : Frame). Valid sizes f.operation)) (sym pushed_frames) (valid, stands.valid);
    below = subst (AllByRecursion (RestartPoint image)) (sym below_pushed) all;
  }
