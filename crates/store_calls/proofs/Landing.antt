-- What an event whose commit has landed makes of what a store stood for, also where no answer was given.
use Rattle.std.proofs.Common.{◌≡◌, refl, sym, ap, subst, ℕ, Bool, true, false, ◌&&◌, if◌then◌else◌, bytes_eq, [], ◌∷◌, Option, Some, None, is_some}
use Rattle.std.proofs.lemmas.Slice.Eq.{bytes_eq-Decides}
use Rattle.journal_model.specs.Notification.{Bytes, Text}
use Rattle.journal_model.specs.declared.invocation.NewInvocation.{NewInvocation}
use Rattle.journal_model.specs.Event.{Event, Frame}
use Rattle.journal_model.specs.Journal.{is_of, ends_attempt}
use Rattle.journal_model.specs.Attempt.{attempts_begun, live_attempt}
use Rattle.journal_model.specs.Cause.{causes_of}
use Rattle.store_steps.specs.declared.frame.FrameReply.{FrameReply}
use Rattle.store_steps.specs.PreparedFrames.{IsReply, does_end}
use Rattle.store_calls.specs.AbstractStore.{Standing, Adds, LeavesWaiting}
use Rattle.store_calls.specs.Frames.{IsNext, TakesFrame, rest_after}
use Rattle.store_calls.proofs.Live.{taken_live, told_end}

-- what waits, where this waits of one invocation
abbrev with_output : Text → Option Bytes → (Text → Option Bytes) → Text → Option Bytes
with_output id output outputs other = if bytes_eq id other then output else outputs other

own_output : (id : Text) (output : Option Bytes) (outputs : Text → Option Bytes) → with_output id output outputs id ≡ output
own_output id output outputs = ap (λ (b : Bool). if b then output else outputs id) ((bytes_eq-Decides id id).1 refl)

other_output : (id : Text) (output : Option Bytes) (outputs : Text → Option Bytes) (other : Text) → bytes_eq id other ≡ false → with_output id output outputs other ≡ outputs other
other_output id output outputs other apart = ap (λ (b : Bool). if b then output else outputs other) apart

-- ---- an attempt waits where it is live

still_live : (mine : Bool) (before : Option Bytes) (live : Option ℕ) → is_some before ≡ is_some live → is_some before ≡ is_some (if mine && false then None else live)
still_live true before live same = same
still_live false before live same = same

begun_live : (mine : Bool) (before : Option Bytes) (n : ℕ) (live : Option ℕ) → is_some before ≡ is_some live
    → is_some (if mine then Some [] else before) ≡ is_some (if mine then Some n else (if mine && false then None else live))
begun_live true before n live same = refl
begun_live false before n live same = same

taken_live_too : (mine ends : Bool) (rest : Bytes) (before : Option Bytes) (live : Option ℕ) → (mine ≡ true → is_some live ≡ true) → is_some before ≡ is_some live
    → is_some (if mine then rest_after ends rest else before) ≡ is_some (if mine && ends then None else live)
taken_live_too true true rest before live here same = refl
taken_live_too true false rest before live here same = sym (here refl)
taken_live_too false ends rest before live here same = same

module _ (s : Standing) where
  -- an invocation was made
  pub invoked : (one : NewInvocation) → causes_of s.events (Event.Invoke one) ≡ [] → (t : Standing) × Adds (Event.Invoke one) s t
  invoked one causes = (
    record {
      events = Event.Invoke one ∷ s.events;
      accepted = (causes, s.accepted);
      outputs = s.outputs;
      live = λ id. still_live (is_of id (Event.Invoke one)) (s.outputs id) (live_attempt s.events id) (s.live id);
    },
    record { events = refl; outputs = λ id. refl },
  )

  -- an attempt was begun
  pub begun : (id : Text) (now : ℕ) → causes_of s.events (Event.Begin id now) ≡ [] → (t : Standing) × LeavesWaiting (Event.Begin id now) id (Some []) s t
  begun id now causes = (
    record {
      events = Event.Begin id now ∷ s.events;
      accepted = (causes, s.accepted);
      outputs = with_output id (Some []) s.outputs;
      live = λ other. begun_live (bytes_eq id other) (s.outputs other) (attempts_begun (Event.Begin id now ∷ s.events) other) (live_attempt s.events other) (s.live other);
    },
    record { events = refl; own = own_output id (Some []) s.outputs; others = other_output id (Some []) s.outputs },
  )

  -- the first frame was taken
  pub taken : (id : Text) (n : ℕ) (frame : Frame) (rest : Bytes) (reply : FrameReply) → IsNext id s frame rest → IsReply s.events id frame reply → causes_of s.events (Event.Move id n frame) ≡ []
      → (t : Standing) × (t.events ≡ Event.Move id n frame ∷ s.events) × TakesFrame id n reply s t
  taken id n frame rest reply next replied causes = (
    record {
      events = Event.Move id n frame ∷ s.events;
      accepted = (causes, s.accepted);
      outputs = with_output id (rest_after (does_end reply) rest) s.outputs;
      live = λ other.
          subst (λ (b : Bool). is_some (with_output id (rest_after b rest) s.outputs other) ≡ is_some (live_attempt (Event.Move id n frame ∷ s.events) other))
          (sym (told_end s.events id frame reply replied))
          (taken_live_too (bytes_eq id other) (ends_attempt frame) rest (s.outputs other) (live_attempt s.events other)
          (λ mine. subst (λ (want : Text). is_some (live_attempt s.events want) ≡ true) ((bytes_eq-Decides id other).0 mine) (ap is_some (taken_live s.events id n frame causes)))
          (s.live other));
    },
    refl,
    record {
      frame = frame;
      rest = rest;
      next = next;
      replied = replied;
      leaves = record {
        events = refl;
        own = own_output id (rest_after (does_end reply) rest) s.outputs;
        others = other_output id (rest_after (does_end reply) rest) s.outputs;
      };
    },
  )
