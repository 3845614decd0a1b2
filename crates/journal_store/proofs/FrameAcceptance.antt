-- A frame is taken, or refused.
use Rattle.std.proofs.Common.{◌≡◌, ℕ, refl, sym, ap, subst, ◌∙◌, inl, inr, arith, drop, Bool, true, false, not, List, [], ◌∷◌, ◌++◌, flat_map, map, Option, Some, None, option_map, Result, Ok, Err, IfOk, OnOk, OnErr, IsTrue}
use Rattle.sqlite_trees.specs.declared.store.Store.{Ghosts}
use Rattle.sqlite_trees.specs.Tree.{Trees}
use Rattle.sqlite.specs.Held.{Held, state}
use Rattle.sqlite.specs.State.{State, HasCleanDisk, Survives}
use Rattle.sqlite.proofs.StateLemmas.{survives_then}
use Rattle.journal_model.specs.Notification.{Bytes, Text}
use Rattle.journal_model.specs.Event.{Event, Frame}
use Rattle.journal_model.specs.Journal.{ends_attempt, frame_of as frame_of_event, object_of, request_of_frame, version_of}
use Rattle.journal_model.specs.Attempt.{acknowledged, is_live}
use Rattle.journal_model.specs.Cause.{causes_of, those_that_hold, adding_tests, IsAccepted}
use Rattle.journal_model.specs.declared.cause.Cause.{Cause}
use Rattle.journal_model.specs.declared.cause.Cause.TheVariants.{FrameNotAccepted}
use Rattle.protocol_stream.specs.declared.frame.TheConstants.{HEADER_LEN}
use Rattle.protocol_types.specs.Version.{version_number}
use Rattle.protocol_stream.specs.Item.{Item, unknown, message, item_at}
use Rattle.store_frames.specs.FrameMeanings.{frame_of}
use Rattle.store_frames.specs.ReadFrames.{IsReadIn}
use Rattle.store_tables.specs.declared.row.Write.{Write}
use Rattle.store_tables.specs.declared.row.Write.TheVariants.{AddEntry, SetProgress}
use Rattle.store_tables.specs.Looks.{Lasts, OnlyAsks}
use Rattle.store_tables.specs.Records.{Holds, applied_all}
use Rattle.store_tables.specs.Steps.{Lands}
use Rattle.store_refusals.specs.declared.refusal.Refusal.{Refusal}
use Rattle.store_refusals.specs.declared.refusal.Refusal.TheVariants as refusal
use Rattle.store_refusals.specs.RefusalConditions.{refusal_of_first_cause, is_circumstance, IsRefused}
use Rattle.store_model.specs.Progress.{progress_of}
use Rattle.store_model.specs.Writes.{ids_of_frame, invocation_writes, rows_added, sleep_writes, state_writes, writes_of}
use Rattle.store_invocations.specs.Rows.{IsRowOf, IsStoreOf}
use Rattle.store_frames.specs.Answer.{IsFrame}
use Rattle.store_frames.specs.declared.frame.AttemptFrame.{AttemptFrame}
use Rattle.store_frames.specs.declared.frame.AttemptFrame.TheVariants as answers
use Rattle.store_steps.specs.declared.frame.FrameReply.{FrameReply}
use Rattle.store_steps.specs.declared.frame.PreparedFrame.{PreparedFrame}
use Rattle.store_steps.specs.PreparedFrames.{KnowsLive, IsReply, IsFrameTaken, TakesAttemptFrame, does_end, is_written, lies_in_frame}
use Rattle.store_steps.proofs.Live.{begun_open}
use Rattle.store_steps.proofs.Tests.{causes_left}
use Rattle.store_live.specs.declared.attempt.LiveAttempt.{LiveAttempt}
use Rattle.store_live.specs.Attempts.{Attempts, ByInvocation, attempt_of, IsNow, live_after_take}
use Rattle.store_live.specs.ChangedRoom.{AreAsBefore}
use Rattle.store_live_laws.specs.LiveAttempts.{Agrees, IsKeptLive, has_number}
use Rattle.store_live_laws.proofs.Steps.{recorded, ended}
use Rattle.store_live_laws.proofs.Tests.{live_is_open}
use Rattle.journal_store.specs.declared.step.SeenFrame.{SeenFrame}
use Rattle.journal_store.specs.declared.step.FirstSeen.TheVariants as firsts
use Rattle.store_calls.specs.AbstractStore.{Standing}
use Rattle.store_calls.specs.Frames.{IsNext, LeavesRefused, RefusesFrame, StepsAttempt, TakesNone, TakesOne, frame_in, rest_after}
use Rattle.store_calls.proofs.Landing.{taken}
use Rattle.store_calls.proofs.Live.{told_end}
use Rattle.store_calls.proofs.Taking.{same_stays}
use Rattle.journal_store.specs.StoreView.{Stored, stored}
use Rattle.journal_store.specs.Attempts.{IsNowNoted}
use Rattle.journal_store.specs.StoreStanding.{Stands, HasRow, IsStanding, Leads, KeepsStanding, KeepsAll, Endures, WaitsNow}
use Rattle.journal_store.specs.FrameAcceptance.{HasMessage, HasMessageOf, IsEndedBy, IsFirstOf, IsSeen, IsSeenOf, SettlesStep, after_noted, passed}
use Rattle.journal_store.specs.StoreTransaction.{WritesRows}
use Rattle.journal_store.specs.Causes.{TriesFrame}
use Rattle.journal_store.proofs.Causing.{AreTried}
use Rattle.journal_store.proofs.Lasting.{outlasts_now}
use Rattle.journal_store.proofs.Outcomes.{outcome_left}
use Rattle.journal_store.proofs.Rows.{keeps_event}
use Rattle.journal_store.proofs.Standing.{all_stored, landed, store_still, stands_noted, stands_still}
use Rattle.journal_store.proofs.Quiet.{live_here, stands_stopped, this_one}
use Rattle.journal_store.proofs.Waiting.{before_waits, noted_now_waits, same_waits, stopped_waits}
use Rattle.journal_store.proofs.Leading.{leaves, stays}

-- ---- the attempt that is left

-- the attempt whose first item was taken
abbrev attempt_left : Bool → Bytes → LiveAttempt → Option LiveAttempt
attempt_left true rest attempt = None
attempt_left false rest attempt = Some (record attempt { output = rest })

-- of the bytes that wait the events say nothing
other_output : (events : List Event) (id : Text) (attempt : LiveAttempt) (rest : Bytes) → Agrees events id (Some attempt) → Agrees events id (Some (record attempt { output = rest }))
other_output events id attempt rest agrees =
    record { number = agrees.number; version = agrees.version; input = agrees.input; closed = agrees.closed }

-- what is noted is so whatever waits of the output
noted_apart : (noted : Option ℕ) (attempt : LiveAttempt) (rest : Bytes) → record (after_noted noted attempt) { output = rest } ≡ after_noted noted (record attempt { output = rest })
noted_apart None attempt rest = refl
noted_apart (Some n) attempt rest = refl

agrees_left : (events : List Event) (id : Text) (number : ℕ) (frame : Frame) (reply : FrameReply) (noted : Option ℕ) (attempt : LiveAttempt) (rest : Bytes)
    → IsAccepted (Event.Move id number frame ∷ events) → noted ≡ acknowledged (version_of events id) id (Event.Move id number frame)
    → IsReply events id frame reply → Agrees events id (Some attempt) → (b : Bool) → does_end reply ≡ b
    → Agrees (Event.Move id number frame ∷ events) id (option_map (after_noted noted) (attempt_left b rest attempt))
agrees_left events id number frame reply noted attempt rest accepted told replied agrees true e =
    ended events id number frame (sym (told_end events id frame reply replied) ∙ e)
agrees_left events id number frame reply noted attempt rest accepted told replied agrees false e =
    by_frame frame (sym (told_end events id frame reply replied) ∙ e) accepted told
  where
    plain : (frame : Frame) → ends_attempt frame ≡ false → IsAccepted (Event.Move id number frame ∷ events) → noted ≡ None → acknowledged (version_of events id) id (Event.Move id number frame) ≡ None
        → Agrees (Event.Move id number frame ∷ events) id (Some (after_noted noted (record attempt { output = rest })))
    plain frame goes accepted none is =
        subst (λ (o : Option ℕ). Agrees (Event.Move id number frame ∷ events) id (Some (after_noted o (record attempt { output = rest })))) (sym none)
        (other_output (Event.Move id number frame ∷ events) id attempt rest
        (recorded events (Event.Move id number frame) id (Some attempt) accepted (ap not goes) is agrees))

    by_frame : (frame : Frame) → ends_attempt frame ≡ false → IsAccepted (Event.Move id number frame ∷ events) → noted ≡ acknowledged (version_of events id) id (Event.Move id number frame)
        → Agrees (Event.Move id number frame ∷ events) id (Some (after_noted noted (record attempt { output = rest })))
    by_frame (Frame.RunOutcome n value asks) goes accepted told =
        let event = Event.Move id number (Frame.RunOutcome n value asks) in
        subst (λ (left : LiveAttempt). Agrees (event ∷ events) id (Some left)) (noted_apart noted attempt rest)
        (other_output (event ∷ events) id (after_noted noted attempt) rest (outcome_left events id number n value asks noted attempt accepted told agrees))
    by_frame frame goes accepted told = plain frame goes accepted told refl

row_left : (events : List Event) (id : Text) (noted : Option ℕ) (attempt : LiveAttempt) (rest : Bytes) → HasRow events id (Some attempt) → (b : Bool) → HasRow events id (option_map (after_noted noted) (attempt_left b rest attempt))
row_left events id noted attempt rest has true = tt
row_left events id None attempt rest has false = has
row_left events id (Some n) attempt rest has false = has

passed_left : (b : Bool) (len : ℕ) (found : Option LiveAttempt) (attempt : LiveAttempt) → found ≡ Some attempt → passed b len found ≡ attempt_left b (drop len attempt.output) attempt
passed_left true len found attempt is = refl
passed_left false len found attempt is = ap (option_map (live_after_take len)) is

-- ---- refusals

-- a circumstance does not lie in the frame
not_in_frame : (why : Refusal) → IsTrue (is_circumstance why) → lies_in_frame why ≡ false
not_in_frame (refusal.StatementRefused cause) h = refl
not_in_frame refusal.OutOfMemory h = refl
not_in_frame _ h = cc

-- ---- a frame that was seen

-- what the events say of its attempt
pub is_live_here : (events : List Event) (id : Text) (number : ℕ) (attempt : LiveAttempt) (it : SeenFrame) → IsAccepted events → Agrees events id (Some attempt) → is_live events id number ≡ true → IsSeen attempt it
    → KnowsLive events id number it.facts
is_live_here events id number attempt it accepted agrees live seen = record {
  live = live;
  closed = seen.closed ∙ agrees.closed;
  handed = seen.handed ∙ agrees.input.handed;
  heard = seen.heard ∙ agrees.input.heard;
}

abbrev output_in : LiveAttempt → Bytes
output_in attempt = attempt.output

left_alike : (answer : Option ℕ) (b : Bool) (rest : Bytes) (attempt : LiveAttempt) → option_map output_in (option_map (after_noted answer) (attempt_left b rest attempt)) ≡ rest_after b rest
left_alike answer true rest attempt = refl
left_alike None false rest attempt = refl
left_alike (Some answered) false rest attempt = refl

module _ {S : Type 0} (g : Ghosts S) (old new : Stored S) (s : Standing) (is : IsStanding g s old) (id : Text) (n : ℕ) (attempt : LiveAttempt) (item : Item) (rest : Bytes)
    (found : attempt_of old.live.attempts id ≡ Some attempt) (first : item_at attempt.output ≡ Some (item, rest)) where
  kept : IsKeptLive s.events id attempt
  kept = subst (Agrees s.events id) found (is.stands.live id)

  pub next_item : IsNext id s (frame_in (version_number attempt.version) item) rest
  next_item = record {
    output = attempt.output;
    waits = is.outputs id ∙ ap (option_map output_in) found;
    item = item;
    first = first;
    frame_is = ap (λ (version : ℕ). frame_in version item) kept.version;
  }

  refuses_first : (why : Refusal) → has_number n (attempt_of old.live.attempts id) ≡ true → IsRefused (causes_of s.events (Event.Move id n (frame_in (version_number attempt.version) item))) why
      → (b : Bool) → lies_in_frame why ≡ b → (t : Standing) → LeavesRefused b id n s t → RefusesFrame id n why s t
  refuses_first why here cause b lies t left = record {
    live = live_here s.events (state g old.connection) old.live.attempts id n is.stands ∙ here;
    frame = frame_in (version_number attempt.version) item;
    rest = rest;
    next = next_item;
    cause = cause;
    left = subst (λ (lies : Bool). LeavesRefused lies id n s t) (sym lies) left;
  }

  -- it is refused for a circumstance, and nothing was done but that room was made
  pub item_waits : (why : Refusal) → has_number n (attempt_of old.live.attempts id) ≡ true → IsRefused (causes_of s.events (Event.Move id n (frame_in (version_number attempt.version) item))) why
      → lies_in_frame why ≡ false → Stands s.events (state g new.connection) new.live.attempts → AreAsBefore old.live.attempts new.live.attempts
      → (t : Standing) × IsStanding g t new × RefusesFrame id n why s t
  item_waits why here cause lies still same =
      let it = stays g s old new is still (before_waits old.live.attempts new.live.attempts same) in (it.0, it.1, refuses_first why here cause false lies it.0 it.2)

  -- it is refused, and its attempt is over where the cause lies in it
  pub item_refused : (why : Refusal) → has_number n (attempt_of old.live.attempts id) ≡ true → IsRefused (causes_of s.events (Event.Move id n (frame_in (version_number attempt.version) item))) why
      → IsStoreOf s.events (state g new.connection) → (b : Bool) → lies_in_frame why ≡ b → IsEndedBy b id old.live.attempts new.live.attempts
      → (t : Standing) × IsStanding g t new × RefusesFrame id n why s t
  item_refused why here cause store true lies ends =
      let early : Stands s.events (state g new.connection) old.live.attempts = record { kept = store; live = is.stands.live; rows = is.stands.rows } in
      let did = stands_stopped s.events (state g new.connection) old.live.attempts new.live.attempts id n early here ends in
      let it = leaves g s old new is (Event.Stop id n) id None did.2 (stopped_waits id old.live.attempts new.live.attempts ends) in (it.0, it.1, refuses_first why here cause true lies it.0 it.2)
  item_refused why here cause store false lies ends =
      let still : Stands s.events (state g new.connection) new.live.attempts =
      record {
        kept = store;
        live = subst (λ (all : ByInvocation). (one : Text) → Agrees s.events one (attempt_of all one)) (sym ends) is.stands.live;
        rows = subst (λ (all : ByInvocation). (one : Text) → HasRow s.events one (attempt_of all one)) (sym ends) is.stands.rows;
      } in
      let it = stays g s old new is still (same_waits old.live.attempts new.live.attempts ends) in (it.0, it.1, refuses_first why here cause false lies it.0 it.2)

-- something is written of each frame of which that is told
some_written : (before : List Write) (write : Write) (behind : List Write) → ((before ++ write ∷ []) ++ []) ++ behind ≡ [] → ⊥
some_written [] write behind e = cc
some_written (first ∷ before) write behind e = cc

-- of an event that changes the invocation
not_unwritten : (events : List Event) (id : Text) (n : ℕ) (frame : Frame) → ids_of_frame id frame ≡ id ∷ [] → writes_of events (Event.Move id n frame) ≡ [] → ⊥
not_unwritten events id n frame one none =
    let event : Event = Event.Move id n frame in
    let behind : List Write = sleep_writes events event ++ state_writes (object_of events event) (request_of_frame (frame_of_event event)) in
    some_written (map AddEntry (rows_added events event id)) (SetProgress id (progress_of (event ∷ events) id)) behind
    (subst (λ (ids : List Text). flat_map (invocation_writes events event) ids ++ behind ≡ []) one none)

unwritten_frame : (events : List Event) (id : Text) (n : ℕ) (frame : Frame) (read : AttemptFrame) → IsFrame frame read → writes_of events (Event.Move id n frame) ≡ [] → is_written read ≡ false
unwritten_frame events id n (Frame.Command request) (answers.Command command) is none = absurd (not_unwritten events id n (Frame.Command request) refl none)
unwritten_frame events id n (Frame.RunOutcome m value asks) (answers.RunOutcome completion result acknowledges) is none = absurd (not_unwritten events id n (Frame.RunOutcome m value asks) refl none)
unwritten_frame events id n (Frame.Suspend (Some suspension)) (answers.Suspension payload) is none = absurd (not_unwritten events id n (Frame.Suspend (Some suspension)) refl none)
unwritten_frame events id n (Frame.Error code text behavior delay) (answers.Error told_code told_text told_behavior told_delay) is none =
    absurd (not_unwritten events id n (Frame.Error code text behavior delay) refl none)
unwritten_frame events id n Frame.End answers.End is none = absurd (not_unwritten events id n Frame.End refl none)
unwritten_frame events id n frame answers.AwaitingOn is none = refl
unwritten_frame events id n frame answers.Broken is none = refl
unwritten_frame events id n frame answers.TooDeep is none = refl
unwritten_frame events id n frame answers.NotAccepted is none = refl
unwritten_frame events id n frame read is none = absurd is

-- ---- a whole frame

-- it stands first of the live attempt with this number
pub record IsHere (n : ℕ) (it : SeenFrame) (live : Option LiveAttempt) : Type 0 where
  pub here : has_number n live ≡ true
  pub attempt : LiveAttempt
  pub found : live ≡ Some attempt
  pub seen : IsSeen attempt it

-- as it does in a store of these parts
pub is_here : {S : Type 0} (a : Held S) (before : Attempts) (old : Stored S) → stored a before ≡ old → (id : Text) (n : ℕ) (it : SeenFrame)
    → has_number n (attempt_of old.live.attempts id) ≡ true → IsSeenOf (attempt_of old.live.attempts id) it → IsHere n it (attempt_of before.attempts id)
is_here {S} a before old view id n it live seen =
    let here : has_number n (attempt_of before.attempts id) ≡ true = subst (λ (store : Stored S). has_number n (attempt_of store.live.attempts id) ≡ true) (sym view) live in
    let one = this_one n (attempt_of before.attempts id) here in
    record {
      here = here;
      attempt = one.attempt;
      found = one.is;
      seen = subst (λ (o : Option LiveAttempt). IsSeenOf o it) one.is (subst (λ (store : Stored S). IsSeenOf (attempt_of store.live.attempts id) it) (sym view) seen);
    }

module _ {S : Type 0} (g : Ghosts S) (a mid b : Held S) (before after : Attempts) (id : Text) (n : ℕ) (it : SeenFrame) (one : IsHere n it (attempt_of before.attempts id)) where
  abbrev frame : Frame
  frame = frame_of (version_number one.attempt.version) one.seen.message_is

  abbrev event : Event
  event = Event.Move id n frame

  abbrev left_of : Bytes
  left_of = drop it.len one.attempt.output

  -- a step that takes this frame, or is refused
  abbrev pub StepsBy : Result (Option FrameReply) Refusal → Standing → Standing → Type 0
  StepsBy result s t = StepsAttempt id n result s t × OnOk result (t.events ≡ event ∷ s.events)

  -- what the events say of its attempt
  live_of : (events : List Event) → Stands events (state g a) before.attempts → KnowsLive events id n it.facts
  live_of events stands =
      is_live_here events id n one.attempt it stands.kept.accepted (subst (Agrees events id) one.found (stands.live id)) (live_here events (state g a) before.attempts id n stands ∙ one.here) one.seen

  -- what was made ready of it, if anything was
  abbrev pub IsPrepared : Result PreparedFrame Refusal → Type 0
  IsPrepared result = HasCleanDisk (state g mid) → (events : List Event) → IsStoreOf events (state g a) → IsRowOf events id it.row → TakesAttemptFrame events id it.facts it.frame result

  -- it has the row of its invocation
  row_of : (events : List Event) → Stands events (state g a) before.attempts → IsRowOf events id it.row
  row_of events stands = subst (IsRowOf events id) (sym one.seen.row) (subst (HasRow events id) one.found (stands.rows id))

  -- the frame is that of a message of its invocation's version
  read_of : (events : List Event) → Stands events (state g a) before.attempts → IsReadIn events event
  read_of events stands = (one.seen.message_is, ap (λ (version : ℕ). frame_of version one.seen.message_is) (subst (Agrees events id) one.found (stands.live id)).version)

  ready_of : (made : PreparedFrame) → IsPrepared (Ok made) → HasCleanDisk (state g mid) → (events : List Event) → Stands events (state g a) before.attempts
      → (causes_of events event ≡ []) × IsFrameTaken events id n frame made
  ready_of made prepared clean events stands = prepared clean events stands.kept (row_of events stands) n frame (live_of events stands) (read_of events stands) one.seen.read

  -- what was made ready are the writes of this frame
  pub frame_tried : (made : PreparedFrame) → IsPrepared (Ok made) → AreTried g (TriesFrame id n) mid (stored a before) made.writes.items
  frame_tried made prepared clean s is =
      let next = next_item g (stored a before) (stored b after) s is id n one.attempt (message one.seen.message_is) left_of one.found one.seen.first in
      (event, (refl, (frame, left_of, next, refl)), (ready_of made prepared clean s.events is.stands).1.writes)

  -- it is refused, and with it its attempt where the cause lies in it
  pub seen_refused : (why : Refusal) → OnlyAsks g a mid → IsEndedBy (lies_in_frame why) id before.attempts after.attempts
      → IsPrepared (Err why)
      → Leads g (StepsAttempt id n (Err why)) (stored a before) (stored mid after)
  seen_refused why looks ends prepared clean s is =
      let it = item_refused g (stored a before) (stored mid after) s is id n one.attempt (message one.seen.message_is) left_of one.found one.seen.first why one.here (prepared clean s.events is.stands.kept (row_of s.events is.stands) n frame (live_of s.events is.stands) (read_of s.events is.stands) one.seen.read)
      (store_still s.events (state g a) (state g mid) (λ _. ⊥) looks.crash looks.kept is.stands.kept) (lies_in_frame why) refl ends in
      (it.0, it.1, inr it.2)

  -- what was made ready was written, and the frame is passed; or nothing was done
  pub seen_taken : (made : PreparedFrame) (result : Result (Option FrameReply) Refusal) → OnlyAsks g a mid → WritesRows g made.writes.items mid b result
      → IsPrepared (Ok made)
      → IfOk result (λ reply. reply ≡ Some made.reply)
      → OnOk result (IsNowNoted made.writes.items id (option_map (after_noted made.acknowledged) (passed (does_end made.reply) it.len (attempt_of before.attempts id))) before.attempts after.attempts)
      → OnErr result (AreAsBefore before.attempts after.attempts)
      → Leads g (StepsBy result) (stored a before) (stored b after)
  seen_taken made (Ok None) looks wrote prepared replied now same clean s is = cc
  seen_taken made (Ok (Some reply)) looks wrote prepared told now same clean s is =
      let replied : reply ≡ made.reply = cc in
      let early : HasCleanDisk (state g mid) = omega (arith, wrote.crash.clean, clean) in
      let ready = ready_of made prepared early s.events is.stands in
      let store = store_still s.events (state g a) (state g mid) (λ _. ⊥) looks.crash looks.kept is.stands.kept in
      let all = all_stored s.events event (state g mid) (state g b) (Lands made.writes.items (state g mid)) made.writes.items wrote.crash clean store (read_of s.events is.stands) ready.0 ready.1.writes
      (wrote.done clean) in
      let agrees : Agrees s.events id (Some one.attempt) = subst (Agrees s.events id) one.found (is.stands.live id) in
      let is_reply : IsReply s.events id frame reply = subst (IsReply s.events id frame) (sym replied) ready.1.reply in
      let left_live = option_map (after_noted made.acknowledged) (attempt_left (does_end reply) left_of one.attempt) in
      let is_now : IsNowNoted made.writes.items id left_live before.attempts after.attempts =
      subst (λ (o : Option LiveAttempt). IsNowNoted made.writes.items id (option_map (after_noted made.acknowledged) o) before.attempts after.attempts)
      (ap (λ (r : FrameReply). passed (does_end r) it.len (attempt_of before.attempts id)) (sym replied) ∙ passed_left (does_end reply) it.len (attempt_of before.attempts id) one.attempt one.found) now in
      let stood_after = stands_noted s.events event id left_live (state g b) before.attempts after.attempts made.writes.items refl refl all
      (keeps_event s.events event made.writes.items ready.0 ready.1.writes)
      (agrees_left s.events id n frame reply made.acknowledged one.attempt left_of all.accepted ready.1.acknowledged is_reply agrees (does_end reply) refl)
      (row_left s.events id made.acknowledged one.attempt left_of (subst (HasRow s.events id) one.found (is.stands.rows id)) (does_end reply)) is_now is.stands.live is.stands.rows in
      let waits = subst (λ (output : Option Bytes). WaitsNow id output before.attempts after.attempts) (left_alike made.acknowledged (does_end reply) left_of one.attempt)
      (noted_now_waits made.writes.items id left_live before.attempts after.attempts is_now) in
      let to = leaves g s (stored a before) (stored b after) is event id (rest_after (does_end reply) left_of) stood_after waits in (
        to.0,
        to.1,
        (
          record {
            frame = frame;
            rest = left_of;
            next = next_item g (stored a before) (stored b after) s is id n one.attempt (message one.seen.message_is) left_of one.found one.seen.first;
            replied = is_reply;
            leaves = to.2;
          },
          to.2.events,
        ),
      )
  seen_taken made (Err why) looks wrote prepared replied now same clean s is =
      let store = store_still s.events (state g a) (state g mid) (λ _. ⊥) looks.crash looks.kept is.stands.kept in
      let between : Stands s.events (state g mid) before.attempts = record { kept = store; live = is.stands.live; rows = is.stands.rows } in
      let it = item_waits g (stored a before) (stored b after) s is id n one.attempt (message one.seen.message_is) left_of one.found one.seen.first why one.here (inr wrote.why.circumstance) (not_in_frame why wrote.why.circumstance)
      (stands_still s.events (state g mid) (state g b) (Lands made.writes.items (state g mid)) before.attempts after.attempts wrote.crash wrote.undone same between) same in
      (it.0, it.1, (inr it.2, tt))

  pub steps_so : (result : Result (Option FrameReply) Refusal) → Leads g (StepsBy result) (stored a before) (stored b after) → Leads g (StepsAttempt id n result) (stored a before) (stored b after)
  steps_so result leads clean s is = let t = leads clean s is in (t.0, t.1, t.2.0)

  -- what was answered lasts
  pub seen_settled : (made : PreparedFrame) (result : Result (Option FrameReply) Refusal) → OnlyAsks g a mid → WritesRows g made.writes.items mid b result
      → (IsTrue (state g a).is_open → Lasts (state g a)) → (HasCleanDisk (state g mid) → is_written it.frame ≡ false → IsTrue (state g a).is_open)
      → IsPrepared (Ok made)
      → IfOk result (λ reply. reply ≡ Some made.reply) → Leads g (StepsBy result) (stored a before) (stored b after) → SettlesStep g id n result (stored a before) (stored b after)
  seen_settled made (Ok None) looks wrote idle asked prepared replied leads = cc
  seen_settled made (Err why) looks wrote idle asked prepared replied leads = tt
  seen_settled made (Ok (Some reply)) looks wrote idle asked prepared replied leads =
      λ clean s is.
      let t = leads clean s is in
      let early : HasCleanDisk (state g mid) = omega (arith, wrote.crash.clean, clean) in
      let first : HasCleanDisk (state g a) = omega (arith, looks.crash.clean, early) in
      let ready = ready_of made prepared early s.events is.stands in (
        t.0,
        t.1,
        t.2.0,
        elim (wrote.lasts clean) [
          | inl none ↦ λ trees may.
              let opened = asked early (unwritten_frame s.events id n frame it.frame one.seen.read (sym ready.1.writes ∙ none.0)) in
              let before_it : (state g a).may_leave trees =
              elim (looks.crash.crash early trees (subst (λ (held : Held S). (state g held).may_leave trees) none.1 may)) [ inl earlier ↦ earlier | inr never ↦ absurd never ] in
              let same : trees ≡ (state g a).now.trees = (idle opened).left trees before_it in
              subst (λ (events : List Event). KeepsAll events trees) (sym t.2.1)
              (landed s.events event (state g a) made.writes.items trees is.stands.kept (read_of s.events is.stands) first ready.0 ready.1.writes opened
              (λ records held. subst (λ (writes : List Write). Holds trees (applied_all writes records)) (sym none.0) (subst (λ (db : Trees). Holds db records) (sym same) held)))
          | inr all ↦ outlasts_now t.0.events (state g b) after.attempts clean t.1.stands all
        ],
      )

  -- where a crash comes
  pub seen_lands : (made : PreparedFrame) → OnlyAsks g a mid → Survives (state g mid) (state g b) (Lands made.writes.items (state g mid))
      → IsPrepared (Ok made)
      → Endures g (TakesOne id n) (stored a before) (stored b after)
  seen_lands made looks lives prepared =
      survives_then (state g a) (state g mid) (state g b) (λ _. ⊥) (Lands made.writes.items (state g mid)) (KeepsStanding g (TakesOne id n) (stored a before)) (λ _ db none. absurd none)
      (λ clean db lands s is.
      let early : HasCleanDisk (state g mid) = omega (arith, lives.clean, clean) in
      let ready = ready_of made prepared early s.events is.stands in
      let store = store_still s.events (state g a) (state g mid) (λ _. ⊥) looks.crash looks.kept is.stands.kept in
      let all = landed s.events event (state g mid) made.writes.items db store (read_of s.events is.stands) early ready.0 ready.1.writes lands.0 lands.1 in
      let next = next_item g (stored a before) (stored b after) s is id n one.attempt (message one.seen.message_is) left_of one.found one.seen.first in
      let to = taken s id n frame left_of made.reply next ready.1.reply ready.0 in
      (to.0, (made.reply, to.2), subst (λ (events : List Event). KeepsAll events db) (sym to.1) all))
      looks.crash lives

-- ---- items that are refused before they are read

-- an unknown header
unknown_causes : (events : List Event) (database : State) (attempts : ByInvocation) (id : Text) (number : ℕ) (attempt : LiveAttempt) → Stands events database attempts
    → attempt_of attempts id ≡ Some attempt → has_number number (attempt_of attempts id) ≡ true
    → causes_of events (Event.Move id number Frame.NotAccepted) ≡ FrameNotAccepted ∷ those_that_hold (adding_tests events id (Event.Move id number Frame.NotAccepted))
unknown_causes events database attempts id number attempt stands found here =
    let agrees : Agrees events id (Some attempt) = subst (Agrees events id) found (stands.live id) in
    let opened = live_is_open events id attempt stands.kept.accepted agrees in
    causes_left events id number Frame.NotAccepted (begun_open events id opened) opened (live_here events database attempts id number stands ∙ here)

module _ {S : Type 0} (g : Ghosts S) (tables : Held S) (before after : Attempts) (id : Text) (n : ℕ) (here : has_number n (attempt_of before.attempts id) ≡ true) where
  -- an unknown header that was seen
  pub header_refused : IsFirstOf (attempt_of before.attempts id) firsts.Unknown → IsNow id None before.attempts after.attempts
      → Leads g (StepsAttempt id n (Err (refusal.Cause Cause.FrameNotAccepted))) (stored tables before) (stored tables after)
  header_refused first now clean s is =
      let one = this_one n (attempt_of before.attempts id) here in
      let unknown_is = subst (λ (o : Option LiveAttempt). IsFirstOf o firsts.Unknown) one.is first in
      let it = item_refused g (stored tables before) (stored tables after) s is id n one.attempt (unknown unknown_is.0) (drop HEADER_LEN one.attempt.output) one.is unknown_is.1 (refusal.Cause Cause.FrameNotAccepted) here
      (inl (ap refusal_of_first_cause (unknown_causes s.events (state g tables) before.attempts id n one.attempt is.stands one.is here))) is.stands.kept true refl now in
      (it.0, it.1, inr it.2)

  -- no whole item waits
  pub none_waits : after ≡ before → IsFirstOf (attempt_of before.attempts id) firsts.Partial → Leads g (StepsAttempt id n (Ok None)) (stored tables before) (stored tables after)
  none_waits same first clean s is =
      let one = this_one n (attempt_of before.attempts id) here in
      subst (λ (live : Attempts). (t : Standing) × IsStanding g t (stored tables live) × TakesNone id n s t) (sym same) (
        s,
        is,
        record {
          live = live_here s.events (state g tables) before.attempts id n is.stands ∙ here;
          output = one.attempt.output;
          waits = is.outputs id ∙ ap (option_map output_in) one.is;
          none = partial one.attempt (subst (λ (o : Option LiveAttempt). IsFirstOf o firsts.Partial) one.is first);
          stays = same_stays s;
        },
      )
    where
      partial : (attempt : LiveAttempt) → IsFirstOf (Some attempt) firsts.Partial → item_at attempt.output ≡ None
      partial attempt none = none

  -- there is no memory to read one
  pub no_room : after ≡ before → HasMessageOf (attempt_of before.attempts id) → Leads g (StepsAttempt id n (Err refusal.OutOfMemory)) (stored tables before) (stored tables after)
  no_room same whole clean s is =
      let one = this_one n (attempt_of before.attempts id) here in
      let first : HasMessage one.attempt = subst HasMessageOf one.is whole in
      let it = item_refused g (stored tables before) (stored tables before) s is id n one.attempt (message first.0) first.1 one.is first.2 refusal.OutOfMemory here (inr refl) is.stands.kept false refl refl in
      subst (λ (live : Attempts). (t : Standing) × IsStanding g t (stored tables live) × StepsAttempt id n (Err refusal.OutOfMemory) s t) (sym same) (it.0, it.1, inr it.2)
