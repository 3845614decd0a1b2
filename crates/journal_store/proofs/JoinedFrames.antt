-- Frames are made ready one behind another.
use Rattle.std.proofs.Common.{◌≡◌, ◌≢◌, ℕ, ◌+◌, ◌-◌, refl, sym, ap, ap₂, subst, ◌∙◌, inl, inr, arith, true≢false, drop, take, Bool, true, false, not, if◌then◌else◌, List, [], ◌∷◌, ◌++◌, append-nil, map, Option, Some, None, option_map, bytes_eq, drop-drop, length-drop, ◌<◌, ◌≤◌, length, Result, Ok, Err, IfOk, OnOk}
use Rattle.std.proofs.lemmas.List.{take_all}
use Rattle.std.proofs.lemmas.Slice.Eq.{bytes_eq-Decides}
use Rattle.sqlite_trees.specs.declared.store.Store.{Ghosts}
use Rattle.sqlite.specs.Held.{Held, state}
use Rattle.sqlite.specs.State.{HasCleanDisk}
use Rattle.sqlite.proofs.StateLemmas.{survives_then}
use Rattle.sqlite_keyed.proofs.ListLemmas.{all-append}
use Rattle.journal_model.specs.Notification.{Bytes, Text, Arrival}
use Rattle.journal_model.specs.Event.{Event, Frame}
use Rattle.journal_model.specs.State.{StateMap}
use Rattle.journal_model.specs.Journal.{Entry, Arrived, arrivals_in, ends_attempt, entries_of, entries_of_frame, recorded_arrivals, starting_state, version_of}
use Rattle.journal_model.specs.Attempt.{acknowledged, is_live}
use Rattle.journal_model.specs.Cause.{causes_of, IsAccepted}
use Rattle.input_laws.proofs.Events.{arrivals_now, itself}
use Rattle.protocol_types.specs.Version.{version_number}
use Rattle.protocol_stream.specs.Item.{Item, item_at, message}
use Rattle.protocol_stream.specs.declared.decoder.RawMessage.{RawMessage}
use Rattle.store_frames.specs.Answer.{IsFrame}
use Rattle.store_frames.specs.FrameMeanings.{frame_of}
use Rattle.store_frames.specs.ReadFrames.{AreRead, IsReadIn}
use Rattle.store_frames.specs.declared.frame.AttemptFrame.{AttemptFrame}
use Rattle.store_frames.specs.declared.frame.AttemptFrame.TheVariants as answers
use Rattle.store_tables.specs.Looks.{OnlyAsks}
use Rattle.store_tables.specs.Records.{applied_all}
use Rattle.store_tables.specs.declared.row.Write.{Write}
use Rattle.store_model.specs.KeptRecords.{IsKept}
use Rattle.store_model.specs.Writes.{ids_of_frame}
use Rattle.store_model.proofs.Writing.{applied-append}
use Rattle.store_invocations.specs.Rows.{IsRowOf}
use Rattle.store_steps.specs.declared.frame.FrameReply.{FrameReply}
use Rattle.store_steps.specs.declared.frame.PreparedFrame.{PreparedFrame}
use Rattle.store_steps.specs.JoinedFrames.{IsMadeBehind, can_join}
use Rattle.store_steps.specs.PreparedFrames.{IsFrameTaken, does_end}
use Rattle.store_steps.proofs.Joining.{joins_unread}
use Rattle.store_steps.proofs.LazyReads.{IsByRow, no_answer}
use Rattle.store_live.specs.declared.attempt.LiveAttempt.{LiveAttempt}
use Rattle.store_live.specs.Attempts.{ByInvocation, IsNow, attempt_of}
use Rattle.store_live_laws.specs.LiveAttempts.{Agrees, IsKeptLive}
use Rattle.store_live_laws.proofs.Steps.{ended, recorded}
use Rattle.store_calls.specs.AbstractStore.{Standing}
use Rattle.store_calls.specs.Frames.{IsNext, TakesEach, TakesFrame, frame_in, rest_after}
use Rattle.store_calls.proofs.Landing.{taken}
use Rattle.store_calls.proofs.Live.{told_end}
use Rattle.store_calls.proofs.Taking.{goes_on, none_behind, same_stays, takes_more}
use Rattle.std.specs.declared.alloc.AllocError.{AllocError}
use Rattle.journal_store.specs.declared.joined.JoinedFrames.{JoinedFrames}
use Rattle.journal_store.specs.declared.step.SeenFrame.{SeenFrame}
use Rattle.journal_store.specs.StoreView.{Stored}
use Rattle.journal_store.specs.StoreStanding.{HasRow, IsStanding, output_of}
use Rattle.journal_store.specs.FrameAcceptance.{IsSeen}
use Rattle.journal_store.specs.JoinedFrames.{AreOwn, AreReady, AreWritesOfFrames, IsInMemory, IsJoined, IsOwn, JoinsNext, JoinsSeen, LeadsOn, ahead, has_progress, left_ahead, other_writes, row_behind}
use Rattle.journal_store.proofs.FrameAcceptance.{is_live_here}
use Rattle.journal_store.proofs.JoinedWrites.{behind-append, frame_own, frame_progress, others-append, progress-behind, row_other, row_own}
use Rattle.journal_store.proofs.Lasting.{kept_then}
use Rattle.journal_store.proofs.Rows.{KeepsBy, keeps_event, row_follows, turned}
use Rattle.journal_store.proofs.Standing.{live_after, store_still, true_or_false}

abbrev output_in : LiveAttempt → Bytes
output_in attempt = attempt.output

only_some : {A : Type 0} (o : Option A) (x y : A) → o ≡ Some x → o ≡ Some y → x ≡ y
only_some o x y one other = cc

-- ---- what is seen in memory

-- attempts that are found alike
same_memory : (s : Standing) (old new : ByInvocation) → ((id : Text) → attempt_of new id ≡ attempt_of old id) → IsInMemory s old → IsInMemory s new
same_memory s old new same memory = record {
  live = λ id. subst (Agrees s.events id) (sym (same id)) (memory.live id);
  rows = λ id. subst (HasRow s.events id) (sym (same id)) (memory.rows id);
  outputs = λ id. memory.outputs id ∙ ap (option_map output_in) (sym (same id));
}

pub in_memory : {S : Type 0} (g : Ghosts S) (s : Standing) (store : Stored S) → IsStanding g s store → IsInMemory s store.live.attempts
in_memory g s store is = record { live = is.stands.live; rows = is.stands.rows; outputs = is.outputs }

-- a frame that was read behind others
pub seen_so : (frames : JoinedFrames) (attempt : LiveAttempt) (it : SeenFrame) (message_is : RawMessage) (shown : Bytes) → shown ≡ attempt.output
    → (it.len ≤ length (take (length shown - frames.len) (drop frames.len shown)))
    × (item_at (take (length shown - frames.len) (drop frames.len shown)) ≡ Some (message message_is, drop it.len (take (length shown - frames.len) (drop frames.len shown))))
    → IsFrame (frame_of (version_number attempt.version) message_is) it.frame → it.facts.handed ≡ attempt.input.handed → it.facts.heard ≡ attempt.input.heard → it.facts.is_input_closed ≡ attempt.is_input_closed
    → it.row ≡ frames.row → IsSeen (ahead frames attempt) it
seen_so frames attempt it message_is shown same first read handed heard closed row = record {
  message_is = message_is;
  first = whole.1;
  within = whole.0;
  read = read;
  handed = handed;
  heard = heard;
  closed = closed;
  row = row;
}
  where
    rest_is : take (length shown - frames.len) (drop frames.len shown) ≡ drop frames.len attempt.output
    rest_is = take_all (length shown - frames.len) (drop frames.len shown) (omega (arith, length-drop frames.len shown)) ∙ ap (λ (bytes : Bytes). drop frames.len bytes) same

    whole : (it.len ≤ length (drop frames.len attempt.output)) × (item_at (drop frames.len attempt.output) ≡ Some (message message_is, drop it.len (drop frames.len attempt.output)))
    whole = subst (λ (rest : Bytes). (it.len ≤ length rest) × (item_at rest ≡ Some (message message_is, drop it.len rest))) rest_is first

-- of one invocation another attempt is put before those that are live
put_own : (id : Text) (one : LiveAttempt) (before : ByInvocation) → IsNow id (Some one) before ((id, one) ∷ before)
put_own id one before = record {
  own = ap (λ (b : Bool). if b then Some one else attempt_of before id) (itself id);
  others = λ other apart. ap (λ (b : Bool). if b then Some one else attempt_of before other) (turned other id ∙ apart);
}

-- an attempt that is found as before
still_found : (id : Text) (found : Option LiveAttempt) (old new : ByInvocation) → attempt_of old id ≡ found → IsNow id found old new → (other : Text) → attempt_of new other ≡ attempt_of old other
still_found id found old new is now other = elim (true_or_false (bytes_eq id other)) [
  | inl same ↦ subst (λ (x : Text). attempt_of new x ≡ attempt_of old x) ((bytes_eq-Decides id other).0 same) (now.own ∙ sym is)
  | inr apart ↦ now.others other apart
]

-- ---- what a frame brings that joins others

-- no arrival
no_arrivals : (start : StateMap) (entries : List Entry) (frame : Frame) → IsByRow frame → arrivals_in (entries_of_frame start entries frame) ≡ []
no_arrivals start entries (Frame.Command request) by_row = ap (λ (answers : List Arrival). arrivals_in (map Arrived answers)) (no_answer _ request by_row)
no_arrivals start entries (Frame.RunOutcome n value asks) by_row = absurd by_row
no_arrivals start entries frame by_row = refl

none_if : (b : Bool) (entries : List Entry) → arrivals_in entries ≡ [] → arrivals_in (if b then entries else []) ≡ []
none_if true entries none = none
none_if false entries none = refl

arrivals_stay : (events : List Event) (id : Text) (n : ℕ) (frame : Frame) → IsByRow frame → recorded_arrivals (Event.Move id n frame ∷ events) id ≡ recorded_arrivals events id
arrivals_stay events id n frame by_row =
    arrivals_now (Event.Move id n frame) events id refl
    ∙ ap (λ (new : List Arrival). recorded_arrivals events id ++ new)
    (none_if _ (entries_of_frame (starting_state events id) (entries_of events id) frame) (no_arrivals (starting_state events id) (entries_of events id) frame by_row))
    ∙ append-nil (recorded_arrivals events id)

-- the invocation is changed
joins_changes : (id : Text) (frame : Frame) (read : AttemptFrame) → can_join read ≡ true → IsFrame frame read → ids_of_frame id frame ≡ id ∷ []
joins_changes id (Frame.AwaitingOn awaited) answers.AwaitingOn joins is = cc
joins_changes id Frame.Broken answers.Broken joins is = cc
joins_changes id Frame.TooDeep answers.TooDeep joins is = cc
joins_changes id Frame.NotAccepted answers.NotAccepted joins is = cc
joins_changes id (Frame.Command request) read joins is = refl
joins_changes id (Frame.RunOutcome n value asks) read joins is = refl
joins_changes id (Frame.Suspend suspension) read joins is = refl
joins_changes id (Frame.Error code text behavior delay) read joins is = refl
joins_changes id Frame.End read joins is = refl
joins_changes id _ _ joins is = absurd is

-- ---- one more frame

module _ (id : Text) (n : ℕ) (frames next : JoinedFrames) (attempt : LiveAttempt) (before : ByInvocation) (s t : Standing) (on : LeadsOn id n frames attempt before s t)
    (going : frames.does_end ≡ false) (seen : SeenFrame) (here : IsSeen (ahead frames attempt) seen) (made : PreparedFrame) (joined : IsJoined seen.len made frames next)
    (behind : IsRowOf t.events id seen.row → IsMadeBehind t.events id seen.facts seen.frame made) where
  abbrev now_ahead : LiveAttempt
  now_ahead = ahead frames attempt

  abbrev held : ByInvocation
  held = (id, now_ahead) ∷ before

  put : IsNow id (Some now_ahead) before held
  put = put_own id now_ahead before

  memory : IsInMemory t held
  memory = on.memory held (subst (λ (b : Bool). IsNow id (if b then None else Some now_ahead) before held) (sym going) put)

  agrees : IsKeptLive t.events id now_ahead
  agrees = subst (Agrees t.events id) put.own (memory.live id)

  row_of : IsRowOf t.events id frames.row
  row_of = subst (HasRow t.events id) put.own (memory.rows id)

  ready_made : IsMadeBehind t.events id seen.facts seen.frame made
  ready_made = behind (subst (IsRowOf t.events id) (sym here.row) row_of)

  abbrev frame : Frame
  frame = frame_of (version_number attempt.version) here.message_is

  abbrev event : Event
  event = Event.Move id n frame

  abbrev rest : Bytes
  rest = drop seen.len (drop frames.len attempt.output)

  read_of : IsReadIn t.events event
  read_of = (here.message_is, ap (λ (version : ℕ). frame_of version here.message_is) agrees.version)

  ready : (causes_of t.events event ≡ []) × IsFrameTaken t.events id n frame made
  ready = ready_made.taken n frame (is_live_here t.events id n now_ahead seen t.accepted agrees (on.live going) here) read_of here.read

  is_next : IsNext id t frame rest
  is_next = record {
    output = drop frames.len attempt.output;
    waits = memory.outputs id ∙ ap (option_map output_in) put.own;
    item = message here.message_is;
    first = here.first;
    frame_is = ap (λ (version : ℕ). frame_in version (message here.message_is)) agrees.version;
  }

  to : (u : Standing) × (u.events ≡ event ∷ t.events) × TakesFrame id n made.reply t u
  to = taken t id n frame rest made.reply is_next ready.1.reply ready.0

  rest_is : to.2.rest ≡ rest
  unfolding is_next
  rest_is =
      let output = only_some (t.outputs id) to.2.next.output (drop frames.len attempt.output) to.2.next.waits is_next.waits in
      ap (λ (pair : Item × Bytes). pair.1)
      (only_some (item_at (drop frames.len attempt.output)) (to.2.next.item, to.2.rest) (message here.message_is, rest) (subst (λ (bytes : Bytes). item_at bytes ≡ Some (to.2.next.item, to.2.rest)) output to.2.next.first) here.first)

  keeps : KeepsBy t.events event made.writes.items
  keeps = keeps_event t.events event made.writes.items ready.0 ready.1.writes

  accepted : IsAccepted (event ∷ t.events)
  accepted = (ready.0, t.accepted)

  own_made : AreOwn id made.writes.items
  own_made = subst (AreOwn id) (sym ready.1.writes) (frame_own t.events id n frame)

  ends_is : (b : Bool) → next.does_end ≡ b → ends_attempt frame ≡ b
  ends_is b e = sym (told_end t.events id frame made.reply ready.1.reply) ∙ sym joined.ends ∙ e

  unacknowledged : acknowledged (version_of t.events id) id event ≡ None
  unacknowledged = sym ready.1.acknowledged ∙ ready_made.acknowledged

  -- the attempt behind it
  agrees_next : (b : Bool) → next.does_end ≡ b → Agrees (event ∷ t.events) id (if b then None else Some (ahead next attempt))
  agrees_next true e = ended t.events id n frame (ends_is true e)
  agrees_next false e =
      let it : IsKeptLive (event ∷ t.events) id now_ahead = recorded t.events event id (Some now_ahead) accepted (ap not (ends_is false e)) unacknowledged agrees in
      record { number = it.number; version = it.version; input = it.input; closed = it.closed }

  row_next : (b : Bool) → HasRow (event ∷ t.events) id (if b then None else Some (ahead next attempt))
  row_next true = tt
  row_next false =
      subst (IsRowOf (event ∷ t.events) id) (row_own id made.writes.items frames.row own_made ∙ sym joined.row) (row_follows t.events event made.writes.items accepted keeps id frames.row row_of)

  row_apart : (other : Text) → bytes_eq id other ≡ false → (o : Option LiveAttempt) → HasRow t.events other o → HasRow (event ∷ t.events) other o
  row_apart other apart None has = tt
  row_apart other apart (Some one) has =
      subst (IsRowOf (event ∷ t.events) other) (row_other id other made.writes.items one.row apart own_made) (row_follows t.events event made.writes.items accepted keeps other one.row has)

  bytes_next : drop next.len attempt.output ≡ rest
  bytes_next = ap (λ (len : ℕ). drop len attempt.output) joined.len_is ∙ sym (drop-drop seen.len frames.len attempt.output)

  output_next : (b : Bool) → option_map output_in (if b then None else Some (ahead next attempt)) ≡ rest_after b rest
  output_next true = refl
  output_next false = ap (λ (bytes : Bytes). Some bytes) bytes_next

  own_rest : rest_after (does_end made.reply) to.2.rest ≡ option_map output_in (left_ahead next attempt)
  own_rest = ap₂ rest_after (sym joined.ends) rest_is ∙ sym (output_next next.does_end)

  module _ (after : ByInvocation) (now : IsNow id (left_ahead next attempt) before after) where
    apart_same : (other : Text) → bytes_eq id other ≡ false → attempt_of after other ≡ attempt_of held other
    apart_same other apart = now.others other apart ∙ sym (put.others other apart)

    over_held : IsNow id (left_ahead next attempt) held after
    over_held = record { own = now.own; others = apart_same }

    rows_next : (other : Text) → HasRow (event ∷ t.events) other (attempt_of after other)
    rows_next other = elim (true_or_false (bytes_eq id other)) [
      | inl same ↦ subst (λ (x : Text). HasRow (event ∷ t.events) x (attempt_of after x)) ((bytes_eq-Decides id other).0 same)
          (subst (HasRow (event ∷ t.events) id) (sym now.own) (row_next next.does_end))
      | inr apart ↦ subst (HasRow (event ∷ t.events) other) (sym (apart_same other apart)) (row_apart other apart (attempt_of held other) (memory.rows other))
    ]

    outputs_next : (other : Text) → to.0.outputs other ≡ output_of after other
    outputs_next other = elim (true_or_false (bytes_eq id other)) [
      | inl same ↦ subst (λ (x : Text). to.0.outputs x ≡ output_of after x) ((bytes_eq-Decides id other).0 same)
          (to.2.leaves.own ∙ own_rest ∙ sym (ap (option_map output_in) now.own))
      | inr apart ↦ to.2.leaves.others other apart ∙ memory.outputs other ∙ sym (ap (option_map output_in) (apart_same other apart))
    ]

    memory_next : IsInMemory to.0 after
    memory_next = record {
      live = λ other.
          subst (λ (events : List Event). Agrees events other (attempt_of after other)) (sym to.1)
          (live_after t.events event id (left_ahead next attempt) held after refl refl accepted (agrees_next next.does_end refl) over_held memory.live other);
      rows = λ other. subst (λ (events : List Event). HasRow events other (attempt_of after other)) (sym to.1) (rows_next other);
      outputs = outputs_next;
    }

  writes_next : AreWritesOfFrames id next attempt.row s.events to.0.events
  writes_next = record {
    all = on.writes.all ++ made.writes.items;
    own = all-append (IsOwn id) on.writes.all made.writes.items on.writes.own own_made;
    others = joined.writes ∙ ap (λ (ws : List Write). ws ++ other_writes made.writes.items) on.writes.others ∙ sym (others-append on.writes.all made.writes.items);
    row_is = joined.row ∙ ap (row_behind made.writes.items) on.writes.row_is ∙ sym (behind-append on.writes.all made.writes.items attempt.row);
    progressed = λ some.
        progress-behind on.writes.all made.writes.items
        (subst (λ (ws : List Write). has_progress ws ≡ true) (sym ready.1.writes) (frame_progress t.events id n frame (joins_changes id frame seen.frame ready_made.joins here.read)));
    kept = λ r kept.
        subst (λ (events : List Event). IsKept events (applied_all (on.writes.all ++ made.writes.items) r)) (sym to.1)
        (subst (IsKept (event ∷ t.events)) (sym (applied-append on.writes.all made.writes.items r)) (keeps.1 (applied_all on.writes.all r) t.accepted (on.writes.kept r kept)));
  }

  pub leads_further : (u : Standing) × LeadsOn id n next attempt before s u
  leads_further = (
    to.0,
    record {
      read = subst AreRead (sym to.1) (read_of, on.read);
      taken = subst (λ (all : List FrameReply). TakesEach id n all s to.0) (sym joined.replies) (takes_more id n frames.replies.items made.reply s t to.0 on.taken to.2);
      live = λ e. goes_on id n made.reply t to.0 to.2 (sym joined.ends ∙ e) (on.live going);
      over = λ e. none_behind id n made.reply t to.0 to.2 (sym joined.ends ∙ e);
      memory = memory_next;
      arrivals = ap (λ (events : List Event). recorded_arrivals events id) to.1 ∙ arrivals_stay t.events id n frame (joins_unread seen.frame ready_made.joins frame here.read) ∙ on.arrivals;
      writes = writes_next;
    },
  )

-- ---- none yet

pub leads_nowhere : (id : Text) (n : ℕ) (frames : JoinedFrames) (attempt : LiveAttempt) (before : ByInvocation) (s : Standing) → frames.len ≡ 0 → frames.writes.items ≡ [] → frames.row ≡ attempt.row
    → frames.replies.items ≡ [] → frames.does_end ≡ false → AreRead s.events → IsInMemory s before → attempt_of before id ≡ Some attempt → is_live s.events id n ≡ true → LeadsOn id n frames attempt before s s
leads_nowhere id n frames attempt before s none no_writes same_row no_replies going read memory found live = record {
  read = read;
  taken = subst (λ (all : List FrameReply). TakesEach id n all s s) (sym no_replies) (same_stays s);
  live = λ _. live;
  over = λ e. absurd (true≢false (sym e ∙ going));
  memory = λ after now. same_memory s before after (still_found id (left_ahead frames attempt) before after (found ∙ sym is_left) now) memory;
  arrivals = refl;
  writes = record { all = []; own = tt; others = no_writes; row_is = same_row; progressed = λ some. absurd (some no_replies); kept = λ r kept. kept };
}
  where
    is_left : left_ahead frames attempt ≡ Some attempt
    is_left =
        (λ i. if going i then None else Some (record attempt { output = drop (none i) attempt.output; row = same_row i }))

-- ---- as they are made ready

module _ {S : Type 0} (g : Ghosts S) (id : Text) (attempt : LiveAttempt) where
  pub none_ready : (frames : JoinedFrames) (tables : Held S) → frames.len ≡ 0 → frames.writes.items ≡ [] → frames.row ≡ attempt.row → frames.replies.items ≡ [] → frames.does_end ≡ false
      → AreReady g id frames attempt tables tables
  none_ready frames tables none no_writes same_row no_replies going clean n s before store memory found live =
      (s, leads_nowhere id n frames attempt before s none no_writes same_row no_replies going store.read memory found live)

  -- one more was
  pub further_ready : (frames next : JoinedFrames) (first mid new : Held S) → AreReady g id frames attempt first mid → OnlyAsks g first mid → OnlyAsks g mid new → JoinsNext g id attempt true frames next mid new
      → AreReady g id next attempt first new
  further_ready frames next first mid new ready before_it looks (seen, going, here, (made, joined, behind)) clean n s before store memory found live =
      let early : HasCleanDisk (state g mid) = omega (arith, looks.crash.clean, clean) in
      let to = ready early n s before store memory found live in
      leads_further id n frames next attempt before s to.0 to.1 going seen here made joined
      (λ of. behind clean s.events to.0.events (store_still s.events (state g first) (state g mid) (λ _. ⊥) before_it.crash before_it.kept store) to.0.accepted to.1.arrivals of)

  -- and where none was, they are as before
  pub same_ready : (frames next : JoinedFrames) (first mid new : Held S) → AreReady g id frames attempt first mid → OnlyAsks g mid new → next ≡ frames → AreReady g id next attempt first new
  same_ready frames next first mid new ready looks same clean n s before store memory found live =
      let early : HasCleanDisk (state g mid) = omega (arith, looks.crash.clean, clean) in
      let to = ready early n s before store memory found live in
      (to.0, subst (λ (all : JoinedFrames). LeadsOn id n all attempt before s to.0) (sym same) to.1)

-- what a look at the next frame comes to
module _ {S : Type 0} (g : Ghosts S) (id : Text) (attempt : LiveAttempt) (seen : SeenFrame) (old new : JoinedFrames) (tables after : Held S) (going : old.does_end ≡ false) (here : IsSeen (ahead old attempt) seen) where
  abbrev Joins : Result Bool AllocError → Type 0
  Joins result = IfOk result (λ joined. JoinsSeen g id seen joined old new tables after)

  pub next_joins : (result : Result Bool AllocError) → Joins result → IfOk result (λ joined. JoinsNext g id attempt joined old new tables after)
  next_joins (Ok true) it = (seen, going, here, it)
  next_joins (Ok false) it = it
  next_joins (Err refused) it = tt

  pub next_within : (result : Result Bool AllocError) → Joins result → old.len ≤ length attempt.output → OnOk result (new.len ≤ length attempt.output)
  next_within (Ok true) it le =
      let less : seen.len ≤ length (drop old.len attempt.output) = here.within in
      let cut = length-drop old.len attempt.output in
      omega (arith, it.1.len_is, le, less, cut)
  next_within (Ok false) it le = subst (λ (frames : JoinedFrames). frames.len ≤ length attempt.output) (sym it) le
  next_within (Err refused) it le = tt

  pub next_further : (result : Result Bool AllocError) → Joins result → 0 < seen.len → IfOk result (λ joined. joined ≡ true → old.len < new.len)
  next_further (Ok true) it some = λ _. omega (arith, it.1.len_is, some)
  next_further (Ok false) it some = λ e. cc
  next_further (Err refused) it some = tt

-- ---- the database is asked alone

pub asks_nothing : {S : Type 0} (g : Ghosts S) (a : Held S) → OnlyAsks g a a
asks_nothing g a = record {
  kept = λ clean is_open. (is_open, refl);
  crash = record { clean = omega arith; shield = λ it. it; counts = omega arith; limit = refl; closes = λ clean is_open. inl is_open; crash = λ clean db may. inl may };
}

pub asks_on : {S : Type 0} (g : Ghosts S) (a b c : Held S) → OnlyAsks g a b → OnlyAsks g b c → OnlyAsks g a c
asks_on g a b c one two = record {
  kept = kept_then (state g a) (state g b) (state g c) (λ clean. omega (arith, two.crash.clean, clean)) one.kept two.kept;
  crash = survives_then (state g a) (state g b) (state g c) (λ _. ⊥) (λ _. ⊥) (λ _. ⊥) (λ clean db none. none) (λ clean db none. none) one.crash two.crash;
}
