-- What a turn of the machine sends may be sent.
use Rattle.std.proofs.Common.{◌≡◌, refl, sym, ap, ◌∙◌, subst, ℕ, suc, ◌⊎◌, inl, inr, Bool, true, false, List, [], ◌∷◌, ◌++◌, append_assoc, append-nil, length, map, Option, Some, None}
use Rattle.std.proofs.Math.Path.{fun_ext}
use Rattle.std.specs.List.{AllByRecursion}
use Rattle.journal_model.specs.declared.notification.NotificationId.{NotificationId}
use Rattle.journal_model.specs.declared.notification.NotificationId.TheVariants.{CompletionId}
use Rattle.journal_model.specs.declared.notification.NotificationResult.{NotificationResult}
use Rattle.journal_model.specs.declared.call.Call.{Call}
use Rattle.journal_model.specs.Notification.{Arrival, Bytes}
use Rattle.journal_model.specs.AwaitTree.{AwaitTree, Single, map_leaves}
use Rattle.journal_model.specs.Request.{Request}
use Rattle.journal_model.specs.Refusal.{Refusal, refusal_of}
use Rattle.journal_model.specs.History.{requests_of, stands_for}
use Rattle.journal_model.specs.Await.{awaited_tree}
use Rattle.journal_model.specs.Run.{Handler, Invocation, Progress, run, run_requests, IsBeginning, BeginsRun}
use Rattle.journal_model.specs.Event.{Suspension, ForTree, Frame}
use Rattle.journal_model.specs.Attempt.{arrivals_within}
use Rattle.run_laws.specs.SuspensionContent.{TellsAwaitedTree, WaitsAll}
use Rattle.run_laws.proofs.Awaits.{awaits_tell, children_tell}
use Rattle.input_laws.specs.Message.{InputMessage, piece_of, arrivals_carried, requests_carried}
use Rattle.input_laws.proofs.News.{requests_carried-append}
use Rattle.live_laws.specs.RequestsInFlight.{requests_sent}
use Rattle.live_laws.specs.TurnWrites.{IsNote, WritesOfRun, answers, notes, fails, awaits, suspends, ends}
use Rattle.live_laws.specs.Live.{TurnsOfRun}
use Rattle.attempt_model.specs.Machine.{StopsMidway, Machine, Reply, Answered, AwaitsTree, AwaitsChild, Finished, FailedBy, Work, ToAwait, ToEnd, ToTake, ToLook, ToMake, work_of, reply_to_make, reply_where_taken, reply_to_take, is_cancelled, reply_where_unknown, reply_where_asleep, reply_to_end, reply_where_cancelled, reply_to_children, reply_where_awake, reply_to_await, reply_to_work, reply_unless_refused}
use Rattle.attempt_model.specs.Children.{cancel_requests_for, ChildrenOutcome, AllKnown, FirstUnknown, OneIsNoId, children_outcome}
use Rattle.attempt_model.specs.Requests.{Commands, PutState, put_all, requests_by}
use Rattle.attempt_model.specs.Results.{slot_of, waiting_for, are_keys_text, Resolution, Awake, Asleep, resolution_of}
use Rattle.attempt_model.specs.Simulation.{Stands, AreOfKind, Fits, next_call, RepliesAsRun, AreReflexive}
use Rattle.attempt_laws.proofs.Simulating.{simulates, stops_with_run}
use Rattle.live_laws.specs.MachinePosition.{IsInRun}
use Rattle.live_laws.specs.Replies.{SendsWaiting, SendsReply, goes_on, StandsBehind}
use Rattle.live_laws.specs.MachineTurn.{turn_reply, MakesTurns}
use Rattle.live_laws.specs.PositionLaws.{MachinesTurn}
use Rattle.live_laws.proofs.MachinePosition.{none_behind}

-- ---- a reply that is no answer writes nothing

abbrev IsQuiet : Machine → Reply → Type 0
IsQuiet m (Answered answer after) = Unit {0}
IsQuiet m (AwaitsTree tree after) = after.written ≡ m.written
IsQuiet m (AwaitsChild child after) = after.written ≡ m.written
IsQuiet m (Finished after) = after.written ≡ m.written
IsQuiet m (FailedBy fault) = Unit {0}

module _ (same_header : Request → Request → Bool) (given : Invocation) (m : Machine) (call : Call) where
  quiet_unknown : (child : ℕ) (after : Machine) (left : Commands) → after.written ≡ m.written → IsQuiet m (reply_where_unknown child after left)
  quiet_unknown child after [] e = e
  quiet_unknown child after (command ∷ left) e = tt

  quiet_cancelled : (after : Machine) (requests : List Request) (o : Option PutState) → IsQuiet m (reply_where_cancelled same_header given after requests o)
  quiet_cancelled after requests None = tt
  quiet_cancelled after requests (Some p) = tt

  quiet_children : (after : Machine) (o : ChildrenOutcome) → after.written ≡ m.written → IsQuiet m (reply_to_children same_header given after o)
  quiet_children after (AllKnown queue ready) e =
      quiet_cancelled (record after { queue = queue; ready = ready }) (cancel_requests_for ready after.children)
      (put_all same_header (cancel_requests_for ready after.children) (record { left = after.left; written = after.written }))
  quiet_children after (FirstUnknown child ready) e = quiet_unknown child (record after { queue = []; ready = ready }) after.left e
  quiet_children after OneIsNoId e = tt

  quiet_awake : (after : Machine) (b : Bool) → after.written ≡ m.written → IsQuiet m (reply_where_awake same_header given after b)
  quiet_awake after false e = tt
  quiet_awake after true e = quiet_children after (children_outcome given.options.signal_delivery after.children after.queue after.ready) e

  quiet_asleep : (tree : AwaitTree ℕ) (after : Machine) (left : Commands) → after.written ≡ m.written → IsQuiet m (reply_where_asleep tree after left)
  quiet_asleep tree after [] e = e
  quiet_asleep tree after (command ∷ left) e = tt

  quiet_await : (r : Resolution) → IsQuiet m (reply_to_await same_header given m r)
  quiet_await (Awake queue ready) = quiet_awake (record m { queue = queue; ready = ready }) (is_cancelled given (record m { queue = queue; ready = ready })) refl
  quiet_await (Asleep tree ready) = quiet_asleep tree (record m { queue = []; ready = ready }) m.left refl

  quiet_end : (left : Commands) → IsQuiet m (reply_to_end m left)
  quiet_end [] = refl
  quiet_end (command ∷ left) = tt

  quiet_taken : (handle : ℕ) (result : NotificationResult) (a b : Bool) → IsQuiet m (reply_where_taken m handle result a b)
  quiet_taken handle result false b = tt
  quiet_taken handle result true false = tt
  quiet_taken handle result true true = tt

  quiet_take : (handle : ℕ) (o : Option NotificationResult) → IsQuiet m (reply_to_take m handle o)
  quiet_take handle None = tt
  quiet_take handle (Some result) = quiet_taken handle result (are_keys_text result) _

  quiet_make : (requests : List Request) (o : Option PutState) → IsQuiet m (reply_to_make same_header given m call requests o)
  quiet_make requests None = tt
  quiet_make requests (Some p) = tt

  quiet_work : (work : Work) → IsQuiet m (reply_to_work same_header given m call work)
  quiet_work (ToAwait tree) = quiet_await (resolution_of given.options.signal_delivery m.slots (awaited_tree given.options.implicit_cancellation tree) m.queue m.ready)
  quiet_work ToEnd = quiet_end m.left
  quiet_work (ToTake handle) = quiet_take handle (waiting_for m.slots m.ready handle)
  quiet_work (ToLook handle) = tt
  quiet_work ToMake =
      quiet_make (requests_by m.start m.done m.left m.completions call) (put_all same_header (requests_by m.start m.done m.left m.completions call) (record { left = m.left; written = m.written }))

  quiet_reply : (o : Option Refusal) → IsQuiet m (reply_unless_refused same_header given m call o)
  quiet_reply (Some refusal) = tt
  quiet_reply None = quiet_work (work_of call)

-- ---- what is written behind what was asked

sent_requests : (requests : List Request) → requests_sent (map Frame.Command requests) ≡ requests
sent_requests [] = refl
sent_requests (request ∷ requests) = ap (λ (rest : List Request). request ∷ rest) (sent_requests requests)

module _ (next : Handler) (given : Invocation) (is_closed : Bool) (read unread : List InputMessage) (calls : ℕ) (m : Machine) (at : IsInRun next given read unread calls m) where
  abbrev arrivals : List Arrival
  arrivals = arrivals_carried read

  abbrev asked : List Request
  asked = requests_carried read ++ m.written

  waiting_writes : (b : Bool) (tree : AwaitTree (Option NotificationId)) (sent : List Frame)
      → ((suspension : Suspension) → TellsAwaitedTree given.version tree (Some suspension) → WaitsAll next given (arrivals_carried read) (requests_carried read ++ m.written) (Some suspension))
      → SendsWaiting given.version b tree sent → WritesOfRun next given (arrivals_carried read) b (requests_carried read ++ m.written) sent
  waiting_writes false tree sent waits (inl e) = subst (λ (frames : List Frame). WritesOfRun next given (arrivals_carried read) false (requests_carried read ++ m.written) frames) (sym e) (notes [] tt)
  waiting_writes false tree sent waits (inr (awaited, e, tells)) =
      subst (λ (frames : List Frame). WritesOfRun next given (arrivals_carried read) false (requests_carried read ++ m.written) frames) (sym e) (awaits awaited (waits (ForTree awaited) tells))
  waiting_writes true tree sent waits (suspension, e, tells) =
      subst (λ (frames : List Frame). WritesOfRun next given (arrivals_carried read) true (requests_carried read ++ m.written) frames) (sym e) (suspends (Some suspension) refl (waits suspension tells))

  reply_writes : (reply : Reply) (sent : List Frame) → RepliesAsRun next given (requests_carried read) (arrivals_carried read) calls reply → IsQuiet m reply
      → SendsReply given.version is_closed m reply sent → WritesOfRun next given (arrivals_carried read) is_closed (requests_carried read ++ m.written) sent
  reply_writes (Answered answer after) sent r quiet (written, e, f) =
      subst (λ (frames : List Frame). WritesOfRun next given (arrivals_carried read) is_closed (requests_carried read ++ m.written) frames) (sym f)
      (answers written r.stands.requests.left (suc calls)
      (record {
        going = ap (λ (p : Progress). p.ending) r.stands.going;
        asked_is =
            append_assoc (requests_carried read) m.written written ∙ ap (λ (some : List Request). requests_carried read ++ some) (sym e)
            ∙ sym r.stands.requests.requests ∙ ap (λ (p : Progress). requests_of p.steps ++ r.stands.requests.left) (sym r.stands.going);
      })
      (by_replay r.stands.requests.replays))
    where
      by_replay : (r.stands.requests.left ≡ []) ⊎ (after.written ≡ []) → (r.stands.requests.left ≡ []) ⊎ (written ≡ [])
      by_replay (inl g) = inl g
      by_replay (inr g) = inr (none_behind m.written written (sym e ∙ g))
  reply_writes (AwaitsTree tree after) sent r quiet sends =
      waiting_writes is_closed (map_leaves (slot_of after.slots) tree) sent
      (λ suspension tells.
      awaits_tell next given (arrivals_carried read) calls (requests_carried read ++ m.written) r.ids (map_leaves (slot_of after.slots) tree) suspension
      (ap (λ (p : Progress). p.ending) at.stands.going) r.waits (r.exactly ∙ ap (λ (some : List Request). requests_carried read ++ some) quiet)
      (ap (λ (leaf : ℕ → Option NotificationId). map_leaves leaf tree) same_leaves ∙ r.rest) tells) sends
    where
      same_leaves : slot_of after.slots ≡ stands_for (run next given (arrivals_carried read) calls).steps
      same_leaves = fun_ext (λ handle. r.stands.tables.handles handle ∙ ap (λ (p : Progress). stands_for p.steps handle) (sym r.stands.going))
  reply_writes (AwaitsChild child after) sent r quiet sends =
      waiting_writes is_closed (Single (Some (CompletionId child))) sent
      (λ suspension tells.
      children_tell next given (arrivals_carried read) (suc calls) (requests_carried read ++ m.written) (Some (CompletionId child)) suspension
      r.waits (r.exactly ∙ ap (λ (some : List Request). requests_carried read ++ some) quiet) tells) sends
  reply_writes (Finished after) sent r quiet e =
      subst (λ (frames : List Frame). WritesOfRun next given (arrivals_carried read) is_closed (requests_carried read ++ m.written) frames) (sym e)
      (ends (record { calls = suc calls; over = r.ended; exactly = sym (r.exactly ∙ ap (λ (some : List Request). requests_carried read ++ some) quiet) }))
  reply_writes (FailedBy fault) sent r quiet all = notes sent all

  same_asked : requests_carried read ++ m.written ≡ requests_carried (read ++ unread) ++ m.written
  same_asked =
      ap (λ (some : List Request). some ++ m.written)
      (sym (requests_carried-append read unread ∙ ap (λ (some : List Request). requests_carried read ++ some) at.all_read ∙ append-nil (requests_carried read)))

  -- a turn that reads nothing
  pub turn_of : (held : Bytes) (sent : List Frame) → ((suspension : Option Suspension) → sent ≡ Frame.Suspend suspension ∷ [] → arrivals_within (map piece_of unread) (length held) ≡ 0)
      → WritesOfRun next given (arrivals_carried read) is_closed (requests_carried read ++ m.written) sent
      → TurnsOfRun next given is_closed held read unread (requests_carried (read ++ unread) ++ m.written) held sent
  turn_of held sent whole writes = record {
    some = [];
    still = unread;
    parts = refl;
    bytes = refl;
    whole = whole;
    writes =
        subst (λ (all : List InputMessage). WritesOfRun next given (arrivals_carried all) is_closed (requests_carried (read ++ unread) ++ m.written) sent) (sym (append-nil read))
        (subst (λ (requests : List Request). WritesOfRun next given (arrivals_carried read) is_closed requests sent) same_asked writes);
  }

waiting_sends : (version : ℕ) (b : Bool) (tree : AwaitTree (Option NotificationId)) (sent : List Frame) → SendsWaiting version b tree sent → requests_sent sent ≡ []
waiting_sends version false tree sent (inl e) = ap requests_sent e
waiting_sends version false tree sent (inr (awaited, e, tells)) = ap requests_sent e
waiting_sends version true tree sent (suspension, e, tells) = ap requests_sent e

module _ (same_header : Call → Request → Request → Bool) (next : Handler) (given : Invocation) (is_closed : Bool) (held : Bytes) (read unread : List InputMessage) (calls : ℕ) (m : Machine)
    (reflexive : AreReflexive same_header) (fits : Fits next given (requests_carried read) (arrivals_carried read)) (kinds : AreOfKind next given (arrivals_carried read) calls)
    (at : IsInRun next given read unread calls m) where
  replies : RepliesAsRun next given (requests_carried read) (arrivals_carried read) calls (turn_reply same_header next given read unread calls m at)
  replies = simulates same_header next given (requests_carried read) (arrivals_carried read) calls m reflexive fits kinds at.stands

  quiet_turn : IsQuiet m (turn_reply same_header next given read unread calls m at)
  quiet_turn = quiet_reply (same_header (next_call next given at.stands.steps)) given m (next_call next given at.stands.steps) (refusal_of given.version (next_call next given at.stands.steps))

  -- behind a reply
  same_behind : (n : ℕ) (new : Machine) (sent : List Frame) → StandsBehind next given read unread n m new sent → (calls' : ℕ) (after : Machine)
      → ◌≡◌ {A = Option (ℕ × Machine)} (Some (n, new)) (Some (calls', after)) → StandsBehind next given read unread calls' m after sent
  same_behind n new sent b calls' after e =
      let same : ◌≡◌ {A = ℕ × Machine} (n, new) (calls', after) = cc in
      subst (λ (p : ℕ × Machine). StandsBehind next given read unread p.0 m p.1 sent) same b

  waits_behind : (new : Machine) → Stands next given (requests_carried read) (arrivals_carried read) calls new → new.written ≡ m.written → (tree : AwaitTree (Option NotificationId)) (sent : List Frame)
      → SendsWaiting given.version is_closed tree sent → StandsBehind next given read unread calls m new sent
  waits_behind new stands quiet tree sent so = record {
    stands = record { all_read = at.all_read; stands = stands };
    written = quiet ∙ sym (append-nil m.written) ∙ ap (λ (some : List Request). m.written ++ some) (sym (waiting_sends given.version is_closed tree sent so));
  }

  goes_behind : (reply : Reply) → RepliesAsRun next given (requests_carried read) (arrivals_carried read) calls reply → IsQuiet m reply → (sent : List Frame)
      → SendsReply given.version is_closed m reply sent → (calls' : ℕ) (after : Machine) → goes_on calls reply ≡ Some (calls', after) → StandsBehind next given read unread calls' m after sent
  goes_behind (Answered answer new) r quiet sent (written, e, f) calls' after g =
      same_behind (suc calls) new sent
      (record {
        stands = record { all_read = at.all_read; stands = r.stands };
        written = e ∙ ap (λ (some : List Request). m.written ++ some) (sym (ap requests_sent f ∙ sent_requests written));
      }) calls' after g
  goes_behind (AwaitsTree tree new) r quiet sent so calls' after g =
      same_behind calls new sent (waits_behind new r.stands quiet (map_leaves (slot_of new.slots) tree) sent so) calls' after g
  goes_behind (AwaitsChild child new) r quiet sent so calls' after g =
      same_behind calls new sent (waits_behind new r.stands quiet (Single (Some (CompletionId child))) sent so) calls' after g
  goes_behind (Finished new) r quiet sent so calls' after g = cc
  goes_behind (FailedBy fault) r quiet sent so calls' after g = cc

  -- no note is a suspension
  no_suspension : (some : List Request) (frames : List Frame) → AllByRecursion IsNote frames → (suspension : Option Suspension) → map Frame.Command some ++ frames ≡ Frame.Suspend suspension ∷ []
      → arrivals_within (map piece_of unread) (length held) ≡ 0
  no_suspension [] [] quiet suspension f = cc
  no_suspension [] (frame ∷ frames) quiet suspension f =
      let same : frame ≡ Frame.Suspend suspension = cc in
      absurd (subst IsNote same quiet.0)
  no_suspension (request ∷ some) frames quiet suspension f = cc

  stopped_begins : (stopped : PutState) (written : List Request) → StopsMidway same_header given m (next_call next given at.stands.steps) stopped → stopped.written ≡ m.written ++ written
      → BeginsRun next given (arrivals_carried read) ((requests_carried read ++ m.written) ++ written)
  stopped_begins stopped written stops e =
      let b = stops_with_run same_header next given (requests_carried read) (arrivals_carried read) calls m reflexive fits kinds at.stands stopped stops in
      record {
        calls = b.calls;
        beginning = subst (λ (requests : List Request). IsBeginning requests (run_requests next given (arrivals_carried read) b.calls))
            (ap (λ (some : List Request). requests_carried read ++ some) e ∙ sym (append_assoc (requests_carried read) m.written written)) b.beginning;
      }

  makes_turns : MakesTurns same_header next given is_closed held read unread calls m at
  makes_turns = record {
    turns = λ sent whole sends.
        turn_of next given is_closed read unread calls m at held sent (λ suspension e. whole)
        (reply_writes next given is_closed read unread calls m at (turn_reply same_header next given read unread calls m at) sent replies quiet_turn sends);
    behind = λ sent calls' after sends e. goes_behind (turn_reply same_header next given read unread calls m at) replies quiet_turn sent sends calls' after e;
    stops = λ stopped written sent stops e all.
        turn_of next given is_closed read unread calls m at held (map Frame.Command written ++ sent) (no_suspension written sent all)
        (fails written sent (stopped_begins stopped written stops e) all);
  }

pub machine_turns : MachinesTurn
machine_turns same_header next given is_closed held read unread calls m reflexive fits kinds at =
    makes_turns same_header next given is_closed held read unread calls m reflexive fits kinds at
