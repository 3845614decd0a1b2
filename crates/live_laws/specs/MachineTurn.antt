-- What is known of where a machine stands among the messages of its input, and of the turn that it makes there.
use Rattle.std.specs.Prelude.{◌≡◌, ℕ, Bool, List, [], ◌++◌, map, Some, length}
use Rattle.std.specs.List.{AllByRecursion}
use Rattle.journal_model.specs.declared.call.Call.{Call}
use Rattle.journal_model.specs.Notification.{Bytes}
use Rattle.journal_model.specs.Request.{Request}
use Rattle.journal_model.specs.State.{StartState}
use Rattle.journal_model.specs.Run.{Handler, Invocation}
use Rattle.journal_model.specs.Event.{Frame}
use Rattle.journal_model.specs.Attempt.{arrivals_within}
use Rattle.input_laws.specs.Message.{InputMessage, piece_of, requests_carried}
use Rattle.live_laws.specs.Live.{IsPosition, TurnsOfRun}
use Rattle.live_laws.specs.TurnWrites.{IsNote}
use Rattle.attempt_model.specs.Machine.{Machine, Reply, reply_to, StopsMidway}
use Rattle.attempt_model.specs.Requests.{PutState}
use Rattle.attempt_model.specs.Simulation.{IsShown, next_call}
use Rattle.live_laws.specs.MachinePosition.{with_messages, IsInRun, IsMachineAt}
use Rattle.live_laws.specs.Replies.{SendsReply, goes_on, StandsBehind}

-- it is at the position of its attempt, with the recorded requests that it has still to match; it stays so where it reads more of its
-- messages; and where it has read all requests, and was shown what they have made of the state, it stands in the run
pub record HasPosition (next : Handler) (given : Invocation) (shown : StartState) (read unread : List InputMessage) (calls : ℕ) (m : Machine) : Type 0 where
  pub left : List Request
  pub left_is : m.left ≡ map Some left
  pub position : IsPosition next given read unread calls left m.written
  pub reads : (some still : List InputMessage) → unread ≡ some ++ still → IsMachineAt next given shown (read ++ some) still calls (with_messages m some)
  pub stands : requests_carried unread ≡ [] → IsShown given.start (requests_carried read) shown → IsInRun next given read unread calls m

-- what its next call comes to, where it stands in the run
abbrev pub turn_reply : (same_header : Call → Request → Request → Bool) (next : Handler) (given : Invocation) (read unread : List InputMessage) (calls : ℕ) (m : Machine)
    → IsInRun next given read unread calls m → Reply
turn_reply same_header next given read unread calls m at = reply_to same_header given m (next_call next given at.stands.steps)

-- a turn that sends it is one that the attempt may make, where no whole frame of an arrival is held; where the attempt goes on, its machine
-- stands in the run behind the turn; and a turn that was stopped midway may have sent the requests that were written by then, and notes
pub record MakesTurns (same_header : Call → Request → Request → Bool) (next : Handler) (given : Invocation) (is_closed : Bool) (held : Bytes) (read unread : List InputMessage) (calls : ℕ) (m : Machine)
    (at : IsInRun next given read unread calls m) : Type 0 where
  pub turns : (sent : List Frame) → arrivals_within (map piece_of unread) (length held) ≡ 0
      → SendsReply given.version is_closed m (turn_reply same_header next given read unread calls m at) sent
      → TurnsOfRun next given is_closed held read unread (requests_carried (read ++ unread) ++ m.written) held sent
  pub behind : (sent : List Frame) (calls' : ℕ) (after : Machine) → SendsReply given.version is_closed m (turn_reply same_header next given read unread calls m at) sent
      → goes_on calls (turn_reply same_header next given read unread calls m at) ≡ Some (calls', after) → StandsBehind next given read unread calls' m after sent
  pub stops : (stopped : PutState) (written : List Request) (sent : List Frame) → StopsMidway same_header given m (next_call next given at.stands.steps) stopped
      → stopped.written ≡ m.written ++ written → AllByRecursion IsNote sent
      → TurnsOfRun next given is_closed held read unread (requests_carried (read ++ unread) ++ m.written) held (map Frame.Command written ++ sent)
