-- How far a call has come with its requests where it stops midway.
use Rattle.std.specs.Prelude.{◌≡◌, Bool, true, false, List, [], ◌∷◌, ◌++◌, Option, Some, None}
use Rattle.std.specs.List.{AllByRecursion}
use Rattle.journal_model.specs.Await.{awaited_tree}
use Rattle.journal_model.specs.Refusal.{Refusal, refusal_of}
use Rattle.journal_model.specs.Request.{Request}
use Rattle.journal_model.specs.Run.{Invocation}
use Rattle.journal_model.specs.declared.call.Call.{Call}
use Rattle.attempt_model.specs.Children.{Child, cancel_requests_for, ChildrenOutcome, AllKnown, children_outcome}
use Rattle.attempt_model.specs.Machine.{Machine, Work, ToAwait, work_of, is_cancelled}
use Rattle.attempt_model.specs.Requests.{PutState, put_one, put_all}
use Rattle.attempt_model.specs.Results.{Resolution, Awake, resolution_of}
use Rattle.vm_calls.specs.Active.{RequestFits}
use Rattle.vm_commands.specs.HeaderEquality.{same_header}
use Rattle.vm_machine.specs.Calls.{checks_off}
use Rattle.vm_machine.specs.declared.machine_state.MachineState.{MachineState}

-- ---- the requests by which an await passes a cancellation on

-- one for each child, once the invocation ids of all are known
abbrev pub children_requests : List Child → ChildrenOutcome → List Request
children_requests children (AllKnown queue ready) = cancel_requests_for ready children
children_requests children _ = []

abbrev pub unless_refused : Option Refusal → List Request → List Request
unless_refused None requests = requests
unless_refused (Some refusal) requests = []

module _ (given : Invocation) where
  abbrev pub awake_requests : Machine → (cancelled : Bool) → List Request
  awake_requests m true = children_requests m.children (children_outcome given.options.signal_delivery m.children m.queue m.ready)
  awake_requests m false = []

  abbrev pub await_requests : Machine → Resolution → List Request
  await_requests m (Awake queue ready) = awake_requests (record m { queue = queue; ready = ready }) (is_cancelled given (record m { queue = queue; ready = ready }))
  await_requests m _ = []

  -- one that is refused passes nothing on
  abbrev pub requests_at : Machine → Work → List Request
  requests_at m (ToAwait tree) =
      unless_refused (refusal_of given.version (Call.Await tree))
      (await_requests m (resolution_of given.options.signal_delivery m.slots (awaited_tree given.options.implicit_cancellation tree) m.queue m.ready))
  requests_at m _ = []

  -- any other call makes one request at most, and is stopped before it
  abbrev pub requests_passed_on : Machine → Call → List Request
  requests_passed_on m call = requests_at m (work_of call)

-- ---- where it stops

module _ (given : Invocation) (m : Machine) (call : Call) (vm : MachineState) where
  -- The first of these requests were put, or none was: matched with what is recorded, or written behind the journal.
  pub record HasPut : Type 0 where
    pub front : List Request
    pub behind : List Request
    pub parts : requests_passed_on given m call ≡ front ++ behind
    pub put : PutState
    pub puts : put_all (same_header (checks_off vm.options.non_determinism_checks) call) front (record { left = m.left; written = m.written }) ≡ Some put
    pub more : List Request
    pub written : put.written ≡ m.written ++ more
    -- each fits its frame
    pub fit : AllByRecursion RequestFits more

  -- the next of them, if there is one, is not what is recorded next
  abbrev pub IsUnmatchedNext : (behind : List Request) → PutState → Type 0
  IsUnmatchedNext [] put = Unit {0}
  IsUnmatchedNext (next ∷ behind) put = put_one (same_header (checks_off vm.options.non_determinism_checks) call) next put.left put.written ≡ None
