-- What an attempt has written is taken, and it goes on as before.
use Rattle.std.proofs.Common.{◌≡◌, ◌⊎◌, inl, inr, ◌∙◌, ℕ, zero, suc, Bool, List, [], ◌++◌, drop, Result, Ok, Err, sym, ap, subst}
use Rattle.std.specs.declared.alloc.AllocError.{AllocError}
use Rattle.protocol_records.specs.declared.start.StartMessage.{StartMessage}
use Rattle.vm_machine.specs.StateBeforeInput.{Gathers}
use Rattle.vm_attempt_laws.specs.AttemptSimulation.{kind_where, HasNotRead, HasRead, Serves}
use Rattle.vm_attempt_laws.specs.AttemptInvariants.{BodiesStay, TakesServing}
use Rattle.vm_attempt_laws.proofs.Beginning.{nothing_held, nothing_more}
use Rattle.vm_attempt_laws.proofs.Bodies.{bodies_stay}
use Rattle.vm_attempt_laws.proofs.Over.{moves_of, shown_moves, let_go_moves}
use Rattle.vm_attempt_laws.specs.Attempts.{taken_of, output_of, OnlyMoves, Shows, LetsGo, TakesOutput, Attempt}
use Rattle.vm_attempt_laws.specs.Machine.{Sees, Active, MachineState, CoreVM, IsDriven}
use Rattle.vm_attempt_laws.specs.InputOfAttempt.{start_told, Kind, phase_kind, HasStarted, gathered_all}
use Rattle.vm_attempt_laws.specs.Words.{item_at, Version, Bytes, Handler, Invocation, InputMessage, Machine, machine_at_start, AttemptStart, AttemptInRun, VMOptions}

-- with these bytes written
abbrev with_written : Bytes → MachineState → MachineState
with_written bytes vm = record vm { active = record vm.active { output = record vm.active.output { bytes = bytes } } }

seen_written : (given : Invocation) (m : Machine) (bytes : Bytes) (active : Active) → Sees given active m → Sees given (record active { output = record active.output { bytes = bytes } }) m
seen_written given m bytes active s =
    record { left = s.left; replaying = s.replaying; results = s.results; state = s.state; completions = s.completions; signals = s.signals; opened = s.opened; children = s.children; made = s.made }

driven_written : (given : Invocation) (m : Machine) (bytes : Bytes) (vm : MachineState) → IsDriven given m vm → IsDriven given m (with_written bytes vm)
driven_written given m bytes vm d =
    record {
      sees = seen_written given m bytes vm.active d.sees;
      phase = d.phase;
      version = record { version = d.version.version; cancellation = d.version.cancellation };
      written = d.written;
      commands = d.commands;
      id = d.id;
      reads = d.reads;
    }

gathers_written : (given : Invocation) (m : Machine) (bytes : Bytes) (active : Active) → Gathers given active m → Gathers given (record active { output = record active.output { bytes = bytes } }) m
gathers_written given m bytes active g =
    record { left = g.left; replaying = g.replaying; results = g.results; state = g.state; completions = g.completions; signals = g.signals; opened = g.opened; children = g.children; made = g.made }

started_written : (start : AttemptStart) (told : StartMessage) (kind : Kind) (read : List InputMessage) (bytes : Bytes) (vm : MachineState) → bytes ≡ [] → HasStarted start told kind read vm
    → HasStarted start told kind read (with_written bytes vm)
started_written start told kind read bytes vm none h = record {
  kind_is = h.kind_is;
  phase = h.phase;
  start_is = h.start_is;
  commands = h.commands;
  gathers = gathers_written start.given (gathered_all read (machine_at_start start.shown [] [])) bytes vm.active h.gathers;
  runs = h.runs;
  output = λ i. record (h.output i) { bytes = none i };
}

none_left : (max : ℕ) (bytes : Bytes) → bytes ≡ [] → drop max bytes ≡ []
none_left zero bytes e = e
none_left (suc max) bytes e = ap (drop (suc max)) e

module _ {H : Type 0} (function : H → Handler) (next : Handler) (version : Version) (options : VMOptions) where
  module _ (live : AttemptInRun) (is_closed : Bool) (before after : Attempt H) (moves : OnlyMoves before after) where
    not_read : output_of after ≡ [] → HasNotRead function next version options live is_closed before → HasNotRead function next version options live is_closed after
    not_read none n = record {
      input = ap (λ (a : Attempt H). a.input) moves.others ∙ n.input;
      answers = ap (λ (a : Attempt H). a.answers) moves.others ∙ n.answers;
      calls = n.calls;
      machine = n.machine;
      shows = n.shows;
      started = subst (λ (vm : MachineState). HasStarted live.start (start_told live.start n.shows) (kind_where version options is_closed) live.read vm) (sym (ap (λ (vm : CoreVM). vm.state) moves.machine))
          (started_written live.start (start_told live.start n.shows) (kind_where version options is_closed) live.read after.vm.state.active.output.bytes before.vm.state (nothing_more (after.front ++ after.behind) after.vm.state.active.output.bytes none) n.started);
      unwritten = none;
    }

    has_read : HasRead function next version options live before → HasRead function next version options live after
    has_read r = record {
      journal = r.journal;
      input = ap (λ (a : Attempt H). a.input) moves.others ∙ r.input;
      answers = ap (λ (a : Attempt H). a.answers) moves.others ∙ r.answers;
      driven = subst (λ (vm : MachineState). IsDriven live.start.given live.machine vm) (sym (ap (λ (vm : CoreVM). vm.state) moves.machine))
          (driven_written live.start.given live.machine after.vm.state.active.output.bytes before.vm.state r.driven);
      shows = r.shows;
      start_is = ap (λ (vm : CoreVM). vm.state.start) moves.machine ∙ r.start_is;
      numbers = r.numbers;
    }

  moved : (live : AttemptInRun) (is_closed : Bool) (before after : Attempt H) → OnlyMoves before after → (output_of before ≡ [] → output_of after ≡ []) → Serves function next version options live is_closed before
      → Serves function next version options live is_closed after
  moved live is_closed before after moves none s = record {
    handler = ap (λ (a : Attempt H). function a.handler) moves.others ∙ s.handler;
    going = ap (λ (a : Attempt H). a.over) moves.others ∙ s.going;
    kind = ap (λ (vm : CoreVM). phase_kind vm.state) moves.machine ∙ s.kind;
    of_run = s.of_run;
    fed = s.fed;
    started = s.started;
    bytes = ap (λ (vm : CoreVM). vm.state.decoder) moves.machine ∙ s.bytes;
    whole = ap (λ (vm : CoreVM). item_at vm.state.decoder) moves.machine ∙ s.whole;
    stands = stands s.stands;
  }
    where
      stands : HasNotRead function next version options live is_closed before ⊎ HasRead function next version options live before
          → HasNotRead function next version options live is_closed after ⊎ HasRead function next version options live after
      stands (inl n) = inl (not_read live is_closed before after moves (none n.unwritten) n)
      stands (inr r) = inr (has_read live is_closed before after moves r)

  bodies : (before after : Attempt H) → OnlyMoves before after → BodiesStay function next version options before after
  bodies before after moves = bodies_stay function next version options before after (ap (λ (vm : CoreVM). vm.state.runs) moves.machine)

  taken_none : (max : ℕ) (before : Attempt H) (result : Result Bytes AllocError) (after : Attempt H) → TakesOutput max before result after → output_of before ≡ [] → output_of after ≡ []
  taken_none max before (Ok bytes) after takes none = takes.rest ∙ none_left max (output_of before) none
  taken_none max before (Err refused) after takes none = takes.same ∙ none

  shown_none : (max : ℕ) (before : Attempt H) (result : Result Bytes AllocError) (after : Attempt H) → Shows max before result after → output_of before ≡ [] → output_of after ≡ []
  shown_none max before (Ok bytes) after shows none = shows.gathers.same ∙ none
  shown_none max before (Err refused) after shows none = shows.same ∙ none

  let_go_none : (count : ℕ) (before after : Attempt H) → LetsGo count before after → output_of before ≡ [] → output_of after ≡ []
  let_go_none count before after lets none =
      ap (λ (bytes : Bytes). bytes ++ after.vm.state.active.output.bytes) (lets.taken ∙ none_left count (taken_of before) (nothing_held (taken_of before) before.vm.state.active.output.bytes none))
      ∙ ap (λ (a : Attempt H). a.vm.state.active.output.bytes) lets.others ∙ nothing_more (taken_of before) before.vm.state.active.output.bytes none

  pub takes_keep : TakesServing function next version options
  takes_keep live is_closed before after s = record {
    taken = λ max result takes. (moved live is_closed before after (moves_of max before result after takes) (taken_none max before result after takes) s, bodies before after (moves_of max before result after takes));
    shown = λ max result shows. (moved live is_closed before after (shown_moves max before result after shows) (shown_none max before result after shows) s, bodies before after (shown_moves max before result after shows));
    let_go = λ count lets. (moved live is_closed before after (let_go_moves count before after lets) (let_go_none count before after lets) s, bodies before after (let_go_moves count before after lets));
  }
