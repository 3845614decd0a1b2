-- What the start frame shows is what the run of its attempt begins with.
use Rattle.std.proofs.Common.{◌≡◌, refl, sym, ap, ◌∙◌, subst, ℕ, ◌+◌, List, length}
use Rattle.journal_model.specs.declared.invocation.StateMode.{StateMode}
use Rattle.protocol_types.specs.declared.message_type.MessageType.TheVariants.{Start}
use Rattle.journal_model.specs.Notification.{Text}
use Rattle.journal_model.specs.Request.{Request}
use Rattle.journal_model.specs.State.{StateMap, StartState, state_after, IsOrdered}
use Rattle.journal_model.specs.Spelling.{frame_bytes}
use Rattle.journal_model.specs.Start.{start_payload_of, attempts_since_entry, since_first}
use Rattle.journal_model.specs.Run.{Invocation}
use Rattle.journal_model.specs.Event.{Event}
use Rattle.journal_model.specs.Journal.{starting_state}
use Rattle.journal_model.specs.Headline.{shown_state}
use Rattle.run_laws.proofs.States.{starts_ordered}
use Rattle.input_laws.specs.Message.{requests_carried}
use Rattle.input_laws.proofs.Events.{start_same}
use Rattle.live_laws.specs.BegunAttempts.{IsBegunAfter, begun_last, begun_earlier}
use Rattle.attempt_model.specs.Simulation.{IsShown, whole_state, same_state}
use Rattle.live_laws.specs.PositionLaws.{StartsShow}

shows_of : (mode : StateMode) (state : StateMap) (journal : List Request) → IsOrdered state → IsShown (shown_state mode state) journal (shown_state mode (state_after journal state))
shows_of StateMode.Whole state journal ordered = whole_state refl refl ordered refl
shows_of StateMode.None state journal ordered = same_state refl

-- the state at the begin of an invocation is the same since its attempt was begun
state_since : (id : Text) (earlier : List Event) (now : ℕ) (events : List Event) → IsBegunAfter id earlier now events → starting_state events id ≡ starting_state earlier id
state_since id earlier now events begun_last = refl
state_since id earlier now events (begun_earlier {events = before} event old going begun) = start_same event before id old ∙ state_since id earlier now before begun

pub start_shows : StartsShow
start_shows next options fallback_seed events id start b = record {
  state = state_after (requests_carried start.journal) (starting_state events id);
  shown_is = b.shown_is;
  shows = record {
    retry_count = length (attempts_since_entry b.begun.earlier id);
    duration = since_first (attempts_since_entry b.begun.earlier id) b.begun.now;
    frame_is =
        b.begun.start_is
        ∙ ap (λ (state : StateMap). frame_bytes Start (start_payload_of start.new (state_after (requests_carried start.journal) state) (1 + length start.journal)
        (length (attempts_since_entry b.begun.earlier id)) (since_first (attempts_since_entry b.begun.earlier id) b.begun.now)))
        (sym (state_since id b.begun.earlier b.begun.now events b.begun.begun));
  };
  known =
      subst (λ (given : StartState). IsShown given (requests_carried start.journal) start.shown) (sym (ap (λ (given : Invocation). given.start) b.given_is))
      (subst (λ (shown : StartState). IsShown (shown_state start.new.state (starting_state events id)) (requests_carried start.journal) shown) (sym b.shown_is)
      (shows_of start.new.state (starting_state events id) (requests_carried start.journal) (starts_ordered events id)));
}
