-- The live attempt with its machine: it begins, takes in what comes, and reads.
use Rattle.std.proofs.Common.{◌≡◌, refl, sym, ap, ◌∙◌, subst, ℕ, inl, inr, false, List, [], ◌∷◌, ◌++◌, append_assoc, append-nil, take, map, None}
use Rattle.std.specs.List.{AllByRecursion}
use Rattle.journal_model.specs.declared.options.RunOptions.{RunOptions}
use Rattle.journal_model.specs.Notification.{Bytes, Text}
use Rattle.journal_model.specs.Request.{Request}
use Rattle.journal_model.specs.State.{StateMap, state_after}
use Rattle.journal_model.specs.Run.{Handler}
use Rattle.journal_model.specs.Event.{Event, Frame}
use Rattle.journal_model.specs.Journal.{Entry, begins, entries_of}
use Rattle.journal_model.specs.Attempt.{begins_attempt, bytes_asked, input_bytes, input_left}
use Rattle.journal_model.specs.Cause.{IsAccepted}
use Rattle.journal_model.specs.Headline.{run_of, shown_state}
use Rattle.input_laws.specs.Message.{InputMessage, piece_of, requests_carried, IsBroughtBy}
use Rattle.input_laws.proofs.Events.{itself, start_same, entries_now}
use Rattle.input_laws.proofs.News.{news, requests_carried-append}
use Rattle.live_laws.specs.RequestsInFlight.{PassesOn}
use Rattle.live_laws.specs.BegunAttempts.{HasInput}
use Rattle.live_laws.specs.Live.{IsLive}
use Rattle.live_laws.proofs.Begun.{begun_with, begun_on, journal_begins, input_first, input_on}
use Rattle.live_laws.proofs.LiveInput.{live_first, live_on, live_more}
use Rattle.live_laws.proofs.LiveTurns.{reads_messages}
use Rattle.live_laws.specs.MachinePosition.{IsMachineAt}
use Rattle.live_laws.specs.MachineTurn.{HasPosition}
use Rattle.live_laws.specs.StartFrame.{AttemptStart, IsBegunAs, start_after}
use Rattle.live_laws.specs.AttemptWithMachine.{AttemptInRun, HoldsStart, start_unread, start_read, IsLiveMachine, handed_bytes, after_reading}
use Rattle.live_laws.specs.MachineLaws.{MachinesBegin, MachinesStayLive}
use Rattle.live_laws.proofs.MachinePosition.{messages-written, machine_position}

-- ---- the begin

pub machine_begins : MachinesBegin
machine_begins next options fallback_seed id now events new accepted begun holds =
    let start = start_after options fallback_seed events id now new in
    let live = live_first next start.given id events (Event.Begin id now) new refl (itself id) begun in record {
      begun = record {
        begun = begun_with id now events new accepted begun;
        given_is = refl;
        shown_is = refl;
        of_run = journal_begins next start.given id events holds;
      };
      messages = input_first (Event.Begin id now ∷ events) id new start.journal;
      holds = start_unread (sym (append-nil start.frame)) refl refl refl;
      reads = live.input;
      machine = inl (record { none_asked = refl; reads = refl });
      asked = live.asked;
    }

-- ---- one more event

-- what it was begun with stays as it is
begun_as : (next : Handler) (options : RunOptions) (fallback_seed : ℕ) (id : Text) (event : Event) (events : List Event) (start : AttemptStart) → begins id event ≡ false → begins_attempt id event ≡ false
    → IsBegunAs next options fallback_seed events id start → IsBegunAs next options fallback_seed (event ∷ events) id start
begun_as next options fallback_seed id event events start old going b =
    let same = sym (start_same event events id old) in record {
      begun = begun_on events id event start.new start.journal start.frame old going b.begun;
      given_is = b.given_is ∙ ap (λ (state : StateMap). run_of options fallback_seed start.new state) same;
      shown_is = b.shown_is ∙ ap (λ (state : StateMap). shown_state start.new.state (state_after (requests_carried start.journal) state)) same;
      of_run = b.of_run;
    }

-- more messages that carry no request leave its machine where it is
module _ (next : Handler) (live : AttemptInRun) where
  pub machine_more : (more : List InputMessage) → requests_carried more ≡ [] → IsMachineAt next live.start.given live.start.shown live.read live.unread live.calls live.machine
      → IsMachineAt next live.start.given live.start.shown live.read (live.unread ++ more) live.calls live.machine
  machine_more more none (inl only) = inl only
  machine_more more none (inr at) = inr (record {
    all_read =
        requests_carried-append live.unread more ∙ ap (λ (requests : List Request). requests_carried live.unread ++ requests) none
        ∙ append-nil (requests_carried live.unread) ∙ at.all_read;
    stands = at.stands;
  })

-- what holds its start frame does so with more behind it
module _ (live : AttemptInRun) where
  pub holds_on : (unread : List InputMessage) (coming : List Frame) → HoldsStart live → HoldsStart (record live { unread = unread; coming = coming })
  holds_on unread coming (start_unread a b c d) = start_unread a b c d
  holds_on unread coming (start_read a) = start_read a

  pub holds_more : (bytes : Bytes) → HoldsStart live → HoldsStart (handed_bytes live bytes)
  holds_more bytes (start_unread a b c d) = start_unread (ap (λ (some : Bytes). some ++ bytes) a ∙ append_assoc live.start.frame live.held bytes) b c d
  holds_more bytes (start_read a) = start_read (ap (λ (some : Bytes). some ++ bytes) a)

module _ (next : Handler) (options : RunOptions) (fallback_seed : ℕ) (id : Text) (events : List Event) (live : AttemptInRun) (l : IsLiveMachine next options fallback_seed id events live) where
  pub position : HasPosition next live.start.given live.start.shown live.read live.unread live.calls live.machine
  position = machine_position next live.start.given live.start.shown live.read live.unread live.calls live.machine l.machine

  pub is_live : IsLive next live.start.given id events live.coming live.held live.read live.unread live.calls position.left live.machine.written
  is_live = record { input = l.reads; position = position.position; asked = l.asked }

  machine_on : (event : Event) (coming : List Frame) → IsAccepted events → begins id event ≡ false → begins_attempt id event ≡ false → bytes_asked id event ≡ None → PassesOn id event live.coming coming
      → (more : List InputMessage) × AllByRecursion (IsBroughtBy (entries_of (event ∷ events) id) id event) more
      × IsLiveMachine next options fallback_seed id (event ∷ events) (record live { unread = live.unread ++ more; coming = coming })
  machine_on event coming accepted old going asks passes =
      let new = news events id event old going in
      let brought : AllByRecursion (IsBroughtBy (entries_of (event ∷ events) id) id event) new.messages =
      subst (λ (entries : List Entry). AllByRecursion (IsBroughtBy entries id event) new.messages) (sym (entries_now event events id old)) new.brought in
      let now = live_on next live.start.given id events event live.coming coming live.held live.read live.unread live.calls position.left live.machine.written accepted old going asks passes is_live in (
        new.messages,
        brought,
        record {
          begun = begun_as next options fallback_seed id event events live.start old going l.begun;
          messages =
              subst (λ (all : List InputMessage). HasInput (event ∷ events) id coming live.proposed live.start.new live.start.journal all) (append_assoc live.read live.unread new.messages)
              (input_on events id event live.coming coming live.proposed live.start.new live.start.journal (live.read ++ live.unread) new.messages old going passes brought l.messages);
          holds = holds_on live (live.unread ++ new.messages) coming l.holds;
          reads = now.input;
          machine = machine_more next live new.messages new.none l.machine;
          asked = now.asked;
        },
      )

  machine_handed : (attempt most : ℕ) → IsAccepted events → IsLiveMachine next options fallback_seed id (Event.Feed id attempt most ∷ events) (handed_bytes live (take most (input_left events id)))
  machine_handed attempt most accepted =
      let now = live_more next live.start.given id events attempt most live.coming live.held live.read live.unread live.calls position.left live.machine.written accepted (itself id) is_live in record {
        begun = begun_as next options fallback_seed id (Event.Feed id attempt most) events live.start refl refl l.begun;
        messages =
            subst (λ (all : List InputMessage). HasInput (Event.Feed id attempt most ∷ events) id live.coming live.proposed live.start.new live.start.journal all) (append-nil (live.read ++ live.unread))
            (input_on events id (Event.Feed id attempt most) live.coming live.coming live.proposed live.start.new live.start.journal (live.read ++ live.unread) [] refl refl refl tt l.messages);
        holds = holds_more live (take most (input_left events id)) l.holds;
        reads = now.input;
        machine = l.machine;
        asked = now.asked;
      }

  -- ---- reading

  machine_starts : IsLiveMachine next options fallback_seed id events (record live { bytes = live.held })
  machine_starts = record { begun = l.begun; messages = l.messages; holds = start_read refl; reads = l.reads; machine = l.machine; asked = l.asked }

  module _ (some still : List InputMessage) (kept : Bytes) (parts : live.unread ≡ some ++ still) (bytes : live.held ≡ input_bytes (map piece_of some) ++ kept) where
    all_messages : live.read ++ live.unread ≡ (live.read ++ some) ++ still
    all_messages = ap (λ (rest : List InputMessage). live.read ++ rest) parts ∙ sym (append_assoc live.read some still)

    machine_reads : IsLiveMachine next options fallback_seed id events (after_reading live some still kept)
    machine_reads = record {
      begun = l.begun;
      messages = subst (λ (all : List InputMessage). HasInput events id live.coming live.proposed live.start.new live.start.journal all) all_messages l.messages;
      holds = start_read refl;
      reads = reads_messages events id live.held kept live.read live.unread some still parts bytes l.reads;
      machine = position.reads some still parts;
      asked =
          l.asked ∙ ap (λ (all : List InputMessage). requests_carried all ++ live.machine.written) all_messages
          ∙ ap (λ (written : List Request). requests_carried ((live.read ++ some) ++ still) ++ written) (sym (messages-written live.machine some));
    }

pub machine_stays : MachinesStayLive
machine_stays next options fallback_seed id events live accepted l = record {
  brings = λ event coming old going asks passes. machine_on next options fallback_seed id events live l event coming accepted old going asks passes;
  is_handed = λ attempt most. machine_handed next options fallback_seed id events live l attempt most accepted;
  reads_start = λ e. machine_starts next options fallback_seed id events live l;
  reads = λ some still kept e parts bytes. machine_reads next options fallback_seed id events live l some still kept parts bytes;
}
