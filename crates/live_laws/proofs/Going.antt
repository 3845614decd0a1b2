-- A live attempt that has read its journal has read all requests of its input.
use Rattle.std.proofs.Common.{◌≡◌, refl, sym, ap, ◌∙◌, ℕ, List, [], ◌∷◌, ◌++◌, append_assoc, append-nil}
use Rattle.std.specs.List.{AllByRecursion}
use Rattle.std.proofs.lemmas.List.{append_cancel_left}
use Rattle.journal_model.specs.declared.options.RunOptions.{RunOptions}
use Rattle.journal_model.specs.declared.value.NonEmptyValue.{NonEmptyValue}
use Rattle.journal_model.specs.Notification.{Text}
use Rattle.journal_model.specs.Request.{Request}
use Rattle.journal_model.specs.Run.{Handler}
use Rattle.journal_model.specs.Event.{Event}
use Rattle.journal_model.specs.Journal.{Entry, entries_of}
use Rattle.input_laws.specs.Message.{InputMessage, CarriesInput, CarriesRequest, CarriesArrival, CarriesOutcome, requests_carried}
use Rattle.input_laws.proofs.News.{requests_carried-append}
use Rattle.live_laws.specs.BegunAttempts.{IsLater}
use Rattle.live_laws.specs.AttemptWithMachine.{AttemptInRun, HasReadJournal, IsLiveMachine}
use Rattle.live_laws.proofs.MachinePosition.{none_behind}

-- ---- the journal is read

-- messages behind the journal carry no request
pub later_none : (entries : List Entry) (proposed : List (ℕ × NonEmptyValue)) (messages : List InputMessage) → AllByRecursion (IsLater entries proposed) messages → requests_carried messages ≡ []
later_none entries proposed [] all = refl
later_none entries proposed (CarriesArrival type arrival ∷ messages) all = later_none entries proposed messages all.1
later_none entries proposed (CarriesOutcome number value ∷ messages) all = later_none entries proposed messages all.1
later_none entries proposed (CarriesInput new ∷ messages) all = absurd all.0
later_none entries proposed (CarriesRequest request ∷ messages) all = absurd all.0

module _ (next : Handler) (options : RunOptions) (fallback_seed : ℕ) (id : Text) (events : List Event) (live : AttemptInRun)
    (l : IsLiveMachine next options fallback_seed id events live) (r : HasReadJournal live) where
  read_requests : requests_carried live.read ≡ requests_carried live.start.journal ++ requests_carried r.later
  read_requests = ap requests_carried r.parts ∙ requests_carried-append live.start.journal r.later

  all_requests : requests_carried live.read ++ requests_carried live.unread ≡ requests_carried live.start.journal
  all_requests =
      sym (requests_carried-append live.read live.unread) ∙ ap requests_carried l.messages.parts ∙ requests_carried-append live.start.journal l.messages.later
      ∙ ap (λ (some : List Request). requests_carried live.start.journal ++ some) (later_none (entries_of events id) live.proposed l.messages.later l.messages.later_are)
      ∙ append-nil (requests_carried live.start.journal)

  none_more : requests_carried r.later ++ requests_carried live.unread ≡ []
  none_more =
      append_cancel_left (requests_carried live.start.journal) (requests_carried r.later ++ requests_carried live.unread) []
      (sym (append_assoc (requests_carried live.start.journal) (requests_carried r.later) (requests_carried live.unread))
      ∙ ap (λ (some : List Request). some ++ requests_carried live.unread) (sym read_requests) ∙ all_requests ∙ sym (append-nil (requests_carried live.start.journal)))

  pub none_unread : requests_carried live.unread ≡ []
  none_unread = none_behind (requests_carried r.later) (requests_carried live.unread) none_more
