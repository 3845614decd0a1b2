-- What the live attempt was begun with, and which messages its input has, after one more event and after a turn.
use Rattle.std.proofs.Common.{◌≡◌, refl, sym, ap, ap₂, subst, ◌∙◌, ℕ, ◌+◌, Bool, true, false, List, [], ◌∷◌, ◌++◌, append-nil, append_assoc, length, Option, Some, filter_map, bytes_eq}
use Rattle.std.specs.List.{AllByRecursion}
use Rattle.std.proofs.lemmas.List.{length-map}
use Rattle.std.proofs.lemmas.Slice.Eq.{bytes_eq-Decides}
use Rattle.protocol_types.specs.declared.message_type.MessageType.TheVariants.{Start}
use Rattle.journal_model.specs.declared.invocation.NewInvocation.{NewInvocation}
use Rattle.journal_model.specs.declared.value.NonEmptyValue.{NonEmptyValue}
use Rattle.journal_model.specs.Notification.{Text, Bytes, Arrival}
use Rattle.journal_model.specs.State.{StateMap, state_after}
use Rattle.journal_model.specs.Spelling.{frame_bytes}
use Rattle.journal_model.specs.Start.{attempts_since_entry, since_first, start_payload_of, start_payload_for, start_payload}
use Rattle.journal_model.specs.Request.{Request}
use Rattle.journal_model.specs.Run.{Handler, Invocation, BeginsRun}
use Rattle.journal_model.specs.Event.{Event, Frame}
use Rattle.journal_model.specs.Journal.{Entry, begins, invoked_by, invocation_begun, is_open, entries_of, object_state, starting_state, recorded_requests, recorded_arrivals}
use Rattle.journal_model.specs.Attempt.{begins_attempt}
use Rattle.journal_model.specs.Cause.{IsAccepted}
use Rattle.journal_laws.proofs.ObjectState.{find-passes, state_of_open, open_when_accepted}
use Rattle.input_laws.specs.Message.{InputMessage, CarriesInput, CarriesRequest, CarriesArrival, CarriesOutcome, arrivals_carried, requests_carried, message_of, IsBroughtBy}
use Rattle.input_laws.proofs.Events.{added_by, entries_now, itself}
use Rattle.input_laws.proofs.Telling.{entries_arrivals, entries_requests}
use Rattle.run_laws.specs.HeldInvocations.{Holds}
use Rattle.live_laws.specs.RequestsInFlight.{PassesOn}
use Rattle.live_laws.specs.BegunAttempts.{begun_last, begun_earlier, journal_after, BegunWith, proposals_in, IsProposed, IsLater, HasInput}

-- ---- the start

module _ (id : Text) (now : ℕ) (events : List Event) (new : NewInvocation) (accepted : IsAccepted (Event.Begin id now ∷ events)) (is : invocation_begun events id ≡ Some new) where
  opened : is_open events id ≡ true
  opened = open_when_accepted events (Event.Begin id now) id refl (itself id) accepted.0

  same : new.id ≡ id
  same = (bytes_eq-Decides new.id id).0 (find-passes (λ (other : NewInvocation). bytes_eq other.id id) (filter_map invoked_by events) new is)

  state_then : object_state events new.object ≡ state_after (recorded_requests events id) (starting_state events id)
  state_then =
      state_of_open events new accepted.1 (subst (λ (x : Text). invocation_begun events x ≡ Some new) (sym same) is) (subst (λ (x : Text). is_open events x ≡ true) (sym same) opened)
      ∙ ap (λ (x : Text). state_after (recorded_requests events x) (starting_state events x)) same

  pub begun_with : BegunWith (Event.Begin id now ∷ events) id new (journal_after events id) (frame_bytes Start (start_payload events id now))
  begun_with = record {
    earlier = events;
    now = now;
    begun = begun_last;
    new_is = is;
    journal_is = refl;
    start_is =
        ap (λ (payload : Bytes). frame_bytes Start payload)
        (ap (λ (o : Option NewInvocation). start_payload_for events o id now) is
        ∙ ap₂ (λ (state : StateMap) (known : ℕ). start_payload_of new state (1 + known) (length (attempts_since_entry events id)) (since_first (attempts_since_entry events id) now))
        (state_then ∙ ap (λ (requests : List Request). state_after requests (starting_state events id)) (sym (entries_requests (entries_of events id) (entries_of events id))))
        (sym (length-map (entries_of events id) (message_of (entries_of events id)))));
  }

pub begun_on : (events : List Event) (id : Text) (event : Event) (new : NewInvocation) (journal : List InputMessage) (start : Bytes) → begins id event ≡ false → begins_attempt id event ≡ false
    → BegunWith events id new journal start → BegunWith (event ∷ events) id new journal start
begun_on events id event new journal start old going b = record {
  earlier = b.earlier;
  now = b.now;
  begun = begun_earlier event old going b.begun;
  new_is = b.new_is;
  journal_is = b.journal_is;
  start_is = b.start_is;
}

-- where the invocation is in the run, its journal begins the run
pub journal_begins : (next : Handler) (given : Invocation) (id : Text) (events : List Event) → Holds next given id events
    → BeginsRun next given (arrivals_carried (journal_after events id)) (requests_carried (journal_after events id))
journal_begins next given id events h =
    subst (λ (arrivals : List Arrival). BeginsRun next given arrivals (requests_carried (journal_after events id))) (sym (entries_arrivals (entries_of events id) (entries_of events id)))
    (subst (λ (requests : List Request). BeginsRun next given (recorded_arrivals events id) requests) (sym (entries_requests (entries_of events id) (entries_of events id))) h.begins)

-- ---- what was proposed

proposed_more : (proposed more : List (ℕ × NonEmptyValue)) (outcome : ℕ × NonEmptyValue) → IsProposed proposed outcome → IsProposed (proposed ++ more) outcome
proposed_more proposed more outcome p = record {
  before = p.before;
  behind = p.behind ++ more;
  parts = ap (λ (some : List (ℕ × NonEmptyValue)). some ++ more) p.parts ∙ append_assoc p.before (outcome ∷ p.behind) more;
}

all_more : (proposed more outcomes : List (ℕ × NonEmptyValue)) → AllByRecursion (IsProposed proposed) outcomes → AllByRecursion (IsProposed (proposed ++ more)) outcomes
all_more proposed more [] all = tt
all_more proposed more (outcome ∷ outcomes) all = (proposed_more proposed more outcome all.0, all_more proposed more outcomes all.1)

all_new : (proposed outcomes : List (ℕ × NonEmptyValue)) → AllByRecursion (IsProposed (proposed ++ outcomes)) outcomes
all_new proposed [] = tt
all_new proposed (outcome ∷ outcomes) = (
  record { before = proposed; behind = outcomes; parts = refl },
  subst (λ (all : List (ℕ × NonEmptyValue)). AllByRecursion (IsProposed all) outcomes) (append_assoc proposed (outcome ∷ []) outcomes) (all_new (proposed ++ outcome ∷ []) outcomes),
)

all_append : (P : ℕ × NonEmptyValue → Type 0) (xs ys : List (ℕ × NonEmptyValue)) → AllByRecursion P xs → AllByRecursion P ys → AllByRecursion P (xs ++ ys)
all_append P [] ys a b = b
all_append P (x ∷ xs) ys a b = (a.0, all_append P xs ys a.1 b)

proposals-append : (xs ys : List Frame) → proposals_in (xs ++ ys) ≡ proposals_in xs ++ proposals_in ys
proposals-append [] ys = refl
proposals-append (Frame.RunOutcome number value true ∷ xs) ys = ap (λ (rest : List (ℕ × NonEmptyValue)). (number, value) ∷ rest) (proposals-append xs ys)
proposals-append (x ∷ xs) ys = proposals-append xs ys

proposals_behind : (P : ℕ × NonEmptyValue → Type 0) (frame : Frame) (frames : List Frame) → AllByRecursion P (proposals_in (frame ∷ frames)) → AllByRecursion P (proposals_in frames)
proposals_behind P (Frame.RunOutcome number value true) frames all = all.1
proposals_behind P frame frames all = all

-- ---- one more event

module _ (id : Text) (proposed : List (ℕ × NonEmptyValue)) where
  passes_proposals : (event : Event) (coming coming' : List Frame) → begins_attempt id event ≡ false → PassesOn id event coming coming'
      → AllByRecursion (IsProposed proposed) (proposals_in coming) → AllByRecursion (IsProposed proposed) (proposals_in coming')
  passes_proposals (Event.Move other attempt frame) coming coming' going passes all = by_id (bytes_eq other id) refl
    where
      by_id : (b : Bool) → bytes_eq other id ≡ b → AllByRecursion (IsProposed proposed) (proposals_in coming')
      by_id true e = proposals_behind (IsProposed proposed) frame coming' (subst (λ (some : List Frame). AllByRecursion (IsProposed proposed) (proposals_in some)) (passes.0 e) all)
      by_id false e = subst (λ (some : List Frame). AllByRecursion (IsProposed proposed) (proposals_in some)) (sym (passes.1 e)) all
  passes_proposals (Event.Begin other now) coming coming' going passes all =
      subst (λ (some : List Frame). AllByRecursion (IsProposed proposed) (proposals_in some)) (sym (passes.1 going)) all
  passes_proposals event coming coming' going passes all = subst (λ (some : List Frame). AllByRecursion (IsProposed proposed) (proposals_in some)) (sym passes) all

  brought_one : (event : Event) (entries : List Entry) (coming coming' : List Frame) → PassesOn id event coming coming' → AllByRecursion (IsProposed proposed) (proposals_in coming)
      → (message : InputMessage) → IsBroughtBy entries id event message → IsLater entries proposed message
  brought_one event entries coming coming' passes all (CarriesArrival type arrival) b = (entries, [], sym (append-nil entries), b)
  brought_one (Event.Move other attempt (Frame.RunOutcome taken outcome true)) entries coming coming' passes all (CarriesOutcome number value) b =
      let (e, f, g) = b in
      let first : AllByRecursion (IsProposed proposed) ((taken, outcome) ∷ proposals_in coming') =
      subst (λ (some : List Frame). AllByRecursion (IsProposed proposed) (proposals_in some)) (passes.0 e) all in
      subst (λ (n : ℕ). IsProposed proposed (n, value)) f (subst (λ (v : NonEmptyValue). IsProposed proposed (taken, v)) g first.0)
  brought_one event entries coming coming' passes all message b = absurd b

  brought_all : (event : Event) (entries : List Entry) (coming coming' : List Frame) → PassesOn id event coming coming' → AllByRecursion (IsProposed proposed) (proposals_in coming)
      → (messages : List InputMessage) → AllByRecursion (IsBroughtBy entries id event) messages → AllByRecursion (IsLater entries proposed) messages
  brought_all event entries coming coming' passes all [] b = tt
  brought_all event entries coming coming' passes all (message ∷ messages) b =
      (brought_one event entries coming coming' passes all message b.0, brought_all event entries coming coming' passes all messages b.1)

later_one : (entries added : List Entry) (proposed more : List (ℕ × NonEmptyValue)) (message : InputMessage) → IsLater entries proposed message → IsLater (entries ++ added) (proposed ++ more) message
later_one entries added proposed more (CarriesArrival type arrival) (some, rest, parts, is) =
    (some, rest ++ added, ap (λ (all : List Entry). all ++ added) parts ∙ append_assoc some rest added, is)
later_one entries added proposed more (CarriesOutcome number value) p = proposed_more proposed more (number, value) p
later_one entries added proposed more (CarriesInput new) p = absurd p
later_one entries added proposed more (CarriesRequest request) p = absurd p

later_all : (entries added : List Entry) (proposed more : List (ℕ × NonEmptyValue)) (messages : List InputMessage) → AllByRecursion (IsLater entries proposed) messages
    → AllByRecursion (IsLater (entries ++ added) (proposed ++ more)) messages
later_all entries added proposed more [] all = tt
later_all entries added proposed more (message ∷ messages) all = (later_one entries added proposed more message all.0, later_all entries added proposed more messages all.1)

append_later : (P : InputMessage → Type 0) (xs ys : List InputMessage) → AllByRecursion P xs → AllByRecursion P ys → AllByRecursion P (xs ++ ys)
append_later P [] ys a b = b
append_later P (x ∷ xs) ys a b = (a.0, append_later P xs ys a.1 b)

-- an attempt that was begun now has its journal alone
pub input_first : (events : List Event) (id : Text) (new : NewInvocation) (journal : List InputMessage) → HasInput events id [] [] new journal (CarriesInput new ∷ journal)
input_first events id new journal = record {
  later = [];
  parts = ap (λ (rest : List InputMessage). CarriesInput new ∷ rest) (sym (append-nil journal));
  later_are = tt;
  coming_are = tt;
}

pub input_on : (events : List Event) (id : Text) (event : Event) (coming coming' : List Frame) (proposed : List (ℕ × NonEmptyValue)) (new : NewInvocation) (journal messages more : List InputMessage)
    → begins id event ≡ false → begins_attempt id event ≡ false → PassesOn id event coming coming' → AllByRecursion (IsBroughtBy (entries_of (event ∷ events) id) id event) more
    → HasInput events id coming proposed new journal messages → HasInput (event ∷ events) id coming' proposed new journal (messages ++ more)
input_on events id event coming coming' proposed new journal messages more old going passes brought h = record {
  later = h.later ++ more;
  parts = ap (λ (all : List InputMessage). all ++ more) h.parts ∙ ap (λ (rest : List InputMessage). CarriesInput new ∷ rest) (append_assoc journal h.later more);
  later_are =
      append_later (IsLater (entries_of (event ∷ events) id) proposed) h.later more
      (subst (λ (entries : List Entry). AllByRecursion (IsLater entries proposed) h.later) (sym (entries_now event events id old))
      (subst (λ (all : List (ℕ × NonEmptyValue)). AllByRecursion (IsLater (entries_of events id ++ added_by events id event) all) h.later) (append-nil proposed)
      (later_all (entries_of events id) (added_by events id event) proposed [] h.later h.later_are)))
      (brought_all id proposed event (entries_of (event ∷ events) id) coming coming' passes h.coming_are more brought);
  coming_are = passes_proposals id proposed event coming coming' going passes h.coming_are;
}

-- and after a turn it has proposed what it has sent too
pub input_sent : (events : List Event) (id : Text) (coming sent : List Frame) (proposed : List (ℕ × NonEmptyValue)) (new : NewInvocation) (journal messages : List InputMessage)
    → HasInput events id coming proposed new journal messages → HasInput events id (coming ++ sent) (proposed ++ proposals_in sent) new journal messages
input_sent events id coming sent proposed new journal messages h = record {
  later = h.later;
  parts = h.parts;
  later_are =
      subst (λ (entries : List Entry). AllByRecursion (IsLater entries (proposed ++ proposals_in sent)) h.later) (append-nil (entries_of events id))
      (later_all (entries_of events id) [] proposed (proposals_in sent) h.later h.later_are);
  coming_are =
      subst (λ (outcomes : List (ℕ × NonEmptyValue)). AllByRecursion (IsProposed (proposed ++ proposals_in sent)) outcomes) (sym (proposals-append coming sent))
      (all_append (IsProposed (proposed ++ proposals_in sent)) (proposals_in coming) (proposals_in sent)
      (all_more proposed (proposals_in sent) (proposals_in coming) h.coming_are) (all_new proposed (proposals_in sent)));
}
