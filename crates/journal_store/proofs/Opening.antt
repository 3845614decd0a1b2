-- A store that is opened: all attempts are stopped.
use Rattle.std.proofs.Common.{◌≡◌, ℕ, refl, sym, ap, subst, ◌∙◌, Bool, true, false, not, ◌&&◌, if◌then◌else◌, List, [], ◌∷◌, ◌++◌, filter_map, Option, Some, None, is_some, bytes_eq}
use Rattle.std.specs.List.{find}
use Rattle.std.proofs.lemmas.Bool.{eq-eqb}
use Rattle.std.proofs.lemmas.Slice.Eq.{bytes_eq-Decides}
use Rattle.sqlite.specs.State.{State}
use Rattle.journal_model.specs.Notification.{Text}
use Rattle.journal_model.specs.declared.invocation.NewInvocation.{NewInvocation}
use Rattle.journal_model.specs.Event.{Event}
use Rattle.journal_model.specs.Journal.{invocation_begun, invoked_by, is_open, object_of}
use Rattle.journal_model.specs.Attempt.{is_live, live_attempt}
use Rattle.journal_model.specs.Cause.{after_open, causes_of, stop_of, stops_of, IsAccepted}
use Rattle.journal_model.specs.declared.cause.Cause.TheVariants.{UnknownInvocation, InvocationClosed, AttemptNotLive}
use Rattle.journal_laws.proofs.ObjectState.{begin_when_new}
use Rattle.store_tables.specs.Records.{Holds, no_records}
use Rattle.store_model.proofs.Keeping.{kept_at_first}
use Rattle.store_invocations.specs.Rows.{IsStoreOf}
use Rattle.store_live.specs.Attempts.{ByInvocation}
use Rattle.due_laws.proofs.Opened.{live_open, unknown_dead}
use Rattle.journal_store.specs.StoreStanding.{Stands}
use Rattle.journal_store.proofs.Standing.{unwritten}
use Rattle.journal_store.proofs.Quiet.{none_written}

-- ---- which attempts are live behind the stops

-- whether one of these has the id
abbrev is_among : Text → List NewInvocation → Bool
is_among id news = is_some (find (λ (new : NewInvocation). bytes_eq new.id id) news)

none_anyway : (b : Bool) (o : Option ℕ) → o ≡ None → (if b then None else o) ≡ None
none_anyway true o e = refl
none_anyway false o e = e

one_stopped : (events : List Event) (new : NewInvocation) (more : List NewInvocation) (id : Text) (o : Option ℕ) → live_attempt events new.id ≡ o
    → live_attempt (stops_of events more ++ events) id ≡ (if is_among id more then None else live_attempt events id)
    → live_attempt ((stop_of new.id o ++ stops_of events more) ++ events) id ≡ (if is_among id (new ∷ more) then None else live_attempt events id)
one_stopped events new more id None e later = later ∙ by_name (bytes_eq new.id id) refl
  where
    by_name : (b : Bool) → bytes_eq new.id id ≡ b
        → (if is_among id more then None else live_attempt events id) ≡ (if is_some (if b then Some new else find (λ (one : NewInvocation). bytes_eq one.id id) more) then None else live_attempt events id)
    by_name true same = none_anyway (is_among id more) (live_attempt events id) (ap (live_attempt events) (sym ((bytes_eq-Decides new.id id).0 same)) ∙ e)
    by_name false other = refl
one_stopped events new more id (Some n) e later = by_name (bytes_eq new.id id)
  where
    by_name : (b : Bool)
        → (if b && true then None else live_attempt (stops_of events more ++ events) id) ≡ (if is_some (if b then Some new else find (λ (one : NewInvocation). bytes_eq one.id id) more) then None else live_attempt events id)
    by_name true = refl
    by_name false = later

stopped_live : (events : List Event) (news : List NewInvocation) (id : Text)
    → live_attempt (stops_of events news ++ events) id ≡ (if is_among id news then None else live_attempt events id)
stopped_live events [] id = refl
stopped_live events (new ∷ more) id = one_stopped events new more id (live_attempt events new.id) refl (stopped_live events more id)

none_live : (events : List Event) (id : Text) → IsAccepted events → live_attempt (after_open events) id ≡ None
none_live events id accepted = stopped_live events (filter_map invoked_by events) id ∙ by_known (is_some (invocation_begun events id)) refl
  where
    by_known : (b : Bool) → is_some (invocation_begun events id) ≡ b → (if b then None else live_attempt events id) ≡ None
    by_known true e = refl
    by_known false e = unknown_dead events id accepted e

-- ---- each stop is accepted

-- no two of them have one id
abbrev AreApart : List NewInvocation → Type 0
AreApart [] = Unit {0}
AreApart (new ∷ more) = (is_among new.id more ≡ false) × AreApart more

begun_apart : (events : List Event) → IsAccepted events → AreApart (filter_map invoked_by events)
begun_apart [] accepted = tt
begun_apart (Event.Invoke new ∷ earlier) accepted = (begin_when_new earlier new accepted.0, begun_apart earlier accepted.1)
begun_apart (event ∷ earlier) accepted = begun_apart earlier accepted.1

passed : (known opened live : Bool) → known ≡ true → opened ≡ true → live ≡ true
    → ((if not known then UnknownInvocation ∷ [] else []) ++ ((if known && not opened then InvocationClosed ∷ [] else []) ++ ((if not live then AttemptNotLive ∷ [] else []) ++ []))) ≡ []
passed false opened live a b c = cc
passed true false live a b c = cc
passed true true false a b c = cc
passed true true true a b c = refl

first_of_both : (a b : Bool) → (a && b) ≡ true → a ≡ true
first_of_both true b e = refl
first_of_both false b e = cc

stop_accepted : (events : List Event) (id : Text) (n : ℕ) → IsAccepted events → live_attempt events id ≡ Some n → causes_of events (Event.Stop id n) ≡ []
stop_accepted events id n accepted e =
    let opened = live_open events id n accepted e in
    let live : is_live events id n ≡ true = rw e (eq-eqb n n refl) in
    passed (is_some (invocation_begun events id)) (is_open events id) (is_live events id n) (first_of_both (is_some (invocation_begun events id)) _ opened) opened live

stop_kept : (events : List Event) (new : NewInvocation) (more : List NewInvocation) (s : State) (o : Option ℕ) → live_attempt events new.id ≡ o
    → is_among new.id more ≡ false → IsStoreOf (stops_of events more ++ events) s → IsStoreOf ((stop_of new.id o ++ stops_of events more) ++ events) s
stop_kept events new more s None e apart store = store
stop_kept events new more s (Some n) e apart store =
    let rest = stops_of events more ++ events in
    let live : live_attempt rest new.id ≡ Some n = stopped_live events more new.id ∙ ap (λ (b : Bool). if b then None else live_attempt events new.id) apart ∙ e in
    unwritten rest (Event.Stop new.id n) s store tt (stop_accepted rest new.id n store.accepted live) (none_written (object_of rest (Event.Stop new.id n)))

stops_kept : (events : List Event) (news : List NewInvocation) (s : State) → IsStoreOf events s → AreApart news → IsStoreOf (stops_of events news ++ events) s
stops_kept events [] s store apart = store
stops_kept events (new ∷ more) s store apart = stop_kept events new more s (live_attempt events new.id) refl apart.0 (stops_kept events more s store apart.1)

-- ---- what stands then

pub opened_left : (events : List Event) (s : State) (attempts : ByInvocation) → attempts ≡ [] → IsStoreOf events s → Stands (after_open events) s attempts
opened_left events s attempts none store = subst (Stands (after_open events) s) (sym none) (record {
  kept = stops_kept events (filter_map invoked_by events) s store (begun_apart events store.accepted);
  live = λ id. none_live events id store.accepted;
  rows = λ id. tt;
})

pub opened_fresh : (s : State) (attempts : ByInvocation) → attempts ≡ [] → Holds s.now.trees no_records → Stands [] s attempts
opened_fresh s attempts none held = subst (Stands [] s) (sym none) (record {
  kept = record { accepted = tt; read = tt; keeps = λ clean is_open. record { accepted = tt; records = no_records; held = held; kept = kept_at_first } };
  live = λ id. refl;
  rows = λ id. tt;
})
