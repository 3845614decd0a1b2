-- The machine among the messages of its input.
use Rattle.std.proofs.Common.{◌≡◌, refl, sym, ap, ap₂, ◌∙◌, subst, ℕ, ◌⊎◌, inl, inr, List, [], ◌∷◌, ◌++◌, append_assoc, append-nil, map, Some}
use Rattle.journal_model.specs.Notification.{Arrival}
use Rattle.journal_model.specs.Value.{result_of_value}
use Rattle.journal_model.specs.Request.{Request}
use Rattle.journal_model.specs.State.{StartState}
use Rattle.journal_model.specs.History.{requests_of}
use Rattle.journal_model.specs.Journal.{Entry, Recorded, Arrived, completion, requests_in, arrivals_in}
use Rattle.journal_model.specs.Run.{Handler, Invocation, Progress}
use Rattle.input_laws.specs.Message.{InputMessage, CarriesInput, CarriesRequest, CarriesArrival, CarriesOutcome, arrivals_carried, requests_carried}
use Rattle.input_laws.proofs.News.{requests_carried-append}
use Rattle.input_laws.proofs.Telling.{arrivals_carried-append}
use Rattle.live_laws.specs.Live.{IsPosition}
use Rattle.attempt_model.specs.Machine.{Machine, machine_at_start, with_arrival}
use Rattle.attempt_model.specs.Attempts.{with_entry, with_entries}
use Rattle.attempt_model.specs.Simulation.{IsShown, Stands}
use Rattle.attempt_laws.proofs.Standing.{begins, reads_on}
use Rattle.attempt_laws.proofs.Following.{reads_journal}
use Rattle.live_laws.specs.MachinePosition.{entry_carried, entries_carried, with_messages, HasOnlyRead, IsInRun, IsMachineAt}
use Rattle.live_laws.specs.MachineTurn.{HasPosition}
use Rattle.live_laws.specs.PositionLaws.{MachinesHavePositions}

-- ---- messages as entries

carried_requests : (messages : List InputMessage) → requests_in (entries_carried messages) ≡ requests_carried messages
carried_requests [] = refl
carried_requests (CarriesInput new ∷ messages) = carried_requests messages
carried_requests (CarriesRequest request ∷ messages) = ap (λ (rest : List Request). request ∷ rest) (carried_requests messages)
carried_requests (CarriesArrival type arrival ∷ messages) = carried_requests messages
carried_requests (CarriesOutcome number value ∷ messages) = carried_requests messages

carried_arrivals : (messages : List InputMessage) → arrivals_in (entries_carried messages) ≡ arrivals_carried messages
carried_arrivals [] = refl
carried_arrivals (CarriesInput new ∷ messages) = carried_arrivals messages
carried_arrivals (CarriesRequest request ∷ messages) = carried_arrivals messages
carried_arrivals (CarriesArrival type arrival ∷ messages) = ap (λ (rest : List Arrival). arrival ∷ rest) (carried_arrivals messages)
carried_arrivals (CarriesOutcome number value ∷ messages) = ap (λ (rest : List Arrival). completion number (result_of_value value) ∷ rest) (carried_arrivals messages)

entries_carried-append : (xs ys : List InputMessage) → entries_carried (xs ++ ys) ≡ entries_carried xs ++ entries_carried ys
entries_carried-append [] ys = refl
entries_carried-append (x ∷ xs) ys =
    ap (λ (rest : List Entry). entry_carried x ++ rest) (entries_carried-append xs ys) ∙ sym (append_assoc (entry_carried x) (entries_carried xs) (entries_carried ys))

entries-append : (m : Machine) (xs ys : List Entry) → with_entries m (xs ++ ys) ≡ with_entries (with_entries m xs) ys
entries-append m [] ys = refl
entries-append m (x ∷ xs) ys = entries-append (with_entry m x) xs ys

messages-append : (m : Machine) (xs ys : List InputMessage) → with_messages m (xs ++ ys) ≡ with_messages (with_messages m xs) ys
messages-append m xs ys = ap (with_entries m) (entries_carried-append xs ys) ∙ entries-append m (entries_carried xs) (entries_carried ys)

entries-written : (m : Machine) (entries : List Entry) → (with_entries m entries).written ≡ m.written
entries-written m [] = refl
entries-written m (Recorded request ∷ entries) = entries-written (with_entry m (Recorded request)) entries
entries-written m (Arrived arrival ∷ entries) = entries-written (with_arrival m arrival) entries

-- what is read is not written
pub messages-written : (m : Machine) (messages : List InputMessage) → (with_messages m messages).written ≡ m.written
messages-written m messages = entries-written m (entries_carried messages)

-- ---- messages that are read before the first call

pub only_read : (shown : StartState) (read : List InputMessage) (calls : ℕ) (m : Machine) → HasOnlyRead shown read calls m
    → m ≡ machine_at_start shown (map Some (requests_carried read)) (arrivals_carried read)
only_read shown read calls m only =
    only.reads ∙ reads_journal shown (entries_carried read)
    ∙ ap₂ (λ (requests : List Request) (arrivals : List Arrival). machine_at_start shown (map Some requests) arrivals) (carried_requests read) (carried_arrivals read)

-- ---- messages that are read in the run

pub none_before : {A : Type 0} (xs ys : List A) → xs ++ ys ≡ [] → xs ≡ []
none_before [] ys e = refl
none_before (x ∷ xs) ys e = cc

pub none_behind : {A : Type 0} (xs ys : List A) → xs ++ ys ≡ [] → ys ≡ []
none_behind [] ys e = e
none_behind (x ∷ xs) ys e = cc

module _ (next : Handler) (given : Invocation) where
  stands_on : (requests : List Request) (arrivals : List Arrival) (entries : List Entry) (calls : ℕ) (m : Machine) → requests_in entries ≡ [] → Stands next given requests arrivals calls m
      → Stands next given requests (arrivals ++ arrivals_in entries) calls (with_entries m entries)
  stands_on requests arrivals [] calls m none stands = subst (λ (all : List Arrival). Stands next given requests all calls m) (sym (append-nil arrivals)) stands
  stands_on requests arrivals (Recorded request ∷ entries) calls m none stands = cc
  stands_on requests arrivals (Arrived arrival ∷ entries) calls m none stands =
      subst (λ (all : List Arrival). Stands next given requests all calls (with_entries (with_arrival m arrival) entries)) (append_assoc arrivals (arrival ∷ []) (arrivals_in entries))
      (stands_on requests (arrivals ++ arrival ∷ []) entries calls (with_arrival m arrival) none (reads_on next given requests arrivals arrival calls m stands))

  runs_on : (read some still : List InputMessage) (calls : ℕ) (m : Machine) → IsInRun next given read (some ++ still) calls m → IsInRun next given (read ++ some) still calls (with_messages m some)
  runs_on read some still calls m at = record {
    all_read = none_behind (requests_carried some) (requests_carried still) both;
    stands =
        subst (λ (requests : List Request). Stands next given requests (arrivals_carried (read ++ some)) calls (with_messages m some))
        (sym (requests_carried-append read some ∙ ap (λ (more : List Request). requests_carried read ++ more) none ∙ append-nil (requests_carried read)))
        (subst (λ (arrivals : List Arrival). Stands next given (requests_carried read) arrivals calls (with_messages m some))
        (ap (λ (more : List Arrival). arrivals_carried read ++ more) (carried_arrivals some) ∙ sym (arrivals_carried-append read some))
        (stands_on (requests_carried read) (arrivals_carried read) (entries_carried some) calls m (carried_requests some ∙ none) at.stands));
  }
    where
      both : requests_carried some ++ requests_carried still ≡ []
      both = sym (requests_carried-append some still) ∙ at.all_read

      none : requests_carried some ≡ []
      none = none_before (requests_carried some) (requests_carried still) both

-- ---- positions

run_position : (next : Handler) (given : Invocation) (read unread : List InputMessage) (calls : ℕ) (m : Machine) → (at : IsInRun next given read unread calls m)
    → IsPosition next given read unread calls at.stands.requests.left m.written
run_position next given read unread calls m at = record {
  going = ap (λ (p : Progress). p.ending) at.stands.going;
  requests = ap (λ (p : Progress). requests_of p.steps ++ at.stands.requests.left) at.stands.going ∙ at.stands.requests.requests;
  replays = by_replay at.stands.requests.replays;
}
  where
    by_replay : (at.stands.requests.left ≡ []) ⊎ (m.written ≡ []) → ((at.stands.requests.left ≡ []) × (requests_carried unread ≡ [])) ⊎ (m.written ≡ [])
    by_replay (inl e) = inl (e, at.all_read)
    by_replay (inr e) = inr e

module _ (next : Handler) (given : Invocation) (shown : StartState) (read unread : List InputMessage) (calls : ℕ) (m : Machine) where
  reads_more : IsMachineAt next given shown read unread calls m → (some still : List InputMessage) → unread ≡ some ++ still
      → IsMachineAt next given shown (read ++ some) still calls (with_messages m some)
  reads_more (inl only) some still parts =
      inl (record { none_asked = only.none_asked; reads = ap (λ (before : Machine). with_messages before some) only.reads ∙ sym (messages-append (machine_at_start shown [] []) read some) })
  reads_more (inr at) some still parts = inr (runs_on next given read some still calls m (subst (λ (all : List InputMessage). IsInRun next given read all calls m) parts at))

  stands_here : IsMachineAt next given shown read unread calls m → requests_carried unread ≡ [] → IsShown given.start (requests_carried read) shown → IsInRun next given read unread calls m
  stands_here (inl only) none shows = record {
    all_read = none;
    stands =
        subst (λ (n : ℕ). Stands next given (requests_carried read) (arrivals_carried read) n m) (sym only.none_asked)
        (subst (λ (some : Machine). Stands next given (requests_carried read) (arrivals_carried read) 0 some) (sym (only_read shown read calls m only))
        (begins next given shown (requests_carried read) (arrivals_carried read) shows));
  }
  stands_here (inr at) none shows = at

  position_here : IsMachineAt next given shown read unread calls m → HasPosition next given shown read unread calls m
  position_here (inl only) =
      let is = only_read shown read calls m only in
      let none : m.written ≡ [] = ap (λ (some : Machine). some.written) is in record {
        left = requests_carried read;
        left_is = ap (λ (some : Machine). some.left) is;
        position =
            subst (λ (n : ℕ). IsPosition next given read unread n (requests_carried read) m.written) (sym only.none_asked)
            (record { going = refl; requests = sym (append-nil (requests_carried read)) ∙ ap (λ (some : List Request). requests_carried read ++ some) (sym none); replays = inr none });
        reads = reads_more (inl only);
        stands = stands_here (inl only);
      }
  position_here (inr at) = record {
    left = at.stands.requests.left;
    left_is = at.stands.requests.are_requests;
    position = run_position next given read unread calls m at;
    reads = reads_more (inr at);
    stands = stands_here (inr at);
  }

pub machine_position : MachinesHavePositions
machine_position next given shown read unread calls m at = position_here next given shown read unread calls m at
