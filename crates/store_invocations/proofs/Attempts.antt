-- The attempts since the last entry are among all that were begun.
use Rattle.std.proofs.Common.{ℕ, ◌+◌, ◌≤◌, arith, Bool, true, false, if◌then◌else◌, List, [], ◌∷◌, ◌++◌, length, length-append, bytes_eq}
use Rattle.journal_model.specs.Notification.{Text}
use Rattle.journal_model.specs.State.{StateMap}
use Rattle.journal_model.specs.Event.{Event}
use Rattle.journal_model.specs.Journal.{is_of, entries_from, entries_added, starting_state}
use Rattle.journal_model.specs.Attempt.{begins_attempt, attempts_begun}
use Rattle.journal_model.specs.Start.{is_some_entry, moment_begun, begun_since_entry, attempts_since_entry}

none_begun : (b : Bool) (none : List ℕ) → length none ≤ 0 → length (if b then none else none) ≤ 0
none_begun true none e = e
none_begun false none e = e

one_begun : (event : Event) (id : Text) → length (if is_of id event then moment_begun event else []) ≤ (if begins_attempt id event then 1 else 0)
one_begun (Event.Begin other now) id = by_test (bytes_eq other id)
  where
    by_test : (b : Bool) → length (if b then now ∷ [] else []) ≤ (if b then 1 else 0)
    by_test true = omega arith
    by_test false = omega arith
one_begun event id = none_begun (is_of id event) [] (omega arith)

one_more : (b : Bool) (some more : List ℕ) (one all : ℕ) → length some ≤ all → length more ≤ one → length (if b then [] else some ++ more) ≤ one + all
one_more true some more one all before last = omega arith
one_more false some more one all before last = let both = length-append some more in omega arith

since_among : (start : StateMap) (events : List Event) (id : Text) → length (begun_since_entry start events id) ≤ attempts_begun events id
since_among start [] id = omega arith
since_among start (event ∷ earlier) id =
    one_more (is_some_entry (entries_added start earlier id event (entries_from start earlier id))) (begun_since_entry start earlier id) (if is_of id event then moment_begun event else [])
    (if begins_attempt id event then 1 else 0) (attempts_begun earlier id) (since_among start earlier id) (one_begun event id)

pub attempts_among : (events : List Event) (id : Text) → length (attempts_since_entry events id) ≤ attempts_begun events id
attempts_among events id = since_among (starting_state events id) events id
