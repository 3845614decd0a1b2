-- The rows beside a frame, by the place that its first write tells.
use Rattle.std.proofs.Common.{arith, ◌≡◌, refl, sym, ap, subst, ◌∙◌, inl, inr, ℕ, suc, ◌-◌, ◌^◌, ◌<◌, nat_le, Bool, true, false, not, ◌&&◌, if◌then◌else◌, List, [], ◌∷◌, ◌++◌, append-nil, length, Option, Some, None, is_some, IsErrAnd, Result, Ok, Err}
use Rattle.std.proofs.lemmas.Bool.{le-leb, leb-true}
use Rattle.journal_model.specs.Notification.{Text}
use Rattle.journal_model.specs.Event.{Event, Frame}
use Rattle.journal_model.specs.Journal.{entries_of}
use Rattle.journal_model.specs.declared.cause.Cause.{Cause}
use Rattle.journal_model.specs.Cause.{is_empty, those_that_hold}
use Rattle.delivery_laws.specs.Message.{message_of}
use Rattle.delivery_laws.specs.Outbox.{asks_others, number_causes, Outbox, OwedRow, rows_put}
use Rattle.store_tables.specs.declared.row.Write.{Write}
use Rattle.store_model.specs.Writes.{writes_of}
use Rattle.store_refusals.specs.declared.refusal.Refusal.{Refusal}
use Rattle.store_refusals.specs.declared.refusal.Refusal.TheVariants as refusal
use Rattle.store_refusals.specs.RefusalConditions.{IsRefused}
use Rattle.store_steps.specs.declared.frame.PreparedFrame.{PreparedFrame}
use Rattle.store_steps.specs.PreparedFrames.{IsFrameTaken}
use Rattle.store_deliveries.specs.PreparedRows.{AddsRows, place_asked, put_writes, put_writes_of_all, rows_at, rows_of_event}
use Rattle.store_deliveries.proofs.Asking.{places_asked}

-- ---- a number is left, or none

pub room_left : (given : ℕ) → (given ≡ 2 ^ 64 - 1 → ⊥) → given < 2 ^ 64 → those_that_hold ((nat_le (2 ^ 64 - 1) given, Cause.NumbersUsedUp) ∷ []) ≡ []
room_left given other l = by_test (nat_le (2 ^ 64 - 1) given) refl
  where
    by_test : (b : Bool) → nat_le (2 ^ 64 - 1) given ≡ b → those_that_hold ((b, Cause.NumbersUsedUp) ∷ []) ≡ []
    by_test true e = let more = leb-true (2 ^ 64 - 1) given e in absurd (other (omega (arith, more, l)))
    by_test false e = refl

pub none_left : (given : ℕ) → given ≡ 2 ^ 64 - 1 → IsRefused (those_that_hold ((nat_le (2 ^ 64 - 1) given, Cause.NumbersUsedUp) ∷ [])) (refusal.Cause Cause.NumbersUsedUp)
none_left given e =
    subst (λ (b : Bool). IsRefused (those_that_hold ((b, Cause.NumbersUsedUp) ∷ [])) (refusal.Cause Cause.NumbersUsedUp)) (sym (le-leb (2 ^ 64 - 1) given (omega (arith, e)))) (inl refl)

-- ---- by the place

asks_by_rows : (events : List Event) (number : ℕ) (id : Text) (attempt : ℕ) (frame : Frame) → asks_others (Event.Move id attempt frame) ≡ not (is_empty (rows_put events number (Event.Move id attempt frame)))
asks_by_rows events number id attempt (Frame.Command request) =
    by_message (is_some (message_of request)) (record { number = number; sender = id; place = suc (length (entries_of events id)) })
  where
    by_message : (b : Bool) (row : OwedRow) → b ≡ not (is_empty (if b then row ∷ [] else []))
    by_message true row = refl
    by_message false row = refl
asks_by_rows events number id attempt _ = refl

some_rows : (number : ℕ) (id : Text) (o : Option ℕ) → not (is_empty (rows_at number id o)) ≡ is_some o
some_rows number id None = refl
some_rows number id (Some place) = refl

module _ (events : List Event) (outbox : Outbox) (id : Text) (attempt : ℕ) (frame : Frame) where
  abbrev event : Event
  event = Event.Move id attempt frame

  abbrev place : Option ℕ
  place = place_asked (writes_of events event)

  rows_are : rows_of_event events outbox event ≡ rows_at (suc outbox.given) id place
  rows_are = places_asked events (suc outbox.given) id attempt frame

  asks_are : asks_others event ≡ is_some place
  asks_are =
      asks_by_rows events (suc outbox.given) id attempt frame ∙ ap (λ (rows : List OwedRow). not (is_empty rows)) rows_are ∙ some_rows (suc outbox.given) id place

  module _ (made : PreparedFrame) (taken : IsFrameTaken events id attempt frame made) where
    place_told : place ≡ place_asked made.writes.items
    place_told = ap place_asked (sym taken.writes)

    pub causes_some : (p : ℕ) → place_asked made.writes.items ≡ Some p → number_causes outbox event ≡ those_that_hold ((nat_le (2 ^ 64 - 1) outbox.given, Cause.NumbersUsedUp) ∷ [])
    causes_some p e =
        ap (λ (b : Bool). those_that_hold ((b && nat_le (2 ^ 64 - 1) outbox.given, Cause.NumbersUsedUp) ∷ [])) (asks_are ∙ ap (λ (o : Option ℕ). is_some o) (place_told ∙ e))

    pub causes_none : place_asked made.writes.items ≡ None → number_causes outbox event ≡ []
    causes_none e =
        ap (λ (b : Bool). those_that_hold ((b && nat_le (2 ^ 64 - 1) outbox.given, Cause.NumbersUsedUp) ∷ [])) (asks_are ∙ ap (λ (o : Option ℕ). is_some o) (place_told ∙ e))

    pub with_some : (p : ℕ) → place_asked made.writes.items ≡ Some p → (writes : List Write)
        → writes ≡ made.writes.items ++ put_writes (record { number = suc outbox.given; sender = id; place = p })
        → writes ≡ made.writes.items ++ put_writes_of_all (rows_of_event events outbox event)
    with_some p e writes is =
        is ∙ sym (ap (λ (rows : List OwedRow). made.writes.items ++ put_writes_of_all rows) (rows_are ∙ ap (rows_at (suc outbox.given) id) (place_told ∙ e)))

    pub with_none : place_asked made.writes.items ≡ None → made.writes.items ≡ made.writes.items ++ put_writes_of_all (rows_of_event events outbox event)
    with_none e =
        sym (append-nil made.writes.items)
        ∙ sym (ap (λ (rows : List OwedRow). made.writes.items ++ put_writes_of_all rows) (rows_are ∙ ap (rows_at (suc outbox.given) id) (place_told ∙ e)))

pub refused_rows : (events : List Event) (outbox : Outbox) (it : Event) (made : PreparedFrame) (e : Refusal) (r : Result PreparedFrame Refusal) → IsErrAnd r (λ why. why ≡ e) → IsRefused (number_causes outbox it) e
    → AddsRows events outbox it made r
refused_rows events outbox it made e (Ok all) gives refused = absurd gives
refused_rows events outbox it made e (Err why) gives refused = subst (IsRefused (number_causes outbox it)) (sym gives) refused

-- a circumstance is met whatever the causes are
pub any_causes : (causes : List Cause) (why : Refusal) → IsRefused [] why → IsRefused causes why
any_causes causes why (inl e) = cc
any_causes causes why (inr t) = inr t
