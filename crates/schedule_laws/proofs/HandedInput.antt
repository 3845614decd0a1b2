-- What was handed out and what is left are the input.
use Rattle.std.proofs.Common.{◌≡◌, ℕ, zero, suc, Bool, true, false, ◌||◌, if◌then◌else◌, List, [], ◌∷◌, ◌++◌, append-nil, take, drop, Some, None, bytes_eq, refl, sym, ap, subst, ◌∙◌}
use Rattle.std.proofs.lemmas.Slice.Eq.{bytes_eq-Decides}
use Rattle.journal_model.specs.declared.invocation.NewInvocation.{NewInvocation}
use Rattle.journal_model.specs.Notification.{Bytes, Text}
use Rattle.journal_model.specs.Event.{Event}
use Rattle.journal_model.specs.Journal.{begins, invocation_begun, starting_state, entries_of}
use Rattle.journal_model.specs.Attempt.{Piece, begins_attempt, bytes_asked, input_pieces, input_bytes, input_left, bytes_handed}
use Rattle.journal_model.specs.Cause.{IsAccepted}
use Rattle.input_laws.specs.ArrivalsRead.{HasReadPieces}
use Rattle.input_laws.proofs.Events.{itself, not_begun}
use Rattle.input_laws.proofs.Handed.{first_input, no_input, quiet_pieces}
use Rattle.input_laws.proofs.ArrivalsRead.{reads_on, reads_more, reads_first}
use Rattle.schedule_laws.specs.HandedInput.{bytes_handed_out, HandsOutInput}

both_nothing : {A : Type 0} (b : Bool) → ◌≡◌ {A = List A} (if b then [] else []) []
both_nothing true = refl
both_nothing false = refl

none_before : (xs ys : Bytes) → xs ++ ys ≡ [] → xs ≡ []
none_before [] ys e = refl
none_before (x ∷ xs) ys e = cc

nothing_left : (n : ℕ) → ◌≡◌ {A = Bytes} (drop n []) []
nothing_left zero = refl
nothing_left (suc n) = refl

module _ (id : Text) where
  abbrev IsInputOf : List Event → Type 0
  IsInputOf events = bytes_handed_out events id ++ input_left events id ≡ input_bytes (input_pieces events id)

  read_so : (events : List Event) → IsInputOf events → HasReadPieces events id (bytes_handed_out events id) [] (input_pieces events id)
  read_so events before = record { pieces = refl; bytes = before }

  -- nothing was handed out of an invocation that was not begun
  invoked : (new : NewInvocation) (earlier : List Event) → IsAccepted (Event.Invoke new ∷ earlier) → bytes_eq new.id id ≡ true → IsInputOf earlier → IsInputOf (Event.Invoke new ∷ earlier)
  invoked new earlier accepted e before =
      let unborn : invocation_begun earlier id ≡ None = not_begun (Event.Invoke new) earlier id accepted e in
      let no_pieces : input_pieces earlier id ≡ [] = no_input (starting_state earlier id) earlier accepted.1 id unborn in
      let none : bytes_handed_out earlier id ≡ [] = none_before (bytes_handed_out earlier id) (input_left earlier id) (before ∙ ap input_bytes no_pieces) in
      let first : input_pieces (Event.Invoke new ∷ earlier) id ≡ [] = first_input earlier (Event.Invoke new) id accepted e in
      ap (λ (bytes : Bytes). bytes ++ input_left (Event.Invoke new ∷ earlier) id) none
      ∙ ap (λ (pieces : List Piece). drop (bytes_handed (Event.Invoke new ∷ earlier) id) (input_bytes pieces)) first
      ∙ nothing_left (bytes_handed (Event.Invoke new ∷ earlier) id) ∙ sym (ap input_bytes first)

  -- an event that hands nothing out
  goes_on : (event : Event) (events : List Event) → IsAccepted events → begins id event ≡ false → begins_attempt id event ≡ false → bytes_asked id event ≡ None
      → bytes_handed_out (event ∷ events) id ≡ bytes_handed_out events id → IsInputOf events → IsInputOf (event ∷ events)
  goes_on event events accepted old going asks same before =
      let r = reads_on events id (bytes_handed_out events id) [] (input_pieces events id) (read_so events before) event accepted old going asks in
      ap (λ (bytes : Bytes). bytes ++ input_left (event ∷ events) id) same ∙ r.bytes ∙ ap input_bytes (sym r.pieces)

  hands : (n most : ℕ) (events : List Event) → IsAccepted events → bytes_handed_out (Event.Feed id n most ∷ events) id ≡ bytes_handed_out events id ++ take most (input_left events id)
      → IsInputOf events → IsInputOf (Event.Feed id n most ∷ events)
  hands n most events accepted same before =
      let event = Event.Feed id n most in
      let r = reads_more events id (bytes_handed_out events id) [] (input_pieces events id) (read_so events before) event accepted refl refl most (asks_own id)
      (quiet_pieces (starting_state events id) events id event (entries_of events id) refl (both_nothing (bytes_eq id id || false))) in
      ap (λ (bytes : Bytes). bytes ++ input_left (event ∷ events) id) same ∙ r.bytes ∙ ap input_bytes (sym r.pieces)
    where
      asks_own : (x : Text) → bytes_asked x (Event.Feed x n most) ≡ Some most
      asks_own x = rw (itself x) refl

  begun : (now : ℕ) (events : List Event) (other : Text) → bytes_eq other id ≡ true → IsInputOf (Event.Begin other now ∷ events)
  begun now events other e =
      let r = reads_first events (Event.Begin other now) id refl e in
      ap (λ (bytes : Bytes). bytes ++ input_left (Event.Begin other now ∷ events) id) nothing ∙ r.bytes ∙ ap input_bytes (sym r.pieces)
    where
      nothing : bytes_handed_out (Event.Begin other now ∷ events) id ≡ []
      nothing = rw e refl

pub hands_out_input : HandsOutInput
hands_out_input [] id accepted = refl
hands_out_input (Event.Invoke new ∷ events) id accepted = by_id (bytes_eq new.id id) refl (hands_out_input events id accepted.1)
  where
    by_id : (b : Bool) → bytes_eq new.id id ≡ b → IsInputOf id events → IsInputOf id (Event.Invoke new ∷ events)
    by_id true e before = invoked id new events accepted e before
    by_id false e before = goes_on id (Event.Invoke new) events accepted.1 e refl refl refl before
hands_out_input (Event.Begin other now ∷ events) id accepted = by_id (bytes_eq other id) refl (hands_out_input events id accepted.1)
  where
    by_id : (b : Bool) → bytes_eq other id ≡ b → IsInputOf id events → IsInputOf id (Event.Begin other now ∷ events)
    by_id true e before = begun id now events other e
    by_id false e before = goes_on id (Event.Begin other now) events accepted.1 refl e refl (rw e refl) before
hands_out_input (Event.Feed other n most ∷ events) id accepted = by_id (bytes_eq other id) refl (hands_out_input events id accepted.1)
  where
    by_id : (b : Bool) → bytes_eq other id ≡ b → IsInputOf id events → IsInputOf id (Event.Feed other n most ∷ events)
    by_id true e before =
        subst (λ (x : Text). IsInputOf id (Event.Feed x n most ∷ events)) (sym ((bytes_eq-Decides other id).0 e)) (hands id n most events accepted.1 (rw (itself id) refl) before)
    by_id false e before =
        goes_on id (Event.Feed other n most) events accepted.1 refl refl (rw e refl)
        (ap (λ (b : Bool). bytes_handed_out events id ++ (if b then take most (input_left events id) else [])) e ∙ append-nil (bytes_handed_out events id)) before
hands_out_input (event ∷ events) id accepted = goes_on id event events accepted.1 refl refl refl refl (hands_out_input events id accepted.1)
