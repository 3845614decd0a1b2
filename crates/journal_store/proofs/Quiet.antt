-- The events of a live attempt that write nothing: bytes are handed out, the input is closed, the attempt is stopped.
use Rattle.std.proofs.Common.{◌≡◌, ◌⊎◌, ℕ, refl, sym, ap, ap₂, arith, subst, ◌∙◌, Bool, true, false, inl, inr, not, length, List, [], ◌∷◌, Option, Some, None, option_map, IsTrue, ◌==◌}
use Rattle.std.proofs.lemmas.Bool.{eqb-true, ne_eqb}
use Rattle.sqlite.specs.State.{State}
use Rattle.journal_model.specs.Notification.{Text}
use Rattle.journal_model.specs.Event.{Event}
use Rattle.journal_model.specs.Journal.{object_of}
use Rattle.journal_model.specs.Attempt.{is_live, input_left}
use Rattle.journal_model.specs.Cause.{is_empty, those_that_hold, causes_of}
use Rattle.journal_model.specs.declared.cause.Cause.{Cause}
use Rattle.journal_model.specs.declared.cause.Cause.TheVariants.{InputAlreadyClosed, InputRemains}
use Rattle.store_model.specs.Writes.{state_writes}
use Rattle.store_refusals.specs.declared.refusal.Refusal.{Refusal}
use Rattle.store_refusals.specs.declared.refusal.Refusal.TheVariants as refusal
use Rattle.store_refusals.specs.RefusalConditions.{refusal_of_first_cause, is_circumstance, IsRefused}
use Rattle.store_live.specs.declared.attempt.LiveAttempt.{LiveAttempt}
use Rattle.store_live.specs.Attempts.{ByInvocation, attempt_of, IsNow, ChangesLive, bytes_out, after_close, after_hand_out}
use Rattle.due_laws.specs.InputParts.{HandsPart}
use Rattle.store_live_laws.specs.LiveAttempts.{Agrees, has_number, CausesOfLive, IsFirstCause, LeftIsTold}
use Rattle.store_live_laws.proofs.Left.{left_told, part_told}
use Rattle.store_live_laws.proofs.Tests.{live_told, causes_told}
use Rattle.store_live_laws.proofs.Steps.{closed as closed_kept, handed_out, stopped}
use Rattle.journal_store.specs.StoreStanding.{Stands}
use Rattle.journal_store.specs.Attempts.{HasRead, has_closed, has_rest}
use Rattle.journal_store.proofs.Rows.{rows_changed, rows_now, rows_quiet}
use Rattle.journal_store.proofs.Standing.{stands_after, unwritten}

-- the attempt with this number
pub record IsThis (number : ℕ) (found : Option LiveAttempt) : Type 0 where
  pub attempt : LiveAttempt
  pub is : found ≡ Some attempt
  pub numbered : attempt.number ≡ number

pub this_one : (number : ℕ) (found : Option LiveAttempt) → has_number number found ≡ true → IsThis number found
this_one number None e = cc
this_one number (Some attempt) e = record { attempt = attempt; is = refl; numbered = eqb-true attempt.number number e }

-- whether it is live is seen in memory
pub live_here : (events : List Event) (database : State) (attempts : ByInvocation) (id : Text) (number : ℕ) → Stands events database attempts
    → is_live events id number ≡ has_number number (attempt_of attempts id)
live_here events database attempts id number stands = live_told events id number (attempt_of attempts id) (stands.live id)

-- nothing is written of a request that is none
pub none_written : (object : Option Text) → state_writes object [] ≡ []
none_written None = refl
none_written (Some object) = refl

-- ---- stops

stop_causes : (events : List Event) (database : State) (attempts : ByInvocation) (id : Text) (number : ℕ) → Stands events database attempts
    → has_number number (attempt_of attempts id) ≡ true → causes_of events (Event.Stop id number) ≡ []
stop_causes events database attempts id number stands live =
    let it = this_one number (attempt_of attempts id) live in
    let told = causes_told events id it.attempt stands.kept.accepted (subst (Agrees events id) it.is (stands.live id)) in
    subst (λ (n : ℕ). causes_of events (Event.Stop id n) ≡ []) it.numbered told.of_stop

pub stands_stopped : (events : List Event) (database : State) (old new : ByInvocation) (id : Text) (number : ℕ) → Stands events database old
    → has_number number (attempt_of old id) ≡ true → IsNow id None old new
    → (causes_of events (Event.Stop id number) ≡ []) × Unit {0} × Stands (Event.Stop id number ∷ events) database new
stands_stopped events database old new id number stands live now =
    let none = stop_causes events database old id number stands live in
    let kept = unwritten events (Event.Stop id number) database stands.kept tt none (none_written (object_of events (Event.Stop id number))) in (
      none,
      tt,
      stands_after events (Event.Stop id number) id None database old new refl refl kept (stopped events id number) now stands.live
          (rows_now (Event.Stop id number ∷ events) id None old new now tt (rows_quiet events (Event.Stop id number) old kept.accepted (none_written (object_of events (Event.Stop id number))) stands.rows)),
    )

-- ---- refusals of an attempt that is not live

pub stale_refused : (why : Refusal) (cause : Cause) (causes : List Cause) → IsFirstCause cause causes → (why ≡ refusal.Cause cause) ⊎ IsTrue (is_circumstance why)
    → IsRefused causes why
stale_refused why cause causes first (inl is) = inl (ap refusal_of_first_cause first.1 ∙ ap Some (sym is))
stale_refused why cause causes first (inr circumstance) = inr circumstance

-- ---- bytes that are handed out

told_here : (events : List Event) (database : State) (attempts : ByInvocation) (id : Text) (number : ℕ) → Stands events database attempts
    → (here : IsThis number (attempt_of attempts id)) → CausesOfLive events id here.attempt
told_here events database attempts id number stands here = causes_told events id here.attempt stands.kept.accepted (subst (Agrees events id) here.is (stands.live id))

hand_out_causes : (events : List Event) (database : State) (attempts : ByInvocation) (id : Text) (number most : ℕ) → Stands events database attempts
    → has_number number (attempt_of attempts id) ≡ true → (closed : Bool) → has_closed (attempt_of attempts id) ≡ closed
    → causes_of events (Event.Feed id number most) ≡ those_that_hold ((closed, InputAlreadyClosed) ∷ [])
hand_out_causes events database attempts id number most stands live closed is =
    let here = this_one number (attempt_of attempts id) live in
    let told = (told_here events database attempts id number stands here).of_hand_out most in
    let same : here.attempt.is_input_closed ≡ closed = sym (ap has_closed here.is) ∙ is in
    subst (λ (n : ℕ). causes_of events (Event.Feed id n most) ≡ those_that_hold ((closed, InputAlreadyClosed) ∷ [])) here.numbered
    (told ∙ ap (λ (b : Bool). those_that_hold ((b, InputAlreadyClosed) ∷ [])) same)

pub hand_out_closed : (events : List Event) (database : State) (attempts : ByInvocation) (id : Text) (number most : ℕ) → Stands events database attempts
    → has_number number (attempt_of attempts id) ≡ true → has_closed (attempt_of attempts id) ≡ true
    → IsRefused (causes_of events (Event.Feed id number most)) (refusal.Cause Cause.InputAlreadyClosed)
hand_out_closed events database attempts id number most stands live closed =
    inl (ap refusal_of_first_cause (hand_out_causes events database attempts id number most stands live true closed))

handed_bytes : (events : List Event) (id : Text) (most : ℕ) (o : Option LiveAttempt) (number : ℕ) → IsThis number o → Agrees events id o → HasRead events id o
    → HandsPart (input_left events id) most (bytes_out most o)
handed_bytes events id most None number here agrees read = cc
handed_bytes events id most (Some attempt) number here agrees read = part_told events id most attempt agrees (read attempt refl)

pub stands_handed : (events : List Event) (database : State) (old new : ByInvocation) (id : Text) (number most : ℕ) (bytes : List ℕ) → Stands events database old
    → has_number number (attempt_of old id) ≡ true → has_closed (attempt_of old id) ≡ false → HasRead events id (attempt_of old id) → bytes ≡ bytes_out most (attempt_of old id)
    → ChangesLive id (after_hand_out most) old new
    → (causes_of events (Event.Feed id number (length bytes)) ≡ []) × HandsPart (input_left events id) most bytes × Stands (Event.Feed id number (length bytes) ∷ events) database new
stands_handed events database old new id number most bytes stands live opened read out changed =
    subst
    (λ (given : List ℕ). (causes_of events (Event.Feed id number (length given)) ≡ []) × HandsPart (input_left events id) most given × Stands (Event.Feed id number (length given) ∷ events) database new)
    (sym out) all
  where
    all : (causes_of events (Event.Feed id number (length (bytes_out most (attempt_of old id)))) ≡ []) × HandsPart (input_left events id) most (bytes_out most (attempt_of old id))
        × Stands (Event.Feed id number (length (bytes_out most (attempt_of old id))) ∷ events) database new
    all =
        let count : ℕ = length (bytes_out most (attempt_of old id)) in
        let none = hand_out_causes events database old id number count stands live false opened in
        let here = this_one number (attempt_of old id) live in
        let kept = unwritten events (Event.Feed id number count) database stands.kept tt none (none_written (object_of events (Event.Feed id number count))) in (
          none,
          handed_bytes events id most (attempt_of old id) number here (stands.live id) read,
          stands_after events (Event.Feed id number count) id (option_map (after_hand_out most) (attempt_of old id)) database old new refl refl kept
              (handed_out events id number most (attempt_of old id) kept.accepted (stands.live id)) changed stands.live
              (rows_changed (Event.Feed id number count ∷ events) id (after_hand_out most) old new (λ one. refl) changed
              (rows_quiet events (Event.Feed id number count) old kept.accepted (none_written (object_of events (Event.Feed id number count))) stands.rows)),
        )

-- ---- the input that is closed

close_causes : (events : List Event) (database : State) (attempts : ByInvocation) (id : Text) (number : ℕ) → Stands events database attempts
    → has_number number (attempt_of attempts id) ≡ true → HasRead events id (attempt_of attempts id) → (rest closed : Bool) → has_rest (attempt_of attempts id) ≡ rest
    → has_closed (attempt_of attempts id) ≡ closed
    → causes_of events (Event.Close id number) ≡ those_that_hold ((rest, InputRemains) ∷ (closed, InputAlreadyClosed) ∷ [])
close_causes events database attempts id number stands live read rest closed left is =
    let here = this_one number (attempt_of attempts id) live in
    let told = (told_here events database attempts id number stands here).of_close in
    let same : here.attempt.is_input_closed ≡ closed = sym (ap has_closed here.is) ∙ is in
    let agrees = subst (Agrees events id) here.is (stands.live id) in
    let more : not (is_empty (input_left events id)) ≡ rest =
    rest_seen here.attempt (left_told events id here.attempt stands.kept.accepted agrees) (read here.attempt here.is) here.attempt.input.rest refl ∙ (sym (ap has_rest here.is) ∙ left) in
    subst (λ (n : ℕ). causes_of events (Event.Close id n) ≡ those_that_hold ((rest, InputRemains) ∷ (closed, InputAlreadyClosed) ∷ [])) here.numbered
    (told ∙ ap₂ (λ (a b : Bool). those_that_hold ((a, InputRemains) ∷ (b, InputAlreadyClosed) ∷ [])) more same)
  where
    rest_seen : (attempt : LiveAttempt) → LeftIsTold events id attempt → (attempt.input.rest ≡ [] → input_left events id ≡ []) → (bytes : List ℕ) → attempt.input.rest ≡ bytes
        → not (is_empty (input_left events id)) ≡ not (length attempt.input.rest == 0)
    rest_seen attempt told ends [] e = ap (λ (left : List ℕ). not (is_empty left)) (ends e) ∙ sym (ap (λ (rest : List ℕ). not (length rest == 0)) e)
    rest_seen attempt told ends (byte ∷ bytes) e =
        ap not (told.remains byte bytes e) ∙ sym (ap (λ (rest : List ℕ). not (length rest == 0)) e ∙ ap not (ne_eqb (length (byte ∷ bytes)) 0 (λ f. omega (arith, f))))

pub close_remains : (events : List Event) (database : State) (attempts : ByInvocation) (id : Text) (number : ℕ) → Stands events database attempts
    → has_number number (attempt_of attempts id) ≡ true → HasRead events id (attempt_of attempts id) → has_rest (attempt_of attempts id) ≡ true
    → IsRefused (causes_of events (Event.Close id number)) (refusal.Cause Cause.InputRemains)
close_remains events database attempts id number stands live read rest =
    inl (ap refusal_of_first_cause (close_causes events database attempts id number stands live read true (has_closed (attempt_of attempts id)) rest refl))

pub close_closed : (events : List Event) (database : State) (attempts : ByInvocation) (id : Text) (number : ℕ) → Stands events database attempts
    → has_number number (attempt_of attempts id) ≡ true → HasRead events id (attempt_of attempts id) → has_rest (attempt_of attempts id) ≡ false → has_closed (attempt_of attempts id) ≡ true
    → IsRefused (causes_of events (Event.Close id number)) (refusal.Cause Cause.InputAlreadyClosed)
close_closed events database attempts id number stands live read rest closed =
    inl (ap refusal_of_first_cause (close_causes events database attempts id number stands live read false true rest closed))

pub stands_closed : (events : List Event) (database : State) (old new : ByInvocation) (id : Text) (number : ℕ) → Stands events database old
    → has_number number (attempt_of old id) ≡ true → HasRead events id (attempt_of old id) → has_rest (attempt_of old id) ≡ false → has_closed (attempt_of old id) ≡ false → ChangesLive id after_close old new
    → (causes_of events (Event.Close id number) ≡ []) × Unit {0} × Stands (Event.Close id number ∷ events) database new
stands_closed events database old new id number stands live read rest opened changed =
    let none = close_causes events database old id number stands live read false false rest opened in
    let kept = unwritten events (Event.Close id number) database stands.kept tt none (none_written (object_of events (Event.Close id number))) in (
      none,
      tt,
      stands_after events (Event.Close id number) id (option_map after_close (attempt_of old id)) database old new refl refl kept
          (closed_kept events id number (attempt_of old id) kept.accepted (stands.live id)) changed stands.live
          (rows_changed (Event.Close id number ∷ events) id after_close old new (λ one. refl) changed
          (rows_quiet events (Event.Close id number) old kept.accepted (none_written (object_of events (Event.Close id number))) stands.rows)),
    )
