-- The next attempt of an open invocation, by its row.
use Rattle.std.proofs.Common.{◌≡◌, refl, sym, ap, subst, ◌∙◌, inl, inr, ℕ, ◌+◌, ◌-◌, ◌<◌, ◌≤◌, ◌^◌, nat_le, true, List, [], ◌∷◌, arith}
use Rattle.std.proofs.lemmas.Bool.{cases_Bool, leb-false}
use Rattle.journal_model.specs.Notification.{Bytes, Text}
use Rattle.journal_model.specs.Event.{Event}
use Rattle.journal_model.specs.Spelling.{frame_bytes}
use Rattle.journal_model.specs.Journal.{is_open}
use Rattle.journal_model.specs.Attempt.{attempts_begun}
use Rattle.journal_model.specs.Start.{start_payload}
use Rattle.journal_model.specs.Cause.{IsAccepted, those_that_hold, own_tests}
use Rattle.journal_model.specs.declared.cause.Cause.{Cause}
use Rattle.protocol_types.specs.declared.message_type.MessageType.{MessageType}
use Rattle.protocol_types.specs.Version.{version_number}
use Rattle.store_tables.specs.declared.row.InvocationRow.{InvocationRow}
use Rattle.store_tables.specs.declared.row.Progress.{Progress}
use Rattle.store_tables.specs.declared.row.Write.TheVariants.{SetProgress}
use Rattle.store_refusals.specs.declared.refusal.Refusal.{Refusal}
use Rattle.store_refusals.specs.declared.refusal.Refusal.TheVariants as refusal
use Rattle.store_refusals.specs.RefusalConditions.{IsRefused}
use Rattle.store_invocations.specs.Rows.{IsRowOf, payload_tests}
use Rattle.store_invocations.proofs.Refusing.{none_of_both, refused_by, refused_later}
use Rattle.store_invocations.specs.declared.attempt.PreparedAttempt.{PreparedAttempt}
use Rattle.store_invocations.specs.BegunAttempts.{IsBegun, begun_at, shown_states}
use Rattle.store_invocations.specs.Start.{start_frame_payload}
use Rattle.store_invocations.proofs.Attempts.{attempts_among}
use Rattle.store_invocations.proofs.AttemptBeginning.{attempts_is, begin_writes_are, progress_is, start_payload_is, version_is}
use Rattle.store_invocations.proofs.Deciding.{none_at_least}

module _ (events : List Event) (id : Text) (now : ℕ) (row : InvocationRow) (it : IsRowOf events id row) where
  pub among : row.progress.attempts_since_entry ≤ row.progress.attempts
  among = subst (λ (p : Progress). p.attempts_since_entry ≤ p.attempts) (sym (progress_is events id now row it)) (attempts_among events id)

  left : row.progress.attempts + 1 < 2 ^ 32 → attempts_begun events id + 1 ≤ 2 ^ 32 - 1
  left room = let same = attempts_is events id now row it in omega arith

  -- a number is left
  pub next_none : row.progress.attempts + 1 < 2 ^ 32 → those_that_hold (payload_tests (start_frame_payload row (shown_states events row) now)) ≡ []
      → those_that_hold (own_tests events (Event.Begin id now)) ≡ []
  next_none room none =
      none_of_both ((nat_le (2 ^ 32 - 1) (attempts_begun events id), Cause.NumbersUsedUp) ∷ []) (payload_tests (start_payload events id now))
      (none_at_least (2 ^ 32 - 1) (attempts_begun events id) Cause.NumbersUsedUp (left room))
      (subst (λ (payload : Bytes). those_that_hold (payload_tests payload) ≡ []) (start_payload_is events id now row it) none)

  pub next_refused : (why : Refusal) → row.progress.attempts + 1 < 2 ^ 32 → IsRefused (those_that_hold (payload_tests (start_frame_payload row (shown_states events row) now))) why
      → IsRefused (those_that_hold (own_tests events (Event.Begin id now))) why
  next_refused why room refused =
      refused_later ((nat_le (2 ^ 32 - 1) (attempts_begun events id), Cause.NumbersUsedUp) ∷ []) (payload_tests (start_payload events id now)) why
      (none_at_least (2 ^ 32 - 1) (attempts_begun events id) Cause.NumbersUsedUp (left room))
      (subst (λ (payload : Bytes). IsRefused (those_that_hold (payload_tests payload)) why) (start_payload_is events id now row it) refused)

  -- none is left
  pub next_used_up : 2 ^ 32 ≤ row.progress.attempts + 1 → IsRefused (those_that_hold (own_tests events (Event.Begin id now))) (refusal.Cause Cause.NumbersUsedUp)
  next_used_up full =
      let same = attempts_is events id now row it in
      elim (cases_Bool (nat_le (2 ^ 32 - 1) (attempts_begun events id))) [
        | inl reached ↦ refused_by (own_tests events (Event.Begin id now)) (refusal.Cause Cause.NumbersUsedUp) (rw reached refl)
        | inr below_it ↦ absurd (let below = leb-false (2 ^ 32 - 1) (attempts_begun events id) below_it in omega arith)
      ]

  pub next_made : IsAccepted events → is_open events id ≡ true → (made : PreparedAttempt) → made.writes.items ≡ SetProgress row.id (begun_at now row.progress) ∷ [] → made.number ≡ row.progress.attempts + 1 → made.version ≡ row.version
      → made.start ≡ frame_bytes MessageType.Start (start_frame_payload row (shown_states events row) now) → made.known ≡ row.progress.entries → made.arrivals ≡ row.progress.arrivals → made.row ≡ row → IsBegun events id now made
  next_made accepted opened made writes number version start known arrivals kept =
      let same = attempts_is events id now row it in record {
        writes = writes ∙ begin_writes_are events id now row it opened;
        number = omega arith;
        version = ap version_number version ∙ version_is events id now row it accepted;
        start = start ∙ ap (frame_bytes MessageType.Start) (start_payload_is events id now row it);
        known = known ∙ ap (λ (p : Progress). p.entries) (progress_is events id now row it);
        arrivals = arrivals ∙ ap (λ (p : Progress). p.arrivals) (progress_is events id now row it);
        row = subst (IsRowOf events id) (sym kept) it;
      }
