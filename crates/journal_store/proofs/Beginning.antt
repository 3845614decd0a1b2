-- An attempt is begun.
use Rattle.std.proofs.Common.{◌≡◌, ℕ, refl, sym, ap, ap₂, subst, ◌∙◌, inr, not, ◌&&◌, is_some, List, [], ◌∷◌, Option, Some, None, Result, Ok, Err, IfErr, IfOk, OnOk, OnErr}
use Rattle.sqlite_trees.specs.Tree.{Trees}
use Rattle.sqlite.specs.State.{State, HasCleanDisk, Survives}
use Rattle.sql_tables.specs.QueryAnswers.{AreTablesKept}
use Rattle.journal_model.specs.Notification.{Text}
use Rattle.journal_model.specs.declared.invocation.NewInvocation.{NewInvocation}
use Rattle.journal_model.specs.Event.{Event}
use Rattle.journal_model.specs.Journal.{invocation_begun, is_open}
use Rattle.journal_model.specs.Cause.{Tests, own_tests, those_that_hold, causes_of}
use Rattle.journal_model.specs.declared.cause.Cause.TheVariants.{UnknownInvocation, InvocationClosed}
use Rattle.protocol_types.specs.Version.{version_number}
use Rattle.store_tables.specs.Looks.{HasWritten}
use Rattle.store_refusals.specs.declared.refusal.Refusal.{Refusal}
use Rattle.store_invocations.specs.declared.attempt.PreparedAttempt.{PreparedAttempt}
use Rattle.store_invocations.specs.BegunAttempts.{IsBegun}
use Rattle.store_live.specs.Input.{at_begin}
use Rattle.store_live.specs.Attempts.{ByInvocation, attempt_of}
use Rattle.store_live_laws.specs.LiveAttempts.{Agrees, IsBegunAs}
use Rattle.store_live_laws.proofs.Begun.{begun}
use Rattle.store_calls.specs.declared.begun.BegunAttempt.{BegunAttempt}
use Rattle.journal_store.specs.StoreStanding.{Stands, HasRow}
use Rattle.journal_store.specs.StoreTransaction.{IsUnwritten}
use Rattle.journal_store.specs.Attempts.{IsNowNoted, IsToldAs, fresh}
use Rattle.journal_store.proofs.Leading.{Does, IsBegunAttempt}
use Rattle.journal_store.proofs.Rows.{keeps_event}
use Rattle.journal_store.proofs.Standing.{all_stored, store_still, stands_noted}

-- ---- the attempt

begun_as : (events : List Event) (id : Text) (now : ℕ) (made : PreparedAttempt) → IsBegun events id now made
    → IsBegunAs events id (fresh made.number made.version made.known made.arrivals made.row)
begun_as events id now made is = record {
  number = is.number;
  version = is.version;
  input = ap₂ at_begin is.known is.arrivals;
  closed = refl;
}

-- the tests of a begin behind the first one
abbrev pub other_tests : List Event → Text → ℕ → Tests
other_tests events id now = (is_some (invocation_begun events id) && not (is_open events id), InvocationClosed) ∷ own_tests events (Event.Begin id now)

-- an accepted begin is one of an invocation that is there
pub begun_some : (o : Option NewInvocation) (more : Tests) → those_that_hold ((not (is_some o), UnknownInvocation) ∷ more) ≡ [] → (new : NewInvocation) × (o ≡ Some new)
begun_some None more e = cc
begun_some (Some new) more e = (new, refl)

-- what was made ready of a begin was written, and the attempt is taken in; or nothing was done
pub begin_recorded : (events : List Event) (id : Text) (now : ℕ) (old mid new : State) (P Q : Trees → Type 0) (attempts left : ByInvocation) (made : PreparedAttempt)
    (more : Tests) (result : Result BegunAttempt Refusal)
    → causes_of events (Event.Begin id now) ≡ those_that_hold ((not (is_some (invocation_begun events id)), UnknownInvocation) ∷ more)
    → Survives old mid P → AreTablesKept old mid → Survives mid new Q → HasCleanDisk new → (causes_of events (Event.Begin id now) ≡ []) × IsBegun events id now made
    → IfOk result (IsToldAs made) → OnOk result (HasWritten made.writes.items mid new)
    → OnOk result (IsNowNoted made.writes.items id (Some (fresh made.number made.version made.known made.arrivals made.row)) attempts left) → IfErr result (IsUnwritten made.writes.items mid new) → OnErr result (AreTablesKept mid new) → OnErr result (left ≡ attempts)
    → Stands events old attempts → Does events (Event.Begin id now) (IsBegunAttempt events id now) result new left
begin_recorded events id now old mid new P Q attempts left made more (Ok told) tests before asked lives clean ready is wrote put why undone same stands =
    let store = store_still events old mid P before asked stands.kept in
    let after = all_stored events (Event.Begin id now) mid new Q made.writes.items lives clean store tt ready.0 ready.1.writes wrote in
    let agrees = begun events id now _ (begun_as events id now made ready.1) in (
      ready.0,
      record { number = is.0 ∙ ready.1.number; version = ap version_number is.1 ∙ ready.1.version; start = is.2 ∙ ready.1.start },
      stands_noted events (Event.Begin id now) id (Some _) new attempts left made.writes.items refl refl after (keeps_event events (Event.Begin id now) made.writes.items ready.0 ready.1.writes) agrees ready.1.row put
          stands.live stands.rows,
    )
begin_recorded events id now old mid new P Q attempts left made more (Err why) tests before asked lives clean ready is wrote put refused undone same stands =
    let store = store_still events old mid P before asked stands.kept in (
      inr refused.circumstance,
      record {
        kept = store_still events mid new Q lives undone store;
        live = subst (λ (all : ByInvocation). (one : Text) → Agrees events one (attempt_of all one)) (sym same) stands.live;
        rows = subst (λ (all : ByInvocation). (one : Text) → HasRow events one (attempt_of all one)) (sym same) stands.rows;
      },
    )
