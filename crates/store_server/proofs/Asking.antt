-- Whether one invocation is due, and what it answers.
use Rattle.std.proofs.Common.{◌≡◌, Bool, false, ◌&&◌, ◌||◌, List, [], ◌∷◌, Option, Result, Ok, Err, refl, sym, ap, subst, ◌∙◌}
use Rattle.std.specs.Prelude.{IsErrAnd, bytes_eq}
use Rattle.std.specs.List.{list_any}
use Rattle.std.proofs.lemmas.Cmp.{nat_list_eq_equiv}
use Rattle.std.proofs.lemmas.Result.{err_from_is_err_and}
use Rattle.sqlite_trees.specs.declared.store.Store.{Ghosts}
use Rattle.journal_model.specs.Notification.{Text}
use Rattle.journal_model.specs.declared.cause.Cause.{Cause}
use Rattle.journal_model.specs.declared.value.NonEmptyValue.{NonEmptyValue}
use Rattle.journal_model.specs.Event.{Event}
use Rattle.journal_model.specs.Journal.{is_open}
use Rattle.journal_model.specs.Attempt.{arrivals_not_handed, due, is_due, is_none, is_woken, live_attempt, suspension_of}
use Rattle.due_laws.proofs.DueList.{due_tells}
use Rattle.shown_records.specs.ShownTexts.{IsKnown}
use Rattle.store_refusals.specs.declared.refusal.Refusal.{Refusal}
use Rattle.store_refusals.specs.RefusalConditions.{IsRefused}
use Rattle.store_invocations.specs.InvocationAnswers.{answer_told}
use Rattle.journal_store.specs.StoreView.{Stored}
use Rattle.store_server.specs.StoreChanges.{CommitsNothing, ReachesStore, Tells, TellsKnown}
use Rattle.store_server.specs.RequestAnswers.{HasAnswer, IsUnknown, Shown}
use Rattle.store_server.proofs.Reaching.{reaches_both}
use Rattle.store_server.proofs.Showing.{KnownAnswer, KnownOpen, shown_so}

-- ---- among those that are due

turned : (id : Text) (ids : List Text) → list_any (λ other. bytes_eq other id) ids ≡ list_any (bytes_eq id) ids
turned id [] = refl
turned id (other ∷ ids) =
    let here = nat_list_eq_equiv.symm other id in
    let rest = turned id ids in
    λ i. here i || rest i

not_open : (events : List Event) (id : Text) → false ≡ is_open events id → false ≡ is_due events id
not_open events id e = ap (λ (now : Bool). now && (is_none (live_attempt events id) && is_woken (arrivals_not_handed events id) (suspension_of events id))) e

abbrev TellsDue : Text → List Event → Bool → Type 0
TellsDue id events told = told ≡ is_due events id

module _ {S : Type 0} (g : Ghosts S) (id : Text) where
  pub is_among : (a b : Stored S) (ids : List Text) (told : Bool) → told ≡ list_any (λ other. bytes_eq other id) ids → ReachesStore g CommitsNothing (Shown (λ events. ids ≡ due events)) a b
      → ReachesStore g CommitsNothing (Tells (TellsDue id) (Ok told)) a b
  is_among a b ids told is one =
      shown_so g (λ events. ids ≡ due events) (λ events. told ≡ is_due events id) a b (λ events p. is ∙ turned id ids ∙ ap (list_any (bytes_eq id)) p ∙ due_tells events id) one

  -- what the exit of a `?` returns
  pub known_refused : (a b : Stored S) (result : Result Bool Refusal) (why : Refusal) → IsErrAnd result (λ refusal. refusal ≡ why) → ReachesStore g CommitsNothing (Shown (IsUnknown id why)) a b
      → ReachesStore g CommitsNothing (TellsKnown id (TellsDue id) result) a b
  known_refused a b result why is one =
      let p = err_from_is_err_and result is in
      subst (λ (r : Result Bool Refusal). ReachesStore g CommitsNothing (TellsKnown id (TellsDue id) r) a b) (sym (p.1 ∙ ap Err p.2)) one

  pub not_due : (a b : Stored S) (now : Bool) → now ≡ false → ReachesStore g CommitsNothing (Shown (KnownOpen id now)) a b → ReachesStore g CommitsNothing (TellsKnown id (TellsDue id) (Ok false)) a b
  not_due a b now e one =
      shown_so g (KnownOpen id now) (λ events. IsKnown id events × (false ≡ is_due events id)) a b (λ events p. (p.0, not_open events id (sym e ∙ p.1))) one

  module _ (a b c : Stored S) (now : Bool) (one : ReachesStore g CommitsNothing (Shown (KnownOpen id now)) a b) where
    -- of one that is known
    pub told_due : (result : Result Bool Refusal) → ReachesStore g CommitsNothing (Tells (TellsDue id) result) b c → ReachesStore g CommitsNothing (TellsKnown id (TellsDue id) result) a c
    told_due (Ok told) two =
        reaches_both g (KnownOpen id now) (λ events. told ≡ is_due events id) (λ events. IsKnown id events × (told ≡ is_due events id)) a b c (λ events p q. (p.0, q)) one two
    told_due (Err why) two =
        reaches_both g (KnownOpen id now) (λ events. IsRefused [] why) (IsUnknown id why) a b c (λ events p q. subst (λ (causes : List Cause). IsRefused causes why) (sym p.0) q) one two

    -- ---- what it answers

    pub has_answer : (answer : Option NonEmptyValue) → ReachesStore g CommitsNothing (Shown (KnownAnswer id answer)) b c → ReachesStore g CommitsNothing (Shown (HasAnswer id answer now)) a c
    has_answer answer two = reaches_both g (KnownOpen id now) (KnownAnswer id answer) (HasAnswer id answer now) a b c (λ events p q. (p.0, q.1, p.1)) one two

    pub no_answer : (why : Refusal) → ReachesStore g CommitsNothing (Shown (IsUnknown id why)) b c → ReachesStore g CommitsNothing (Shown (IsUnknown id why)) a c
    no_answer why two = reaches_both g (KnownOpen id now) (IsUnknown id why) (IsUnknown id why) a b c (λ events p q. q) one two

  pub both_told : (answer : Option NonEmptyValue) (now : Bool) (a b : Stored S) → ReachesStore g CommitsNothing (Shown (HasAnswer id answer now)) a b
      → ReachesStore g CommitsNothing (TellsKnown {A = Option NonEmptyValue × Bool} id (λ events told. told ≡ (answer_told events id, is_open events id)) (Ok (answer, now))) a b
  both_told answer now a b one =
      shown_so g (HasAnswer id answer now) (λ events. IsKnown id events × ((answer, now) ≡ (answer_told events id, is_open events id))) a b
      (λ events p. (p.0, λ i. (p.1 i, p.2 i))) one
