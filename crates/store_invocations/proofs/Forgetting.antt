-- Invocations that are forgotten: each is known, and none is open.
use Rattle.std.proofs.Common.{◌≡◌, refl, sym, ap, subst, ◌∙◌, ℕ, ◌+◌, ◌<◌, inl, inr, Bool, true, false, not, ◌&&◌, List, [], ◌∷◌, ◌++◌, length, take, drop, get_or, Option, Some, None, is_some}
use Rattle.std.specs.List.{list_any}
use Rattle.std.proofs.lemmas.Grind.{flat_map-append}
use Rattle.std.proofs.lemmas.List.{drop_more, take-append-drop}
use Rattle.journal_model.specs.Notification.{Text}
use Rattle.journal_model.specs.declared.invocation.NewInvocation.{NewInvocation}
use Rattle.journal_model.specs.Event.{Event}
use Rattle.journal_model.specs.Journal.{closes, frames_of, invocation_begun, is_open, version_of}
use Rattle.journal_model.specs.Cause.{Tests, those_that_hold}
use Rattle.journal_model.specs.Forgetting.{forget_tests}
use Rattle.journal_model.specs.declared.cause.Cause.{Cause}
use Rattle.store_tables.specs.declared.row.Write.{Write}
use Rattle.store_refusals.specs.declared.refusal.Refusal.{Refusal}
use Rattle.store_refusals.specs.declared.refusal.Refusal.TheVariants as refusal
use Rattle.store_refusals.specs.RefusalConditions.{IsRefused}
use Rattle.store_refusals.specs.Forgetting.{forget_tests_of_all}
use Rattle.store_invocations.specs.Rows.{known_tests}
use Rattle.store_invocations.specs.ForgottenRows.{forgetting_writes, forgetting_writes_of_all}
use Rattle.store_invocations.proofs.Refusing.{first_of_two, none_of_both, none_of_two, refused_later, refused_more}

-- ---- one

not_held : (b : Bool) (cause : Cause) → those_that_hold ((b, cause) ∷ []) ≡ [] → b ≡ false
not_held true cause e = cc
not_held false cause e = refl

module _ (events : List Event) (id : Text) where
  pub open_busy : (busy : Bool) → busy ≡ is_open events id → busy ≡ true → IsRefused (those_that_hold (forget_tests events id)) (refusal.Cause Cause.ObjectBusy)
  open_busy busy told e = first_of_two (is_open events id) (not (is_some (invocation_begun events id))) Cause.ObjectBusy Cause.UnknownInvocation (sym told ∙ e)

  pub closed_free : (busy : Bool) → those_that_hold (known_tests events id) ≡ [] → busy ≡ is_open events id → busy ≡ false → those_that_hold (forget_tests events id) ≡ []
  closed_free busy known told e =
      none_of_two (is_open events id) (not (is_some (invocation_begun events id))) Cause.ObjectBusy Cause.UnknownInvocation (sym told ∙ e) (not_held (not (is_some (invocation_begun events id))) Cause.UnknownInvocation known)

  -- one that is not known is not open
  pub still_unknown : (why : Refusal) → IsRefused (those_that_hold (known_tests events id)) why → IsRefused (those_that_hold (forget_tests events id)) why
  still_unknown why refused = by_begun (invocation_begun events id) (not (list_any (closes (version_of events id)) (frames_of events id))) refused
    where
      by_begun : (o : Option NewInvocation) (running : Bool) → IsRefused (those_that_hold ((not (is_some o), Cause.UnknownInvocation) ∷ [])) why
          → IsRefused (those_that_hold ((is_some o && running, Cause.ObjectBusy) ∷ (not (is_some o), Cause.UnknownInvocation) ∷ [])) why
      by_begun None running refused = refused
      by_begun (Some new) running (inl e) = cc
      by_begun (Some new) running (inr e) = inr e

-- ---- one after another

tests_with : (events : List Event) (ids : List Text) (id : Text) (more : List Text) → forget_tests_of_all events (ids ++ id ∷ more) ≡ forget_tests_of_all events ids ++ (forget_tests events id ++ forget_tests_of_all events more)
tests_with events ids id more = flat_map-append (forget_tests events) ids (id ∷ more)

pub writes_with : (ids : List Text) (id : Text) (before then : List Write) → before ≡ forgetting_writes_of_all ids → then ≡ before ++ forgetting_writes id → then ≡ forgetting_writes_of_all (ids ++ id ∷ [])
writes_with ids id before then are is = is ∙ ap (λ (some : List Write). some ++ forgetting_writes id) are ∙ sym (flat_map-append forgetting_writes ids (id ∷ []))

pub none_with : (events : List Event) (ids : List Text) (id : Text) → those_that_hold (forget_tests_of_all events ids) ≡ [] → those_that_hold (forget_tests events id) ≡ []
    → those_that_hold (forget_tests_of_all events (ids ++ id ∷ [])) ≡ []
none_with events ids id none one =
    ap those_that_hold (tests_with events ids id [])
    ∙ none_of_both (forget_tests_of_all events ids) (forget_tests events id ++ []) none (none_of_both (forget_tests events id) [] one refl)

-- the first that is open or not known tells
pub first_tells : (events : List Event) (ids : List Text) (i : ℕ) (id : Text) (why : Refusal) → i < length ids → id ≡ get_or ids i id → those_that_hold (forget_tests_of_all events (take i ids)) ≡ []
    → IsRefused (those_that_hold (forget_tests events id)) why → IsRefused (those_that_hold (forget_tests_of_all events ids)) why
first_tells events ids i id why within is none refused =
    let before = take i ids in
    let more = drop (i + 1) ids in
    let all : before ++ id ∷ more ≡ ids = ap (λ (one : Text). before ++ one ∷ more) is ∙ ap (λ (rest : List Text). before ++ rest) (sym (drop_more ids i id within)) ∙ take-append-drop i ids in
    subst (λ (some : List Text). IsRefused (those_that_hold (forget_tests_of_all events some)) why) all
    (subst (λ (tests : Tests). IsRefused (those_that_hold tests) why) (sym (tests_with events before id more))
    (refused_later (forget_tests_of_all events before) (forget_tests events id ++ forget_tests_of_all events more) why none (refused_more (forget_tests events id) (forget_tests_of_all events more) why refused)))
