-- What is left once several invocations are forgotten.
use Rattle.std.proofs.Common.{◌≡◌, refl, sym, ap, ◌∙◌, Bool, true, false, ◌||◌, List, [], ◌∷◌, None, bytes_eq}
use Rattle.std.proofs.lemmas.Slice.Eq.{bytes_eq-Decides}
use Rattle.journal_model.specs.Notification.{Text}
use Rattle.journal_model.specs.Event.{Event}
use Rattle.journal_model.specs.Journal.{invocation_begun, object_state, starting_state, view_of}
use Rattle.journal_model.specs.Cause.{IsAccepted}
use Rattle.journal_model.specs.Forgetting.{without}
use Rattle.journal_laws.specs.Forgetting.{SeveralForget, is_among, without_all}
use Rattle.journal_laws.proofs.Isolation.{invocation_begun-view}
use Rattle.journal_laws.proofs.Forgetting.{forgets, not_known, or_false, same_starts, same_states, same_views}

views_all : (ids : List Text) (events : List Event) (other : Text) → is_among ids other ≡ false → view_of other (without_all ids events) ≡ view_of other events
views_all [] events other e = refl
views_all (id ∷ ids) events other e =
    let apart = or_false (bytes_eq id other) (is_among ids other) e in
    views_all ids (without id events) other apart.1 ∙ same_views id other apart.0 events

starts_all : (ids : List Text) (events : List Event) (other : Text) → is_among ids other ≡ false → starting_state (without_all ids events) other ≡ starting_state events other
starts_all [] events other e = refl
starts_all (id ∷ ids) events other e =
    let apart = or_false (bytes_eq id other) (is_among ids other) e in
    starts_all ids (without id events) other apart.1 ∙ same_starts id other apart.0 events

states_all : (ids : List Text) (events : List Event) (object : Text) → object_state (without_all ids events) object ≡ object_state events object
states_all [] events object = refl
states_all (id ∷ ids) events object = states_all ids (without id events) object ∙ same_states id events object

begun_all : (ids : List Text) (events : List Event) (other : Text) → is_among ids other ≡ false → invocation_begun (without_all ids events) other ≡ invocation_begun events other
begun_all ids events other e =
    sym (invocation_begun-view other (without_all ids events))
    ∙ ap (λ (view : List Event). invocation_begun view other) (views_all ids events other e)
    ∙ invocation_begun-view other events

unknown_all : (ids : List Text) (events : List Event) (id : Text) → is_among ids id ≡ true → invocation_begun (without_all ids events) id ≡ None
unknown_all [] events id e = cc
unknown_all (one ∷ ids) events id e = by_cases (is_among ids id) refl (bytes_eq one id) refl e (λ f. unknown_all ids (without one events) id f)
  where
    by_cases : (a : Bool) → is_among ids id ≡ a → (b : Bool) → bytes_eq one id ≡ b → (b || a) ≡ true
        → (is_among ids id ≡ true → invocation_begun (without_all ids (without one events)) id ≡ None) → invocation_begun (without_all ids (without one events)) id ≡ None
    by_cases true f b g e later = later f
    by_cases false f true g e later =
        begun_all ids (without one events) id f
        ∙ ap (λ (x : Text). invocation_begun (without x events) id) ((bytes_eq-Decides one id).0 g)
        ∙ not_known id events
    by_cases false f false g e later = cc

accepted_all : (ids : List Text) (events : List Event) → IsAccepted events → IsAccepted (without_all ids events)
accepted_all [] events accepted = accepted
accepted_all (id ∷ ids) events accepted = accepted_all ids (without id events) ((forgets events id).accepted accepted)

pub several_forget : SeveralForget
several_forget events ids = record {
  views = views_all ids events;
  starts = starts_all ids events;
  states = states_all ids events;
  unknown = unknown_all ids events;
  accepted = accepted_all ids events;
}
