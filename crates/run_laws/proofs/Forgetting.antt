-- What is kept of another invocation for the next schedule is kept once invocations are forgotten.
use Rattle.std.proofs.Common.{◌≡◌, sym, ap, subst, ◌∙◌, Bool, true, false, if◌then◌else◌, List, [], ◌∷◌, ◌++◌, Option, None, Some, bytes_eq}
use Rattle.std.specs.List.{AllByRecursion}
use Rattle.journal_model.specs.Notification.{Arrival, Text}
use Rattle.journal_model.specs.declared.value.NonEmptyValue.{NonEmptyValue}
use Rattle.journal_model.specs.Request.{Request}
use Rattle.journal_model.specs.Run.{BeginsRun, Handler, Invocation}
use Rattle.journal_model.specs.Event.{Event}
use Rattle.journal_model.specs.Journal.{arrivals_in, frame_of, is_of, object_of, recorded_answer, recorded_arrivals, recorded_requests, request_of_frame, requests_in}
use Rattle.journal_model.specs.Headline.{IsRunAnswer, arrivals_handed}
use Rattle.run_laws.specs.SuspensionContent.{WaitsAll}
use Rattle.run_laws.specs.HeldInvocations.{Holds}
use Rattle.run_laws.specs.HeadlineLaws.{OthersHold}
use Rattle.journal_model.specs.Forgetting.{edits, without}
use Rattle.journal_laws.specs.Forgetting.{is_among, without_all}
use Rattle.journal_laws.proofs.Forgetting.{or_false}
use Rattle.journal_laws.proofs.Staying.{answer_same, closing_same, told, whole_along}
use Rattle.journal_laws.proofs.Waking.{handed_same, suspension_same}

-- what holds of each event, and of each edit, holds of each that is left
module _ (P : Event → Type 0) (of_edit : (object : Text) (request : Request) → P (Event.Edit object request)) (id : Text) where
  each_edit : (o : Option Text) (requests : List Request) (more : List Event) → AllByRecursion P more → AllByRecursion P (edits o requests ++ more)
  each_edit None requests more all = all
  each_edit (Some object) [] more all = all
  each_edit (Some object) (request ∷ requests) more all = (of_edit object request, each_edit (Some object) requests more all)

  each_stays : (events : List Event) → AllByRecursion P events → AllByRecursion P (without id events)
  each_stays [] all = tt
  each_stays (event ∷ earlier) all = by_cases (is_of id event) (each_stays earlier all.1)
    where
      by_cases : (b : Bool) → AllByRecursion P (without id earlier)
          → AllByRecursion P ((if b then edits (object_of earlier event) (request_of_frame (frame_of event)) else event ∷ []) ++ without id earlier)
      by_cases true later = each_edit (object_of earlier event) (request_of_frame (frame_of event)) (without id earlier) later
      by_cases false later = (all.0, later)

module _ (P : Event → Type 0) (of_edit : (object : Text) (request : Request) → P (Event.Edit object request)) where
  pub all_stay : (ids : List Text) (events : List Event) → AllByRecursion P events → AllByRecursion P (without_all ids events)
  all_stay [] events all = all
  all_stay (id ∷ ids) events all = all_stay ids (without id events) (each_stays P of_edit id events all)

holds_stays : (next : Handler) (given : Invocation) (events : List Event) (id other : Text) → bytes_eq id other ≡ false → Holds next given other events → Holds next given other (without id events)
holds_stays next given events id other d h =
    let t = told id other d events in
    let requests : recorded_requests (without id events) other ≡ recorded_requests events other = ap requests_in t.entries in
    let arrivals : recorded_arrivals (without id events) other ≡ recorded_arrivals events other = ap arrivals_in t.entries in
    record {
      begins =
          subst (λ (some : List Arrival). BeginsRun next given some (recorded_requests (without id events) other)) (sym arrivals)
          (subst (λ (some : List Request). BeginsRun next given (recorded_arrivals events other) some) (sym requests) h.begins);
      whole = whole_along id other d next given events h.whole;
      answered = λ closed.
          subst (λ (some : List Arrival). IsRunAnswer next given some (recorded_answer (without id events) other)) (sym arrivals)
          (subst (λ (answer : Option NonEmptyValue). IsRunAnswer next given (recorded_arrivals events other) answer) (sym (answer_same id other d events))
          (h.answered (sym (closing_same id other d events) ∙ closed)));
      waits = λ suspension is.
          let w = h.waits suspension (sym (suspension_same id other d events) ∙ is) in
          record {
            over = t.live ∙ w.over;
            waits =
                subst (λ (handed : List Arrival). WaitsAll next given handed (recorded_requests (without id events) other) (Some suspension)) (sym (handed_same id other d events))
                (subst (λ (some : List Request). WaitsAll next given (arrivals_handed events other) some (Some suspension)) (sym requests) w.waits);
          };
    }

pub others_hold : OthersHold
others_hold next given events [] other e h = h
others_hold next given events (id ∷ ids) other e h =
    let apart = or_false (bytes_eq id other) (is_among ids other) e in
    others_hold next given (without id events) ids other apart.1 (holds_stays next given events id other apart.0 h)
