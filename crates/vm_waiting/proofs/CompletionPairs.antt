-- A call that takes two completion ids and puts one request does what the abstract machine does.
use Rattle.std.proofs.Common.{◌≡◌, ◌≤◌, ◌<◌, ◌^◌, ◌+◌, ◌∷◌, ◌++◌, ℕ, suc, Bool, [], append_assoc, length, Option, Some, refl, sym, ap, ◌∙◌, arith}
use Rattle.journal_model.specs.declared.notification.NotificationId.{NotificationId}
use Rattle.journal_model.specs.declared.notification.NotificationId.TheVariants.{CompletionId}
use Rattle.journal_model.specs.declared.call.Call.{Call}
use Rattle.journal_model.specs.declared.call.Answer.{Answer}
use Rattle.journal_model.specs.Request.{Request}
use Rattle.journal_model.specs.Run.{Invocation}
use Rattle.attempt_model.specs.Requests.{answer_by}
use Rattle.attempt_model.specs.Results.{Slots}
use Rattle.attempt_model.specs.Machine.{Machine, next_slot}
use Rattle.journal_model.specs.Notification.{Text}
use Rattle.protocol_types.specs.declared.message_type.MessageType.{MessageType}
use Rattle.vm_awaits.specs.Views.{AsyncResults, results_of, slots_of}
use Rattle.vm_awaits.specs.Calls.{with_handle}
use Rattle.vm_context.specs.Journal.{JournalCounts, after_command, after_completions}
use Rattle.vm_calls.specs.declared.active.Active.{Active}
use Rattle.vm_calls.specs.Active.{asking, HasCompletions, TakesCompletion}
use Rattle.vm_calls.specs.SpentReplay.{KeepsRest}
use Rattle.vm_calls.specs.CommandCalls.{IsReadyToPut}
use Rattle.vm_calls.proofs.Calls.{neither}
use Rattle.vm_calls.proofs.CommandCalls.{is_ready}
use Rattle.vm_waiting.specs.CompletionPairs.{TakesTwo, CompletesTwo, HasBegunTwo, CompletesTracked, HasBegunTracked}
use Rattle.vm_waiting.specs.TrackedChildren.{children_kept, Tracks}

one_longer : (slots : Slots) (slot : Option NotificationId) → length (slots ++ slot ∷ []) ≡ suc (length slots)
one_longer [] slot = refl
one_longer (first ∷ slots) slot = ap suc (one_longer slots slot)

pub next_behind : (slots : Slots) (slot : Option NotificationId) → 17 + length (slots ++ slot ∷ []) ≡ suc (17 + length slots)
next_behind slots slot = let h : length (slots ++ slot ∷ []) ≡ suc (length slots) = one_longer slots slot in omega (arith, h)

last_before : (n last most : ℕ) → last ≡ suc n → most < n + 2 → most ≤ last
last_before n last most is h = omega (arith, is, h)

next_is_one_more : (n : ℕ) → n + 1 ≡ suc n
next_is_one_more n = omega arith

-- two numbers were left, and two handles
pub has_two : (old : Active) (last : ℕ) → last ≡ suc (17 + length (slots_of old.results)) → (2 ^ 32 ≤ old.journal.completions + 1 → ⊥) → (2 ^ 32 ≤ last → ⊥) → HasCompletions 2 old
has_two old last is id handle = neither
    (λ none. id (last_before old.journal.completions (old.journal.completions + 1) (2 ^ 32) (next_is_one_more old.journal.completions) none))
    (λ none. handle (last_before (17 + length (slots_of old.results)) last (2 ^ 32) is none))

-- what is left to replay, and what was written, is as before
pub two_rest : {first second : ℕ} {handles : ℕ × ℕ} (ty : MessageType) (name : Text) (old : Active) {mid : Active} → TakesTwo first second handles (asking ty name old) mid → KeepsRest old mid
two_rest ty name old takes = record {
  replaying = ap (λ (a : Active). a.is_replaying) takes.others;
  commands = ap (λ (a : Active). a.commands.items) takes.others;
  output = ap (λ (a : Active). a.output) takes.others;
}

-- numbers were taken, and then the child is kept
module _ (journal : JournalCounts) (tracked : Bool) (n : ℕ) (Takes : Active → Type 0) (old mid : Active) (tracks : Tracks tracked n Takes mid)
    (others : tracks.between ≡ record old { journal = journal; results = tracks.between.results }) where
  pub results_stay : results_of mid.results ≡ results_of tracks.between.results
  results_stay = ap (λ (a : Active). results_of a.results) tracks.keeps

  pub others_then : mid ≡ record old { journal = journal; results = mid.results; children = mid.children }
  others_then = tracks.keeps ∙ ap (λ (a : Active). record a { children = children_kept tracked n tracks.between.children }) others
      ∙ (λ i. record old { journal = journal; results = sym (ap (λ (a : Active). a.results) tracks.keeps) i; children = sym (ap (λ (a : Active). a.children) tracks.keeps) i })

  pub children_then : (m : Machine) → n ≡ m.completions → old.children ≡ m.children → mid.children ≡ children_kept tracked m.completions m.children
  children_then m is same = ap (λ (a : Active). a.children) tracks.keeps
      ∙ (λ i. children_kept tracked (is i) ((ap (λ (a : Active). a.children) others ∙ same) i))

module _ (given : Invocation) (m : Machine) (call : Call) (request : Request) (two : CompletesTwo given m call request) (handles : ℕ × ℕ) (old mid : Active) (begun : HasBegunTwo given m call handles old mid) where
  takes : TakesTwo begun.first begun.second handles (asking begun.ty begun.name old) begun.takes.between
  takes = begun.takes.takes

  abbrev Takes : Active → Type 0
  Takes = TakesTwo begun.first begun.second handles (asking begun.ty begun.name old)

  abbrev journal_then : JournalCounts
  journal_then = after_completions 2 (after_command begun.ty begun.name old.journal)

  first_is : handles.0 ≡ next_slot m
  first_is = takes.first_handle ∙ ap (λ (r : AsyncResults). 17 + length r.slots) begun.sees.results

  second_is : handles.1 ≡ suc (next_slot m)
  second_is = takes.second_handle ∙ ap (λ (r : AsyncResults). suc (17 + length r.slots)) begun.sees.results

  pub handles_are : answer_by given.input.invocation_id (next_slot m) m.signals call ≡ Answer.Handles handles.0 handles.1
  handles_are = two.answer given.input.invocation_id (next_slot m) m.signals ∙ (λ i. Answer.Handles (sym first_is i) (sym second_is i))

  abbrev with_slots : Slots → AsyncResults
  with_slots slots = record { delivery = given.options.signal_delivery; queue = m.queue; ready = m.ready; slots = slots }

  results_are : results_of mid.results ≡ with_slots (m.slots ++ Some (CompletionId m.completions) ∷ Some (CompletionId (m.completions + 1)) ∷ [])
  results_are = results_stay journal_then begun.tracked begun.first Takes old mid begun.takes takes.others ∙ takes.results
      ∙ ap (λ (n : ℕ). with_handle (CompletionId (n + 1)) (with_handle (CompletionId n) (results_of old.results))) begun.sees.completions
      ∙ ap (λ (r : AsyncResults). with_handle (CompletionId (m.completions + 1)) (with_handle (CompletionId m.completions) r)) begun.sees.results
      ∙ ap with_slots (append_assoc m.slots (Some (CompletionId m.completions) ∷ []) (Some (CompletionId (m.completions + 1)) ∷ []))

  pub two_is_ready : IsReadyToPut given m call request old mid
  two_is_ready = is_ready given m call request old begun.sees begun.ty begun.name 2 (CompletionId m.completions ∷ CompletionId (m.completions + 1) ∷ [])
      two.keeps two.known two.ids two.completions two.signals takes.has mid (others_then journal_then begun.tracked begun.first Takes old mid begun.takes takes.others) results_are
      (children_then journal_then begun.tracked begun.first Takes old mid begun.takes takes.others m (takes.first_id ∙ begun.sees.completions) begun.sees.children ∙ begun.child.kept) begun.child.made

-- ---- a call of one completion, which gives the invocation id of what is called

module _ (given : Invocation) (m : Machine) (call : Call) (request : Request) (one : CompletesTracked given m call request) (handle : ℕ) (old mid : Active) (begun : HasBegunTracked given m call handle old mid) where
  taken : TakesCompletion (begun.id, handle) (asking begun.ty begun.name old) begun.takes.between
  taken = begun.takes.takes

  abbrev TakesIt : Active → Type 0
  TakesIt = TakesCompletion (begun.id, handle) (asking begun.ty begun.name old)

  abbrev journal_behind : JournalCounts
  journal_behind = after_completions 1 (after_command begun.ty begun.name old.journal)

  pub handle_is : answer_by given.input.invocation_id (next_slot m) m.signals call ≡ Answer.Handle handle
  handle_is = one.answer given.input.invocation_id (next_slot m) m.signals ∙ ap Answer.Handle (sym (taken.handle ∙ ap (λ (r : AsyncResults). 17 + length r.slots) begun.sees.results))

  results_behind : results_of mid.results ≡ record { delivery = given.options.signal_delivery; queue = m.queue; ready = m.ready; slots = m.slots ++ Some (CompletionId m.completions) ∷ [] }
  results_behind = results_stay journal_behind begun.tracked begun.id TakesIt old mid begun.takes taken.others ∙ taken.results
      ∙ ap (λ (n : ℕ). with_handle (CompletionId n) (results_of old.results)) begun.sees.completions ∙ ap (λ (r : AsyncResults). with_handle (CompletionId m.completions) r) begun.sees.results

  pub one_is_ready : IsReadyToPut given m call request old mid
  one_is_ready = is_ready given m call request old begun.sees begun.ty begun.name 1 (CompletionId m.completions ∷ []) one.keeps one.known one.ids one.completions one.signals taken.has mid
      (others_then journal_behind begun.tracked begun.id TakesIt old mid begun.takes taken.others) results_behind
      (children_then journal_behind begun.tracked begun.id TakesIt old mid begun.takes taken.others m (taken.id ∙ begun.sees.completions) begun.sees.children ∙ begun.child.kept) begun.child.made
