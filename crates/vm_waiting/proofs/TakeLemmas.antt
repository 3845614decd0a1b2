-- What is taken, and what a take comes to.
use Rattle.std.proofs.Common.{◌≡◌, refl, sym, ap, ◌∙◌, subst, ℕ, Bool, true, false, ◌&&◌, inl, inr, List, [], ◌∷◌, ◌++◌, map, Option, Some, None, is_some, Result, Ok, Err}
use Rattle.std.proofs.lemmas.Bool.{cases_Bool}
use Rattle.std.proofs.lemmas.Str.{IsUtf8-from_is_utf8}
use Rattle.std.specs.Prelude.{IsUtf8, IfErr}
use Rattle.std.specs.Str.{is_utf8}
use Rattle.std.specs.List.{list_all}
use Rattle.journal_model.specs.declared.notification.NotificationId.{NotificationId}
use Rattle.journal_model.specs.declared.notification.NotificationResult.{NotificationResult}
use Rattle.journal_model.specs.declared.value.Value.{Value}
use Rattle.journal_model.specs.declared.call.Answer.{Answer}
use Rattle.journal_model.specs.Value.{as_taken}
use Rattle.journal_model.specs.Run.{Invocation}
use Rattle.attempt_model.specs.Children.{Child, child_with_value, may_take}
use Rattle.attempt_model.specs.Results.{slot_of, waiting_for, ready_without_first, slots_without, are_keys_text}
use Rattle.attempt_model.specs.Machine.{Machine, Answered, reply_to_take, reply_where_taken}
use Rattle.protocol_messages.specs.declared.taken.TakeError as untaken
use Rattle.protocol_messages.specs.declared.taken.TakeError.TheVariants as unheld
use Rattle.protocol_messages.specs.TakeErrors.{NotTaken}
use Rattle.vm_waiting.specs.declared.taking.TakeError.{TakeError}
use Rattle.vm_waiting.specs.declared.taking.TakeError.TheVariants.{KeyNotText, ChildNotId, OutOfMemory}
use Rattle.vm_awaits.specs.Views.{AsyncResults, results_of, slots_of, ready_of}
use Rattle.vm_awaits.specs.Calls.{results_after_take}
use Rattle.vm_calls.specs.declared.active.Active.{Active}
use Rattle.vm_calls.specs.Active.{Sees}
use Rattle.vm_waiting.specs.TrackedChildren.{child_of_id, is_allowed, with_taken, Remembers}
use Rattle.vm_waiting.specs.TakeEffects.{taken_error, IsResultTaken, KeepsTaken, TakesResult}
use Rattle.vm_waiting.proofs.Seeing.{with_results, with_children, sees_with}
use Rattle.vm_waiting.proofs.TrackLemmas.{nothing_taken, taken_is, allowed_is, taken_made}

pub no_text : (bytes : List ℕ) → (IsUtf8 bytes → ⊥) → is_utf8 bytes ≡ false
no_text bytes not = elim (cases_Bool (is_utf8 bytes)) [ inl t ↦ absurd (not (IsUtf8-from_is_utf8 bytes t)) | inr f ↦ f ]

and_false : (a b : Bool) → b ≡ false → (a && b) ≡ false
and_false true b f = f
and_false false b f = refl

one_is_none : (front : List (List ℕ)) (key : List ℕ) (rest : List (List ℕ)) → (IsUtf8 key → ⊥) → list_all is_utf8 (front ++ key ∷ rest) ≡ false
one_is_none [] key rest not = ap (λ (b : Bool). b && list_all is_utf8 rest) (no_text key not)
one_is_none (first ∷ front) key rest not = and_false (is_utf8 first) (list_all is_utf8 (front ++ key ∷ rest)) (one_is_none front key rest not)

refused : (brought : NotificationResult) → NotTaken brought unheld.KeyNotText → are_keys_text brought ≡ false
refused NotificationResult.Void why = absurd why
refused (NotificationResult.Value bytes) why = absurd why
refused (NotificationResult.Failure failure) why = absurd why
refused (NotificationResult.InvocationId id) why = absurd why
refused (NotificationResult.StateKeys keys) why = ap (λ (ks : List (List ℕ)). list_all is_utf8 ks) why.3 ∙ one_is_none why.0 why.1 why.2 why.4

pub not_taken : (of_child : Bool) (brought : NotificationResult) (error : untaken.TakeError) → NotTaken brought error → IsResultTaken of_child (Some brought) (Err (taken_error error))
not_taken of_child brought unheld.KeyNotText why = refused brought why
not_taken of_child brought unheld.OutOfMemory why = tt

-- what was handed out is remembered, or memory is refused for that
pub remembered : (child : Option ℕ) (of_child : Bool) (brought : Option NotificationResult) (taken : Option Value) (old new : List Child) (result : Result (Option Value) TakeError) → IsResultTaken of_child brought (Ok taken)
    → Remembers child taken old result new → IfErr result (λ error. (error ≡ OutOfMemory) × (is_some taken ≡ true)) → IsResultTaken of_child brought result × KeepsTaken child old result new
remembered child of_child brought taken old new (Ok value) is remembers memory =
    (subst (λ (t : Option Value). IsResultTaken of_child brought (Ok t)) (sym remembers.0) is, remembers.1 ∙ ap (λ (t : Option Value). with_taken child t old) (sym remembers.0))
remembered child of_child None taken old new (Err error) is remembers memory = let none : false ≡ true = ap (λ (t : Option Value). is_some t) (sym is) ∙ memory.1 in cc
remembered child of_child (Some brought) taken old new (Err error) is remembers memory = (subst (λ (e : TakeError). IsResultTaken of_child (Some brought) (Err e)) (sym memory.0) tt, remembers)

-- what was handed out, and what is remembered of it, in the words of the clauses
module _ (handle : ℕ) (old : Active) (found : Option ℕ) (is : found ≡ child_of_id (slot_of (slots_of old.results) handle) old.children) (of_child : Bool) (told : of_child ≡ is_some found)
    (brought : Option NotificationResult) (waits : brought ≡ waiting_for (slots_of old.results) (ready_of old.results) handle) (result : Result (Option Value) TakeError) where
  pub value_then : IsResultTaken of_child brought result
      → IsResultTaken (is_some (child_of_id (slot_of (slots_of old.results) handle) old.children)) (waiting_for (slots_of old.results) (ready_of old.results) handle) result
  value_then taken =
      subst (λ (b : Option NotificationResult). IsResultTaken (is_some (child_of_id (slot_of (slots_of old.results) handle) old.children)) b result) waits
      (subst (λ (b : Bool). IsResultTaken b brought result) (told ∙ ap (λ (c : Option ℕ). is_some c) is) taken)

  pub kept_then : (new : List Child) → KeepsTaken found old.children result new → KeepsTaken (child_of_id (slot_of (slots_of old.results) handle) old.children) old.children result new
  kept_then new kept = subst (λ (c : Option ℕ). KeepsTaken c old.children result new) is kept

module _ (checks_off : Bool) (given : Invocation) (m : Machine) (handle : ℕ) (old new : Active) (sees : Sees given old m) (others : new ≡ record old { results = new.results; children = new.children }) where
  abbrev slot : Option NotificationId
  slot = slot_of m.slots handle

  abbrev child : Option ℕ
  child = child_of_id (slot_of (slots_of old.results) handle) old.children

  waits_as : (brought : Option NotificationResult) → brought ≡ waiting_for (slots_of old.results) (ready_of old.results) handle → waiting_for m.slots m.ready handle ≡ brought
  waits_as brought is = ap (λ (r : AsyncResults). waiting_for r.slots r.ready handle) (sym sees.results) ∙ sym is

  child_is : child ≡ child_of_id slot m.children
  child_is = λ i. child_of_id (slot_of (ap (λ (r : AsyncResults). r.slots) sees.results i) handle) (sees.children i)

  -- the abstract machine refuses what is refused of a child, and nothing else
  allowed_as : (brought : NotificationResult) (b : Bool) → is_allowed (is_some child) (as_taken brought) ≡ b → list_all (may_take slot (as_taken brought)) m.children ≡ b
  allowed_as brought b is = allowed_is slot (as_taken brought) m.children ∙ ap (λ (c : Option ℕ). is_allowed (is_some c) (as_taken brought)) (sym child_is) ∙ is

  replies : (brought : NotificationResult) (text allowed : Bool) → Some brought ≡ waiting_for (slots_of old.results) (ready_of old.results) handle → are_keys_text brought ≡ text
      → list_all (may_take slot (as_taken brought)) m.children ≡ allowed → reply_to_take m handle (waiting_for m.slots m.ready handle) ≡ reply_where_taken m handle brought text allowed
  replies brought text allowed is texts allows =
      ap (λ (b : Option NotificationResult). reply_to_take m handle b) (waits_as (Some brought) is)
      ∙ (λ i. reply_where_taken m handle brought (texts i) (allows i))

  pub takes : (brought : Option NotificationResult) (result : Result (Option Value) TakeError) → brought ≡ waiting_for (slots_of old.results) (ready_of old.results) handle
      → results_of new.results ≡ results_after_take handle brought (results_of old.results) → IsResultTaken (is_some child) brought result → KeepsTaken child old.children result new.children
      → TakesResult checks_off given m handle result new
  takes None (Ok taken) is rest nothing kept = record {
    machine = m;
    replies = ap (λ (b : Option NotificationResult). reply_to_take m handle b) (waits_as None is) ∙ ap (λ (t : Option Value). Answered (Answer.Taken t) m) (sym nothing);
    sees = sees_with given m old new sees others m.queue m.ready m.slots m.children (rest ∙ ap (λ (r : AsyncResults). results_after_take handle None r) sees.results)
        (kept ∙ ap (λ (t : Option Value). with_taken child t old.children) nothing ∙ nothing_taken child old.children ∙ sees.children) sees.made;
    written = refl;
  }
  takes None (Err error) is rest nothing kept = absurd nothing
  takes (Some brought) (Ok taken) is rest value kept =
      let ready = ready_without_first m.ready slot in
      let slots = slots_without m.slots handle in
      let children = map (child_with_value slot (as_taken brought)) m.children in
      record {
        machine = with_children (with_results m m.queue ready slots) children;
        replies = replies brought true true is value.0 (allowed_as brought true value.1)
            ∙ ap (λ (t : Option Value). Answered (Answer.Taken t) (with_children (with_results m m.queue ready slots) children)) (sym value.2);
        sees = sees_with given m old new sees others m.queue ready slots children (rest ∙ ap (λ (r : AsyncResults). results_after_take handle (Some brought) r) sees.results)
            (kept ∙ ap (λ (t : Option Value). with_taken child t old.children) value.2 ∙ (λ i. with_taken (child_is i) (Some (as_taken brought)) (sees.children i))
            ∙ taken_is slot m.children (as_taken brought) (ap (λ (c : Option ℕ). is_allowed (is_some c) (as_taken brought)) (sym child_is) ∙ value.1))
            (taken_made m.completions slot (as_taken brought) m.children sees.made);
        written = refl;
      }
  takes (Some brought) (Err KeyNotText) is rest refuses kept =
      replies brought false (list_all (may_take slot (as_taken brought)) m.children) is refuses refl
  takes (Some brought) (Err ChildNotId) is rest refuses kept = replies brought true false is refuses.0 (allowed_as brought false refuses.1)
  takes (Some brought) (Err OutOfMemory) is rest refuses kept = tt
