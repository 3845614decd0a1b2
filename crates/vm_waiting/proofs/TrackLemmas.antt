-- Children that calls bring, and what a take makes known of one.
use Rattle.std.proofs.Common.{◌≡◌, ◌+◌, ◌∷◌, ◌++◌, ◌&&◌, ◌||◌, ◌==◌, ◌<◌, ℕ, Bool, true, false, if◌then◌else◌, List, [], append-nil, map, Option, Some, None, is_some, refl, sym, ap, ◌∙◌}
use Rattle.std.specs.List.{list_all}
use Rattle.journal_model.specs.declared.call.Call.{Call}
use Rattle.journal_model.specs.declared.call.Moment.{Moment}
use Rattle.journal_model.specs.declared.call.PayloadOptions.{PayloadOptions}
use Rattle.journal_model.specs.declared.call.Target.{Target}
use Rattle.journal_model.specs.declared.notification.NotificationId.{NotificationId}
use Rattle.journal_model.specs.declared.notification.NotificationId.TheVariants.{CompletionId, SignalId, SignalName}
use Rattle.journal_model.specs.declared.options.ImplicitCancellationOption.{ImplicitCancellationOption}
use Rattle.journal_model.specs.declared.options.ImplicitCancellationOption.TheVariants.{Disabled, Enabled}
use Rattle.journal_model.specs.declared.value.Value.{Value}
use Rattle.journal_model.specs.Await.{child_of}
use Rattle.journal_model.specs.Notification.{Bytes, Text}
use Rattle.journal_model.specs.Run.{Invocation}
use Rattle.attempt_model.specs.Children.{Child, new_child, child_with_value, is_id, may_take}
use Rattle.attempt_model.specs.Machine.{Machine}
use Rattle.vm_awaits.specs.Children.{AreMade, has_child}
use Rattle.vm_awaits.proofs.Kept.{new_comes_last}
use Rattle.vm_calls.specs.declared.active.Active.{Active}
use Rattle.vm_calls.specs.SpentReplay.{KeepsRest}
use Rattle.vm_calls.proofs.Tracking.{none_made, one_made}
use Rattle.vm_waiting.specs.CompletionPairs.{KeepsChild}
use Rattle.vm_waiting.specs.TrackedChildren.{tracks_calls, tracks_sends, children_kept, child_at, child_of_id, is_allowed, with_taken}

-- ---- calls

module _ (given : Invocation) (m : Machine) (made : AreMade m.completions m.children) where
  one : children_kept true m.completions m.children ≡ m.children ++ new_child m.completions ∷ []
  one = new_comes_last m.completions m.children made

  none : m.children ≡ m.children ++ []
  none = sym (append-nil m.children)

  kept_by_call : (target : Target) (parameter : Bytes) (name : Option Text) (options : PayloadOptions) (option : ImplicitCancellationOption)
      → children_kept (tracks_calls option) m.completions m.children ≡ m.children ++ map new_child (child_of option m.completions (Call.Call target parameter name options))
  kept_by_call target parameter name options Disabled = none
  kept_by_call target parameter name options (Enabled true true) = one
  kept_by_call target parameter name options (Enabled true false) = one
  kept_by_call target parameter name options (Enabled false true) = none
  kept_by_call target parameter name options (Enabled false false) = none

  made_by_call : (target : Target) (parameter : Bytes) (name : Option Text) (options : PayloadOptions) (option : ImplicitCancellationOption)
      → AreMade (m.completions + 2) (m.children ++ map new_child (child_of option m.completions (Call.Call target parameter name options)))
  made_by_call target parameter name options Disabled = none_made m.completions 2 m.children [] refl made
  made_by_call target parameter name options (Enabled true true) = one_made m.completions 1 m.children made
  made_by_call target parameter name options (Enabled true false) = one_made m.completions 1 m.children made
  made_by_call target parameter name options (Enabled false true) = none_made m.completions 2 m.children [] refl made
  made_by_call target parameter name options (Enabled false false) = none_made m.completions 2 m.children [] refl made

  kept_by_send : (target : Target) (parameter : Bytes) (moment : Option Moment) (name : Option Text) (options : PayloadOptions) (option : ImplicitCancellationOption)
      → children_kept (tracks_sends option) m.completions m.children ≡ m.children ++ map new_child (child_of option m.completions (Call.Send target parameter moment name options))
  kept_by_send target parameter moment name options Disabled = none
  kept_by_send target parameter moment name options (Enabled true true) = one
  kept_by_send target parameter moment name options (Enabled true false) = none
  kept_by_send target parameter moment name options (Enabled false true) = one
  kept_by_send target parameter moment name options (Enabled false false) = none

  made_by_send : (target : Target) (parameter : Bytes) (moment : Option Moment) (name : Option Text) (options : PayloadOptions) (option : ImplicitCancellationOption)
      → AreMade (m.completions + 1) (m.children ++ map new_child (child_of option m.completions (Call.Send target parameter moment name options)))
  made_by_send target parameter moment name options Disabled = none_made m.completions 1 m.children [] refl made
  made_by_send target parameter moment name options (Enabled true true) = one_made m.completions 0 m.children made
  made_by_send target parameter moment name options (Enabled true false) = none_made m.completions 1 m.children [] refl made
  made_by_send target parameter moment name options (Enabled false true) = one_made m.completions 0 m.children made
  made_by_send target parameter moment name options (Enabled false false) = none_made m.completions 1 m.children [] refl made

  pub call_keeps : (target : Target) (parameter : Bytes) (name : Option Text) (options : PayloadOptions) (tracked : Bool) → tracked ≡ tracks_calls given.options.implicit_cancellation
      → KeepsChild tracked given m (Call.Call target parameter name options)
  call_keeps target parameter name options tracked is = record {
    kept = ap (λ (b : Bool). children_kept b m.completions m.children) is ∙ kept_by_call target parameter name options given.options.implicit_cancellation;
    made = made_by_call target parameter name options given.options.implicit_cancellation;
  }

  pub send_keeps : (target : Target) (parameter : Bytes) (moment : Option Moment) (name : Option Text) (options : PayloadOptions) (tracked : Bool) → tracked ≡ tracks_sends given.options.implicit_cancellation
      → KeepsChild tracked given m (Call.Send target parameter moment name options)
  send_keeps target parameter moment name options tracked is = record {
    kept = ap (λ (b : Bool). children_kept b m.completions m.children) is ∙ kept_by_send target parameter moment name options given.options.implicit_cancellation;
    made = made_by_send target parameter moment name options given.options.implicit_cancellation;
  }

-- what is left to replay, and what was written, is as before
pub rest_behind : (old between new : Active) (children : List Child) → KeepsRest old between → new ≡ record between { children = children } → KeepsRest old new
rest_behind old between new children rest keeps = record {
  replaying = ap (λ (a : Active). a.is_replaying) keeps ∙ rest.replaying;
  commands = ap (λ (a : Active). a.commands.items) keeps ∙ rest.commands;
  output = ap (λ (a : Active). a.output) keeps ∙ rest.output;
}

-- ---- takes

same_for_none : (value : Value) (children : List Child) → children ≡ map (child_with_value None value) children
same_for_none value [] = refl
same_for_none value (child ∷ children) = ap (λ (cs : List Child). child ∷ cs) (same_for_none value children)

same_for_signal : (n : ℕ) (value : Value) (children : List Child) → children ≡ map (child_with_value (Some (SignalId n)) value) children
same_for_signal n value [] = refl
same_for_signal n value (child ∷ children) = ap (λ (cs : List Child). child ∷ cs) (same_for_signal n value children)

same_for_name : (name : Text) (value : Value) (children : List Child) → children ≡ map (child_with_value (Some (SignalName name)) value) children
same_for_name name value [] = refl
same_for_name name value (child ∷ children) = ap (λ (cs : List Child). child ∷ cs) (same_for_name name value children)

same_for_others : (n : ℕ) (value : Value) (children : List Child) → has_child n children ≡ false → children ≡ map (child_with_value (Some (CompletionId n)) value) children
same_for_others n value [] none = refl
same_for_others n value (child ∷ children) none = by_test (n == child.completion) none (same_for_others n value children)
  where
    others : List Child
    others = map (child_with_value (Some (CompletionId n)) value) children

    by_test : (b : Bool) → (b || has_child n children) ≡ false → (has_child n children ≡ false → children ≡ others)
        → child ∷ children ≡ (if b then record { completion = child.completion; taken = Some value } else child) ∷ others
    by_test true wrong rest = absurd cc
    by_test false absent rest = ap (λ (cs : List Child). child ∷ cs) (rest absent)

pub nothing_taken : (child : Option ℕ) (children : List Child) → with_taken child None children ≡ children
nothing_taken None children = refl
nothing_taken (Some n) children = refl

-- what is remembered is what the abstract machine remembers
pub taken_is : (slot : Option NotificationId) (children : List Child) (value : Value) → is_allowed (is_some (child_of_id slot children)) value ≡ true
    → with_taken (child_of_id slot children) (Some value) children ≡ map (child_with_value slot value) children
taken_is None children value allowed = same_for_none value children
taken_is (Some (SignalId n)) children value allowed = same_for_signal n value children
taken_is (Some (SignalName name)) children value allowed = same_for_name name value children
taken_is (Some (CompletionId n)) children value allowed = by_test (has_child n children) refl value allowed
  where
    by_test : (b : Bool) → has_child n children ≡ b → (v : Value) → is_allowed (is_some (child_at b n)) v ≡ true
        → with_taken (child_at b n) (Some v) children ≡ map (child_with_value (Some (CompletionId n)) v) children
    by_test false absent v allowed = same_for_others n v children absent
    by_test true there (Value.InvocationId id) allowed = refl
    by_test true there Value.Void allowed = absurd cc
    by_test true there (Value.Success bytes) allowed = absurd cc
    by_test true there (Value.Failure failure) allowed = absurd cc
    by_test true there (Value.StateKeys keys) allowed = absurd cc

all_may : (slot : Option NotificationId) (value : Value) → ((child : Child) → may_take slot value child ≡ true) → (children : List Child) → list_all (may_take slot value) children ≡ true
all_may slot value may [] = refl
all_may slot value may (child ∷ children) = ap (λ (b : Bool). b && list_all (may_take slot value) children) (may child) ∙ all_may slot value may children

-- the abstract machine refuses the same
pub allowed_is : (slot : Option NotificationId) (value : Value) (children : List Child) → list_all (may_take slot value) children ≡ is_allowed (is_some (child_of_id slot children)) value
allowed_is None value children = all_may None value (λ child. refl) children
allowed_is (Some (SignalId n)) value children = all_may (Some (SignalId n)) value (λ child. refl) children
allowed_is (Some (SignalName name)) value children = all_may (Some (SignalName name)) value (λ child. refl) children
allowed_is (Some (CompletionId n)) value children = over children ∙ sym (opened (has_child n children))
  where
    opened : (b : Bool) → is_allowed (is_some (child_at b n)) value ≡ (if b then is_id value else true)
    opened true = refl
    opened false = refl

    both : (id rest : Bool) → (id && (if rest then id else true)) ≡ id
    both true true = refl
    both true false = refl
    both false rest = refl

    over : (cs : List Child) → list_all (may_take (Some (CompletionId n)) value) cs ≡ (if has_child n cs then is_id value else true)
    over [] = refl
    over (child ∷ cs) = by_test (n == child.completion) (over cs)
      where
        by_test : (b : Bool) → list_all (may_take (Some (CompletionId n)) value) cs ≡ (if has_child n cs then is_id value else true)
            → ((if b then is_id value else true) && list_all (may_take (Some (CompletionId n)) value) cs) ≡ (if (b || has_child n cs) then is_id value else true)
        by_test true rest = ap (λ (b : Bool). is_id value && b) rest ∙ both (is_id value) (has_child n cs)
        by_test false rest = rest

-- a take makes no child
pub taken_made : (n : ℕ) (slot : Option NotificationId) (value : Value) (children : List Child) → AreMade n children → AreMade n (map (child_with_value slot value) children)
taken_made n slot value [] made = tt
taken_made n slot value (child ∷ children) made = (by_slot slot, taken_made n slot value children made.1)
  where
    by_test : (b : Bool) → (if b then record { completion = child.completion; taken = Some value } else child).completion < n
    by_test true = made.0
    by_test false = made.0

    by_slot : (s : Option NotificationId) → (child_with_value s value child).completion < n
    by_slot None = made.0
    by_slot (Some (SignalId k)) = made.0
    by_slot (Some (SignalName name)) = made.0
    by_slot (Some (CompletionId k)) = by_test (k == child.completion)
