-- Letting go of attempts keeps an invocation in its run.
use Rattle.std.proofs.Common.{◌≡◌, sym, ◌∙◌, ℕ, Bool, true, false, List, Option, Some, None, ◌⊎◌, inl, inr}
use Rattle.std.specs.Prelude.{if◌then◌else◌}
use Rattle.journal_model.specs.Event.{Event}
use Rattle.journal_model.specs.Journal.{invocation_begun}
use Rattle.journal_model.specs.Notification.{Bytes, Text}
use Rattle.journal_model.specs.Run.{Handler}
use Rattle.journal_model.specs.declared.invocation.NewInvocation.{NewInvocation}
use Rattle.vm_types.specs.declared.options.VMOptions.{VMOptions}
use Rattle.schedule_model.proofs.LettingGo.{are_let_go}
use Rattle.schedule_laws.specs.InvocationInRun.{FollowsWhere, ToldOf}
use Rattle.schedule_laws.specs.Laws.{LettingGoKeeps}
use Rattle.schedule_laws.specs.Schedules.{HeldAttempt, goes, held_of, left_of}

module _ {H : Type 0} (id : Text) (held more : List (HeldAttempt H)) where
  -- each attempt of the invocation is held as before, or is not
  abbrev AreFewer : Type 0
  AreFewer = (n : ℕ) → (held_of more id n ≡ None) ⊎ (held_of more id n ≡ held_of held id n)

  unheld : AreFewer → (n : ℕ) → held_of held id n ≡ None → held_of more id n ≡ None
  unheld fewer n none = elim (fewer n) [ inl gone ↦ gone | inr same ↦ same ∙ none ]

  was_held : AreFewer → (n : ℕ) (one : HeldAttempt H) → held_of more id n ≡ Some one → held_of held id n ≡ Some one
  was_held fewer n one found = elim (fewer n) [
    | inl gone ↦ absurd (let none : None ≡ Some one = sym gone ∙ found in cc)
    | inr same ↦ sym same ∙ found
  ]

  module _ (function : H → Handler) (next : Handler) (options : VMOptions) (told : ToldOf) (events : List Event) (output : Option Bytes) where
    fewer_held : (new : Option NewInvocation) → AreFewer → FollowsWhere function next options id told events output held new → FollowsWhere function next options id told events output more new
    fewer_held None fewer f = λ n. (unheld fewer n (f n).0, (f n).1)
    fewer_held (Some new) fewer f = record {
      version = f.version;
      coming = f.coming;
      typed = f.typed;
      fit = f.fit;
      of_store = f.of_store;
      follows = f.follows;
      outcomes = f.outcomes;
      unfailed = f.unfailed;
      told_frames = f.told_frames;
      numbered = λ n above. (unheld fewer n (f.numbered n above).0, (f.numbered n above).1);
      flies = λ n waits one live is found. f.flies n waits one live is (was_held fewer n one found);
      attends = λ n one found. f.attends n one (was_held fewer n one found);
    }

left_fewer : {H : Type 0} (ids : List Text) (number : Option ℕ) (held : List (HeldAttempt H)) (id : Text) → AreFewer id held (left_of ids number held)
left_fewer {H} ids number held id n = by_goes (goes ids number id n) (are_let_go ids number held id n)
  where
    by_goes : (gone : Bool) → held_of (left_of ids number held) id n ≡ (if gone then None else held_of held id n)
        → (held_of (left_of ids number held) id n ≡ None) ⊎ (held_of (left_of ids number held) id n ≡ held_of held id n)
    by_goes true e = inl e
    by_goes false e = inr e

module _ {H : Type 0} (function : H → Handler) where
  pub letting_go_keeps : LettingGoKeeps function
  letting_go_keeps next options id s held told ids number f =
      fewer_held id held (left_of ids number held) function next options told s.events (s.outputs id) (invocation_begun s.events id) (left_fewer ids number held id) f
