-- What waits of what attempts wrote.
use Rattle.std.proofs.Common.{◌≡◌, ℕ, refl, ap, subst, ◌∙◌, inl, inr, List, Option, Some, None, option_map, bytes_eq, Result, Ok, Err, OnOk, OnErr}
use Rattle.std.proofs.lemmas.Slice.Eq.{bytes_eq-Decides}
use Rattle.journal_model.specs.Notification.{Bytes, Text}
use Rattle.store_live.specs.declared.attempt.LiveAttempt.{LiveAttempt}
use Rattle.store_live.specs.Attempts.{Attempts, ByInvocation, attempt_of, IsNow, ChangesLive, ChangesInput, after_hand_out, after_input, after_close}
use Rattle.store_live.specs.ChangedRoom.{IsAsBefore, AreAsBefore}
use Rattle.journal_store.specs.Attempts.{IsNowNoted}
use Rattle.journal_store.specs.StoreStanding.{output_of, KeepsOutputs, WaitsNow}
use Rattle.store_live.specs.Rows.{AreNoted}
use Rattle.store_tables.specs.declared.row.Write.{Write}
use Rattle.journal_store.proofs.Rows.{noted_waits}
use Rattle.journal_store.proofs.Standing.{true_or_false}

abbrev output_in : LiveAttempt → Bytes
output_in attempt = attempt.output

-- nothing has changed
pub same_waits : (old new : ByInvocation) → new ≡ old → KeepsOutputs old new
same_waits old new same id = ap (λ (all : ByInvocation). output_of all id) same

-- what is done to an attempt leaves its output
same_output : (change : LiveAttempt → LiveAttempt) → ((one : LiveAttempt) → (change one).output ≡ one.output) → (o : Option LiveAttempt)
    → option_map output_in (option_map change o) ≡ option_map output_in o
same_output change same None = refl
same_output change same (Some one) = ap (λ (bytes : Bytes). Some bytes) (same one)

changed_waits : (id : Text) (change : LiveAttempt → LiveAttempt) (old new : ByInvocation) → ((one : LiveAttempt) → (change one).output ≡ one.output) → ChangesLive id change old new
    → KeepsOutputs old new
changed_waits id change old new same changes other = elim (true_or_false (bytes_eq id other)) [
  | inl is ↦ subst (λ (o : Text). output_of new o ≡ output_of old o) ((bytes_eq-Decides id other).0 is)
      (ap (option_map output_in) changes.own ∙ same_output change same (attempt_of old id))
  | inr apart ↦ ap (option_map output_in) (changes.others other apart)
]

pub handed_waits : (id : Text) (most : ℕ) (old new : ByInvocation) → ChangesLive id (after_hand_out most) old new → KeepsOutputs old new
handed_waits id most old new changes = changed_waits id (after_hand_out most) old new (λ one. refl) changes

pub closed_waits : (id : Text) (old new : ByInvocation) → ChangesLive id after_close old new → KeepsOutputs old new
closed_waits id old new changes = changed_waits id after_close old new (λ one. refl) changes

-- room was made
pub before_waits : (old new : ByInvocation) → AreAsBefore old new → KeepsOutputs old new
before_waits old new same id = by_both (attempt_of old id) (attempt_of new id) (same id)
  where
    by_both : (one other : Option LiveAttempt) → IsAsBefore one other → option_map output_in other ≡ option_map output_in one
    by_both None None is = refl
    by_both (Some one) (Some other) is = ap (λ (a : LiveAttempt). Some a.output) is
    by_both None (Some other) is = absurd is
    by_both (Some one) None is = absurd is

pub still_waits : (old new : Attempts) → new ≡ old → KeepsOutputs old.attempts new.attempts
still_waits old new same id = ap (λ (all : Attempts). output_of all.attempts id) same

-- what was written was taken in, or nothing has changed
pub written_waits : {A E : Type 0} (writes : List Write) (result : Result A E) (old new : Attempts) → OnOk result (AreNoted writes old.attempts new.attempts) → OnErr result (new ≡ old) → KeepsOutputs old.attempts new.attempts
written_waits writes (Ok answer) old new noted same = noted_waits writes old.attempts new.attempts noted
written_waits writes (Err why) old new noted same = still_waits old new same

-- a frame is read
pub input_waits : (id : Text) (old new : ByInvocation) → ChangesInput id old new → KeepsOutputs old new
input_waits id old new it = changed_waits id (after_input it.0) old new (λ one. refl) it.1

-- of one invocation the attempt is this now, and of the others it is as before
pub now_waits : (id : Text) (attempt : Option LiveAttempt) (old new : ByInvocation) → IsNow id attempt old new → WaitsNow id (option_map output_in attempt) old new
now_waits id attempt old new now = record { own = ap (option_map output_in) now.own; others = λ other apart. ap (option_map output_in) (now.others other apart) }

-- and then what was written was taken in
pub noted_now_waits : (writes : List Write) (id : Text) (attempt : Option LiveAttempt) (old new : ByInvocation) → IsNowNoted writes id attempt old new → WaitsNow id (option_map output_in attempt) old new
noted_now_waits writes id attempt old new (between, now, noted) =
    let waits = noted_waits writes between new noted in
    record { own = waits id ∙ ap (option_map output_in) now.own; others = λ other apart. waits other ∙ ap (option_map output_in) (now.others other apart) }

pub stopped_waits : (id : Text) (old new : ByInvocation) → IsNow id None old new → WaitsNow id None old new
stopped_waits id old new now = now_waits id None old new now
