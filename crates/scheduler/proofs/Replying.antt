-- What a store did, as a scheduler tells it.
use Rattle.std.proofs.Common.{◌≡◌, sym, subst, ℕ, Option, None, Result, Ok, Err, IfErr, IfSome}
use Rattle.store_refusals.specs.declared.refusal.Refusal.{Refusal}
use Rattle.schedule_model.specs.declared.event.Reply.{Reply}
use Rattle.schedule_model.specs.declared.event.Reply.TheVariants as reply
use Rattle.schedule_model.specs.Schedule.{RepliesCount, RepliesDone, RepliesPlace}
use Rattle.scheduler.specs.SchedulerCalls.{IsDoneIfHeld, IsTakenUp, refusal_told, reply_to}

pub replies_done : (Did : Result (Unit {0}) Refusal → Type 0) (told : Result (Unit {0}) Refusal) → Did told → RepliesDone Did (reply_to (λ _. reply.Done) told)
replies_done Did (Ok done) it = it
replies_done Did (Err why) it = it

-- it cannot be refused
pub is_done : (told : Result (Unit {0}) Refusal) → IfErr told (λ why. ⊥) → IsDoneIfHeld (reply_to (λ _. reply.Done) told)
is_done (Ok done) never = tt
is_done (Err why) never = absurd never

-- what the store told is no refusal before it was asked
pub told_taken_up : (told : Result (Unit {0}) Refusal) → IsTakenUp (reply_to (λ _. reply.Done) told)
told_taken_up (Ok done) = tt
told_taken_up (Err why) = tt

pub replies_place : (Did : Result ℕ Refusal → Type 0) (told : Result ℕ Refusal) → Did told → RepliesPlace Did (reply_to (λ place. reply.Placed place) told)
replies_place Did (Ok place) it = it
replies_place Did (Err why) it = it

pub replies_count : (Did : Result ℕ Refusal → Type 0) (told : Result ℕ Refusal) → Did told → RepliesCount Did (reply_to (λ sleeps. reply.Ticked sleeps) told)
replies_count Did (Ok sleeps) it = it
replies_count Did (Err why) it = it

-- what the store refused is told, and where it refused nothing, nothing is
pub told_refused : {A : Type 0} (says : A → Reply) (P : Refusal → Type 0) → ((done : A) → refusal_told (says done) ≡ None) → (told : Result A Refusal) → IfErr told P → IfSome (refusal_told (reply_to says told)) P
told_refused says P silent (Ok done) it = subst (λ (why : Option Refusal). IfSome why P) (sym (silent done)) tt
told_refused says P silent (Err why) it = it
