-- What each reply to a turn tells of the attempt that a begin has begun, and what waits of it to be moved.
use Rattle.std.proofs.Common.{◌≡◌, ap, subst, ◌∙◌, ℕ, List, [], ◌∷◌, Some}
use Rattle.std.specs.List.{AllByRecursion}
use Rattle.journal_model.specs.Notification.{Bytes, Text}
use Rattle.journal_model.specs.Event.{Event}
use Rattle.journal_model.specs.Run.{Handler}
use Rattle.journal_model.specs.Spelling.{frame_bytes}
use Rattle.journal_model.specs.Start.{start_payload}
use Rattle.protocol_types.specs.declared.message_type.MessageType.{MessageType}
use Rattle.vm_types.specs.declared.options.VMOptions.{VMOptions}
use Rattle.schedule_laws.specs.TrackedAttempt.{Tracked}
use Rattle.schedule_laws.specs.InvocationInRun.{FollowsTold, ReplaysInLine, ToldOf}
use Rattle.schedule_laws.specs.Laws.{DoesFeeding, KeepsTold, KeepsWaiting, ToldByEach}
use Rattle.schedule_laws.specs.Schedules.scheduled
use Rattle.schedule_laws.specs.Schedules.event
use Rattle.schedule_laws.specs.Schedules.reply
use Rattle.schedule_laws.specs.Schedules.{Brings, FitsEvent, held_of, HeldAttempt, Reply, Scheduled}
use Rattle.schedule_laws.specs.TurnReplies.{BegunTells, EachBegunTells, TurnsTellEach, attempt_start_of, told_start}
use Rattle.schedule_laws.specs.WrittenFrames.{MovesBytes}
use Rattle.schedule_laws.specs.Attempts.{output_of}
use Rattle.durable_schedule.specs.HandedBytes.{HandsEach, HandsOne}

module _ {H : Type 0} (function : H → Handler) (options : VMOptions) where
  does_so : (one : scheduled.Event H) (answer : Reply) (bytes : Bytes) (old new : Scheduled H) → HandsOne function options one answer bytes old new
      → DoesFeeding function options one answer bytes old.standing old.held new.standing new.held
  does_so (event.Begin id handler now) (reply.Begun number) bytes old new it = (it.0, it.1, it.2, it.3)
  does_so (event.Feed id number count) (reply.Fed fed why) bytes old new it = it
  does_so one answer bytes old new it = it.0

  module _ (next : Handler) (id : Text) (each : ToldByEach function) (in_line : ReplaysInLine options) where
    abbrev Follows : ToldOf → Scheduled H → Type 0
    Follows told s = FollowsTold function next options id told s.standing s.held

    abbrev Waits : scheduled.Event H → Reply → Bytes → List (HeldAttempt H) → List (HeldAttempt H) → ToldOf → Type 0
    Waits one answer moved held more told = KeepsWaiting function next id one answer moved held more told

    kept : (one : scheduled.Event H) (answer : Reply) (bytes moved : Bytes) (old new : Scheduled H) (told : ToldOf) → HandsOne function options one answer bytes old new → MovesBytes one answer moved old.held
        → FitsEvent one → Brings function id next one → Follows told old → KeepsTold function next options id one answer bytes old.standing new.standing new.held told × Waits one answer moved old.held new.held told
    kept one answer bytes moved old new told it goes fits brings f =
        each next options id one answer bytes moved old.standing new.standing old.held new.held told in_line fits brings (does_so one answer bytes old new it) goes f

    -- of an attempt that is held, of which this was told
    tell_each : (events : List (scheduled.Event H)) (replies : List Reply) (added : List (List Event)) (handed moved : List Bytes) (old new : Scheduled H) (told : ToldOf) (number : ℕ) (t : Tracked) (held : HeldAttempt H)
        → HandsEach function options events replies added handed moved old new → AllByRecursion FitsEvent events → AllByRecursion (Brings function id next) events → Follows told old → told number ≡ Some t
        → held_of old.held id number ≡ Some held → TurnsTellEach next t.start id number events replies added handed moved t.told (output_of held.attempt)
    tell_each [] [] [] [] [] old new told number t held it fits brings f is there = tt
    tell_each (one ∷ events) (answer ∷ replies) (some ∷ added) (bytes ∷ handed) (gone ∷ moved) old new told number t held it fits brings f is there =
        let k = kept one answer bytes gone old it.0 told it.1 it.4 fits.0 brings.0 f in
        let now = k.0.tells number t is in
        let left = k.1.leaves number t is held there in (
          now.0,
          output_of left.0.attempt,
          now.2,
          k.0.takes number t is some it.2,
          left.2,
          tell_each events replies added handed moved it.0 new k.0.now number (record { start = t.start; told = now.0 }) left.0 it.3 fits.1 brings.1 k.0.follows now.1 left.1,
        )
    tell_each _ _ _ _ _ old new told number t held it fits brings f is there = absurd it

    -- behind one event
    begun_tells : (one : scheduled.Event H) (answer : Reply) (bytes gone : Bytes) (events : List (scheduled.Event H)) (replies : List Reply) (added : List (List Event)) (handed moved : List Bytes) (old between new : Scheduled H)
        (told : ToldOf) → HandsOne function options one answer bytes old between → KeepsTold function next options id one answer bytes old.standing between.standing between.held told
        → Waits one answer gone old.held between.held told → HandsEach function options events replies added handed moved between new → AllByRecursion FitsEvent events → AllByRecursion (Brings function id next) events
        → BegunTells next options id one answer bytes events replies added handed moved old.standing.events
    begun_tells (event.Begin other handler now) (reply.Begun number) bytes gone events replies added handed moved old between new told it k w rest fits brings = λ same invocation is.
        let start = attempt_start_of options id old.standing.events now invocation in
        let one = w.begins same in (
          it.4 ∙ it.2.start ∙ ap (λ (x : Text). frame_bytes MessageType.Start (start_payload old.standing.events x now)) same,
          subst (λ (waits : Bytes). TurnsTellEach next start id number events replies added handed moved (told_start start) waits) one.2
              (tell_each events replies added handed moved between new k.now number (record { start = start; told = told_start start }) one.0 rest fits brings k.follows (k.begins same invocation is) one.1),
        )
    begun_tells one answer bytes gone events replies added handed moved old between new told it k w rest fits brings = tt

    -- so it is of each begin
    pub begins_tell : (events : List (scheduled.Event H)) (replies : List Reply) (added : List (List Event)) (handed moved : List Bytes) (old new : Scheduled H) (told : ToldOf)
        → HandsEach function options events replies added handed moved old new → AllByRecursion FitsEvent events → AllByRecursion (Brings function id next) events → Follows told old
        → EachBegunTells next options id events replies added handed moved old.standing.events
    begins_tell [] [] [] [] [] old new told it fits brings f = tt
    begins_tell (one ∷ events) (answer ∷ replies) (some ∷ added) (bytes ∷ handed) (gone ∷ moved) old new told it fits brings f =
        let k = kept one answer bytes gone old it.0 told it.1 it.4 fits.0 brings.0 f in (
          begun_tells one answer bytes gone events replies added handed moved old it.0 new told it.1 k.0 k.1 it.3 fits.1 brings.1,
          subst (λ (earlier : List Event). EachBegunTells next options id events replies added handed moved earlier) it.2
              (begins_tell events replies added handed moved it.0 new k.0.now it.3 fits.1 brings.1 k.0.follows),
        )
    begins_tell _ _ _ _ _ old new told it fits brings f = absurd it
