-- The text of what was done, also where there is no memory for it.
use Rattle.std.proofs.Common.{◌≡◌, ℕ, List, [], ◌∷◌, ◌++◌, Option, Result, refl, subst, sym, inl, inr}
use Rattle.sqlite_trees.specs.declared.store.Store.{Ghosts}
use Rattle.built_in_handlers.specs.declared.built_in.BuiltIn.{BuiltIn}
use Rattle.journal_model.specs.Notification.{Text}
use Rattle.scheduler.specs.declared.scheduler.Scheduler.{Scheduler}
use Rattle.durable_schedule.specs.Schedules.event
use Rattle.durable_schedule.specs.Schedules.{Event, Reply}
use Rattle.script_lines.specs.declared.line.Line.{Line}
use Rattle.script_lines.specs.declared.line.Line.TheVariants as line
use Rattle.script_lines.specs.declared.outcome.LineOutcome.{LineOutcome}
use Rattle.script_lines.specs.declared.word.HandlerName.{HandlerName}
use Rattle.durable_script.specs.Lasting.{IsUnwritten, KeepsEvent}
use Rattle.durable_script.specs.Line.{AppliesOne, IsBegin, DoesEvent, DoesSomeEvent, TookTurns, TakesTurns, DoesLine, DoesSomeLine}
use Rattle.durable_script.specs.ReplyTexts.{printed, MakesText}
use Rattle.durable_script.specs.Runner.{PrintsEvent, PrintsLine}
use Rattle.durable_script.specs.SchedulerChanges.{Reaches, Nowhere}
use Rattle.durable_script.proofs.Lasting.{leaves_so}
use Rattle.durable_script.proofs.SchedulerChanges.{Applied, reaches_so}

module _ {S : Type 0} (g : Ghosts S) (old new : Scheduler BuiltIn S) where
  pub event_printed : (one : Event BuiltIn) (reply : Reply) → Reaches g (Applied one) (AppliesOne one reply) old new
      → (text : List ℕ) → text ≡ printed 1 reply ++ 10 ∷ [] → Reaches g (DoesSomeEvent one) (DoesEvent one text) old new
  event_printed one reply applied text is =
      reaches_so g (Applied one) (DoesSomeEvent one) (AppliesOne one reply) (DoesEvent one text) old new
      (λ x y p. (printed 1 p.0 ++ 10 ∷ [], record { reply = p.0; applies = p.1; text_is = refl })) (λ x y p. record { reply = reply; applies = p; text_is = is }) applied

  pub turns_printed : (id : Text) (attempt asked : ℕ) (outcome : Option LineOutcome) (taken : ℕ) (last : Reply) → Reaches g Nowhere (TookTurns id attempt asked outcome taken last) old new
      → (text : List ℕ) → text ≡ printed taken last ++ 10 ∷ [] → Reaches g Nowhere (TakesTurns id attempt asked outcome text) old new
  turns_printed id attempt asked outcome taken last took text is =
      reaches_so g Nowhere Nowhere (TookTurns id attempt asked outcome taken last) (TakesTurns id attempt asked outcome text) old new (λ x y none. none)
      (λ x y p. record { taken = taken; last = last; took = p; text_is = is }) took

-- what is told of a text is told in another way
module _ {T E : Type 0} (bytes_of : T → List ℕ) (r : Result T E) where
  module _ {S : Type 0} (g : Ghosts S) (old new : Scheduler BuiltIn S) where
    -- a line that begins an attempt
    pub makes_begun : (id : Text) (name : HandlerName) (now : ℕ) (one : Event BuiltIn) → IsBegin id name now one → MakesText bytes_of r (λ text. PrintsEvent g one text old new)
        → MakesText bytes_of r (λ text. PrintsLine g (line.Begin id name now) text old new)
    makes_begun id name now one is made =
        let it = event.Begin id is.0 now in
        let prints = subst (λ (e : Event BuiltIn). PrintsEvent g e made.0 old new) is.2 made.2 in (
          made.0,
          made.1,
          record {
            does = reaches_so g (DoesSomeEvent it) (DoesSomeLine (line.Begin id name now)) (DoesEvent it made.0) (DoesLine (line.Begin id name now) made.0) old new
                (λ x y p. (p.0, (is.0, is.1, p.1))) (λ x y p. (is.0, is.1, p)) prints.does;
            lasts = elim prints.lasts [
              | inl none ↦ inl none
              | inr lasts ↦ inr (leaves_so g old new ⊥ (KeepsEvent it made.0) (DoesLine (line.Begin id name now) made.0) (λ x y p. (is.0, is.1, p)) lasts)
            ];
          },
        )

    -- a line that commits nothing leaves nothing more in a crash
    pub makes_quiet : (asked it : Line) → asked ≡ it → ((text : List ℕ) → IsUnwritten it text) → MakesText bytes_of r (λ text. Reaches g Nowhere (DoesLine it text) old new)
        → MakesText bytes_of r (λ text. PrintsLine g asked text old new)
    makes_quiet asked it is none made =
        subst (λ (line : Line). MakesText bytes_of r (λ text. PrintsLine g line text old new)) (sym is) (
          made.0,
          made.1,
          record {
            does = reaches_so g Nowhere (DoesSomeLine it) (DoesLine it made.0) (DoesLine it made.0) old new (λ x y never. absurd never) (λ x y p. p) made.2;
            lasts = inl (none made.0);
          },
        )
