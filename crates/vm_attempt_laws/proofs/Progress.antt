-- Turns one after the other, with the journal read and the input closed.
use Rattle.std.proofs.Common.{◌≡◌, ◌⊎◌, inl, inr, ◌∙◌, ◌+◌, arith, ℕ, suc, true, false, true≢false, List, [], ◌∷◌, ◌++◌, length, length-append, map, Option, sym, ap, subst}
use Rattle.vm_attempt_laws.specs.Bodies.{NonEmptyValue}
use Rattle.vm_attempt_laws.specs.AttemptSimulation.{HasBodies, Serves, IsOver}
use Rattle.vm_attempt_laws.proofs.Over.{overs_stay}
use Rattle.vm_attempt_laws.specs.Attempts.turns
use Rattle.vm_attempt_laws.specs.Attempts.{Attempt, Turn}
use Rattle.vm_attempt_laws.specs.OutputOfAttempt.{Sent, frame_meant}
use Rattle.vm_attempt_laws.specs.Words.{Version, Input, Handler, AttemptInRun, HasReadJournal, after_turn, VMOptions, Queued}
use Rattle.vm_attempt_laws.specs.TurnsInRun.{turns_answered, GoesOnWith, TurnsBehind, TurnKeeps, TurnServes, TurnsEach, AnswersEach, TurnsAnswer}

module _ {H : Type 0} (function : H → Handler) (next : Handler) (version : Version) (options : VMOptions) where
  -- one that is over stays so
  over_each : (some : List Turn) (before after : Attempt H) → IsOver before → TurnsEach function next version options some before after → IsOver after
  over_each [] before after over same = subst IsOver (sym same) over
  over_each (turn ∷ more) before after over each =
      over_each more each.1 after (subst IsOver (sym ((overs_stay function before over).turned each.0 turn each.1 each.2).1) over) each.3

  -- where it was the live attempt that waits, its journal was not read or more could come
  never_waits : (live : AttemptInRun) (before : Attempt H) → HasReadJournal live → {A : Type 0} → {B : Type 0}
      → (HasReadJournal live → ⊥) ⊎ ((true ≡ false) × B) → A
  never_waits live before journal (inl unread) = absurd (unread journal)
  never_waits live before journal (inr waits) = absurd (true≢false waits.0)

  -- one more is answered, or one more body is executed
  one_more : (n p k m : ℕ) → m ≡ suc n → (m + p) + k ≡ (n + p) + suc k
  one_more n p k m e = omega (arith, e)

  one_ran : (n p q k m : ℕ) → m ≡ n → q ≡ p + 1 → (m + q) + k ≡ (n + p) + suc k
  one_ran n p q k m e f = omega (arith, e, f)

  one_longer : (proposed : List (ℕ × NonEmptyValue)) (one : ℕ × NonEmptyValue) → length (proposed ++ one ∷ []) ≡ length proposed + 1
  one_longer proposed one = length-append proposed (one ∷ [])

  module _ (keeps : TurnServes function next version options) (queued : options.signal_delivery ≡ Queued) where
    progress : (some : List Turn) (live : AttemptInRun) (before : Attempt H) (proposed : List (ℕ × NonEmptyValue)) (after : Attempt H) → HasBodies next live proposed before → HasReadJournal live → Serves function next version options live true before
        → TurnsEach function next version options some before after → IsOver after ⊎ AnswersEach function next version options true live before proposed some after
    progress [] live before proposed after b journal s same = inr (record {
      now = live;
      now_proposed = proposed;
      goes_on = subst (GoesOnWith function next version options true live proposed) (sym same) (record { bodies = b; serves = s });
      answered = ap (λ (a : Attempt H). turns_answered a.input live.calls + length proposed) same ∙ and_none (turns_answered before.input live.calls + length proposed);
    })
      where
        and_none : (n : ℕ) → n ≡ n + 0
        and_none n = omega arith
    progress (turn ∷ more) live before proposed after b journal s each =
        by_turn turn kept.sent kept.behind (λ now. progress more now each.1)
      where
        kept : TurnKeeps function next version options true live before proposed each.0 turn each.1
        kept = keeps true live before proposed each.0 turn each.1 queued b s each.2

        by_turn : (turn' : Turn) (sent : List Sent) → TurnsBehind function next version options true live before proposed each.0 sent turn' each.1
            → ((now : AttemptInRun) (now_proposed : List (ℕ × NonEmptyValue)) (after' : Attempt H) → HasBodies next now now_proposed each.1 → HasReadJournal now
            → Serves function next version options now true each.1 → TurnsEach function next version options more each.1 after'
            → IsOver after' ⊎ AnswersEach function next version options true now each.1 now_proposed more after')
            → IsOver after ⊎ AnswersEach function next version options true live before proposed (turn ∷ more) after
        by_turn turns.Answered sent behind later =
            go (later (after_turn live (map (frame_meant version) sent) behind.0 behind.1) proposed after behind.3.bodies (record { later = journal.later; parts = journal.parts }) behind.3.serves each.3)
          where
            go : IsOver after ⊎ AnswersEach function next version options true (after_turn live (map (frame_meant version) sent) behind.0 behind.1) each.1 proposed more after
                → IsOver after ⊎ AnswersEach function next version options true live before proposed (turn ∷ more) after
            go (inl over) = inl over
            go (inr a) = inr (record {
              now = a.now;
              now_proposed = a.now_proposed;
              goes_on = a.goes_on;
              answered = a.answered ∙ one_more (turns_answered before.input live.calls) (length proposed) (length more) (turns_answered each.1.input behind.0) behind.2;
            })
        by_turn turns.RanBody sent behind later =
            go (later (after_turn live (map (frame_meant version) sent) live.calls behind.machine) (proposed ++ (behind.body.completion, behind.value) ∷ []) after behind.goes_on.bodies
            (record { later = journal.later; parts = journal.parts }) behind.goes_on.serves each.3)
          where
            go : IsOver after ⊎ AnswersEach function next version options true (after_turn live (map (frame_meant version) sent) live.calls behind.machine) each.1
                (proposed ++ (behind.body.completion, behind.value) ∷ []) more after
                → IsOver after ⊎ AnswersEach function next version options true live before proposed (turn ∷ more) after
            go (inl over) = inl over
            go (inr a) = inr (record {
              now = a.now;
              now_proposed = a.now_proposed;
              goes_on = a.goes_on;
              answered = a.answered ∙ one_ran (turns_answered before.input live.calls) (length proposed) (length (proposed ++ (behind.body.completion, behind.value) ∷ [])) (length more)
                  (turns_answered each.1.input live.calls) (ap (λ (input : Option Input). turns_answered input live.calls) behind.input) (one_longer proposed (behind.body.completion, behind.value));
            })
        by_turn turns.Waiting sent behind later = never_waits live before journal behind.0
        by_turn turns.Suspended sent behind later = inl (over_each more each.1 after behind.2 each.3)
        by_turn turns.Ended sent behind later = inl (over_each more each.1 after behind.1 each.3)
        by_turn (turns.Failed error) sent behind later = inl (over_each more each.1 after behind.1 each.3)

pub turns_answer : {H : Type 0} (function : H → Handler) (next : Handler) (version : Version) (options : VMOptions) → TurnServes function next version options → TurnsAnswer function next version options
turns_answer function next version options keeps live some before proposed after queued b journal s each =
    progress function next version options keeps queued some live before proposed after b journal s each
