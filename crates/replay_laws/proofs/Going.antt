-- The live attempt of a store goes on as it replays.
use Rattle.std.proofs.Common.{◌≡◌, refl, sym, ap, ◌∙◌, subst, ℕ, arith, ◌⊎◌, inl, inr, Bool, true, false, List, [], ◌∷◌, ◌++◌, append_assoc, append-nil, map}
use Rattle.journal_model.specs.declared.options.RunOptions.{RunOptions}
use Rattle.journal_model.specs.declared.value.NonEmptyValue.{NonEmptyValue}
use Rattle.journal_model.specs.Notification.{Bytes, Text}
use Rattle.journal_model.specs.Request.{Request}
use Rattle.journal_model.specs.Run.{Handler, run}
use Rattle.journal_model.specs.Event.{Event, Frame}
use Rattle.journal_model.specs.Journal.{recorded_requests}
use Rattle.journal_model.specs.Attempt.{input_bytes, is_input_closed}
use Rattle.journal_model.specs.Cause.{IsAccepted}
use Rattle.input_laws.specs.Message.{InputMessage, piece_of, arrivals_carried, requests_carried}
use Rattle.live_laws.specs.BegunAttempts.{proposals_in, IsProposed}
use Rattle.live_laws.specs.Live.{TurnsOfRun}
use Rattle.live_laws.specs.RequestsInFlight.{requests_sent, FollowsSo}
use Rattle.live_laws.proofs.Begun.{input_sent}
use Rattle.live_laws.proofs.LiveTurns.{requests_sent-append, turn_follows}
use Rattle.attempt_model.specs.Machine.{Machine}
use Rattle.live_laws.specs.AttemptWithMachine.{AttemptInRun, start_read, HasReadJournal, IsLiveMachine, after_reading, after_turn}
use Rattle.live_laws.proofs.LiveMachines.{machine_stays, position, is_live}
use Rattle.body_laws.specs.Bodies.{Body, Executor, bodies_of, acknowledges}
use Rattle.body_laws.specs.BodySimulation.{Among, has_arrived, count_proposed}
use Rattle.body_laws.proofs.Lists.{outcome, among-left, among-right}
use Rattle.replay_laws.specs.OutcomesInFlight.{outcomes_in, OutcomesStand}
use Rattle.replay_laws.specs.AttemptWithBodies.{IsLiveExecutor, outcome_frame}
use Rattle.replay_laws.proofs.OutcomesInFlight.{outcomes_are_new, others_follow}
use Rattle.replay_laws.proofs.Asked.{journal_come}
use Rattle.replay_laws.proofs.LiveBodies.{begins_coming, body_requested}
use Rattle.replay_laws.specs.ReplayedAttempt.{requests_asked_by, IsReplayed}
use Rattle.replay_laws.specs.Laws.{LivesStay}

-- frames without an outcome propose none that is acknowledged
proposals-none : (frames : List Frame) → outcomes_in frames ≡ [] → proposals_in frames ≡ []
proposals-none [] e = refl
proposals-none (Frame.RunOutcome number value told ∷ frames) e = cc
proposals-none (Frame.Command request ∷ frames) e = proposals-none frames e
proposals-none (Frame.AwaitingOn awaited ∷ frames) e = proposals-none frames e
proposals-none (Frame.Suspend suspension ∷ frames) e = proposals-none frames e
proposals-none (Frame.Error code message behavior delay ∷ frames) e = proposals-none frames e
proposals-none (Frame.End ∷ frames) e = proposals-none frames e
proposals-none (Frame.Broken ∷ frames) e = proposals-none frames e
proposals-none (Frame.TooDeep ∷ frames) e = proposals-none frames e
proposals-none (Frame.NotAccepted ∷ frames) e = proposals-none frames e

-- what was proposed, of one more
proposed-split : (proposed more : List (ℕ × NonEmptyValue)) (one : ℕ × NonEmptyValue) → IsProposed (proposed ++ more) one → IsProposed proposed one ⊎ Among one more
proposed-split [] more one p = inr (among-parts more p.before p.behind p.parts)
  where
    among-parts : (xs before behind : List (ℕ × NonEmptyValue)) → xs ≡ before ++ one ∷ behind → Among one xs
    among-parts [] [] behind e = cc
    among-parts [] (y ∷ before) behind e = cc
    among-parts (x ∷ xs) [] behind e = let same : x ≡ one = cc in inl (sym same)
    among-parts (x ∷ xs) (y ∷ before) behind e = let rest : xs ≡ before ++ one ∷ behind = cc in inr (among-parts xs before behind rest)
proposed-split (x ∷ proposed) more one p = by_parts p.before p.behind p.parts (λ q. proposed-split proposed more one q)
  where
    by_parts : (before behind : List (ℕ × NonEmptyValue)) → x ∷ (proposed ++ more) ≡ before ++ one ∷ behind → (IsProposed (proposed ++ more) one → IsProposed proposed one ⊎ Among one more) → IsProposed (x ∷ proposed) one ⊎ Among one more
    by_parts [] behind e later = let same : x ≡ one = cc in inl (record { before = []; behind = proposed; parts = ap (λ (y : ℕ × NonEmptyValue). y ∷ proposed) same })
    by_parts (y ∷ before) behind e later =
        let rest : proposed ++ more ≡ before ++ one ∷ behind = cc in
        elim (later (record { before = before; behind = behind; parts = rest })) [
          | inl q ↦ inl (record { before = x ∷ q.before; behind = q.behind; parts = ap (λ (ys : List (ℕ × NonEmptyValue)). x ∷ ys) q.parts })
          | inr a ↦ inr a
        ]

module _ (next : Handler) (options : RunOptions) (fallback_seed : ℕ) (id : Text) (events : List Event) (live : AttemptInRun) (proposed : List (ℕ × NonEmptyValue)) (e : Executor) (accepted : IsAccepted events)
    (x : IsLiveExecutor next options fallback_seed id events live proposed e) where
  again : (new : Executor) → IsReplayed next live proposed new → IsLiveExecutor next options fallback_seed id events live proposed new
  again new r =
      record { is_live = x.is_live; machine = r.machine; idle = r.idle; bodies = r.bodies; asked = r.asked; texts = r.texts; outcomes = x.outcomes; told = x.told }

  reads_on : (some still : List InputMessage) (kept : Bytes) (new : Executor) → live.bytes ≡ live.held → live.unread ≡ some ++ still → live.held ≡ input_bytes (map piece_of some) ++ kept
      → IsReplayed next (after_reading live some still kept) proposed new → IsLiveExecutor next options fallback_seed id events (after_reading live some still kept) proposed new
  reads_on some still kept new start parts held r = record {
    is_live = (machine_stays next options fallback_seed id events live accepted x.is_live).reads some still kept start parts held;
    machine = r.machine;
    idle = r.idle;
    bodies = r.bodies;
    asked = r.asked;
    texts = r.texts;
    outcomes = x.outcomes;
    told = x.told;
  }

  -- behind a turn, whatever it has proposed
  module _ (sent : List Frame) (calls : ℕ) (m : Machine) (start : live.bytes ≡ live.held) (written : m.written ≡ live.machine.written ++ requests_sent sent) (now : List (ℕ × NonEmptyValue)) (new : Executor)
      (r : IsReplayed next (after_turn live sent calls m) now new) where
    behind : IsLiveMachine next options fallback_seed id events (after_turn live sent calls m)
    behind = record {
      begun = x.is_live.begun;
      messages = input_sent events id live.coming sent live.proposed live.start.new live.start.journal (live.read ++ live.unread) x.is_live.messages;
      holds = start_read start;
      reads = x.is_live.reads;
      machine = r.stands;
      asked =
          ap (λ (some : List Request). recorded_requests events id ++ some) (requests_sent-append live.coming sent)
          ∙ sym (append_assoc (recorded_requests events id) (requests_sent live.coming) (requests_sent sent))
          ∙ ap (λ (some : List Request). some ++ requests_sent sent) x.is_live.asked
          ∙ append_assoc (requests_carried (live.read ++ live.unread)) live.machine.written (requests_sent sent)
          ∙ ap (λ (some : List Request). requests_carried (live.read ++ live.unread) ++ some) (sym written);
    }

    lives_behind : OutcomesStand events id (arrivals_carried live.start.journal) now (live.coming ++ sent)
        → ((n : ℕ) (value : NonEmptyValue) → IsProposed (live.proposed ++ proposals_in sent) (n, value) → (acknowledges live.start.given.version ≡ true) × Among (n, value) now)
        → IsLiveExecutor next options fallback_seed id events (after_turn live sent calls m) now new
    lives_behind outcomes told =
        record { is_live = behind; machine = r.machine; idle = r.idle; bodies = r.bodies; asked = r.asked; texts = r.texts; outcomes = outcomes; told = told }

  turns_on : (sent : List Frame) (calls : ℕ) (m : Machine) (new : Executor) → live.bytes ≡ live.held → outcomes_in sent ≡ [] → m.written ≡ live.machine.written ++ requests_sent sent
      → IsReplayed next (after_turn live sent calls m) proposed new → IsLiveExecutor next options fallback_seed id events (after_turn live sent calls m) proposed new
  turns_on sent calls m new start none written r =
      lives_behind sent calls m start written proposed new r (others_follow events id (arrivals_carried live.start.journal) proposed live.coming sent none x.outcomes)
      (λ n value p. x.told n value (subst (λ (all : List (ℕ × NonEmptyValue)). IsProposed all (n, value))
      (ap (λ (more : List (ℕ × NonEmptyValue)). live.proposed ++ more) (proposals-none sent none) ∙ append-nil live.proposed) p))

  module _ (body : Body) (value : NonEmptyValue) (called : Among body (bodies_of (run next live.start.given (arrivals_carried live.read) live.calls).steps))
      (not_come : has_arrived (arrivals_carried live.read) body.completion ≡ false) (not_proposed : count_proposed body.completion proposed ≡ 0) where
    -- one that has called a run has read its journal
    journal : HasReadJournal live
    journal = by_asked x.asked
      where
        by_asked : (live.calls ≡ 0) ⊎ HasReadJournal live → HasReadJournal live
        by_asked (inl zero) = absurd (subst (λ (calls : ℕ). Among body (bodies_of (run next live.start.given (arrivals_carried live.read) calls).steps)) zero called)
        by_asked (inr r) = r

    unknown : has_arrived (arrivals_carried live.start.journal) body.completion ≡ false
    unknown = by_test (has_arrived (arrivals_carried live.start.journal) body.completion) refl
      where
        by_test : (t : Bool) → has_arrived (arrivals_carried live.start.journal) body.completion ≡ t → t ≡ false
        by_test true come = let wrong : false ≡ true = sym not_come ∙ journal_come live journal body.completion come in cc
        by_test false come = refl

    told-on : (n : ℕ) (other : NonEmptyValue) (t : Bool) → acknowledges live.start.given.version ≡ t
        → IsProposed live.proposed (outcome n other) ⊎ Among (outcome n other) (proposals_in (Frame.RunOutcome body.completion value t ∷ []))
        → (acknowledges live.start.given.version ≡ true) × Among (outcome n other) (proposed ++ (body.completion, value) ∷ [])
    told-on n other t is (inl p) = let (ack, a) = x.told n other p in (ack, among-left (outcome n other) proposed ((body.completion, value) ∷ []) a)
    told-on n other true is (inr (inl g)) = (is, among-right (outcome n other) proposed ((body.completion, value) ∷ []) (inl g))
    told-on n other true is (inr (inr a)) = absurd a
    told-on n other false is (inr a) = absurd a

    proposes_on : (calls : ℕ) (m : Machine) (new : Executor) → live.bytes ≡ live.held → m.written ≡ live.machine.written ++ []
        → IsReplayed next (after_turn live (outcome_frame live.start.given.version body.completion value ∷ []) calls m) (proposed ++ (body.completion, value) ∷ []) new
        → IsLiveExecutor next options fallback_seed id events (after_turn live (outcome_frame live.start.given.version body.completion value ∷ []) calls m) (proposed ++ (body.completion, value) ∷ []) new
    proposes_on calls m new start written r =
        lives_behind (outcome_frame live.start.given.version body.completion value ∷ []) calls m start written (proposed ++ (body.completion, value) ∷ []) new r
        (let (arrivals, begins) = begins_coming next options fallback_seed id events live proposed e accepted x in
        outcomes_are_new next live.start.given arrivals events id (arrivals_carried live.start.journal) proposed live.coming body.completion value (acknowledges live.start.given.version) accepted begins
        (body_requested next options fallback_seed id events live proposed e accepted x body called) unknown (omega (arith, not_proposed)) x.outcomes)
        (λ n other p. told-on n other (acknowledges live.start.given.version) refl (proposed-split live.proposed _ (n, other) p))

  follows_on : (sent : List Frame) → FollowsSo next live.start.given id events live.coming
      → TurnsOfRun next live.start.given (is_input_closed events id) live.held live.read live.unread (requests_asked_by live) live.held sent
      → FollowsSo next live.start.given id events (live.coming ++ sent)
  follows_on sent f turn =
      turn_follows next live.start.given id events live.coming live.held live.held live.read live.unread live.calls
      (position next options fallback_seed id events live x.is_live).left live.machine.written sent (is_live next options fallback_seed id events live x.is_live)
      (subst (λ (requests : List Request). TurnsOfRun next live.start.given (is_input_closed events id) live.held live.read live.unread requests live.held sent) (sym x.is_live.asked) turn) f

pub lives_stay : LivesStay
lives_stay next options fallback_seed id events live proposed e accepted x = record {
  again = λ new r. again next options fallback_seed id events live proposed e accepted x new r;
  reads = λ some still kept new start parts held r. reads_on next options fallback_seed id events live proposed e accepted x some still kept new start parts held r;
  turns = λ sent calls m new start none written r. turns_on next options fallback_seed id events live proposed e accepted x sent calls m new start none written r;
  proposes = λ body value calls m new start called not_come not_proposed written r.
      proposes_on next options fallback_seed id events live proposed e accepted x body value called not_come not_proposed calls m new start written r;
  follows = λ sent f turn. follows_on next options fallback_seed id events live proposed e accepted x sent f turn;
}
