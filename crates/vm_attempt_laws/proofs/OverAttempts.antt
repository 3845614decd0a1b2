-- An attempt that is over, or whose machine has failed, stays so, and tells it in each turn.
use Rattle.std.proofs.Common.{◌≡◌, ◌⊎◌, inl, inr, ◌∙◌, Bool, true, false, Option, Some, None, Result, Ok, Err, refl, sym, ap, subst}
use Rattle.vm_input_laws.proofs.Staying.{failed_fed}
use Rattle.vm_attempt_laws.specs.Attempts.finishes
use Rattle.vm_attempt_laws.specs.Attempts.{Feeds, FeedsUnless, ClosesInput, ClosesUnless, OnlyMoves, again, FinishesBy, TakesOutcome, GivesInput, ReadsOrAsks, TurnsWhere, TurnsUnless, TurnsOn, Turns, ran_or_failed, Attempt, Finish, Turn}
use Rattle.vm_attempt_laws.specs.Bodies.{RunOutcome}
use Rattle.vm_attempt_laws.specs.AttemptInvariants.{early_error, FailsWith, IsLast}
use Rattle.vm_attempt_laws.specs.Machine.outcomes
use Rattle.vm_attempt_laws.specs.Machine.phases
use Rattle.vm_attempt_laws.specs.Machine.{CallOutcome, CoreVM, IsCopy, IsFed, out_of_memory, Written, TellsReady, MachineState, Phase, is_waiting, input_closed, with_input, ClosesWhere, ClosesInput as ClosesMachine}
use Rattle.vm_attempt_laws.specs.AttemptSimulation.{AnswersKept, IsOver, finished, machine_failed}
use Rattle.vm_attempt_laws.specs.Words.{Bytes, Error, Handler, Input}
use Rattle.vm_attempt_laws.specs.OverAttempts.{IsOverBy, by_finish, by_error}
use Rattle.vm_attempt_laws.specs.TurnReports.{FailsEarly, IsAgain}

same_finish : (a b : Finish) → Some a ≡ Some b → a ≡ b
same_finish a b e = cc

none_some : {A : Type 0} (o : Option Finish) (finish : Finish) → o ≡ None → o ≡ Some finish → A
none_some o finish none some = absurd (let clash : ◌≡◌ {A = Option Finish} None (Some finish) = sym none ∙ some in cc)

module _ {H : Type 0} where
  -- what is over is so by some finish or by its machine
  pub over_of : (last : Turn) (a : Attempt H) → IsOverBy last a → IsOver a
  over_of last a (by_finish finish is same) = finished finish is
  over_of last a (by_error kept error none failed copies same) = machine_failed kept failed

  -- ---- its input comes

  fed_same : (over : Option Finish) (finish : Finish) (bytes : Bytes) (before after : Attempt H) → before.over ≡ over → before.over ≡ Some finish → FeedsUnless over bytes before after → after ≡ before
  fed_same (Some other) finish bytes before after is some does = does
  fed_same None finish bytes before after is some does = none_some before.over finish is some

  fed_new : (over : Option Finish) (bytes : Bytes) (before after : Attempt H) → before.over ≡ over → before.over ≡ None → FeedsUnless over bytes before after
      → IsFed bytes before.vm.state after.vm.state × (after ≡ record before { vm = after.vm })
  fed_new (Some finish) bytes before after is none does = none_some before.over finish none is
  fed_new None bytes before after is none does = does

  pub fed_going : (bytes : Bytes) (before after : Attempt H) → before.over ≡ None → Feeds bytes before after → (after.over ≡ None) × (after.input ≡ before.input)
  fed_going bytes before after none feeds =
      let same = (fed_new before.over bytes before after refl none feeds).1 in
      (ap (λ (a : Attempt H). a.over) same ∙ none, ap (λ (a : Attempt H). a.input) same)

  pub fed_failed : (error : Error) (bytes : Bytes) (before after : Attempt H) → before.over ≡ None → before.vm.state.phase ≡ phases.Failed error → Feeds bytes before after
      → after.vm.state.phase ≡ phases.Failed error
  fed_failed error bytes before after none failed feeds = go (failed_fed error bytes before.vm.state after.vm.state failed (fed_new before.over bytes before after refl none feeds).0)
    where
      go : (after.vm.state ≡ with_input bytes before.vm.state) ⊎ (after.vm.state ≡ before.vm.state) → after.vm.state.phase ≡ phases.Failed error
      go (inl same) = ap (λ (vm : MachineState). vm.phase) same ∙ failed
      go (inr same) = ap (λ (vm : MachineState). vm.phase) same ∙ failed

  pub fed_over : (last : Turn) (bytes : Bytes) (before after : Attempt H) → IsOverBy last before → Feeds bytes before after → IsOverBy last after
  fed_over last bytes before after (by_finish finish is same) feeds =
      by_finish finish (ap (λ (a : Attempt H). a.over) (fed_same before.over finish bytes before after refl is feeds) ∙ is) same
  fed_over last bytes before after (by_error kept error none failed copies same) feeds =
      by_error kept error (fed_going bytes before after none feeds).0 (fed_failed kept bytes before after none failed feeds) copies same

  -- ---- it is closed

  closed_same : (over : Option Finish) (finish : Finish) (before after : Attempt H) → before.over ≡ over → before.over ≡ Some finish → ClosesUnless over before after → after ≡ before
  closed_same (Some other) finish before after is some does = does
  closed_same None finish before after is some does = none_some before.over finish is some

  closed_new : (over : Option Finish) (before after : Attempt H) → before.over ≡ over → before.over ≡ None → ClosesUnless over before after
      → ClosesMachine before.vm.state after.vm.state × (after ≡ record before { vm = after.vm })
  closed_new (Some finish) before after is none does = none_some before.over finish none is
  closed_new None before after is none does = does

  pub closed_going : (before after : Attempt H) → before.over ≡ None → ClosesInput before after → (after.over ≡ None) × (after.input ≡ before.input)
  closed_going before after none closes =
      let same = (closed_new before.over before after refl none closes).1 in
      (ap (λ (a : Attempt H). a.over) same ∙ none, ap (λ (a : Attempt H). a.input) same)

  pub closed_failed : (error : Error) (before after : Attempt H) → before.over ≡ None → before.vm.state.phase ≡ phases.Failed error → ClosesInput before after → after.vm.state.phase ≡ phases.Failed error
  closed_failed error before after none failed closes =
      let does = (closed_new before.over before after refl none closes).0 in
      let same : after.vm.state ≡ input_closed before.vm.state = subst (λ (b : Bool). ClosesWhere b (input_closed before.vm.state) after.vm.state) (ap is_waiting failed) does in
      ap (λ (vm : MachineState). vm.phase) same ∙ failed

  pub closed_over : (last : Turn) (before after : Attempt H) → IsOverBy last before → ClosesInput before after → IsOverBy last after
  closed_over last before after (by_finish finish is same) closes =
      by_finish finish (ap (λ (a : Attempt H). a.over) (closed_same before.over finish before after refl is closes) ∙ is) same
  closed_over last before after (by_error kept error none failed copies same) closes =
      by_error kept error (closed_going before after none closes).0 (closed_failed kept before after none failed closes) copies same

  -- ---- its output leaves

  pub moved_going : (before after : Attempt H) → OnlyMoves before after → (after.over ≡ before.over) × (after.input ≡ before.input)
  moved_going before after moves = (ap (λ (a : Attempt H). a.over) moves.others, ap (λ (a : Attempt H). a.input) moves.others)

  pub moved_failed : (error : Error) (before after : Attempt H) → before.vm.state.phase ≡ phases.Failed error → OnlyMoves before after → after.vm.state.phase ≡ phases.Failed error
  moved_failed error before after failed moves = ap (λ (vm : CoreVM). vm.state.phase) moves.machine ∙ failed

  pub moved_over : (last : Turn) (before after : Attempt H) → IsOverBy last before → OnlyMoves before after → IsOverBy last after
  moved_over last before after (by_finish finish is same) moves = by_finish finish ((moved_going before after moves).0 ∙ is) same
  moved_over last before after (by_error kept error none failed copies same) moves =
      by_error kept error ((moved_going before after moves).0 ∙ none) (moved_failed kept before after failed moves) copies same

  -- ---- it makes a turn

  module _ (function : H → Handler) (ran : RunOutcome) where
    again_tells : (finish : Finish) → IsAgain (again finish) (again finish)
    again_tells finishes.Suspended = refl
    again_tells finishes.Ended = refl
    again_tells finishes.OutOfMemory = (out_of_memory, out_of_memory, inl refl, inl refl, refl)

    turns_new : (over : Option Finish) (before : Attempt H) (turn : Turn) (after : Attempt H) → before.over ≡ over → before.over ≡ None → TurnsUnless function ran over before turn after → TurnsOn function ran before turn after
    turns_new (Some finish) before turn after is none turns = none_some before.over finish none is
    turns_new None before turn after is none turns = turns

    refuses : (ready : Result Bool Error) (kept : Error) (before : Attempt H) (turn : Turn) (after : Attempt H) → TellsReady (phases.Failed kept) ready → TurnsWhere function ran ready before turn after
        → (error : Error) × (turn ≡ Turn.Failed error) × IsCopy kept error × (after ≡ before)
    refuses (Ok ready) kept before turn after is turns = absurd is
    refuses (Err error) kept before turn after is turns = (error, turns.0, is, turns.1)

    -- one whose machine has failed tells that
    pub turned_failed : (kept : Error) (before : Attempt H) (turn : Turn) (after : Attempt H) → before.over ≡ None → before.vm.state.phase ≡ phases.Failed kept → Turns function ran before turn after
        → (error : Error) × (turn ≡ Turn.Failed error) × IsCopy kept error × (after ≡ before)
    turned_failed kept before turn after none failed turns =
        let on = turns_new before.over before turn after refl none turns in
        refuses on.ready kept before turn after (subst (λ (p : Phase). TellsReady p on.ready) failed on.is_ready) on.turns

    says_again : (over : Option Finish) (last : Turn) (finish : Finish) (before : Attempt H) (turn : Turn) (after : Attempt H) → before.over ≡ over → before.over ≡ Some finish → last ≡ again finish
        → TurnsUnless function ran over before turn after → IsAgain last turn × (after ≡ before)
    says_again None last finish before turn after is some same turns = none_some before.over finish is some
    says_again (Some other) last finish before turn after is some same turns =
        let one : other ≡ finish = same_finish other finish (sym is ∙ some) in (
          subst (λ (t : Turn). IsAgain last t) (sym (turns.0 ∙ ap again one)) (subst (λ (t : Turn). IsAgain t (again finish)) (sym same) (again_tells finish)),
          turns.1,
        )

    -- one that is over says so again
    pub turned_over : (last : Turn) (before : Attempt H) (turn : Turn) (after : Attempt H) → IsOverBy last before → Turns function ran before turn after → IsAgain last turn × (after ≡ before)
    turned_over last before turn after (by_finish finish is same) turns = says_again before.over last finish before turn after refl is same turns
    turned_over last before turn after (by_error kept error none failed copies same) turns =
        let it = turned_failed kept before turn after none failed turns in
        (subst (λ (t : Turn). IsAgain t turn) (sym same) (kept, it.0, copies, it.2, it.1), it.3)

    -- ---- the turn by which it is over

    by_machine : (error : Error) (turn : Turn) (after : Attempt H) → turn ≡ Turn.Failed error → after.over ≡ None → IsOver after → AnswersKept turn after → IsOverBy turn after
    by_machine error turn after is none (finished finish some) copies = none_some after.over finish none some
    by_machine error turn after is none (machine_failed kept failed) copies = by_error kept error none failed (subst (λ (t : Turn). AnswersKept t after) is copies kept failed) is

    by_its_finish : (finish : Finish) (between : Attempt H) (turn : Turn) (after : Attempt H) → FinishesBy finish between turn after → IsOverBy turn after
    by_its_finish finish between turn after it = by_finish finish (ap (λ (a : Attempt H). a.over) it.1) it.0

    by_body : (proposed : Result (Unit {0}) Error) (between : Attempt H) (turn : Turn) (after : Attempt H) → between.over ≡ None → turn ≡ ran_or_failed proposed → after ≡ record between { vm = after.vm }
        → IsOver after → AnswersKept turn after → IsLast turn → IsOverBy turn after
    by_body (Ok done) between turn after none is same over copies last = absurd (subst IsLast is last)
    by_body (Err error) between turn after none is same over copies last = by_machine error turn after is (ap (λ (a : Attempt H). a.over) same ∙ none) over copies

    by_outcome : (outcome : CallOutcome) (between : Attempt H) (turn : Turn) (after : Attempt H) → between.over ≡ None → TakesOutcome ran outcome between turn after → IsOver after → AnswersKept turn after → IsLast turn → IsOverBy turn after
    by_outcome (outcomes.Answered answer) between turn after none takes over copies last = elim takes [
      | inl one ↦ absurd (subst IsLast one.0 last)
      | inr over ↦ by_its_finish finishes.OutOfMemory between turn after over
    ]
    by_outcome outcomes.Waiting between turn after none takes over copies last = absurd (subst IsLast takes.0 last)
    by_outcome (outcomes.Executes handle) between turn after none takes over copies last = by_body takes.proposed between turn after none takes.turn_is takes.others over copies last
    by_outcome outcomes.Suspended between turn after none takes over copies last = by_its_finish finishes.Suspended between turn after takes
    by_outcome outcomes.Ended between turn after none takes over copies last = by_its_finish finishes.Ended between turn after takes
    by_outcome (outcomes.Failed error) between turn after none takes over copies last = by_machine error turn after takes.0 (ap (λ (a : Attempt H). a.over) takes.1 ∙ none) over copies

    by_input : (read : Result Input Error) (between : Attempt H) (turn : Turn) (after : Attempt H) → between.over ≡ None → GivesInput read between turn after → IsOver after → AnswersKept turn after → IsLast turn → IsOverBy turn after
    by_input (Ok input) between turn after none gives over copies last = absurd (subst IsLast gives.0 last)
    by_input (Err error) between turn after none gives over copies last = by_machine error turn after gives.0 (ap (λ (a : Attempt H). a.over) gives.1 ∙ none) over copies

    by_call : (input : Option Input) (before : Attempt H) (turn : Turn) (after : Attempt H) → before.over ≡ None → ReadsOrAsks function ran input before turn after → IsOver after → AnswersKept turn after → IsLast turn → IsOverBy turn after
    by_call None before turn after none reads over copies last = by_input reads.read (record before { vm = after.vm }) turn after none reads.gives over copies last
    by_call (Some input) before turn after none asks over copies last = elim asks [
      | inl carries ↦ by_outcome carries.outcome (record before { vm = carries.between }) turn after none carries.comes over copies last
      | inr lacks ↦ by_its_finish finishes.OutOfMemory before turn after lacks
    ]

    by_ready : (ready : Result Bool Error) (before : Attempt H) (turn : Turn) (after : Attempt H) → before.over ≡ None → TurnsWhere function ran ready before turn after → IsOver after → AnswersKept turn after → IsLast turn → IsOverBy turn after
    by_ready (Ok true) before turn after none turns over copies last = by_call before.input before turn after none turns over copies last
    by_ready (Ok false) before turn after none turns over copies last = absurd (subst IsLast turns.0 last)
    by_ready (Err error) before turn after none turns over copies last = by_machine error turn after turns.0 (ap (λ (a : Attempt H). a.over) turns.1 ∙ none) over copies

    pub ends_by : (before : Attempt H) (turn : Turn) (after : Attempt H) → before.over ≡ None → Turns function ran before turn after → IsOver after → AnswersKept turn after → IsLast turn → IsOverBy turn after
    ends_by before turn after none turns over copies last =
        let on = turns_new before.over before turn after refl none turns in
        by_ready on.ready before turn after none on.turns over copies last

-- ---- closed too early

-- what an attempt fails with whose input is closed too early: that error, or, where its frame would be too long or there is no memory, an
-- internal one
pub early_tells : (old : Written) (error : Error) → FailsWith early_error old error ⊎ (error ≡ out_of_memory) → FailsEarly error
early_tells old error (inl fails) = inl (old, fails)
early_tells old error (inr lacks) = inr lacks
