-- An attempt that is over stays over.
use Rattle.std.proofs.Common.{◌≡◌, ◌⊎◌, inl, inr, ◌∙◌, ℕ, Bool, List, ◌++◌, Option, Some, None, Result, Ok, Err, refl, sym, ap, subst}
use Rattle.std.specs.declared.alloc.AllocError.{AllocError}
use Rattle.vm_input_laws.proofs.Staying.{failed_fed}
use Rattle.vm_attempt.specs.declared.turn.Finish.TheVariants as finishes
use Rattle.vm_attempt_laws.specs.Attempts.{FeedsUnless, ClosesUnless, output_of, OnlyTaken, OnlyMoves, Shows, LetsGo, TakesOutput, again, TurnsWhere, TurnsUnless, Attempt, Finish, Turn}
use Rattle.vm_attempt_laws.specs.Bodies.{RunOutcome}
use Rattle.vm_attempt_laws.specs.InputOfAttempt.{IsRunOf, phase_kind}
use Rattle.vm_attempt_laws.specs.AttemptSimulation.{IsOver, finished, machine_failed, kind_where, HasNotRead, HasRead, IsFedBy, Serves}
use Rattle.vm_attempt_laws.specs.AttemptInvariants.{IsLast, WritesNothing, OversStay}
use Rattle.vm_attempt_laws.specs.Machine.phases
use Rattle.vm_attempt_laws.specs.Machine.{Phase, MachineState, TellsReady, is_waiting, input_closed, ClosesWhere, with_input, CoreVM}
use Rattle.vm_attempt_laws.specs.Words.{Error, Bytes, Handler, AttemptInRun, Version, VMOptions, item_at}

again_last : (finish : Finish) → IsLast (again finish)
again_last finishes.Suspended = tt
again_last finishes.Ended = tt
again_last finishes.OutOfMemory = tt

module _ {H : Type 0} where
  -- where its machine alone is another, what waits is what that machine has written more
  pub waits_same : (before after : Attempt H) → after ≡ record before { vm = after.vm } → after.vm.state.active.output.bytes ≡ before.vm.state.active.output.bytes → WritesNothing before after
  waits_same before after others same =
      ap (λ (a : Attempt H). (a.front ++ a.behind) ++ after.vm.state.active.output.bytes) others ∙ ap (λ (bytes : List ℕ). (before.front ++ before.behind) ++ bytes) same

  -- and that machine tells what it serves
  module _ (function : H → Handler) (next : Handler) (version : Version) (options : VMOptions) where
    pub serves_by : (live now : AttemptInRun) (is_closed closed_now : Bool) (before after : Attempt H) → after ≡ record before { vm = after.vm } → Serves function next version options live is_closed before
        → phase_kind after.vm.state ≡ kind_where version options closed_now → IsRunOf now.start version options → IsFedBy now → now.bytes ≡ now.held → after.vm.state.decoder ≡ now.held
        → item_at after.vm.state.decoder ≡ None → HasNotRead function next version options now closed_now after ⊎ HasRead function next version options now after
        → Serves function next version options now closed_now after
    serves_by live now is_closed closed_now before after others s kind of_run fed started bytes whole stands =
        let there = subst (λ (a : Attempt H). HasNotRead function next version options now closed_now a ⊎ HasRead function next version options now a) others stands in
        subst (λ (a : Attempt H). Serves function next version options now closed_now a) (sym others)
        (record { handler = s.handler; going = s.going; kind = kind; of_run = of_run; fed = fed; started = started; bytes = bytes; whole = whole; stands = there })

  never : {A : Type 0} (finish : Finish) (before : Attempt H) → before.over ≡ None → before.over ≡ Some finish → A
  never finish before none some = cc

  -- its machine has failed before, and tells nothing more
  stays_failed : (error : Error) (before after : Attempt H) → after ≡ record before { vm = after.vm } → before.vm.state.phase ≡ phases.Failed error → after.vm.state.phase ≡ before.vm.state.phase
      → after.vm.state.active.output.bytes ≡ before.vm.state.active.output.bytes → IsOver after × WritesNothing before after
  stays_failed error before after others failed phase bytes = (machine_failed error (phase ∙ failed), waits_same before after others bytes)

  fed : (over : Option Finish) (bytes : Bytes) (before after : Attempt H) → before.over ≡ over → IsOver before → FeedsUnless over bytes before after → IsOver after × WritesNothing before after
  fed (Some finish) bytes before after is o same = (finished finish (ap (λ (a : Attempt H). a.over) same ∙ is), ap output_of same)
  fed None bytes before after is (finished finish some) does = never finish before is some
  fed None bytes before after is (machine_failed error failed) does = go (failed_fed error bytes before.vm.state after.vm.state failed does.0)
    where
      go : (after.vm.state ≡ with_input bytes before.vm.state) ⊎ (after.vm.state ≡ before.vm.state) → IsOver after × WritesNothing before after
      go (inl same) = stays_failed error before after does.1 failed (ap (λ (vm : MachineState). vm.phase) same) (ap (λ (vm : MachineState). vm.active.output.bytes) same)
      go (inr same) = stays_failed error before after does.1 failed (ap (λ (vm : MachineState). vm.phase) same) (ap (λ (vm : MachineState). vm.active.output.bytes) same)

  closed : (over : Option Finish) (before after : Attempt H) → before.over ≡ over → IsOver before → ClosesUnless over before after → IsOver after × WritesNothing before after
  closed (Some finish) before after is o same = (finished finish (ap (λ (a : Attempt H). a.over) same ∙ is), ap output_of same)
  closed None before after is (finished finish some) does = never finish before is some
  closed None before after is (machine_failed error failed) does =
      let same : after.vm.state ≡ input_closed before.vm.state = subst (λ (b : Bool). ClosesWhere b (input_closed before.vm.state) after.vm.state) (ap is_waiting failed) does.0 in
      stays_failed error before after does.1 failed (ap (λ (vm : MachineState). vm.phase) same) (ap (λ (vm : MachineState). vm.active.output.bytes) same)

  module _ (function : H → Handler) (ran : RunOutcome) where
    failed_turn : (ready : Result Bool Error) (error : Error) (before : Attempt H) (turn : Turn) (after : Attempt H) → TellsReady (phases.Failed error) ready → TurnsWhere function ran ready before turn after
        → IsLast turn × (after ≡ before)
    failed_turn (Ok ready) error before turn after is turns = absurd is
    failed_turn (Err answer) error before turn after is turns = (subst IsLast (sym turns.0) tt, turns.1)

    turned : (over : Option Finish) (before : Attempt H) (turn : Turn) (after : Attempt H) → before.over ≡ over → IsOver before → TurnsUnless function ran over before turn after → IsLast turn × (after ≡ before)
    turned (Some finish) before turn after is o turns = (subst IsLast (sym turns.0) (again_last finish), turns.1)
    turned None before turn after is (finished finish some) turns = never finish before is some
    turned None before turn after is (machine_failed error failed) turns =
        failed_turn turns.ready error before turn after (subst (λ (p : Phase). TellsReady p turns.ready) failed turns.is_ready) turns.turns

  moved : (before after : Attempt H) → IsOver before → OnlyMoves before after → IsOver after
  moved before after (finished finish some) moves = finished finish (ap (λ (a : Attempt H). a.over) moves.others ∙ some)
  moved before after (machine_failed error failed) moves = machine_failed error (ap (λ (vm : CoreVM). vm.state.phase) moves.machine ∙ failed)

  pub moves_of : (max : ℕ) (before : Attempt H) (result : Result Bytes AllocError) (after : Attempt H) → TakesOutput max before result after → OnlyMoves before after
  moves_of max before (Ok bytes) after takes = takes.moves
  moves_of max before (Err refused) after takes = takes.moves

  pub shown_moves : (max : ℕ) (before : Attempt H) (result : Result Bytes AllocError) (after : Attempt H) → Shows max before result after → OnlyMoves before after
  shown_moves max before (Ok bytes) after shows = shows.gathers.moves
  shown_moves max before (Err refused) after shows = shows.moves

  pub let_go_moves : (count : ℕ) (before after : Attempt H) → LetsGo count before after → OnlyMoves before after
  let_go_moves count before after lets = record { machine = machine; others = others }
    where
      same : after.vm ≡ before.vm
      same = ap (λ (a : Attempt H). a.vm) lets.others

      machine : OnlyTaken before.vm after.vm
      machine =
          same ∙ ap (λ (bytes : List ℕ). record before.vm { state = record before.vm.state { active = record before.vm.state.active { output = record before.vm.state.active.output { bytes = bytes } } } })
          (sym (ap (λ (vm : CoreVM). vm.state.active.output.bytes) same))

      others : after ≡ record before { vm = after.vm; front = after.front; behind = after.behind }
      others = lets.others ∙ ap (λ (vm : CoreVM). record before { vm = vm; front = after.front; behind = after.behind }) (sym same)

pub overs_stay : {H : Type 0} (function : H → Handler) → OversStay function
overs_stay function before over = record {
  fed = λ bytes after feeds. fed before.over bytes before after refl over feeds;
  closed = λ after closes. closed before.over before after refl over closes;
  turned = λ ran turn after turns. turned function ran before.over before turn after refl over turns;
  taken = λ max result after takes. moved before after over (moves_of max before result after takes);
  shown = λ max result after shows. moved before after over (shown_moves max before result after shows);
  let_go = λ count after lets. moved before after over (let_go_moves count before after lets);
}
