-- A machine that has failed takes bytes and stays so.
use Rattle.std.proofs.Common.{◌≡◌, ◌⊎◌, inl, inr, ◌∙◌, ℕ, Bool, true, true≢false, List, [], ◌∷◌, Err, Option, sym, ap, subst}
use Rattle.std.specs.declared.alloc.AllocError.{AllocError}
use Rattle.protocol_errors.specs.declared.error.Error.{Error}
use Rattle.protocol_stream.specs.declared.decoder.RawMessage.{RawMessage}
use Rattle.vm_start.specs.FailureReport.{FailsAs}
use Rattle.vm_start.specs.Phases.{kept_error}
use Rattle.vm_start.specs.declared.phase.Phase.TheVariants as phases
use Rattle.vm_feeding.specs.InputBytes.{has_failed, with_input, TakesEach, RestsWhere, TakesAll, IsFed}
use Rattle.vm_feeding.specs.UnansweredFailure.{HasFailed}
use Rattle.vm_machine.specs.declared.machine_state.MachineState.{MachineState}
use Rattle.vm_input_laws.specs.InputMessages.{StaysFailed, FailedMachinesStay}

-- it fails again with nothing
again : (error : Error) (refused : AllocError) (old new : MachineState) → old.phase ≡ phases.Failed error → HasFailed (Err refused) old new → new ≡ old
again error refused old new is h =
    let stays = subst (λ (kept : Option Error). FailsAs old.version old.options.journal_mismatch_retry_behavior (Err refused) kept old.phase old.active.output h.answer new.phase new.active.output) (ap kept_error is) h.fails.fails in
    h.fails.others ∙ (λ i. record old { phase = stays.0 i; active = record old.active { output = stays.1 i } })

-- it takes no message
none_taken : (raws : List RawMessage) (old new : MachineState) → has_failed old.phase ≡ true → TakesEach raws old new → new ≡ old
none_taken [] old new failed same = same
none_taken (raw ∷ before) old new failed h =
    let earlier = none_taken before old h.0 failed h.1 in
    absurd (true≢false (sym (ap (λ (vm : MachineState). has_failed vm.phase) earlier ∙ failed) ∙ h.2.well))

all_stays : (old new : MachineState) → has_failed old.phase ≡ true → TakesAll old new → new ≡ old
all_stays old new failed all =
    let same = none_taken all.messages old all.between failed all.each in
    subst (λ (b : Bool). RestsWhere b all.between new) (ap (λ (vm : MachineState). has_failed vm.phase) same ∙ failed) all.rests ∙ same

pub failed_fed : (error : Error) (cut : List ℕ) (old new : MachineState) → old.phase ≡ phases.Failed error → IsFed cut old new → (new ≡ with_input cut old) ⊎ (new ≡ old)
failed_fed error cut old new is (inl all) = inl (all_stays (with_input cut old) new (ap has_failed is) all)
failed_fed error cut old new is (inr lacks) = inr (again error lacks.refused old new is lacks.fails)

pub failed_machines_stay : FailedMachinesStay
failed_machines_stay error [] old new is same = record {
  phase = ap (λ (vm : MachineState). vm.phase) same ∙ is;
  others = same ∙ (λ i. record old { decoder = (sym (ap (λ (vm : MachineState). vm.decoder) same)) i });
}
failed_machines_stay error (cut ∷ before) old new is h =
    let earlier = failed_machines_stay error before old h.0 is h.1 in
    go earlier (failed_fed error cut h.0 new earlier.phase h.2)
  where
    go : StaysFailed error old h.0 → (new ≡ with_input cut h.0) ⊎ (new ≡ h.0) → StaysFailed error old new
    go earlier (inl same) = record {
      phase = ap (λ (vm : MachineState). vm.phase) same ∙ earlier.phase;
      others =
          same ∙ ap (with_input cut) earlier.others
          ∙ (λ i. record old { decoder = (sym (ap (λ (vm : MachineState). vm.decoder) same)) i });
    }
    go earlier (inr same) = subst (λ (vm : MachineState). StaysFailed error old vm) (sym same) earlier
