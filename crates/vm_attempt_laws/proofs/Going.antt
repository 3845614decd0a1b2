-- An attempt that goes on behind a turn serves on.
use Rattle.std.proofs.Common.{◌≡◌, inr, ◌∙◌, ℕ, Bool, List, ap}
use Rattle.vm_attempt_laws.specs.Attempts.{Attempt}
use Rattle.vm_attempt_laws.specs.Machine.{IsDriven, MachineState}
use Rattle.vm_attempt_laws.specs.InputOfAttempt.{phase_kind}
use Rattle.vm_attempt_laws.specs.AttemptSimulation.{HasNumbers, HasRead, Serves}
use Rattle.vm_attempt_laws.specs.Words.{after_turn, answers_of, arrivals_carried, Frame, Handler, item_at, AttemptInRun, Machine, run, Version, VMOptions}

-- nothing of the attempt but its machine and its answers, and nothing of the machine but what is kept for calls, and of runs
pub record OnlyTurns {H : Type 0} (before after : Attempt H) : Type 0 where
  pub handler : after.handler ≡ before.handler
  pub over : after.over ≡ before.over
  pub input : after.input ≡ before.input
  pub machine : after.vm.state ≡ record before.vm.state { active = after.vm.state.active; runs = after.vm.state.runs }

module _ {H : Type 0} (function : H → Handler) (next : Handler) (version : Version) (options : VMOptions) (is_closed : Bool) (live : AttemptInRun) (before after : Attempt H)
    (s : Serves function next version options live is_closed before) (r : HasRead function next version options live before) (t : OnlyTurns before after) where
  pub serves_on : (frames : List Frame) (calls : ℕ) (whole : Machine) → IsDriven live.start.given whole after.vm.state → HasNumbers whole
      → after.answers ≡ answers_of (run next live.start.given (arrivals_carried live.read) calls).steps → Serves function next version options (after_turn live frames calls whole) is_closed after
  serves_on frames calls whole driven numbers answers = record {
    handler = ap function t.handler ∙ s.handler;
    going = t.over ∙ s.going;
    kind = ap phase_kind t.machine ∙ s.kind;
    of_run = s.of_run;
    fed = s.fed;
    started = s.started;
    bytes = ap (λ (m : MachineState). m.decoder) t.machine ∙ s.bytes;
    whole = ap (λ (m : MachineState). item_at m.decoder) t.machine ∙ s.whole;
    stands = inr (record {
      journal = record { later = r.journal.later; parts = r.journal.parts };
      input = t.input ∙ r.input;
      answers = answers;
      driven = driven;
      shows = r.shows;
      start_is = ap (λ (m : MachineState). m.start) t.machine ∙ r.start_is;
      numbers = numbers;
    });
  }
