-- An attempt that is fed the next bytes reads on, or memory was refused.
use Rattle.std.proofs.Common.{◌≡◌, ◌⊎◌, inl, inr, ◌∙◌, ℕ, Bool, List, [], ◌∷◌, ◌++◌, append_assoc, map, Option, None, refl, sym, ap, subst}
use Rattle.std.proofs.lemmas.List.{append_cancel_right}
use Rattle.std.specs.List.{AllByRecursion}
use Rattle.vm_calls.specs.Active.{has_left}
use Rattle.journal_model.proofs.Extension.{run-same}
use Rattle.input_laws.proofs.Telling.{arrivals_carried-append}
use Rattle.vm_input_laws.proofs.Messages.{arrivals_waited_for, arrivals_gathered, all_in_front}
use Rattle.vm_input_laws.proofs.Inputs.{stays_active}
use Rattle.vm_attempt_laws.specs.Bodies.{ReplaysStay, IsReplayed, KeepsBodies, NonEmptyValue, reads_messages, Runs, StaysReplayed}
use Rattle.vm_attempt_laws.specs.AttemptSimulation.{IsFedBy, kind_where, HasNotRead, HasRead, HasBodies, Serves}
use Rattle.vm_attempt_laws.specs.AttemptInvariants.{StaysServing, ServesOn, LacksMemory, WritesNothing, FeedsServing}
use Rattle.vm_attempt_laws.proofs.Beginning.{bytes_append, feeds_new}
use Rattle.vm_attempt_laws.proofs.Bodies.{none_asked, cached_behind, arrivals_left}
use Rattle.vm_attempt_laws.proofs.Driven.{messages_written, messages_number}
use Rattle.vm_attempt_laws.proofs.Messages.{messages_append, unread_arrive, unread_fit, journal_more, fed_same, fed_more}
use Rattle.vm_attempt_laws.proofs.Over.{serves_by, waits_same}
use Rattle.vm_attempt_laws.specs.Attempts.{Attempt}
use Rattle.vm_attempt_laws.specs.Machine.{Sees, are_any, Written, Phase, MachineState, has_failed, IsFed, IsDriven}
use Rattle.vm_attempt_laws.specs.InputOfAttempt.{bytes_of, IsFedEach, AreWaitedFor, phase_behind, KnowsRuns, TakesFirstMessages, InputsAreKept, FailsForMemory, IsInputOf, start_told, Kind, phase_kind, ReadsOn, JournalsAreRead, IsArrival}
use Rattle.vm_attempt_laws.specs.Words.{item_at, version_number, Version, AwaitTree, NotificationId, input_bytes, answers_of, Bytes, Arrival, Handler, Invocation, Progress, Ending, GoesOn, Waits, run, InputMessage, piece_of, arrivals_carried, Machine, machine_at_start, with_messages, IsMachineAt, AttemptInRun, handed_bytes, after_reading, started_id, VMOptions}

-- a run that goes on does not wait
goes_on : (ending : Ending) (tree : AwaitTree (Option NotificationId)) → ending ≡ GoesOn → ending ≡ Waits tree → ⊥
goes_on ending tree going waits = cc

-- the run of a live attempt goes on
pub going_of : (next : Handler) (given : Invocation) (live : AttemptInRun) → IsMachineAt next live.start.given live.start.shown live.read live.unread live.calls live.machine
    → (run next live.start.given (arrivals_carried live.read) live.calls).ending ≡ GoesOn
going_of next given live (inl only) = ap (λ (calls : ℕ). (run next live.start.given (arrivals_carried live.read) calls).ending) only.none_asked
going_of next given live (inr at) = ap (λ (p : Progress). p.ending) at.stands.going

module _ {H : Type 0} (function : H → Handler) (next : Handler) (version : Version) (options : VMOptions) (stays : ReplaysStay) (live : AttemptInRun) (proposed : List (ℕ × NonEmptyValue)) (is_closed : Bool)
    (bytes : Bytes) (before after : Attempt H) (b : HasBodies next (handed_bytes live bytes) proposed before) (s : Serves function next version options live is_closed before)
    (does : IsFed bytes before.vm.state after.vm.state × (after ≡ record before { vm = after.vm })) where
  abbrev Outcome : Type 0
  Outcome = WritesNothing before after × (ServesOn function next version options live proposed is_closed bytes after ⊎ LacksMemory after)

  -- its bodies stay those of its runs
  on : StaysReplayed next (handed_bytes live bytes) proposed b.executor
  on = stays next (handed_bytes live bytes) proposed b.executor b.lives

  same_output : after.vm.state.active.output.bytes ≡ before.vm.state.active.output.bytes → WritesNothing before after
  same_output same = waits_same before after does.1 same

  fed : IsFedEach (bytes ∷ []) before.vm.state after.vm.state
  fed = (before.vm.state, refl, does.0)

  all_bytes : before.vm.state.decoder ++ (bytes_of (bytes ∷ []) ++ b.lives.rest) ≡ input_bytes (map piece_of live.unread)
  all_bytes =
      ap (λ (held : List ℕ). held ++ (bytes ++ b.lives.rest)) s.bytes ∙ sym (append_assoc live.held bytes (b.lives.rest)) ∙ b.lives.bytes

  -- the first of these messages have come whole
  module _ (some still : List InputMessage) (parts : live.unread ≡ some ++ still) (rest : after.vm.state.decoder ++ b.lives.rest ≡ input_bytes (map piece_of still)) where
    now : AttemptInRun
    now = after_reading (handed_bytes live bytes) some still after.vm.state.decoder

    held_is : live.held ++ bytes ≡ input_bytes (map piece_of some) ++ after.vm.state.decoder
    held_is =
        append_cancel_right (live.held ++ bytes) (input_bytes (map piece_of some) ++ after.vm.state.decoder) (b.lives.rest)
        (b.lives.bytes ∙ ap (λ (all : List InputMessage). input_bytes (map piece_of all)) parts ∙ bytes_append some still
        ∙ ap (λ (more : List ℕ). input_bytes (map piece_of some) ++ more) (sym rest)
        ∙ sym (append_assoc (input_bytes (map piece_of some)) after.vm.state.decoder (b.lives.rest)))

    lives : IsReplayed next (after_reading (handed_bytes live bytes) some still after.vm.state.decoder) proposed (reads_messages b.executor some)
    lives = (on.reads some still after.vm.state.decoder (ap (λ (held : Bytes). held ++ bytes) s.started) parts held_is).1

    fed_by : IsFedBy (after_reading (handed_bytes live bytes) some still after.vm.state.decoder)
    fed_by = subst (IsInputOf live.start) (fed_same live some still parts) s.fed

    reads_on : KeepsBodies after.vm.state.runs (reads_messages b.executor some) → (proposed ≡ []) ⊎ ((with_messages live.machine some).left ≡ []) → phase_kind after.vm.state ≡ kind_where version options is_closed
        → item_at after.vm.state.decoder ≡ None
        → HasNotRead function next version options (after_reading (handed_bytes live bytes) some still after.vm.state.decoder) is_closed after
        ⊎ HasRead function next version options (after_reading (handed_bytes live bytes) some still after.vm.state.decoder) after
        → ServesOn function next version options live proposed is_closed bytes after
    reads_on keeps behind kind whole stands = record {
      some = some;
      still = still;
      kept = after.vm.state.decoder;
      parts = parts;
      held = held_is;
      bodies = record { executor = reads_messages b.executor some; lives = lives; keeps = keeps; behind = behind };
      serves = serves_by function next version options live (after_reading (handed_bytes live bytes) some still after.vm.state.decoder) is_closed is_closed before after does.1 s
          kind s.of_run fed_by refl refl whole stands;
    }

  lacks : FailsForMemory before.vm.state after.vm.state → Outcome
  lacks failed = (same_output (ap (λ (w : Written). w.bytes) failed.output), inr failed.phase)

  -- its input was not read
  not_read : JournalsAreRead → HasNotRead function next version options live is_closed before → Outcome
  not_read journals n =
      go (journals live.start (start_told live.start n.shows) (kind_where version options is_closed) live.read live.unread (bytes ∷ []) (b.lives.rest) before.vm.state after.vm.state
      b.executor s.fed n.started (record { keeps = subst (λ (runs : Runs). KeepsBodies runs b.executor) n.started.runs b.keeps; cached = on.cached }) s.whole all_bytes fed)
    where
      go : ReadsOn live.start (start_told live.start n.shows) (kind_where version options is_closed) live.read live.unread (b.lives.rest) after.vm.state
          ⊎ FailsForMemory before.vm.state after.vm.state → Outcome
      go (inr failed) = lacks failed
      go (inl reads) = (
        nothing,
        inl (reads_on reads.some reads.still reads.parts reads.bytes (reads.bodies b.executor (subst (λ (runs : Runs). KeepsBodies runs b.executor) n.started.runs b.keeps))
            (inl (none_asked next (handed_bytes live bytes) proposed b.executor b.lives n.calls)) reads.started.kind_is reads.whole (inl (record {
              input = ap (λ (a : Attempt H). a.input) does.1 ∙ n.input;
              answers = ap (λ (a : Attempt H). a.answers) does.1 ∙ n.answers;
              calls = n.calls;
              machine = ap (λ (m : Machine). with_messages m reads.some) n.machine ∙ sym (messages_append (machine_at_start live.start.shown [] []) live.read reads.some);
              shows = n.shows;
              started = reads.started;
              unwritten = nothing ∙ n.unwritten;
            }))),
      )
        where
          nothing : WritesNothing before after
          nothing = same_output (ap (λ (w : Written). w.bytes) reads.started.output ∙ sym (ap (λ (w : Written). w.bytes) n.started.output))

  -- its input was read
  module _ (r : HasRead function next version options live before) where
    arrive : AllByRecursion IsArrival live.unread
    arrive = unread_arrive live r.journal s.fed

    module _ (t : TakesFirstMessages live.start.given live.unread (b.lives.rest) before.vm.state after.vm.state) where
      kind_is : phase_kind after.vm.state ≡ phase_kind before.vm.state
      kind_is = ap phase_kind t.kept.others

      sees : Sees live.start.given after.vm.state.active (with_messages live.machine t.some)
      sees =
          subst (λ (m : Machine). Sees live.start.given after.vm.state.active m)
          (arrivals_gathered t.some live.machine (all_in_front IsArrival t.some t.still (subst (AllByRecursion IsArrival) t.parts arrive)))
          (t.kept.sees r.driven.phase live.machine r.driven.sees)

      driven : IsDriven live.start.given (with_messages live.machine t.some) after.vm.state
      driven = record {
        sees = sees;
        phase = t.kept.phase ∙ ap (λ (p : Phase). phase_behind t.some p) r.driven.phase ∙ stays_active t.some;
        version = record {
          version = r.driven.version.version ∙ ap (λ (k : Kind). version_number k.version) (sym kind_is);
          cancellation = r.driven.version.cancellation ∙ ap (λ (k : Kind). k.options.implicit_cancellation) (sym kind_is);
        };
        written = ap (λ (w : Written). w.version) t.kept.output ∙ r.driven.written ∙ ap (λ (k : Kind). k.version) (sym kind_is);
        commands = ap (λ (w : Written). w.has_commands) t.kept.output ∙ r.driven.commands ∙ sym (ap are_any (messages_written live.machine t.some));
        id = r.driven.id ∙ ap (λ (vm : MachineState). started_id vm.start) (sym t.kept.others);
        reads = ap (λ (k : Kind). k.reads) kind_is ∙ r.driven.reads;
      }

      same_run : run next live.start.given (arrivals_carried (live.read ++ t.some)) live.calls ≡ run next live.start.given (arrivals_carried live.read) live.calls
      same_run =
          ap (λ (arrivals : List Arrival). run next live.start.given arrivals live.calls) (arrivals_carried-append live.read t.some)
          ∙ run-same next live.start.given (arrivals_carried live.read) (arrivals_carried t.some) live.calls
          (λ tree waits. goes_on (run next live.start.given (arrivals_carried live.read) live.calls).ending tree (going_of next live.start.given (handed_bytes live bytes) b.lives.stands) waits)

      -- what was proposed was so behind the journal
      behind_still : (proposed ≡ []) ⊎ ((with_messages live.machine t.some).left ≡ [])
      behind_still = elim b.behind [
        | inl none ↦ inl none
        | inr left ↦ inr (arrivals_left live.machine t.some (all_in_front IsArrival t.some t.still (subst (AllByRecursion IsArrival) t.parts arrive)) ∙ left)
      ]

      outcome : Outcome
      outcome = (
        same_output (ap (λ (w : Written). w.bytes) t.kept.output),
        inl (reads_on t.some t.still t.parts t.bytes (t.kept.bodies b.executor b.keeps) behind_still (kind_is ∙ s.kind) t.whole (inr (record {
          journal = record { later = r.journal.later ++ t.some; parts = journal_more live r.journal t.some };
          input = ap (λ (a : Attempt H). a.input) does.1 ∙ r.input;
          answers = ap (λ (a : Attempt H). a.answers) does.1 ∙ r.answers ∙ sym (ap (λ (p : Progress). answers_of p.steps) same_run);
          driven = driven;
          shows = r.shows;
          start_is = ap (λ (vm : MachineState). vm.start) t.kept.others ∙ r.start_is;
          numbers = messages_number live.machine t.some r.numbers;
        }))),
      )

    -- an outcome that is acknowledged is cached, and so nothing is replayed
    knows : KnowsRuns b.executor live.unread before.vm.state
    knows = record {
      keeps = b.keeps;
      cached = on.cached;
      behind = λ n value cached.
          r.driven.sees.replaying ∙ ap has_left (cached_behind next (handed_bytes live bytes) proposed b.executor b.lives b.behind n value cached);
    }

    read_outcome : TakesFirstMessages live.start.given live.unread (b.lives.rest) before.vm.state after.vm.state ⊎ FailsForMemory before.vm.state after.vm.state → Outcome
    read_outcome (inr failed) = lacks failed
    read_outcome (inl t) = outcome t

    has_read : InputsAreKept → Outcome
    has_read keeps =
        read_outcome (keeps live.start.given live.unread (bytes ∷ []) (b.lives.rest) before.vm.state after.vm.state b.executor (ap has_failed r.driven.phase) s.whole
        (unread_fit live r.journal s.fed)
        (subst (λ (p : Phase). AreWaitedFor live.unread p) (sym r.driven.phase) (arrivals_waited_for live.unread arrive)) knows all_bytes fed)

  stood : JournalsAreRead → InputsAreKept → HasNotRead function next version options live is_closed before ⊎ HasRead function next version options live before → Outcome
  stood journals keeps (inl n) = not_read journals n
  stood journals keeps (inr r) = has_read r keeps

pub feeds_keep : {H : Type 0} (function : H → Handler) (next : Handler) (version : Version) (options : VMOptions) → ReplaysStay → JournalsAreRead → InputsAreKept → FeedsServing function next version options
feeds_keep function next version options stays journals keeps live proposed is_closed bytes before after b s feeds =
    stood function next version options stays live proposed is_closed bytes before after b s (feeds_new before.over bytes before after refl s.going feeds) journals keeps s.stands

-- ---- events that do nothing to it

pub events_keep : {H : Type 0} (function : H → Handler) (next : Handler) (version : Version) (options : VMOptions) → StaysServing function next version options
events_keep function next version options live is_closed a more coming s may =
    record { handler = s.handler; going = s.going; kind = s.kind; of_run = s.of_run; fed = fed_more live more may s.fed; started = s.started; bytes = s.bytes; whole = s.whole; stands = stands s.stands }
  where
    stands : HasNotRead function next version options live is_closed a ⊎ HasRead function next version options live a
        → HasNotRead function next version options (record live { unread = live.unread ++ more; coming = coming }) is_closed a
        ⊎ HasRead function next version options (record live { unread = live.unread ++ more; coming = coming }) a
    stands (inl n) = inl (record { input = n.input; answers = n.answers; calls = n.calls; machine = n.machine; shows = n.shows; started = n.started; unwritten = n.unwritten })
    stands (inr r) = inr (record {
      journal = record { later = r.journal.later; parts = r.journal.parts };
      input = r.input;
      answers = r.answers;
      driven = r.driven;
      shows = r.shows;
      start_is = r.start_is;
      numbers = r.numbers;
    })
