-- An attempt of a host follows the run, step by step.
use Rattle.std.proofs.Common.{◌≡◌, ◌⊎◌, inl, inr, ◌∙◌, ℕ, Bool, true, false, true≢false, List, [], ◌∷◌, ◌++◌, append-nil, append_assoc, map, Option, Some, None, Result, Ok, Err, refl, sym, ap, subst}
use Rattle.std.proofs.lemmas.List.{append_cancel_left}
use Rattle.std.specs.List.{AllByRecursion}
use Rattle.std.specs.declared.alloc.AllocError.{AllocError}
use Rattle.live_laws.proofs.LiveTurns.{requests_sent-append}
use Rattle.live_laws.proofs.TurnWrites.{writes_send}
use Rattle.live_laws.specs.RequestsInFlight.{SendsOfRun}
use Rattle.live_laws.specs.TurnWrites.{WritesOfRun}
use Rattle.replay_laws.proofs.Standing.{input_requests}
use Rattle.replay_laws.specs.Laws.{ReplaysBegin}
use Rattle.vm_attempt.specs.Attempt.{ClosesInput}
use Rattle.vm_input_laws.proofs.Messages.{all_behind}
use Rattle.vm_attempt_laws.specs.ArrivalsCome.{HasJournal}
use Rattle.vm_attempt_laws.specs.AttemptInvariants.{attempt_started, BeginsServing, ClosesEarly, ClosesServing, early_error, FeedsServing, InputsCome, IsLast, LacksMemory, OversStay, ServesOn, StaysClosed, StaysServing, TakesServing}
use Rattle.vm_attempt_laws.specs.AttemptSimulation.{AnswersKept, HasBodies, HasNotRead, HasRead, IsOver, machine_failed, Serves}
use Rattle.vm_attempt_laws.specs.Attempts.{Attempt, Feeds, IsBegun, OnlyMoves, output_of, TakesOutput, Turn, Turns}
use Rattle.vm_attempt_laws.specs.Bodies.{ComesAsAsked, executor_over, IsBehind, IsReplayed, NonEmptyValue, ReplaysStay, requests_asked_by, RunOutcome}
use Rattle.vm_attempt_laws.specs.HostedAttempt.{AreNext, AttemptsFollow, Brought, CanBeHosted, Closed, ClosesSo, Fed, FollowsHost, Hosted, hosted_begun, HostStep, MayBeBrought, requests_asked, Taken, Turned, TurnsSo, WritesBy, WritesMore, WritesWhere}
use Rattle.vm_attempt_laws.specs.InputOfAttempt.{MessageFits}
use Rattle.vm_attempt_laws.specs.Machine.phases
use Rattle.vm_attempt_laws.specs.Machine.{IsCopy, out_of_memory}
use Rattle.vm_attempt_laws.specs.OutputOfAttempt.{frame_meant, Sent}
use Rattle.vm_attempt_laws.specs.OverAttempts.{by_error, IsClosedEarly, IsOverBy}
use Rattle.vm_attempt_laws.specs.TurnReports.{arrivals_told, early, AnswersError, FailsSo, IsAttemptTold, lacks, memory, Told, TurnsTell, TurnTells, TurnTellsNow}
use Rattle.vm_attempt_laws.specs.TurnsInRun.{GoesOnBehind, ProposesAs, TellsAwaited, TurnKeeps, turns_answered, TurnsBehind, TurnServes}
use Rattle.vm_attempt_laws.specs.Words.{after_reading, after_turn, Arrival, arrivals_carried, attempt_begun, AttemptInRun, AttemptStart, Bytes, CarriesInput, Error, Frame, handed_bytes, Handler, Input, input_bytes, InputMessage, Machine, machine_at_start, piece_of, Queued, Request, requests_carried, requests_sent, Version, VMOptions}
use Rattle.vm_attempt_laws.proofs.ArrivalsCome.{arrivals_read, read_journal}
use Rattle.vm_attempt_laws.proofs.Beginning.{bytes_append, none_more}
use Rattle.vm_attempt_laws.proofs.Driven.{messages_written}
use Rattle.vm_attempt_laws.proofs.Messages.{fed_same}
use Rattle.vm_attempt_laws.proofs.OverAttempts.{closed_failed, closed_going, closed_over, early_tells, ends_by, fed_failed, fed_going, fed_over, moved_failed, moved_going, moved_over, over_of, turned_failed, turned_over}
use Rattle.vm_attempt_laws.proofs.Telling.{meant_append, TellsBehind, tells_behind, told_more}

-- ---- bytes and messages

-- the next bytes, behind those that are held
cancel_bytes : (frame read held bytes rest handed unread : Bytes) → handed ≡ frame ++ (read ++ held) → (handed ++ bytes) ++ rest ≡ frame ++ (read ++ unread) → (held ++ bytes) ++ rest ≡ unread
cancel_bytes frame read held bytes rest handed unread is parts =
    append_cancel_left read ((held ++ bytes) ++ rest) unread
    (append_cancel_left frame (read ++ ((held ++ bytes) ++ rest)) (read ++ unread) (regrouped ∙ parts))
  where
    regrouped : frame ++ (read ++ ((held ++ bytes) ++ rest)) ≡ (handed ++ bytes) ++ rest
    regrouped =
        ap (λ (some : Bytes). frame ++ some) (sym (append_assoc read (held ++ bytes) rest) ∙ ap (λ (some : Bytes). some ++ rest) (sym (append_assoc read held bytes)))
        ∙ sym (append_assoc frame ((read ++ held) ++ bytes) rest) ∙ ap (λ (some : Bytes). some ++ rest) (sym (append_assoc frame (read ++ held) bytes))
        ∙ ap (λ (some : Bytes). (some ++ bytes) ++ rest) (sym is)

written_more : (version : Version) (some more : List Sent)
    → requests_sent (map (frame_meant version) (some ++ more)) ≡ requests_sent (map (frame_meant version) some) ++ requests_sent (map (frame_meant version) more)
written_more version some more = ap requests_sent (meant_append version some more) ∙ requests_sent-append (map (frame_meant version) some) (map (frame_meant version) more)

never_closed : true ≡ false → ⊥
never_closed = true≢false

module _ {H : Type 0} (function : H → Handler) (next : Handler) (version : Version) (options : VMOptions) (start : AttemptStart) (queued : options.signal_delivery ≡ Queued)
    (comes : InputsCome function next version options) (events : StaysServing function next version options) (feeding : FeedsServing function next version options)
    (closing : ClosesServing function next version options) (taking : TakesServing function next version options) (turning : TurnServes function next version options)
    (telling : TurnsTell function next version options) (overs : OversStay function) where
  -- ---- where it stands

  abbrev started_so : AttemptInRun → AttemptInRun
  started_so live = record live { start = start }

  -- it serves a live attempt that was begun so, which has written what the host was told
  record ServesAsTold (host : Hosted) (a : Attempt H) : Type 0 where
    live : AttemptInRun
    proposed : List (ℕ × NonEmptyValue)
    input_is : live.read ++ live.unread ≡ CarriesInput start.new ∷ (start.journal ++ host.brought)
    written_is : live.machine.written ≡ requests_sent (map (frame_meant version) host.written)
    bodies : HasBodies next (started_so live) proposed a
    serves : Serves function next version options (started_so live) host.told.is_closed a
    is_told : IsAttemptTold (started_so live) a host.told.is_closed proposed host.told

  data Stands (host : Hosted) (a : Attempt H) : Type 0 where
    is_over : (last : Turn) → host.told.over ≡ Some last → IsOverBy last a → Stands host a
    lacks_memory : host.told.over ≡ None → a.over ≡ None → LacksMemory a → Stands host a
    closed_early : host.told.over ≡ None → a.over ≡ None → IsClosedEarly start host.told a → Stands host a
    serving : host.told.over ≡ None → ServesAsTold host a → Stands host a

  module _ (host : Hosted) (a : Attempt H) where
    nothing_written : (after : Attempt H) → output_of after ≡ output_of a → WritesMore function next version start a after []
    nothing_written after same = same ∙ sym (append-nil (output_of a))

    module _ (s : ServesAsTold host a) where
      abbrev live_now : AttemptInRun
      live_now = started_so s.live

      asked_is : requests_asked_by live_now ≡ requests_asked version start host
      asked_is =
          ap (λ (requests : List Request). requests ++ s.live.machine.written) (input_requests next live_now s.proposed s.bodies.executor s.bodies.lives)
          ∙ ap (λ (written : List Request). requests_carried start.journal ++ written) s.written_is

    -- ---- messages are to come

    module _ (more : List InputMessage) (may : MayBeBrought version start host more) where
      brought_so : ServesAsTold host a → ServesAsTold (record host { brought = host.brought ++ more }) a
      brought_so s = record {
        live = record s.live { unread = s.live.unread ++ more };
        proposed = s.proposed;
        input_is = all_more;
        written_is = s.written_is;
        bodies = (comes (live_now s) s.proposed a s.bodies).brings more s.live.coming
            (subst (λ (some : List (ℕ × NonEmptyValue)). AllByRecursion (IsBehind start.given.version some) more) s.is_told.outcomes may.behind) come;
        serves = events (live_now s) host.told.is_closed a more s.live.coming s.serves may.may;
        is_told = record { version = s.is_told.version; bytes = s.is_told.bytes; closed = s.is_told.closed; answered = s.is_told.answered; outcomes = s.is_told.outcomes };
      }
        where
          all_more : s.live.read ++ (s.live.unread ++ more) ≡ CarriesInput start.new ∷ (start.journal ++ (host.brought ++ more))
          all_more =
              sym (append_assoc s.live.read s.live.unread more) ∙ ap (λ (all : List InputMessage). all ++ more) s.input_is
              ∙ ap (λ (rest : List InputMessage). CarriesInput start.new ∷ rest) (append_assoc start.journal host.brought more)

          come : ComesAsAsked (arrivals_carried start.journal) s.proposed (requests_asked_by (live_now s)) (arrivals_carried (s.live.read ++ (s.live.unread ++ more)))
          come =
              subst (λ (asked : List Request). ComesAsAsked (arrivals_carried start.journal) s.proposed asked (arrivals_carried (s.live.read ++ (s.live.unread ++ more)))) (sym (asked_is s))
              (subst (λ (arrivals : List Arrival). ComesAsAsked (arrivals_carried start.journal) s.proposed (requests_asked version start host) arrivals) (sym (ap arrivals_carried all_more))
              (subst (λ (some : List (ℕ × NonEmptyValue)). ComesAsAsked (arrivals_carried start.journal) some (requests_asked version start host) (arrivals_carried (start.journal ++ (host.brought ++ more))))
              s.is_told.outcomes may.come))

      brought_stands : Stands host a → Stands (record host { brought = host.brought ++ more }) a
      brought_stands (is_over last so over) = is_over last so over
      brought_stands (lacks_memory so going lacking) = lacks_memory so going lacking
      brought_stands (closed_early so going failing) = closed_early so going failing
      brought_stands (serving so s) = serving so (brought_so s)

    -- ---- bytes come

    module _ (after : Attempt H) (bytes : Bytes) (feeds : Feeds bytes a after) (are : AreNext version start host bytes) where
      abbrev fed_host : Hosted
      fed_host = record host { told = record host.told { bytes = host.told.bytes ++ bytes } }

      abbrev FedSo : Type 0
      FedSo = WritesMore function next version start a after [] × Stands fed_host after

      fed_serving : host.told.over ≡ None → ServesAsTold host a → FedSo
      fed_serving so s =
          let next_bytes : (s.live.held ++ bytes) ++ are.rest ≡ input_bytes (map piece_of s.live.unread) =
          cancel_bytes start.frame (input_bytes (map piece_of s.live.read)) s.live.held bytes are.rest host.told.bytes (input_bytes (map piece_of s.live.unread)) s.is_told.bytes
          (are.parts ∙ ap (λ (messages : List InputMessage). start.frame ++ input_bytes (map piece_of messages)) (sym s.input_is)
          ∙ ap (λ (some : Bytes). start.frame ++ some) (bytes_append s.live.read s.live.unread)) in
          let handed = (comes (live_now s) s.proposed a s.bodies).is_handed bytes are.rest next_bytes in
          let (wrote, went) = feeding (live_now s) s.proposed host.told.is_closed bytes a after handed s.serves feeds in
          let going = fed_going bytes a after s.serves.going feeds in (
            nothing_written after wrote,
            elim went [
              | inl r ↦ serving so (reads_on s r going.1)
              | inr lacking ↦ lacks_memory so going.0 lacking
            ],
          )
        where
          reads_on : (s : ServesAsTold host a) → ServesOn function next version options (live_now s) s.proposed host.told.is_closed bytes after → after.input ≡ a.input → ServesAsTold fed_host after
          reads_on s r same = record {
            live = after_reading (handed_bytes (live_now s) bytes) r.some r.still r.kept;
            proposed = s.proposed;
            input_is = sym (fed_same (live_now s) r.some r.still r.parts) ∙ s.input_is;
            written_is = messages_written s.live.machine r.some ∙ s.written_is;
            bodies = r.bodies;
            serves = r.serves;
            is_told = record {
              version = s.is_told.version;
              bytes = told_more host.told.bytes start.frame s.live.held bytes r.kept s.live.read r.some s.is_told.bytes r.held;
              closed = s.is_told.closed;
              answered = s.is_told.answered ∙ sym (ap (λ (input : Option Input). turns_answered input s.live.calls) same);
              outcomes = s.is_told.outcomes;
            };
          }

      fed_stands : Stands host a → FedSo
      fed_stands (is_over last so over) = (nothing_written after ((overs a (over_of last a over)).fed bytes after feeds).1, is_over last so (fed_over last bytes a after over feeds))
      fed_stands (lacks_memory so going lacking) = (
        nothing_written after ((overs a (machine_failed out_of_memory lacking)).fed bytes after feeds).1,
        lacks_memory so (fed_going bytes a after going feeds).0 (fed_failed out_of_memory bytes a after going lacking feeds),
      )
      fed_stands (closed_early so going failing) = absurd (never_closed (sym failing.closed ∙ are.opened))
      fed_stands (serving so s) = fed_serving so s

    -- ---- no more come

    module _ (after : Attempt H) (closes : ClosesInput a after) where
      abbrev closed_host : List Sent → Hosted
      closed_host more = record host { told = record host.told { is_closed = true }; written = host.written ++ more }

      abbrev ClosedSo : Type 0
      ClosedSo = (more : List Sent) × ClosesSo version start host more × WritesMore function next version start a after more × Stands (closed_host more) after

      quiet : output_of after ≡ output_of a → Stands (closed_host []) after → ClosedSo
      quiet same stands = ([], record { fit = tt; notes = tt; early = inl refl }, nothing_written after same, stands)

      stays : (s : ServesAsTold host a) → StaysClosed function next version options (live_now s) a after → ServesAsTold (closed_host []) after
      stays s c = record {
        live = s.live;
        proposed = s.proposed;
        input_is = s.input_is;
        written_is = s.written_is ∙ ap (λ (written : List Sent). requests_sent (map (frame_meant version) written)) (sym (append-nil host.written));
        bodies = c.bodies (live_now s) s.proposed s.bodies;
        serves = c.serves;
        is_told = record {
          version = s.is_told.version;
          bytes = s.is_told.bytes;
          closed = refl;
          answered = s.is_told.answered ∙ sym (ap (λ (input : Option Input). turns_answered input s.live.calls) (closed_going a after s.serves.going closes).1);
          outcomes = s.is_told.outcomes;
        };
      }

      fails_early : host.told.over ≡ None → (s : ServesAsTold host a) → ClosesEarly function next version options (live_now s) a after → ClosedSo
      fails_early so s failing =
          let unread : HasJournal start host.told.bytes → ⊥ =
          λ journal. failing.unread (read_journal function next version options host.told.is_closed (live_now s) a s.proposed host.told s.bodies s.serves s.is_told journal) in (
            failing.sent,
            record { fit = failing.fit; notes = failing.notes; early = inr unread },
            failing.output,
            closed_early so (closed_going a after s.serves.going closes).0
                (record { unread = unread; closed = refl; error = failing.error; failed = failing.failed; tells = early_tells a.vm.state.active.output failing.error failing.told }),
          )

      closed_stands : Stands host a → ClosedSo
      closed_stands (is_over last so over) = quiet ((overs a (over_of last a over)).closed after closes).1 (is_over last so (closed_over last a after over closes))
      closed_stands (lacks_memory so going lacking) =
          quiet ((overs a (machine_failed out_of_memory lacking)).closed after closes).1
          (lacks_memory so (closed_going a after going closes).0 (closed_failed out_of_memory a after going lacking closes))
      closed_stands (closed_early so going failing) =
          quiet ((overs a (machine_failed failing.error failing.failed)).closed after closes).1
          (closed_early so (closed_going a after going closes).0
          (record { unread = failing.unread; closed = refl; error = failing.error; failed = closed_failed failing.error a after going failing.failed closes; tells = failing.tells }))
      closed_stands (serving so s) = elim (closing (live_now s) host.told.is_closed a after s.serves closes) [
        | inl c ↦ quiet c.nothing (serving so (stays s c))
        | inr failing ↦ fails_early so s failing
      ]

    -- ---- its output is taken

    module _ (max : ℕ) (result : Result Bytes AllocError) (after : Attempt H) (takes : TakesOutput max a result after) where
      only_moves : (some : Result Bytes AllocError) → TakesOutput max a some after → OnlyMoves a after
      only_moves (Ok bytes) it = it.moves
      only_moves (Err refused) it = it.moves

      moves : OnlyMoves a after
      moves = only_moves result takes

      taken_so : ServesAsTold host a → ServesAsTold host after
      taken_so s =
          let it = (taking (live_now s) host.told.is_closed a after s.serves).taken max result takes in record {
            live = s.live;
            proposed = s.proposed;
            input_is = s.input_is;
            written_is = s.written_is;
            bodies = it.1 (live_now s) s.proposed s.bodies;
            serves = it.0;
            is_told = record {
              version = s.is_told.version;
              bytes = s.is_told.bytes;
              closed = s.is_told.closed;
              answered = s.is_told.answered ∙ sym (ap (λ (input : Option Input). turns_answered input s.live.calls) (moved_going a after moves).1);
              outcomes = s.is_told.outcomes;
            };
          }

      taken_stands : Stands host a → Stands host after
      taken_stands (is_over last so over) = is_over last so (moved_over last a after over moves)
      taken_stands (lacks_memory so going lacking) = lacks_memory so ((moved_going a after moves).0 ∙ going) (moved_failed out_of_memory a after lacking moves)
      taken_stands (closed_early so going failing) =
          closed_early so ((moved_going a after moves).0 ∙ going)
          (record { unread = failing.unread; closed = failing.closed; error = failing.error; failed = moved_failed failing.error a after failing.failed moves; tells = failing.tells })
      taken_stands (serving so s) = serving so (taken_so s)

    -- ---- a turn

    module _ (ran : RunOutcome) (turn : Turn) (after : Attempt H) (turns : Turns function ran a turn after) where
      abbrev turned_host : List Sent → Told → Hosted
      turned_host more now = record host { told = now; written = host.written ++ more }

      record TurnedSo : Type 0 where
        more : List Sent
        now : Told
        so : TurnsSo version start host next ran turn more now
        wrote : WritesMore function next version start a after more
        stands : Stands (turned_host more now) after

      -- one that is over, or has failed before
      silent : (now : Told) → after ≡ a → TurnTellsNow next start host.told host.told.over ran turn now → WritesWhere version start host next host.told.over turn [] now → Stands (turned_host [] now) after → TurnedSo
      silent now same tells writes stands = record {
        more = [];
        now = now;
        so = record { tells = tells; fit = tt; of_run = tt; writes = writes; errors = tt };
        wrote = nothing_written after (ap output_of same);
        stands = stands;
      }

      turned_last : (last : Turn) → host.told.over ≡ Some last → IsOverBy last a → TurnedSo
      turned_last last so over =
          let it = turned_over function ran last a turn after over turns in
          silent host.told it.1 (subst (λ (o : Option Turn). TurnTellsNow next start host.told o ran turn host.told) (sym so) (it.0, refl))
          (subst (λ (o : Option Turn). WritesWhere version start host next o turn [] host.told) (sym so) refl) (is_over last so (subst (λ (b : Attempt H). IsOverBy last b) (sym it.1) over))

      abbrev failed_now : Error → Told
      failed_now error = record host.told { over = Some (Turn.Failed error) }

      turned_failing : (kept error : Error) → host.told.over ≡ None → a.over ≡ None → a.vm.state.phase ≡ phases.Failed kept → IsCopy kept error → turn ≡ Turn.Failed error → after ≡ a
          → TurnTellsNow next start host.told host.told.over ran turn (failed_now error) → TurnedSo
      turned_failing kept error so going failed copies is same tells =
          silent (failed_now error) same tells
          (subst (λ (o : Option Turn). WritesWhere version start host next o turn [] (failed_now error)) (sym so) (subst (λ (one : Turn). WritesBy version start host next one [] (failed_now error)) (sym is) refl))
          (is_over (Turn.Failed error) refl
          (by_error kept error (ap (λ (b : Attempt H). b.over) same ∙ going) (ap (λ (b : Attempt H). b.vm.state.phase) same ∙ failed) copies refl))

      turned_lacking : host.told.over ≡ None → a.over ≡ None → LacksMemory a → TurnedSo
      turned_lacking so going lacking =
          let it = turned_failed function ran out_of_memory a turn after going lacking turns in
          let same : it.0 ≡ out_of_memory = elim it.2 [ inl e ↦ e | inr e ↦ e ] in
          let is : turn ≡ Turn.Failed out_of_memory = it.1 ∙ ap Turn.Failed same in
          turned_failing out_of_memory out_of_memory so going lacking (inl refl) is it.3
          (subst (λ (o : Option Turn). TurnTellsNow next start host.told o ran turn (failed_now out_of_memory)) (sym so) (inl (is, refl)))

      turned_early : host.told.over ≡ None → a.over ≡ None → IsClosedEarly start host.told a → TurnedSo
      turned_early so going failing =
          let it = turned_failed function ran failing.error a turn after going failing.failed turns in
          let why : FailsSo next start host.told (arrivals_told start host.told) ran it.0 = elim it.2 [
            | inl same ↦ elim failing.tells [
              | inl answers ↦ early failing.unread failing.closed (subst (AnswersError early_error) (sym same) answers)
              | inr none ↦ lacks (memory (same ∙ none))
            ]
            | inr none ↦ lacks (memory none)
          ] in
          turned_failing failing.error it.0 so going failing.failed it.2 it.1 it.3
          (subst (λ (o : Option Turn). TurnTellsNow next start host.told o ran turn (failed_now it.0)) (sym so)
          (inr (subst (λ (one : Turn). TurnTells next start host.told ran one (failed_now it.0)) (sym it.1) (refl, why))))

      module _ (so : host.told.over ≡ None) (s : ServesAsTold host a) where
        abbrev Behind : List Sent → Turn → Type 0
        Behind sends one = TurnsBehind function next version options host.told.is_closed (live_now s) a s.proposed ran sends one after

        abbrev Tells : (sends : List Sent) (one : Turn) → Behind sends one → Type 0
        Tells sends one b = TellsBehind function next version options host.told.is_closed (live_now s) a s.proposed ran host.told s.bodies s.serves s.is_told sends one after b

        kept_turn : TurnKeeps function next version options host.told.is_closed (live_now s) a s.proposed ran turn after
        kept_turn = turning host.told.is_closed (live_now s) a s.proposed ran turn after queued s.bodies s.serves turns

        tells_turn : Tells kept_turn.sent turn kept_turn.behind
        tells_turn =
            tells_behind function next version options host.told.is_closed (live_now s) a s.proposed ran host.told s.bodies s.serves s.is_told kept_turn.sent turn after kept_turn.behind
            (telling host.told.is_closed (live_now s) a s.proposed ran turn after host.told queued s.bodies s.serves s.is_told turns)

        -- what it has written is of the run over the arrivals that have come
        turn_of_run : (frames : List Frame) → WritesOfRun next start.given (arrivals_carried (s.live.read ++ kept_turn.makes.some)) host.told.is_closed (requests_asked_by (live_now s)) frames
            → SendsOfRun next start.given (arrivals_told start host.told) host.told.is_closed (requests_asked version start host) frames
        turn_of_run frames writes =
            let none : kept_turn.makes.some ≡ [] =
            none_more kept_turn.makes.some kept_turn.makes.still s.live.unread s.live.held (all_behind MessageFits s.live.read s.live.unread s.serves.fed.fit) kept_turn.makes.parts kept_turn.makes.bytes in
            let read : s.live.read ++ kept_turn.makes.some ≡ s.live.read = ap (λ (some : List InputMessage). s.live.read ++ some) none ∙ append-nil s.live.read in
            let come : arrivals_carried (s.live.read ++ kept_turn.makes.some) ≡ arrivals_told start host.told =
            ap arrivals_carried read ∙ sym (arrivals_read function next version options host.told.is_closed (live_now s) a s.proposed host.told s.bodies s.serves s.is_told) in
            subst (λ (arrivals : List Arrival). SendsOfRun next start.given arrivals host.told.is_closed (requests_asked version start host) frames) come
            (subst (λ (asked : List Request). SendsOfRun next start.given (arrivals_carried (s.live.read ++ kept_turn.makes.some)) host.told.is_closed asked frames) (asked_is s)
            (writes_send next start.given (arrivals_carried (s.live.read ++ kept_turn.makes.some)) host.told.is_closed (requests_asked_by (live_now s)) frames writes))

        writes_by : (sends : List Sent) (one : Turn) (b : Behind sends one) (tells : Tells sends one b) → ProposesAs one (map (frame_meant version) sends) → WritesBy version start host next one (map (frame_meant version) sends) tells.now
        writes_by sends Turn.RanBody b tells proposes = (
          b.body.completion,
          b.value,
          b.sends,
          tells.is_told.1.outcomes ∙ ap (λ (some : List (ℕ × NonEmptyValue)). some ++ (b.body.completion, b.value) ∷ []) (sym s.is_told.outcomes),
        )
        writes_by sends Turn.Suspended b tells proposes = (b.3.suspension, b.3.frames_are)
        writes_by sends Turn.Ended b tells proposes = b.2
        writes_by sends Turn.Answered b tells proposes = b.4
        writes_by sends Turn.Waiting b tells proposes =
            subst (λ (arrivals : List Arrival). TellsAwaited next start.given arrivals (requests_asked version start host) (map (frame_meant version) sends))
            (sym (arrivals_read function next version options host.told.is_closed (live_now s) a s.proposed host.told s.bodies s.serves s.is_told))
            (subst (λ (asked : List Request). TellsAwaited next start.given (arrivals_carried s.live.read) asked (map (frame_meant version) sends)) (asked_is s) b.2)
        writes_by sends (Turn.Failed error) b tells proposes = proposes

        -- it goes on, as it was told
        goes_on : (sends : List Sent) (calls : ℕ) (machine : Machine) (proposed : List (ℕ × NonEmptyValue)) (now : Told) → now.over ≡ host.told.over
            → GoesOnBehind function next version options host.told.is_closed (live_now s) (map (frame_meant version) sends) calls machine proposed after
            → IsAttemptTold (after_turn (live_now s) (map (frame_meant version) sends) calls machine) after host.told.is_closed proposed now → Stands (turned_host sends now) after
        goes_on sends calls machine proposed now same b t = serving (same ∙ so) (record {
          live = after_turn (live_now s) (map (frame_meant version) sends) calls machine;
          proposed = proposed;
          input_is = s.input_is;
          written_is = b.written ∙ ap (λ (written : List Request). written ++ requests_sent (map (frame_meant version) sends)) s.written_is ∙ sym (written_more version host.written sends);
          bodies = b.bodies;
          serves = subst (λ (closed : Bool). Serves function next version options (after_turn (live_now s) (map (frame_meant version) sends) calls machine) closed after) (sym t.closed) b.serves;
          is_told = record { version = t.version; bytes = t.bytes; closed = refl; answered = t.answered; outcomes = t.outcomes };
        })

        ends_so : (sends : List Sent) (one : Turn) (now : Told) → turn ≡ one → IsOver after → AnswersKept one after → IsLast one → now.over ≡ Some one → Stands (turned_host sends now) after
        ends_so sends one now is over kept last told =
            is_over one told
            (subst (λ (other : Turn). IsOverBy other after) is
            (ends_by function ran a turn after s.serves.going turns over (subst (λ (other : Turn). AnswersKept other after) (sym is) kept) (subst IsLast (sym is) last)))

        stands_behind : (sends : List Sent) (one : Turn) → turn ≡ one → (b : Behind sends one) (tells : Tells sends one b) → Stands (turned_host sends tells.now) after
        stands_behind sends Turn.Answered is b tells = goes_on sends b.0 b.1 s.proposed tells.now tells.is_told.0 b.3 tells.is_told.1
        stands_behind sends Turn.RanBody is b tells = goes_on sends s.live.calls b.machine (s.proposed ++ (b.body.completion, b.value) ∷ []) tells.now tells.is_told.0 b.goes_on tells.is_told.1
        stands_behind sends Turn.Waiting is b tells = goes_on sends s.live.calls b.1.0 s.proposed tells.now tells.is_told.0 b.1.1 tells.is_told.1
        stands_behind sends Turn.Suspended is b tells = ends_so sends Turn.Suspended tells.now is b.2 tt tt tells.is_told
        stands_behind sends Turn.Ended is b tells = ends_so sends Turn.Ended tells.now is b.1 tt tt tells.is_told
        stands_behind sends (Turn.Failed error) is b tells = ends_so sends (Turn.Failed error) tells.now is b.1 b.2 tt tells.is_told

        turned_serving : TurnedSo
        turned_serving = record {
          more = kept_turn.sent;
          now = tells_turn.now;
          so = record {
            tells = subst (λ (o : Option Turn). TurnTellsNow next start host.told o ran turn tells_turn.now) (sym so) (inr tells_turn.tells);
            fit = kept_turn.fit;
            of_run = turn_of_run (map (frame_meant version) kept_turn.sent) kept_turn.makes.writes;
            writes = subst (λ (o : Option Turn). WritesWhere version start host next o turn kept_turn.sent tells_turn.now) (sym so) (writes_by kept_turn.sent turn kept_turn.behind tells_turn kept_turn.proposes);
            errors = kept_turn.errors;
          };
          wrote = kept_turn.output;
          stands = stands_behind kept_turn.sent turn refl kept_turn.behind tells_turn;
        }

      turned_stands : Stands host a → TurnedSo
      turned_stands (is_over last so over) = turned_last last so over
      turned_stands (lacks_memory so going lacking) = turned_lacking so going lacking
      turned_stands (closed_early so going failing) = turned_early so going failing
      turned_stands (serving so s) = turned_serving so s

  -- ---- all steps

  follows_host : (steps : List HostStep) (host : Hosted) (a : Attempt H) → Stands host a → FollowsHost function next version start steps host a
  follows_host [] host a stands = tt
  follows_host (Brought messages ∷ steps) host a stands =
      λ may. follows_host steps (record host { brought = host.brought ++ messages }) a (brought_stands host a messages may stands)
  follows_host (Fed bytes ∷ steps) host a stands = λ after feeds are.
      (let it = fed_stands host a after bytes feeds are stands in (it.0, follows_host steps (record host { told = record host.told { bytes = host.told.bytes ++ bytes } }) after it.1))
  follows_host (Closed ∷ steps) host a stands = λ after closes.
      (let it = closed_stands host a after closes stands in (it.0, it.1, it.2, follows_host steps (record host { told = record host.told { is_closed = true }; written = host.written ++ it.0 }) after it.3))
  follows_host (Taken max result ∷ steps) host a stands = λ after takes. follows_host steps host after (taken_stands host a max result after takes stands)
  follows_host (Turned ran turn ∷ steps) host a stands = λ after turns.
      (let it = turned_stands host a ran turn after turns stands in (it.more, it.now, it.so, it.wrote, follows_host steps (record host { told = it.now; written = host.written ++ it.more }) after it.stands))

  -- ---- its begin

  module _ (can : CanBeHosted next version options start) (handler : H) (new fed : Attempt H) (replay : ReplaysBegin) (stay : ReplaysStay) (beginning : BeginsServing function next version options)
      (is_next : function handler ≡ next) (begun : IsBegun version options handler (Ok new)) (feeds : Feeds start.frame new fed) where
    replays : IsReplayed next (attempt_started start) [] (executor_over (machine_at_start start.shown [] []))
    replays =
        (stay next (attempt_begun start) [] (executor_over (machine_at_start start.shown [] [])) (replay next start can.replays can.come)).reads_start (sym (append-nil start.frame))

    unread_input : HasNotRead function next version options (attempt_started start) false fed ⊎ HasRead function next version options (attempt_started start) fed → fed.input ≡ None
    unread_input (inl n) = n.input
    unread_input (inr r) = absurd (nothing_read r.journal.parts)
      where
        nothing_read : {messages : List InputMessage} → ◌≡◌ {A = List InputMessage} [] (CarriesInput start.new ∷ messages) → ⊥
        nothing_read e = cc

    pub follows_begun : (steps : List HostStep) → (output_of fed ≡ []) × FollowsHost function next version start steps (hosted_begun start) fed
    follows_begun steps =
        let began = beginning start can.replays.shows handler new fed is_next can.of_run can.begins can.fed begun feeds in (
          began.0,
          elim began.1 [
            | inl (serves, bodies) ↦ follows_host steps (hosted_begun start) fed (serving refl (record {
              live = attempt_started start;
              proposed = [];
              input_is = ap (λ (rest : List InputMessage). CarriesInput start.new ∷ rest) (sym (append-nil start.journal));
              written_is = refl;
              bodies = bodies replays;
              serves = serves;
              is_told = record {
                version = refl;
                bytes = sym (append-nil start.frame);
                closed = refl;
                answered = sym (ap (λ (input : Option Input). turns_answered input 0) (unread_input serves.stands));
                outcomes = refl;
              };
            }))
            | inr lacking ↦ follows_host steps (hosted_begun start) fed (lacks_memory refl (fed_going start.frame new fed begun.unasked.over feeds).0 lacking)
          ],
        )

pub attempts_follow : {H : Type 0} (function : H → Handler) (next : Handler) (version : Version) (options : VMOptions) → ReplaysBegin → ReplaysStay → BeginsServing function next version options
    → InputsCome function next version options → StaysServing function next version options → FeedsServing function next version options → ClosesServing function next version options
    → TakesServing function next version options → TurnServes function next version options → TurnsTell function next version options → OversStay function → AttemptsFollow function next version options
attempts_follow function next version options replay stay beginning comes events feeding closing taking turning telling overs start handler new fed steps can is_next begun feeds =
    follows_begun function next version options start can.queued comes events feeding closing taking turning telling overs can handler new fed replay stay beginning is_next begun feeds steps
