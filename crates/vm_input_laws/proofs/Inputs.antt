-- The messages of an input are kept one after the other, in any cut of their bytes.
use Rattle.std.proofs.Common.{◌≡◌, ◌⊎◌, inl, inr, ◌∙◌, ℕ, Bool, true, false, true≢false, List, [], ◌∷◌, ◌++◌, map, append_assoc, append-nil, Option, Some, None, Result, Ok, Err, refl, sym, ap, subst}
use Rattle.std.specs.Prelude.{nat_lt, ◌-◌, ◌==◌, if◌then◌else◌}
use Rattle.std.specs.List.{AllByRecursion}
use Rattle.protocol_types.specs.declared.message_type.UnknownMessageType.{UnknownMessageType}
use Rattle.protocol_stream.specs.Decoder.{ConsumesNext}
use Rattle.protocol_stream.specs.Item.{Item, item_at, message, unknown}
use Rattle.protocol_stream.specs.declared.decoder.RawMessage.{RawMessage}
use Rattle.protocol_stream.specs.declared.decoder.DecodingError.{DecodingError}
use Rattle.protocol_stream.specs.declared.decoder.DecodingError.TheVariants.{UnknownMessageType as OfUnknownType, OutOfMemory}
use Rattle.protocol_stream.proofs.Frames.{item_at-frame_bytes}
use Rattle.protocol_errors.specs.Error.{decoding_code}
use Rattle.protocol_stream.specs.ErrorText.{decoding_text}
use Rattle.journal_model.specs.declared.value.NonEmptyValue.{NonEmptyValue}
use Rattle.journal_model.specs.Notification.{Bytes}
use Rattle.journal_model.specs.Spelling.{notification_payload}
use Rattle.journal_model.specs.Run.{Invocation}
use Rattle.journal_model.specs.Attempt.{input_bytes}
use Rattle.input_laws.specs.Message.{InputMessage, CarriesInput, CarriesRequest, CarriesArrival, CarriesOutcome, piece_of}
use Rattle.attempt_model.specs.Machine.{Machine}
use Rattle.body_laws.specs.Bodies.{Executor}
use Rattle.replay_laws.specs.AttemptWithBodies.{reads_message, reads_messages, AreCached}
use Rattle.vm_runs.specs.Runs.{Runs}
use Rattle.vm_runs.specs.KeptBodies.{KeepsBodies}
use Rattle.vm_calls.specs.declared.active.Active.{Active}
use Rattle.vm_calls.specs.Active.{Sees}
use Rattle.vm_machine.specs.Causes.{TellsPlainError}
use Rattle.vm_machine.specs.StateBeforeInput.{Gathers}
use Rattle.vm_start.specs.declared.phase.Phase.{Phase}
use Rattle.vm_start.specs.declared.phase.Phase.TheVariants as phases
use Rattle.vm_feeding.specs.InputBytes.{has_failed, with_bytes, with_input, TakesNext, TakesEach, StopsAt, Stops, Rests, RestsWhere, IsFed}
use Rattle.vm_machine.specs.declared.machine_state.MachineState.{MachineState}
use Rattle.protocol_stream.proofs.Fronts.{item_at_extends}
use Rattle.protocol_wire.proofs.Extends.{Extends}
use Rattle.vm_input_laws.specs.Memory.{FailsForMemory}
use Rattle.vm_input_laws.specs.Messages.{raw_of, MessageFits, IsWaitedFor, IsExpected, KeepsMessage, command_in, gathered, runs_then, phase_then, Kept, Unkept, MessagesAreKept}
use Rattle.vm_input_laws.specs.InputMessages.{bytes_of, IsFedEach, gathered_all, commands_in, phase_behind, runs_behind, AreWaitedFor, KnowsRuns, AreKept, TakesFirstMessages, InputsAreKept}
use Rattle.vm_input_laws.proofs.Acknowledging.{acknowledgement_front}
use Rattle.vm_input_laws.proofs.StartSpelled.{inputs_read_back}
use Rattle.vm_request_laws.proofs.Requests.{requests_read_back}
use Rattle.vm_input_laws.proofs.Memory.{unless_refused, fails_for_memory, memory_over, unkept_fails}
use Rattle.vm_input_laws.proofs.Staying.{failed_fed}

-- ---- what stands at the front

pub front : (one : InputMessage) → MessageFits one → (rest : List ℕ) → item_at ((piece_of one).bytes ++ rest) ≡ Some (message (raw_of one), rest)
front (CarriesInput new) fits rest = (inputs_read_back new.headers new.input rest fits).front
front (CarriesRequest request) fits rest = (requests_read_back request rest fits).front
front (CarriesArrival ty arrival) fits rest = item_at-frame_bytes ty (notification_payload arrival) rest fits.1.named fits.0.short
front (CarriesOutcome number value) fits rest = acknowledgement_front number rest

pub nothing_at : item_at [] ≡ None
unfolding item_at
nothing_at = refl

pub some_is_none : {A : Type 0} (x : A) → ◌≡◌ {A = Option A} (Some x) None → ⊥
some_is_none x e = cc

pub same_found : (x y : Item × List ℕ) → ◌≡◌ {A = Option (Item × List ℕ)} (Some x) (Some y) → x ≡ y
same_found x y e = cc

pub same_message : (one other : RawMessage) → message one ≡ message other → one ≡ other
same_message one other e = cc

pub unknown_is_none : (ty : UnknownMessageType) (one : RawMessage) → unknown ty ≡ message one → ⊥
unknown_is_none ty one e = cc

-- what is found is found with more behind it
pub extended : (more bytes rest : List ℕ) (one : Item) → item_at bytes ≡ Some (one, rest) → item_at (bytes ++ more) ≡ Some (one, rest ++ more)
extended more bytes rest one is = subst (λ (at : Option (Item × List ℕ)). Extends more at (item_at (bytes ++ more))) is (item_at_extends more bytes)

-- what is found in a beginning of these messages' bytes is what stands at their front
found_in : (held coming rest : List ℕ) (one : Item) (messages : List InputMessage) → AllByRecursion MessageFits messages → held ++ coming ≡ input_bytes (map piece_of messages)
    → item_at held ≡ Some (one, rest) → (first : InputMessage) × (more : List InputMessage) × (messages ≡ first ∷ more) × (one ≡ message (raw_of first)) × (rest ++ coming ≡ input_bytes (map piece_of more))
found_in held coming rest one [] fit bytes found =
    absurd (some_is_none (one, rest ++ coming) (sym (extended coming held rest one found) ∙ ap item_at bytes ∙ nothing_at))
found_in held coming rest one (first ∷ more) fit bytes found =
    let both = same_found (one, rest ++ coming) (message (raw_of first), input_bytes (map piece_of more))
    (sym (extended coming held rest one found) ∙ ap item_at bytes ∙ front first fit.0 (input_bytes (map piece_of more))) in
    (first, more, refl, ap (λ (x : Item × List ℕ). x.0) both, ap (λ (x : Item × List ℕ). x.1) both)

-- ---- one message more

pub gathered_append : (some more : List InputMessage) (m : Machine) → gathered_all (some ++ more) m ≡ gathered_all more (gathered_all some m)
gathered_append [] more m = refl
gathered_append (first ∷ some) more m = gathered_append some more (gathered first m)

pub commands_append : (some more : List InputMessage) → commands_in (some ++ more) ≡ commands_in some ++ commands_in more
commands_append [] more = refl
commands_append (first ∷ some) more = ap (λ (rest : List RawMessage). command_in first ++ rest) (commands_append some more) ∙ sym (append_assoc (command_in first) (commands_in some) (commands_in more))

pub phase_append : (some more : List InputMessage) (phase : Phase) → phase_behind (some ++ more) phase ≡ phase_behind more (phase_behind some phase)
phase_append [] more phase = refl
phase_append (first ∷ some) more phase = phase_append some more (phase_then phase)

pub runs_append : (some more : List InputMessage) (runs : Runs) → runs_behind (some ++ more) runs ≡ runs_behind more (runs_behind some runs)
runs_append [] more runs = refl
runs_append (first ∷ some) more runs = runs_append some more (runs_then first runs)

pub reads_append : (e : Executor) (some more : List InputMessage) → reads_messages e (some ++ more) ≡ reads_messages (reads_messages e some) more
reads_append e [] more = refl
reads_append e (first ∷ some) more = reads_append (reads_message e first) some more

pub stays_active : (some : List InputMessage) → phase_behind some phases.Active ≡ phases.Active
stays_active [] = refl
stays_active (first ∷ some) = stays_active some

-- before the input is read
keeps_gathered : (given : Invocation) (one : InputMessage) (old new : Active) → KeepsMessage given one old new → (m : Machine) → Gathers given old m → Gathers given new (gathered one m)
keeps_gathered given (CarriesInput new_invocation) old new keeps m g = keeps m g
keeps_gathered given (CarriesRequest request) old new keeps m g = keeps m g
keeps_gathered given (CarriesArrival ty arrival) old new keeps m g = (keeps m).0 g
keeps_gathered given (CarriesOutcome number value) old new keeps m g = (keeps m).0 g

-- and behind it
keeps_seen : (given : Invocation) (one : InputMessage) (old new : Active) → IsWaitedFor one phases.Active → KeepsMessage given one old new → (m : Machine) → Sees given old m → Sees given new (gathered one m)
keeps_seen given (CarriesInput new_invocation) old new waited keeps m s = absurd waited
keeps_seen given (CarriesRequest request) old new waited keeps m s = absurd waited
keeps_seen given (CarriesArrival ty arrival) old new waited keeps m s = (keeps m).1 s
keeps_seen given (CarriesOutcome number value) old new waited keeps m s = (keeps m).1 s

with_kept : (old between new : MachineState) → between ≡ record old { decoder = between.decoder; phase = between.phase; active = between.active; runs = between.runs }
    → new ≡ record between { decoder = new.decoder; phase = new.phase; active = new.active; runs = new.runs } → new ≡ record old { decoder = new.decoder; phase = new.phase; active = new.active; runs = new.runs }
with_kept old between new before is = is ∙ ap (λ (vm : MachineState). record vm { decoder = new.decoder; phase = new.phase; active = new.active; runs = new.runs }) before

one_more : (given : Invocation) (some : List InputMessage) (one : InputMessage) (old between new : MachineState) → AreKept given some old between → IsWaitedFor one between.phase → Kept given one between new
    → AreKept given (some ++ one ∷ []) old new
one_more given some one old between new k waited kept = record {
  phase = kept.phase ∙ ap phase_then k.phase ∙ sym (phase_append some (one ∷ []) old.phase);
  output = kept.output ∙ k.output;
  commands =
      kept.commands ∙ ap (λ (commands : List RawMessage). commands ++ command_in one) k.commands
      ∙ append_assoc old.active.commands.items (commands_in some) (command_in one)
      ∙ ap (λ (commands : List RawMessage). old.active.commands.items ++ commands)
      (ap (λ (commands : List RawMessage). commands_in some ++ commands) (sym (append-nil (command_in one))) ∙ sym (commands_append some (one ∷ [])));
  gathers = λ m g.
      subst (λ (m' : Machine). Gathers given new.active m') (sym (gathered_append some (one ∷ []) m)) (keeps_gathered given one between.active new.active kept.keeps (gathered_all some m) (k.gathers m g));
  sees = λ active m s.
      subst (λ (m' : Machine). Sees given new.active m') (sym (gathered_append some (one ∷ []) m))
      (keeps_seen given one between.active new.active
      (subst (λ (p : Phase). IsWaitedFor one p) (k.phase ∙ ap (phase_behind some) active ∙ stays_active some) waited) kept.keeps (gathered_all some m) (k.sees active m s));
  replaying = kept.replaying ∙ k.replaying;
  runs = kept.runs ∙ ap (runs_then one) k.runs ∙ sym (runs_append some (one ∷ []) old.runs);
  bodies = λ e keeps. subst (λ (e' : Executor). KeepsBodies new.runs e') (sym (reads_append e some (one ∷ []))) (kept.bodies (reads_messages e some) (k.bodies e keeps));
  others = with_kept old between new k.others kept.others;
}

pub none_kept : (given : Invocation) (bytes : List ℕ) (old : MachineState) → AreKept given [] old (with_bytes bytes old)
none_kept given bytes old = record {
  phase = refl;
  output = refl;
  commands = sym (append-nil old.active.commands.items);
  gathers = λ m g. g;
  sees = λ active m s. s;
  replaying = refl;
  runs = refl;
  bodies = λ e keeps. keeps;
  others = refl;
}

-- ---- what is known of runs

-- whatever bytes it holds
pub known_over : (e : Executor) (messages : List InputMessage) (bytes : List ℕ) (vm : MachineState) → KnowsRuns e messages vm → KnowsRuns e messages (with_bytes bytes vm)
known_over e messages bytes vm k = record { keeps = k.keeps; cached = k.cached; behind = k.behind }

cached_behind : (e : Executor) (first : InputMessage) (more : List InputMessage) → AreCached e (first ∷ more) → AreCached (reads_message e first) more
cached_behind e (CarriesInput new) more cached = cached
cached_behind e (CarriesRequest request) more cached = cached
cached_behind e (CarriesArrival ty arrival) more cached = cached
cached_behind e (CarriesOutcome number value) more cached = cached.1

-- what is cached was cached before
cached_before : (e : Executor) (first : InputMessage) (n : ℕ) (value : NonEmptyValue) → (reads_message e first).cached n ≡ Some value → e.cached n ≡ Some value
cached_before e (CarriesInput new) n value is = is
cached_before e (CarriesRequest request) n value is = is
cached_before e (CarriesArrival ty arrival) n value is = is
cached_before e (CarriesOutcome number told) n value is = by_test (n == number) is
  where
    by_test : (b : Bool) → ◌≡◌ {A = Option NonEmptyValue} (if b then None else e.cached n) (Some value) → e.cached n ≡ Some value
    by_test true none = absurd cc
    by_test false before = before

expected_first : (e : Executor) (first : InputMessage) (more : List InputMessage) (vm : MachineState) → KnowsRuns e (first ∷ more) vm → IsExpected first vm
expected_first e (CarriesInput new) more vm k = tt
expected_first e (CarriesRequest request) more vm k = tt
expected_first e (CarriesArrival ty arrival) more vm k = tt
expected_first e (CarriesOutcome number value) more vm k = (k.keeps.cached number ∙ k.cached.0, k.behind number value k.cached.0)

known_behind : (given : Invocation) (e : Executor) (first : InputMessage) (more : List InputMessage) (old new : MachineState) → KnowsRuns e (first ∷ more) old → Kept given first old new
    → KnowsRuns (reads_message e first) more new
known_behind given e first more old new k kept = record {
  keeps = kept.bodies e k.keeps;
  cached = cached_behind e first more k.cached;
  behind = λ n value is. kept.replaying ∙ k.behind n value (cached_before e first n value is);
}

well_after : (b : Bool) (left : ℕ) → has_failed (if b then phases.WaitingReplayEntries left else phases.Active) ≡ false
well_after true left = refl
well_after false left = refl

pub well_then : (phase : Phase) → has_failed phase ≡ false → has_failed (phase_then phase) ≡ false
well_then phases.WaitingStart well = well
well_then (phases.WaitingReplayEntries left) well = well_after (nat_lt 1 left) (left - 1)
well_then phases.Active well = well
well_then phases.Closed well = well
well_then (phases.Failed error) well = well

-- ---- messages one after the other

-- the first messages were taken, of the others some bytes are held, and these are still to come
pub record Took (given : Invocation) (messages : List InputMessage) (coming : List ℕ) (old new : MachineState) : Type 0 where
  pub some : List InputMessage
  pub still : List InputMessage
  pub parts : messages ≡ some ++ still
  pub well : has_failed new.phase ≡ false
  pub bytes : new.decoder ++ coming ≡ input_bytes (map piece_of still)
  pub fit : AllByRecursion MessageFits still
  pub waited : AreWaitedFor still new.phase
  pub executor : Executor
  pub known : KnowsRuns executor still new
  pub kept : AreKept given some old new

pub took_none : (given : Invocation) (messages : List InputMessage) (bytes coming : List ℕ) (old : MachineState) (e : Executor) → has_failed old.phase ≡ false → AllByRecursion MessageFits messages
    → AreWaitedFor messages old.phase → KnowsRuns e messages old → bytes ++ coming ≡ input_bytes (map piece_of messages) → Took given messages coming old (with_bytes bytes old)
took_none given messages bytes coming old e well fit waited known is =
    record { some = []; still = messages; parts = refl; well = well; bytes = is; fit = fit; waited = waited; executor = e; known = known_over e messages bytes old known; kept = none_kept given bytes old }

-- more bytes have come
pub took_bytes : (given : Invocation) (messages : List InputMessage) (cut coming : List ℕ) (old new : MachineState) → Took given messages (cut ++ coming) old new → Took given messages coming old (with_input cut new)
took_bytes given messages cut coming old new k = record {
  some = k.some;
  still = k.still;
  parts = k.parts;
  well = k.well;
  bytes = append_assoc new.decoder cut coming ∙ k.bytes;
  fit = k.fit;
  waited = k.waited;
  executor = k.executor;
  known = known_over k.executor k.still (new.decoder ++ cut) new k.known;
  kept = record {
    phase = k.kept.phase;
    output = k.kept.output;
    commands = k.kept.commands;
    gathers = k.kept.gathers;
    sees = k.kept.sees;
    replaying = k.kept.replaying;
    runs = k.kept.runs;
    bodies = k.kept.bodies;
    others = ap (with_bytes (new.decoder ++ cut)) k.kept.others;
  };
}

module _ (keeps : MessagesAreKept) (given : Invocation) (messages : List InputMessage) (coming : List ℕ) (old : MachineState) where
  pub took_next : (between new : MachineState) (raw : RawMessage) → Took given messages coming old between → TakesNext raw between new → Took given messages coming old new ⊎ FailsForMemory old new
  took_next between new raw k next =
      let found = found_in between.decoder coming next.rest (message raw) k.still k.fit k.bytes next.consumes in
      let fit = subst (AllByRecursion MessageFits) found.2 k.fit in
      let waited = subst (λ (still : List InputMessage). AreWaitedFor still between.phase) found.2 k.waited in
      let known = subst (λ (still : List InputMessage). KnowsRuns k.executor still between) found.2 k.known in
      let same : raw ≡ raw_of found.0 = same_message raw (raw_of found.0) found.3 in
      by_kept found.0 found.1 found.2 fit waited known
      (keeps given found.0 between new fit.0 waited.0 (expected_first k.executor found.0 found.1 between known) (subst (λ (one : RawMessage). TakesNext one between new) same next))
    where
      by_kept : (first : InputMessage) (more : List InputMessage) → k.still ≡ first ∷ more → AllByRecursion MessageFits (first ∷ more) → AreWaitedFor (first ∷ more) between.phase
          → KnowsRuns k.executor (first ∷ more) between → Kept given first between new ⊎ Unkept between new → Took given messages coming old new ⊎ FailsForMemory old new
      by_kept first more is fit waited known (inl kept) =
          let front_is = same_found (message (raw_of first), new.decoder ++ coming) (message (raw_of first), input_bytes (map piece_of more))
          (sym (extended coming between.decoder new.decoder (message (raw_of first)) kept.bytes) ∙ ap item_at (k.bytes ∙ ap (λ (still : List InputMessage). input_bytes (map piece_of still)) is)
          ∙ front first fit.0 (input_bytes (map piece_of more))) in
          inl (record {
            some = k.some ++ first ∷ [];
            still = more;
            parts = k.parts ∙ ap (λ (still : List InputMessage). k.some ++ still) is ∙ sym (append_assoc k.some (first ∷ []) more);
            well = ap has_failed kept.phase ∙ well_then between.phase k.well;
            bytes = ap (λ (x : Item × List ℕ). x.1) front_is;
            fit = fit.1;
            waited = subst (λ (p : Phase). AreWaitedFor more p) (sym kept.phase) waited.1;
            executor = reads_message k.executor first;
            known = known_behind given k.executor first more between new known kept;
            kept = one_more given k.some first old between new k.kept waited.0 kept;
          })
      by_kept first more is fit waited known (inr unkept) = inr (memory_over old between new k.kept.output (unkept_fails between new k.well unkept))

  pub took_each : (start new : MachineState) (raws : List RawMessage) → Took given messages coming old start → TakesEach raws start new → Took given messages coming old new ⊎ FailsForMemory old new
  took_each start new [] k is = inl (subst (λ (vm : MachineState). Took given messages coming old vm) (sym is) k)
  took_each start new (raw ∷ before) k h = go (took_each start h.0 before k h.1)
    where
      go : Took given messages coming old h.0 ⊎ FailsForMemory old h.0 → Took given messages coming old new ⊎ FailsForMemory old new
      go (inl earlier) = took_next h.0 new raw earlier h.2
      go (inr failed) = absurd (true≢false (sym (ap has_failed failed.phase) ∙ h.2.well))

  -- no further one is taken
  pub took_whole : (between new : MachineState) → Took given messages coming old between → Rests between new → (Took given messages coming old new × (item_at new.decoder ≡ None)) ⊎ FailsForMemory old new
  took_whole between new k rests = stopped (subst (λ (b : Bool). RestsWhere b between new) k.well rests)
    where
      at_end : (next : Result (Option RawMessage) DecodingError) (rest : List ℕ) → ConsumesNext between.decoder next rest → StopsAt next (with_bytes rest between) new
          → (Took given messages coming old new × (item_at new.decoder ≡ None)) ⊎ FailsForMemory old new
      at_end (Ok None) rest consumes is =
          let same : new ≡ between = is ∙ ap (λ (bytes : List ℕ). with_bytes bytes between) consumes.1 in
          inl (subst (λ (vm : MachineState). Took given messages coming old vm × (item_at vm.decoder ≡ None)) (sym same) (k, consumes.0))
      at_end (Ok (Some raw)) rest consumes stops = absurd stops
      at_end (Err (OfUnknownType ty)) rest consumes unread =
          let found = found_in between.decoder coming rest (unknown ty) k.still k.fit k.bytes consumes in
          absurd (unknown_is_none ty (raw_of found.0) found.3)
      at_end (Err OutOfMemory) rest consumes unread =
          inr (memory_over old (with_bytes rest between) new k.kept.output
          (fails_for_memory unread.cause (with_bytes rest between) new (unless_refused (TellsPlainError (decoding_code OutOfMemory) (Some (decoding_text OutOfMemory))) unread.cause unread.causes) k.well unread.fails))
      at_end (Err _) rest consumes unread = absurd consumes

      stopped : Stops between new → (Took given messages coming old new × (item_at new.decoder ≡ None)) ⊎ FailsForMemory old new
      stopped stops = at_end stops.next stops.rest stops.consumes stops.stops

  -- one more cut has come
  pub took_cut : (cut : List ℕ) (between new : MachineState) → Took given messages (cut ++ coming) old between → IsFed cut between new
      → (Took given messages coming old new × (item_at new.decoder ≡ None)) ⊎ FailsForMemory old new
  took_cut cut between new k (inr lacks) =
      inr (memory_over old between new k.kept.output (fails_for_memory (Err lacks.refused) between new (lacks.refused, refl) k.well lacks.fails))
  took_cut cut between new k (inl all) = go (took_each (with_input cut between) all.between all.messages (took_bytes given messages cut coming old between k) all.each)
    where
      go : Took given messages coming old all.between ⊎ FailsForMemory old all.between → (Took given messages coming old new × (item_at new.decoder ≡ None)) ⊎ FailsForMemory old new
      go (inl took) = took_whole all.between new took all.rests
      go (inr failed) =
          let same : new ≡ all.between = subst (λ (b : Bool). RestsWhere b all.between new) (ap has_failed failed.phase) all.rests in
          inr (subst (λ (vm : MachineState). FailsForMemory old vm) (sym same) failed)

-- a machine that has failed for want of memory stays so
pub memory_stays : (cut : List ℕ) (old between new : MachineState) → FailsForMemory old between → IsFed cut between new → FailsForMemory old new
memory_stays cut old between new failed fed = go (failed_fed _ cut between new failed.phase fed)
  where
    go : (new ≡ with_input cut between) ⊎ (new ≡ between) → FailsForMemory old new
    go (inl same) = record { phase = ap (λ (vm : MachineState). vm.phase) same ∙ failed.phase; output = ap (λ (vm : MachineState). vm.active.output) same ∙ failed.output }
    go (inr same) = subst (λ (vm : MachineState). FailsForMemory old vm) (sym same) failed

-- all cuts, one after the other
pub took_cuts : MessagesAreKept → (given : Invocation) (messages : List InputMessage) (cuts : List Bytes) (coming : Bytes) (old start new : MachineState)
    → Took given messages (bytes_of cuts ++ coming) old start × (item_at start.decoder ≡ None) → IsFedEach cuts start new → (Took given messages coming old new × (item_at new.decoder ≡ None)) ⊎ FailsForMemory old new
took_cuts keeps given messages [] coming old start new k is = inl (subst (λ (vm : MachineState). Took given messages coming old vm × (item_at vm.decoder ≡ None)) (sym is) k)
took_cuts keeps given messages (cut ∷ before) coming old start new k h =
    go (took_cuts keeps given messages before (cut ++ coming) old start h.0
    (subst (λ (bytes : List ℕ). Took given messages bytes old start × (item_at start.decoder ≡ None)) (append_assoc (bytes_of before) cut coming) k) h.1)
  where
    go : (Took given messages (cut ++ coming) old h.0 × (item_at h.0.decoder ≡ None)) ⊎ FailsForMemory old h.0 → (Took given messages coming old new × (item_at new.decoder ≡ None)) ⊎ FailsForMemory old new
    go (inl earlier) = took_cut keeps given messages coming old cut h.0 new earlier.0 h.2
    go (inr failed) = inr (memory_stays cut old h.0 new failed h.2)

pub first_taken : (given : Invocation) (messages : List InputMessage) (coming : List ℕ) (old new : MachineState) → (Took given messages coming old new × (item_at new.decoder ≡ None)) ⊎ FailsForMemory old new
    → TakesFirstMessages given messages coming old new ⊎ FailsForMemory old new
first_taken given messages coming old new (inl (k, whole)) = inl (record { some = k.some; still = k.still; parts = k.parts; bytes = k.bytes; whole = whole; kept = k.kept })
first_taken given messages coming old new (inr failed) = inr failed

pub inputs_are_kept : MessagesAreKept → InputsAreKept
inputs_are_kept keeps given messages cuts coming old new e well none fit waited known bytes fed =
    first_taken given messages coming old new
    (took_cuts keeps given messages cuts coming old old new (took_none given messages old.decoder (bytes_of cuts ++ coming) old e well fit waited known bytes, none) fed)
