-- What a turn has sent, by the outcome of its call.
use Rattle.std.proofs.Common.{◌≡◌, ◌⊎◌, inl, inr, ◌∙◌, ◌+◌, ◌≤◌, ◌^◌, ℕ, arith, Bool, true, false, List, [], ◌∷◌, ◌++◌, map, Option, Some, None, Ok, refl, sym, ap, subst}
use Rattle.std.proofs.lemmas.List.{append_cancel_left}
use Rattle.std.specs.List.{AllByRecursion, list_all}
use Rattle.std.specs.Str.{is_utf8}
use Rattle.protocol_types.specs.declared.message_type.MessageType.TheVariants as types
use Rattle.journal_model.specs.Await.{cancel_request}
use Rattle.journal_model.specs.AwaitTree.{Pending, is_awake}
use Rattle.journal_model.specs.Future.{tree_of}
use Rattle.journal_model.specs.Spelling.{frame_bytes}
use Rattle.journal_model.specs.PrunedTrees.{only_leaves}
use Rattle.journal_model.specs.declared.value.Value.{Value}
use Rattle.attempt_model.specs.Children.{Child as Tracked, child_value, cancel_requests_for}
use Rattle.attempt_model.specs.Results.{Ready}
use Rattle.vm_request_laws.specs.RequestBounds.{RequestFits}
use Rattle.vm_request_laws.proofs.MadeRequests.{calls_make_fit}
use Rattle.vm_request_laws.specs.Machines.{LeavesMachine}
use Rattle.vm_request_laws.specs.Trees.{IsSpoken, LeavesFit}
use Rattle.vm_request_laws.proofs.Children.{awaited_trees_fit}
use Rattle.vm_request_laws.proofs.Machines.{machines_fit}
use Rattle.vm_awaits.specs.Views.{AsyncResults, slots_of}
use Rattle.vm_outcomes.specs.CallOutcomes.{tells_waiting}
use Rattle.vm_waiting.specs.SuspensionFrames.{is_suspension_too_deep, TellsIf}
use Rattle.vm_waiting.specs.WaitsFor.{awaited_ids, waits_as}
use Rattle.vm_waiting.specs.declared.waits_for.WaitsFor.{WaitsFor}
use Rattle.vm_waiting.specs.declared.waits_for.WaitsFor.TheVariants.{Future, Child}
use Rattle.vm_input_laws.proofs.Messages.{all_in_front}
use Rattle.vm_output_laws.specs.TurnFrames.{leaves_over}
use Rattle.vm_attempt_laws.proofs.InputAndOutput.{turns_send}
use Rattle.vm_attempt_laws.specs.Machine.{MachineState, RequestFits as FitsFrame, Active, Written, with_frame, HasPut, Answers, Waits, Suspends, Ends}
use Rattle.vm_attempt_laws.specs.InputOfAttempt.{Kind, MessageFits}
use Rattle.vm_attempt_laws.specs.OutputOfAttempt.{Sent, Asks, sent_stream, AllFit, is_recorded, frame_meant, IsOfStore, TurnSends}
use Rattle.vm_attempt_laws.specs.AttemptSimulation.{HasNumbers}
use Rattle.vm_attempt_laws.specs.Words.{version_number, Version, IsTypedCall, Answer, Call, AwaitTree, NotificationId, keys_of, completions_of, signals_of, Request, Handler, Invocation, Machine, Reply, Answered, Finished, reply_to, AttemptInRun, VMOptions, SlotsFit, refusal_of, Slots, slot_of, requests_by, SendsReply, AnswersNext, RepliesAsRun, requests_carried, arrivals_carried, are_by_text}
use Rattle.vm_attempt_laws.proofs.Now.{Now, compares, call_of, reply_at}
use Rattle.vm_attempt_laws.proofs.Texts.{reply_text}
use Rattle.vm_attempt_laws.proofs.Ids.{AreText, AreReadyText, AreTaken, messages_text, line_text, ready_text, values_text}
use Rattle.vm_attempt_laws.proofs.Midway.{passed_such}
use Rattle.vm_attempt_laws.proofs.Replies.{Puts, all_put, Grown, Stayed, Grows, reply_grows, IsWait, awaits_of}

-- ---- requests

-- a request that a store records, and that fits where its frame does
abbrev pub MayBeSent : Request → Type 0
MayBeSent request = (FitsFrame request → RequestFits request) × (is_recorded request ≡ true)

both_hold : (requests : List Request) → AllByRecursion (λ request. FitsFrame request → RequestFits request) requests → AllByRecursion (λ request. is_recorded request ≡ true) requests
    → AllByRecursion MayBeSent requests
both_hold [] fit recorded = tt
both_hold (request ∷ requests) fit recorded = ((fit.0, recorded.0), both_hold requests fit.1 recorded.1)

sent_fit : (requests : List Request) → AllByRecursion MayBeSent requests → AllByRecursion FitsFrame requests → AllByRecursion RequestFits requests
sent_fit [] may short = tt
sent_fit (request ∷ requests) may short = (may.0.0 short.0, sent_fit requests may.1 short.1)

sent_recorded : (requests : List Request) → AllByRecursion MayBeSent requests → AllByRecursion (λ request. is_recorded request ≡ true) requests
sent_recorded [] may = tt
sent_recorded (request ∷ requests) may = (may.0.1, sent_recorded requests may.1)

-- one by which a cancellation is passed on: its keys are text as well
abbrev pub MayBePassedOn : Request → Type 0
MayBePassedOn request = MayBeSent request × (list_all is_utf8 (keys_of request) ≡ true)

passed_sent : (requests : List Request) → AllByRecursion MayBePassedOn requests → AllByRecursion MayBeSent requests
passed_sent [] may = tt
passed_sent (request ∷ requests) may = (may.0.0, passed_sent requests may.1)

pub passed_of_store : (requests : List Request) → AllByRecursion MayBePassedOn requests → AllByRecursion IsOfStore (map Asks requests)
passed_of_store [] may = tt
passed_of_store (request ∷ requests) may = ((may.0.0.1, may.0.1), passed_of_store requests may.1)

cancels_may : (children : List Tracked) (ready : Ready) → AllByRecursion (λ request. FitsFrame request → RequestFits request) (cancel_requests_for ready children)
    → AllByRecursion MayBePassedOn (cancel_requests_for ready children)
cancels_may [] ready fit = tt
cancels_may (child ∷ children) ready fit = by_value (child_value ready child) fit (cancels_may children ready)
  where
    by_value : (known : Option Value) → AllByRecursion (λ request. FitsFrame request → RequestFits request) (cancel_request known ++ cancel_requests_for ready children)
        → (AllByRecursion (λ request. FitsFrame request → RequestFits request) (cancel_requests_for ready children) → AllByRecursion MayBePassedOn (cancel_requests_for ready children))
        → AllByRecursion MayBePassedOn (cancel_request known ++ cancel_requests_for ready children)
    by_value (Some (Value.InvocationId id)) fit later = (((fit.0, refl), refl), later fit.1)
    by_value _ fit later = later fit

all_before : (P : Request → Type 0) (xs ys : List Request) → AllByRecursion P (xs ++ ys) → AllByRecursion P xs
all_before P [] ys all = tt
all_before P (x ∷ xs) ys all = (all.0, all_before P xs ys all.1)

all_units : (requests : List Request) → AllByRecursion (λ request. Unit {0}) requests
all_units [] = tt
all_units (request ∷ requests) = (tt, all_units requests)

-- ---- what is waited for

is_wait : (waits : WaitsFor) (after : Machine) → IsWait (waits_as waits after)
is_wait (Future left) after = tt
is_wait (Child child) after = tt

stays_so : (P : Request → Type 0) (call : Call) (m : Machine) (waits : WaitsFor) (after : Machine) → Grows P call m (waits_as waits after) → Stayed m after
stays_so P call m (Future left) after stayed = stayed
stays_so P call m (Child child) after stayed = stayed

-- ---- numbers

left_in_all : (n k : ℕ) → n ≤ 2 ^ 32 → (k ≡ 0) ⊎ (n + k ≤ 2 ^ 32) → n + k ≤ 2 ^ 32
left_in_all n k few (inl none) = omega (arith, few, none)
left_in_all n k few (inr left) = left

tells_results : (told : Bool) (ids : AwaitTree NotificationId) (old new : Active) → TellsIf told ids old (Ok tt) new → new.results ≡ old.results
tells_results true ids old new tells = ap (λ (active : Active). active.results) tells.1.1
tells_results false ids old new same = ap (λ (active : Active). active.results) same

module _ (next : Handler) (version : Version) (options : VMOptions) (is_closed : Bool) (live : AttemptInRun) (vm : MachineState) (n : Now next version options is_closed live vm) where
  abbrev call : Call
  call = call_of next live n.at

  abbrev reply : Reply
  reply = reply_at next live vm n.at

  abbrev given : Invocation
  given = live.start.given

  pub of_output : vm.active.output.version ≡ version
  of_output = n.driven.written ∙ ap (λ (k : Kind). k.version) n.kind

  pub opened : vm.active.output.is_closed ≡ false
  opened = n.driven.sees.opened

  -- frames of the reply are behind what the machine had written
  pub record SendsFor (closed : Bool) (reply : Reply) (new : Written) : Type 0 where
    pub coming : List Sent
    pub fit : AllFit version coming
    pub bytes : new.bytes ≡ vm.active.output.bytes ++ sent_stream version coming
    pub version_is : new.version ≡ version
    pub sends : SendsReply live.start.given.version closed live.machine reply (map (frame_meant version) coming)

  pub sends_for : (closed : Bool) (reply : Reply) (old new : Written) → old.version ≡ version → old.bytes ≡ vm.active.output.bytes → TurnSends closed live.machine reply old new → SendsFor closed reply new
  sends_for closed reply old new of_version same t = record {
    coming = t.coming;
    fit = subst (λ (v : Version). AllFit v t.coming) of_version t.fit;
    bytes = t.written.bytes ∙ ap (λ (bytes : List ℕ). bytes ++ sent_stream old.version t.coming) same ∙ ap (λ (v : Version). vm.active.output.bytes ++ sent_stream v t.coming) of_version;
    version_is = t.written.version ∙ of_version;
    sends =
        subst (λ (v : ℕ). SendsReply v closed live.machine reply (map (frame_meant version) t.coming)) (sym n.of_version)
        (subst (λ (v : Version). SendsReply (version_number v) closed live.machine reply (map (frame_meant v) t.coming)) of_version t.sends);
  }

  -- ---- what is known of what it may write

  come : AreText (arrivals_carried live.read)
  come = messages_text live.read (all_in_front MessageFits live.read live.unread n.fed.fit)

  queue_is : AreText live.machine.queue
  queue_is = line_text next given (requests_carried live.read) (arrivals_carried live.read) live.calls live.machine n.at.stands come

  ready_is : AreReadyText live.machine.ready
  ready_is = ready_text next given (requests_carried live.read) (arrivals_carried live.read) live.calls live.machine n.at.stands come

  cancels : (ready : Ready) → AreReadyText ready → AllByRecursion MayBePassedOn (cancel_requests_for ready live.machine.children)
  cancels ready text = cancels_may live.machine.children ready (calls_make_fit.machines_cancel ready live.machine.children (values_text ready live.machine.children text n.numbers.ids))

  -- those that were put of a call that stops midway
  module _ (far : HasPut given live.machine call vm) where
    puts : Puts MayBePassedOn live.machine.written far.put.written
    puts =
        all_put MayBePassedOn (compares vm call) far.front (record { left = live.machine.left; written = live.machine.written }) far.put
        (all_before MayBePassedOn far.front far.behind (subst (AllByRecursion MayBePassedOn) far.parts (passed_such MayBePassedOn given live.machine queue_is ready_is cancels call))) far.puts

    pub passed_may : AllByRecursion MayBePassedOn far.more
    passed_may = subst (AllByRecursion MayBePassedOn) (append_cancel_left live.machine.written puts.0 far.more (sym puts.1 ∙ far.written)) puts.2

    pub passed_fit : AllByRecursion RequestFits far.more
    passed_fit = sent_fit far.more (passed_sent far.more passed_may) far.fit

    pub passed_recorded : AllByRecursion (λ request. is_recorded request ≡ true) far.more
    passed_recorded = sent_recorded far.more (passed_sent far.more passed_may)

  -- ---- it is answered

  pub record AnswersSo (whole : Machine) (new : MachineState) : Type 0 where
    pub numbers : HasNumbers whole
    pub left : live.machine.left ≡ [] → whole.left ≡ []
    pub sends : SendsFor is_closed (reply_at next live vm n.at) new.active.output

  module _ (answer : Answer) (new : MachineState) (a : Answers given live.machine (call_of next live n.at) vm answer new) where
    completions_left : live.machine.completions + completions_of call ≤ 2 ^ 32
    completions_left = left_in_all live.machine.completions (completions_of call) n.numbers.completions a.numbers.completions

    signals_left : live.machine.signals + signals_of call ≤ 2 ^ 32
    signals_left = left_in_all live.machine.signals (signals_of call) n.numbers.signals a.numbers.signals

    may_be_sent : refusal_of given.version call ≡ None → AllByRecursion MayBeSent (requests_by live.machine.start live.machine.done live.machine.left live.machine.completions call)
    may_be_sent unrefused =
        both_hold (requests_by live.machine.start live.machine.done live.machine.left live.machine.completions call)
        (calls_make_fit.machines given.version live.machine.start live.machine.done live.machine.left live.machine.completions call (record { typed = n.typed; allowed = unrefused; ids = completions_left }))
        (n.recorded live.machine.start live.machine.done live.machine.left live.machine.completions)

    grown : Grown MayBeSent call live.machine a.machine
    grown =
        subst (Grows MayBeSent call live.machine) a.replies (reply_grows MayBeSent (compares vm) given live.machine call (record {
          queue = queue_is;
          ready = ready_is;
          ids = n.numbers.ids;
          makes = may_be_sent;
          cancels = λ ready text. passed_sent (cancel_requests_for ready live.machine.children) (cancels ready text);
        }))

    may : AllByRecursion MayBeSent a.more
    may = subst (AllByRecursion MayBeSent) (append_cancel_left live.machine.written grown.more a.more (sym grown.written ∙ a.written)) grown.all

    next_one : AnswersNext next given (requests_carried live.read) (arrivals_carried live.read) live.calls answer a.machine
    next_one = subst (RepliesAsRun next given (requests_carried live.read) (arrivals_carried live.read) live.calls) a.replies n.as_run

    pub answers_so : AnswersSo a.machine new
    answers_so = record {
      numbers = record {
        completions = subst (λ (n : ℕ). n ≤ 2 ^ 32) (sym grown.completions) completions_left;
        signals = subst (λ (n : ℕ). n ≤ 2 ^ 32) (sym grown.signals) signals_left;
        slots = subst (LeavesMachine (λ after. SlotsFit after.slots)) a.replies
            (machines_fit.calls (compares vm) given live.machine call (record { typed = n.typed; completions = completions_left; signals = signals_left }) n.numbers.slots);
        texts = reply_text next given (requests_carried live.read) (arrivals_carried live.read) live.calls n.by_text (Answered answer a.machine) next_one;
        ids = grown.ids;
      };
      left = grown.left;
      sends = subst (λ (some : Reply). SendsFor is_closed some new.active.output) (sym a.replies)
          (sends_for is_closed (Answered answer a.machine) vm.active.output new.active.output of_output refl
          (turns_send.answers is_closed live.machine a.machine answer a.more vm.active.output new.active.output a.written a.frames (sent_fit a.more may a.fit) (sent_recorded a.more may)));
    }

  -- ---- it waits

  -- the ids of what is waited for can be told, it asks for no number in a version in which none does, it is not awake by itself, and stands
  -- for what it stood for
  pub record IsTold (waits : WaitsFor) (after : Machine) : Type 0 where
    pub fits : (active : Active) → slots_of active.results ≡ after.slots → LeavesFit (awaited_ids active waits)
    pub spoken : (active : Active) → slots_of active.results ≡ after.slots → IsSpoken given.version (awaited_ids active waits)
    pub asleep : is_awake (leaves_over after.slots waits) (λ leaf. Pending) ≡ false
    pub numbers : HasNumbers after
    pub left : after.left ≡ []

  module _ (waits : WaitsFor) (after : Machine) (e : reply_at next live vm n.at ≡ waits_as waits after) where
    asked : (awaited : AwaitTree ℕ) × (call_of next live n.at ≡ Call.Await awaited)
    asked = awaits_of (compares vm) given live.machine call (subst IsWait (sym e) (is_wait waits after))

    replies : reply_to (compares vm) given live.machine (Call.Await asked.0) ≡ waits_as waits after
    replies = sym (ap (λ (c : Call). reply_to (compares vm) given live.machine c) asked.1) ∙ e

    stayed : Stayed live.machine after
    stayed =
        stays_so (λ request. Unit {0}) call live.machine waits after
        (subst (Grows (λ request. Unit {0}) call live.machine) e
        (reply_grows (λ request. Unit {0}) (compares vm) given live.machine call (record {
          queue = queue_is;
          ready = ready_is;
          ids = n.numbers.ids;
          makes = λ unrefused. all_units (requests_by live.machine.start live.machine.done live.machine.left live.machine.completions call);
          cancels = λ ready text. all_units (cancel_requests_for ready live.machine.children);
        })))

    numbers : after.slots ≡ live.machine.slots → HasNumbers after
    numbers slots = record {
      completions = subst (λ (n : ℕ). n ≤ 2 ^ 32) (sym stayed.completions) n.numbers.completions;
      signals = subst (λ (n : ℕ). n ≤ 2 ^ 32) (sym stayed.signals) n.numbers.signals;
      slots = subst SlotsFit (sym slots) n.numbers.slots;
      texts = ap are_by_text stayed.written ∙ n.numbers.texts;
      ids = subst AreTaken (sym stayed.children) n.numbers.ids;
    }

  pub is_told : (waits : WaitsFor) (after : Machine) → reply_at next live vm n.at ≡ waits_as waits after → IsTold waits after
  is_told (Future left) after e =
      let is_left = awaited_trees_fit.awaits (compares vm) given live.machine after (asked (Future left) after e).0 (tree_of left) (replies (Future left) after e) in
      let typed = subst IsTypedCall (asked (Future left) after e).1 n.typed in
      let fit = awaited_trees_fit.handles live.machine.slots (tree_of left) n.numbers.slots (is_left.numbers typed) in
      record {
        spoken = λ active same. subst (λ (slots : Slots). IsSpoken given.version (only_leaves (slot_of slots) (tree_of left))) (sym same) is_left.spoken;
        fits = λ active same. subst (λ (slots : Slots). LeavesFit (only_leaves (slot_of slots) (tree_of left))) (sym (same ∙ is_left.slots)) fit;
        asleep = is_left.asleep;
        numbers = numbers (Future left) after e is_left.slots;
        left = (stayed (Future left) after e).left;
      }
  is_told (Child child) after e =
      let is_left = awaited_trees_fit.children (compares vm) given live.machine after (asked (Child child) after e).0 child n.driven.sees.made (replies (Child child) after e) in
      record { fits = λ active same. is_left.fits n.numbers.completions; spoken = λ active same. refl; asleep = refl; numbers = numbers (Child child) after e is_left.slots; left = (stayed (Child child) after e).left }

  spoken_as : (ids : AwaitTree NotificationId) (v : Version) → v ≡ version → IsSpoken given.version ids → IsSpoken (version_number v) ids
  spoken_as ids v same spoken = subst (λ (number : ℕ). IsSpoken number ids) (n.of_version ∙ ap version_number (sym same)) spoken

  pub waits_send : (new : MachineState) → (w : Waits given live.machine (call_of next live n.at) vm new) → vm.is_input_closed ≡ false → SendsFor is_closed (reply_at next live vm n.at) new.active.output
  waits_send new w is_open =
      let told = tells_waiting vm w.waits in
      let slots : slots_of w.resolved.results ≡ w.machine.slots =
      sym (ap slots_of (tells_results told (awaited_ids w.resolved w.waits) w.resolved new.active w.tells)) ∙ ap (λ (r : AsyncResults). r.slots) w.driven.sees.results in
      let still_open : is_closed ≡ false = sym (ap (λ (k : Kind). k.is_input_closed) n.kind) ∙ is_open in
      subst (λ (b : Bool). SendsFor b (reply_at next live vm n.at) new.active.output) (sym still_open)
      (subst (λ (some : Reply). SendsFor false some new.active.output) (sym w.replies)
      (sends_for false (waits_as w.waits w.machine) w.resolved.output new.active.output (ap (λ (o : Written). o.version) w.unwritten ∙ of_output) (ap (λ (o : Written). o.bytes) w.unwritten)
      (turns_send.stays told tt live.machine w.machine w.waits w.resolved new.active (ap (λ (o : Written). o.is_closed) w.unwritten ∙ opened) slots
      ((is_told w.waits w.machine w.replies).fits w.resolved slots)
      (spoken_as (awaited_ids w.resolved w.waits) w.resolved.output.version (ap (λ (o : Written). o.version) w.unwritten ∙ of_output) ((is_told w.waits w.machine w.replies).spoken w.resolved slots)) w.tells)))

  -- ---- it is suspended

  pub suspends_send : (new : MachineState) → (p : Suspends given live.machine (call_of next live n.at) vm new) → SendsFor is_closed (reply_at next live vm n.at) new.active.output
  suspends_send new p =
      let is = is_told p.waits p.machine p.replies in
      let slots : slots_of p.resolved.results ≡ p.machine.slots = ap (λ (r : AsyncResults). r.slots) p.sees.results in
      let closed : is_closed ≡ true = sym (ap (λ (k : Kind). k.is_input_closed) n.kind) ∙ p.is_closed in
      subst (λ (b : Bool). SendsFor b (reply_at next live vm n.at) new.active.output) (sym closed)
      (subst (λ (some : Reply). SendsFor true some new.active.output) (sym p.replies)
      (sends_for true (waits_as p.waits p.machine) p.resolved.output new.active.output (ap (λ (o : Written). o.version) p.unwritten ∙ of_output) (ap (λ (o : Written). o.bytes) p.unwritten)
      (turns_send.suspensions live.machine p.machine p.waits p.resolved new.active (ap (λ (o : Written). o.is_closed) p.unwritten ∙ opened) slots (is.fits p.resolved slots)
      (spoken_as (awaited_ids p.resolved p.waits) p.resolved.output.version (ap (λ (o : Written). o.version) p.unwritten ∙ of_output) (is.spoken p.resolved slots)) is.asleep
      (subst (λ (v : Version). is_suspension_too_deep v (awaited_ids p.resolved p.waits) ≡ false) (sym (ap (λ (o : Written). o.version) p.unwritten ∙ n.driven.written)) p.shallow) p.suspended)))

  -- ---- it ends

  pub ends_send : (new : MachineState) → (e : Ends given live.machine (call_of next live n.at) vm new) → SendsFor is_closed (reply_at next live vm n.at) new.active.output
  ends_send new e =
      let frame = with_frame (frame_bytes types.End []) vm.active.output in
      let sends =
      sends_for is_closed (Finished live.machine) vm.active.output frame of_output refl
      (turns_send.ends is_closed tt live.machine live.machine vm.active.output frame opened (λ o. omega arith, refl)) in
      subst (λ (some : Reply). SendsFor is_closed some new.active.output) (sym e.replies) (record {
        coming = sends.coming;
        fit = sends.fit;
        bytes = ap (λ (o : Written). o.bytes) e.output ∙ sends.bytes;
        version_is = ap (λ (o : Written). o.version) e.output ∙ sends.version_is;
        sends = sends.sends;
      })
