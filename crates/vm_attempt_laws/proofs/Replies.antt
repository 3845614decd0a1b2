-- What a reply makes of a machine: which requests it writes, which numbers it takes, and what is known of its children.
use Rattle.std.proofs.Common.{◌≡◌, ◌∙◌, ◌+◌, ℕ, arith, Bool, true, false, List, [], ◌∷◌, ◌++◌, append-nil, append_assoc, map, if◌then◌else◌, option_and_then, Option, Some, None, refl, sym, ap}
use Rattle.std.specs.List.{AllByRecursion, list_all}
use Rattle.vm_attempt_laws.specs.Words.{Call, awaited_tree, AwaitTree, completions_of, signals_of, child_of, Arrival, Request, Invocation, Refusal, refusal_of, Commands, PutState, put_one, put_all, requests_by, IsTextId}
use Rattle.journal_model.specs.declared.notification.NotificationResult.{NotificationResult}
use Rattle.journal_model.specs.Value.{as_taken}
use Rattle.attempt_model.specs.Children.{Child, new_child, ChildrenOutcome, AllKnown, FirstUnknown, OneIsNoId, children_outcome, cancel_requests_for, may_take}
use Rattle.attempt_model.specs.Results.{Ready, slot_of, waiting_for, Resolution, Awake, Asleep, resolution_of, are_keys_text}
use Rattle.attempt_model.specs.Machine.{Machine, Reply, Answered, AwaitsTree, AwaitsChild, Work, ToAwait, ToEnd, ToTake, ToLook, ToMake, work_of, is_cancelled, reply_to_take, reply_where_taken, reply_where_unknown, reply_where_asleep, reply_to_end, reply_to_make, reply_where_cancelled, reply_to_children, reply_where_awake, reply_to_await, reply_to_work, reply_unless_refused, reply_to}
use Rattle.attempt_laws.proofs.CallKinds.{inv-await}
use Rattle.vm_request_laws.proofs.RequestBounds.{all_append}
use Rattle.vm_attempt_laws.proofs.Ids.{IsTextResult, AreText, AreReadyText, AreTaken, ResolvesText, resolved_text, FindsText, found_text, WaitsText, waiting_text, taken_text}

-- ---- requests

abbrev pub Puts : (P : Request → Type 0) → List Request → List Request → Type 0
Puts P old new = (more : List Request) × (new ≡ old ++ more) × AllByRecursion P more

pub the_put : (p q : PutState) → ◌≡◌ {A = Option PutState} (Some p) (Some q) → p ≡ q
the_put p q e = cc

module _ (P : Request → Type 0) (same : Request → Request → Bool) where
  nothing_put : (written : List Request) (p : PutState) → p.written ≡ written → Puts P written p.written
  nothing_put written p e = ([], e ∙ sym (append-nil written), tt)

  one_put : (request : Request) (left : Commands) (written : List Request) (p : PutState) → P request → put_one same request left written ≡ Some p → Puts P written p.written
  one_put request [] written p h e = (request ∷ [], ap (λ (q : PutState). q.written) (sym (the_put (record { left = []; written = written ++ request ∷ [] }) p e)), (h, tt))
  one_put request (None ∷ left) written p h e = cc
  one_put request (Some recorded ∷ left) written p h e = by_test (same recorded request) e
    where
      by_test : (b : Bool) → (if b then Some (record { left = left; written = written }) else None) ≡ Some p → Puts P written p.written
      by_test true e = nothing_put written p (ap (λ (q : PutState). q.written) (sym (the_put (record { left = left; written = written }) p e)))
      by_test false e = cc

  pub all_put : (requests : List Request) (old new : PutState) → AllByRecursion P requests → put_all same requests old ≡ Some new → Puts P old.written new.written
  all_put [] old new all e = nothing_put old.written new (ap (λ (q : PutState). q.written) (sym (the_put old new e)))
  all_put (request ∷ requests) old new all e = by_one (put_one same request old.left old.written) refl e (λ between. all_put requests between new all.1)
    where
      by_one : (o : Option PutState) → put_one same request old.left old.written ≡ o → option_and_then (put_all same requests) o ≡ Some new
          → ((between : PutState) → put_all same requests between ≡ Some new → Puts P between.written new.written) → Puts P old.written new.written
      by_one None is e others = cc
      by_one (Some between) is e later =
          let first = one_put request old.left old.written between all.0 is in
          let others = later between e in (
            first.0 ++ others.0,
            others.1 ∙ ap (λ (written : List Request). written ++ others.0) first.1 ∙ append_assoc old.written first.0 others.0,
            all_append P first.0 others.0 first.2 others.2,
          )

  -- behind the journal nothing is left to match
  one_put_left : (request : Request) (left : Commands) (written : List Request) (p : PutState) → put_one same request left written ≡ Some p → left ≡ [] → p.left ≡ []
  one_put_left request [] written p e none = ap (λ (q : PutState). q.left) (sym (the_put (record { left = []; written = written ++ request ∷ [] }) p e))
  one_put_left request (command ∷ left) written p e none = cc

  all_put_left : (requests : List Request) (old new : PutState) → put_all same requests old ≡ Some new → old.left ≡ [] → new.left ≡ []
  all_put_left [] old new e none = ap (λ (q : PutState). q.left) (sym (the_put old new e)) ∙ none
  all_put_left (request ∷ requests) old new e none = by_one (put_one same request old.left old.written) refl e (λ between. all_put_left requests between new)
    where
      by_one : (o : Option PutState) → put_one same request old.left old.written ≡ o → option_and_then (put_all same requests) o ≡ Some new
          → ((between : PutState) → put_all same requests between ≡ Some new → between.left ≡ [] → new.left ≡ []) → new.left ≡ []
      by_one None is e others = cc
      by_one (Some between) is e later = later between e (one_put_left request old.left old.written between is none)

-- ---- a call

-- what is behind it: such requests were written, the numbers of the call were taken, and ids of children are text; it replays no more where it
-- did not before
pub record Grown (P : Request → Type 0) (call : Call) (m after : Machine) : Type 0 where
  pub more : List Request
  pub written : after.written ≡ m.written ++ more
  pub all : AllByRecursion P more
  pub left : m.left ≡ [] → after.left ≡ []
  pub completions : after.completions ≡ m.completions + completions_of call
  pub signals : after.signals ≡ m.signals + signals_of call
  pub ids : AreTaken after.children

-- where it waits, nothing was, behind the journal
pub record Stayed (m after : Machine) : Type 0 where
  pub left : after.left ≡ []
  pub written : after.written ≡ m.written
  pub completions : after.completions ≡ m.completions
  pub signals : after.signals ≡ m.signals
  pub children : after.children ≡ m.children

abbrev pub Grows : (P : Request → Type 0) → Call → Machine → Reply → Type 0
Grows P call m (Answered answer after) = Grown P call m after
Grows P call m (AwaitsTree tree after) = Stayed m after
Grows P call m (AwaitsChild child after) = Stayed m after
Grows P call m _ = Unit {0}

-- a call that makes nothing takes no numbers
none_taken : (call : Call) → (work_of call ≡ ToMake → ⊥) → (completions_of call ≡ 0) × (signals_of call ≡ 0)
none_taken (Call.Await tree) h = (refl, refl)
none_taken Call.End h = (refl, refl)
none_taken (Call.Take handle) h = (refl, refl)
none_taken (Call.IsCompleted handle) h = (refl, refl)
none_taken _ h = absurd (h refl)

and_none : (n k : ℕ) → k ≡ 0 → n ≡ n + k
and_none n k e = omega (arith, e)

module _ (P : Request → Type 0) (same : Request → Request → Bool) (given : Invocation) (m : Machine) (call : Call) where
  abbrev After : Reply → Type 0
  After reply = Grows P call m reply

  quiet : (after : Machine) → (completions_of call ≡ 0) × (signals_of call ≡ 0) → after.written ≡ m.written → after.left ≡ m.left → after.completions ≡ m.completions → after.signals ≡ m.signals
      → AreTaken after.children → Grown P call m after
  quiet after none written left completions signals ids = record {
    more = [];
    written = written ∙ sym (append-nil m.written);
    all = tt;
    left = λ behind. left ∙ behind;
    completions = completions ∙ and_none m.completions (completions_of call) none.0;
    signals = signals ∙ and_none m.signals (signals_of call) none.1;
    ids = ids;
  }

  made_ids : (ns : List ℕ) → AreTaken m.children → AreTaken (m.children ++ map new_child ns)
  made_ids ns ids = all_append (λ (child : Child). IsTextId child.taken) m.children (map new_child ns) ids (all_new ns)
    where
      all_new : (ns : List ℕ) → AreTaken (map new_child ns)
      all_new [] = tt
      all_new (n ∷ ns) = (tt, all_new ns)

  made : (requests : List Request) (put : Option PutState) → put_all same requests (record { left = m.left; written = m.written }) ≡ put → AllByRecursion P requests
      → AreTaken m.children → After (reply_to_make same given m call requests put)
  made requests None e all ids = tt
  made requests (Some p) e all ids =
      let puts = all_put P same requests (record { left = m.left; written = m.written }) p all e in
      record {
        more = puts.0;
        written = puts.1;
        all = puts.2;
        left = all_put_left P same requests (record { left = m.left; written = m.written }) p e;
        completions = refl;
        signals = refl;
        ids = made_ids (child_of given.options.implicit_cancellation m.completions call) ids;
      }

  module _ (none : (completions_of call ≡ 0) × (signals_of call ≡ 0)) (ids : AreTaken m.children) where
    cancelled : (queue : List Arrival) (ready : Ready) (requests : List Request) (put : Option PutState) → put_all same requests (record { left = m.left; written = m.written }) ≡ put → AllByRecursion P requests
        → After (reply_where_cancelled same given (record m { queue = queue; ready = ready }) requests put)
    cancelled queue ready requests None e all = tt
    cancelled queue ready requests (Some p) e all =
        let puts = all_put P same requests (record { left = m.left; written = m.written }) p all e in
        record {
          more = puts.0;
          written = puts.1;
          all = puts.2;
          left = all_put_left P same requests (record { left = m.left; written = m.written }) p e;
          completions = and_none m.completions (completions_of call) none.0;
          signals = and_none m.signals (signals_of call) none.1;
          ids = tt;
        }

    unknown : (child : ℕ) (queue : List Arrival) (ready : Ready) (commands : Commands) → m.left ≡ commands → After (reply_where_unknown child (record m { queue = queue; ready = ready }) commands)
    unknown child queue ready [] is = record { left = is; written = refl; completions = refl; signals = refl; children = refl }
    unknown child queue ready (command ∷ commands) is = tt

    asleep : (tree : AwaitTree ℕ) (ready : Ready) (commands : Commands) → m.left ≡ commands → After (reply_where_asleep tree (record m { queue = []; ready = ready }) commands)
    asleep tree ready [] is = record { left = is; written = refl; completions = refl; signals = refl; children = refl }
    asleep tree ready (command ∷ commands) is = tt

    -- the requests of a cancellation are such, where what is known of the children is text
    module _ (cancels : (ready : Ready) → AreReadyText ready → AllByRecursion P (cancel_requests_for ready m.children)) where
      children : (queue : List Arrival) (ready : Ready) (outcome : ChildrenOutcome) → FindsText outcome → After (reply_to_children same given (record m { queue = queue; ready = ready }) outcome)
      children queue ready (AllKnown line waiting) text =
          cancelled line waiting (cancel_requests_for waiting m.children) (put_all same (cancel_requests_for waiting m.children) (record { left = m.left; written = m.written })) refl
          (cancels waiting text)
      children queue ready (FirstUnknown child waiting) text = unknown child [] waiting m.left refl
      children queue ready OneIsNoId text = tt

      awake : (queue : List Arrival) (ready : Ready) (ends : Bool) → ResolvesText (Awake queue ready) → After (reply_where_awake same given (record m { queue = queue; ready = ready }) ends)
      awake queue ready false text = quiet (record m { queue = queue; ready = ready }) none refl refl refl refl ids
      awake queue ready true text =
          children queue ready (children_outcome given.options.signal_delivery m.children queue ready) (found_text given.options.signal_delivery m.children queue ready text.0 text.1)

      awaited : (resolution : Resolution) → ResolvesText resolution → After (reply_to_await same given m resolution)
      awaited (Awake queue ready) text = awake queue ready (is_cancelled given (record m { queue = queue; ready = ready })) text
      awaited (Asleep tree ready) text = asleep tree ready m.left refl

    taken : (handle : ℕ) (result : NotificationResult) (are_text may : Bool) → IsTextResult result → After (reply_where_taken m handle result are_text may)
    taken handle result false may text = tt
    taken handle result true false text = tt
    taken handle result true true text = record {
      more = [];
      written = sym (append-nil m.written);
      all = tt;
      left = λ behind. behind;
      completions = and_none m.completions (completions_of call) none.0;
      signals = and_none m.signals (signals_of call) none.1;
      ids = taken_text (slot_of m.slots handle) (as_taken result) m.children text ids;
    }

    asked : (handle : ℕ) (waits : Option NotificationResult) → WaitsText waits → After (reply_to_take m handle waits)
    asked handle None text = quiet m none refl refl refl refl ids
    asked handle (Some result) text = taken handle result (are_keys_text result) (list_all (may_take (slot_of m.slots handle) (as_taken result)) m.children) text

    ended : (commands : Commands) → After (reply_to_end m commands)
    ended [] = tt
    ended (command ∷ commands) = tt

  -- what has come is text, and so is what was taken of the children; requests of the call and of a cancellation are such
  pub record Allows : Type 0 where
    pub queue : AreText m.queue
    pub ready : AreReadyText m.ready
    pub ids : AreTaken m.children
    pub makes : refusal_of given.version call ≡ None → AllByRecursion P (requests_by m.start m.done m.left m.completions call)
    pub cancels : (ready : Ready) → AreReadyText ready → AllByRecursion P (cancel_requests_for ready m.children)

  module _ (a : Allows) where
    by_work : (work : Work) → work_of call ≡ work → refusal_of given.version call ≡ None → After (reply_to_work same given m call work)
    by_work (ToAwait tree) is unrefused =
        awaited (none_taken call (λ e. let wrong : ToAwait tree ≡ ToMake = sym is ∙ e in cc)) a.ids a.cancels
        (resolution_of given.options.signal_delivery m.slots (awaited_tree given.options.implicit_cancellation tree) m.queue m.ready)
        (resolved_text given.options.signal_delivery m.slots (awaited_tree given.options.implicit_cancellation tree) m.queue m.ready a.queue a.ready)
    by_work ToEnd is unrefused = ended (none_taken call (λ e. let wrong : ToEnd ≡ ToMake = sym is ∙ e in cc)) a.ids m.left
    by_work (ToTake handle) is unrefused =
        asked (none_taken call (λ e. let wrong : ToTake handle ≡ ToMake = sym is ∙ e in cc)) a.ids handle (waiting_for m.slots m.ready handle) (waiting_text m.slots m.ready handle a.ready)
    by_work (ToLook handle) is unrefused = quiet m (none_taken call (λ e. let wrong : ToLook handle ≡ ToMake = sym is ∙ e in cc)) refl refl refl refl a.ids
    by_work ToMake is unrefused =
        made (requests_by m.start m.done m.left m.completions call)
        (put_all same (requests_by m.start m.done m.left m.completions call) (record { left = m.left; written = m.written })) refl (a.makes unrefused) a.ids

    unless_refused : (refusal : Option Refusal) → refusal_of given.version call ≡ refusal → After (reply_unless_refused same given m call refusal)
    unless_refused (Some refusal) is = tt
    unless_refused None is = by_work (work_of call) refl is

-- where its requests are such, so are those that it writes
pub reply_grows : (P : Request → Type 0) (same_header : Call → Request → Request → Bool) (given : Invocation) (m : Machine) (call : Call) → Allows P (same_header call) given m call
    → Grows P call m (reply_to same_header given m call)
reply_grows P same_header given m call a = unless_refused P (same_header call) given m call a (refusal_of given.version call) refl

-- ---- which call waits

abbrev pub IsWait : Reply → Type 0
IsWait (AwaitsTree tree after) = Unit {0}
IsWait (AwaitsChild child after) = Unit {0}
IsWait _ = ⊥

module _ (same : Request → Request → Bool) (given : Invocation) (m : Machine) (call : Call) where
  made_no_wait : (requests : List Request) (put : Option PutState) → IsWait (reply_to_make same given m call requests put) → ⊥
  made_no_wait requests None waits = waits
  made_no_wait requests (Some p) waits = waits

  ended_no_wait : (commands : Commands) → IsWait (reply_to_end m commands) → ⊥
  ended_no_wait [] waits = waits
  ended_no_wait (command ∷ commands) waits = waits

  taken_no_wait : (handle : ℕ) (result : NotificationResult) (are_text may : Bool) → IsWait (reply_where_taken m handle result are_text may) → ⊥
  taken_no_wait handle result false may waits = waits
  taken_no_wait handle result true false waits = waits
  taken_no_wait handle result true true waits = waits

  asked_no_wait : (handle : ℕ) (waiting : Option NotificationResult) → IsWait (reply_to_take m handle waiting) → ⊥
  asked_no_wait handle None waits = waits
  asked_no_wait handle (Some result) waits = taken_no_wait handle result (are_keys_text result) (list_all (may_take (slot_of m.slots handle) (as_taken result)) m.children) waits

  wait_of_work : (work : Work) → work_of call ≡ work → IsWait (reply_to_work same given m call work) → (tree : AwaitTree ℕ) × (call ≡ Call.Await tree)
  wait_of_work (ToAwait tree) is waits = (tree, inv-await call tree is)
  wait_of_work ToEnd is waits = absurd (ended_no_wait m.left waits)
  wait_of_work (ToTake handle) is waits = absurd (asked_no_wait handle (waiting_for m.slots m.ready handle) waits)
  wait_of_work (ToLook handle) is waits = absurd waits
  wait_of_work ToMake is waits =
      absurd (made_no_wait (requests_by m.start m.done m.left m.completions call)
      (put_all same (requests_by m.start m.done m.left m.completions call) (record { left = m.left; written = m.written })) waits)

  wait_unless_refused : (refusal : Option Refusal) → IsWait (reply_unless_refused same given m call refusal) → (tree : AwaitTree ℕ) × (call ≡ Call.Await tree)
  wait_unless_refused (Some refusal) waits = absurd waits
  wait_unless_refused None waits = wait_of_work (work_of call) refl waits

-- one that does is an await
pub awaits_of : (same_header : Call → Request → Request → Bool) (given : Invocation) (m : Machine) (call : Call) → IsWait (reply_to same_header given m call) → (tree : AwaitTree ℕ) × (call ≡ Call.Await tree)
awaits_of same_header given m call waits = wait_unless_refused (same_header call) given m call (refusal_of given.version call) waits
