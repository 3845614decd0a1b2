-- A call that looks, takes, ends, or makes handles or requests is answered as the run answers it.
use Rattle.std.proofs.Common.{map, ◌≡◌, refl, sym, ap, ap₂, ◌∙◌, subst, ℕ, suc, ◌+◌, ◌≤◌, ◌==◌, arith, Bool, false, List, [], ◌∷◌, ◌++◌, append-nil, length, Option, Some, None, is_some, option_map, option_and_then, ◌⊎◌, inl, inr, true}
use Rattle.std.specs.List.{list_any, list_all}
use Rattle.journal_model.specs.declared.notification.NotificationId.{NotificationId}
use Rattle.journal_model.specs.declared.notification.NotificationId.TheVariants.{CompletionId}
use Rattle.journal_model.specs.declared.notification.NotificationResult.{NotificationResult}
use Rattle.journal_model.specs.Notification.{Arrival}
use Rattle.journal_model.specs.AwaitTree.{AwaitTree}
use Rattle.journal_model.specs.declared.call.Call.{Call}
use Rattle.journal_model.specs.declared.call.Answer.{Answer}
use Rattle.journal_model.specs.Value.{as_taken}
use Rattle.journal_model.specs.Request.{Request}
use Rattle.journal_model.specs.declared.options.ImplicitCancellationOption.{ImplicitCancellationOption}
use Rattle.journal_model.specs.Refusal.{refusal_of}
use Rattle.journal_model.specs.History.{Step, answers_of, requests_of, place_of, next_completion, next_signal, stands_for, takes_handle, ids_of, completions_of, signals_of}
use Rattle.journal_model.specs.Delivery.{results_for, known_results, known_result, front}
use Rattle.journal_model.specs.Await.{tracked_children, child_of, children_after}
use Rattle.journal_model.specs.Run.{Handler, Invocation, Progress, Ending, GoesOn, Ended, front_of_handle, answer_to, requests_to, answered_step, after_call, run, run_requests, is_going}
use Rattle.journal_model.proofs.Continuing.{run-next, after_call-answers, after_call-ends}
use Rattle.attempt_model.specs.Children.{Child, new_child, child_with_value, may_take}
use Rattle.attempt_model.specs.Machine.{Machine, Reply, Answered, ToTake, ToLook, ToMake, work_of, next_slot, reply_to_make, reply_where_taken, reply_to_take, reply_to_end}
use Rattle.attempt_model.specs.Requests.{answer_by, Commands, requests_by, PutState, put_all}
use Rattle.attempt_model.specs.Results.{Ready, Slots, ready_after, first_waiting_result, slot_of, waiting_for, ready_without_first, slots_without, ready_after_all, are_keys_text}
use Rattle.attempt_model.specs.Simulation.{TablesStand, RequestsStand, Reached, here, ahead, cancelling, IsShown, children_of, is_id_if_known, Stands, AreOfKind, Fits, next_call, AnswersNext, RepliesAsRun, IsReflexive}
use Rattle.attempt_model.proofs.Requests.{Agrees, Puts, put, agree, none_left}
use Rattle.attempt_laws.proofs.Children.{children-made, children-taken}
use Rattle.attempt_laws.proofs.Making.{Creates, makes, knows}
use Rattle.attempt_laws.proofs.Tables.{front-untaken, in_front}
use Rattle.attempt_laws.proofs.Taking.{known-id, takes_first}
use Rattle.attempt_laws.proofs.CallKinds.{make-kind, make-answer, make-takes, make-keeps, no_child}
use Rattle.attempt_laws.proofs.Ids.{is_in, takes-ids, taken-ids, new-ids}
use Rattle.attempt_laws.proofs.Reading.{requests-same, known-one}

module _ (same_header : Request → Request → Bool) (reflexive : IsReflexive same_header) (handler : Handler) (given : Invocation) (journal : List Request) (arrivals : List Arrival)
    (fits : Fits handler given journal arrivals) (calls : ℕ) (kinds : AreOfKind handler given arrivals calls) (m : Machine) (now : Stands handler given journal arrivals calls m) (call : Call) (is : next_call handler given now.steps ≡ call) where
  abbrev Replies : Reply → Type 0
  Replies reply = RepliesAsRun handler given journal arrivals calls reply

  abbrev steps : List Step
  steps = now.steps

  pub after : run handler given arrivals (suc calls) ≡ after_call given steps arrivals call
  after = run-next handler given arrivals calls steps now.going ∙ ap (after_call given steps arrivals) is

  pub same_steps : (run handler given arrivals calls).steps ≡ steps
  same_steps = ap (λ (p : Progress). p.steps) now.going

  -- only an await was asked before
  is_here : (work_of call ≡ ToMake) ⊎ ((h : ℕ) × ((work_of call ≡ ToTake h) ⊎ (work_of call ≡ ToLook h))) → now.place ≡ place_of steps
  is_here work = by_reached now.reached
    where
      by_work : (tree : AwaitTree ℕ) → call ≡ Call.Await tree → (work_of call ≡ ToMake) ⊎ ((h : ℕ) × ((work_of call ≡ ToTake h) ⊎ (work_of call ≡ ToLook h))) → now.place ≡ place_of steps
      by_work tree e (inl w) = let wrong : work_of (Call.Await tree) ≡ ToMake = ap work_of (sym e) ∙ w in cc
      by_work tree e (inr (h, inl w)) = let wrong : work_of (Call.Await tree) ≡ ToTake h = ap work_of (sym e) ∙ w in cc
      by_work tree e (inr (h, inr w)) = let wrong : work_of (Call.Await tree) ≡ ToLook h = ap work_of (sym e) ∙ w in cc

      by_reached : Reached handler given arrivals steps now.place → now.place ≡ place_of steps
      by_reached (here e) = e
      by_reached (ahead tree e above before) = by_work tree (sym is ∙ e) work
      by_reached (cancelling tree e wakes above under awake before cancelled unknown) = by_work tree (sym is ∙ e) work

  abbrev cancellation : ImplicitCancellationOption
  cancellation = given.options.implicit_cancellation

  -- one step on
  pub stepped : (step : Step) → run handler given arrivals (suc calls) ≡ record { steps = step ∷ steps; ending = GoesOn } → (new : Machine)
      → TablesStand given.options (step ∷ steps) arrivals step.place new.queue new.ready new.slots
      → new.completions ≡ next_completion (step ∷ steps) → new.signals ≡ next_signal (step ∷ steps) → RequestsStand journal (step ∷ steps) new.left new.written
      → IsShown given.start journal new.start → new.done ≡ requests_of (step ∷ steps) → new.children ≡ children_of cancellation (step ∷ steps) → list_all (λ child. is_id_if_known child.taken) new.children ≡ true
      → AnswersNext handler given journal arrivals calls step.answer new
  stepped step goes new tables' completions' signals' requests' shows' done' children' ids' = record {
    stands = record {
      steps = step ∷ steps;
      place = step.place;
      going = goes;
      tables = tables';
      completions = completions';
      signals = signals';
      requests = requests';
      start = shows';
      done = done';
      children = children';
      ids = ids';
      reached = here refl;
    };
    answers = ap (λ (p : Progress). answers_of p.steps) goes ∙ ap (λ (some : List Step). answers_of some ++ step.answer ∷ []) (sym same_steps);
  }

  -- a step without requests
  pub quiet : (step : Step) → step.requests ≡ [] → RequestsStand journal (step ∷ steps) m.left m.written
  quiet step none = record {
    left = now.requests.left;
    are_requests = now.requests.are_requests;
    requests = ap (λ (xs : List Request). (requests_of steps ++ xs) ++ now.requests.left) none ∙ ap (λ (xs : List Request). xs ++ now.requests.left) (append-nil (requests_of steps)) ∙ now.requests.requests;
    replays = now.requests.replays;
  }

  pub quiet_done : (step : Step) → step.requests ≡ [] → m.done ≡ requests_of (step ∷ steps)
  quiet_done step none = now.done ∙ sym (append-nil (requests_of steps)) ∙ sym (ap (λ (xs : List Request). requests_of steps ++ xs) none)

  pub quiet_children : (step : Step) → Creates steps step [] → child_of cancellation (next_completion steps) step.call ≡ [] → ((xs : List ℕ) → children_after step.answer xs ≡ xs)
      → m.children ≡ children_of cancellation (step ∷ steps)
  quiet_children step creates none keeps =
      now.children ∙ sym (children-made cancellation steps step [] creates now.tables.takes keeps
      ∙ ap (λ (ns : List ℕ). children_of cancellation steps ++ map new_child ns) none ∙ append-nil (children_of cancellation steps))

  pub none_more : (n : ℕ) → n ≡ n + 0
  none_more n = omega arith

  -- the tables behind a step that makes no handle
  pub quiet_tables : (step : Step) (q : ℕ) (line : List Arrival) (waiting : Ready) → step.place ≡ q → Creates steps step [] → known_result (next_completion steps) step.requests ≡ []
      → TablesStand given.options steps arrivals q line waiting m.slots → TablesStand given.options (step ∷ steps) arrivals step.place line waiting m.slots
  quiet_tables step q line waiting at made reads stands =
      subst (λ (table : Slots). TablesStand given.options (step ∷ steps) arrivals step.place line waiting table) (append-nil m.slots)
      (subst (λ (n : ℕ). TablesStand given.options (step ∷ steps) arrivals n line waiting (m.slots ++ [])) (sym at)
      (makes given.options steps arrivals q step [] line waiting m.slots at made stands reads))

  waiting-is : (handle : ℕ) → now.place ≡ place_of steps → waiting_for m.slots m.ready handle ≡ front_of_handle given.options steps arrivals handle
  waiting-is handle at =
      in_front given.options steps arrivals m.queue m.ready m.slots now.place now.tables handle
      ∙ ap (λ (n : ℕ). option_and_then (front given.options steps arrivals n) (stands_for steps handle)) at

  -- what the run makes of an accepted call
  pub accepted_is : (other : Call) → call ≡ other → refusal_of given.version call ≡ None → refusal_of given.version other ≡ None
  accepted_is other e accepted = sym (ap (refusal_of given.version) e) ∙ accepted

  -- what is in front of a child is an invocation id, and keys in front are text
  pub front_ids : (q : ℕ) → q ≤ length arrivals → (n : ℕ) → is_in (tracked_children cancellation steps) n ≡ true
      → is_id_if_known (option_map as_taken (front given.options steps arrivals q (CompletionId n))) ≡ true
  front_ids q high n e =
      subst (λ (some : List Step). is_id_if_known (option_map as_taken (front given.options some arrivals q (CompletionId n))) ≡ true) same_steps
      (kinds.ids q n high (ap (λ (some : List Step). is_in (tracked_children cancellation some) n) same_steps ∙ e))

  keys_text : (id : NotificationId) (r : NotificationResult) → front given.options steps arrivals (place_of steps) id ≡ Some r → are_keys_text r ≡ true
  keys_text id r e = kinds.keys id r (ap (λ (some : List Step). front given.options some arrivals (place_of some) id) same_steps ∙ e)

  -- looking
  pub looks : (handle : ℕ) → call ≡ Call.IsCompleted handle → refusal_of given.version call ≡ None
      → Replies (Answered (Answer.Completed (is_some (waiting_for m.slots m.ready handle))) m)
  looks handle e accepted =
      let at : now.place ≡ place_of steps = is_here (inr (handle, inr (ap work_of e))) in
      subst (λ (o : Option NotificationResult). AnswersNext handler given journal arrivals calls (Answer.Completed (is_some o)) m) (sym (waiting-is handle at))
      (stepped step goes m (quiet_tables step now.place m.queue m.ready (sym at) (record { made = refl; takes = refl }) refl now.tables)
      (now.completions ∙ none_more (next_completion steps)) (now.signals ∙ none_more (next_signal steps)) (quiet step refl)
      now.start (quiet_done step refl) (quiet_children step (record { made = refl; takes = refl }) ((no_child cancellation (next_completion steps)).look handle) (λ xs. refl)) now.ids)
    where
      step : Step
      step = answered_step given steps arrivals (Call.IsCompleted handle)

      goes : run handler given arrivals (suc calls) ≡ record { steps = step ∷ steps; ending = GoesOn }
      goes = after ∙ ap (after_call given steps arrivals) e
          ∙ after_call-answers given steps arrivals (Call.IsCompleted handle) (accepted_is (Call.IsCompleted handle) e accepted) refl

  -- taking
  pub takes : (handle : ℕ) → call ≡ Call.Take handle → refusal_of given.version call ≡ None → Replies (reply_to_take m handle (waiting_for m.slots m.ready handle))
  takes handle e accepted = by_result (waiting_for m.slots m.ready handle) refl
    where
      at : now.place ≡ place_of steps
      at = is_here (inr (handle, inl (ap work_of e)))

      taking : Option NotificationResult → Step
      taking o = record { call = Call.Take handle; answer = Answer.Taken (option_map as_taken o); requests = []; place = place_of steps }

      goes : (o : Option NotificationResult) → waiting_for m.slots m.ready handle ≡ o
          → run handler given arrivals (suc calls) ≡ record { steps = taking o ∷ steps; ending = GoesOn }
      goes o f = after ∙ ap (after_call given steps arrivals) e
          ∙ after_call-answers given steps arrivals (Call.Take handle) (accepted_is (Call.Take handle) e accepted) refl
          ∙ ap (λ (p : Option NotificationResult). record { steps = record { call = Call.Take handle; answer = Answer.Taken (option_map as_taken p); requests = []; place = place_of steps } ∷ steps; ending = GoesOn })
          (sym (waiting-is handle at) ∙ f)

      by_slot : (r : NotificationResult) → waiting_for m.slots m.ready handle ≡ Some r → (o : Option NotificationId) → slot_of m.slots handle ≡ o
          → Replies (reply_where_taken m handle r (are_keys_text r) (list_all (may_take (slot_of m.slots handle) (as_taken r)) m.children))
      by_slot r f None slot = let wrong : None ≡ Some r = sym (ap (option_and_then (λ (id : NotificationId). first_waiting_result (m.ready id))) slot) ∙ f in cc
      by_slot r f (Some id) slot =
          let first : first_waiting_result (m.ready id) ≡ Some r = sym (ap (option_and_then (λ (id : NotificationId). first_waiting_result (m.ready id))) slot) ∙ f in
          let there : front given.options steps arrivals now.place id ≡ Some r = front-untaken given.options steps arrivals now.place id ∙ sym (ap first_waiting_result (now.tables.ready id)) ∙ first in
          let text : are_keys_text r ≡ true = keys_text id r (ap (λ (n : ℕ). front given.options steps arrivals n id) (sym at) ∙ there) in
          let ids : list_all (may_take (Some id) (as_taken r)) m.children ≡ true = ap (list_all (may_take (Some id) (as_taken r))) now.children
          ∙ takes-ids given.options steps arrivals now.place (tracked_children cancellation steps) id r there (λ n e. front_ids now.place now.tables.within n e) in
          subst (λ (b : Bool). Replies (reply_where_taken m handle r b (list_all (may_take (slot_of m.slots handle) (as_taken r)) m.children))) (sym text)
          (subst (λ (b : Bool). Replies (reply_where_taken m handle r true b)) (sym (ap (λ (o : Option NotificationId). list_all (may_take o (as_taken r)) m.children) slot ∙ ids))
          (subst (λ (o : Option NotificationId). Replies (Answered (Answer.Taken (Some (as_taken r))) (record m { ready = ready_without_first m.ready o; slots = slots_without m.slots handle; children = map (child_with_value o (as_taken r)) m.children }))) (sym slot)
          (stepped (taking (Some r)) (goes (Some r) f) (record m { ready = ready_without_first m.ready (Some id); slots = slots_without m.slots handle; children = map (child_with_value (Some id) (as_taken r)) m.children })
          (subst (λ (n : ℕ). TablesStand given.options (taking (Some r) ∷ steps) arrivals n m.queue (ready_without_first m.ready (Some id)) (slots_without m.slots handle)) at
          (takes_first given.options steps arrivals now.place (taking (Some r)) m.queue m.ready m.slots handle id r (sym at)
          (record { none_made = refl; handle_is = refl; none_known = refl }) now.tables slot first))
          (now.completions ∙ none_more (next_completion steps)) (now.signals ∙ none_more (next_signal steps)) (quiet (taking (Some r)) refl)
          now.start (quiet_done (taking (Some r)) refl)
          (ap (map (child_with_value (Some id) (as_taken r))) now.children
          ∙ sym (children-taken cancellation steps handle (place_of steps) id (as_taken r) (known-id (handle == 1) (list_any (takes_handle handle) steps) _ id (sym (now.tables.handles handle) ∙ slot))))
          (taken-ids id (as_taken r) m.children now.ids ids))))

      by_result : (o : Option NotificationResult) → waiting_for m.slots m.ready handle ≡ o → Replies (reply_to_take m handle o)
      by_result None f =
          stepped (taking None) (goes None f) m (quiet_tables (taking None) now.place m.queue m.ready (sym at) (record { made = refl; takes = refl }) refl now.tables)
          (now.completions ∙ none_more (next_completion steps)) (now.signals ∙ none_more (next_signal steps)) (quiet (taking None) refl)
          now.start (quiet_done (taking None) refl) (quiet_children (taking None) (record { made = refl; takes = refl }) ((no_child cancellation (next_completion steps)).take handle) (λ xs. refl)) now.ids
      by_result (Some r) f = by_slot r f (slot_of m.slots handle) refl

  -- where the run stops nothing is left, and its requests are all matched or written
  none_is_left : (ending : Ending) → is_going ending ≡ false → run handler given arrivals (suc calls) ≡ record { steps = steps; ending = ending } → now.requests.left ≡ []
  none_is_left ending stopped goes =
      none_left handler given journal arrivals fits.calls fits.beginning (suc calls) (requests_of steps) now.requests.left m.written
      (ap (λ (p : Progress). is_going p.ending) goes ∙ stopped) (ap (λ (p : Progress). requests_of p.steps) goes) now.requests.requests now.requests.replays

  pub nothing_left : (ending : Ending) → is_going ending ≡ false → run handler given arrivals (suc calls) ≡ record { steps = steps; ending = ending } → m.left ≡ []
  nothing_left ending stopped goes = now.requests.are_requests ∙ ap (map (λ (request : Request). Some request)) (none_is_left ending stopped goes)

  pub all_there : (ending : Ending) → is_going ending ≡ false → run handler given arrivals (suc calls) ≡ record { steps = steps; ending = ending }
      → run_requests handler given arrivals (suc calls) ≡ journal ++ m.written
  all_there ending stopped goes =
      ap (λ (p : Progress). requests_of p.steps) goes ∙ sym (append-nil (requests_of steps))
      ∙ ap (λ (xs : List Request). requests_of steps ++ xs) (sym (none_is_left ending stopped goes)) ∙ now.requests.requests

  -- the end
  pub ends : call ≡ Call.End → refusal_of given.version call ≡ None → Replies (reply_to_end m m.left)
  ends e accepted = by_left m.left refl
    where
      goes : run handler given arrivals (suc calls) ≡ record { steps = steps; ending = Ended }
      goes = after ∙ ap (after_call given steps arrivals) e ∙ after_call-ends given steps arrivals Call.End (accepted_is Call.End e accepted) refl

      by_left : (left : Commands) → m.left ≡ left → Replies (reply_to_end m left)
      by_left [] f = record { ended = ap (λ (p : Progress). p.ending) goes; exactly = all_there Ended refl goes }
      by_left (command ∷ left) f = let wrong : command ∷ left ≡ [] = sym f ∙ nothing_left Ended refl goes in cc

  -- a call that makes handles or requests alone
  pub makes_some : work_of call ≡ ToMake → refusal_of given.version call ≡ None
      → Replies (reply_to_make same_header given m call (requests_by m.start m.done m.left m.completions call)
      (put_all same_header (requests_by m.start m.done m.left m.completions call) (record { left = m.left; written = m.written })))
  makes_some e accepted =
      subst (λ (some : List Request). Replies (reply_to_make same_header given m call some (put_all same_header some (record { left = m.left; written = m.written })))) (sym same_requests)
      (subst (λ (o : Option PutState). Replies (reply_to_make same_header given m call asked o)) (sym (ap (λ (some : Commands). put_all same_header asked (record { left = some; written = m.written })) now.requests.are_requests ∙ p.puts))
      (subst (λ (answer : Answer). AnswersNext handler given journal arrivals calls answer new) (sym same_answer)
      (stepped step goes new new_tables
      (ap (λ (n : ℕ). n + completions_of call) now.completions) (ap (λ (n : ℕ). n + signals_of call) now.signals)
      (record { left = p.rest; are_requests = refl; requests = p.whole; replays = p.replays })
      now.start (ap (λ (some : List Request). some ++ asked) now.done) new_children
      (new-ids m.children (child_of cancellation m.completions call) now.ids))))
    where
      at : now.place ≡ place_of steps
      at = is_here (inl e)

      asked : List Request
      asked = requests_to given steps call

      step : Step
      step = answered_step given steps arrivals call

      goes : run handler given arrivals (suc calls) ≡ record { steps = step ∷ steps; ending = GoesOn }
      goes = after ∙ after_call-answers given steps arrivals call accepted (make-kind call e)

      agrees : Agrees now.requests.left asked
      agrees = agree handler given journal arrivals fits.calls fits.beginning (suc calls) (requests_of steps) asked now.requests.left m.written
          (ap (λ (p : Progress). requests_of p.steps) goes) now.requests.requests now.requests.replays

      p : Puts same_header journal (requests_of steps) asked now.requests.left m.written
      p = put same_header reflexive journal asked (requests_of steps) now.requests.left m.written now.requests.requests now.requests.replays agrees

      same_requests : requests_by m.start m.done m.left m.completions call ≡ asked
      same_requests = requests-same given steps m.start journal m.done m.left m.written m.completions now.start now.done now.completions now.requests call agrees

      made_ids : List NotificationId
      made_ids = ids_of m.completions m.signals call

      same_ids : ids_of (next_completion steps) (next_signal steps) call ≡ made_ids
      same_ids = ap₂ (λ (n signal : ℕ). ids_of n signal call) (sym now.completions) (sym now.signals)

      creates : Creates steps step made_ids
      creates = record { made = same_ids; takes = make-takes given steps arrivals call e }

      new : Machine
      new = record {
        left = map Some p.rest;
        written = p.wrote;
        completions = m.completions + completions_of call;
        signals = m.signals + signals_of call;
        queue = m.queue;
        ready = ready_after_all given.options.signal_delivery m.ready (known_result m.completions asked);
        slots = m.slots ++ map (λ (id : NotificationId). Some id) made_ids;
        start = m.start;
        done = m.done ++ asked;
        children = m.children ++ map new_child (child_of cancellation m.completions call);
      }

      at_place : (waiting : Ready) → TablesStand given.options (step ∷ steps) arrivals now.place m.queue waiting new.slots → TablesStand given.options (step ∷ steps) arrivals step.place m.queue waiting new.slots
      at_place waiting stands = subst (λ (n : ℕ). TablesStand given.options (step ∷ steps) arrivals n m.queue waiting new.slots) at stands

      new_tables : TablesStand given.options (step ∷ steps) arrivals step.place new.queue new.ready new.slots
      new_tables =
          subst (λ (n : ℕ). TablesStand given.options (step ∷ steps) arrivals step.place m.queue (ready_after_all given.options.signal_delivery m.ready (known_result n asked)) new.slots) (sym now.completions)
          (by_known (known-one given steps (next_completion steps) call))
        where
          by_known : (known_result (next_completion steps) asked ≡ []) ⊎ ((result : NotificationResult) × (known_result (next_completion steps) asked ≡ record { id = CompletionId (next_completion steps); result = result } ∷ []))
              → TablesStand given.options (step ∷ steps) arrivals step.place m.queue (ready_after_all given.options.signal_delivery m.ready (known_result (next_completion steps) asked)) new.slots
          by_known (inl none) =
              subst (λ (known : List Arrival). TablesStand given.options (step ∷ steps) arrivals step.place m.queue (ready_after_all given.options.signal_delivery m.ready known) new.slots) (sym none)
              (at_place m.ready (makes given.options steps arrivals now.place step made_ids m.queue m.ready m.slots (sym at) creates now.tables none))
          by_known (inr (result, one)) =
              subst (λ (known : List Arrival). TablesStand given.options (step ∷ steps) arrivals step.place m.queue (ready_after_all given.options.signal_delivery m.ready known) new.slots) (sym one)
              (at_place (ready_after given.options.signal_delivery m.ready (record { id = CompletionId (next_completion steps); result = result }))
              (knows given.options steps arrivals now.place step made_ids m.queue m.ready m.slots (sym at) creates now.tables (next_completion steps) result one
              (subst (λ (some : List Step). length (results_for (known_results some ++ arrivals) (CompletionId (next_completion steps))) ≤ 1) (ap (λ (p : Progress). p.steps) goes)
              (fits.once (suc calls) (next_completion steps)))))

      new_children : new.children ≡ children_of cancellation (step ∷ steps)
      new_children =
          ap₂ (λ (some : List Child) (n : ℕ). some ++ map new_child (child_of cancellation n call)) now.children now.completions
          ∙ sym (children-made cancellation steps step made_ids creates now.tables.takes (make-keeps given steps arrivals call e))

      same_answer : answer_by given.input.invocation_id (next_slot m) m.signals call ≡ answer_to given steps arrivals call
      same_answer = ap₂ (λ (h signal : ℕ). answer_by given.input.invocation_id h signal call) now.tables.next now.signals ∙ make-answer given steps arrivals call e
