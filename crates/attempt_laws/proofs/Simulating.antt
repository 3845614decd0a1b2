-- Each call is answered as the run answers it.
use Rattle.std.proofs.Common.{◌≡◌, refl, sym, ap, ◌∙◌, subst, suc, ◌++◌, [], append_assoc, append-nil, ◌⊎◌, inl, inr, List, ℕ, Bool, Option, Some, None}
use Rattle.journal_model.specs.Notification.{Arrival}
use Rattle.journal_model.specs.declared.call.Call.{Call}
use Rattle.journal_model.specs.Request.{Request}
use Rattle.journal_model.specs.Refusal.{Refusal, refusal_of}
use Rattle.journal_model.specs.History.{requests_of}
use Rattle.journal_model.specs.Run.{Handler, Invocation, Progress, run_requests, BeginsRun}
use Rattle.journal_model.proofs.Continuing.{after_call-refused}
use Rattle.attempt_laws.proofs.Answering as Answering
use Rattle.attempt_laws.proofs.Awaiting as Awaiting
use Rattle.attempt_model.specs.Machine.{Machine, Reply, Work, ToAwait, ToEnd, ToTake, ToLook, ToMake, work_of, reply_to_work, reply_unless_refused, reply_to, StopsMidway}
use Rattle.attempt_model.specs.Requests.{Commands, PutState, put_all}
use Rattle.attempt_model.specs.Simulation.{Stands, AreOfKind, Fits, next_call, AnswersNext, RepliesAsRun, IsReflexive, AreReflexive}
use Rattle.attempt_model.proofs.Requests.{Agrees, Puts, put, agree}
use Rattle.attempt_laws.proofs.CallKinds.{inv-take, inv-look, inv-await, inv-end}

module _ (same_header : Request → Request → Bool) (reflexive : IsReflexive same_header) (handler : Handler) (given : Invocation) (journal : List Request) (arrivals : List Arrival)
    (fits : Fits handler given journal arrivals) (calls : ℕ) (kinds : AreOfKind handler given arrivals calls) (m : Machine) (now : Stands handler given journal arrivals calls m) (call : Call) (is : next_call handler given now.steps ≡ call) where
  abbrev Replies : Reply → Type 0
  Replies reply = RepliesAsRun handler given journal arrivals calls reply

  by_work : (w : Work) → work_of call ≡ w → refusal_of given.version call ≡ None → Replies (reply_to_work same_header given m call w)
  by_work (ToAwait tree) e accepted = Awaiting.awaits same_header reflexive handler given journal arrivals fits calls kinds m now call is tree (inv-await call tree e) accepted
  by_work ToEnd e accepted = Answering.ends same_header reflexive handler given journal arrivals fits calls kinds m now call is (inv-end call e) accepted
  by_work (ToTake handle) e accepted = Answering.takes same_header reflexive handler given journal arrivals fits calls kinds m now call is handle (inv-take call handle e) accepted
  by_work (ToLook handle) e accepted = Answering.looks same_header reflexive handler given journal arrivals fits calls kinds m now call is handle (inv-look call handle e) accepted
  by_work ToMake e accepted = Answering.makes_some same_header reflexive handler given journal arrivals fits calls kinds m now call is e accepted

  by_refusal : (o : Option Refusal) → refusal_of given.version call ≡ o → Replies (reply_unless_refused same_header given m call o)
  by_refusal (Some refusal) e = ap (λ (p : Progress). p.ending) (Answering.after same_header reflexive handler given journal arrivals fits calls kinds m now call is ∙ after_call-refused given now.steps arrivals call refusal e)
  by_refusal None e = by_work (work_of call) refl e

-- each call is answered as the run answers it, and the machine stands behind it
pub simulates : (same_header : Call → Request → Request → Bool) (handler : Handler) (given : Invocation) (journal : List Request) (arrivals : List Arrival) (calls : ℕ) (m : Machine)
    → AreReflexive same_header → Fits handler given journal arrivals → AreOfKind handler given arrivals calls → (stands : Stands handler given journal arrivals calls m)
    → RepliesAsRun handler given journal arrivals calls (reply_to same_header given m (next_call handler given stands.steps))
simulates same_header handler given journal arrivals calls m reflexive fits kinds stands =
    by_refusal (same_header (next_call handler given stands.steps)) (reflexive (next_call handler given stands.steps)) handler given journal arrivals fits calls kinds m
    stands (next_call handler given stands.steps) refl
    (refusal_of given.version (next_call handler given stands.steps)) refl

abbrev written_of : Option PutState → List Request
written_of None = []
written_of (Some p) = p.written

-- a call that is stopped midway leaves a beginning of the run's requests
pub stops_with_run : (same_header : Call → Request → Request → Bool) (handler : Handler) (given : Invocation) (journal : List Request) (arrivals : List Arrival) (calls : ℕ) (m : Machine)
    → AreReflexive same_header → Fits handler given journal arrivals → AreOfKind handler given arrivals calls → (stands : Stands handler given journal arrivals calls m) → (stopped : PutState)
    → StopsMidway same_header given m (next_call handler given stands.steps) stopped → BeginsRun handler given arrivals (journal ++ stopped.written)
stops_with_run same_header handler given journal arrivals calls m reflexive fits kinds stands stopped stops = by_replays p.replays
  where
    call : Call
    call = next_call handler given stands.steps

    next : AnswersNext handler given journal arrivals calls stops.answer stops.whole
    next = subst (RepliesAsRun handler given journal arrivals calls) stops.replies (simulates same_header handler given journal arrivals calls m reflexive fits kinds stands)

    is_run : run_requests handler given arrivals (suc calls) ≡ (requests_of stands.steps ++ stops.some) ++ stops.others
    is_run = ap (λ (p : Progress). requests_of p.steps) next.stands.going ∙ sym next.stands.done ∙ stops.done
        ∙ ap (λ (xs : List Request). (xs ++ stops.some) ++ stops.others) stands.done

    all : Agrees stands.requests.left (stops.some ++ stops.others)
    all = agree handler given journal arrivals fits.calls fits.beginning (suc calls) (requests_of stands.steps) (stops.some ++ stops.others) stands.requests.left m.written
        (is_run ∙ append_assoc (requests_of stands.steps) stops.some stops.others) stands.requests.requests stands.requests.replays

    p : Puts (same_header call) journal (requests_of stands.steps) stops.some stands.requests.left m.written
    p = put (same_header call) (reflexive call) journal stops.some (requests_of stands.steps) stands.requests.left m.written stands.requests.requests stands.requests.replays
        (record { behind_left = all.behind_left; behind_requests = stops.others ++ all.behind_requests; same = all.same ∙ append_assoc stops.some stops.others all.behind_requests })

    wrote : stopped.written ≡ p.wrote
    wrote = ap written_of (sym stops.puts ∙ ap (λ (some : Commands). put_all (same_header call) stops.some (record { left = some; written = m.written })) stands.requests.are_requests ∙ p.puts)

    by_replays : (p.rest ≡ []) ⊎ (p.wrote ≡ []) → BeginsRun handler given arrivals (journal ++ stopped.written)
    by_replays (inl none) = record {
      calls = suc calls;
      beginning = (
        stops.others,
        ap (λ (xs : List Request). (journal ++ xs) ++ stops.others) wrote
            ∙ ap (λ (xs : List Request). xs ++ stops.others)
            (sym p.whole ∙ ap (λ (xs : List Request). (requests_of stands.steps ++ stops.some) ++ xs) none ∙ append-nil (requests_of stands.steps ++ stops.some))
            ∙ sym is_run,
      );
    }
    by_replays (inr nothing) =
        let (a, e) = fits.beginning in
        record {
          calls = fits.calls;
          beginning = (a, ap (λ (xs : List Request). xs ++ a) (ap (λ (xs : List Request). journal ++ xs) (wrote ∙ nothing) ∙ append-nil journal) ∙ e);
        }
