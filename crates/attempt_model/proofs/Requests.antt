-- The requests of a call are matched with the recorded ones that are left, and written behind them.
use Rattle.std.proofs.Common.{◌≡◌, refl, sym, ap, ◌∙◌, ℕ, suc, ◌+◌, arith, Bool, true, false, if◌then◌else◌, List, [], ◌∷◌, ◌++◌, append_assoc, append-nil, length, length-append, map, Some, None, option_and_then, ◌⊎◌, inl, inr}
use Rattle.journal_model.specs.Notification.{Arrival}
use Rattle.journal_model.specs.Request.{Request}
use Rattle.journal_model.specs.History.{requests_of}
use Rattle.journal_model.specs.Run.{Handler, Invocation, Progress, run, run_requests, is_going, IsBeginning}
use Rattle.journal_model.proofs.Continuing.{run_requests-beginning, run-stopped}
use Rattle.attempt_model.specs.Requests.{put_all}
use Rattle.attempt_model.specs.Simulation.{IsReflexive}

append-cancel : {A : Type 0} (xs ys zs : List A) → xs ++ ys ≡ xs ++ zs → ys ≡ zs
append-cancel [] ys zs e = e
append-cancel (x ∷ xs) ys zs e = append-cancel xs ys zs cc

-- two ways on from one list
pub record Agrees (left requests : List Request) : Type 0 where
  pub behind_left : List Request
  pub behind_requests : List Request
  pub same : left ++ behind_left ≡ requests ++ behind_requests

-- what is left to match, and was written, behind these requests
pub record Puts (same_header : Request → Request → Bool) (journal done requests left written : List Request) : Type 0 where
  pub rest : List Request
  pub wrote : List Request
  pub puts : put_all same_header requests (record { left = map Some left; written = written }) ≡ Some (record { left = map Some rest; written = wrote })
  pub whole : (done ++ requests) ++ rest ≡ journal ++ wrote
  pub replays : (rest ≡ []) ⊎ (wrote ≡ [])

module _ (same_header : Request → Request → Bool) (reflexive : IsReflexive same_header) (journal : List Request) where
  pub put : (requests done left written : List Request) → done ++ left ≡ journal ++ written → (left ≡ []) ⊎ (written ≡ [])
      → Agrees left requests → Puts same_header journal done requests left written
  put [] done left written e replays agrees = record {
    rest = left;
    wrote = written;
    puts = refl;
    whole = ap (λ (xs : List Request). xs ++ left) (append-nil done) ∙ e;
    replays = replays;
  }
  put (request ∷ requests) done [] written e replays agrees =
      one_more (put requests (done ++ request ∷ []) [] (written ++ request ∷ [])
      (append-nil (done ++ request ∷ []) ∙ ap (λ (xs : List Request). xs ++ request ∷ []) (sym (append-nil done) ∙ e) ∙ append_assoc journal written (request ∷ []))
      (inl refl) (record { behind_left = requests; behind_requests = []; same = sym (append-nil requests) }))
    where
      one_more : Puts same_header journal (done ++ request ∷ []) requests [] (written ++ request ∷ []) → Puts same_header journal done (request ∷ requests) [] written
      one_more p = record {
        rest = p.rest;
        wrote = p.wrote;
        puts = p.puts;
        whole = ap (λ (xs : List Request). xs ++ p.rest) (sym (append_assoc done (request ∷ []) requests)) ∙ p.whole;
        replays = p.replays;
      }
  put (request ∷ requests) done (recorded ∷ left) written e (inl wrong) agrees = cc
  put (request ∷ requests) done (recorded ∷ left) written e (inr nothing) agrees =
      let same : recorded ≡ request = (let f : recorded ∷ (left ++ agrees.behind_left) ≡ request ∷ (requests ++ agrees.behind_requests) = agrees.same in cc) in
      let rest : left ++ agrees.behind_left ≡ requests ++ agrees.behind_requests = (let f : recorded ∷ (left ++ agrees.behind_left) ≡ request ∷ (requests ++ agrees.behind_requests) = agrees.same in cc) in
      one_more same (put requests (done ++ request ∷ []) left written
      (append_assoc done (request ∷ []) left ∙ ap (λ (r : Request). done ++ r ∷ left) (sym same) ∙ e)
      (inr nothing) (record { behind_left = agrees.behind_left; behind_requests = agrees.behind_requests; same = rest }))
    where
      one_more : recorded ≡ request → Puts same_header journal (done ++ request ∷ []) requests left written → Puts same_header journal done (request ∷ requests) (recorded ∷ left) written
      one_more same p = record {
        rest = p.rest;
        wrote = p.wrote;
        puts =
            let matches : same_header recorded request ≡ true = ap (λ (r : Request). same_header r request) same ∙ reflexive request in
            ap (λ (b : Bool). option_and_then (put_all same_header requests) (if b then Some (record { left = map Some left; written = written }) else None)) matches ∙ p.puts;
        whole = ap (λ (xs : List Request). xs ++ p.rest) (sym (append_assoc done (request ∷ []) requests)) ∙ p.whole;
        replays = p.replays;
      }

-- what is recorded is on the way of the run
module _ (handler : Handler) (given : Invocation) (journal : List Request) (arrivals : List Arrival) (some : ℕ)
    (beginning : IsBeginning journal (run_requests handler given arrivals some)) where
  -- both what the run has made by so many calls, and what was recorded, are a beginning of one list
  joined : (n : ℕ) → (behind_journal behind_run : List Request) × (journal ++ behind_journal ≡ run_requests handler given arrivals n ++ behind_run)
  joined n =
      let (a, e) = beginning in
      let (b, f) = run_requests-beginning handler given arrivals some (some + n) (omega arith) in
      let (c, g) = run_requests-beginning handler given arrivals n (some + n) (omega arith) in
      (a ++ b, c, sym (append_assoc journal a b) ∙ ap (λ (xs : List Request). xs ++ b) e ∙ f ∙ sym g)

  -- the requests of a call that the run makes agree with what is left
  pub agree : (n : ℕ) (done requests left written : List Request) → run_requests handler given arrivals n ≡ done ++ requests
      → done ++ left ≡ journal ++ written → (left ≡ []) ⊎ (written ≡ []) → Agrees left requests
  agree n done requests [] written is e replays = record { behind_left = requests; behind_requests = []; same = sym (append-nil requests) }
  agree n done requests (recorded ∷ left) written is e (inl wrong) = cc
  agree n done requests (recorded ∷ left) written is e (inr nothing) =
      let (a, b, f) = joined n in
      let whole : done ++ recorded ∷ left ≡ journal = e ∙ ap (λ (xs : List Request). journal ++ xs) nothing ∙ append-nil journal in
      record {
        behind_left = a;
        behind_requests = b;
        same = append-cancel done ((recorded ∷ left) ++ a) (requests ++ b)
            (sym (append_assoc done (recorded ∷ left) a) ∙ ap (λ (xs : List Request). xs ++ a) whole ∙ f
            ∙ ap (λ (xs : List Request). xs ++ b) is ∙ append_assoc done requests b);
      }

  -- where the run has stopped nothing is left
  pub none_left : (n : ℕ) (done left written : List Request) → is_going (run handler given arrivals n).ending ≡ false
      → run_requests handler given arrivals n ≡ done → done ++ left ≡ journal ++ written → (left ≡ []) ⊎ (written ≡ []) → left ≡ []
  none_left n done [] written stopped is e replays = refl
  none_left n done (recorded ∷ left) written stopped is e (inl wrong) = cc
  none_left n done (recorded ∷ left) written stopped is e (inr nothing) =
      let (a, f) = beginning in
      let (b, g) = run_requests-beginning handler given arrivals some (some + n) (omega arith) in
      let same : run_requests handler given arrivals (some + n) ≡ done =
      ap (λ (p : Progress). requests_of p.steps) (run-stopped handler given arrivals n (some + n) (omega arith) stopped) ∙ is in
      let all : (journal ++ a) ++ b ≡ done = ap (λ (xs : List Request). xs ++ b) f ∙ g ∙ same in
      let whole : done ++ recorded ∷ left ≡ journal = e ∙ ap (λ (xs : List Request). journal ++ xs) nothing ∙ append-nil journal in
      let l1 : length ((journal ++ a) ++ b) ≡ length done = ap length all in
      let l2 : length (done ++ recorded ∷ left) ≡ length journal = ap length whole in
      let l3 : length ((journal ++ a) ++ b) ≡ length (journal ++ a) + length b = length-append (journal ++ a) b in
      let l4 : length (journal ++ a) ≡ length journal + length a = length-append journal a in
      let l5 : length (done ++ recorded ∷ left) ≡ length done + suc (length left) = length-append done (recorded ∷ left) in
      absurd (omega (arith, l1, l2, l3, l4, l5))
