-- What the next call asks, and what is left of the journal to be replayed, begin alike.
use Rattle.std.proofs.Common.{ℕ, zero, suc, ◌≤◌, ◌<◌, arith, ◌≡◌, refl, sym, ap, ap₂, ◌∙◌, ◌⊎◌, inl, inr, List, [], ◌∷◌, ◌++◌, append_assoc, append-nil}
use Rattle.std.proofs.lemmas.List.{append_cancel_left}
use Rattle.journal_model.specs.Notification.{Arrival}
use Rattle.journal_model.specs.Request.{Request}
use Rattle.journal_model.specs.Run.{Handler, Invocation, run_requests, IsBeginning, Progress, BeginsRun}
use Rattle.journal_model.proofs.Continuing.{run_requests-beginning}
use Rattle.run_laws.specs.Position.{IsAtCall}
use Rattle.journal_model.specs.History.{requests_of}
use Rattle.run_laws.proofs.Extending.{going-same}

-- two beginnings of one list begin alike
pub either-begins : (a x b y : List Request) → a ++ x ≡ b ++ y → IsBeginning a b ⊎ IsBeginning b a
either-begins [] x b y e = inl (b, refl)
either-begins (r ∷ a) x [] y e = inr (r ∷ a, refl)
either-begins (r ∷ a) x (s ∷ b) y e =
    let heads : r ≡ s = cc in
    let tails : a ++ x ≡ b ++ y = cc in
    elim (either-begins a x b y tails) [
      | inl one ↦ inl (one.0, ap₂ (λ (t : Request) (rest : List Request). t ∷ rest) heads one.1)
      | inr one ↦ inr (one.0, ap₂ (λ (t : Request) (rest : List Request). t ∷ rest) (sym heads) one.1)
    ]

order : (n m : ℕ) → (n ≤ m) ⊎ (m < n)
order zero m = inl (omega arith)
order (suc n) zero = inr (omega arith)
order (suc n) (suc m) = elim (order n m) [ inl low ↦ inl (omega arith) | inr high ↦ inr (omega arith) ]

-- the requests of the next call are the first that are left, or what is left is the first of them
pub replays : (next : Handler) (given : Invocation) (arrivals : List Arrival) (asked : List Request) (calls : ℕ) (left more : List Request)
    → IsAtCall next given arrivals asked calls left → BeginsRun next given arrivals asked
    → run_requests next given arrivals (suc calls) ≡ run_requests next given arrivals calls ++ more
    → IsBeginning more left ⊎ IsBeginning left more
replays next given arrivals asked calls left more stands begins e = by_order (order (suc calls) begins.calls)
  where
    so_far : List Request
    so_far = run_requests next given arrivals calls

    by_order : (suc calls ≤ begins.calls) ⊎ (begins.calls < suc calls) → IsBeginning more left ⊎ IsBeginning left more
    by_order (inl low) =
        let (rest, f) = run_requests-beginning next given arrivals (suc calls) begins.calls low in
        let (others, g) = begins.beginning in
        let same : run_requests next given arrivals calls ++ (more ++ rest) ≡ run_requests next given arrivals calls ++ (left ++ others) =
        sym (append_assoc (run_requests next given arrivals calls) more rest) ∙ ap (λ (some : List Request). some ++ rest) (sym e) ∙ f
        ∙ sym (sym (append_assoc (run_requests next given arrivals calls) left others) ∙ ap (λ (some : List Request). some ++ others) (sym stands.asked_is) ∙ g) in
        either-begins more rest left others (append_cancel_left (run_requests next given arrivals calls) (more ++ rest) (left ++ others) same)
    by_order (inr high) =
        let (rest, f) = run_requests-beginning next given arrivals begins.calls (suc calls) (omega arith) in
        let (others, g) = begins.beginning in
        let same : run_requests next given arrivals calls ++ (left ++ (others ++ rest)) ≡ run_requests next given arrivals calls ++ more =
        sym (append_assoc (run_requests next given arrivals calls) left (others ++ rest)) ∙ ap (λ (some : List Request). some ++ (others ++ rest)) (sym stands.asked_is)
        ∙ sym (append_assoc asked others rest) ∙ ap (λ (some : List Request). some ++ rest) g ∙ f ∙ e in
        inr (others ++ rest, append_cancel_left (run_requests next given arrivals calls) (left ++ (others ++ rest)) more same)

-- so a call replays what is left of the journal before it writes, and stands one call further then
pub replays_on : (next : Handler) (given : Invocation) (arrivals : List Arrival) (asked : List Request) (calls : ℕ) (left more : List Request)
    → IsAtCall next given arrivals asked calls left
    → run_requests next given arrivals (suc calls) ≡ run_requests next given arrivals calls ++ more
    → (rest : List Request) → more ++ rest ≡ left → asked ≡ run_requests next given arrivals (suc calls) ++ rest
replays_on next given arrivals asked calls left more stands e rest f =
    stands.asked_is ∙ ap (λ (some : List Request). run_requests next given arrivals calls ++ some) (sym f)
    ∙ sym (append_assoc (run_requests next given arrivals calls) more rest) ∙ ap (λ (some : List Request). some ++ rest) (sym e)

pub writes_on : (next : Handler) (given : Invocation) (arrivals : List Arrival) (asked : List Request) (calls : ℕ) (left more : List Request)
    → IsAtCall next given arrivals asked calls left
    → run_requests next given arrivals (suc calls) ≡ run_requests next given arrivals calls ++ more
    → (written : List Request) → left ++ written ≡ more → asked ++ written ≡ run_requests next given arrivals (suc calls) ++ []
writes_on next given arrivals asked calls left more stands e written f =
    ap (λ (some : List Request). some ++ written) stands.asked_is ∙ append_assoc (run_requests next given arrivals calls) left written
    ∙ ap (λ (some : List Request). run_requests next given arrivals calls ++ some) f ∙ sym e ∙ sym (append-nil (run_requests next given arrivals (suc calls)))

module _ (next : Handler) (given : Invocation) (arrivals : List Arrival) where
  -- an attempt that was begun just now has answered no call, and all of the journal is left
  pub at_call-first : (requests : List Request) → IsAtCall next given arrivals requests 0 requests
  at_call-first requests = record { going = refl; asked_is = refl }

  pub at_call-more : (later : List Arrival) (asked : List Request) (calls : ℕ) (left : List Request)
      → IsAtCall next given arrivals asked calls left → IsAtCall next given (arrivals ++ later) asked calls left
  at_call-more later asked calls left stands =
      let same = going-same next given arrivals later calls stands.going in record {
        going = ap (λ (p : Progress). p.ending) same ∙ stands.going;
        asked_is = stands.asked_is ∙ ap (λ (p : Progress). requests_of p.steps ++ left) (sym same);
      }
