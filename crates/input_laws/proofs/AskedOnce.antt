-- A completion that is asked for once, and a kind of requests each of which asks for it.
use Rattle.std.proofs.Common.{ℕ, ◌+◌, ◌≤◌, arith, ◌≡◌, sym, ap, subst, ◌∙◌, ◌⊎◌, inl, inr, Bool, true, false, ◌||◌, if◌then◌else◌, List, [], ◌∷◌, ◌++◌, append-nil, Some, refl}
use Rattle.std.specs.List.{list_any, find}
use Rattle.std.proofs.lemmas.List.Folds.{list_any-append}
use Rattle.journal_model.specs.Request.{Request, completions_asked}
use Rattle.journal_model.specs.Journal.{asks_for, sleep_in, sleeps_in}
use Rattle.journal_laws.proofs.Leaving.{or-true, or-true_left}
use Rattle.input_laws.specs.CompletionsOnce.{count_of, numbers_asked}
use Rattle.input_laws.proofs.Once.{count-append, count_asked, asked-any, asked-some, numbers_of, numbers-append, slept_one, slept_asked}

module _ (n : ℕ) (is_kind : Request → Bool) (asks : (requests : List Request) → list_any is_kind requests ≡ true → list_any (asks_for n) requests ≡ true) where
  pub kind_count : (requests : List Request) → list_any is_kind requests ≡ true → 1 ≤ count_of n (numbers_asked requests)
  kind_count requests e = asked-some n requests (asks requests e)

  kind_one : (request : Request) → is_kind request ≡ true → 1 ≤ count_of n (completions_asked request)
  kind_one request e = subst (λ (ns : List ℕ). 1 ≤ count_of n ns) (append-nil (completions_asked request)) (kind_count (request ∷ []) (or-true_left (is_kind request) false e))

  -- what is asked for once, by the first of these requests, and by one of this kind, is asked for by one of this kind among the first
  pub kind_first : (requests rest : List Request) → count_of n (numbers_asked (requests ++ rest)) ≤ 1 → list_any (asks_for n) requests ≡ true → list_any is_kind (requests ++ rest) ≡ true
      → list_any is_kind requests ≡ true
  kind_first requests rest once asked e = by_either (or-true (list_any is_kind requests) (list_any is_kind rest) (sym (list_any-append is_kind requests rest) ∙ e))
    where
      by_either : (list_any is_kind requests ≡ true) ⊎ (list_any is_kind rest ≡ true) → list_any is_kind requests ≡ true
      by_either (inl f) = f
      by_either (inr f) =
          let a = count_asked n requests rest in
          let b = asked-some n requests asked in
          let c = kind_count rest f in
          absurd (omega (arith, once, a, b, c))

  -- the request that is found for a completion that is asked for once is the one of this kind
  pub found_kind : (requests : List Request) (request : Request) → count_of n (numbers_asked requests) ≤ 1 → find (asks_for n) requests ≡ Some request → list_any is_kind requests ≡ true
      → is_kind request ≡ true
  found_kind [] request once e g = cc
  found_kind (first ∷ requests) request once e g =
      by_test (asks_for n first) refl e (or-true (is_kind first) (list_any is_kind requests) g) (found_kind requests request)
    where
      sum : count_of n (completions_asked first ++ numbers_asked requests) ≡ count_of n (completions_asked first) + count_of n (numbers_asked requests)
      sum = count-append n (completions_asked first) (numbers_asked requests)

      asks_one : (asks_for n first || false) ≡ true → asks_for n first ≡ true
      asks_one e = by_either (or-true (asks_for n first) false e)
        where
          by_either : (asks_for n first ≡ true) ⊎ (false ≡ true) → asks_for n first ≡ true
          by_either (inl h) = h
          by_either (inr h) = cc

      by_test : (b : Bool) → asks_for n first ≡ b → (if b then Some first else find (asks_for n) requests) ≡ Some request → (is_kind first ≡ true) ⊎ (list_any is_kind requests ≡ true)
          → (count_of n (numbers_asked requests) ≤ 1 → find (asks_for n) requests ≡ Some request → list_any is_kind requests ≡ true → is_kind request ≡ true) → is_kind request ≡ true
      by_test true f e (inl g) later = let same : first ≡ request = cc in ap is_kind (sym same) ∙ g
      by_test true f e (inr g) later =
          let a = sum in
          let b = asked-any n (completions_asked first) f in
          let c = kind_count requests g in
          absurd (omega (arith, once, a, b, c))
      by_test false f e (inl g) later =
          let wrong : false ≡ true = sym f ∙ asks_one (asks (first ∷ []) (or-true_left (is_kind first) false g)) in
          cc
      by_test false f e (inr g) later = later (let a = sum in omega (arith, once, a)) e g

  -- and no sleep asks for it, where none is of this kind
  pub kind_slept : ((request : Request) → is_kind request ≡ true → sleep_in request ≡ []) → (requests : List Request) → list_any is_kind requests ≡ true
      → count_of n (numbers_of (sleeps_in requests)) + 1 ≤ count_of n (numbers_asked requests)
  kind_slept no_sleep [] e = cc
  kind_slept no_sleep (request ∷ requests) e = by_either (or-true (is_kind request) (list_any is_kind requests) e) (kind_slept no_sleep requests)
    where
      slept : count_of n (numbers_of (sleep_in request ++ sleeps_in requests)) ≡ count_of n (numbers_of (sleep_in request)) + count_of n (numbers_of (sleeps_in requests))
      slept = numbers-append n (sleep_in request) (sleeps_in requests)

      asked : count_of n (completions_asked request ++ numbers_asked requests) ≡ count_of n (completions_asked request) + count_of n (numbers_asked requests)
      asked = count-append n (completions_asked request) (numbers_asked requests)

      by_either : (is_kind request ≡ true) ⊎ (list_any is_kind requests ≡ true)
          → (list_any is_kind requests ≡ true → count_of n (numbers_of (sleeps_in requests)) + 1 ≤ count_of n (numbers_asked requests))
          → count_of n (numbers_of (sleep_in request ++ sleeps_in requests)) + 1 ≤ count_of n (completions_asked request ++ numbers_asked requests)
      by_either (inl f) later =
          let a = slept in
          let b = asked in
          let none : count_of n (numbers_of (sleep_in request)) ≡ 0 = ap (λ (sleeps : List (ℕ × ℕ)). count_of n (numbers_of sleeps)) (no_sleep request f) in
          let own = kind_one request f in
          let rest = slept_asked n requests in
          omega (arith, a, b, none, own, rest)
      by_either (inr f) later =
          let a = slept in
          let b = asked in
          let own = slept_one n request in
          let rest = later f in
          omega (arith, a, b, own, rest)
