-- With its input closed an attempt answers or executes in each turn, or is over.
use Rattle.std.proofs.Common.{◌≡◌, refl, sym, ap, ◌∙◌, subst, ℕ, suc, ◌+◌, arith, Bool, true, false, not, ◌&&◌, if◌then◌else◌, List, [], ◌∷◌, ◌++◌, length, length-append, Option, Some, None, ◌⊎◌, inl, inr}
use Rattle.std.specs.List.{list_any}
use Rattle.journal_model.specs.declared.call.Call.{Call}
use Rattle.journal_model.specs.Request.{Request}
use Rattle.journal_model.specs.Run.{Handler, Invocation}
use Rattle.attempt_model.specs.Machine.{Reply, Answered, AwaitsTree, AwaitsChild, Finished, FailedBy, reply_to}
use Rattle.body_laws.specs.Bodies.{Body, body_awaited, is_body, without_body, has_handle, AwaitsTreeOf, AwaitsChildOf, handing_out, executes_or_awaits, reply_after, suspends}
use Rattle.body_laws.specs.AttemptExecution.{BodyEnd, Proposes, FailsAttempt, Attempting, AttemptState, Live, Over, Misled, attempt_after_reply, waits_on, after_body, attempt_after_turn, after_turns, is_attempt_over, count_made}
use Rattle.body_laws.proofs.Lists.{is_body-refl}

-- an attempt whose input is closed, between turns
pub record IsClosed (a : Attempting) : Type 0 where
  pub closed : a.is_closed ≡ true
  pub idle : a.executor.executing ≡ []

-- a body that is handed out and proposed at once leaves none behind
pub none-left : (body : Body) (bodies : List Body) → bodies ≡ [] → without_body body (bodies ++ body ∷ []) ≡ []
none-left body bodies none = ap (λ (some : List Body). without_body body (some ++ body ∷ [])) none ∙ by_test (is_body body body) (is_body-refl body)
  where
    by_test : (b : Bool) → b ≡ true → let nothing : List Body = [] in (if b then nothing else body ∷ nothing) ≡ nothing
    by_test true e = refl
    by_test false e = cc

-- one turn: the attempt goes on and has made one more, or is over
abbrev GoesOn : ℕ → AttemptState → Type 0
GoesOn made (Live a) = IsClosed a × (count_made (Live a) ≡ suc made)
GoesOn made state = Unit {0}

module _ (version : ℕ) (end : BodyEnd) (a : Attempting) (now : IsClosed a) (call : Call) where
  by_reply : (reply : Reply) → GoesOn (count_made (Live a)) (attempt_after_reply version end a (reply_after a.executor call reply))
  by_reply (Answered answer m) = (
    record { closed = now.closed; idle = now.idle },
    (let e : length (a.answers ++ answer ∷ []) ≡ length a.answers + 1 = length-append a.answers (answer ∷ []) in omega (arith, e)),
  )
  by_reply (AwaitsTree tree m) = by_body (body_awaited tree a.executor.left)
    where
      by_end : (some : BodyEnd) (body : Body) → GoesOn (count_made (Live a)) (after_body version a body (handing_out (record a.executor { machine = m }) body) some)
      by_end (Proposes value) body = (
        record { closed = now.closed; idle = none-left body a.executor.executing now.idle },
        (let e : length (a.proposed ++ (body.completion, value) ∷ []) ≡ length a.proposed + 1 = length-append a.proposed ((body.completion, value) ∷ []) in omega (arith, e)),
      )
      by_end (FailsAttempt failure) body = tt

      suspended : suspends a.is_closed (AwaitsTreeOf tree (record a.executor { machine = m })) ≡ true
      suspended = ap (λ (some : List Body). a.is_closed && not (list_any (λ body. has_handle body.handle tree) some)) now.idle ∙ ap (λ (b : Bool). b && true) now.closed

      by_body : (o : Option Body) → GoesOn (count_made (Live a)) (attempt_after_reply version end a (executes_or_awaits tree (record a.executor { machine = m }) o))
      by_body None = subst (λ (b : Bool). GoesOn (count_made (Live a)) (waits_on a (AwaitsTreeOf tree (record a.executor { machine = m })) (record a.executor { machine = m }) b)) (sym suspended) tt
      by_body (Some body) = by_end end body
  by_reply (AwaitsChild child m) =
      subst (λ (b : Bool). GoesOn (count_made (Live a)) (waits_on a (AwaitsChildOf child (record a.executor { machine = m })) (record a.executor { machine = m }) b)) (sym now.closed) tt
  by_reply (Finished m) = tt
  by_reply (FailedBy fault) = tt

module _ (same_header : Call → Request → Request → Bool) (handler : Handler) (given : Invocation) where
  -- it is over, or goes on and has made as many as turns
  abbrev Progresses : ℕ → AttemptState → Type 0
  Progresses made (Live a) = IsClosed a × (count_made (Live a) ≡ made)
  Progresses made state = Unit {0}

  one-more : (made : ℕ) (end : BodyEnd) (state : AttemptState) → Progresses made state → Progresses (suc made) (attempt_after_turn same_header handler given end state)
  one-more made end (Live a) now =
      after (attempt_after_turn same_header handler given end (Live a)) (by_reply given.version end a now.0 (handler given.input a.answers) (reply_to same_header given a.executor.machine (handler given.input a.answers)))
    where
      after : (state : AttemptState) → GoesOn (count_made (Live a)) state → Progresses (suc made) state
      after (Live b) goes = (goes.0, goes.1 ∙ ap suc now.1)
      after (Over b reply) goes = tt
      after (Misled b) goes = tt
  one-more made end (Over a reply) now = tt
  one-more made end (Misled a) now = tt

  turns-progress : (a : Attempting) (ends : List BodyEnd) → IsClosed a → Progresses (length ends + count_made (Live a)) (after_turns same_header handler given (Live a) ends)
  turns-progress a [] now = (now, omega arith)
  turns-progress a (end ∷ earlier) now =
      let e : suc (length earlier + count_made (Live a)) ≡ length (end ∷ earlier) + count_made (Live a) = omega arith in
      subst (λ (made : ℕ). Progresses made (attempt_after_turn same_header handler given end (after_turns same_header handler given (Live a) earlier))) e
      (one-more (length earlier + count_made (Live a)) end (after_turns same_header handler given (Live a) earlier) (turns-progress a earlier now))

pub closed_turns_progress : (same_header : Call → Request → Request → Bool) (handler : Handler) (given : Invocation) (a : Attempting) (ends : List BodyEnd) → a.is_closed ≡ true → a.executor.executing ≡ []
    → let after = after_turns same_header handler given (Live a) ends in
    (is_attempt_over after ≡ true) ⊎ (count_made after ≡ length ends + count_made (Live a))
closed_turns_progress same_header handler given a ends closed idle =
    by_state (after_turns same_header handler given (Live a) ends) (turns-progress same_header handler given a ends (record { closed = closed; idle = idle }))
  where
    by_state : (state : AttemptState) → Progresses same_header handler given (length ends + count_made (Live a)) state → (is_attempt_over state ≡ true) ⊎ (count_made state ≡ length ends + count_made (Live a))
    by_state (Live b) p = inr p.1
    by_state (Over b reply) p = inl refl
    by_state (Misled b) p = inl refl
