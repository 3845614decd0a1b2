-- No word of a line has a space.
use Rattle.std.proofs.Common.{ℕ, ◌^◌, ◌/◌, ◌<◌, ◌≤◌, Bool, true, false, List, [], ◌∷◌, ◌++◌, Option, Some, None, refl, arith}
use Rattle.std.specs.Prelude.{codes, decimal}
use Rattle.std.specs.List.{AllByRecursion}
use Rattle.journal_model.specs.AwaitTree.{AwaitTree, Single, Combined, AwaitTrees, no_trees, and_trees, Combinator, Unknown, FirstCompleted, AllCompleted, FirstSucceededOrAllFailed, AllSucceededOrFirstFailed, AtLeast}
use Rattle.journal_model.specs.declared.call.AttachInvocationTarget.{AttachInvocationTarget}
use Rattle.journal_model.specs.declared.call.AttachInvocationTarget.TheVariants.{InvocationId, WorkflowId, IdempotencyId}
use Rattle.journal_model.specs.declared.call.Call.{Call}
use Rattle.journal_model.specs.declared.call.Call.TheVariants as calls
use Rattle.journal_model.specs.declared.call.PayloadOptions.{PayloadOptions}
use Rattle.journal_model.specs.declared.call.Target.{Target}
use Rattle.journal_model.specs.declared.value.NonEmptyValue.{NonEmptyValue}
use Rattle.journal_model.specs.declared.value.NonEmptyValue.TheVariants.{Success, Failure}
use Rattle.server_lines.specs.Request.{header_words}
use Rattle.server_lines.specs.Word.{escaped, text_word}
use Rattle.server_lines.proofs.Spaces.{NoSpace, decimal-no_space, escaped-no_space, headers-no_space, joined-no_space, letters, number-no_space, text-no_space, words-no_space as request-no_space}
use Rattle.call_lines.specs.Call.{IsCall, IsSaid, attached_words, by_options, call_words, said_words, target_words}
use Rattle.call_lines.specs.Line.{IsLine, line_words}
use Rattle.call_lines.specs.Outcome.{IsBounds, IsGivenBelow, IsOutcome, IsPolicy, bounds_words, given_word, outcome_words, pauses_word, policy_words}
use Rattle.call_lines.specs.Tree.{AreTrees, IsCombinator, IsTree, all_words, combinator_word, count, tree_words}
use Rattle.call_lines.specs.Word.{IsGiven, IsMoment, IsTime, moment_word, name_words, optional_word, pair_words, time_word, told_text, value_words}
use Rattle.call_lines.specs.declared.call.Said.{Said}
use Rattle.call_lines.specs.declared.call.Said.TheVariants as said
use Rattle.call_lines.specs.declared.line.ClientLine.{ClientLine}
use Rattle.call_lines.specs.declared.line.ClientLine.TheVariants as lines
use Rattle.call_lines.specs.declared.outcome.SaidOutcome.{SaidOutcome}
use Rattle.call_lines.specs.declared.outcome.SaidOutcome.TheVariants as outcomes
use Rattle.call_lines.specs.declared.policy.SaidBounds.{SaidBounds}
use Rattle.call_lines.specs.declared.policy.SaidPolicy.{SaidPolicy}
use Rattle.call_lines.specs.declared.policy.SaidPolicy.TheVariants as policies

abbrev Words : Type 0
Words = List (List ℕ)

abbrev NoSpaces : Words → Type 0
NoSpaces words = AllByRecursion NoSpace words

behind : (front back : Words) → NoSpaces front → NoSpaces back → NoSpaces (front ++ back)
behind [] back f b = b
behind (word ∷ front) back f b = (f.0, behind front back f.1 b)

-- ---- words of each kind

optional-no_space : (text : Option (List ℕ)) → NoSpace (optional_word text)
optional-no_space None = letters (codes "none") refl
optional-no_space (Some text) = joined-no_space (codes "t:") (escaped text) (letters (codes "t:") refl) (escaped-no_space text)

name-no_space : (name : Option (List ℕ)) → NoSpaces (name_words name)
name-no_space None = tt
name-no_space (Some name) = (text-no_space name, tt)

moment-no_space : (moment : ℕ) → IsMoment moment → NoSpace (moment_word moment)
moment-no_space moment h = decimal-no_space (moment / 1_000_000) h.0

time-no_space : (time : Option ℕ) → IsTime time → NoSpace (time_word time)
time-no_space None h = letters (codes "now") refl
time-no_space (Some moment) h = moment-no_space moment h

pairs-no_space : (pairs : List (List ℕ × List ℕ)) → NoSpaces (pair_words pairs)
pairs-no_space [] = tt
pairs-no_space (pair ∷ pairs) = (text-no_space pair.0, (text-no_space pair.1, pairs-no_space pairs))

told-no_space : (front : List ℕ) (code : ℕ) (message : List ℕ) → NoSpace front → code < 2 ^ 16 → NoSpace (front ++ told_text code message)
told-no_space front code message f below =
    joined-no_space front (told_text code message) f (joined-no_space (decimal code) (58 ∷ escaped message) (number-no_space code (omega arith)) (refl, escaped-no_space message))

value-no_space : (value : NonEmptyValue) → IsGiven value → NoSpaces (value_words value)
value-no_space (Success bytes) h = (joined-no_space (codes "v:") (escaped bytes) (letters (codes "v:") refl) (escaped-no_space bytes), tt)
value-no_space (Failure failure) h = (told-no_space (codes "f:") failure.code failure.message (letters (codes "f:") refl) h.code, pairs-no_space failure.metadata)

given-no_space : (limit : ℕ) (given : Option ℕ) → limit ≤ 2 ^ 64 → IsGivenBelow limit given → NoSpace (given_word given)
given-no_space limit None wide h = letters (codes "none") refl
given-no_space limit (Some number) wide h = decimal-no_space number (omega arith)

pauses-no_space : (pauses : Bool) → NoSpace (pauses_word pauses)
pauses-no_space false = letters (codes "fail") refl
pauses-no_space true = letters (codes "pause") refl

bounds-no_space : (bounds : SaidBounds) → IsBounds bounds → NoSpaces (bounds_words bounds)
bounds-no_space bounds h = (given-no_space (2 ^ 32) bounds.attempts (omega arith) h.attempts, (given-no_space (2 ^ 64) bounds.millis (omega arith) h.millis, (pauses-no_space bounds.pauses, tt)))

policy-no_space : (policy : SaidPolicy) → IsPolicy policy → NoSpaces (policy_words policy)
policy-no_space policies.Always h = (letters (codes "always") refl, tt)
policy-no_space policies.Never h = (letters (codes "never") refl, tt)
policy-no_space (policies.FixedDelay interval bounds) h = (letters (codes "fixed-delay") refl, (given-no_space (2 ^ 64) interval (omega arith) h.0, bounds-no_space bounds h.1))
policy-no_space (policies.Exponential initial numerator denominator most bounds) h =
    (letters (codes "exponential") refl, (decimal-no_space initial h.0, (number-no_space numerator h.1, (number-no_space denominator h.2, (given-no_space (2 ^ 64) most (omega arith) h.4, bounds-no_space bounds h.5)))))

outcome-no_space : (outcome : SaidOutcome) → IsOutcome outcome → NoSpaces (outcome_words outcome)
outcome-no_space (outcomes.Success bytes) h = (joined-no_space (codes "ok:") (escaped bytes) (letters (codes "ok:") refl) (escaped-no_space bytes), tt)
outcome-no_space (outcomes.Failure failure) h = (told-no_space (codes "fail:") failure.code failure.message (letters (codes "fail:") refl) h.code, pairs-no_space failure.metadata)
outcome-no_space (outcomes.Retry code message millis policy) h =
    (told-no_space (codes "retry:") code message (letters (codes "retry:") refl) h.0, (decimal-no_space millis h.2, policy-no_space policy h.3))

-- ---- trees

combinator-no_space : (combinator : Combinator) (number : ℕ) → IsCombinator combinator → number < 2 ^ 32 → NoSpace (combinator_word combinator number)
combinator-no_space FirstCompleted number h n = joined-no_space (codes "any:") (decimal number) (letters (codes "any:") refl) (number-no_space number n)
combinator-no_space AllCompleted number h n = joined-no_space (codes "all:") (decimal number) (letters (codes "all:") refl) (number-no_space number n)
combinator-no_space FirstSucceededOrAllFailed number h n = joined-no_space (codes "first-succeeded:") (decimal number) (letters (codes "first-succeeded:") refl) (number-no_space number n)
combinator-no_space AllSucceededOrFirstFailed number h n = joined-no_space (codes "all-succeeded:") (decimal number) (letters (codes "all-succeeded:") refl) (number-no_space number n)
combinator-no_space (AtLeast required) number h n =
    joined-no_space (codes "at-least:") (decimal required ++ 58 ∷ decimal number) (letters (codes "at-least:") refl) (joined-no_space (decimal required) (58 ∷ decimal number) (number-no_space required h) (refl, number-no_space number n))
combinator-no_space Unknown number h n = joined-no_space (codes "unknown:") (decimal number) (letters (codes "unknown:") refl) (number-no_space number n)

mutual
  tree-no_space : (tree : AwaitTree ℕ) → IsTree tree → NoSpaces (tree_words tree)
  tree-no_space (Single handle) h = (number-no_space handle h, tt)
  tree-no_space (Combined combinator children) h = (combinator-no_space combinator (count children) h.0 h.1, trees-no_space children h.2)

  trees-no_space : (trees : AwaitTrees ℕ) → AreTrees trees → NoSpaces (all_words trees)
  trees-no_space no_trees h = tt
  trees-no_space (and_trees tree trees) h = behind (tree_words tree) (all_words trees) (tree-no_space tree h.0) (trees-no_space trees h.1)

-- ---- calls

target-no_space : (target : Target) (more : Words) → NoSpaces more → NoSpaces (target_words target more)
target-no_space target more m =
    (text-no_space target.service, (text-no_space target.handler, (optional-no_space target.key, (optional-no_space target.idempotency_key, (optional-no_space target.scope, (optional-no_space target.limit_key, m))))))

called-no_space : (target : Target) (input : List ℕ) (name : Option (List ℕ)) → NoSpaces (target_words target (text_word input ∷ optional_word name ∷ header_words target.headers))
called-no_space target input name = target-no_space target (text_word input ∷ optional_word name ∷ header_words target.headers) (text-no_space input, (optional-no_space name, headers-no_space target.headers))

attached-no_space : (target : AttachInvocationTarget) → NoSpaces (attached_words target)
attached-no_space (InvocationId id) = (letters (codes "id") refl, (text-no_space id, tt))
attached-no_space (WorkflowId name key scope) = (letters (codes "workflow") refl, (text-no_space name, (text-no_space key, (optional-no_space scope, tt))))
attached-no_space (IdempotencyId service handler idempotency_key key scope) =
    (letters (codes "idempotent") refl, (text-no_space service, (text-no_space handler, (text-no_space idempotency_key, (optional-no_space key, (optional-no_space scope, tt))))))

flagged : (flag : Bool) (words : Words) → NoSpaces words → NoSpaces (by_options (record { unstable_serialization = flag }) words)
flagged true words h = (letters (codes "unstable") refl, h)
flagged false words h = h

optioned : (options : PayloadOptions) (words : Words) → NoSpaces words → NoSpaces (by_options options words)
optioned options words h = flagged options.unstable_serialization words h

call-no_space : (call : Call) → IsCall call → NoSpaces (call_words call)
call-no_space (calls.StateGet key name options) h = optioned options (codes "get" ∷ text_word key ∷ name_words name) (letters (codes "get") refl, (text-no_space key, name-no_space name))
call-no_space (calls.StateGetKeys name) h = (letters (codes "keys") refl, name-no_space name)
call-no_space (calls.StateSet key value name options) h = optioned options (codes "set" ∷ text_word key ∷ text_word value ∷ name_words name) (letters (codes "set") refl, (text-no_space key, (text-no_space value, name-no_space name)))
call-no_space (calls.StateClear key name) h = (letters (codes "clear") refl, (text-no_space key, name-no_space name))
call-no_space (calls.StateClearAll name) h = (letters (codes "clear-all") refl, name-no_space name)
call-no_space (calls.Sleep name wake_up now) h = (letters (codes "sleep") refl, (moment-no_space wake_up h.1, (text-no_space name, tt)))
call-no_space (calls.Call target input name options) h =
    optioned options (codes "call" ∷ target_words target (text_word input ∷ optional_word name ∷ header_words target.headers)) (letters (codes "call") refl, called-no_space target input name)
call-no_space (calls.Send target input time name options) h =
    optioned options (codes "send" ∷ time_word time ∷ target_words target (text_word input ∷ optional_word name ∷ header_words target.headers)) (letters (codes "send") refl, (time-no_space time h.2, called-no_space target input name))
call-no_space calls.Awakeable h = (letters (codes "awakeable") refl, tt)
call-no_space (calls.CompleteAwakeable id value options) h =
    optioned options (codes "complete-awakeable" ∷ text_word id ∷ value_words value) (letters (codes "complete-awakeable") refl, (text-no_space id, value-no_space value h.1))
call-no_space (calls.Signal name) h = (letters (codes "signal") refl, (text-no_space name, tt))
call-no_space (calls.CompleteSignal target name value) h = (letters (codes "complete-signal") refl, (text-no_space target, (text-no_space name, value-no_space value h.2)))
call-no_space (calls.GetPromise key) h = (letters (codes "promise") refl, (text-no_space key, tt))
call-no_space (calls.PeekPromise key) h = (letters (codes "peek-promise") refl, (text-no_space key, tt))
call-no_space (calls.CompletePromise key value options) h =
    optioned options (codes "complete-promise" ∷ text_word key ∷ value_words value) (letters (codes "complete-promise") refl, (text-no_space key, value-no_space value h.1))
call-no_space (calls.Run name) h = (letters (codes "run") refl, (text-no_space name, tt))
call-no_space (calls.Cancel target) h = (letters (codes "cancel") refl, (text-no_space target, tt))
call-no_space (calls.Attach target) h = (letters (codes "attach") refl, attached-no_space target)
call-no_space (calls.GetOutput target) h = (letters (codes "output-of") refl, attached-no_space target)
call-no_space (calls.IsCompleted handle) h = (letters (codes "completed") refl, (number-no_space handle h, tt))
call-no_space (calls.Take handle) h = (letters (codes "take") refl, (number-no_space handle h, tt))
call-no_space (calls.Await tree) h = (letters (codes "await") refl, tree-no_space tree h)
call-no_space (calls.Output value options) h = optioned options (codes "output" ∷ value_words value) (letters (codes "output") refl, value-no_space value h)
call-no_space calls.End h = (letters (codes "end") refl, tt)

said-no_space : (what : Said) → IsSaid what → NoSpaces (said_words what)
said-no_space (said.Call call) h = call-no_space call h
said-no_space (said.Wait tree) h = (letters (codes "wait") refl, tree-no_space tree h)

-- ---- lines

pub words-no_space : (line : ClientLine) → IsLine line → NoSpaces (line_words line)
words-no_space (lines.Attempt id now) h = (letters (codes "attempt") refl, (text-no_space id, (decimal-no_space now h.1, tt)))
words-no_space (lines.Do id attempt said) h = (letters (codes "do") refl, (text-no_space id, (number-no_space attempt h.1, said-no_space said h.2)))
words-no_space (lines.Outcome id attempt handle outcome) h =
    (letters (codes "outcome") refl, (text-no_space id, (number-no_space attempt h.1, (number-no_space handle h.2, outcome-no_space outcome h.3))))
words-no_space (lines.Go id attempt) h = (letters (codes "go") refl, (text-no_space id, (number-no_space attempt h.1, tt)))
words-no_space (lines.Suspend id attempt) h = (letters (codes "suspend") refl, (text-no_space id, (number-no_space attempt h.1, tt)))
words-no_space (lines.Asks request) h = request-no_space request h.0
