-- Which steps go astray on no answer of their call's kind.
use Rattle.std.proofs.Common.{◌≡◌, refl, sym, ◌∙◌, ℕ, Bool, true, false, List, [], ◌∷◌}
use Rattle.journal_model.specs.AwaitTree.{AwaitTree}
use Rattle.journal_model.specs.declared.call.Call.{Call}
use Rattle.journal_model.specs.declared.call.Answer.{Answer}
use Rattle.straight_line.specs.Steps.{Steps, ◌>>=◌, ◌>>◌, done, make}
use Rattle.straight_line.specs.Calls.{handle_of_answer, handle_for, done_by, called_of_answer, awakeable_of_answer, completed_of_answer, woken_of_answer, wait_for}
use Rattle.straight_line.specs.Laws.{AnswerKind, OneHandle, TwoHandles, TextAndHandle, Whether, EndOfAwait, kind_of_answer, kind_of_call, is_astray, MakesFirst}

-- by a handle
on_handle : {A : Type 0} (f : ℕ → A) (answer : Answer) (answers : List Answer)
    → kind_of_answer answer ≡ OneHandle → is_astray ((handle_of_answer answer >>= λ handle. done (f handle)) answers) ≡ false
on_handle f (Answer.Handle handle) answers is = refl
on_handle f _ answers is = cc

pub by_handle : {A : Type 0} (call : Call) (f : ℕ → A) → kind_of_call call ≡ OneHandle → MakesFirst call (handle_for call >>= λ handle. done (f handle))
by_handle call f kind = record { first = refl; answered = λ answer answers is. on_handle f answer answers (is ∙ kind) }

-- at once
pub at_once : (call : Call) → MakesFirst call (done_by call)
at_once call = record { first = refl; answered = λ answer answers is. refl }

-- by two handles
pub on_handles : (answer : Answer) (answers : List Answer) → kind_of_answer answer ≡ TwoHandles → is_astray (called_of_answer answer answers) ≡ false
on_handles (Answer.Handles id_handle result_handle) answers is = refl
on_handles _ answers is = cc

pub on_text : (answer : Answer) (answers : List Answer) → kind_of_answer answer ≡ TextAndHandle → is_astray (awakeable_of_answer answer answers) ≡ false
on_text (Answer.Awakeable id handle) answers is = refl
on_text _ answers is = cc

pub on_look : (answer : Answer) (answers : List Answer) → kind_of_answer answer ≡ Whether → is_astray (completed_of_answer answer answers) ≡ false
on_look (Answer.Completed is_completed) answers is = refl
on_look _ answers is = cc

pub on_end : (answer : Answer) (answers : List Answer) → kind_of_answer answer ≡ EndOfAwait → is_astray (woken_of_answer answer answers) ≡ false
on_end Answer.Woken answers is = refl
on_end Answer.Cancelled answers is = refl
on_end _ answers is = cc
