-- A line that was done, and its answer, which was made or for which memory lacked.
use Rattle.std.proofs.Common.{◌≡◌, ℕ, ◌≤◌, List, length, take, Option, Result, Ok, Err, sym, subst}
use Rattle.std.specs.Prelude.{IfErr, IfOk, true}
use Rattle.std.specs.Result.{result_or}
use Rattle.std.specs.Io.KnownBytes.{Appends}
use Rattle.sqlite_trees.specs.declared.store.Store.{Ghosts}
use Rattle.server_lines.specs.declared.request.Request.{Request}
use Rattle.server_lines.specs.RequestReader.{request_of}
use Rattle.journal_store.specs.StoreView.{Stored}
use Rattle.store_server.specs.declared.fault.ServerFault.{ServerFault}
use Rattle.store_server.specs.declared.fault.ServerFault.TheVariants.{AnswerOutOfMemory, OutputUnwritable}
use Rattle.store_server.specs.RequestAnswers.{MakesAnswer}
use Rattle.store_server.specs.Lasting.{AnswersLine, AnswersRead}
use Rattle.store_server.specs.Dialogue.{DoesGiven, StopsAtLine}

module _ {S : Type 0} (g : Ghosts S) (line : List ℕ) (old new : Stored S) where
  as_line : (read : Option Request) → read ≡ request_of line → (text : List ℕ) → AnswersRead g read text old new → AnswersLine g line text old new
  as_line read is text answers = subst (λ (r : Option Request). AnswersRead g r text old new) is answers

  module _ {T E : Type 0} (bytes_of : T → List ℕ) (read : Option Request) (is : read ≡ request_of line) where
    pub line_answered : (made : Result T E) (after : Result T ServerFault) → after ≡ result_or made (Err AnswerOutOfMemory) → MakesAnswer bytes_of made (λ text. AnswersRead g read text old new)
        → IfOk after (λ it. AnswersLine g line (bytes_of it) old new)
    line_answered (Ok it) after so m =
        subst (λ (r : Result T ServerFault). IfOk r (λ t. AnswersLine g line (bytes_of t) old new)) (sym so) (as_line read is (bytes_of it) (subst (λ (text : List ℕ). AnswersRead g read text old new) (sym m.1) m.2))
    line_answered (Err why) after so m = subst (λ (r : Result T ServerFault). IfOk r (λ t. AnswersLine g line (bytes_of t) old new)) (sym so) tt

    pub line_unanswered : (made : Result T E) (after : Result T ServerFault) → after ≡ result_or made (Err AnswerOutOfMemory) → MakesAnswer bytes_of made (λ text. AnswersRead g read text old new)
        → IfErr after (λ fault. StopsAtLine g line fault old new)
    line_unanswered (Ok it) after so m = subst (λ (r : Result T ServerFault). IfErr r (λ fault. StopsAtLine g line fault old new)) (sym so) tt
    line_unanswered (Err why) after so m = subst (λ (r : Result T ServerFault). IfErr r (λ fault. StopsAtLine g line fault old new)) (sym so) (m.0, as_line read is m.0 m.2)

  -- what was read, with its answer's bytes
  module _ (given : List ℕ) (is : given ≡ line) (text bytes : List ℕ) (are : bytes ≡ text) (had has : Option (List ℕ)) (answers : AnswersLine g given text old new) where
    as_given : AnswersLine g line text old new
    as_given = subst (λ (l : List ℕ). AnswersLine g l text old new) is answers

    pub text_given : Appends had has bytes → DoesGiven g line had has old new (Ok true)
    text_given written = (text, as_given, subst (λ (bs : List ℕ). Appends had has bs) are written)

    pub part_given : (fault : ServerFault) → (fault ≡ OutputUnwritable) × (taken : ℕ) × (taken ≤ length bytes) × Appends had has (take taken bytes) → DoesGiven g line had has old new (Err fault)
    part_given fault part =
        subst (λ (f : ServerFault). DoesGiven g line had has old new (Err f)) (sym part.0)
        (text, as_given, subst (λ (bs : List ℕ). (taken : ℕ) × (taken ≤ length bs) × Appends had has (take taken bs)) are (part.1, part.2, part.3))
