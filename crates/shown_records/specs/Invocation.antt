-- What is printed of an invocation.
use Rattle.std.specs.Prelude.{ℕ, Bool, List, [], ◌∷◌, ◌++◌, Option, Some, None, codes}
use Rattle.std.specs.List.{flat_map}
use Rattle.journal_model.specs.declared.value.NonEmptyValue.{NonEmptyValue}
use Rattle.journal_model.specs.declared.value.NonEmptyValue.TheVariants.{Success, Failure}
use Rattle.script_lines.specs.Text.{value_line, failure_line, open_text}
use Rattle.shown_records.specs.declared.entry.ShownEntry.{ShownEntry}
use Rattle.shown_records.specs.Entries.{entry_text}

abbrev pub answer_line : Option NonEmptyValue → List ℕ
answer_line None = codes "answer none"
answer_line (Some (Success bytes)) = value_line bytes
answer_line (Some (Failure failure)) = failure_line failure.code failure.message

-- the requests and arrivals, the answer, and whether it is open
abbrev pub shown_text : List ShownEntry → Option NonEmptyValue → Bool → List ℕ
shown_text entries answer is_open_now = flat_map entry_text entries ++ (answer_line answer ++ 10 ∷ (open_text is_open_now ++ 10 ∷ []))
