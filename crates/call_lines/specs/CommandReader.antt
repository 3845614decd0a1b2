-- The first words of lines, and of calls.
use Rattle.std.specs.Prelude.{ℕ, List, Option, Some, None, codes, if◌then◌else◌, bytes_eq}
use Rattle.std.specs.Option.{option_or}
use Rattle.call_lines.specs.declared.command.LineWord.{LineWord}
use Rattle.call_lines.specs.declared.command.LineWord.TheVariants as lines
use Rattle.call_lines.specs.declared.command.PayloadWord.{PayloadWord}
use Rattle.call_lines.specs.declared.command.PayloadWord.TheVariants as payloads
use Rattle.call_lines.specs.declared.command.PlainWord.{PlainWord}
use Rattle.call_lines.specs.declared.command.PlainWord.TheVariants as plain

unfoldable pub line_word_of : List ℕ → Option LineWord
line_word_of word =
    if bytes_eq word (codes "attempt") then Some lines.Attempt else
    (if bytes_eq word (codes "do") then Some lines.Do else
    (if bytes_eq word (codes "outcome") then Some lines.Outcome else
    (if bytes_eq word (codes "go") then Some lines.Go else
    (if bytes_eq word (codes "suspend") then Some lines.Suspend else None))))

-- calls with a payload
unfoldable pub payload_word_of : List ℕ → Option PayloadWord
payload_word_of word =
    if bytes_eq word (codes "get") then Some payloads.Get else
    (if bytes_eq word (codes "set") then Some payloads.Set else
    (if bytes_eq word (codes "call") then Some payloads.Call else
    (if bytes_eq word (codes "send") then Some payloads.Send else
    (if bytes_eq word (codes "complete-awakeable") then Some payloads.CompleteAwakeable else
    (if bytes_eq word (codes "complete-promise") then Some payloads.CompletePromise else
    (if bytes_eq word (codes "output") then Some payloads.Output else None))))))

-- calls that name something
unfoldable pub naming_word_of : List ℕ → Option PlainWord
naming_word_of word =
    if bytes_eq word (codes "clear") then Some plain.Clear else
    (if bytes_eq word (codes "sleep") then Some plain.Sleep else
    (if bytes_eq word (codes "signal") then Some plain.Signal else
    (if bytes_eq word (codes "complete-signal") then Some plain.CompleteSignal else
    (if bytes_eq word (codes "promise") then Some plain.Promise else
    (if bytes_eq word (codes "peek-promise") then Some plain.PeekPromise else
    (if bytes_eq word (codes "run") then Some plain.Run else
    (if bytes_eq word (codes "cancel") then Some plain.Cancel else
    (if bytes_eq word (codes "attach") then Some plain.Attach else
    (if bytes_eq word (codes "output-of") then Some plain.OutputOf else None)))))))))

-- the others
unfoldable pub asking_word_of : List ℕ → Option PlainWord
asking_word_of word =
    if bytes_eq word (codes "keys") then Some plain.Keys else
    (if bytes_eq word (codes "clear-all") then Some plain.ClearAll else
    (if bytes_eq word (codes "awakeable") then Some plain.Awakeable else
    (if bytes_eq word (codes "completed") then Some plain.Completed else
    (if bytes_eq word (codes "take") then Some plain.Take else
    (if bytes_eq word (codes "await") then Some plain.Await else
    (if bytes_eq word (codes "wait") then Some plain.Wait else
    (if bytes_eq word (codes "end") then Some plain.End else None)))))))

unfoldable pub plain_word_of : List ℕ → Option PlainWord
plain_word_of word = option_or (naming_word_of word) (asking_word_of word)
