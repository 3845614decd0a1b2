-- The handlers whose events are timed.
use Rattle.std.specs.Prelude.{ℕ, ◌-◌, nat_lt, if◌then◌else◌, List, length, None, codes, decimal, slice_get, unwrap_or}
use Rattle.journal_model.specs.declared.call.Call.{Call}
use Rattle.journal_model.specs.declared.call.Answer.{Answer}
use Rattle.journal_model.specs.AwaitTree.{Single}
use Rattle.journal_model.specs.Run.{Handler}
use Rattle.built_in_handlers.specs.Handlers.{race, ask, sleep_until, default_options}
use Rattle.bench.specs.declared.schedule.timed.Timed.{Timed}
use Rattle.bench.specs.declared.schedule.timed.Timed.TheVariants as timed

abbrev pub set_of : ℕ → Call
set_of number = Call.StateSet (decimal number) (codes "sixteen bytes...") None default_options

abbrev pub get_of : ℕ → Call
get_of number = Call.StateGet (decimal number) None default_options

-- a handle is awaited, and behind any other answer a run is made
abbrev pub run_or_await : Answer → Call
run_or_await (Answer.Handle handle) = Call.Await (Single handle)
run_or_await _ = Call.Run (codes "r")

abbrev pub run_behind : List Answer → Call
run_behind answers = run_or_await (unwrap_or (slice_get answers (length answers - 1)) Answer.Done)

-- the next-call function of a handler that is timed
abbrev pub function_of : Timed → Handler
function_of (timed.Race alloc) = race
function_of (timed.Ask alloc) = ask
function_of timed.Sleeps = λ input answers. sleep_until 1000 answers
function_of (timed.Sets alloc count) = λ input answers. if nat_lt (length answers) count then set_of (length answers) else Call.End
function_of (timed.Reads alloc count) = λ input answers. if nat_lt (length answers) count then get_of (length answers) else Call.End
function_of timed.Runs = λ input answers. run_behind answers
