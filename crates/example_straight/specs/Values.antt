-- The values of an order.
use Rattle.std.specs.Prelude.{ℕ, [], codes}
use Rattle.journal_model.specs.declared.value.TerminalFailure.{TerminalFailure}

-- how long an order waits for its confirmation, in milliseconds
abbrev pub an_hour : ℕ
an_hour = 3_600_000

-- what an order fails with whose payment was refused as often as it was tried
unfoldable pub not_paid : TerminalFailure
not_paid = record { code = 402; message = codes "not paid"; metadata = [] }
