-- The header by which an invocation tells which handler it is of, and what a new invocation is where nothing more is said.
use Rattle.std.specs.Prelude.{List, [], ◌∷◌, ◌++◌, Bool, ◌&&◌, None, codes, bytes_eq}
use Rattle.std.specs.List.{list_any}
use Rattle.journal_model.specs.Notification.{Text}
use Rattle.journal_model.specs.declared.call.Header.{Header}
use Rattle.journal_model.specs.declared.handler.Input.{Input}
use Rattle.journal_model.specs.declared.invocation.NewInvocation.{NewInvocation}
use Rattle.journal_model.specs.declared.invocation.StateMode.TheVariants.{Whole}

abbrev pub handler_header : Text
handler_header = codes "hengomaru-handler"

-- whether a header tells that its invocation is of the handler of this name
abbrev pub tells_handler : Text → Header → Bool
tells_handler name header = bytes_eq header.key handler_header && bytes_eq header.value name

-- whether an input is of an invocation of this handler
abbrev pub is_for : Input → Text → Bool
is_for input name = list_any (tells_handler name) input.headers

-- one of the latest version, with its object's whole state and no headers
abbrev pub plain_invocation : Text → Text → Text → NewInvocation
plain_invocation id object input = record { id = id; object = object; input = input; headers = []; version = 9; seed = 1; state = Whole }

-- the same of the handler of this name
abbrev pub of_handler : Text → NewInvocation → NewInvocation
of_handler name new = record new { headers = new.headers ++ record { key = handler_header; value = name } ∷ [] }
