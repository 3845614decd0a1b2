-- The built-in handlers under their names.
use Rattle.std.specs.Prelude.{ℕ, List, [], ◌∷◌, Option, Some, None, codes, bytes_eq, if◌then◌else◌}
use Rattle.std.specs.declared.alloc.Global.{Global}
use Rattle.journal_model.specs.Run.{Handler}
use Rattle.built_in_handlers.specs.Handlers.{nap_until, race, both, ask, pair, twice, keys, read, effect, go, hook, quorum}
use Rattle.built_in_handlers.specs.declared.built_in.BuiltIn.{BuiltIn}
use Rattle.built_in_handlers.specs.declared.built_in.BuiltIn.TheVariants as handler

-- the next-call function of a built-in handler
abbrev pub function_of : BuiltIn → Handler
function_of (handler.Nap nap) = nap_until nap.until_ms
function_of (handler.Race h) = race
function_of (handler.Both h) = both
function_of (handler.Ask h) = ask
function_of (handler.Pair h) = pair
function_of (handler.Twice h) = twice
function_of (handler.Keys h) = keys
function_of (handler.Read h) = read
function_of (handler.Effect h) = effect
function_of (handler.Go h) = go
function_of (handler.Hook h) = hook
function_of (handler.Quorum h) = quorum

-- the names, each with its handler
abbrev pub names : Global → List (List ℕ × BuiltIn)
names alloc =
    (codes "nap", handler.Nap (record { alloc = alloc; until_ms = 10 }))
    ∷ (codes "nap99", handler.Nap (record { alloc = alloc; until_ms = 99 }))
    ∷ (codes "race", handler.Race (record { alloc = alloc }))
    ∷ (codes "both", handler.Both (record { alloc = alloc }))
    ∷ (codes "ask", handler.Ask (record { alloc = alloc }))
    ∷ (codes "pair", handler.Pair (record { alloc = alloc }))
    ∷ (codes "twice", handler.Twice (record { alloc = alloc }))
    ∷ (codes "keys", handler.Keys (record { alloc = alloc }))
    ∷ (codes "read", handler.Read (record { alloc = alloc }))
    ∷ (codes "effect", handler.Effect (record { alloc = alloc }))
    ∷ (codes "go", handler.Go (record { alloc = alloc }))
    ∷ (codes "hook", handler.Hook (record { alloc = alloc }))
    ∷ (codes "quorum", handler.Quorum (record { alloc = alloc }))
    ∷ []

-- the handler beside a name; a name that is not there has none
abbrev pub find_name : List ℕ → List (List ℕ × BuiltIn) → Option BuiltIn
find_name name [] = None
find_name name (one ∷ more) = if bytes_eq name one.0 then Some one.1 else find_name name more

unfoldable pub built_in : Global → List ℕ → Option BuiltIn
built_in alloc name = find_name name (names alloc)
