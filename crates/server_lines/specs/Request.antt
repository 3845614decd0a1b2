-- The one line by which a request is printed, and which requests have one.
use Rattle.std.specs.Prelude.{◌≡◌, ℕ, ◌<◌, ◌≤◌, ◌^◌, List, [], ◌∷◌, length, map, All, Some, codes, decimal}
use Rattle.std.specs.List.{AllByRecursion, join_with_byte}
use Rattle.script_lines.specs.Text.{hex_text}
use Rattle.script_lines.specs.Word.{mode_word}
use Rattle.journal_model.specs.declared.call.Header.{Header}
use Rattle.journal_model.specs.declared.invocation.NewInvocation.{NewInvocation}
use Rattle.server_lines.specs.declared.request.Request.{Request}
use Rattle.server_lines.specs.declared.request.Request.TheVariants.{Invoke, Result, Signal, Cancel, Tick, Begin, Input, Output, Close, Stop, Forget, Due, DueOne, DueAfter, Next, Show, Answer, State, Error, List as ListRequest, Requests}
use Rattle.server_lines.specs.Word.{IsByte, IsKey, IsText, IsValue, key_word, text_word, value_word}
use Rattle.server_lines.specs.RequestReader.{request_of}

abbrev pub header_words : List Header → List (List ℕ)
header_words [] = []
header_words (header ∷ headers) = text_word header.key ∷ text_word header.value ∷ header_words headers

-- the words of a request: a command, and what it is about; numbers are decimal
abbrev pub words_of : Request → List (List ℕ)
words_of (Invoke new) =
    codes "invoke" ∷ text_word new.id ∷ text_word new.object ∷ decimal new.version ∷ mode_word new.state ∷ decimal new.seed ∷ text_word new.input ∷ header_words new.headers
words_of (Result id completion value) = codes "result" ∷ text_word id ∷ decimal completion ∷ value_word value ∷ []
words_of (Signal id key value) = codes "signal" ∷ text_word id ∷ key_word key ∷ value_word value ∷ []
words_of (Cancel id) = codes "cancel" ∷ text_word id ∷ []
words_of (Tick now) = codes "tick" ∷ decimal now ∷ []
words_of (Begin id now) = codes "begin" ∷ text_word id ∷ decimal now ∷ []
words_of (Input id attempt most) = codes "input" ∷ text_word id ∷ decimal attempt ∷ decimal most ∷ []
words_of (Output id attempt bytes) = codes "output" ∷ text_word id ∷ decimal attempt ∷ hex_text bytes ∷ []
words_of (Close id attempt) = codes "close" ∷ text_word id ∷ decimal attempt ∷ []
words_of (Stop id attempt) = codes "stop" ∷ text_word id ∷ decimal attempt ∷ []
words_of (Forget ids) = codes "forget" ∷ map text_word ids
words_of Due = codes "due" ∷ []
words_of (DueOne id) = codes "due" ∷ text_word id ∷ []
words_of (DueAfter after most) = codes "due" ∷ text_word after ∷ decimal most ∷ []
words_of Next = codes "next" ∷ []
words_of (Show id) = codes "show" ∷ text_word id ∷ []
words_of (Answer id) = codes "answer" ∷ text_word id ∷ []
words_of (State object) = codes "state" ∷ text_word object ∷ []
words_of (Error id) = codes "error" ∷ text_word id ∷ []
words_of (ListRequest after most) = codes "list" ∷ text_word after ∷ decimal most ∷ []
words_of (Requests id) = codes "requests" ∷ text_word id ∷ []

abbrev pub request_spelling : Request → List ℕ
request_spelling request = join_with_byte 32 (words_of request)

abbrev pub IsHeader : Header → Type 0
IsHeader header = IsText header.key × IsText header.value

-- an invocation whose texts are such, and whose numbers are within their types
pub record IsInvocation (new : NewInvocation) : Type 0 where
  pub id : IsText new.id
  pub object : IsText new.object
  pub version : new.version < 2 ^ 32
  pub seed : new.seed < 2 ^ 64
  pub input : All IsByte new.input
  pub headers : AllByRecursion IsHeader new.headers

-- the requests that code can hold, but for values that none brings
abbrev pub IsRequest : Request → Type 0
IsRequest (Invoke new) = IsInvocation new
IsRequest (Result id completion value) = IsText id × (completion < 2 ^ 32) × IsValue value
IsRequest (Signal id key value) = IsText id × IsKey key × IsValue value
IsRequest (Cancel id) = IsText id
IsRequest (Tick now) = now < 2 ^ 64
IsRequest (Begin id now) = IsText id × (now < 2 ^ 64)
IsRequest (Input id attempt most) = IsText id × (attempt < 2 ^ 32) × (most < 2 ^ 32)
IsRequest (Output id attempt bytes) = IsText id × (attempt < 2 ^ 32) × All IsByte bytes
IsRequest (Close id attempt) = IsText id × (attempt < 2 ^ 32)
IsRequest (Stop id attempt) = IsText id × (attempt < 2 ^ 32)
IsRequest (Forget ids) = (1 ≤ length ids) × AllByRecursion IsText ids
IsRequest Due = Unit {0}
IsRequest (DueOne id) = IsText id
IsRequest (DueAfter after most) = IsText after × (most < 2 ^ 32)
IsRequest Next = Unit {0}
IsRequest (Show id) = IsText id
IsRequest (Answer id) = IsText id
IsRequest (State object) = IsText object
IsRequest (Error id) = IsText id
IsRequest (ListRequest after most) = IsText after × (most < 2 ^ 32)
IsRequest (Requests id) = IsText id

-- each request is what its printed line spells
abbrev pub ReadsBack : Type 0
ReadsBack = (request : Request) → IsRequest request → request_of (request_spelling request) ≡ Some request
