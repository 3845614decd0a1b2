-- Reads of the state of an object that the store has to answer, and frames that the row of the invocation decides on.
use Rattle.std.proofs.Common.{◌≡◌, refl, Bool, true, false, []}
use Rattle.journal_model.specs.State.{StateMap}
use Rattle.journal_model.specs.Request.{Request}
use Rattle.journal_model.specs.Event.{Frame}
use Rattle.journal_model.specs.Journal.{read_answer}
use Rattle.store_frames.specs.Commands.{state_use}
use Rattle.store_model.specs.Steps.{answers_at_once}
use Rattle.store_steps.specs.FrameAnswers.{answers_told}

-- whether the store has to answer a request from the state of its object
abbrev pub is_lazy_read : Request → Bool
is_lazy_read (Request.GetLazyState key n name) = true
is_lazy_read (Request.GetLazyStateKeys n name) = true
is_lazy_read _ = false

-- a frame that the row of its invocation decides on: no such read, and no outcome of a run
abbrev pub IsByRow : Frame → Type 0
IsByRow (Frame.Command request) = is_lazy_read request ≡ false
IsByRow (Frame.RunOutcome n value asks) = ⊥
IsByRow _ = Unit {0}

pub no_answer : (state : StateMap) (request : Request) → is_lazy_read request ≡ false → read_answer state request ≡ []
no_answer state (Request.GetLazyState key n name) e = cc
no_answer state (Request.GetLazyStateKeys n name) e = cc
no_answer state _ e = refl

pub none_at_once : (request : Request) → is_lazy_read request ≡ false → answers_at_once request ≡ 0
none_at_once (Request.GetLazyState key n name) e = cc
none_at_once (Request.GetLazyStateKeys n name) e = cc
none_at_once _ e = refl

pub none_told : (request : Request) → is_lazy_read request ≡ false → answers_told (state_use request) ≡ 0
none_told (Request.GetLazyState key n name) e = cc
none_told (Request.GetLazyStateKeys n name) e = cc
none_told _ e = refl
