-- What waits to be handed out of an attempt, and what is handed out of it.
use Rattle.std.specs.Prelude.{◌≡◌, ◌≤◌, ◌⊎◌, ℕ, [], ◌++◌, length, take, drop, Result, Ok, Err}
use Rattle.std.specs.declared.alloc.AllocError.{AllocError}
use Rattle.journal_model.specs.Notification.{Bytes}
use Rattle.vm_core.specs.declared.core_vm.CoreVM.{CoreVM}
use Rattle.vm_attempt.specs.declared.attempt.Attempt.{Attempt}

-- nothing of a machine but what it has written and was not taken
abbrev pub OnlyTaken : (old new : CoreVM) → Type 0
OnlyTaken old new = new ≡ record old { state = record old.state { active = record old.state.active { output = record old.state.active.output { bytes = new.state.active.output.bytes } } } }

module _ {H : Type 0} where
  -- the bytes that were taken from its machine, in two pieces
  abbrev pub taken_of : Attempt H → Bytes
  taken_of a = a.front ++ a.behind

  -- the bytes that wait: those, and what its machine has written since
  abbrev pub output_of : Attempt H → Bytes
  output_of a = taken_of a ++ a.vm.state.active.output.bytes

  -- nothing but where the bytes are that wait
  pub record OnlyMoves (before after : Attempt H) : Type 0 where
    pub machine : OnlyTaken before.vm after.vm
    pub others : after ≡ record before { vm = after.vm; front = after.front; behind = after.behind }

  -- the same bytes wait
  pub record Gathers (before after : Attempt H) : Type 0 where
    pub moves : OnlyMoves before after
    pub same : output_of after ≡ output_of before

  -- the front piece has so many bytes, or all that wait
  abbrev pub HasFront : ℕ → Attempt H → Type 0
  HasFront count a = (count ≤ length a.front) ⊎ ((a.behind ≡ []) × (a.vm.state.active.output.bytes ≡ []))

  -- ---- bytes that stay

  pub record ShowsFirst (max : ℕ) (bytes : Bytes) (before after : Attempt H) : Type 0 where
    pub gathers : Gathers before after
    pub first : bytes ≡ take max (output_of before)
    -- so they can be let go
    pub taken : length bytes ≤ length (taken_of after)

  -- the first bytes are shown, so many at most; the same bytes wait, also where memory is refused
  abbrev pub Shows : ℕ → (before : Attempt H) → Result Bytes AllocError → (after : Attempt H) → Type 0
  Shows max before (Ok bytes) after = ShowsFirst max bytes before after
  Shows max before (Err refused) after = Gathers before after

  -- ---- bytes that leave

  -- the first bytes leave, of those that were taken from the machine
  pub record LetsGo (count : ℕ) (before after : Attempt H) : Type 0 where
    pub taken : taken_of after ≡ drop count (taken_of before)
    pub others : after ≡ record before { front = after.front; behind = after.behind }

  -- so many leave, and what waits then is what waited behind them
  pub record Advances (count : ℕ) (before after : Attempt H) : Type 0 where
    pub moves : OnlyMoves before after
    pub rest : output_of after ≡ drop count (output_of before)

  pub record HandsOutFirst (max : ℕ) (bytes : Bytes) (before after : Attempt H) : Type 0 where
    pub moves : OnlyMoves before after
    pub front : bytes ≡ take max (output_of before)
    pub rest : output_of after ≡ drop max (output_of before)

  -- so many of the first bytes are handed out, or all there are; where memory is refused they all stay
  abbrev pub TakesOutput : ℕ → (before : Attempt H) → Result Bytes AllocError → (after : Attempt H) → Type 0
  TakesOutput max before (Ok bytes) after = HandsOutFirst max bytes before after
  TakesOutput max before (Err refused) after = Gathers before after
