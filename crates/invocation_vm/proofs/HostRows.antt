-- What no turn of a host's attempt does, whatever its handler is.
use Rattle.std.proofs.Common.{◌≡◌, inl, inr, ℕ, Bool, true, List, [], ◌∷◌, ◌∙◌, map, Option, Some, None, refl, sym, subst}
use Rattle.invocation_vm.specs.Host.{AttemptStart, Frame, frame_meant, Handler, HasJournal, Hosted, Request, RunOutcome, Sent, Told, Turn, TurnsSo, TurnTellsNow, Version, WritesWhere}

module _ (next : Handler) (start : AttemptStart) (told : Told) (ran : RunOutcome) (now : Told) where
  suspends_by : (o : Option Turn) → o ≡ None → TurnTellsNow next start told o ran Turn.Suspended now → told.is_closed ≡ true
  suspends_by (Some last) none tells = let clash : Some last ≡ None = none in absurd cc
  suspends_by None none (inl lacks) = let clash = lacks.0 in absurd cc
  suspends_by None none (inr tells) = tells.1

  executes_by : (o : Option Turn) → o ≡ None → TurnTellsNow next start told o ran Turn.RanBody now → HasJournal start told.bytes
  executes_by (Some last) none tells = let clash : Some last ≡ None = none in absurd cc
  executes_by None none (inl lacks) = let clash = lacks.0 in absurd cc
  executes_by None none (inr tells) = tells.2.journal

no_end : (more : List Request) → Frame.End ∷ [] ≡ map Frame.Command more → ⊥
no_end [] same = cc
no_end (request ∷ more) same = cc

module _ (version : Version) (start : AttemptStart) (host : Hosted) (next : Handler) (ran : RunOutcome) (more : List Sent) (now : Told) (going : host.told.over ≡ None) where
  -- one whose input is open is not suspended
  pub suspends_closed : TurnsSo version start host next ran Turn.Suspended more now → host.told.is_closed ≡ true
  suspends_closed so = suspends_by next start host.told ran now host.told.over going so.tells

  -- no body is executed before the journal has come whole
  pub executes_behind_journal : TurnsSo version start host next ran Turn.RanBody more now → HasJournal start host.told.bytes
  executes_behind_journal so = executes_by next start host.told ran now host.told.over going so.tells

  -- a turn that has answered a call has not ended the invocation
  pub answers_no_end : TurnsSo version start host next ran Turn.Answered more now → map (frame_meant version) more ≡ Frame.End ∷ [] → ⊥
  answers_no_end so ends =
      let writes : WritesWhere version start host next None Turn.Answered more now = subst (λ (o : Option Turn). WritesWhere version start host next o Turn.Answered more now) going so.writes in
      no_end writes.0 (sym ends ∙ writes.1)

module _ (version : Version) (start : AttemptStart) (host : Hosted) (next : Handler) (ran : RunOutcome) (turn last : Turn) (more : List Sent) (now : Told) where
  -- one that is over writes nothing more
  pub over_is_silent : host.told.over ≡ Some last → TurnsSo version start host next ran turn more now → more ≡ []
  over_is_silent over so = subst (λ (o : Option Turn). WritesWhere version start host next o turn more now) over so.writes
