-- Those that are left of the attempts so far have their places.
use Rattle.std.proofs.Common.{◌≡◌, ◌≤◌, length, take}
use Rattle.schedule_model.specs.AttemptIndex.{IsIndexed}
use Rattle.schedule_model.specs.LettingGo.{left_of}
use Rattle.schedule_model.proofs.leaving.places_left.Given as goal

abbrev pub invariant-loop-one : goal.invariant-loop-one
invariant-loop-one g l = record {
  indexed : IsIndexed l.places (left_of l.ids l.number (take l.one-index l.attempts));
  count : l.count ≡ length (left_of l.ids l.number (take l.one-index l.attempts));
  few : l.count ≤ l.one-index;
}
