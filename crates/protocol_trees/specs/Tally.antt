-- What the children of a node have come to, one after another.
use Rattle.std.specs.Prelude.{◌≡◌, ℕ, ◌-◌, ◌==◌, Bool, true, false, not, ◌||◌, ◌&&◌, if◌then◌else◌, List}
use Rattle.std.specs.List.{list_any, list_all}
use Rattle.journal_model.specs.AwaitTree as Trees
use Rattle.protocol_trees.specs.Shape.{state_meant, shape_combinator}
use Rattle.protocol_trees.specs.declared.tree.AwaitState.{AwaitState}
use Rattle.protocol_trees.specs.declared.tree.AwaitState.TheVariants as states
use Rattle.protocol_trees.specs.declared.tree.AwaitTreeShape.{AwaitTreeShape}
use Rattle.protocol_trees.specs.declared.tree.AwaitTreeShape.TheVariants as shapes
use Rattle.protocol_trees.specs.declared.tally.Tally.{Tally}
use Rattle.protocol_trees.specs.declared.tally.Looked.{Looked}

abbrev pub first_ended_state : AwaitState → AwaitState → AwaitState
first_ended_state states.Pending next = next
first_ended_state states.Succeeded next = states.Succeeded
first_ended_state states.Failed next = states.Failed

-- how many successes a node of this shape asks for
abbrev pub required_of : AwaitTreeShape → ℕ
required_of (shapes.AtLeast required) = required
required_of _ = 0

-- one less, where this holds
abbrev pub less : ℕ → Bool → ℕ
less number holds = if holds then number - 1 else number

abbrev pub no_tally : AwaitTreeShape → Tally
no_tally shape = record {
  first_completed = states.Pending;
  is_one_succeeded = false;
  is_one_failed = false;
  are_all_completed = true;
  are_all_succeeded = true;
  are_all_failed = true;
  missing = required_of shape;
  lacking = required_of shape;
  has_ended = false;
}

-- one child more
abbrev pub added : AwaitTreeShape → Tally → Looked → Tally
added shape tally one = record {
  first_completed = first_ended_state tally.first_completed one.state;
  is_one_succeeded = tally.is_one_succeeded || Trees.is_succeeded (state_meant one.state);
  is_one_failed = tally.is_one_failed || Trees.is_failed (state_meant one.state);
  are_all_completed = tally.are_all_completed && Trees.is_completed (state_meant one.state);
  are_all_succeeded = tally.are_all_succeeded && Trees.is_succeeded (state_meant one.state);
  are_all_failed = tally.are_all_failed && Trees.is_failed (state_meant one.state);
  missing = less tally.missing (Trees.is_succeeded (state_meant one.state));
  lacking = less tally.lacking (not (Trees.is_failed (state_meant one.state)));
  has_ended = tally.has_ended || (Trees.ends_at_once (shape_combinator shape) (state_meant one.state) || one.has_ended);
}

abbrev pub state_in : AwaitTreeShape → Tally → AwaitState
state_in shapes.AllCompleted tally = if tally.are_all_completed then states.Succeeded else states.Pending
state_in shapes.FirstSucceededOrAllFailed tally =
    if tally.is_one_succeeded then states.Succeeded else (if tally.are_all_failed then states.Failed else states.Pending)
state_in shapes.AllSucceededOrFirstFailed tally =
    if tally.is_one_failed then states.Failed else (if tally.are_all_succeeded then states.Succeeded else states.Pending)
state_in (shapes.AtLeast required) tally =
    if tally.missing == 0 then states.Succeeded else (if tally.lacking == 0 then states.Pending else states.Failed)
state_in _ tally = tally.first_completed

abbrev pub has_ended_in : AwaitTreeShape → Tally → Bool
has_ended_in shapes.Single tally = false
has_ended_in (shapes.AtLeast required) tally = Trees.is_completed (state_meant (state_in (shapes.AtLeast required) tally)) || tally.has_ended
has_ended_in _ tally = tally.has_ended

abbrev pub looked_in : AwaitTreeShape → Tally → Looked
looked_in shape tally = record { state = state_in shape tally; has_ended = has_ended_in shape tally }

-- the tally of children of these states, of which one has a node in it that has ended at once
pub record Tallies (shape : AwaitTreeShape) (tally : Tally) (found : List Trees.AwaitState) (has_ended_below : Bool) : Type 0 where
  pub first : state_meant tally.first_completed ≡ Trees.first_completed found
  pub one_succeeded : tally.is_one_succeeded ≡ list_any Trees.is_succeeded found
  pub one_failed : tally.is_one_failed ≡ list_any Trees.is_failed found
  pub all_completed : tally.are_all_completed ≡ list_all Trees.is_completed found
  pub all_succeeded : tally.are_all_succeeded ≡ list_all Trees.is_succeeded found
  pub all_failed : tally.are_all_failed ≡ list_all Trees.is_failed found
  pub missing : tally.missing ≡ required_of shape - Trees.many Trees.is_succeeded found
  pub lacking : tally.lacking ≡ required_of shape - Trees.many (λ state. not (Trees.is_failed state)) found
  pub ended : tally.has_ended ≡ (list_any (Trees.ends_at_once (shape_combinator shape)) found || has_ended_below)
