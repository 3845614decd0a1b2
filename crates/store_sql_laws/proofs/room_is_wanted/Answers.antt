-- The laws are proved in `Room`.
use Rattle.store_sql_laws.proofs.Room.{events_want_room, writes_want_room}
use Rattle.store_sql_laws.proofs.room_is_wanted.Goals as goal

pub returns-clause-writes : goal.returns-clause-writes
returns-clause-writes c = writes_want_room

pub returns-clause-events : goal.returns-clause-events
returns-clause-events c = events_want_room
