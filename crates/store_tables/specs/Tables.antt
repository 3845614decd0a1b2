-- The tables of the store, and their texts.
use Rattle.std.specs.Prelude.{List, ℕ, [], ◌∷◌, codes}
use Rattle.sqlite.specs.Kind.TheVariants.{Integer, Text, Blob}
use Rattle.sqlite.specs.Schema.{Schema}
use Rattle.sqlite.specs.Table.{Table}
use Rattle.sqlite_catalog.specs.Change.{created, indexed}
use Rattle.sqlite_schema.specs.declared.schema.Column.{Column}
use Rattle.sqlite_schema.specs.declared.schema.Index.{Index}
use Rattle.sql_tables.specs.Columns.{no_schema, optional, plain_index, required, table_of}

abbrev pub meta_text : List ℕ
meta_text = codes "CREATE TABLE meta (name TEXT NOT NULL, version INTEGER NOT NULL) STRICT"

abbrev pub invocation_text : List ℕ
invocation_text = codes "CREATE TABLE invocation (id TEXT NOT NULL UNIQUE, object TEXT NOT NULL, version INTEGER NOT NULL, seed INTEGER NOT NULL, mode INTEGER NOT NULL, open_object TEXT, suspension BLOB, handed INTEGER, closing INTEGER, answer BLOB, error_code INTEGER, error_behavior INTEGER, error_delay INTEGER, error_message TEXT, attempts INTEGER NOT NULL, attempts_since_entry INTEGER NOT NULL, first_moment INTEGER NOT NULL, last_completion INTEGER NOT NULL, entries INTEGER NOT NULL, heard INTEGER, arrivals INTEGER NOT NULL, awake INTEGER NOT NULL) STRICT"

abbrev pub by_open_object_text : List ℕ
by_open_object_text = codes "CREATE INDEX invocation_by_open_object ON invocation (open_object)"

abbrev pub by_awake_text : List ℕ
by_awake_text = codes "CREATE INDEX invocation_by_awake ON invocation (awake)"

abbrev pub entry_text : List ℕ
entry_text = codes "CREATE TABLE entry (invocation TEXT NOT NULL, place INTEGER NOT NULL, kind INTEGER NOT NULL, payload BLOB NOT NULL, completion INTEGER, second_completion INTEGER, answered INTEGER, arrival INTEGER, moment INTEGER NOT NULL) STRICT"

abbrev pub by_place_text : List ℕ
by_place_text = codes "CREATE INDEX entry_by_place ON entry (invocation, place)"

abbrev pub by_completion_text : List ℕ
by_completion_text = codes "CREATE INDEX entry_by_completion ON entry (invocation, completion)"

abbrev pub by_second_completion_text : List ℕ
by_second_completion_text = codes "CREATE INDEX entry_by_second_completion ON entry (invocation, second_completion)"

abbrev pub by_answered_text : List ℕ
by_answered_text = codes "CREATE INDEX entry_by_answered ON entry (invocation, answered)"

abbrev pub by_arrival_text : List ℕ
by_arrival_text = codes "CREATE INDEX entry_by_arrival ON entry (invocation, arrival)"

abbrev pub state_text : List ℕ
state_text = codes "CREATE TABLE state (object TEXT NOT NULL, key BLOB NOT NULL, value BLOB NOT NULL, UNIQUE (object, key)) STRICT"

abbrev pub sleep_text : List ℕ
sleep_text = codes "CREATE TABLE sleep (moment INTEGER NOT NULL, invocation TEXT NOT NULL, completion INTEGER NOT NULL) STRICT"

abbrev pub by_sleeper_text : List ℕ
by_sleeper_text = codes "CREATE INDEX sleep_by_invocation ON sleep (invocation, completion)"

abbrev pub by_moment_text : List ℕ
by_moment_text = codes "CREATE INDEX sleep_by_moment ON sleep (moment)"

abbrev pub meta_columns : List Column
meta_columns = required (codes "name") Text ∷ required (codes "version") Integer ∷ []

abbrev pub meta : Table
meta = table_of 3 (codes "meta") meta_columns []

abbrev pub invocation_columns : List Column
invocation_columns =
    required (codes "id") Text ∷ required (codes "object") Text ∷ required (codes "version") Integer ∷ required (codes "seed") Integer ∷ required (codes "mode") Integer
    ∷ optional (codes "open_object") Text ∷ optional (codes "suspension") Blob ∷ optional (codes "handed") Integer ∷ optional (codes "closing") Integer ∷ optional (codes "answer") Blob
    ∷ optional (codes "error_code") Integer ∷ optional (codes "error_behavior") Integer ∷ optional (codes "error_delay") Integer ∷ optional (codes "error_message") Text
    ∷ required (codes "attempts") Integer ∷ required (codes "attempts_since_entry") Integer ∷ required (codes "first_moment") Integer ∷ required (codes "last_completion") Integer ∷ required (codes "entries") Integer
    ∷ optional (codes "heard") Integer ∷ required (codes "arrivals") Integer ∷ required (codes "awake") Integer ∷ []

-- An id comes once. By the indexes the open invocation of an object is found, and those that are awake: neither is a key, so that no
-- row is tested by it.
abbrev pub invocation_keys : List (List ℕ)
invocation_keys = (1 ∷ []) ∷ []

abbrev pub invocation : Table
invocation = table_of 1 (codes "invocation") invocation_columns invocation_keys

abbrev pub by_open_object : Index
by_open_object = plain_index (codes "invocation_by_open_object") 0 1 (6 ∷ [])

abbrev pub by_awake : Index
by_awake = plain_index (codes "invocation_by_awake") 0 1 (22 ∷ [])

abbrev pub entry_columns : List Column
entry_columns =
    required (codes "invocation") Text ∷ required (codes "place") Integer ∷ required (codes "kind") Integer ∷ required (codes "payload") Blob
    ∷ optional (codes "completion") Integer ∷ optional (codes "second_completion") Integer ∷ optional (codes "answered") Integer
    ∷ optional (codes "arrival") Integer ∷ required (codes "moment") Integer ∷ []

-- By the indexes a journal is found by place, a completion that is asked for, one that is answered, and an arrival by its ordinal.
-- None is a key, by which each entry would be tested as it is added.
abbrev pub entry_keys : List (List ℕ)
entry_keys = []

abbrev pub entry : Table
entry = table_of 0 (codes "entry") entry_columns entry_keys

abbrev pub by_place : Index
by_place = plain_index (codes "entry_by_place") 0 0 (1 ∷ 2 ∷ [])

abbrev pub by_completion : Index
by_completion = plain_index (codes "entry_by_completion") 0 0 (1 ∷ 5 ∷ [])

abbrev pub by_second_completion : Index
by_second_completion = plain_index (codes "entry_by_second_completion") 0 0 (1 ∷ 6 ∷ [])

abbrev pub by_answered : Index
by_answered = plain_index (codes "entry_by_answered") 0 0 (1 ∷ 7 ∷ [])

abbrev pub by_arrival : Index
by_arrival = plain_index (codes "entry_by_arrival") 0 0 (1 ∷ 8 ∷ [])

abbrev pub state_columns : List Column
state_columns = required (codes "object") Text ∷ required (codes "key") Blob ∷ required (codes "value") Blob ∷ []

abbrev pub state_keys : List (List ℕ)
state_keys = (1 ∷ 2 ∷ []) ∷ []

abbrev pub state_table : Table
state_table = table_of 5 (codes "state") state_columns state_keys

abbrev pub sleep_columns : List Column
sleep_columns = required (codes "moment") Integer ∷ required (codes "invocation") Text ∷ required (codes "completion") Integer ∷ []

-- By the indexes those of an invocation are found, and those that end by a moment.
abbrev pub sleep_keys : List (List ℕ)
sleep_keys = []

abbrev pub sleep_table : Table
sleep_table = table_of 4 (codes "sleep") sleep_columns sleep_keys

abbrev pub by_sleeper : Index
by_sleeper = plain_index (codes "sleep_by_invocation") 0 4 (2 ∷ 3 ∷ [])

abbrev pub by_moment : Index
by_moment = plain_index (codes "sleep_by_moment") 0 4 (1 ∷ [])

-- All tables are made before all indexes, and the tables in the order of their names. In this order stock SQLite makes them anew: by
-- VACUUM, and from the text of a dump, of its shell or of other programs. So each has the number in such a file that it has in ours.
abbrev pub with_entry : Schema
with_entry = created no_schema entry

abbrev pub with_invocation : Schema
with_invocation = created with_entry invocation

abbrev pub with_meta : Schema
with_meta = created with_invocation meta

abbrev pub with_sleep : Schema
with_sleep = created with_meta sleep_table

abbrev pub with_state : Schema
with_state = created with_sleep state_table

abbrev pub with_open_object : Schema
with_open_object = indexed with_state invocation by_open_object

abbrev pub with_awake : Schema
with_awake = indexed with_open_object invocation by_awake

abbrev pub with_place : Schema
with_place = indexed with_awake entry by_place

abbrev pub with_completion : Schema
with_completion = indexed with_place entry by_completion

abbrev pub with_second_completion : Schema
with_second_completion = indexed with_completion entry by_second_completion

abbrev pub with_answered : Schema
with_answered = indexed with_second_completion entry by_answered

abbrev pub with_arrival : Schema
with_arrival = indexed with_answered entry by_arrival

abbrev pub with_sleeper : Schema
with_sleeper = indexed with_arrival sleep_table by_sleeper

abbrev pub store_schema : Schema
store_schema = indexed with_sleeper sleep_table by_moment
