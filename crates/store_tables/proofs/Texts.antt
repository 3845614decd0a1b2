-- The texts that make the tables and the indexes of a store, each over the schema that it meets.
use Rattle.std.proofs.Common.{◌≡◌, ◌<◌, ltb, ℕ, zero, suc, true, List, [], ◌∷◌, get_or, length, refl, arith}
use Rattle.std.specs.Prelude.{IsUtf8}
use Rattle.std.specs.List.{list_all}
use Rattle.std.proofs.lemmas.Bool.{and_parts, ltb-true}
use Rattle.std.proofs.lemmas.Str.{IsUtf8-from_ascii}
use Rattle.sqlite.specs.Schema.{Schema}
use Rattle.sqlite.specs.Table.{Table}
use Rattle.sqlite.specs.Listing.{understood}
use Rattle.sqlite_schema.specs.declared.schema.Index.{Index}
use Rattle.sqlite_tied.specs.Compute.{everything}
use Rattle.sqlite_trees.specs.Sound.{begins, fits_kind, is_free_name, same_name}
use Rattle.sqlite_value.specs.Order.{value_cmp}
use Rattle.sql_tables.specs.Columns.{no_schema}
use Rattle.sql_tables.proofs.Making.{IsIndexing, IsMaking}
use Rattle.sql_tables.proofs.Readable.{IsWhole}
use Rattle.sql_tables.proofs.Unrefused.{IsIndexable, IsMakable}
use Rattle.store_tables.specs.Tables.{meta, invocation, entry, state_table, sleep_table, by_open_object, by_awake, by_place, by_completion, by_second_completion, by_answered, by_arrival, by_sleeper, by_moment, with_meta, with_invocation, with_entry, with_state, with_sleep, with_open_object, with_awake, with_place, with_completion, with_second_completion, with_answered, with_arrival, with_sleeper, meta_text, invocation_text, entry_text, state_text, sleep_text, by_open_object_text, by_awake_text, by_place_text, by_completion_text, by_second_completion_text, by_answered_text, by_arrival_text, by_sleeper_text, by_moment_text}

ascii : (bytes : List ℕ) → list_all (λ b. ltb b 128) bytes ≡ true → (i : ℕ) → get_or bytes i 0 < 128
ascii [] h i = omega arith
ascii (byte ∷ bytes) h zero = ltb-true byte 128 (and_parts _ _ h).0
ascii (byte ∷ bytes) h (suc i) = ascii bytes (and_parts _ _ h).1 i

-- a text of ASCII alone is UTF-8
ascii_text : (bytes : List ℕ) → list_all (λ b. ltb b 128) bytes ≡ true → IsUtf8 bytes
ascii_text bytes h = IsUtf8-from_ascii bytes (ascii bytes h)

-- the text makes that table, and SQL's rules do not refuse it
pub record MakesTable (schema : Schema) (sql : List ℕ) (table : Table) : Type 0 where
  pub making : IsMaking schema sql table
  pub whole : IsWhole (understood schema sql) (length sql) 0
  pub makable : IsMakable schema sql table

-- the text makes that index, and SQL's rules do not refuse it of a table without rows
pub record MakesIndex (schema : Schema) (sql : List ℕ) (at : ℕ) (table : Table) (index : Index) : Type 0 where
  pub indexing : IsIndexing schema sql at table index
  pub whole : IsWhole (understood schema sql) (length sql) 0
  pub indexable : IsIndexable schema sql table index

pub makes_entry : MakesTable no_schema entry_text (record entry { tree = 0 })
unfolding understood everything fits_kind is_free_name begins same_name value_cmp lib.Ieee.is_nan lib.Ieee.lt
makes_entry = record {
  making = record { command = refl; text = refl; plain = (refl, refl); defined = refl; uncounted = refl };
  whole = (omega arith, refl);
  makable = record { text = ascii_text entry_text refl; name = ascii_text entry.name refl; open_name = refl; unused = refl; unused_keys = tt; few = omega arith; reals = omega arith; key_reals = tt; formed = refl; fit = refl; short = omega arith };
}

pub makes_invocation : MakesTable with_entry invocation_text (record invocation { tree = 0 })
unfolding understood everything fits_kind is_free_name begins same_name value_cmp lib.Ieee.is_nan lib.Ieee.lt
makes_invocation = record {
  making = record { command = refl; text = refl; plain = (refl, refl); defined = refl; uncounted = refl };
  whole = (omega arith, refl);
  makable = record { text = ascii_text invocation_text refl; name = ascii_text invocation.name refl; open_name = refl; unused = refl; unused_keys = (refl, tt); few = omega arith; reals = omega arith; key_reals = (omega arith, tt); formed = refl; fit = refl; short = omega arith };
}

pub makes_meta : MakesTable with_invocation meta_text (record meta { tree = 0 })
unfolding understood everything fits_kind is_free_name begins same_name value_cmp lib.Ieee.is_nan lib.Ieee.lt
makes_meta = record {
  making = record { command = refl; text = refl; plain = (refl, refl); defined = refl; uncounted = refl };
  whole = (omega arith, refl);
  makable = record { text = ascii_text meta_text refl; name = ascii_text meta.name refl; open_name = refl; unused = refl; unused_keys = tt; few = omega arith; reals = omega arith; key_reals = tt; formed = refl; fit = refl; short = omega arith };
}

pub makes_sleep : MakesTable with_meta sleep_text (record sleep_table { tree = 0 })
unfolding understood everything fits_kind is_free_name begins same_name value_cmp lib.Ieee.is_nan lib.Ieee.lt
makes_sleep = record {
  making = record { command = refl; text = refl; plain = (refl, refl); defined = refl; uncounted = refl };
  whole = (omega arith, refl);
  makable = record { text = ascii_text sleep_text refl; name = ascii_text sleep_table.name refl; open_name = refl; unused = refl; unused_keys = tt; few = omega arith; reals = omega arith; key_reals = tt; formed = refl; fit = refl; short = omega arith };
}

pub makes_state : MakesTable with_sleep state_text (record state_table { tree = 0 })
unfolding understood everything fits_kind is_free_name begins same_name value_cmp lib.Ieee.is_nan lib.Ieee.lt
makes_state = record {
  making = record { command = refl; text = refl; plain = (refl, refl); defined = refl; uncounted = refl };
  whole = (omega arith, refl);
  makable = record { text = ascii_text state_text refl; name = ascii_text state_table.name refl; open_name = refl; unused = refl; unused_keys = (refl, tt); few = omega arith; reals = omega arith; key_reals = (omega arith, tt); formed = refl; fit = refl; short = omega arith };
}

pub makes_by_open_object : MakesIndex with_state by_open_object_text 1 invocation by_open_object
unfolding understood everything fits_kind is_free_name begins same_name value_cmp lib.Ieee.is_nan lib.Ieee.lt
makes_by_open_object = record {
  indexing = record { command = refl; text = refl; plain = (refl, refl); found = refl; defined = refl };
  whole = (omega arith, refl);
  indexable = record { text = ascii_text by_open_object_text refl; name = ascii_text by_open_object.name refl; table_name = ascii_text invocation.name refl; open_name = refl; unused = refl; few = omega arith; reals = omega arith; key_reals = omega arith; fit = refl; short = omega arith };
}

pub makes_by_awake : MakesIndex with_open_object by_awake_text 1 invocation by_awake
unfolding understood everything fits_kind is_free_name begins same_name value_cmp lib.Ieee.is_nan lib.Ieee.lt
makes_by_awake = record {
  indexing = record { command = refl; text = refl; plain = (refl, refl); found = refl; defined = refl };
  whole = (omega arith, refl);
  indexable = record { text = ascii_text by_awake_text refl; name = ascii_text by_awake.name refl; table_name = ascii_text invocation.name refl; open_name = refl; unused = refl; few = omega arith; reals = omega arith; key_reals = omega arith; fit = refl; short = omega arith };
}

pub makes_by_place : MakesIndex with_awake by_place_text 0 entry by_place
unfolding understood everything fits_kind is_free_name begins same_name value_cmp lib.Ieee.is_nan lib.Ieee.lt
makes_by_place = record {
  indexing = record { command = refl; text = refl; plain = (refl, refl); found = refl; defined = refl };
  whole = (omega arith, refl);
  indexable = record { text = ascii_text by_place_text refl; name = ascii_text by_place.name refl; table_name = ascii_text entry.name refl; open_name = refl; unused = refl; few = omega arith; reals = omega arith; key_reals = omega arith; fit = refl; short = omega arith };
}

pub makes_by_completion : MakesIndex with_place by_completion_text 0 entry by_completion
unfolding understood everything fits_kind is_free_name begins same_name value_cmp lib.Ieee.is_nan lib.Ieee.lt
makes_by_completion = record {
  indexing = record { command = refl; text = refl; plain = (refl, refl); found = refl; defined = refl };
  whole = (omega arith, refl);
  indexable = record { text = ascii_text by_completion_text refl; name = ascii_text by_completion.name refl; table_name = ascii_text entry.name refl; open_name = refl; unused = refl; few = omega arith; reals = omega arith; key_reals = omega arith; fit = refl; short = omega arith };
}

pub makes_by_second_completion : MakesIndex with_completion by_second_completion_text 0 entry by_second_completion
unfolding understood everything fits_kind is_free_name begins same_name value_cmp lib.Ieee.is_nan lib.Ieee.lt
makes_by_second_completion = record {
  indexing = record { command = refl; text = refl; plain = (refl, refl); found = refl; defined = refl };
  whole = (omega arith, refl);
  indexable = record { text = ascii_text by_second_completion_text refl; name = ascii_text by_second_completion.name refl; table_name = ascii_text entry.name refl; open_name = refl; unused = refl; few = omega arith; reals = omega arith; key_reals = omega arith; fit = refl; short = omega arith };
}

pub makes_by_answered : MakesIndex with_second_completion by_answered_text 0 entry by_answered
unfolding understood everything fits_kind is_free_name begins same_name value_cmp lib.Ieee.is_nan lib.Ieee.lt
makes_by_answered = record {
  indexing = record { command = refl; text = refl; plain = (refl, refl); found = refl; defined = refl };
  whole = (omega arith, refl);
  indexable = record { text = ascii_text by_answered_text refl; name = ascii_text by_answered.name refl; table_name = ascii_text entry.name refl; open_name = refl; unused = refl; few = omega arith; reals = omega arith; key_reals = omega arith; fit = refl; short = omega arith };
}

pub makes_by_arrival : MakesIndex with_answered by_arrival_text 0 entry by_arrival
unfolding understood everything fits_kind is_free_name begins same_name value_cmp lib.Ieee.is_nan lib.Ieee.lt
makes_by_arrival = record {
  indexing = record { command = refl; text = refl; plain = (refl, refl); found = refl; defined = refl };
  whole = (omega arith, refl);
  indexable = record { text = ascii_text by_arrival_text refl; name = ascii_text by_arrival.name refl; table_name = ascii_text entry.name refl; open_name = refl; unused = refl; few = omega arith; reals = omega arith; key_reals = omega arith; fit = refl; short = omega arith };
}

pub makes_by_sleeper : MakesIndex with_arrival by_sleeper_text 3 sleep_table by_sleeper
unfolding understood everything fits_kind is_free_name begins same_name value_cmp lib.Ieee.is_nan lib.Ieee.lt
makes_by_sleeper = record {
  indexing = record { command = refl; text = refl; plain = (refl, refl); found = refl; defined = refl };
  whole = (omega arith, refl);
  indexable = record { text = ascii_text by_sleeper_text refl; name = ascii_text by_sleeper.name refl; table_name = ascii_text sleep_table.name refl; open_name = refl; unused = refl; few = omega arith; reals = omega arith; key_reals = omega arith; fit = refl; short = omega arith };
}

pub makes_by_moment : MakesIndex with_sleeper by_moment_text 3 sleep_table by_moment
unfolding understood everything fits_kind is_free_name begins same_name value_cmp lib.Ieee.is_nan lib.Ieee.lt
makes_by_moment = record {
  indexing = record { command = refl; text = refl; plain = (refl, refl); found = refl; defined = refl };
  whole = (omega arith, refl);
  indexable = record { text = ascii_text by_moment_text refl; name = ascii_text by_moment.name refl; table_name = ascii_text sleep_table.name refl; open_name = refl; unused = refl; few = omega arith; reals = omega arith; key_reals = omega arith; fit = refl; short = omega arith };
}
