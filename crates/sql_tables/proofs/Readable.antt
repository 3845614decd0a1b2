-- A text that asks for rows of one table is refused for nothing of its own.
use Rattle.std.proofs.Common.{◌≡◌, ◌∙◌, ℕ, ◌≤◌, length, true, false, inl, inr, sym, subst, List, [], Option, Ok, Err, Result, IsSome}
use Rattle.sqlite_value.specs.Order.{Row}
use Rattle.sqlite_trees.specs.Tree.{Trees}
use Rattle.sqlite_typing.specs.Types.{accepts_program}
use Rattle.sqlite_sql.specs.Program.{ProgramOverflows}
use Rattle.sqlite_schema.specs.Program.{lets_of}
use Rattle.sqlite_schema.specs.declared.program.Program.{Program}
use Rattle.sqlite_schema.specs.declared.command.Command.{Command}
use Rattle.sqlite_schema.specs.declared.command.Command.TheVariants.{Select}
use Rattle.sqlite_resolve.specs.declared.compiled.Compiled.{Compiled}
use Rattle.sqlite_resolve.specs.declared.error.CompileError.{CompileError}
use Rattle.sqlite.specs.Schema.{Schema}
use Rattle.sqlite.specs.declared.error.Error.{Error}
use Rattle.sqlite.specs.declared.error.Error.TheVariants.{SqliteFailure}
use Rattle.sqlite.specs.declared.error.ErrorCode.TheVariants as code
use Rattle.sqlite.specs.Effect.{Database, RefusesQuery, RefusesToRead}
use Rattle.sqlite.specs.Listing.{reads_listing, understood}
use Rattle.sqlite.proofs.Callers.{IsPlain, command_of}
use Rattle.sql_tables.specs.Causes.{IsReadable}

-- the text is one statement, of so many parameters
abbrev pub IsWhole : Result Compiled CompileError → (size given : ℕ) → Type 0
IsWhole (Ok c) size given = (size ≤ c.tail) × (given ≡ length c.names)
IsWhole (Err e) size given = ⊥

module _ (schema : Schema) (sql : List ℕ) (params : Row) (p : Program) (names : List (List ℕ)) (accepts : accepts_program schema (lets_of p) p.body params ≡ true)
    (sums : (db : Trees) → ProgramOverflows db params [] (lets_of p) p.body → ⊥) where
  nothing_refused : (limit : Option ℕ) (db : Database) (cause : Error) → db.schema ≡ schema → RefusesQuery limit db p params cause → (cause ≡ SqliteFailure code.OperationInterrupted) × IsSome limit
  nothing_refused limit db cause has (inl mismatch) = let clash : true ≡ false = sym (subst (λ (s : Schema). accepts_program s (lets_of p) p.body params ≡ true) (sym has) accepts) ∙ mismatch.1 in absurd cc
  nothing_refused limit db cause has (inr (inl sum)) = absurd (sums db.trees sum.1)
  nothing_refused limit db cause has (inr (inr met)) = met

  pub readable_by : (r : Result Compiled CompileError) → understood schema sql ≡ r → command_of r ≡ Select p names → IsPlain r → IsWhole r (length sql) (length params) → reads_listing schema sql ≡ false → IsReadable schema sql params
  readable_by (Err e) is command plain whole unlisted = absurd plain
  readable_by (Ok c) is command plain whole unlisted = record {
    text = record { compiled = c; is = is; whole = whole.0; given = whole.1; plain = plain };
    unlisted = unlisted;
    accepted = λ limit db cause has refused. nothing_refused limit db cause has (subst (λ (k : Command). RefusesToRead limit k db params cause) command refused);
  }
