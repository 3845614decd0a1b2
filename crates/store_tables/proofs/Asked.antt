-- A question was asked of an open connection.
use Rattle.std.proofs.Common.{◌≡◌, Result, Ok, Err, IfErr, IfOk, IsErrAnd, IsTrue}
use Rattle.sqlite.specs.State.{State}
use Rattle.sql_tables.specs.declared.read.ReadError.{ReadError}
use Rattle.sql_tables.specs.declared.read.ReadError.TheVariants.{Foreign}
use Rattle.store_tables.specs.Steps.{WasAsked}

pub was_asked : {A : Type 0} (s : State) (r : Result A ReadError)
    → IfOk r (λ _. IsTrue s.is_open) → IfErr r (λ e. e ≡ Foreign → IsTrue s.is_open) → WasAsked r s
was_asked s (Ok x) ok foreign = ok
was_asked s (Err e) ok foreign = foreign

pub asked_err : {A : Type 0} {P : ReadError → Type 0} (s : State) (r : Result A ReadError)
    → IsErrAnd r P → ((e : ReadError) → P e → e ≡ Foreign → IsTrue s.is_open) → WasAsked r s
asked_err s (Ok x) err f = absurd err
asked_err s (Err e) err f = f e err
