use Rattle.store_files.proofs.Closing.{closed_so, fails_so, left_so}
use Rattle.store_files.proofs.close.close_file.Goals as goal

pub returns-clause-left : goal.returns-clause-left
returns-clause-left g c =
    left_so c.args.store.connection c.into_connection-connection.result c.into_connection-connection.ensures c.args.store.live.attempts c.close_files.result
    (c.is_autocommit.ensures.settled c.if-not-is_autocommit.false) c.close_files.ensures.copied

pub returns-clause-failed : goal.returns-clause-failed
returns-clause-failed g c = closed_so c.args.store.connection c.into_connection-connection.result c.into_connection-connection.ensures c.close_files.result c.close_files.ensures.err

pub returns-clause-cause : goal.returns-clause-cause
returns-clause-cause g c = fails_so c.args.store.connection c.into_connection-connection.result c.into_connection-connection.ensures c.close_files.result c.close_files.ensures.err
