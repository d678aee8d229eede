use Rattle.std.proofs.lemmas.Result.{err_from_is_err_and}
use Rattle.hwdb_databases.proofs.difference.diff_samples.Goals as goal

-- the old bytes give an error, whatever the new ones are
pub returns-in_err-before-clause-errors : goal.returns-in_err-before-clause-errors
returns-in_err-before-clause-errors c =
    let p = err_from_is_err_and c.from_residual.result c.from_residual.ensures.1 in rw (p.1, p.2) (c.in_err-before.ensures.refused c.args.new.now)
