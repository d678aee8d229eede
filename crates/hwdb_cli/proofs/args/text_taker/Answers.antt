use Rattle.std.proofs.Common.{sym}
use Rattle.clap.specs.Matches.{found_of}
use Rattle.clap.specs.Walk.{rows_of}
use Rattle.hwdb_cli.proofs.TextLemmas.{no_taker}
use Rattle.hwdb_cli.proofs.args.text_taker.Goals as goal

pub returns-in_default : goal.returns-in_default
returns-in_default c =
    let d = c.in_default in
    sym (no_taker c.args.name.now (rows_of (found_of c.args.inner.now)) d.not-query d.not-explain d.not-list d.not-near d.not-device d.not-test d.not-verify d.not-dump)
