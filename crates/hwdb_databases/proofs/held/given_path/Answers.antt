use Rattle.std.proofs.Common.{◌∙◌}
use Rattle.std.proofs.lemmas.List.{take_rest}
use Rattle.hwdb_databases.proofs.ReviewLemmas.{given_cut}
use Rattle.hwdb_databases.proofs.held.given_path.Goals as goal

pub returns-then-starts_with : goal.returns-then-starts_with
returns-then-starts_with c = take_rest c.args.path.now 18 ∙ given_cut c.args.path.now _ c.starts_with.ensures.value c.if-starts_with.true
