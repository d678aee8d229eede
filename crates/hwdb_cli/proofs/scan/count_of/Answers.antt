use Rattle.std.proofs.Common.{◌∙◌, codes}
use Rattle.clap.proofs.WalkLemmas.{one_text-rows}
use Rattle.clap.specs.Matches.{found_of}
use Rattle.hwdb_cli.proofs.LimitLemmas.{limit_found}
use Rattle.hwdb_cli.proofs.scan.count_of.Goals as goal

pub returns : goal.returns
returns c =
    let is = one_text-rows (found_of c.args.inner.now) (codes "count") in
    limit_found _ c.get_one.result (λ e. c.get_one.ensures.none (is ∙ e)) (λ t e. c.get_one.ensures.value t (is ∙ e)) c.requires
