use Rattle.std.proofs.Common.{◌∙◌, ap, length, nat_lt}
use Rattle.hwdb_spec.specs.Forms.{is_wild}
use Rattle.hwdb_check.proofs.WarningLemmas.{some_found}
use Rattle.hwdb_check.proofs.fragile.has_wild.Goals as goal

pub returns : goal.returns
returns c = ap (λ n. nat_lt n (length c.args.text.now)) c.wild_place.ensures.place ∙ some_found is_wild c.args.text.now
