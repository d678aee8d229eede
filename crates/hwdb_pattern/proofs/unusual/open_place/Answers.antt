use Rattle.std.proofs.Common.{◌∙◌, ap, length, nat_lt}
use Rattle.hwdb_pattern.proofs.RangeLemmas.{open_found, part_length}
use Rattle.hwdb_pattern.proofs.unusual.open_place.Goals as goal

pub returns-clause-place : goal.returns-clause-place
returns-clause-place c = part_length c.args.pattern.now c.closed_end.result c.closed_end.ensures.within c.closed_end.ensures.before

pub returns-clause-found : goal.returns-clause-found
returns-clause-found c =
    ap (λ n. nat_lt n (length c.args.pattern.now)) (part_length c.args.pattern.now c.closed_end.result c.closed_end.ensures.within c.closed_end.ensures.before)
    ∙ open_found c.args.pattern.now
