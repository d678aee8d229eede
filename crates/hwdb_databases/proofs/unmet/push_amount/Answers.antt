use Rattle.std.proofs.Common.{codes}
use Rattle.std.proofs.lemmas.Result.{on_ok_weaker}
use Rattle.hwdb_databases.proofs.LineLemmas.{four_parts}
use Rattle.hwdb_databases.proofs.unmet.push_amount.Goals as goal

pub returns : goal.returns
returns c =
    on_ok_weaker c.push_by_number.result
    (four_parts c.args.text.now.items c.push_count.new.text.items c.extend_from_slice.new.self.items c.push_count-2.new.text.items c.push_by_number.new.text.items _ (codes " of ") _ _
    c.in_ok-push_count.ensures c.in_ok-extend_from_slice.ensures.items c.in_ok-push_count-2.ensures) c.push_by_number.ensures
