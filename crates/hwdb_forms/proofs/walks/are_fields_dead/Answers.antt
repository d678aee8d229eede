use Rattle.std.proofs.Common.{arith, length}
use Rattle.hwdb_forms.specs.Internal.{views}
use Rattle.hwdb_forms.proofs.MeetLemmas.{some_left}
use Rattle.hwdb_forms.proofs.WalkLemmas.{dead_way}
use Rattle.hwdb_forms.proofs.walks.are_fields_dead.Goals as goal

pub returns : goal.returns
returns c = λ t more. dead_way c.args.fields.now _ _ (views c.args.tokens.now) more c.lead_of.result (some_left (length c.args.fields.now) c.if-is_empty.ensures) (omega arith) (c.lead_of.ensures.leads more) t
