use Rattle.std.proofs.Common.{◌∙◌, ◌++◌, ◌∷◌, [], ap, append_assoc, add-one}
use Rattle.hwdb_spec_commands.specs.Reports.{spaces}
use Rattle.hwdb_show.proofs.ShownLemmas.{one_more_space}
use Rattle.hwdb_show.proofs.shown.push_spaces.Goals as goal

pub loop-byte-preserved : goal.loop-byte-preserved
loop-byte-preserved c =
    let more = one_more_space c.args.other.now c.loop-byte._byte-index c.loop-byte-test.true in
    rw (add-one, more) (c.in_ok-push.ensures.items ∙ ap (λ l. l ++ 32 ∷ []) c.loop-byte.invariant ∙ append_assoc c.args.text.now.items (spaces _) (32 ∷ []))
