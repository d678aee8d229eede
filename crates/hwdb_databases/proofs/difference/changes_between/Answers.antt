use Rattle.std.proofs.Common.{ap, refl, [], ◌∙◌, ◌≡◌}
use Rattle.std.proofs.lemmas.Result.{IfOk-weaker}
use Rattle.hwdb_spec_commands.specs.Reviews.{review_in, reviewed}
use Rattle.hwdb_spec.specs.Tree.{Tree, members_under}
use Rattle.hwdb_reader.specs.Views.{tree_of}
use Rattle.hwdb_databases.specs.Internal.Merging.{merged}
use Rattle.hwdb_databases.proofs.MergeLemmas.{listed_differences}
use Rattle.hwdb_databases.proofs.difference.changes_between.Goals as goal

pub returns : goal.returns
returns c =
    let old = c.args.sides.old.now in
    let new = c.args.sides.new.now in
    let roots : merged (members_under [] (tree_of c.root.result)) (members_under [] (tree_of c.root-2.result)) ≡ merged (members_under [] old) (members_under [] new) =
    ap (λ (g : Tree × Tree). merged (members_under [] g.0) (members_under [] g.1)) (λ i. (c.root.ensures.root i, c.root-2.ensures.root i)) in
    let all = listed_differences old new (members_under [] old) (members_under [] new) c.requires.old c.requires.new refl refl in
    IfOk-weaker c.changes_met.result _ _ (λ held is. is ∙ ap (reviewed (review_in c.args.review.now)) (roots ∙ all)) c.changes_met.ensures
