use Rattle.std.proofs.Common.{◌≡◌, ◌∙◌, ◌++◌, ap, map, subst, List, ℕ}
use Rattle.std.specs.Prelude.{flat_map}
use Rattle.std.proofs.lemmas.Result.{IfOk-weaker}
use Rattle.hwdb_spec_commands.specs.Renamed.{Group, groups, text_among}
use Rattle.hwdb_databases.specs.Views.{change_shown}
use Rattle.hwdb_databases.specs.Internal.Renaming.{IsOf, shown}
use Rattle.hwdb_databases.proofs.renamed.push_grouped.Goals as goal

pub returns : goal.returns
returns c =
    let all : List Group = groups (map change_shown c.args.changes.now) in
    let made : map shown c.deref-2.result.now ≡ all = ap (map shown) c.deref-2.ensures.value ∙ c.in_ok-groups.ensures in
    IfOk-weaker c.push_groups.result _ _
    (λ u is.
    is all (subst (IsOf c.in_ok-moves.moves) (ap (map shown) c.deref.ensures.value ∙ c.in_ok-groups.ensures) c.in_ok-moves.ensures)
    ∙ ap (λ (gs : List Group). c.args.text.now.items ++ flat_map (text_among all) gs) made)
    c.push_groups.ensures
