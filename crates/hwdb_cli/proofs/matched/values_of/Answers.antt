use Rattle.std.proofs.Common.{◌∙◌, ap, map, sym, option_map, Some}
use Rattle.std.proofs.lemmas.Result.{IfOk-weaker}
use Rattle.clap.proofs.WalkLemmas.{raw_values-rows}
use Rattle.clap.specs.Matches.{found_of}
use Rattle.clap.specs.Walk.{all_of, rows_of}
use Rattle.hwdb_cli.proofs.FoundLemmas.{has_values, some_behind}
use Rattle.hwdb_cli.proofs.matched.values_of.Goals as goal

pub unwrap-texts-requires : goal.unwrap-texts-requires
unwrap-texts-requires c =
    let id = c.args.id.now in
    let rows = rows_of (found_of c.args.matches.now) in
    some_behind _ c.get_strs.result (all_of id rows) (c.get_strs.ensures ∙ raw_values-rows (found_of c.args.matches.now) id) (has_values id rows c.requires)

pub returns : goal.returns
returns c = IfOk-weaker c.copies.result _ _ (λ r is. ap Some is
    ∙ ap (option_map (λ s. map (λ v. v.now) s.now)) (sym c.unwrap-texts.ensures) ∙ c.get_strs.ensures ∙ raw_values-rows (found_of c.args.matches.now) c.args.id.now)
    c.copies.ensures
