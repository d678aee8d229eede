use Rattle.std.proofs.Common.{◌∙◌, ap, map, string_bytes, unwrap_or, [], List, Option}
use Rattle.std.proofs.lemmas.Result.{IfOk-weaker}
use Rattle.clap.proofs.WalkLemmas.{raw_values-rows}
use Rattle.clap.specs.Matches.{found_of}
use Rattle.clap.specs.Walk.{Text}
use Rattle.hwdb_cli.proofs.matched.any_values_of.Goals as goal

pub returns-in-Some : goal.returns-in-Some
returns-in-Some c =
    let values = c.in-Some.ensures ∙ raw_values-rows (found_of c.args.matches.now) c.args.id.now in
    IfOk-weaker c.copies.result _ _ (λ r is. is ∙ ap (λ (o : Option (List Text)). unwrap_or o []) values) c.copies.ensures

pub returns-in-None : goal.returns-in-None
returns-in-None c =
    let values = c.in-None.ensures ∙ raw_values-rows (found_of c.args.matches.now) c.args.id.now in
    ap (map string_bytes) c.new.ensures.items ∙ ap (λ (o : Option (List Text)). unwrap_or o []) values
