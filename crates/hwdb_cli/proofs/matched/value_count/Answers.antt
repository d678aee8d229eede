use Rattle.std.proofs.Common.{◌∙◌, ap, length, sym, unwrap_or, [], List, Option}
use Rattle.std.proofs.lemmas.List.{length-map}
use Rattle.clap.proofs.WalkLemmas.{raw_values-rows}
use Rattle.clap.specs.Matches.{found_of}
use Rattle.clap.specs.Walk.{Text}
use Rattle.hwdb_cli.proofs.matched.value_count.Goals as goal

pub returns-in-Some : goal.returns-in-Some
returns-in-Some c =
    let values = c.in-Some.ensures ∙ raw_values-rows (found_of c.args.matches.now) c.args.id.now in
    sym (length-map c.in-Some.texts.now (λ v. v.now)) ∙ ap (λ (o : Option (List Text)). length (unwrap_or o [])) values

pub returns-in-None : goal.returns-in-None
returns-in-None c =
    let values = c.in-None.ensures ∙ raw_values-rows (found_of c.args.matches.now) c.args.id.now in
    ap (λ (o : Option (List Text)). length (unwrap_or o [])) values
