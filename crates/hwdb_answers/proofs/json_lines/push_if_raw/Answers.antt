use Rattle.std.proofs.Common.{◌∙◌, ◌++◌, ap, sym}
use Rattle.std.proofs.lemmas.List.{append-nil, map-append}
use Rattle.hwdb_query.specs.Views.{pair_bytes, pairs_bytes}
use Rattle.hwdb_answers.proofs.JsonLemmas.{raw_none, raw_one}
use Rattle.hwdb_answers.proofs.json_lines.push_if_raw.Goals as goal

pub returns-in-Ok : goal.returns-in-Ok
returns-in-Ok c =
    sym (append-nil (pairs_bytes c.args.raw.now.items))
    ∙ ap (λ l. pairs_bytes c.args.raw.now.items ++ l) (sym (raw_none (c.args.key.now, c.args.value.now) c.in-Ok.ensures.cases.1))

pub returns-in_ok-push-in-Err : goal.returns-in_ok-push-in-Err
returns-in_ok-push-in-Err c =
    ap pairs_bytes c.in_ok-push-in-Err.ensures.items ∙ map-append pair_bytes c.args.raw.now.items _
    ∙ ap (λ l. pairs_bytes c.args.raw.now.items ++ l) (sym (raw_one (c.args.key.now, c.args.value.now) c.in-Err.ensures.cases.0))
