use Rattle.std.proofs.Common.{◌∙◌, map, string_bytes}
use Rattle.hwdb_answers.proofs.StreamLemmas.{same_answers}
use Rattle.hwdb_answers.proofs.queries.answers.Goals as goal

pub returns-clause-headline : goal.returns-clause-headline
returns-clause-headline c = λ etc usr compiled.
    c.in_ok-texts_of_devices.ensures
    ∙ same_answers c.args.form (map string_bytes c.args.devices.now) etc usr c.in_ok-db.db
    (λ device. c.compiled_answers_are_last.ensures.all etc usr c.args.bytes.now compiled c.in_ok-db.db c.in_ok-db.ensures.accepted device)
