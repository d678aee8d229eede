use Rattle.std.proofs.Common.{[], ◌∷◌, ◌∙◌}
use Rattle.hwdb_answers.proofs.StreamLemmas.{one_text, same_answers}
use Rattle.hwdb_answers.proofs.queries.answer.Goals as goal

pub returns-clause-text : goal.returns-clause-text
returns-clause-text c = record {
  tree = c.in_ok-db.db;
  database = c.in_ok-db.ensures.accepted;
  is = c.in_ok-text_of_device.ensures ∙ one_text c.args.form c.in_ok-db.db c.args.device.now;
}

pub returns-clause-headline : goal.returns-clause-headline
returns-clause-headline c = λ etc usr compiled.
    c.in_ok-text_of_device.ensures
    ∙ one_text c.args.form c.in_ok-db.db c.args.device.now
    ∙ same_answers c.args.form (c.args.device.now ∷ []) etc usr c.in_ok-db.db
    (λ device. c.compiled_answers_are_last.ensures.all etc usr c.args.bytes.now compiled c.in_ok-db.db c.in_ok-db.ensures.accepted device)
