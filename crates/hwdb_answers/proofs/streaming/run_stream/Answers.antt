use Rattle.std.proofs.Common.{◌∙◌, List, ℕ, subst}
use Rattle.std.proofs.lemmas.Result.{on_ok_weaker}
use Rattle.std.specs.Io.KnownBytes.{Appends}
use Rattle.hwdb_spec.specs.Texts.{devices_of}
use Rattle.hwdb_answers.proofs.StreamLemmas.{same_answers, some_weaker}
use Rattle.hwdb_answers.proofs.streaming.run_stream.Goals as goal

pub returns-clause-headline : goal.returns-clause-headline
returns-clause-headline g c =
    on_ok_weaker c.run_renewed.result
    (λ printed.
    some_weaker (g.I.Source.left c.args.input.now) _ _
    (λ text wrote etc usr compiled.
    let P : List ℕ → Type 0 = λ l. Appends (g.O.Sink.taken c.args.out.now) (g.O.Sink.taken c.run_renewed.new.out) l in
    let of = wrote.is in
    subst P (of.is ∙ same_answers c.args.form (devices_of text) etc usr of.tree
    (λ device. c.compiled_answers_are_last.ensures.all etc usr c.args.bytes.now compiled of.tree of.database device)) wrote.taken)
    printed)
    (c.run_renewed.ensures.printed tt)
