use Rattle.hwdb_answers.proofs.kept_texts.text_of_kept.Goals as goal

pub returns-in-Ok-clause-text : goal.returns-in-Ok-clause-text
returns-in-Ok-clause-text g c = λ file t of kept are database. c.in-Ok.ensures file t (c.of.ensures file kept (c.reading.invariant file of are)) database
