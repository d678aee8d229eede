use Rattle.std.proofs.Common.{◌≡◌, ◌∙◌, ◌++◌, ap, codes}
use Rattle.hwdb_spec_commands.specs.Verdicts.{db_fault_cause, db_fault_words, remedy}
use Rattle.hwdb_tool.proofs.VerdictLemmas.{five_pieces}
use Rattle.hwdb_tool.proofs.verdicts.push_explanation.Goals as goal

pub returns : goal.returns
returns c =
    let words : c.extend_from_slice-2.new.self.items ≡ c.extend_from_slice.new.self.items ++ db_fault_words c.args.fault =
    c.in_ok-extend_from_slice-2.ensures.items ∙ ap (λ w. c.extend_from_slice.new.self.items ++ w) (c.as_bytes.ensures.value ∙ c.words_of.ensures) in
    let cause : c.extend_from_slice-4.new.self.items ≡ c.extend_from_slice-3.new.self.items ++ db_fault_cause c.args.fault =
    c.in_ok-extend_from_slice-4.ensures.items ∙ ap (λ w. c.extend_from_slice-3.new.self.items ++ w) (c.as_bytes-2.ensures.value ∙ c.cause_of.ensures) in
    five_pieces c.args.text.now.items (codes "\n    ") (db_fault_words c.args.fault) (codes "\n    cause: ") (db_fault_cause c.args.fault)
    (codes "\n    hint: " ++ remedy c.args.path.now)
    c.extend_from_slice.new.self.items c.extend_from_slice-2.new.self.items c.extend_from_slice-3.new.self.items c.extend_from_slice-4.new.self.items
    c.push_hint.new.text.items
    c.in_ok-extend_from_slice.ensures.items words c.in_ok-extend_from_slice-3.ensures.items cause c.in_ok-push_hint.ensures
