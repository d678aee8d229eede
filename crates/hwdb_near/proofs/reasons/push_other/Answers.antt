use Rattle.std.proofs.lemmas.Result.{on_ok_weaker}
use Rattle.hwdb_near.proofs.ReportLemmas.{other_written}
use Rattle.hwdb_near.proofs.reasons.push_other.Goals as goal

pub returns : goal.returns
returns c =
    on_ok_weaker c.push_words.result
    (λ h. other_written c.args.wanted.now c.args.left.now c.args.text.now.items c.push_between.new.text.items c.push_quoted.new.text.items c.push_words.new.text.items _ _ _
    c.in_ok-push_between.ensures c.in_ok-push_quoted.ensures h c.first.ensures c.token_text.ensures c.case_words.ensures) c.push_words.ensures
