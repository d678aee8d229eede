use Rattle.std.proofs.lemmas.Result.{MatchResult-from_err}
use Rattle.hwdb_replace.proofs.ReplacementLemmas.{filled_at, not_renamed, renamed}
use Rattle.hwdb_replace.proofs.replacement.settle.Goals as goal

pub returns-in_err-fill-clause-leaves : goal.returns-in_err-fill-clause-leaves
returns-in_err-fill-clause-leaves g c = λ t.
    MatchResult-from_err c.from_residual.result _ _ c.from_residual.ensures.0 (λ e. filled_at c.fill.ensures.fills (c.requires.empty t).is)

pub returns-in_err-rename-clause-leaves : goal.returns-in_err-rename-clause-leaves
returns-in_err-rename-clause-leaves g c = λ t.
    let e = c.in_err-rename.ensures in
    MatchResult-from_err c.from_residual-in_err-rename.result _ _ c.from_residual-in_err-rename.ensures.0
    (λ _. not_renamed (filled_at c.fill.ensures.fills (c.requires.empty t).is) e.seen e.crash c.rename.ensures.time)

pub returns-clause-leaves : goal.returns-clause-leaves
returns-clause-leaves g c = λ t.
    let e = c.in_ok-rename.ensures in
    renamed _ _ c.args.bytes.now (filled_at c.fill.ensures.fills (c.requires.empty t).is)
    (c.in_ok-fill.ensures.filled t _ (c.requires.empty t)) (c.in_ok-fill.ensures.whole _ c.requires.own)
    (e.there t) (e.put t) e.whole e.seen e.crash c.rename.ensures.time
