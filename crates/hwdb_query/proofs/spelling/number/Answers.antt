use Rattle.std.proofs.Common.{◌≡◌, ◌∙◌, ap, sym, Some, true, true≢false}
use Rattle.std.specs.Fmt.{decimal}
use Rattle.std.specs.declared.num.ParseIntError.{ParseIntError}
use Rattle.hwdb_query.proofs.NumberLemmas.{read_is, never_err, texts_equal}
use Rattle.hwdb_query.proofs.spelling.number.Goals as goal

pub returns-in_default-clause-found : goal.returns-in_default-clause-found
returns-in_default-clause-found c = λ n small is. absurd (never_err ParseIntError _ c.in_default.field-0 n c.in_default.ensures.value.0 small is)

pub returns-then-eq-clause-found : goal.returns-then-eq-clause-found
returns-then-eq-clause-found c = λ n small is. ap Some (read_is ParseIntError _ _ n c.in-Ok.ensures.value.0 small is)

pub returns-else-eq-clause-found : goal.returns-else-eq-clause-found
returns-else-eq-clause-found c = λ n small is.
    let same = read_is ParseIntError _ _ n c.in-Ok.ensures.value.0 small is in
    let same_text : c.eq.result ≡ true = c.eq.ensures ∙ texts_equal _ _ (c.format.ensures.text ∙ ap decimal same ∙ sym is) in
    absurd (true≢false (sym same_text ∙ c.if-eq.false))
