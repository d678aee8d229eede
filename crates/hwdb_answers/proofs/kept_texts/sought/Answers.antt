use Rattle.std.proofs.Common.{◌≡◌, arith, subst, sym, take, None, Some, Option, ℕ}
use Rattle.hwdb_spec.specs.Texts.{within_limit}
use Rattle.hwdb_answers.proofs.KeptLemmas.{few_within}
use Rattle.hwdb_answers.proofs.kept_texts.sought.Goals as goal

pub returns-in-None : goal.returns-in-None
returns-in-None c = λ hits few. subst (λ (l : Option ℕ). take 257 hits ≡ within_limit l hits) (sym c.in-None.is) (few_within 256 None hits tt few)

pub returns-then-n : goal.returns-then-n
returns-then-n c = λ hits few.
    let more = c.if-n.true in
    subst (λ (l : Option ℕ). take 257 hits ≡ within_limit l hits) (sym c.in-Some.is) (few_within 256 (Some c.in-Some.n) hits (omega (arith, more)) few)
