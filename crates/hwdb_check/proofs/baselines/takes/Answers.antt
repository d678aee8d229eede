use Rattle.std.proofs.Common.{◌≡◌, ◌∙◌, ◌-◌, List, ℕ, ap, rules, subst, sym}
use Rattle.std.specs.Borrow.{Bor}
use Rattle.std.specs.BTreeMap.{BTreeMap}
use Rattle.std.specs.Option.{option_copied_mut, unwrap_or}
use Rattle.hwdb_check.specs.Counted.{left_of, once}
use Rattle.hwdb_check.proofs.CountLemmas.{none_less, once_less}
use Rattle.hwdb_check.proofs.baselines.takes.Goals as goal

pub returns-in-Some-clause-left : goal.returns-in-Some-clause-left
returns-in-Some-clause-left c =
    let often = c.takes_one.new.often in
    once_less c.args.left.now (c.get_mut.follows.lender often) c.args.mark.now often ((c.get_mut.follows.holds often).3 (search rules)).0
    (c.takes_one.ensures.left ∙ sym (ap (λ n. n - 1) (sym (ap (λ o. unwrap_or o 0) c.get_mut.ensures.value) ∙ ap (λ r. unwrap_or (option_copied_mut r) 0) c.in-Some.is)))

pub returns-in-None-clause-left : goal.returns-in-None-clause-left
returns-in-None-clause-left c =
    subst
    (λ (l : BTreeMap (Bor (List ℕ)) ℕ). (other : List ℕ) → left_of l other ≡ left_of c.args.left.now other - once c.args.mark.now other)
    (sym c.get_mut.follows.holds-at-none)
    (none_less c.args.left.now c.args.mark.now (sym (ap (λ o. unwrap_or o 0) c.get_mut.ensures.value) ∙ ap (λ r. unwrap_or (option_copied_mut r) 0) c.in-None.is))
