use Rattle.std.proofs.Common.{refl, rules}
use Rattle.std.proofs.lemmas.List.{take_rest}
use Rattle.std.proofs.lemmas.Fn.{always_returns_same}
use Rattle.hwdb_spec.specs.Assignment.{text_cmp}
use Rattle.hwdb_test.proofs.AboutLemmas.{absent_with, found_with}
use Rattle.hwdb_test.proofs.holding.with_key.Goals as goal

pub returns-in-Ok : goal.returns-in-Ok
returns-in-Ok c =
    let at = c.in-Ok.ensures.position (λ g. text_cmp g.key.now c.args.key.now) (always_returns_same _ _ _ (λ a r g called. (search rules, search rules))) in
    found_with c.args.key.now c.args.found.now _ _ c.in-Ok.at c.in-Ok.ensures.bound c.requires at (take_rest c.args.found.now c.in-Ok.at) refl

pub returns-in-Err : goal.returns-in-Err
returns-in-Err c =
    let at = c.binary_search_by.ensures.position (λ g. text_cmp g.key.now c.args.key.now) (always_returns_same _ _ _ (λ a r g called. (search rules, search rules))) in
    absent_with c.args.key.now c.args.found.now _ c.binary_search_by.result c.requires c.in-Err.is c.binary_search_by.ensures.bound at
