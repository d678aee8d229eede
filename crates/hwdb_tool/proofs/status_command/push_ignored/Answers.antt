use Rattle.std.proofs.Common.{◌∙◌, ◌++◌, List, ap, map, ℕ}
use Rattle.std.proofs.lemmas.List.{take_all}
use Rattle.std.specs.Borrow.{Bor}
use Rattle.hwdb_tool.specs.Statuses.{ignored_path}
use Rattle.hwdb_tool.proofs.status_command.push_ignored.Goals as goal

pub returns : goal.returns
returns c =
    let path = ignored_path c.args.usr in
    let old = map (λ p. p.items) c.args.paths.now.items in
    c.loop-name.invariant
    ∙ ap (λ (l : List (Bor (List ℕ))). old ++ map path (map (λ t. t.now) l))
    (take_all c.loop-name.name-index c.deref-name-items.result.now c.loop-name-test.false ∙ c.deref-name-items.ensures.value)
    ∙ ap (λ (l : List (List ℕ)). old ++ map path l) c.in_ok-ordered.ensures
