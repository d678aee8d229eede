use Rattle.std.proofs.Common.{◌++◌, ◌∙◌, Global, List, Vec, ap, false, map, true, ℕ}
use Rattle.hwdb_spec.specs.Assignment.{ascending}
use Rattle.hwdb_tool.specs.Statuses.{ignored_path}
use Rattle.hwdb_tool.proofs.StatusPlanLemmas.{both_ignored, first_ignored, second_ignored}
use Rattle.hwdb_tool.proofs.status_command.ignored_paths.Goals as goal

abbrev names : Vec (Vec ℕ Global) Global → List (List ℕ)
names v = map (λ n. n.items) v.items

-- the paths of those of a folder
abbrev paths_in : (path : List ℕ → List ℕ) → List (Vec ℕ Global) → List (List ℕ)
paths_in path found = map path (ascending (map (λ n. n.items) found))

pub returns-clause-told : goal.returns-clause-told
returns-clause-told g c = λ tells.
    let etc = ignored_path false in
    let usr = ignored_path true in
    let are = c.in_ok-push_ignored-2.ensures
    ∙ ap (λ (l : List (List ℕ)). l ++ paths_in usr c.deref-2.result.now)
    (c.in_ok-push_ignored.ensures ∙ ap (λ (v : List (Vec ℕ Global)). map (λ n. n.items) v ++ paths_in etc c.deref.result.now) c.new-paths.ensures.items)
    ∙ ap (λ (v : List (Vec ℕ Global)). paths_in etc v ++ paths_in usr c.deref-2.result.now) c.deref.ensures.value
    ∙ ap (λ (v : List (Vec ℕ Global)). paths_in etc c.in_ok-etc.etc.items ++ paths_in usr v) c.deref-2.ensures.value in
    both_ignored (g.D.System.reads c.args.system.now) names names c.args.root.now c.in_ok-etc.etc c.in_ok-usr.usr c.push_ignored-2.new.paths (c.in_ok-etc.ensures.told tells) (c.in_ok-usr.ensures.told tells) are

pub returns-in_err-etc-clause-told : goal.returns-in_err-etc-clause-told
returns-in_err-etc-clause-told g c = λ tells.
    first_ignored (g.D.System.reads c.args.system.now) names names c.args.root.now c.in_err-etc.field-0.0 c.from_residual.result (c.in_err-etc.ensures.told tells) c.from_residual.ensures.1

pub returns-in_err-usr-clause-told : goal.returns-in_err-usr-clause-told
returns-in_err-usr-clause-told g c = λ tells.
    second_ignored (g.D.System.reads c.args.system.now) names names c.args.root.now c.in_ok-etc.etc c.in_err-usr.field-0.0 c.from_residual-in_err-usr.result (c.in_ok-etc.ensures.told tells)
    (c.in_err-usr.ensures.told tells) c.from_residual-in_err-usr.ensures.1
