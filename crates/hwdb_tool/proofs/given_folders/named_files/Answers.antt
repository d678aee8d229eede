use Rattle.std.proofs.Common.{◌+◌, ◌∙◌, ◌∷◌, ap, drop, map, string_bytes, subst, Err, Global, List, Ok, String, Vec, ℕ}
use Rattle.std.proofs.lemmas.List.{drop_all}
use Rattle.hwdb_spec_commands.specs.Given.{any_dash, is_dash}
use Rattle.hwdb_plan.specs.GivenFolders.{files_for}
use Rattle.hwdb_plan.specs.Lemmas.GivenFolders.{FilesAreNamed, all_named, naming_stops, none_named, one_named}
use Rattle.hwdb_plan.specs.Plans.{ReachesValue}
use Rattle.hwdb_tool.proofs.FileLemmas.{next_path}
use Rattle.hwdb_tool.proofs.GivenFolderLemmas.{member_plain, none_more}
use Rattle.hwdb_tool.proofs.given_folders.named_files.Goals as goal

pub loop-path-preserved : goal.loop-path-preserved
loop-path-preserved g c =
    let given = c.args.given.now in
    let own = c.in_ok-own.own.items in
    let w = g.D.System.reads c.args.system.now in
    let items = λ (v : Vec (String Global) Global). map string_bytes v.items in
    let all = map string_bytes given in
    let k = c.loop-path.path-index in
    let path = string_bytes c.path-item.result in
    let here : g.D.Store.tells → FilesAreNamed w all (path ∷ map string_bytes (drop (k + 1) given)) (map string_bytes c.loop-path.paths.items) =
    λ tells. subst (λ (l : List (List ℕ)). FilesAreNamed w all l (map string_bytes c.loop-path.paths.items)) (next_path given k c.path-item.result c.path-item.is c.loop-path-test.true) (c.loop-path.invariant.told tells) in
    record {
      told = λ tells.
          one_named w items all path (map string_bytes (drop (k + 1) given)) (map string_bytes c.loop-path.paths.items) (here tells) c.in_ok-own.own (map string_bytes c.put_all.new.paths.items)
          (subst (λ p. ReachesValue items w (files_for p) (Ok c.in_ok-own.own)) c.as_str.ensures.value (c.in_ok-own.ensures.told tells)) c.in_ok-put_all.ensures;
      plain = λ none. ap any_dash c.in_ok-put_all.ensures ∙ none_more (map string_bytes c.loop-path.paths.items) (map string_bytes own) (c.loop-path.invariant.plain none)
          (c.in_ok-own.ensures.plain (ap is_dash c.as_str.ensures.value ∙ member_plain string_bytes given c.loop-path.path-index c.path-item.result c.path-item.is c.loop-path-test.true none));
    }

pub returns-in_err-own-clause-told : goal.returns-in_err-own-clause-told
returns-in_err-own-clause-told g c = λ tells.
    let w = g.D.System.reads c.args.system.now in
    let items = λ (v : Vec (String Global) Global). map string_bytes v.items in
    let given = c.args.given.now in
    let all = map string_bytes given in
    let k = c.loop-path.path-index in
    let path = string_bytes c.path-item.result in
    let r = c.in_err-own.field-0.0 in
    naming_stops w items all path (map string_bytes (drop (k + 1) given)) (map string_bytes c.loop-path.paths.items)
    (subst (λ (l : List (List ℕ)). FilesAreNamed w all l (map string_bytes c.loop-path.paths.items)) (next_path given k c.path-item.result c.path-item.is c.loop-path-test.true) (c.loop-path.invariant.told tells))
    items r c.from_residual.result (subst (λ p. ReachesValue items w (files_for p) (Err r)) c.as_str.ensures.value (c.in_err-own.ensures.told tells)) c.from_residual.ensures.1

pub returns-clause-told : goal.returns-clause-told
returns-clause-told g c = λ tells.
    let w = g.D.System.reads c.args.system.now in
    let given = c.args.given.now in
    let all = map string_bytes given in
    let k = c.loop-path.path-index in
    all_named w all (map string_bytes c.loop-path.paths.items)
    (subst (λ (l : List (String Global)). FilesAreNamed w all (map string_bytes l) (map string_bytes c.loop-path.paths.items)) (drop_all k given c.loop-path-test.false) (c.loop-path.invariant.told tells))

pub loop-path-init : goal.loop-path-init
loop-path-init g c = record {
  told = λ tells. none_named (g.D.System.reads c.args.system.now) (map string_bytes c.args.given.now) (map string_bytes c.new-paths.result.items) (ap (map string_bytes) c.new-paths.ensures.items);
  plain = λ none. ap (λ (l : List (String Global)). any_dash (map string_bytes l)) c.new-paths.ensures.items;
}
