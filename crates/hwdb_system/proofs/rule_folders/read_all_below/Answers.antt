use Rattle.std.proofs.Common.{All, Global, Ok, Vec, [], ap, length, ℕ, ◌≤◌, sym, ◌∙◌, ◌∷◌, ◌≡◌, ◌++◌, List, map, rules, subst}
use Rattle.std.proofs.lemmas.List.{map-append}
use Rattle.std.proofs.lemmas.List.Elements.{All-push}
use Rattle.hwdb_spec.specs.Texts.{max_file}
use Rattle.hwdb_spec_commands.specs.Told.{IsUnreadAs}
use Rattle.hwdb_system.proofs.OwnRulesLemmas.{all_read, read_more, read_stops}
use Rattle.hwdb_system.proofs.rule_folders.read_all_below.Goals as goal

pub loop-path-preserved : goal.loop-path-preserved
loop-path-preserved g c =
    let w = g.D.System.reads c.args.system.now in
    let root = c.args.root.now in
    let items = λ (v : Vec ℕ Global). v.items in
    let short = λ (v : Vec ℕ Global). length v.items ≤ max_file in
    let more : c.push.new.self.items ≡ c.loop-path.texts.items ++ c.in_ok-bytes.bytes ∷ [] = search rules in
    record {
      count = search rules;
      reached = λ tells. read_more w root c.args.paths.now c.loop-path.path-index c.path-item.result (map items c.loop-path.texts.items)
          c.loop-path-test.true c.path-item.is (c.loop-path.invariant.reached tells) c.in_ok-bytes.bytes.items _
          (subst (λ (path : List ℕ). w.text (root ++ path) ≡ Ok c.in_ok-bytes.bytes.items) c.as_str.ensures.value (c.in_ok-bytes.ensures.told tells))
          (ap (map items) more ∙ map-append items c.loop-path.texts.items (c.in_ok-bytes.bytes ∷ []));
      within = subst (All short) (sym more) (All-push short c.loop-path.texts.items c.in_ok-bytes.bytes c.loop-path.invariant.within (let h = c.in_ok-bytes.ensures.within in search rules));
    }

pub returns-in_err-bytes-clause-told : goal.returns-in_err-bytes-clause-told
returns-in_err-bytes-clause-told g c = λ tells.
    let w = g.D.System.reads c.args.system.now in
    let root = c.args.root.now in
    let items = λ (v : Vec ℕ Global). v.items in
    read_stops w root c.args.paths.now c.loop-path.path-index c.path-item.result (map items c.loop-path.texts.items)
    c.loop-path-test.true c.path-item.is (c.loop-path.invariant.reached tells) (λ texts. map items texts.items) c.in_err-bytes.field-0.0 c.from_residual.result
    (subst (λ (path : List ℕ). IsUnreadAs (w.text (root ++ path)) (root ++ path) c.in_err-bytes.field-0.0) c.as_str.ensures.value (c.in_err-bytes.ensures.told tells)) c.from_residual.ensures.1

pub returns-clause-told : goal.returns-clause-told
returns-clause-told g c = λ tells.
    let items = λ (v : Vec ℕ Global). v.items in
    all_read (g.D.System.reads c.args.system.now) c.args.root.now c.args.paths.now c.loop-path.path-index (map items c.loop-path.texts.items) c.loop-path-test.false (c.loop-path.invariant.reached tells)
