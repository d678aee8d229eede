use Rattle.std.proofs.Common.{◌∙◌, ap, sym, option_map, map, ◌++◌, append-nil}
use Rattle.std.proofs.lemmas.List.{map-append}
use Rattle.hwdb_reader.specs.Views.{entry_shows}
use Rattle.hwdb_query.specs.Lemmas.Parts.{shown_none, shown_some}
use Rattle.hwdb_databases.proofs.summary.Tally.add_value.Goals as goal

pub returns-in_default-clause-files : goal.returns-in_default-clause-files
returns-in_default-clause-files c pattern =
    let before = map (λ t. t.now) c.args.self.now.files.items in
    let none = shown_none pattern (entry_shows c.args.entry) (ap (λ o. option_map (λ k. k.now) o) c.in_default.is) in
    sym (ap (λ r. before ++ map (λ f. f.path) r) none ∙ append-nil before)

pub returns-in_default-clause-keys : goal.returns-in_default-clause-keys
returns-in_default-clause-keys c pattern =
    let before = map (λ t. t.now) c.args.self.now.keys.items in
    let none = shown_none pattern (entry_shows c.args.entry) (ap (λ o. option_map (λ k. k.now) o) c.in_default.is) in
    sym (ap (λ r. before ++ map (λ f. f.position.key) r) none ∙ append-nil before)

pub returns-clause-files : goal.returns-clause-files
returns-clause-files c pattern =
    let before = map (λ t. t.now) c.args.self.now.files.items in
    let some = shown_some pattern c.in-Some.key.now (entry_shows c.args.entry) (ap (λ o. option_map (λ k. k.now) o) c.in-Some.is) in
    ap (map (λ t. t.now)) c.in_ok-push.ensures.items ∙ map-append (λ t. t.now) c.args.self.now.files.items _
    ∙ ap (λ r. before ++ map (λ f. f.path) r) (sym some)

pub returns-clause-keys : goal.returns-clause-keys
returns-clause-keys c pattern =
    let before = map (λ t. t.now) c.args.self.now.keys.items in
    let some = shown_some pattern c.in-Some.key.now (entry_shows c.args.entry) (ap (λ o. option_map (λ k. k.now) o) c.in-Some.is) in
    ap (map (λ t. t.now)) c.in_ok-push-2.ensures.items ∙ map-append (λ t. t.now) c.args.self.now.keys.items _
    ∙ ap (λ r. before ++ map (λ f. f.position.key) r) (sym some)
