use Rattle.std.proofs.Common.{◌∙◌, ap, map, sym, List}
use Rattle.std.proofs.lemmas.Result.{IfOk-weaker}
use Rattle.hwdb_rulerun.specs.Views.{seen_of}
use Rattle.hwdb_ruleevents.specs.FileViews.{lines_of}
use Rattle.hwdb_spec_commands.specs.Sysfs.{Ancestor}
use Rattle.hwdb_sysfs.specs.Views.{ancestor_of, device_of}
use Rattle.hwdb_spec_rules.specs.RuleNames.{names_read}
use Rattle.hwdb_spec_rules.specs.RuleSights.{others, seen}
use Rattle.hwdb_spec_rules.specs.RuleStrings.{found_in, whys_in}
use Rattle.hwdb_ruleasks.specs.SightViews.{looked_of}
use Rattle.hwdb_ruleasks.specs.Views.{file_of, found_of, own_text, tells_of, why_view}
use Rattle.hwdb_ruleasks.proofs.FoundLemmas.{told_when}
use Rattle.hwdb_ruleasks.proofs.strings.told_by_rules.Goals as goal

pub returns-clause-found : goal.returns-clause-found
returns-clause-found c =
    let own = ancestor_of c.in-Some.own.now in
    let parents = map ancestor_of c.in-Some.parents.now in
    let d = device_of c.args.device.now in
    let names = map own_text c.in_ok-names.names.items in
    IfOk-weaker c.told_in.result _ _
    (λ all e. told_when (found_in (tells_of c.args.db) (map file_of c.args.files.now)) (tells_of c.args.db) (map file_of c.args.files.now) d own parents
    (map ancestor_of c.deref-9.result.now) (map ancestor_of c.deref-7.result.now)
    (map lines_of c.deref-10.result.now) names (seen_of c.seen.result) (map seen_of c.deref-8.result.now) (others c.deref-6.result.now) (map found_of all.found.items)
    (ap (map ancestor_of) c.deref-9.ensures.value) (ap (map ancestor_of) c.deref-7.ensures.value)
    (ap (map ancestor_of) (sym c.deref.ensures.value ∙ c.in-Some.ensures.cases.0))
    (ap (map lines_of) c.deref-10.ensures.value ∙ c.in_ok-lines.ensures)
    (c.in_ok-names.ensures ∙ ap (λ l. names_read (map lines_of l)) (c.deref-2.ensures.value ∙ sym c.deref-10.ensures.value))
    (c.seen.ensures ∙ c.in_ok-itself.ensures ∙ ap (λ l. seen (map own_text l) own) c.deref-3.ensures.value)
    (ap (map seen_of) c.deref-8.ensures.value ∙ c.in_ok-seen.ensures ∙ ap (map looked_of) c.deref-5.ensures.value ∙ c.in_ok-above.ensures
    ∙ ap (λ l. map (seen (map own_text l)) parents) c.deref-4.ensures.value)
    (ap others c.deref-6.ensures.value) e)
    c.told_in.ensures.found

pub returns-clause-whys : goal.returns-clause-whys
returns-clause-whys c =
    let own = ancestor_of c.in-Some.own.now in
    let parents = map ancestor_of c.in-Some.parents.now in
    let d = device_of c.args.device.now in
    let names = map own_text c.in_ok-names.names.items in
    IfOk-weaker c.told_in.result _ _
    (λ all e. told_when (λ (chain : List Ancestor) a b. whys_in (map file_of c.args.files.now) a b) (tells_of c.args.db) (map file_of c.args.files.now) d own parents
    (map ancestor_of c.deref-9.result.now) (map ancestor_of c.deref-7.result.now)
    (map lines_of c.deref-10.result.now) names (seen_of c.seen.result) (map seen_of c.deref-8.result.now) (others c.deref-6.result.now) (map why_view all.whys.items)
    (ap (map ancestor_of) c.deref-9.ensures.value) (ap (map ancestor_of) c.deref-7.ensures.value)
    (ap (map ancestor_of) (sym c.deref.ensures.value ∙ c.in-Some.ensures.cases.0))
    (ap (map lines_of) c.deref-10.ensures.value ∙ c.in_ok-lines.ensures)
    (c.in_ok-names.ensures ∙ ap (λ l. names_read (map lines_of l)) (c.deref-2.ensures.value ∙ sym c.deref-10.ensures.value))
    (c.seen.ensures ∙ c.in_ok-itself.ensures ∙ ap (λ l. seen (map own_text l) own) c.deref-3.ensures.value)
    (ap (map seen_of) c.deref-8.ensures.value ∙ c.in_ok-seen.ensures ∙ ap (map looked_of) c.deref-5.ensures.value ∙ c.in_ok-above.ensures
    ∙ ap (λ l. map (seen (map own_text l)) parents) c.deref-4.ensures.value)
    (ap others c.deref-6.ensures.value) e)
    c.told_in.ensures.whys
