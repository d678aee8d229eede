use Rattle.std.proofs.Common.{◌≡◌, ◌∙◌, ap, drop, map, option_map, sym, List, ℕ}
use Rattle.hwdb_spec_commands.specs.Renamed.{onto, properties, sided}
use Rattle.hwdb_databases.specs.Views.{assignment_of, change_shown}
use Rattle.hwdb_query.specs.declared.answer.StoredAssignment.{StoredAssignment}
use Rattle.std.specs.Borrow.{Bor}
use Rattle.hwdb_databases.proofs.RenamedLemmas.{onto_nothing, properties_over, property_lacks, property_taken}
use Rattle.hwdb_databases.proofs.groups.properties.Goals as goal

pub loop-change-init : goal.loop-change-init
loop-change-init c =
    let all = properties c.args.came (map change_shown c.args.changes.now) in onto_nothing all ∙ ap (λ (t : List ℕ). onto t all) (sym c.new-text.ensures.items)

pub returns-in_default : goal.returns-in_default
returns-in_default c =
    property_lacks c.args.came c.args.changes.now c.loop-change.change-index c.change-item.result c.loop-change.text.items _ c.loop-change-test.true
    (sym (ap (option_map (λ (f : Bor StoredAssignment). assignment_of f.now)) c.in_default.is) ∙ c.sided.ensures ∙ ap (λ p. sided c.args.came (change_shown p)) c.change-item.is) c.loop-change.invariant

pub loop-change-preserved : goal.loop-change-preserved
loop-change-preserved c =
    property_taken c.args.came c.args.changes.now c.loop-change.change-index c.change-item.result (assignment_of c.in-Some.f.now) c.loop-change.text.items c.push_pair.new.text.items _ c.loop-change-test.true
    (sym (ap (option_map (λ (f : Bor StoredAssignment). assignment_of f.now)) c.in-Some.is) ∙ c.sided.ensures ∙ ap (λ p. sided c.args.came (change_shown p)) c.change-item.is) c.in_ok-push_pair.ensures c.loop-change.invariant

pub returns : goal.returns
returns c = properties_over c.args.came c.args.changes.now c.loop-change.change-index c.loop-change.text.items _ c.loop-change-test.false c.loop-change.invariant
