use Rattle.std.proofs.Common.{All, ◌≡◌, ◌∙◌, ◌++◌, List, [], ap, arith, length, map, refl, subst, sym, Some}
use Rattle.hwdb_spec.specs.Assignment.{Assignment}
use Rattle.hwdb_spec_commands.specs.Summary.{different}
use Rattle.hwdb_spec.specs.Tree.{members_under}
use Rattle.hwdb_reader.specs.Unread.{old_file}
use Rattle.hwdb_databases.specs.Internal.Trails.{IsSegmentIn, path_of as way_of}
use Rattle.hwdb_databases.specs.Internal.Merging.{merged}
use Rattle.hwdb_spec_commands.specs.Status.{first_text, stale_by}
use Rattle.hwdb_reader.specs.Views.{tree_of}
use Rattle.hwdb_databases.specs.Internal.Counting.{files_in, first_kept}
use Rattle.hwdb_databases.specs.Internal.Meeting.{AreOf, changes_at, left_of, old_by, to_meet}
use Rattle.hwdb_databases.proofs.InventoryLemmas.{all_counted, bound_on, changes_on, count_on, files_on, first_on, fits, fits_first, fits_one, path_of, stale_is}
use Rattle.hwdb_databases.proofs.MeetingLemmas.{next_old, next_some}
use Rattle.hwdb_databases.proofs.MergeLemmas.{merged_trees}
use Rattle.hwdb_databases.proofs.freshness.walked.Goals as goal

pub meet-requires-clause-kept : goal.meet-requires-clause-kept
meet-requires-clause-kept c =
    let olds = c.in_ok-before.before.walk.trail.segments.items in
    let news = c.in_ok-after.after.walk.trail.segments.items in
    (olds, news, c.new-abreast.ensures olds news, λ n small. refl, λ n small. refl)

pub meet-requires-clause-old_file : goal.meet-requires-clause-old_file
meet-requires-clause-old_file c = subst (λ f. All (IsSegmentIn f) c.in_ok-before.before.walk.trail.segments.items) (sym c.in_ok-twins.ensures.old) c.in_ok-before.ensures.file.walk.segments

pub meet-requires-clause-new_file : goal.meet-requires-clause-new_file
meet-requires-clause-new_file c = subst (λ f. All (IsSegmentIn f) c.in_ok-after.after.walk.trail.segments.items) (sym c.in_ok-twins.ensures.new) c.in_ok-after.ensures.file.walk.segments

pub meet-requires-in-Some-clause-kept : goal.meet-requires-in-Some-clause-kept
meet-requires-in-Some-clause-kept c = (
  c.pairs.before.walk.trail.segments.items,
  c.pairs.after.walk.trail.segments.items,
  c.pairs.invariant.abreast,
  c.in_ok-pass_over.ensures.old_kept,
  c.in_ok-pass_over.ensures.new_kept,
)

pub meet-requires-in-Some-clause-old_file : goal.meet-requires-in-Some-clause-old_file
meet-requires-in-Some-clause-old_file c = (c.in_ok-pass_over.ensures.old_file _ c.pairs.invariant.old_from).walk.segments

pub meet-requires-in-Some-clause-new_file : goal.meet-requires-in-Some-clause-new_file
meet-requires-in-Some-clause-new_file c = (c.in_ok-pass_over.ensures.new_file _ c.pairs.invariant.new_from).walk.segments

pub pairs-init : goal.pairs-init
pairs-init c =
    let before = c.in_ok-before.before in
    let after = c.in_ok-after.after in
    let old = c.in_ok-before.ensures.all (tree_of c.args.old) refl in
    let new = c.in_ok-after.ensures.all (tree_of c.args.new) refl in
    let both : to_meet before after ≡ merged (members_under [] (tree_of c.args.old)) (members_under [] (tree_of c.args.new)) =
    ap (λ (g : List Assignment × List Assignment). merged g.0 g.1) (λ i. (old i, new i)) in
    let many = ap length both in
    let olds = ap length old in
    let news = ap length new in
    let none = c.new-held.ensures.assignments in
    record {
      first = ap (λ k. first_kept k (to_meet before after)) c.new-2.ensures.items ∙ ap first_text both;
      changes = omega (arith, many);
      bound = omega (arith, olds, news);
      files = ap (λ (g : List _ × List _). different (g.0 ++ map path_of g.1)) (λ i. (c.new-held.ensures.files i, old i));
      count = omega (arith, none, olds);
      old_walk = c.in_ok-before.ensures.walk (tree_of c.args.old) refl;
      new_walk = c.in_ok-after.ensures.walk (tree_of c.args.new) refl;
      old_end = c.in_ok-before.ensures.end;
      new_end = c.in_ok-after.ensures.end;
      old_from = subst (λ f. AreOf f before) (sym c.in_ok-twins.ensures.old) c.in_ok-before.ensures.file;
      new_from = subst (λ f. AreOf f after) (sym c.in_ok-twins.ensures.new) c.in_ok-after.ensures.file;
      abreast = c.in_ok-meet.ensures.abreast;
      order = c.in_ok-meet.ensures.order;
      last = c.new-held.ensures.last (old_file c.in_ok-twins.twins);
    }

pub count-requires-clause-few : goal.count-requires-clause-few
count-requires-clause-few c =
    let next = rw c.in-Some.is at c.least.ensures.next in
    fits_one c.pairs.tally.changes _ _ _ c.pairs.invariant.bound (next_some c.pairs.before c.pairs.after c.in-Some.side next) c.requires.few

pub count_old-requires-clause-few : goal.count_old-requires-clause-few
count_old-requires-clause-few c =
    let next = rw c.in-Some.is at c.least.ensures.next in
    fits c.pairs.held.assignments (length (old_by [] c.in-Some.side)) (length (left_of c.pairs.before)) _ _ c.pairs.invariant.count
    (next_old c.pairs.before c.pairs.after c.in-Some.side [] next) (fits_first _ _ _ c.requires.few)

pub count_old-requires-clause-last : goal.count_old-requires-clause-last
count_old-requires-clause-last c = (_, _, c.pairs.invariant.last, rw c.in-Some.is at c.least.ensures.files)

pub pairs-preserved : goal.pairs-preserved
pairs-preserved c =
    let met = rw c.in-Some.is at c.least.ensures.met in
    let side = c.in-Some.side in
    let p = way_of c.pairs.before.walk.trail in
    let q = way_of c.pairs.after.walk.trail in
    let all = to_meet c.pairs.before c.pairs.after in
    let changes = changes_at c.pairs.before c.pairs.after side in
    let olds = left_of c.pass_over.new.old in
    let news = left_of c.pass_over.new.new in
    let more = to_meet c.pass_over.new.old c.pass_over.new.new in
    let old_left = c.in_ok-pass_over.ensures.old_left in
    let new_left = c.in_ok-pass_over.ensures.new_left in
    let are = met olds news old_left new_left in
    let held = c.count_old.new.held in
    record {
      first = first_on c.pairs.tally.first.items c.count.new.self.first.items all changes more are c.in_ok-count.ensures.first ∙ c.pairs.invariant.first;
      changes = changes_on c.pairs.tally.changes c.count.new.self.changes all changes more are c.in_ok-count.ensures.changes ∙ c.pairs.invariant.changes;
      bound = bound_on p q side (left_of c.pairs.before) olds (left_of c.pairs.after) news old_left new_left c.pairs.tally.changes c.count.new.self.changes _ c.in_ok-count.ensures.changes c.pairs.invariant.bound;
      files = files_on (files_in c.pairs.held) (files_in held) (left_of c.pairs.before) olds (old_by p side) old_left (c.in_ok-count_old.ensures.files p (map path_of olds)) ∙ c.pairs.invariant.files;
      count = count_on c.pairs.held.assignments held.assignments (left_of c.pairs.before) olds (old_by p side) old_left (c.in_ok-count_old.ensures.assignments p) ∙ c.pairs.invariant.count;
      old_walk = c.in_ok-pass_over.ensures.old_walk (tree_of c.args.old) c.pairs.invariant.old_walk;
      new_walk = c.in_ok-pass_over.ensures.new_walk (tree_of c.args.new) c.pairs.invariant.new_walk;
      old_end = c.in_ok-pass_over.ensures.old_end c.pairs.invariant.old_end;
      new_end = c.in_ok-pass_over.ensures.new_end c.pairs.invariant.new_end;
      old_from = c.in_ok-pass_over.ensures.old_file _ c.pairs.invariant.old_from;
      new_from = c.in_ok-pass_over.ensures.new_file _ c.pairs.invariant.new_from;
      abreast = c.in_ok-meet-2.ensures.abreast;
      order = c.in_ok-meet-2.ensures.order;
      last = c.in_ok-count_old.ensures.last _ _ c.pairs.invariant.last (rw c.in-Some.is at c.least.ensures.files);
    }

pub returns-clause-state : goal.returns-clause-state
returns-clause-state c =
    let none = rw c.in_default.is at c.least.ensures.none in
    stale_is c.pairs.tally.changes c.pairs.tally.first.items (to_meet c.pairs.before c.pairs.after) _ none c.pairs.invariant.changes c.pairs.invariant.first
    ∙ ap stale_by (sym (merged_trees (tree_of c.args.old) (tree_of c.args.new) c.requires.old c.requires.new))

pub returns-clause-holds : goal.returns-clause-holds
returns-clause-holds c =
    let none = rw c.in_default.is at c.least.ensures.none_old in
    ap Some (c.in_ok-amount.ensures
    ∙ all_counted c.args.size (tree_of c.args.old) (files_in c.pairs.held) c.pairs.held.assignments (left_of c.pairs.before) none c.pairs.invariant.files c.pairs.invariant.count)
