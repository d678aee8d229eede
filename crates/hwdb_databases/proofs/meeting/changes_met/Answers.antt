use Rattle.std.proofs.Common.{All, ◌≡◌, ◌∙◌, ◌++◌, List, [], ap, map, refl, subst, sym}
use Rattle.hwdb_spec.specs.Assignment.{Assignment}
use Rattle.hwdb_spec_commands.specs.Reviews.{review_in, reviewed}
use Rattle.hwdb_spec.specs.Tree.{members_under}
use Rattle.hwdb_databases.specs.Internal.Trails.{IsSegmentIn}
use Rattle.hwdb_databases.specs.Internal.Merging.{merged}
use Rattle.hwdb_reader.specs.Views.{tree_of}
use Rattle.hwdb_databases.specs.Views.{held_of, held_shown}
use Rattle.hwdb_databases.specs.Internal.Meeting.{AreOf, changes_at, left_of, to_meet}
use Rattle.hwdb_databases.proofs.GivenLemmas.{reviewed_step}
use Rattle.hwdb_databases.proofs.meeting.changes_met.Goals as goal

pub meet-requires-clause-kept : goal.meet-requires-clause-kept
meet-requires-clause-kept c =
    let olds = c.in_ok-before.before.walk.trail.segments.items in
    let news = c.in_ok-after.after.walk.trail.segments.items in
    (olds, news, c.new-abreast.ensures olds news, λ n small. refl, λ n small. refl)

pub meet-requires-clause-old_file : goal.meet-requires-clause-old_file
meet-requires-clause-old_file c = subst (λ f. All (IsSegmentIn f) c.in_ok-before.before.walk.trail.segments.items) (sym c.in_ok-twins.ensures.old) c.in_ok-before.ensures.file.walk.segments

pub meet-requires-clause-new_file : goal.meet-requires-clause-new_file
meet-requires-clause-new_file c = subst (λ f. All (IsSegmentIn f) c.in_ok-after.after.walk.trail.segments.items) (sym c.in_ok-twins.ensures.new) c.in_ok-after.ensures.file.walk.segments

pub meet-requires-in-Some-clause-kept : goal.meet-requires-in-Some-clause-kept
meet-requires-in-Some-clause-kept c = (
  c.pairs.before.walk.trail.segments.items,
  c.pairs.after.walk.trail.segments.items,
  c.pairs.invariant.abreast,
  c.in_ok-pass_over.ensures.old_kept,
  c.in_ok-pass_over.ensures.new_kept,
)

pub meet-requires-in-Some-clause-old_file : goal.meet-requires-in-Some-clause-old_file
meet-requires-in-Some-clause-old_file c = (c.in_ok-pass_over.ensures.old_file _ c.pairs.invariant.old_from).walk.segments

pub meet-requires-in-Some-clause-new_file : goal.meet-requires-in-Some-clause-new_file
meet-requires-in-Some-clause-new_file c = (c.in_ok-pass_over.ensures.new_file _ c.pairs.invariant.new_from).walk.segments

pub pairs-init : goal.pairs-init
pairs-init c =
    let before = c.in_ok-before.before in
    let after = c.in_ok-after.after in
    let old = c.in_ok-before.ensures.all (tree_of c.args.old) refl in
    let new = c.in_ok-after.ensures.all (tree_of c.args.new) refl in
    let both : to_meet before after ≡ merged (members_under [] (tree_of c.args.old)) (members_under [] (tree_of c.args.new)) =
    ap (λ (g : List Assignment × List Assignment). merged g.0 g.1) (λ i. (old i, new i)) in
    record {
      all = ap (λ l. map held_shown l ++ reviewed (review_in c.args.review.now) (to_meet before after)) c.new-all.ensures.items ∙ ap (reviewed (review_in c.args.review.now)) both;
      old_walk = c.in_ok-before.ensures.walk (tree_of c.args.old) refl;
      new_walk = c.in_ok-after.ensures.walk (tree_of c.args.new) refl;
      old_end = c.in_ok-before.ensures.end;
      new_end = c.in_ok-after.ensures.end;
      old_from = subst (λ f. AreOf f before) (sym c.in_ok-twins.ensures.old) c.in_ok-before.ensures.file;
      new_from = subst (λ f. AreOf f after) (sym c.in_ok-twins.ensures.new) c.in_ok-after.ensures.file;
      abreast = c.in_ok-meet.ensures.abreast;
      order = c.in_ok-meet.ensures.order;
    }

pub pairs-preserved : goal.pairs-preserved
pairs-preserved c =
    let met = rw c.in-Some.is at c.least.ensures.met in
    let all = to_meet c.pairs.before c.pairs.after in
    let changes = changes_at c.pairs.before c.pairs.after c.in-Some.side in
    let more = to_meet c.pass_over.new.old c.pass_over.new.new in
    let are = met (left_of c.pass_over.new.old) (left_of c.pass_over.new.new) c.in_ok-pass_over.ensures.old_left c.in_ok-pass_over.ensures.new_left in
    record {
      all = reviewed_step (review_in c.args.review.now) (map held_shown c.pairs.all.items) (map held_shown c.push_held.new.all.items) all changes more (held_of c.in_ok-change.change) are
          c.in_ok-change.ensures c.in_ok-push_held.ensures ∙ c.pairs.invariant.all;
      old_walk = c.in_ok-pass_over.ensures.old_walk (tree_of c.args.old) c.pairs.invariant.old_walk;
      new_walk = c.in_ok-pass_over.ensures.new_walk (tree_of c.args.new) c.pairs.invariant.new_walk;
      old_end = c.in_ok-pass_over.ensures.old_end c.pairs.invariant.old_end;
      new_end = c.in_ok-pass_over.ensures.new_end c.pairs.invariant.new_end;
      old_from = c.in_ok-pass_over.ensures.old_file _ c.pairs.invariant.old_from;
      new_from = c.in_ok-pass_over.ensures.new_file _ c.pairs.invariant.new_from;
      abreast = c.in_ok-meet-2.ensures.abreast;
      order = c.in_ok-meet-2.ensures.order;
    }
