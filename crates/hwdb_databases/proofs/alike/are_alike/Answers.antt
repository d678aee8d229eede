use Rattle.std.proofs.Common.{◌∙◌, ◌∷◌, List, ap, sym, ℕ}
use Rattle.hwdb_spec.specs.Assignment.{Assignment}
use Rattle.hwdb_databases.specs.Internal.Alike.{are_one}
use Rattle.hwdb_databases.specs.Internal.Meeting.{after_next, left_of, unread_of}
use Rattle.hwdb_databases.proofs.AlikeLemmas.{walk_done, walked_on, walks_part}
use Rattle.hwdb_databases.proofs.MeetingLemmas.{next_is, none_left, passed}
use Rattle.hwdb_databases.proofs.alike.are_alike.Goals as goal

pub members-preserved : goal.members-preserved
members-preserved c =
    let before = c.members.before in
    let after = c.members.after in
    let x = c.in-Some.x in
    let xs : List Assignment = left_of c.pass.new.self in
    let p = c.pattern.result.now in
    record {
      same = sym (walked_on p x xs after c.pass-in-Some.new.self (sym c.if-not-is_next.false ∙ c.is_next.ensures) c.in_ok-pass-2.ensures.left)
          ∙ ap (λ (t : List ℕ). are_one (unread_of t x ∷ xs) (left_of after)) c.pattern.ensures
          ∙ ap (λ (l : List Assignment). are_one l (left_of after)) (sym (passed before c.pass.new.self x c.in-Some.is c.in_ok-pass.ensures.left))
          ∙ c.members.invariant.same;
      old_walk = c.in_ok-pass.ensures.walk c.args.old.now c.members.invariant.old_walk;
      new_walk = c.in_ok-pass-2.ensures.walk c.args.new.now c.members.invariant.new_walk;
      old_end = c.in_ok-pass.ensures.end;
      new_end = c.in_ok-pass-2.ensures.end;
      old_copied = c.in_ok-pass.ensures.copied c.members.invariant.old_copied;
      new_copied = c.in_ok-pass-2.ensures.copied c.members.invariant.new_copied;
    }

pub returns-then-not-is_next : goal.returns-then-not-is_next
returns-then-not-is_next c =
    let before = c.members.before in
    let after = c.members.after in
    let x = c.in-Some.x in
    let xs : List Assignment = after_next before in
    sym (sym c.members.invariant.same
    ∙ ap (λ (l : List Assignment). are_one l (left_of after)) (next_is before x c.in-Some.is)
    ∙ ap (λ (t : List ℕ). are_one (unread_of t x ∷ xs) (left_of after)) (sym c.pattern.ensures)
    ∙ walks_part c.pattern.result.now x xs after c.args.new.now c.members.invariant.new_walk c.members.invariant.new_end (sym c.is_next.ensures ∙ c.if-not-is_next.true))

pub returns : goal.returns
returns c =
    let before = c.members.before in
    let after = c.members.after in
    sym (sym c.members.invariant.same
    ∙ ap (λ (l : List Assignment). are_one l (left_of after)) (none_left before c.args.old.now c.members.invariant.old_walk c.members.invariant.old_end c.in_default.is)
    ∙ walk_done after c.args.new.now c.is_none.result c.members.invariant.new_walk c.members.invariant.new_end c.is_none.ensures)
