use Rattle.std.proofs.Common.{◌∙◌, ◌++◌, ◌∷◌, [], ap, sym, append_assoc, List, ℕ}
use Rattle.hwdb_spec.specs.Assignment.{Assignment}
use Rattle.hwdb_databases.specs.Internal.Holding.{all_held}
use Rattle.hwdb_databases.specs.Internal.Trails.{path_of}
use Rattle.hwdb_databases.specs.Internal.Meeting.{left_of, member_of}
use Rattle.hwdb_databases.proofs.MeetingLemmas.{passed}
use Rattle.hwdb_databases.proofs.holding.keep.Goals as goal

pub members-preserved : goal.members-preserved
members-preserved c =
    let before : List Assignment = all_held c.members.kept in
    let rest : List Assignment = left_of c.pass.new.self in
    let e = c.in-Some.entry in
    let m = c.read.result in
    record {
      held = ap (λ (l : List Assignment). l ++ rest) (c.in_ok-push.ensures.held c.members.invariant.within)
          ∙ append_assoc before (member_of c.pattern.result.now m ∷ []) rest
          ∙ ap (λ (t : List ℕ). before ++ member_of t m ∷ rest) c.pattern.ensures
          ∙ ap (λ (a : Assignment). before ++ a ∷ rest) (c.read.ensures (path_of c.members.members.walk.trail))
          ∙ ap (λ (l : List Assignment). before ++ l) (sym (passed c.members.members c.pass.new.self e c.in-Some.is c.in_ok-pass.ensures.left))
          ∙ c.members.invariant.held;
      within = c.in_ok-push.ensures.within c.members.invariant.within;
      walk = c.in_ok-pass.ensures.walk c.args.db.now c.members.invariant.walk;
      end = c.in_ok-pass.ensures.end;
      copied = c.in_ok-pass.ensures.copied c.members.invariant.copied;
    }
