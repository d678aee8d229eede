use Rattle.std.proofs.Common.{◌≡◌, ◌∙◌, ◌∷◌, [], List, ℕ, Option, IfSome, map, subst}
use Rattle.std.proofs.lemmas.Result.{IfOk-weaker}
use Rattle.hwdb_reader.specs.Unread.{IsFrom, file_of}
use Rattle.hwdb_reader.specs.declared.unread.UnreadEntry.{UnreadEntry}
use Rattle.hwdb_databases.specs.Internal.Counting.{files_in}
use Rattle.hwdb_databases.specs.Internal.Trails.{path_of as way_of}
use Rattle.hwdb_databases.specs.Internal.Meeting.{left_of, unread_of}
use Rattle.hwdb_databases.proofs.InventoryLemmas.{all_counted, count_on, files_on, path_of, room}
use Rattle.hwdb_databases.proofs.MeetingLemmas.{next_is, none_left, passed}
use Rattle.hwdb_databases.proofs.amounts.amount_in.Goals as goal

pub add-requires-clause-few : goal.add-requires-clause-few
add-requires-clause-few c =
    let m = c.members.members in
    let x = c.in-Some.entry in
    room c.members.held.assignments _ (left_of m) _ _ (unread_of (way_of m.walk.trail) x) (next_is m x c.in-Some.is) c.members.invariant.count c.requires

-- the next one's file is that of the database
next_from : (c : goal.In_ok-pass) → IsFrom c.members.invariant.file.0 c.in-Some.entry
next_from c = subst (λ (o : Option UnreadEntry). IfSome o (IsFrom c.members.invariant.file.0)) c.in-Some.is c.members.invariant.file.1.next

pub members-preserved : goal.members-preserved
members-preserved c =
    let m = c.members.members in
    let x = c.in-Some.entry in
    let own = unread_of (way_of m.walk.trail) x ∷ [] in
    let split = passed m c.pass.new.self x c.in-Some.is c.in_ok-pass.ensures.left in
    record {
      files = files_on (files_in c.members.held) (files_in c.add.new.self) (left_of m) (left_of c.pass.new.self) own split (c.in_ok-add.ensures.files (map path_of (left_of c.pass.new.self)))
          ∙ c.members.invariant.files;
      count = count_on c.members.held.assignments c.add.new.self.assignments (left_of m) (left_of c.pass.new.self) own split c.in_ok-add.ensures.assignments ∙ c.members.invariant.count;
      walk = c.in_ok-pass.ensures.walk c.args.db.now c.members.invariant.walk;
      end = c.in_ok-pass.ensures.end;
      file = (
        c.members.invariant.file.0,
        c.in_ok-pass.ensures.file c.members.invariant.file.0 c.members.invariant.file.1,
        subst (λ (f : List ℕ). IfSome c.add.new.self.last (λ t. file_of t ≡ f)) (next_from c).path c.in_ok-add.ensures.last,
      );
    }

pub returns : goal.returns
returns c =
    let m = c.members.members in
    let none = none_left m c.args.db.now c.members.invariant.walk c.members.invariant.end c.in_default.is in
    IfOk-weaker c.amount.result _ _
    (λ amount is. is ∙ all_counted c.args.bytes c.args.db.now (files_in c.members.held) c.members.held.assignments (left_of m) none c.members.invariant.files c.members.invariant.count)
    c.amount.ensures
