use Rattle.std.proofs.Common.{◌∙◌, ◌++◌, ap}
use Rattle.hwdb_databases.specs.Internal.Meeting.{member_of}
use Rattle.hwdb_databases.specs.Internal.Trails.{path_in, path_of}
use Rattle.hwdb_databases.proofs.members.Members.copied.Goals as goal

pub returns : goal.returns
returns c =
    let trail = c.args.self.now.walk.trail in
    ap (λ p. member_of p c.read-member.result)
    (ap (λ v. v.items) c.in_ok-pattern.ensures.ok ∙ c.in_ok-push_path.ensures ∙ ap (λ t. t ++ path_in c.deref.result.now) c.new-path.ensures.items ∙ ap path_in c.deref.ensures.value)
    ∙ c.read-member.ensures (path_of trail)
