use Rattle.std.proofs.Common.{◌∙◌, ap, ◌++◌, refl}
use Rattle.hwdb_reader.specs.Unread.{file_at}
use Rattle.hwdb_reader.specs.Views.{tree_of}
use Rattle.hwdb_databases.specs.Internal.Trails.{path_of}
use Rattle.hwdb_databases.specs.Internal.Walks.{rest_of}
use Rattle.hwdb_databases.proofs.MeetingLemmas.{none_looked}
use Rattle.hwdb_databases.proofs.members.Members.start_at.Goals as goal

pub pass-requires : goal.pass-requires
pass-requires c = (tree_of c.args.root, record { walk = c.in_ok-walk.ensures.walk (tree_of c.args.root) refl; end = c.in_ok-walk.ensures.end })

pub returns-clause-all : goal.returns-clause-all
returns-clause-all c t is =
    let w = c.in_ok-walk.walk in
    c.in_ok-pass.ensures.left ∙ ap (λ l. l ++ rest_of w) (none_looked (path_of w.trail) w.at) ∙ c.in_ok-walk.ensures.all t is

pub returns-clause-walk : goal.returns-clause-walk
returns-clause-walk c t is = c.in_ok-pass.ensures.walk t (record { walk = c.in_ok-walk.ensures.walk t is; end = c.in_ok-walk.ensures.end })

pub returns-clause-file : goal.returns-clause-file
returns-clause-file c = c.in_ok-pass.ensures.file (file_at c.args.root) (record { walk = c.in_ok-walk.ensures.file; next = tt })

pub returns-clause-copied : goal.returns-clause-copied
returns-clause-copied c copies = c.in_ok-pass.ensures.copied (c.in_ok-walk.ensures.copied copies)
