use Rattle.std.proofs.Common.{◌≡◌, ◌+◌, List, ℕ}
use Rattle.hwdb_spec.specs.Tree.{Tree}
use Rattle.hwdb_databases.specs.Internal.Walks.{IsOf, entered_one, still_left}
use Rattle.hwdb_databases.specs.Internal.Meeting.{AreOf, IsUnderWay, after_next}
use Rattle.hwdb_databases.specs.Internal.Trails.{AreKeptOf, AreThere, IsCopied}
use Rattle.hwdb_databases.proofs.members.Members.pass.Given as goal

abbrev pub invariant-nodes : goal.invariant-nodes
invariant-nodes l = record {
  walk : (t : Tree) → IsUnderWay t l.fn.self → IsUnderWay t l.self;
  left : after_next l.self ≡ after_next l.fn.self;
  there : AreThere l.self.walk.trail;
  kept : AreKeptOf l.fn.self.walk.trail.segments.items l.self.walk.trail;
  copied : IsCopied l.fn.self.walk.trail → IsCopied l.self.walk.trail;
  file : (f : List ℕ) → AreOf f l.fn.self → IsOf f l.self.walk;
}

abbrev pub decreases-nodes : goal.decreases-nodes
decreases-nodes l = entered_one l.self.walk.at + still_left l.self.walk
