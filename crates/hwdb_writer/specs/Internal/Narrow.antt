-- Trees whose nodes have few children.
use Rattle.std.specs.Prelude.{◌<◌}
use Rattle.hwdb_spec.specs.Tree.Children.{Child, NoMore}
use Rattle.hwdb_spec.specs.Tree.{Children, Tree, count}
use Rattle.hwdb_spec.specs.Tree.Tree.{Node}

unfoldable mutual
  -- no node has more children than there are bytes
  pub IsNarrow : Tree → Type 0
  IsNarrow (Node prefix values children) = (count children < 256) × AreNarrow children

  pub AreNarrow : Children → Type 0
  AreNarrow NoMore = Unit {0}
  AreNarrow (Child byte tree more) = IsNarrow tree × AreNarrow more
