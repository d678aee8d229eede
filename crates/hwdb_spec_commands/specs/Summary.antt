-- What `verify` says of a database: how much is in it. The command and its form are our choice.
use Rattle.std.specs.Prelude.{codes, if◌then◌else◌, List, ℕ, [], ◌∷◌, ◌++◌, ◌+◌, map, length, max, nat_lt}
use Rattle.std.specs.Fmt.{decimal}
use Rattle.hwdb_spec.specs.Assignment.{ascending}
use Rattle.hwdb_spec.specs.Lines.{byte}
use Rattle.hwdb_spec.specs.Tree.{Tree, Children, members_under}
use Rattle.hwdb_spec.specs.Tree.Tree.{Node}
use Rattle.hwdb_spec.specs.Tree.Children.{NoMore, Child}

unfoldable mutual
  -- how many nodes a tree has
  pub nodes : Tree → ℕ
  nodes (Node prefix values children) = 1 + nodes_of children

  -- how many nodes the trees of children have
  pub nodes_of : Children → ℕ
  nodes_of NoMore = 0
  nodes_of (Child byte tree more) = nodes tree + nodes_of more

unfoldable mutual
  -- how many nodes are one below the other at most, the root counted
  pub depth : Tree → ℕ
  depth (Node prefix values children) = 1 + depth_of children

  -- the same of the trees of children
  pub depth_of : Children → ℕ
  depth_of NoMore = 0
  depth_of (Child byte tree more) = max (depth tree) (depth_of more)

-- how many different texts there are
abbrev pub different : List (List ℕ) → ℕ
different texts = length (ascending texts)

-- How much is in a database: the files that its assignments come from, patterns, keys, assignments and nodes. Then how many nodes
-- are one below the other, the root counted, and its bytes.
pub record Summary : Type 0 where
  pub files : ℕ
  pub patterns : ℕ
  pub keys : ℕ
  pub assignments : ℕ
  pub nodes : ℕ
  pub depth : ℕ
  pub bytes : ℕ

-- the summary of a tree whose database has so many bytes
abbrev pub summary_of : (bytes : ℕ) → Tree → Summary
summary_of bytes t = record {
  files = different (map (λ f. f.path) (members_under [] t));
  patterns = different (map (λ f. f.position.pattern) (members_under [] t));
  keys = different (map (λ f. f.position.key) (members_under [] t));
  assignments = length (members_under [] t);
  nodes = nodes t;
  depth = depth t;
  bytes = bytes;
}

-- a line: a name, `: `, a number
abbrev pub count_line : (name : List ℕ) → ℕ → List ℕ
count_line name n = name ++ (codes ": " ++ (decimal n ++ byte "\n" ∷ []))

-- the lines of a summary: one for each number
abbrev pub counts_text : Summary → List ℕ
counts_text s =
    count_line (codes "files") s.files
    ++ (count_line (codes "patterns") s.patterns
    ++ (count_line (codes "keys") s.keys
    ++ (count_line (codes "assignments") s.assignments
    ++ (count_line (codes "nodes") s.nodes ++ (count_line (codes "depth") s.depth ++ count_line (codes "bytes") s.bytes)))))

-- How many nodes one below the other udev of systemd 262 enters, the root counted. Of a deeper database it answers nothing.
abbrev pub deepest_for_udev : ℕ
deepest_for_udev = 2048

-- what is said of a database by its depth: if it is too deep for udev, a line
abbrev pub depth_warning : (depth : ℕ) → List ℕ
depth_warning depth =
    if nat_lt deepest_for_udev depth then codes "warning: udev of systemd 262 refuses a depth of more than 2048\n" else []

-- what `verify` prints of a database: its summary, and a warning if udev can't take it
abbrev pub summary_text : Summary → List ℕ
summary_text s = counts_text s ++ depth_warning s.depth
