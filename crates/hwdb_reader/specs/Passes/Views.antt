-- What contracts see of a file that is read forward. Our choice.
use Rattle.std.specs.Prelude.{List, ℕ, zero, suc, [], ◌∷◌, ◌+◌, ◌≤◌, ◌<◌, ◌≡◌, length, slice_index}
use Rattle.hwdb_spec.specs.declared.Layout.{Layout}
use Rattle.hwdb_spec.specs.Tree.{Tree}
use Rattle.hwdb_spec.specs.Format.{layout_of, record_end, header_of, NodeText, IsHeader, IsLong, IsSigned, HasSizes, HasLengths}
use Rattle.hwdb_reader.specs.declared.passes.outline.Outline.{Outline}

-- the part is what the file has from a place on
pub record IsPart (file : List ℕ) (at : ℕ) (part : List ℕ) : Type 0 where
  pub within : at + length part ≤ length file
  pub same : (i : ℕ) → i < length part → slice_index part i ≡ slice_index file (at + i)

-- the file has a header that says this layout; of its strings it is said that there are some
pub record HasSections (l : Layout) (file : List ℕ) : Type 0 where
  pub layout : l ≡ layout_of file
  pub long : IsLong file
  pub signed : IsSigned file
  pub sizes : HasSizes file
  pub lengths : HasLengths file
  pub some : 0 < (header_of file).strings_len

-- a file of this size, with these first bytes and these strings
pub record IsRead (header : List ℕ) (size : ℕ) (strings file : List ℕ) : Type 0 where
  pub long : length file ≡ size
  pub front : IsPart file 0 header
  pub texts : IsPart file (layout_of file).strings strings

-- what was kept is of this file
pub record IsOf (o : Outline) (file : List ℕ) : Type 0 where
  pub layout : o.frame.sizes ≡ layout_of file
  pub header : IsHeader file
  pub size : o.size ≡ length file
  pub strings : IsPart file o.frame.sizes.strings o.strings.now

-- the first n rows of two tables, the last first: the offset of each node that is done, and its height
unfoldable pub pending : (offsets heights : List ℕ) (n : ℕ) → List (ℕ × ℕ)
pending offsets heights zero = []
pending offsets heights (suc n) = (slice_index offsets n, slice_index heights n) ∷ pending offsets heights n

-- From the first byte of the nodes section to `end` the bytes are the texts of trees. The records of their roots are at
-- the offsets, and they have at most as many levels as their heights.
unfoldable pub Stand : Layout → List ℕ → List (ℕ × ℕ) → (end : ℕ) → Type 0
Stand l file [] end = end ≡ l.nodes
Stand l file (node ∷ more) end =
    (t : Tree) × (from : ℕ) × NodeText l file node.1 from node.0 t × (record_end l file node.0 ≡ end) × Stand l file more from

-- the same of a file, by the layout that its header says
abbrev pub Stands : List ℕ → List (ℕ × ℕ) → (end : ℕ) → Type 0
Stands file nodes end = Stand (layout_of file) file nodes end
