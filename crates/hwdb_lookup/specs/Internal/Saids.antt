-- What was found so far is what sound records say.
use Rattle.std.specs.Prelude.{◌++◌, ◌∷◌, ◌≡◌, ◌⊎◌, List, Some, [], ℕ}
use Rattle.std.specs.List.{All}
use Rattle.hwdb_query.specs.declared.answer.StoredAssignment.{StoredAssignment}
use Rattle.hwdb_spec.specs.Tree.{key_of}
use Rattle.hwdb_spec.specs.declared.Layout.{Layout}
use Rattle.hwdb_lookup.specs.Internal.Heads.{Fits, IsHead}
use Rattle.hwdb_lookup.specs.Internal.Parts.{MayBeOf}
use Rattle.hwdb_lookup.specs.Sound.{IsSaid}
use Rattle.hwdb_lookup.specs.declared.arrivals.OpenNode.{OpenNode}
use Rattle.hwdb_lookup.specs.declared.lazy_node.LazyNode.{LazyNode}
use Rattle.hwdb_lookup.specs.declared.nodes.StoredValue.{StoredValue}
use Rattle.hwdb_lookup.specs.declared.parts.Parts.{Parts}

-- the assignment has the value's key, without the space, and its text
abbrev pub IsOffer : StoredValue → StoredAssignment → Type 0
IsOffer v a = (key_of v.key.now ≡ Some a.key.now) × (v.value.now ≡ a.value.now)

-- nothing was added, or that
abbrev pub IsOffered : StoredValue → (old new : List StoredAssignment) → Type 0
IsOffered v old new = (new ≡ old) ⊎ ((a : StoredAssignment) × (new ≡ old ++ a ∷ []) × IsOffer v a)

-- the node is a record of the file that fits
abbrev pub IsFit : LazyNode → Type 0
IsFit n = (file : List ℕ) → MayBeOf n.known file → IsHead file n × Fits n.frame.sizes file n.off

-- each is said by a sound record of the file
abbrev pub AreSaid : Parts → Layout → List StoredAssignment → Type 0
AreSaid known l found = (file : List ℕ) → MayBeOf known file → All (λ a. IsSaid l file a.key.now a.value.now) found

-- so it stays
abbrev pub StaySaid : Parts → Layout → (old new : List StoredAssignment) → Type 0
StaySaid known l old new = AreSaid known l old → AreSaid known l new

-- open nodes have this layout
abbrev pub AllLaid : Layout → List OpenNode → Type 0
AllLaid l [] = Unit {0}
AllLaid l (o ∷ below) = (o.node.frame.sizes ≡ l) × AllLaid l below
