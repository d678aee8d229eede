-- What may be so of a device, and what is known of it. Our choice.
use Rattle.std.specs.Prelude.{List, [], ◌∷◌, Bool, if◌then◌else◌, ℕ, ◌≡◌, Option, Some, None}
use Rattle.std.specs.Str.{bytes_eq}
use Rattle.hwdb_rulefiles.specs.RuleTokens.{Token}

-- a device as it is: its name, its subsystem, its driver, and what its attributes hold
pub record Device : Type 0 where
  pub name : List ℕ
  pub subsystem : Option (List ℕ)
  pub driver : Option (List ℕ)
  pub attribute : List ℕ → Option (List ℕ)

-- All that a line of rules sees: the action, the device's path, the device, its parents, the nearest first, and its properties. Two answers
-- stand for what isn't followed here: what fnmatch says of a text, and whether a token is passed, at the device with this index.
pub record World : Type 0 where
  pub action : List ℕ
  pub path : List ℕ
  pub own : Device
  pub parents : List Device
  pub property : List ℕ → Option (List ℕ)
  pub fnmatch : (folds : Bool) → (value text : List ℕ) → Bool
  pub passes : Token → (index : ℕ) → Bool

-- what is known of a text that may be there: nothing, that it isn't there, or what it is
pub data Known : Type 0 where
  Unknown : Known
  Missing : Known
  Text : List ℕ → Known

-- a name, and what is known of its text
pub record Entry : Type 0 where
  pub name : List ℕ
  pub value : Known

-- what is known of a device; nothing of an attribute that isn't listed
pub record Seen : Type 0 where
  pub name : List ℕ
  pub subsystem : Known
  pub driver : Known
  pub attributes : List Entry

-- What is known when a line is tried. If `closed`, a property that isn't listed isn't there.
pub record Sight : Type 0 where
  pub action : List ℕ
  pub path : List ℕ
  pub own : Seen
  pub parents : List Seen
  pub properties : List Entry
  pub closed : Bool

-- the first entry of a name counts
abbrev pub entry_of : (name : List ℕ) → (otherwise : Known) → List Entry → Known
entry_of name otherwise [] = otherwise
entry_of name otherwise (e ∷ more) = if bytes_eq e.name name then e.value else entry_of name otherwise more

abbrev pub attribute_of : Seen → (name : List ℕ) → Known
attribute_of s name = entry_of name Unknown s.attributes

abbrev pub property_of : Sight → (name : List ℕ) → Known
property_of s name = entry_of name (if s.closed then Missing else Unknown) s.properties

-- what is known is so
abbrev pub Is : Known → Option (List ℕ) → Type 0
Is Unknown truth = Unit {0}
Is Missing truth = truth ≡ None
Is (Text text) truth = truth ≡ Some text

-- what is known of a device is so
pub record IsSeen (s : Seen) (d : Device) : Type 0 where
  pub name : d.name ≡ s.name
  pub subsystem : Is s.subsystem d.subsystem
  pub driver : Is s.driver d.driver
  pub attributes : (name : List ℕ) → Is (attribute_of s name) (d.attribute name)

-- there are as many devices as are known, and what is known of each is so
abbrev pub AreSeen : List Seen → List Device → Type 0
AreSeen [] [] = Unit {0}
AreSeen [] (d ∷ ds) = ⊥
AreSeen (s ∷ ss) [] = ⊥
AreSeen (s ∷ ss) (d ∷ ds) = IsSeen s d × AreSeen ss ds

-- all that is known is so
pub record IsSight (s : Sight) (w : World) : Type 0 where
  pub action : w.action ≡ s.action
  pub path : w.path ≡ s.path
  pub own : IsSeen s.own w.own
  pub parents : AreSeen s.parents w.parents
  pub properties : (name : List ℕ) → Is (property_of s name) (w.property name)
