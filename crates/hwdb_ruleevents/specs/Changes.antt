-- What is known of properties while rules run: what changed, the newest last. Our choice.
use Rattle.std.specs.Prelude.{List, [], ◌∷◌, Bool, if◌then◌else◌, ℕ, nat_eq, ◌≡◌, Option, Some, None, unwrap_or}
use Rattle.std.specs.List.{starts_with}
use Rattle.std.specs.Str.{bytes_eq}
use Rattle.hwdb_rulefiles.specs.RuleKeys.{or_else}
use Rattle.hwdb_rulerun.specs.Sights.{Known, Unknown, Missing, Is}

-- a device's properties
abbrev pub Properties : Type 0
Properties = List ℕ → Option (List ℕ)

-- a property was set, or was taken away; or one was whose name begins so, and nothing more is known
pub data Change : Type 0 where
  Put : (name : List ℕ) → Known → Change
  Open : (start : List ℕ) → Change

-- what a change says of a property
abbrev pub said : Change → (name : List ℕ) → Option Known
said (Put own value) name = if bytes_eq own name then Some value else None
said (Open start) name = if starts_with nat_eq name start then Some Unknown else None

-- what changes say of a property, of which the newest comes last, and counts
abbrev pub said_in : List Change → (name : List ℕ) → Option Known
said_in [] name = None
said_in (c ∷ more) name = or_else (said_in more name) (said c name)

-- what is known of a property; without a change it isn't there
abbrev pub value_in : List Change → (name : List ℕ) → Known
value_in cs name = unwrap_or (said_in cs name) Missing

-- what is known of properties is so
abbrev pub Agrees : List Change → Properties → Type 0
Agrees cs p = (name : List ℕ) → Is (value_in cs name) (p name)

-- what may have changed
abbrev pub perhaps : Change → Change
perhaps (Put name value) = Put name Unknown
perhaps (Open start) = Open start

-- the changes of something that is run, or that may be run
abbrev pub by_sure : (sure : Bool) → List Change → List Change
by_sure sure [] = []
by_sure sure (c ∷ more) = (if sure then c else perhaps c) ∷ by_sure sure more

-- a property of which nothing is said stays
abbrev pub Becomes : (said : Option Known) → (before after : Option (List ℕ)) → Type 0
Becomes None before after = after ≡ before
Becomes (Some value) before after = Is value after
