-- What the front of some tokens means, and a token that a text begins.
use Rattle.std.specs.Prelude.{List, ℕ, ◌≤◌}
use Rattle.std.specs.Borrow.{Bor}
use Rattle.hwdb_spec.specs.Patterns.{Token, token_at}
use Rattle.hwdb_spec.specs.Fronts.{Front, Meets}
use Rattle.hwdb_pattern.specs.declared.fronts.Front.{Front as Found}

abbrev pub front_of : Found → Front
front_of f = record { tokens = f.tokens; bytes = f.bytes }

abbrev pub token_of : Bor (List ℕ) → Token
token_of text = token_at text.now

-- so many first tokens match a prefix of the device, and no more do
pub record IsLongest (ts : List Token) (device : List ℕ) (count : ℕ) : Type 0 where
  pub bytes : ℕ
  pub meets : Meets ts device (record { tokens = count; bytes = bytes })
  pub most : (other : Front) → Meets ts device other → other.tokens ≤ count
