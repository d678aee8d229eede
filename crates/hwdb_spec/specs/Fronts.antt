-- Where a pattern stops on a device: the longest front of its tokens that matches one. Our choice.
use Rattle.std.specs.Prelude.{ℕ, List, length, take, ◌≤◌, ◌≡◌}
use Rattle.hwdb_spec.specs.Patterns.{Token, Matches}

-- how many tokens, and how many bytes of a device
pub record Front : Type 0 where
  pub tokens : ℕ
  pub bytes : ℕ

-- so many tokens from the front on match so many bytes of the device from its front on
pub record Meets (ts : List Token) (device : List ℕ) (f : Front) : Type 0 where
  pub tokens : f.tokens ≤ length ts
  pub bytes : f.bytes ≤ length device
  pub matched : Matches (take f.tokens ts) (take f.bytes device)

-- Where tokens stop: their longest front that matches a front of the device, and the least front of the device that it matches.
pub record Stops (ts : List Token) (device : List ℕ) (f : Front) : Type 0 where
  pub met : Meets ts device f
  pub longest : (other : Front) → Meets ts device other → other.tokens ≤ f.tokens
  pub least : (other : Front) → Meets ts device other → other.tokens ≡ f.tokens → f.bytes ≤ other.bytes
