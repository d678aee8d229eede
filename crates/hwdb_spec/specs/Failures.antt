-- Failed calls: how a device or a store counts them, and how it says why. Our choice.
use Rattle.std.specs.Prelude.{ℕ, if◌then◌else◌, ◌+◌, ◌-◌, ◌==◌, ◌^◌, List, false, MatchResult, Result, ◌≡◌, ◌<◌, ◌⊎◌}
use Rattle.hwdb_spec.specs.Lines.{byte, has}

-- the count after one more failed call: once at its greatest value, it stays there
abbrev pub after_failure : ℕ → ℕ
after_failure before = if before == 2 ^ 64 - 1 then before else before + 1

-- the call counts as failed exactly if it returns an error
abbrev pub CountsFailures : {T E : Type 0} → ℕ → ℕ → Result T E → Type 0
CountsFailures before now result = MatchResult result (λ _. now ≡ before) (λ _. now ≡ after_failure before)

-- a call has failed meanwhile: the count rose, or was at its greatest value
abbrev pub HasFailed : ℕ → ℕ → Type 0
HasFailed before now = (before < now) ⊎ (before ≡ 2 ^ 64 - 1)

-- one call has failed meanwhile, and was the last one that was made
abbrev pub OneFailed : ℕ → ℕ → Type 0
OneFailed before now = now ≡ after_failure before

-- the words of a cause are one line
abbrev pub IsOneLine : List ℕ → Type 0
IsOneLine words = has (byte "\n") words ≡ false
