-- What an output holds back of what it took: nothing once a text is written, as after fflush() (POSIX), unless a call of it
-- failed. Our choice.
use Rattle.std.specs.Prelude.{◌≡◌, ◌⊎◌, ℕ}
use Rattle.hwdb_spec.specs.Failures.{HasFailed, OneFailed}

-- a call of the output failed, the last that was made; or none did, and if it held nothing back before, it doesn't now
abbrev pub HandsOn : (flushed_before flushed_now : Type 0) (failures_before failures_now : ℕ) → Type 0
HandsOn flushed_before flushed_now failures_before failures_now =
    OneFailed failures_before failures_now ⊎ ((failures_now ≡ failures_before) × (flushed_before → flushed_now))

-- the same after several texts: a call of it failed, or if it held nothing back before, it doesn't now
abbrev pub HasHandedOn : (flushed_before flushed_now : Type 0) (failures_before failures_now : ℕ) → Type 0
HasHandedOn flushed_before flushed_now failures_before failures_now =
    HasFailed failures_before failures_now ⊎ (flushed_before → flushed_now)
