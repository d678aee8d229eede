-- A store in memory that others share: what may be left, whatever they do.
use Rattle.std.specs.Prelude.{◌≡◌, ◌⊎◌, ◌≤◌, ℕ, List, length, Option}
use Rattle.std.proofs.Common.{inl, inr, ⊎_elim}
use Rattle.hwdb_spec.specs.Store.{Stored, Outcomes}
use Rattle.hwdb_spec.specs.Sharing.{AreTheirs, IsAnyPart}
use Rattle.hwdb_replace.specs.Memory.{seen_of, left_of, is_whole_of, since_of, only_now_of, from_now_of, earlier_of}
use Rattle.hwdb_replace.specs.declared.memory.Step.{Step}

-- what these steps may leave, or others may
abbrev pub left_with : (whole : Stored → Type 0) → List Step → Outcomes
left_with whole xs p v = left_of xs p v ⊎ AreTheirs whole p v

-- what they might have left since some moment, or others may
abbrev pub since_with : (whole : Stored → Type 0) → List Step → ℕ → Outcomes
since_with whole xs t p v = since_of xs t p v ⊎ AreTheirs whole p v

pub only_now_with : (whole : Stored → Type 0) (xs : List Step) (p : List ℕ) (v : Option Stored) → since_with whole xs (length xs) p v → left_with whole xs p v
only_now_with whole xs p v = ⊎_elim (λ left. inl (only_now_of xs p v left)) (λ theirs. inr theirs)

pub from_now_with : (whole : Stored → Type 0) (xs : List Step) (p : List ℕ) (v : Option Stored) → left_with whole xs p v → since_with whole xs (length xs) p v
from_now_with whole xs p v = ⊎_elim (λ left. inl (from_now_of xs p v left)) (λ theirs. inr theirs)

pub earlier_with : (whole : Stored → Type 0) (xs : List Step) (t u : ℕ) (p : List ℕ) (v : Option Stored) → t ≤ u → since_with whole xs u p v → since_with whole xs t p v
earlier_with whole xs t u p v le = ⊎_elim (λ left. inl (earlier_of xs t u p v le left)) (λ theirs. inr theirs)

-- Others went on, while a path was ours. What is under it is as it was. Under each other path is what was there, or theirs.
pub record WentOn (whole : Stored → Type 0) (own : List ℕ) (xs ys : List Step) : Type 0 where
  pub left : (p : List ℕ) (v : Option Stored) → left_of ys p v → left_with whole xs p v
  pub own_seen : seen_of ys own ≡ seen_of xs own
  pub own_whole : is_whole_of xs own → is_whole_of ys own
  pub seen : (p : List ℕ) → (seen_of ys p ≡ seen_of xs p) ⊎ AreTheirs whole p (seen_of ys p)
  pub is_whole : (p : List ℕ) → is_whole_of xs p → is_whole_of ys p ⊎ IsAnyPart p
  pub since : (t : ℕ) (p : List ℕ) (v : Option Stored) → t ≤ length xs → since_of ys t p v → since_with whole xs t p v
  pub less : (t : ℕ) (p : List ℕ) (v : Option Stored) → t ≤ length xs → since_of xs t p v → since_of ys t p v
  pub later : length xs ≤ length ys
