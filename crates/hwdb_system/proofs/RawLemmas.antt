-- What is made of the answers of a file system.
use Rattle.std.proofs.Common.{◌≡◌, ◌⊎◌, inl, inr, Bool, true, false, List, ℕ, Option, None, Result, Err, sym, ap, subst, if◌then◌else◌, ◌∙◌}
use Rattle.std.proofs.lemmas.Bool.{true≢false}
use Rattle.hwdb_spec.specs.declared.causes.Cause.{Cause}
use Rattle.hwdb_spec.specs.declared.causes.Cause.TheVariants as why
use Rattle.hwdb_spec.specs.declared.errors.ToolError.TheVariants.{Read, TooLong}
use Rattle.hwdb_spec_commands.specs.declared.unread.Unread.{Unread}
use Rattle.hwdb_spec_commands.specs.declared.unread.Unread.TheVariants as unread
use Rattle.hwdb_spec_commands.specs.declared.refusals.Refusal.{Refusal}
use Rattle.hwdb_spec_commands.specs.declared.refusals.Refusal.TheVariants.{At}
use Rattle.hwdb_system.specs.declared.raw.Kind.{Kind}
use Rattle.hwdb_system.specs.Raw.{IsOfMemory, IsRefusedAs, IsRefusedFor, at_place, failed, kind_answer, missing_cause}

cause_of : Unread → Option Cause
cause_of (unread.Failed cause) = cause
cause_of w = None

is_long : Unread → Bool
is_long unread.TooLong = true
is_long w = false

-- an error for want of memory is one of memory
of_memory : (path : List ℕ) (r : Refusal) → IsRefusedFor (failed why.Memory) path r → IsOfMemory path r
unfolding cause_of is_long
of_memory path (At Read at cause) (same, is) = (same, sym (ap cause_of is))
of_memory path (At TooLong at cause) (same, is) = absurd (true≢false (sym (ap is_long is)))
of_memory path _ is = absurd is

-- a call told nothing
pub untold_as : {X Y : Type 0} (answer : Result X Cause) (next : X → Result Y Unread) (cause : Cause) (path : List ℕ) (r : Refusal) → (cause ≡ why.Memory) ⊎ (answer ≡ Err cause)
    → IsOfMemory path r ⊎ IsRefusedFor (failed cause) path r → IsRefusedAs (at_place answer next) path r
untold_as answer next cause path r told (inl memory) = inl memory
untold_as answer next cause path r (inl is) (inr one) = inl (of_memory path r (subst (λ c. IsRefusedFor (failed c) path r) is one))
untold_as answer next cause path r (inr is) (inr one) = inr (failed cause, ap (λ a. at_place a next) is, one)

-- something else is there
pub other_as : {X : Type 0} (answer : Result X Unread) (w : Unread) (path : List ℕ) (r : Refusal) → answer ≡ Err w → IsOfMemory path r ⊎ IsRefusedFor w path r → IsRefusedAs answer path r
other_as answer w path r is (inl memory) = inl memory
other_as answer w path r is (inr one) = inr (w, is, one)

-- a place that isn't a root's own null device
pub elsewhere_as : {X : Type 0} (b : Bool) (x y : Result X Unread) (path : List ℕ) (r : Refusal) → b ≡ false → IsRefusedAs y path r → IsRefusedAs (if b then x else y) path r
elsewhere_as true x y path r is h = absurd (true≢false is)
elsewhere_as false x y path r is h = h

-- what isn't there is told by its cause, or for want of memory
pub missing_as : (entry : Result Bool Cause) (kind : Result Kind Cause) (cause result : Cause) → (cause ≡ why.Memory) ⊎ (kind ≡ Err cause)
    → (result ≡ why.Memory) ⊎ (result ≡ missing_cause cause entry) → (result ≡ why.Memory) ⊎ (kind_answer entry kind ≡ Err result)
missing_as entry kind cause result told (inl memory) = inl memory
missing_as entry kind cause result (inl memory) (inr is) = inl (is ∙ ap (λ (c : Cause). missing_cause c entry) memory)
missing_as entry kind cause result (inr told) (inr is) = inr (ap (kind_answer entry) told ∙ ap (λ (c : Cause). Err c) (sym is))
