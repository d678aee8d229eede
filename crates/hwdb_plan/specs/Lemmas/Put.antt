-- What putting a database in its place leaves, as an end of a plan.
use Rattle.std.proofs.Common.{◌≡◌, ◌≢◌, ◌∙◌, ◌⊎◌, inl, inr, sym, subst, List, Err, ℕ, refl}
use Rattle.hwdb_spec.specs.NotReplaced.{IsLeft, IsSeen, failures_after}
use Rattle.hwdb_spec_commands.specs.Refusals.{IsOfUpdate}
use Rattle.hwdb_spec_commands.specs.Runs.{AreKept, Files, HasTaken, Told, WasCut}
use Rattle.hwdb_spec.specs.Store.{database_name, path_in}
use Rattle.hwdb_spec_commands.specs.UpdateErrors.{IsPlaceRefusal, OnUnreplaced}
use Rattle.hwdb_spec.specs.declared.errors.ToolError.{ToolError}
use Rattle.hwdb_spec.specs.declared.errors.ToolError.TheVariants.{BadDatabase, BadPosition, Memory, Read, Replace, TooLarge, TooLong, TooManyFiles, TooManyLines, Write}
use Rattle.hwdb_spec.specs.declared.errors.Unreplaced.{Unreplaced}
use Rattle.hwdb_spec_commands.specs.declared.refusals.Refusal.{Refusal}
use Rattle.hwdb_spec_commands.specs.declared.refusals.Refusal.TheVariants as refusal
use Rattle.hwdb_plan.specs.Ended.{IsUnput, ReplacesWith}

-- files that are as they were
pub kept : {D : Type 0} (files : D → Files) (old new : D) → new ≡ old → AreKept (files old) (files new)
kept files old new same = subst (λ d. AreKept (files old) (files d)) (sym same) record { same = λ p. refl; no_more = λ p v l. l }

module _ (folder bytes said : List ℕ) (status : ℕ) (before now : Files) (err_before err_now : Told) where
  abbrev pub Ended : Refusal → Type 0
  Ended r = ReplacesWith folder bytes said status before now err_before err_now (Err r) ⊎ IsUnput before now err_before err_now (Err r)

  over : (u : Unreplaced) (path : List ℕ) (r : Refusal) → IsOfUpdate (Replace u) path r → path ≡ path_in folder database_name → HasTaken said err_before err_now
      → now.failures ≡ failures_after u before.failures → IsSeen folder bytes before.seen now.seen u → IsLeft folder bytes before.seen before.left now.left u → Ended r
  over u path (refusal.At e p c) of is took failed seen left =
      subst (λ (x : ToolError). Ended (refusal.At x p c)) (sym of.0)
      (inl (of.1 ∙ is, record { took = took; unreplaced = u; seen = seen; left = left; failed = failed }))
  over u path (refusal.Plain e) of is took failed seen left = absurd of
  over u path refusal.NoDatabase of is took failed seen left = absurd of
  over u path (refusal.InWords text) of is took failed seen left = absurd of

  pub put_stops : (e : ToolError) (path : List ℕ) (r : Refusal) → IsPlaceRefusal e → IsOfUpdate e path r → path ≡ path_in folder database_name
      → OnUnreplaced (λ u. HasTaken said err_before err_now × (now.failures ≡ failures_after u before.failures)) e
      → OnUnreplaced (IsSeen folder bytes before.seen now.seen) e → OnUnreplaced (IsLeft folder bytes before.seen before.left now.left) e
      → (e ≡ Write → WasCut said err_before err_now × AreKept before now)
      → (e ≢ Write → ((u : Unreplaced) → e ≢ Replace u) → (err_now ≡ err_before) × AreKept before now) → Ended r
  put_stops Write path r is of at undone seen left cut untouched = subst Ended (sym of) (inl (cut refl))
  put_stops Memory path r is of at undone seen left cut untouched = let none = untouched (λ e. cc) (λ u e. cc) in subst Ended (sym of) (inr (refl, none.0, none.1))
  put_stops (Replace u) path r is of at undone seen left cut untouched = over u path r of at undone.0 undone.1 seen left
  put_stops Read path r nope of at undone seen left cut untouched = absurd nope
  put_stops TooLong path r nope of at undone seen left cut untouched = absurd nope
  put_stops TooManyFiles path r nope of at undone seen left cut untouched = absurd nope
  put_stops TooManyLines path r nope of at undone seen left cut untouched = absurd nope
  put_stops TooLarge path r nope of at undone seen left cut untouched = absurd nope
  put_stops BadPosition path r nope of at undone seen left cut untouched = absurd nope
  put_stops (BadDatabase f) path r nope of at undone seen left cut untouched = absurd nope
