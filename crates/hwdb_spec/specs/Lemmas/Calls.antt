-- What a call returns, and how many have failed.
use Rattle.std.proofs.Common.{◌≡◌, ◌+◌, ◌-◌, ◌^◌, ◌==◌, ℕ, Bool, true, false, cond, refl, sym, subst, inl, inr, arith, eqb-true, Result, Ok, Err, IfErr, IfOk}
use Rattle.std.specs.Result.{IsErrAnd}
use Rattle.hwdb_spec.specs.Failures.{after_failure, HasFailed}

-- ---- errors and values

-- a property of the error that is handed on
pub given_error : {T E : Type 0} (e : E) (P : E → Type 0) (r : Result T E) → IsErrAnd r (λ x. x ≡ e) → P e → IfErr r P
given_error e P (Ok x) is p = tt
given_error e P (Err x) is p = subst P (sym is) p

-- of an error, or of a value, what follows from a property
pub each_error : {T E : Type 0} (P Q : E → Type 0) (r : Result T E) → ((e : E) → P e → Q e) → IfErr r P → IfErr r Q
each_error P Q (Ok x) f p = tt
each_error P Q (Err x) f p = f x p

pub each_value : {T E : Type 0} (P Q : T → Type 0) (r : Result T E) → ((x : T) → P x → Q x) → IfOk r P → IfOk r Q
each_value P Q (Ok x) f p = f x p
each_value P Q (Err x) f p = tt

-- ---- the count of failed calls

rises : (before : ℕ) (b : Bool) → (before == 2 ^ 64 - 1) ≡ b → HasFailed before (cond b before (before + 1))
rises before true e = inr (eqb-true before (2 ^ 64 - 1) e)
rises before false e = inl (omega arith)

pub failed_call : (before now : ℕ) → now ≡ after_failure before → HasFailed before now
failed_call before now is = let Q : ℕ → Type 0 = λ n. HasFailed before n in subst Q (sym is) (rises before (before == 2 ^ 64 - 1) refl)
