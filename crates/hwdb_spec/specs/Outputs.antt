-- What commands write: how the bytes that a sink tells grow, and which of two sinks failed. Our choice.
use Rattle.std.specs.Io.KnownBytes.{Appends}
use Rattle.std.specs.Prelude.{◌≡◌, ◌≢◌, ◌≤◌, ◌⊎◌, List, MatchResult, Option, Result, length, take, ℕ}
use Rattle.hwdb_spec.specs.Failures.{OneFailed}

-- of two devices, used one after the other, one call has failed, and was the last one
abbrev pub OneOfTwoFailed : (first_before first_now second_before second_now : ℕ) → Type 0
OneOfTwoFailed first_before first_now second_before second_now =
    (OneFailed first_before first_now × (second_now ≡ second_before))
    ⊎ ((first_now ≡ first_before) × OneFailed second_before second_now)

-- the told bytes grew by a prefix of the text, possibly the whole
abbrev pub AppendsPrefix : Option (List ℕ) → Option (List ℕ) → List ℕ → Type 0
AppendsPrefix before now text = (n : ℕ) × (n ≤ length text) × Appends before now (take n text)

-- a sink took the text whole, and no call of it failed
pub record Took (text : List ℕ) (before now : Option (List ℕ)) (failures_before failures_now : ℕ) : Type 0 where
  pub whole : Appends before now text
  pub unfailed : failures_now ≡ failures_before

-- it took a prefix of the text, possibly the whole, and then a call of it failed, the last that was made
pub record CutShort (text : List ℕ) (before now : Option (List ℕ)) (failures_before failures_now : ℕ) : Type 0 where
  pub prefix : AppendsPrefix before now text
  pub failed : OneFailed failures_before failures_now

-- it took one of these texts so
pub record TookOne (Is : List ℕ → Type 0) (before now : Option (List ℕ)) (failures_before failures_now : ℕ) : Type 0 where
  pub text : List ℕ
  pub is : Is text
  pub took : Took text before now failures_before failures_now

-- one of these texts was cut short so
pub record CutShortOne (Is : List ℕ → Type 0) (before now : Option (List ℕ)) (failures_before failures_now : ℕ) : Type 0 where
  pub text : List ℕ
  pub is : Is text
  pub cut : CutShort text before now failures_before failures_now

-- a call of a device has failed exactly if this is the error, and it was the last one
abbrev pub FailedOnly : {T E : Type 0} → (why : E) → Result T E → (failures_before failures_now : ℕ) → Type 0
FailedOnly why result before now =
    MatchResult result (λ _. now ≡ before) (λ e. (e ≡ why → OneFailed before now) × (e ≢ why → now ≡ before))

-- a sink took one of these texts, whole
pub record Wrote (Is : List ℕ → Type 0) (before now : Option (List ℕ)) : Type 0 where
  pub text : List ℕ
  pub is : Is text
  pub taken : Appends before now text

-- a sink took a prefix of one of them
pub record WrotePrefix (Is : List ℕ → Type 0) (before now : Option (List ℕ)) : Type 0 where
  pub text : List ℕ
  pub is : Is text
  pub taken : AppendsPrefix before now text

-- what a command writes to standard error, and then to standard output
pub record Texts : Type 0 where
  pub err : List ℕ
  pub out : List ℕ

-- two sinks took such texts whole, one after the other, and no call of them failed
pub record TookTexts (Are : Texts → Type 0) (err_before err_now : Option (List ℕ)) (err_failures_before err_failures_now : ℕ) (out_before out_now : Option (List ℕ)) (out_failures_before out_failures_now : ℕ) : Type 0 where
  pub texts : Texts
  pub are : Are texts
  pub err : Took texts.err err_before err_now err_failures_before err_failures_now
  pub out : Took texts.out out_before out_now out_failures_before out_failures_now

-- the first text was cut short and the second sink has what it had, or the first was taken whole and the second cut short
pub record CutShortTexts (Are : Texts → Type 0) (err_before err_now : Option (List ℕ)) (err_failures_before err_failures_now : ℕ) (out_before out_now : Option (List ℕ)) (out_failures_before out_failures_now : ℕ) : Type 0 where
  pub texts : Texts
  pub are : Are texts
  pub cut : (CutShort texts.err err_before err_now err_failures_before err_failures_now
      × (out_now ≡ out_before) × (out_failures_now ≡ out_failures_before))
      ⊎ (Took texts.err err_before err_now err_failures_before err_failures_now
      × CutShort texts.out out_before out_now out_failures_before out_failures_now)

-- two sinks took such texts, whole
pub record WroteTexts (Are : Texts → Type 0) (err_before err_now out_before out_now : Option (List ℕ)) : Type 0 where
  pub texts : Texts
  pub are : Are texts
  pub err : Appends err_before err_now texts.err
  pub out : Appends out_before out_now texts.out

-- the first took a prefix of its text and the second nothing, or the first took its text and the second a prefix
pub record WroteTextsPrefix (Are : Texts → Type 0) (err_before err_now out_before out_now : Option (List ℕ)) : Type 0 where
  pub texts : Texts
  pub are : Are texts
  pub taken : (AppendsPrefix err_before err_now texts.err × (out_now ≡ out_before))
      ⊎ (Appends err_before err_now texts.err × AppendsPrefix out_before out_now texts.out)
