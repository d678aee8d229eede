-- What is told, and the status.
use Rattle.std.proofs.Common.{◌≡◌, ◌≢◌, ℕ, Bool, true, false, not, cond, List, [], ◌∷◌, ◌++◌, length, refl, ap, arith, ◌==◌, codes}
use Rattle.std.specs.Prelude.{Option, None, Some, filter, flat_map}
use Rattle.std.specs.Fmt.{decimal}
use Rattle.std.specs.List.{AllByRecursion}
use Rattle.std.proofs.lemmas.Bool.{eqb-true, false≢true}
use Rattle.std.proofs.lemmas.List.Elements.{All-from_recursion, recursion_from_All}
use Rattle.hwdb_spec.specs.Answers.{effective_of}
use Rattle.hwdb_spec_commands.specs.Json.{json_text}
use Rattle.hwdb_spec.specs.Lines.{Line}
use Rattle.hwdb_spec.specs.Texts.{place_text}
use Rattle.hwdb_spec.specs.Visible.{shown_name}
use Rattle.hwdb_spec_commands.specs.Wanted.{GivenValue, about, counting, device_hint_line, device_line, failed, failure_json, failure_text, failures, given_line, held, holds, wanted_line, wanted_text}
use Rattle.hwdb_test.specs.Laws.{FailingIsTold, HoldingIsSilent, ZeroIfAllHold}

-- a text with a byte in it isn't empty
some_more : (before : List ℕ) (b : ℕ) (more : List ℕ) → before ++ b ∷ more ≢ []
some_more [] b more = λ e. cc
some_more (x ∷ before) b more = λ e. cc

some_before : (before after : List ℕ) → before ≢ [] → before ++ after ≢ []
some_before [] after h = absurd (h refl)
some_before (x ∷ before) after h = λ e. cc

text_is_some : (path device : List ℕ) (l : Line) (given : Option GivenValue) → failure_text path device l given ≢ []
text_is_some path device l given =
    some_before (wanted_line path l) (device_line device ++ (given_line given ++ device_hint_line device))
    (some_before (place_text path l.number) (codes ": wanted " ++ (wanted_text l ++ 10 ∷ [])) (some_more (shown_name path) 58 (decimal l.number)))

failures_are_some : (json : Bool) (path device : List ℕ) (l : Line) (instead : List GivenValue) → failures json path device l instead ≢ []
failures_are_some true path device l instead = some_more (json_text (failure_json path device l instead)) 10 []
failures_are_some false path device l [] = text_is_some path device l None
failures_are_some false path device l (g ∷ more) =
    some_before (failure_text path device l (Some g)) (flat_map (λ g. failure_text path device l (Some g)) more) (text_is_some path device l (Some g))

told_by : (h : Bool) (text : List ℕ) → h ≡ false → text ≢ [] → cond h [] text ≢ []
told_by true text e some = cc
told_by false text e some = some

silent_by : (h : Bool) (text : List ℕ) → h ≡ true → cond h [] text ≡ []
silent_by true text e = refl
silent_by false text e = cc

pub failing_is_told : FailingIsTold
failing_is_told json path device all answers l e =
    told_by (holds all (effective_of answers) l) (failures json path device l (about all (counting answers) l)) e (failures_are_some json path device l (about all (counting answers) l))

pub holding_is_silent : HoldingIsSilent
holding_is_silent json path device all answers l e =
    silent_by (holds all (effective_of answers) l) (failures json path device l (about all (counting answers) l)) e

-- a count of 0, by a test of it
zero_by : (n : ℕ) (t : Bool) → (n == 0) ≡ t → ◌≡◌ {A = ℕ} (cond t 0 1) 0 → n ≡ 0
zero_by n true e z = eqb-true n 0 e
zero_by n false e z = cc

none_by : (n : ℕ) → n ≡ 0 → ◌≡◌ {A = ℕ} (cond (n == 0) 0 1) 0
none_by n e = ap {B = ℕ} (λ (k : ℕ). cond (k == 0) 0 1) e

all_hold : (hs : List Bool) → length (filter not hs) ≡ 0 → AllByRecursion (λ h. h ≡ true) hs
all_hold [] e = tt
all_hold (true ∷ hs) e = (refl, all_hold hs e)
all_hold (false ∷ hs) e = absurd (omega arith)

none_fails : (hs : List Bool) → AllByRecursion (λ h. h ≡ true) hs → length (filter not hs) ≡ 0
none_fails [] all = refl
none_fails (true ∷ hs) all = none_fails hs all.1
none_fails (false ∷ hs) all = absurd (false≢true all.0)

pub zero_if_all_hold : ZeroIfAllHold
zero_if_all_hold files t = (
  λ z. All-from_recursion (λ h. h ≡ true) (held t files) (all_hold (held t files) (zero_by (failed (held t files)) (failed (held t files) == 0) refl z)),
  λ all. none_by (failed (held t files)) (none_fails (held t files) (recursion_from_All (λ h. h ≡ true) (held t files) all)),
)
