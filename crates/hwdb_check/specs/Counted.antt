-- How often each text of a baseline is left.
use Rattle.std.specs.Prelude.{◌≡◌, ◌+◌, ◌∷◌, [], ℕ, List, if◌then◌else◌}
use Rattle.std.specs.Borrow.{Bor}
use Rattle.std.specs.BTreeMap.{BTreeMap, get_by}
use Rattle.std.specs.Cmp.Lexicographic.{slice_cmp}
use Rattle.std.specs.Option.{unwrap_or}
use Rattle.std.specs.Ordering.{nat_cmp}
use Rattle.hwdb_spec.specs.Folders.{same}
use Rattle.hwdb_spec_commands.specs.Baselines.{mark_of, without_first}
use Rattle.hwdb_check.specs.Found.{kept_of}
use Rattle.hwdb_check.specs.declared.findings.Found.{Found}

-- how often a table has a text left
abbrev pub left_of : BTreeMap (Bor (List ℕ)) ℕ → (text : List ℕ) → ℕ
left_of left text = unwrap_or (get_by (λ k. slice_cmp nat_cmp text k.now) left) 0

-- 1 if two texts are one, and 0 if not
abbrev pub once : (one other : List ℕ) → ℕ
once one other = if same one other then 1 else 0

-- how often a text is among some
abbrev pub often : (text : List ℕ) → List (List ℕ) → ℕ
often text [] = 0
often text (known ∷ more) = once text known + often text more

-- a table has each text as often as it is among some
abbrev pub AreLeft : (known : List (List ℕ)) → BTreeMap (Bor (List ℕ)) ℕ → Type 0
AreLeft known left = (text : List ℕ) → left_of left text ≡ often text known

-- what is left of some texts after a finding
abbrev pub after : (known : List (List ℕ)) → Found → List (List ℕ)
after known found = without_first (mark_of (kept_of found)) known
