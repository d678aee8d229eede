-- What the proofs of this crate speak of.
use Rattle.std.specs.Prelude.{List, ℕ, Bool, ◌≡◌, is_some}
use Rattle.std.specs.Borrow.{Bor}
use Rattle.std.specs.BTreeMap.{BTreeMap, get_by}
use Rattle.std.specs.Cmp.Lexicographic.{slice_cmp}
use Rattle.std.specs.Ordering.{nat_cmp}
use Rattle.hwdb_rulefiles.specs.RuleLines.{Outcome}
use Rattle.hwdb_rulefiles.specs.RuleJumps.{is_labelled}

-- whether a name is among those that are held
abbrev pub knows : BTreeMap (Bor (List ℕ)) Bool → List ℕ → Bool
knows labels name = is_some (get_by (λ k. slice_cmp nat_cmp name k.now) labels)

-- the names of these lines are held, and no others
abbrev pub AreLabels : BTreeMap (Bor (List ℕ)) Bool → List Outcome → Type 0
AreLabels labels later = (name : List ℕ) → knows labels name ≡ is_labelled name later
