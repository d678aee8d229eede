-- What an entry sets: a value at a pattern and a key.
use Rattle.std.specs.Prelude.{List, ℕ, ◌∷◌, ◌≤◌, length, refl}
use Rattle.std.specs.Coded.{Coded, coded_ℕ, code_by, coded×}
use Rattle.hwdb_writer.specs.Internal.Codes.{coded_bytes}
use Rattle.std.specs.Borrow.{Bor}
use Rattle.std.specs.Cmp.{IsTotalOrder, on_total, then_total}
use Rattle.std.specs.Cmp.Lexicographic.{nat_list_cmp_total}
use Rattle.std.specs.declared.cmp.Ordering.{Ordering}
use Rattle.hwdb_spec.specs.Assignment.{Assignment}
use Rattle.hwdb_spec.specs.Lines.{max_pattern}
use Rattle.hwdb_spec.specs.Tree.{Value, place_cmp}
use Rattle.hwdb_writer.specs.Internal.Storable.{IsStorableValue, IsText}
use Rattle.hwdb_writer.specs.declared.entries.Setting.{Setting}

-- the value, with its stored key
abbrev pub value_of : Setting → Value
value_of e = record { priority = e.priority; line = e.line; key = 32 ∷ e.key.now; value = e.value.now; path = e.path.now }

-- the value under its path, as a tree has it
abbrev pub placed : Setting → List ℕ × Value
placed e = (e.pattern.now, value_of e)

abbrev pub assignment_of : Setting → Assignment
assignment_of e = record {
  position = record { priority = e.priority; line = e.line; pattern = e.pattern.now; key = e.key.now };
  value = e.value.now;
  path = e.path.now;
}

abbrev pub place_of : Setting → List ℕ × List ℕ
place_of e = (e.pattern.now, e.key.now)

-- the order of entries: by pattern, and then by key
abbrev pub by_place : Setting → Setting → Ordering
by_place a b = place_cmp (place_of a) (place_of b)

pub by_place_total : IsTotalOrder by_place
by_place_total =
    then_total (on_total (λ (e : Setting). e.pattern.now) nat_list_cmp_total) (on_total (λ (e : Setting). e.key.now) nat_list_cmp_total)

-- the code of an entry
abbrev pub coded_ref : Coded (Bor (List ℕ))
coded_ref = code_by ((ℕ × ℕ) × List ℕ) (coded× (coded× coded_ℕ coded_ℕ) coded_bytes) (λ r. (r.ref_ptr, r.now)) (λ p. record { ref_ptr = p.0; now = p.1 }) (λ _. refl)

abbrev pub coded_entry : Coded Setting
coded_entry =
    code_by (((Bor (List ℕ) × Bor (List ℕ)) × (Bor (List ℕ) × Bor (List ℕ))) × (ℕ × ℕ)) (coded× (coded× (coded× coded_ref coded_ref) (coded× coded_ref coded_ref)) (coded× coded_ℕ coded_ℕ))
    (λ e. (((e.pattern, e.key), (e.value, e.path)), (e.line, e.priority))) (λ p. record { pattern = p.0.0.0; key = p.0.0.1; value = p.0.1.0; path = p.0.1.1; line = p.1.0; priority = p.1.1 }) (λ _. refl)

-- a tree can hold it
pub record IsStorableEntry (e : Setting) : Type 0 where
  pub text : IsText e.pattern.now
  pub short : length e.pattern.now ≤ max_pattern
  pub value : IsStorableValue (value_of e)
