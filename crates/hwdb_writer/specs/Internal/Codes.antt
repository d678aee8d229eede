-- The code of a map.
use Rattle.std.specs.Prelude.{List, ℕ, refl}
use Rattle.std.specs.Coded.{Coded, coded_list, coded_ℕ, code_by, coded×}
use Rattle.hwdb_spec.specs.Assignment.{Assignment}
use Rattle.hwdb_spec.specs.Tree.{Map, Value}
use Rattle.std.specs.FinMap as finite

abbrev pub coded_bytes : Coded (List ℕ)
coded_bytes = coded_list coded_ℕ

abbrev pub coded_texts : Coded (List (List ℕ))
coded_texts = coded_list coded_bytes

abbrev pub assignment_code : Coded Assignment
assignment_code =
    code_by (((ℕ × ℕ) × (List ℕ × List ℕ)) × (List ℕ × List ℕ)) (coded× (coded× (coded× coded_ℕ coded_ℕ) (coded× coded_bytes coded_bytes)) (coded× coded_bytes coded_bytes))
    (λ a. (((a.position.priority, a.position.line), (a.position.pattern, a.position.key)), (a.value, a.path)))
    (λ p. record { position = record { priority = p.0.0.0; line = p.0.0.1; pattern = p.0.1.0; key = p.0.1.1 }; value = p.1.0; path = p.1.1 }) (λ _. refl)

abbrev pub value_code : Coded Value
value_code =
    code_by (((ℕ × ℕ) × List ℕ) × (List ℕ × List ℕ)) (coded× (coded× (coded× coded_ℕ coded_ℕ) coded_bytes) (coded× coded_bytes coded_bytes)) (λ v. (((v.priority, v.line), v.key), (v.value, v.path)))
    (λ p. record { priority = p.0.0.0; line = p.0.0.1; key = p.0.1; value = p.1.0; path = p.1.1 }) (λ _. refl)

abbrev pub map_code : Coded Map
map_code = finite.code (coded× coded_bytes coded_bytes) assignment_code
