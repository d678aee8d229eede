-- A string and its number, as a sort takes them.
use Rattle.std.specs.Prelude.{List, ℕ, refl}
use Rattle.std.specs.Coded.{Coded, coded_ℕ, code_by, coded×}
use Rattle.hwdb_writer.specs.Internal.Codes.{coded_bytes}

pub record Word : Type 0 where
  pub word : List ℕ
  pub number : ℕ

abbrev pub word_of : Word → List ℕ
word_of w = w.word

abbrev pub coded_word : Coded Word
coded_word = code_by (List ℕ × ℕ) (coded× coded_bytes coded_ℕ) (λ w. (w.word, w.number)) (λ p. record { word = p.0; number = p.1 }) (λ _. refl)
