-- What the proofs of this crate speak of.
use Rattle.std.specs.Prelude.{Bool, ℕ, List, [], None, false, true, ◌≡◌}
use Rattle.hwdb_spec_commands.specs.Properties.{has_lost_words, is_for, is_near_name, misuse, same_letters, word}
use Rattle.hwdb_spec_commands.specs.Surroundings.{companions_text, has_logged_code, is_read_below}
use Rattle.hwdb_properties.specs.declared.rows.Likeness.{Likeness}
use Rattle.hwdb_properties.specs.declared.rows.Likeness.TheVariants.{Letters, Lost, Near, Same}

-- whether a row's name is like one that is given
abbrev pub passes : Likeness → (name row : List ℕ) → Bool
passes Same name row = is_for row name
passes Letters name row = same_letters (word row) name
passes Near name row = is_near_name (word row) name
passes Lost name row = has_lost_words (word row) name

-- A property takes any text, and is read below any prefix, without others. Its name has no code.
pub record IsCommon (name : List ℕ) : Type 0 where
  pub any : (text : List ℕ) → misuse name text ≡ None
  pub anywhere : (prefix : List ℕ) → is_read_below name prefix ≡ true
  pub unlogged : has_logged_code name ≡ false
  pub alone : companions_text name ≡ []
