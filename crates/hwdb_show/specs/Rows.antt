-- Worked rows: what is shown of some bytes. Which characters are for control, and their bytes, are from ECMA-48 (C0, C1) and
-- the tables of Unicode.
use Rattle.std.specs.Prelude.{◌≡◌, ◌∷◌, ◌++◌, [], codes}
use Rattle.hwdb_spec_commands.specs.Json.{escaped}
use Rattle.hwdb_spec.specs.Visible.{shown_name, visible}

pub record Rows : Type 0 where
  -- BEL, ESC and DEL, a newline and a tab
  pub below : visible (7 ∷ 27 ∷ 127 ∷ 10 ∷ 9 ∷ []) ≡ codes "\\x07\\x1b\\x7f\n\t"
  -- CSI of 8 bits as U+009B and as a byte; U+00A0 is the first after them
  pub csi : visible (194 ∷ 155 ∷ 155 ∷ 194 ∷ 160 ∷ []) ≡ codes "\\xc2\\x9b\\x9b" ++ 194 ∷ 160 ∷ []
  -- U+00DB and U+20AC, whose second bytes are 155 and 130
  pub letters : visible (195 ∷ 155 ∷ 226 ∷ 130 ∷ 172 ∷ []) ≡ 195 ∷ 155 ∷ 226 ∷ 130 ∷ 172 ∷ []
  -- the same, cut after two bytes
  pub cut : visible (226 ∷ 130 ∷ 65 ∷ []) ≡ codes "\\xe2\\x82A"
  -- a name has no newline of ours
  pub name : shown_name (codes "a\n\tb") ≡ codes "a\\x0a\\x09b"
  -- the same bytes in a string of JSON: DEL, U+009B and U+0080; then U+00A0, U+00C2 and U+00DB stay
  pub json : escaped (34 ∷ 127 ∷ 194 ∷ 155 ∷ 194 ∷ 128 ∷ 194 ∷ 160 ∷ 195 ∷ 130 ∷ 195 ∷ 155 ∷ 34 ∷ [])
      ≡ codes "\"\\u007f\\u009b\\u0080" ++ 194 ∷ 160 ∷ 195 ∷ 130 ∷ 195 ∷ 155 ∷ 34 ∷ []
