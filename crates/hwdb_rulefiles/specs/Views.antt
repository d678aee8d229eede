-- What the types of this crate mean.
use Rattle.std.specs.Prelude.{List, ℕ, map}
use Rattle.std.specs.Borrow.{Bor}
use Rattle.hwdb_rulefiles.specs.RuleText.{Whole, Reading, first_rows}
use Rattle.hwdb_rulefiles.specs.declared.whole.WholeLine.{WholeLine}
use Rattle.hwdb_rulefiles.specs.declared.whole.Reader.{Reader}

abbrev pub text_of : Bor (List ℕ) → List ℕ
text_of text = text.now

abbrev pub whole_of : WholeLine → Whole
whole_of l = record { number = l.number; text = l.text.items; long = l.long }

abbrev pub reading_of : Reader → Reading
reading_of r = record { held = r.held; first = r.first; text = r.text.items; long = r.long; lines = map whole_of r.lines.items }
