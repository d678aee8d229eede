-- What the types of this crate mean.
use Rattle.std.specs.Prelude.{List, ℕ, Option, Some, None, map}
use Rattle.std.proofs.Common.{Vec, Global}
use Rattle.std.specs.Borrow.{Bor}
use Rattle.hwdb_rulecommands.specs.CommandWords
use Rattle.hwdb_rulecommands.specs.LookupCommands
use Rattle.hwdb_rulecommands.specs.declared.splitting.Reading.{Reading}
use Rattle.hwdb_rulecommands.specs.declared.splitting.Reading.TheVariants as Readings
use Rattle.hwdb_rulecommands.specs.declared.lookups.Lookup.{Lookup}

-- the text of a word that is owned
abbrev pub word_of : Vec ℕ Global → List ℕ
word_of word = word.items

-- a text that is borrowed
abbrev pub text_of : Bor (List ℕ) → List ℕ
text_of text = text.now

abbrev pub reading_of : Reading → CommandWords.Reading
reading_of Readings.Between = CommandWords.Between
reading_of (Readings.Word word) = CommandWords.Word word.items
reading_of (Readings.Quoted quote word) = CommandWords.Quoted quote word.items

abbrev pub text_view : Option (Bor (List ℕ)) → Option (List ℕ)
text_view None = None
text_view (Some text) = Some text.now

abbrev pub lookup_of : Lookup → LookupCommands.Lookup
lookup_of l = record { subsystem = text_view l.subsystem; prefix = l.prefix.now; text = text_view l.text }

abbrev pub lookup_view : Option Lookup → Option LookupCommands.Lookup
lookup_view None = None
lookup_view (Some l) = Some (lookup_of l)

abbrev pub texts_view : Option (Bor (List (Bor (List ℕ)))) → Option (List (List ℕ))
texts_view None = None
texts_view (Some texts) = Some (map text_of texts.now)
