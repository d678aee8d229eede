-- What is asked of a database: hits of a device, or what is printed of devices. Our choice.
use Rattle.std.specs.Prelude.{ℕ, List, Option, map, option_map, string_bytes}
use Rattle.hwdb_spec_commands.specs.Asked.{IsListFrom}
use Rattle.hwdb_spec_commands.specs.Databases.{IsTextOf}
use Rattle.hwdb_spec_commands.specs.Streams.{texts_of}
use Rattle.hwdb_answers.specs.declared.listing.ListAsked.{ListAsked}
use Rattle.hwdb_answers.specs.declared.kept_texts.Wanted.{Wanted}
use Rattle.hwdb_answers.specs.declared.kept_texts.Wanted.TheVariants.{Devices, Hits}

-- the text of the position after which the hits begin, if there is one
abbrev pub after_of : ListAsked → Option (List ℕ)
after_of a = option_map (λ t. t.now) a.after

-- the text is what `list` prints of the hits that are asked for
abbrev pub IsListOf : ListAsked → (bytes text : List ℕ) → Type 0
IsListOf a bytes text = IsListFrom a.json a.device.now (after_of a) a.limit bytes text

-- the text is what is printed of what is wanted
abbrev pub IsWantedText : Wanted → (bytes text : List ℕ) → Type 0
IsWantedText (Devices devices form) bytes text = IsTextOf (texts_of form (map string_bytes devices.now)) bytes text
IsWantedText (Hits asked) bytes text = IsListOf asked bytes text
