-- What contracts see of values whose texts weren't read, and of what two databases have in common.
use Rattle.std.specs.Prelude.{List, ℕ, ◌≡◌}
use Rattle.hwdb_spec.specs.Format.{text_at}
use Rattle.hwdb_spec.specs.Tree.{Value}
use Rattle.hwdb_reader.specs.declared.twins.Twins.{Twins}
use Rattle.hwdb_reader.specs.declared.unread.StoredText.{StoredText}
use Rattle.hwdb_reader.specs.declared.unread.UnreadEntry.{UnreadEntry}
use Rattle.hwdb_reader.specs.declared.view.Inside.{Inside}
use Rattle.hwdb_reader.specs.declared.view.Node.{Node}

-- the text itself
unfoldable pub text_of : StoredText → List ℕ
text_of t = text_at t.bytes.now t.at

-- the bytes of the database that it is a text of
unfoldable pub file_of : StoredText → List ℕ
file_of t = t.bytes.now

-- the value of an entry
abbrev pub value_in : UnreadEntry → Value
value_in e = record { priority = e.priority; line = e.line; key = text_of e.key; value = text_of e.value; path = text_of e.path }

-- the texts of an entry are those of a database with these bytes
pub record IsFrom (file : List ℕ) (e : UnreadEntry) : Type 0 where
  pub key : file_of e.key ≡ file
  pub value : file_of e.value ≡ file
  pub path : file_of e.path ≡ file

-- the bytes of a node's database
unfoldable pub file_at : Node → List ℕ
file_at n = n.bytes.now

-- those of the database of a node that was entered
abbrev pub file_in : Inside → List ℕ
file_in i = file_at i.node

-- the bytes of the two databases
unfoldable pub old_file : Twins → List ℕ
old_file t = t.old.now

unfoldable pub new_file : Twins → List ℕ
new_file t = t.new.now
