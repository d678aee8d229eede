use Rattle.hwdb_reader.specs.Unread.{text_of}
use Rattle.hwdb_reader.proofs.SharedLemmas.{first_space}
use Rattle.hwdb_reader.proofs.unread.UnreadEntry.has_key.Goals as goal

pub returns : goal.returns
unfolding text_of
returns c = first_space c.args.self.now.key.bytes.now c.args.self.now.key.at
