use Rattle.hwdb_reader.specs.Unread.{file_of, new_file, old_file, text_of}
use Rattle.hwdb_reader.proofs.SharedLemmas.{same_known}
use Rattle.hwdb_reader.proofs.twins.Twins.are_same.Goals as goal

pub returns-then-is_known : goal.returns-then-is_known
unfolding file_of old_file new_file text_of
returns-then-is_known c =
    let twins = c.args.self.now in
    same_known c.args.old.bytes.now c.args.new.bytes.now twins.old.now twins.new.now c.args.old.at c.args.new.at c.requires.old c.requires.new
    (c.is_known.ensures c.if-is_known.true)
