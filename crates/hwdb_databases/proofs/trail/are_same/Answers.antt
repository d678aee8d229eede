use Rattle.std.proofs.Common.{◌∙◌, ◌++◌, sym}
use Rattle.hwdb_spec.specs.Lemmas.Orders.{same_text}
use Rattle.hwdb_reader.specs.Unread.{text_of}
use Rattle.hwdb_databases.proofs.trail.are_same.Goals as goal

pub returns-then-have_one_byte : goal.returns-then-have_one_byte
returns-then-have_one_byte c e =
    let byte = c.have_one_byte.ensures c.if-have_one_byte.true in
    let text = same_text (text_of c.args.old.now.prefix) (text_of c.args.new.now.prefix) (sym c.are_same.ensures ∙ e) in
    λ i. byte i ++ text i
