use Rattle.std.proofs.Common.{◌∙◌, ap, drop, sym}
use Rattle.std.proofs.lemmas.Cmp.{nat_list_cmp_total, tied_itself}
use Rattle.hwdb_spec.specs.Assignment.{text_cmp}
use Rattle.hwdb_spec.specs.Lemmas.Orders.{same_text}
use Rattle.hwdb_reader.specs.Unread.{text_of}
use Rattle.hwdb_databases.proofs.meeting.compare_keys.Goals as goal

pub are_same-requires-clause-old : goal.are_same-requires-clause-old
are_same-requires-clause-old c = c.requires.old.key

pub are_same-requires-clause-new : goal.are_same-requires-clause-new
are_same-requires-clause-new c = c.requires.new.key

pub returns-then-are_same : goal.returns-then-are_same
returns-then-are_same c =
    let x = text_of c.args.x.now.key in
    let y = text_of c.args.y.now.key in
    sym (tied_itself nat_list_cmp_total (drop 1 y)) ∙ ap (λ t. text_cmp (drop 1 t) (drop 1 y)) (sym (same_text x y (sym c.are_same.ensures ∙ c.if-are_same.true)))
