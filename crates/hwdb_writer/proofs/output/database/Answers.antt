use Rattle.std.proofs.Common.{◌+◌, ◌++◌, ◌∙◌, ap, refl, length}
use Rattle.hwdb_spec.specs.Written.{place_of, table_of}
use Rattle.hwdb_writer.specs.Internal.PostOrder.{tree_of}
use Rattle.hwdb_writer.proofs.WholeLemmas.{built, three_rows}
use Rattle.hwdb_writer.proofs.output.database.Goals as goal

pub push_records-requires : goal.push_records-requires
push_records-requires c =
    let es = c.requires.0 in
    let ns = c.requires.1 in
    (place_of (80 + c.args.size) (table_of (tree_of es ns)), es, ns, c.requires.2.records)

pub returns : goal.returns
returns c = λ es ns l.
    let t = tree_of es ns in
    let place = place_of (80 + c.args.size) (table_of t) in
    let root = c.root_place-root_at.ensures place c.args.places.now es ns l.records.order l.records.nodes l.sized in
    let rows = three_rows _ c.root_place-root_at.result c.args.size (length c.args.section.now) _ _ _ _ c.in_ok-push_numbers.ensures c.in_ok-push_numbers-2.ensures c.in_ok-push_numbers-3.ensures in
    built t (table_of t) c.args.size (length c.args.section.now) c.root_place-root_at.result _ _ _ _ _ refl l.sized (ap length l.is) root
    c.in_ok-out.ensures.items c.in_ok-extend_from_slice.ensures.items rows (c.in_ok-push_records.ensures place es ns l.records) (c.in_ok-extend_from_slice-2.ensures.items ∙ ap (λ x. c.push_records.new.out.items ++ x) l.is)
