use Rattle.std.proofs.Common.{◌∙◌, ap, arith, length}
use Rattle.hwdb_spec.specs.Assignment.{ascending}
use Rattle.hwdb_spec.specs.Written.{section_of}
use Rattle.hwdb_writer.specs.Internal.Numbered.{bounded_end}
use Rattle.hwdb_writer.specs.Internal.PostOrder.{tree_of}
use Rattle.hwdb_writer.proofs.WholeLemmas.{too_long, exact, length-written}
use Rattle.hwdb_writer.proofs.RecordLemmas.{laid_out}
use Rattle.hwdb_writer.proofs.TableLemmas.{placed_in}
use Rattle.hwdb_writer.proofs.output.database_within.Goals as goal

pub returns-then-table-max_bytes : goal.returns-then-table-max_bytes
returns-then-table-max_bytes c = λ es ns s narrow.
    let t = tree_of es ns in
    let sized = s.sized in
    let ended = c.in_ok-table.ensures.ended ∙ ap (bounded_end c.saturating_add-first.result) s.strings in
    let l = length-written t in
    let k = too_long _ _ _ c.args.max_bytes _ _ sized c.saturating_add-first.ensures ended c.if-table-max_bytes.true in
    omega (arith, l, k)

pub database-requires : goal.database-requires
database-requires c =
    let es = c.requires.0 in
    let ns = c.requires.1 in
    let s = c.requires.2 in
    let t = tree_of es ns in
    let words = c.args.stored.interner in
    let first = c.saturating_add-first.result in
    let sized = s.sized in
    let ended = c.in_ok-table.ensures.ended ∙ ap (bounded_end first) s.strings in
    let x = exact _ _ _ c.args.max_bytes _ _ sized c.saturating_add-first.ensures ended c.if-table-max_bytes.false c.ranges.max_bytes.fits in
    let same = ap (λ ss. length (section_of ss)) s.strings in
    let here = c.deref-4.ensures.value ∙ c.in_ok-table.ensures.section in
    let long = ap length here in
    let placed = placed_in first c.args.stored.size words (ascending words) c.deref-3.result.now _ c.deref-3.ensures.value c.in_ok-table.ensures.places x.first_is
    (omega (arith, same, x.nodes_is, x.first_is, x.within, c.ranges.max_bytes.fits)) in (
      es,
      ns,
      laid_out es ns c.args.stored s c.requires.3 c.deref.result.now c.deref-2.result.now (ascending words) c.deref-3.result.now _ c.deref-4.result.now c.deref.ensures.value c.deref-2.ensures.value s.strings
          here placed x.nodes_is (omega (arith, long, same, x.nodes_is, x.within, c.ranges.max_bytes.fits)),
    )

pub returns : goal.returns
returns c = λ es ns s narrow.
    let t = tree_of es ns in
    let words = c.args.stored.interner in
    let first = c.saturating_add-first.result in
    let sized = s.sized in
    let ended = c.in_ok-table.ensures.ended ∙ ap (bounded_end first) s.strings in
    let x = exact _ _ _ c.args.max_bytes _ _ sized c.saturating_add-first.ensures ended c.if-table-max_bytes.false c.ranges.max_bytes.fits in
    let same = ap (λ ss. length (section_of ss)) s.strings in
    let here = c.deref-4.ensures.value ∙ c.in_ok-table.ensures.section in
    let long = ap length here in
    let placed = placed_in first c.args.stored.size words (ascending words) c.deref-3.result.now _ c.deref-3.ensures.value c.in_ok-table.ensures.places x.first_is
    (omega (arith, same, x.nodes_is, x.first_is, x.within, c.ranges.max_bytes.fits)) in
    let laid = laid_out es ns c.args.stored s narrow c.deref.result.now c.deref-2.result.now (ascending words) c.deref-3.result.now _ c.deref-4.result.now c.deref.ensures.value c.deref-2.ensures.value s.strings
    here placed x.nodes_is (omega (arith, long, same, x.nodes_is, x.within, c.ranges.max_bytes.fits)) in
    (c.in_ok-bytes.ensures es ns laid, omega (arith, length-written t, x.within))
