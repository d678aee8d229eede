use Rattle.std.proofs.Common.{◌≡◌, ◌<◌, ◌≤◌, ◌∙◌, sym, length, arith}
use Rattle.hwdb_rulefiles.specs.Views.{reading_of}
use Rattle.hwdb_rulefiles.proofs.RowLemmas.{next_text, no_text}
use Rattle.hwdb_rulefiles.proofs.SpotLemmas.{spot_first, spot_none, spot_stop, spot_end, spot_on}
use Rattle.hwdb_rulefiles.proofs.spots.spot_of.Goals as goal

pub loop-index-init : goal.loop-index-init
loop-index-init c =
    spot_first (reading_of c.new-reader.result) c.saturating_sub-index.result c.args.line c.args.place c.args.rows.now c.new-reader.ensures
    c.saturating_sub-index.ensures

pub returns-then-place-len : goal.returns-then-place-len
returns-then-place-len c =
    let h : c.args.place < length c.loop-index.reader.text.items = omega arith in
    sym (spot_stop (reading_of c.loop-index.reader) c.loop-index.index _ c.args.place c.loop-index.spot h) ∙ c.loop-index.invariant

pub returns-then-not-reader : goal.returns-then-not-reader
returns-then-not-reader c =
    let h : length c.loop-index.reader.text.items ≤ c.args.place = omega arith in
    sym
    (spot_end (reading_of c.loop-index.reader) (reading_of c.row.new.self) c.loop-index.index _ _ _ c.args.place c.loop-index.spot c.here-spot.result
    (next_text c.args.rows.now c.loop-index.index _ c.loop-index-test.true) h c.in_ok-row.ensures c.here-spot.ensures c.if-not-reader.true)
    ∙ c.loop-index.invariant

pub loop-index-preserved : goal.loop-index-preserved
loop-index-preserved c =
    let h : length c.loop-index.reader.text.items ≤ c.args.place = omega arith in
    sym
    (spot_on (reading_of c.loop-index.reader) (reading_of c.row.new.self) c.loop-index.index _ _ _ c.args.place c.loop-index.spot c.here-spot.result
    (next_text c.args.rows.now c.loop-index.index _ c.loop-index-test.true) h c.in_ok-row.ensures c.here-spot.ensures c.if-not-reader.false)
    ∙ c.loop-index.invariant

pub returns : goal.returns
returns c =
    sym (spot_none (reading_of c.loop-index.reader) c.loop-index.index _ c.args.place c.loop-index.spot (no_text c.args.rows.now c.loop-index.index (omega arith)))
    ∙ c.loop-index.invariant
