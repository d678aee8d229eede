use Rattle.std.proofs.Common.{◌≡◌, ◌∙◌, ◌+◌, ◌++◌, List, Bool, arith, ap, sym, subst, take, drop, length}
use Rattle.hwdb_spec.specs.Patterns.{token_at}
use Rattle.hwdb_pattern.specs.Internal.Prefixes.{Steps}
use Rattle.hwdb_pattern.specs.Internal.Tables.{said}
use Rattle.hwdb_pattern.proofs.TableLemmas.{steps_kept, written_back}
use Rattle.hwdb_pattern.proofs.met.LengthTable.stepped.Goals as goal

pub returns : goal.returns
returns c =
    let t = token_at c.args.text.now in
    let least = c.args.self.least in
    let cut = c.truncate.new.self.items in
    let new = c.keep.new.table in
    let size = c.keep.ensures.size in
    let same : length new ≡ length cut = size ∙ ap length c.deref_mut.ensures.value in
    let back : take c.truncate.new.self.len (new ++ drop (length new) cut) ≡ new =
    written_back c.truncate.new.self.len new cut (omega (arith, same, c.truncate.new.self.ok)) same in
    subst (λ (l : List Bool). Steps t c.args.device.now (said least c.args.self.says.items) (said (least + 1) l)) (sym back)
    (steps_kept t c.args.device.now c.bytes_after-bytes.result.now least c.args.self.says.items c.deref_mut.result.now new
    c.bytes_after-bytes.ensures (c.deref_mut.ensures.value ∙ c.truncate.ensures.items) c.keep.ensures)
