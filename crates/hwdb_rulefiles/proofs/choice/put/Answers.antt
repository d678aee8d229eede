use Rattle.std.proofs.Common.{sym, ◌∙◌, ap, map, drop, ◌+◌}
use Rattle.std.specs.String.{string_bytes}
use Rattle.hwdb_rulefiles.specs.RuleFolders.{put_all, counts}
use Rattle.hwdb_rulefiles.specs.FolderNames.{entry_of}
use Rattle.hwdb_rulefiles.proofs.ChoiceLemmas.{put_step, pass_step, item_at}
use Rattle.hwdb_rulefiles.proofs.choice.put.Goals as goal
use Rattle.hwdb_rulefiles.proofs.choice.put.Goals.{then-counts+in_ok-insert, else-counts}

pub loop-name-preserved : goal.loop-name-preserved
loop-name-preserved c =
    let r = ap (map string_bytes) (item_at c.args.list.now c.loop-name.name-index c.name-item.result c.loop-name-test.true c.name-item.is) in
    elim c.if-counts.branch [
      | then-counts+in_ok-insert w ↦
          put_step c.args.folder _ (map string_bytes (drop (c.loop-name.name-index + 1) c.args.list.now)) (string_bytes c.name-item.result) w.as_str.result c.loop-name.names.entries c.if-counts.names.entries
          r w.as_str.ensures.value (sym (c.counts.ensures ∙ ap counts c.as_bytes.ensures.value) ∙ w.if-counts.true)
          (ap (λ m. m.entries) w.names-is ∙ w.in_ok-insert.ensures.entries)
          ∙ c.loop-name.invariant
      | else-counts w ↦
          ap (λ m. put_all c.args.folder (map string_bytes (drop (c.loop-name.name-index + 1) c.args.list.now)) (map entry_of m.entries)) w.names-is
          ∙ pass_step c.args.folder _ (map string_bytes (drop (c.loop-name.name-index + 1) c.args.list.now)) (string_bytes c.name-item.result) c.loop-name.names.entries
          r (sym (c.counts.ensures ∙ ap counts c.as_bytes.ensures.value) ∙ w.if-counts.false)
          ∙ c.loop-name.invariant
    ]
