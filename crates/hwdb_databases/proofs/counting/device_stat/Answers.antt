use Rattle.std.proofs.Common.{List, map, refl, sym, take, ◌∙◌, ℕ}
use Rattle.std.proofs.lemmas.List.{map_more}
use Rattle.std.specs.Borrow.{Bor}
use Rattle.hwdb_spec_commands.specs.ChangeCounts.{no_stat}
use Rattle.hwdb_spec_commands.specs.Comparisons.{device_changes}
use Rattle.hwdb_spec_commands.specs.Differences.{are_some}
use Rattle.hwdb_spec_commands.specs.Reviews.{review_in}
use Rattle.hwdb_databases.specs.Internal.Counts.{stat_shown}
use Rattle.hwdb_databases.proofs.NamedCountLemmas.{any_more, devices_more, no_devices}
use Rattle.hwdb_databases.proofs.counting.device_stat.Goals as goal

pub loop-device-init : goal.loop-device-init
loop-device-init c = record {
  stat = c.empty-stat.ensures ∙ sym (no_devices (review_in c.args.review.now) no_stat c.args.sides.old.now c.args.sides.new.now);
  differ = refl;
}

pub loop-device-preserved : goal.loop-device-preserved
loop-device-preserved c =
    let ds = c.args.devices.now in
    let i = c.loop-device.device-index in
    let r = review_in c.args.review.now in
    let old = c.args.sides.old.now in
    let new = c.args.sides.new.now in
    let shown : Bor (List ℕ) → List ℕ = λ d. d.now in
    let more = map_more shown ds i _ c.loop-device-test.true in
    record {
      stat = devices_more r no_stat (stat_shown c.loop-device.stat) (stat_shown c.count_device.new.stat) (map shown (take i ds)) _ _ old new more c.loop-device.invariant.stat c.in_ok-differ.ensures.stat;
      differ = any_more (λ d. are_some (device_changes r old new d)) c.loop-device.differ c.in_ok-differ.field-0 (map shown (take i ds)) _ _ more c.loop-device.invariant.differ c.in_ok-differ.ensures.differs;
    }
