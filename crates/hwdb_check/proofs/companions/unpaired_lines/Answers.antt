use Rattle.std.proofs.Common.{◌∙◌, map, sym}
use Rattle.hwdb_text.specs.Views.{given_in}
use Rattle.hwdb_check.specs.Internal.{own}
use Rattle.hwdb_check.proofs.SoughtLemmas.{set_is, unpaired_is, unpaired_none}
use Rattle.hwdb_check.proofs.companions.unpaired_lines.Goals as goal

pub returns-then-not-any_has_companions : goal.returns-then-not-any_has_companions
returns-then-not-any_has_companions c =
    unpaired_none (map (given_in own) c.args.all.now) c.new.result (sym c.any_has_companions.ensures ∙ c.if-not-any_has_companions.true) c.new.ensures.empty

pub returns : goal.returns
returns c =
    unpaired_is (map (given_in own) c.args.all.now) c.in_ok-places.places c.in_ok-lines.lines c.in_ok-places.ensures
    (set_is _ _ c.in_ok-lines.lines (c.deref.ensures.value ∙ c.in_ok-alone_lines.ensures) c.in_ok-lines.ensures)
