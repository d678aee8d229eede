use Rattle.std.proofs.Common.{◌∙◌, map}
use Rattle.hwdb_text.specs.Views.{given_in}
use Rattle.hwdb_check.specs.Internal.{own}
use Rattle.hwdb_check.proofs.SoughtLemmas.{set_is, unread_is}
use Rattle.hwdb_check.proofs.unread.unread_lines.Goals as goal

pub returns : goal.returns
returns c =
    unread_is (map (given_in own) c.args.all.now) _
    (set_is _ _ c.in_ok-elsewhere.elsewhere (c.deref.ensures.value ∙ c.in_ok-elsewhere_lines.ensures) c.in_ok-elsewhere.ensures)
    (set_is _ _ c.in_ok-read.read (c.deref-2.ensures.value ∙ c.in_ok-read_lines.ensures) c.in_ok-read.ensures)
