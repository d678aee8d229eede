use Rattle.std.proofs.Common.{codes}
use Rattle.hwdb_spec.specs.Lines.{byte}
use Rattle.hwdb_spec.specs.Visible.{shown_name}
use Rattle.hwdb_device.proofs.WordLemmas.{said}
use Rattle.hwdb_device.proofs.by_word.several_text.Goals as goal

pub returns : goal.returns
returns g c = λ tells.
    said (byte "\n") (codes "several devices: ") (shown_name c.args.given.now) _ (codes "name one of them")
    c.in_ok-text.text.items c.push_name.new.text.items c.push.new.self.items c.push_rows.new.text.items c.extend_from_slice.new.self.items
    c.in_ok-text.ensures.items c.in_ok-push_name.ensures c.in_ok-push.ensures.items (c.in_ok-push_rows.ensures tells) c.in_ok-extend_from_slice.ensures.items
