use Rattle.std.proofs.Common.{arith}
use Rattle.hwdb_tool.proofs.in_parts.text_of_opened.Goals as goal

pub returns : goal.returns
returns g c = λ bytes is.
    let kept = c.in_ok-kept.ensures.kept bytes is in
    let size = kept.size in
    let within = c.in_ok-kept.ensures.within in
    (omega (arith, size, within), c.in_ok-text.ensures bytes is kept)
