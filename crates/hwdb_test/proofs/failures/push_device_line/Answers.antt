use Rattle.std.proofs.Common.{◌++◌, ◌∙◌, ◌∷◌, [], ap, append_assoc, codes}
use Rattle.hwdb_test.proofs.failures.push_device_line.Goals as goal

pub returns : goal.returns
returns c =
    let text = c.args.text.now.items in
    let device = c.args.device.now in
    c.in_ok-push.ensures.items
    ∙ ap (λ l. l ++ 10 ∷ []) (c.in_ok-extend_from_slice-2.ensures.items ∙ ap (λ l. l ++ device) c.in_ok-extend_from_slice.ensures.items)
    ∙ append_assoc (text ++ codes "    device: ") device (10 ∷ [])
    ∙ append_assoc text (codes "    device: ") (device ++ 10 ∷ [])
