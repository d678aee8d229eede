use Rattle.std.proofs.Common.{◌∙◌, ◌++◌, ℕ, List, ap, codes}
use Rattle.hwdb_spec_commands.specs.Surroundings.{raised}
use Rattle.hwdb_properties.proofs.PieceLemmas.{two_pieces}
use Rattle.hwdb_properties.proofs.surroundings.push_logged_hint.Goals as goal

pub returns : goal.returns
returns c =
    two_pieces c.args.text.now.items _ _ (codes "Linux logs e0 before a code: below evdev:atkbd: write KEYBOARD_KEY_") _ _
    (c.in_ok-extend_from_slice.ensures.items ∙ ap (λ (l : List ℕ). c.args.text.now.items ++ l) c.as_bytes.ensures.value)
    c.in_ok-push_raised.ensures (ap raised c.past.ensures)
