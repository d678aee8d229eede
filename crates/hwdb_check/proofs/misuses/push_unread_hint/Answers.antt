use Rattle.std.proofs.Common.{◌≡◌, ◌++◌, ℕ, Bool, List, OnOk, subst, sym}
use Rattle.hwdb_spec.specs.Lines.{key}
use Rattle.hwdb_spec_commands.specs.Surroundings.{elsewhere_hint, unread_hint}
use Rattle.hwdb_check.specs.Internal.{line_of}
use Rattle.hwdb_check.proofs.misuses.push_unread_hint.Goals as goal

pub returns-then-known : goal.returns-then-known
returns-then-known c =
    subst
    (λ (known : Bool). OnOk c.push_elsewhere_hint.result (c.push_elsewhere_hint.new.text.items ≡ c.args.text.now.items ++ unread_hint known (key (line_of 0 c.args.clean.now))))
    (sym c.if-known.true)
    (subst (λ (k : List ℕ). OnOk c.push_elsewhere_hint.result (c.push_elsewhere_hint.new.text.items ≡ c.args.text.now.items ++ elsewhere_hint k))
    c.key_of.ensures c.push_elsewhere_hint.ensures)
