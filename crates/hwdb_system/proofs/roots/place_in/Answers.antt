use Rattle.std.proofs.Common.{◌∙◌, ap, map, string_bytes}
use Rattle.hwdb_system.specs.Roots.{below}
use Rattle.hwdb_system.proofs.roots.place_in.Goals as goal

pub returns-in_default : goal.returns-in_default
returns-in_default g c =
    let names = map string_bytes c.walk.new.place.names.items in
    (names, c.walk.new.place.inward, c.in_ok-path.ensures ∙ ap (λ root. below root names) (ap (λ root. root.now) c.walk.ensures ∙ c.loop.invariant))
