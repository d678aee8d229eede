use Rattle.std.proofs.Common.{◌≡◌, List, ℕ, ap, sym, subst, ◌∙◌, length, eqb-true}
use Rattle.hwdb_spec.specs.Patterns.{tokens}
use Rattle.hwdb_pattern.specs.Views.{Reached}
use Rattle.hwdb_pattern.specs.Internal.Met.{lengths_of}
use Rattle.hwdb_pattern.specs.Internal.Prefixes.{Follows}
use Rattle.hwdb_pattern.proofs.PathLemmas.{no_bytes}
use Rattle.hwdb_pattern.proofs.TakenLemmas.{fed_closed, stars_closed}
use Rattle.hwdb_pattern.proofs.paths.Reach.after_stars.Goals as goal

pub returns-clause-path : goal.returns-clause-path
returns-clause-path c path stands =
    let after = lengths_of c.along_stars.result in
    let device : c.self.inside.device.now ≡ c.args.self.now.device = ap (λ (r : Reached). r.device) c.self.view_is in
    let before : lengths_of c.self.inside.met ≡ c.args.self.now.lengths = ap (λ (r : Reached). r.lengths) c.self.view_is in
    fed_closed c.args.self.now c.self.inside.device.now after path c.args.stars.now c.new.result.items
    device
    (no_bytes c.args.self.now.kept
    (sym (ap (λ (r : Reached). length r.kept) c.self.view_is) ∙ sym (ap length c.deref-kept.ensures.value)
    ∙ eqb-true (length c.deref-kept.result.now) 0 (sym c.is_empty.ensures ∙ c.if-not-is_empty.false)))
    c.new.ensures.items (stars_closed c.args.stars.now c.requires.stars)
    (subst (λ (d : List ℕ). Follows (tokens c.args.stars.now) d c.args.self.now.lengths after) device
    (subst (λ (l : List ℕ). Follows (tokens c.args.stars.now) c.self.inside.device.now l after) before c.along_stars.ensures.follows)) stands
