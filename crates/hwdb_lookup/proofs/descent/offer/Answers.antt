use Rattle.std.proofs.Common.{◌∙◌, ap, inr, option_map, refl, sym}
use Rattle.hwdb_lookup.proofs.descent.offer.Goals as goal

pub returns-clause-offered : goal.returns-clause-offered
returns-clause-offered c = inr (_, c.in_ok-push.ensures.items, (sym c.key_in.ensures ∙ ap (λ k. option_map (λ s. s.now) k) c.in-Some.is, refl))
