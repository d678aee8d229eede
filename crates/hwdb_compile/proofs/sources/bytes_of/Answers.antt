use Rattle.std.proofs.Common.{ap, [], List, ℕ, Option}
use Rattle.std.specs.Borrow.{Bor}
use Rattle.std.specs.Option.{option_map_or}
use Rattle.hwdb_compile.proofs.sources.bytes_of.Goals as goal

pub returns-in-Some : goal.returns-in-Some
returns-in-Some c = ap (λ (o : Option (Bor (List ℕ))). option_map_or (λ (b : Bor (List ℕ)). b.now) o []) c.in-Some.ensures.value

pub returns-in-None : goal.returns-in-None
returns-in-None c = ap (λ (o : Option (Bor (List ℕ))). option_map_or (λ (b : Bor (List ℕ)). b.now) o []) c.in-None.ensures.value
