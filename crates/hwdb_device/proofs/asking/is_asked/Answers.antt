use Rattle.std.proofs.Common.{◌≡◌, ◌∙◌, ◌==◌, ◌∷◌, [], ap, arith, length, map, ne_eqb, vec_len, Global, List, Vec, ℕ}
use Rattle.std.specs.Prelude.{not}
use Rattle.hwdb_spec.specs.Lines.{is_none}
use Rattle.hwdb_ruleasks.specs.Views.{found_of}
use Rattle.hwdb_ruleasks.specs.declared.answers.Found.{Found}
use Rattle.hwdb_device.proofs.asking.is_asked.Goals as goal

-- there are none, by how many there are
empty : (xs : List Found) (n : ℕ) → n ≡ length xs → (n == 0) ≡ is_none (map found_of xs)
empty [] n size = ap (λ (m : ℕ). m == 0) size
empty (x ∷ xs) n size = ne_eqb n 0 (omega (arith, size))

sized : (found : Vec Found Global) → vec_len found ≡ length found.items
sized found = let same = found.ok.0 in omega (arith, same)

pub returns : goal.returns
returns c = ap not (c.is_empty.ensures ∙ (empty c.in_ok-found.found.items (vec_len c.in_ok-found.found) (sized c.in_ok-found.found) ∙ ap is_none c.in_ok-found.ensures))
