-- Lines of changes, by record, and for a device.
use Rattle.std.proofs.Common.{◌≡◌, ◌∙◌, ◌<◌, ◌≤◌, ◌+◌, ◌++◌, ◌==◌, add-one, ap, append_assoc, arith, ne_eqb, refl, sym, suc, ℕ, Bool, true, false, List, [], ◌∷◌, drop, get_or, length, map, not, None, Option, Some}
use Rattle.std.proofs.Math.Seq.{drop-cons}
use Rattle.std.proofs.lemmas.List.{append-nil, drop_all}
use Rattle.hwdb_spec_commands.specs.DeviceDifferences.{told_change}
use Rattle.hwdb_spec_commands.specs.Differences.{Change, are_some}
use Rattle.hwdb_databases.specs.Views.{change_shown}
use Rattle.hwdb_databases.specs.declared.pairs.Pair.{Pair}

-- ---- whether there are some
pub some_there : (all : List Pair) → not (length all == 0) ≡ are_some (map change_shown all)
some_there [] = refl
some_there (p ∷ all) = ap not (ne_eqb (suc (length all)) 0 (λ e. absurd (omega (arith, e))))

pub as_many : (all : List Pair) → length all ≡ length (map change_shown all)
as_many [] = refl
as_many (p ∷ all) = ap (λ (n : ℕ). suc n) (as_many all)

-- ---- four parts of a text, one after another
pub four_parts : (t0 t1 t2 t3 t4 a b c d : List ℕ) → t1 ≡ t0 ++ a → t2 ≡ t1 ++ b → t3 ≡ t2 ++ c → t4 ≡ t3 ++ d → t4 ≡ t0 ++ (a ++ (b ++ (c ++ d)))
four_parts t0 t1 t2 t3 t4 a b c d one two three four =
    four ∙ ap (λ l. l ++ d) (three ∙ ap (λ l. l ++ c) (two ∙ ap (λ l. l ++ b) one)) ∙ append_assoc ((t0 ++ a) ++ b) c d ∙ append_assoc (t0 ++ a) b (c ++ d) ∙ append_assoc t0 a (b ++ (c ++ d))
