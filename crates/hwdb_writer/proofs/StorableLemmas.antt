-- What a tree can hold.
use Rattle.std.proofs.Common.{◌≡◌, ◌<◌, ◌^◌, ℕ, suc, List, [], ◌∷◌, ◌++◌, get_or, refl, sym, subst, arith, IsSome}
use Rattle.std.specs.List.{AllByRecursion}
use Rattle.hwdb_spec.specs.Tree.{Value, key_of}
use Rattle.hwdb_writer.specs.Internal.Storable.{IsStorableValue, HasNoZero, IsText}
use Rattle.hwdb_writer.specs.Internal.Entries.{IsStorableEntry}
use Rattle.hwdb_writer.specs.declared.entries.Setting.{Setting}

-- bytes without a 0
pub is_text : (xs : List ℕ) → HasNoZero xs → ((i : ℕ) → get_or xs i 0 < 256) → IsText xs
is_text [] n b = tt
is_text (x ∷ xs) n b = (n.0, b 0, is_text xs n.1 (λ i. b (suc i)))

-- what is stored of an assignment
pub value_sound : (v : Value) (k value path : List ℕ) → v.key ≡ 32 ∷ k → v.value ≡ value → v.path ≡ path → HasNoZero k → HasNoZero value → HasNoZero path → 0 < v.priority → v.priority < 2 ^ 16 → v.line < 2 ^ 32 → IsStorableValue v
value_sound v k value path e f g nk nv np p q l = record {
  assigns = let P : List ℕ → Type 0 = λ s. IsSome (key_of s) in subst P (sym e) refl;
  key = subst HasNoZero (sym e) (omega arith, nk);
  value = subst HasNoZero (sym f) nv;
  path = subst HasNoZero (sym g) np;
  some_priority = p;
  priority_fits = q;
  line_fits = l;
}

-- one more entry
pub entries_more : (es : List Setting) (e : Setting) → AllByRecursion IsStorableEntry es → IsStorableEntry e → AllByRecursion IsStorableEntry (es ++ e ∷ [])
entries_more [] e a s = (s, tt)
entries_more (x ∷ es) e a s = (a.0, entries_more es e a.1 s)
