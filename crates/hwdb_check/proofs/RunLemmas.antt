-- Bytes as runs, one after another.
use Rattle.std.proofs.Common.{◌≡◌, ◌∙◌, ◌+◌, ◌==◌, ◌<◌, ap, arith, refl, sym, cond, Bool, true, false, ℕ, List, [], ◌∷◌, ◌++◌, ◌≤◌, append_assoc, drop, length, lt-ltb, nat_lt}
use Rattle.std.proofs.lemmas.List.{drop_all}
use Rattle.std.proofs.lemmas.List.Elements.{filter-append}
use Rattle.std.specs.Prelude.{filter}
use Rattle.hwdb_spec_commands.specs.FormTable.{asked}
use Rattle.hwdb_spec.specs.Forms.{all_bytes_from, is_expected}
use Rattle.hwdb_spec_commands.specs.Unmatched.{compare_hint, expected_after, runs, runs_from, runs_hint}

module _ (first last b : ℕ) (done : List (ℕ × ℕ)) (more : List ℕ) where
  -- the byte goes on with the run
  pub goes_on : (b == last + 1) ≡ true → done ++ runs_from first b more ≡ done ++ runs_from first last (b ∷ more)
  unfolding runs_from
  goes_on e = ap (λ l. done ++ l) (sym (ap (λ (t : Bool). cond t (runs_from first b more) ((first, last) ∷ runs_from b b more)) e))

  -- the byte begins a run
  pub begins : (after : List (ℕ × ℕ)) → (b == last + 1) ≡ false → after ≡ done ++ (first, last) ∷ []
      → after ++ runs_from b b more ≡ done ++ runs_from first last (b ∷ more)
  unfolding runs_from
  begins after e grown =
      ap (λ l. l ++ runs_from b b more) grown
      ∙ append_assoc done ((first, last) ∷ []) (runs_from b b more)
      ∙ ap (λ l. done ++ l) (sym (ap (λ (t : Bool). cond t (runs_from first b more) ((first, last) ∷ runs_from b b more)) e))

-- no byte is left
pub runs_end : (first last at : ℕ) (done : List (ℕ × ℕ)) (bytes : List ℕ) → length bytes ≤ at → done ++ (first, last) ∷ [] ≡ done ++ runs_from first last (drop at bytes)
unfolding runs_from
runs_end first last at done bytes h = ap (λ l. done ++ runs_from first last l) (sym (drop_all at bytes h))

-- ---- the first of some bytes have no more runs than all
no_less : (t : Bool) (a b c d : List (ℕ × ℕ)) → length a ≤ length b → length c ≤ length d → length (cond t a c) ≤ length (cond t b d)
no_less true a b c d h k = h
no_less false a b c d h k = k

at_least : (t : Bool) (b d : List (ℕ × ℕ)) → 1 ≤ length b → 1 ≤ length d → 1 ≤ length (cond t b d)
at_least true b d h k = h
at_least false b d h k = k

some_run : (first last : ℕ) (bytes : List ℕ) → 1 ≤ length (runs_from first last bytes)
unfolding runs_from
some_run first last [] = omega arith
some_run first last (b ∷ more) =
    at_least (b == last + 1) (runs_from first b more) ((first, last) ∷ runs_from b b more) (some_run first b more) (omega arith)

no_fewer : (first last : ℕ) (bytes after : List ℕ) → length (runs_from first last bytes) ≤ length (runs_from first last (bytes ++ after))
unfolding runs_from
no_fewer first last [] after = some_run first last after
no_fewer first last (b ∷ bytes) after =
    no_less (b == last + 1) (runs_from first b bytes) (runs_from first b (bytes ++ after)) ((first, last) ∷ runs_from b b bytes) ((first, last) ∷ runs_from b b (bytes ++ after))
    (no_fewer first b bytes after) (let h = no_fewer b b bytes after in omega (arith, h))

more_runs : (bytes after : List ℕ) → length (runs bytes) ≤ length (runs (bytes ++ after))
more_runs [] after = omega arith
more_runs (b ∷ bytes) after = no_fewer b b bytes after

-- no byte is named of too many runs
picked : (t : Bool) (x y : List ℕ) → t ≡ true → cond t x y ≡ x
picked true x y e = refl
picked false x y e = absurd cc

unnamed : (rs : List (ℕ × ℕ)) → 3 < length rs → runs_hint rs ≡ compare_hint
unnamed [] h = absurd (omega (arith, h))
unnamed (run ∷ more) h = picked (nat_lt 2 (length more)) compare_hint _ (lt-ltb 2 (length more) (omega (arith, h)))

split_bytes : all_bytes_from 256 0 ≡ all_bytes_from 128 0 ++ all_bytes_from 128 128
unfolding all_bytes_from
split_bytes = refl

pub unnamed_first : (front : List ℕ) (bytes : List ℕ) (first : List (ℕ × ℕ)) → bytes ≡ filter (is_expected asked front) (all_bytes_from 128 0) → first ≡ runs bytes
    → 3 < length first → runs_hint first ≡ runs_hint (runs (expected_after front))
unfolding expected_after
unnamed_first front bytes first e f h =
    let p : ℕ → Bool = is_expected asked front in
    let after : List ℕ = filter p (all_bytes_from 128 128) in
    let all : filter p (all_bytes_from 256 0) ≡ bytes ++ after =
    ap (filter p) split_bytes ∙ filter-append p (all_bytes_from 128 0) (all_bytes_from 128 128) ∙ ap (λ (l : List ℕ). l ++ after) (sym e) in
    let same : length first ≡ length (runs bytes) = ap (λ (l : List (ℕ × ℕ)). length l) f in
    let few = more_runs bytes after in
    unnamed first h ∙ sym (ap (λ (l : List ℕ). runs_hint (runs l)) all ∙ unnamed (runs (bytes ++ after)) (omega (arith, h, same, few)))

-- the first bytes and the others are all
pub joined_bytes : (front first others bytes : List ℕ) → first ≡ filter (is_expected asked front) (all_bytes_from 128 0) → others ≡ filter (is_expected asked front) (all_bytes_from 128 128) → bytes ≡ first ++ others
    → bytes ≡ expected_after front
unfolding expected_after
joined_bytes front first others bytes e f b =
    let p : ℕ → Bool = is_expected asked front in
    b ∙ ap (λ (l : List ℕ). l ++ others) e ∙ ap (λ (l : List ℕ). filter p (all_bytes_from 128 0) ++ l) f
    ∙ sym (ap (filter p) split_bytes ∙ filter-append p (all_bytes_from 128 0) (all_bytes_from 128 128))
