-- Files, one after another.
use Rattle.std.proofs.Common.{Bool, true, false, cond, Option, None, Some, Result, Ok, Err, IfErr, slice_index_or, subst}
use Rattle.std.proofs.Common.{◌≡◌, ℕ, zero, suc, ◌+◌, ◌<◌, List, [], ◌∷◌, ◌++◌, map, take, length, get_or, refl, ap, ◌∙◌, sym, arith, append_assoc}
use Rattle.std.proofs.lemmas.List.{append-nil, map-append}
use Rattle.std.specs.Prelude.{Any}
use Rattle.hwdb_spec.specs.Folders.{Source, max_lines}
use Rattle.hwdb_spec.specs.Lines.{lines}
use Rattle.hwdb_spec.specs.declared.errors.ScanError.{ScanError}
use Rattle.hwdb_spec.specs.declared.errors.ScanError.TheVariants.{Memory, TooManyLines}
use Rattle.hwdb_spec_commands.specs.CheckErrors.{IsCheckRefusal}
use Rattle.hwdb_spec_commands.specs.Given.{is_dash}
use Rattle.hwdb_spec_commands.specs.Checks.{all_findings, empty_tally, named, tally_from, tally_of, tally_of_both}
use Rattle.hwdb_spec_commands.specs.RuleFindings.{findings_of}
use Rattle.hwdb_spec_commands.specs.declared.Tally.{Tally}
use Rattle.hwdb_check.specs.declared.files.TextFile.{TextFile}
use Rattle.hwdb_check.specs.Checks.{source_of}
use Rattle.hwdb_check.specs.declared.findings.Found.{Found}
use Rattle.hwdb_check.specs.Found.{finds, kept_of}
use Rattle.hwdb_spec_commands.specs.declared.formats.Format.{Format}

abbrev first_files : ℕ → List TextFile → List Source
first_files i fs = map source_of (take i fs)

module _ (format : Format) (allowed : List (List ℕ)) where
  one_more_found : (fs : List TextFile) (i : ℕ) (d : TextFile) → i < length fs
      → all_findings format allowed (first_files (suc i) fs) ≡ all_findings format allowed (first_files i fs) ++ findings_of format allowed (get_or fs i d).path.now (get_or fs i d).bytes.now
  one_more_found [] i d h = absurd (omega arith)
  one_more_found (x ∷ xs) zero d h = append-nil (findings_of format allowed x.path.now x.bytes.now)
  one_more_found (x ∷ xs) (suc i) d h =
      ap (λ l. findings_of format allowed x.path.now x.bytes.now ++ l) (one_more_found xs i d (omega arith))
      ∙ sym (append_assoc (findings_of format allowed x.path.now x.bytes.now) (all_findings format allowed (first_files i xs)) (findings_of format allowed (get_or xs i d).path.now (get_or xs i d).bytes.now))

  -- the findings of one file more
  pub found_step : (fs : List TextFile) (i : ℕ) (d : TextFile) (path : List ℕ) (own before after : List Found) → i < length fs
      → path ≡ (get_or fs i d).path.now → finds own ≡ findings_of format allowed path (get_or fs i d).bytes.now → after ≡ before ++ own
      → finds before ≡ all_findings format allowed (map source_of (take i fs)) → finds after ≡ all_findings format allowed (map source_of (take (i + 1) fs))
  found_step fs i d path own before after h named is grown so_far =
      ap finds grown
      ∙ map-append kept_of before own
      ∙ ap (λ l. finds before ++ l) (is ∙ ap (λ p. findings_of format allowed p (get_or fs i d).bytes.now) named)
      ∙ ap (λ l. l ++ findings_of format allowed (get_or fs i d).path.now (get_or fs i d).bytes.now) so_far
      ∙ sym (one_more_found fs i d h)
      ∙ ap (λ n. all_findings format allowed (map source_of (take n fs))) (let e : suc i ≡ i + 1 = omega arith in e)

one_more_tally : (t : Tally) (fs : List TextFile) (i : ℕ) (d : TextFile) → i < length fs
    → tally_from t (first_files (suc i) fs) ≡ tally_of_both (tally_from t (first_files i fs)) (tally_of (get_or fs i d).path.now (get_or fs i d).bytes.now)
one_more_tally t [] i d h = absurd (omega arith)
one_more_tally t (x ∷ xs) zero d h = refl
one_more_tally t (x ∷ xs) (suc i) d h = one_more_tally (tally_of_both t (tally_of x.path.now x.bytes.now)) xs i d (omega arith)

-- how much is in one file more
pub tally_step : (fs : List TextFile) (i : ℕ) (d : TextFile) (path : List ℕ) (before own after : Tally) → i < length fs → path ≡ (get_or fs i d).path.now
    → own ≡ tally_of path (get_or fs i d).bytes.now → after ≡ tally_of_both before own
    → before ≡ tally_from empty_tally (map source_of (take i fs)) → after ≡ tally_from empty_tally (map source_of (take (i + 1) fs))
tally_step fs i d path before own after h named is both so_far =
    both
    ∙ ap (tally_of_both before) (is ∙ ap (λ p. tally_of p (get_or fs i d).bytes.now) named)
    ∙ ap (λ t. tally_of_both t (tally_of (get_or fs i d).path.now (get_or fs i d).bytes.now)) so_far
    ∙ sym (one_more_tally empty_tally fs i d h)
    ∙ ap (λ n. tally_from empty_tally (map source_of (take n fs))) (let e : suc i ≡ i + 1 = omega arith in e)

-- ---- files with other names

abbrev renamed : (n : List ℕ) → Source → Source
renamed n s = record { name = n; bytes = s.bytes }

same_bytes : (name : Option (List ℕ)) (s : Source) → (named name s).bytes ≡ s.bytes
same_bytes None s = refl
same_bytes (Some n) s = by (is_dash s.name)
  where
    by : (b : Bool) → (cond b (renamed n s) s).bytes ≡ s.bytes
    by true = refl
    by false = refl

any_named : (P : List ℕ → Type 0) (name : Option (List ℕ)) (ss : List Source) (k : ℕ) (x : Source) → k < length (map (named name) ss) → slice_index_or (map (named name) ss) k x ≡ x → P x.bytes
    → Any (λ (s : Source). P s.bytes) ss
any_named P name [] k x h e p = absurd (omega (arith, h))
any_named P name (s ∷ ss) zero x h e p = (0, s, omega arith, refl, subst P (sym (ap (λ (t : Source). t.bytes) e) ∙ same_bytes name s) p)
any_named P name (s ∷ ss) (suc k) x h e p =
    let r = any_named P name ss k x (omega (arith, h)) e p in (suc r.0, r.1, omega (arith, r.2), r.3, r.4)

refused_named : (name : Option (List ℕ)) (ss : List Source) (e : ScanError) → IsCheckRefusal (map (named name) ss) e → IsCheckRefusal ss e
refused_named name ss TooManyLines a = any_named (λ bytes. max_lines < length (lines bytes)) name ss a.0 a.1 a.2 a.3 a.4
refused_named name ss Memory a = tt

pub named_refused : {X : Type 0} (name : Option (List ℕ)) (ss all : List Source) (r : Result X ScanError) → all ≡ map (named name) ss → IfErr r (IsCheckRefusal all) → IfErr r (IsCheckRefusal ss)
named_refused name ss all (Ok x) e h = tt
named_refused name ss all (Err why) e h = refused_named name ss why (subst (λ (l : List Source). IsCheckRefusal l why) e h)
