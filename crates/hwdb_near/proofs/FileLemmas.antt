-- Files, one after another.
use Rattle.std.proofs.Common.{◌≡◌, ◌∙◌, ap, sym, ℕ, zero, suc, ◌+◌, ◌<◌, List, [], ◌∷◌, ◌++◌, map, take, length, get_or, arith, append_assoc}
use Rattle.std.proofs.lemmas.List.{append-nil}
use Rattle.hwdb_spec_commands.specs.Near.{PatternAt, patterns_in}
use Rattle.hwdb_spec_commands.specs.NearAsked.{patterns_from}
use Rattle.hwdb_near.specs.Views.{source_of}
use Rattle.hwdb_near.specs.declared.patterns.PatternFile.{PatternFile}

abbrev of_first : (place i : ℕ) → List PatternFile → List PatternAt
of_first place i fs = patterns_from place (map source_of (take i fs))

one_more : (place : ℕ) (fs : List PatternFile) (i : ℕ) (d : PatternFile) → i < length fs
    → of_first place (suc i) fs ≡ of_first place i fs ++ patterns_in (get_or fs i d).path.now (place + i) (get_or fs i d).bytes.now
one_more place [] i d h = absurd (omega arith)
one_more place (x ∷ xs) zero d h =
    append-nil (patterns_in x.path.now place x.bytes.now) ∙ ap (λ (n : ℕ). patterns_in x.path.now n x.bytes.now) (let e : place ≡ place + 0 = omega arith in e)
one_more place (x ∷ xs) (suc i) d h =
    let own = patterns_in x.path.now place x.bytes.now in
    ap (λ (l : List PatternAt). own ++ l) (one_more (place + 1) xs i d (omega arith))
    ∙ sym (append_assoc own (of_first (place + 1) i xs) (patterns_in (get_or xs i d).path.now (place + 1 + i) (get_or xs i d).bytes.now))
    ∙ ap (λ (n : ℕ). (own ++ of_first (place + 1) i xs) ++ patterns_in (get_or xs i d).path.now n (get_or xs i d).bytes.now) (let e : place + 1 + i ≡ place + suc i = omega arith in e)

-- the patterns of one file more
pub files_step : (fs : List PatternFile) (i : ℕ) (d : PatternFile) (place : ℕ) (before after : List PatternAt) → i < length fs → place ≡ i + 1
    → after ≡ before ++ patterns_in (get_or fs i d).path.now place (get_or fs i d).bytes.now
    → before ≡ patterns_from 1 (map source_of (take i fs)) → after ≡ patterns_from 1 (map source_of (take (i + 1) fs))
files_step fs i d place before after h at grown so_far =
    grown
    ∙ ap (λ (n : ℕ). before ++ patterns_in (get_or fs i d).path.now n (get_or fs i d).bytes.now) (let e : place ≡ 1 + i = omega (arith, at) in e)
    ∙ ap (λ (l : List PatternAt). l ++ patterns_in (get_or fs i d).path.now (1 + i) (get_or fs i d).bytes.now) so_far
    ∙ sym (one_more 1 fs i d h)
    ∙ ap (λ (n : ℕ). of_first 1 n fs) (let e : suc i ≡ i + 1 = omega arith in e)
