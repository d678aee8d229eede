-- A path that is read bit by bit.
use Rattle.std.proofs.Common.{◌≡◌, ◌∙◌, ap, sym, subst, ℕ, zero, suc, ◌+◌, ◌≤◌, ◌<◌, List, [], ◌∷◌, ◌++◌, take, length, arith, append-nil, get_or, length-append, length-take-le}
use Rattle.std.proofs.Math.Seq.{take-length, take-take}
use Rattle.hwdb_spec.specs.Lemmas.Lists.{taken_more}
use Rattle.hwdb_databases.specs.Internal.Spellings.{AreFroms, IsSpelling}
use Rattle.hwdb_databases.specs.Internal.Trails.{bytes_of, path_in}
use Rattle.hwdb_databases.specs.declared.spelling.Spelling.{Spelling}
use Rattle.hwdb_databases.specs.declared.trail.Segment.{Segment}
use Rattle.hwdb_databases.proofs.TrailLemmas.{cut_path, path_joined}

-- ---- how many bytes are before a segment

froms_cut : (n count : ℕ) (fs : List ℕ) (way : List Segment) → AreFroms n fs way → AreFroms n (take count fs) way
froms_cut n zero fs way a = tt
froms_cut n (suc count) [] way a = tt
froms_cut n (suc count) (f ∷ fs) [] a = absurd a
froms_cut n (suc count) (f ∷ fs) (s ∷ way) a = (a.0, froms_cut (n + length (bytes_of s)) count fs way a.1)

froms_at : (n i : ℕ) (fs : List ℕ) (way : List Segment) (d : ℕ) → i < length fs → AreFroms n fs way → get_or fs i d ≡ n + length (path_in (take i way))
froms_at n i [] way d h a = absurd (omega (arith, h))
froms_at n i (f ∷ fs) [] d h a = absurd a
froms_at n zero (f ∷ fs) (s ∷ way) d h a = let e = a.0 in omega (arith, e)
froms_at n (suc i) (f ∷ fs) (s ∷ way) d h a =
    let size = length-append (bytes_of s) (path_in (take i way)) in
    let rest = froms_at (n + length (bytes_of s)) i fs way d (omega (arith, h)) a.1 in
    omega (arith, size, rest)

froms_pushed : (n : ℕ) (fs : List ℕ) (way : List Segment) (f : ℕ) → length fs < length way → AreFroms n fs way → f ≡ n + length (path_in (take (length fs) way)) → AreFroms n (fs ++ f ∷ []) way
froms_pushed n fs [] f h a is = absurd (omega (arith, h))
froms_pushed n [] (s ∷ way) f h a is = (omega (arith, is), tt)
froms_pushed n (g ∷ fs) (s ∷ way) f h a is =
    let size = length-append (bytes_of s) (path_in (take (length fs) way)) in
    (a.0, froms_pushed (n + length (bytes_of s)) fs way f (omega (arith, h)) a.1 (omega (arith, is, size)))

front_froms : (n : ℕ) (fs : List ℕ) (way : List Segment) → AreFroms n fs way → AreFroms n fs (take (length fs) way)
front_froms n [] way a = tt
front_froms n (f ∷ fs) [] a = absurd a
front_froms n (f ∷ fs) (s ∷ way) a = (a.0, front_froms (n + length (bytes_of s)) fs way a.1)

whole_froms : (n : ℕ) (fs : List ℕ) (way : List Segment) → AreFroms n fs (take (length fs) way) → AreFroms n fs way
whole_froms n [] way a = tt
whole_froms n (f ∷ fs) [] a = absurd a
whole_froms n (f ∷ fs) (s ∷ way) a = (a.0, whole_froms (n + length (bytes_of s)) fs way a.1)

-- ---- what was read

-- no more than the bytes of so many segments are kept
pub cut_spelling : (way : List Segment) (old new : Spelling) (count from : ℕ) → count < length old.froms.items → from ≡ get_or old.froms.items count from
    → new.froms.items ≡ take count old.froms.items → new.bytes.items ≡ take from old.bytes.items → IsSpelling way old → IsSpelling way new
cut_spelling way old new count from few at froms bytes is =
    let fs = old.froms.items in
    let all = take (length fs) way in
    let size : length new.froms.items ≡ count = ap length froms ∙ length-take-le count fs (omega (arith, few)) in
    let short = is.within in
    let found = at ∙ froms_at 0 count fs way from few is.froms in
    let end : from ≡ length (path_in (take count way)) = omega (arith, found) in
    let same : take count all ≡ take count way = take-take count (length fs) way (omega (arith, few)) in
    record {
      within = omega (arith, size, few, short);
      bytes = bytes ∙ ap (take from) is.bytes ∙ ap (λ n. take n (path_in all)) (end ∙ ap (λ l. length (path_in l)) (sym same)) ∙ cut_path count all
          ∙ ap path_in (same ∙ ap (λ n. take n way) (sym size));
      froms = subst (λ l. AreFroms 0 l way) (sym froms) (froms_cut 0 count fs way is.froms);
    }

-- one more segment was read
pub read_one : (way : List Segment) (old new : Spelling) (s : Segment) (from : ℕ) → length old.froms.items < length way → s ≡ get_or way (length old.froms.items) s
    → from ≡ length old.bytes.items → new.froms.items ≡ old.froms.items ++ from ∷ [] → new.bytes.items ≡ old.bytes.items ++ bytes_of s → IsSpelling way old → IsSpelling way new
read_one way old new s from few at size froms bytes is =
    let fs = old.froms.items in
    let many : length new.froms.items ≡ suc (length fs) = let e = ap length froms ∙ length-append fs (from ∷ []) in omega (arith, e) in
    let held = ap length is.bytes in
    record {
      within = omega (arith, many, few);
      bytes = bytes ∙ ap (λ b. b ++ bytes_of s) is.bytes
          ∙ sym (ap (λ n. path_in (take n way)) many ∙ ap path_in (taken_more way (length fs) s few at) ∙ path_joined (take (length fs) way) (s ∷ [])
          ∙ ap (λ r. path_in (take (length fs) way) ++ r) (append-nil (bytes_of s)));
      froms = subst (λ l. AreFroms 0 l way) (sym froms) (froms_pushed 0 fs way from few is.froms (omega (arith, size, held)));
    }

-- all were read
pub all_read : (way : List Segment) (s : Spelling) → length way ≤ length s.froms.items → IsSpelling way s → s.bytes.items ≡ path_in way
all_read way s many is =
    let short = is.within in
    let size : length s.froms.items ≡ length way = omega (arith, many, short) in
    is.bytes ∙ ap (λ n. path_in (take n way)) size ∙ ap path_in (take-length way)

front_size : (n : ℕ) (way : List Segment) → length (take n way) ≤ length way
front_size zero way = omega arith
front_size (suc n) [] = omega arith
front_size (suc n) (s ∷ way) = let rest = front_size n way in omega (arith, rest)

-- what was read of segments that were kept
pub kept_spelling : (way now : List Segment) (s : Spelling) → take (length s.froms.items) now ≡ take (length s.froms.items) way → IsSpelling way s → IsSpelling now s
kept_spelling way now s same is =
    let n = length s.froms.items in
    let size = ap length same ∙ length-take-le n way is.within in
    let short = front_size n now in
    record {
      within = omega (arith, size, short);
      bytes = is.bytes ∙ ap path_in (sym same);
      froms = whole_froms 0 s.froms.items now (subst (λ l. AreFroms 0 s.froms.items l) (sym same) (front_froms 0 s.froms.items way is.froms));
    }
