-- The first of some files that are too long is one.
use Rattle.std.proofs.Common.{◌≡◌, ◌<◌, ◌∷◌, ◌++◌, ◌∙◌, All, List, None, Option, Some, [], ap, arith, length, subst, sym, ℕ}
use Rattle.std.proofs.lemmas.List.Elements.{All-head, All-tail}
use Rattle.hwdb_system.specs.Laws.{IsLongAt}
use Rattle.hwdb_spec_commands.specs.Reading.{IsFirstUnread, IsText}
use Rattle.hwdb_spec_commands.specs.Refusals.{IsUnread}
use Rattle.hwdb_spec_commands.specs.declared.refusals.Refusal.{Refusal}
use Rattle.hwdb_spec.specs.Folders.{Choice, path_of}
use Rattle.hwdb_spec.specs.Store.{Contents}
use Rattle.hwdb_spec.specs.Texts.{max_file}

-- the path of an error that a file is too long
named_of : (contents : Contents) (path at : List ℕ) (refusal : Refusal) → IsLongAt contents path refusal → IsUnread at refusal → path ≡ at
named_of contents path at refusal long unread = sym long.named ∙ subst (IsUnread at) long.is unread

abbrev held : Option (List ℕ) → List ℕ
held None = []
held (Some bytes) = bytes

-- it is no text that is short enough
not_text : (contents : Contents) (path : List ℕ) (refusal : Refusal) → IsLongAt contents path refusal → IsText contents path → ⊥
not_text contents path refusal long text =
    let same : long.bytes ≡ text.bytes = ap held (sym long.there ∙ text.there) in
    let short = text.within in
    let is = subst (λ l. max_file < length l) same long.long in
    omega (arith, is, short)

abbrev tail_of : (l : List Choice) → List Choice
tail_of [] = []
tail_of (c ∷ more) = more

same_first : (c d : Choice) (l more : List Choice) → c ∷ l ≡ d ∷ more → c ≡ d
same_first c d l more same = ap (first_or c) same
  where
    first_or : Choice → List Choice → Choice
    first_or e [] = e
    first_or e (x ∷ xs) = x

-- the first of them by one error is the first by the other
first_is_one : (root : List ℕ) (contents : Contents) (before before2 after after2 : List Choice) (first first2 : Choice)
    → before ++ first ∷ after ≡ before2 ++ first2 ∷ after2
    → All (λ (c : Choice). IsText contents (root ++ path_of c)) before → All (λ (c : Choice). IsText contents (root ++ path_of c)) before2
    → (IsText contents (root ++ path_of first) → ⊥) → (IsText contents (root ++ path_of first2) → ⊥) → first ≡ first2
first_is_one root contents [] [] after after2 first first2 same read read2 long long2 = same_first first first2 after after2 same
first_is_one root contents [] (c ∷ before2) after after2 first first2 same read read2 long long2 =
    absurd (long (subst (λ (d : Choice). IsText contents (root ++ path_of d)) (sym (same_first first c after (before2 ++ first2 ∷ after2) same))
    (All-head (λ (d : Choice). IsText contents (root ++ path_of d)) c before2 read2)))
first_is_one root contents (c ∷ before) [] after after2 first first2 same read read2 long long2 =
    absurd (long2 (subst (λ (d : Choice). IsText contents (root ++ path_of d)) (same_first c first2 (before ++ first ∷ after) after2 same)
    (All-head (λ (d : Choice). IsText contents (root ++ path_of d)) c before read)))
first_is_one root contents (c ∷ before) (d ∷ before2) after after2 first first2 same read read2 long long2 =
    first_is_one root contents before before2 after after2 first first2 (ap tail_of same)
    (All-tail (λ (e : Choice). IsText contents (root ++ path_of e)) c before read) (All-tail (λ (e : Choice). IsText contents (root ++ path_of e)) d before2 read2) long long2

pub one_named : (root : List ℕ) (contents : Contents) (chosen : List Choice) (one other : Refusal) (path path2 : List ℕ)
    → IsFirstUnread root contents chosen one → IsFirstUnread root contents chosen other
    → IsLongAt contents path one → IsLongAt contents path2 other → path ≡ path2
one_named root contents chosen one other path path2 first second long long2 =
    let at = named_of contents path (root ++ path_of first.first) one long first.unread in
    let at2 = named_of contents path2 (root ++ path_of second.first) other long2 second.unread in
    at ∙ ap (λ (c : Choice). root ++ path_of c)
    (first_is_one root contents first.before second.before first.after second.after first.first second.first (sym first.are ∙ second.are) first.read second.read
    (not_text contents (root ++ path_of first.first) one (subst (λ p. IsLongAt contents p one) at long))
    (not_text contents (root ++ path_of second.first) other (subst (λ p. IsLongAt contents p other) at2 long2)))
    ∙ sym at2
