-- Match lines that repeat one of their run, line by line.
use Rattle.std.proofs.Common.{◌≡◌, ℕ, ◌+◌, ◌<◌, Bool, true, false, not, List, [], ◌∷◌, ◌++◌, take, length, refl, ap, ◌∙◌, sym, cond, arith, append_assoc, get_or, ◌||◌, ◌==◌}
use Rattle.std.proofs.lemmas.List.{append-nil, take_more}
use Rattle.std.proofs.lemmas.List.Folds.{list_any-append}
use Rattle.std.proofs.lemmas.Bool.{eqb-true, false≢true, le-ltb}
use Rattle.std.specs.List.{list_any}
use Rattle.std.specs.Borrow.{Bor}
use Rattle.std.specs.declared.cmp.Ordering.{Ordering}
use Rattle.std.specs.declared.cmp.Ordering.TheVariants.{Less, Equal, Greater}
use Rattle.std.specs.Ordering.{nat_cmp, is_eq, match_ordering, ordering_reverse}
use Rattle.std.specs.Cmp.Lexicographic.{slice_cmp}
use Rattle.std.specs.BTreeSet.{BTreeSet, contains, insert_key}
use Rattle.std.proofs.lemmas.Cmp.{nat_list_cmp_total}
use Rattle.hwdb_spec.specs.Lines.{Line, begins_with, clean, clean_line, has, is, is_empty, is_none, is_match, numbered}
use Rattle.hwdb_spec.specs.Folders.{same}
use Rattle.hwdb_spec_commands.specs.Warnings.{repeated_from}
use Rattle.hwdb_check.specs.Internal.{AreAlike, IsSetOf, above_texts, found_with, line_of, texts}
use Rattle.hwdb_check.specs.declared.repeats.Run.{Run}
use Rattle.hwdb_check.specs.Lemmas.Lines.{clean_by, cleaned}
use Rattle.hwdb_spec.specs.Lemmas.Truth.{or_one_more}

abbrev pub order : Bor (List ℕ) → Bor (List ℕ) → Ordering
order x y = slice_cmp nat_cmp x.now y.now

same_as : (t k x : List ℕ) → slice_cmp nat_cmp k x ≡ Equal → same t k ≡ same t x
same_as t k x e =
    ap is_eq (nat_list_cmp_total.antisymm t k ∙ ap ordering_reverse (nat_list_cmp_total.congr k x t e) ∙ sym (nat_list_cmp_total.antisymm t x))

absorbed : (a b r : Bool) → a ≡ b → (b || r) ≡ (a || (b || r))
absorbed true true r e = refl
absorbed false b r e = refl
absorbed true false r e = cc

swapped : (a b r : Bool) → (b || (a || r)) ≡ (a || (b || r))
swapped true true r = refl
swapped true false r = refl
swapped false b r = refl

put_member : (t : List ℕ) (k : Bor (List ℕ)) (ks : List (Bor (List ℕ))) → list_any (same t) (texts (insert_key order ks k)) ≡ (same t k.now || list_any (same t) (texts ks))
put_member t k [] = refl
put_member t k (x ∷ xs) = go (order k x) refl (put_member t k xs)
  where
    go : (o : Ordering) → slice_cmp nat_cmp k.now x.now ≡ o → list_any (same t) (texts (insert_key order xs k)) ≡ (same t k.now || list_any (same t) (texts xs))
        → list_any (same t) (texts (match_ordering o (k ∷ x ∷ xs) (x ∷ xs) (x ∷ insert_key order xs k))) ≡ (same t k.now || (same t x.now || list_any (same t) (texts xs)))
    go Less e h = refl
    go Equal e h = absorbed (same t k.now) (same t x.now) (list_any (same t) (texts xs)) (same_as t k.now x.now e)
    go Greater e h = ap (λ (b : Bool). same t x.now || b) h ∙ swapped (same t k.now) (same t x.now) (list_any (same t) (texts xs))

either_case : (m c d : Bool) (x y v w : List ℕ) (u z : List ℕ) → c ≡ d → x ≡ y → v ≡ w → u ≡ z → cond m (cond c x v) u ≡ cond m (cond d y w) z
either_case m c d x y v w u z e f g h =
    ap (λ (t : Bool). cond m (cond t x v) u) e ∙ ap (λ (l : List ℕ). cond m (cond d l v) u) f ∙ ap (λ (l : List ℕ). cond m (cond d y l) u) g ∙ ap (λ (l : List ℕ). cond m (cond d y w) l) h

alike : (a b : List (List ℕ)) → AreAlike a b → (ls : List Line) → repeated_from a ls ≡ repeated_from b ls
unfolding repeated_from
alike a b h [] = refl
alike a b h (l ∷ more) =
    let rest : repeated_from (l.text ∷ a) more ≡ repeated_from (l.text ∷ b) more = alike (l.text ∷ a) (l.text ∷ b) (λ t. ap (λ (r : Bool). same t l.text || r) (h t)) more in
    either_case (is_match l) _ _ _ _ _ _ _ _ (h l.text) (ap (λ (r : List ℕ). l.number ∷ r) rest) rest refl

pub put_alike : (k : Bor (List ℕ)) (ks new : List (Bor (List ℕ))) → new ≡ insert_key order ks k → AreAlike (texts new) (k.now ∷ texts ks)
put_alike k ks new e = λ t. ap (λ (l : List (Bor (List ℕ))). list_any (same t) (texts l)) e ∙ put_member t k ks

pub stands_by : (x : List ℕ) (ks : List (Bor (List ℕ))) → list_any (λ (k : Bor (List ℕ)). is_eq (slice_cmp nat_cmp x k.now)) ks ≡ list_any (same x) (texts ks)
stands_by x [] = refl
stands_by x (k ∷ ks) = ap (λ (r : Bool). same x k.now || r) (stands_by x ks)

pub match_first : (above : List (List ℕ)) (l : Line) (more : List Line) → is_match l ≡ true
    → repeated_from above (l ∷ more) ≡ cond (list_any (same l.text) above) (l.number ∷ repeated_from (l.text ∷ above) more) (repeated_from (l.text ∷ above) more)
unfolding repeated_from
match_first above l more e = go (is_match l) _ _ e
  where
    go : (m : Bool) (x y : List ℕ) → m ≡ true → cond m x y ≡ x
    go true x y e = refl
    go false x y e = cc

pub other_first : (above : List (List ℕ)) (l : Line) (more : List Line) → is_match l ≡ false → repeated_from above (l ∷ more) ≡ repeated_from [] more
unfolding repeated_from
other_first above l more e = go (is_match l) _ _ e
  where
    go : (m : Bool) (x y : List ℕ) → m ≡ false → cond m x y ≡ y
    go true x y e = cc
    go false x y e = refl

-- a match line: whether its run has it is asked of a set that has the others
pub put_step : (above between : List (List ℕ)) (k : List ℕ) (number : ℕ) (found after : List ℕ) (more : List Line) (c : Bool) → AreAlike between above → is_match (line_of number k) ≡ true
    → list_any (same k) between ≡ c → after ≡ cond c (found ++ number ∷ []) found
    → after ++ repeated_from (k ∷ between) more ≡ found ++ repeated_from above (line_of number k ∷ more)
put_step above between k number found after more c h m e a =
    let rest : repeated_from (k ∷ between) more ≡ repeated_from (k ∷ above) more = alike (k ∷ between) (k ∷ above) (λ t. ap (λ (r : Bool). same t k || r) (h t)) more in
    let first : repeated_from above (line_of number k ∷ more) ≡ cond c (number ∷ repeated_from (k ∷ above) more) (repeated_from (k ∷ above) more) =
    match_first above (line_of number k) more m
    ∙ ap (λ (b : Bool). cond b (number ∷ repeated_from (k ∷ above) more) (repeated_from (k ∷ above) more)) (sym (h k) ∙ e)
    in
    ap (λ (l : List ℕ). l ++ repeated_from (k ∷ between) more) a ∙ ap (λ (l : List ℕ). cond c (found ++ number ∷ []) found ++ l) rest ∙ joined c (repeated_from (k ∷ above) more) ∙ ap (λ (l : List ℕ). found ++ l) (sym first)
  where
    joined : (c : Bool) (l : List ℕ) → cond c (found ++ number ∷ []) found ++ l ≡ found ++ cond c (number ∷ l) l
    joined true l = append_assoc found (number ∷ []) l
    joined false l = refl

comment_drops : (c z : Bool) → c ≡ true → cond c true z ≡ true
comment_drops true z e = refl
comment_drops false z e = cc

zero_drops : (c z : Bool) → z ≡ true → cond c true z ≡ true
zero_drops true z e = refl
zero_drops false z e = e

pub commented : (number : ℕ) (text : List ℕ) (more : List Line) → begins_with 35 text ≡ true → clean (line_of number text ∷ more) ≡ clean more
commented number text more e = clean_by true (line_of number text) more (comment_drops (begins_with 35 text) (has 0 text) e)

pub zeroed : (number : ℕ) (text : List ℕ) (more : List Line) → has 0 text ≡ true → clean (line_of number text ∷ more) ≡ clean more
zeroed number text more e = clean_by true (line_of number text) more (zero_drops (begins_with 35 text) (has 0 text) e)

pub no_match : (number : ℕ) (text : List ℕ) (above new : List (List ℕ)) (found : List ℕ) (more : List Line) → begins_with 35 text ≡ false → has 0 text ≡ false
    → is_match (clean_line (line_of number text)) ≡ false → new ≡ []
    → found ++ repeated_from new (clean more) ≡ found ++ repeated_from above (clean (line_of number text ∷ more))
no_match number text above new found more e f m n =
    ap (λ (l : List ℕ). found ++ l)
    (ap (λ (x : List (List ℕ)). repeated_from x (clean more)) n
    ∙ sym (ap (repeated_from above) (cleaned number text more e f) ∙ other_first above (clean_line (line_of number text)) (clean more) m))

pub empty_no_match : (empty property : Bool) → empty ≡ true → cond empty false (not property) ≡ false
empty_no_match true p e = refl
empty_no_match false p e = cc

pub property_no_match : (empty property : Bool) → property ≡ true → cond empty false (not property) ≡ false
property_no_match true p e = refl
property_no_match false p e = ap not e

-- no line is left
pub no_line : (left : List (List ℕ)) (number : ℕ) → left ≡ [] → numbered number left ≡ []
unfolding numbered
no_line left number e = ap (numbered number) e

pub none_from : (above : List (List ℕ)) → repeated_from above (clean []) ≡ []
unfolding repeated_from
none_from above = refl

pub found_all : (run : Run) (ls : List Line) → ls ≡ [] → run.numbers.items ≡ found_with run (clean ls)
found_all run ls e =
    sym (append-nil run.numbers.items)
    ∙ ap (λ (l : List ℕ). run.numbers.items ++ l) (sym (none_from (above_texts run)))
    ∙ ap (λ (l : List Line). found_with run (clean l)) (sym e)

-- numbers as a set
pub no_numbers : (set : BTreeSet ℕ) → set.keys ≡ [] → IsSetOf [] set
no_numbers set e = λ n. ap (list_any (λ k. is_eq (nat_cmp n k))) e

equal_by : (a b : Bool) → (b ≡ true → a ≡ false) → is_eq (cond a Less (cond b Equal Greater)) ≡ b
equal_by true true h = absurd (false≢true (sym (h refl)))
equal_by true false h = refl
equal_by false true h = refl
equal_by false false h = refl

pub equal_number : (k n : ℕ) → is_eq (nat_cmp k n) ≡ (k == n)
equal_number k n = equal_by _ (k == n) (λ e. le-ltb k n (omega (arith, eqb-true k n e)))

pub set_step : (numbers : List ℕ) (i k : ℕ) (old new : BTreeSet ℕ) → i < length numbers → k ≡ get_or numbers i 0 → IsSetOf (take i numbers) old
    → ((q : ℕ) → contains nat_cmp new q ≡ cond (is_eq (nat_cmp k q)) true (contains nat_cmp old q)) → IsSetOf (take (i + 1) numbers) new
set_step numbers i k old new h is so_far put = λ n.
    put n
    ∙ or_one_more (is_eq (nat_cmp k n)) _ _ (so_far n)
    ∙ ap (λ (t : Bool). list_any (λ b. b == n) (take i numbers) || (t || false)) (equal_number k n)
    ∙ ap (λ (x : ℕ). list_any (λ b. b == n) (take i numbers) || ((x == n) || false)) is
    ∙ sym (ap (list_any (λ b. b == n)) (take_more numbers i 0 h) ∙ list_any-append (λ b. b == n) (take i numbers) (get_or numbers i 0 ∷ []))

pub no_text : (l : Line) → is_empty l ≡ true → [] ≡ l.text
no_text l e = go l.text e
  where
    go : (t : List ℕ) → is_none t ≡ true → [] ≡ t
    go [] e = refl
    go (x ∷ t) e = cc
