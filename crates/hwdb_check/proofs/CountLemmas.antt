-- Texts that are counted in a table, and taken from it.
use Rattle.std.proofs.Common.{◌≡◌, ◌<◌, ◌≤◌, ◌+◌, ◌-◌, ◌^◌, ◌∙◌, ◌++◌, ◌||◌, Option, Some, arith, ℕ, suc, Bool, true, false, List, [], ◌∷◌, ap, append_assoc, cond, drop, get_or, length, map, refl, subst, sym, take}
use Rattle.std.specs.Prelude.{Vec, nat_lt, if◌then◌else◌}
use Rattle.std.specs.declared.alloc.Global.{Global}
use Rattle.std.specs.Borrow.{Bor}
use Rattle.std.specs.BTreeMap.{BTreeMap, IsEmpty, get, get_by, is_at}
use Rattle.std.specs.Map.{lookup}
use Rattle.std.specs.Cmp.Lexicographic.{slice_cmp}
use Rattle.std.specs.List.{list_any}
use Rattle.std.specs.Option.{unwrap_or}
use Rattle.std.specs.Ordering.{is_eq, nat_cmp}
use Rattle.std.proofs.lemmas.List.{length-map, length-take, map-append, take_all, take_more}
use Rattle.std.proofs.lemmas.Bool.{lt-ltb}
use Rattle.hwdb_spec.specs.Folders.{same}
use Rattle.hwdb_spec.specs.Lemmas.Orders.{same_itself, same_text}
use Rattle.hwdb_spec_commands.specs.Baselines.{mark_of, new_findings, without_first}
use Rattle.hwdb_spec_commands.specs.Findings as spec
use Rattle.hwdb_check.specs.Counted.{AreLeft, left_of, often, once}
use Rattle.hwdb_check.specs.Found.{finds, kept_of}
use Rattle.hwdb_check.specs.declared.findings.Found.{Found}
use Rattle.hwdb_check.proofs.BaselineLemmas.{all_new, next_finding}

abbrev Table : Type 0
Table = BTreeMap (Bor (List ℕ)) ℕ

-- a text as a key
abbrev key : List ℕ → Bor (List ℕ)
key text = record { ref_ptr = (0, 0); now = text }

same_sym : (a b : List ℕ) → same a b ≡ same b a
same_sym a b = by (same a b) (same b a) refl refl
  where
    by : (p q : Bool) → same a b ≡ p → same b a ≡ q → p ≡ q
    by true true e f = refl
    by false false e f = refl
    by true false e f = sym (same_itself a) ∙ ap (λ (t : List ℕ). same t a) (same_text a b e) ∙ f
    by false true e f = sym e ∙ ap (λ (t : List ℕ). same t b) (sym (same_text b a f)) ∙ same_itself b

-- ---- a table with another number at a text

module _ (old new : Table) (mark : List ℕ) (v : ℕ)
    (puts : (q : Bor (List ℕ)) → get (λ x y. slice_cmp nat_cmp x.now y.now) new q
    ≡ cond (is_eq (slice_cmp nat_cmp mark q.now)) (Some v) (get (λ x y. slice_cmp nat_cmp x.now y.now) old q)) where
  put : (other : List ℕ) → left_of new other ≡ unwrap_or (cond (same mark other) (Some v) (get_by (λ k. slice_cmp nat_cmp other k.now) old)) 0
  put other = ap (λ (o : Option ℕ). unwrap_or o 0) (puts (key other))

  -- one more
  pub once_more : v ≡ left_of old mark + 1 → (other : List ℕ) → left_of new other ≡ left_of old other + once mark other
  once_more is other = put other ∙ by (same mark other) refl
    where
      by : (b : Bool) → same mark other ≡ b → unwrap_or (cond b (Some v) (get_by (λ k. slice_cmp nat_cmp other k.now) old)) 0 ≡ left_of old other + (if b then 1 else 0)
      by true e = is ∙ ap (λ (t : List ℕ). left_of old t + 1) (same_text mark other e)
      by false e = omega arith

  -- one less
  pub once_less : v ≡ left_of old mark - 1 → (other : List ℕ) → left_of new other ≡ left_of old other - once mark other
  once_less is other = put other ∙ by (same mark other) refl
    where
      by : (b : Bool) → same mark other ≡ b → unwrap_or (cond b (Some v) (get_by (λ k. slice_cmp nat_cmp other k.now) old)) 0 ≡ left_of old other - (if b then 1 else 0)
      by true e = is ∙ ap (λ (t : List ℕ). left_of old t - 1) (same_text mark other e)
      by false e = omega arith

-- none is left
pub none_less : (left : Table) (mark : List ℕ) → left_of left mark ≡ 0 → (other : List ℕ) → left_of left other ≡ left_of left other - once mark other
none_less left mark none other = by (same mark other) refl
  where
    by : (b : Bool) → same mark other ≡ b → left_of left other ≡ left_of left other - (if b then 1 else 0)
    by true e = let z : left_of left other ≡ 0 = ap (left_of left) (sym (same_text mark other e)) ∙ none in omega (arith, z)
    by false e = omega arith

-- ---- texts that are counted

pub none_counted : (left : Table) → IsEmpty left → AreLeft [] left
none_counted left empty text = ap (λ es. unwrap_or (lookup (is_at (λ k. slice_cmp nat_cmp text k.now)) es) 0) empty

often_more : (text mark : List ℕ) (known : List (List ℕ)) → often text (known ++ mark ∷ []) ≡ often text known + once text mark
often_more text mark [] = omega arith
often_more text mark (k ∷ ks) = let later = often_more text mark ks in omega (arith, later)

often_few : (text : List ℕ) (known : List (List ℕ)) → often text known ≤ length known
often_few text [] = omega arith
often_few text (k ∷ ks) = by (same text k) (often_few text ks)
  where
    by : (b : Bool) → often text ks ≤ length ks → (if b then 1 else 0) + often text ks ≤ suc (length ks)
    by true h = omega (arith, h)
    by false h = omega (arith, h)

pub one_counted : (known : List (List ℕ)) (mark : List ℕ) (old new : Table) → AreLeft known old
    → ((other : List ℕ) → left_of new other ≡ left_of old other + once mark other) → AreLeft (known ++ mark ∷ []) new
one_counted known mark old new so_far more text =
    more text
    ∙ ap (λ (n : ℕ). n + once mark text) (so_far text)
    ∙ ap (λ (b : Bool). often text known + (if b then 1 else 0)) (same_sym mark text)
    ∙ sym (often_more text mark known)

-- a count has room for one more
pub room : (known : List (List ℕ)) (left : Table) (n : ℕ) (mark : List ℕ) → AreLeft known left → length known ≤ n → n < 2 ^ 63 → left_of left mark + 1 < 2 ^ 64
room known left n mark so_far few small = omega (arith, so_far mark, often_few mark known, few, small)

-- the next text of a vector of them
abbrev texts_of : List (Vec ℕ Global) → List (List ℕ)
texts_of known = map (λ (t : Vec ℕ Global). t.items) known

pub room_for : (known : List (Vec ℕ Global)) (i : ℕ) (left : Table) (mark : List ℕ) → i < length known → length known < 2 ^ 63 → AreLeft (texts_of (take i known)) left
    → left_of left mark + 1 < 2 ^ 64
room_for known i left mark h small so_far =
    room (texts_of (take i known)) left (length known) mark so_far (omega (arith, h, length-map (take i known) (λ (t : Vec ℕ Global). t.items), length-take i known)) small

pub next_counted : (known : List (Vec ℕ Global)) (i : ℕ) (d : Vec ℕ Global) (mark : List ℕ) (old new : Table) → i < length known → mark ≡ (get_or known i d).items → AreLeft (texts_of (take i known)) old
    → ((other : List ℕ) → left_of new other ≡ left_of old other + once mark other) → AreLeft (texts_of (take (i + 1) known)) new
next_counted known i d mark old new h is so_far more =
    subst (λ (ks : List (List ℕ)). AreLeft ks new)
    (sym (ap texts_of (take_more known i d h) ∙ map-append (λ (t : Vec ℕ Global). t.items) (take i known) (get_or known i d ∷ [])))
    (subst (λ (t : List ℕ). AreLeft (texts_of (take i known) ++ t ∷ []) new) is (one_counted (texts_of (take i known)) mark old new so_far more))

pub all_counted : (known : List (Vec ℕ Global)) (i : ℕ) (left : Table) → length known ≤ i → AreLeft (texts_of (take i known)) left → AreLeft (texts_of known) left
all_counted known i left h so_far = subst (λ (ks : List (Vec ℕ Global)). AreLeft (texts_of ks) left) (take_all i known h) so_far

-- ---- texts that are taken

pub any_left : (mark : List ℕ) (known : List (List ℕ)) → list_any (same mark) known ≡ nat_lt 0 (often mark known)
any_left mark [] = refl
any_left mark (k ∷ ks) = by (same mark k) (any_left mark ks)
  where
    by : (b : Bool) → list_any (same mark) ks ≡ nat_lt 0 (often mark ks) → (b || list_any (same mark) ks) ≡ nat_lt 0 ((if b then 1 else 0) + often mark ks)
    by true h = sym (lt-ltb 0 (1 + often mark ks) (omega arith))
    by false h = h ∙ ap (nat_lt 0) (let z : often mark ks ≡ 0 + often mark ks = omega arith in z)

-- without the first of a text there is one less of it
often_without : (other mark : List ℕ) (known : List (List ℕ)) → often other (without_first mark known) ≡ often other known - once mark other
unfolding without_first
often_without other mark [] = omega arith
often_without other mark (k ∷ ks) = by (same mark k) (same mark other) refl refl (often_without other mark ks)
  where
    by : (b c : Bool) → same mark k ≡ b → same mark other ≡ c → often other (without_first mark ks) ≡ often other ks - (if c then 1 else 0)
        → often other (if b then ks else k ∷ without_first mark ks) ≡ once other k + often other ks - (if c then 1 else 0)
    by true c e f later =
        let same_one : same other k ≡ c = ap (same other) (sym (same_text mark k e)) ∙ same_sym other mark ∙ f in
        taken c (once other k) (often other ks) (ap (λ (b : Bool). if b then 1 else 0) same_one)
      where
        taken : (c : Bool) (n m : ℕ) → n ≡ (if c then 1 else 0) → m ≡ n + m - (if c then 1 else 0)
        taken true n m is = omega (arith, is)
        taken false n m is = omega (arith, is)
    by false true e f later =
        let is : once other k ≡ 0 = ap (λ (b : Bool). if b then 1 else 0) (ap (λ (t : List ℕ). same t k) (sym (same_text mark other f)) ∙ e) in
        kept (once other k) (often other (without_first mark ks)) (often other ks) is later
      where
        kept : (n a m : ℕ) → n ≡ 0 → a ≡ m - 1 → n + a ≡ n + m - 1
        kept n a m is later = omega (arith, is, later)
    by false false e f later = stays (once other k) (often other (without_first mark ks)) (often other ks) later
      where
        stays : (n a m : ℕ) → a ≡ m - 0 → n + a ≡ n + m - 0
        stays n a m later = omega (arith, later)

pub left_after : (known : List (List ℕ)) (mark : List ℕ) (old new : Table) → AreLeft known old
    → ((other : List ℕ) → left_of new other ≡ left_of old other - once mark other) → AreLeft (without_first mark known) new
left_after known mark old new so_far less text =
    less text ∙ ap (λ (n : ℕ). n - once mark text) (so_far text) ∙ sym (often_without text mark known)

-- one that isn't there is taken
nothing_without : (mark : List ℕ) (known : List (List ℕ)) → list_any (same mark) known ≡ false → without_first mark known ≡ known
unfolding without_first
nothing_without mark [] h = refl
nothing_without mark (k ∷ ks) h = by (same mark k) h (nothing_without mark ks)
  where
    by : (b : Bool) → (b || list_any (same mark) ks) ≡ false → (list_any (same mark) ks ≡ false → without_first mark ks ≡ ks) → (if b then ks else k ∷ without_first mark ks) ≡ k ∷ ks
    by true h later = cc
    by false h later = ap (λ (l : List (List ℕ)). k ∷ l) (later h)

-- ---- findings, one after another

module _ (f : spec.Finding) (fs : List spec.Finding) (known : List (List ℕ)) (left : Table) (new : List spec.Finding) (are : AreLeft known left) where
  any : (b : Bool) → b ≡ nat_lt 0 (left_of left (mark_of f)) → list_any (same (mark_of f)) known ≡ b
  any b is = any_left (mark_of f) known ∙ ap (nat_lt 0) (sym (are (mark_of f))) ∙ sym is

  -- it passes
  pub passed : true ≡ nat_lt 0 (left_of left (mark_of f)) → new ++ new_findings (without_first (mark_of f) known) fs ≡ new ++ new_findings known (f ∷ fs)
  unfolding new_findings
  passed is = sym (ap (λ (b : Bool). new ++ (if b then new_findings (without_first (mark_of f) known) fs else f ∷ new_findings known fs)) (any true is))

  -- it is new
  pub added : (after : List spec.Finding) → false ≡ nat_lt 0 (left_of left (mark_of f)) → after ≡ new ++ f ∷ []
      → after ++ new_findings (without_first (mark_of f) known) fs ≡ new ++ new_findings known (f ∷ fs)
  unfolding new_findings
  added after is grown =
      ap (λ (l : List spec.Finding). l ++ new_findings (without_first (mark_of f) known) fs) grown
      ∙ append_assoc new (f ∷ []) (new_findings (without_first (mark_of f) known) fs)
      ∙ ap (λ (l : List (List ℕ)). new ++ f ∷ new_findings l fs) (nothing_without (mark_of f) known (any false is))
      ∙ sym (ap (λ (b : Bool). new ++ (if b then new_findings (without_first (mark_of f) known) fs else f ∷ new_findings known fs)) (any false is))

-- some findings were looked at, and those that are left aren't: with what is new among these, all is said of them that is said of all
pub record ArePutUpTo (known : List (List ℕ)) (all new rest : List spec.Finding) (table : Table) : Type 0 where
  pub now : List (List ℕ)
  pub are : AreLeft now table
  pub so_far : new ++ new_findings now rest ≡ new_findings known all

module _ (known : List (List ℕ)) (fs : List Found) (table : Table) where
  pub none_put : (new : List Found) → new ≡ [] → AreLeft known table → ArePutUpTo known (finds fs) (finds new) (finds (drop 0 fs)) table
  none_put new none are = record { now = known; are = are; so_far = ap (λ (l : List Found). finds l ++ new_findings known (finds fs)) none }

  pub next_put : (i : ℕ) (d : Found) {after : Table} {new more : List spec.Finding} → i < length fs → d ≡ get_or fs i d
      → ArePutUpTo known (finds fs) new (finds (drop i fs)) table
      → ((ks : List (List ℕ)) (rest : List spec.Finding) → AreLeft ks table → more ++ new_findings (without_first (mark_of (kept_of d)) ks) rest ≡ new ++ new_findings ks (kept_of d ∷ rest))
      → ((ks : List (List ℕ)) → AreLeft ks table → AreLeft (without_first (mark_of (kept_of d)) ks) after)
      → ArePutUpTo known (finds fs) more (finds (drop (i + 1) fs)) after
  next_put i d {after} {new} {more} h is before put left =
      record {
        now = without_first (mark_of (kept_of d)) before.now;
        are = left before.now before.are;
        so_far = next_finding fs i d before.now _ new more _ h is (put before.now (finds (drop (i + 1) fs)) before.are) before.so_far;
      }

  pub all_put : (i : ℕ) {new : List spec.Finding} → length fs ≤ i → ArePutUpTo known (finds fs) new (finds (drop i fs)) table → new ≡ new_findings known (finds fs)
  all_put i {new} h before = all_new fs i before.now new _ h before.so_far
