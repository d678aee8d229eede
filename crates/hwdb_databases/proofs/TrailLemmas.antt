-- The way from a database's root to a node, as segments.
use Rattle.std.proofs.Common.{◌≡◌, ◌∙◌, ap, refl, sym, subst, ℕ, zero, suc, ◌+◌, ◌≤◌, ◌<◌, List, [], ◌∷◌, ◌++◌, Option, take, drop, length, arith, append_assoc, append-nil, get_or, length-append, length-take-le, take-append-drop, true, min, add-one}
use Rattle.std.proofs.Math.Seq.{take-append_seam, take-append-le, take-take}
use Rattle.hwdb_spec.specs.Lemmas.Lists.{taken_more}
use Rattle.hwdb_databases.specs.Internal.Trails.{AreAlike, AreMeasured, Follows, IsCopied, IsLonger, byte_in, bytes_of, path_in}
use Rattle.hwdb_databases.specs.declared.trail.Segment.{Segment}
use Rattle.hwdb_databases.specs.declared.trail.Trail.{Trail}

-- ---- paths

pub path_joined : (xs ys : List Segment) → path_in (xs ++ ys) ≡ path_in xs ++ path_in ys
path_joined [] ys = refl
path_joined (x ∷ xs) ys = ap (λ r. bytes_of x ++ r) (path_joined xs ys) ∙ sym (append_assoc (bytes_of x) (path_in xs) (path_in ys))

-- one more segment was added to a text
pub path_more : (text : List ℕ) (xs : List Segment) (i : ℕ) (s : Segment) → i < length xs → s ≡ get_or xs i s → (text ++ path_in (take i xs)) ++ bytes_of s ≡ text ++ path_in (take (i + 1) xs)
path_more text xs i s h is =
    append_assoc text (path_in (take i xs)) (bytes_of s)
    ∙ ap (λ r. text ++ r) (sym (ap path_in (ap (λ n. take n xs) (add-one i) ∙ taken_more xs i s h is) ∙ path_joined (take i xs) (s ∷ [])
    ∙ ap (λ r. path_in (take i xs) ++ r) (append-nil (bytes_of s))))

pub longer_path : (before now : List Segment) (byte : Option ℕ) (prefix : List ℕ) → IsLonger before now byte prefix → path_in now ≡ path_in before ++ (byte_in byte ++ prefix)
longer_path before now byte prefix l =
    ap path_in l.grown ∙ path_joined before (l.last ∷ []) ∙ ap (λ r. path_in before ++ r) (append-nil (bytes_of l.last) ∙ l.bytes)

pub cut_path : (i : ℕ) (xs : List Segment) → take (length (path_in (take i xs))) (path_in xs) ≡ path_in (take i xs)
cut_path i xs =
    ap (take (length (path_in (take i xs)))) (ap path_in (sym (take-append-drop i xs)) ∙ path_joined (take i xs) (drop i xs))
    ∙ take-append_seam (path_in (take i xs)) (path_in (drop i xs))

pub longer_size : (before now : List Segment) (byte : Option ℕ) (prefix : List ℕ) → IsLonger before now byte prefix → length now ≡ length before + 1
longer_size before now byte prefix l = ap length l.grown ∙ length-append before (l.last ∷ [])

pub longer_front : (n : ℕ) (before now : List Segment) (byte : Option ℕ) (prefix : List ℕ) → IsLonger before now byte prefix → n ≤ length before → take n now ≡ take n before
longer_front n before now byte prefix l h = ap (take n) l.grown ∙ take-append-le n before (l.last ∷ []) h

-- ---- how many bytes are before a segment

pub measured_pushed : (n : ℕ) (xs : List Segment) (s : Segment) → AreMeasured n xs → s.from ≡ n + length (path_in xs) → AreMeasured n (xs ++ s ∷ [])
measured_pushed n [] s m is = (omega (arith, is), tt)
measured_pushed n (x ∷ xs) s m is =
    let size = length-append (bytes_of x) (path_in xs) in
    (m.0, measured_pushed (n + length (bytes_of x)) xs s m.1 (omega (arith, is, size)))

pub measured_cut : (n count : ℕ) (xs : List Segment) → AreMeasured n xs → AreMeasured n (take count xs)
measured_cut n zero xs m = tt
measured_cut n (suc count) [] m = tt
measured_cut n (suc count) (x ∷ xs) m = (m.0, measured_cut (n + length (bytes_of x)) count xs m.1)

pub measured_at : (n i : ℕ) (xs : List Segment) (d : Segment) → i < length xs → AreMeasured n xs → (get_or xs i d).from ≡ n + length (path_in (take i xs))
measured_at n i [] d h m = absurd (omega (arith, h))
measured_at n zero (x ∷ xs) d h m = let e = m.0 in omega (arith, e)
measured_at n (suc i) (x ∷ xs) d h m =
    let size = length-append (bytes_of x) (path_in (take i xs)) in
    let rest = measured_at (n + length (bytes_of x)) i xs d (omega (arith, h)) m.1 in
    omega (arith, size, rest)

-- ---- steps

pub follows_on : (a b c : Trail) → Follows a b → Follows b c → Follows a c
follows_on a b c f g = record { there = λ e. g.there (f.there e); kept = λ e before h. g.kept (f.there e) before (f.kept e before h); copied = λ h. g.copied (f.copied h) }

pub follows_itself : (a : Trail) → Follows a a
follows_itself a = record { there = λ e. e; kept = λ e before h. h; copied = λ h. h }

-- so many of the segments are left
pub cut_follows : (old new : Trail) (count : ℕ) → count ≤ length old.segments.items → new.segments.items ≡ take count old.segments.items → new.kept ≡ min old.kept count → new.copies ≡ old.copies
    → (IsCopied old → new.path.items ≡ path_in (take count old.segments.items)) → Follows old new
cut_follows old new count within is kept copies path =
    let all = old.segments.items in
    let size : length new.segments.items ≡ count = ap length is ∙ length-take-le count all within in
    record {
      there = λ e. omega (arith, size, kept);
      kept = λ e before h n small. ap (take n) is ∙ take-take n count all (omega (arith, small, kept)) ∙ h n (omega (arith, small, kept));
      copied = λ h. record {
        copies = copies ∙ h.copies;
        path = path h ∙ ap path_in (sym is);
        measured = subst (AreMeasured 0) (sym is) (measured_cut 0 count all h.measured);
      };
    }

-- there is one more
pub push_follows : (old new : Trail) (s : Segment) → new.segments.items ≡ old.segments.items ++ s ∷ [] → new.kept ≡ old.kept → new.copies ≡ old.copies
    → (old.copies ≡ true → new.path.items ≡ old.path.items ++ bytes_of s) → s.from ≡ length old.path.items → Follows old new
push_follows old new s is kept copies path from =
    let all = old.segments.items in
    let size : length new.segments.items ≡ length all + 1 = ap length is ∙ length-append all (s ∷ []) in
    record {
      there = λ e. omega (arith, size, kept, e);
      kept = λ e before h n small. ap (take n) is ∙ take-append-le n all (s ∷ []) (omega (arith, small, kept, e)) ∙ h n (omega (arith, small, kept));
      copied = λ h.
          let held = ap length h.path in
          record {
            copies = copies ∙ h.copies;
            path = path h.copies ∙ ap (λ p. p ++ bytes_of s) h.path ∙ sym (ap path_in is ∙ path_joined all (s ∷ []) ∙ ap (λ r. path_in all ++ r) (append-nil (bytes_of s)));
            measured = subst (AreMeasured 0) (sym is) (measured_pushed 0 all s h.measured (omega (arith, from, held)));
          };
    }

-- ---- segments of two ways

pub fewer_alike : (m n : ℕ) (xs ys : List Segment) → m ≤ n → AreAlike n xs ys → AreAlike m xs ys
fewer_alike zero n xs ys h a = tt
fewer_alike (suc m) zero xs ys h a = absurd (omega (arith, h))
fewer_alike (suc m) (suc n) [] ys h a = absurd a
fewer_alike (suc m) (suc n) (x ∷ xs) [] h a = absurd a
fewer_alike (suc m) (suc n) (x ∷ xs) (y ∷ ys) h a = (a.0, fewer_alike m n xs ys (omega (arith, h)) a.1)

front_alike : (n : ℕ) (xs ys : List Segment) → AreAlike n xs ys → AreAlike n (take n xs) (take n ys)
front_alike zero xs ys a = tt
front_alike (suc n) [] ys a = absurd a
front_alike (suc n) (x ∷ xs) [] a = absurd a
front_alike (suc n) (x ∷ xs) (y ∷ ys) a = (a.0, front_alike n xs ys a.1)

whole_alike : (n : ℕ) (xs ys : List Segment) → AreAlike n (take n xs) (take n ys) → AreAlike n xs ys
whole_alike zero xs ys a = tt
whole_alike (suc n) [] ys a = absurd a
whole_alike (suc n) (x ∷ xs) [] a = absurd a
whole_alike (suc n) (x ∷ xs) (y ∷ ys) a = (a.0, whole_alike n xs ys a.1)

pub kept_alike : (n : ℕ) (xs ys us vs : List Segment) → take n us ≡ take n xs → take n vs ≡ take n ys → AreAlike n xs ys → AreAlike n us vs
kept_alike n xs ys us vs o w a =
    whole_alike n us vs (subst (λ (g : List Segment × List Segment). AreAlike n g.0 g.1) (λ i. (sym o i, sym w i)) (front_alike n xs ys a))

pub one_alike : (n : ℕ) (xs ys : List Segment) (x y : Segment) → n < length xs → n < length ys → AreAlike n xs ys → bytes_of (get_or xs n x) ≡ bytes_of (get_or ys n y)
    → AreAlike (suc n) xs ys
one_alike n [] ys x y h k a e = absurd (omega (arith, h))
one_alike n (u ∷ xs) [] x y h k a e = absurd (omega (arith, k))
one_alike zero (u ∷ xs) (v ∷ ys) x y h k a e = (e, tt)
one_alike (suc n) (u ∷ xs) (v ∷ ys) x y h k a e = (a.0, one_alike n xs ys x y (omega (arith, h)) (omega (arith, k)) a.1 e)

pub all_alike : (n : ℕ) (xs ys : List Segment) → n ≡ length xs → n ≡ length ys → AreAlike n xs ys → path_in xs ≡ path_in ys
all_alike zero [] [] h k a = refl
all_alike zero [] (y ∷ ys) h k a = absurd (omega (arith, k))
all_alike zero (x ∷ xs) ys h k a = absurd (omega (arith, h))
all_alike (suc n) [] ys h k a = absurd a
all_alike (suc n) (x ∷ xs) [] h k a = absurd a
all_alike (suc n) (x ∷ xs) (y ∷ ys) h k a =
    ap (λ (g : List ℕ × List ℕ). g.0 ++ g.1) (λ i. (a.0 i, all_alike n xs ys (omega (arith, h)) (omega (arith, k)) a.1 i))

-- the segments that were kept of both are alike
pub passed_alike : (n j k : ℕ) (xs ys us vs : List Segment) → ((m : ℕ) → m ≤ j → take m us ≡ take m xs) → ((m : ℕ) → m ≤ k → take m vs ≡ take m ys) → AreAlike n xs ys
    → AreAlike (min n (min j k)) us vs
passed_alike n j k xs ys us vs o w a =
    let m = min n (min j k) in
    kept_alike m xs ys us vs (o m (omega arith)) (w m (omega arith)) (fewer_alike m n xs ys (omega arith) a)
