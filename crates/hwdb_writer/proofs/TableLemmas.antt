-- A sort of numbered strings: each offset is filled in by a string's number.
use Rattle.std.proofs.Common.{◌≡◌, ◌<◌, ◌≢◌, ℕ, ◌+◌, ◌-◌, ◌^◌, List, [], ◌∷◌, ◌++◌, length, get_or, set, map, Bool, true, false, refl, sym, ◌∙◌, ap, subst, arith, nat_eq, ⊎_elim}
use Rattle.std.specs.Ordering.{nat_cmp, on}
use Rattle.std.specs.List.Sorted.{IsSorted, IsPermutation}
use Rattle.std.specs.Cmp.Lexicographic.{slice_cmp, pointwise, same_text, nat_list_eq_equiv}
use Rattle.std.proofs.lemmas.List.{get_or_default, get_or-map, length-map, get_or-set_same, get_or-set_other, ext_get_or}
use Rattle.std.proofs.lemmas.List.Sorted.{Contains-permutation, IsPermutation-sym, IsPermutation-map, length_permutation}
use Rattle.std.proofs.str.Laws.{order}
use Rattle.hwdb_spec.specs.Assignment.{ascending}
use Rattle.hwdb_spec.specs.Written.{place_of, section_of}
use Rattle.hwdb_writer.specs.Internal.Word.{Word, word_of}
use Rattle.hwdb_writer.specs.Internal.Numbered.{texts, distinct, IsNumbered, IsNew, IsOld, IsReached, IsFilledTo, bounded_place}
use Rattle.hwdb_writer.specs.Internal.Stored.{IsUnder}
use Rattle.hwdb_writer.proofs.PlaceLemmas.{place_within, nothing}
use Rattle.hwdb_text.specs.Lemmas.Ascending.{ordered_is}

abbrev pub none : Word
none = record { word = []; number = 0 }

abbrev same : List ℕ → List ℕ → Bool
same = pointwise nat_eq

pub text_at : (ws : List Word) (i : ℕ) (d : Word) → i < length ws → get_or (texts ws) i nothing ≡ (get_or ws i d).word
text_at ws i d lt = get_or-map word_of ws i d nothing lt

pub texts_sorted : (ws : List Word) → IsSorted (on word_of (slice_cmp nat_cmp)) ws → IsSorted (slice_cmp nat_cmp) (texts ws)
texts_sorted ws up k d low high =
    let w : Word = record { word = d; number = 0 } in
    let long = length-map ws word_of in
    rw (get_or-map word_of ws (k + 1) w d (omega (arith, high, long)), get_or-map word_of ws k w d (omega (arith, high, long))) (up k w low (omega (arith, high, long)))

-- strings in another order
module _ (words ordered : List Word) (numbered : IsNumbered words) (moved : IsPermutation words ordered) where
  long : length ordered ≡ length words
  long = length_permutation words ordered moved

  pub distinct_is : IsSorted (on word_of (slice_cmp nat_cmp)) ordered → distinct (texts ordered) ≡ ascending (texts words)
  distinct_is up = ordered_is (texts words) (texts ordered) (distinct (texts ordered)) (IsPermutation-map word_of words ordered moved) (texts_sorted ordered up) refl

  -- each is the one that had its number
  record IsOwn (w : Word) : Type 0 where
    within : w.number < length words
    is : get_or words w.number w ≡ w

  own : (j : ℕ) (d : Word) → j < length ordered → IsOwn (get_or ordered j d)
  own j d lt =
      let w = get_or ordered j d in
      let c = Contains-permutation ordered words w (IsPermutation-sym words ordered moved) (j, lt, get_or_default ordered j w d lt) in
      let n : w.number ≡ c.0 = sym (ap (λ (v : Word). v.number) c.2) ∙ numbered c.0 w c.1 in
      record { within = omega (arith, n, c.1); is = ap (λ k. get_or words k w) n ∙ c.2 }

  pub number_within : (j : ℕ) (d : Word) → j < length ordered → (get_or ordered j d).number < length ordered
  number_within j d lt = omega (arith, (own j d lt).within, long)

  one_word : (v w : Word) → IsOwn v → IsOwn w → v.number ≡ w.number → v.word ≡ w.word
  one_word v w a b e =
      ap word_of (sym a.is ∙ ap (λ k. get_or words k v) e ∙ get_or_default words w.number v w b.within ∙ b.is)

  module _ (first : ℕ) where
    abbrev place : List ℕ → ℕ
    place = bounded_place first (distinct (texts ordered))

    -- one more offset is filled in
    pub filled_more : (places next : List ℕ) (i start : ℕ) (d : Word) → i < length ordered → length places ≡ length ordered → next ≡ set places (get_or ordered i d).number start → start ≡ place (get_or ordered i d).word →
        IsFilledTo first ordered places i → IsFilledTo first ordered next (i + 1)
    filled_more places next i start d lt size e s h j c below =
        let v = get_or ordered j c in
        let w = get_or ordered i d in
        let a = own j c (omega (arith, below, lt)) in
        let b = own i d lt in
        let other : v.number ≢ w.number → get_or next v.number 0 ≡ place v.word =
        λ n. ap (λ l. get_or l v.number 0) e ∙ get_or-set_other places w.number v.number start 0 n ∙ h j c (before j c below n) in
        let equal : v.number ≡ w.number → get_or next v.number 0 ≡ place v.word =
        λ n. ap (λ l. get_or l v.number 0) e ∙ ap (λ k. get_or (set places w.number start) k 0) n ∙ get_or-set_same places w.number start 0 (omega (arith, b.within, long, size)) ∙ s ∙ ap place (sym (one_word v w a b n)) in
        ⊎_elim {C = get_or next v.number 0 ≡ place v.word} (λ l. other (λ n. absurd (omega (arith, l, n))))
        (λ m. ⊎_elim {C = get_or next v.number 0 ≡ place v.word} (λ l. other (λ n. absurd (omega (arith, l, n)))) (λ g. equal (omega (arith, m, g))) (order w.number v.number)) (order v.number w.number)
      where
        before : (j : ℕ) (c : Word) → j < i + 1 → ((get_or ordered j c).number ≡ (get_or ordered i d).number → ⊥) → j < i
        before j c below n =
            ⊎_elim {C = j < i} (λ l. l) (λ m. let k : j ≡ i = omega (arith, m, below) in absurd (n (ap (λ q. (get_or ordered q c).number) k ∙ ap (λ (x : Word). x.number) (get_or_default ordered i c d lt)))) (order j i)

    -- all offsets are filled in
    pub all_filled : (places : List ℕ) → length places ≡ length ordered → IsFilledTo first ordered places (length ordered) → places ≡ map place (texts words)
    all_filled places size h =
        ext_get_or 0 places (map place (texts words)) (let a = length-map words word_of in let b = length-map (texts words) place in omega (arith, size, long, a, b)) (λ k lt. at k (omega (arith, lt, size, long)))
      where
        at : (k : ℕ) → k < length words → get_or places k 0 ≡ get_or (map place (texts words)) k 0
        at k lt =
            let w = get_or words k none in
            let c = Contains-permutation words ordered w moved (k, lt, get_or_default words k w none lt) in
            let f : get_or places w.number 0 ≡ place w.word = subst (λ (v : Word). get_or places v.number 0 ≡ place v.word) c.2 (h c.0 w c.1) in
            let a = length-map words word_of in
            ap (λ n. get_or places n 0) (sym (numbered k none lt)) ∙ f ∙ ap place (sym (text_at words k none lt)) ∙ sym (get_or-map place (texts words) k nothing 0 (omega (arith, lt, a)))

-- offsets that fit are what they are
pub fitting : (first : ℕ) (table : List (List ℕ)) (words : List (List ℕ)) → first + length (section_of table) < 2 ^ 64 → map (bounded_place first table) words ≡ map (place_of first table) words
fitting first table [] fits = refl
fitting first table (w ∷ ws) fits =
    let a = place_within first table w in
    let e : bounded_place first table w ≡ place_of first table w = omega (arith, a, fits) in
    (λ i. e i ∷ fitting first table ws fits i)

-- one more string
pub texts_more : (ws : List Word) (w : Word) → texts (ws ++ w ∷ []) ≡ texts ws ++ w.word ∷ []
texts_more [] w = refl
texts_more (v ∷ ws) w = ap (λ l. v.word ∷ l) (texts_more ws w)

pub texts_and_one : (ws all : List Word) (w : Word) (s : List ℕ) (now : List (List ℕ)) → all ≡ ws ++ w ∷ [] → w.word ≡ s → texts ws ≡ now → texts all ≡ now ++ s ∷ []
texts_and_one ws all w s now e is view = ap texts e ∙ texts_more ws w ∙ (λ i. view i ++ is i ∷ [])

-- the string that has a number
pub known_at : (ws inside : List Word) (now : List (List ℕ)) (n : ℕ) (w : Word) (s : List ℕ) → ws ≡ inside → now ≡ texts inside → n < length ws → w ≡ get_or ws n w → w.word ≡ s → IsUnder now n s
known_at ws inside now n w s e v lt is same =
    subst (λ (l : List (List ℕ)). IsUnder l n s) (ap texts e ∙ sym v) (record {
      known = let a = length-map ws word_of in omega (arith, lt, a);
      is = text_at ws n w lt ∙ ap word_of (sym is) ∙ same;
    })

-- a string and the one before it
module _ (ws : List Word) (i : ℕ) (x y : Word) (lt : i < length ws) (some : 0 < i) (is_x : x ≡ get_or ws (i - 1) x) (is_y : y ≡ get_or ws i y) where
  here : get_or (texts ws) i nothing ≡ y.word
  here = text_at ws i y lt ∙ ap word_of (sym is_y)

  there : (k : ℕ) → i ≡ k + 1 → get_or (texts ws) k nothing ≡ x.word
  there k e = let m : k ≡ i - 1 = omega (arith, e) in text_at ws k x (omega (arith, e, lt)) ∙ ap (λ n. (get_or ws n x).word) m ∙ ap word_of (sym is_x)

  pub new_at : false ≡ same x.word y.word → IsNew (texts ws) i
  new_at f k e = (λ t. same (here t) (there k e t)) ∙ nat_list_eq_equiv.symm y.word x.word ∙ sym f

  pub old_at : true ≡ same x.word y.word → IsOld (texts ws) i
  old_at t = record { before = i - 1; is = omega (arith, some); same = here ∙ sym (same_text x.word y.word t) ∙ sym (there (i - 1) (omega (arith, some))) }

pub reached_as : (first : ℕ) (ts : List (List ℕ)) (i s e s' e' : ℕ) → s' ≡ s → e' ≡ e → IsReached first ts i s e → IsReached first ts i s' e'
reached_as first ts i s e s' e' p q h = subst (λ (m : ℕ). IsReached first ts i m e') (sym p) (subst (λ (n : ℕ). IsReached first ts i s n) (sym q) h)

-- the table's offsets, if they fit
pub placed_in : (first size : ℕ) (interner table : List (List ℕ)) (read places : List ℕ) → read ≡ places → places ≡ map (bounded_place first table) interner → first ≡ 80 + size → first + length (section_of table) < 2 ^ 64 →
    read ≡ map (place_of (80 + size) table) interner
placed_in first size interner table read places r p f fits = r ∙ p ∙ fitting first table interner fits ∙ ap (λ n. map (place_of n table) interner) f
