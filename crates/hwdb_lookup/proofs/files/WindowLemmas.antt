-- Windows that were read, one after another.
use Rattle.std.proofs.Common.{◌≡◌, ◌≤◌, ◌<◌, ◌+◌, ◌*◌, ◌⊎◌, inl, inr, ◌∙◌, ℕ, zero, suc, List, [], ◌∷◌, ◌++◌, refl, ap, sym, subst, arith, drop, take, length, slice_index, length-drop, length-append, append-nil}
use Rattle.std.proofs.lemmas.List.{take-append-le, get_or_append_left}
use Rattle.std.proofs.Math.Seq.{get_or-append_seam, drop-append_seam}
use Rattle.hwdb_reader.specs.Passes.Views.{IsPart}
use Rattle.hwdb_lookup.specs.Files.Views.{AreOf}
use Rattle.hwdb_lookup.specs.declared.files.windows.ReadWindows.{ReadWindows}

drop_front : (n : ℕ) (xs ys : List ℕ) → n ≤ length xs → drop n (xs ++ ys) ≡ drop n xs ++ ys
drop_front zero xs ys le = refl
drop_front (suc n) [] ys le = absurd (omega (arith, le))
drop_front (suc n) (x ∷ xs) ys le = drop_front n xs ys (omega (arith, le))

-- a window that was there before
window_kept : (k n : ℕ) (bytes window : List ℕ) → k < n → length bytes ≡ 4096 * n → take 4096 (drop (k * 4096) (bytes ++ window)) ≡ take 4096 (drop (k * 4096) bytes)
window_kept k n bytes window lt many =
    let rest = length-drop (k * 4096) bytes in
    ap (take 4096) (drop_front (k * 4096) bytes window (omega (arith, lt, many))) ∙ take-append-le 4096 (drop (k * 4096) bytes) window (omega (arith, rest, lt, many))

take_whole : (n : ℕ) (xs : List ℕ) → length xs ≡ n → take n xs ≡ xs
take_whole zero [] is = refl
take_whole zero (x ∷ xs) is = absurd (omega (arith, is))
take_whole (suc n) [] is = absurd (omega (arith, is))
take_whole (suc n) (x ∷ xs) is = ap (λ (l : List ℕ). x ∷ l) (take_whole n xs (omega (arith, is)))

-- the new one
window_new : (n : ℕ) (bytes window : List ℕ) → length bytes ≡ 4096 * n → length window ≡ 4096 → take 4096 (drop (n * 4096) (bytes ++ window)) ≡ window
window_new n bytes window many size =
    let same : n * 4096 ≡ length bytes = omega (arith, many) in
    ap (λ (m : ℕ). take 4096 (drop m (bytes ++ window))) same ∙ ap (take 4096) (drop-append_seam bytes window) ∙ take_whole 4096 window size

last_or_before : (k n : ℕ) → k < suc n → (k < n) ⊎ (k ≡ n)
last_or_before zero zero lt = inr refl
last_or_before zero (suc n) lt = inl (omega arith)
last_or_before (suc k) zero lt = absurd (omega (arith, lt))
last_or_before (suc k) (suc n) lt = one_more k n (last_or_before k n (omega (arith, lt)))
  where
    one_more : (k n : ℕ) → (k < n) ⊎ (k ≡ n) → (suc k < suc n) ⊎ (suc k ≡ suc n)
    one_more k n (inl lt) = inl (omega (arith, lt))
    one_more k n (inr is) = inr (ap suc is)

-- one window more
pub window_added : (file window : List ℕ) (place : ℕ) (old now : ReadWindows) → length window ≡ 4096 → now.bytes.items ≡ old.bytes.items ++ window → now.places.items ≡ old.places.items ++ place ∷ []
    → IsPart file place window → AreOf old file → AreOf now file
window_added file window place old now size bytes places part of =
    let n = length old.places.items in
    let longer : length now.bytes.items ≡ length old.bytes.items + length window = ap length bytes ∙ length-append old.bytes.items window in
    let more : length now.places.items ≡ n + 1 = ap length places ∙ length-append old.places.items (place ∷ []) in
    let many = of.many in
    record {
      many = omega (arith, longer, more, many, size);
      each = λ k lt. one k (last_or_before k n (omega (arith, lt, more)));
    }
  where
    one : (k : ℕ) → (k < length old.places.items) ⊎ (k ≡ length old.places.items) → IsPart file (slice_index now.places.items k) (take 4096 (drop (k * 4096) now.bytes.items))
    one k (inl lt) =
        let at : slice_index now.places.items k ≡ slice_index old.places.items k = ap (λ (l : List ℕ). slice_index l k) places ∙ get_or_append_left old.places.items (place ∷ []) 0 k lt in
        let part : take 4096 (drop (k * 4096) now.bytes.items) ≡ take 4096 (drop (k * 4096) old.bytes.items) =
        ap (λ (l : List ℕ). take 4096 (drop (k * 4096) l)) bytes ∙ window_kept k (length old.places.items) old.bytes.items window lt of.many in
        subst (λ (p : ℕ × List ℕ). IsPart file p.0 p.1) (λ i. (sym at i, sym part i)) (of.each k lt)
    one k (inr is) =
        let at : slice_index now.places.items k ≡ place =
        ap (λ (l : List ℕ). slice_index l k) places ∙ ap (λ j. slice_index (old.places.items ++ place ∷ []) j) is ∙ get_or-append_seam old.places.items place [] 0 in
        let part_is : take 4096 (drop (k * 4096) now.bytes.items) ≡ window =
        ap (λ (l : List ℕ). take 4096 (drop (k * 4096) l)) bytes ∙ ap (λ j. take 4096 (drop (j * 4096) (old.bytes.items ++ window))) is
        ∙ window_new (length old.places.items) old.bytes.items window of.many size in
        subst (λ (p : ℕ × List ℕ). IsPart file p.0 p.1) (λ i. (sym at i, sym part_is i)) part

-- none was read
pub none_read : (r : ReadWindows) (file : List ℕ) → length r.bytes.items ≡ 0 → length r.places.items ≡ 0 → AreOf r file
none_read r file bytes places = record { many = omega (arith, bytes, places); each = λ k lt. absurd (omega (arith, lt, places)) }
