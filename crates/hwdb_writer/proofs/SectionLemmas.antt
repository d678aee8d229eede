-- The section of strings that are in order, each once.
use Rattle.std.proofs.Common.{◌≡◌, ◌≤◌, ◌<◌, ℕ, zero, suc, ◌+◌, List, [], ◌∷◌, ◌++◌, length, get_or, drop, cond, Bool, true, false, refl, sym, ◌∙◌, ap, arith, append_assoc, nat_eq}
use Rattle.std.specs.List.{dedup_from}
use Rattle.std.specs.Cmp.Lexicographic.{pointwise, nat_list_eq_equiv}
use Rattle.std.proofs.lemmas.List.{get_or_default}
use Rattle.hwdb_spec.specs.Written.{section_of, ended}
use Rattle.hwdb_writer.specs.Internal.Numbered.{distinct, left_after, IsNew, IsOld, IsSectioned}
use Rattle.hwdb_writer.proofs.EmissionLemmas.{append-[], one_left, none_left}
use Rattle.hwdb_writer.proofs.PlaceLemmas.{nothing, text_in}

abbrev same : List ℕ → List ℕ → Bool
same = pointwise nat_eq

abbrev L : List (List ℕ) → List (List ℕ)
L ts = ts

kept_first : (k : List ℕ) (ts : List (List ℕ)) → dedup_from same k ts ≡ k ∷ left_after k ts
unfolding left_after
kept_first k [] = refl
kept_first k (t ∷ ts) = by (same t k) (kept_first k ts) (kept_first t ts)
  where
    by : (b : Bool) → dedup_from same k ts ≡ k ∷ left_after k ts → dedup_from same t ts ≡ t ∷ left_after t ts → cond b (dedup_from same k ts) (k ∷ dedup_from same t ts) ≡ k ∷ cond b (left_after k ts) (t ∷ left_after t ts)
    by true e f = e
    by false e f = ap (λ l. k ∷ l) f

after_new : (k t : List ℕ) (ts : List (List ℕ)) → same t k ≡ false → left_after k (t ∷ ts) ≡ t ∷ left_after t ts
unfolding left_after
after_new k t ts f = ap (λ b. cond b (left_after k ts) (t ∷ left_after t ts)) f

after_old : (k t : List ℕ) (ts : List (List ℕ)) → t ≡ k → left_after k (t ∷ ts) ≡ left_after t ts
unfolding left_after
after_old k t ts e = ap (λ b. cond b (left_after k ts) (t ∷ left_after t ts)) (ap (λ s. same s k) e ∙ nat_list_eq_equiv.refl k) ∙ ap (λ s. left_after s ts) (sym e)

after_none : (k : List ℕ) → left_after k [] ≡ []
unfolding left_after
after_none k = refl

-- the rest from i on begins with its string
rest_is : (ts : List (List ℕ)) (i : ℕ) → i < length ts → drop i ts ≡ text_in ts i ∷ drop (i + 1) ts
rest_is ts i lt = one_left L (λ t. t ∷ []) (λ t us. refl) ts i (text_in ts i) (sym (get_or_default ts i (text_in ts i) nothing lt)) lt

pub none_sectioned : (old : List ℕ) (ts : List (List ℕ)) → IsSectioned old ts 0 old
none_sectioned old ts = record { begun = λ e. refl; gone_on = λ k e. absurd (omega (arith, e)) }

pub new_sectioned : (old : List ℕ) (ts : List (List ℕ)) (i : ℕ) (now next : List ℕ) → i < length ts → IsNew ts i → next ≡ now ++ ended (text_in ts i) → IsSectioned old ts i now → IsSectioned old ts (i + 1) next
new_sectioned old ts zero now next lt new e h = record {
  begun = λ f. absurd (omega (arith, f));
  gone_on = λ k f. let z : 0 ≡ k = omega (arith, f) in
      ap (λ n. next ++ section_of (left_after (get_or ts n []) (drop 1 ts))) (sym z) ∙ first ts lt next (e ∙ ap (λ l. l ++ ended (text_in ts 0)) (h.begun refl));
}
  where
    first : (us : List (List ℕ)) → 0 < length us → (l : List ℕ) → l ≡ old ++ ended (text_in us 0) → l ++ section_of (left_after (text_in us 0) (drop 1 us)) ≡ old ++ section_of (distinct us)
    first [] below l f = absurd (omega (arith, below))
    first (u ∷ us) below l f =
        ap (λ m. m ++ section_of (left_after u us)) f ∙ append_assoc old (ended u) (section_of (left_after u us)) ∙ ap (λ r. old ++ section_of r) (sym (kept_first u us))
new_sectioned old ts (suc j) now next lt new e h = record {
  begun = λ f. absurd (omega (arith, f));
  gone_on = λ k f. let z : suc j ≡ k = omega (arith, f) in
      ap (λ n. next ++ section_of (left_after (get_or ts n []) (drop (suc j + 1) ts))) (sym z)
      ∙ ap (λ l. l ++ section_of (left_after t rest)) e ∙ append_assoc now (ended t) (section_of (left_after t rest))
      ∙ ap (λ r. now ++ section_of r) (sym (after_new (text_in ts j) t rest (new j (omega arith))) ∙ ap (λ r. left_after (text_in ts j) r) (sym (rest_is ts (suc j) lt)))
      ∙ h.gone_on j (omega arith);
}
  where
    t : List ℕ
    t = text_in ts (suc j)

    rest : List (List ℕ)
    rest = drop (suc j + 1) ts

pub old_sectioned : (old : List ℕ) (ts : List (List ℕ)) (i : ℕ) (now : List ℕ) → i < length ts → IsOld ts i → IsSectioned old ts i now → IsSectioned old ts (i + 1) now
old_sectioned old ts i now lt o h =
    let b = o.before in
    record {
      begun = λ f. absurd (omega (arith, f));
      gone_on = λ k f. let z : i ≡ k = omega (arith, f) in
          ap (λ n. now ++ section_of (left_after (get_or ts n []) (drop (i + 1) ts))) (sym z)
          ∙ ap (λ r. now ++ section_of r) (sym (after_old (text_in ts b) (text_in ts i) (drop (i + 1) ts) o.same) ∙ ap (λ r. left_after (text_in ts b) r) (sym (rest_is ts i lt)))
          ∙ h.gone_on b o.is;
    }

pub all_sectioned : (old : List ℕ) (ts : List (List ℕ)) (i : ℕ) (now : List ℕ) → i ≤ length ts → length ts ≤ i → IsSectioned old ts i now → now ≡ old ++ section_of (distinct ts)
all_sectioned old [] zero now within end h = h.begun refl ∙ sym (append-[] old)
all_sectioned old (t ∷ ts) zero now within end h = absurd (omega (arith, end))
all_sectioned old ts (suc j) now within end h =
    sym (append-[] now)
    ∙ ap (λ r. now ++ section_of r) (sym (ap (λ r. left_after (text_in ts j) r) (none_left L refl ts (suc j) end) ∙ after_none (text_in ts j)))
    ∙ h.gone_on j (omega arith)
