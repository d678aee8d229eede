-- Values, seen from their ends and from a place in them.
use Rattle.std.proofs.Common.{◌≡◌, ℕ, zero, suc, ◌-◌, ◌+◌, ◌<◌, ◌≤◌, Bool, true, false, List, [], ◌∷◌, ◌++◌, take, drop, length, get_or, refl, ap, ◌∙◌, sym, arith, append_assoc, append-nil, not, cond, nat_lt}
use Rattle.std.proofs.lemmas.Bool.{lt-ltb}
use Rattle.std.proofs.lemmas.List.{take_more}
use Rattle.std.specs.Str.{IsUtf8}
use Rattle.std.proofs.lemmas.Str.{is_utf8-from_IsUtf8}
use Rattle.hwdb_spec.specs.Lines.{is_none}
use Rattle.hwdb_ruleevents.specs.Internal.{left_size}
use Rattle.hwdb_spec_commands.specs.Sysfs.{cut_back, is_left, is_unused, is_used, left_whole, put_for, replaced}
use Rattle.hwdb_spec.specs.Lemmas.Orders.{not_utf8}

module _ (test : ℕ → Bool) where
  -- one byte less
  cut_step : (xs : List ℕ) (b : ℕ) → test b ≡ true → cut_back test (xs ++ (b ∷ [])) ≡ cut_back test xs
  unfolding cut_back
  cut_step [] b e = rw e refl
  cut_step (x ∷ xs) b e = rw (cut_step xs b e) refl

  none_snoc : (xs : List ℕ) (b : ℕ) → is_none (xs ++ (b ∷ [])) ≡ false
  none_snoc [] b = refl
  none_snoc (x ∷ xs) b = refl

  cut_stop : (xs : List ℕ) (b : ℕ) → test b ≡ false → cut_back test (xs ++ (b ∷ [])) ≡ xs ++ (b ∷ [])
  unfolding cut_back
  cut_stop [] b e = rw e refl
  cut_stop (x ∷ xs) b e = rw (cut_stop xs b e) (rw (none_snoc xs b) refl)

  pub cut_more : (text : List ℕ) (e : ℕ) → 0 < e → e ≤ length text → test (get_or text (e - 1) 0) ≡ true → cut_back test (take (e - 1) text) ≡ cut_back test (take e text)
  cut_more text e h l b =
      sym (cut_step (take (e - 1) text) (get_or text (e - 1) 0) b)
      ∙ ap (cut_back test) (sym (take_more text (e - 1) 0 (omega arith)))
      ∙ ap (λ (k : ℕ). cut_back test (take k text)) (omega arith)

  pub cut_here : (text : List ℕ) (e : ℕ) → 0 < e → e ≤ length text → test (get_or text (e - 1) 0) ≡ false → cut_back test (take e text) ≡ take e text
  cut_here text e h l b =
      let k : e ≡ e - 1 + 1 = omega arith in
      let t : take e text ≡ take (e - 1) text ++ get_or text (e - 1) 0 ∷ [] = ap (λ (k : ℕ). take k text) k ∙ take_more text (e - 1) 0 (omega arith) in
      ap (cut_back test) t ∙ cut_stop (take (e - 1) text) (get_or text (e - 1) 0) b ∙ sym t

  pub cut_none : (text : List ℕ) → cut_back test (take 0 text) ≡ take 0 text
  unfolding cut_back
  cut_none [] = refl
  cut_none (x ∷ text) = refl

-- the bytes of a character, and what comes after them
replaced_skip : (n : ℕ) (rest : List ℕ) → replaced n rest ≡ take n rest ++ replaced 0 (drop n rest)
unfolding replaced
replaced_skip zero [] = refl
replaced_skip zero (b ∷ rest) = refl
replaced_skip (suc n) [] = refl
replaced_skip (suc n) (b ∷ rest) = ap (λ (l : List ℕ). b ∷ l) (replaced_skip n rest)

keep_size : (k b : ℕ) (rest : List ℕ) → 0 < k → cond (nat_lt 0 k) (b ∷ replaced (k - 1) rest) (put_for b ∷ replaced 0 rest) ≡ take k (b ∷ rest) ++ replaced 0 (drop k (b ∷ rest))
keep_size zero b rest h = absurd (omega arith)
keep_size (suc k) b rest h =
    let e : suc k - 1 ≡ k = omega arith in
    let f : b ∷ replaced (suc k - 1) rest ≡ b ∷ replaced k rest = ap (λ (m : ℕ). b ∷ replaced m rest) e in
    let g : b ∷ replaced k rest ≡ b ∷ (take k rest ++ replaced 0 (drop k rest)) = ap (λ (l : List ℕ). b ∷ l) (replaced_skip k rest) in
    ap (λ (c : Bool). cond c (b ∷ replaced (suc k - 1) rest) (put_for b ∷ replaced 0 rest)) (lt-ltb 0 (suc k) (omega arith)) ∙ f ∙ g

kept_by : (left : Bool) (k b : ℕ) (rest : List ℕ) → 0 < cond left 1 k
    → cond left (b ∷ replaced 0 rest) (cond (nat_lt 0 k) (b ∷ replaced (k - 1) rest) (put_for b ∷ replaced 0 rest)) ≡ take (cond left 1 k) (b ∷ rest) ++ replaced 0 (drop (cond left 1 k) (b ∷ rest))
kept_by true k b rest h = refl
kept_by false k b rest h = keep_size k b rest h

pub kept_some : (b : ℕ) (rest : List ℕ) → 0 < left_size b rest → replaced 0 (b ∷ rest) ≡ take (left_size b rest) (b ∷ rest) ++ replaced 0 (drop (left_size b rest) (b ∷ rest))
unfolding replaced
kept_some b rest h = kept_by (is_left b) (left_whole b rest) b rest h

put_by : (left : Bool) (k b : ℕ) (rest : List ℕ) → cond left 1 k ≡ 0
    → cond left (b ∷ replaced 0 rest) (cond (nat_lt 0 k) (b ∷ replaced (k - 1) rest) (put_for b ∷ replaced 0 rest)) ≡ put_for b ∷ replaced 0 rest
put_by true k b rest h = absurd (omega arith)
put_by false zero b rest h = refl
put_by false (suc k) b rest h = absurd (omega arith)

pub kept_none : (b : ℕ) (rest : List ℕ) → left_size b rest ≡ 0 → replaced 0 (b ∷ rest) ≡ put_for b ∷ replaced 0 rest
unfolding replaced
kept_none b rest h = put_by (is_left b) (left_whole b rest) b rest h

pub no_bytes : (text : List ℕ) → length text ≡ 0 → replaced 0 text ≡ []
unfolding replaced
no_bytes [] h = refl
no_bytes (b ∷ text) h = absurd (omega arith)

pub used_utf8 : (text : List ℕ) → IsUtf8 text → not (is_unused text) ≡ is_used text
used_utf8 text utf8 = sym (ap (λ (c : Bool). cond c (not (is_unused text)) false) (is_utf8-from_IsUtf8 text utf8))

pub used_none : (text : List ℕ) → (IsUtf8 text → ⊥) → false ≡ is_used text
used_none text none = sym (ap (λ (c : Bool). cond c (not (is_unused text)) false) (not_utf8 text none))

-- a text that was written up to a place, and one more byte or character: `d` was written, `all` is left
pub one_step : (old t d all whole : List ℕ) (b : ℕ) → t ≡ old ++ b ∷ [] → all ≡ b ∷ d → old ++ all ≡ whole → t ++ d ≡ whole
one_step old t d all whole b e f g = ap (λ (l : List ℕ). l ++ d) e ∙ append_assoc old (b ∷ []) d ∙ ap (λ (l : List ℕ). old ++ l) (sym f) ∙ g

pub many_step : (old t p d all whole : List ℕ) → t ≡ old ++ p → all ≡ p ++ d → old ++ all ≡ whole → t ++ d ≡ whole
many_step old t p d all whole e f g = ap (λ (l : List ℕ). l ++ d) e ∙ append_assoc old p d ∙ ap (λ (l : List ℕ). old ++ l) (sym f) ∙ g

pub kept_step : (left : List ℕ) (size : ℕ) (p d : List ℕ) → 0 < length left → size ≡ left_size (get_or left 0 0) (drop 1 left) → 0 < size → p ≡ take size left → d ≡ drop size left
    → replaced 0 left ≡ p ++ replaced 0 d
kept_step [] size p d h s g e f = absurd (omega arith)
kept_step (b ∷ more) size p d h s g e f =
    kept_some b more (omega (arith, s, g))
    ∙ ap (λ (n : ℕ). take n (b ∷ more) ++ replaced 0 (drop n (b ∷ more))) (sym s)
    ∙ ap (λ (x : List ℕ). x ++ replaced 0 (drop size (b ∷ more))) (sym e)
    ∙ ap (λ (x : List ℕ). p ++ replaced 0 x) (sym f)

pub put_step : (left : List ℕ) (size b : ℕ) (more : List ℕ) → left ≡ b ∷ more → size ≡ left_size (get_or left 0 0) (drop 1 left) → size ≡ 0 → replaced 0 left ≡ put_for b ∷ replaced 0 more
put_step left size b more e s z =
    ap (replaced 0) e ∙ kept_none b more (ap (λ (l : List ℕ). left_size (get_or l 0 0) (drop 1 l)) (sym e) ∙ sym s ∙ z)

pub written_end : (text left whole : List ℕ) → length left ≡ 0 → text ++ replaced 0 left ≡ whole → text ≡ whole
written_end text left whole h e = sym (append-nil text) ∙ ap (λ (r : List ℕ). text ++ r) (sym (no_bytes left h)) ∙ e
