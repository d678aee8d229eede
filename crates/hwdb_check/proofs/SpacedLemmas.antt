-- A property, seen from the place of its first `=`.
use Rattle.std.proofs.Common.{◌≡◌, ℕ, zero, suc, ◌-◌, ◌+◌, ◌≤◌, Bool, true, false, not, List, [], ◌∷◌, take, drop, length, refl, ap, ◌∙◌, sym, cond, arith}
use Rattle.std.proofs.lemmas.List.{take_rest}
use Rattle.std.specs.List.{list_any, position_or_len}
use Rattle.hwdb_spec.specs.Lines.{Line, has, has_equals, has_key, is, is_indent, is_none, is_property, key, property, value}
use Rattle.std.specs.Prelude.{Option, None}
use Rattle.hwdb_spec_commands.specs.Properties.{misuse}
use Rattle.hwdb_spec_commands.specs.Warnings.{is_spaced, misused, warns}
use Rattle.hwdb_spec_commands.specs.declared.vocabulary.Misuse.{Misuse}
use Rattle.hwdb_check.specs.Internal.{line_of}
use Rattle.hwdb_spec_commands.specs.declared.WarningKind.TheVariants.{SpacedEquals}
use Rattle.hwdb_text.specs.Lemmas.Bytes.{has_none, has_some}

some_key : (n : ℕ) (text : List ℕ) → (n ≡ 0 → ⊥) → n ≤ length text → not (is_none (take n text)) ≡ true
some_key zero text n h = absurd (n refl)
some_key (suc k) [] n h = absurd (omega arith)
some_key (suc k) (x ∷ xs) n h = refl

no_key : (text : List ℕ) → not (is_none (take 0 text)) ≡ false
no_key [] = refl
no_key (x ∷ xs) = refl

outer : (p h k s : Bool) → h ≡ false → false ≡ cond p (cond h (cond k s false) false) false
outer true h k s e = rw e refl
outer false h k s e = refl

middle : (p h k s : Bool) → k ≡ false → false ≡ cond p (cond h (cond k s false) false) false
middle true true k s e = rw e refl
middle true false k s e = refl
middle false h k s e = refl

inner : (p h k s : Bool) → p ≡ true → h ≡ true → k ≡ true → s ≡ cond p (cond h (cond k s false) false) false
inner p h k s e f g = rw e (rw f (rw g refl))

-- the same of what is said of a property that doesn't fit
no_equals : (p h k s : Bool) (m : Option Misuse) → h ≡ false → None ≡ cond p (cond h (cond k (cond s None m) None) None) None
no_equals true h k s m e = rw e refl
no_equals false h k s m e = refl

keyless : (p h k s : Bool) (m : Option Misuse) → k ≡ false → None ≡ cond p (cond h (cond k (cond s None m) None) None) None
keyless true true k s m e = rw e refl
keyless true false k s m e = refl
keyless false h k s m e = refl

blank : (p h k s : Bool) (m : Option Misuse) → s ≡ true → None ≡ cond p (cond h (cond k (cond s None m) None) None) None
blank true true true s m e = rw e refl
blank true true false s m e = refl
blank true false k s m e = refl
blank false h k s m e = refl

fit : (p h k s : Bool) (m : Option Misuse) → p ≡ true → h ≡ true → k ≡ true → s ≡ false → m ≡ cond p (cond h (cond k (cond s None m) None) None) None
fit p h k s m e f g i = rw e (rw f (rw g (rw i refl)))

-- the first `=` of a property comes after so many bytes
module _ (l : Line) (body : List ℕ) (equals : ℕ) (b : body ≡ property l) (e : equals ≡ position_or_len (is 61) body) where
  before : take equals body ≡ key l
  before = ap (λ (k : ℕ). take k body) e ∙ ap (λ (t : List ℕ). take (position_or_len (is 61) t) t) b

  behind : drop (equals + 1) body ≡ value l
  behind = ap (λ (k : ℕ). drop (k + 1) body) e ∙ ap (λ (t : List ℕ). drop (position_or_len (is 61) t + 1) t) b

  pub without_equals : equals ≡ length body → false ≡ warns [] SpacedEquals (line_of 0 []) l
  without_equals f = outer (is_property l) (has_equals l) (has_key l) (is_spaced l) (ap (has 61) (sym b) ∙ has_none 61 body (sym e ∙ f))

  pub without_key : equals ≡ 0 → false ≡ warns [] SpacedEquals (line_of 0 []) l
  without_key f =
      middle (is_property l) (has_equals l) (has_key l) (is_spaced l)
      (ap (λ (k : List ℕ). not (is_none k)) (sym before) ∙ ap (λ (n : ℕ). not (is_none (take n body))) f ∙ no_key body)

  pub with_key : (r : Bool) (text rest : List ℕ) → is_property l ≡ true → (equals ≡ length body → ⊥) → (equals ≡ 0 → ⊥) → equals ≤ length body
      → text ≡ take equals body → rest ≡ take (length body - (equals + 1)) (drop (equals + 1) body)
      → r ≡ cond (list_any is_indent (drop (length text - 1) text)) true (list_any is_indent (take 1 rest)) → r ≡ warns [] SpacedEquals (line_of 0 []) l
  with_key r text rest p n z h t u is_r =
      is_r
      ∙ ap (λ (k : List ℕ). cond (list_any is_indent (drop (length k - 1) k)) true (list_any is_indent (take 1 rest))) (t ∙ before)
      ∙ ap (λ (v : List ℕ). cond (list_any is_indent (drop (length (key l) - 1) (key l))) true (list_any is_indent (take 1 v))) (u ∙ take_rest body (equals + 1) ∙ behind)
      ∙ inner (is_property l) (has_equals l) (has_key l) (is_spaced l) p (ap (has 61) (sym b) ∙ has_some 61 body (λ q. n (e ∙ q)))
      (ap (λ (k : List ℕ). not (is_none k)) (sym before) ∙ some_key equals body z h)

  pub misused_without_equals : equals ≡ length body → None ≡ misused l
  misused_without_equals f = no_equals (is_property l) (has_equals l) (has_key l) (is_spaced l) _ (ap (has 61) (sym b) ∙ has_none 61 body (sym e ∙ f))

  pub misused_without_key : equals ≡ 0 → None ≡ misused l
  misused_without_key f =
      keyless (is_property l) (has_equals l) (has_key l) (is_spaced l) _
      (ap (λ (k : List ℕ). not (is_none k)) (sym before) ∙ ap (λ (n : ℕ). not (is_none (take n body))) f ∙ no_key body)

  spaced_is : (text rest : List ℕ) → text ≡ take equals body → rest ≡ take (length body - (equals + 1)) (drop (equals + 1) body)
      → cond (list_any is_indent (drop (length text - 1) text)) true (list_any is_indent (take 1 rest)) ≡ is_spaced l
  spaced_is text rest t u =
      ap (λ (k : List ℕ). cond (list_any is_indent (drop (length k - 1) k)) true (list_any is_indent (take 1 rest))) (t ∙ before)
      ∙ ap (λ (v : List ℕ). cond (list_any is_indent (drop (length (key l) - 1) (key l))) true (list_any is_indent (take 1 v))) (u ∙ take_rest body (equals + 1) ∙ behind)

  pub misused_spaced : (r : Bool) (text rest : List ℕ) → text ≡ take equals body → rest ≡ take (length body - (equals + 1)) (drop (equals + 1) body)
      → r ≡ cond (list_any is_indent (drop (length text - 1) text)) true (list_any is_indent (take 1 rest)) → r ≡ true → None ≡ misused l
  misused_spaced r text rest t u is_r spaced = blank (is_property l) (has_equals l) (has_key l) (is_spaced l) _ (sym (is_r ∙ spaced_is text rest t u) ∙ spaced)

  pub misused_with_key : (r : Bool) (text rest : List ℕ) (m : Option Misuse) → is_property l ≡ true → (equals ≡ length body → ⊥) → (equals ≡ 0 → ⊥) → equals ≤ length body
      → text ≡ take equals body → rest ≡ take (length body - (equals + 1)) (drop (equals + 1) body)
      → r ≡ cond (list_any is_indent (drop (length text - 1) text)) true (list_any is_indent (take 1 rest)) → r ≡ false → m ≡ misuse text rest → m ≡ misused l
  misused_with_key r text rest m p n z h t u is_r spaced is_m =
      is_m
      ∙ ap (λ (k : List ℕ). misuse k rest) (t ∙ before)
      ∙ ap (misuse (key l)) (u ∙ take_rest body (equals + 1) ∙ behind)
      ∙ fit (is_property l) (has_equals l) (has_key l) (is_spaced l) _ p (ap (has 61) (sym b) ∙ has_some 61 body (λ q. n (e ∙ q)))
      (ap (λ (k : List ℕ). not (is_none k)) (sym before) ∙ some_key equals body z h) (sym (is_r ∙ spaced_is text rest t u) ∙ spaced)
