-- The first of some texts that shows a change.
use Rattle.std.proofs.Common.{◌≡◌, ◌∙◌, ap, sym, refl, subst, ℕ, Bool, true, false, cond, List, [], ◌∷◌, ◌++◌, Option, Some, None, inl, inr, ◌⊎◌}
use Rattle.std.specs.Prelude.{Err, IfOk, Ok, Result, Vec, find}
use Rattle.std.specs.declared.alloc.Global.{Global}
use Rattle.hwdb_spec.specs.Forms.{HasOneOf}
use Rattle.hwdb_spec.specs.Patterns.{tokens}
use Rattle.hwdb_spec_commands.specs.FormTable.{asked}
use Rattle.hwdb_spec_commands.specs.FormTexts.{filled, text_among}
use Rattle.hwdb_spec_commands.specs.SampleRules.{RuleTexts}
use Rattle.hwdb_spec_commands.specs.SamplesFound.{is_long, plain_texts, shows, some_text, texts_to_try}
use Rattle.hwdb_forms.specs.Laws.{TextsFit}
use Rattle.hwdb_samples.specs.Laws.{SamplesFit, ShortestIsSample}
use Rattle.hwdb_samples.specs.Views.{device_in}

module _ (p : List ℕ → Bool) where
  pub found_head : (x : List ℕ) (xs : List (List ℕ)) (c : Bool) → p x ≡ c → find p (x ∷ xs) ≡ cond c (Some x) (find p xs)
  found_head x xs c e = ap (λ (d : Bool). cond d (Some x) (find p xs)) e

  -- what is found passes
  pub found_passes : (xs : List (List ℕ)) (x : List ℕ) → find p xs ≡ Some x → p x ≡ true
  found_passes [] x e = absurd (cc)
  found_passes (y ∷ xs) x e = by_first (p y) refl (λ h. found_passes xs x h)
    where
      by_first : (c : Bool) → p y ≡ c → (find p xs ≡ Some x → p x ≡ true) → p x ≡ true
      by_first true k more = let same : Some y ≡ Some x = sym (found_head y xs true k) ∙ e in let own : y ≡ x = cc in subst (λ (z : List ℕ). p z ≡ true) own k
      by_first false k more = more (sym (found_head y xs false k) ∙ e)

  -- in two lists, one after the other
  pub found_first : (xs ys : List (List ℕ)) (x : List ℕ) → find p xs ≡ Some x → Some x ≡ find p (xs ++ ys)
  found_first [] ys x e = absurd (cc)
  found_first (y ∷ xs) ys x e = by_first (p y) refl (λ h. found_first xs ys x h)
    where
      by_first : (c : Bool) → p y ≡ c → (find p xs ≡ Some x → Some x ≡ find p (xs ++ ys)) → Some x ≡ find p ((y ∷ xs) ++ ys)
      by_first true k more = sym (sym (found_head y xs true k) ∙ e) ∙ sym (found_head y (xs ++ ys) true k)
      by_first false k more = more (sym (found_head y xs false k) ∙ e) ∙ sym (found_head y (xs ++ ys) false k)

  pub found_second : (xs ys : List (List ℕ)) → find p xs ≡ None → find p ys ≡ find p (xs ++ ys)
  found_second [] ys e = refl
  found_second (y ∷ xs) ys e = by_first (p y) refl (λ h. found_second xs ys h)
    where
      by_first : (c : Bool) → p y ≡ c → (find p xs ≡ None → find p ys ≡ find p (xs ++ ys)) → find p ys ≡ find p ((y ∷ xs) ++ ys)
      by_first true k more = absurd (let clash : Some y ≡ None = sym (found_head y xs true k) ∙ e in cc)
      by_first false k more = more (sym (found_head y xs false k) ∙ e) ∙ sym (found_head y (xs ++ ys) false k)

  pub found_once : (x : List ℕ) → p x ≡ true → find p (x ∷ []) ≡ Some x
  found_once x e = found_head x [] true e

-- ---- samples that udev may ask
abbrev pub Fits : List ℕ → Type 0
Fits text = HasOneOf asked text

module _ (old new : List RuleTexts) (pattern : List ℕ) where
  abbrev Passes : List ℕ → Bool
  Passes text = shows old new pattern text

  abbrev Plain : List (List ℕ)
  Plain = plain_texts pattern

  abbrev Sampled : List (List ℕ) → Type 0
  Sampled texts = (device : List ℕ) × (find Passes texts ≡ Some device) × Fits device

  here : (t : TextsFit) (o : Option (List ℕ)) (text : List ℕ) (rest : List (List ℕ)) → ((x : List ℕ) → o ≡ Some x → Fits x) → o ≡ Some text → Passes text ≡ true → Sampled (some_text o ++ rest)
  here t o text rest f e s =
      subst (λ (x : Option (List ℕ)). Sampled (some_text x ++ rest)) (sym e) (text, sym (found_first Passes (text ∷ []) rest text (found_once Passes text s)), f text e)

  there : (o : Option (List ℕ)) (rest : List (List ℕ)) → ((x : List ℕ) → o ≡ Some x → Fits x) → Sampled rest → Sampled (some_text o ++ rest)
  there None rest f s = s
  there (Some x) rest f s = by_first (Passes x) refl
    where
      by_first : (c : Bool) → Passes x ≡ c → Sampled (x ∷ rest)
      by_first true k = (x, found_head Passes x rest true k, f x refl)
      by_first false k = (s.0, found_head Passes x rest false k ∙ s.1, s.2)

  abbrev Asked : List (List ℕ)
  Asked = some_text (text_among asked (tokens pattern)) ++ (some_text (text_among asked (filled (tokens pattern))) ++ Plain)

  -- the texts to try of a pattern that isn't long
  tried : is_long (tokens pattern) ≡ false → texts_to_try pattern ≡ Asked
  tried e = ap (λ (b : Bool). cond b Plain Asked) e

  pub fitting : TextsFit → (text : List ℕ) → (text_among asked (tokens pattern) ≡ Some text) ⊎ (text_among asked (filled (tokens pattern)) ≡ Some text) → Passes text ≡ true → Sampled Asked
  fitting t text (inl e) s =
      here t (text_among asked (tokens pattern)) text (some_text (text_among asked (filled (tokens pattern))) ++ Plain) (λ x k. (t asked (tokens pattern) x k).0) e s
  fitting t text (inr e) s =
      there (text_among asked (tokens pattern)) (some_text (text_among asked (filled (tokens pattern))) ++ Plain) (λ x k. (t asked (tokens pattern) x k).0)
      (here t (text_among asked (filled (tokens pattern))) text Plain (λ x k. (t asked (filled (tokens pattern)) x k).0) e s)

  pub fitted : is_long (tokens pattern) ≡ false → Sampled Asked → Sampled (texts_to_try pattern)
  fitted e s = subst Sampled (sym (tried e)) s

  pub first_found : is_long (tokens pattern) ≡ false → (text : List ℕ) → text_among asked (tokens pattern) ≡ Some text → Passes text ≡ true → find Passes (texts_to_try pattern) ≡ Some text
  first_found e text k s =
      ap (find Passes) (tried e) ∙ ap (λ (o : Option (List ℕ)). find Passes (some_text o ++ (some_text (text_among asked (filled (tokens pattern))) ++ Plain))) k
      ∙ found_head Passes text (some_text (text_among asked (filled (tokens pattern))) ++ Plain) true s

pub samples_fit : TextsFit → SamplesFit
samples_fit t old new pattern text short has s = fitted old new pattern short (fitting old new pattern t text has s)

pub shortest_is_sample : ShortestIsSample
shortest_is_sample old new pattern text short e s = first_found old new pattern short text e s

-- ---- answers that may be errors, or nothing
pub no_device : (o : Option (Vec ℕ Global)) → ((device : Vec ℕ Global) → o ≡ Some device → ⊥) → device_in o ≡ None
no_device None h = refl
no_device (Some device) h = absurd (h device refl)

pub ok_on : {A E : Type 0} (r : Result A E) (P Q : A → Type 0) → ((a : A) → P a → Q a) → IfOk r P → IfOk r Q
ok_on (Ok a) P Q f h = f a h
ok_on (Err e) P Q f h = tt
