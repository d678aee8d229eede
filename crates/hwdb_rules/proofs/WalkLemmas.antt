-- The strings of a walk, one parent after another.
use Rattle.std.proofs.Common.{◌≡◌, ℕ, suc, ◌+◌, Bool, true, false, Option, None, Some, List, [], ◌∷◌, ◌++◌, drop, length, map, refl, ap, ◌∙◌, sym, arith, append_assoc, append-nil, option_map}
use Rattle.std.specs.Prelude.{if◌then◌else◌}
use Rattle.hwdb_spec_commands.specs.Lookups.{Question, is_walked, string_of, strings_from}
use Rattle.hwdb_spec_commands.specs.Sysfs.{Ancestor, is_usb_device}
use Rattle.hwdb_rules.specs.Internal.{one_question}

pub no_strings : (subsystem prefix : List ℕ) (place : ℕ) (is_last : Bool) {A : Type 0} (f : A → Ancestor) (list : List A) → length list ≡ 0
    → strings_from subsystem prefix place is_last (map f list) ≡ []
unfolding strings_from
no_strings subsystem prefix place is_last f [] h = refl
no_strings subsystem prefix place is_last f (x ∷ list) h = absurd (omega arith)

-- a device without parents has no strings of theirs
pub no_parents : (subsystem prefix : List ℕ) (place : ℕ) (is_last : Bool) {A : Type 0} (f : A → Ancestor) (list : List A) (old : List Question) → length list ≡ 0
    → old ≡ old ++ strings_from subsystem prefix place is_last (drop 1 (map f list))
unfolding strings_from
no_parents subsystem prefix place is_last f [] old h = sym (append-nil old)
no_parents subsystem prefix place is_last f (x ∷ list) old h = absurd (omega arith)

module _ (subsystem prefix : List ℕ) (place : ℕ) (is_last : Bool) (a : Ancestor) (more : List Ancestor) where
  pub passed_by : is_walked subsystem a ≡ false → strings_from subsystem prefix place is_last (a ∷ more) ≡ strings_from subsystem prefix (suc place) is_last more
  unfolding strings_from
  passed_by w = rw w refl

  pub without_string : is_walked subsystem a ≡ true → string_of a ≡ None
      → strings_from subsystem prefix place is_last (a ∷ more) ≡ strings_from subsystem prefix (suc place) (if is_last then true else is_usb_device a) more
  unfolding strings_from
  without_string w n = rw w (rw n refl)

  pub last_string : (text : List ℕ) → is_walked subsystem a ≡ true → string_of a ≡ Some text → (if is_last then true else is_usb_device a) ≡ true
      → strings_from subsystem prefix place is_last (a ∷ more) ≡ record { parent = place; text = prefix ++ text } ∷ []
  unfolding strings_from
  last_string text w n l = rw w (rw n (rw l refl))

  pub one_string : (text : List ℕ) → is_walked subsystem a ≡ true → string_of a ≡ Some text → (if is_last then true else is_usb_device a) ≡ false
      → strings_from subsystem prefix place is_last (a ∷ more) ≡ record { parent = place; text = prefix ++ text } ∷ strings_from subsystem prefix (suc place) false more
  unfolding strings_from
  one_string text w n l = rw w (rw n (rw l refl))

-- what is made of a text that is there
pub some_text : {V : Type 0} (o : Option V) (v : V) (view : V → List ℕ) (s : Option (List ℕ)) → o ≡ Some v → option_map view o ≡ s → s ≡ Some (view v)
some_text o v view s e f = sym (ap (option_map view) (sym e) ∙ f)

-- one string more, and those of the parents above
pub one_more : (subsystem prefix : List ℕ) (place : ℕ) (is_last last : Bool) (a : Ancestor) (chain more : List Ancestor) (text joined : List ℕ) (old mid new : List Question)
    → chain ≡ a ∷ more → is_walked subsystem a ≡ true → string_of a ≡ Some text → last ≡ (if is_last then true else is_usb_device a) → last ≡ false
    → joined ≡ prefix ++ text → mid ≡ old ++ one_question place joined → new ≡ mid ++ strings_from subsystem prefix (place + 1) last more
    → new ≡ old ++ strings_from subsystem prefix place is_last chain
one_more subsystem prefix place is_last last a chain more text joined old mid new c w n l f j m r =
    let next : place + 1 ≡ suc place = omega arith in
    let whole : one_question place joined ++ strings_from subsystem prefix (place + 1) last more ≡ strings_from subsystem prefix place is_last chain =
    ap (λ (t : List ℕ). one_question place t ++ strings_from subsystem prefix (place + 1) last more) j
    ∙ ap (λ (k : ℕ). one_question place (prefix ++ text) ++ strings_from subsystem prefix k last more) next
    ∙ ap (λ (b : Bool). one_question place (prefix ++ text) ++ strings_from subsystem prefix (suc place) b more) f
    ∙ sym (one_string subsystem prefix place is_last a more text w n (sym l ∙ f))
    ∙ ap (strings_from subsystem prefix place is_last) (sym c) in
    r ∙ ap (λ (q : List Question). q ++ strings_from subsystem prefix (place + 1) last more) m
    ∙ append_assoc old (one_question place joined) (strings_from subsystem prefix (place + 1) last more)
    ∙ ap (λ (q : List Question). old ++ q) whole

pub walk_end : (subsystem prefix : List ℕ) (place : ℕ) (is_last : Bool) {A : Type 0} (f : A → Ancestor) (list : List A) (old : List Question) → length list ≡ 0
    → old ≡ old ++ strings_from subsystem prefix place is_last (map f list)
walk_end subsystem prefix place is_last f list old h =
    sym (append-nil old) ∙ ap (λ (q : List Question). old ++ q) (sym (no_strings subsystem prefix place is_last f list h))
