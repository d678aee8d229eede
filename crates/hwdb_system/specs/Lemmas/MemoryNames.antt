-- The names that a store in memory tells of a folder are those of the files in it.
use Rattle.std.proofs.Common.{arith, ◌≡◌, ◌∙◌, ◌⊎◌, ◌||◌, ◌+◌, inl, inr, ap, sym, refl, subst, bytes_eq, true, false, length, List, ℕ, [], ◌∷◌, ◌++◌, Option, Some, None, if◌then◌else◌, All, Bool}
use Rattle.std.specs.Prelude.{is_some, option_and_then, option_map, option_to_list, not, drop, filter_map, Contains}
use Rattle.std.specs.List.{cons_option}
use Rattle.std.proofs.lemmas.List.Elements.{All-append, All-push, All-weaker, Contains-append_left, Contains-append_right, Contains-push}
use Rattle.std.proofs.lemmas.Slice.Eq.{bytes_eq-Decides}
use Rattle.std.proofs.Math.Seq.{drop-append-add}
use Rattle.hwdb_spec.specs.Lines.{has}
use Rattle.hwdb_spec.specs.Store.{path_in, Stored}
use Rattle.hwdb_spec_commands.specs.Ignored.{AreIgnoredIn, IsIgnoredIn}
use Rattle.hwdb_spec.specs.System.{AreNamesIn, IsNameIn}
use Rattle.hwdb_spec.specs.Crashes.{Traces, begin, changed}
use Rattle.hwdb_replace.specs.Memory.{state_of, after, seen_of, stored}
use Rattle.hwdb_replace.specs.declared.memory.Step.{Step}
use Rattle.hwdb_replace.specs.declared.memory.Step.TheVariants.{Changed, Synced, Moved, Removed, Kept}
use Rattle.hwdb_system.specs.Internal.{IsMade, IsToldIn, bytes_after, is_told, is_told_file, made_by, name_in, names_after, step_name}

-- a step that leaves something under a path put it there, or it stood there before
by_step : (p : List ℕ) (s : Traces) (x : Step) → is_some (after p s x).now ≡ true → (is_some s.now ≡ true) ⊎ (made_by x ≡ Some p)
by_step p s (Changed path file) =
    elim (bytes_eq p path.items) as (λ b. bytes_eq p path.items ≡ b → is_some (if b then changed (Some (stored file)) true s else s).now ≡ true → (is_some s.now ≡ true) ⊎ (made_by (Changed path file) ≡ Some p)) [
      | true ↦ λ e h. inr (ap Some (sym ((bytes_eq-Decides p path.items).0 e)))
      | false ↦ λ e h. inl h
    ] refl
by_step p s (Synced path) =
    elim (bytes_eq p path.items) as (λ b. is_some (if b then record { now = s.now; loose = false; before = s.before; torn = s.torn } else s).now ≡ true → (is_some s.now ≡ true) ⊎ (made_by (Synced path) ≡ Some p)) [
      | true ↦ λ h. inl h
      | false ↦ λ h. inl h
    ]
by_step p s (Moved from to file loose) =
    elim (bytes_eq p to.items) as (λ b. bytes_eq p to.items ≡ b → is_some (if b then changed (Some (stored file)) loose s else (if bytes_eq p from.items then changed None false s else s)).now ≡ true
    → (is_some s.now ≡ true) ⊎ (made_by (Moved from to file loose) ≡ Some p)) [
      | true ↦ λ e h. inr (ap Some (sym ((bytes_eq-Decides p to.items).0 e)))
      | false ↦ λ e. elim (bytes_eq p from.items) as (λ b. is_some (if b then changed None false s else s).now ≡ true → (is_some s.now ≡ true) ⊎ (made_by (Moved from to file loose) ≡ Some p)) [
        | true ↦ λ h. absurd (cc)
        | false ↦ λ h. inl h
      ]
    ] refl
by_step p s (Removed path) =
    elim (bytes_eq p path.items) as (λ b. is_some (if b then changed None false s else s).now ≡ true → (is_some s.now ≡ true) ⊎ (made_by (Removed path) ≡ Some p)) [
      | true ↦ λ h. absurd (cc)
      | false ↦ λ h. inl h
    ]
by_step p s Kept = λ h. inl h

by_steps : (p : List ℕ) (s : Traces) (xs : List Step) → is_some (state_of p s xs).now ≡ true → (is_some s.now ≡ true) ⊎ IsMade xs p
by_steps p s [] h = inl h
by_steps p s (x ∷ xs) h = or_here (by_steps p (after p s x) xs h)
  where
    or_earlier : (is_some s.now ≡ true) ⊎ (made_by x ≡ Some p) → (is_some s.now ≡ true) ⊎ IsMade (x ∷ xs) p
    or_earlier (inl h) = inl h
    or_earlier (inr h) = inr (inl h)

    or_here : (is_some (after p s x).now ≡ true) ⊎ IsMade xs p → (is_some s.now ≡ true) ⊎ IsMade (x ∷ xs) p
    or_here (inl h) = or_earlier (by_step p s x h)
    or_here (inr h) = inr (inr h)

-- what is under a path was put there
pub is_made : (xs : List Step) (p : List ℕ) → is_some (bytes_after xs p) ≡ true → IsMade xs p
is_made xs p h = only (by_steps p begin xs (stands (seen_of xs p) h))
  where
    stands : (o : Option Stored) → is_some (option_map (λ (f : Stored). f.bytes) o) ≡ true → is_some o ≡ true
    stands None e = e
    stands (Some f) e = refl

    only : (is_some begin.now ≡ true) ⊎ IsMade xs p → IsMade xs p
    only (inl h) = absurd (cc)
    only (inr h) = h

-- ---- the name in a folder
-- what is in a folder has the name that comes after it and a slash
pub named_in : (folder path name : List ℕ) → path ≡ path_in folder name → name_in folder path ≡ Some name
named_in folder path name at = go (bytes_eq path (path_in folder (drop (length folder + 1) path))) refl
  where
    same : drop (length folder + 1) path ≡ name
    same = ap (drop (length folder + 1)) at ∙ drop-append-add folder (47 ∷ name) 1

    go : (b : Bool) → bytes_eq path (path_in folder (drop (length folder + 1) path)) ≡ b → (if b then Some (drop (length folder + 1) path) else None) ≡ Some name
    go true e = ap Some same
    go false e = absurd (not_false (sym ((bytes_eq-Decides path (path_in folder (drop (length folder + 1) path))).1 (at ∙ ap (path_in folder) (sym same))) ∙ e))
      where
        not_false : true ≡ false → ⊥
        not_false h = cc

-- and what has a name is in it
pub is_named_in : (folder path name : List ℕ) → name_in folder path ≡ Some name → path ≡ path_in folder name
is_named_in folder path name is = go (bytes_eq path (path_in folder (drop (length folder + 1) path))) refl is
  where
    go : (b : Bool) → bytes_eq path (path_in folder (drop (length folder + 1) path)) ≡ b → (if b then Some (drop (length folder + 1) path) else None) ≡ Some name → path ≡ path_in folder name
    go true e h =
        let same : drop (length folder + 1) path ≡ name = cc in
        (bytes_eq-Decides path (path_in folder (drop (length folder + 1) path))).0 e ∙ ap (path_in folder) same
    go false e h = absurd (cc)

-- what is in none has no name
pub none_named_in : (folder path : List ℕ) → ((name : List ℕ) → path ≡ path_in folder name → ⊥) → None ≡ name_in folder path
none_named_in folder path none = go (bytes_eq path (path_in folder (drop (length folder + 1) path))) refl
  where
    go : (b : Bool) → bytes_eq path (path_in folder (drop (length folder + 1) path)) ≡ b → None ≡ (if b then Some (drop (length folder + 1) path) else None)
    go true e = absurd (none (drop (length folder + 1) path) ((bytes_eq-Decides path (path_in folder (drop (length folder + 1) path))).0 e))
    go false e = refl

-- ---- the names of all steps
module _ (ignored : Bool) (steps : List Step) (folder : List ℕ) where
  told_in : (name path : List ℕ) → path ≡ path_in folder name → is_told_file ignored steps name path ≡ true → IsToldIn ignored folder (seen_of steps) name
  told_in name path at is = go (is_told ignored name) (has 47 name) refl refl is
    where
      go : (a b : Bool) → is_told ignored name ≡ a → has 47 name ≡ b → (if not a || b then false else is_some (bytes_after steps path)) ≡ true → IsToldIn ignored folder (seen_of steps) name
      go true false told plain there = record { told = told; plain = plain; there = subst (λ (p : List ℕ). is_some (bytes_after steps p) ≡ true) at there }
      go true true told plain there = absurd (cc)
      go false b told plain there = absurd (cc)

  is_one : (name : List ℕ) → IsToldIn ignored folder (seen_of steps) name → is_told_file ignored steps name (path_in folder name) ≡ true
  is_one name is =
      ap (λ b. if not b || has 47 name then false else is_some (bytes_after steps (path_in folder name))) is.told
      ∙ ap (λ b. if false || b then false else is_some (bytes_after steps (path_in folder name))) is.plain ∙ is.there

  abbrev Told : (path name : List ℕ) → Option (List ℕ)
  Told path name = if is_told_file ignored steps name path then Some name else None

  kept_one : (path other name : List ℕ) (b : Bool) → is_told_file ignored steps other path ≡ b → (if b then Some other else None) ≡ Some name → (other ≡ name) × (is_told_file ignored steps other path ≡ true)
  kept_one path other name true e h = (cc, e)
  kept_one path other name false e h = absurd (cc)

  step_in : (path name : List ℕ) (o : Option (List ℕ)) → name_in folder path ≡ o → option_and_then (Told path) o ≡ Some name → IsToldIn ignored folder (seen_of steps) name
  step_in path name None named h = absurd (cc)
  step_in path name (Some other) named h =
      let both = kept_one path other name (is_told_file ignored steps other path) refl h in
      subst (IsToldIn ignored folder (seen_of steps)) both.0 (told_in other path (is_named_in folder path other named) both.1)

  -- a step's name is told
  step_told : (name : List ℕ) (o : Option (List ℕ)) → option_and_then (λ path. option_and_then (Told path) (name_in folder path)) o ≡ Some name → IsToldIn ignored folder (seen_of steps) name
  step_told name None h = absurd (cc)
  step_told name (Some path) h = step_in path name (name_in folder path) refl h

  -- a step that puts a file there that is told has its name
  told_step : (name : List ℕ) (x : Step) → IsToldIn ignored folder (seen_of steps) name → made_by x ≡ Some (path_in folder name) → step_name ignored steps folder x ≡ Some name
  told_step name x is made =
      ap (option_and_then (λ path. option_and_then (Told path) (name_in folder path))) made
      ∙ ap (option_and_then (Told (path_in folder name))) (named_in folder (path_in folder name) name refl)
      ∙ ap (λ (b : Bool). if b then Some name else None) (is_one name is)

  cons_is : (o : Option (List ℕ)) (names : List (List ℕ)) → option_to_list o ++ names ≡ cons_option o names
  cons_is None names = refl
  cons_is (Some name) names = refl

  one_told : (o : Option (List ℕ)) → ((name : List ℕ) → o ≡ Some name → IsToldIn ignored folder (seen_of steps) name) → All (IsToldIn ignored folder (seen_of steps)) (option_to_list o)
  one_told None each = λ k d lt. absurd (omega arith)
  one_told (Some name) each = All-push (IsToldIn ignored folder (seen_of steps)) [] name (λ k d lt. absurd (omega arith)) (each name refl)

  pub each_told : (xs : List Step) → All (IsToldIn ignored folder (seen_of steps)) (filter_map (step_name ignored steps folder) xs)
  each_told [] = λ k d lt. absurd (omega arith)
  each_told (x ∷ xs) =
      let rest = filter_map (step_name ignored steps folder) xs in
      subst (All (IsToldIn ignored folder (seen_of steps))) (cons_is (step_name ignored steps folder x) rest)
      (All-append (IsToldIn ignored folder (seen_of steps)) (option_to_list (step_name ignored steps folder x)) rest (one_told (step_name ignored steps folder x) (λ name is. step_told name (made_by x) is)) (each_told xs))

  pub all_told : (xs : List Step) (name : List ℕ) → IsToldIn ignored folder (seen_of steps) name → IsMade xs (path_in folder name) → Contains (filter_map (step_name ignored steps folder) xs) name
  all_told [] name is made = absurd made
  all_told (x ∷ xs) name is (inl made) =
      let rest = filter_map (step_name ignored steps folder) xs in
      subst (λ (l : List (List ℕ)). Contains l name) (ap (λ (o : Option (List ℕ)). cons_option o rest) (sym (told_step name x is made)))
      (Contains-append_left (name ∷ []) rest name (Contains-push [] name))
  all_told (x ∷ xs) name is (inr made) =
      let rest = filter_map (step_name ignored steps folder) xs in
      subst (λ (l : List (List ℕ)). Contains l name) (cons_is (step_name ignored steps folder x) rest)
      (Contains-append_right (option_to_list (step_name ignored steps folder x)) rest name (all_told xs name is made))

-- those of text files
pub names_are : (steps : List Step) (folder : List ℕ) → AreNamesIn folder (seen_of steps) (names_after false steps folder)
names_are steps folder = record {
  each = All-weaker (IsToldIn false folder (seen_of steps)) (IsNameIn folder (seen_of steps)) (λ name is. record { counts = is.told; plain = is.plain; there = is.there }) (names_after false steps folder) (each_told false steps folder steps);
  all = λ name is. all_told false steps folder steps name record { told = is.counts; plain = is.plain; there = is.there } (is_made steps (path_in folder name) is.there);
}

-- those of ignored files
pub ignored_are : (steps : List Step) (folder : List ℕ) → AreIgnoredIn folder (seen_of steps) (names_after true steps folder)
ignored_are steps folder = record {
  each = All-weaker (IsToldIn true folder (seen_of steps)) (IsIgnoredIn folder (seen_of steps)) (λ name is. record { ignored = is.told; plain = is.plain; there = is.there }) (names_after true steps folder) (each_told true steps folder steps);
  all = λ name is. all_told true steps folder steps name record { told = is.ignored; plain = is.plain; there = is.there } (is_made steps (path_in folder name) is.there);
}
