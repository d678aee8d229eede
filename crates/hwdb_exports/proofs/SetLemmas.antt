-- Tables that took up paths, or names, one after another.
use Rattle.std.proofs.Common.{◌≡◌, ◌∙◌, ◌++◌, ◌∷◌, Bool, Err, List, None, Ok, Option, Result, Some, Vec, ap, append_assoc, cond, false, refl, sym, true, ℕ, []}
use Rattle.std.specs.Prelude.{OnOk, flat_map, if◌then◌else◌, option_map}
use Rattle.std.specs.declared.alloc.Global.{Global}
use Rattle.std.specs.BTreeMap.{BTreeMap, insert_entry}
use Rattle.std.specs.Map.{lookup, remove_entry}
use Rattle.std.specs.declared.cmp.Ordering.{Ordering}
use Rattle.std.specs.declared.cmp.Ordering.TheVariants.{Equal, Greater, Less}
use Rattle.std.specs.Cmp.Lexicographic.{slice_cmp}
use Rattle.std.specs.Option.{option_map_or}
use Rattle.std.specs.Ordering.{is_eq, match_ordering, nat_cmp}
use Rattle.std.proofs.lemmas.Grind.{flat_map-append}
use Rattle.std.proofs.lemmas.List.{append-nil}
use Rattle.hwdb_spec.specs.Folders.{same}
use Rattle.hwdb_spec.specs.Lemmas.Orders.{same_itself, same_text}
use Rattle.hwdb_spec_commands.specs.Exports as spec
use Rattle.hwdb_exports.specs.Views.{AreListed, AreSet, names_at, spot_at, spot_of}
use Rattle.hwdb_exports.specs.declared.spots.Spot.{Spot}

abbrev pub Text : Type 0
Text = Vec ℕ Global

abbrev pub Spots : Type 0
Spots = BTreeMap Text Spot

abbrev pub Names : Type 0
Names = BTreeMap Text Text

-- ---- paths
-- paths that are taken up after others
pub after_both : (path : List ℕ) (o : Option spec.Spot) (xs ys : List (List ℕ × spec.Spot)) → spec.spot_after path o (xs ++ ys) ≡ spec.spot_after path (spec.spot_after path o xs) ys
unfolding spec.spot_after
after_both path o [] ys = refl
after_both path o (x ∷ xs) ys = after_both path (if same x.0 path then Some x.1 else o) xs ys

pub set_both : (xs ys : List (List ℕ × spec.Spot)) (a b c : Spots) → AreSet xs a b → AreSet ys b c → AreSet (xs ++ ys) a c
set_both xs ys a b c one two path = two path ∙ ap (λ (o : Option spec.Spot). spec.spot_after path o ys) (one path) ∙ sym (after_both path (spot_at a path) xs ys)

pub set_none : (a : Spots) → AreSet [] a a
unfolding spec.spot_after
set_none a path = refl

-- ---- tables by text
same_sym : (a b : List ℕ) → same a b ≡ same b a
same_sym a b = by (same a b) (same b a) refl refl
  where
    by : (p q : Bool) → same a b ≡ p → same b a ≡ q → p ≡ q
    by true true e f = refl
    by false false e f = refl
    by true false e f = sym (same_itself a) ∙ ap (λ (t : List ℕ). same t a) (same_text a b e) ∙ f
    by false true e f = sym e ∙ ap (λ (t : List ℕ). same t b) (sym (same_text b a f)) ∙ same_itself b

module _ {X : Type 0} where
  -- what a table has at a text
  abbrev pub at : (path : List ℕ) → List (Text × X) → Option X
  at path es = lookup (λ (k : Text). same path k.items) es

  here : (b c : Bool) (v w : X) (o : Option X) → b ≡ c → cond b (Some v) o ≡ cond c (Some v) (cond b (Some w) o)
  here true true v w o is = refl
  here false false v w o is = refl
  here true false v w o is = absurd cc
  here false true v w o is = absurd cc

  there : (b c : Bool) (v w : X) (o p : Option X) → (b ≡ true → c ≡ false) → p ≡ cond c (Some v) o → cond b (Some w) p ≡ cond c (Some v) (cond b (Some w) o)
  there false c v w o p other is = is
  there true false v w o p other is = refl
  there true true v w o p other is = let no = other refl in absurd cc

  -- one more
  pub put_at : (cmp : Text → Text → Ordering) → ((a b : Text) → cmp a b ≡ slice_cmp nat_cmp a.items b.items) → (es : List (Text × X)) (key : Text) (v : X) (path : List ℕ)
      → at path (insert_entry cmp es key v) ≡ cond (same key.items path) (Some v) (at path es)
  put_at cmp is [] key v path = ap (λ (b : Bool). cond b (Some v) None) (same_sym path key.items)
  put_at cmp is (e ∷ es) key v path = by (put_at cmp is es key v path) (cmp key e.0) refl
    where
      by : at path (insert_entry cmp es key v) ≡ cond (same key.items path) (Some v) (at path es) → (o : Ordering) → cmp key e.0 ≡ o → at path (match_ordering o ((key, v) ∷ e ∷ es) ((e.0, v) ∷ es) (e ∷ insert_entry cmp es key v)) ≡ cond (same key.items path) (Some v) (at path (e ∷ es))
      by rest Less so = ap (λ (b : Bool). cond b (Some v) (at path (e ∷ es))) (same_sym path key.items)
      by rest Equal so =
          let one = same_text key.items e.0.items (ap is_eq (sym (is key e.0) ∙ so)) in
          here (same path e.0.items) (same key.items path) v e.1 (at path es) (same_sym path e.0.items ∙ ap (λ (t : List ℕ). same t path) (sym one))
      by rest Greater so =
          there (same path e.0.items) (same key.items path) v e.1 (at path es) (at path (insert_entry cmp es key v))
          (λ found. ap (λ (t : List ℕ). same key.items t) (same_text path e.0.items found) ∙ ap is_eq (sym (is key e.0) ∙ so)) rest

  -- one less
  pub taken_at : (es : List (Text × X)) (gone path : List ℕ) → same gone path ≡ false → at path (remove_entry (λ (k : Text). same gone k.items) es) ≡ at path es
  taken_at [] gone path other = refl
  taken_at (e ∷ es) gone path other = by (taken_at es gone path other) (same gone e.0.items) (same path e.0.items) refl refl
    where
      by : at path (remove_entry (λ (k : Text). same gone k.items) es) ≡ at path es → (b c : Bool) → same gone e.0.items ≡ b → same path e.0.items ≡ c → at path (cond b es (e ∷ remove_entry (λ (k : Text). same gone k.items) es)) ≡ cond c (Some e.1) (at path es)
      by rest true false is so = refl
      by rest true true is so = let found : same gone path ≡ true = ap (λ (t : List ℕ). same gone t) (same_text path e.0.items so) ∙ is in absurd cc
      by rest false c is so = ap (λ (b : Bool). cond b (Some e.1) (at path (remove_entry (λ (k : Text). same gone k.items) es))) so ∙ ap (cond c (Some e.1)) rest

-- the same of a call that may have failed
pub ok_both : {E : Type 0} (xs ys : List (List ℕ × spec.Spot)) (a b c : Spots) (result : Result (Unit {0}) E) → AreSet xs a b → OnOk result (AreSet ys b c) → OnOk result (AreSet (xs ++ ys) a c)
ok_both xs ys a b c (Ok u) one two = set_both xs ys a b c one two
ok_both xs ys a b c (Err e) one two = two

-- nothing that a device doesn't tell
pub set_none_of : (rows : List ℕ → List (List ℕ × spec.Spot)) (told : Option (List ℕ)) (a : Spots) → None ≡ told → AreSet (option_map_or rows told []) a a
unfolding spec.spot_after
set_none_of rows told a is path = ap (λ (o : Option (List ℕ)). spec.spot_after path (spot_at a path) (option_map_or rows o [])) is

chosen : (b : Bool) (s : Spot) (o : Option Spot) → option_map spot_of (cond b (Some s) o) ≡ (if b then Some (spot_of s) else option_map spot_of o)
chosen true s o = refl
chosen false s o = refl

-- one path
pub set_one : (old new : Spots) (key : Text) (s : Spot) (cmp : Text → Text → Ordering) → ((a b : Text) → cmp a b ≡ slice_cmp nat_cmp a.items b.items)
    → new.entries ≡ insert_entry cmp old.entries key s → AreSet ((key.items, spot_of s) ∷ []) old new
unfolding spec.spot_after
set_one old new key s cmp is put path =
    ap (λ (es : List (Text × Spot)). option_map spot_of (at path es)) put ∙ ap (option_map spot_of) (put_at cmp is old.entries key s path) ∙ chosen (same key.items path) s (at path old.entries)

-- ---- names
pub listed_both : (xs ys : List spec.Entry) (a b c : Names) → AreListed xs a b → AreListed ys b c → AreListed (xs ++ ys) a c
listed_both xs ys a b c one two folder =
    two folder ∙ ap (λ (l : List ℕ). l ++ spec.names_under folder ys) (one folder) ∙ append_assoc (names_at a folder) (spec.names_under folder xs) (spec.names_under folder ys)
    ∙ ap (λ (l : List ℕ). names_at a folder ++ l) (sym (flat_map-append (spec.name_in folder) xs ys))

-- a folder without its names
pub left_at : (old new : Names) (gone : List ℕ) → new.entries ≡ remove_entry (λ (k : Text). same gone k.items) old.entries → (other : List ℕ) → same gone other ≡ false → names_at new other ≡ names_at old other
left_at old new gone is other apart = ap (λ (o : Option Text). option_map_or (λ v. v.items) o []) (ap (at other) is ∙ taken_at old.entries gone other apart)

named : (b : Bool) (v : Text) (o : Option Text) (found name : List ℕ) → v.items ≡ found ++ (name ++ 0 ∷ []) → (b ≡ true → found ≡ option_map_or (λ v. v.items) o []) → (p : Option Text)
    → (b ≡ false → option_map_or (λ v. v.items) p [] ≡ option_map_or (λ v. v.items) o [])
    → option_map_or (λ v. v.items) (cond b (Some v) p) [] ≡ option_map_or (λ v. v.items) o [] ++ ((if b then name ++ 0 ∷ [] else []) ++ [])
named true v o found name is here p there = is ∙ ap (λ (l : List ℕ). l ++ (name ++ 0 ∷ [])) (here refl) ∙ ap (λ (l : List ℕ). option_map_or (λ v. v.items) o [] ++ l) (sym (append-nil (name ++ 0 ∷ [])))
named false v o found name is here p there = there refl ∙ sym (append-nil (option_map_or (λ v. v.items) o []))

-- a name in a folder
pub listed_one : (old mid new : Names) (key v : Text) (folder name : List ℕ) (cmp : Text → Text → Ordering) → ((a b : Text) → cmp a b ≡ slice_cmp nat_cmp a.items b.items) → key.items ≡ folder
    → ((other : List ℕ) → same folder other ≡ false → names_at mid other ≡ names_at old other) → v.items ≡ names_at old folder ++ (name ++ 0 ∷ [])
    → new.entries ≡ insert_entry cmp mid.entries key v → AreListed (record { folder = folder; name = name } ∷ []) old new
listed_one old mid new key v folder name cmp is at_folder others listing put other =
    ap (λ (es : List (Text × Text)). option_map_or (λ v. v.items) (at other es) []) put ∙ ap (λ (o : Option Text). option_map_or (λ v. v.items) o []) (put_at cmp is mid.entries key v other)
    ∙ ap (λ (t : List ℕ). option_map_or (λ v. v.items) (cond (same t other) (Some v) (at other mid.entries)) []) at_folder
    ∙ named (same folder other) v (at other old.entries) (names_at old folder) name listing (λ found. ap (names_at old) (same_text folder other found)) (at other mid.entries) (λ apart. others other apart)
