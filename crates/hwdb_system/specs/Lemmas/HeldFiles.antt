-- Files that are made of what was read of chosen ones: each chosen one has what was read of it.
use Rattle.std.proofs.Common.{◌≡◌, ◌∙◌, ◌++◌, ◌||◌, codes, ap, sym, refl, arith, ℕ, zero, suc, List, [], ◌∷◌, Bool, true, false, Option, Some, None, All, Contains, drop, get_or, if◌then◌else◌, map}
use Rattle.std.proofs.lemmas.Bool.{or_parts}
use Rattle.std.proofs.lemmas.List.Elements.{All-head, All-tail}
use Rattle.hwdb_spec.specs.Folders.{Choice, Source, contents, first_of, lists, path_of, same}
use Rattle.hwdb_spec.specs.Lemmas.Orders.{same_itself, same_text}
use Rattle.hwdb_plan.specs.Files.{source_at}
use Rattle.hwdb_plan.specs.Readable.{read_of}

-- ---- what is read of the chosen files
-- the names of files are those that they are made of
pub names_back : (of : List ℕ → List ℕ) (listed : List (List ℕ)) → map (λ (s : Source). s.name) (map (λ (name : List ℕ). source_at name (of name)) listed) ≡ listed
names_back of [] = refl
names_back of (n ∷ listed) = ap (λ l. n ∷ l) (names_back of listed)

in_rest : (n name : List ℕ) (listed : List (List ℕ)) → same name n ≡ false → Contains (n ∷ listed) name → Contains listed name
in_rest n name listed e (zero, lt, is) = absurd (let h : same name n ≡ true = ap (same name) is ∙ same_itself name in cc)
in_rest n name listed e (suc k, lt, is) = (k, omega (arith, lt), is)

-- the first of files with a name that is listed
pub first_at : (of : List ℕ → List ℕ) (name more : List ℕ) (listed : List (List ℕ)) → Contains listed name → first_of name (map (λ (n : List ℕ). source_at n (of n)) listed) more ≡ of name
unfolding first_of
first_at of name more [] has = absurd (let h = has.1 in omega (arith, h))
first_at of name more (n ∷ listed) has =
    elim (same name n) as (λ b. same name n ≡ b → (if b then of n else first_of name (map (λ (m : List ℕ). source_at m (of m)) listed) more) ≡ of name) [
      | true ↦ λ e. ap of (sym (same_text name n e))
      | false ↦ λ e. first_at of name more listed (in_rest n name listed e has)
    ] refl

-- a name that isn't listed has none
pub first_not : (of : List ℕ → List ℕ) (name more : List ℕ) (listed : List (List ℕ)) → lists name listed ≡ false → first_of name (map (λ (n : List ℕ). source_at n (of n)) listed) more ≡ more
unfolding first_of
first_not of name more [] none = refl
first_not of name more (n ∷ listed) none =
    let parts = or_parts (same n name) (lists name listed) none in
    elim (same name n) as (λ b. same name n ≡ b → (if b then of n else first_of name (map (λ (m : List ℕ). source_at m (of m)) listed) more) ≡ more) [
      | true ↦ λ e. absurd (let h : same n name ≡ true = ap (λ m. same m name) (sym (same_text name n e)) ∙ same_itself name in let k = parts.0 in cc)
      | false ↦ λ e. first_not of name more listed parts.1
    ] refl

-- a name that a list has is in it
pub lists_has : (name : List ℕ) (listed : List (List ℕ)) → lists name listed ≡ true → Contains listed name
lists_has name [] has = cc
lists_has name (n ∷ listed) has =
    elim (same n name) as (λ b. same n name ≡ b → (b || lists name listed) ≡ true → Contains (n ∷ listed) name) [
      | true ↦ λ e h. (0, omega arith, same_text n name e)
      | false ↦ λ e h. let in_more = lists_has name listed h in (suc in_more.0, (let lt = in_more.1 in omega (arith, lt)), in_more.2)
    ] refl has

-- the file of a choice is that of its folder
module _ (etc usr : List (List ℕ)) (of : List ℕ → List ℕ) where
  abbrev Files : List (List ℕ) → List Source
  Files listed = map (λ (name : List ℕ). source_at name (of name)) listed

  abbrev IsFrom : Choice → Type 0
  IsFrom c = c.from_etc ≡ lists c.name etc

  held_by : (b : Bool) (name : List ℕ) → lists name etc ≡ b → Contains (if b then etc else usr) name → first_of name (Files etc) (first_of name (Files usr) []) ≡ of name
  held_by true name is has = first_at of name (first_of name (Files usr) []) etc has
  held_by false name is has = first_not of name (first_of name (Files usr) []) etc is ∙ first_at of name [] usr has

  pub held : (c : Choice) → IsFrom c → Contains (if c.from_etc then etc else usr) c.name → contents (Files etc) (Files usr) c ≡ of c.name
  held c from has = held_by c.from_etc c.name (sym from) has

-- what is read of one
module _ (etc : List (List ℕ)) (seen : List ℕ → Option (List ℕ)) (root : List ℕ) where
  abbrev FileAt : Choice → List ℕ
  FileAt c = root ++ path_of c

  abbrev From : Choice → Type 0
  From c = c.from_etc ≡ lists c.name etc

  -- two choices of one name are of one file
  one_path : (c d : Choice) → From c → From d → c.name ≡ d.name → FileAt c ≡ FileAt d
  one_path c d of_c of_d is =
      let one : c.from_etc ≡ d.from_etc = of_c ∙ ap (λ n. lists n etc) is ∙ sym of_d in
      ap (λ (b : Bool). root ++ ((if b then codes "/etc/udev/hwdb.d/" else codes "/usr/lib/udev/hwdb.d/") ++ c.name)) one
      ∙ ap (λ (n : List ℕ). root ++ ((if d.from_etc then codes "/etc/udev/hwdb.d/" else codes "/usr/lib/udev/hwdb.d/") ++ n)) is

  pub first_read : (chosen : List Choice) (texts : List (List ℕ)) (c : Choice) → All From chosen → From c → map Some texts ≡ map (λ d. seen (FileAt d)) chosen → Contains chosen c
      → Some (first_of c.name (read_of chosen texts) []) ≡ seen (FileAt c)
  unfolding first_of read_of
  first_read [] texts c from of read has = absurd (let h = has.1 in omega (arith, h))
  first_read (d ∷ chosen) [] c from of read has = cc
  first_read (d ∷ chosen) (t ∷ texts) c from of read has =
      elim (same c.name d.name) as (λ b. same c.name d.name ≡ b → Some (if b then t else first_of c.name (read_of chosen texts) []) ≡ seen (FileAt c)) [
        | true ↦ λ e. ap (λ l. get_or l 0 None) read ∙ ap seen (one_path d c (All-head From d chosen from) of (sym (same_text c.name d.name e)))
        | false ↦ λ e. first_read chosen texts c (All-tail From d chosen from) of (ap (drop 1) read) (later e has)
      ] refl
    where
      later : same c.name d.name ≡ false → Contains (d ∷ chosen) c → Contains chosen c
      later e (zero, lt, is) = absurd (let h : same c.name d.name ≡ true = ap (λ (x : Choice). same c.name x.name) is ∙ same_itself c.name in cc)
      later e (suc k, lt, is) = (k, omega (arith, lt), is)
