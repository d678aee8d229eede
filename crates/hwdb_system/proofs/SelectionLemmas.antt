-- The errors while the folders' files are chosen and read, and while they are compiled.
use Rattle.std.proofs.Common.{◌+◌, [], Some, ◌≡◌, ◌<◌, ◌≤◌, ◌∷◌, All, drop, suc, take, ◌++◌, ◌∙◌, inl, inr, ◌⊎◌, ⊎_elim, ap, sym, subst, refl, ℕ, List, length, map, get_or, string_bytes, Global, String}
use Rattle.std.proofs.lemmas.List.{length-map, get_or-map, map-append, take_more}
use Rattle.std.proofs.lemmas.List.Elements.{All-map}
use Rattle.std.proofs.Math.Seq.{split_at}
use Rattle.hwdb_spec.specs.Folders.{Choice, choice, names, max_files, path_of}
use Rattle.hwdb_spec.specs.Store.{Contents}
use Rattle.hwdb_spec.specs.System.{AreNamesIn, bytes_at, etc_files, usr_files}
use Rattle.hwdb_text.specs.Views.{choice_of}
use Rattle.hwdb_text.specs.declared.choice.Chosen.{Chosen}
use Rattle.hwdb_spec.specs.declared.errors.SelectError.{SelectError}
use Rattle.hwdb_spec.specs.declared.errors.SelectError.TheVariants as select
use Rattle.hwdb_spec.specs.Errors.{refusal_of_select}
use Rattle.hwdb_spec.specs.declared.errors.ToolError.TheVariants.{Memory}
use Rattle.hwdb_spec.specs.Selected.{AreNamed, AreTexts}
use Rattle.hwdb_spec_commands.specs.Refusals.{IsUnread}
use Rattle.hwdb_spec_commands.specs.Reading.{AreUnreadAt, IsChosenUnread, IsFirstUnread, IsText}
use Rattle.hwdb_spec_commands.specs.declared.refusals.Refusal.{Refusal}
use Rattle.hwdb_spec_commands.specs.declared.refusals.Refusal.TheVariants.{Plain}

-- a chosen file, by its place
pub chosen_unread : (root : List ℕ) (chosen : List Chosen) (k : ℕ) (file : Chosen) (refusal : Refusal) → file ≡ get_or chosen k file → k < length chosen
    → IsUnread (root ++ path_of (choice_of file)) refusal → IsChosenUnread root (map choice_of chosen) refusal
chosen_unread root chosen k file refusal is lt unread =
    (choice_of file, (k, subst (λ n. k < n) (sym (length-map chosen choice_of)) lt, get_or-map choice_of chosen k file (choice_of file) lt ∙ ap choice_of (sym is)), unread)

-- one more of the chosen files is read
pub texts_more : (root : List ℕ) (contents : Contents) (chosen : List Chosen) (k : ℕ) (file : Chosen) (texts texts2 : List (List ℕ)) (bytes : List ℕ)
    → AreTexts root contents (map choice_of (take k chosen)) texts → file ≡ get_or chosen k file → k < length chosen
    → bytes_at contents (root ++ path_of (choice_of file)) ≡ Some bytes → texts2 ≡ texts ++ bytes ∷ [] → AreTexts root contents (map choice_of (take (k + 1) chosen)) texts2
texts_more root contents chosen k file texts texts2 bytes before is lt read more =
    let held = λ (c : Choice). bytes_at contents (root ++ path_of c) in
    ap (map Some) more ∙ map-append Some texts (bytes ∷ [])
    ∙ ap (λ l. l ++ Some bytes ∷ []) before
    ∙ ap (λ o. map held (map choice_of (take k chosen)) ++ o ∷ []) (sym read ∙ ap (λ (f : Chosen). held (choice_of f)) is)
    ∙ sym (map-append held (map choice_of (take k chosen)) (choice_of (get_or chosen k file) ∷ []))
    ∙ ap (map held) (sym (map-append choice_of (take k chosen) (get_or chosen k file ∷ [])))
    ∙ ap (λ l. map held (map choice_of l)) (sym (take_more chosen k file lt))

-- the first of them that can't be read
pub first_unread : (root : List ℕ) (contents : Contents) (chosen : List Chosen) (k : ℕ) (file : Chosen) (refusal : Refusal) → file ≡ get_or chosen k file → k < length chosen
    → All (λ (c : Chosen). IsText contents (root ++ path_of (choice_of c))) (take k chosen)
    → IsUnread (root ++ path_of (choice_of file)) refusal → IsFirstUnread root contents (map choice_of chosen) refusal
first_unread root contents chosen k file refusal is lt read unread = record {
  before = map choice_of (take k chosen);
  first = choice_of file;
  after = map choice_of (drop (suc k) chosen);
  are = ap (map choice_of) (split_at chosen k file lt) ∙ map-append choice_of (take k chosen) (get_or chosen k file ∷ drop (suc k) chosen)
      ∙ ap (λ (f : Chosen). map choice_of (take k chosen) ++ choice_of f ∷ map choice_of (drop (suc k) chosen)) (sym is);
  read = All-map (λ (c : Choice). IsText contents (root ++ path_of c)) choice_of (take k chosen) read;
  unread = unread;
}

-- the choice among the folders' names
pub choice_refused : (Unread : List Choice → Refusal → Type 0) (root : List ℕ) (contents : Contents) (etc usr : List (List ℕ)) (e : SelectError)
    → AreNamesIn (etc_files root) contents etc → AreNamesIn (usr_files root) contents usr
    → (e ≡ select.TooManyFiles → max_files < length (names etc usr)) → AreUnreadAt Unread root contents (Plain (refusal_of_select e))
choice_refused Unread root contents etc usr select.TooManyFiles in_etc in_usr many =
    inr (inr (inr record { etc = etc; usr = usr; in_etc = in_etc; in_usr = in_usr; refused = inl (many refl, refl) }))
choice_refused Unread root contents etc usr select.Memory in_etc in_usr many = inl refl

-- reading the chosen of them
pub texts_refused : (Unread : List Choice → Refusal → Type 0) (root : List ℕ) (contents : Contents) (etc usr : List (List ℕ)) (chosen : List Choice) (refusal : Refusal)
    → AreNamesIn (etc_files root) contents etc → AreNamesIn (usr_files root) contents usr → chosen ≡ choice etc usr → length (names etc usr) ≤ max_files
    → (refusal ≡ Plain Memory) ⊎ Unread chosen refusal → AreUnreadAt Unread root contents refusal
texts_refused Unread root contents etc usr chosen refusal in_etc in_usr is few refused =
    ⊎_elim (λ memory. inl memory)
    (λ unread. inr (inr (inr record { etc = etc; usr = usr; in_etc = in_etc; in_usr = in_usr; refused = inr (few, subst (λ l. Unread l refusal) is unread) })))
    refused

-- all names of both folders
pub all_named : (root : List ℕ) (contents : Contents) (etc etc2 usr : List (String Global)) → etc2 ≡ etc
    → AreNamesIn (etc_files root) contents (map string_bytes etc) → AreNamesIn (usr_files root) contents (map string_bytes usr)
    → AreNamed root contents contents (map string_bytes etc2) (map string_bytes usr)
all_named root contents etc etc2 usr same in_etc in_usr = record {
  part = λ path there. refl;
  in_etc = subst (λ l. AreNamesIn (etc_files root) contents (map string_bytes l)) (sym same) in_etc;
  in_usr = in_usr;
}

pub both_named : (root : List ℕ) (contents : Contents) (etc etc2 usr usr2 : List (String Global)) → etc2 ≡ etc → usr2 ≡ usr
    → AreNamesIn (etc_files root) contents (map string_bytes etc) → AreNamesIn (usr_files root) contents (map string_bytes usr)
    → AreNamed root contents contents (map string_bytes etc2) (map string_bytes usr2)
both_named root contents etc etc2 usr usr2 same same2 in_etc in_usr =
    all_named root contents etc etc2 usr2 same in_etc (subst (λ l. AreNamesIn (usr_files root) contents (map string_bytes l)) (sym same2) in_usr)
