-- The machine's own rules files, as they are chosen and read, follow the front of a plan.
use Rattle.std.proofs.Common.{◌≡◌, ◌∙◌, ◌≤◌, ◌<◌, ◌+◌, ◌++◌, ◌∷◌, inl, inr, ap, sym, subst, refl, get_or, drop, length, map, string_bytes, true, false, Bool, Global, List, [], Option, Result, Ok, Err, String, Vec, ℕ}
use Rattle.std.specs.Prelude.{filter, filter_map}
use Rattle.std.proofs.lemmas.List.{drop_all, drop_more}
use Rattle.std.specs.Result.{IsErrAnd}
use Rattle.hwdb_rulefiles.specs.RuleFolders.{counts}
use Rattle.hwdb_spec_commands.specs.Told.{IsListedTo, IsUnreadAs, Reads, rules_told, stop_of}
use Rattle.hwdb_spec_commands.specs.Told.Unlisted.{Unopened}
use Rattle.hwdb_spec_commands.specs.declared.refusals.Refusal.{Refusal}
use Rattle.hwdb_spec_commands.specs.declared.unread.Unread.{Unread}
use Rattle.hwdb_plan.specs.Folders.{read_texts}
use Rattle.hwdb_plan.specs.Lemmas.Folders.{TextsAreRead, text_more, text_stops, texts_read}
use Rattle.hwdb_plan.specs.Plans.{End, Ends, Plan, ReachesValue}
use Rattle.hwdb_system.specs.OwnRules.{rules_name}

-- ---- names
-- a name as the code holds it, if it is that of a rules file
abbrev pub rules_held : Vec ℕ Global → Option (List ℕ)
rules_held name = rules_name name.items

-- one more is kept if it counts
one_more : (name : Vec ℕ Global) (names : List (Vec ℕ Global)) (b : Bool) → counts name.items ≡ b → filter_map rules_held names ≡ filter counts (map (λ n. n.items) names)
    → filter_map rules_held (name ∷ names) ≡ filter counts (map (λ n. n.items) (name ∷ names))
one_more name names true is kept = rw is (ap (λ (l : List (List ℕ)). name.items ∷ l) kept)
one_more name names false is kept = rw is kept

-- those that are kept are those that count
pub kept_count : (names : List (Vec ℕ Global)) → filter_map rules_held names ≡ filter counts (map (λ n. n.items) names)
kept_count [] = refl
kept_count (name ∷ names) = one_more name names (counts name.items) refl (kept_count names)

-- a folder's names aren't told, and so none of its rules files
pub rules_untold : {Y : Type 0} (value : Y → List (List ℕ)) (told : Result (List (List ℕ)) Unread) (folder : List ℕ) (r : Refusal) (result : Result Y Refusal)
    → IsUnreadAs told folder r → IsErrAnd result (λ x. x ≡ r) → IsListedTo value (rules_told told) folder result
rules_untold value told folder r (Ok y) why is = absurd is
rules_untold value told folder r (Err x) (inl memory) is = inl (is ∙ memory)
rules_untold value told folder r (Err x) (inr (w, untold, says)) is = inr (Unopened w, ap rules_told untold, ap stop_of is ∙ says)

-- ---- texts
module _ (w : Reads) (root : List ℕ) (files : List (String Global)) where
  abbrev paths : List (String Global) → List (List ℕ)
  paths some = map (λ (path : List ℕ). root ++ path) (map string_bytes some)

  -- some are read, up to this place
  abbrev pub AreRead : (k : ℕ) (texts : List (List ℕ)) → Type 0
  AreRead k texts = TextsAreRead w (paths files) (paths (drop k files)) texts

  pub none_read : (texts : List (List ℕ)) → texts ≡ [] → AreRead 0 texts
  none_read texts none = λ next e ends. subst (λ l. Ends w (read_texts (paths files) l next) e) none ends

  module _ (k : ℕ) (file : String Global) (texts : List (List ℕ)) (lt : k < length files) (is : file ≡ get_or files k file) (reached : AreRead k texts) where
    here : TextsAreRead w (paths files) ((root ++ string_bytes file) ∷ paths (drop (k + 1) files)) texts
    here = subst (λ l. TextsAreRead w (paths files) (paths l) texts) (drop_more files k file lt ∙ ap (λ f. f ∷ drop (k + 1) files) (sym is)) reached

    pub read_more : (bytes : List ℕ) (more : List (List ℕ)) → w.text (root ++ string_bytes file) ≡ Ok bytes → more ≡ texts ++ bytes ∷ [] → AreRead (k + 1) more
    read_more bytes more told put =
        subst (λ l. AreRead (k + 1) l) (sym put) (text_more w (paths files) (root ++ string_bytes file) (paths (drop (k + 1) files)) texts bytes here told)

    pub read_stops : {Y : Type 0} (value : Y → List (List ℕ)) (r : Refusal) (result : Result Y Refusal) → IsUnreadAs (w.text (root ++ string_bytes file)) (root ++ string_bytes file) r
        → IsErrAnd result (λ x. x ≡ r) → ReachesValue value w (read_texts (paths files) []) result
    read_stops value r result why is_r = text_stops w value (paths files) (root ++ string_bytes file) (paths (drop (k + 1) files)) texts r result here why is_r

  pub all_read : (k : ℕ) (texts : List (List ℕ)) → length files ≤ k → AreRead k texts → (next : List (List ℕ) → Plan) (e : End) → Ends w (next texts) e → Ends w (read_texts (paths files) [] next) e
  all_read k texts le reached = texts_read w (paths files) texts (subst (λ l. TextsAreRead w (paths files) (paths l) texts) (drop_all k files le) reached)
