-- The first folder counts, and an empty file masks.
use Rattle.std.proofs.Common.{◌≡◌, ℕ, Bool, true, false, cond, List, [], ◌∷◌, refl, sym, ap, ◌∙◌, Option, Some, None, ◌||◌, subst}
use Rattle.std.specs.Prelude.{if◌then◌else◌}
use Rattle.std.specs.Map.{lookup}
use Rattle.std.specs.BTreeMap.{insert_entry}
use Rattle.std.specs.Ordering.{nat_cmp, match_ordering, is_eq}
use Rattle.std.specs.declared.cmp.Ordering.{Ordering}
use Rattle.std.specs.declared.cmp.Ordering.TheVariants.{Less, Equal, Greater}
use Rattle.std.specs.Cmp.Lexicographic.{slice_cmp}
use Rattle.hwdb_spec.specs.Folders.{same}
use Rattle.hwdb_spec.specs.Lemmas.Orders.{equal_text, same_text, same_itself}
use Rattle.hwdb_rulefiles.specs.RuleText.{first_rows, steps, long_row}
use Rattle.hwdb_rulefiles.specs.RuleFiles.{nothing, parsed}
use Rattle.hwdb_rulefiles.specs.RuleFolders.{put_all, counts, listed}
use Rattle.hwdb_rulefiles.specs.RuleJumps.{resolved}
use Rattle.hwdb_rulefiles.specs.RuleLaws.{has_name, first_folder, folder_of, FirstFolderCounts, said_from, EmptyFileMasks}
use Rattle.hwdb_rulefiles.specs.declared.choice.Folder.{Folder}
use Rattle.hwdb_rulefiles.specs.declared.choice.Folder.TheVariants.{Etc, Run, Local, Usr}

looked_up : (q : List ℕ) (held : List (List ℕ × Folder)) → folder_of q (listed held) ≡ lookup (same q) held
looked_up q [] = refl
looked_up q (e ∷ es) = ap (λ (r : Option Folder). cond (same q e.0) (Some e.1) r) (looked_up q es)

same_again : (b : Bool) (x z y : Option Folder) → cond b x y ≡ cond b x (cond b z y)
same_again true x z y = refl
same_again false x z y = refl

turned : (a b : Bool) (x v y : Option Folder) → (a ≡ true → b ≡ true → ⊥) → cond b v (cond a x y) ≡ cond a x (cond b v y)
turned true true x v y h = absurd (h refl refl)
turned true false x v y h = refl
turned false true x v y h = refl
turned false false x v y h = refl

apart : (q k e : List ℕ) → slice_cmp nat_cmp k e ≡ Greater → same q k ≡ true → same q e ≡ true → ⊥
apart q k e g a b =
    let p : k ≡ e = sym (same_text q k a) ∙ same_text q e b in
    let s : same k e ≡ true = subst (λ (x : List ℕ). same k x ≡ true) p (same_itself k) in
    let t : is_eq Greater ≡ true = sym (ap is_eq g) ∙ s in
    cc

placed : (o : Ordering) (q k : List ℕ) (v : Folder) (e : List ℕ × Folder) (es rest : List (List ℕ × Folder)) → slice_cmp nat_cmp k e.0 ≡ o
    → lookup (same q) rest ≡ cond (same q k) (Some v) (lookup (same q) es)
    → lookup (same q) (match_ordering o ((k, v) ∷ (e ∷ es)) ((e.0, v) ∷ es) (e ∷ rest)) ≡ cond (same q k) (Some v) (cond (same q e.0) (Some e.1) (lookup (same q) es))
placed Less q k v e es rest c i = refl
placed Equal q k v e es rest c i =
    same_again (same q e.0) (Some v) (Some e.1) (lookup (same q) es)
    ∙ ap (λ (x : List ℕ). cond (same q x) (Some v) (cond (same q e.0) (Some e.1) (lookup (same q) es))) (sym (equal_text k e.0 c))
placed Greater q k v e es rest c i =
    ap (λ (r : Option Folder). cond (same q e.0) (Some e.1) r) i
    ∙ turned (same q k) (same q e.0) (Some v) (Some e.1) (lookup (same q) es) (apart q k e.0 c)

inserted : (q : List ℕ) (es : List (List ℕ × Folder)) (k : List ℕ) (v : Folder)
    → lookup (same q) (insert_entry (slice_cmp nat_cmp) es k v) ≡ cond (same q k) (Some v) (lookup (same q) es)
inserted q [] k v = refl
inserted q (e ∷ es) k v = placed (slice_cmp nat_cmp k e.0) q k v e es (insert_entry (slice_cmp nat_cmp) es k v) refl (inserted q es k v)

maybe_inserted : (c : Bool) (q : List ℕ) (es : List (List ℕ × Folder)) (k : List ℕ) (v : Folder)
    → lookup (same q) (if c then insert_entry (slice_cmp nat_cmp) es k v else es) ≡ cond c (cond (same q k) (Some v) (lookup (same q) es)) (lookup (same q) es)
maybe_inserted true q es k v = inserted q es k v
maybe_inserted false q es k v = refl

chosen_step : (cq cn e h : Bool) (v x : Option Folder) → (e ≡ true → cq ≡ cn)
    → cond cq (cond h v (cond cn (cond e v x) x)) (cond cn (cond e v x) x) ≡ cond cq (cond (e || h) v x) x
chosen_step true true true true v x f = refl
chosen_step true true true false v x f = refl
chosen_step true true false true v x f = refl
chosen_step true true false false v x f = refl
chosen_step true false true h v x f = let g : true ≡ false = f refl in cc
chosen_step true false false true v x f = refl
chosen_step true false false false v x f = refl
chosen_step false true true h v x f = let g : false ≡ true = f refl in cc
chosen_step false true false h v x f = refl
chosen_step false false true h v x f = refl
chosen_step false false false h v x f = refl

all_put : (q : List ℕ) (f : Folder) (names : List (List ℕ)) (held : List (List ℕ × Folder))
    → lookup (same q) (put_all f names held) ≡ cond (counts q) (cond (has_name q names) (Some f) (lookup (same q) held)) (lookup (same q) held)
all_put q f [] held = both (counts q) (lookup (same q) held)
  where
    both : (c : Bool) (x : Option Folder) → x ≡ cond c x x
    both true x = refl
    both false x = refl
all_put q f (name ∷ more) held =
    all_put q f more (if counts name then insert_entry (slice_cmp nat_cmp) held name f else held)
    ∙ ap (λ (x : Option Folder). cond (counts q) (cond (has_name q more) (Some f) x) x) (maybe_inserted (counts name) q held name f)
    ∙ chosen_step (counts q) (counts name) (same q name) (has_name q more) (Some f) (lookup (same q) held) (λ h. ap counts (same_text q name h))

four : (c a b d e : Bool)
    → cond c (cond a (Some Etc) (cond c (cond b (Some Run) (cond c (cond d (Some Local) (cond c (cond e (Some Usr) None) None)) (cond c (cond e (Some Usr) None) None))) (cond c (cond d (Some Local) (cond c (cond e (Some Usr) None) None)) (cond c (cond e (Some Usr) None) None))))
    (cond c (cond b (Some Run) (cond c (cond d (Some Local) (cond c (cond e (Some Usr) None) None)) (cond c (cond e (Some Usr) None) None))) (cond c (cond d (Some Local) (cond c (cond e (Some Usr) None) None)) (cond c (cond e (Some Usr) None) None)))
    ≡ cond c (cond a (Some Etc) (cond b (Some Run) (cond d (Some Local) (cond e (Some Usr) None)))) None
four true a b d e = refl
four false a b d e = refl

pub first_counts : FirstFolderCounts
first_counts etc run local usr name =
    let q = name in
    let h4 = put_all Usr usr [] in
    let h3 = put_all Local local h4 in
    let h2 = put_all Run run h3 in
    let c = counts name in
    let F : Bool → Folder → Option Folder → Option Folder = λ b f x. cond c (cond b (Some f) x) x in
    looked_up name (put_all Etc etc h2)
    ∙ all_put name Etc etc h2
    ∙ ap (F (has_name name etc) Etc)
    (all_put name Run run h3
    ∙ ap (F (has_name name run) Run) (all_put name Local local h4 ∙ ap (F (has_name name local) Local) (all_put name Usr usr [])))
    ∙ four (counts name) (has_name name etc) (has_name name run) (has_name name local) (has_name name usr)

empty_says_nothing : parsed [] ≡ nothing
unfolding first_rows steps long_row resolved
empty_says_nothing = refl

masked : (c : Bool) (content : Folder → List ℕ → List ℕ) (name : List ℕ) (o : Option Folder) (f : Folder) → o ≡ Some f → content f name ≡ []
    → said_from content name (if c then o else None) ≡ nothing
masked true content name o f e n = ap (said_from content name) e ∙ ap parsed n ∙ empty_says_nothing
masked false content name o f e n = refl

pub empty_masks : EmptyFileMasks
empty_masks etc run local usr content name f e n =
    ap (said_from content name) (first_counts etc run local usr name) ∙ masked (counts name) content name (first_folder etc run local usr name) f e n
