-- Files that are left out, and those that are left.
use Rattle.std.proofs.Common.{◌≡◌, ◌⊎◌, ◌∙◌, ◌<◌, ◌++◌, inl, inr, ap, sym, subst, refl, append_assoc, ℕ, List, [], ◌∷◌, Bool, true, Option, Some, Result, Ok, Err, IfErr, All, Contains, get_or, length, map}
use Rattle.std.specs.Prelude.{codes}
use Rattle.std.proofs.lemmas.List.{get_or-map, length-map, map-append}
use Rattle.std.proofs.lemmas.List.Elements.{All-contains, All-nil, All-push}
use Rattle.hwdb_spec.specs.declared.causes.Cause.{Cause}
use Rattle.hwdb_spec.specs.Folders.{Choice, choice, path_of, same}
use Rattle.hwdb_spec.specs.Store.{Contents}
use Rattle.hwdb_spec.specs.Selected.{IsListed, AreNamed, AreSelected}
use Rattle.hwdb_text.specs.Views.{choice_of}
use Rattle.hwdb_text.specs.declared.choice.Chosen.{Chosen}
use Rattle.hwdb_system.specs.LeftOut.{AreFound, AreToldOf, IsNoted, IsNotedOf}
use Rattle.hwdb_spec_commands.specs.LeftOutTold.{AreSelectedLess, AreTold, AreUnreadLess, left_out_line}
use Rattle.hwdb_spec_commands.specs.LeftOut.{AreLeftOut, IsLeftOut, less}
use Rattle.hwdb_spec_commands.specs.Reading.{AreUnread, AreUnreadIn, IsChosenUnread}
use Rattle.hwdb_spec.specs.Visible.{shown_name}
use Rattle.hwdb_spec_commands.specs.Refusals.{HasReason, IsUnread, IsUnreadable, file_text}
use Rattle.hwdb_spec_commands.specs.declared.refusals.Refusal.{Refusal}
use Rattle.hwdb_spec_commands.specs.declared.refusals.Refusal.TheVariants.{At, InWords, NoDatabase, Plain}
use Rattle.hwdb_spec.specs.declared.errors.ToolError.TheVariants.{Read, Write, TooLong, TooManyFiles, TooManyLines, TooLarge, BadPosition, BadDatabase, Replace, Memory}
use Rattle.hwdb_plan.specs.Lemmas.Fronts.{lines_more}
use Rattle.hwdb_system.specs.Lemmas.LeftOut.{any_unread}
use Rattle.hwdb_system.proofs.ReasonLemmas.{chosen_fails, chosen_reason}
use Rattle.hwdb_system.proofs.SelectionLemmas.{chosen_unread}

-- ---- what is said of them
-- an error that was noted is that of the file
module _ (Unreadable : List ℕ → Type 0) (contents : Contents) (path old new : List ℕ) where
  abbrev Noted : Type 0
  Noted = Unreadable path × (cause : Option Cause) × (words : List ℕ) × (new ≡ old ++ left_out_line path cause words)

  noted : (refusal : Refusal) → IsNoted refusal old new → IsUnread path refusal → HasReason Unreadable ⊥ contents refusal → Noted
  noted (Plain e) n unread has = absurd n
  noted NoDatabase n unread has = absurd n
  noted (InWords text) n unread has = absurd n
  noted (At Read at cause) n unread has = (subst Unreadable unread has, cause, n.0, n.1 ∙ ap (λ (p : List ℕ). old ++ left_out_line p cause n.0) unread)
  noted (At Write at cause) n unread has = absurd n
  noted (At TooLong at cause) n unread has = absurd n
  noted (At TooManyFiles at cause) n unread has = absurd n
  noted (At TooManyLines at cause) n unread has = absurd n
  noted (At TooLarge at cause) n unread has = absurd n
  noted (At BadPosition at cause) n unread has = absurd n
  noted (At (BadDatabase fault) at cause) n unread has = absurd n
  noted (At (Replace u) at cause) n unread has = absurd n
  noted (At Memory at cause) n unread has = absurd n

pub none_told : (Unreadable : List ℕ → Type 0) (root : List ℕ) (chosen : List Choice) (names : List (List ℕ)) (said : List ℕ) → names ≡ [] → said ≡ [] → AreToldOf Unreadable root chosen names said
none_told Unreadable root chosen names said no_name no_line = record {
  left_out = [];
  named = sym no_name;
  among = All-nil (Contains chosen);
  unreadable = All-nil (λ (c : Choice). Unreadable (root ++ path_of c));
  told = no_line;
}

module _ (Unreadable : List ℕ → Type 0) (contents : Contents) (root : List ℕ) (chosen : List Choice) (names names2 : List (List ℕ)) (said said2 : List ℕ) (c : Choice) where
  one_told : (refusal : Refusal) → AreToldOf Unreadable root chosen names said → Contains chosen c → IsUnread (root ++ path_of c) refusal → HasReason Unreadable ⊥ contents refusal
      → IsNoted refusal said said2 → names2 ≡ names ++ c.name ∷ [] → AreToldOf Unreadable root chosen names2 said2
  one_told refusal before has unread reason note name =
      let one = noted Unreadable contents (root ++ path_of c) said said2 refusal note unread reason in
      record {
        left_out = before.left_out ++ c ∷ [];
        named = map-append (λ (x : Choice). x.name) before.left_out (c ∷ []) ∙ ap (λ l. l ++ c.name ∷ []) before.named ∙ sym name;
        among = All-push (Contains chosen) before.left_out c before.among has;
        unreadable = All-push (λ (x : Choice). Unreadable (root ++ path_of x)) before.left_out c before.unreadable one.0;
        told = subst (AreTold root (before.left_out ++ c ∷ [])) (sym one.3) (lines_more root before.left_out said c one.1 one.2 before.told);
      }

  pub told_more : {T : Type 0} (read : Result T Refusal) → AreToldOf Unreadable root chosen names said → Contains chosen c → IfErr read (IsUnread (root ++ path_of c)) → IfErr read (HasReason Unreadable ⊥ contents)
      → IsNotedOf read c.name names names2 said said2 → AreToldOf Unreadable root chosen names2 said2
  told_more (Ok bytes) before has unread reason same = record {
    left_out = before.left_out;
    named = before.named ∙ sym same.0;
    among = before.among;
    unreadable = before.unreadable;
    told = subst (AreTold root before.left_out) (sym same.1) before.told;
  }
  told_more (Err refusal) before has unread reason note = one_told refusal before has unread reason note.0 note.1

-- a chosen file, by its place
pub chosen_at : (chosen : List Chosen) (k : ℕ) (file : Chosen) → file ≡ get_or chosen k file → k < length chosen → Contains (map choice_of chosen) (choice_of file)
chosen_at chosen k file is lt = (k, subst (λ n. k < n) (sym (length-map chosen choice_of)) lt, get_or-map choice_of chosen k file (choice_of file) lt ∙ ap choice_of (sym is))

-- an error at reading a chosen file that is handed on
pub handed_unread : {T : Type 0} (root : List ℕ) (chosen : List Chosen) (k : ℕ) (file : Chosen) (read : Result T Refusal) (r : Refusal) → file ≡ get_or chosen k file → k < length chosen
    → IfErr read (IsUnread (root ++ path_of (choice_of file))) → (r ≡ Plain Memory) ⊎ (read ≡ Err r) → (r ≡ Plain Memory) ⊎ IsChosenUnread root (map choice_of chosen) r
handed_unread root chosen k file read r is lt unread (inl memory) = inl memory
handed_unread root chosen k file read r is lt unread (inr same) =
    inr (chosen_unread root chosen k file r is lt (subst (λ (x : Result _ Refusal). IfErr x (IsUnread (root ++ path_of (choice_of file)))) same unread))

-- the line in its pieces
pub line_pieces : (old front mid end nl a b d : List ℕ) → a ≡ old ++ front → b ≡ a ++ mid → d ≡ b ++ (end ++ nl) → d ≡ old ++ (front ++ ((mid ++ end) ++ nl))
line_pieces old front mid end nl a b d first second third =
    third ∙ ap (λ l. l ++ (end ++ nl)) (second ∙ ap (λ l. l ++ mid) first)
    ∙ append_assoc (old ++ front) mid (end ++ nl) ∙ append_assoc old front (mid ++ (end ++ nl))
    ∙ ap (λ l. old ++ (front ++ l)) (sym (append_assoc mid end nl))

-- a path and the words of its cause
pub caused : (old path words a b d : List ℕ) (cause : Option Cause) (known : Cause) → cause ≡ Some known → a ≡ old ++ shown_name path → b ≡ a ++ codes ": " → d ≡ b ++ words → d ≡ old ++ file_text path cause words
caused old path words a b d cause known is first second third =
    third ∙ ap (λ l. l ++ words) (second ∙ ap (λ l. l ++ codes ": ") first)
    ∙ append_assoc (old ++ shown_name path) (codes ": ") words ∙ append_assoc old (shown_name path) (codes ": " ++ words)
    ∙ ap (λ (o : Option Cause). old ++ file_text path o words) (sym is)

-- ---- together
pub are_found : (MayFail : List ℕ → Type 0) (root : List ℕ) (contents : Contents) (etc usr : List (List ℕ)) (chosen : List Choice) (names : List (List ℕ)) (said : List ℕ)
    → AreNamed root contents contents etc usr → chosen ≡ choice etc usr → All (IsListed etc usr) chosen
    → AreToldOf (IsUnreadable MayFail contents) root chosen names said → AreFound MayFail root contents names said
are_found MayFail root contents etc usr chosen names said in_both is listed of = record {
  left_out = of.left_out;
  are = record {
    each = λ k d lt.
        let has = of.among k d lt in
        record {
          etc = etc;
          usr = usr;
          in_etc = in_both.in_etc;
          in_usr = in_both.in_usr;
          chosen = subst (λ (l : List Choice). Contains l (get_or of.left_out k d)) is has;
          unreadable = chosen_fails MayFail root contents etc usr (get_or of.left_out k d) in_both.in_etc in_both.in_usr
              (All-contains (IsListed etc usr) chosen (get_or of.left_out k d) listed has) (of.unreadable k d lt);
        };
    asked_for = λ e. absurd (cc);
  };
  named = of.named;
  told = of.told;
}

pub selected_among : (MayFail : List ℕ → Type 0) (root : List ℕ) (contents : Contents) (names names2 usr2 : List (List ℕ)) (chosen2 : List Choice) (texts : List (List ℕ)) (said : List ℕ)
    → AreFound MayFail root contents names said → names2 ≡ names
    → AreSelected root (less names2 root contents) usr2 chosen2 texts → AreSelectedLess true MayFail root contents usr2 chosen2 texts said
selected_among MayFail root contents names names2 usr2 chosen2 texts said found same selected = record {
  left_out = found.left_out;
  are = found.are;
  told = found.told;
  selected = subst (λ (l : List (List ℕ)). AreSelected root (less l root contents) usr2 chosen2 texts) (same ∙ sym found.named) selected;
}

-- what is said of a chosen file is so
pub chosen_reason_of : {T : Type 0} (MayFail : List ℕ → Type 0) (root : List ℕ) (contents : Contents) (etc usr : List (List ℕ)) (chosen : List Choice) (r : Result T Refusal)
    → AreNamed root contents contents etc usr → All (IsListed etc usr) chosen
    → IfErr r (λ e. (e ≡ Plain Memory) ⊎ IsChosenUnread root chosen e) → IfErr r (HasReason (IsUnreadable MayFail contents) ⊥ contents) → IfErr r (HasReason MayFail ⊥ contents)
chosen_reason_of MayFail root contents etc usr chosen (Ok x) named listed unread has = tt
chosen_reason_of MayFail root contents etc usr chosen (Err e) named listed unread has = chosen_reason MayFail root contents contents etc usr chosen e named listed unread has

pub none_left_out : (skip : Bool) (MayFail : List ℕ → Type 0) (root : List ℕ) (contents : Contents) → AreLeftOut skip MayFail root contents []
none_left_out skip MayFail root contents = record { each = All-nil (IsLeftOut MayFail root contents); asked_for = λ e. refl }

-- all files are read, or reading them fails
pub whole_selected : (skip : Bool) (MayFail : List ℕ → Type 0) (root : List ℕ) (contents : Contents) (usr : List (List ℕ)) (chosen : List Choice) (texts : List (List ℕ))
    → AreSelected root contents usr chosen texts → AreSelectedLess skip MayFail root contents usr chosen texts []
whole_selected skip MayFail root contents usr chosen texts selected = record {
  left_out = [];
  are = none_left_out skip MayFail root contents;
  told = refl;
  selected = selected;
}

pub whole_unread : (skip : Bool) (MayFail : List ℕ → Type 0) (root : List ℕ) (contents : Contents) (refusal : Refusal) → AreUnreadIn skip root contents refusal → AreUnreadLess skip MayFail root contents refusal
whole_unread skip MayFail root contents refusal unread = ([], none_left_out skip MayFail root contents, unread)

pub less_unread : (MayFail : List ℕ → Type 0) (root : List ℕ) (contents : Contents) (names names2 : List (List ℕ)) (said : List ℕ) (refusal : Refusal)
    → AreFound MayFail root contents names said → names2 ≡ names
    → AreUnread root (less names2 root contents) refusal → AreUnreadLess true MayFail root contents refusal
less_unread MayFail root contents names names2 said refusal found same unread = (
  found.left_out,
  found.are,
  any_unread true root (less (map (λ (c : Choice). c.name) found.left_out) root contents) refusal
      (subst (λ (l : List (List ℕ)). AreUnread root (less l root contents) refusal) (same ∙ sym found.named) unread),
)
