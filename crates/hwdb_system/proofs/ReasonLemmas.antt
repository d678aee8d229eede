-- What an error says of a path is so.
use Rattle.std.proofs.Common.{get_or, length, ◌≡◌, ◌⊎◌, ◌∙◌, ◌++◌, inl, inr, ap, refl, sym, subst, ℕ, List, [], ◌∷◌, map, Bool, true, false, All, if◌then◌else◌, append_assoc}
use Rattle.std.proofs.Math.Seq.{take-append_seam}
use Rattle.std.specs.Prelude.{Contains, codes, is_some}
use Rattle.std.proofs.lemmas.List.Elements.{All-contains, All-head, All-tail, All-take}
use Rattle.hwdb_spec.specs.Folders.{Choice, path_of}
use Rattle.hwdb_spec.specs.Store.{Contents}
use Rattle.hwdb_spec.specs.System.{AreNamesIn, IsNameIn, bytes_at, etc_files, usr_files}
use Rattle.hwdb_spec.specs.Selected.{IsListed, AreNamed, IsPartOf}
use Rattle.hwdb_spec.specs.declared.errors.ToolError.TheVariants.{Read, Write, TooLong, TooManyFiles, TooManyLines, TooLarge, BadPosition, BadDatabase, Replace, Memory}
use Rattle.hwdb_spec_commands.specs.Reading.{IsChosenUnread, IsFirstUnread, IsText}
use Rattle.hwdb_spec_commands.specs.Refusals.{HasReason, IsUnread, IsUnreadable}
use Rattle.hwdb_spec_commands.specs.declared.refusals.Refusal.{Refusal}
use Rattle.hwdb_spec_commands.specs.declared.refusals.Refusal.TheVariants.{At, InWords, NoDatabase, Plain}

-- the chosen of a folder's files are there
there_at : (root : List ℕ) (contents : Contents) (etc usr : List (List ℕ)) (from_etc : Bool) (name : List ℕ) → AreNamesIn (etc_files root) contents etc → AreNamesIn (usr_files root) contents usr
    → Contains (if from_etc then etc else usr) name
    → is_some (bytes_at contents (root ++ ((if from_etc then codes "/etc/udev/hwdb.d/" else codes "/usr/lib/udev/hwdb.d/") ++ name))) ≡ true
there_at root contents etc usr true name in_etc in_usr has =
    ap (λ p. is_some (bytes_at contents p)) (sym (append_assoc root (codes "/etc/udev/hwdb.d") (47 ∷ name)))
    ∙ (All-contains (IsNameIn (etc_files root) contents) etc name in_etc.each has).there
there_at root contents etc usr false name in_etc in_usr has =
    ap (λ p. is_some (bytes_at contents p)) (sym (append_assoc root (codes "/usr/lib/udev/hwdb.d") (47 ∷ name)))
    ∙ (All-contains (IsNameIn (usr_files root) contents) usr name in_usr.each has).there

-- so one that is there can't be read only if that may fail
there_reason : (MayFail : List ℕ → Type 0) (contents : Contents) (path at : List ℕ) → is_some (bytes_at contents path) ≡ true → at ≡ path → IsUnreadable MayFail contents at → MayFail at
there_reason MayFail contents path at there is (inl none) = absurd (let h : is_some (bytes_at contents at) ≡ true = ap (λ p. is_some (bytes_at contents p)) is ∙ there in cc)
there_reason MayFail contents path at there is (inr fails) = fails

one_reason : (MayFail : List ℕ → Type 0) (contents : Contents) (path : List ℕ) (refusal : Refusal) → is_some (bytes_at contents path) ≡ true → IsUnread path refusal
    → HasReason (IsUnreadable MayFail contents) ⊥ contents refusal → HasReason MayFail ⊥ contents refusal
one_reason MayFail contents path (Plain e) there h r = r
one_reason MayFail contents path NoDatabase there h r = r
one_reason MayFail contents path (InWords text) there h r = r
one_reason MayFail contents path (At Read at cause) there h r = there_reason MayFail contents path at.items there h r
one_reason MayFail contents path (At Write at cause) there h r = r
one_reason MayFail contents path (At TooLong at cause) there h r = r
one_reason MayFail contents path (At TooManyFiles at cause) there h r = r
one_reason MayFail contents path (At TooManyLines at cause) there h r = r
one_reason MayFail contents path (At TooLarge at cause) there h r = r
one_reason MayFail contents path (At BadPosition at cause) there h r = r
one_reason MayFail contents path (At (BadDatabase fault) at cause) there h r = r
one_reason MayFail contents path (At (Replace u) at cause) there h r = r
one_reason MayFail contents path (At Memory at cause) there h r = r

-- what is there in a part is there in the whole
whole_there : (all files : Contents) (path : List ℕ) → IsPartOf all files → is_some (bytes_at files path) ≡ true → is_some (bytes_at all path) ≡ true
whole_there all files path part there = ap is_some (sym (part path there)) ∙ there

pub chosen_reason : (MayFail : List ℕ → Type 0) (root : List ℕ) (all files : Contents) (etc usr : List (List ℕ)) (chosen : List Choice) (refusal : Refusal)
    → AreNamed root all files etc usr → All (IsListed etc usr) chosen
    → (refusal ≡ Plain Memory) ⊎ IsChosenUnread root chosen refusal
    → HasReason (IsUnreadable MayFail all) ⊥ all refusal → HasReason MayFail ⊥ all refusal
chosen_reason MayFail root all files etc usr chosen refusal named listed (inl memory) r = subst (HasReason MayFail ⊥ all) (sym memory) tt
chosen_reason MayFail root all files etc usr chosen refusal named listed (inr (c, has, unread)) r =
    one_reason MayFail all (root ++ path_of c) refusal
    (whole_there all files (root ++ path_of c) named.part
    (there_at root files etc usr c.from_etc c.name named.in_etc named.in_usr (All-contains (IsListed etc usr) chosen c listed has))) unread r

-- what is read of the chosen files is the same in the part
pub texts_in_part : (root : List ℕ) (all files : Contents) (etc usr : List (List ℕ)) (chosen : List Choice) → AreNamed root all files etc usr → All (IsListed etc usr) chosen
    → map (λ (c : Choice). bytes_at all (root ++ path_of c)) chosen ≡ map (λ (c : Choice). bytes_at files (root ++ path_of c)) chosen
texts_in_part root all files etc usr [] named listed = refl
texts_in_part root all files etc usr (c ∷ chosen) named listed =
    ap (λ o. o ∷ map (λ (x : Choice). bytes_at all (root ++ path_of x)) chosen)
    (sym (named.part (root ++ path_of c) (there_at root files etc usr c.from_etc c.name named.in_etc named.in_usr (All-head (IsListed etc usr) c chosen listed))))
    ∙ ap (λ l. bytes_at files (root ++ path_of c) ∷ l) (texts_in_part root all files etc usr chosen named (All-tail (IsListed etc usr) c chosen listed))

-- and so is the first of them that can't be read
text_in_part : (root : List ℕ) (all files : Contents) (etc usr : List (List ℕ)) (c : Choice) → AreNamed root all files etc usr → IsListed etc usr c
    → IsText all (root ++ path_of c) → IsText files (root ++ path_of c)
text_in_part root all files etc usr c named listed text = record {
  bytes = text.bytes;
  there = named.part (root ++ path_of c) (there_at root files etc usr c.from_etc c.name named.in_etc named.in_usr listed) ∙ text.there;
  within = text.within;
}

pub first_in_part : (root : List ℕ) (all files : Contents) (etc usr : List (List ℕ)) (chosen : List Choice) (refusal : Refusal) → AreNamed root all files etc usr → All (IsListed etc usr) chosen
    → IsFirstUnread root all chosen refusal → IsFirstUnread root files chosen refusal
first_in_part root all files etc usr chosen refusal named listed unread =
    let whole = subst (All (IsListed etc usr)) unread.are listed in
    let before = subst (All (IsListed etc usr)) (take-append_seam unread.before (unread.first ∷ unread.after))
    (All-take (IsListed etc usr) (length unread.before) (unread.before ++ unread.first ∷ unread.after) whole) in
    record {
      before = unread.before;
      first = unread.first;
      after = unread.after;
      are = unread.are;
      read = λ k d lt. text_in_part root all files etc usr (get_or unread.before k d) named (before k d lt) (unread.read k d lt);
      unread = unread.unread;
    }

-- one of the chosen that can't be read
pub chosen_fails : (MayFail : List ℕ → Type 0) (root : List ℕ) (contents : Contents) (etc usr : List (List ℕ)) (c : Choice)
    → AreNamesIn (etc_files root) contents etc → AreNamesIn (usr_files root) contents usr → IsListed etc usr c
    → IsUnreadable MayFail contents (root ++ path_of c) → MayFail (root ++ path_of c)
chosen_fails MayFail root contents etc usr c in_etc in_usr listed un =
    there_reason MayFail contents (root ++ path_of c) (root ++ path_of c) (there_at root contents etc usr c.from_etc c.name in_etc in_usr listed) refl un
