-- Files that are left out: the names of those that are left, and errors at reading these.
use Rattle.std.proofs.Common.{◌≡◌, ◌∙◌, ◌++◌, ◌||◌, ap, sym, subst, refl, arith, append_assoc, ℕ, zero, suc, List, [], ◌∷◌, Bool, true, false, Option, None, Contains, bytes_eq, filter, get_or, if◌then◌else◌, not, length-append, inl, inr, ⊎_elim, length}
use Rattle.std.specs.Prelude.{codes, is_some, option_map, Contains}
use Rattle.std.specs.List.{list_any}
use Rattle.std.proofs.lemmas.Bool.{or_left, or_right, cond_both}
use Rattle.std.proofs.lemmas.List.{append_cancel_left}
use Rattle.std.proofs.lemmas.List.Elements.{All-filter, filter_passes}
use Rattle.std.proofs.lemmas.Slice.Eq.{bytes_eq-Decides}
use Rattle.hwdb_spec.specs.Folders.{lists, same, Choice, choice}
use Rattle.hwdb_spec.specs.Store.{Contents, Stored, path_in}
use Rattle.hwdb_spec.specs.System.{AreNamesIn, IsNameIn, etc_files, usr_files}
use Rattle.hwdb_spec.specs.Selected.{AreNamed, IsPartOf}
use Rattle.hwdb_spec_commands.specs.LeftOut.{is_named, less}
use Rattle.hwdb_spec.specs.Lemmas.Orders.{same_itself, same_text}
use Rattle.hwdb_spec.specs.Lemmas.Truth.{neither_or}
use Rattle.std.proofs.Math.Seq.{get_or-append_seam}
use Rattle.hwdb_spec_commands.specs.Reading.{AreUnread, AreUnreadIn, IsChosenUnread, IsFirstUnread}
use Rattle.hwdb_spec_commands.specs.declared.refusals.Refusal.{Refusal}

-- a name that passes is among those that are kept
pub contains_filter : (p : List ℕ → Bool) (names : List (List ℕ)) (name : List ℕ) → Contains names name → p name ≡ true → Contains (filter p names) name
contains_filter p [] name (k, lt, is) pass = absurd (omega (arith, lt))
contains_filter p (x ∷ names) name (zero, lt, is) pass =
    cond_both (p x) (x ∷ filter p names) (filter p names) (λ l. Contains l name) (λ e. (0, omega arith, is)) (λ e. absurd (let h : p x ≡ true = ap p is ∙ pass in cc))
contains_filter p (x ∷ names) name (suc k, lt, is) pass =
    let rest = contains_filter p names name (k, omega (arith, lt), is) pass in
    cond_both (p x) (x ∷ filter p names) (filter p names) (λ l. Contains l name) (λ e. (suc rest.0, omega (arith, rest.1), rest.2)) (λ e. rest)

-- ---- what is left is a part
abbrev bytes_of : Stored → List ℕ
bytes_of f = f.bytes

part_by : (b : Bool) (o : Option Stored) → is_some (option_map bytes_of (if b then None else o)) ≡ true → option_map bytes_of (if b then None else o) ≡ option_map bytes_of o
part_by true o there = absurd (cc)
part_by false o there = refl

pub less_part : (names : List (List ℕ)) (root : List ℕ) (contents : Contents) → IsPartOf contents (less names root contents)
less_part names root contents path there = part_by (list_any (is_named root path) names) (contents path) there

there_by : (b : Bool) (o : Option Stored) → is_some (option_map bytes_of (if b then None else o)) ≡ true → b ≡ false
there_by true o there = absurd (cc)
there_by false o there = refl

still_by : (b : Bool) (o : Option Stored) → b ≡ false → is_some (option_map bytes_of o) ≡ true → is_some (option_map bytes_of (if b then None else o)) ≡ true
still_by true o e there = absurd (cc)
still_by false o e there = there

-- ---- a path in a folder is named by its name alone
unequal : (p q : List ℕ) → (p ≡ q → ⊥) → bytes_eq p q ≡ false
unequal p q apart = by (bytes_eq p q) refl
  where
    by : (b : Bool) → bytes_eq p q ≡ b → bytes_eq p q ≡ false
    by true e = absurd (apart ((bytes_eq-Decides p q).0 e))
    by false e = e

same_end : (name n : List ℕ) → 47 ∷ name ≡ 47 ∷ n → name ≡ n
same_end name n e = append_cancel_left (47 ∷ []) name n e

abbrev etc_end : List ℕ → List ℕ
etc_end name = codes "/etc/udev/hwdb.d" ++ 47 ∷ name

abbrev usr_end : List ℕ → List ℕ
usr_end name = codes "/usr/lib/udev/hwdb.d" ++ 47 ∷ name

folders_apart : (root name n : List ℕ) → path_in (etc_files root) name ≡ path_in (usr_files root) n → ⊥
folders_apart root name n e =
    let ends : etc_end name ≡ usr_end n = append_cancel_left root (etc_end name) (usr_end n)
    (sym (append_assoc root (codes "/etc/udev/hwdb.d") (47 ∷ name)) ∙ e ∙ append_assoc root (codes "/usr/lib/udev/hwdb.d") (47 ∷ n)) in
    let second : 101 ≡ 117 = ap (λ (l : List ℕ). get_or l 1 0) ends in
    absurd (omega (arith, second))

pub etc_named : (root name n : List ℕ) → same n name ≡ is_named root (path_in (etc_files root) name) n
etc_named root name n = by (same n name) refl
  where
    by : (b : Bool) → same n name ≡ b → b ≡ is_named root (path_in (etc_files root) name) n
    by true e = sym (or_left _ (bytes_eq (path_in (etc_files root) name) (path_in (usr_files root) n))
        ((bytes_eq-Decides (path_in (etc_files root) name) (path_in (etc_files root) n)).1 (ap (path_in (etc_files root)) (sym (same_text n name e)))))
    by false e = sym (neither_or (bytes_eq (path_in (etc_files root) name) (path_in (etc_files root) n)) (bytes_eq (path_in (etc_files root) name) (path_in (usr_files root) n))
        (unequal (path_in (etc_files root) name) (path_in (etc_files root) n)
        (λ is. absurd (let h : same n name ≡ true = ap (λ (m : List ℕ). same n m) (same_end name n (append_cancel_left (etc_files root) (47 ∷ name) (47 ∷ n) is)) ∙ same_itself n in cc)))
        (unequal (path_in (etc_files root) name) (path_in (usr_files root) n) (folders_apart root name n)))

pub usr_named : (root name n : List ℕ) → same n name ≡ is_named root (path_in (usr_files root) name) n
usr_named root name n = by (same n name) refl
  where
    by : (b : Bool) → same n name ≡ b → b ≡ is_named root (path_in (usr_files root) name) n
    by true e = sym (or_right (bytes_eq (path_in (usr_files root) name) (path_in (etc_files root) n)) _
        ((bytes_eq-Decides (path_in (usr_files root) name) (path_in (usr_files root) n)).1 (ap (path_in (usr_files root)) (sym (same_text n name e)))))
    by false e = sym (neither_or (bytes_eq (path_in (usr_files root) name) (path_in (etc_files root) n)) (bytes_eq (path_in (usr_files root) name) (path_in (usr_files root) n))
        (unequal (path_in (usr_files root) name) (path_in (etc_files root) n) (λ is. folders_apart root n name (sym is)))
        (unequal (path_in (usr_files root) name) (path_in (usr_files root) n)
        (λ is. absurd (let h : same n name ≡ true = ap (λ (m : List ℕ). same n m) (same_end name n (append_cancel_left (usr_files root) (47 ∷ name) (47 ∷ n) is)) ∙ same_itself n in cc))))

any_same : (f g : List ℕ → Bool) → ((n : List ℕ) → f n ≡ g n) → (xs : List (List ℕ)) → list_any f xs ≡ list_any g xs
any_same f g same [] = refl
any_same f g same (x ∷ xs) = ap (λ b. b || list_any f xs) (same x) ∙ ap (λ b. g x || b) (any_same f g same xs)

abbrev other : (gone : List (List ℕ)) → List ℕ → Bool
other gone name = not (lists name gone)

from_not : (b : Bool) → not b ≡ true → b ≡ false
from_not true e = absurd (cc)
from_not false e = refl

to_not : (b : Bool) → b ≡ false → not b ≡ true
to_not true e = absurd (cc)
to_not false e = refl

-- the names of a folder that are left are the others
module _ (root folder : List ℕ) (gone : List (List ℕ)) (contents : Contents) (named : (name n : List ℕ) → same n name ≡ is_named root (path_in folder name) n) where
  is_gone : (name : List ℕ) → lists name gone ≡ list_any (is_named root (path_in folder name)) gone
  is_gone name = any_same (λ n. same n name) (is_named root (path_in folder name)) (named name) gone

  one_left : (name : List ℕ) → IsNameIn folder contents name → other gone name ≡ true → IsNameIn folder (less gone root contents) name
  one_left name is left = record {
    counts = is.counts;
    plain = is.plain;
    there = still_by (list_any (is_named root (path_in folder name)) gone) (contents (path_in folder name)) (sym (is_gone name) ∙ from_not (lists name gone) left) is.there;
  }

  pub names_left : (names : List (List ℕ)) → AreNamesIn folder contents names → AreNamesIn folder (less gone root contents) (filter (other gone) names)
  names_left names are = record {
    each = λ k d lt. one_left _ (All-filter (other gone) (IsNameIn folder contents) names are.each k d lt) (filter_passes (other gone) names k d lt);
    all = λ name is. contains_filter (other gone) names name
        (are.all name record { counts = is.counts; plain = is.plain; there = ap is_some (sym (less_part gone root contents (path_in folder name) is.there)) ∙ is.there })
        (to_not (lists name gone) (is_gone name ∙ there_by (list_any (is_named root (path_in folder name)) gone) (contents (path_in folder name)) is.there));
  }

pub named_less : (root : List ℕ) (contents : Contents) (gone etc usr etc2 usr2 : List (List ℕ)) → AreNamesIn (etc_files root) contents etc → AreNamesIn (usr_files root) contents usr
    → etc2 ≡ filter (other gone) etc → usr2 ≡ filter (other gone) usr → AreNamed root contents (less gone root contents) etc2 usr2
named_less root contents gone etc usr etc2 usr2 in_etc in_usr is_etc is_usr = record {
  part = less_part gone root contents;
  in_etc = subst (AreNamesIn (etc_files root) (less gone root contents)) (sym is_etc) (names_left root (etc_files root) gone contents (etc_named root) etc in_etc);
  in_usr = subst (AreNamesIn (usr_files root) (less gone root contents)) (sym is_usr) (names_left root (usr_files root) gone contents (usr_named root) usr in_usr);
}

-- what can't be read at a place can't be read
at_any : (root : List ℕ) (contents : Contents) (chosen : List Choice) (refusal : Refusal) → IsFirstUnread root contents chosen refusal → IsChosenUnread root chosen refusal
at_any root contents chosen refusal unread = (
  unread.first,
  subst (λ (l : List Choice). Contains l unread.first) (sym unread.are)
      (length unread.before, (let h = length-append unread.before (unread.first ∷ unread.after) in omega (arith, h)), get_or-append_seam unread.before unread.first unread.after unread.first),
  unread.unread,
)

pub any_unread : (skip : Bool) (root : List ℕ) (contents : Contents) (refusal : Refusal) → AreUnread root contents refusal → AreUnreadIn skip root contents refusal
any_unread false root contents refusal unread = unread
any_unread true root contents refusal (inl memory) = inl memory
any_unread true root contents refusal (inr (inl etc)) = inr (inl etc)
any_unread true root contents refusal (inr (inr (inl usr))) = inr (inr (inl usr))
any_unread true root contents refusal (inr (inr (inr choice))) = inr (inr (inr record {
  etc = choice.etc;
  usr = choice.usr;
  in_etc = choice.in_etc;
  in_usr = choice.in_usr;
  refused = ⊎_elim inl (λ one. inr (one.0, at_any root contents _ refusal one.1)) choice.refused;
}))
