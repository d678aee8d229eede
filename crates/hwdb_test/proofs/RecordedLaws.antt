-- A recorded test file holds of its database, and is read as what was recorded.
use Rattle.std.proofs.Common.{◌≡◌, ◌∙◌, ◌+◌, ◌++◌, ap, sym, refl, subst, ℕ, Bool, true, false, not, drop, List, [], ◌∷◌, map, if◌then◌else◌, flat_map}
use Rattle.std.specs.List.{AllByRecursion, list_any}
use Rattle.std.proofs.lemmas.List.Elements.{All-from_recursion}
use Rattle.hwdb_spec.specs.Folders.{Source, same}
use Rattle.hwdb_spec.specs.Lemmas.Orders.{same_text}
use Rattle.hwdb_spec.specs.Lemmas.Truth.{or_left, or_right}
use Rattle.hwdb_spec.specs.Lines.{Line, has_equals, has_key, is_none, key, property, value}
use Rattle.hwdb_spec.specs.Tree.{Tree, answers}
use Rattle.hwdb_spec.specs.declared.Fault.{Fault}
use Rattle.hwdb_spec_commands.specs.Recorded.{recorded_text, wanting_line}
use Rattle.hwdb_spec_commands.specs.Wanted.{GivenValue, device_held, file_held, held, holds, is_about, is_given, names, no_record, record_held, records, wanted_key, wants_value}
use Rattle.hwdb_test.specs.Laws.{CountingAreEffective, RecordedHolds, RecordedIsRead, as_wanted, wishes, wishes_of}
use Rattle.hwdb_test.specs.Views.{pair_of}
use Rattle.hwdb_test.proofs.LawLemmas.{zero_if_all_hold}
use Rattle.hwdb_test.proofs.RecordedLemmas.{AreSayable, IsSaid, are_sayable, body, given_to, line, none_malformed, recorded_records, records_of, wants_from, after_body}

-- ---- each line holds

abbrev AllHold : List Bool → Type 0
AllHold hs = AllByRecursion (λ (h : Bool). h ≡ true) hs

hold_behind : (hs ks : List Bool) → AllHold hs → AllHold ks → AllHold (hs ++ ks)
hold_behind [] ks h k = k
hold_behind (x ∷ hs) ks h k = (h.0, hold_behind hs ks h.1 k)

-- a line that wants one of some properties holds of them
wanted_holds : (all : List Line) (properties : List (List ℕ × List ℕ)) (l : Line) → wants_value l ≡ true → list_any (is_given l) properties ≡ true → holds all properties l ≡ true
wanted_holds all properties l wants any = by (wants_value l) wants
  where
    by : (b : Bool) → b ≡ true → (if b then list_any (is_given l) properties else not (list_any (λ p. is_about all l p.0) properties)) ≡ true
    by true e = any
    by false e = cc

-- what some of a device's properties pass, all of them do
abbrev AreAmong : (some all : List (List ℕ × List ℕ)) → Type 0
AreAmong some all = (test : List ℕ × List ℕ → Bool) → list_any test some ≡ true → list_any test all ≡ true

wants_hold : (all : List Line) (properties : List (List ℕ × List ℕ)) (k : ℕ) (given : List GivenValue) → AllByRecursion IsSaid given → AreAmong (map pair_of given) properties
    → AllHold (map (holds all properties) (wants_from k given))
wants_hold all properties k [] h among = tt
wants_hold all properties k (g ∷ more) h among =
    let l = line (k + 1) (wanting_line g) in (
      wanted_holds all properties l h.0.wants (among (is_given l) (or_left (is_given l (pair_of g)) (list_any (is_given l) (map pair_of more)) h.0.given)),
      wants_hold all properties (k + 1 + 1) more h.1 (λ test any. among test (or_right (test (pair_of g)) (list_any test (map pair_of more)) any)),
    )

body_holds : (all : List Line) (k : ℕ) (given : List GivenValue) → AllByRecursion IsSaid given → AllHold (map (holds all (map pair_of given)) (body k given))
body_holds all k [] h = (refl, tt)
body_holds all k (g ∷ more) h = wants_hold all (map pair_of (g ∷ more)) k (g ∷ more) h (λ test any. any)

records_hold : CountingAreEffective → (t : Tree) (k : ℕ) (devices : List (List ℕ)) → AreSayable t devices → AllHold (flat_map (record_held t) (records_of t k devices))
records_hold are t k [] h = tt
records_hold are t k (device ∷ more) h =
    let given = given_to t device in
    let own = body (k + 1) given in
    let first : AllHold (device_held own t device) =
    subst (λ (ps : List (List ℕ × List ℕ)). AllHold (map (holds own ps) own)) (are (answers device t)) (body_holds own (k + 1) given h.0.said) in
    hold_behind (device_held own t device ++ []) (flat_map (record_held t) (records_of t (after_body (k + 1) given + 1) more)) (hold_behind (device_held own t device) [] first tt)
    (records_hold are t (after_body (k + 1) given + 1) more h.1)

abbrev source : (path text : List ℕ) → Source
source path text = record { name = path; bytes = text }

file_holds : CountingAreEffective → (t : Tree) (devices : List (List ℕ)) (path : List ℕ) → AreSayable t devices → AllHold (file_held t (source path (recorded_text t devices)))
file_holds are t devices path h =
    let text = recorded_text t devices in
    let whole : file_held t (source path text) ≡ flat_map (record_held t) (records_of t 1 devices) =
    ap (λ (fs : List Fault). if is_none fs then flat_map (record_held t) (records text) else map (λ f. false) fs) (none_malformed t devices h)
    ∙ ap (flat_map (record_held t)) (recorded_records t devices h) in
    subst AllHold (sym whole) (records_hold are t 1 devices h)

pub recorded_holds : CountingAreEffective → RecordedHolds
recorded_holds are t devices path h =
    let s = source path (recorded_text t devices) in
    let all : AllHold (file_held t s ++ []) = hold_behind (file_held t s) [] (file_holds are t devices path (are_sayable t devices h)) tt in
    (zero_if_all_hold (s ∷ []) t).1 (All-from_recursion (λ (b : Bool). b ≡ true) (held t (s ∷ [])) all)

-- ---- what is read

named_by : (a b : Bool) → (if a then b else false) ≡ true → (a ≡ true) × (b ≡ true)
named_by true b h = (refl, h)
named_by false b h = cc

-- the key that a line wants, if it wants a value
key_is : (l : Line) → wants_value l ≡ true → wanted_key l ≡ key l
key_is l wants = by (has_equals l) (named_by (has_equals l) (has_key l) wants).0
  where
    by : (b : Bool) → b ≡ true → (if b then key l else drop 1 (property l)) ≡ key l
    by true e = refl
    by false e = cc

wish_is : (k : ℕ) (g : GivenValue) → IsSaid g → ◌≡◌ {A = List ℕ × List ℕ} (key (line k (wanting_line g)), value (line k (wanting_line g))) (g.key, g.value)
wish_is k g h =
    let l = line k (wanting_line g) in
    let both = named_by (names g.key l) (same g.value (value l)) h.given in
    let own : g.key ≡ key l = same_text g.key (wanted_key l) both.0 ∙ key_is l h.wants in
    let of : g.value ≡ value l = same_text g.value (value l) both.1 in
    λ i. (sym own i, sym of i)

wishes_are : (k : ℕ) (given : List GivenValue) → AllByRecursion IsSaid given → map (λ l. (key l, value l)) (wants_from k given) ≡ map pair_of given
wishes_are k [] h = refl
wishes_are k (g ∷ more) h =
    ap (λ (p : List ℕ × List ℕ). p ∷ map (λ l. (key l, value l)) (wants_from (k + 1 + 1) more)) (wish_is (k + 1) g h.0)
    ∙ ap (λ (ps : List (List ℕ × List ℕ)). pair_of g ∷ ps) (wishes_are (k + 1 + 1) more h.1)

body_wishes : (k : ℕ) (given : List GivenValue) → AllByRecursion IsSaid given → map (λ l. (key l, value l)) (body k given) ≡ as_wanted (map pair_of given)
body_wishes k [] h = refl
body_wishes k (g ∷ more) h = wishes_are k (g ∷ more) h

records_wish : CountingAreEffective → (t : Tree) (k : ℕ) (devices : List (List ℕ)) → AreSayable t devices
    → map wishes (records_of t k devices) ≡ map (wishes_of t) devices ++ wishes no_record ∷ []
records_wish are t k [] h = refl
records_wish are t k (device ∷ more) h =
    let given = given_to t device in
    let m = after_body (k + 1) given + 1 in
    let own = body_wishes (k + 1) given h.0.said ∙ ap as_wanted (are (answers device t)) in
    ap (λ (ps : List (List ℕ × List ℕ)). (device ∷ [], ps) ∷ map wishes (records_of t m more)) own
    ∙ ap (λ (rs : List (List (List ℕ) × List (List ℕ × List ℕ))). wishes_of t device ∷ rs) (records_wish are t m more h.1)

pub recorded_is_read : CountingAreEffective → RecordedIsRead
recorded_is_read are t devices h =
    let s = are_sayable t devices h in
    ap (map wishes) (recorded_records t devices s) ∙ records_wish are t 1 devices s
