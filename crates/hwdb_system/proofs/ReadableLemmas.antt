-- The text files of both folders, some of which may be left out, follow the front of a plan.
use Rattle.std.proofs.Common.{◌≡◌, ◌≤◌, ◌∙◌, ◌⊎◌, ◌<◌, ◌+◌, ◌++◌, inl, inr, ap, sym, subst, refl, ℕ, List, [], ◌∷◌, Bool, true, false, Option, Some, Result, Ok, Err, IfErr, IfOk, All, Contains, drop, get_or, if◌then◌else◌, length, map, string_bytes}
use Rattle.std.proofs.lemmas.List.{drop_all, drop_more, length-map, map-append}
use Rattle.std.proofs.lemmas.List.Elements.{All-contains, All-head, All-map, All-tail, Contains-get_or}
use Rattle.std.specs.Result.{IsErrAnd}
use Rattle.hwdb_spec.specs.Folders.{Choice, Source, choice, chosen_of, contents, first_of, lists, max_files, names, path_of, same}
use Rattle.hwdb_spec.specs.Store.{Contents}
use Rattle.hwdb_spec.specs.System.{bytes_at, etc_files, usr_files}
use Rattle.hwdb_spec.specs.Selected.{AreSelected, IsListed}
use Rattle.hwdb_spec.specs.declared.errors.ToolError.TheVariants.{Memory, Read, TooManyFiles}
use Rattle.hwdb_spec_commands.specs.LeftOutTold.{AreTold, left_out_line}
use Rattle.hwdb_spec_commands.specs.Refusals.{IsUnread}
use Rattle.hwdb_spec_commands.specs.Told.{IsReadTo, Reads}
use Rattle.hwdb_spec_commands.specs.declared.refusals.Refusal.{Refusal}
use Rattle.hwdb_spec_commands.specs.declared.refusals.Refusal.TheVariants.{At, InWords, NoDatabase, Plain}
use Rattle.hwdb_plan.specs.Folders.{choose, names_of, texts_of_names}
use Rattle.hwdb_plan.specs.Lemmas.Folders.{few_chosen, too_many}
use Rattle.hwdb_plan.specs.Lemmas.Readable.{LooksOn, ends_then, goes_then, looks_all, looks_end, looks_first, looks_over, looks_past, looks_read, names_told, others_of_none}
use Rattle.hwdb_plan.specs.Plans.{Plan, ReachesValue}
use Rattle.hwdb_plan.specs.Readable.{EndsEarly, GoesOn, LeftOut, Readable, ReachesOf, files_of, is_read_error, look, none_left_out, one_left_out, others, read_if, read_names, read_of, readable, readable_texts}
use Rattle.hwdb_system.specs.LeftOut.{IsNoted, IsNotedOf}
use Rattle.hwdb_system.specs.Selections.{AreLeftOutBy, IsAmong, IsReadableOf, IsSelectionBut, IsSelectionOf, texts_in}
use Rattle.hwdb_system.specs.declared.folders.Selection.{Selection}
use Rattle.hwdb_system.specs.declared.left_out.ReadableSelection.{ReadableSelection}
use Rattle.hwdb_plan.specs.Lemmas.Fronts.{lines_more}
use Rattle.hwdb_system.specs.Lemmas.HeldFiles.{first_read, held, lists_has, names_back}
use Rattle.hwdb_text.specs.Views.{choice_of}
use Rattle.hwdb_text.specs.declared.choice.Chosen.{Chosen}

-- ---- what is found of files that are left out
module _ (w : Reads) (root : List ℕ) (chosen : List Chosen) where
  abbrev choices : List Choice
  choices = map choice_of chosen

  -- so many were looked at, and these can't be read
  pub record HaveLooked (k : ℕ) (gone : List (List ℕ)) (said : List ℕ) : Type 0 where
    pub words : List (List ℕ)
    pub left : LeftOut
    pub are : AreLeftOutBy root gone said left
    pub on : LooksOn w root choices (map choice_of (drop k chosen)) words left

  pub have_none : (gone : List (List ℕ)) (said : List ℕ) → gone ≡ [] → said ≡ [] → HaveLooked 0 gone said
  have_none gone said no_name no_line = record {
    words = [];
    left = none_left_out;
    are = record { named = sym no_name; is_said = no_line; told = refl };
    on = looks_first w root choices;
  }

  module _ (k : ℕ) (file : Chosen) (gone : List (List ℕ)) (said : List ℕ) (lt : k < length chosen) (is : file ≡ get_or chosen k file) (have : HaveLooked k gone said) where
    abbrev path : List ℕ
    path = root ++ path_of (choice_of file)

    abbrev rest : List Choice
    rest = map choice_of (drop (k + 1) chosen)

    here : LooksOn w root choices (choice_of file ∷ rest) have.words have.left
    here = subst (λ l. LooksOn w root choices (map choice_of l) have.words have.left) (drop_more chosen k file lt ∙ ap (λ f. f ∷ drop (k + 1) chosen) (sym is)) have.on

    past : {Y : Type 0} (value : Y → List ℕ) (r : Refusal) (gone2 : List (List ℕ)) (said2 : List ℕ) → IsReadTo value (w.text path) path (Err r) → IsUnread path r → IsNoted r said said2
        → gone2 ≡ gone ++ (choice_of file).name ∷ [] → HaveLooked (k + 1) gone2 said2
    past value (Plain e) gone2 said2 told unread n more = absurd n
    past value NoDatabase gone2 said2 told unread n more = absurd n
    past value (InWords text) gone2 said2 told unread n more = absurd n
    past value (At Read at cause) gone2 said2 (inl memory) unread n more = absurd (cc)
    past value (At Read at cause) gone2 said2 (inr (u, untold, says)) unread n more = record {
      words = have.words ++ n.0 ∷ [];
      left = one_left_out root (choice_of file) cause n.0 have.left;
      are = record {
        named = map-append (λ (x : Choice). x.name) have.left.files (choice_of file ∷ []) ∙ ap (λ l. l ++ (choice_of file).name ∷ []) have.are.named ∙ sym more;
        is_said = n.1 ∙ ap (λ (l : List ℕ). l ++ left_out_line at.items cause n.0) have.are.is_said ∙ ap (λ (p : List ℕ). have.left.said ++ left_out_line p cause n.0) unread;
        told = lines_more root have.left.files have.left.said (choice_of file) cause n.0 have.are.told;
      };
      on = looks_past w root choices (choice_of file) rest have.words have.left here u at.items cause n.0 untold says;
    }
    past value (At e at cause) gone2 said2 told unread n more = absurd n

    pub have_more : {Y : Type 0} (value : Y → List ℕ) (read : Result Y Refusal) (gone2 : List (List ℕ)) (said2 : List ℕ) → IsReadTo value (w.text path) path read → IfErr read (IsUnread path)
        → IsNotedOf read (choice_of file).name gone gone2 said said2 → HaveLooked (k + 1) gone2 said2
    have_more value (Ok bytes) gone2 said2 told unread same = record {
      words = have.words;
      left = have.left;
      are = record { named = have.are.named ∙ sym same.0; is_said = same.1 ∙ have.are.is_said; told = have.are.told };
      on = looks_read w root choices (choice_of file) rest have.words have.left here (value bytes) told;
    }
    have_more value (Err r) gone2 said2 told unread note = past value r gone2 said2 told unread note.0 note.1

    -- an error that is handed on
    pub have_ended : {Y V : Type 0} (value : Y → List ℕ) (Is : V → LeftOut → Type 0) (read : Result Y Refusal) (r : Refusal) (result : Result V Refusal) → IsReadTo value (w.text path) path read
        → (r ≡ Plain Memory) ⊎ (read ≡ Err r) → is_read_error r ≡ false → IsErrAnd result (λ x. x ≡ r)
        → (words : List (List ℕ)) × ReachesOf Is w (look root choices words none_left_out) result
    have_ended value Is read r (Ok v) told why other same = absurd same
    have_ended value Is read r (Err x) told (inl memory) other same = ([], inl (same ∙ memory))
    have_ended value Is read r (Err x) told (inr of) other same = (
      have.words,
      subst (λ (y : Refusal). EndsEarly w (look root choices have.words none_left_out) y) (sym same)
          (looks_end w root choices (choice_of file) rest have.words have.left here r (subst (λ (y : Result _ Refusal). IsReadTo value (w.text path) path y) of told) other),
    )

  pub have_all : {V : Type 0} (Names : V → List (List ℕ)) (Said : V → List ℕ) (k : ℕ) (v : V) → length chosen ≤ k → HaveLooked k (Names v) (Said v)
      → (words : List (List ℕ)) × ReachesOf (λ u. AreLeftOutBy root (Names u) (Said u)) w (look root choices words none_left_out) (Ok v)
  have_all Names Said k v le have = (
    have.words,
    (have.left, have.are, looks_all w root choices have.words have.left (subst (λ l. LooksOn w root choices (map choice_of l) have.words have.left) (drop_all k chosen le) have.on)),
  )

-- ---- among the names of both folders
module _ (w : Reads) (root : List ℕ) (etc usr : List (List ℕ)) where
  abbrev Looks : (words : List (List ℕ)) → (LeftOut → Plan) → Plan
  Looks words next = choose etc usr (λ chosen. look root chosen words none_left_out next)

  -- none are chosen
  pub unchosen : {V : Type 0} (Is : V → LeftOut → Type 0) (r : Refusal) (result : Result V Refusal) → (r ≡ Plain Memory) ⊎ ((r ≡ Plain TooManyFiles) × (max_files < length (names etc usr)))
      → IsErrAnd result (λ x. x ≡ r) → (words : List (List ℕ)) × ReachesOf Is w (Looks words) result
  unchosen Is r (Ok v) why is = absurd is
  unchosen Is r (Err x) (inl memory) is = ([], inl (is ∙ memory))
  unchosen Is r (Err x) (inr (error, many)) is = ([], inr (λ next. too_many w etc usr x many (is ∙ error) (λ chosen. look root chosen [] none_left_out next)))

  -- the chosen ones are looked at
  pub chosen_looked : {V : Type 0} (chosen : List Choice) (Is : V → LeftOut → Type 0) (result : Result V Refusal) → length (names etc usr) ≤ max_files → chosen ≡ choice etc usr
      → (words : List (List ℕ)) × ReachesOf Is w (look root chosen words none_left_out) result → (words : List (List ℕ)) × ReachesOf Is w (Looks words) result
  chosen_looked chosen Is result few is (words, reaches) = (
    words,
    goes_then w Is (choose etc usr) (λ l next. look root l words none_left_out next) (choice etc usr) result (few_chosen w etc usr few)
        (subst (λ l. ReachesOf Is w (look root l words none_left_out) result) is reaches),
  )

-- ---- a selection
unsome : (xs ys : List (List ℕ)) → map Some xs ≡ map Some ys → xs ≡ ys
unsome [] [] e = refl
unsome [] (y ∷ ys) e = cc
unsome (x ∷ xs) [] e = cc
unsome (x ∷ xs) (y ∷ ys) e =
    let first : x ≡ y = cc in
    let rest = unsome xs ys (ap (drop 1) e) in
    ap (λ z. z ∷ xs) first ∙ ap (λ zs. y ∷ zs) rest

map_each : (f g : Choice → Option (List ℕ)) (cs : List Choice) → All (λ c. f c ≡ g c) cs → map f cs ≡ map g cs
map_each f g [] same = refl
map_each f g (c ∷ cs) same =
    ap (λ x. x ∷ map f cs) (All-head (λ (d : Choice). f d ≡ g d) c cs same) ∙ ap (λ xs. g c ∷ xs) (map_each f g cs (All-tail (λ (d : Choice). f d ≡ g d) c cs same))

map_some : (f : Choice → List ℕ) (cs : List Choice) → map (λ c. Some (f c)) cs ≡ map Some (map f cs)
map_some f [] = refl
map_some f (c ∷ cs) = ap (λ xs. Some (f c) ∷ xs) (map_some f cs)

all_from : (etc usr : List (List ℕ)) → All (λ (c : Choice). c.from_etc ≡ lists c.name etc) (choice etc usr)
all_from etc usr = All-map (λ (c : Choice). c.from_etc ≡ lists c.name etc) _ (names etc usr) (λ k d lt. refl)

in_folder : (b : Bool) (name : List ℕ) (etc etc2 usr : List (List ℕ)) → lists name etc ≡ b → Contains (if b then etc2 else usr) name → Contains (if b then etc else usr) name
in_folder true name etc etc2 usr is has = lists_has name etc is
in_folder false name etc etc2 usr is has = has

module _ (root : List ℕ) (files : Contents) (etc usr : List (List ℕ)) (s : Selection) (among : IsAmong etc usr s)
    (is : AreSelected root files (map string_bytes s.listed.items) (map choice_of s.chosen.items) (map (λ t. t.items) s.texts.items)) where
  abbrev chosen : List Choice
  chosen = map choice_of s.chosen.items

  abbrev texts : List (List ℕ)
  texts = map (λ t. t.items) s.texts.items

  abbrev Etc : List Source
  Etc = files_of etc (texts_in s)

  abbrev Usr : List Source
  Usr = files_of usr (texts_in s)

  froms : All (λ (c : Choice). c.from_etc ≡ lists c.name etc) chosen
  froms = subst (All (λ (c : Choice). c.from_etc ≡ lists c.name etc)) (sym among.chosen) (all_from etc usr)

  same_choice : chosen_of Etc Usr ≡ choice etc usr
  same_choice =
      ap (λ l. choice l (map (λ (f : Source). f.name) Usr)) (names_back (λ name. first_of name (read_of chosen texts) []) etc)
      ∙ ap (choice etc) (names_back (λ name. first_of name (read_of chosen texts) []) usr)

  one_held : (c : Choice) → Contains chosen c → bytes_at files (root ++ path_of c) ≡ Some (contents Etc Usr c)
  one_held c has =
      let from = All-contains (λ (d : Choice). d.from_etc ≡ lists d.name etc) chosen c froms has in
      let in_it : Contains (if c.from_etc then is.etc else map string_bytes s.listed.items) c.name = All-contains (IsListed is.etc (map string_bytes s.listed.items)) chosen c is.listed has in
      let here = in_folder c.from_etc c.name etc is.etc usr (sym from) (subst (λ l. Contains (if c.from_etc then is.etc else l) c.name) among.listed in_it) in
      sym (first_read etc (bytes_at files) root chosen texts c froms from is.read has) ∙ ap Some (sym (held etc usr (λ name. first_of name (read_of chosen texts) []) c from here))

  texts_held : texts ≡ map (contents Etc Usr) chosen
  texts_held =
      unsome texts (map (contents Etc Usr) chosen)
      (is.read ∙ map_each (λ c. bytes_at files (root ++ path_of c)) (λ c. Some (contents Etc Usr c)) chosen
      (λ k d lt. one_held (get_or chosen k d) (Contains-get_or chosen k d lt)) ∙ map_some (contents Etc Usr) chosen)

  pub selection_of : IsSelectionOf Etc Usr s
  selection_of = record {
    few = subst (λ n. n ≤ max_files) (sym (length-map (names etc usr) _) ∙ ap length (sym same_choice)) among.few;
    listed = among.listed ∙ sym (names_back (λ name. first_of name (read_of chosen texts) []) usr);
    chosen = among.chosen ∙ sym same_choice;
    texts = texts_held ∙ ap (map (contents Etc Usr)) (among.chosen ∙ sym same_choice);
  }

-- what is read of these names
pub names_reach : (w : Reads) (root : List ℕ) (files : Contents) (etc usr : List (List ℕ)) (left : LeftOut) (result : Result Selection Refusal)
    → ReachesValue texts_in w (texts_of_names root etc usr) result → IfOk result (IsAmong etc usr)
    → IfOk result (λ s. AreSelected root files (map string_bytes s.listed.items) (map choice_of s.chosen.items) (map (λ t. t.items) s.texts.items))
    → ReachesOf (IsSelectionBut left) w (read_names root etc usr left) result
names_reach w root files etc usr left (Ok s) goes among is = (
  readable etc usr left (texts_in s),
  record { of = selection_of root files etc usr s among is; gone = refl },
  λ next e ends. goes (λ t. next (readable etc usr left t)) e ends,
)
names_reach w root files etc usr left (Err r) (inl memory) among is = inl memory
names_reach w root files etc usr left (Err r) (inr ends) among is = inr (λ next. ends (λ t. next (readable etc usr left t)))

-- ---- both folders
-- they were listed, and what follows is read
pub both_listed : {V : Type 0} (Is : V → Readable → Type 0) (w : Reads) (skip : Bool) (root : List ℕ) (words etc usr : List (List ℕ)) (result : Result V Refusal)
    → GoesOn w (names_of (etc_files root)) etc → GoesOn w (names_of (usr_files root)) usr → ReachesOf Is w (read_if skip root words etc usr) result
    → ReachesOf Is w (readable_texts skip root words) result
both_listed Is w skip root words etc usr result of_etc of_usr rest =
    goes_then w Is (names_of (etc_files root)) (λ e next. names_of (usr_files root) (λ u. read_if skip root words e u next)) etc result of_etc
    (goes_then w Is (names_of (usr_files root)) (λ u next. read_if skip root words etc u next) usr result of_usr rest)

-- one of them wasn't
pub first_unlisted : {V : Type 0} (Is : V → Readable → Type 0) (w : Reads) (skip : Bool) (root : List ℕ) (words : List (List ℕ)) (r : Refusal) (result : Result V Refusal)
    → EndsEarly w (names_of (etc_files root)) r → IsErrAnd result (λ x. x ≡ r) → ReachesOf Is w (readable_texts skip root words) result
first_unlisted Is w skip root words r result why is = ends_then w Is (names_of (etc_files root)) (λ e next. names_of (usr_files root) (λ u. read_if skip root words e u next)) r result why is

pub second_unlisted : {V : Type 0} (Is : V → Readable → Type 0) (w : Reads) (skip : Bool) (root : List ℕ) (words etc : List (List ℕ)) (r : Refusal) (result : Result V Refusal)
    → GoesOn w (names_of (etc_files root)) etc → EndsEarly w (names_of (usr_files root)) r → IsErrAnd result (λ x. x ≡ r) → ReachesOf Is w (readable_texts skip root words) result
second_unlisted Is w skip root words etc r result of_etc why is =
    goes_then w Is (names_of (etc_files root)) (λ e next. names_of (usr_files root) (λ u. read_if skip root words e u next)) etc result of_etc
    (ends_then w Is (names_of (usr_files root)) (λ u next. read_if skip root words etc u next) r result why is)

-- an error that is handed on
given_early : {X V : Type 0} (Is : V → X → Type 0) (w : Reads) (p : (X → Plan) → Plan) (r : Refusal) (result : Result V Refusal) → EndsEarly w p r → IsErrAnd result (λ x. x ≡ r) → ReachesOf Is w p result
given_early Is w p r (Ok v) early same = absurd same
given_early Is w p r (Err x) early same = subst (λ (y : Refusal). EndsEarly w p y) (sym same) early

-- ---- those that are left
module _ (w : Reads) (root : List ℕ) (words etc usr : List (List ℕ)) where
  abbrev Look : (LeftOut → Plan) → Plan
  Look next = choose etc usr (λ chosen. look root chosen words none_left_out next)

  -- it can't be seen which are left
  pub unlooked : {V : Type 0} (Is : V → Readable → Type 0) (r : Refusal) (result : Result V Refusal) → EndsEarly w Look r → IsErrAnd result (λ x. x ≡ r) → ReachesOf Is w (read_if true root words etc usr) result
  unlooked Is r result why is = ends_then w Is Look (λ left next. read_names root (others left.files etc) (others left.files usr) left next) r result why is

  -- one of those that are left can't be read
  pub left_unread : {V : Type 0} (Is : V → Readable → Type 0) (left : LeftOut) (r : Refusal) (result : Result V Refusal) → GoesOn w Look left
      → EndsEarly w (read_names root (others left.files etc) (others left.files usr) left) r → IsErrAnd result (λ x. x ≡ r) → ReachesOf Is w (read_if true root words etc usr) result
  left_unread Is left r result goes why is =
      goes_then w Is Look (λ l next. read_names root (others l.files etc) (others l.files usr) l next) left result goes
      (given_early Is w (read_names root (others left.files etc) (others left.files usr) left) r result why is)

  -- all of them are
  pub left_read : (left : LeftOut) (s : Selection) (r : ReadableSelection) → GoesOn w Look left → ReachesOf (IsSelectionBut left) w (read_names root (others left.files etc) (others left.files usr) left) (Ok s)
      → r.selection ≡ s → AreTold root left.files left.said → r.said.items ≡ left.said → ReachesOf (IsReadableOf root) w (read_if true root words etc usr) (Ok r)
  left_read left s r goes (x, is, more) one told said =
      goes_then w (IsReadableOf root) Look (λ l next. read_names root (others l.files etc) (others l.files usr) l next) left (Ok r) goes (
        x,
        record {
          of = subst (IsSelectionOf x.etc x.usr) (sym one) is.of;
          is_said = said ∙ ap (λ (l : LeftOut). l.said) (sym is.gone);
          told = subst (λ (l : LeftOut). AreTold root l.files l.said) (sym is.gone) told;
        },
        more,
      )

-- ---- without files that are left out
module _ (w : Reads) (root : List ℕ) (etc usr : List (List ℕ)) where
  -- all files are read
  pub all_read : (skip : Bool) (s : Selection) (r : ReadableSelection) → IsAmong etc usr s → ReachesValue texts_in w (texts_of_names root etc usr) (Ok s) → ReachesOf (IsSelectionBut none_left_out) w (read_names root etc usr none_left_out) (Ok s)
      → r.selection ≡ s → r.said.items ≡ [] → ReachesOf (IsReadableOf root) w (read_if skip root [] etc usr) (Ok r)
  all_read false s r among goes (x, is, more) one none = (x, is_readable x is r one none, more)
    where
      is_readable : (x : Readable) → IsSelectionBut none_left_out s x → (r : ReadableSelection) → r.selection ≡ s → r.said.items ≡ [] → IsReadableOf root r x
      is_readable x is r one none = record {
        of = subst (IsSelectionOf x.etc x.usr) (sym one) is.of;
        is_said = none ∙ ap (λ (l : LeftOut). l.said) (sym is.gone);
        told = subst (λ (l : LeftOut). AreTold root l.files l.said) (sym is.gone) refl;
      }
  all_read true s r among goes over one none =
      left_read w root [] etc usr none_left_out s r
      (λ next e ends. few_chosen w etc usr among.few (λ chosen. look root chosen [] none_left_out next) e (looks_over w root (choice etc usr) [] none_left_out (names_told w root etc usr (texts_in s) goes) next e ends))
      (subst (λ l. ReachesOf (IsSelectionBut none_left_out) w (read_names root l (others [] usr) none_left_out) (Ok s)) (sym (others_of_none etc))
      (subst (λ l. ReachesOf (IsSelectionBut none_left_out) w (read_names root etc l none_left_out) (Ok s)) (sym (others_of_none usr)) over))
      one refl none

  -- one of them can't be
  pub all_unread : (r : Refusal) → ReachesValue texts_in w (texts_of_names root etc usr) (Err r) → ReachesOf (IsReadableOf root) w (read_if false root [] etc usr) (Err r)
  all_unread r (inl memory) = inl memory
  all_unread r (inr ends) = inr (λ next. ends (λ t. next (readable etc usr none_left_out t)))
