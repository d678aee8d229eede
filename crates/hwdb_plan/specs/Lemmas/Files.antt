-- Steps of functions that read files.
use Rattle.std.proofs.Common.{◌≡◌, ◌∙◌, ◌⊎◌, ◌++◌, ◌∷◌, inl, inr, ap, sym, subst, refl, Bool, true, false, List, [], Result, Ok, Err, ℕ, map}
use Rattle.std.proofs.lemmas.List.{map-append}
use Rattle.std.specs.Prelude.{codes, if◌then◌else◌}
use Rattle.std.specs.Result.{IsErrAnd}
use Rattle.hwdb_spec.specs.Folders.{Source}
use Rattle.hwdb_spec_commands.specs.Given.{any_dash, is_dash}
use Rattle.hwdb_spec_commands.specs.Told.{IsUnreadAs, Reads, stop_of, unread_stop}
use Rattle.hwdb_spec.specs.declared.errors.ToolError.TheVariants as error
use Rattle.hwdb_spec_commands.specs.declared.refusals.Refusal.{Refusal}
use Rattle.hwdb_spec_commands.specs.declared.refusals.Refusal.TheVariants as refusal
use Rattle.hwdb_spec_commands.specs.declared.unread.Unread.{Unread}
use Rattle.hwdb_plan.specs.Asking.{if_read}
use Rattle.hwdb_plan.specs.Files.{AreFiles, IsInputText, ReachesFiles, ask_file, file_told, given_files, if_input, is_word, read_files, source_at}
use Rattle.hwdb_plan.specs.Plans.{End, Ends, Follows, Next, Plan}
use Rattle.hwdb_plan.specs.Plans.End.{Stops}

-- ---- files by their names and bytes
pub same_sources : (some all : List Source) → map (λ (s : Source). s.name) some ≡ map (λ (s : Source). s.name) all → map (λ (s : Source). s.bytes) some ≡ map (λ (s : Source). s.bytes) all → some ≡ all
same_sources [] [] names bytes = refl
same_sources [] (t ∷ all) names bytes = cc
same_sources (s ∷ some) [] names bytes = cc
same_sources (s ∷ some) (t ∷ all) names bytes =
    let name : s.name ≡ t.name = cc in
    let text : s.bytes ≡ t.bytes = cc in
    let rest = same_sources some all (cc) (cc) in
    ap (λ (n : List ℕ). source_at n s.bytes ∷ some) name ∙ ap (λ (b : List ℕ). source_at t.name b ∷ some) text ∙ ap (λ (l : List Source). t ∷ l) rest

-- ---- one file
asked_told : (w : Reads) (named : Bool) (path bytes : List ℕ) (next : Next) (e : End) → file_told w named path ≡ Ok bytes → Ends w (next path bytes) e → Ends w (ask_file named path (if_read path next)) e
unfolding Ends
asked_told w true path bytes next e told ends = subst (λ r. Ends w (if_read path next r) e) (sym told) ends
asked_told w false path bytes next e told ends = subst (λ r. Ends w (if_read path next r) e) (sym told) ends

asked_untold : (w : Reads) (named : Bool) (path : List ℕ) (u : Unread) (next : Next) (r : Refusal) → file_told w named path ≡ Err u → stop_of r ≡ unread_stop path u
    → Ends w (ask_file named path (if_read path next)) (Stops (stop_of r))
unfolding Ends
asked_untold w true path u next r told says = subst (λ a. Ends w (if_read path next a) (Stops (stop_of r))) (sym told) (ap Stops says)
asked_untold w false path u next r told says = subst (λ a. Ends w (if_read path next a) (Stops (stop_of r))) (sym told) (ap Stops says)

module _ (w : Reads) (words : List (List ℕ)) (text : List ℕ) where
  -- the bytes of a path: the text of standard input, or what is told of the file
  pub AreBytes : (dash : Bool) (path bytes : List ℕ) → Type 0
  AreBytes true path bytes = bytes ≡ text
  AreBytes false path bytes = file_told w (is_word words path) path ≡ Ok bytes

  module _ (path : List ℕ) (more : List (List ℕ)) (read : List Source) (next : List Source → Plan) where
    abbrev Then : (bytes : List ℕ) → Plan
    Then bytes = read_files words text more (read ++ source_at path bytes ∷ []) next

    abbrev Asked : Next
    Asked at bytes = read_files words text more (read ++ source_at at bytes ∷ []) next

    by_dash : (b : Bool) (bytes : List ℕ) (e : End) → AreBytes b path bytes → Ends w (Then bytes) e
        → Ends w (if b then Then text else ask_file (is_word words path) path (if_read path Asked)) e
    unfolding AreBytes
    by_dash true bytes e are ends = subst (λ (b : List ℕ). Ends w (Then b) e) are ends
    by_dash false bytes e told ends = asked_told w (is_word words path) path bytes Asked e told ends

    one_read : (bytes : List ℕ) (e : End) → AreBytes (is_dash path) path bytes → Ends w (Then bytes) e → Ends w (read_files words text (path ∷ more) read next) e
    unfolding read_files
    one_read bytes e are ends = by_dash (is_dash path) bytes e are ends

    one_unread : (u : Unread) (r : Refusal) → is_dash path ≡ false → file_told w (is_word words path) path ≡ Err u → stop_of r ≡ unread_stop path u
        → Ends w (read_files words text (path ∷ more) read next) (Stops (stop_of r))
    unfolding read_files
    one_unread u r plain told says =
        subst (λ (b : Bool). Ends w (if b then Then text else ask_file (is_word words path) path (if_read path Asked)) (Stops (stop_of r))) (sym plain)
        (asked_untold w (is_word words path) path u Asked r told says)

  -- ---- all of them
  module _ (paths : List (List ℕ)) where
    -- some were read, with these names and texts, and the plan goes on with those that are left
    pub record AreRead (left names texts : List (List ℕ)) : Type 0 where
      pub sources : List Source
      pub are : AreFiles names texts sources
      pub goes : (next : List Source → Plan) (e : End) → Ends w (read_files words text left sources next) e → Ends w (read_files words text paths [] next) e

    pub none_read : AreRead paths [] []
    none_read = record { sources = []; are = record { named = refl; held = refl }; goes = λ next e ends. ends }

    pub more_read : (path : List ℕ) (more names texts : List (List ℕ)) (bytes : List ℕ) → AreRead (path ∷ more) names texts → AreBytes (is_dash path) path bytes
        → AreRead more (names ++ path ∷ []) (texts ++ bytes ∷ [])
    more_read path more names texts bytes r are = record {
      sources = r.sources ++ source_at path bytes ∷ [];
      are = record {
        named = map-append (λ (s : Source). s.name) r.sources (source_at path bytes ∷ []) ∙ ap (λ l. l ++ path ∷ []) r.are.named;
        held = map-append (λ (s : Source). s.bytes) r.sources (source_at path bytes ∷ []) ∙ ap (λ l. l ++ bytes ∷ []) r.are.held;
      };
      goes = λ next e ends. r.goes next e (one_read path more r.sources next bytes e are ends);
    }

    -- one of them isn't
    pub stops_reading : {Y : Type 0} (texts : Y → List (List ℕ)) (path : List ℕ) (more names held : List (List ℕ)) (r : Refusal) (result : Result Y Refusal)
        → AreRead (path ∷ more) names held → (r ≡ refusal.Plain error.Memory) ⊎ ((is_dash path ≡ false) × IsUnreadAs (file_told w (is_word words path) path) path r)
        → IsErrAnd result (λ x. x ≡ r) → ReachesFiles texts paths w (read_files words text paths []) result
    stops_reading texts path more names held r (Ok y) before why is = absurd is
    stops_reading texts path more names held r (Err x) before (inl memory) is = inl (is ∙ memory)
    stops_reading texts path more names held r (Err x) before (inr (plain, inl memory)) is = inl (is ∙ memory)
    stops_reading texts path more names held r (Err x) before (inr (plain, inr (u, told, says))) is =
        inr (λ next. before.goes next (Stops (stop_of x)) (one_unread path more before.sources next u x plain told (ap stop_of is ∙ says)))

    -- all are
    pub all_read : (names texts : List (List ℕ)) → AreRead [] names texts → (sources : List Source) → AreFiles names texts sources → (next : List Source → Plan) (e : End) → Ends w (next sources) e
        → Ends w (read_files words text paths [] next) e
    unfolding read_files
    all_read names texts r sources are next e ends =
        r.goes next e (subst (λ (l : List Source). Ends w (next l) e) (same_sources sources r.sources (are.named ∙ sym r.are.named) (are.held ∙ sym r.are.held)) ends)

  -- ---- what a read of a path tells, by the word that names it
  module _ (named : Bool) (path : List ℕ) (is : named ≡ is_word words path) where
    by_told : (b : Bool) (bytes : List ℕ) → is_dash path ≡ b → (is_dash path ≡ false → file_told w named path ≡ Ok bytes) → (is_dash path ≡ true → bytes ≡ text) → AreBytes b path bytes
    unfolding AreBytes
    by_told true bytes dash told same = same dash
    by_told false bytes plain told same = subst (λ (n : Bool). file_told w n path ≡ Ok bytes) is (told plain)

    pub are_bytes : (bytes : List ℕ) → (is_dash path ≡ false → file_told w named path ≡ Ok bytes) → (is_dash path ≡ true → bytes ≡ text) → AreBytes (is_dash path) path bytes
    are_bytes bytes told same = by_told (is_dash path) bytes refl told same

    by_untold : (b : Bool) (r : Refusal) → is_dash path ≡ b → (is_dash path ≡ false → IsUnreadAs (file_told w named path) path r) → (is_dash path ≡ true → r ≡ refusal.Plain error.Memory)
        → (r ≡ refusal.Plain error.Memory) ⊎ ((is_dash path ≡ false) × IsUnreadAs (file_told w (is_word words path) path) path r)
    by_untold true r dash untold memory = inl (memory dash)
    by_untold false r plain untold memory = inr (plain, subst (λ (n : Bool). IsUnreadAs (file_told w n path) path r) is (untold plain))

    pub not_bytes : (r : Refusal) → (is_dash path ≡ false → IsUnreadAs (file_told w named path) path r) → (is_dash path ≡ true → r ≡ refusal.Plain error.Memory)
        → (r ≡ refusal.Plain error.Memory) ⊎ ((is_dash path ≡ false) × IsUnreadAs (file_told w (is_word words path) path) path r)
    not_bytes r untold memory = by_untold (is_dash path) r refl untold memory

-- ---- standard input, and then the files
module _ (w : Reads) (words paths : List (List ℕ)) (told : Result (List ℕ) Unread) where
  abbrev Of : Bool → (List Source → Plan) → Plan
  Of dash next = if_input dash told (λ text. read_files words text paths [] next)

  input_stops : {X : Type 0} (value : X → List ℕ) (b : Bool) (r : Refusal) → IsInputText value b told (Err r) → (r ≡ refusal.Plain error.Memory) ⊎ ((next : List Source → Plan) → Ends w (Of b next) (Stops (stop_of r)))
  unfolding Ends
  input_stops value true r (inl memory) = inl memory
  input_stops value true r (inr (u, untold, says)) =
      inr (λ next. subst (λ (a : Result (List ℕ) Unread). Ends w (if_read (codes "standard input") (λ at text. read_files words text paths [] next) a) (Stops (stop_of r))) (sym untold) (ap Stops says))
  input_stops value false r nope = absurd nope

  input_goes : {X : Type 0} (value : X → List ℕ) (next : List Source → Plan) (b : Bool) (x : X) (e : End) → IsInputText value b told (Ok x) → Ends w (read_files words (value x) paths [] next) e → Ends w (Of b next) e
  input_goes value next true x e is ends =
      subst (λ (a : Result (List ℕ) Unread). Ends w (if_read (codes "standard input") (λ at text. read_files words text paths [] next) a) e) (sym is) ends
  input_goes value next false x e is ends = subst (λ (text : List ℕ). Ends w (read_files words text paths [] next) e) is ends

  module _ {X Y : Type 0} (value : X → List ℕ) (texts : Y → List (List ℕ)) where
    -- the error of standard input is the result
    pub input_ends : (r : Refusal) (result : Result Y Refusal) → IsInputText value (any_dash paths) told (Err r) → IsErrAnd result (λ x. x ≡ r) → ReachesFiles texts paths w (given_files words told paths) result
    input_ends r (Ok y) why is = absurd is
    input_ends r (Err x) why is = subst (λ (z : Refusal). ReachesFiles texts paths w (given_files words told paths) (Err z)) (sym is) (input_stops value (any_dash paths) r why)

    -- else that of the files is
    pub files_end : (x : X) (result : Result Y Refusal) → IsInputText value (any_dash paths) told (Ok x) → ReachesFiles texts paths w (read_files words (value x) paths []) result
        → ReachesFiles texts paths w (given_files words told paths) result
    files_end x (Ok y) read goes = λ sources are next e ends. input_goes value next (any_dash paths) x e read (goes sources are next e ends)
    files_end x (Err r) read (inl memory) = inl memory
    files_end x (Err r) read (inr ends) = inr (λ next. input_goes value next (any_dash paths) x (Stops (stop_of r)) read (ends next))

-- ---- what follows files
module _ {X Y : Type 0} (texts : X → List (List ℕ)) (end_of : Y → End) (names : List (List ℕ)) (w : Reads) (p : (List Source → Plan) → Plan) (next : List Source → Plan) where
  -- their error is the result
  pub files_stopped : (r : Refusal) (result : Result Y Refusal) → ReachesFiles texts names w p (Err r) → IsErrAnd result (λ x. x ≡ r) → Follows end_of w (p next) result
  files_stopped r (Ok y) why is = absurd is
  files_stopped r (Err x) (inl memory) is = inl (is ∙ memory)
  files_stopped r (Err x) (inr ends) is = inr (subst (λ (y : Refusal). Ends w (p next) (Stops (stop_of y))) (sym is) (ends next))

  -- the result follows what comes then
  pub files_go : (x : X) (sources : List Source) (result : Result Y Refusal) → ReachesFiles texts names w p (Ok x) → AreFiles names (texts x) sources → Follows end_of w (next sources) result
      → Follows end_of w (p next) result
  files_go x sources (Ok y) goes are ends = goes sources are next (end_of y) ends
  files_go x sources (Err r) goes are (inl memory) = inl memory
  files_go x sources (Err r) goes are (inr ends) = inr (goes sources are next (Stops (stop_of r)) ends)
