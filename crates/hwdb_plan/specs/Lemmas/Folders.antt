-- Steps of functions that list folders and read what is chosen of them.
use Rattle.std.proofs.Common.{◌≡◌, ◌≤◌, ◌<◌, ◌∙◌, ◌⊎◌, ◌++◌, ◌∷◌, arith, inl, inr, ap, sym, subst, Bool, true, false, List, [], Option, Result, Ok, Err, ℕ, length}
use Rattle.std.specs.Prelude.{if◌then◌else◌, nat_le}
use Rattle.std.specs.Result.{IsErrAnd}
use Rattle.std.proofs.lemmas.Bool.Decides.{nat_tests}
use Rattle.hwdb_spec.specs.Folders.{Choice, choice, max_files, names}
use Rattle.hwdb_spec.specs.declared.errors.ToolError.TheVariants as error
use Rattle.hwdb_spec_commands.specs.Told.{IsListedTo, IsReadTo, IsUnreadAs, Reads, stop_of}
use Rattle.hwdb_spec_commands.specs.Told.Stop.{Plain}
use Rattle.hwdb_spec_commands.specs.declared.refusals.Refusal.{Refusal}
use Rattle.hwdb_spec_commands.specs.declared.refusals.Refusal.TheVariants as refusal
use Rattle.hwdb_plan.specs.Asking.{if_read}
use Rattle.hwdb_plan.specs.Folders.{Texts, choose, if_listed, names_of, paths_of, read_texts, text_of, texts_of_names, with_texts}
use Rattle.hwdb_plan.specs.Plans.{End, Ends, Follows, Plan, ReachesValue}
use Rattle.hwdb_plan.specs.Plans.End.{Stops}
use Rattle.hwdb_plan.specs.Plans.Plan.{Done, Folder}

-- ---- one step after another
module _ (w : Reads) where
  -- a value, and what comes of it
  pub value_then : {X Y Z V : Type 0} (value : Y → X) (of : V → Z) (p : (X → Plan) → Plan) (q : X → (Z → Plan) → Plan) (y : Y) (result : Result V Refusal)
      → ReachesValue value w p (Ok y) → ReachesValue of w (q (value y)) result → ReachesValue of w (λ next. p (λ x. q x next)) result
  value_then value of p q y (Ok v) goes more = λ next e ends. goes (λ x. q x next) e (more next e ends)
  value_then value of p q y (Err r) goes (inl memory) = inl memory
  value_then value of p q y (Err r) goes (inr ends) = inr (λ next. goes (λ x. q x next) (Stops (stop_of r)) (ends next))

  -- an error, which is the result
  pub value_stops : {X Y Z V : Type 0} (value : Y → X) (of : V → Z) (p : (X → Plan) → Plan) (q : X → (Z → Plan) → Plan) (r : Refusal) (result : Result V Refusal)
      → ReachesValue value w p (Err r) → IsErrAnd result (λ x. x ≡ r) → ReachesValue of w (λ next. p (λ x. q x next)) result
  value_stops value of p q r (Ok v) why is = absurd is
  value_stops value of p q r (Err x) (inl memory) is = inl (is ∙ memory)
  value_stops value of p q r (Err x) (inr ends) is = inr (λ next. subst (λ (y : Refusal). Ends w (p (λ x. q x next)) (Stops (stop_of y))) (sym is) (ends (λ x. q x next)))

  -- the result of a function that ends then
  pub value_ends : {X Y V : Type 0} (value : Y → X) (end_of : V → End) (p : (X → Plan) → Plan) (next : X → Plan) (y : Y) (result : Result V Refusal)
      → ReachesValue value w p (Ok y) → Follows end_of w (next (value y)) result → Follows end_of w (p next) result
  value_ends value end_of p next y (Ok v) goes ends = goes next (end_of v) ends
  value_ends value end_of p next y (Err r) goes (inl memory) = inl memory
  value_ends value end_of p next y (Err r) goes (inr ends) = inr (goes next (Stops (stop_of r)) ends)

  pub value_ends_in : {X Y V : Type 0} (value : Y → X) (end_of : V → End) (p : (X → Plan) → Plan) (next : X → Plan) (r : Refusal) (result : Result V Refusal)
      → ReachesValue value w p (Err r) → IsErrAnd result (λ x. x ≡ r) → Follows end_of w (p next) result
  value_ends_in value end_of p next r (Ok v) why is = absurd is
  value_ends_in value end_of p next r (Err x) (inl memory) is = inl (is ∙ memory)
  value_ends_in value end_of p next r (Err x) (inr ends) is = inr (subst (λ (y : Refusal). Ends w (p next) (Stops (stop_of y))) (sym is) (ends next))

  -- ---- one question
  pub names_asked : {Y : Type 0} (value : Y → List (List ℕ)) (folder : List ℕ) (result : Result Y Refusal) → IsListedTo value (w.names folder) folder result → ReachesValue value w (names_of folder) result
  unfolding Ends
  names_asked value folder (Ok y) told = λ next e ends. subst (λ a. Ends w (if_listed folder next a) e) (sym told) ends
  names_asked value folder (Err r) (inl memory) = inl memory
  names_asked value folder (Err r) (inr (u, untold, says)) = inr (λ next. subst (λ a. Ends w (if_listed folder next a) (Stops (stop_of r))) (sym untold) (ap Stops says))

  pub folder_asked : {Y : Type 0} (value : Y → Option (List (List ℕ))) (path : List ℕ) (result : Result Y Refusal) → IsListedTo value (w.folder path) path result
      → ReachesValue value w (λ next. Folder path (if_listed path next)) result
  unfolding Ends
  folder_asked value path (Ok y) told = λ next e ends. subst (λ a. Ends w (if_listed path next a) e) (sym told) ends
  folder_asked value path (Err r) (inl memory) = inl memory
  folder_asked value path (Err r) (inr (u, untold, says)) = inr (λ next. subst (λ a. Ends w (if_listed path next a) (Stops (stop_of r))) (sym untold) (ap Stops says))

  pub text_asked : {Y : Type 0} (value : Y → List ℕ) (path : List ℕ) (result : Result Y Refusal) → IsReadTo value (w.text path) path result → ReachesValue value w (text_of path) result
  unfolding Ends
  text_asked value path (Ok y) told = λ next e ends. subst (λ a. Ends w (if_read path (λ at bytes. next bytes) a) e) (sym told) ends
  text_asked value path (Err r) (inl memory) = inl memory
  text_asked value path (Err r) (inr (u, untold, says)) =
      inr (λ next. subst (λ a. Ends w (if_read path (λ at bytes. next bytes) a) (Stops (stop_of r))) (sym untold) (ap Stops says))

  -- ---- a choice
  -- of few enough names
  pub few_chosen : (etc usr : List (List ℕ)) → length (names etc usr) ≤ max_files → (next : List Choice → Plan) (e : End) → Ends w (next (choice etc usr)) e → Ends w (choose etc usr next) e
  few_chosen etc usr few next e ends =
      let test : nat_le (length (names etc usr)) max_files ≡ true = grind (arith, nat_tests, few) in
      subst (λ (b : Bool). Ends w (if b then next (choice etc usr) else Done (Stops (Plain error.TooManyFiles))) e) (sym test) ends

  -- of too many
  pub too_many : (etc usr : List (List ℕ)) (r : Refusal) → max_files < length (names etc usr) → r ≡ refusal.Plain error.TooManyFiles → (next : List Choice → Plan) → Ends w (choose etc usr next) (Stops (stop_of r))
  unfolding Ends
  too_many etc usr r many is next =
      let test : nat_le (length (names etc usr)) max_files ≡ false = grind (arith, nat_tests, many) in
      subst (λ (b : Bool). Ends w (if b then next (choice etc usr) else Done (Stops (Plain error.TooManyFiles))) (Stops (stop_of r))) (sym test) (ap (λ x. Stops (stop_of x)) is)

  -- ---- text files, one after the other
  -- some were read, and the plan goes on with those that are left
  abbrev pub TextsAreRead : (paths left texts : List (List ℕ)) → Type 0
  TextsAreRead paths left texts = (next : List (List ℕ) → Plan) (e : End) → Ends w (read_texts left texts next) e → Ends w (read_texts paths [] next) e

  -- one more is
  pub text_more : (paths : List (List ℕ)) (path : List ℕ) (more texts : List (List ℕ)) (bytes : List ℕ) → TextsAreRead paths (path ∷ more) texts → w.text path ≡ Ok bytes
      → TextsAreRead paths more (texts ++ bytes ∷ [])
  unfolding read_texts
  text_more paths path more texts bytes goes told =
      λ next e ends. goes next e (text_asked (λ (b : List ℕ). b) path (Ok bytes) told (λ b. read_texts more (texts ++ b ∷ []) next) e ends)

  -- the next one can't be: that is the result
  pub text_stops : {Y : Type 0} (value : Y → List (List ℕ)) (paths : List (List ℕ)) (path : List ℕ) (more texts : List (List ℕ)) (r : Refusal) (result : Result Y Refusal)
      → TextsAreRead paths (path ∷ more) texts → IsUnreadAs (w.text path) path r → IsErrAnd result (λ x. x ≡ r) → ReachesValue value w (read_texts paths []) result
  unfolding Ends read_texts
  text_stops value paths path more texts r (Ok y) goes why is = absurd is
  text_stops value paths path more texts r (Err x) goes (inl memory) is = inl (is ∙ memory)
  text_stops value paths path more texts r (Err x) goes (inr (u, untold, says)) is =
      inr (λ next. goes next (Stops (stop_of x))
      (subst (λ a. Ends w (if_read path (λ at bytes. read_texts more (texts ++ bytes ∷ []) next) a) (Stops (stop_of x))) (sym untold) (ap (λ y. Stops (stop_of y)) is ∙ ap Stops says)))

  -- all are
  pub texts_read : (paths texts : List (List ℕ)) → TextsAreRead paths [] texts → (next : List (List ℕ) → Plan) (e : End) → Ends w (next texts) e → Ends w (read_texts paths [] next) e
  unfolding read_texts
  texts_read paths texts goes next e ends = goes next e ends

-- ---- those of some names
module _ (w : Reads) (root : List ℕ) (etc usr : List (List ℕ)) where
  -- they are too many, or there was no memory
  pub names_refused : {Y : Type 0} (value : Y → Texts) (r : Refusal) (result : Result Y Refusal)
      → (r ≡ refusal.Plain error.Memory) ⊎ ((r ≡ refusal.Plain error.TooManyFiles) × (max_files < length (names etc usr))) → IsErrAnd result (λ x. x ≡ r) → ReachesValue value w (texts_of_names root etc usr) result
  names_refused value r (Ok y) why is = absurd is
  names_refused value r (Err x) (inl memory) is = inl (is ∙ memory)
  names_refused value r (Err x) (inr (error, many)) is =
      inr (λ next. too_many w etc usr x many (is ∙ error) (λ chosen. read_texts (paths_of root chosen) [] (λ texts. next (with_texts usr chosen texts))))

  module _ {X : Type 0} (items : X → List (List ℕ)) (few : length (names etc usr) ≤ max_files) where
    -- the chosen files are read
    pub chosen_read : (x : X) → ReachesValue items w (read_texts (paths_of root (choice etc usr)) []) (Ok x)
        → (next : Texts → Plan) (e : End) → Ends w (next (with_texts usr (choice etc usr) (items x))) e → Ends w (texts_of_names root etc usr next) e
    chosen_read x reads next e ends =
        few_chosen w etc usr few (λ chosen. read_texts (paths_of root chosen) [] (λ texts. next (with_texts usr chosen texts))) e
        (reads (λ texts. next (with_texts usr (choice etc usr) texts)) e ends)

    -- one of them can't be
    pub chosen_unread : {Y : Type 0} (value : Y → Texts) (r : Refusal) (result : Result Y Refusal) → ReachesValue items w (read_texts (paths_of root (choice etc usr)) []) (Err r) → IsErrAnd result (λ x. x ≡ r)
        → ReachesValue value w (texts_of_names root etc usr) result
    chosen_unread value r (Ok y) why is = absurd is
    chosen_unread value r (Err x) (inl memory) is = inl (is ∙ memory)
    chosen_unread value r (Err x) (inr ends) is =
        inr (λ next. few_chosen w etc usr few (λ chosen. read_texts (paths_of root chosen) [] (λ texts. next (with_texts usr chosen texts))) (Stops (stop_of x))
        (subst (λ (y : Refusal). Ends w (read_texts (paths_of root (choice etc usr)) [] (λ texts. next (with_texts usr (choice etc usr) texts))) (Stops (stop_of y))) (sym is)
        (ends (λ texts. next (with_texts usr (choice etc usr) texts)))))
