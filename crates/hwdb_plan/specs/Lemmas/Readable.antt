-- Steps of functions that read the text files of both folders, and may leave some out.
use Rattle.std.proofs.Common.{◌≡◌, ◌∙◌, ◌++◌, ◌∷◌, inl, inr, ap, sym, subst, refl, append_assoc, Bool, true, false, List, [], Option, None, Some, Result, Ok, Err, ℕ, drop, length}
use Rattle.std.specs.Prelude.{if◌then◌else◌, nat_le}
use Rattle.std.specs.Result.{IsErrAnd}
use Rattle.std.proofs.lemmas.List.{append-nil}
use Rattle.hwdb_spec.specs.Folders.{Choice, choice, max_files, names, path_of}
use Rattle.hwdb_spec.specs.declared.causes.Cause.{Cause}
use Rattle.hwdb_spec.specs.declared.causes.Cause.TheVariants as why
use Rattle.hwdb_spec.specs.declared.errors.ToolError.TheVariants as error
use Rattle.hwdb_spec_commands.specs.Told.{IsUnreadAs, Reads, stop_of, unread_stop}
use Rattle.hwdb_spec_commands.specs.Told.Stop.{Over, Plain}
use Rattle.hwdb_spec_commands.specs.declared.refusals.Refusal.{Refusal}
use Rattle.hwdb_spec_commands.specs.declared.refusals.Refusal.TheVariants as refusal
use Rattle.hwdb_spec_commands.specs.declared.unread.Unread.{Unread}
use Rattle.hwdb_spec_commands.specs.declared.unread.Unread.TheVariants as unread
use Rattle.hwdb_plan.specs.Asking.{if_read}
use Rattle.hwdb_plan.specs.Folders.{Texts, paths_of, read_texts, texts_of_names}
use Rattle.hwdb_plan.specs.Plans.{End, Ends, Plan}
use Rattle.hwdb_plan.specs.Plans.End.{Answers, Stops}
use Rattle.hwdb_plan.specs.Plans.Plan.{Done}
use Rattle.hwdb_plan.specs.Readable.{EndsEarly, GoesOn, LeftOut, ReachesOf, first_text, if_looked, is_read_error, look, none_left_out, one_left_out, others}

-- ---- one step after another
module _ (w : Reads) {X Z V : Type 0} (Is : V → Z → Type 0) (p : (X → Plan) → Plan) (q : X → (Z → Plan) → Plan) where
  -- what comes of a value
  pub goes_then : (x : X) (result : Result V Refusal) → GoesOn w p x → ReachesOf Is w (q x) result → ReachesOf Is w (λ next. p (λ y. q y next)) result
  goes_then x (Ok v) goes (z, is, more) = (z, is, λ next e ends. goes (λ y. q y next) e (more next e ends))
  goes_then x (Err r) goes (inl memory) = inl memory
  goes_then x (Err r) goes (inr ends) = inr (λ next. goes (λ y. q y next) (Stops (stop_of r)) (ends next))

  -- an error, which is the result
  pub ends_then : (r : Refusal) (result : Result V Refusal) → EndsEarly w p r → IsErrAnd result (λ x. x ≡ r) → ReachesOf Is w (λ next. p (λ y. q y next)) result
  ends_then r (Ok v) why is = absurd is
  ends_then r (Err x) (inl memory) is = inl (is ∙ memory)
  ends_then r (Err x) (inr ends) is = inr (λ next. subst (λ (y : Refusal). Ends w (p (λ y. q y next)) (Stops (stop_of y))) (sym is) (ends (λ y. q y next)))

-- ---- one file
-- a file that can't be read is left out
if_left : (path at : List ℕ) (cause : Option Cause) (u : Unread) (read : Plan) (left : Option Cause → Plan) → Over error.Read at cause ≡ unread_stop path u → if_looked path read left (Err u) ≡ left cause
if_left path at cause unread.TooLong read left is = cc
if_left path at cause unread.Memory read left is = cc
if_left path at cause (unread.Failed None) read left is = let same : cause ≡ None = cc in ap left (sym same)
if_left path at cause (unread.Failed (Some why.Memory)) read left is = cc
if_left path at cause (unread.Failed (Some c)) read left is = let same : cause ≡ Some c = cc in ap left (sym same)

-- any other error ends the plan
if_stopped : (path : List ℕ) (r : Refusal) (u : Unread) (read : Plan) (left : Option Cause → Plan) → is_read_error r ≡ false → stop_of r ≡ unread_stop path u
    → if_looked path read left (Err u) ≡ Done (Stops (stop_of r))
if_stopped path r unread.TooLong read left other is = ap (λ s. Done (Stops s)) (sym is)
if_stopped path r unread.Memory read left other is = ap (λ s. Done (Stops s)) (sym is)
if_stopped path r (unread.Failed (Some why.Memory)) read left other is = ap (λ s. Done (Stops s)) (sym is)
if_stopped path (refusal.At e at cause) (unread.Failed None) read left other is = cc
if_stopped path (refusal.Plain e) (unread.Failed None) read left other is = cc
if_stopped path refusal.NoDatabase (unread.Failed None) read left other is = cc
if_stopped path (refusal.InWords text) (unread.Failed None) read left other is = cc
if_stopped path (refusal.At e at cause) (unread.Failed (Some c)) read left other is = cc
if_stopped path (refusal.Plain e) (unread.Failed (Some c)) read left other is = cc
if_stopped path refusal.NoDatabase (unread.Failed (Some c)) read left other is = cc
if_stopped path (refusal.InWords text) (unread.Failed (Some c)) read left other is = cc

module _ (w : Reads) (root : List ℕ) where
  -- ---- files that are looked at, one after the other
  module _ (chosen : List Choice) where
    -- some were looked at, of which these are left out, and the plan goes on with the rest
    abbrev pub LooksOn : (rest : List Choice) (words : List (List ℕ)) → LeftOut → Type 0
    LooksOn rest words left = (more : List (List ℕ)) (next : LeftOut → Plan) (e : End) → Ends w (look root rest more left next) e → Ends w (look root chosen (words ++ more) none_left_out next) e

    pub looks_first : LooksOn chosen [] none_left_out
    looks_first = λ more next e ends. ends

    module _ (c : Choice) (rest : List Choice) (words : List (List ℕ)) (left : LeftOut) (on : LooksOn (c ∷ rest) words left) where
      abbrev Asked : (more : List (List ℕ)) (next : LeftOut → Plan) → Result (List ℕ) Unread → Plan
      Asked more next a = if_looked (root ++ path_of c) (look root rest more left next) (λ cause. look root rest (drop 1 more) (one_left_out root c cause (first_text more) left) next) a

      -- what is told of it
      told_on : (a : Result (List ℕ) Unread) → w.text (root ++ path_of c) ≡ a → (more : List (List ℕ)) (next : LeftOut → Plan) (e : End) → Ends w (Asked more next a) e
          → Ends w (look root chosen (words ++ more) none_left_out next) e
      unfolding Ends look
      told_on a told more next e ends = on more next e (subst (λ (x : Result (List ℕ) Unread). Ends w (Asked more next x) e) (sym told) ends)

      -- it can be read
      pub looks_read : (bytes : List ℕ) → w.text (root ++ path_of c) ≡ Ok bytes → LooksOn rest words left
      looks_read bytes told = λ more next e ends. told_on (Ok bytes) told more next e ends

      -- it can't, and is left out
      pub looks_past : (u : Unread) (at : List ℕ) (cause : Option Cause) (said : List ℕ) → w.text (root ++ path_of c) ≡ Err u → Over error.Read at cause ≡ unread_stop (root ++ path_of c) u
          → LooksOn rest (words ++ said ∷ []) (one_left_out root c cause said left)
      looks_past u at cause said told is = λ more next e ends.
          subst (λ (l : List (List ℕ)). Ends w (look root chosen l none_left_out next) e) (sym (append_assoc words (said ∷ []) more))
          (told_on (Err u) told (said ∷ more) next e
          (subst (λ (p : Plan). Ends w p e)
          (sym (if_left (root ++ path_of c) at cause u (look root rest (said ∷ more) left next) (λ x. look root rest more (one_left_out root c x said left) next) is)) ends))

      -- it can't, and that is the error
      pub looks_end : (r : Refusal) → IsUnreadAs (w.text (root ++ path_of c)) (root ++ path_of c) r → is_read_error r ≡ false → EndsEarly w (look root chosen words none_left_out) r
      unfolding Ends
      looks_end r (inl memory) other = inl memory
      looks_end r (inr (u, untold, says)) other = inr (λ next.
          subst (λ (l : List (List ℕ)). Ends w (look root chosen l none_left_out next) (Stops (stop_of r))) (append-nil words)
          (told_on (Err u) untold [] next (Stops (stop_of r))
          (subst (λ (p : Plan). Ends w p (Stops (stop_of r)))
          (sym (if_stopped (root ++ path_of c) r u (look root rest [] left next) (λ x. look root rest (drop 1 []) (one_left_out root c x (first_text []) left) next) other says)) refl)))

    -- all were looked at
    pub looks_all : (words : List (List ℕ)) (left : LeftOut) → LooksOn [] words left → GoesOn w (look root chosen words none_left_out) left
    unfolding look
    looks_all words left on = λ next e ends. subst (λ (l : List (List ℕ)). Ends w (look root chosen l none_left_out next) e) (append-nil words) (on [] next e ends)

  -- ---- if all are read
  -- the files at these paths can be read
  unfoldable pub AreTold : (paths : List (List ℕ)) → Type 0
  AreTold [] = Unit {0}
  AreTold (path ∷ more) = (bytes : List ℕ) × (w.text path ≡ Ok bytes) × AreTold more

  -- an end that is no error
  abbrev done : End
  done = Answers 0 [] []

  one_told : (path : List ℕ) (more texts : List (List ℕ)) (a : Result (List ℕ) Unread) → w.text path ≡ a → ((t : List (List ℕ)) → Ends w (read_texts more t (λ x. Done done)) done → AreTold more)
      → Ends w (if_read path (λ at bytes. read_texts more (texts ++ bytes ∷ []) (λ x. Done done)) a) done → AreTold (path ∷ more)
  unfolding Ends AreTold
  one_told path more texts (Ok bytes) told rest ends = (bytes, told, rest (texts ++ bytes ∷ []) ends)
  one_told path more texts (Err u) told rest ends = cc

  texts_told : (paths texts : List (List ℕ)) → Ends w (read_texts paths texts (λ x. Done done)) done → AreTold paths
  unfolding Ends read_texts AreTold
  texts_told [] texts ends = tt
  texts_told (path ∷ more) texts ends = one_told path more texts (w.text path) refl (λ t. texts_told more t) ends

  pub names_told : (etc usr : List (List ℕ)) (t : Texts) → GoesOn w (texts_of_names root etc usr) t → AreTold (paths_of root (choice etc usr))
  unfolding Ends
  names_told etc usr t goes = by (nat_le (length (names etc usr)) max_files) (goes (λ x. Done done) done refl)
    where
      by : (b : Bool) → Ends w (if b then read_texts (paths_of root (choice etc usr)) [] (λ x. Done done) else Done (Stops (Plain error.TooManyFiles))) done → AreTold (paths_of root (choice etc usr))
      by true ends = texts_told (paths_of root (choice etc usr)) [] ends
      by false ends = cc

  -- none is left out then
  pub looks_over : (chosen : List Choice) (words : List (List ℕ)) (left : LeftOut) → AreTold (paths_of root chosen) → GoesOn w (look root chosen words left) left
  unfolding Ends look AreTold
  looks_over [] words left told = λ next e ends. ends
  looks_over (c ∷ more) words left (bytes, told, rest) = λ next e ends.
      subst (λ (a : Result (List ℕ) Unread). Ends w (if_looked (root ++ path_of c) (look root more words left next)
      (λ cause. look root more (drop 1 words) (one_left_out root c cause (first_text words) left) next) a) e) (sym told) (looks_over more words left rest next e ends)

-- no name is that of a file that is left out
pub others_of_none : (names : List (List ℕ)) → others [] names ≡ names
others_of_none [] = refl
others_of_none (name ∷ more) = ap (λ (l : List (List ℕ)). name ∷ l) (others_of_none more)
