-- What the fronts of plans tell that read the text files of both folders: what follows, or the error that ends each plan.
use Rattle.std.proofs.Common.{◌≡◌, ◌≤◌, ◌<◌, ◌∙◌, ◌⊎◌, ◌++◌, ◌∷◌, arith, inl, inr, ap, sym, subst, refl, append_assoc, All, Bool, true, false, Contains, List, [], None, Option, Some, Result, Ok, Err, ℕ, suc, drop, length, map}
use Rattle.std.specs.Prelude.{if◌then◌else◌, nat_le}
use Rattle.std.proofs.lemmas.Bool.Decides.{nat_tests}
use Rattle.std.proofs.lemmas.List.{append-nil}
use Rattle.std.proofs.lemmas.List.Elements.{All-cons, All-nil}
use Rattle.hwdb_spec.specs.Folders.{Choice, choice, max_files, names, path_of}
use Rattle.hwdb_spec.specs.declared.causes.Cause.{Cause}
use Rattle.hwdb_spec.specs.declared.causes.Cause.TheVariants as why
use Rattle.hwdb_spec.specs.declared.errors.ToolError.TheVariants as error
use Rattle.hwdb_spec_commands.specs.LeftOutTold.{AreTold, left_out_line}
use Rattle.hwdb_spec_commands.specs.Told.{Reads, Stop, Unlisted, unlisted_stop, unread_stop}
use Rattle.hwdb_spec_commands.specs.Told.Stop.{Plain}
use Rattle.hwdb_spec_commands.specs.declared.unread.Unread.{Unread}
use Rattle.hwdb_spec_commands.specs.declared.unread.Unread.TheVariants as unread
use Rattle.hwdb_plan.specs.Asking.{if_read}
use Rattle.hwdb_plan.specs.Folders.{choose, if_listed, names_of, read_texts}
use Rattle.hwdb_plan.specs.Plans.{End, Ends, Plan}
use Rattle.hwdb_plan.specs.Plans.End.{Stops}
use Rattle.hwdb_plan.specs.Plans.Plan.{Done}
use Rattle.hwdb_plan.specs.Readable.{LeftOut, first_text, if_looked, look, one_left_out}

module _ (w : Reads) where
  -- what follows is asked of this value
  abbrev pub Leads : {X : Type 0} → ((X → Plan) → Plan) → X → Type 0
  Leads {X} p x = (next : X → Plan) (e : End) → Ends w (p next) e → Ends w (next x) e

  -- each plan ends so
  abbrev pub Stands : {X : Type 0} → ((X → Plan) → Plan) → Stop → Type 0
  Stands {X} p s = (next : X → Plan) (e : End) → Ends w (p next) e → e ≡ Stops s

  -- one after another
  pub leads_then : {X Z : Type 0} (p : (X → Plan) → Plan) (q : X → (Z → Plan) → Plan) (x : X) (z : Z) → Leads p x → Leads (q x) z → Leads (λ next. p (λ y. q y next)) z
  leads_then p q x z first second = λ next e ends. second next e (first (λ y. q y next) e ends)

  pub stands_first : {X Z : Type 0} (p : (X → Plan) → Plan) (q : X → (Z → Plan) → Plan) (s : Stop) → Stands p s → Stands (λ next. p (λ y. q y next)) s
  stands_first p q s first = λ next e ends. first (λ y. q y next) e ends

  pub stands_then : {X Z : Type 0} (p : (X → Plan) → Plan) (q : X → (Z → Plan) → Plan) (x : X) (s : Stop) → Leads p x → Stands (q x) s → Stands (λ next. p (λ y. q y next)) s
  stands_then p q x s first second = λ next e ends. second next e (first (λ y. q y next) e ends)

  -- ---- names
  abbrev pub NamesLead : (folder : List ℕ) → Type 0
  NamesLead folder =
      ((l : List (List ℕ)) × (w.names folder ≡ Ok l) × Leads (names_of folder) l) ⊎ ((u : Unlisted) × (w.names folder ≡ Err u) × Stands (names_of folder) (unlisted_stop folder u))

  names_by : (folder : List ℕ) (a : Result (List (List ℕ)) Unlisted) → w.names folder ≡ a → NamesLead folder
  unfolding Ends
  names_by folder (Ok l) told = inl (l, told, λ next e ends. subst (λ x. Ends w (if_listed folder next x) e) told ends)
  names_by folder (Err u) told = inr (u, told, λ next e ends. subst (λ x. Ends w (if_listed folder next x) e) told ends)

  pub names_lead : (folder : List ℕ) → NamesLead folder
  names_lead folder = names_by folder (w.names folder) refl

  -- ---- a choice
  abbrev pub ChoiceLeads : (etc usr : List (List ℕ)) → Type 0
  ChoiceLeads etc usr =
      ((length (names etc usr) ≤ max_files) × Leads (choose etc usr) (choice etc usr)) ⊎ ((max_files < length (names etc usr)) × Stands (choose etc usr) (Plain error.TooManyFiles))

  choose_by : (etc usr : List (List ℕ)) (b : Bool) → nat_le (length (names etc usr)) max_files ≡ b → ChoiceLeads etc usr
  unfolding Ends
  choose_by etc usr true test =
      inl (grind (arith, nat_tests, test), λ next e ends. subst (λ (b : Bool). Ends w (if b then next (choice etc usr) else Done (Stops (Plain error.TooManyFiles))) e) test ends)
  choose_by etc usr false test =
      inr (grind (arith, nat_tests, test), λ next e ends. subst (λ (b : Bool). Ends w (if b then next (choice etc usr) else Done (Stops (Plain error.TooManyFiles))) e) test ends)

  pub choose_leads : (etc usr : List (List ℕ)) → ChoiceLeads etc usr
  choose_leads etc usr = choose_by etc usr (nat_le (length (names etc usr)) max_files) refl

  -- ---- texts
  -- all of them are told
  pub record AreTexts (paths had texts : List (List ℕ)) : Type 0 where
    pub more : List (List ℕ)
    pub told : map (λ (path : List ℕ). w.text path) paths ≡ map Ok more
    pub are : texts ≡ had ++ more

  -- or one isn't, after those that are
  pub record IsNoText (paths : List (List ℕ)) (s : Stop) : Type 0 where
    pub before : List (List ℕ)
    pub path : List ℕ
    pub after : List (List ℕ)
    pub texts : List (List ℕ)
    pub why : Unread
    pub are : paths ≡ before ++ path ∷ after
    pub told : map (λ (p : List ℕ). w.text p) before ≡ map Ok texts
    pub untold : w.text path ≡ Err why
    pub stop : s ≡ unread_stop path why

  abbrev pub TextsLead : (paths had : List (List ℕ)) → Type 0
  TextsLead paths had = ((texts : List (List ℕ)) × AreTexts paths had texts × Leads (read_texts paths had) texts) ⊎ ((s : Stop) × IsNoText paths s × Stands (read_texts paths had) s)

  text_by : (path : List ℕ) (more had : List (List ℕ)) (a : Result (List ℕ) Unread) → w.text path ≡ a → ((h : List (List ℕ)) → TextsLead more h) → TextsLead (path ∷ more) had
  unfolding Ends read_texts
  text_by path more had (Err u) told rest =
      inr (
        unread_stop path u,
        record { before = []; path = path; after = more; texts = []; why = u; are = refl; told = refl; untold = told; stop = refl },
        λ next e ends. subst (λ x. Ends w (if_read path (λ at bytes. read_texts more (had ++ bytes ∷ []) next) x) e) told ends,
      )
  text_by path more had (Ok bytes) told rest = go (rest (had ++ bytes ∷ []))
    where
      go : TextsLead more (had ++ bytes ∷ []) → TextsLead (path ∷ more) had
      go (inl (texts, are, leads)) = inl (
        texts,
        record { more = bytes ∷ are.more; told = ap (λ x. x ∷ map (λ (p : List ℕ). w.text p) more) told ∙ ap (λ l. Ok bytes ∷ l) are.told; are = are.are ∙ append_assoc had (bytes ∷ []) are.more },
        λ next e ends. leads next e (subst (λ x. Ends w (if_read path (λ at b. read_texts more (had ++ b ∷ []) next) x) e) told ends),
      )
      go (inr (s, none, stands)) = inr (
        s,
        record {
          before = path ∷ none.before;
          path = none.path;
          after = none.after;
          texts = bytes ∷ none.texts;
          why = none.why;
          are = ap (λ l. path ∷ l) none.are;
          told = ap (λ x. x ∷ map (λ (p : List ℕ). w.text p) none.before) told ∙ ap (λ l. Ok bytes ∷ l) none.told;
          untold = none.untold;
          stop = none.stop;
        },
        λ next e ends. stands next e (subst (λ x. Ends w (if_read path (λ at b. read_texts more (had ++ b ∷ []) next) x) e) told ends),
      )

  pub texts_lead : (paths had : List (List ℕ)) → TextsLead paths had
  unfolding read_texts
  texts_lead [] had = inl (had, record { more = []; told = refl; are = sym (append-nil had) }, λ next e ends. ends)
  texts_lead (path ∷ more) had = text_by path more had (w.text path) refl (λ h. texts_lead more h)

-- ---- files that are left out
-- one more line
pub lines_more : (root : List ℕ) (cs : List Choice) (text : List ℕ) (c : Choice) (cause : Option Cause) (words : List ℕ) → AreTold root cs text
    → AreTold root (cs ++ c ∷ []) (text ++ left_out_line (root ++ path_of c) cause words)
lines_more root [] text c cause words told =
    (cause, words, [], ap (λ l. l ++ left_out_line (root ++ path_of c) cause words) told ∙ sym (append-nil (left_out_line (root ++ path_of c) cause words)), refl)
lines_more root (x ∷ cs) text c cause words told = (
  told.0,
  told.1,
  told.2 ++ left_out_line (root ++ path_of c) cause words,
  ap (λ l. l ++ left_out_line (root ++ path_of c) cause words) told.3 ∙ append_assoc (left_out_line (root ++ path_of x) told.0 told.1) told.2 (left_out_line (root ++ path_of c) cause words),
  lines_more root cs told.2 c cause words told.4,
)

module _ (w : Reads) (root : List ℕ) where
  -- a file can't be read, and is left out
  pub record IsPassed (c : Choice) : Type 0 where
    pub cause : Option Cause
    pub untold : w.text (root ++ path_of c) ≡ Err (unread.Failed cause)

  -- those that are left out after some
  pub record ArePassed (chosen : List Choice) (had left : LeftOut) : Type 0 where
    pub more : List Choice
    pub files : left.files ≡ had.files ++ more
    pub among : All (Contains chosen) more
    pub passed : All IsPassed more
    pub told : AreTold root had.files had.said → AreTold root left.files left.said

  -- one is neither read nor left out
  pub record IsStopped (chosen : List Choice) (s : Stop) : Type 0 where
    pub at : Choice
    pub among : Contains chosen at
    pub why : Unread
    pub untold : w.text (root ++ path_of at) ≡ Err why
    pub stop : s ≡ unread_stop (root ++ path_of at) why

  abbrev pub LooksLead : (chosen : List Choice) (words : List (List ℕ)) → LeftOut → Type 0
  LooksLead chosen words had = ((left : LeftOut) × ArePassed chosen had left × Leads w (look root chosen words had) left) ⊎ ((s : Stop) × IsStopped chosen s × Stands w (look root chosen words had) s)

  contains_more : (c x : Choice) (more : List Choice) → Contains more x → Contains (c ∷ more) x
  contains_more c x more (k, lt, is) = (suc k, omega (arith, lt), is)

  module _ (c : Choice) (more : List Choice) (words : List (List ℕ)) (had : LeftOut) where
    abbrev path : List ℕ
    path = root ++ path_of c

    abbrev Looked : (LeftOut → Plan) → Result (List ℕ) Unread → Plan
    Looked next a = if_looked path (look root more words had next) (λ cause. look root more (drop 1 words) (one_left_out root c cause (first_text words) had) next) a

    -- it is read
    looked_on : (bytes : List ℕ) → w.text path ≡ Ok bytes → LooksLead more words had → LooksLead (c ∷ more) words had
    unfolding Ends look
    looked_on bytes told (inl (left, are, leads)) = inl (
      left,
      record { more = are.more; files = are.files; among = λ k d lt. contains_more c _ more (are.among k d lt); passed = are.passed; told = are.told },
      λ next e ends. leads next e (subst (λ (x : Result (List ℕ) Unread). Ends w (Looked next x) e) told ends),
    )
    looked_on bytes told (inr (s, is, stands)) = inr (
      s,
      record { at = is.at; among = contains_more c is.at more is.among; why = is.why; untold = is.untold; stop = is.stop },
      λ next e ends. stands next e (subst (λ (x : Result (List ℕ) Unread). Ends w (Looked next x) e) told ends),
    )

    -- it is left out
    looked_past : (cause : Option Cause) → w.text path ≡ Err (unread.Failed cause) → ((next : LeftOut → Plan) → Looked next (Err (unread.Failed cause)) ≡ look root more (drop 1 words) (one_left_out root c cause (first_text words) had) next)
        → LooksLead more (drop 1 words) (one_left_out root c cause (first_text words) had) → LooksLead (c ∷ more) words had
    unfolding Ends look
    looked_past cause told goes (inl (left, are, leads)) = inl (
      left,
      record {
        more = c ∷ are.more;
        files = are.files ∙ append_assoc had.files (c ∷ []) are.more;
        among = All-cons (Contains (c ∷ more)) c are.more (0, omega arith, refl) (λ k d lt. contains_more c _ more (are.among k d lt));
        passed = All-cons IsPassed c are.more (record { cause = cause; untold = told }) are.passed;
        told = λ lines. are.told (lines_more root had.files had.said c cause (first_text words) lines);
      },
      λ next e ends. leads next e (subst (λ (p : Plan). Ends w p e) (goes next) (subst (λ (x : Result (List ℕ) Unread). Ends w (Looked next x) e) told ends)),
    )
    looked_past cause told goes (inr (s, is, stands)) = inr (
      s,
      record { at = is.at; among = contains_more c is.at more is.among; why = is.why; untold = is.untold; stop = is.stop },
      λ next e ends. stands next e (subst (λ (p : Plan). Ends w p e) (goes next) (subst (λ (x : Result (List ℕ) Unread). Ends w (Looked next x) e) told ends)),
    )

    -- it ends the plan
    looked_end : (u : Unread) → w.text path ≡ Err u → ((next : LeftOut → Plan) → Looked next (Err u) ≡ Done (Stops (unread_stop path u))) → LooksLead (c ∷ more) words had
    unfolding Ends look
    looked_end u told goes = inr (
      unread_stop path u,
      record { at = c; among = (0, omega arith, refl); why = u; untold = told; stop = refl },
      λ next e ends. subst (λ (p : Plan). Ends w p e) (goes next) (subst (λ (x : Result (List ℕ) Unread). Ends w (Looked next x) e) told ends),
    )

    looked : (a : Result (List ℕ) Unread) → w.text path ≡ a → ((ws : List (List ℕ)) (h : LeftOut) → LooksLead more ws h) → LooksLead (c ∷ more) words had
    looked (Ok bytes) told rest = looked_on bytes told (rest words had)
    looked (Err unread.TooLong) told rest = looked_end unread.TooLong told (λ next. refl)
    looked (Err unread.Memory) told rest = looked_end unread.Memory told (λ next. refl)
    looked (Err (unread.Failed None)) told rest = looked_past None told (λ next. refl) (rest (drop 1 words) (one_left_out root c None (first_text words) had))
    looked (Err (unread.Failed (Some why.Memory))) told rest = looked_end (unread.Failed (Some why.Memory)) told (λ next. refl)
    looked (Err (unread.Failed (Some cause))) told rest =
        looked_past (Some cause) told (λ next. refl) (rest (drop 1 words) (one_left_out root c (Some cause) (first_text words) had))

  pub looks_lead : (chosen : List Choice) (words : List (List ℕ)) (had : LeftOut) → LooksLead chosen words had
  unfolding look
  looks_lead [] words had =
      inl (had, record { more = []; files = sym (append-nil had.files); among = All-nil (Contains []); passed = All-nil IsPassed; told = λ lines. lines }, λ next e ends. ends)
  looks_lead (c ∷ more) words had = looked c more words had (w.text (root ++ path_of c)) refl (λ ws h. looks_lead more ws h)
