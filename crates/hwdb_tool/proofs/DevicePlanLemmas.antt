-- Ends of `device`, from what its calls promise.
use Rattle.std.proofs.Common.{◌≡◌, ◌∙◌, ◌⊎◌, inl, inr, ap, refl, sym, subst, Bool, true, false, List, Option, None, Some, Result, Ok, Err, ℕ, [], ◌∷◌, ◌++◌}
use Rattle.std.specs.Option.{option_map_or}
use Rattle.std.specs.Prelude.{if◌then◌else◌, codes, option_map}
use Rattle.std.specs.Result.{IsErrAnd}
use Rattle.hwdb_spec.specs.declared.errors.ToolError.{ToolError}
use Rattle.hwdb_spec.specs.declared.errors.ToolError.TheVariants as error
use Rattle.hwdb_spec_commands.specs.DatabaseErrors.{IsDatabaseRefusal}
use Rattle.hwdb_spec_commands.specs.Databases.{IsTextOf}
use Rattle.hwdb_spec_commands.specs.AllStrings.{unread_lines}
use Rattle.hwdb_spec_commands.specs.DeviceAsked.{device_list, missing_text, no_sysfs_text, unread_text}
use Rattle.hwdb_spec_commands.specs.DeviceFound.{only, places_meant, several_text}
use Rattle.hwdb_spec_commands.specs.DeviceTexts.{device_text, found_form, told_by}
use Rattle.hwdb_spec_commands.specs.NearAsked.{database_patterns}
use Rattle.hwdb_spec.specs.Folders.{Source}
use Rattle.hwdb_spec.specs.Tree.{Tree}
use Rattle.hwdb_spec_rules.specs.RuleAnswers.{all_asked_text, files_of, needs_device, rules_misuse}
use Rattle.hwdb_spec_rules.specs.RuleStrings.{RulesFile, found_by_rules, whys_by_rules}
use Rattle.hwdb_spec_rules.specs.RuleWhys.{whys_form}
use Rattle.hwdb_spec_rules.specs.declared.forms.RulesForm.{RulesForm}
use Rattle.hwdb_spec_rules.specs.declared.forms.Whose.{Whose}
use Rattle.hwdb_spec_commands.specs.DeviceTree.{Sight, missing_folder, sysfs_below, unread_for}
use Rattle.hwdb_spec_commands.specs.Refusals.{IsInWords}
use Rattle.hwdb_spec_commands.specs.Sysfs.{Device}
use Rattle.hwdb_spec_commands.specs.Told.{IsStop, Reads, stop_of}
use Rattle.hwdb_spec_commands.specs.Told.Stop.{Says}
use Rattle.hwdb_spec_commands.specs.declared.devices.DeviceForm.{DeviceForm}
use Rattle.hwdb_spec_commands.specs.declared.refusals.Refusal.{Refusal}
use Rattle.hwdb_spec_commands.specs.declared.refusals.Refusal.TheVariants as refusal
use Rattle.hwdb_spec_program.specs.DeviceErrors.{IsNoDevice, IsNoSysfs, asked_names}
use Rattle.hwdb_plan.specs.Device.{all_misuse, asks, by_built_in, by_files, by_files_first, by_rules, by_rules_plan, device_answer, devices_plan, every_plan, meant_plan, own_plan, rules_answer, strings_answer, strings_plan}
use Rattle.hwdb_plan.specs.OwnRules.{has_none}
use Rattle.hwdb_plan.specs.OverText.{if_fit}
use Rattle.hwdb_plan.specs.Sysfs.{OfCause, folder_of, none_there, one_of, place_of, says, sysfs_of}
use Rattle.hwdb_plan.specs.Dump.{database_stop}
use Rattle.hwdb_plan.specs.Lemmas.Steps.{plainly}
use Rattle.hwdb_plan.specs.Plans.{End, Ends, Follows, Plan}
use Rattle.hwdb_plan.specs.Plans.End.{Answers, Stops}
use Rattle.hwdb_plan.specs.Plans.Plan.{Done}

-- an error in words says these, or there was no memory
in_words_stops : (text : List ℕ) (r : Refusal) → IsInWords text r → (r ≡ refusal.Plain error.Memory) ⊎ (stop_of r ≡ Says text)
in_words_stops text (refusal.Plain e) is = inl (ap refusal.Plain is)
in_words_stops text (refusal.InWords said) is = inr (ap Says is)
in_words_stops text (refusal.At e p c) is = absurd is
in_words_stops text refusal.NoDatabase is = absurd is

-- whatever the words of a cause, if nothing failed
pub whatever : (Is : (cause : List ℕ) → Type 0) → Is [] → OfCause Is
whatever Is is = ([], refl, is)

module _ (w : Reads) (sight : Sight) (cause root : List ℕ) where
  -- ---- sysfs
  module _ (next : List ℕ → Plan) where
    below_at : (sys : List ℕ) (e : End) (o : Option (List ℕ)) → option_map_or (λ s. option_map (λ devices. s) (sight.place (s ++ codes "/devices"))) o None ≡ Some sys → Ends w (next sys) e
        → Ends w (option_map_or (λ s. folder_of sight cause (s ++ codes "/devices") (λ devices. next s)) o (says (no_sysfs_text (root ++ codes "/sys") cause))) e
    below_at sys e None is ends = absurd cc
    below_at sys e (Some s) is ends = by (sight.place (s ++ codes "/devices")) is
      where
        by : (p : Option (List ℕ)) → option_map (λ devices. s) p ≡ Some sys → Ends w (option_map_or (λ devices. next s) p (says (no_sysfs_text (s ++ codes "/devices") cause))) e
        by None is = absurd cc
        by (Some d) is = let same : s ≡ sys = cc in subst (λ (x : List ℕ). Ends w (next x) e) (sym same) ends

    -- it is there
    below_ends : (sys : List ℕ) (e : End) → sysfs_below sight root ≡ Some sys → Ends w (next sys) e → Ends w (sysfs_of sight cause root next) e
    below_ends sys e is ends = below_at sys e (sight.place (root ++ codes "/sys")) is ends

    missing_at : (path : List ℕ) (o : Option (List ℕ)) → option_map_or (λ s. option_map_or (λ devices. None) (sight.place (s ++ codes "/devices")) (Some (s ++ codes "/devices"))) o (Some (root ++ codes "/sys")) ≡ Some path
        → Ends w (option_map_or (λ s. folder_of sight cause (s ++ codes "/devices") (λ devices. next s)) o (says (no_sysfs_text (root ++ codes "/sys") cause))) (Stops (Says (no_sysfs_text path cause)))
    unfolding Ends
    missing_at path None is = let same : path ≡ root ++ codes "/sys" = cc in ap (λ (p : List ℕ). Stops (Says (no_sysfs_text p cause))) same
    missing_at path (Some s) is = by (sight.place (s ++ codes "/devices")) is
      where
        by : (p : Option (List ℕ)) → option_map_or (λ devices. None) p (Some (s ++ codes "/devices")) ≡ Some path
            → Ends w (option_map_or (λ devices. next s) p (says (no_sysfs_text (s ++ codes "/devices") cause))) (Stops (Says (no_sysfs_text path cause)))
        by None is = let same : path ≡ s ++ codes "/devices" = cc in ap (λ (p : List ℕ). Stops (Says (no_sysfs_text p cause))) same
        by (Some d) is = absurd cc

    -- it isn't
    missing_ends : (path : List ℕ) → missing_folder sight root ≡ Some path → Ends w (sysfs_of sight cause root next) (Stops (Says (no_sysfs_text path cause)))
    missing_ends path is = missing_at path (sight.place (root ++ codes "/sys")) is

  -- ---- the device
  module _ (names : List (List ℕ)) (given sys : List ℕ) (next : List ℕ → Plan) where
    abbrev Several : (places : List (List ℕ)) → Plan
    Several places = says (several_text sight names sys given places)

    abbrev NoneThere : Plan
    NoneThere = none_there sight cause names root given sys

    abbrev OneOf : (places : List (List ℕ)) (e : End) → Type 0
    OneOf places e = Ends w (one_of next Several NoneThere places) e

    one_ends : (place : List ℕ) (e : End) (places : List (List ℕ)) → only places ≡ Some place → Ends w (next place) e → OneOf places e
    one_ends place e [] is ends = absurd cc
    one_ends place e (x ∷ []) is ends = let same : x ≡ place = cc in subst (λ (p : List ℕ). Ends w (next p) e) (sym same) ends
    one_ends place e (x ∷ y ∷ more) is ends = absurd cc

    -- it is meant
    there_ends : (place : List ℕ) (e : End) → only (places_meant sight names root sys given) ≡ Some place → Ends w (next place) e → Ends w (place_of sight cause names root given sys next) e
    there_ends place e is ends = one_ends place e (places_meant sight names root sys given) is ends

    -- what would tell of it can't be read
    unread_ends : (path : List ℕ) → places_meant sight names root sys given ≡ [] → unread_for sight root sys given ≡ Some path
        → Ends w (place_of sight cause names root given sys next) (Stops (Says (unread_text path cause)))
    unfolding Ends
    unread_ends path none is =
        subst (λ (l : List (List ℕ)). OneOf l (Stops (Says (unread_text path cause)))) (sym none)
        (subst (λ (o : Option (List ℕ)). Ends w (option_map_or (λ path. says (unread_text path cause)) o (says (missing_text sight names root sys given cause))) (Stops (Says (unread_text path cause)))) (sym is) refl)

    -- there is none
    none_ends : places_meant sight names root sys given ≡ [] → unread_for sight root sys given ≡ None
        → Ends w (place_of sight cause names root given sys next) (Stops (Says (missing_text sight names root sys given cause)))
    unfolding Ends
    none_ends none read =
        subst (λ (l : List (List ℕ)). OneOf l (Stops (Says (missing_text sight names root sys given cause)))) (sym none)
        (subst (λ (o : Option (List ℕ)). Ends w (option_map_or (λ path. says (unread_text path cause)) o (says (missing_text sight names root sys given cause))) (Stops (Says (missing_text sight names root sys given cause)))) (sym read) refl)

    -- there are several
    several_ends : (one other : List ℕ) (more : List (List ℕ)) → places_meant sight names root sys given ≡ one ∷ other ∷ more
        → Ends w (place_of sight cause names root given sys next) (Stops (Says (several_text sight names sys given (one ∷ other ∷ more))))
    unfolding Ends
    several_ends one other more are = subst (λ (l : List (List ℕ)). OneOf l (Stops (Says (several_text sight names sys given (one ∷ other ∷ more))))) (sym are) refl

-- ---- results
-- an error that says so ends a plan
error_ends : (w : Reads) (p : Plan) (text : List ℕ) (r : Refusal) → IsInWords text r → Ends w p (Stops (Says text)) → (r ≡ refusal.Plain error.Memory) ⊎ Ends w p (Stops (stop_of r))
error_ends w p text r is ends = by (in_words_stops text r is)
  where
    by : (r ≡ refusal.Plain error.Memory) ⊎ (stop_of r ≡ Says text) → (r ≡ refusal.Plain error.Memory) ⊎ Ends w p (Stops (stop_of r))
    by (inl memory) = inl memory
    by (inr says) = inr (subst (λ s. Ends w p (Stops s)) (sym says) ends)

abbrev EndsIn : Reads → Plan → Refusal → Type 0
EndsIn w p r = (r ≡ refusal.Plain error.Memory) ⊎ Ends w p (Stops (stop_of r))

module _ {Y : Type 0} (end_of : Y → End) (w : Reads) (sight : Sight) (root : List ℕ) where
  -- an error that was handed on is the result
  handed_on : (p : List ℕ → Plan) (r : Refusal) (result : Result Y Refusal) → OfCause (λ cause. EndsIn w (p cause) r) → IsErrAnd result (λ x. x ≡ r) → OfCause (λ cause. Follows end_of w (p cause) result)
  handed_on p r (Ok y) ends is = absurd is
  handed_on p r (Err x) ends is = (ends.0, ends.1, subst (EndsIn w (p ends.0)) (sym is) ends.2)

  -- there is no sysfs
  no_sysfs : (next : List ℕ → List ℕ → Plan) (r : Refusal) → IsNoSysfs root sight r → OfCause (λ cause. EndsIn w (sysfs_of sight cause root (next cause)) r)
  no_sysfs next r (inl memory) = whatever (λ cause. EndsIn w (sysfs_of sight cause root (next cause)) r) (inl memory)
  no_sysfs next r (inr none) = (
    none.words,
    none.one_line,
    error_ends w (sysfs_of sight none.words root (next none.words)) (no_sysfs_text none.path none.words) r none.said (missing_ends w sight none.words root (next none.words) none.path none.missing),
  )

  -- there is no device, or several are meant
  module _ (given sys : List ℕ) (next : List ℕ → List ℕ → List ℕ → Plan) (r : Refusal) (below : sysfs_below sight root ≡ Some sys) where
    abbrev In : (cause s : List ℕ) → Plan
    In cause s = place_of sight cause asked_names root given s (next cause s)

    -- the plan ends with the error of these words
    in_words : (cause text : List ℕ) → IsInWords text r → Ends w (In cause sys) (Stops (Says text)) → EndsIn w (sysfs_of sight cause root (In cause)) r
    in_words cause text said ends = error_ends w (sysfs_of sight cause root (In cause)) text r said (below_ends w sight cause root (In cause) sys (Stops (Says text)) below ends)

    no_device : IsNoDevice root sys given sight r → OfCause (λ cause. EndsIn w (sysfs_of sight cause root (In cause)) r)
    no_device (inl memory) = whatever (λ cause. EndsIn w (sysfs_of sight cause root (In cause)) r) (inl memory)
    no_device (inr (inl unread)) = (
      unread.words,
      unread.one_line,
      in_words unread.words (unread_text unread.path unread.words) unread.said
          (unread_ends w sight unread.words root asked_names given sys (next unread.words sys) unread.path unread.none unread.unread),
    )
    no_device (inr (inr (inl none))) = (
      none.words,
      none.one_line,
      in_words none.words (missing_text sight asked_names root sys given none.words) none.said (none_ends w sight none.words root asked_names given sys (next none.words sys) none.none none.all_read),
    )
    no_device (inr (inr (inr many))) =
        whatever (λ cause. EndsIn w (sysfs_of sight cause root (In cause)) r)
        (in_words [] (several_text sight asked_names sys given (many.one ∷ many.other ∷ many.more)) many.said
        (several_ends w sight [] root asked_names given sys (next [] sys) many.one many.other many.more many.are))

  -- ---- the device that is meant, by the rules that count
  module _ (given : List ℕ) (whose : Whose) where
    abbrev AtPlace : (sys place : List ℕ) → Plan
    AtPlace sys place = by_rules sight asked_names root whose sys (Some place)

    abbrev Meant : Result Y Refusal → Type 0
    Meant result = OfCause (λ cause. Follows end_of w (meant_plan sight cause asked_names root given whose) result)

    pub no_sysfs_for : (r : Refusal) (result : Result Y Refusal) → IsNoSysfs root sight r → IsErrAnd result (λ x. x ≡ r) → Meant result
    no_sysfs_for r result none is =
        handed_on (λ cause. meant_plan sight cause asked_names root given whose) r result
        (no_sysfs (λ cause sys. place_of sight cause asked_names root given sys (λ place. AtPlace sys place)) r none) is

    pub no_device_for : (sys : List ℕ) (r : Refusal) (result : Result Y Refusal) → sysfs_below sight root ≡ Some sys → IsNoDevice root sys given sight r → IsErrAnd result (λ x. x ≡ r) → Meant result
    no_device_for sys r result below none is =
        handed_on (λ cause. meant_plan sight cause asked_names root given whose) r result (no_device given sys (λ cause s place. AtPlace s place) r below none) is

    place_ends : (sys place : List ℕ) (e : End) → sysfs_below sight root ≡ Some sys → only (places_meant sight asked_names root sys given) ≡ Some place → Ends w (AtPlace sys place) e
        → Ends w (meant_plan sight [] asked_names root given whose) e
    place_ends sys place e below meant ends =
        below_ends w sight [] root (λ s. place_of sight [] asked_names root given s (λ p. AtPlace s p)) sys e below
        (there_ends w sight [] root asked_names given sys (λ p. AtPlace sys p) place e meant ends)

    pub place_follows : (sys place : List ℕ) (result : Result Y Refusal) → sysfs_below sight root ≡ Some sys → only (places_meant sight asked_names root sys given) ≡ Some place
        → Follows end_of w (AtPlace sys place) result → Meant result
    place_follows sys place (Ok y) below meant ends =
        whatever (λ cause. Follows end_of w (meant_plan sight cause asked_names root given whose) (Ok y)) (place_ends sys place (end_of y) below meant ends)
    place_follows sys place (Err r) below meant (inl memory) = whatever (λ cause. Follows end_of w (meant_plan sight cause asked_names root given whose) (Err r)) (inl memory)
    place_follows sys place (Err r) below meant (inr ends) =
        whatever (λ cause. Follows end_of w (meant_plan sight cause asked_names root given whose) (Err r)) (inr (place_ends sys place (Stops (stop_of r)) below meant ends))

  -- by rules files, or if there are none by the rules that are built in
  module _ (form : DeviceForm) (sys : List ℕ) (place : Option (List ℕ)) (sources : List Source) (result : Result Y Refusal) where
    abbrev First : Type 0
    First = Follows end_of w (by_files_first sight asked_names root form sys place sources) result

    abbrev Choice : Bool → Plan
    Choice b = if b then by_built_in sight asked_names root form sys place else by_files sight root (asks form) sys place sources

    pub none_follows : has_none sources ≡ true → Follows end_of w (by_built_in sight asked_names root form sys place) result → First
    none_follows none follows = subst (λ (b : Bool). Follows end_of w (Choice b) result) (sym none) follows

    pub files_follow : has_none sources ≡ false → Follows end_of w (by_files sight root (asks form) sys place sources) result → First
    files_follow some follows = subst (λ (b : Bool). Follows end_of w (Choice b) result) (sym some) follows

  -- no device is named
  pub unnamed_follows : (form : RulesForm) (r : Refusal) (result : Result Y Refusal) → IsInWords (needs_device form.why) r → IsErrAnd result (λ x. x ≡ r)
      → OfCause (λ cause. Follows end_of w (by_rules_plan sight cause asked_names root form false None) result)
  unfolding Ends
  unnamed_follows form r result said same =
      handed_on (λ cause. by_rules_plan sight cause asked_names root form false None) r result
      (whatever (λ cause. EndsIn w (says (needs_device form.why)) r) (error_ends w (says (needs_device form.why)) (needs_device form.why) r said refl)) same

  -- words that don't fit
  module _ (form : RulesForm) (udev given : Option (List ℕ)) (all from : Bool) where
    pub own_misused : (text : List ℕ) (r : Refusal) (result : Result Y Refusal) → rules_misuse form udev given all from ≡ Some text → IsInWords text r → IsErrAnd result (λ x. x ≡ r)
        → OfCause (λ cause. Follows end_of w (own_plan sight cause asked_names root form udev given all from) result)
    unfolding Ends
    own_misused text r result is said same =
        handed_on (λ cause. own_plan sight cause asked_names root form udev given all from) r result
        (whatever (λ cause. EndsIn w (own_plan sight cause asked_names root form udev given all from) r)
        (subst (λ (o : Option (List ℕ)). EndsIn w (if_fit o (by_rules_plan sight [] asked_names root form all given)) r) (sym is) (error_ends w (says text) text r said refl))) same

    pub own_fits : (result : Result Y Refusal) → rules_misuse form udev given all from ≡ None → OfCause (λ cause. Follows end_of w (by_rules_plan sight cause asked_names root form all given) result)
        → OfCause (λ cause. Follows end_of w (own_plan sight cause asked_names root form udev given all from) result)
    own_fits result is (cause, one_line, follows) =
        (cause, one_line, subst (λ (o : Option (List ℕ)). Follows end_of w (if_fit o (by_rules_plan sight cause asked_names root form all given)) result) (sym is) follows)

  module _ (names : List (List ℕ)) where
    -- ---- all devices
    pub unlisted_follows : (r : Refusal) (result : Result Y Refusal) → IsNoSysfs root sight r → IsErrAnd result (λ x. x ≡ r) → OfCause (λ cause. Follows end_of w (devices_plan sight cause names root) result)
    unlisted_follows r result none is = handed_on (λ cause. devices_plan sight cause names root) r result (no_sysfs (λ cause sys. Done (Answers 0 [] (device_list sight names sys))) r none) is

    pub listed_follows : (sys : List ℕ) (y : Y) → sysfs_below sight root ≡ Some sys → end_of y ≡ Answers 0 [] (device_list sight names sys) → OfCause (λ cause. Follows end_of w (devices_plan sight cause names root) (Ok y))
    unfolding Ends
    listed_follows sys y below is =
        whatever (λ cause. Follows end_of w (devices_plan sight cause names root) (Ok y))
        (below_ends w sight [] root (λ s. Done (Answers 0 [] (device_list sight names s))) sys (end_of y) below is)

    pub memory_listed : (result : Result Y Refusal) → IsErrAnd result (λ x. x ≡ refusal.Plain error.Memory) → OfCause (λ cause. Follows end_of w (devices_plan sight cause names root) result)
    memory_listed (Ok y) is = absurd is
    memory_listed (Err r) is = whatever (λ cause. Follows end_of w (devices_plan sight cause names root) (Err r)) (inl is)

    -- ---- the strings of all devices
    module _ (whose : Whose) where
      abbrev AllBelow : (sys : List ℕ) → Plan
      AllBelow sys = by_rules sight names root whose sys None

      abbrev Every : Result Y Refusal → Type 0
      Every result = OfCause (λ cause. Follows end_of w (strings_plan sight cause names root whose) result)

      pub unsaid_follows : (r : Refusal) (result : Result Y Refusal) → IsNoSysfs root sight r → IsErrAnd result (λ x. x ≡ r) → Every result
      unsaid_follows r result none is = handed_on (λ cause. strings_plan sight cause names root whose) r result (no_sysfs (λ cause sys. AllBelow sys) r none) is

      pub strings_follow : (sys : List ℕ) (result : Result Y Refusal) → sysfs_below sight root ≡ Some sys → Follows end_of w (AllBelow sys) result → Every result
      strings_follow sys (Ok y) below ends =
          whatever (λ cause. Follows end_of w (strings_plan sight cause names root whose) (Ok y)) (below_ends w sight [] root (λ s. AllBelow s) sys (end_of y) below ends)
      strings_follow sys (Err r) below (inl memory) = whatever (λ cause. Follows end_of w (strings_plan sight cause names root whose) (Err r)) (inl memory)
      strings_follow sys (Err r) below (inr ends) =
          whatever (λ cause. Follows end_of w (strings_plan sight cause names root whose) (Err r)) (inr (below_ends w sight [] root (λ s. AllBelow s) sys (Stops (stop_of r)) below ends))

      -- words that don't fit
      pub misused_follows : (form : DeviceForm) (given : Option (List ℕ)) (text : List ℕ) (r : Refusal) (result : Result Y Refusal) → all_misuse form given ≡ Some text → IsInWords text r
          → IsErrAnd result (λ x. x ≡ r) → OfCause (λ cause. Follows end_of w (every_plan sight cause names root form whose given) result)
      unfolding Ends
      misused_follows form given text r result is said same =
          handed_on (λ cause. every_plan sight cause names root form whose given) r result
          (whatever (λ cause. EndsIn w (every_plan sight cause names root form whose given) r)
          (subst (λ (o : Option (List ℕ)). EndsIn w (if_fit o (strings_plan sight [] names root whose)) r) (sym is) (error_ends w (says text) text r said refl))) same

      pub fits_follow : (form : DeviceForm) (given : Option (List ℕ)) (result : Result Y Refusal) → all_misuse form given ≡ None → Every result
          → OfCause (λ cause. Follows end_of w (every_plan sight cause names root form whose given) result)
      fits_follow form given result is (cause, one_line, follows) =
          (cause, one_line, subst (λ (o : Option (List ℕ)). Follows end_of w (if_fit o (strings_plan sight cause names root whose)) result) (sym is) follows)

-- ---- the bytes of a database
pub answers_are : (status : ℕ) (err out text : List ℕ) → status ≡ 0 → err ≡ [] → out ≡ text → Answers status err out ≡ Answers 0 [] text
answers_are status err out text zero none is = cc

-- they give an answer
pub text_ends : (w : Reads) (form : DeviceForm) (device : Device) (path bytes : List ℕ) (status : ℕ) (err out : List ℕ) → status ≡ 0 → err ≡ [] → IsTextOf (device_text form device) bytes out
    → Ends w (device_answer form device path bytes) (Answers status err out)
unfolding Ends
text_ends w form device path bytes status err out zero none is = inl (is.tree, is.database, same)
  where
    text : out ≡ device_text form device is.tree
    text = is.is

    same : Answers status err out ≡ Answers 0 [] (device_text form device is.tree)
    same = cc

-- or an error
pub no_text_ends : (w : Reads) (form : DeviceForm) (device : Device) (path bytes : List ℕ) (e : ToolError) (r : Refusal) → IsDatabaseRefusal bytes e → IsStop (database_stop path e) r
    → (r ≡ refusal.Plain error.Memory) ⊎ Ends w (device_answer form device path bytes) (Stops (stop_of r))
unfolding Ends
no_text_ends w form device path bytes e r is (inl memory) = inl memory
no_text_ends w form device path bytes (error.BadDatabase f) r none (inr says) = inr (inr (f, none, ap Stops says))
no_text_ends w form device path bytes error.Memory r is (inr says) = inl (plainly r says)
no_text_ends w form device path bytes _ r is (inr says) = absurd is

-- ---- by the machine's own rules
abbrev pub RulesText : RulesForm → List RulesFile → Device → Tree → List ℕ
RulesText form files device t =
    if form.why then whys_form form.form (whys_by_rules (told_by t) files device)
    else found_form form.form device (database_patterns t) (found_by_rules (told_by t) files device)

pub rules_text_ends : (w : Reads) (form : RulesForm) (sources : List Source) (files : List RulesFile) (device : Device) (path bytes : List ℕ) (status : ℕ) (err out : List ℕ) → files ≡ files_of sources
    → status ≡ 0 → err ≡ [] → IsTextOf (RulesText form files device) bytes out → Ends w (rules_answer form sources device path bytes) (Answers status err out)
unfolding Ends
rules_text_ends w form sources files device path bytes status err out are zero none is = inl (is.tree, is.database, same)
  where
    text : out ≡ RulesText form (files_of sources) device is.tree
    text = is.is ∙ ap (λ (l : List RulesFile). RulesText form l device is.tree) are

    same : Answers status err out ≡ Answers 0 [] (RulesText form (files_of sources) device is.tree)
    same = cc

pub no_rules_text_ends : (w : Reads) (form : RulesForm) (sources : List Source) (device : Device) (path bytes : List ℕ) (e : ToolError) (r : Refusal) → IsDatabaseRefusal bytes e → IsStop (database_stop path e) r
    → (r ≡ refusal.Plain error.Memory) ⊎ Ends w (rules_answer form sources device path bytes) (Stops (stop_of r))
unfolding Ends
no_rules_text_ends w form sources device path bytes e r is (inl memory) = inl memory
no_rules_text_ends w form sources device path bytes (error.BadDatabase f) r none (inr says) = inr (inr (f, none, ap Stops says))
no_rules_text_ends w form sources device path bytes error.Memory r is (inr says) = inl (plainly r says)
no_rules_text_ends w form sources device path bytes _ r is (inr says) = absurd is

-- ---- the strings of all devices
module _ (w : Reads) (sight : Sight) (files : Option (List RulesFile)) (names : List (List ℕ)) (sys path bytes : List ℕ) where
  pub strings_end : (status : ℕ) (err out : List ℕ) → status ≡ 0 → err ≡ unread_lines sight sys → IsTextOf (all_asked_text files sight names sys) bytes out
      → Ends w (strings_answer sight files names sys path bytes) (Answers status err out)
  unfolding Ends
  strings_end status err out zero told is = inl (is.tree, is.database, same)
    where
      text : out ≡ all_asked_text files sight names sys is.tree
      text = is.is

      same : Answers status err out ≡ Answers 0 (unread_lines sight sys) (all_asked_text files sight names sys is.tree)
      same = cc

  pub no_strings_end : (e : ToolError) (r : Refusal) → IsDatabaseRefusal bytes e → IsStop (database_stop path e) r
      → (r ≡ refusal.Plain error.Memory) ⊎ Ends w (strings_answer sight files names sys path bytes) (Stops (stop_of r))
  unfolding Ends
  no_strings_end e r is (inl memory) = inl memory
  no_strings_end (error.BadDatabase f) r none (inr says) = inr (inr (f, none, ap Stops says))
  no_strings_end error.Memory r is (inr says) = inl (plainly r says)
  no_strings_end _ r is (inr says) = absurd is

-- there was no memory
pub memory_follows : {Y : Type 0} (end_of : Y → End) (w : Reads) (p : Plan) (result : Result Y Refusal) → IsErrAnd result (λ x. x ≡ refusal.Plain error.Memory) → Follows end_of w p result
memory_follows end_of w p (Ok y) is = absurd is
memory_follows end_of w p (Err r) is = inl is
