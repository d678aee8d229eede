-- Ends of `device --from`, from what its calls promise.
use Rattle.std.proofs.Common.{◌≡◌, ◌∙◌, ◌⊎◌, inl, inr, ap, append_assoc, refl, sym, subst, Bool, List, Option, None, Some, Result, Ok, Err, ℕ, [], ◌∷◌, ◌++◌, false, true}
use Rattle.std.specs.Prelude.{codes, if◌then◌else◌}
use Rattle.std.specs.Result.{IsErrAnd}
use Rattle.hwdb_spec.specs.declared.errors.ToolError.{ToolError}
use Rattle.hwdb_spec.specs.declared.errors.ToolError.TheVariants as error
use Rattle.hwdb_spec_commands.specs.DatabaseErrors.{IsDatabaseRefusal}
use Rattle.hwdb_spec_commands.specs.Databases.{IsTextOf}
use Rattle.hwdb_spec_commands.specs.AllStrings.{all_strings_text, unread_lines}
use Rattle.hwdb_spec_commands.specs.DeviceAsked.{device_list, no_device_text}
use Rattle.hwdb_spec_commands.specs.DeviceFound.{near_given, only, places_meant, several_text}
use Rattle.hwdb_spec_commands.specs.DeviceTexts.{device_text}
use Rattle.hwdb_spec_commands.specs.DeviceTree.{device_at}
use Rattle.hwdb_spec_commands.specs.Exports.{export_sight, is_export, no_export_text, without_machine}
use Rattle.hwdb_spec_commands.specs.Given.{is_dash}
use Rattle.hwdb_spec_commands.specs.Refusals.{IsInWords}
use Rattle.hwdb_spec_commands.specs.Sysfs.{Device}
use Rattle.hwdb_spec_commands.specs.Told.{IsStop, IsUnreadAs, Reads, stop_of}
use Rattle.hwdb_spec_commands.specs.Told.Stop.{Says}
use Rattle.hwdb_spec_commands.specs.declared.devices.DeviceForm.{DeviceForm}
use Rattle.hwdb_spec_commands.specs.declared.refusals.Refusal.{Refusal}
use Rattle.hwdb_spec_commands.specs.declared.refusals.Refusal.TheVariants as refusal
use Rattle.hwdb_spec_commands.specs.declared.unread.Unread.{Unread}
use Rattle.hwdb_spec_commands.specs.declared.unread.Unread.TheVariants as unread
use Rattle.hwdb_spec_program.specs.DeviceErrors.{asked_names}
use Rattle.hwdb_plan.specs.Asking.{asked, if_read}
use Rattle.hwdb_plan.specs.Device.{all_misuse}
use Rattle.hwdb_plan.specs.Dump.{database_stop}
use Rattle.hwdb_plan.specs.Files.{OfInput}
use Rattle.hwdb_plan.specs.Given.{given_at}
use Rattle.hwdb_plan.specs.Input.{OverGiven}
use Rattle.hwdb_plan.specs.Lemmas.Steps.{plainly}
use Rattle.hwdb_plan.specs.OverText.{if_fit}
use Rattle.hwdb_plan.specs.Plans.{End, Ends, Follows, Next, Plan}
use Rattle.hwdb_plan.specs.Plans.End.{Answers, Stops}
use Rattle.hwdb_plan.specs.Plans.Plan.{Input}
use Rattle.hwdb_plan.specs.Report.{Report, found_answer, found_asked, found_device, found_devices, found_strings, none_found, report_answer, sys}
use Rattle.hwdb_plan.specs.Sysfs.{one_of, says}
use Rattle.hwdb_tool.specs.Reported.{IsUnfoundIn}

-- an error in words says these, or there was no memory
in_words_stops : (text : List ℕ) (r : Refusal) → IsInWords text r → (r ≡ refusal.Plain error.Memory) ⊎ (stop_of r ≡ Says text)
in_words_stops text (refusal.Plain e) is = inl (ap refusal.Plain is)
in_words_stops text (refusal.InWords said) is = inr (ap Says is)
in_words_stops text (refusal.At e p c) is = absurd is
in_words_stops text refusal.NoDatabase is = absurd is

-- ---- the bytes of a database
-- they give an answer of a device
pub found_ends : (w : Reads) (r : Report) (form : DeviceForm) (place path bytes : List ℕ) (device : Device) (status : ℕ) (err out : List ℕ) → status ≡ 0 → err ≡ r.lacks → device ≡ device_at r.sight r.names sys place
    → IsTextOf (device_text form device) bytes out → Ends w (found_answer r form place path bytes) (Answers status err out)
unfolding Ends
found_ends w r form place path bytes device status err out zero told read is = inl (is.tree, is.database, same)
  where
    text : out ≡ device_text form (device_at r.sight r.names sys place) is.tree
    text = is.is ∙ ap (λ (d : Device). device_text form d is.tree) read

    same : Answers status err out ≡ Answers 0 r.lacks (device_text form (device_at r.sight r.names sys place) is.tree)
    same = cc

-- or of all devices
pub strings_ends : (w : Reads) (r : Report) (path bytes : List ℕ) (status : ℕ) (err out : List ℕ) → status ≡ 0 → err ≡ r.lacks ++ unread_lines r.sight sys → IsTextOf (all_strings_text r.sight r.names sys) bytes out
    → Ends w (found_strings r path bytes) (Answers status err out)
unfolding Ends
strings_ends w r path bytes status err out zero told is = inl (is.tree, is.database, same)
  where
    text : out ≡ all_strings_text r.sight r.names sys is.tree
    text = is.is

    same : Answers status err out ≡ Answers 0 (r.lacks ++ unread_lines r.sight sys) (all_strings_text r.sight r.names sys is.tree)
    same = cc

-- or an error
pub no_found_ends : (w : Reads) (r : Report) (form : DeviceForm) (place path bytes : List ℕ) (e : ToolError) (x : Refusal) → IsDatabaseRefusal bytes e → IsStop (database_stop path e) x
    → (x ≡ refusal.Plain error.Memory) ⊎ Ends w (found_answer r form place path bytes) (Stops (stop_of x))
unfolding Ends
no_found_ends w r form place path bytes e x is (inl memory) = inl memory
no_found_ends w r form place path bytes (error.BadDatabase f) x none (inr says) = inr (inr (f, none, ap Stops says))
no_found_ends w r form place path bytes error.Memory x is (inr says) = inl (plainly x says)
no_found_ends w r form place path bytes _ x is (inr says) = absurd is

pub no_strings_ends : (w : Reads) (r : Report) (path bytes : List ℕ) (e : ToolError) (x : Refusal) → IsDatabaseRefusal bytes e → IsStop (database_stop path e) x
    → (x ≡ refusal.Plain error.Memory) ⊎ Ends w (found_strings r path bytes) (Stops (stop_of x))
unfolding Ends
no_strings_ends w r path bytes e x is (inl memory) = inl memory
no_strings_ends w r path bytes (error.BadDatabase f) x none (inr says) = inr (inr (f, none, ap Stops says))
no_strings_ends w r path bytes error.Memory x is (inr says) = inl (plainly x says)
no_strings_ends w r path bytes _ x is (inr says) = absurd is

-- what an export shows
abbrev pub over : (names : List (List ℕ)) (root path bytes : List ℕ) → Report
over names root path bytes = record { sight = export_sight bytes; lacks = without_machine path bytes; names = names; root = root }

module _ {Y : Type 0} (end_of : Y → End) (w : Reads) where
  -- an error in words is the end of a plan
  error_follows : (p : Plan) (text : List ℕ) (r : Refusal) (result : Result Y Refusal) → IsInWords text r → IsErrAnd result (λ x. x ≡ r) → Ends w p (Stops (Says text)) → Follows end_of w p result
  error_follows p text r (Ok y) said is ends = absurd is
  error_follows p text r (Err x) said is ends = by (in_words_stops text r said)
    where
      by : (r ≡ refusal.Plain error.Memory) ⊎ (stop_of r ≡ Says text) → (x ≡ refusal.Plain error.Memory) ⊎ Ends w p (Stops (stop_of x))
      by (inl memory) = inl (is ∙ memory)
      by (inr says) = inr (subst (λ s. Ends w p (Stops s)) (sym (ap stop_of is ∙ says)) ends)

  memory_follows : (p : Plan) (r : Refusal) (result : Result Y Refusal) → r ≡ refusal.Plain error.Memory → IsErrAnd result (λ x. x ≡ r) → Follows end_of w p result
  memory_follows p r (Ok y) memory is = absurd is
  memory_follows p r (Err x) memory is = inl (is ∙ memory)

  -- ---- a device
  module _ (r : Report) (form : DeviceForm) (given : List ℕ) where
    abbrev OneOf : List (List ℕ) → Plan
    OneOf places = one_of (λ place. asked r.root (found_answer r form place)) (λ places. says (several_text r.sight r.names sys given places)) (none_found r given) places

    pub one_follows : (place : List ℕ) (result : Result Y Refusal) → only (places_meant r.sight r.names [] sys given) ≡ Some place → Follows end_of w (asked r.root (found_answer r form place)) result
        → Follows end_of w (found_device r form given) result
    one_follows place result is follows = by (places_meant r.sight r.names [] sys given) is
      where
        by : (places : List (List ℕ)) → only places ≡ Some place → Follows end_of w (OneOf places) result
        by [] is = absurd cc
        by (x ∷ []) is = let same : x ≡ place = cc in subst (λ (p : List ℕ). Follows end_of w (asked r.root (found_answer r form p)) result) (sym same) follows
        by (x ∷ y ∷ more) is = absurd cc

    pub none_follows : (x : Refusal) (result : Result Y Refusal) → r.names ≡ asked_names → IsUnfoundIn sys given r.sight x → IsErrAnd result (λ y. y ≡ x) → Follows end_of w (found_device r form given) result
    unfolding Ends
    none_follows x result names (inl memory) is = memory_follows (found_device r form given) x result memory is
    none_follows x result names (inr (inl (none, said))) is =
        error_follows (found_device r form given) (no_device_text false given [] (near_given r.sight asked_names sys given)) x result said is
        (subst (λ (l : List (List ℕ)). Ends w (OneOf l) (Stops (Says (no_device_text false given [] (near_given r.sight asked_names sys given)))))
        (sym (ap (λ (n : List (List ℕ)). places_meant r.sight n [] sys given) names ∙ none)) (ap (λ (n : List (List ℕ)). Stops (Says (no_device_text false given [] (near_given r.sight n sys given)))) (sym names)))
    none_follows x result names (inr (inr many)) is =
        error_follows (found_device r form given) (several_text r.sight asked_names sys given (many.one ∷ many.other ∷ many.more)) x result many.said is
        (subst (λ (l : List (List ℕ)). Ends w (OneOf l) (Stops (Says (several_text r.sight asked_names sys given (many.one ∷ many.other ∷ many.more)))))
        (sym (ap (λ (n : List (List ℕ)). places_meant r.sight n [] sys given) names ∙ many.are)) (ap (λ (n : List (List ℕ)). Stops (Says (several_text r.sight n sys given (many.one ∷ many.other ∷ many.more)))) (sym names)))

  -- ---- all devices
  pub listed_follows : (r : Report) (y : Y) → end_of y ≡ Answers 0 r.lacks (device_list r.sight r.names sys) → Follows end_of w (found_devices r) (Ok y)
  unfolding Ends
  listed_follows r y is = is

  pub misused_follows : (form : DeviceForm) (given : Option (List ℕ)) (p : Plan) (text : List ℕ) (r : Refusal) (result : Result Y Refusal) → all_misuse form given ≡ Some text → IsInWords text r → IsErrAnd result (λ x. x ≡ r)
      → Follows end_of w (if_fit (all_misuse form given) p) result
  unfolding Ends
  misused_follows form given p text r result is said same =
      error_follows (if_fit (all_misuse form given) p) text r result said same (subst (λ (o : Option (List ℕ)). Ends w (if_fit o p) (Stops (Says text))) (sym is) refl)

  pub fits_follow : (form : DeviceForm) (given : Option (List ℕ)) (p : Plan) (result : Result Y Refusal) → all_misuse form given ≡ None → Follows end_of w p result → Follows end_of w (if_fit (all_misuse form given) p) result
  fits_follow form given p result is follows = subst (λ (o : Option (List ℕ)). Follows end_of w (if_fit o p) result) (sym is) follows

  -- ---- bytes that are no export
  module _ (names : List (List ℕ)) (root : List ℕ) (form : DeviceForm) (all : Bool) (given : Option (List ℕ)) (path bytes : List ℕ) where
    abbrev By : Bool → Plan
    By b = if b then found_asked (over names root path bytes) form all given else says (no_export_text path)

    pub no_export_follows : (r : Refusal) (result : Result Y Refusal) → is_export bytes ≡ false → IsInWords (no_export_text path) r → IsErrAnd result (λ x. x ≡ r)
        → Follows end_of w (report_answer names root form all given path bytes) result
    unfolding Ends
    no_export_follows r result none said same =
        error_follows (By (is_export bytes)) (no_export_text path) r result said same (subst (λ (b : Bool). Ends w (By b) (Stops (Says (no_export_text path)))) (sym none) refl)

    pub export_follows : (result : Result Y Refusal) → is_export bytes ≡ true → Follows end_of w (found_asked (over names root path bytes) form all given) result → Follows end_of w (report_answer names root form all given path bytes) result
    export_follows result is follows = subst (λ (b : Bool). Follows end_of w (By b) result) (sym is) follows

    pub memory_reported : (result : Result Y Refusal) → IsErrAnd result (λ x. x ≡ refusal.Plain error.Memory) → Follows end_of w (report_answer names root form all given path bytes) result
    memory_reported result is = memory_follows (report_answer names root form all given path bytes) (refusal.Plain error.Memory) result refl is

pub memory_ends : {Y : Type 0} (end_of : Y → End) (w : Reads) (p : Plan) (result : Result Y Refusal) → IsErrAnd result (λ x. x ≡ refusal.Plain error.Memory) → Follows end_of w p result
memory_ends end_of w p result is = memory_follows end_of w p (refusal.Plain error.Memory) result refl is

-- ---- the file
-- how errors call it
abbrev pub called : (path : List ℕ) → List ℕ
called path = if is_dash path then codes "standard input" else path

module _ {Y : Type 0} (end_of : Y → End) (w : Reads) (input : Option (List ℕ)) (n m : ℕ) (next : Next) where
  -- what is told of a path that was read
  told_follows : (path bytes : List ℕ) (told : Result (List ℕ) Unread) (result : Result Y Refusal) → told ≡ Ok bytes → Follows end_of w (next path bytes) result → Follows end_of w (if_read path next told) result
  told_follows path bytes told result is follows = subst (λ (t : Result (List ℕ) Unread). Follows end_of w (if_read path next t) result) (sym is) follows

  untold_follows : (path : List ℕ) (told : Result (List ℕ) Unread) (r : Refusal) (result : Result Y Refusal) → IsUnreadAs told path r → IsErrAnd result (λ x. x ≡ r) → Follows end_of w (if_read path next told) result
  unfolding Ends
  untold_follows path told r (Ok y) why is = absurd is
  untold_follows path told r (Err x) (inl memory) is = inl (is ∙ memory)
  untold_follows path told r (Err x) (inr (u, so, says)) is =
      inr (subst (λ (t : Result (List ℕ) Unread). Ends w (if_read path next t) (Stops (stop_of x))) (sym so) (ap Stops (ap stop_of is ∙ says)))

  input_of : (path : List ℕ) (result : Result Y Refusal) → Follows end_of w (if_read path next (w.input path)) result → Follows end_of w (Input path (if_read path next)) result
  unfolding Ends
  input_of path (Ok y) follows = follows
  input_of path (Err r) follows = follows

  -- words that give a path
  pub over_read : (b : Bool) (path bytes : List ℕ) (result : Result Y Refusal) → is_dash path ≡ b
      → OverGiven b path input n m w (λ at reads. reads.input at ≡ Ok bytes) → Follows end_of w (next (called path) bytes) result → OfInput input n m (λ told. Follows end_of w (given_at told path next) result)
  over_read true path bytes result is (told, so, read) follows = (
    told,
    so,
    subst (λ (b : Bool). Follows end_of w (if b then if_read (codes "standard input") next told else Input path (if_read path next)) result) (sym is)
        (told_follows (codes "standard input") bytes told result read (subst (λ (b : Bool). Follows end_of w (next (if b then codes "standard input" else path) bytes) result) is follows)),
  )
  over_read false path bytes result is read follows = (
    Err unread.Memory,
    tt,
    subst (λ (b : Bool). Follows end_of w (if b then if_read (codes "standard input") next (Err unread.Memory) else Input path (if_read path next)) result) (sym is)
        (input_of path result (told_follows path bytes (w.input path) result read (subst (λ (b : Bool). Follows end_of w (next (if b then codes "standard input" else path) bytes) result) is follows))),
  )

  pub over_unread : (b : Bool) (path : List ℕ) (r : Refusal) (result : Result Y Refusal) → is_dash path ≡ b → OverGiven b path input n m w (λ at reads. IsUnreadAs (reads.input at) at r) → IsErrAnd result (λ x. x ≡ r)
      → OfInput input n m (λ told. Follows end_of w (given_at told path next) result)
  over_unread true path r result is (told, so, why) same = (
    told,
    so,
    subst (λ (b : Bool). Follows end_of w (if b then if_read (codes "standard input") next told else Input path (if_read path next)) result) (sym is)
        (untold_follows (codes "standard input") told r result why same),
  )
  over_unread false path r result is why same = (
    Err unread.Memory,
    tt,
    subst (λ (b : Bool). Follows end_of w (if b then if_read (codes "standard input") next (Err unread.Memory) else Input path (if_read path next)) result) (sym is)
        (input_of path result (untold_follows path (w.input path) r result why same)),
  )

-- ---- texts
pub answers_are : (status : ℕ) (err out told text : List ℕ) → status ≡ 0 → err ≡ told → out ≡ text → Answers status err out ≡ Answers 0 told text
answers_are status err out told text zero same is = cc

pub two_pieces : (a b c t1 t2 t3 : List ℕ) → t1 ≡ a → t2 ≡ t1 ++ b → t3 ≡ t2 ++ c → t3 ≡ a ++ (b ++ c)
two_pieces a b c t1 t2 t3 h1 h2 h3 = h3 ∙ ap (λ (l : List ℕ). l ++ c) (h2 ∙ ap (λ (l : List ℕ). l ++ b) h1) ∙ append_assoc a b c
