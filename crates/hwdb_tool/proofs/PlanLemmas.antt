-- Ends of these commands, from what their calls promise.
use Rattle.std.proofs.Common.{◌≡◌, ◌≤◌, ◌∙◌, ◌⊎◌, inl, inr, ap, sym, subst, ◌==◌, ◌∷◌, arith, eqb-true, map, string_bytes, All, Bool, Global, String, true, false, List, None, Option, Result, Err, ℕ, [], length}
use Rattle.hwdb_spec_commands.specs.Asked.{unsayable_text}
use Rattle.hwdb_spec.specs.Texts.{max_file}
use Rattle.hwdb_tool.specs.Views.{end_of}
use Rattle.hwdb_tool.specs.declared.answer.Answer.{Answer}
use Rattle.hwdb_spec_commands.specs.Databases.{IsSayable, IsSummary, IsTextOf}
use Rattle.hwdb_spec_commands.specs.Dump.{dump_text, dumped, first_unsaid}
use Rattle.hwdb_spec_commands.specs.DumpErrors.{IsDumpRefusal}
use Rattle.hwdb_spec.specs.Format.{IsDatabase}
use Rattle.hwdb_spec_commands.specs.Summary.{summary_of, summary_text}
use Rattle.hwdb_spec_commands.specs.Told.{IsStop, Reads, stop_of}
use Rattle.hwdb_spec_commands.specs.Told.Stop.{Says}
use Rattle.hwdb_spec.specs.Tree.{Tree}
use Rattle.hwdb_spec_commands.specs.VerifyErrors.{IsVerifyRefusal}
use Rattle.hwdb_spec.specs.declared.errors.DumpError.{DumpError}
use Rattle.hwdb_spec.specs.declared.errors.DumpError.TheVariants as dumping
use Rattle.hwdb_spec.specs.declared.errors.ToolError.TheVariants as error
use Rattle.hwdb_spec.specs.declared.errors.VerifyError.{VerifyError}
use Rattle.hwdb_spec.specs.declared.errors.VerifyError.TheVariants as verifying
use Rattle.hwdb_spec_commands.specs.declared.refusals.Refusal.{Refusal}
use Rattle.hwdb_spec_commands.specs.declared.refusals.Refusal.TheVariants as refusal
use Rattle.hwdb_plan.specs.Dump.{database_stop, dump_stop, if_said, text_form}
use Rattle.hwdb_plan.specs.Lemmas.Steps.{plainly}
use Rattle.hwdb_plan.specs.Plans.{Ends, Follows}
use Rattle.hwdb_plan.specs.Plans.End.{Answers, Stops}
use Rattle.hwdb_plan.specs.Verify.{summary, verify_stop}
use Rattle.hwdb_near.specs.Refusals.{IsNearRefusal}
use Rattle.hwdb_spec.specs.Folders.{Source}
use Rattle.hwdb_spec_commands.specs.Near.{PatternAt}
use Rattle.hwdb_spec_commands.specs.NearAsked.{database_patterns, patterns_from}
use Rattle.hwdb_spec_commands.specs.declared.unread.Unread.TheVariants as unread
use Rattle.hwdb_spec_commands.specs.Wanted.{test_status, test_text}
use Rattle.hwdb_spec.specs.declared.errors.NearError.{NearError}
use Rattle.hwdb_spec.specs.declared.errors.NearError.TheVariants as comparing
use Rattle.hwdb_spec.specs.declared.errors.ToolError.{ToolError}
use Rattle.hwdb_spec_program.specs.NearErrors.{error_of}
use Rattle.hwdb_spec_program.specs.TestErrors.{IsTrialRefusal}
use Rattle.hwdb_spec_program.specs.Tested.{IsVerdict}
use Rattle.hwdb_plan.specs.Asking.{asked}
use Rattle.hwdb_plan.specs.Files.{OfInput, given_files}
use Rattle.hwdb_plan.specs.Near.{near_database, near_plan}
use Rattle.hwdb_plan.specs.Plans.Plan.{Done}
use Rattle.hwdb_plan.specs.Test.{tested}
use Rattle.hwdb_tool.proofs.TextErrorLemmas.{long_file}

-- ---- `verify`
-- it ends in an answer
pub summed : (w : Reads) (path bytes : List ℕ) (status : ℕ) (err out : List ℕ) → status ≡ 0 → err ≡ [] → IsSummary bytes out → Ends w (summary path bytes) (Answers status err out)
unfolding Ends
summed w path bytes status err out zero none is = inl (is.tree, is.database, same)
  where
    text : out ≡ summary_text (summary_of (length bytes) is.tree)
    text = is.is

    same : Answers status err out ≡ Answers 0 [] (summary_text (summary_of (length bytes) is.tree))
    same = cc

-- or in an error
pub unsummed : (w : Reads) (path bytes : List ℕ) (e : VerifyError) (r : Refusal) → IsVerifyRefusal bytes e → IsStop (verify_stop path e) r
    → (r ≡ refusal.Plain error.Memory) ⊎ Ends w (summary path bytes) (Stops (stop_of r))
unfolding Ends
unsummed w path bytes e r is (inl memory) = inl memory
unsummed w path bytes (verifying.Database f) r none (inr says) = inr (inr (f, none, ap Stops says))
unsummed w path bytes verifying.Memory r is (inr says) = inl (plainly r says)

-- ---- `dump`
-- it ends in an answer
pub texted : (w : Reads) (path bytes : List ℕ) (status : ℕ) (err out : List ℕ) → ((b : List ℕ) (t u : Tree) → IsDatabase b t → IsDatabase b u → t ≡ u)
    → status ≡ 0 → err ≡ [] → IsTextOf dump_text bytes out → IsSayable bytes → Ends w (text_form path bytes) (Answers status err out)
unfolding Ends
texted w path bytes status err out one zero none is all =
    inl (is.tree, is.database, subst (λ u. Ends w (if_said path u (dump_text is.tree)) (Answers status err out)) (sym said) same)
  where
    said : first_unsaid (dumped is.tree) ≡ None
    said = ap (λ (t : Tree). first_unsaid (dumped t)) (one bytes is.tree all.tree is.database all.database) ∙ all.said

    text : out ≡ dump_text is.tree
    text = is.is

    same : Answers status err out ≡ Answers 0 [] (dump_text is.tree)
    same = cc

-- or in an error
pub untexted : (w : Reads) (path bytes : List ℕ) (e : DumpError) (r : Refusal) → IsDumpRefusal bytes e → IsStop (dump_stop path e) r
    → (r ≡ refusal.Plain error.Memory) ⊎ Ends w (text_form path bytes) (Stops (stop_of r))
unfolding Ends
untexted w path bytes e r is (inl memory) = inl memory
untexted w path bytes (dumping.Database f) r none (inr says) = inr (inr (f, none, ap Stops says))
untexted w path bytes (dumping.Unsayable pattern) r is (inr says) =
    inr (inl (
      is.tree,
      is.database,
      subst (λ u. Ends w (if_said path u (dump_text is.tree)) (Stops (stop_of r))) (sym is.unsaid.unsaid) (ap Stops (says ∙ ap (λ q. Says (unsayable_text path q)) is.unsaid.is)),
    ))
untexted w path bytes dumping.Memory r is (inr says) = inl (plainly r says)

-- ---- `test`
-- it ends in an answer
pub tested_ends : (w : Reads) (json : Bool) (sources : List Source) (path bytes : List ℕ) (status : ℕ) (err out : List ℕ) → err ≡ [] → IsVerdict json sources status bytes out
    → Ends w (tested json sources path bytes) (Answers status err out)
unfolding Ends
tested_ends w json sources path bytes status err out none is = inl (is.tree, is.database, same)
  where
    text : out ≡ test_text json sources is.tree
    text = is.is

    says : status ≡ test_status sources is.tree
    says = is.says

    same : Answers status err out ≡ Answers (test_status sources is.tree) [] (test_text json sources is.tree)
    same = cc

-- or in an error; files that were read have no more lines than can be numbered
pub untested_ends : (w : Reads) (json : Bool) (sources : List Source) (path bytes : List ℕ) (e : ToolError) (r : Refusal) → All (λ (s : Source). length s.bytes ≤ max_file) sources
    → IsTrialRefusal sources bytes e → IsStop (database_stop path e) r → (r ≡ refusal.Plain error.Memory) ⊎ Ends w (tested json sources path bytes) (Stops (stop_of r))
unfolding Ends
untested_ends w json sources path bytes e r short is (inl memory) = inl memory
untested_ends w json sources path bytes (error.BadDatabase f) r short none (inr says) = inr (inr (f, none, ap Stops says))
untested_ends w json sources path bytes error.TooManyLines r short is (inr says) = absurd (long_file sources short is)
untested_ends w json sources path bytes error.Memory r short is (inr says) = inl (plainly r says)
untested_ends w json sources path bytes error.Read r short nope (inr says) = absurd nope
untested_ends w json sources path bytes error.Write r short nope (inr says) = absurd nope
untested_ends w json sources path bytes error.TooLong r short nope (inr says) = absurd nope
untested_ends w json sources path bytes error.TooManyFiles r short nope (inr says) = absurd nope
untested_ends w json sources path bytes error.TooLarge r short nope (inr says) = absurd nope
untested_ends w json sources path bytes error.BadPosition r short nope (inr says) = absurd nope
untested_ends w json sources path bytes (error.Replace u) r short nope (inr says) = absurd nope

-- ---- `near`
-- it ends in an answer
pub near_ends : (w : Reads) (form : List PatternAt → List ℕ) (path bytes : List ℕ) (status : ℕ) (err out : List ℕ) → status ≡ 0 → err ≡ [] → IsTextOf (λ tree. form (database_patterns tree)) bytes out
    → Ends w (near_database form path bytes) (Answers status err out)
unfolding Ends
near_ends w form path bytes status err out zero none is = inl (is.tree, is.database, same)
  where
    text : out ≡ form (database_patterns is.tree)
    text = is.is

    same : Answers status err out ≡ Answers 0 [] (form (database_patterns is.tree))
    same = cc

-- or in an error
pub not_near_ends : (w : Reads) (form : List PatternAt → List ℕ) (path bytes : List ℕ) (e : NearError) (t : ToolError) (r : Refusal) → IsNearRefusal bytes e → t ≡ error_of e → IsStop (database_stop path t) r
    → (r ≡ refusal.Plain error.Memory) ⊎ Ends w (near_database form path bytes) (Stops (stop_of r))
unfolding Ends
not_near_ends w form path bytes e t r is same says = by e is (subst (λ (x : ToolError). IsStop (database_stop path x) r) same says)
  where
    by : (x : NearError) → IsNearRefusal bytes x → IsStop (database_stop path (error_of x)) r → (r ≡ refusal.Plain error.Memory) ⊎ Ends w (near_database form path bytes) (Stops (stop_of r))
    by x is (inl memory) = inl memory
    by (comparing.Database f) none (inr says) = inr (inr (f, none, ap Stops says))
    by comparing.Memory is (inr says) = inl (plainly r says)

-- of files it ends in an answer
pub near_files_end : (w : Reads) (form : List PatternAt → List ℕ) (sources : List Source) (status : ℕ) (err out : List ℕ) → status ≡ 0 → err ≡ [] → out ≡ form (patterns_from 1 sources)
    → Ends w (Done (Answers 0 [] (form (patterns_from 1 sources)))) (Answers status err out)
unfolding Ends
near_files_end w form sources status err out zero none text = cc

-- the plan of `near`, if no file is given, and if some are
module _ (w : Reads) (root : List ℕ) (form : List PatternAt → List ℕ) (input : Option (List ℕ)) (n m : ℕ) (result : Result Answer Refusal) where
  pub near_none : (given : List (String Global)) → (length given == 0) ≡ true → Follows end_of w (asked root (near_database form)) result
      → OfInput input n m (λ told. Follows end_of w (near_plan told (map string_bytes given) root form) result)
  near_none [] none follows = (Err unread.Memory, tt, follows)
  near_none (path ∷ more) none follows = absurd (let e = eqb-true (length (path ∷ more)) 0 none in omega (arith, e))

  pub near_some : (given : List (String Global)) → (length given == 0) ≡ false
      → OfInput input n m (λ told. Follows end_of w (given_files (map string_bytes given) told (map string_bytes given) (λ sources. Done (Answers 0 [] (form (patterns_from 1 sources))))) result)
      → OfInput input n m (λ told. Follows end_of w (near_plan told (map string_bytes given) root form) result)
  near_some [] some follows = absurd (cc)
  near_some (path ∷ more) some follows = follows
