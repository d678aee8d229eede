-- What an update says is lost.
use Rattle.std.proofs.Common.{◌≡◌, ◌≤◌, ◌∙◌, ◌==◌, ap, sym, subst, refl, inl, inr, eqb-true, true≢false, ℕ, Bool, true, false, not, List, [], ◌∷◌, length, Option, Some, None, IfSome, Result, Ok, arith}
use Rattle.std.specs.Prelude.{option_map}
use Rattle.hwdb_plan.specs.Lemmas.Update.{IsLostBy}
use Rattle.hwdb_plan.specs.Plans.{Ends, Plan, ReachesValue}
use Rattle.hwdb_plan.specs.Update.{loss_of, lost_in}
use Rattle.hwdb_spec_commands.specs.Told.{Reads}
use Rattle.hwdb_spec_commands.specs.Asked.{database_path}
use Rattle.hwdb_spec_commands.specs.Emptied.{IsLost, loss_text}
use Rattle.hwdb_spec.specs.Folders.{Choice}
use Rattle.hwdb_spec.specs.Format.{IsDatabase}
use Rattle.hwdb_spec_commands.specs.Status.{Amount, IsAmountOf, is_bare}
use Rattle.hwdb_spec_commands.specs.Status.Amount.{Counted, Uncounted}
use Rattle.hwdb_spec.specs.Tree.{Tree, members_under}
use Rattle.hwdb_spec_commands.specs.declared.refusals.Refusal.{Refusal}
use Rattle.hwdb_spec.specs.Texts.{max_file}
use Rattle.hwdb_tool.specs.Emptying.{is_nothing}
use Rattle.hwdb_tool.specs.declared.databases.FoundDatabase.{FoundDatabase}

-- ---- whether something is lost

-- a database that was found has no more bytes than a file may have
pub found_within : (found : Option FoundDatabase) → IfSome found (λ f. length f.bytes.items ≤ max_file) → IfSome (option_map (λ (f : FoundDatabase). f.bytes.items) found) (λ b. length b ≤ max_file)
found_within None within = tt
found_within (Some found) within = within

pub none_of : {A : Type 0} → (xs : List A) → length xs ≡ 0 → xs ≡ []
none_of [] e = refl
none_of (x ∷ xs) e = absurd (let bad = e in omega (arith, bad))

module _ (tree : (bytes : List ℕ) (t u : Tree) → IsDatabase bytes t → IsDatabase bytes u → t ≡ u) where
  -- how many assignments a counted database has
  counts : Amount → ℕ
  counts (Counted files assignments bytes) = assignments
  counts (Uncounted bytes) = 0

  pub lost_of : (bytes : List ℕ) (amount : Amount) → IsAmountOf bytes amount → IsLost (Some bytes) (not (is_nothing amount))
  unfolding counts
  lost_of bytes (Uncounted size) is = λ empty. absurd (is.0 empty.0 empty.1)
  lost_of bytes (Counted files assignments size) is = go (assignments == 0) refl
    where
      many : assignments ≡ length (members_under [] is.0)
      many = ap counts is.2

      go : (b : Bool) → (assignments == 0) ≡ b → IsLost (Some bytes) (not b)
      go true e = (is.0, is.1, none_of (members_under [] is.0) (sym many ∙ eqb-true assignments 0 e))
      go false e = λ empty.
          let one : is.0 ≡ empty.0 = tree bytes is.0 empty.0 is.1 empty.1 in
          let zero : assignments ≡ 0 = many ∙ ap (λ (t : Tree). length (members_under [] t)) one ∙ ap length empty.2 in
          absurd (true≢false (ap (λ (n : ℕ). n == 0) (sym zero) ∙ e))

-- the same by the database that bytes are
assigned : Amount → ℕ
assigned (Counted files assignments bytes) = assignments
assigned (Uncounted bytes) = 0

pub lost_by : (bytes : List ℕ) (amount : Amount) → IsAmountOf bytes amount → IsLostBy bytes (not (is_nothing amount))
unfolding assigned
lost_by bytes (Uncounted size) is = inr (is.0, refl)
lost_by bytes (Counted files assignments size) is = inl (is.0, is.1, ap (λ (n : ℕ). not (n == 0)) many)
  where
    many : assignments ≡ length (members_under [] is.0)
    many = ap assigned is.2

-- ---- the plan of what is lost
-- after /etc's, /usr/lib's is looked at
abbrev pub usr_looked : (root : List ℕ) (usr etc : Bool) → (List ℕ → Plan) → Plan
usr_looked root usr etc next = lost_in (database_path true root) (λ of_usr. next (loss_text root usr etc of_usr))

-- and after both there is the text
abbrev pub text_lost : (root : List ℕ) (usr etc of_usr : Bool) → (List ℕ → Plan) → Plan
text_lost root usr etc of_usr next = next (loss_text root usr etc of_usr)

module _ (w : Reads) (root : List ℕ) (usr : Bool) {V : Type 0} (of : V → List ℕ) where
  pub loss_if_bare : (result : Result V Refusal) (chosen : List Choice) → true ≡ is_bare chosen → ReachesValue of w (loss_of [] root usr) result → ReachesValue of w (loss_of chosen root usr) result
  loss_if_bare result [] bare reaches = reaches
  loss_if_bare result (c ∷ more) bare reaches = absurd (true≢false bare)

  pub loss_if_full : (text : V) (chosen : List Choice) → false ≡ is_bare chosen → of text ≡ [] → ReachesValue of w (loss_of chosen root usr) (Ok text)
  loss_if_full text [] bare none = absurd (true≢false (sym bare))
  loss_if_full text (c ∷ more) bare none = λ next e ends. subst (λ (t : List ℕ). Ends w (next t) e) none ends
