-- `--text`, as a plan over what is there.
use Rattle.std.proofs.Common.{◌≡◌, ◌≤◌, arith, inl, inr, ap, List, Result, Ok, Err, ℕ, Bool, true, false, refl, length}
use Rattle.std.specs.Prelude.{nat_le, if◌then◌else◌}
use Rattle.std.specs.Str.{bytes_eq}
use Rattle.std.proofs.lemmas.Bool.Decides.{nat_tests}
use Rattle.hwdb_spec.specs.Texts.{max_file}
use Rattle.hwdb_spec_commands.specs.Asked.{database_path}
use Rattle.hwdb_spec_commands.specs.Runs.{Told}
use Rattle.hwdb_spec_commands.specs.Told.{Reads}
use Rattle.hwdb_spec_commands.specs.declared.refusals.Refusal.{Refusal}
use Rattle.hwdb_spec_commands.specs.declared.unread.Unread.{Unread}
use Rattle.hwdb_spec_commands.specs.declared.unread.Unread.TheVariants as unread
use Rattle.hwdb_plan.specs.Ended.{Outs, ShowsEnd}
use Rattle.hwdb_plan.specs.Laws.{OnlyAskedMatters, OverIsOver, TellOne}
use Rattle.hwdb_plan.specs.Plans.{End, Ends, Plan, over, reads_over}
use Rattle.hwdb_system.specs.Raw.{present, told_bytes}
use Rattle.hwdb_system.specs.Reads.{with_read}

-- bytes of no more than a file may have are told
told : (made : List ℕ) → length made ≤ max_file → told_bytes made ≡ Ok made
told made within =
    let few : nat_le (length made) max_file ≡ true = grind (arith, nat_tests, within) in
    ap (λ b. if b then Ok made else Err unread.TooLong) few

module _ (root made : List ℕ) (w : Reads) (within : length made ≤ max_file) where
  abbrev Is : List ℕ → Bool
  Is path = bytes_eq path (database_path false root)

  one : (path : List ℕ) → TellOne (with_read root made w) (reads_over Is made w) path
  one path = record {
    input = ap (λ (r : Result (List ℕ) Unread). if Is path then r else w.input path) (told made within);
    text = ap (λ (r : Result (List ℕ) Unread). if Is path then r else w.text path) (told made within);
    database = ap (λ (r : Result (List ℕ) Unread). if Is path then present r else w.database path) (told made within);
    names = refl;
    folder = refl;
    ignored = refl;
  }

  pub text_ends : OnlyAskedMatters → OverIsOver → (p : Plan) (e : End) → Ends (with_read root made w) p e → Ends w (over Is made p) e
  text_ends only is_over p e ends = is_over Is made w p e (only (with_read root made w) (reads_over Is made w) p e (λ path asks. one path) ends)

  pub text_shows : OnlyAskedMatters → OverIsOver → (p : Plan) (input_before input_now : Told) (before now : Outs) (result : Result ℕ Refusal)
      → ShowsEnd (with_read root made w) p input_before input_now before now result → ShowsEnd w (over Is made p) input_before input_now before now result
  text_shows only is_over p ib im before now result (inl (e, ends, shows)) = inl (e, text_ends only is_over p e ends, shows)
  text_shows only is_over p ib im before now result (inr none) = inr none
