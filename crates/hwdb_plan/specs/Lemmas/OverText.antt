-- Steps of functions that follow a plan with `--text`.
use Rattle.std.proofs.Common.{◌≡◌, ◌+◌, ◌∙◌, ◌⊎◌, ◌++◌, arith, inl, inr, ap, length-append, sym, subst, refl, true, false, List, [], length, Option, None, Some, Result, Ok, Err, ℕ}
use Rattle.std.proofs.KnownBytes.{Appends-trans}
use Rattle.std.proofs.Math.Seq.{take-append-add}
use Rattle.std.proofs.lemmas.List.{take-append-le}
use Rattle.std.specs.Io.KnownBytes.{Appends}
use Rattle.std.specs.Result.{IsErrAnd}
use Rattle.hwdb_spec.specs.Failures.{OneFailed}
use Rattle.hwdb_spec_commands.specs.Asked.{database_path}
use Rattle.hwdb_spec_commands.specs.Runs.{HasTaken, Told, WasCut}
use Rattle.hwdb_spec_commands.specs.Told.{Reads, Stop}
use Rattle.hwdb_spec_commands.specs.Told.Stop.{NoDatabase}
use Rattle.hwdb_spec_commands.specs.declared.form.Form.{Form}
use Rattle.hwdb_spec_commands.specs.declared.refusals.Refusal.{Refusal}
use Rattle.hwdb_spec_commands.specs.declared.unread.Unread.{Unread}
use Rattle.hwdb_plan.specs.Answers.{answer_plan, answered}
use Rattle.hwdb_plan.specs.Asking.{if_there}
use Rattle.hwdb_plan.specs.Ended.{FailedIn, Outs, Prints, Shows}
use Rattle.hwdb_plan.specs.Folders.{Texts, texts_of_folders}
use Rattle.hwdb_plan.specs.Lemmas.Folders.{value_stops, value_then}
use Rattle.hwdb_plan.specs.OverText.{Basis, basis, basis_now, basis_of, from_basis, is_first, said_after, text_plan, with_after}
use Rattle.hwdb_plan.specs.Plans.{End, Ends, Plan, ReachesValue, over}
use Rattle.hwdb_plan.specs.Plans.End.{Answers, Lines, Replaces, Scans, Stops, Streams}
use Rattle.hwdb_plan.specs.Plans.Plan.{Compile, Database, Decode, Done, Folder, Ignored, Input, Inspect, Names, Spell, Text}
use Rattle.hwdb_plan.specs.Sides.{made_of, taken_from}
use Rattle.hwdb_plan.specs.TextLaws.{MayFollow, SaidIsAfter, SaidIsNoMore, ShowsAfter, WasSaid}

-- ---- ends
-- an error is followed by nothing
pub stops_after : (text : List ℕ) (s : Stop) → with_after text (Stops s) ≡ Stops s
stops_after text s = refl

pub said_is_after : SaidIsAfter
unfolding Ends said_after
said_is_after text w (Done x) e ends = ap (with_after text) ends
said_is_after text w (Input path next) e ends = said_is_after text w (next (w.input path)) e ends
said_is_after text w (Text path next) e ends = said_is_after text w (next (w.text path)) e ends
said_is_after text w (Database path next) e ends = said_is_after text w (next (w.database path)) e ends
said_is_after text w (Names folder next) e ends = said_is_after text w (next (w.names folder)) e ends
said_is_after text w (Folder path next) e ends = said_is_after text w (next (w.folder path)) e ends
said_is_after text w (Ignored folder next) e ends = said_is_after text w (next (w.ignored folder)) e ends
said_is_after text w (Spell at next) e (inl (p, is, ends)) = inl (p, is, said_is_after text w (next (Some p)) e ends)
said_is_after text w (Spell at next) e (inr (none, ends)) = inr (none, said_is_after text w (next None) e ends)
said_is_after text w (Inspect bytes next) e (inl (t, is, ends)) = inl (t, is, said_is_after text w (next (Some t)) e ends)
said_is_after text w (Inspect bytes next) e (inr (none, ends)) = inr (none, said_is_after text w (next None) e ends)
said_is_after text w (Decode bytes bad next) e (inl (t, is, ends)) = inl (t, is, said_is_after text w (next t) e ends)
said_is_after text w (Decode bytes bad next) e (inr (f, has, is)) = inr (f, has, ap (with_after text) is)
said_is_after text w (Compile etc usr most bad next) e (inl (b, is, ends)) = inl (b, is, said_is_after text w (next b) e ends)
said_is_after text w (Compile etc usr most bad next) e (inr (x, has, is)) = inr (x, has, ap (with_after text) is)

abbrev IsOf : (text : List ℕ) → Reads → Plan → End → Type 0
IsOf text w p e = (f : End) × Ends w p f × (e ≡ with_after text f)

pub said_is_no_more : SaidIsNoMore
unfolding Ends said_after
said_is_no_more text w (Done x) e ends = (x, refl, ends)
said_is_no_more text w (Input path next) e ends = said_is_no_more text w (next (w.input path)) e ends
said_is_no_more text w (Text path next) e ends = said_is_no_more text w (next (w.text path)) e ends
said_is_no_more text w (Database path next) e ends = said_is_no_more text w (next (w.database path)) e ends
said_is_no_more text w (Names folder next) e ends = said_is_no_more text w (next (w.names folder)) e ends
said_is_no_more text w (Folder path next) e ends = said_is_no_more text w (next (w.folder path)) e ends
said_is_no_more text w (Ignored folder next) e ends = said_is_no_more text w (next (w.ignored folder)) e ends
said_is_no_more text w (Spell at next) e (inl (p, is, ends)) = let below = said_is_no_more text w (next (Some p)) e ends in (below.0, inl (p, is, below.1), below.2)
said_is_no_more text w (Spell at next) e (inr (none, ends)) = let below = said_is_no_more text w (next None) e ends in (below.0, inr (none, below.1), below.2)
said_is_no_more text w (Inspect bytes next) e (inl (t, is, ends)) = let below = said_is_no_more text w (next (Some t)) e ends in (below.0, inl (t, is, below.1), below.2)
said_is_no_more text w (Inspect bytes next) e (inr (none, ends)) = let below = said_is_no_more text w (next None) e ends in (below.0, inr (none, below.1), below.2)
said_is_no_more text w (Decode bytes bad next) e (inl (t, is, ends)) = let below = said_is_no_more text w (next t) e ends in (below.0, inl (t, is, below.1), below.2)
said_is_no_more text w (Decode bytes bad next) e (inr (f, has, is)) = (Stops (bad f), inr (f, has, refl), is)
said_is_no_more text w (Compile etc usr most bad next) e (inl (b, is, ends)) = let below = said_is_no_more text w (next b) e ends in (below.0, inl (b, is, below.1), below.2)
said_is_no_more text w (Compile etc usr most bad next) e (inr (x, has, is)) = (Stops (bad x), inr (x, has, refl), is)

-- ---- one text, and then another one
pub taken_then : (one two : List ℕ) (a b c : Told) → HasTaken one a b → HasTaken two b c → HasTaken (one ++ two) a c
taken_then one two a b c p q = record { whole = Appends-trans a.bytes b.bytes c.bytes one two p.whole q.whole; unfailed = q.unfailed ∙ p.unfailed }

cut_then : (one two : List ℕ) (a b c : Told) → HasTaken one a b → WasCut two b c → WasCut (one ++ two) a c
cut_then one two a b c p q = record {
  prefix = (
    length one + q.prefix.0,
    omega (arith, length-append one two, q.prefix.1),
    subst (λ (l : List ℕ). Appends a.bytes c.bytes l) (sym (take-append-add one two q.prefix.0)) (Appends-trans a.bytes b.bytes c.bytes _ _ p.whole q.prefix.2),
  );
  failed = subst (λ (n : ℕ). OneFailed n c.failures) p.unfailed q.failed;
}

cut_before : (one two : List ℕ) (a b : Told) → WasCut one a b → WasCut (one ++ two) a b
cut_before one two a b p = record {
  prefix = (
    p.prefix.0,
    omega (arith, length-append one two, p.prefix.1),
    subst (λ (l : List ℕ). Appends a.bytes b.bytes l) (sym (take-append-le p.prefix.0 one two p.prefix.1)) p.prefix.2,
  );
  failed = p.failed;
}

-- ---- outputs
module _ (text : List ℕ) (before middle now : Outs) where
  failed_before : (err out : List ℕ) → FailedIn err out before middle → FailedIn err (out ++ text) before middle
  failed_before err out failed = record { quiet = failed.quiet; cut = by failed.cut }
    where
      by : (WasCut err before.err middle.err × (middle.out ≡ before.out)) ⊎ (HasTaken err before.err middle.err × WasCut out before.out middle.out)
          → (WasCut err before.err middle.err × (middle.out ≡ before.out)) ⊎ (HasTaken err before.err middle.err × WasCut (out ++ text) before.out middle.out)
      by (inl cut) = inl cut
      by (inr (took, cut)) = inr (took, cut_before out text before.out middle.out cut)

  prints_after : (status : ℕ) (err out : List ℕ) (first result : Result ℕ Refusal) → Prints status err out before middle first → WasSaid text middle now first result
      → Prints status err (out ++ text) before now result
  prints_after status err out (Ok n) (Ok m) (is, both) said = (
    said.said.0 ∙ is,
    record {
      took_err = subst (λ (t : Told). HasTaken err before.err t) (sym said.err) both.took_err;
      quiet = λ none. said.err ∙ both.quiet none;
      took_out = taken_then out text before.out middle.out now.out both.took_out said.said.1;
    },
  )
  prints_after status err out (Ok n) (Err r) (is, both) said = (
    said.said.0,
    record {
      quiet = λ none. said.err ∙ both.quiet none;
      cut = inr (subst (λ (t : Told). HasTaken err before.err t) (sym said.err) both.took_err, cut_then out text before.out middle.out now.out both.took_out said.said.1);
    },
  )
  prints_after status err out (Err r) (Ok m) (is, failed) said = absurd cc
  prints_after status err out (Err r) (Err x) (is, failed) said =
      (one ∙ is, subst (λ (o : Outs). FailedIn err (out ++ text) before o) (sym said.said.1) (failed_before err out failed))
    where
      one : x ≡ r
      one = let same = said.said.0 in cc

  -- an empty text changes nothing
  pub none_after : (P : Outs → Result ℕ Refusal → Type 0) (first result : Result ℕ Refusal) → text ≡ [] → WasSaid text middle now first result → P middle first → P now result
  none_after P first result none said shows =
      let same = said.quiet none in
      subst (λ (o : Outs). P o result) (sym same.0) (subst (λ (r : Result ℕ Refusal). P middle r) (sym same.1) shows)

pub shows_after : ShowsAfter
shows_after text (Stops s) ib im before middle now (Ok n) result may shows said = absurd shows.0
shows_after text (Stops s) ib im before middle now (Err r) result may shows said =
    subst (λ (o : Outs). Shows (Stops s) ib im before o result) (sym said.said.1) (subst (λ (x : Result ℕ Refusal). Shows (Stops s) ib im before middle x) (sym said.said.0) shows)
shows_after text (Answers status err out) ib im before middle now first result may shows said = prints_after text before middle now status err out first result shows said
shows_after text (Lines lines) ib im before middle now first result may shows said =
    none_after text before middle now (λ o r. Shows (Lines lines) ib im before o r) first result may said shows
shows_after text (Streams of_lines) ib im before middle now first result may shows said =
    none_after text before middle now (λ o r. Shows (Streams of_lines) ib im before o r) first result may said shows
shows_after text (Scans path count) ib im before middle now first result may shows said =
    none_after text before middle now (λ o r. Shows (Scans path count) ib im before o r) first result may said shows
shows_after text (Replaces folder bytes out status) ib im before middle now first result may shows said = absurd shows

-- ---- what is answered from
module _ (w : Reads) (root : List ℕ) (besides : Texts → List ℕ) {S V : Type 0} (texts : S → Texts) (of : V → Basis) where
  abbrev Made : S → (List ℕ → Plan) → Plan
  Made s = made_of (taken_from true (texts s).chosen (texts s).texts) (taken_from false (texts s).chosen (texts s).texts)

  -- the text files can't be read
  pub texts_stop : (r : Refusal) (result : Result V Refusal) → ReachesValue texts w (texts_of_folders root) (Err r) → IsErrAnd result (λ x. x ≡ r) → ReachesValue of w (basis_now root besides) result
  texts_stop r result read is = value_stops w texts of (texts_of_folders root) (basis_of besides) r result read is

  -- or not be compiled
  pub made_stop : {Y : Type 0} (value : Y → List ℕ) (s : S) (r : Refusal) (result : Result V Refusal) → ReachesValue texts w (texts_of_folders root) (Ok s) → ReachesValue value w (Made s) (Err r)
      → IsErrAnd result (λ x. x ≡ r) → ReachesValue of w (basis_now root besides) result
  made_stop value s r result read not is =
      value_then w texts of (texts_of_folders root) (basis_of besides) s result read (value_stops w value of (Made s) (λ d next. next (basis (besides (texts s)) d)) r result not is)

  -- they are
  pub basis_made : {Y : Type 0} (value : Y → List ℕ) (s : S) (y : Y) (v : V) → ReachesValue texts w (texts_of_folders root) (Ok s) → ReachesValue value w (Made s) (Ok y)
      → of v ≡ basis (besides (texts s)) (value y) → ReachesValue of w (basis_now root besides) (Ok v)
  basis_made value s y v read made is = λ next e ends.
      read (λ t. basis_of besides t next) e (made (λ d. next (basis (besides (texts s)) d)) e (subst (λ (b : Basis). Ends w (next b) e) is ends))

  -- the plan goes on over what they make
  pub basis_goes : (v : V) → ReachesValue of w (basis_now root besides) (Ok v) → (p : Plan) (e : End) → Ends w (over (is_first root) (of v).database p) e
      → Ends w (text_plan root besides p) (with_after (of v).besides e)
  basis_goes v goes p e ends = goes (from_basis root p) (with_after (of v).besides e) (said_is_after (of v).besides w (over (is_first root) (of v).database p) e ends)

-- ---- what a text may follow
-- every end by none
pub none_follows : (text : List ℕ) (e : End) → text ≡ [] → MayFollow text e
none_follows text (Stops s) none = tt
none_follows text (Answers status err out) none = tt
none_follows text (Lines lines) none = none
none_follows text (Streams of_lines) none = none
none_follows text (Scans path count) none = none
none_follows text (Replaces folder bytes said status) none = none

-- what the database that is asked gives devices is an answer, or an error
module _ (text : List ℕ) (form : Form) (devices : List (List ℕ)) (w : Reads) (e : End) where
  answered_follows : (path bytes : List ℕ) → Ends w (answered form devices path bytes) e → MayFollow text e
  unfolding Ends
  answered_follows path bytes (inl (t, is, ends)) = subst (MayFollow text) (sym ends) tt
  answered_follows path bytes (inr (f, has, ends)) = subst (MayFollow text) (sym ends) tt

  there_follows : (path : List ℕ) (none : Plan) (told : Result (Option (List ℕ)) Unread) → (Ends w none e → MayFollow text e) → Ends w (if_there path (answered form devices) none told) e → MayFollow text e
  unfolding Ends
  there_follows path none (Ok None) after ends = after ends
  there_follows path none (Ok (Some bytes)) after ends = answered_follows path bytes ends
  there_follows path none (Err why) after ends = subst (MayFollow text) (sym ends) tt

  none_there : Ends w (Done (Stops NoDatabase)) e → MayFollow text e
  unfolding Ends
  none_there ends = subst (MayFollow text) (sym ends) tt

  pub asked_follows : (root : List ℕ) → Ends w (answer_plan root form devices) e → MayFollow text e
  unfolding Ends
  asked_follows root =
      there_follows (database_path false root) (Database (database_path true root) (if_there (database_path true root) (answered form devices) (Done (Stops NoDatabase)))) (w.database (database_path false root))
      (there_follows (database_path true root) (Done (Stops NoDatabase)) (w.database (database_path true root)) none_there)
