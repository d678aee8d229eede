-- What others make of the files.
use Rattle.std.proofs.Common.{◌≡◌, ◌≢◌, ◌⊎◌, ◌≤◌, ◌<◌, inl, inr, ⊎_elim, ℕ, Bool, true, false, cond, bytes_eq, List, [], ◌∷◌, ◌++◌, length, Option, Some, None, get_or, Result, Ok, Err, MatchResult, refl, sym, ap, ◌∙◌, subst, arith, decimal}
use Rattle.std.proofs.lemmas.Fmt.{decimal_is_IsNumeral}
use Rattle.std.proofs.lemmas.Str.Parse.{digit_at}
use Rattle.std.specs.Int.{IsInRange}
use Rattle.std.proofs.lemmas.Slice.Eq.{bytes_eq-Decides}
use Rattle.hwdb_spec.specs.Crashes.{Event, put, synced, moved, removed, names_synced, Traces, begin, after_event, changed, MayLeave}
use Rattle.hwdb_spec.specs.Store.{Stored, Outcomes, Always, database_file, Elapses, NoMore, NoMoreBut, NoMoreCreated, NoMoreRenamed, OldOrCleared, database_name, part_name, path_in}
use Rattle.hwdb_spec.specs.Sharing.{AreTheirs, IsAnyPart, MayDo, OldOrOurs, OldOursOrTheirs, OursOrTheirs}
use Rattle.hwdb_replace.specs.declared.calls.CallFailed.{CallFailed}
use Rattle.hwdb_replace.specs.declared.memory.Step.{Step}
use Rattle.hwdb_replace.specs.Memory.{IsPassed, event, state_of, seen_of, left_of, is_whole_of, since_of, from_now_of, earlier_of}
use Rattle.hwdb_replace.specs.Sharing.{WentOn, left_with, since_with}
use Rattle.hwdb_replace.proofs.StepLemmas.{changed_left, same_file, elapses_on_step, kept_left, both, state_on}

-- no new file has the database's name: its own ends with a digit
end_of : ℕ → List ℕ → ℕ
end_of d [] = d
end_of d (x ∷ xs) = end_of x xs

end_on : (d : ℕ) (xs : List ℕ) (y : ℕ) (ys : List ℕ) → end_of d (xs ++ y ∷ ys) ≡ end_of y ys
unfolding end_of
end_on d [] y ys = refl
end_on d (x ∷ xs) y ys = end_on x xs y ys

end_get : (d x : ℕ) (xs : List ℕ) → end_of d (x ∷ xs) ≡ get_or (x ∷ xs) (length xs) 0
unfolding end_of
end_get d x [] = refl
end_get d x (y ∷ ys) = end_get x y ys

end_digit : (d : ℕ) (ds : List ℕ) → 0 < length ds → ((i : ℕ) → i < length ds → IsInRange 48 57 (get_or ds i 0)) → IsInRange 48 57 (end_of d ds)
unfolding end_of
end_digit d [] some all = absurd (omega (arith, some))
end_digit d (x ∷ xs) some all = subst (IsInRange 48 57) (sym (end_get d x xs)) (all (length xs) (omega arith))

pub database_is_no_part : (folder : List ℕ) → IsAnyPart (path_in folder database_name) → ⊥
unfolding end_of
database_is_no_part folder (other, part) =
    let digits = (decimal_is_IsNumeral part.number (omega (arith, part.tried))).0 in
    let same : 110 ≡ end_of 110 (decimal part.number) =
    sym (end_on 0 folder 47 database_name) ∙ ap (end_of 0) part.is ∙ end_on 0 other 47 (part_name part.number) in
    let range : IsInRange 48 57 (end_of 110 (decimal part.number)) = end_digit 110 (decimal part.number) digits.0 (λ i h. digit_at (decimal part.number) i digits.1 h) in
    absurd (omega (arith, same, range.1))

module _ (whole : Stored → Type 0) (own : List ℕ) where
  -- one step of theirs
  step_left : (e : Event) → MayDo whole own e → (q : List ℕ) (t : Traces) (v : Option Stored) → MayLeave (after_event q t e) v → MayLeave t v ⊎ AreTheirs whole q v
  step_left (put path file) (part, ne) q t v = by (bytes_eq q path) refl
    where
      by : (b : Bool) → bytes_eq q path ≡ b → MayLeave (cond b (changed (Some file) true t) t) v → MayLeave t v ⊎ AreTheirs whole q v
      by true e l = inr (inl (subst IsAnyPart (sym ((bytes_eq-Decides q path).0 e)) part))
      by false e l = inl l
  step_left (synced path) may q t v = by (bytes_eq q path)
    where
      by : (b : Bool) → MayLeave (cond b (record { now = t.now; loose = false; before = t.before; torn = t.torn }) t) v → MayLeave t v ⊎ AreTheirs whole q v
      by true l = inl l
      by false l = inl l
  step_left (removed path) (part, ne) q t v = by (bytes_eq q path) refl
    where
      by : (b : Bool) → bytes_eq q path ≡ b → MayLeave (cond b (changed None false t) t) v → MayLeave t v ⊎ AreTheirs whole q v
      by true e l = inr (inl (subst IsAnyPart (sym ((bytes_eq-Decides q path).0 e)) part))
      by false e l = inl l
  step_left (moved from to file loose) (part, ne, nt, tight, is, (folder, at)) q t v = by (bytes_eq q to) refl (bytes_eq q from) refl
    where
      by : (b : Bool) → bytes_eq q to ≡ b → (c : Bool) → bytes_eq q from ≡ c → MayLeave (cond b (changed (Some file) loose t) (cond c (changed None false t) t)) v → MayLeave t v ⊎ AreTheirs whole q v
      by true e c f l = ⊎_elim (λ was. inl was) (λ now. inr (inr (folder, file, (bytes_eq-Decides q to).0 e ∙ at, is, now)))
          (changed_left (Some file) t v (subst (λ (b : Bool). MayLeave (changed (Some file) b t) v) tight l))
      by false e true f l = inr (inl (subst IsAnyPart (sym ((bytes_eq-Decides q from).0 f)) part))
      by false e false f l = inl l
  step_left names_synced may q t v = λ l. inl (⊎_elim (λ e. inl e) (λ e. inr (inr (both t.torn t.loose e).0)) (kept_left t v l))

  other : (path : List ℕ) → path ≢ own → bytes_eq own path ≡ false
  other path ne = by (bytes_eq own path) refl
    where
      by : (b : Bool) → bytes_eq own path ≡ b → bytes_eq own path ≡ false
      by true e = absurd (ne (sym ((bytes_eq-Decides own path).0 e)))
      by false e = e

  step_own : (e : Event) → MayDo whole own e → (t : Traces) → ((after_event own t e).now ≡ t.now) × (t.loose ≡ false → (after_event own t e).loose ≡ false)
  step_own (put path file) (part, ne) t =
      let same : cond (bytes_eq own path) (changed (Some file) true t) t ≡ t = ap (λ (b : Bool). cond b (changed (Some file) true t) t) (other path ne) in
      (ap (λ (u : Traces). u.now) same, λ l. ap (λ (u : Traces). u.loose) same ∙ l)
  step_own (synced path) may t = by (bytes_eq own path)
    where
      by : (b : Bool) → ((cond b (record { now = t.now; loose = false; before = t.before; torn = t.torn }) t).now ≡ t.now) × (t.loose ≡ false → (cond b (record { now = t.now; loose = false; before = t.before; torn = t.torn }) t).loose ≡ false)
      by true = (refl, λ l. refl)
      by false = (refl, λ l. l)
  step_own (removed path) (part, ne) t =
      let same : cond (bytes_eq own path) (changed None false t) t ≡ t = ap (λ (b : Bool). cond b (changed None false t) t) (other path ne) in
      (ap (λ (u : Traces). u.now) same, λ l. ap (λ (u : Traces). u.loose) same ∙ l)
  step_own (moved from to file loose) (part, ne, nt, tight, is, at) t =
      let same : cond (bytes_eq own to) (changed (Some file) loose t) (cond (bytes_eq own from) (changed None false t) t) ≡ t =
      ap (λ (b : Bool). cond b (changed (Some file) loose t) (cond (bytes_eq own from) (changed None false t) t)) (other to nt) ∙ ap (λ (b : Bool). cond b (changed None false t) t) (other from ne) in
      (ap (λ (u : Traces). u.now) same, λ l. ap (λ (u : Traces). u.loose) same ∙ l)
  step_own names_synced may t = (refl, λ l. l)

  step_seen : (e : Event) → MayDo whole own e → (q : List ℕ) (t : Traces)
      → (((after_event q t e).now ≡ t.now) ⊎ AreTheirs whole q (after_event q t e).now) × (t.loose ≡ false → ((after_event q t e).loose ≡ false) ⊎ IsAnyPart q)
  step_seen (put path file) (part, ne) q t = by (bytes_eq q path) refl
    where
      by : (b : Bool) → bytes_eq q path ≡ b
          → (((cond b (changed (Some file) true t) t).now ≡ t.now) ⊎ AreTheirs whole q (cond b (changed (Some file) true t) t).now) × (t.loose ≡ false → ((cond b (changed (Some file) true t) t).loose ≡ false) ⊎ IsAnyPart q)
      by true e = let is = subst IsAnyPart (sym ((bytes_eq-Decides q path).0 e)) part in (inr (inl is), λ l. inr is)
      by false e = (inl refl, λ l. inl l)
  step_seen (synced path) may q t = by (bytes_eq q path)
    where
      by : (b : Bool) → (((cond b (record { now = t.now; loose = false; before = t.before; torn = t.torn }) t).now ≡ t.now) ⊎ AreTheirs whole q (cond b (record { now = t.now; loose = false; before = t.before; torn = t.torn }) t).now)
          × (t.loose ≡ false → ((cond b (record { now = t.now; loose = false; before = t.before; torn = t.torn }) t).loose ≡ false) ⊎ IsAnyPart q)
      by true = (inl refl, λ l. inl refl)
      by false = (inl refl, λ l. inl l)
  step_seen (removed path) (part, ne) q t = by (bytes_eq q path) refl
    where
      by : (b : Bool) → bytes_eq q path ≡ b
          → (((cond b (changed None false t) t).now ≡ t.now) ⊎ AreTheirs whole q (cond b (changed None false t) t).now) × (t.loose ≡ false → ((cond b (changed None false t) t).loose ≡ false) ⊎ IsAnyPart q)
      by true e = let is = subst IsAnyPart (sym ((bytes_eq-Decides q path).0 e)) part in (inr (inl is), λ l. inr is)
      by false e = (inl refl, λ l. inl l)
  step_seen (moved from to file loose) (part, ne, nt, tight, is, (folder, at)) q t = by (bytes_eq q to) refl (bytes_eq q from) refl
    where
      by : (b : Bool) → bytes_eq q to ≡ b → (c : Bool) → bytes_eq q from ≡ c
          → (((cond b (changed (Some file) loose t) (cond c (changed None false t) t)).now ≡ t.now) ⊎ AreTheirs whole q (cond b (changed (Some file) loose t) (cond c (changed None false t) t)).now)
          × (t.loose ≡ false → ((cond b (changed (Some file) loose t) (cond c (changed None false t) t)).loose ≡ false) ⊎ IsAnyPart q)
      by true e c f = (inr (inr (folder, file, (bytes_eq-Decides q to).0 e ∙ at, is, refl)), λ l. inl tight)
      by false e true f = let here = subst IsAnyPart (sym ((bytes_eq-Decides q from).0 f)) part in (inr (inl here), λ l. inr here)
      by false e false f = (inl refl, λ l. inl l)
  step_seen names_synced may q t = (inl refl, λ l. inl l)

  -- before any of them
  pub went_nowhere : (xs : List Step) → WentOn whole own xs xs
  went_nowhere xs = record {
    left = λ p v l. inl l;
    own_seen = refl;
    own_whole = λ w. w;
    seen = λ p. inl refl;
    is_whole = λ p w. inl w;
    since = λ t p v le l. inl l;
    less = λ t p v le l. l;
    later = omega arith;
  }

  -- one step more
  module _ (xs ys zs : List Step) (s : Step) (is : zs ≡ ys ++ s ∷ []) (may : MayDo whole own (event s)) (was : WentOn whole own xs ys) where
    on : (p : List ℕ) → state_of p begin zs ≡ after_event p (state_of p begin ys) (event s)
    on p = ap (λ l. state_of p begin l) is ∙ state_on p begin ys s

    step : (p : List ℕ) (v : Option Stored) → left_of zs p v → left_with whole ys p v
    step p v l = step_left (event s) may p (state_of p begin ys) v (subst (λ (t : Traces). MayLeave t v) (on p) l)

    left : (p : List ℕ) (v : Option Stored) → left_of zs p v → left_with whole xs p v
    left p v l = ⊎_elim (λ ours. was.left p v ours) (λ theirs. inr theirs) (step p v l)

    time : Elapses (length ys) (length zs) (since_of ys) (since_of zs) (left_of zs)
    time = elapses_on_step ys zs s is

    own_kept : ((after_event own (state_of own begin ys) (event s)).now ≡ (state_of own begin ys).now) × ((state_of own begin ys).loose ≡ false → (after_event own (state_of own begin ys) (event s)).loose ≡ false)
    own_kept = step_own (event s) may (state_of own begin ys)

    seen : (p : List ℕ) → (seen_of zs p ≡ seen_of xs p) ⊎ AreTheirs whole p (seen_of zs p)
    seen p = ⊎_elim (λ e. let same : seen_of zs p ≡ seen_of ys p = ap (λ (t : Traces). t.now) (on p) ∙ e in ⊎_elim (λ f. inl (same ∙ f)) (λ theirs. inr (subst (AreTheirs whole p) (sym same) theirs)) (was.seen p))
        (λ theirs. inr (subst (AreTheirs whole p) (sym (ap (λ (t : Traces). t.now) (on p))) theirs)) (step_seen (event s) may p (state_of p begin ys)).0

    still : (p : List ℕ) → is_whole_of ys p → is_whole_of zs p ⊎ IsAnyPart p
    still p w = ⊎_elim (λ l. inl (ap (λ (t : Traces). t.loose) (on p) ∙ l)) (λ part. inr part) ((step_seen (event s) may p (state_of p begin ys)).1 w)

    since : (t : ℕ) (p : List ℕ) (v : Option Stored) → t ≤ length xs → since_of zs t p v → since_with whole xs t p v
    since t p v le l = ⊎_elim (λ past. was.since t p v le past)
        (λ now. ⊎_elim (λ ours. inl (earlier_of xs t (length xs) p v le (from_now_of xs p v ours))) (λ theirs. inr theirs) (left p v now))
        (time.nothing_else t p v (omega (arith, le, was.later)) l)

    pub went_on : WentOn whole own xs zs
    went_on = record {
      left = left;
      own_seen = ap (λ (t : Traces). t.now) (on own) ∙ own_kept.0 ∙ was.own_seen;
      own_whole = λ w. ap (λ (t : Traces). t.loose) (on own) ∙ own_kept.1 (was.own_whole w);
      seen = seen;
      is_whole = λ p w. ⊎_elim (λ here. still p here) (λ part. inr part) (was.is_whole p w);
      since = since;
      less = λ t p v le l. time.nothing_less t p v (omega (arith, le, was.later)) (was.less t p v le l);
      later = omega (arith, was.later, time.later);
    }

-- a step of theirs, if it happened
pub passed : (whole : Stored → Type 0) (own : List ℕ) (xs ys zs : List Step) (s : Step) → IsPassed ys zs s → MayDo whole own (event s) → WentOn whole own xs ys → WentOn whole own xs zs
passed whole own xs ys zs s (inl same) may was = subst (WentOn whole own xs) (sym same) was
passed whole own xs ys zs s (inr is) may was = went_on whole own xs ys zs s is may was

-- one's own call after what others did
module _ {whole : Stored → Type 0} {own : List ℕ} {xs ys : List Step} (went : WentOn whole own xs ys) where
  pub no_more_with : (zs : List Step) → NoMore (left_of ys) (left_of zs) → NoMore (left_with whole xs) (left_with whole zs)
  no_more_with zs less p v = ⊎_elim (λ l. went.left p v (less p v l)) (λ theirs. inr theirs)

  pub no_more_but_with : (path : List ℕ) (zs : List Step) → NoMoreBut path (left_of ys) (left_of zs) → NoMoreBut path (left_with whole xs) (left_with whole zs)
  no_more_but_with path zs less p v ne = ⊎_elim (λ l. went.left p v (less p v ne l)) (λ theirs. inr theirs)

  pub no_more_created_with : (b : Bool) (path : List ℕ) (zs : List Step) → NoMoreCreated b path (left_of ys) (left_of zs) → NoMoreCreated b path (left_with whole xs) (left_with whole zs)
  no_more_created_with true path zs less = no_more_but_with path zs less
  no_more_created_with false path zs less = no_more_with zs less

  pub made_with : (path : List ℕ) (zs : List Step) (r : Result Bool CallFailed) → MatchResult r (λ made. NoMoreCreated made path (left_of ys) (left_of zs)) (λ _. NoMore (left_of ys) (left_of zs))
      → MatchResult r (λ made. NoMoreCreated made path (left_with whole xs) (left_with whole zs)) (λ _. NoMore (left_with whole xs) (left_with whole zs))
  made_with path zs (Ok made) less = no_more_created_with made path zs less
  made_with path zs (Err e) less = no_more_with zs less

  pub cleared_with : (folder : List ℕ) (zs : List Step) → NoMore (OldOrCleared folder (left_of ys)) (left_of zs) → NoMore (OldOrCleared folder (left_with whole xs)) (left_with whole zs)
  cleared_with folder zs less p v = ⊎_elim (λ l. ⊎_elim (λ was. inl (went.left p v was)) (λ gone. inr gone) (less p v l)) (λ theirs. inl (inr theirs))

  pub renamed_with : (from to : List ℕ) (zs : List Step) → own ≡ from
      → NoMoreRenamed from to (seen_of ys from) (is_whole_of ys from) (left_of ys) (left_of zs) → NoMoreRenamed from to (seen_of xs from) (is_whole_of xs from) (left_with whole xs) (left_with whole zs)
  renamed_with from to zs is less = record {
    there = λ w v. ⊎_elim (λ l. ⊎_elim (λ was. inl (went.left to v was)) (λ file. inr (file ∙ subst (λ (q : List ℕ). seen_of ys q ≡ seen_of xs q) is went.own_seen)) (less.there (subst (λ (q : List ℕ). is_whole_of xs q → is_whole_of ys q) is went.own_whole w) v l)) (λ theirs. inl (inr theirs));
    others = λ p v nf nt. ⊎_elim (λ l. went.left p v (less.others p v nf nt l)) (λ theirs. inr theirs);
  }

  pub time_with : (zs : List Step) (last more : Outcomes) → Elapses (length ys) (length zs) (since_of ys) (since_of zs) last → ((p : List ℕ) (v : Option Stored) → last p v → more p v)
      → Elapses (length xs) (length zs) (since_with whole xs) (since_with whole zs) more
  time_with zs last more e less = record {
    later = omega (arith, went.later, e.later);
    nothing_else = λ t p v le. ⊎_elim (λ l. ⊎_elim (λ past. inl (went.since t p v le past)) (λ now. inr (less p v now)) (e.nothing_else t p v (omega (arith, le, went.later)) l)) (λ theirs. inl (inr theirs));
    nothing_less = λ t p v le. ⊎_elim (λ l. inl (e.nothing_less t p v (omega (arith, le, went.later)) (went.less t p v le l))) (λ theirs. inr theirs);
  }

  -- after one's own name is let go
  pub time_let_go : (zs ws : List Step) → ws ≡ zs → Elapses (length ys) (length zs) (since_of ys) (since_of zs) (left_of zs) → Elapses (length xs) (length ws) (since_with whole xs) (since_with whole ws) (left_with whole ws)
  time_let_go zs ws same e = subst (λ us. Elapses (length xs) (length us) (since_with whole xs) (since_with whole us) (left_with whole us)) (sym same) (time_with zs _ _ e (λ p v l. inl l))

  pub last_with : (p : List ℕ) (zs : List Step) → (is_whole_of ys p → Always p (seen_of ys p) (left_of zs)) → is_whole_of xs p → (v : Option Stored) → left_with whole zs p v
      → (v ≡ seen_of xs p) ⊎ AreTheirs whole p v
  last_with p zs always w v = ⊎_elim (λ l. ⊎_elim (λ here. at (always here v l)) (λ part. inr (inl part)) (went.is_whole p w)) (λ theirs. inr theirs)
    where
      at : v ≡ seen_of ys p → (v ≡ seen_of xs p) ⊎ AreTheirs whole p v
      at e = ⊎_elim (λ same. inl (e ∙ same)) (λ theirs. inr (subst (AreTheirs whole p) (sym e) theirs)) (went.seen p)

-- what may be in the database's place
module _ (whole : Stored → Type 0) (folder bytes : List ℕ) (xs : List Step) where
  abbrev Target : List ℕ
  Target = path_in folder database_name

  pub theirs_there : (v : Option Stored) → AreTheirs whole Target v → (file : Stored) × whole file × (v ≡ Some file)
  theirs_there v (inl part) = absurd (database_is_no_part folder part)
  theirs_there v (inr (other, file, at, is, e)) = (file, is, e)

  pub old_ours_or_theirs : (v : Option Stored) → OldOrOurs folder bytes (left_with whole xs) Target v → OldOursOrTheirs whole (database_file bytes) (left_of xs Target) v
  old_ours_or_theirs v (inl (inl was)) = inl was
  old_ours_or_theirs v (inl (inr theirs)) = inr (inr (theirs_there v theirs))
  old_ours_or_theirs v (inr (inl ours)) = inr (inl ours.1)
  old_ours_or_theirs v (inr (inr part)) = absurd (database_is_no_part folder (folder, part))

  pub ours_or_theirs : (v : Option Stored) → (v ≡ Some (database_file bytes)) ⊎ AreTheirs whole Target v → OursOrTheirs whole (database_file bytes) v
  ours_or_theirs v (inl ours) = inl ours
  ours_or_theirs v (inr theirs) = inr (theirs_there v theirs)

  pub was_put : (start : ℕ) (file : Stored) → since_with whole xs start Target (Some file) → since_of xs start Target (Some file) ⊎ whole file
  was_put start file (inl left) = inl left
  was_put start file (inr theirs) = let theirs = theirs_there (Some file) theirs in inr (subst whole (sym (same_file file theirs.0 theirs.2)) theirs.1)
