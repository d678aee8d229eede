-- What a crash may leave after a few calls, computed.
use Rattle.std.proofs.Common.{◌≡◌, ◌≢◌, inl, inr, ℕ, suc, Bool, true, false, cond, ◌||◌, ◌&&◌, bytes_eq, List, [], ◌∷◌, ◌++◌, Option, Some, None, Contains, refl, sym, ap, ◌∙◌, subst, arith}
use Rattle.std.proofs.lemmas.Slice.Eq.{bytes_eq-Decides}
use Rattle.hwdb_spec.specs.Crashes.{put, Traces, MayLeave, begin, changed, after_event, after_events}
use Rattle.hwdb_spec.specs.Store.{Stored}
use Rattle.hwdb_replace.specs.Laws.{left_renamed, left_unsynced, part_file, UnsyncedFilesTear, RenamesComeUndone}

one : (p : List ℕ) → bytes_eq p p ≡ true
one p = (bytes_eq-Decides p p).1 refl

or_true : (b : Bool) → (b || true) ≡ true
or_true true = refl
or_true false = refl

-- a change under a path by a test
by_test : (p : List ℕ) (file : Stored) (s : Traces) → after_event p s (put p file) ≡ changed (Some file) true s
by_test p file s = ap (λ b. cond b (changed (Some file) true s) s) (one p)

torn : (path bytes : List ℕ) → (after_events path begin (put path (part_file []) ∷ (put path (part_file bytes) ∷ []))).torn ≡ true
torn path bytes = ap (λ (t : Traces). t.torn) (by_test path (part_file bytes) (after_event path begin (put path (part_file [])))) ∙ or_true _

any : (path bytes : List ℕ) (v : Option Stored) → left_unsynced path bytes v
any path bytes v = inr (inr (torn path bytes))

pub unsynced_files_tear : UnsyncedFilesTear
unsynced_files_tear = record {
  first = λ path a b. any path (a ∷ (b ∷ [])) (Some (part_file (a ∷ [])));
  neither = λ path a b. any path (a ∷ (b ∷ [])) (Some (part_file []));
  missing = λ path a b. any path (a ∷ (b ∷ [])) None;
}

last_member : (vs : List (Option Stored)) (v : Option Stored) → Contains (vs ++ v ∷ []) v
last_member [] v = (0, omega arith, refl)
last_member (w ∷ vs) v = let rest = last_member vs v in (suc rest.0, omega (arith, rest.1), rest.2)

apart : (p q : List ℕ) → p ≢ q → bytes_eq p q ≡ false
apart p q ne = by (bytes_eq p q) refl
  where
    by : (b : Bool) → bytes_eq p q ≡ b → bytes_eq p q ≡ false
    by true is = absurd (ne ((bytes_eq-Decides p q).0 is))
    by false is = is

-- what is under the second path then, by whether a path is itself, and whether it is the first one
trace : (b c : Bool) (old new : Stored) → Traces
trace b c old new =
    let put_old : Traces = cond b (changed (Some old) true begin) begin in
    let sync_old : Traces = cond b (record { now = put_old.now; loose = false; before = put_old.before; torn = put_old.torn }) put_old in
    let names : Traces = record { now = sync_old.now; loose = sync_old.loose; before = []; torn = sync_old.torn && sync_old.loose } in
    let put_new : Traces = cond c (changed (Some new) true names) names in
    let sync_new : Traces = cond c (record { now = put_new.now; loose = false; before = put_new.before; torn = put_new.torn }) put_new in
    cond b (changed (Some new) false sync_new) (cond c (changed None false sync_new) sync_new)

by_tests : (from to : List ℕ) (old new : Stored) (v : Option Stored) → from ≢ to → MayLeave (trace true false old new) v → left_renamed from to old new v
unfolding trace
by_tests from to old new v ne may =
    let b : (c : Bool) → MayLeave (trace true c old new) v → MayLeave (trace (bytes_eq to to) c old new) v =
    λ c. subst (λ b. MayLeave (trace b c old new) v) (sym (one to)) in
    b (bytes_eq to from) (subst (λ c. MayLeave (trace true c old new) v) (sym (apart to from (λ e. ne (sym e)))) may)

pub renames_come_undone : RenamesComeUndone
unfolding trace
renames_come_undone = record {
  undone = λ from to old new ne. by_tests from to old new (Some old) ne (inr (inl (last_member [] (Some old))));
  done = λ from to old new ne. by_tests from to old new (Some new) ne (inl refl);
}
