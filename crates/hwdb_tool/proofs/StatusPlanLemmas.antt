-- What `status` asks, as its functions follow its plan.
use Rattle.std.proofs.Common.{◌≡◌, ◌∙◌, inl, inr, ap, sym, subst, false, true, Bool, List, None, Option, Some, Result, Ok, Err, ℕ, Vec, Global, option_map}
use Rattle.std.specs.Prelude.{is_some}
use Rattle.std.specs.Result.{IsErrAnd}
use Rattle.hwdb_spec.specs.Folders.{Source}
use Rattle.hwdb_spec.specs.System.{etc_files, usr_files}
use Rattle.hwdb_spec.specs.declared.errors.ToolError.TheVariants.{Memory}
use Rattle.hwdb_spec_commands.specs.Asked.{database_path}
use Rattle.hwdb_spec_commands.specs.Status.{ignored_paths}
use Rattle.hwdb_spec_commands.specs.StatusErrors.{IsNotCompiled}
use Rattle.hwdb_spec_commands.specs.Told.{IsReadTo, Reads, stop_of}
use Rattle.hwdb_spec_commands.specs.declared.refusals.Refusal.{Refusal}
use Rattle.hwdb_spec_commands.specs.declared.refusals.Refusal.TheVariants.{Plain}
use Rattle.hwdb_plan.specs.Folders.{Texts, texts_of_folders}
use Rattle.hwdb_plan.specs.Lemmas.Folders.{value_stops, value_then}
use Rattle.hwdb_plan.specs.Lemmas.Status.{ignored_reached, seen_reached}
use Rattle.hwdb_plan.specs.Plans.{End, Ends, Follows, Plan, ReachesValue}
use Rattle.hwdb_plan.specs.Plans.End.{Stops}
use Rattle.hwdb_plan.specs.Readable.{ReachesOf}
use Rattle.hwdb_plan.specs.Sides.{made_of, taken_from}
use Rattle.hwdb_plan.specs.Status.{InPlaces, Now, databases_of, ignored_below, ignored_of, in_places, made_if, made_now, now_of, seen_at}
use Rattle.hwdb_tool.specs.Statuses.{AreMadeOf, places}
use Rattle.hwdb_tool.proofs.SidePlanLemmas.{side_made}

module _ (w : Reads) where
  -- ---- ignored files
  module _ {Y V : Type 0} (names : Y → List (List ℕ)) (paths : V → List (List ℕ)) (root : List ℕ) where
    -- both folders were listed
    pub both_ignored : (etc usr : Y) (v : V) → IsReadTo names (w.ignored (etc_files root)) (etc_files root) (Ok etc) → IsReadTo names (w.ignored (usr_files root)) (usr_files root) (Ok usr)
        → paths v ≡ ignored_paths (names etc) (names usr) → ReachesValue paths w (ignored_below root) (Ok v)
    both_ignored etc usr v of_etc of_usr are = λ next e ends.
        ignored_reached w names (etc_files root) (Ok etc) of_etc (λ x. ignored_of (usr_files root) (λ y. next (ignored_paths x y))) e
        (ignored_reached w names (usr_files root) (Ok usr) of_usr (λ y. next (ignored_paths (names etc) y)) e (subst (λ (l : List (List ℕ)). Ends w (next l) e) are ends))

    -- or one wasn't
    pub first_ignored : (r : Refusal) (result : Result V Refusal) → IsReadTo names (w.ignored (etc_files root)) (etc_files root) (Err r) → IsErrAnd result (λ x. x ≡ r) → ReachesValue paths w (ignored_below root) result
    first_ignored r result told is =
        value_stops w names paths (ignored_of (etc_files root)) (λ x next. ignored_of (usr_files root) (λ y. next (ignored_paths x y))) r result (ignored_reached w names (etc_files root) (Err r) told) is

    pub second_ignored : (etc : Y) (r : Refusal) (result : Result V Refusal) → IsReadTo names (w.ignored (etc_files root)) (etc_files root) (Ok etc) → IsReadTo names (w.ignored (usr_files root)) (usr_files root) (Err r)
        → IsErrAnd result (λ x. x ≡ r) → ReachesValue paths w (ignored_below root) result
    second_ignored etc r result of_etc told is =
        value_then w names paths (ignored_of (etc_files root)) (λ x next. ignored_of (usr_files root) (λ y. next (ignored_paths x y))) etc result (ignored_reached w names (etc_files root) (Ok etc) of_etc)
        (value_stops w names paths (ignored_of (usr_files root)) (λ y next. next (ignored_paths (names etc) y)) r result (ignored_reached w names (usr_files root) (Err r) told) is)

  -- ---- the databases
  module _ {Y V : Type 0} (bytes : Y → Option (List ℕ)) (value : V → InPlaces) (root : List ℕ) where
    abbrev Second : Option (List ℕ) → (InPlaces → Plan) → Plan
    Second etc next = seen_at (database_path true root) (λ usr. next (in_places etc usr))

    -- that of /usr/lib was read
    pub second_seen : (etc : Option (List ℕ)) (usr : Y) (v : V) → IsReadTo bytes (w.database (database_path true root)) (database_path true root) (Ok usr) → value v ≡ in_places etc (bytes usr)
        → ReachesValue value w (Second etc) (Ok v)
    second_seen etc usr v told is = λ next e ends.
        seen_reached w bytes (database_path true root) (Ok usr) told (λ u. next (in_places etc u)) e (subst (λ (x : InPlaces). Ends w (next x) e) is ends)

    -- it can't be
    pub second_unseen : (etc : Option (List ℕ)) (r : Refusal) (result : Result V Refusal) → IsReadTo bytes (w.database (database_path true root)) (database_path true root) (Err r) → IsErrAnd result (λ x. x ≡ r)
        → ReachesValue value w (Second etc) result
    second_unseen etc r result told is =
        value_stops w bytes value (seen_at (database_path true root)) (λ u next. next (in_places etc u)) r result (seen_reached w bytes (database_path true root) (Err r) told) is

    -- that of /etc before it
    pub first_seen : (etc : Y) (found : Option (List ℕ)) (result : Result V Refusal) → IsReadTo bytes (w.database (database_path false root)) (database_path false root) (Ok etc) → bytes etc ≡ found
        → ReachesValue value w (Second found) result → ReachesValue value w (databases_of root) result
    first_seen etc found result told is rest =
        value_then w bytes value (seen_at (database_path false root)) Second etc result (seen_reached w bytes (database_path false root) (Ok etc) told)
        (subst (λ (o : Option (List ℕ)). ReachesValue value w (Second o) result) (sym is) rest)

    pub first_unseen : (r : Refusal) (result : Result V Refusal) → IsReadTo bytes (w.database (database_path false root)) (database_path false root) (Err r) → IsErrAnd result (λ x. x ≡ r)
        → ReachesValue value w (databases_of root) result
    first_unseen r result told is =
        value_stops w bytes value (seen_at (database_path false root)) Second r result (seen_reached w bytes (database_path false root) (Err r) told) is

  -- ---- what the text files make now
  module _ {S I V : Type 0} (texts : S → Texts) (paths : I → List (List ℕ)) (Is : V → Now → Type 0) (root : List ℕ) where
    abbrev Result' : Type 0
    Result' = Result V Refusal

    -- the text files can't be read
    pub texts_end : (r : Refusal) (result : Result') → ReachesValue texts w (texts_of_folders root) (Err r) → IsErrAnd result (λ x. x ≡ r) → ReachesOf Is w (made_now root) result
    texts_end r (Ok v) why is = absurd is
    texts_end r (Err x) (inl memory) is = inl (is ∙ memory)
    texts_end r (Err x) (inr ends) is =
        inr (λ next. subst (λ (y : Refusal). Ends w (made_now root next) (Stops (stop_of y))) (sym is) (ends (λ t. ignored_below root (λ ignored. made_if t ignored next))))

    module _ (s : S) (read : ReachesValue texts w (texts_of_folders root) (Ok s)) where
      -- a folder can't be listed
      pub ignored_end : (r : Refusal) (result : Result') → ReachesValue paths w (ignored_below root) (Err r) → IsErrAnd result (λ x. x ≡ r) → ReachesOf Is w (made_now root) result
      ignored_end r (Ok v) why is = absurd is
      ignored_end r (Err x) (inl memory) is = inl (is ∙ memory)
      ignored_end r (Err x) (inr ends) is = inr (λ next.
          read (λ t. ignored_below root (λ ignored. made_if t ignored next)) (Stops (stop_of x))
          (subst (λ (y : Refusal). Ends w (ignored_below root (λ ignored. made_if (texts s) ignored next)) (Stops (stop_of y))) (sym is) (ends (λ ignored. made_if (texts s) ignored next))))

      module _ (i : I) (ignored : ReachesValue paths w (ignored_below root) (Ok i)) where
        abbrev TakenEtc : List Source
        TakenEtc = taken_from true (texts s).chosen (texts s).texts

        abbrev TakenUsr : List Source
        TakenUsr = taken_from false (texts s).chosen (texts s).texts

        -- they are too much for a database
        pub uncompiled_end : (r : Refusal) (result : Result') → IsNotCompiled TakenEtc TakenUsr r → IsErrAnd result (λ x. x ≡ r) → ReachesOf Is w (made_now root) result
        uncompiled_end r (Ok v) why is = absurd is
        uncompiled_end r (Err x) why is = by (side_made w TakenEtc TakenUsr (Err r) tt why)
          where
            by : ReachesValue (λ (v : Vec ℕ Global). v.items) w (made_of TakenEtc TakenUsr) (Err r) → ReachesOf Is w (made_now root) (Err x)
            by (inl memory) = inl (is ∙ memory)
            by (inr ends) = inr (λ next.
                read (λ t. ignored_below root (λ l. made_if t l next)) (Stops (stop_of x)) (ignored (λ l. made_if (texts s) l next) (Stops (stop_of x))
                (subst (λ (y : Refusal). Ends w (made_if (texts s) (paths i) next) (Stops (stop_of y))) (sym is) (ends (λ bytes. next (now_of (texts s) (paths i) TakenEtc TakenUsr bytes))))))

        -- they make one
        pub made_end : (bytes : List ℕ) (v : V) → AreMadeOf TakenEtc TakenUsr bytes → Is v (now_of (texts s) (paths i) TakenEtc TakenUsr bytes) → ReachesOf Is w (made_now root) (Ok v)
        unfolding Ends
        made_end bytes v made is = (
          now_of (texts s) (paths i) TakenEtc TakenUsr bytes,
          is,
          λ next e ends. read (λ t. ignored_below root (λ l. made_if t l next)) e (ignored (λ l. made_if (texts s) l next) e
              (inl (bytes, record { accepted = made.accepted; written = made.written; sound = made.database; within = made.within }, ends))),
        )

    -- there was no memory
    pub memory_end : (result : Result') → IsErrAnd result (λ r. r ≡ Plain Memory) → ReachesOf Is w (made_now root) result
    memory_end (Ok v) is = absurd is
    memory_end (Err r) is = inl is

  -- ---- what follows a front
  -- the result follows what comes of its value
  pub of_goes : {X Y V : Type 0} (Is : Y → X → Type 0) (end_of : V → End) (p : (X → Plan) → Plan) (next : X → Plan) (y : Y) (result : Result V Refusal) → ReachesOf Is w p (Ok y)
      → ((x : X) → Is y x → Follows end_of w (next x) result) → Follows end_of w (p next) result
  of_goes Is end_of p next y (Ok v) (x, is, goes) follows = goes next (end_of v) (follows x is)
  of_goes Is end_of p next y (Err r) (x, is, goes) follows = by (follows x is)
    where
      by : Follows end_of w (next x) (Err r) → Follows end_of w (p next) (Err r)
      by (inl memory) = inl memory
      by (inr ends) = inr (goes next (Stops (stop_of r)) ends)

  -- its error is the result
  pub of_stops : {X Y V : Type 0} (Is : Y → X → Type 0) (end_of : V → End) (p : (X → Plan) → Plan) (next : X → Plan) (r : Refusal) (result : Result V Refusal) → ReachesOf Is w p (Err r) → IsErrAnd result (λ x. x ≡ r)
      → Follows end_of w (p next) result
  of_stops Is end_of p next r (Ok v) why is = absurd is
  of_stops Is end_of p next r (Err x) (inl memory) is = inl (is ∙ memory)
  of_stops Is end_of p next r (Err x) (inr ends) is = inr (subst (λ (y : Refusal). Ends w (p next) (Stops (stop_of y))) (sym is) (ends next))

-- ---- as the functions hold it
abbrev pub held_in : Option (Vec ℕ Global) → Option (List ℕ)
held_in o = option_map (λ b. b.items) o

-- there is none of /etc
pub usr_places : (o : Option (Vec ℕ Global)) (b : Bool) → b ≡ is_some o → places false b (held_in o) None ≡ in_places None (held_in o)
usr_places None b is = ap (λ (u : Bool). places false u None None) is
usr_places (Some v) b is = ap (λ (u : Bool). places false u (Some v.items) None) is

-- there is one
pub etc_places : (bytes : List ℕ) (o : Option (Vec ℕ Global)) (b : Bool) → b ≡ is_some o → places true b (Some bytes) (held_in o) ≡ in_places (Some bytes) (held_in o)
etc_places bytes None b is = ap (λ (u : Bool). places true u (Some bytes) None) is
etc_places bytes (Some v) b is = ap (λ (u : Bool). places true u (Some bytes) (Some v.items)) is
